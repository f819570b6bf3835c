-- What is told of a table has its place in it, where that is a byte: so it can be moved to the file that the table stands in. Assumes nothing.
use Rattle.std.specs.Prelude.{Ok, Err}
use Prim.Native.Nat.{ℕ, zero, suc, ◌≤◌}
use mathlib.Core.Path.{◌≡◌, refl}
use mathlib.Core.Bool.{true}
use mathlib.Core.List.{List}
use native.Mathlib.Omega.{arith}
use lib.Dec.{eqb}
use lib.ListN.{length, get_or}
use Rattle.laws.specs.Tests.{never}
use Rattle.meaning.specs.Answers.{Walk, Found, Answer}
use Rattle.meaning.specs.declared.Refusal.{Refusal}
use Rattle.meaning.specs.declared.State.{State}
use Rattle.meaning.specs.Control as C
use Rattle.meaning.specs.Control.{state_at, mode_at, on_found, can_run, find, inside, state_call, call}
use Rattle.meaning.specs.Refusals.{at_byte}
use Rattle.meaning.specs.Rules.{Rules, holds}
use Rattle.meaning.specs.Verdicts.{header, table_end}
use Rattle.promises.specs.Files.Telling.{none, places, PlaceIs, Telling, guard-keeps}
use Rattle.promises.specs.Paper.Told.{checker_numbers, controller_numbers, end-tells}
use Rattle.promises.specs.Tables.WalkTold.{number-keeps, WalkTells, FoundTells, walk-keeps, header-tells, find-tells}

abbrev pub Inside : ℕ → Refusal → Type 0
Inside size e = at_byte e.number ≡ true → e.place ≤ size

-- by the column of places
in-column : (k size p : ℕ) → PlaceIs (get_or places k none) size p → at_byte k ≡ true → p ≤ size
in-column zero size p h e = never e
in-column (suc zero) size p h e = h
in-column (suc (suc zero)) size p h e = omega arith
in-column (suc (suc (suc zero))) size p h e = h
in-column (suc (suc (suc (suc zero)))) size p h e = never e
in-column (suc (suc (suc (suc (suc zero))))) size p h e = never e
in-column (suc (suc (suc (suc (suc (suc zero)))))) size p h e = h
in-column (suc (suc (suc (suc (suc (suc (suc zero))))))) size p h e = h
in-column (suc (suc (suc (suc (suc (suc (suc (suc zero)))))))) size p h e = h
in-column (suc (suc (suc (suc (suc (suc (suc (suc (suc zero))))))))) size p h e = never e
in-column (suc (suc (suc (suc (suc (suc (suc (suc (suc (suc zero)))))))))) size p h e = never e
in-column (suc (suc (suc (suc (suc (suc (suc (suc (suc (suc (suc zero))))))))))) size p h e = never e
in-column (suc (suc (suc (suc (suc (suc (suc (suc (suc (suc (suc (suc zero)))))))))))) size p h e = never e
in-column (suc (suc (suc (suc (suc (suc (suc (suc (suc (suc (suc (suc (suc zero))))))))))))) size p h e = h
in-column (suc (suc (suc (suc (suc (suc (suc (suc (suc (suc (suc (suc (suc (suc zero)))))))))))))) size p h e = never e
in-column (suc (suc (suc (suc (suc (suc (suc (suc (suc (suc (suc (suc (suc (suc (suc k))))))))))))))) size p h e = omega arith

told-inside : {numbers : List ℕ} {size : ℕ} {e : Refusal} → Telling numbers size e → Inside size e
told-inside {numbers} {size} {e} t = in-column e.number size e.place t.place

-- ---- the walk over a table

pub end-inside : (r : Rules) (s : List ℕ) → Rules.K r ≤ 6 → (e : Refusal) → table_end r s ≡ Err e → Inside (length s) e
end-inside r s most e q = go (table_end r s) q (end-tells r s most)
  where
    go : (w : Walk) → w ≡ Err e → WalkTells checker_numbers (length s) w → Inside (length s) e
    go (Ok m) q t = never cc
    go (Err x) q t = let same : x ≡ e = cc in rw same at (told-inside t)

-- ---- a call

module _ (r : Rules) (s : List ℕ) where
  abbrev AnswerInside : Answer → Type 0
  AnswerInside (Ok (u, then)) = Unit {0}
  AnswerInside (Err e) = Inside (length s) e

  mode-inside : (place left : ℕ) → AnswerInside (mode_at s place left)
  mode-inside place zero = λ h. never h
  mode-inside place (suc m) = number-keeps AnswerInside s place (λ u next. Ok (u, state_at next m)) (λ h. never h) (λ u next l. tt)

  found_inside : (f : Found) → FoundTells controller_numbers (length s) f → AnswerInside (on_found s f)
  found_inside (Err e) h = told-inside h
  found_inside (Ok (from, k)) h = mode-inside from k

  module _ (x : Rules.Reading r) where
    in-box : (b : Rules.Box r) (rest : Unit {0} → Answer) → AnswerInside (rest tt) → AnswerInside (inside r b x rest)
    in-box b rest h = guard-keeps AnswerInside (holds r b x) rest (λ e. λ h. never h) (λ _. h)

    state-inside : (at place left : ℕ) → at ≤ length s → AnswerInside (state_call r s at place left x)
    state-inside at place zero l =
        guard-keeps AnswerInside (eqb place 0) _ (λ _. λ h. never h)
        (λ _. in-box (Rules.root r) _ (found_inside (find r (Rules.D r) s at (Rules.root r) x) (find-tells controller_numbers s refl refl r x (Rules.D r) at (Rules.root r) l)))
    state-inside at place (suc m) l =
        guard-keeps AnswerInside (can_run (Rules.K r) (Rules.N r) s place (suc m)) _ (λ _. λ h. never h) (λ _. in-box (Rules.safe r) _ (mode-inside place (suc m)))

    called : (st : State) → AnswerInside (call r s st x)
    unfolding C.call
    called st =
        walk-keeps controller_numbers (length s) AnswerInside (header (Rules.form r) (Rules.n r) s) Err _ (header-tells controller_numbers s refl refl refl (Rules.form r) (Rules.n r)) (λ e t. told-inside t)
        (λ at l. state-inside at st.place st.left l)

    pub call-inside : (st : State) (e : Refusal) → call r s st x ≡ Err e → Inside (length s) e
    call-inside st e q = rw q at (called st)
