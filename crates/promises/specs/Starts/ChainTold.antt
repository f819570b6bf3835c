-- What a chain is refused by, and where: 1, 2 or 3 of its numbers, 3 of bytes left over, in the file or just behind it; then 15 by an index in 1..8. Of any
-- bytes. Relies on page Faults, for the form's parts. Which refusal it is the definition `on_chain` says.
use Rattle.std.specs.Prelude.{ℕ, ◌+◌, ◌*◌, ◌≤◌, ◌≡◌, refl, false, List, [], ◌∷◌, ℤ, length}
use Rattle.std.proofs.Common.{arith}
use Rattle.laws.specs.Every as E
use Rattle.laws.specs.Lists.{tab, all, first_false}
use Rattle.laws.specs.Tabs.{length-tab}
use Rattle.meaning.specs.declared.Refusal.{Refusal}
use Rattle.meaning.specs.Boxes.{Side}
use Rattle.meaning.specs.Files.{end, read, refused, values_at, values_of}
use Rattle.meaning.specs.Plants.{edge_limit, from, span, times}
use Rattle.meaning.specs.Refusals.{not_held}
use Rattle.meaning.specs.Starts as S
use Rattle.meaning.specs.Starts.{chain_form, above, held}
use Rattle.promises.specs.Sheets.Faults as F
use Rattle.promises.specs.Sheets.Faults.{Tells, ReadTells, values-tell, ended-tells, end-tells, times-tell, counted-tells, span-tells, read_told}
use Rattle.promises.specs.Files.Firsts.{false-inside}
use Rattle.promises.specs.Files.Telling.{Telling, told-by}
use Rattle.promises.specs.Starts.Chains.{chain-few}
use Rattle.promises.specs.Starts.Rows.{start_places, StartTelling}

-- those of the values, and of bytes left over
abbrev pub chain_numbers : List ℕ
chain_numbers = 1 ∷ 2 ∷ 3 ∷ []

-- and 15 behind them
abbrev pub early_numbers : List ℕ
early_numbers = 15 ∷ chain_numbers

form-tells : (n size : ℕ) → Tells chain_numbers size (chain_form n)
unfolding F.Tells S.chain_form
form-tells n size = (
  λ at l. record { number = refl; place = refl; step = refl },
  λ form. counted-tells chain_numbers size refl (from 0 8) (λ m. times (m * n) (span edge_limit) end)
      (λ m. times-tell chain_numbers size refl (m * n) (span edge_limit) (span-tells chain_numbers size refl edge_limit) end (end-tells chain_numbers size refl)),
)

module _ (n : ℕ) (s : List ℕ) where
  chain-tells : ReadTells chain_numbers (length s) (values_at (chain_form n) s 0)
  chain-tells = values-tell chain_numbers s refl refl (chain_form n) (form-tells n (length s)) 0 (omega arith)

  -- each of these numbers has a byte for its place, 2 the first
  chain-places : (e : Refusal) → Telling chain_numbers (length s) e → StartTelling chain_numbers (length s) e
  unfolding E.Every
  chain-places e t = told-by t start_places (length s) ((λ p h. h), ((λ p h. omega arith), ((λ p h. h), tt)))

  -- a start file's beginning
  pub chain-told : (e : Refusal) → values_at (chain_form n) s 0 ≡ refused e → StartTelling chain_numbers (length s) e
  chain-told e q = chain-places e (read_told chain_numbers (length s) (values_at (chain_form n) s 0) chain-tells e q)

  -- a chain with nothing behind it
  pub whole-told : (e : Refusal) → values_of (chain_form n) s ≡ refused e → StartTelling chain_numbers (length s) e
  whole-told e q =
      chain-places e (read_told chain_numbers (length s) (values_of (chain_form n) s) (ended-tells chain_numbers s refl refl (values_at (chain_form n) s 0) chain-tells) e q)

  -- what was read ends in the file
  pub chain-inside : (vs : List ℤ) (next : ℕ) → values_at (chain_form n) s 0 ≡ read vs next → next ≤ length s
  chain-inside vs next e = rw e at chain-tells

  -- 15
  pub held-told : (root safe : List Side) (vs : List ℤ) (next : ℕ) → values_at (chain_form n) s 0 ≡ read vs next
      → all (tab (held n root vs safe) (above vs) 0) ≡ false → StartTelling (15 ∷ []) (length s) (not_held (first_false (tab (held n root vs safe) (above vs) 0) + 1))
  held-told root safe vs next e f =
      let kept = tab (held n root vs safe) (above vs) 0 in
      let few = chain-few n vs s next e in
      record {
        number = refl;
        place = (omega arith, omega (arith, false-inside kept f, length-tab (held n root vs safe) (above vs) 0));
        step = refl;
      }
