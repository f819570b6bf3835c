-- What the values of a file satisfy: every value that was read passed its field's test; and what that comes to for a part of a form that is
-- repeated. Relies on page Files, and on `times` of meaning's page Plants. Any form; how the values stand in the bytes is left out.
use Prim.Native.Nat.{ℕ, zero, suc, ◌+◌, ◌*◌, ◌<◌}
use Rattle.std.specs.Prelude.{◌≡◌, refl, true, List, ◌∷◌, ℤ}
use native.Mathlib.Omega.{arith}
use Rattle.std.proofs.Common.{add-one}
use Rattle.laws.specs.Lists.{at}
use Rattle.meaning.specs.Files.{Form, end, field, read, values_at}
use Rattle.meaning.specs.Plants as P
use Rattle.meaning.specs.Plants.{times}
use Rattle.promises.specs.Files.Files.{field-read}

-- the values from i on are right for a form
unfoldable pub Right : Form → List ℤ → ℕ → Type 0
Right end vs i = Unit {0}
Right (field f rest) vs i = (f.right (at vs i) ≡ true) × Right (rest (at vs i)) vs (i + 1)

later : (form : Form) (v : ℤ) (vs : List ℤ) (i : ℕ) → Right form vs i → Right form (v ∷ vs) (i + 1)
unfolding Right
later end v vs i h = tt
later (field f rest) v vs i h =
    let e : at (v ∷ vs) (i + 1) ≡ at vs i = rw add-one refl in
    rw e (h.0, later (rest (at vs i)) v vs (i + 1) h.1)

-- ---- read values are right

pub values-right : (form : Form) (s : List ℕ) (i : ℕ) (vs : List ℤ) (next : ℕ) → values_at form s i ≡ read vs next → Right form vs 0
unfolding Right
values-right end s i vs next e = tt
values-right (field f rest) s i vs next e =
    let w = field-read f rest s i e in
    let v = w.value in
    rw w.values (w.right, later (rest v) v w.others 0 (values-right (rest v) s w.mid w.others next w.behind))

-- ---- a part that is repeated, of c values that are as Q says: m of them, and what comes behind them

module _ (vs : List ℤ) (part : Form → Form) (c : ℕ) (Q : ℕ → Type 0) (one : (rest : Form) (i : ℕ) → Right (part rest) vs i → Q i × Right rest vs (i + c)) where
  pub times-right : (m : ℕ) (rest : Form) (i : ℕ) → Right (times m part rest) vs i → ((t : ℕ) → t < m → Q (i + c * t)) × Right rest vs (i + c * m)
  unfolding P.times
  times-right zero rest i h = let e : i + c * 0 ≡ i = omega arith in (λ t l. absurd (omega arith), rw e h)
  times-right (suc m) rest i h =
      let w = one (times m part rest) i h in
      let more = times-right m rest (i + c) w.1 in
      let e : i + c * suc m ≡ i + c + c * m = omega arith in
      (λ t l. each t l w.0 more.0, rw e more.1)
    where
      each : (t : ℕ) → t < suc m → Q i → ((t : ℕ) → t < m → Q (i + c + c * t)) → Q (i + c * t)
      each zero l q more = let e : i + c * 0 ≡ i = omega arith in rw e q
      each (suc t) l q more = let e : i + c * suc t ≡ i + c + c * t = omega arith in rw e (more t (omega arith))
