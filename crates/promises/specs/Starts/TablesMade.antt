-- The defined tables of m boxes, from box i's on, one behind another (`tables_from` of meaning's page Starts): all of them, exactly where each box has one; else 9
-- with the first box that has none. Over any rules of each box. Relies on page Made: a defined table is refused by 9 alone. That none is accepted where none
-- is defined is page Maker.
use Prim.Native.Nat.{ℕ, zero, suc, ◌+◌, ◌≤◌, ◌<◌}
use Rattle.std.specs.Prelude.{◌≡◌, length, get_or}
use Rattle.std.proofs.Math.Path.{refl, sym}
use Rattle.std.proofs.Common.{ap, ◌∙◌}
use mathlib.Core.List.{List, [], ◌∷◌}
use native.Mathlib.Omega.{arith}
use Rattle.std.proofs.Math.Decide.{dec_lt}
use Rattle.laws.specs.Tests.{never}
use Rattle.meaning.specs.declared.Refusal.{Refusal}
use Rattle.meaning.specs.Files.{Judged, good, bad}
use Rattle.meaning.specs.Refusals.{no_table}
use Rattle.meaning.specs.Rules.{Rules}
use Rattle.meaning.specs.Starts as S
use Rattle.meaning.specs.Starts.{table_with, table_before, tables_from}
use Rattle.meaning.specs.Tables.{defined_table}
use Rattle.promises.specs.Tables.Made.{only-nine}

-- of m boxes from i on, k is the first that has none
pub record NoneAt (r : ℕ → Rules) (m i k : ℕ) : Type 0 where
  pub from : i ≤ k
  pub to : k < i + m
  pub none : defined_table k (r k) ≡ bad (no_table k)
  pub before : (j : ℕ) → i ≤ j → j < k → (t : List ℕ) × (defined_table j (r j) ≡ good t)

-- a table was made, and those behind it
with-good : (t : List ℕ) (o : Judged (List (List ℕ))) (ts : List (List ℕ)) → table_with t o ≡ good ts → (us : List (List ℕ)) × (o ≡ good us) × (ts ≡ t ∷ us)
with-good t (good us) ts e = (us, refl, cc)
with-good t (bad f) ts e = never cc

with-bad : (t : List ℕ) (o : Judged (List (List ℕ))) (f : Refusal) → table_with t o ≡ bad f → o ≡ bad f
with-bad t (good us) f e = never cc
with-bad t (bad g) f e = cc

module _ (r : ℕ → Rules) where
  -- each has one, and these are they
  abbrev pub Each : ℕ → ℕ → List (List ℕ) → Type 0
  Each m i ts = (length ts ≡ m) × ((k : ℕ) → k < length ts → defined_table (i + k) (r (i + k)) ≡ good (get_or ts k []))

  pub all_made : (m i : ℕ) (ts : List (List ℕ)) → tables_from r m i ≡ good ts → Each m i ts
  unfolding S.tables_from
  all_made zero i ts e = let z : ts ≡ [] = cc in rw z (refl, λ k l. absurd (omega arith))
  all_made (suc m) i ts e = go (defined_table i (r i)) refl e (λ us q. all_made m (suc i) us q)
    where
      each : (t : List ℕ) (us : List (List ℕ)) → defined_table i (r i) ≡ good t → Each m (suc i) us → (k : ℕ) → k < suc (length us)
          → defined_table (i + k) (r (i + k)) ≡ good (get_or (t ∷ us) k [])
      each t us q h zero l = let z : i + 0 ≡ i = omega arith in rw z q
      each t us q h (suc k) l = let z : i + suc k ≡ suc i + k = omega arith in rw z (h.1 k (omega arith))

      go : (j : Judged (List ℕ)) → defined_table i (r i) ≡ j → table_before j (λ _. tables_from r m (suc i)) ≡ good ts
          → ((us : List (List ℕ)) → tables_from r m (suc i) ≡ good us → Each m (suc i) us) → Each (suc m) i ts
      go (bad f) q e later = never cc
      go (good t) q e later =
          let w = with-good t (tables_from r m (suc i)) ts e in
          let h = later w.0 w.1 in
          rw w.2 (ap suc h.0, each t w.0 q h)

  pub each-made : (m i : ℕ) (ts : List (List ℕ)) → Each m i ts → tables_from r m i ≡ good ts
  unfolding S.tables_from
  each-made zero i [] h = refl
  each-made zero i (t ∷ ts) h = absurd (omega (arith, h.0))
  each-made (suc m) i [] h = absurd (omega (arith, h.0))
  each-made (suc m) i (t ∷ ts) h =
      let z : i + 0 ≡ i = omega arith in
      let one : defined_table i (r i) ≡ good t = rw z at (h.1 0 (omega arith)) in
      let others = each-made m (suc i) ts (omega (arith, h.0), λ k l. let q : suc i + k ≡ i + suc k = omega arith in rw q (h.1 (suc k) (omega arith))) in
      rw (one, others) refl

  -- what is refused is refused by 9
  pub only-nines : (m i : ℕ) (f : Refusal) → tables_from r m i ≡ bad f → (k : ℕ) × (f ≡ no_table k)
  unfolding S.tables_from
  only-nines zero i f e = never cc
  only-nines (suc m) i f e = go (defined_table i (r i)) refl e (λ q. only-nines m (suc i) f q)
    where
      go : (j : Judged (List ℕ)) → defined_table i (r i) ≡ j → table_before j (λ _. tables_from r m (suc i)) ≡ bad f
          → (tables_from r m (suc i) ≡ bad f → (k : ℕ) × (f ≡ no_table k)) → (k : ℕ) × (f ≡ no_table k)
      go (bad g) q e later = let z : g ≡ f = cc in (i, sym z ∙ only-nine i (r i) g q)
      go (good t) q e later = later (with-bad t (tables_from r m (suc i)) f e)

  pub first-none : (m i k : ℕ) → tables_from r m i ≡ bad (no_table k) → NoneAt r m i k
  unfolding S.tables_from
  first-none zero i k e = never cc
  first-none (suc m) i k e = go (defined_table i (r i)) refl e (λ q. first-none m (suc i) k q)
    where
      here : defined_table i (r i) ≡ bad (no_table i) → i ≡ k → NoneAt r (suc m) i k
      here q z = rw (← z) (record { from = omega arith; to = omega arith; none = q; before = λ j l h. absurd (omega arith) })

      go : (j : Judged (List ℕ)) → defined_table i (r i) ≡ j → table_before j (λ _. tables_from r m (suc i)) ≡ bad (no_table k)
          → (tables_from r m (suc i) ≡ bad (no_table k) → NoneAt r m (suc i) k) → NoneAt r (suc m) i k
      go (bad f) q e later =
          let z = only-nine i (r i) f q in
          let y : f ≡ no_table k = cc in
          here (q ∙ ap bad z) (ap (λ (g : Refusal). g.place) (sym z ∙ y))
      go (good t) q e later =
          let w = later (with-bad t (tables_from r m (suc i)) (no_table k) e) in
          record { from = omega (arith, w.from); to = omega (arith, w.to); none = w.none; before = λ j l h. each j l h (dec_lt i j) w.before }
        where
          each : (j : ℕ) → i ≤ j → j < k → Dec (i < j) → ((j : ℕ) → suc i ≤ j → j < k → (t : List ℕ) × (defined_table j (r j) ≡ good t))
              → (t : List ℕ) × (defined_table j (r j) ≡ good t)
          each j l h (yes a) b = b j a h
          each j l h (no a) b = let z : j ≡ i = omega arith in (t, rw z q)

  pub none_first : (m i k : ℕ) → NoneAt r m i k → tables_from r m i ≡ bad (no_table k)
  unfolding S.tables_from
  none_first zero i k h = absurd (omega (arith, h.from, h.to))
  none_first (suc m) i k h = go (dec_lt i k) (λ a. none_first m (suc i) k a)
    where
      go : Dec (i < k) → (NoneAt r m (suc i) k → tables_from r m (suc i) ≡ bad (no_table k)) → table_before (defined_table i (r i)) (λ _. tables_from r m (suc i)) ≡ bad (no_table k)
      go (no a) later = let z : i ≡ k = omega (arith, h.from) in let q : defined_table i (r i) ≡ bad (no_table k) = rw z h.none in rw q refl
      go (yes a) later =
          let t = h.before i (omega arith) a in
          let rest = later (record { from = a; to = omega (arith, h.to); none = h.none; before = λ j l. h.before j (omega arith) }) in
          rw (t.1, rest) refl
