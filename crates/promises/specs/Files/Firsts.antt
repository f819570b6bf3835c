-- The first of a list of tests that does not hold (`first_false` of crates/laws): it is one of them where not all hold, and it is the first exactly. Assumes
-- nothing.
use Rattle.std.specs.Prelude.{ℕ, zero, suc, ◌<◌, ◌≡◌, refl, Bool, true, false, ◌&&◌, cond, List, [], ◌∷◌, map, ◌↔◌, length, get_or}
use Rattle.std.proofs.Common.{sym, ap, ◌∙◌, arith}
use Rattle.laws.specs.Lists as L
use Rattle.laws.specs.Lists.{all, first_false}
use Rattle.laws.specs.Tests.{never}

pub false-inside : (ts : List Bool) → all ts ≡ false → first_false ts < length ts
unfolding L.all L.first_false
false-inside [] e = never (sym e)
false-inside (false ∷ ts) e = omega arith
false-inside (true ∷ ts) e = omega (arith, false-inside ts e)

-- the k-th entry does not pass, and all before it do
pub record FirstOf {A : Type 0} (t : A → Bool) (d : A) (l : List A) (k : ℕ) : Type 0 where
  pub inside : k < length l
  pub fails : t (get_or l k d) ≡ false
  pub before : (j : ℕ) → j < k → t (get_or l j d) ≡ true

pub first-exactly : {A : Type 0} (t : A → Bool) (d : A) (l : List A) (k : ℕ) → ((all (map t l) ≡ false) × (first_false (map t l) ≡ k)) ↔ FirstOf t d l k
unfolding L.all L.first_false
first-exactly t d [] k = (λ w. never (sym w.0), λ f. absurd (omega (arith, f.inside)))
first-exactly t d (a ∷ l) k = (λ w. there (t a) refl k w.0 w.1 (λ m. (first-exactly t d l m).0), λ f. back (t a) refl k f (λ m. (first-exactly t d l m).1))
  where
    there : (c : Bool) → t a ≡ c → (k : ℕ) → (c && all (map t l)) ≡ false → cond c (suc (first_false (map t l))) 0 ≡ k
        → ((m : ℕ) → (all (map t l) ≡ false) × (first_false (map t l) ≡ m) → FirstOf t d l m) → FirstOf t d (a ∷ l) k
    there false q k e f later = rw (← f) (record { inside = omega arith; fails = q; before = λ j h. absurd (omega arith) })
    there true q k e f later =
        let w = later (first_false (map t l)) (e, refl) in
        rw (← f) (record { inside = omega (arith, w.inside); fails = w.fails; before = λ j h. each j h w.before })
      where
        each : (j : ℕ) → j < suc (first_false (map t l)) → ((j : ℕ) → j < first_false (map t l) → t (get_or l j d) ≡ true) → t (get_or (a ∷ l) j d) ≡ true
        each zero h b = q
        each (suc j) h b = b j (omega arith)

    back : (c : Bool) → t a ≡ c → (k : ℕ) → FirstOf t d (a ∷ l) k → ((m : ℕ) → FirstOf t d l m → (all (map t l) ≡ false) × (first_false (map t l) ≡ m))
        → ((c && all (map t l)) ≡ false) × (cond c (suc (first_false (map t l))) 0 ≡ k)
    back false q zero f later = (refl, refl)
    back false q (suc k) f later = let z = f.before 0 (omega arith) in never (sym q ∙ z)
    back true q zero f later = let z = f.fails in never (sym z ∙ q)
    back true q (suc k) f later =
        let w = later k (record { inside = omega (arith, f.inside); fails = f.fails; before = λ j h. f.before (suc j) (omega arith) }) in
        (w.0, ap suc w.1)
