-- Numbers of the plant one behind another: told behind others, and an array that is filled with them as long as they fit. Assumes nothing.
use Rattle.std.specs.Prelude.{Some, None, Ok, Err, Result}
use Prim.Native.Nat.{ℕ, suc, ◌+◌, ◌≤◌, ◌<◌}
use mathlib.Core.Path.{◌≡◌, refl, sym, ap, ◌∙◌}
use mathlib.Core.Bool.{Bool, true, false, cond}
use mathlib.Core.List.{List, [], ◌∷◌, ◌++◌, map, map-append}
use native.Mathlib.Omega.{arith}
use native.Mathlib.Nat.{zero-add, add-zero}
use lib.ListN.{length, set, replicate, length-map}
use lib.IntN.{ℤ, pos}
use Rattle.laws.specs.Lists.{at, tab, all, first_false}
use Rattle.laws.specs.Tabs.{tab-snoc, Filled, filled_none, filled_more, tab-stored, filled-padded, map-tab}
use Rattle.laws.specs.Tests.{never, HoldUpTo, hold-none, hold-more, first-here, fails-here, all_hold}
use Rattle.meaning.specs.Answers.{Whole}
use Rattle.meaning.specs.declared.Refusal.{Refusal}
use Rattle.meaning.specs.Refusals.{bad_result}
use Rattle.meaning.specs.Sheets.{is_near, near_value}
use Rattle.sheets.specs.Wholes.{all_near, held}

-- ---- tests of numbers, one list behind another

told : {A : Type 0} → ℕ → List Bool → A → Result A Refusal
told place ts a = cond (all ts) (Ok a) (Err (bad_result (place + first_false ts)))

module _ {A : Type 0} (us : List Bool) (a : A) where
  -- all of the first hold
  told-behind : (place : ℕ) (ts : List Bool) → all ts ≡ true → told place (ts ++ us) a ≡ told (place + length ts) us a
  unfolding told all first_false
  told-behind place [] e = rw add-zero refl
  told-behind place (false ∷ ts) e = never e
  told-behind place (true ∷ ts) e =
      let p : place + suc (first_false (ts ++ us)) ≡ place + 1 + first_false (ts ++ us) = omega arith in
      let q : place + suc (length ts) ≡ place + 1 + length ts = omega arith in
      rw (p, q) (told-behind (place + 1) ts e)

  told-before : (place : ℕ) (ts : List Bool) → all ts ≡ false → told place (ts ++ us) a ≡ Err (bad_result (place + first_false ts))
  unfolding told all first_false
  told-before place [] e = never (sym e)
  told-before place (false ∷ ts) e = refl
  told-before place (true ∷ ts) e =
      let p : place + suc (first_false (ts ++ us)) ≡ place + 1 + first_false (ts ++ us) = omega arith in
      let q : place + suc (first_false ts) ≡ place + 1 + first_false ts = omega arith in
      rw (p, q) (told-before (place + 1) ts e)

-- ---- the same of numbers

module _ {A : Type 0} (place : ℕ) (ws vs : List Whole) (a : A) where
  pub near-behind : all (map is_near ws) ≡ true → all_near place (ws ++ vs) a ≡ all_near (place + length ws) vs a
  unfolding told
  near-behind e = rw (map-append is_near ws vs, sym (length-map ws is_near)) (told-behind (map is_near vs) a place (map is_near ws) e)

  module _ {B : Type 0} (b : B) where
    pub near-more : (x : B) → all_near place ws b ≡ Ok x → all_near place (ws ++ vs) a ≡ all_near (place + length ws) vs a
    near-more x = go (all (map is_near ws)) refl
      where
        go : (t : Bool) → all (map is_near ws) ≡ t → cond t (Ok b) (Err (bad_result (place + first_false (map is_near ws)))) ≡ Ok x → all_near place (ws ++ vs) a ≡ all_near (place + length ws) vs a
        go true e q = near-behind e
        go false e q = never cc

    pub near-stops : (r : Refusal) → all_near place ws b ≡ Err r → all_near place (ws ++ vs) a ≡ Err r
    unfolding told
    near-stops r = go (all (map is_near ws)) refl
      where
        go : (t : Bool) → all (map is_near ws) ≡ t → cond t (Ok b) (Err (bad_result (place + first_false (map is_near ws)))) ≡ Err r → all_near place (ws ++ vs) a ≡ Err r
        go true e q = never cc
        go false e q =
            let r-is : bad_result (place + first_false (map is_near ws)) ≡ r = cc in
            rw (map-append is_near ws vs) (told-before (map is_near vs) a place (map is_near ws) e ∙ ap Err r-is)

-- ---- what is made of numbers does not change how they are told

module _ {A B : Type 0} (place : ℕ) (ws : List Whole) (a : A) (b : B) where
  pub near-same : (r : Refusal) → all_near place ws b ≡ Err r → all_near place ws a ≡ Err r
  near-same r = go (all (map is_near ws))
    where
      go : (t : Bool) → cond t (Ok b) (Err (bad_result (place + first_false (map is_near ws)))) ≡ Err r → cond t (Ok a) (Err (bad_result (place + first_false (map is_near ws)))) ≡ Err r
      go true q = never cc
      go false q = let e : bad_result (place + first_false (map is_near ws)) ≡ r = cc in ap Err e

  pub near-fits : (x : B) → all_near place ws b ≡ Ok x → all_near place ws a ≡ Ok a
  near-fits x = go (all (map is_near ws))
    where
      go : (t : Bool) → cond t (Ok b) (Err (bad_result (place + first_false (map is_near ws)))) ≡ Ok x → cond t (Ok a) (Err (bad_result (place + first_false (map is_near ws)))) ≡ Ok a
      go true q = refl
      go false q = never cc

-- what is held where all fit
pub near-holds : {A : Type 0} (place : ℕ) (ws : List Whole) (a x : A) → all_near place ws a ≡ Ok x → x ≡ a
near-holds place ws a x = go (all (map is_near ws))
  where
    go : (t : Bool) → cond t (Ok a) (Err (bad_result (place + first_false (map is_near ws)))) ≡ Ok x → x ≡ a
    go true q = cc
    go false q = never cc

-- ---- an array that holds i of the numbers

pub record Holding (m : ℕ) (f : ℕ → Whole) (i : ℕ) (l : List ℤ) : Type 0 where
  pub filled : Filled m i l
  pub front : tab (at l) i 0 ≡ tab (λ k. near_value (f k)) i 0

module _ (m : ℕ) (f : ℕ → Whole) where
  pub holding-none : Holding m f 0 (replicate m (pos 0))
  unfolding tab
  holding-none = record { filled = filled_none m; front = refl }

  pub holding-more : (i : ℕ) (l : List ℤ) → i < m → Holding m f i l → Holding m f (i + 1) (set l i (near_value (f i)))
  holding-more i l h w = record {
    filled = filled_more (near_value (f i)) w.filled;
    front =
        tab-stored l i (near_value (f i)) (omega (arith, w.filled.size))
        ∙ ap (λ (t : List ℤ). t ++ near_value (f i) ∷ []) w.front
        ∙ sym (tab-snoc (λ k. near_value (f k)) i 0 ∙ rw zero-add refl);
  }

  pub holding-all : (n : ℕ) (l : List ℤ) → n ≤ m → Holding m f n l → l ≡ held m f n
  holding-all n l h w = sym (filled-padded w.filled h) ∙ rw w.front refl

-- ---- n numbers, of which the first i fit and are held

pub record FitUpTo (m : ℕ) (f : ℕ → Whole) (n i : ℕ) (l : List ℤ) : Type 0 where
  pub values : Holding m f i l
  pub near : HoldUpTo (λ k. is_near (f k)) n i

module _ (m : ℕ) (f : ℕ → Whole) (n : ℕ) where
  pub fit-none : FitUpTo m f n 0 (replicate m (pos 0))
  fit-none = record { values = holding-none m f; near = hold-none (λ k. is_near (f k)) n }

  module _ {i : ℕ} {l : List ℤ} (w : FitUpTo m f n i l) where
    pub fit-more : (v : ℤ) → i < m → i < n → f i ≡ Some v → FitUpTo m f n (i + 1) (set l i v)
    fit-more v h k e = record { values = rw e at (holding-more m f i l h w.values); near = hold-more w.near k (ap is_near e) }

    pub fit-out : (place : ℕ) → i < n → f i ≡ None → all_near place (tab f n 0) (held m f n) ≡ Err (bad_result (place + i))
    fit-out place h e =
        let no : is_near (f i) ≡ false = ap is_near e in
        rw map-tab (simp (sym (fails-here w.near h no), sym (first-here w.near h no)))

    pub fit-all : (place : ℕ) → n ≤ i → n ≤ m → all_near place (tab f n 0) (held m f n) ≡ Ok l
    fit-all place h k =
        let same : i ≡ n = omega (arith, w.near.few) in
        rw (map-tab, holding-all m f n l k (rw same at w.values)) (simp (sym (all_hold w.near h)))
