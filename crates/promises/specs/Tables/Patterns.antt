-- S5, tile rule: a pattern works for a box exactly when each successive image lies in S and the last lies in the goal; else it is told to leave S at the
-- first step whose image does not lie in S, or to miss the goal at its last step; and where it works, from each reading of the box, every run through
-- the pattern stays in S and ends in the goal. Over any rules: the first two rely on nothing, the third on page Laws. That the goal is R is left out.
use Rattle.std.specs.Prelude.{ℕ, suc, ◌+◌, ◌≡◌, Bool, true, false, ◌&&◌, cond, ◌↔◌, length}
use Rattle.std.proofs.Math.Path.{refl}
use Rattle.std.proofs.Common.{sym, ap, ◌∙◌, add-zero, zero-add, arith}
use mathlib.Core.List.{List, [], ◌∷◌, map}
use Rattle.laws.specs.Every as E
use Rattle.laws.specs.Every.{Every}
use Rattle.laws.specs.Guards.{guard}
use Rattle.laws.specs.Lists as L
use Rattle.laws.specs.Lists.{all, first_false}
use Rattle.laws.specs.Tests.{never}
use Rattle.meaning.specs.declared.Tried.{Tried}
use Rattle.meaning.specs.declared.Tried.TheVariants.{Works, Leaves, Misses}
use Rattle.meaning.specs.Rules as R
use Rattle.meaning.specs.Rules.{Rules, on_goal, on_safe, rule_from, rule, holds}
use Rattle.promises.specs.Tables.Laws.{Motion}

-- the last of a list, or what stands before it where it is empty
unfoldable pub last_of : {A : Type 0} → A → List A → A
last_of a [] = a
last_of a (b ∷ bs) = last_of b bs

module _ (r : Rules) where
  open r use {Box, Reading, Kept, within, begin, image, kept, goal, safe, follows}

  -- what is kept of the successive images
  unfoldable pub images : Kept → List ℕ → List Kept
  images k [] = []
  images k (u ∷ us) = image u k ∷ images (image u k) us

  -- each successive image lies in S and the last lies in the goal
  pub record Lands (k : Kept) (us : List ℕ) : Type 0 where
    pub in-safe : Every (λ c. within (kept c) safe ≡ true) (images k us)
    pub in-goal : within (kept (last_of k (images k us))) goal ≡ true

  -- a run through a pattern: from a reading, one reading for each mode in turn that may follow the one before
  pub data Through : List ℕ → Reading → List Reading → Type 0 where
    done : {x : Reading} → Through [] x []
    goes : {u : ℕ} {us : List ℕ} {x y : Reading} {ys : List Reading} → follows u x y ≡ true → Through us y ys → Through (u ∷ us) x (y ∷ ys)

  -- a run stays in S and ends in the goal
  pub record Arrives (x : Reading) (ys : List Reading) : Type 0 where
    pub in-safe : Every (λ y. holds r safe y ≡ true) ys
    pub in-goal : holds r goal (last_of x ys) ≡ true

-- ---- the two tests of the rule

pub goal-works : (t : Bool) (i : ℕ) → (on_goal t i ≡ Works) ↔ (t ≡ true)
goal-works true i = (λ e. refl, λ e. refl)
goal-works false i = (λ e. cc, λ e. cc)

pub safe-works : (t : Bool) (i : ℕ) (rest : ℕ → Tried) → (on_safe t i rest ≡ Works) ↔ ((t ≡ true) × (rest (suc i) ≡ Works))
safe-works true i rest = (λ e. (refl, e), λ e. e.1)
safe-works false i rest = (λ e. (cc, cc), λ e. cc e.0)

module _ (r : Rules) where
  open r use {Box, Reading, Kept, within, begin, image, kept, goal, safe}

  lands : (us : List ℕ) (i : ℕ) (k : Kept) → (rule_from r i k us ≡ Works) ↔ Lands r k us
  unfolding R.rule_from images last_of E.Every
  lands [] i k = let g = goal-works (within (kept k) goal) i in (λ e. record { in-safe = tt; in-goal = g.0 e }, λ l. g.1 l.in-goal)
  lands (u ∷ us) i k =
      let c = image u k in
      let s = safe-works (within (kept c) safe) i (λ m. rule_from r m c us) in
      let later = lands us (suc i) c in (
        λ e. let w = s.0 e in let l = later.0 w.1 in record { in-safe = (w.0, l.in-safe); in-goal = l.in-goal },
        λ l. s.1 (l.in-safe.0, later.1 (record { in-safe = l.in-safe.1; in-goal = l.in-goal })),
      )

  -- S5, the rule
  pub works-exactly : (b : Box) (us : List ℕ) → (rule r b us ≡ Works) ↔ Lands r (begin b) us
  works-exactly b us = lands us 0 (begin b)

  -- whether each successive image lies in S, and whether the last lies in the goal
  abbrev pub staying : Kept → List ℕ → List Bool
  staying k us = map (λ c. within (kept c) safe) (images r k us)

  abbrev pub landing : Kept → List ℕ → Bool
  landing k us = within (kept (last_of k (images r k us))) goal

  -- all that the rule says, i steps being done
  ruled : (us : List ℕ) (i : ℕ) (k : Kept)
      → rule_from r i k us ≡ guard (all (staying k us)) (Leaves (suc (i + first_false (staying k us)))) λ _. on_goal (landing k us) (i + length us)
  unfolding R.rule_from images last_of L.all L.first_false
  ruled [] i k = rw (add-zero i) refl
  ruled (u ∷ us) i k = go (within (kept c) safe) (ruled us (suc i) c)
    where
      c : Kept
      c = image u k

      go : (t : Bool) → rule_from r (suc i) c us ≡ guard (all (staying c us)) (Leaves (suc (suc i + first_false (staying c us)))) (λ _. on_goal (landing c us) (suc i + length us))
          → on_safe t i (λ m. rule_from r m c us)
          ≡ guard (t && all (staying c us)) (Leaves (suc (i + cond t (suc (first_false (staying c us))) 0))) λ _. on_goal (landing c us) (i + suc (length us))
      go true ih =
          let f = first_false (staying c us) in
          let a : suc i + f ≡ i + suc f = omega arith in
          let b : suc i + length us ≡ i + suc (length us) = omega arith in
          ih ∙ rw (a, b) refl
      go false ih = rw (add-zero i) refl

  rule-is : (b : Box) (us : List ℕ)
      → rule r b us ≡ guard (all (staying (begin b) us)) (Leaves (suc (first_false (staying (begin b) us)))) λ _. on_goal (landing (begin b) us) (length us)
  rule-is b us = ruled us 0 (begin b) ∙ rw (zero-add (first_false (staying (begin b) us)), zero-add (length us)) refl

  -- S5, what is told of a pattern that does not work: the first step, from 1, whose image leaves S; or the last step, where all stay and the last misses
  pub leaves-exactly : (b : Box) (us : List ℕ) (i : ℕ)
      → (rule r b us ≡ Leaves i) ↔ ((all (staying (begin b) us) ≡ false) × (i ≡ suc (first_false (staying (begin b) us))))
  leaves-exactly b us i = rw (rule-is b us) (go (all (staying (begin b) us)) (landing (begin b) us))
    where
      go : (t g : Bool) → (guard t (Leaves (suc (first_false (staying (begin b) us)))) (λ _. on_goal g (length us)) ≡ Leaves i)
          ↔ ((t ≡ false) × (i ≡ suc (first_false (staying (begin b) us))))
      go true true = (λ e. never cc, λ w. let z = w.0 in never cc)
      go true false = (λ e. never cc, λ w. let z = w.0 in never cc)
      go false g = (λ e. (refl, cc), λ w. ap Leaves (sym w.1))

  pub misses-exactly : (b : Box) (us : List ℕ) (i : ℕ)
      → (rule r b us ≡ Misses i) ↔ ((all (staying (begin b) us) ≡ true) × (landing (begin b) us ≡ false) × (i ≡ length us))
  misses-exactly b us i = rw (rule-is b us) (go (all (staying (begin b) us)) (landing (begin b) us))
    where
      go : (t g : Bool) → (guard t (Leaves (suc (first_false (staying (begin b) us)))) (λ _. on_goal g (length us)) ≡ Misses i)
          ↔ ((t ≡ true) × (g ≡ false) × (i ≡ length us))
      go true true = (λ e. never cc, λ w. let z = w.1 in never cc)
      go true false = (λ e. (refl, refl, cc), λ w. ap Misses (sym w.2))
      go false g = (λ e. never cc, λ w. let z = w.0 in never cc)

module _ (r : Rules) (M : Motion r) where
  open r use {Box, Reading, Kept, begin, image, kept, goal, safe}

  arrives : {us : List ℕ} {x : Reading} {ys : List Reading} → Through r us x ys → (k : Kept) → M.Inv k x → Lands r k us → Arrives r x ys
  unfolding images last_of E.Every
  arrives (done {x = x}) k i l = record { in-safe = tt; in-goal = M.inside (kept k) goal x l.in-goal (M.in_kept k x i) }
  arrives (goes {u = u} {x = x} {y = y} f t) k i l =
      let c = image u k in
      let j = M.at-image k u x y i f in
      let rest = arrives t c j (record { in-safe = l.in-safe.1; in-goal = l.in-goal }) in
      record { in-safe = (M.inside (kept c) safe y l.in-safe.0 (M.in_kept c y j), rest.in-safe); in-goal = rest.in-goal }

  -- S5, its runs
  pub works-arrives : (b : Box) (us : List ℕ) → rule r b us ≡ Works → (x : Reading) → holds r b x ≡ true → (ys : List Reading) → Through r us x ys → Arrives r x ys
  works-arrives b us w x h ys t = arrives t (begin b) (M.at-begin b x h) ((works-exactly r b us).0 w)
