-- The tile that holds a reading where lengths are told: the place of the child of a number by them, and a split of a box that holds the reading, of which the
-- child that holds it is known by its number. At the rules of a frame in the terms of the code. Assumes nothing.
use Rattle.std.specs.Prelude.{Some, Ok, Err}
use Prim.Native.Nat.{ℕ, zero, suc, ◌+◌, ◌-◌, ◌≤◌, ◌<◌}
use mathlib.Core.Path.{◌≡◌, refl, sym, ap, ◌∙◌}
use mathlib.Core.Bool.{Bool, true, false, cond}
use mathlib.Core.List.{List, [], ◌∷◌, ◌++◌}
use mathlib.Core.Option.{Option, none, some}
use native.Mathlib.Omega.{arith}
use lib.IntN.{ℤ}
use lib.ListN.{length, get_or}
use Rattle.laws.specs.Guards.{choose}
use Rattle.laws.specs.Tests.{never}
use Rattle.meaning.specs.Answers.{Walk, Found}
use Rattle.meaning.specs.declared.Refusal.{Refusal}
use Rattle.meaning.specs.Boxes.{Side, children}
use Rattle.meaning.specs.Control.{past_file, unless_past, pass_by, among, find}
use Rattle.meaning.specs.Files.{Read, read, refused}
use Rattle.meaning.specs.Numbers.{number_at}
use Rattle.meaning.specs.Refusals.{bad_table}
use Rattle.meaning.specs.Rules.{Rules}
use Rattle.meaning.specs.Tables.{children_by}
use Rattle.meaning.specs.Trees.{tells}
use Rattle.meaning.specs.Verdicts.{Length, on_walk, on_read, lengths_at, lengths_by}
use Rattle.promises.specs.Tables.Walking.{look_by, find-stuck, find-split}
use Rattle.tables.specs.declared.boxes.Holder.{Holder}
use Rattle.tables.specs.declared.frames.Frame.{Frame}
use Rattle.tables.specs.Boxes.{box_of}
use Rattle.tables.specs.Finds.{holds_in, first_held, place_by, or_past, place_of, HalfOf}
use Rattle.tables.specs.Frames.{rules_in}
use Rattle.tables.specs.Lengths.{behind_at, ends_at, sum_of}
use Rattle.tables.specs.Walks.{walk_by}
use Rattle.tables.proofs.lengths.Laws.{behind-refused, ends-are, ends_some, lengths-joined, lengths-count, sum-append, none-past-sum, place-sum}

-- ---- its place by lengths

module _ (count c : ℕ) (s : List ℕ) (from : ℕ) where
  pub place-unread : (x : Refusal) → behind_at (count - 1) s from ≡ Err x → Err x ≡ place_of count c s from
  place-unread x e = rw (behind-refused s (count - 1) from x e) refl

  module _ (ls : List Length) (first : ℕ) (e : lengths_at (count - 1) s from ≡ read ls first) where
    abbrev here : Option ℕ → Walk
    here p = or_past p λ _. Ok (place_by c ls first)

    placed : here (past_file (length s) ls first) ≡ place_of count c s from
    placed = rw e refl

    pub place-past : (x : Refusal) → ends_at (count - 1) s from first ≡ Err x → Err x ≡ place_of count c s from
    place-past x q = go (past_file (length s) ls first) (sym (ends-are s (count - 1) from first ls first e) ∙ q) ∙ placed
      where
        go : (p : Option ℕ) → or_past p (λ _. Ok (place_by (count - 1) ls first)) ≡ Err x → Err x ≡ here p
        go (some y) q = sym q
        go none q = never cc

    pub none-past : (m : ℕ) → ends_at (count - 1) s from first ≡ Ok m → past_file (length s) ls first ≡ none
    none-past m q = go (past_file (length s) ls first) refl (sym (ends-are s (count - 1) from first ls first e) ∙ q)
      where
        go : (p : Option ℕ) → past_file (length s) ls first ≡ p → or_past p (λ _. Ok (place_by (count - 1) ls first)) ≡ Ok m → past_file (length s) ls first ≡ none
        go (some y) k q = never cc
        go none k q = k

    pub place_here : past_file (length s) ls first ≡ none → c < count → ends_at c s from first ≡ place_of count c s from
    place_here clear h = ends_some s c (count - 1) from first ls first (omega arith) e clear ∙ sym (rw clear refl) ∙ placed

-- in two parts, of which the first is of the children before it
pub place-summed : (count c : ℕ) (s : List ℕ) (from : ℕ) (ls : List Length) (mid : ℕ) (ms : List Length) (first : ℕ) → lengths_at c s from ≡ read ls mid
    → lengths_at (count - 1 - c) s mid ≡ read ms first → c < count → (sum : ℕ) → sum ≡ sum_of ls → first + (sum_of ls + sum_of ms) ≤ length s → Ok (first + sum) ≡ place_of count c s from
place-summed count c s from ls mid ms first e q h sum z room =
    let k : c + (count - 1 - c) ≡ count - 1 = omega (arith, h) in
    let all : lengths_at (count - 1) s from ≡ read (ls ++ ms) first = rw k at (lengths-joined s (count - 1 - c) c from ls mid ms first e q) in
    let clear : past_file (length s) (ls ++ ms) first ≡ none = none-past-sum (length s) (ls ++ ms) first (omega (arith, room, sum-append ls ms)) in
    let count-is : length ls ≡ c = lengths-count s c from ls mid e in
    let place : place_by c (ls ++ ms) first ≡ first + sum = rw z (rw (← count-is) (place-sum ls ms first)) in
    rw (all, clear, place) refl

-- ---- the child that is gone into

module _ (has : List Side → Bool) (enter : ℕ → List Side → Found) (over : ℕ → List Side → Walk) (split : ℕ) where
  lengths-here : (bs : List (List Side)) (ls : List Length) (at : ℕ) → first_held has bs < length bs
      → among has enter (pass_by true over) split bs ls at ≡ enter (place_by (first_held has bs) ls at) (get_or bs (first_held has bs) [])
  unfolding among first_held place_by
  lengths-here [] ls at h = absurd (omega arith)
  lengths-here (b ∷ bs) [] at h = go (has b) h (lengths-here bs [] at)
    where
      go : (t : Bool) → cond t 0 (suc (first_held has bs)) < suc (length bs)
          → (first_held has bs < length bs → among has enter (pass_by true over) split bs [] at ≡ enter (place_by (first_held has bs) [] at) (get_or bs (first_held has bs) []))
          → choose t (λ _. enter at b) (λ _. among has enter (pass_by true over) split bs [] at) ≡ enter (place_by (cond t 0 (suc (first_held has bs))) [] at) (get_or (b ∷ bs) (cond t 0 (suc (first_held has bs))) [])
      go true h ih = refl
      go false h ih = ih (omega arith) ∙ ap (λ (p : ℕ). enter p (get_or bs (first_held has bs) [])) (alone (first_held has bs))
        where
          alone : (i : ℕ) → place_by i [] at ≡ at
          alone zero = refl
          alone (suc i) = refl
  lengths-here (b ∷ bs) (l ∷ ls) at h = go (has b) h (lengths-here bs ls (at + l.size))
    where
      go : (t : Bool) → cond t 0 (suc (first_held has bs)) < suc (length bs)
          → (first_held has bs < length bs → among has enter (pass_by true over) split bs ls (at + l.size) ≡ enter (place_by (first_held has bs) ls (at + l.size)) (get_or bs (first_held has bs) []))
          → choose t (λ _. enter at b) (λ _. among has enter (pass_by true over) split bs ls (at + l.size))
          ≡ enter (place_by (cond t 0 (suc (first_held has bs))) (l ∷ ls) at) (get_or (b ∷ bs) (cond t 0 (suc (first_held has bs))) [])
      go true h ih = refl
      go false h ih = ih (omega arith)

-- a split's lengths, and then the first child that has the reading, which there is
told-are : (has : List Side → Bool) (enter : ℕ → List Side → Found) (over : ℕ → List Side → Walk) (split : ℕ) (bs : List (List Side)) (s : List ℕ) (at : ℕ) → first_held has bs < length bs
    → (on_read (lengths_by true bs s at) Err λ ls first. unless_past (past_file (length s) ls first) (λ place. Err (bad_table place)) λ _. among has enter (pass_by true over) split bs ls first)
    ≡ on_walk (place_of (length bs) (first_held has bs) s at) Err (λ p. enter p (get_or bs (first_held has bs) []))
told-are has enter over split bs s at h = go (lengths_at (length bs - 1) s at)
  where
    past : (ls : List Length) (first : ℕ) (p : Option ℕ)
        → unless_past p (λ place. Err (bad_table place)) (λ _. among has enter (pass_by true over) split bs ls first)
        ≡ on_walk (or_past p λ _. Ok (place_by (first_held has bs) ls first)) Err (λ p. enter p (get_or bs (first_held has bs) []))
    past ls first (some y) = refl
    past ls first none = lengths-here has enter over split bs ls first h

    go : (o : Read (List Length))
        → (on_read o Err λ ls first. unless_past (past_file (length s) ls first) (λ place. Err (bad_table place)) λ _. among has enter (pass_by true over) split bs ls first)
        ≡ on_walk (on_read o Err λ ls first. or_past (past_file (length s) ls first) λ _. Ok (place_by (first_held has bs) ls first)) Err (λ p. enter p (get_or bs (first_held has bs) []))
    go (refused e) = refl
    go (read ls first) = past ls first (past_file (length s) ls first)

-- ---- a split of a box that holds the reading

module _ (f : Frame) (told : f.form ≡ 2) (x : List ℤ) (d : ℕ) (s : List ℕ) (at m k : ℕ) (e : number_at s at ≡ Some (k, m)) (z : k ≤ 0) (b : List Side) (h : Holder) (w : HalfOf f.n b x h) where
  abbrev rules : Rules
  rules = rules_in f [] []

  children-told : children_by f.form b ≡ children b
  children-told = rw told refl

  split : number_at s at ≡ Some (0, m)
  split = let q : k ≡ 0 = omega arith in rw q at e

  pub told-stuck : h.count ≡ 1 → Err (bad_table at) ≡ find rules d s at b x
  told-stuck q = sym (find-stuck rules x d s at b m split (children-told ∙ w.stuck q))

  module _ (some : h.count ≡ 1 → ⊥) (deep : d ≡ 0 → ⊥) (v : Walk) (q : v ≡ place_of h.count h.number s m) where
    abbrev enter : ℕ → Found
    enter p = find rules (d - 1) s p (get_or (children b) h.number []) x

    told-split : on_walk v Err enter ≡ find rules d s at b x
    told-split =
        let count = w.many some in
        let number = w.first some in
        let cs = children b in
        let has = holds_in f.n x in
        let below : first_held has cs < length cs = omega (arith, w.inside, count, number) in
        let named : on_walk (place_of h.count h.number s m) Err enter ≡ on_walk (place_of (length cs) (first_held has cs) s m) Err (λ p. find rules (d - 1) s p (get_or cs (first_held has cs) []) x) =
        rw (count, number) refl in
        ap (λ (o : Walk). on_walk o Err enter) q
        ∙ named
        ∙ sym (told-are has (λ p c. find rules (d - 1) s p c x) (walk_by false rules (d - 1) s) at cs s m below)
        ∙ by_flag (tells f.form) (rw told refl)
        ∙ ap (λ (bs : List (List Side)). look_by rules x (d - 1) s at bs m) (sym children-told)
        ∙ sym (find-split rules x d s at b m (d - 1) split (omega arith) (λ n. let v : length cs ≡ 0 = ap length (sym children-told ∙ n) in omega (arith, below, v)))
      where
        by_flag : (t : Bool) → t ≡ true
            → (on_read (lengths_by true (children b) s m) Err λ ls first.
            unless_past (past_file (length s) ls first) (λ place. Err (bad_table place)) λ _.
            among (holds_in f.n x) (λ p c. find rules (d - 1) s p c x) (pass_by true (walk_by false rules (d - 1) s)) at (children b) ls first)
            ≡ (on_read (lengths_by t (children b) s m) Err λ ls first.
            unless_past (past_file (length s) ls first) (λ place. Err (bad_table place)) λ _.
            among (holds_in f.n x) (λ p c. find rules (d - 1) s p c x) (pass_by t (walk_by false rules (d - 1) s)) at (children b) ls first)
        by_flag t e = rw e refl

    pub told-refused : (r : Refusal) → v ≡ Err r → Err r ≡ find rules d s at b x
    told-refused r g = sym (ap (λ (o : Walk). on_walk o Err enter) g) ∙ told-split

    pub told_child : (p : ℕ) → v ≡ Ok p → find rules (d - 1) s p (box_of f.n h.kid) x ≡ find rules d s at b x
    told_child p g = ap (λ (c : List Side). find rules (d - 1) s p c x) (w.kid_is some) ∙ sym (ap (λ (o : Walk). on_walk o Err enter) g) ∙ told-split
