-- Request 2026-01, its refusals. In the checker a length that differs from its child's is 6 at that length, the children before it being passed and as long as is told of
-- them, and after the child is read, so that what is wrong in the child is told first. In a call, a split's lengths being read, the first whose child would end
-- behind the file is 6 at that length, whichever child is sought. Over any rules and any judge of a tile; of any bytes. Relies on page Walking.
use Prim.Native.Nat.{ℕ, suc, ◌+◌, ◌<◌}
use Rattle.std.specs.Prelude.{◌≡◌, eqb, leb, length, Some, Ok, Err}
use Rattle.std.proofs.Math.Path.{refl}
use Rattle.std.proofs.Common.{ap, ◌∙◌, arith}
use mathlib.Core.List.{List, [], ◌∷◌, ◌++◌}
use Rattle.std.proofs.Math.Option.{none, some}
use borrow.Author.Tests.{ne_eqb, lt-leb}
use Rattle.laws.specs.Guards.{guard}
use Rattle.laws.specs.Tests.{never, guard_passed}
use Rattle.meaning.specs.Answers.{Walk}
use Rattle.meaning.specs.declared.Refusal.{Refusal}
use Rattle.meaning.specs.declared.Tried.{Tried}
use Rattle.meaning.specs.Control as C
use Rattle.meaning.specs.Control.{past_file, find}
use Rattle.meaning.specs.Files.{read}
use Rattle.meaning.specs.Numbers.{number_at}
use Rattle.meaning.specs.Refusals.{bad_table}
use Rattle.meaning.specs.Rules.{Rules}
use Rattle.meaning.specs.Trees.{tells}
use Rattle.meaning.specs.Verdicts as W
use Rattle.meaning.specs.Verdicts.{Length, lengths_by, each, walk}
use Rattle.promises.specs.Tables.Walking.{walk-went, walk_split, find-split}

-- ---- children one after another: those in front are passed, each as long as is told of it

module _ {B : Type 0} (one : ℕ → B → Walk) (b : B) (back : List B) (l : Length) (ls : List Length) where
  -- what comes of the next child comes of all
  each-behind : (front : List B) (ks : List Length) (at mid : ℕ) → length ks ≡ length front → each one front ks at ≡ Ok mid
      → each one (front ++ b ∷ back) (ks ++ l ∷ ls) at ≡ each one (b ∷ back) (l ∷ ls) mid
  unfolding W.each
  each-behind [] [] at mid c e = let q : at ≡ mid = cc in rw q refl
  each-behind [] (k ∷ ks) at mid c e = absurd (omega arith)
  each-behind (a ∷ front) [] at mid c e = absurd (omega arith)
  each-behind (a ∷ front) (k ∷ ks) at mid c e =
      let on : ℕ → Walk = λ m. guard (eqb m (at + k.size)) (Err (bad_table k.place)) λ _. each one front ks m in
      let w = walk-went (one at a) Err on (λ _ z. never cc) e in
      let g = guard_passed (eqb w.0 (at + k.size)) (λ _. each one front ks w.0) (λ z. never cc) w.2 in
      rw (w.1, g.0) (each-behind front ks w.0 mid (omega arith) g.1)

  -- a length that differs from the child's, which was passed
  wrong-here : (mid next : ℕ) → one mid b ≡ Ok next → (next ≡ mid + l.size → ⊥) → each one (b ∷ back) (l ∷ ls) mid ≡ Err (bad_table l.place)
  unfolding W.each
  wrong-here mid next e n = rw (e, ne_eqb next (mid + l.size) n) refl

  -- what is wrong in the child is told first
  fault-here : (mid : ℕ) (f : Refusal) → one mid b ≡ Err f → each one (b ∷ back) (l ∷ ls) mid ≡ Err f
  unfolding W.each
  fault-here mid f e = rw e refl

-- ---- the checker, at a split whose lengths are read

module _ (r : Rules) (judge : r.Box → List ℕ → Tried) (d : ℕ) (s : List ℕ) (at next : ℕ) (b : r.Box) (number : number_at s at ≡ Some (0, next))
    (front : List r.Box) (c : r.Box) (back : List r.Box) (are : r.children b ≡ front ++ c ∷ back)
    (ks : List Length) (l : Length) (ls : List Length) (first : ℕ) (told : lengths_by (tells r.form) (front ++ c ∷ back) s next ≡ read (ks ++ l ∷ ls) first)
    (as_many : length ks ≡ length front) (mid : ℕ) (passed : each (λ p k. walk r judge d s p k) front ks first ≡ Ok mid) where
  -- it has children
  some-child : r.children b ≡ [] → ⊥
  some-child e = go front (ap length e) (ap length are)
    where
      go : (front : List r.Box) → length (r.children b) ≡ 0 → length (r.children b) ≡ length (front ++ c ∷ back) → ⊥
      go [] p q = omega arith
      go (a ∷ front) p q = omega arith

  at-child : walk r judge (suc d) s at b ≡ each (λ p k. walk r judge d s p k) (c ∷ back) (l ∷ ls) mid
  at-child =
      let split = walk_split r judge (suc d) s at b next d number refl some-child in
      split ∙ rw (are, told) (each-behind (λ p k. walk r judge d s p k) c back l ls front ks first mid as_many passed)

  -- 6 at a length that its child has not
  pub wrong-length : (end : ℕ) → walk r judge d s mid c ≡ Ok end → (end ≡ mid + l.size → ⊥) → walk r judge (suc d) s at b ≡ Err (bad_table l.place)
  wrong-length end e n = at-child ∙ wrong-here (λ p k. walk r judge d s p k) c back l ls mid end e n

  -- after the child's own faults
  pub child-first : (f : Refusal) → walk r judge d s mid c ≡ Err f → walk r judge (suc d) s at b ≡ Err f
  child-first f e = at-child ∙ fault-here (λ p k. walk r judge d s p k) c back l ls mid f e

-- ---- a call

-- where the children that some lengths tell of would end, one behind another
unfoldable pub end_of : List Length → ℕ → ℕ
end_of [] at = at
end_of (k ∷ ks) at = end_of ks (at + k.size)

past_first : (size : ℕ) (ks : List Length) (l : Length) (ls : List Length) (at : ℕ) → past_file size ks at ≡ none → size < end_of ks at + l.size
    → past_file size (ks ++ l ∷ ls) at ≡ some l.place
unfolding C.past_file end_of
past_first size [] l ls at e h = rw (lt-leb (at + l.size) size h) refl
past_first size (k ∷ ks) l ls at e h =
    let g = guard_passed (leb (at + k.size) size) (λ _. past_file size ks (at + k.size)) (λ z. never cc) e in
    rw g.0 (past_first size ks l ls (at + k.size) g.1 h)

-- 6 at the first length whose child would end behind the file, whatever reading is sought
pub past-told : (r : Rules) (x : r.Reading) (d : ℕ) (s : List ℕ) (at next : ℕ) (b : r.Box) → number_at s at ≡ Some (0, next) → (r.children b ≡ [] → ⊥)
    → (ks : List Length) (l : Length) (ls : List Length) (first : ℕ) → lengths_by (tells r.form) (r.children b) s next ≡ read (ks ++ l ∷ ls) first
    → past_file (length s) ks first ≡ none → length s < end_of ks first + l.size → find r (suc d) s at b x ≡ Err (bad_table l.place)
past-told r x d s at next b number some-child ks l ls first told inside past =
    find-split r x (suc d) s at b next d number refl some-child ∙ rw (told, past_first (length s) ks l ls first inside past) refl
