-- Entries that stand in a list from one place up to another: joined, and taken apart. Assumes nothing.
use Rattle.std.specs.Prelude.{ℕ, ◌+◌, ◌≤◌, ◌<◌, ◌≡◌, refl, List, [], ◌∷◌, ◌++◌, length, get_or, drop}
use Rattle.std.proofs.Common.{sym, ap, ◌∙◌, append_assoc, arith, add-zero, length-append, length-drop, drop-drop, get_or-drop}
use Rattle.std.proofs.Math.Seq.{drop-append_seam}

-- the entries xs stand in s from `at` up to `next`
pub record Stands (s : List ℕ) (at : ℕ) (xs : List ℕ) (next : ℕ) : Type 0 where
  pub end : next ≡ at + length xs
  pub bytes : drop at s ≡ xs ++ drop next s

pub stand-nil : (s : List ℕ) (at : ℕ) → Stands s at [] at
stand-nil s at = record { end = omega arith; bytes = refl }

pub stand-join : {s : List ℕ} {at : ℕ} {x : List ℕ} {m : ℕ} {y : List ℕ} {n : ℕ} → Stands s at x m → Stands s m y n → Stands s at (x ++ y) n
stand-join {s} {at} {x} {m} {y} {n} p q =
    record { end = omega (arith, length-append x y, p.end, q.end); bytes = p.bytes ∙ rw q.bytes (sym (append_assoc x y (drop n s))) }

-- what stands behind the first part
behind : (s : List ℕ) (at : ℕ) (x t : List ℕ) → drop at s ≡ x ++ t → drop (at + length x) s ≡ t
behind s at x t e = sym (drop-drop (length x) at s) ∙ ap (λ (l : List ℕ). drop (length x) l) e ∙ drop-append_seam x t

pub stand-front : {s : List ℕ} {at n : ℕ} (x y : List ℕ) → Stands s at (x ++ y) n → Stands s at x (at + length x)
stand-front {s} {at} {n} x y p =
    let e : drop at s ≡ x ++ (y ++ drop n s) = p.bytes ∙ append_assoc x y (drop n s) in
    record { end = refl; bytes = e ∙ ap (λ (l : List ℕ). x ++ l) (sym (behind s at x (y ++ drop n s) e)) }

pub stand-back : {s : List ℕ} {at n : ℕ} (x y : List ℕ) → Stands s at (x ++ y) n → Stands s (at + length x) y n
stand-back {s} {at} {n} x y p =
    let e : drop at s ≡ x ++ (y ++ drop n s) = p.bytes ∙ append_assoc x y (drop n s) in
    record { end = omega (arith, p.end, length-append x y); bytes = behind s at x (y ++ drop n s) e }

-- one entry at the front of what is left
pub at-cons : (s : List ℕ) (i x : ℕ) (t : List ℕ) → drop i s ≡ x ∷ t → (i < length s) × (get_or s i 0 ≡ x) × (drop (i + 1) s ≡ t)
at-cons s i x t e = (
  omega (arith, length-drop i s, ap length e),
  ap (λ (k : ℕ). get_or s k 0) (sym (add-zero i)) ∙ sym (get_or-drop i s 0 0) ∙ ap (λ (l : List ℕ). get_or l 0 0) e,
  sym (drop-drop 1 i s) ∙ ap (λ (l : List ℕ). drop 1 l) e,
)

-- a list holds what stands in it
pub stand-within : (s bs : List ℕ) (at m : ℕ) → Stands s at bs m → 1 ≤ length bs → m ≤ length s
stand-within s bs at m h l = omega (arith, h.end, length-drop at s, length-drop m s, length-append bs (drop m s), ap length h.bytes)
