-- Two lists with the same bytes from one place up to another: what stands there in one stands there in the other, and a number that is read there in one is read in the
-- other. Assumes nothing but the laws of numbers.
use Rattle.std.specs.Prelude.{ℕ, ◌+◌, ◌≤◌, ◌<◌, ◌≡◌, ◌⊎◌, length, get_or, drop, take, Some}
use Rattle.std.proofs.Common.{sym, ap, ◌∙◌, inl, inr, add-one, arith, length-take, drop-cons, get_or-take}
use mathlib.Core.List.{List, [], ◌∷◌, ◌++◌}
use Rattle.laws.specs.Every as E
use Rattle.laws.specs.Every.{Every}
use Rattle.laws.specs.Standing.{Stands, stand-nil, at-cons}
use Rattle.meaning.specs.Numbers.{number_at, bytes_of}
use Rattle.promises.specs.Files.Numbers.{reads, was}

-- the bytes from a place up to another
pub record Span : Type 0 where
  pub from : ℕ
  pub to : ℕ

abbrev pub span : ℕ → ℕ → Span
span from to = record { from = from; to = to }

-- a place in one of some spans
unfoldable pub In : List Span → ℕ → Type 0
In [] k = ⊥
In (p ∷ ps) k = ((p.from ≤ k) × (k < p.to)) ⊎ In ps k

pub in-before : (e : ℕ) (ps : List Span) (k : ℕ) → Every (λ p. p.to ≤ e) ps → In ps k → k < e
unfolding In E.Every
in-before e [] k h i = absurd i
in-before e (p ∷ ps) k h (inl i) = omega (arith, h.0, i.1)
in-before e (p ∷ ps) k h (inr i) = in-before e ps k h.1 i

module _ (s z : List ℕ) where
  abbrev pub Same : ℕ → ℕ → Type 0
  Same from to = (k : ℕ) → from ≤ k → k < to → get_or z k 0 ≡ get_or s k 0

  -- z has them all
  abbrev pub Agreed : Span → Type 0
  Agreed p = (p.to ≤ length z) × Same p.from p.to

  pub stand-same : (bs : List ℕ) (at m : ℕ) → m ≤ length z → Same at m → Stands s at bs m → Stands z at bs m
  stand-same [] at m l a h = let q : m ≡ at = omega (arith, h.end) in rw q (stand-nil z at)
  stand-same (b ∷ bs) at m l a h =
      let q = at-cons s at b (bs ++ drop m s) h.bytes in
      let rest = stand-same bs (at + 1) m l (λ k g e. a k (omega arith) e) (record { end = omega (arith, h.end); bytes = q.2 }) in
      let byte : get_or z at 0 ≡ b = a at (omega arith) (omega (arith, h.end)) ∙ q.1 in
      record { end = h.end; bytes = drop-cons z at 0 (omega (arith, h.end)) ∙ rw byte (ap (λ (t : List ℕ). b ∷ t) (rw add-one at rest.bytes)) }

  pub number_same : (v at m : ℕ) → m ≤ length z → Same at m → number_at s at ≡ Some (v, m) → number_at z at ≡ Some (v, m)
  number_same v at m l a e = let w = was v at m s e in reads v at m z w.0 (stand-same (bytes_of v) at m l a w.1)

  -- lists that agree up to e
  pub taken-same : (e : ℕ) → e ≤ length s → take e s ≡ take e z → (p : Span) → p.to ≤ e → Agreed p
  taken-same e l t p h =
      let long : e ≤ length z = omega (arith, length-take e s, length-take e z, ap length t) in
      (omega arith, λ k a b. sym (get_or-take e z k 0 (omega arith)) ∙ ap (λ (y : List ℕ). get_or y k 0) (sym t) ∙ get_or-take e s k 0 (omega arith))

  -- lists that have the same bytes in all of some spans
  pub agreed-in : (e : ℕ) → e ≤ length z → (ps : List Span) → Every (λ p. p.to ≤ e) ps → ((k : ℕ) → In ps k → get_or z k 0 ≡ get_or s k 0) → Every Agreed ps
  unfolding In E.Every
  agreed-in e l [] h a = tt
  agreed-in e l (p ∷ ps) h a = ((omega (arith, h.0), λ k b c. a k (inl (b, c))), agreed-in e l ps h.1 (λ k i. a k (inr i)))
