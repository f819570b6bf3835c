-- Parts of a form: what it is that a part stands in a file with its values, or is refused there, whatever comes behind it; and how parts follow
-- one another. Assumes nothing.
use Prim.Native.Nat.{ℕ, suc, ◌+◌, ◌-◌, ◌≤◌, ◌<◌}
use Rattle.std.specs.Prelude.{◌≡◌, List, [], ◌∷◌, ◌++◌, ℤ}
use Rattle.std.proofs.Math.Path.{refl}
use Rattle.std.proofs.Common.{sym, ap, ◌∙◌, append-nil, zero-add}
use native.Mathlib.Omega.{arith}
use Rattle.laws.specs.Lists.{tabs}
use Rattle.laws.specs.Tabs.{tabs-snoc, tabs-same}
use Rattle.meaning.specs.declared.Refusal.{Refusal}
use Rattle.meaning.specs.Files.{Form, end, Read, read, refused, before, values_at}
use Rattle.meaning.specs.Plants.{times}

-- values in front of those that are read behind them
unfoldable pub behind : List ℤ → Read (List ℤ) → Read (List ℤ)
behind [] r = r
behind (v ∷ vs) r = before v (behind vs r)

pub behind-append : (xs ys : List ℤ) (r : Read (List ℤ)) → behind (xs ++ ys) r ≡ behind xs (behind ys r)
unfolding behind
behind-append [] ys r = refl
behind-append (x ∷ xs) ys r = ap (before x) (behind-append xs ys r)

pub behind-refused : (vs : List ℤ) (e : Refusal) → behind vs (refused e) ≡ refused e
unfolding behind
behind-refused [] e = refl
behind-refused (v ∷ vs) e = ap (before v) (behind-refused vs e)

pub behind-read : (vs ws : List ℤ) (next : ℕ) → behind vs (read ws next) ≡ read (vs ++ ws) next
unfolding behind
behind-read [] ws next = refl
behind-read (v ∷ vs) ws next = ap (before v) (behind-read vs ws next)

-- the part stands in s from `at` up to `next`, with these values
pub record Holds (part : Form → Form) (s : List ℕ) (at : ℕ) (vs : List ℤ) (next : ℕ) : Type 0 where
  pub holds : (rest : Form) → values_at (part rest) s at ≡ behind vs (values_at rest s next)

-- the part is refused
pub record Fails (part : Form → Form) (s : List ℕ) (at : ℕ) (e : Refusal) : Type 0 where
  pub fails : (rest : Form) → values_at (part rest) s at ≡ refused e

module _ {f g : Form → Form} {s : List ℕ} {at m : ℕ} {vs : List ℤ} where
  pub holds_then : {ws : List ℤ} {next : ℕ} → Holds f s at vs m → Holds g s m ws next → Holds (λ rest. f (g rest)) s at (vs ++ ws) next
  holds_then {ws} {next} p q = record {
    holds = λ rest. p.holds (g rest) ∙ ap (behind vs) (q.holds rest) ∙ rw (behind-append vs ws (values_at rest s next)) refl;
  }

  pub holds-fails : {e : Refusal} → Holds f s at vs m → Fails g s m e → Fails (λ rest. f (g rest)) s at e
  holds-fails {e} p q = record { fails = λ rest. p.holds (g rest) ∙ ap (behind vs) (q.fails rest) ∙ behind-refused vs e }

pub fails-then : {f g : Form → Form} {s : List ℕ} {at : ℕ} {e : Refusal} → Fails f s at e → Fails (λ rest. f (g rest)) s at e
fails-then {g = g} p = record { fails = λ rest. p.fails (g rest) }

-- the last part
pub holds-last : {f : Form → Form} {s : List ℕ} {at next : ℕ} {vs : List ℤ} → Holds f s at vs next → values_at (f end) s at ≡ read vs next
unfolding values_at
holds-last {next = next} {vs = vs} p = p.holds end ∙ behind-read vs [] next ∙ rw append-nil refl

-- ---- a part many times: n times from `at` on, of which i are done, the values of the k-th being f k, and p the place behind them

pub record Rows (part : Form → Form) (f : ℕ → List ℤ) (s : List ℕ) (at n i p : ℕ) : Type 0 where
  pub few : i ≤ n
  pub done : (rest : Form) → values_at (times n part rest) s at ≡ behind (tabs f i 0) (values_at (times (n - i) part rest) s p)

pub rows_none : (part : Form → Form) (f : ℕ → List ℤ) (s : List ℕ) (at n : ℕ) → Rows part f s at n 0 at
unfolding tabs behind
rows_none part f s at n = record { few = omega arith; done = λ rest. let q : n - 0 ≡ n = omega arith in rw q refl }

module _ {part : Form → Form} {f : ℕ → List ℤ} {s : List ℕ} {at n i p : ℕ} (w : Rows part f s at n i p) where
  one_more : i < n → (rest : Form) → times (n - i) part rest ≡ part (times (n - (i + 1)) part rest)
  unfolding times
  one_more h rest = let q : n - i ≡ suc (n - (i + 1)) = omega arith in rw q refl

  pub rows_more : (g : ℕ → List ℤ) (next : ℕ) → i < n → ((k : ℕ) → k < i → g k ≡ f k) → Holds part s p (g i) next → Rows part g s at n (i + 1) next
  rows_more g next h same t = record {
    few = omega arith;
    done = λ rest.
        w.done rest
        ∙ ap (λ (x : Form). behind (tabs f i 0) (values_at x s p)) (one_more h rest)
        ∙ ap (behind (tabs f i 0)) (t.holds (times (n - (i + 1)) part rest))
        ∙ sym (behind-append (tabs f i 0) (g i) (values_at (times (n - (i + 1)) part rest) s next))
        ∙ ap (λ (vs : List ℤ). behind vs (values_at (times (n - (i + 1)) part rest) s next)) grown;
  }
    where
      grown : tabs f i 0 ++ g i ≡ tabs g (i + 1) 0
      grown =
          let q : 0 + i ≡ i = zero-add i in
          sym (tabs-snoc g i 0 ∙ rw (tabs-same g f i 0 (λ k a b. same k (omega arith)), q) refl)

  pub rows-fails : {e : Refusal} → i < n → Fails part s p e → Fails (times n part) s at e
  rows-fails {e} h t = record {
    fails = λ rest.
        w.done rest
        ∙ ap (λ (x : Form). behind (tabs f i 0) (values_at x s p)) (one_more h rest)
        ∙ ap (behind (tabs f i 0)) (t.fails (times (n - (i + 1)) part rest))
        ∙ behind-refused (tabs f i 0) e;
  }

  pub rows_all : n ≤ i → Holds (times n part) s at (tabs f n 0) p
  unfolding times
  rows_all h = record { holds = λ rest. let q : n - i ≡ 0 = omega arith in let j : i ≡ n = omega (arith, w.few) in rw (q, j) at (w.done rest) }
