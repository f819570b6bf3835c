-- The header that plant and sheet files begin with, as it was read: a form in 1..forms, n, a number in 1..most, q, K, D; and the test of a range by its halves.
-- Relies on page Files.
use Rattle.std.specs.Prelude.{ℕ, ◌≤◌, ◌≡◌, refl, true, List, ◌∷◌, leb, ℤ, pos, nat_abs}
use Rattle.std.proofs.Common.{leb-true, le-leb}
use Rattle.laws.specs.Tests.{first, second, both}
use Rattle.meaning.specs.Files.{Form, read, values_at}
use Rattle.meaning.specs.Plants.{from, headed}
use Rattle.promises.specs.Files.Files.{field-read}

-- ---- a number in its range

pub least-of : (least most v : ℕ) → from least most v ≡ true → least ≤ v
least-of least most v e = leb-true least v (first (leb least v) (leb v most) e)

pub most-of : (least most v : ℕ) → from least most v ≡ true → v ≤ most
most-of least most v e = leb-true v most (second (leb least v) (leb v most) e)

pub from-holds : (least most v : ℕ) → least ≤ v → v ≤ most → from least most v ≡ true
from-holds least most v a b = both (le-leb least v a) (le-leb v most b)

-- ---- the header

-- its values, what was read behind it and where that begins
pub record Headed (forms most : ℕ) (rest : ℕ → ℕ → ℕ → Form) (s : List ℕ) (i : ℕ) (vs : List ℤ) (next : ℕ) : Type 0 where
  pub form : ℕ
  pub n : ℕ
  pub m : ℕ
  pub q : ℕ
  pub k : ℕ
  pub d : ℕ
  pub body : List ℤ
  pub place : ℕ
  pub values : vs ≡ pos form ∷ pos n ∷ pos m ∷ pos q ∷ pos k ∷ pos d ∷ body
  pub first : 1 ≤ form
  pub known : form ≤ forms
  pub few : n ≤ 4
  pub some : 1 ≤ m
  pub many : m ≤ most
  pub behind : values_at (rest form n m) s place ≡ read body next

-- a fact under a name: antt would write a `let`'s value out at each use
given : {A B : Type 0} → A → (A → B) → B
given a rest = rest a

next-is : {vs us ws : List ℤ} {u v : ℤ} → vs ≡ v ∷ us → u ≡ v → us ≡ ws → vs ≡ u ∷ ws
next-is e p q = rw (e, p, q) refl

pub headed-read : (forms most : ℕ) (rest : ℕ → ℕ → ℕ → Form) (s : List ℕ) (i : ℕ) {vs : List ℤ} {next : ℕ}
    → values_at (headed forms most rest) s i ≡ read vs next → Headed forms most rest s i vs next
unfolding headed
headed-read forms most rest s i {vs} {next} e =
    given (field-read _ _ s i e) λ a.
    given (field-read _ _ s a.mid a.behind) λ b.
    given (field-read _ _ s b.mid b.behind) λ c.
    given (field-read _ _ s c.mid c.behind) λ d.
    given (field-read _ _ s d.mid d.behind) λ f.
    given (field-read _ _ s f.mid f.behind) λ g.
    record {
      form = nat_abs a.value;
      n = nat_abs b.value;
      m = nat_abs c.value;
      q = nat_abs d.value;
      k = nat_abs f.value;
      d = nat_abs g.value;
      body = g.others;
      place = g.mid;
      values = next-is a.values a.storable (next-is b.values b.storable (next-is c.values c.storable
          (next-is d.values d.storable (next-is f.values f.storable (next-is g.values g.storable refl)))));
      first = least-of 1 forms (nat_abs a.value) a.right;
      known = most-of 1 forms (nat_abs a.value) a.right;
      few = most-of 1 4 (nat_abs b.value) b.right;
      some = least-of 1 most (nat_abs c.value) c.right;
      many = most-of 1 most (nat_abs c.value) c.right;
      behind = g.behind;
    }
