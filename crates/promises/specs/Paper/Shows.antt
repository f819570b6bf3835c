-- What an answer shows (meaning's page Refusals) says which answer it is: two that show the same number, place, step and values are the same; of verdicts and
-- of a controller's answers where no refusal's number is 0 (page Told says so). So a promise may be stated by what is shown (page Shown). Assumes nothing.
use Rattle.std.specs.Prelude.{ℕ, ◌≡◌, refl, List, [], ◌∷◌, ◌↔◌, ℤ, pos, Some, None, Ok, Err}
use Rattle.std.proofs.Common.{sym, ap, arith}
use Rattle.laws.specs.Tests.{never}
use Rattle.meaning.specs.Answers.{Number, Signed, Walk, Verdict, Written, Answer, Whole}
use Rattle.meaning.specs.declared.Refusal.{Refusal}
use Rattle.meaning.specs.declared.Tried.{Tried}
use Rattle.meaning.specs.declared.State.{State}
use Rattle.meaning.specs.Refusals.{Shown, number_shown, signed_shown, tried_shown, walk_shown, whole_shown, verdict_shown, written_shown, answer_shown}

-- number, place, step and values
abbrev pub shows : ℕ → ℕ → ℕ → List ℤ → Shown
shows n p i vs = record { number = n; place = p; step = i; values = vs }

-- a refusal, and the values beside it
abbrev pub refusing : Refusal → List ℤ → Shown
refusing e vs = shows e.number e.place e.step vs

-- no mode and idle
abbrev pub no_mode : List ℤ
no_mode = pos 65_535 ∷ pos 0 ∷ pos 0 ∷ []

-- ---- what is shown says which it is

-- of two that are the same, each part is
module _ {n m p q i j : ℕ} {vs ws : List ℤ} (e : shows n p i vs ≡ shows m q j ws) where
  same_number : n ≡ m
  same_number = ap (λ (a : Shown). a.number) e

  same_place : p ≡ q
  same_place = ap (λ (a : Shown). a.place) e

  same_step : i ≡ j
  same_step = ap (λ (a : Shown). a.step) e

  same-values : vs ≡ ws
  same-values = ap (λ (a : Shown). a.values) e

pub same-refusal : (e f : Refusal) (vs ws : List ℤ) → refusing e vs ≡ refusing f ws → e ≡ f
same-refusal e f vs ws q = λ k. record { number = same_number q k; place = same_place q k; step = same_step q k }

-- numbers that differ
differ : {A : Type 0} (n m : ℕ) {p q i j : ℕ} {vs ws : List ℤ} → (n ≡ m → ⊥) → shows n p i vs ≡ shows m q j ws → A
differ n m h e = absurd (h (same_number e))

-- ---- answers whose refusals are known: 1; 7 and 8; 14

module _ (at : ℕ) where
  pub number-exactly : (a b : Number) → (number_shown at a ≡ number_shown at b) ↔ (a ≡ b)
  number-exactly a b = (go a b, λ e. ap (number_shown at) e)
    where
      go : (a b : Number) → number_shown at a ≡ number_shown at b → a ≡ b
      go (Some (u, m)) (Some (v, n)) e = let q = same-values e in cc
      go (Some (u, m)) None e = differ 0 1 (λ q. omega arith) e
      go None (Some (v, n)) e = differ 1 0 (λ q. omega arith) e
      go None None e = refl

  pub signed-exactly : (a b : Signed) → (signed_shown at a ≡ signed_shown at b) ↔ (a ≡ b)
  signed-exactly a b = (go a b, λ e. ap (signed_shown at) e)
    where
      go : (a b : Signed) → signed_shown at a ≡ signed_shown at b → a ≡ b
      go (Some (u, m)) (Some (v, n)) e = let q = same-values e in cc
      go (Some (u, m)) None e = differ 0 1 (λ q. omega arith) e
      go None (Some (v, n)) e = differ 1 0 (λ q. omega arith) e
      go None None e = refl

  pub tried-exactly : (a b : Tried) → (tried_shown at a ≡ tried_shown at b) ↔ (a ≡ b)
  tried-exactly a b = (go a b, λ e. ap (tried_shown at) e)
    where
      go : (a b : Tried) → tried_shown at a ≡ tried_shown at b → a ≡ b
      go Tried.Works Tried.Works e = refl
      go Tried.Works (Tried.Leaves j) e = differ 0 7 (λ q. omega arith) e
      go Tried.Works (Tried.Misses j) e = differ 0 8 (λ q. omega arith) e
      go (Tried.Leaves i) Tried.Works e = differ 7 0 (λ q. omega arith) e
      go (Tried.Leaves i) (Tried.Leaves j) e = ap Tried.Leaves (same_step e)
      go (Tried.Leaves i) (Tried.Misses j) e = differ 7 8 (λ q. omega arith) e
      go (Tried.Misses i) Tried.Works e = differ 8 0 (λ q. omega arith) e
      go (Tried.Misses i) (Tried.Leaves j) e = differ 8 7 (λ q. omega arith) e
      go (Tried.Misses i) (Tried.Misses j) e = ap Tried.Misses (same_step e)

pub whole-exactly : (k : ℕ) (a b : Whole) → (whole_shown k a ≡ whole_shown k b) ↔ (a ≡ b)
whole-exactly k a b = (go a b, λ e. ap (whole_shown k) e)
  where
    go : (a b : Whole) → whole_shown k a ≡ whole_shown k b → a ≡ b
    go (Some u) (Some v) e = let q = same-values e in cc
    go (Some u) None e = differ 0 14 (λ q. omega arith) e
    go None (Some v) e = differ 14 0 (λ q. omega arith) e
    go None None e = refl

-- ---- answers that pass a refusal on: where they are done they show values, and a refusal shows none

pub written-exactly : (a b : Written) → (written_shown a ≡ written_shown b) ↔ (a ≡ b)
written-exactly a b = (go a b, λ e. ap written_shown e)
  where
    go : (a b : Written) → written_shown a ≡ written_shown b → a ≡ b
    go (Ok m) (Ok n) e = let q = same-values e in cc
    go (Ok m) (Err f) e = let q = same-values e in never cc
    go (Err f) (Ok n) e = let q = same-values e in never cc
    go (Err f) (Err g) e = ap Err (same-refusal f g [] [] e)

pub walk-exactly : (a b : Walk) → (walk_shown a ≡ walk_shown b) ↔ (a ≡ b)
walk-exactly a b = (go a b, λ e. ap walk_shown e)
  where
    go : (a b : Walk) → walk_shown a ≡ walk_shown b → a ≡ b
    go (Ok m) (Ok n) e = let q = same-values e in cc
    go (Ok m) (Err f) e = let q = same-values e in never cc
    go (Err f) (Ok n) e = let q = same-values e in never cc
    go (Err f) (Err g) e = ap Err (same-refusal f g [] [] e)

-- ---- those that a refusal of number 0 could be taken for

-- a refusal's number is not 0
abbrev pub Numbered : Refusal → Type 0
Numbered e = e.number ≡ 0 → ⊥

abbrev pub SomeVerdict : Verdict → Type 0
SomeVerdict v = (e : Refusal) → v ≡ Err e → Numbered e

pub verdict-exactly : (a b : Verdict) → SomeVerdict a → SomeVerdict b → (verdict_shown a ≡ verdict_shown b) ↔ (a ≡ b)
verdict-exactly a b h k = (go a b h k, λ e. ap verdict_shown e)
  where
    go : (a b : Verdict) → SomeVerdict a → SomeVerdict b → verdict_shown a ≡ verdict_shown b → a ≡ b
    go (Ok _) (Ok _) h k e = refl
    go (Ok _) (Err f) h k e = absurd (k f refl (sym (same_number e)))
    go (Err f) (Ok _) h k e = absurd (h f refl (same_number e))
    go (Err f) (Err g) h k e = ap Err (same-refusal f g [] [] e)

abbrev pub SomeAnswer : Answer → Type 0
SomeAnswer a = (e : Refusal) → a ≡ Err e → Numbered e

same-state : (u v : ℕ) (s t : State) → pos u ∷ pos s.place ∷ pos s.left ∷ [] ≡ pos v ∷ pos t.place ∷ pos t.left ∷ [] → ◌≡◌ {A = Answer} (Ok (u, s)) (Ok (v, t))
same-state u v s t e =
    let a : u ≡ v = cc in
    let p : s.place ≡ t.place = cc in
    let l : s.left ≡ t.left = cc in
    λ k. Ok (a k, record { place = p k; left = l k })

pub answer-exactly : (a b : Answer) → SomeAnswer a → SomeAnswer b → (answer_shown a ≡ answer_shown b) ↔ (a ≡ b)
answer-exactly a b h k = (go a b h k, λ e. ap answer_shown e)
  where
    go : (a b : Answer) → SomeAnswer a → SomeAnswer b → answer_shown a ≡ answer_shown b → a ≡ b
    go (Ok (u, s)) (Ok (v, t)) h k e = same-state u v s t (same-values e)
    go (Ok (u, s)) (Err f) h k e = absurd (k f refl (sym (same_number e)))
    go (Err f) (Ok (v, t)) h k e = absurd (h f refl (same_number e))
    go (Err f) (Err g) h k e = ap Err (same-refusal f g no_mode no_mode e)

-- what is done is no refusal
pub accepted-some : SomeVerdict (Ok tt)
accepted-some e q = never cc

pub refused-some : (f : Refusal) → Numbered f → SomeVerdict (Err f)
refused-some f s e q = let z : f ≡ e = cc in rw z at s

pub mode-some : (u : ℕ) (then : State) → SomeAnswer (Ok (u, then))
mode-some u then e q = never cc

pub call-some : (f : Refusal) → Numbered f → SomeAnswer (Err f)
call-some f s e q = let z : f ≡ e = cc in rw z at s
