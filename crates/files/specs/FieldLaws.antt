-- A field as the code takes it, against the form: taken, the values behind it follow; not taken, the file is refused by the fault. Assumes nothing.
use Rattle.std.specs.Prelude.{ℕ, ◌≤◌, ◌<◌, ◌≡◌, refl, Bool, true, false, ◌&&◌, cond, List, leb, ltb, ℤ, pos, Option, Some, None, Result, Ok, Err, ok_or}
use Rattle.std.proofs.Common.{sym, ap, ◌∙◌, arith, ltb-true, ltb-false, le-leb}
use Rattle.std.specs.Int.Signed.{le_z, lt_z}
use Rattle.std.proofs.lemmas.Bool.{lt-leb}
use Rattle.laws.specs.Pairs.{some-first, some-second}
use Rattle.laws.specs.Integers.{lt-nle, nlt-le}
use Rattle.laws.specs.Tests.{never}
use Rattle.meaning.specs.Answers.{Number, Signed}
use Rattle.meaning.specs.declared.Refusal.{Refusal}
use Rattle.meaning.specs.Refusals.{broken, unfit}
use Rattle.meaning.specs.Numbers.{number_at, signed_at, as_signed, restored}
use Rattle.meaning.specs.Files.{Form, refused, before, values_at}
use Rattle.meaning.specs.Plants.{counted, from, ranged}
use Rattle.files.specs.Fields.{in_range, counted_at, in_span, ranged_at, fault_of, fault_at}

-- ---- what the code answers, taken or not, says what the file has there

pub was-taken : {A : Type 0} (o : Option A) (f : Refusal) (v : A) → ◌≡◌ {A = Result A Refusal} (Ok v) (ok_or o f) → o ≡ Some v
was-taken None f v e = never cc
was-taken (Some w) f v e = cc

pub was-refused : {A : Type 0} (o : Option A) (f e : Refusal) → ◌≡◌ {A = Result A Refusal} (Err e) (ok_or o f) → (o ≡ None) × (f ≡ e)
was-refused None f e q = (refl, cc)
was-refused (Some w) f e q = never cc

-- ---- a number

module _ (ok : ℕ → Bool) (rest : ℕ → Form) (s : List ℕ) (at : ℕ) where
  pub taken-right : (v next : ℕ) → number_at s at ≡ Some (v, next) → ok v ≡ true → values_at (counted ok rest) s at ≡ before (pos v) (values_at (rest v) s next)
  unfolding values_at
  taken-right v next e o = simp (e, o)

  pub taken-wrong : (v next : ℕ) → number_at s at ≡ Some (v, next) → ok v ≡ false → values_at (counted ok rest) s at ≡ refused (unfit at)
  unfolding values_at
  taken-wrong v next e o = simp (e, o)

  pub not_taken : number_at s at ≡ None → values_at (counted ok rest) s at ≡ refused (broken at)
  unfolding values_at
  not_taken e = simp e

pub record Counted (s : List ℕ) (at least most v next : ℕ) : Type 0 where
  pub number : number_at s at ≡ Some (v, next)
  pub low : least ≤ v
  pub high : v ≤ most

pub counted-was : (s : List ℕ) (at least most v next : ℕ) → counted_at s at least most ≡ Some (v, next) → Counted s at least most v next
counted-was s at least most v next e = go (number_at s at) refl e
  where
    go : (n : Number) → number_at s at ≡ n → in_range least most n ≡ Some (v, next) → Counted s at least most v next
    go None q e = never cc
    go (Some (w, m)) q e = tests (ltb w least) refl (ltb most w) refl e
      where
        tests : (a : Bool) → ltb w least ≡ a → (b : Bool) → ltb most w ≡ b → cond {A = Number} a None (cond {A = Number} b None (Some (w, m))) ≡ Some (v, next) → Counted s at least most v next
        tests true p b r e = never cc
        tests false p true r e = never cc
        tests false p false r e =
            let i : w ≡ v = some-first e in
            let j : m ≡ next = some-second e in
            record { number = q ∙ rw (i, j) refl; low = omega (arith, ltb-false w least p); high = omega (arith, ltb-false most w r) }

-- not in range: the file is refused by the fault, for every test that asks as much
pub counted-fault : (ok : ℕ → Bool) (rest : ℕ → Form) (s : List ℕ) (at least most : ℕ) → ((v : ℕ) → v < least → ok v ≡ false) → ((v : ℕ) → most < v → ok v ≡ false)
    → counted_at s at least most ≡ None → values_at (counted ok rest) s at ≡ refused (fault_at s at)
counted-fault ok rest s at least most low high e = go (number_at s at) refl e
  where
    go : (n : Number) → number_at s at ≡ n → in_range least most n ≡ None → values_at (counted ok rest) s at ≡ refused (fault_at s at)
    go None q e = not_taken ok rest s at q ∙ ap (λ (n : Number). refused (fault_of at n)) (sym q)
    go (Some (w, m)) q e = tests (ltb w least) refl (ltb most w) refl e ∙ ap (λ (n : Number). refused (fault_of at n)) (sym q)
      where
        tests : (a : Bool) → ltb w least ≡ a → (b : Bool) → ltb most w ≡ b → cond {A = Number} a None (cond {A = Number} b None (Some (w, m))) ≡ None → values_at (counted ok rest) s at ≡ refused (unfit at)
        tests true p b r e = taken-wrong ok rest s at w m q (low w (ltb-true w least p))
        tests false p true r e = taken-wrong ok rest s at w m q (high w (ltb-true most w r))
        tests false p false r e = never cc

-- the plain range
module _ (rest : ℕ → Form) (s : List ℕ) (at least most : ℕ) where
  pub range-holds : (v next : ℕ) → counted_at s at least most ≡ Some (v, next) → values_at (counted (from least most) rest) s at ≡ before (pos v) (values_at (rest v) s next)
  range-holds v next e =
      let c = counted-was s at least most v next e in
      taken-right (from least most) rest s at v next c.number (simp (le-leb _ _ c.low, le-leb _ _ c.high))

  pub range-fails : counted_at s at least most ≡ None → values_at (counted (from least most) rest) s at ≡ refused (fault_at s at)
  range-fails e = counted-fault (from least most) rest s at least most (λ v h. simp (lt-leb _ _ h)) (λ v h. over v h (leb least v)) e
    where
      over : (v : ℕ) → most < v → (b : Bool) → b && leb v most ≡ false
      over v h true = simp (lt-leb _ _ h)
      over v h false = refl

-- ---- a signed number

pub record Ranged (s : List ℕ) (at : ℕ) (least most v : ℤ) (next : ℕ) : Type 0 where
  pub holds : (rest : ℤ → Form) → values_at (ranged least most rest) s at ≡ before v (values_at (rest v) s next)
  pub low : le_z least v ≡ true
  pub high : le_z v most ≡ true

module _ (s : List ℕ) (at : ℕ) (least most : ℤ) where
  right : (rest : ℤ → Form) (v : ℤ) (next : ℕ) → signed_at s at ≡ Some (v, next) → le_z least v ≡ true → le_z v most ≡ true → values_at (ranged least most rest) s at ≡ before v (values_at (rest v) s next)
  unfolding values_at
  right rest v next e l h = simp (e, l, h)

  wrong : (rest : ℤ → Form) (v : ℤ) (next : ℕ) → signed_at s at ≡ Some (v, next) → le_z least v && le_z v most ≡ false → values_at (ranged least most rest) s at ≡ refused (unfit at)
  unfolding values_at
  wrong rest v next e o = simp (e, o)

  gone : (rest : ℤ → Form) → signed_at s at ≡ None → values_at (ranged least most rest) s at ≡ refused (broken at)
  unfolding values_at
  gone rest e = simp e

  pub ranged-was : (v : ℤ) (next : ℕ) → ranged_at s at least most ≡ Some (v, next) → Ranged s at least most v next
  ranged-was v next e = go (signed_at s at) refl e
    where
      go : (n : Signed) → signed_at s at ≡ n → in_span least most n ≡ Some (v, next) → Ranged s at least most v next
      go None q e = never cc
      go (Some (w, m)) q e = tests (lt_z w least) refl (lt_z most w) refl e
        where
          tests : (a : Bool) → lt_z w least ≡ a → (b : Bool) → lt_z most w ≡ b → cond {A = Signed} a None (cond {A = Signed} b None (Some (w, m))) ≡ Some (v, next) → Ranged s at least most v next
          tests true p b r e = never cc
          tests false p true r e = never cc
          tests false p false r e =
              let i : w ≡ v = some-first e in
              let j : m ≡ next = some-second e in
              let l : le_z least v ≡ true = ap (le_z least) (sym i) ∙ nlt-le w least p in
              let h : le_z v most ≡ true = ap (λ (z : ℤ). le_z z most) (sym i) ∙ nlt-le most w r in
              record { holds = λ rest. right rest v next (q ∙ rw (i, j) refl) l h; low = l; high = h }

  pub ranged-fault : (rest : ℤ → Form) → ranged_at s at least most ≡ None → values_at (ranged least most rest) s at ≡ refused (fault_at s at)
  ranged-fault rest e = go (number_at s at) refl e
    where
      go : (n : Number) → number_at s at ≡ n → in_span least most (as_signed n) ≡ None → values_at (ranged least most rest) s at ≡ refused (fault_at s at)
      go None q e = gone rest (ap as_signed q) ∙ ap (λ (n : Number). refused (fault_of at n)) (sym q)
      go (Some (w, m)) q e = tests (lt_z z least) refl (lt_z most z) refl e ∙ ap (λ (n : Number). refused (fault_of at n)) (sym q)
        where
          z : ℤ
          z = restored w

          over : (b : Bool) → lt_z most z ≡ true → b && le_z z most ≡ false
          over true h = lt-nle most z h
          over false h = refl

          tests : (a : Bool) → lt_z z least ≡ a → (b : Bool) → lt_z most z ≡ b → cond {A = Signed} a None (cond {A = Signed} b None (Some (z, m))) ≡ None → values_at (ranged least most rest) s at ≡ refused (unfit at)
          tests true p b r e = wrong rest z m (ap as_signed q) (simp (lt-nle z least p))
          tests false p true r e = wrong rest z m (ap as_signed q) (over (le_z least z) r)
          tests false p false r e = never cc
