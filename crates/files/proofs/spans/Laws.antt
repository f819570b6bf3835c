-- A span by its two numbers, against the form. Assumes nothing.
use Rattle.std.specs.Prelude.{Ok, Err, Result, ok_or}
use Prim.Native.Nat.{ℕ}
use mathlib.Core.Path.{◌≡◌, ap, ◌∙◌}
use mathlib.Core.List.{List}
use lib.IntN.{ℤ}
use Rattle.meaning.specs.declared.Refusal.{Refusal}
use Rattle.meaning.specs.Files.{refused, before}
use Rattle.meaning.specs.Plants.{ranged}
use Rattle.files.specs.Fields.{ranged_at, fault_at}
use Rattle.files.specs.FieldLaws.{was-taken, was-refused, ranged-was, ranged-fault}
use Rattle.files.specs.Parts.{behind, Fails}
use Rattle.files.specs.Spans.{span_in, Spanned}

-- what a signed number's reader answers
abbrev Read : Type 0
Read = Result (ℤ × ℕ) Refusal

module _ (least most : ℤ) (s : List ℕ) (from : ℕ) where
  pub lo-fails : (r : Refusal) → ◌≡◌ {A = Read} (Err r) (ok_or (ranged_at s from least most) (fault_at s from)) → Fails (span_in least most) s from r
  lo-fails r e =
      let w = was-refused (ranged_at s from least most) (fault_at s from) r e in
      record { fails = λ rest. ranged-fault s from least most (λ lo. ranged lo most λ _. rest) w.0 ∙ ap refused w.1 }

  module _ (lo : ℤ) (mid : ℕ) (e : ◌≡◌ {A = Read} (Ok (lo, mid)) (ok_or (ranged_at s from least most) (fault_at s from))) where
    pub hi-fails : (r : Refusal) → ◌≡◌ {A = Read} (Err r) (ok_or (ranged_at s mid lo most) (fault_at s mid)) → Fails (span_in least most) s from r
    hi-fails r g =
        let w = was-refused (ranged_at s mid lo most) (fault_at s mid) r g in
        let taken = was-taken (ranged_at s from least most) (fault_at s from) (lo, mid) e in
        record {
          fails = λ rest.
              (ranged-was s from least most lo mid taken).holds (λ l. ranged l most λ _. rest)
              ∙ ap (before lo) (ranged-fault s mid lo most (λ _. rest) w.0 ∙ ap refused w.1);
        }

    pub spanned : (hi : ℤ) (next : ℕ) → ◌≡◌ {A = Read} (Ok (hi, next)) (ok_or (ranged_at s mid lo most) (fault_at s mid)) → Spanned least most s from lo hi next
    unfolding behind
    spanned hi next g =
        let a = ranged-was s from least most lo mid (was-taken (ranged_at s from least most) (fault_at s from) (lo, mid) e) in
        let b = ranged-was s mid lo most hi next (was-taken (ranged_at s mid lo most) (fault_at s mid) (hi, next) g) in
        record {
          part = record { holds = λ rest. a.holds (λ l. ranged l most λ _. rest) ∙ ap (before lo) (b.holds (λ _. rest)) };
          low = a.low;
          order = b.low;
          high = b.high;
        }
