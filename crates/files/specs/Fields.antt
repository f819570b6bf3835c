-- One number of a file, judged, as the code takes it: in range with the place behind it, or broken, and then the fault.
-- Relies on meaning's page Numbers for how a number is read. Leaves out the form that the number is a field of (page FieldLaws).
use Rattle.std.specs.Prelude.{ℕ, cond, List, ltb, ℤ, Some, None}
use Rattle.std.specs.Int.Signed.{lt_z}
use Rattle.meaning.specs.Answers.{Number, Signed}
use Rattle.meaning.specs.declared.Refusal.{Refusal}
use Rattle.meaning.specs.Numbers.{number_at, signed_at}
use Rattle.meaning.specs.Refusals.{broken, unfit}

abbrev pub in_range : ℕ → ℕ → Number → Number
in_range least most None = None
in_range least most (Some (v, next)) = cond (ltb v least) None (cond (ltb most v) None (Some (v, next)))

abbrev pub counted_at : List ℕ → ℕ → ℕ → ℕ → Number
counted_at s at least most = in_range least most (number_at s at)

abbrev pub in_span : ℤ → ℤ → Signed → Signed
in_span least most None = None
in_span least most (Some (v, next)) = cond (lt_z v least) None (cond (lt_z most v) None (Some (v, next)))

abbrev pub ranged_at : List ℕ → ℕ → ℤ → ℤ → Signed
ranged_at s at least most = in_span least most (signed_at s at)

abbrev pub fault_of : ℕ → Number → Refusal
fault_of at None = broken at
fault_of at (Some (v, next)) = unfit at

abbrev pub fault_at : List ℕ → ℕ → Refusal
fault_at s at = fault_of at (number_at s at)
