-- A lo with its hi as the code reads them: the part of the form that they are, with their values and the order that they stand in. Definitions alone.
use Rattle.std.specs.Prelude.{ℕ, ◌≡◌, true, List, [], ◌∷◌, ℤ, Ok, Err, Result}
use Rattle.std.specs.Int.Signed.{le_z}
use Rattle.meaning.specs.declared.Refusal.{Refusal}
use Rattle.meaning.specs.Files.{Form}
use Rattle.meaning.specs.Plants.{ranged}
use Rattle.files.specs.Parts.{Holds, Fails}

-- lo in least..most, hi in lo..most
abbrev pub span_in : ℤ → ℤ → Form → Form
span_in least most rest = ranged least most λ lo. ranged lo most λ _. rest

pub record Spanned (least most : ℤ) (s : List ℕ) (from : ℕ) (lo hi : ℤ) (next : ℕ) : Type 0 where
  pub part : Holds (span_in least most) s from (lo ∷ hi ∷ []) next
  pub low : le_z least lo ≡ true
  pub order : le_z lo hi ≡ true
  pub high : le_z hi most ≡ true

abbrev pub SpanTold : ℤ → ℤ → List ℕ → ℕ → Result (ℤ × ℤ × ℕ) Refusal → Type 0
SpanTold least most s from (Ok (lo, hi, next)) = Spanned least most s from lo hi next
SpanTold least most s from (Err e) = Fails (span_in least most) s from e
