-- Tables inside a start file as the code finds them, and how what is told of one is moved to the file. Definitions alone.
use Rattle.std.specs.Prelude.{ℕ, ◌+◌, ◌^◌, ◌<◌, ◌≡◌, true, List, Ok, Err, Result}
use Rattle.meaning.specs.declared.Refusal.{Refusal}
use Rattle.meaning.specs.Refusals.{at_byte}
use Rattle.meaning.specs.Starts.{on_length, on_part}

-- the table whose length stands at a place, and the one that i others stand before
abbrev pub part_at : List ℕ → ℕ → Result (ℕ × ℕ) Refusal
part_at s at = on_length s at Err λ first size. Ok (first, size)

abbrev pub part_behind : ℕ → List ℕ → ℕ → Result (ℕ × ℕ) Refusal
part_behind i s at = on_part i s at Err λ first size. Ok (first, size)

abbrev pub on_found : {A : Type 0} → Result (ℕ × ℕ) Refusal → (Refusal → A) → (ℕ → ℕ → A) → A
on_found (Err e) refuse rest = refuse e
on_found (Ok (first, size)) refuse rest = rest first size

-- the place of a refusal, where it is a byte's, can be moved
abbrev pub Movable : ℕ → Refusal → Type 0
Movable from e = at_byte e.number ≡ true → from + e.place < 2 ^ 64
