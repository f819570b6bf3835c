-- A tile's modes as the code hands them on: in front of an array. Definitions alone.
use Rattle.std.specs.Prelude.{ℕ, List, Result, Ok, Err}
use Rattle.meaning.specs.declared.Refusal.{Refusal}
use Rattle.meaning.specs.Files.{Read, read, refused}
use Rattle.tables.specs.Tiles.{pattern_of}

-- the first k of the array, where they were read
abbrev pub read_of : ℕ → Result (List ℕ × ℕ) Refusal → Read (List ℕ)
read_of k (Ok (us, next)) = read (pattern_of k us) next
read_of k (Err e) = refused e
