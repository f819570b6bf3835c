-- What the maker leaves in a buffer. Definitions alone.
use Rattle.std.specs.Prelude.{ℕ, List}
use Rattle.meaning.specs.Buffers.{Left, left}
use Rattle.meaning.specs.Rules.{Rules}
use Rattle.meaning.specs.Tables.{defined_table}

-- the table of some rules, written: 9 where there is none, 10 where it does not fit
abbrev pub defined_left : Rules → List ℕ → Left
defined_left r buf = left (defined_table 0 r) buf
