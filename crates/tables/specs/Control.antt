-- Whether a call may go on, by the tests that the code makes. Definitions alone.
use Rattle.std.specs.Prelude.{Bool, List, Ok, Err}
use Rattle.laws.specs.Guards.{guard}
use Rattle.laws.specs.Lists.{all, first_false}
use Rattle.meaning.specs.Answers.{Verdict}
use Rattle.meaning.specs.Refusals.{outside, bad_state}

-- a state that can be, then a reading that the box holds, dimension by dimension: 12 before 11
abbrev pub admission : Bool → List Bool → Verdict
admission can fit = guard can (Err bad_state) λ _. guard (all fit) (Err (outside (first_false fit))) λ _. Ok tt
