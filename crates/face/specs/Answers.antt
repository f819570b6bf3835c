-- What is answered and put into `out` of a controller's call, on a table and on a start file, and the state that it takes. Definitions alone.
use Rattle.std.specs.Prelude.{ℕ, List, [], ◌∷◌, nat_abs}
use Rattle.laws.specs.Lists.{at}
use Rattle.meaning.specs.declared.State.{State}
use Rattle.meaning.specs.declared.StartState.{StartState}
use Rattle.meaning.specs.Refusals.{Shown}

-- the mode; and number, place, step, next place, next left
abbrev pub mode : Shown → ℕ
mode a = nat_abs (at a.values 0)

abbrev pub number_and_state : Shown → List ℕ
number_and_state a = a.number ∷ a.place ∷ a.step ∷ nat_abs (at a.values 1) ∷ nat_abs (at a.values 2) ∷ []

-- the state that place and left are
abbrev pub state_of : ℕ → ℕ → State
state_of place left = record { place = place; left = left }

-- the same of a start file: the next index stands before place and left
abbrev pub numbers_and_state : Shown → List ℕ
numbers_and_state a = a.number ∷ a.place ∷ a.step ∷ nat_abs (at a.values 1) ∷ nat_abs (at a.values 2) ∷ nat_abs (at a.values 3) ∷ []

abbrev pub start_state_of : ℕ → ℕ → ℕ → StartState
start_state_of index place left = record { index = index; state = state_of place left }
