-- What is put into `out` of a verdict and of what a writer answers. Definitions alone.
use Rattle.std.specs.Prelude.{ℕ, List, [], ◌∷◌, Ok, Err}
use Rattle.meaning.specs.Answers.{Written}
use Rattle.meaning.specs.Refusals.{Shown}

-- place and step
abbrev pub place_and_step : Shown → List ℕ
place_and_step a = a.place ∷ a.step ∷ []

-- of a writer's answer: the length written, or the refusal's place and step
abbrev pub length_or_place : Written → List ℕ
length_or_place (Ok m) = m ∷ 0 ∷ []
length_or_place (Err e) = e.place ∷ e.step ∷ []
