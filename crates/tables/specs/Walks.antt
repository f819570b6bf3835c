-- The walk by what it makes of a tile: the checker's judges it by the tile rule, the passing of a subtree lets it be. Definitions alone.
use Rattle.std.specs.Prelude.{Bool, true, false, List, ℕ}
use Rattle.meaning.specs.Answers.{Walk}
use Rattle.meaning.specs.declared.Tried.{Tried}
use Rattle.meaning.specs.declared.Tried.TheVariants.{Works}
use Rattle.meaning.specs.Rules.{Rules, rule}
use Rattle.meaning.specs.Verdicts.{walk}

abbrev pub judge_by : Bool → (r : Rules) → Rules.Box r → List ℕ → Tried
judge_by true r b us = rule r b us
judge_by false r b us = Works

abbrev pub walk_by : Bool → (r : Rules) → ℕ → List ℕ → ℕ → Rules.Box r → Walk
walk_by judged r d s at b = walk r (judge_by judged r) d s at b
