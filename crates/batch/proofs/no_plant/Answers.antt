-- `no_plant` is the definition's zeros. Assumes nothing.
use mathlib.Core.Path.{refl}
use Rattle.laws.specs.Lists.{tab, tabs}
use Rattle.meaning.specs.Plants.{plant_of}
use Rattle.batch.proofs.no_plant.Goals as goal

pub returns : goal.returns
unfolding plant_of tab tabs
returns c = refl
