-- Of page ShutOut (specs/Paper): a checker that accepts all. It rests on that page's `run₄`, and stands here since a theorem of specs/ that rests on a wrong
-- one leaves a wrong program untried.
use Rattle.std.specs.Prelude.{ℕ, ◌≡◌, true, List, Ok}
use Rattle.laws.specs.Tests.{never}
use Rattle.meaning.specs.Computing.{computing}
use Rattle.meaning.specs.Tables.{safe_in}
use Rattle.promises.specs.Paper.AsStated.{Checker, KeepsPromise}
use Rattle.promises.specs.Tables.Promise.{Promised}
use Rattle.promises.specs.Paper.Starred.{P, table₄}
use Rattle.promises.specs.Paper.ShutOut.{just, run₄}

-- which P's S does not hold
pub leaves-safe : (most : ℕ) → Promised P table₄ most → ⊥
unfolding computing
leaves-safe most h = let e : safe_in P (just 232) ≡ true = h.in-safe run₄ in never e

pub accepts-all : (check : Checker) → ((plant table : List ℕ) → check plant table ≡ Ok tt) → KeepsPromise check → ⊥
accepts-all check all demand = let w = demand P table₄ (all P table₄) in leaves-safe _ w.1
