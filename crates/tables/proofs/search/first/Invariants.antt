-- `search::first`: what is left of the path says what the length says, and what is left of the lengths says what the search says. Assumes nothing.
use Prim.Native.Nat.{◌-◌, ◌≤◌}
use mathlib.Core.Path.{◌≡◌}
use Rattle.tables.specs.Levels.{level_in}
use Rattle.tables.specs.Search.{moves_lent, sought, sought_from, shortest_lent, Standing}
use Rattle.tables.proofs.search.Paths.{Along, turns_along}
use Rattle.tables.proofs.search.first.Given as goal

abbrev pub invariant-loop-u : goal.invariant-loop-u
invariant-loop-u l =
    (level_in l.n l.boxes 0 ≡ level_in l.n l.initial.boxes 0) × Along l.n l.count l.q l.bands l.coef l.limits l.m (sought (moves_lent l.n l.count l.q l.bands l.coef l.limits) l.m (level_in l.n l.initial.boxes 0)) l.boxes l.us l.l l.u × (l.size ≡ 0)

abbrev pub decreases-loop-u : goal.decreases-loop-u
decreases-loop-u l = turns_along l.n l.count l.q l.bands l.coef l.limits l.m l.boxes l.us l.l l.u

abbrev pub invariant-search : goal.invariant-search
invariant-search l =
    (l.m ≤ l.k) × Standing l.n l.count l.q l.bands l.coef l.limits l.boxes l.us × (level_in l.n l.boxes 0 ≡ level_in l.n l.initial.boxes 0)
    × (sought_from (moves_lent l.n l.count l.q l.bands l.coef l.limits) (l.k - l.m) l.m (level_in l.n l.initial.boxes 0) ≡ shortest_lent l.n l.count l.q l.bands l.coef l.limits l.k (level_in l.n l.initial.boxes 0)) × (l.size ≡ 0)
