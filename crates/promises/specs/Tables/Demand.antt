-- S9, demand 3. On an accepted table, over runs of any length, whatever readings come that may follow: no call is refused, every reading lies in S,
-- and from each idle call the room is back in R, idle, within as many samples as the table's longest pattern: trips, repeated since the goal lies in R.
-- Over any rules whose numbers fit five bytes, that split well and whose patterns keep their word and end in R. Relies on pages Accept, Trips and TableTrips.
-- That some reading always follows, so that no run gets stuck, is S12.
use Rattle.std.specs.Prelude.{ℕ, ◌≡◌, List, length, Ok}
use Rattle.meaning.specs.Control.{idle}
use Rattle.meaning.specs.Rules.{Rules, holds}
use Rattle.meaning.specs.Trees.{Tree, longest, table_of}
use Rattle.meaning.specs.Verdicts.{verdict}
use Rattle.promises.specs.Tables.Accept.{accepted-exactly}
use Rattle.promises.specs.Tables.Laws.{Sizes, Splits, Motion, Returns}
use Rattle.promises.specs.Tables.Shapes.{Working}
use Rattle.promises.specs.Tables.TableTrips.{Gives, table-trips}
use Rattle.promises.specs.Tables.Trips.{Repeated, repeated}

-- demand 3 of the table s, whose longest pattern has so many modes
abbrev pub Demand : Rules → List ℕ → ℕ → Type 0
Demand r s most = Repeated idle (Gives r s) r.follows (holds r r.safe) (holds r r.goal) (holds r r.root) most

-- of the table of a working tree
pub tree-demand : (r : Rules) → Sizes r → Splits r → Motion r → Returns r → (s : List ℕ) (t : Tree) → Working r t → s ≡ table_of r t → Demand r s (longest t)
tree-demand r sizes splits motion returns s t o q =
    rw q (repeated idle (Gives r (table_of r t)) r.follows (holds r r.safe) (holds r r.goal) (holds r r.root) returns (longest t)
    (λ x h. let w = table-trips r sizes splits motion t o x h in (length w.the.modes, w.short, w.trip)))

-- S9: of every accepted table, and of the one tree that it is the table of
pub demand : (r : Rules) → Sizes r → Splits r → Motion r → Returns r → (s : List ℕ) → verdict r s ≡ Ok tt
    → (t : Tree) × Working r t × (s ≡ table_of r t) × Demand r s (longest t)
demand r sizes splits motion returns s e =
    let w = (accepted-exactly r sizes s).0 e in
    (w.0, w.1, w.2, tree-demand r sizes splits motion returns s w.0 w.1 w.2)
