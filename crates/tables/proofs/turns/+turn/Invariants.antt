-- `turns::turn`, which calls itself with less depth: a tile is copied; of a split the 0, the lengths, and in the loop its trees. Assumes nothing.
use Prim.Native.Nat.{ℕ, ◌-◌}
use Rattle.meaning.specs.Tables.{children_by}
use Rattle.meaning.specs.Trees.{Forest}
use Rattle.tables.specs.Boxes.{box_of}
use Rattle.tables.specs.Turns.{SplitLies}
use Rattle.tables.proofs.turns.Laws.{Turning}
use Rattle.tables.proofs.turns.+turn.Given as goal

abbrev pub invariant-loop-c : goal.invariant-loop-c
invariant-loop-c l =
    let bs = children_by l.f.form (box_of l.f.n l.b) in
    ((first : ℕ) (g : Forest) (m : ℕ) → SplitLies l.f l.told l.table (l.d - 1) bs l.next first g m → Turning l.f l.told l.table (l.d - 1) bs l.initial.buf l.initial.past l.c l.place l.past l.buf g m)

abbrev pub decreases-turn : goal.decreases-turn
decreases-turn l = l.d
