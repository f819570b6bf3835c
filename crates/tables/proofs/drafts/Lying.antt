-- A draft as the bytes that a tree lies in, where the form tells lengths: what is asked of bytes that are turned. Assumes nothing.
use Prim.Native.Nat.{ℕ, suc}
use mathlib.Core.Path.{◌≡◌}
use mathlib.Core.Bool.{true, false}
use mathlib.Core.List.{List}
use lib.IntN.{ℤ}
use lib.ListN.{length, take}
use Rattle.meaning.specs.Trees.{tells, layout}
use Rattle.promises.specs.Tables.TreeLengths.{told-sides}
use Rattle.tables.specs.declared.frames.Frame.{Frame}
use Rattle.tables.specs.Frames.{rules_in, FrameSound}
use Rattle.tables.specs.Turns.{TableLies, SomeTable}
use Rattle.tables.proofs.drafts.Laws.{Drafted, shaped}
use Rattle.tables.proofs.turns.Lying.{table-lies}

module _ (f : Frame) (bands coef : List ℤ) (g : FrameSound f) (told : tells f.form ≡ true) {size : ℕ} {out : List ℕ} (d : Drafted (rules_in f bands coef) size out) where
  abbrev end : ℕ
  end = suc (suc (length (layout false d.tree)))

  pub lies : TableLies f false (take size out) d.tree end
  lies = table-lies f bands coef g (told-sides f.form told) d.tree (shaped f bands coef g d.tree d.is) false (take size out) d.held.front

  pub some-lies : SomeTable f false (take size out)
  some-lies = (d.tree, end, lies)
