-- `turns::table_size`: form and n are a byte each, then the tree, by the frame's counts. Assumes nothing.
use Prim.Native.Nat.{ℕ}
use mathlib.Core.Path.{◌≡◌, ap}
use mathlib.Core.Bool.{true, false}
use mathlib.Core.List.{◌++◌}
use native.Mathlib.Omega.{arith}
use lib.ListN.{length, length-append}
use Rattle.meaning.specs.Numbers.{bytes_of}
use Rattle.meaning.specs.Trees.{Tree, layout}
use Rattle.promises.specs.Files.Bytes.{one_byte}
use Rattle.promises.specs.Tables.TableForms.{form_small}
use Rattle.tables.specs.Turns.{TableLies}
use Rattle.tables.proofs.turns.table_size.Goals as goal

pub sized-tree-requires : goal.sized-tree-requires
sized-tree-requires c =
    let g = c.requires.0 in
    rw (c.counts_of.ensures, c.depth-depth.ensures) ((g.rooms, g.longest, g.modes), g.root, c.requires.1)

pub overflow_add-result : goal.overflow_add-result
overflow_add-result c =
    let size_is : (t : Tree) (m : ℕ) → TableLies c.args.f false c.args.table.now t m → c.sized-tree.result.size ≡ length (layout true t) = λ t. λ m. λ l. let e = c.counts_of.ensures in let d = c.depth-depth.ensures in (c.sized-tree.ensures t m (rw (e, d) l)).1 in
    let l = c.requires.1 in
    omega (arith, size_is l.0 l.1 l.2, l.2.short)

pub returns : goal.returns
returns c t m l =
    let size_is : (t : Tree) (m : ℕ) → TableLies c.args.f false c.args.table.now t m → c.sized-tree.result.size ≡ length (layout true t) = λ t. λ m. λ l. let e = c.counts_of.ensures in let d = c.depth-depth.ensures in (c.sized-tree.ensures t m (rw (e, d) l)).1 in
    let f = c.args.f in
    let g = c.requires.0 in
    let rest = bytes_of f.n ++ layout true t in
    omega (arith, size_is t m l, ap length (one_byte f.form (form_small f.form g.known)), ap length (one_byte f.n (omega (arith, g.rooms))), length-append (bytes_of f.form) rest, length-append (bytes_of f.n) (layout true t))
