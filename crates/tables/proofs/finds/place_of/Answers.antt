-- `finds::place_of`: the lengths before the child come to where it begins, and all of them to what the table has room for. Assumes nothing.
use Prim.Native.Nat.{ℕ, ◌-◌, ◌≤◌}
use mathlib.Core.Path.{◌≡◌, sym, ◌∙◌}
use mathlib.Core.List.{List}
use native.Mathlib.Omega.{arith}
use lib.ListN.{length}
use Rattle.meaning.specs.Files.{read}
use Rattle.meaning.specs.Verdicts.{Length, lengths_at}
use Rattle.tables.specs.Lengths.{sum_of}
use Rattle.tables.proofs.lengths.Laws.{lengths-within, total-read, sum-small}
use Rattle.tables.proofs.finds.Told.{place-summed}
use Rattle.tables.proofs.finds.place_of.Goals as goal

pub overflow_sub-table : goal.overflow_sub-table
overflow_sub-table c =
    let bytes : List ℕ = c.args.table.now in
    let middle : ℕ = c.in-Some.mid in
    let one : (ls : List Length) × (lengths_at c.args.c bytes c.args.from ≡ read ls middle) × (c.in-Some.passed ≡ sum_of ls) = total-read bytes c.args.c c.args.from c.in-Some.passed middle (sym c.total.ensures ∙ c.in-Some.is) in
    let two : (ls : List Length) × (lengths_at (c.args.count - 1 - c.args.c) bytes middle ≡ read ls c.in-Some-total.first) × (c.in-Some-total.rest ≡ sum_of ls) = total-read bytes (c.args.count - 1 - c.args.c) middle c.in-Some-total.rest c.in-Some-total.first (sym c.total-2.ensures ∙ c.in-Some-total.is) in
    let in-file : c.in-Some-total.first ≤ length bytes = let a = c.args in lengths-within (a.count - 1 - a.c) bytes middle two.0 c.in-Some-total.first (lengths-within a.c bytes a.from one.0 middle c.requires.0 one.1) two.1 in
    in-file

pub overflow_add-passed : goal.overflow_add-passed
overflow_add-passed c =
    let bytes : List ℕ = c.args.table.now in
    let middle : ℕ = c.in-Some.mid in
    let one : (ls : List Length) × (lengths_at c.args.c bytes c.args.from ≡ read ls middle) × (c.in-Some.passed ≡ sum_of ls) = total-read bytes c.args.c c.args.from c.in-Some.passed middle (sym c.total.ensures ∙ c.in-Some.is) in
    let two : (ls : List Length) × (lengths_at (c.args.count - 1 - c.args.c) bytes middle ≡ read ls c.in-Some-total.first) × (c.in-Some-total.rest ≡ sum_of ls) = total-read bytes (c.args.count - 1 - c.args.c) middle c.in-Some-total.rest c.in-Some-total.first (sym c.total-2.ensures ∙ c.in-Some-total.is) in
    let a = c.args in
    let p = c.requires in
    let l = sum-small bytes a.c a.from one.0 middle one.1 in
    let m = sum-small bytes (a.count - 1 - a.c) middle two.0 c.in-Some-total.first two.1 in
    omega (arith, l, m, one.2, two.2, p.1, p.2)

pub returns : goal.returns
returns c =
    let bytes : List ℕ = c.args.table.now in
    let middle : ℕ = c.in-Some.mid in
    let one : (ls : List Length) × (lengths_at c.args.c bytes c.args.from ≡ read ls middle) × (c.in-Some.passed ≡ sum_of ls) = total-read bytes c.args.c c.args.from c.in-Some.passed middle (sym c.total.ensures ∙ c.in-Some.is) in
    let two : (ls : List Length) × (lengths_at (c.args.count - 1 - c.args.c) bytes middle ≡ read ls c.in-Some-total.first) × (c.in-Some-total.rest ≡ sum_of ls) = total-read bytes (c.args.count - 1 - c.args.c) middle c.in-Some-total.rest c.in-Some-total.first (sym c.total-2.ensures ∙ c.in-Some-total.is) in
    let in-file : c.in-Some-total.first ≤ length bytes = let a = c.args in lengths-within (a.count - 1 - a.c) bytes middle two.0 c.in-Some-total.first (lengths-within a.c bytes a.from one.0 middle c.requires.0 one.1) two.1 in
    let a = c.args in
    let first = c.in-Some-total.first in
    place-summed a.count a.c bytes a.from one.0 middle two.0 first one.1 two.1 c.requires.1
    c.in-Some.passed one.2 (omega (arith, c.if-table-first.false, one.2, two.2, in-file))
