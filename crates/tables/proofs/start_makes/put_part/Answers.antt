-- `start_makes::put_part`: the draft has room for the table, so that its front is the table, or where the form tells lengths what is turned into it. Assumes nothing.
use Prim.Native.Nat.{ℕ}
use mathlib.Core.Path.{sym}
use mathlib.Core.Bool.{true}
use mathlib.Core.List.{List}
use lib.ListN.{take}
use lib.Seq.{length-take-le}
use borrow.Author.Tests.{eq-eqb, ne_eqb}
use Rattle.meaning.specs.Rules.{Rules}
use Rattle.tables.specs.Frames.{rules_in}
use Rattle.tables.specs.Turns.{table_by}
use Rattle.tables.proofs.drafts.Laws.{Drafted, draft-none, table-by, untold-is, drafted}
use Rattle.tables.proofs.drafts.Lying.{lies, some-lies}
use Rattle.tables.proofs.start_makes.Laws.{part_none, part-wrote}
use Rattle.tables.proofs.start_makes.put_part.Goals as goal

pub returns-in_err-size : goal.returns-in_err-size
returns-in_err-size c =
    let rules : Rules = rules_in c.args.f c.args.bands.now c.args.coef.now in
    let draft : List ℕ = c.table.new.buf in
    rw c.from_residual.ensures (part_none rules c.args.buf.now c.args.at (draft-none rules c.args.draft.now c.table.result draft c.table.ensures c.in_err-size.was))

pub slice_bounds-table_size-end : goal.slice_bounds-table_size-end
slice_bounds-table_size-end c =
    let rules : Rules = rules_in c.args.f c.args.bands.now c.args.coef.now in
    let draft : List ℕ = c.table.new.buf in
    let d : Drafted rules c.in_ok-size.size draft = drafted c.args.f c.args.bands.now c.args.coef.now c.requires.frame.0 c.args.draft.now c.requires.room c.table.result draft c.table.ensures c.in_ok-size.size c.in_ok-size.was in
    d.held.fits

pub slice_bounds-table_size-end-then-f-eq2 : goal.slice_bounds-table_size-end-then-f-eq2
slice_bounds-table_size-end-then-f-eq2 c =
    let rules : Rules = rules_in c.args.f c.args.bands.now c.args.coef.now in
    let draft : List ℕ = c.table.new.buf in
    let d : Drafted rules c.in_ok-size.size draft = drafted c.args.f c.args.bands.now c.args.coef.now c.requires.frame.0 c.args.draft.now c.requires.room c.table.result draft c.table.ensures c.in_ok-size.size c.in_ok-size.was in
    sym (length-take-le c.in_ok-size.size draft d.held.fits)

-- form 2 tells lengths
pub table_size-long-requires : goal.table_size-long-requires
table_size-long-requires c =
    let rules : Rules = rules_in c.args.f c.args.bands.now c.args.coef.now in
    let draft : List ℕ = c.table.new.buf in
    let d : Drafted rules c.in_ok-size.size draft = drafted c.args.f c.args.bands.now c.args.coef.now c.requires.frame.0 c.args.draft.now c.requires.room c.table.result draft c.table.ensures c.in_ok-size.size c.in_ok-size.was in
    (c.requires.frame.0, some-lies c.args.f c.args.bands.now c.args.coef.now c.requires.frame.0 (eq-eqb c.args.f.form 2 c.if-f-eq2.true) d)

pub slice_bounds-put_table-end : goal.slice_bounds-put_table-end
slice_bounds-put_table-end c =
    let rules : Rules = rules_in c.args.f c.args.bands.now c.args.coef.now in
    let draft : List ℕ = c.table.new.buf in
    let d : Drafted rules c.in_ok-size.size draft = drafted c.args.f c.args.bands.now c.args.coef.now c.requires.frame.0 c.args.draft.now c.requires.room c.table.result draft c.table.ensures c.in_ok-size.size c.in_ok-size.was in
    d.held.fits

pub slice_bounds-put_table-end-then-f-eq2 : goal.slice_bounds-put_table-end-then-f-eq2
slice_bounds-put_table-end-then-f-eq2 c =
    let rules : Rules = rules_in c.args.f c.args.bands.now c.args.coef.now in
    let draft : List ℕ = c.table.new.buf in
    let d : Drafted rules c.in_ok-size.size draft = drafted c.args.f c.args.bands.now c.args.coef.now c.requires.frame.0 c.args.draft.now c.requires.room c.table.result draft c.table.ensures c.in_ok-size.size c.in_ok-size.was in
    sym (length-take-le c.in_ok-size.size draft d.held.fits)

pub put_table-next-requires : goal.put_table-next-requires
put_table-next-requires c =
    let rules : Rules = rules_in c.args.f c.args.bands.now c.args.coef.now in
    let draft : List ℕ = c.table.new.buf in
    let d : Drafted rules c.in_ok-size.size draft = drafted c.args.f c.args.bands.now c.args.coef.now c.requires.frame.0 c.args.draft.now c.requires.room c.table.result draft c.table.ensures c.in_ok-size.size c.in_ok-size.was in
    (c.requires.frame.0, some-lies c.args.f c.args.bands.now c.args.coef.now c.requires.frame.0 (eq-eqb c.args.f.form 2 c.if-f-eq2.true) d)

pub returns-then-f-eq2 : goal.returns-then-f-eq2
returns-then-f-eq2 c =
    let rules : Rules = rules_in c.args.f c.args.bands.now c.args.coef.now in
    let draft : List ℕ = c.table.new.buf in
    let d : Drafted rules c.in_ok-size.size draft = drafted c.args.f c.args.bands.now c.args.coef.now c.requires.frame.0 c.args.draft.now c.requires.room c.table.result draft c.table.ensures c.in_ok-size.size c.in_ok-size.was in
    let told = eq-eqb c.args.f.form 2 c.if-f-eq2.true in
    let lie = lies c.args.f c.args.bands.now c.args.coef.now c.requires.frame.0 told d in
    part-wrote rules c.args.buf.now c.args.at d.tree d.is (table_by c.args.f.form c.args.f.n true d.tree) (table-by rules true told d.tree)
    (c.table_size-long.ensures d.tree _ lie) c.put_number-behind.ensures (c.put_table-next.ensures d.tree _ lie)

pub slice_bounds-put_bytes-end : goal.slice_bounds-put_bytes-end
slice_bounds-put_bytes-end c =
    let rules : Rules = rules_in c.args.f c.args.bands.now c.args.coef.now in
    let draft : List ℕ = c.table.new.buf in
    let d : Drafted rules c.in_ok-size.size draft = drafted c.args.f c.args.bands.now c.args.coef.now c.requires.frame.0 c.args.draft.now c.requires.room c.table.result draft c.table.ensures c.in_ok-size.size c.in_ok-size.was in
    d.held.fits

pub slice_bounds-put_bytes-end-2 : goal.slice_bounds-put_bytes-end-2
slice_bounds-put_bytes-end-2 c =
    let rules : Rules = rules_in c.args.f c.args.bands.now c.args.coef.now in
    let draft : List ℕ = c.table.new.buf in
    let d : Drafted rules c.in_ok-size.size draft = drafted c.args.f c.args.bands.now c.args.coef.now c.requires.frame.0 c.args.draft.now c.requires.room c.table.result draft c.table.ensures c.in_ok-size.size c.in_ok-size.was in
    sym (length-take-le c.in_ok-size.size draft d.held.fits)

pub returns : goal.returns
returns c =
    let rules : Rules = rules_in c.args.f c.args.bands.now c.args.coef.now in
    let draft : List ℕ = c.table.new.buf in
    let d : Drafted rules c.in_ok-size.size draft = drafted c.args.f c.args.bands.now c.args.coef.now c.requires.frame.0 c.args.draft.now c.requires.room c.table.result draft c.table.ensures c.in_ok-size.size c.in_ok-size.was in
    part-wrote rules c.args.buf.now c.args.at d.tree d.is (take c.in_ok-size.size draft) (untold-is rules (ne_eqb c.args.f.form 2 c.if-f-eq2.false) d)
    (sym (length-take-le c.in_ok-size.size draft d.held.fits)) c.put_number-past_length.ensures c.put_bytes.ensures
