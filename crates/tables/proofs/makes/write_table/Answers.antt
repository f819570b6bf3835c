-- `makes::write_table`: the draft has room for the table, so that its front is the table, or where the form tells lengths what is turned into it; where there is none, 9.
-- Assumes nothing.
use Prim.Native.Nat.{ℕ}
use mathlib.Core.Path.{ap, ◌∙◌}
use mathlib.Core.Bool.{true}
use mathlib.Core.List.{List}
use native.Mathlib.Omega.{arith}
use lib.ListN.{take, replicate}
use borrow.Author.Tests.{eq-eqb, ne_eqb}
use Rattle.meaning.specs.declared.Refusal.{Refusal}
use Rattle.meaning.specs.Buffers.{Left, refused_with}
use Rattle.meaning.specs.Rules.{Rules}
use Rattle.tables.specs.Frames.{rules_in}
use Rattle.tables.specs.Turns.{table_by}
use Rattle.tables.proofs.drafts.Laws.{Drafted, draft-none, table-by, untold-is, drafted-in}
use Rattle.tables.proofs.drafts.Lying.{lies, some-lies}
use Rattle.tables.proofs.makes.Laws.{left-none, left-drafted}
use Rattle.tables.proofs.makes.write_table.Goals as goal

pub returns-in_default : goal.returns-in_default
returns-in_default g c =
    let rules : Rules = rules_in c.args.f c.args.bands.now c.args.coef.now in
    let buffer : List ℕ = c.args.buf.now in
    let draft : List ℕ = c.table.new.buf in
    let w = c.refuse in
    let z = left-none rules buffer (draft-none rules (replicate {A = ℕ} g.row.DRAFT 0) c.table.result draft c.table.ensures c.in_default.is) in
    let e = ap (λ (f : Refusal). refused_with f buffer) c.no_table.ensures ∙ z in
    record { answer = w.ensures.answer ∙ ap (λ (l : Left). l.answer) e; bytes = w.ensures.bytes ∙ ap (λ (l : Left). l.buffer) e }

-- form 2 tells lengths
pub leave-requires : goal.leave-requires
leave-requires g c =
    let rules : Rules = rules_in c.args.f c.args.bands.now c.args.coef.now in
    let draft : List ℕ = c.table.new.buf in
    let d : Drafted rules c.in-Some.length draft = (drafted-in c.args.f c.args.bands.now c.args.coef.now c.requires.frame.0 g.row.DRAFT c.requires.room c.table.result draft c.table.ensures c.in-Some.length c.in-Some.is).0 in
    (c.requires.frame.0, some-lies c.args.f c.args.bands.now c.args.coef.now c.requires.frame.0 (eq-eqb c.args.f.form 2 c.if-f-eq2.true) d)

pub returns-then-f-eq2 : goal.returns-then-f-eq2
returns-then-f-eq2 g c =
    let rules : Rules = rules_in c.args.f c.args.bands.now c.args.coef.now in
    let buffer : List ℕ = c.args.buf.now in
    let draft : List ℕ = c.table.new.buf in
    let d : Drafted rules c.in-Some.length draft = (drafted-in c.args.f c.args.bands.now c.args.coef.now c.requires.frame.0 g.row.DRAFT c.requires.room c.table.result draft c.table.ensures c.in-Some.length c.in-Some.is).0 in
    let told = eq-eqb c.args.f.form 2 c.if-f-eq2.true in
    let w = c.leave.ensures d.tree _ (lies c.args.f c.args.bands.now c.args.coef.now c.requires.frame.0 told d) in
    let e = left-drafted rules buffer d.tree d.is (table_by c.args.f.form c.args.f.n true d.tree) (table-by rules true told d.tree) in
    record { answer = w.0 ∙ ap (λ (l : Left). l.answer) e; bytes = w.1 ∙ ap (λ (l : Left). l.buffer) e }

pub returns : goal.returns
returns g c =
    let rules : Rules = rules_in c.args.f c.args.bands.now c.args.coef.now in
    let buffer : List ℕ = c.args.buf.now in
    let draft : List ℕ = c.table.new.buf in
    let d : Drafted rules c.in-Some.length draft = (drafted-in c.args.f c.args.bands.now c.args.coef.now c.requires.frame.0 g.row.DRAFT c.requires.room c.table.result draft c.table.ensures c.in-Some.length c.in-Some.is).0 in
    let w = c.leave-2 in
    let e = left-drafted rules buffer d.tree d.is (take c.in-Some.length draft) (untold-is rules (ne_eqb c.args.f.form 2 c.if-f-eq2.false) d) in
    record { answer = w.ensures.answer ∙ ap (λ (l : Left). l.answer) e; bytes = w.ensures.bytes ∙ ap (λ (l : Left). l.buffer) e }

pub shared_whole_as_front-leave : goal.shared_whole_as_front-leave
shared_whole_as_front-leave g c =
    let fits = (drafted-in c.args.f c.args.bands.now c.args.coef.now c.requires.frame.0 g.row.DRAFT c.requires.room c.table.result c.table.new.buf c.table.ensures c.in-Some.length c.in-Some.is).1 in
    (fits, omega (arith, c.requires.small))

pub shared_whole_as_front-leave-2 : goal.shared_whole_as_front-leave-2
shared_whole_as_front-leave-2 g c =
    let fits = (drafted-in c.args.f c.args.bands.now c.args.coef.now c.requires.frame.0 g.row.DRAFT c.requires.room c.table.result c.table.new.buf c.table.ensures c.in-Some.length c.in-Some.is).1 in
    (fits, omega (arith, c.requires.small))
