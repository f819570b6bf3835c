-- `makes::make_in`: the plant's file, which with the arrays is sound where it was judged good, then the form, then its own frame's table. Assumes nothing.
use Prim.Native.Nat.{ℕ}
use mathlib.Core.Path.{◌≡◌, sym, ap, ◌∙◌, subst}
use mathlib.Core.Bool.{true}
use mathlib.Core.List.{List}
use lib.IntN.{ℤ, pos}
use lib.ListN.{replicate}
use Rattle.meaning.specs.declared.Refusal.{Refusal}
use Rattle.meaning.specs.Buffers.{Left, refused_with}
use Rattle.meaning.specs.Plants.{plant_judged}
use Rattle.meaning.specs.Rules.{Rules}
use Rattle.meaning.specs.Tables.{known_form, maker_left}
use Rattle.promises.specs.Tables.PlantRules.{Taken, read-good, read-bad}
use Rattle.tables.specs.declared.frames.Frame.{Frame}
use Rattle.tables.specs.Frames.{formed, rules_in, PlantSound}
use Rattle.tables.specs.Makes.{defined_left}
use Rattle.tables.proofs.arrays.Laws.{ReadInto, read-into}
use Rattle.tables.proofs.frames.Laws.{formed-sound}
use Rattle.tables.proofs.makes.Laws.{left-bad, left-unknown, left-own}
use Rattle.tables.proofs.makes.make_in.Goals as goal

pub write_own-requires : goal.write_own-requires
write_own-requires g c =
    let file : List ℕ = c.args.plant.now in
    let form : ℕ = c.args.form in
    let bands : List ℤ = c.read_plant.new.bands in
    let coef : List ℤ = c.read_plant.new.coef in
    let known : known_form form ≡ true = sym c.known.ensures ∙ c.if-known.true in
    let into : ReadInto file c.framed.result bands coef = let r = c.read_plant in read-into file (replicate g.row.SIDES (pos 0)) (replicate g.row.ROWS (pos 0)) c.requires.room r.result bands coef (r.ensures.answer, (r.ensures.bands, r.ensures.coef)) c.in-Ok.is c.framed.result c.framed.ensures in
    let g = into.sound in
    subst (λ (f : Frame). PlantSound f bands coef) (sym c.formed-f.ensures)
    (formed-sound c.framed.result form known g.0, g.1)

pub returns-then-known : goal.returns-then-known
returns-then-known g c =
    let file : List ℕ = c.args.plant.now in
    let form : ℕ = c.args.form in
    let buffer : List ℕ = c.args.buf.now in
    let bands : List ℤ = c.read_plant.new.bands in
    let coef : List ℤ = c.read_plant.new.coef in
    let known : known_form form ≡ true = sym c.known.ensures ∙ c.if-known.true in
    let into : ReadInto file c.framed.result bands coef = let r = c.read_plant in read-into file (replicate g.row.SIDES (pos 0)) (replicate g.row.ROWS (pos 0)) c.requires.room r.result bands coef (r.ensures.answer, (r.ensures.bands, r.ensures.coef)) c.in-Ok.is c.framed.result c.framed.ensures in
    let own : defined_left (rules_in c.formed-f.result bands coef) buffer ≡ maker_left file form buffer = let i = into in ap (λ (f : Frame). defined_left (rules_in f bands coef) buffer) c.formed-f.ensures ∙ ap (λ (r : Rules). defined_left r buffer) (i.rules (formed c.framed.result form)) ∙ left-own file form buffer i.plant i.was c.framed.result i.framed known in
    let w = c.write_own in
    let e = own in
    record { answer = w.ensures.answer ∙ ap (λ (l : Left). l.answer) e; bytes = w.ensures.bytes ∙ ap (λ (l : Left). l.buffer) e }

pub returns-in-Err : goal.returns-in-Err
returns-in-Err g c =
    let a = c.args in
    let x = c.read_plant in
    let w = c.refuse in
    let e = left-bad a.plant.now a.form a.buf.now c.in-Err.e (read-bad (plant_judged a.plant.now) x.result x.ensures.answer c.in-Err.e c.in-Err.is) in
    record { answer = w.ensures.answer ∙ ap (λ (l : Left). l.answer) e; bytes = w.ensures.bytes ∙ ap (λ (l : Left). l.buffer) e }

pub returns-else-known : goal.returns-else-known
returns-else-known g c =
    let file : List ℕ = c.args.plant.now in
    let form : ℕ = c.args.form in
    let buffer : List ℕ = c.args.buf.now in
    let taken : Taken (plant_judged file) c.in-Ok.outline = let r = c.read_plant in read-good (plant_judged file) r.result r.ensures.answer c.in-Ok.outline c.in-Ok.is in
    let p = taken in
    let w = c.refuse-in-Ok in
    let k = c.known in
    let e = ap (λ (r : Refusal). refused_with r buffer) c.wrong_form.ensures ∙ left-unknown file form buffer p.plant p.was (sym k.ensures ∙ c.if-known.false) in
    record { answer = w.ensures.answer ∙ ap (λ (l : Left). l.answer) e; bytes = w.ensures.bytes ∙ ap (λ (l : Left). l.buffer) e }
