-- `checks::table_end` by the form that the table says, which is a known one. Assumes nothing.
use Prim.Native.Nat.{ℕ}
use mathlib.Core.Path.{◌≡◌, sym, ap, ◌∙◌, subst}
use mathlib.Core.List.{List}
use Rattle.meaning.specs.Tables.{form_of}
use Rattle.meaning.specs.Verdicts.{table_end}
use Rattle.promises.specs.Tables.TableForms.{form-known}
use Rattle.tables.specs.declared.frames.Frame.{Frame}
use Rattle.tables.specs.Frames.{formed, rules_in, PlantSound}
use Rattle.tables.proofs.frames.Laws.{formed-sound}
use Rattle.tables.proofs.checks.table_end.Goals as goal

pub end_by-requires : goal.end_by-requires
end_by-requires c =
    let table : List ℕ = c.args.table.now in
    let own : c.formed.result ≡ formed c.args.f (form_of table) = c.formed.ensures ∙ ap (formed c.args.f) c.form_of.ensures in
    subst (λ (f : Frame). PlantSound f c.args.bands.now c.args.coef.now) (sym own) (formed-sound c.args.f (form_of table) (form-known table) c.requires.0, c.requires.1)

pub returns : goal.returns
returns c =
    let table : List ℕ = c.args.table.now in
    let own : c.formed.result ≡ formed c.args.f (form_of table) = c.formed.ensures ∙ ap (formed c.args.f) c.form_of.ensures in
    c.end_by.ensures ∙ ap (λ (f : Frame). table_end (rules_in f c.args.bands.now c.args.coef.now) table) own
