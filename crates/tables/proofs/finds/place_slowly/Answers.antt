-- `finds::place_slowly`: all lengths are read, and none of them points past the table. Assumes nothing.
use Rattle.std.proofs.lemmas.Result.{err_from_is_err_and}
use Prim.Native.Nat.{ℕ, ◌-◌}
use mathlib.Core.Path.{sym, ap, ◌∙◌}
use Rattle.tables.specs.Lengths.{behind_at, ends_at}
use Rattle.tables.proofs.lengths.Laws.{behind-read, lengths-within}
use Rattle.tables.proofs.finds.Told.{place-past, none-past, place_here}
use Rattle.tables.proofs.finds.place_slowly.Goals as goal

pub ends-requires : goal.ends-requires
ends-requires c =
    let a = c.args in
    let all = behind-read a.table.now (a.count - 1) a.from _ (sym (c.in_ok-first.ensures ∙ ap (λ (k : ℕ). behind_at k a.table.now a.from) c.told-told.ensures)) in
    lengths-within (a.count - 1) a.table.now a.from all.0 _ c.requires.0 all.1

pub returns-in_err-ends : goal.returns-in_err-ends
returns-in_err-ends c =
    let a = c.args in
    let first : ℕ = c.in_ok-first.first in
    let all = behind-read a.table.now (a.count - 1) a.from first (sym (c.in_ok-first.ensures ∙ ap (λ (k : ℕ). behind_at k a.table.now a.from) c.told-told.ensures)) in
    let p = err_from_is_err_and c.from_residual-in_err-ends.result c.from_residual-in_err-ends.ensures.1 in
    rw (p.1, p.2) (place-past a.count a.c a.table.now a.from all.0 first all.1 _ (sym (c.in_err-ends.ensures ∙ ap (λ (k : ℕ). ends_at k a.table.now a.from first) c.told-told.ensures)))

pub ends-requires-2 : goal.ends-requires-2
ends-requires-2 c =
    let a = c.args in
    let all = behind-read a.table.now (a.count - 1) a.from _ (sym (c.in_ok-first.ensures ∙ ap (λ (k : ℕ). behind_at k a.table.now a.from) c.told-told.ensures)) in
    lengths-within (a.count - 1) a.table.now a.from all.0 _ c.requires.0 all.1

pub returns : goal.returns
returns c =
    let a = c.args in
    let first : ℕ = c.in_ok-first.first in
    let all = behind-read a.table.now (a.count - 1) a.from first (sym (c.in_ok-first.ensures ∙ ap (λ (k : ℕ). behind_at k a.table.now a.from) c.told-told.ensures)) in
    c.ends-2.ensures
    ∙ place_here a.count a.c a.table.now a.from all.0 first all.1 (none-past a.count a.c a.table.now a.from all.0 first all.1 _ (sym (c.in_ok-ends.ensures ∙ ap (λ (k : ℕ). ends_at k a.table.now a.from first) c.told-told.ensures))) c.requires.1
