-- `start_makes::put_parts`: whoever writes the tables that are left has written them all. Assumes nothing.
use Rattle.std.specs.Prelude.{Some, None, Err}
use Rattle.std.proofs.lemmas.Result.{err_from_is_err_and}
use Prim.Native.Nat.{ℕ, ◌+◌, ◌-◌, ◌≤◌}
use mathlib.Core.Path.{◌≡◌, refl, sym, ◌∙◌, subst}
use mathlib.Core.List.{List}
use native.Mathlib.Omega.{arith}
use lib.ListN.{length}
use Rattle.meaning.specs.declared.Refusal.{Refusal}
use Rattle.meaning.specs.Refusals.{no_table}
use Rattle.meaning.specs.Starts.{tables_from}
use Rattle.tables.specs.declared.frames.Frame.{Frame}
use Rattle.tables.specs.Drafts.{Wrote, bytes_most}
use Rattle.tables.specs.Frames.{rules_in, PlantSound}
use Rattle.tables.specs.StartMakes.{part_bytes, WroteParts, frames_rules, frames_tables}
use Rattle.tables.proofs.refusals.Laws.{there, nothing}
use Rattle.tables.proofs.start_makes.Laws.{Going, parts-begin, parts-done, parts-stopped, parts_more}
use Rattle.tables.proofs.start_makes.put_parts.Goals as goal

pub loop-i-init : goal.loop-i-init
loop-i-init c =
    (refl, parts-begin (frames_rules c.args.f c.args.bands.now c.args.coef.now c.args.edges.now) c.args.m c.args.buf.now c.args.at c.requires.place)

pub frame_at-own-requires : goal.frame_at-own-requires
frame_at-own-requires c =
    let h = c.loop-i-test.true in
    ((c.requires.frames.1 0 (omega arith)).0.rooms, omega (arith, c.requires.frames.0))

pub put_part-requires : goal.put_part-requires
put_part-requires c =
    let l = c.loop-i in
    let e = sym c.frame_at-own.ensures in record { frame = subst (λ (f : Frame). PlantSound f c.args.bands.now c.args.coef.now) e (c.requires.frames.1 l.i (omega (arith, c.loop-i-test.true))); room = subst (λ (f : Frame). bytes_most f ≤ length l.draft) e (omega (arith, c.requires.room, l.invariant.0)) }

pub returns-in_err-place : goal.returns-in_err-place
returns-in_err-place c =
    let left : List ℕ = c.put_part.new.buf in
    let wrote : let l = c.loop-i in Wrote (part_bytes (frames_rules c.args.f c.args.bands.now c.args.coef.now c.args.edges.now l.i)) l.buf l.place c.put_part.result left = let l = c.loop-i in subst (λ (f : Frame). Wrote (part_bytes (rules_in f c.args.bands.now c.args.coef.now)) l.buf l.place c.put_part.result left) c.frame_at-own.ensures c.put_part.ensures in
    let stopped : c.put_part.result ≡ None → (e : Refusal) → e ≡ no_table c.loop-i.i → WroteParts (frames_tables c.args.f c.args.bands.now c.args.coef.now c.args.edges.now c.args.m) c.args.buf.now c.args.at (Err e) left = λ z. λ e. λ q. let l = c.loop-i in let a = c.args in parts-stopped (frames_rules a.f a.bands.now a.coef.now a.edges.now) a.m l.i a.buf.now a.at (frames_tables a.f a.bands.now a.coef.now a.edges.now a.m) l.place l.buf l.invariant.1 (omega (arith, c.loop-i-test.true)) c.put_part.result left wrote z e q in
    let x = err_from_is_err_and c.from_residual.result c.from_residual.ensures.1 in
    let k = nothing c.put_part.result c.no_table.result c.in_err-place.ensures.value in
    rw x.1 (stopped k.0 x.0 (x.2 ∙ k.1 ∙ c.no_table.ensures))

pub loop-i-preserved : goal.loop-i-preserved
loop-i-preserved c =
    let left : List ℕ = c.put_part.new.buf in
    let wrote : let l = c.loop-i in Wrote (part_bytes (frames_rules c.args.f c.args.bands.now c.args.coef.now c.args.edges.now l.i)) l.buf l.place c.put_part.result left = let l = c.loop-i in subst (λ (f : Frame). Wrote (part_bytes (rules_in f c.args.bands.now c.args.coef.now)) l.buf l.place c.put_part.result left) c.frame_at-own.ensures c.put_part.ensures in
    let goes_on : (next : ℕ) → c.put_part.result ≡ Some next → let i = c.loop-i.i in Going c.args.buf.now c.args.at (frames_tables c.args.f c.args.bands.now c.args.coef.now c.args.edges.now c.args.m) (tables_from (frames_rules c.args.f c.args.bands.now c.args.coef.now c.args.edges.now) (c.args.m + 1 - (i + 1)) (i + 1)) next left = λ next. λ z. let l = c.loop-i in let a = c.args in parts_more (frames_rules a.f a.bands.now a.coef.now a.edges.now) a.m l.i a.buf.now a.at (frames_tables a.f a.bands.now a.coef.now a.edges.now a.m) l.place l.buf l.invariant.1 (omega (arith, c.loop-i-test.true)) c.put_part.result left wrote next z in
    let h = c.loop-i-test.true in
    (c.put_part.auto.draft ∙ c.loop-i.invariant.0, goes_on c.in_ok-place.place (there c.put_part.result c.no_table.result c.in_ok-place.ensures.value))

pub returns : goal.returns
returns c =
    let a = c.args in
    let l = c.loop-i in
    parts-done (frames_rules a.f a.bands.now a.coef.now a.edges.now) a.m l.i a.buf.now a.at (frames_tables a.f a.bands.now a.coef.now a.edges.now a.m) l.place l.buf l.invariant.1
    (omega (arith, c.loop-i-test.false))
