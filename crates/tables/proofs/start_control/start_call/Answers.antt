-- `start_control::start_call`: the table that is called, then the call on it. Assumes nothing.
use mathlib.Core.Path.{sym, subst}
use native.Mathlib.Omega.{arith}
use Rattle.tables.specs.declared.frames.Frame.{Frame}
use Rattle.tables.specs.Boxes.{box_of}
use Rattle.tables.specs.Chains.{values_in}
use Rattle.tables.specs.Frames.{FrameSound}
use Rattle.tables.proofs.start_control.Laws.{choice-within}
use Rattle.tables.proofs.start_control.start_call.Goals as goal

pub frame_at-requires : goal.frame_at-requires
frame_at-requires c =
    let a = c.args in
    (c.requires.rooms, omega (arith, c.requires.few, choice-within a.f.n (box_of a.f.n a.f.root) (values_in a.m a.edges.now) a.x a.st _ (sym c.in_ok-i.ensures)))

pub call_behind-requires : goal.call_behind-requires
call_behind-requires c =
    let a = c.args in
    subst (λ (f : Frame). FrameSound f) (sym c.frame_at.ensures)
    (c.requires.each _ (choice-within a.f.n (box_of a.f.n a.f.root) (values_in a.m a.edges.now) a.x a.st _ (sym c.in_ok-i.ensures)))
