-- `buffers::put_bytes`: all of it, or as much as there is room for, is copied into the part behind the place. Assumes nothing.
use mathlib.Core.Path.{sym}
use native.Mathlib.Omega.{arith}
use Rattle.laws.specs.Writing.{sets-out}
use Rattle.files.proofs.buffers.Laws.{put-part, put_front}
use Rattle.files.proofs.buffers.put_bytes.Goals as goal

pub returns-then-long-at : goal.returns-then-long-at
returns-then-long-at c =
    let a = c.args in
    let h = c.if-long-at.true in
    record { place = omega arith; bytes = sym (sets-out a.bytes.now a.buf.now a.at (omega arith)) }

pub returns-then-size-room : goal.returns-then-size-room
returns-then-size-room c =
    let a = c.args in
    let w = c.copy in
    put-part a.buf.now a.at (omega arith) a.bytes.now w.new.buf (omega arith) w.ensures

pub returns : goal.returns
returns c =
    let a = c.args in
    let w = c.copy-2 in
    put_front a.buf.now a.at (omega arith) a.bytes.now w.new.buf (omega arith) w.ensures
