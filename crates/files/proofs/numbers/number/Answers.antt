-- `numbers::number` reads what the definition says. The loop's invariant: after k bytes, what the definition says from here is what it says of the whole.
-- Assumes nothing.
use Prim.Native.Nat.{◌+◌, ◌-◌}
use mathlib.Core.Path.{◌≡◌, sym, ◌∙◌}
use native.Mathlib.Omega.{arith}
use lib.ListN.{get_or}
use Rattle.files.proofs.numbers.Laws.{weight-next, group-le, short, zero-first, zero-late, last, more, over}
use Rattle.files.proofs.numbers.number.Goals as goal
use Rattle.files.proofs.numbers.number.Goals.{else-c-eq0-via-then-c-eq0+else-w-ne1, else-c-eq0-via-else-c-eq0}

pub returns-then-s-i : goal.returns-then-s-i
returns-then-s-i c =
    let l = c.loop-k in
    sym (short c.args.s.now (c.args.at + l.k) l.v l.w l.k (omega arith) (omega arith)) ∙ l.invariant.3

pub returns-then-w-ne1 : goal.returns-then-w-ne1
returns-then-w-ne1 c =
    let l = c.loop-k in
    sym (zero-late c.args.s.now (c.args.at + l.k) l.v l.w l.k (omega arith) (grind arith) (grind arith) c.if-w-ne1.true) ∙ l.invariant.3

pub returns-then-c-lt128 : goal.returns-then-c-lt128
returns-then-c-lt128 c =
    let l = c.loop-k in
    elim c.else-c-eq0.branch [
      | else-c-eq0-via-then-c-eq0+else-w-ne1 w ↦ (sym (zero-first c.args.s.now (c.args.at + l.k) l.v l.w l.k (omega arith) (grind arith) (grind arith) (grind arith) (grind arith)) ∙ l.invariant.3)
      | else-c-eq0-via-else-c-eq0 w ↦ (sym (last c.args.s.now (c.args.at + l.k) l.v l.w l.k (omega arith) (grind arith) (grind arith) (grind arith)) ∙ l.invariant.3)
    ]

pub loop-k-preserved : goal.loop-k-preserved
loop-k-preserved c =
    let l = c.loop-k in
    let s = c.args.s.now in
    let i = c.args.at + l.k in
    let known = c.type_inv.s i in
    let on : c.args.at + (l.k + 1) ≡ i + 1 = omega arith in
    rw on (
      omega arith,
      weight-next l.k l.w l.invariant.1,
      omega (arith, group-le (get_or s i 0 - 128) l.w (omega (arith, known))),
      sym (more s i l.v l.w l.k (omega arith) (grind arith) (grind arith) (omega (arith, known))) ∙ l.invariant.3,
    )

pub returns : goal.returns
returns c =
    let l = c.loop-k in
    sym (over c.args.s.now (c.args.at + l.k) l.v l.w l.k (omega arith)) ∙ l.invariant.3
