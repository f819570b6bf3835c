-- `buffers::copy`: whoever stores what is left from i on has stored the whole file. Assumes nothing.
use Prim.Native.Nat.{ℕ, suc, ◌+◌}
use mathlib.Core.Path.{◌≡◌, sym, ap, ◌∙◌}
use mathlib.Core.List.{List}
use native.Mathlib.Omega.{arith}
use lib.ListN.{get_or, length-set, drop_of_length-le}
use lib.Seq.{sets, drop-cons}
use Rattle.files.proofs.buffers.copy.Goals as goal

pub loop-i-preserved : goal.loop-i-preserved
loop-i-preserved c =
    let l = c.loop-i in
    let file = c.args.file.now in
    let e : l.i + 1 ≡ suc l.i = omega arith in
    (omega arith, length-set l.buf l.i (get_or file l.i 0) ∙ l.invariant.1, rw e (sym (ap (λ (xs : List ℕ). sets l.buf l.i xs) (drop-cons file l.i 0 (omega arith))) ∙ l.invariant.2))

pub returns : goal.returns
returns c =
    let l = c.loop-i in
    let file = c.args.file.now in
    sym (ap (λ (xs : List ℕ). sets l.buf l.i xs) (drop_of_length-le file {i = l.i} (omega arith))) ∙ l.invariant.2
