-- `finds::find_walking`, which calls itself with less depth: a node, and a loop over the children of a split up to the one that holds the reading. Assumes nothing.
use Rattle.std.proofs.lemmas.Result.{err_from_is_err_and}
use Rattle.std.specs.Prelude.{Some, Err}
use Prim.Native.Nat.{ℕ, ◌-◌, ◌≤◌, ◌<◌}
use mathlib.Core.Path.{◌≡◌, sym, ap, ◌∙◌}
use mathlib.Core.Bool.{true, false}
use mathlib.Core.List.{List}
use native.Mathlib.Omega.{arith}
use lib.IntN.{ℤ, pos}
use lib.ListN.{length, replicate}
use Rattle.laws.specs.Lists.{all}
use Rattle.laws.specs.Tests.{never}
use Rattle.meaning.specs.Boxes.{Side, fits}
use Rattle.meaning.specs.Numbers.{number_at}
use Rattle.meaning.specs.Plants.{edge_limit}
use Rattle.meaning.specs.Tables.{children_by, reading_of}
use Rattle.files.specs.declared.bounds.Sides.{Sides}
use Rattle.tables.specs.declared.frames.Frame.{Frame}
use Rattle.tables.specs.Boxes.{box_of, Small}
use Rattle.tables.specs.Frames.{frame_from}
use Rattle.tables.proofs.boxes.Halving.{small-children}
use Rattle.tables.proofs.finds.Laws.{held, not-held, node-broken, node_over, node-tile, node-deep}
use Rattle.tables.proofs.finds.Untold.{look-split, look_none, look-here, look-more, look-refused}
use Rattle.tables.proofs.refusals.Laws.{there, nothing}
use Rattle.tables.proofs.finds.+find_walking.Goals as goal

-- what the walk is lent for bands and coefficients
abbrev zero : List ℤ
zero = replicate 1 (pos 0)

pub returns-in_err-k : goal.returns-in_err-k
returns-in_err-k t c =
    let frame : Frame = frame_from c.args.f c.args.edges.now in
    let bytes : List ℕ = c.args.table.now in
    let box : Sides → List Side = λ b. box_of c.args.f.n b in
    let p = err_from_is_err_and c.from_residual.result c.from_residual.ensures.1 in
    let h = nothing c.number.result c.broken.result c.in_err-k.ensures.value in
    rw (p.1, p.2, h.1) (ap Err c.broken.ensures ∙ node-broken frame c.args.x c.args.d bytes c.args.at (box c.args.b) (sym c.number.ensures ∙ h.0))

pub returns-then-f-k : goal.returns-then-f-k
returns-then-f-k t c =
    let frame : Frame = frame_from c.args.f c.args.edges.now in
    let bytes : List ℕ = c.args.table.now in
    let box : Sides → List Side = λ b. box_of c.args.f.n b in
    let size : ℕ = c.in_ok-k.k in
    let behind : ℕ = c.in_ok-k.next in
    let number : number_at bytes c.args.at ≡ Some (size, behind) = sym c.number.ensures ∙ there c.number.result c.broken.result c.in_ok-k.ensures.value in
    ap Err c.bad_table.ensures ∙ node_over frame c.args.x c.args.d bytes c.args.at (box c.args.b) size behind number c.if-f-k.true

pub returns-then-k-gt0 : goal.returns-then-k-gt0
returns-then-k-gt0 t c =
    let frame : Frame = frame_from c.args.f c.args.edges.now in
    let bytes : List ℕ = c.args.table.now in
    let box : Sides → List Side = λ b. box_of c.args.f.n b in
    let size : ℕ = c.in_ok-k.k in
    let behind : ℕ = c.in_ok-k.next in
    let number : number_at bytes c.args.at ≡ Some (size, behind) = sym c.number.ensures ∙ there c.number.result c.broken.result c.in_ok-k.ensures.value in
    c.tile.ensures ∙ node-tile frame c.args.x c.args.d bytes c.args.at (box c.args.b) size behind number c.if-k-gt0.true c.if-f-k.false

pub returns-then-d-eq0 : goal.returns-then-d-eq0
returns-then-d-eq0 t c =
    let frame : Frame = frame_from c.args.f c.args.edges.now in
    let bytes : List ℕ = c.args.table.now in
    let box : Sides → List Side = λ b. box_of c.args.f.n b in
    let size : ℕ = c.in_ok-k.k in
    let behind : ℕ = c.in_ok-k.next in
    let number : number_at bytes c.args.at ≡ Some (size, behind) = sym c.number.ensures ∙ there c.number.result c.broken.result c.in_ok-k.ensures.value in
    ap Err c.bad_table-then-d-eq0.ensures ∙ node-deep frame c.args.x c.args.d bytes c.args.at (box c.args.b) size behind number c.if-k-gt0.false c.if-d-eq0.true

pub loop-c-init : goal.loop-c-init
loop-c-init t c =
    let frame : Frame = frame_from c.args.f c.args.edges.now in
    let bytes : List ℕ = c.args.table.now in
    let box : Sides → List Side = λ b. box_of c.args.f.n b in
    let size : ℕ = c.in_ok-k.k in
    let behind : ℕ = c.in_ok-k.next in
    let number : number_at bytes c.args.at ≡ Some (size, behind) = sym c.number.ensures ∙ there c.number.result c.broken.result c.in_ok-k.ensures.value in
    (omega arith, look-split frame c.args.x c.requires.2 c.args.d bytes c.args.at (box c.args.b) size behind number c.if-k-gt0.false c.if-d-eq0.false)

pub find_walking-requires : goal.find_walking-requires
find_walking-requires t c =
    let box : Sides → List Side = λ b. box_of c.args.f.n b in
    let turn : ℕ = c.loop-c.c in
    let kid : Sides = c.child-child.result in
    let below : turn < length (children_by c.args.f.form (box c.args.b)) = omega (arith, c.loop-c-test.true, c.count-count.ensures) in
    let small : Small edge_limit (box kid) = rw c.child-child.ensures (small-children c.args.f.form edge_limit (box c.args.b) turn below c.requires.1) in
    (omega (arith, c.requires.0, c.if-d-eq0.false), (c.requires.0, small, c.requires.2))

pub returns-then-n-missed : goal.returns-then-n-missed
returns-then-n-missed t c =
    let frame : Frame = frame_from c.args.f c.args.edges.now in
    let bytes : List ℕ = c.args.table.now in
    let box : Sides → List Side = λ b. box_of c.args.f.n b in
    let turn : ℕ = c.loop-c.c in
    let kid : Sides = c.child-child.result in
    let below : turn < length (children_by c.args.f.form (box c.args.b)) = omega (arith, c.loop-c-test.true, c.count-count.ensures) in
    let holds-it : c.args.f.n ≤ c.missed.result → all (fits (box kid) (reading_of c.args.f.n c.args.x)) ≡ true = λ h. held c.args.f.n kid.lo kid.hi c.args.x (omega (arith, h, c.missed.ensures)) in
    let l = c.loop-c in
    c.find_walking.ensures ∙ look-here frame c.args.x c.requires.2 (c.args.d - 1) bytes c.args.at (box c.args.b) l.c l.place below (box kid) c.child-child.ensures (holds-it c.if-n-missed.true) ∙ l.invariant.1

pub walk-requires : goal.walk-requires
walk-requires t c =
    let box : Sides → List Side = λ b. box_of c.args.f.n b in
    let turn : ℕ = c.loop-c.c in
    let kid : Sides = c.child-child.result in
    let below : turn < length (children_by c.args.f.form (box c.args.b)) = omega (arith, c.loop-c-test.true, c.count-count.ensures) in
    let small : Small edge_limit (box kid) = rw c.child-child.ensures (small-children c.args.f.form edge_limit (box c.args.b) turn below c.requires.1) in
    (c.requires.0, small, (λ e. never e), c.requires.2)

pub returns-in_err-place : goal.returns-in_err-place
returns-in_err-place t c =
    let frame : Frame = frame_from c.args.f c.args.edges.now in
    let bytes : List ℕ = c.args.table.now in
    let box : Sides → List Side = λ b. box_of c.args.f.n b in
    let turn : ℕ = c.loop-c.c in
    let kid : Sides = c.child-child.result in
    let below : turn < length (children_by c.args.f.form (box c.args.b)) = omega (arith, c.loop-c-test.true, c.count-count.ensures) in
    let misses-it : c.missed.result < c.args.f.n → all (fits (box kid) (reading_of c.args.f.n c.args.x)) ≡ false = λ h. not-held c.args.f.n kid.lo kid.hi c.args.x (omega (arith, h, c.missed.ensures)) in
    let l = c.loop-c in
    let r = c.walk in
    let p = err_from_is_err_and c.from_residual-in_err-place.result c.from_residual-in_err-place.ensures.1 in
    rw (p.1, p.2) (look-refused frame c.args.x c.requires.2 (c.args.d - 1) bytes c.args.at (box c.args.b) l.c l.place below (box kid) c.child-child.ensures (misses-it c.if-n-missed.false) zero zero r.result r.ensures _ c.in_err-place.was ∙ l.invariant.1)

pub loop-c-preserved : goal.loop-c-preserved
loop-c-preserved t c =
    let frame : Frame = frame_from c.args.f c.args.edges.now in
    let bytes : List ℕ = c.args.table.now in
    let box : Sides → List Side = λ b. box_of c.args.f.n b in
    let turn : ℕ = c.loop-c.c in
    let kid : Sides = c.child-child.result in
    let below : turn < length (children_by c.args.f.form (box c.args.b)) = omega (arith, c.loop-c-test.true, c.count-count.ensures) in
    let misses-it : c.missed.result < c.args.f.n → all (fits (box kid) (reading_of c.args.f.n c.args.x)) ≡ false = λ h. not-held c.args.f.n kid.lo kid.hi c.args.x (omega (arith, h, c.missed.ensures)) in
    let l = c.loop-c in
    let r = c.walk in
    (omega (arith, c.loop-c-test.true), look-more frame c.args.x c.requires.2 (c.args.d - 1) bytes c.args.at (box c.args.b) l.c l.place below (box kid) c.child-child.ensures (misses-it c.if-n-missed.false) zero zero r.result r.ensures c.in_ok-place.place c.in_ok-place.was ∙ l.invariant.1)

pub returns : goal.returns
returns t c =
    let frame : Frame = frame_from c.args.f c.args.edges.now in
    let bytes : List ℕ = c.args.table.now in
    let box : Sides → List Side = λ b. box_of c.args.f.n b in
    let l = c.loop-c in
    ap Err c.bad_table-2.ensures ∙ look_none frame c.args.x c.requires.2 (c.args.d - 1) bytes c.args.at (box c.args.b) l.c l.place (omega (arith, c.loop-c-test.false, c.count-count.ensures)) ∙ l.invariant.1
