-- `drafts::tree`, which calls itself with less depth: each return cites the law of the node that it stops at; in the loop over the children,
-- whoever writes those that are left has written them all. Assumes nothing.
use Rattle.std.specs.Prelude.{Some, None, ℕ}
use Prim.Native.Nat.{ℕ, ◌+◌, ◌-◌, ◌<◌}
use mathlib.Core.Path.{◌≡◌, sym, ◌∙◌}
use mathlib.Core.List.{List, []}
use mathlib.Core.Option.{Option}
use native.Mathlib.Omega.{arith}
use lib.IntN.{ℤ}
use lib.ListN.{length, drop}
use Rattle.meaning.specs.Boxes.{Side}
use Rattle.meaning.specs.Plants.{edge_limit}
use Rattle.meaning.specs.Rules.{Rules}
use Rattle.meaning.specs.Defined.{first_pattern}
use Rattle.meaning.specs.Tables.{children_by}
use Rattle.tables.specs.declared.frames.Frame.{Frame}
use Rattle.tables.specs.Boxes.{box_of}
use Rattle.tables.specs.Frames.{frame_from, rules_in}
use Rattle.tables.specs.Search.{pattern_by}
use Rattle.tables.specs.Drafts.{Wrote, tree_bytes, trees_bytes, Grown}
use Rattle.tables.proofs.boxes.Halving.{small-children}
use Rattle.tables.proofs.search.Rules.{lent, shortest-is}
use Rattle.tables.proofs.drafts.Laws.{Growing, grow-done, grow-more, grow-stopped, node-tile, node-deep, node-stuck, node-split}
use Rattle.tables.proofs.drafts.+tree.Goals as goal

pub first-size-requires : goal.first-size-requires
first-size-requires t c =
    let frame : Frame = frame_from c.args.f c.args.edges.now in
    let bands : List ℤ = c.args.bands.now in
    let coef : List ℤ = c.args.coef.now in
    (lent frame bands coef c.args.limits.now c.args.marks.now c.requires.0, c.requires.0.sound.longest, c.requires.1, c.requires.0.marked)

pub returns-then-size-ne0 : goal.returns-then-size-ne0
returns-then-size-ne0 t c =
    let frame : Frame = frame_from c.args.f c.args.edges.now in
    let bands : List ℤ = c.args.bands.now in
    let coef : List ℤ = c.args.coef.now in
    let rules : Rules = rules_in frame bands coef in
    let box : List Side = box_of c.args.f.n c.args.b in
    let modes : List ℕ = c.first-size.new.us in
    let pattern : pattern_by c.first-size.result modes ≡ first_pattern rules box = c.first-size.ensures.pattern ∙ shortest-is frame bands coef c.args.limits.now c.args.marks.now c.requires.0 c.args.f.k 0 box in
    let w = c.put_tile in
    node-tile frame bands coef c.args.d box c.first-size.result modes pattern c.args.buf.now c.args.at c.if-size-ne0.true w.result w.new.buf w.ensures

pub returns-then-d-eq0 : goal.returns-then-d-eq0
returns-then-d-eq0 t c =
    let frame : Frame = frame_from c.args.f c.args.edges.now in
    let bands : List ℤ = c.args.bands.now in
    let coef : List ℤ = c.args.coef.now in
    let rules : Rules = rules_in frame bands coef in
    let box : List Side = box_of c.args.f.n c.args.b in
    let modes : List ℕ = c.first-size.new.us in
    let pattern : pattern_by c.first-size.result modes ≡ first_pattern rules box = c.first-size.ensures.pattern ∙ shortest-is frame bands coef c.args.limits.now c.args.marks.now c.requires.0 c.args.f.k 0 box in
    node-deep frame bands coef c.args.d box c.first-size.result modes pattern c.args.buf.now c.args.at c.if-size-ne0.false c.if-d-eq0.true

pub returns-then-count-eq0 : goal.returns-then-count-eq0
returns-then-count-eq0 t c =
    let frame : Frame = frame_from c.args.f c.args.edges.now in
    let bands : List ℤ = c.args.bands.now in
    let coef : List ℤ = c.args.coef.now in
    let rules : Rules = rules_in frame bands coef in
    let box : List Side = box_of c.args.f.n c.args.b in
    let modes : List ℕ = c.first-size.new.us in
    let pattern : pattern_by c.first-size.result modes ≡ first_pattern rules box = c.first-size.ensures.pattern ∙ shortest-is frame bands coef c.args.limits.now c.args.marks.now c.requires.0 c.args.f.k 0 box in
    node-stuck frame bands coef c.args.d box c.first-size.result modes pattern c.args.buf.now c.args.at c.if-size-ne0.false (sym c.count-count.ensures ∙ c.if-count-eq0.true)

pub tree-requires : goal.tree-requires
tree-requires t c =
    let box : List Side = box_of c.args.f.n c.args.b in
    let in-box : (j : ℕ) → j < c.count-count.result → j < length (children_by c.args.f.form box) = λ j h. let e = c.count-count.ensures in rw (← e) h in
    let deep = c.if-d-eq0.false in
    let less = c.requires.0 in
    (omega arith, (c.requires.0, rw c.child-child.ensures (small-children c.args.f.form edge_limit box c.loop-c.c (in-box _ c.loop-c-test.true) c.requires.1)))

pub returns-in_err-place : goal.returns-in_err-place
returns-in_err-place t c =
    let frame : Frame = frame_from c.args.f c.args.edges.now in
    let bands : List ℤ = c.args.bands.now in
    let coef : List ℤ = c.args.coef.now in
    let rules : Rules = rules_in frame bands coef in
    let box : List Side = box_of c.args.f.n c.args.b in
    let modes : List ℕ = c.first-size.new.us in
    let pattern : pattern_by c.first-size.result modes ≡ first_pattern rules box = c.first-size.ensures.pattern ∙ shortest-is frame bands coef c.args.limits.now c.args.marks.now c.requires.0 c.args.f.k 0 box in
    let whole : Option (List ℕ) = trees_bytes rules (c.args.d - 1) (children_by c.args.f.form box) in
    let in-box : (j : ℕ) → j < c.count-count.result → j < length (children_by c.args.f.form box) = λ j h. let e = c.count-count.ensures in rw (← e) h in
    let goes : (a : Grown) (out : List ℕ) → Wrote whole c.put_number-place.new.buf c.put_number-place.result a out → Wrote (tree_bytes rules c.args.d box) c.args.buf.now c.args.at a out = λ a. λ out. λ w. node-split frame bands coef c.args.d box c.first-size.result modes pattern c.args.buf.now c.args.at c.if-size-ne0.false c.if-d-eq0.false (λ z. c.if-count-eq0.false (c.count-count.ensures ∙ z)) c.put_number-place.result c.put_number-place.new.buf c.put_number-place.ensures a out w in
    let done : ℕ = c.loop-c.c in
    let left : List ℕ = c.tree.new.buf in
    let in_count : done < length (children_by c.args.f.form box) = in-box _ c.loop-c-test.true in
    let kid : List Side = box_of c.args.f.n c.child-child.result in
    let stopped : c.tree.result ≡ None → Wrote whole c.put_number-place.new.buf c.put_number-place.result None left = λ e. let l = c.loop-c in grow-stopped rules (c.args.d - 1) (children_by c.args.f.form box) done c.put_number-place.new.buf c.put_number-place.result whole l.place l.buf l.invariant [] in_count kid c.child-child.ensures c.tree.result left c.tree.ensures e in
    rw c.from_residual.ensures (goes None left (stopped c.in_err-place.was))

pub loop-c-preserved : goal.loop-c-preserved
loop-c-preserved t c =
    let frame : Frame = frame_from c.args.f c.args.edges.now in
    let bands : List ℤ = c.args.bands.now in
    let coef : List ℤ = c.args.coef.now in
    let rules : Rules = rules_in frame bands coef in
    let box : List Side = box_of c.args.f.n c.args.b in
    let whole : Option (List ℕ) = trees_bytes rules (c.args.d - 1) (children_by c.args.f.form box) in
    let in-box : (j : ℕ) → j < c.count-count.result → j < length (children_by c.args.f.form box) = λ j h. let e = c.count-count.ensures in rw (← e) h in
    let done : ℕ = c.loop-c.c in
    let left : List ℕ = c.tree.new.buf in
    let in_count : done < length (children_by c.args.f.form box) = in-box _ c.loop-c-test.true in
    let kid : List Side = box_of c.args.f.n c.child-child.result in
    let goes_on : (m : ℕ) → c.tree.result ≡ Some m → Growing c.put_number-place.new.buf c.put_number-place.result whole (trees_bytes rules (c.args.d - 1) (drop (done + 1) (children_by c.args.f.form box))) m left = λ m. λ e. let l = c.loop-c in grow-more rules (c.args.d - 1) (children_by c.args.f.form box) done c.put_number-place.new.buf c.put_number-place.result whole l.place l.buf l.invariant [] in_count kid c.child-child.ensures c.tree.result left c.tree.ensures m e in
    goes_on c.in_ok-place.place c.in_ok-place.was

pub returns : goal.returns
returns t c =
    let frame : Frame = frame_from c.args.f c.args.edges.now in
    let bands : List ℤ = c.args.bands.now in
    let coef : List ℤ = c.args.coef.now in
    let rules : Rules = rules_in frame bands coef in
    let box : List Side = box_of c.args.f.n c.args.b in
    let modes : List ℕ = c.first-size.new.us in
    let pattern : pattern_by c.first-size.result modes ≡ first_pattern rules box = c.first-size.ensures.pattern ∙ shortest-is frame bands coef c.args.limits.now c.args.marks.now c.requires.0 c.args.f.k 0 box in
    let whole : Option (List ℕ) = trees_bytes rules (c.args.d - 1) (children_by c.args.f.form box) in
    let goes-on : (a : Grown) (out : List ℕ) → Wrote whole c.put_number-place.new.buf c.put_number-place.result a out → Wrote (tree_bytes rules c.args.d box) c.args.buf.now c.args.at a out = λ a. λ out. λ w. node-split frame bands coef c.args.d box c.first-size.result modes pattern c.args.buf.now c.args.at c.if-size-ne0.false c.if-d-eq0.false (λ z. c.if-count-eq0.false (c.count-count.ensures ∙ z)) c.put_number-place.result c.put_number-place.new.buf c.put_number-place.ensures a out w in
    let l = c.loop-c in
    let n = c.count-count.ensures in
    let h = c.loop-c-test.false in
    goes-on (Some l.place) l.buf (grow-done rules (c.args.d - 1) (children_by c.args.f.form box) l.c c.put_number-place.new.buf c.put_number-place.result whole l.place l.buf l.invariant (rw (← n) h))
