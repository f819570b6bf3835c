-- `walks::walk_told`, which calls itself with less depth: each return cites the law of the node that it stops at; in the loop over the children,
-- those that are left say what the whole says, each held to its length. Assumes nothing.
use Rattle.std.proofs.lemmas.Result.{err_from_is_err_and}
use Rattle.std.specs.Prelude.{Some, Ok, Err}
use Prim.Native.Nat.{ℕ, ◌+◌, ◌-◌, ◌≤◌, ◌<◌}
use mathlib.Core.Path.{◌≡◌, sym, ap, ◌∙◌}
use mathlib.Core.Bool.{Bool}
use mathlib.Core.List.{List}
use native.Mathlib.Omega.{arith}
use lib.IntN.{ℤ}
use lib.ListN.{length}
use Rattle.meaning.specs.Answers.{Walk}
use Rattle.meaning.specs.declared.Refusal.{Refusal}
use Rattle.meaning.specs.Refusals.{bad_table}
use Rattle.meaning.specs.Numbers.{number_at}
use Rattle.meaning.specs.Boxes.{Side}
use Rattle.meaning.specs.Plants.{edge_limit}
use Rattle.meaning.specs.Tables.{children_by}
use Rattle.tables.specs.Boxes.{box_of}
use Rattle.tables.specs.declared.frames.Frame.{Frame}
use Rattle.tables.specs.Frames.{frame_from}
use Rattle.tables.specs.Lengths.{behind_at}
use Rattle.tables.proofs.boxes.Halving.{small-children}
use Rattle.tables.proofs.walks.Laws.{Left, tree, tree-broken, tree_over, tile-alike, tree-deep, tree-stuck, tree-unread, tree-split, left-done, left-stopped, left-more, left-wrong}
use Rattle.tables.proofs.refusals.Laws.{there, nothing}
use Rattle.tables.proofs.walks.+walk_told.Goals as goal

pub returns-in_err-k : goal.returns-in_err-k
returns-in_err-k t c =
    let frame : Frame = frame_from c.args.f c.args.edges.now in
    let bands : List ℤ = c.args.bands.now in
    let coef : List ℤ = c.args.coef.now in
    let flag : Bool = c.args.judged in
    let table : List ℕ = c.args.table.now in
    let box : List Side = box_of c.args.f.n c.args.b in
    let p = err_from_is_err_and c.from_residual.result c.from_residual.ensures.1 in
    let h = nothing c.number.result c.broken.result c.in_err-k.ensures.value in
    rw (p.1, p.2, h.1) (ap Err c.broken.ensures ∙ tree-broken frame bands coef flag c.args.d table c.args.at box (sym c.number.ensures ∙ h.0))

pub returns-then-f-k : goal.returns-then-f-k
returns-then-f-k t c =
    let frame : Frame = frame_from c.args.f c.args.edges.now in
    let bands : List ℤ = c.args.bands.now in
    let coef : List ℤ = c.args.coef.now in
    let flag : Bool = c.args.judged in
    let table : List ℕ = c.args.table.now in
    let box : List Side = box_of c.args.f.n c.args.b in
    let whole : Walk = tree frame bands coef flag c.args.d table c.args.at box in
    let size : ℕ = c.in_ok-k.k in
    let next : ℕ = c.in_ok-k.next in
    let value : number_at table c.args.at ≡ Some (size, next) = sym c.number.ensures ∙ there c.number.result c.broken.result c.in_ok-k.ensures.value in
    let over : (frame).k < size → Err (bad_table c.args.at) ≡ whole = λ h. tree_over frame bands coef flag c.args.d table c.args.at box size next value h in
    ap Err c.bad_table.ensures ∙ over c.if-f-k.true

pub returns-then-k-gt0 : goal.returns-then-k-gt0
returns-then-k-gt0 t c =
    let frame : Frame = frame_from c.args.f c.args.edges.now in
    let bands : List ℤ = c.args.bands.now in
    let coef : List ℤ = c.args.coef.now in
    let flag : Bool = c.args.judged in
    let table : List ℕ = c.args.table.now in
    let box : List Side = box_of c.args.f.n c.args.b in
    let size : ℕ = c.in_ok-k.k in
    let next : ℕ = c.in_ok-k.next in
    let value : number_at table c.args.at ≡ Some (size, next) = sym c.number.ensures ∙ there c.number.result c.broken.result c.in_ok-k.ensures.value in
    c.walk.ensures ∙ tile-alike frame bands coef flag c.args.d table c.args.at box size next value c.if-k-gt0.true c.if-f-k.false

pub returns-then-d-eq0 : goal.returns-then-d-eq0
returns-then-d-eq0 t c =
    let frame : Frame = frame_from c.args.f c.args.edges.now in
    let bands : List ℤ = c.args.bands.now in
    let coef : List ℤ = c.args.coef.now in
    let flag : Bool = c.args.judged in
    let table : List ℕ = c.args.table.now in
    let box : List Side = box_of c.args.f.n c.args.b in
    let whole : Walk = tree frame bands coef flag c.args.d table c.args.at box in
    let size : ℕ = c.in_ok-k.k in
    let next : ℕ = c.in_ok-k.next in
    let value : number_at table c.args.at ≡ Some (size, next) = sym c.number.ensures ∙ there c.number.result c.broken.result c.in_ok-k.ensures.value in
    let deep : size ≤ 0 → c.args.d ≡ 0 → Err (bad_table c.args.at) ≡ whole = λ z. λ h. tree-deep frame bands coef flag c.args.d table c.args.at box size next value z h in
    ap Err c.bad_table-then-d-eq0.ensures ∙ deep c.if-k-gt0.false c.if-d-eq0.true

pub returns-then-count-eq0 : goal.returns-then-count-eq0
returns-then-count-eq0 t c =
    let frame : Frame = frame_from c.args.f c.args.edges.now in
    let bands : List ℤ = c.args.bands.now in
    let coef : List ℤ = c.args.coef.now in
    let flag : Bool = c.args.judged in
    let table : List ℕ = c.args.table.now in
    let box : List Side = box_of c.args.f.n c.args.b in
    let whole : Walk = tree frame bands coef flag c.args.d table c.args.at box in
    let size : ℕ = c.in_ok-k.k in
    let next : ℕ = c.in_ok-k.next in
    let value : number_at table c.args.at ≡ Some (size, next) = sym c.number.ensures ∙ there c.number.result c.broken.result c.in_ok-k.ensures.value in
    let stuck : size ≤ 0 → length (children_by c.args.f.form box) ≡ 0 → Err (bad_table c.args.at) ≡ whole = λ z. λ h. tree-stuck frame bands coef flag c.args.d table c.args.at box size next value z h in
    ap Err c.bad_table-then-count-eq0.ensures ∙ stuck c.if-k-gt0.false (sym c.count-count.ensures ∙ c.if-count-eq0.true)

pub returns-in_err-place : goal.returns-in_err-place
returns-in_err-place t c =
    let frame : Frame = frame_from c.args.f c.args.edges.now in
    let bands : List ℤ = c.args.bands.now in
    let coef : List ℤ = c.args.coef.now in
    let flag : Bool = c.args.judged in
    let table : List ℕ = c.args.table.now in
    let box : List Side = box_of c.args.f.n c.args.b in
    let whole : Walk = tree frame bands coef flag c.args.d table c.args.at box in
    let size : ℕ = c.in_ok-k.k in
    let next : ℕ = c.in_ok-k.next in
    let value : number_at table c.args.at ≡ Some (size, next) = sym c.number.ensures ∙ there c.number.result c.broken.result c.in_ok-k.ensures.value in
    let many : ℕ = c.told-told.result in
    let unread : (x : Refusal) → behind_at many table next ≡ Err x → Err x ≡ whole = λ x. λ e. tree-unread frame bands coef flag c.args.d table c.args.at box size next value c.if-k-gt0.false c.if-d-eq0.false c.count-count.result c.count-count.ensures c.if-count-eq0.false many c.told-told.ensures x e in
    let p = err_from_is_err_and c.from_residual-in_err-place.result c.from_residual-in_err-place.ensures.1 in
    rw (p.1, p.2) (unread _ (sym c.in_err-place.ensures))

pub loop-c-init : goal.loop-c-init
loop-c-init t c =
    let frame : Frame = frame_from c.args.f c.args.edges.now in
    let bands : List ℤ = c.args.bands.now in
    let coef : List ℤ = c.args.coef.now in
    let flag : Bool = c.args.judged in
    let table : List ℕ = c.args.table.now in
    let box : List Side = box_of c.args.f.n c.args.b in
    let whole : Walk = tree frame bands coef flag c.args.d table c.args.at box in
    let size : ℕ = c.in_ok-k.k in
    let next : ℕ = c.in_ok-k.next in
    let value : number_at table c.args.at ≡ Some (size, next) = sym c.number.ensures ∙ there c.number.result c.broken.result c.in_ok-k.ensures.value in
    let many : ℕ = c.told-told.result in
    let kids : List (List Side) = children_by c.args.f.form box in
    let Rest : ℕ → ℕ → ℕ → Type 0 = λ done. λ cursor. λ place. Left (tree frame bands coef flag (c.args.d - 1) table) kids table many done cursor place whole in
    let entered : (first : ℕ) → behind_at many table next ≡ Ok first → Rest 0 next first = λ first. λ e. tree-split frame bands coef flag c.args.d table c.args.at box size next value c.if-k-gt0.false c.if-d-eq0.false c.count-count.result c.count-count.ensures c.if-count-eq0.false many c.told-told.ensures first e in
    (omega arith, entered c.in_ok-place.place (sym c.behind.ensures ∙ c.in_ok-place.was))

pub walk_told-requires : goal.walk_told-requires
walk_told-requires t c =
    let box : List Side = box_of c.args.f.n c.args.b in
    let k = c.count-count.ensures in
    let h = c.loop-c-test.true in
    let z = c.if-d-eq0.false in
    let less = c.requires.0 in
    (omega arith, (c.requires.0, rw c.child-child.ensures (small-children c.args.f.form edge_limit box c.loop-c.c (rw (← k) h) c.requires.1), c.requires.2))

pub returns-in_err-past : goal.returns-in_err-past
returns-in_err-past t c =
    let frame : Frame = frame_from c.args.f c.args.edges.now in
    let bands : List ℤ = c.args.bands.now in
    let coef : List ℤ = c.args.coef.now in
    let flag : Bool = c.args.judged in
    let table : List ℕ = c.args.table.now in
    let box : List Side = box_of c.args.f.n c.args.b in
    let whole : Walk = tree frame bands coef flag c.args.d table c.args.at box in
    let many : ℕ = c.told-told.result in
    let kids : List (List Side) = children_by c.args.f.form box in
    let done : ℕ = c.loop-c.c in
    let cursor : ℕ = c.loop-c.cursor in
    let at-kid : ℕ = c.loop-c.place in
    let in_count : done < length kids = let k = c.count-count.ensures in let h = c.loop-c-test.true in rw (← k) h in
    let kid : List Side = box_of c.args.f.n c.child-child.result in
    let one : ℕ → List Side → Walk = tree frame bands coef flag (c.args.d - 1) table in
    let stopped : (e : Refusal) → c.walk_told.result ≡ Err e → c.walk_told.result ≡ whole = λ e. λ h. left-stopped one kids table many done cursor at-kid whole c.loop-c.invariant.1 in_count kid c.child-child.ensures c.walk_told.result c.walk_told.ensures e h in
    let p = err_from_is_err_and c.from_residual-in_err-past.result c.from_residual-in_err-past.ensures.1 in
    rw (p.1, p.2) (sym c.in_err-past.was ∙ stopped _ c.in_err-past.was)

pub returns-in_err-cursor : goal.returns-in_err-cursor
returns-in_err-cursor t c =
    let frame : Frame = frame_from c.args.f c.args.edges.now in
    let bands : List ℤ = c.args.bands.now in
    let coef : List ℤ = c.args.coef.now in
    let flag : Bool = c.args.judged in
    let table : List ℕ = c.args.table.now in
    let box : List Side = box_of c.args.f.n c.args.b in
    let whole : Walk = tree frame bands coef flag c.args.d table c.args.at box in
    let many : ℕ = c.told-told.result in
    let kids : List (List Side) = children_by c.args.f.form box in
    let done : ℕ = c.loop-c.c in
    let cursor : ℕ = c.loop-c.cursor in
    let at-kid : ℕ = c.loop-c.place in
    let in_count : done < length kids = let k = c.count-count.ensures in let h = c.loop-c-test.true in rw (← k) h in
    let kid : List Side = box_of c.args.f.n c.child-child.result in
    let one : ℕ → List Side → Walk = tree frame bands coef flag (c.args.d - 1) table in
    let end : ℕ = c.in_ok-past.past in
    let wrong : (x : Refusal) → c.held.result ≡ Err x → c.held.result ≡ whole = λ x. λ g. left-wrong one kids table many done cursor at-kid whole c.loop-c.invariant.1 in_count kid c.child-child.ensures c.walk_told.result c.walk_told.ensures end c.in_ok-past.was c.held.result c.held.ensures x g in
    let p = err_from_is_err_and c.from_residual-in_err-cursor.result c.from_residual-in_err-cursor.ensures.1 in
    rw (p.1, p.2) (sym c.in_err-cursor.was ∙ wrong _ c.in_err-cursor.was)

pub loop-c-preserved : goal.loop-c-preserved
loop-c-preserved t c =
    let frame : Frame = frame_from c.args.f c.args.edges.now in
    let bands : List ℤ = c.args.bands.now in
    let coef : List ℤ = c.args.coef.now in
    let flag : Bool = c.args.judged in
    let table : List ℕ = c.args.table.now in
    let box : List Side = box_of c.args.f.n c.args.b in
    let whole : Walk = tree frame bands coef flag c.args.d table c.args.at box in
    let many : ℕ = c.told-told.result in
    let kids : List (List Side) = children_by c.args.f.form box in
    let Rest : ℕ → ℕ → ℕ → Type 0 = λ done. λ cursor. λ place. Left (tree frame bands coef flag (c.args.d - 1) table) kids table many done cursor place whole in
    let done : ℕ = c.loop-c.c in
    let cursor : ℕ = c.loop-c.cursor in
    let at-kid : ℕ = c.loop-c.place in
    let in_count : done < length kids = let k = c.count-count.ensures in let h = c.loop-c-test.true in rw (← k) h in
    let kid : List Side = box_of c.args.f.n c.child-child.result in
    let one : ℕ → List Side → Walk = tree frame bands coef flag (c.args.d - 1) table in
    let end : ℕ = c.in_ok-past.past in
    let more : (then : ℕ) → c.held.result ≡ Ok then → Rest (done + 1) then end = λ then. λ g. left-more one kids table many done cursor at-kid whole c.loop-c.invariant.1 in_count kid c.child-child.ensures c.walk_told.result c.walk_told.ensures end c.in_ok-past.was c.held.result c.held.ensures then g in
    (omega arith, more c.in_ok-cursor.cursor c.in_ok-cursor.was)

pub returns : goal.returns
returns t c =
    let frame : Frame = frame_from c.args.f c.args.edges.now in
    let bands : List ℤ = c.args.bands.now in
    let coef : List ℤ = c.args.coef.now in
    let flag : Bool = c.args.judged in
    let table : List ℕ = c.args.table.now in
    let box : List Side = box_of c.args.f.n c.args.b in
    let whole : Walk = tree frame bands coef flag c.args.d table c.args.at box in
    let many : ℕ = c.told-told.result in
    let kids : List (List Side) = children_by c.args.f.form box in
    let k = c.count-count.ensures in
    let h = c.loop-c-test.false in
    left-done (tree frame bands coef flag (c.args.d - 1) table) kids table many c.loop-c.c c.loop-c.cursor c.loop-c.place whole c.loop-c.invariant.1 (rw (← k) h)
