-- `finds::find`: where lengths are told, in the loop, what is left to find is the whole. Assumes nothing.
use Rattle.std.proofs.lemmas.Result.{err_from_is_err_and}
use Rattle.std.specs.Prelude.{Some, Ok, Err}
use Prim.Native.Nat.{ℕ, ◌-◌}
use mathlib.Core.Path.{◌≡◌, sym, ap, ◌∙◌}
use mathlib.Core.List.{List, []}
use native.Mathlib.Omega.{arith}
use borrow.Author.Tests.{ne_eqb}
use Rattle.meaning.specs.declared.Refusal.{Refusal}
use Rattle.meaning.specs.Boxes.{Side}
use Rattle.meaning.specs.Control.{find}
use Rattle.meaning.specs.Numbers.{number_at}
use Rattle.meaning.specs.Plants.{edge_limit}
use Rattle.tables.specs.Boxes.{box_of, Small}
use Rattle.tables.specs.declared.frames.Frame.{Frame}
use Rattle.tables.specs.Frames.{frame_from, rules_in}
use Rattle.tables.proofs.boxes.Halving.{small-children}
use Rattle.tables.proofs.finds.Laws.{node-broken, node_over, node-tile, node-deep}
use Rattle.tables.proofs.finds.Told.{told-stuck, told-refused, told_child}
use Rattle.tables.proofs.parts.Laws.{number-within}
use Rattle.tables.proofs.refusals.Laws.{there, nothing}
use Rattle.tables.proofs.finds.find.Goals as goal

pub find_walking-requires : goal.find_walking-requires
find_walking-requires c = (c.requires.0, c.requires.1, ne_eqb c.args.f.form 2 c.if-f-ne2.true)

pub returns-in_err-k : goal.returns-in_err-k
returns-in_err-k c =
    let frame : Frame = frame_from c.args.f c.args.edges.now in
    let bytes : List ℕ = c.args.table.now in
    let here : List Side = box_of c.args.f.n c.loop-k.here in
    let p = err_from_is_err_and c.from_residual.result c.from_residual.ensures.1 in
    let h = nothing c.number.result c.broken.result c.in_err-k.ensures.value in
    rw (p.1, p.2, h.1) (ap Err c.broken.ensures ∙ node-broken frame c.args.x c.loop-k.left bytes c.loop-k.place here (sym c.number.ensures ∙ h.0) ∙ c.loop-k.invariant.2)

pub returns-then-f-k : goal.returns-then-f-k
returns-then-f-k c =
    let frame : Frame = frame_from c.args.f c.args.edges.now in
    let bytes : List ℕ = c.args.table.now in
    let here : List Side = box_of c.args.f.n c.loop-k.here in
    let size : ℕ = c.in_ok-k.k in
    let behind : ℕ = c.in_ok-k.next in
    let number : number_at bytes c.loop-k.place ≡ Some (size, behind) = sym c.number.ensures ∙ there c.number.result c.broken.result c.in_ok-k.ensures.value in
    ap Err c.bad_table.ensures ∙ node_over frame c.args.x c.loop-k.left bytes c.loop-k.place here size behind number c.if-f-k.true ∙ c.loop-k.invariant.2

pub returns-then-k-gt0 : goal.returns-then-k-gt0
returns-then-k-gt0 c =
    let frame : Frame = frame_from c.args.f c.args.edges.now in
    let bytes : List ℕ = c.args.table.now in
    let here : List Side = box_of c.args.f.n c.loop-k.here in
    let size : ℕ = c.in_ok-k.k in
    let behind : ℕ = c.in_ok-k.next in
    let number : number_at bytes c.loop-k.place ≡ Some (size, behind) = sym c.number.ensures ∙ there c.number.result c.broken.result c.in_ok-k.ensures.value in
    c.tile.ensures ∙ node-tile frame c.args.x c.loop-k.left bytes c.loop-k.place here size behind number c.if-k-gt0.true c.if-f-k.false ∙ c.loop-k.invariant.2

pub returns-then-left-eq0 : goal.returns-then-left-eq0
returns-then-left-eq0 c =
    let frame : Frame = frame_from c.args.f c.args.edges.now in
    let bytes : List ℕ = c.args.table.now in
    let here : List Side = box_of c.args.f.n c.loop-k.here in
    let size : ℕ = c.in_ok-k.k in
    let behind : ℕ = c.in_ok-k.next in
    let number : number_at bytes c.loop-k.place ≡ Some (size, behind) = sym c.number.ensures ∙ there c.number.result c.broken.result c.in_ok-k.ensures.value in
    ap Err c.bad_table-then-left-eq0.ensures ∙ node-deep frame c.args.x c.loop-k.left bytes c.loop-k.place here size behind number c.if-k-gt0.false c.if-left-eq0.true ∙ c.loop-k.invariant.2

pub returns-then-half-eq1 : goal.returns-then-half-eq1
returns-then-half-eq1 c =
    let frame : Frame = frame_from c.args.f c.args.edges.now in
    let bytes : List ℕ = c.args.table.now in
    let here : List Side = box_of c.args.f.n c.loop-k.here in
    let told : c.args.f.form ≡ 2 = c.if-f-ne2.false in
    let size : ℕ = c.in_ok-k.k in
    let behind : ℕ = c.in_ok-k.next in
    let number : number_at bytes c.loop-k.place ≡ Some (size, behind) = sym c.number.ensures ∙ there c.number.result c.broken.result c.in_ok-k.ensures.value in
    ap Err c.bad_table-then-half-eq1.ensures ∙ told-stuck frame told c.args.x c.loop-k.left bytes c.loop-k.place behind size number c.if-k-gt0.false here c.half_of-half.result c.half_of-half.ensures c.if-half-eq1.true ∙ c.loop-k.invariant.2

pub place_of-requires : goal.place_of-requires
place_of-requires c =
    let bytes : List ℕ = c.args.table.now in
    let size : ℕ = c.in_ok-k.k in
    let behind : ℕ = c.in_ok-k.next in
    let number : number_at bytes c.loop-k.place ≡ Some (size, behind) = sym c.number.ensures ∙ there c.number.result c.broken.result c.in_ok-k.ensures.value in
    (number-within bytes c.loop-k.place size behind number, c.half_of-half.ensures.inside, c.half_of-half.ensures.few)

pub returns-in_err-place : goal.returns-in_err-place
returns-in_err-place c =
    let frame : Frame = frame_from c.args.f c.args.edges.now in
    let bytes : List ℕ = c.args.table.now in
    let here : List Side = box_of c.args.f.n c.loop-k.here in
    let of-form-2 : c.args.f.form ≡ 2 = c.if-f-ne2.false in
    let size : ℕ = c.in_ok-k.k in
    let behind : ℕ = c.in_ok-k.next in
    let number : number_at bytes c.loop-k.place ≡ Some (size, behind) = sym c.number.ensures ∙ there c.number.result c.broken.result c.in_ok-k.ensures.value in
    let refuses : (r : Refusal) → c.place_of.result ≡ Err r → Err r ≡ find (rules_in frame [] []) c.args.d bytes c.args.at (box_of c.args.f.n c.args.b) c.args.x = λ r. λ g. told-refused frame of-form-2 c.args.x c.loop-k.left bytes c.loop-k.place behind size number c.if-k-gt0.false here c.half_of-half.result c.half_of-half.ensures c.if-half-eq1.false c.if-left-eq0.false c.place_of.result c.place_of.ensures r g ∙ c.loop-k.invariant.2 in
    let p = err_from_is_err_and c.from_residual-in_err-place.result c.from_residual-in_err-place.ensures.1 in
    rw (p.1, p.2) (refuses _ c.in_err-place.was)

pub loop-k-preserved : goal.loop-k-preserved
loop-k-preserved c =
    let frame : Frame = frame_from c.args.f c.args.edges.now in
    let bytes : List ℕ = c.args.table.now in
    let here : List Side = box_of c.args.f.n c.loop-k.here in
    let lengths-told : c.args.f.form ≡ 2 = c.if-f-ne2.false in
    let size : ℕ = c.in_ok-k.k in
    let behind : ℕ = c.in_ok-k.next in
    let number : number_at bytes c.loop-k.place ≡ Some (size, behind) = sym c.number.ensures ∙ there c.number.result c.broken.result c.in_ok-k.ensures.value in
    let small : (c.half_of-half.result.count ≡ 1 → ⊥) → Small edge_limit (box_of c.args.f.n c.half_of-half.result.kid) = λ some. let h = c.half_of-half.ensures in rw (h.kid_is some) (small-children 1 edge_limit here c.half_of-half.result.number (omega (arith, h.inside, h.many some)) c.loop-k.invariant.0) in
    let goes : (p : ℕ) → c.place_of.result ≡ Ok p → find (rules_in frame [] []) (c.loop-k.left - 1) bytes p (box_of c.args.f.n c.half_of-half.result.kid) c.args.x ≡ find (rules_in frame [] []) c.args.d bytes c.args.at (box_of c.args.f.n c.args.b) c.args.x = λ p. λ g. told_child frame lengths-told c.args.x c.loop-k.left bytes c.loop-k.place behind size number c.if-k-gt0.false here c.half_of-half.result c.half_of-half.ensures c.if-half-eq1.false c.if-left-eq0.false c.place_of.result c.place_of.ensures p g ∙ c.loop-k.invariant.2 in
    let h = c.half_of-half.ensures in
    let some = c.if-half-eq1.false in
    (small some, h.held, goes c.in_ok-place.place c.in_ok-place.was)
