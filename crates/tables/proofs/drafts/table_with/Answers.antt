-- `drafts::table_with`: the limits, the header, then the tree of the box that is tiled, by the frame taken apart. Assumes nothing.
use Prim.Native.Nat.{ℕ}
use mathlib.Core.Path.{◌≡◌, sym, subst}
use Rattle.meaning.specs.Plants.{edge_limit}
use Rattle.tables.specs.declared.frames.Frame.{Frame}
use Rattle.tables.specs.Boxes.{box_of, Small}
use Rattle.tables.specs.Drafts.{Wrote, tree_bytes}
use Rattle.tables.specs.Frames.{frame_from, rules_in}
use Rattle.tables.specs.Limits.{LimitsLaid}
use Rattle.tables.proofs.frames.Laws.{lent_is}
use Rattle.tables.proofs.drafts.Laws.{table-wrote}
use Rattle.tables.proofs.drafts.table_with.Goals as goal

pub tree-requires : goal.tree-requires
tree-requires g c =
    let whole : frame_from c.counts_of.result c.edges_of-edges.result ≡ c.args.f = lent_is c.args.f c.counts_of.result c.edges_of-edges.result c.counts_of.ensures c.edges_of-edges.ensures in
    let a = c.args in
    let l = c.lay in
    subst (λ (f : Frame). LimitsLaid f a.bands.now a.coef.now l.new.limits l.new.marks × Small edge_limit (box_of f.n a.f.root)) (sym whole) (l.ensures.laid, c.requires.plant.0.root)

pub returns : goal.returns
returns g c =
    let whole : frame_from c.counts_of.result c.edges_of-edges.result ≡ c.args.f = lent_is c.args.f c.counts_of.result c.edges_of-edges.result c.counts_of.ensures c.edges_of-edges.ensures in
    let a = c.args in
    let w = c.tree in
    let d = c.depth-depth in
    let v = c.put_number-past_rooms in
    table-wrote (rules_in a.f a.bands.now a.coef.now) c.put_number-past_form.ensures v.ensures w.result w.new.buf
    (subst (λ (d : ℕ). Wrote (tree_bytes (rules_in a.f a.bands.now a.coef.now) d (box_of a.f.n a.f.root)) v.new.buf v.result w.result w.new.buf) d.ensures
    (subst (λ (f : Frame). Wrote (tree_bytes (rules_in f a.bands.now a.coef.now) d.result (box_of f.n a.f.root)) v.new.buf v.result w.result w.new.buf) whole w.ensures))
