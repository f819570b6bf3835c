-- The defined table, written: a tile's modes one after another; a box by its first pattern; the children of a split one after another; the whole
-- by its parts. Assumes nothing.
use Rattle.std.specs.Prelude.{Some, None, ℕ}
use Prim.Native.Nat.{ℕ, zero, suc, ◌+◌, ◌*◌, ◌-◌, ◌^◌, ◌≤◌, ◌<◌}
use mathlib.Core.Path.{◌≡◌, refl, sym, ap, ◌∙◌}
use mathlib.Core.Bool.{Bool, true, false, cond}
use mathlib.Core.List.{List, [], ◌∷◌, ◌++◌}
use mathlib.Core.Option.{Option, none, some}
use native.Mathlib.Omega.{arith}
use borrow.Author.Tests.{le-leb}
use native.Mathlib.Numerals.{add-one}
use lib.IntN.{ℤ}
use lib.ListN.{length, get_or, drop, take, replicate, length-append, length-replicate, drop_of_length-le}
use lib.Seq.{drop-cons}
use Rattle.laws.specs.Lists.{tab}
use Rattle.laws.specs.Tabs.{length-tab, tab-step, tab-done}
use Rattle.laws.specs.Writing.{Put, put-append, put-length, put-none}
use Rattle.meaning.specs.Refusals.{no_table}
use Rattle.meaning.specs.Numbers.{bytes_of}
use Rattle.meaning.specs.Files.{good, bad}
use Rattle.meaning.specs.Boxes.{Side, side_at}
use Rattle.meaning.specs.Rules.{Rules}
use Rattle.meaning.specs.Trees.{Tree, Forest, split, tile, more, modes_bytes, tells, layout, layouts, Pattern, table_of}
use Rattle.meaning.specs.Defined.{map_some, and_also, all_of, split_of, first_pattern, tree_of, defined_tree}
use Rattle.meaning.specs.Tables.{one_side, children_by, depth_by, defined_table}
use Rattle.promises.specs.Files.Bytes.{one_byte}
use Rattle.promises.specs.Tables.Exists.{defined-works}
use Rattle.promises.specs.Tables.SameTree.{rooted-alike}
use Rattle.promises.specs.Tables.Shapes.{Shaped, working-shaped}
use Rattle.promises.specs.Tables.TableForms.{form-byte}
use Rattle.promises.specs.Tables.TreeLengths.{most, children_most, tile_bytes, tile-most, told-sides, layout-length, cap, cap-halving, cap-few, cap-halving-few}
use Rattle.files.specs.DraftLaws.{InDraft, in_buffer}
use Rattle.tables.specs.declared.frames.Frame.{Frame}
use Rattle.tables.specs.Boxes.{box_of}
use Rattle.tables.specs.Frames.{step_in, rules_in, FrameSound}
use Rattle.tables.specs.Search.{pattern_by}
use Rattle.tables.specs.Tiles.{mode_at, pattern_of}
use Rattle.tables.specs.Drafts.{Wrote, bytes_most, tree_bytes, trees_bytes, draft_of, draft_bytes, Grown}
use Rattle.tables.specs.Turns.{table_by}

-- ---- a tile: its modes from the j-th on are left

module _ (k : ℕ) (us : List ℕ) where
  abbrev pub modes_from : ℕ → List ℕ
  modes_from j = modes_bytes (tab (mode_at us) (k - j) j)

  pub tile-whole : {buf : List ℕ} {at next : ℕ} {mid : List ℕ} {last : ℕ} {out : List ℕ} → Put buf at (bytes_of k) next mid → Put mid next (modes_bytes (pattern_of k us)) last out
      → Put buf at (layout false (tile (pattern_of k us))) last out
  unfolding layout
  tile-whole t v = rw (length-tab (mode_at us) k 0) (put-append t v)

  pub tile-mode : (j : ℕ) → j < k → modes_from j ≡ bytes_of (mode_at us j) ++ modes_from (j + 1)
  unfolding modes_bytes
  tile-mode j h = rw (tab-step (mode_at us) k j h) refl

  pub tile-end : (j : ℕ) → k ≤ j → modes_from j ≡ []
  unfolding modes_bytes
  tile-end j h = rw (tab-done (mode_at us) k j h) refl

-- ---- some bytes, and behind them what may not exist

wrote-behind : {buf : List ℕ} {at : ℕ} {xs : List ℕ} {next : ℕ} {mid : List ℕ} → Put buf at xs next mid
    → (o : Option (List ℕ)) (a : Grown) (out : List ℕ) → Wrote o mid next a out → Wrote (map_some (λ ys. xs ++ ys) o) buf at a out
wrote-behind t (some ys) (Some n) out w = put-append t w
wrote-behind t (some ys) None out w = w
wrote-behind t none (Some n) out w = w
wrote-behind t none None out w = w ∙ put-length t

-- the buffer stays as long as it was
pub wrote-length : (o : Option (List ℕ)) (buf : List ℕ) (at : ℕ) (a : Grown) (out : List ℕ) → Wrote o buf at a out → length out ≡ length buf
wrote-length (some ys) buf at (Some n) out w = put-length w
wrote-length (some ys) buf at None out w = absurd w
wrote-length none buf at (Some n) out w = absurd w
wrote-length none buf at None out w = w

-- ---- a box by its first pattern

module _ (r : Rules) (d : ℕ) (b : Rules.Box r) where
  box-tile : (us : List ℕ) → first_pattern r b ≡ some us → tree_bytes r d b ≡ some (layout false (tile us))
  unfolding tree_of
  box-tile us e = go d
    where
      go : (d : ℕ) → tree_bytes r d b ≡ some (layout false (tile us))
      go zero = rw e refl
      go (suc d) = rw e refl

  box-deep : first_pattern r b ≡ none → d ≡ 0 → tree_bytes r d b ≡ none
  unfolding tree_of
  box-deep e h = rw (h, e) refl

  box-stuck : first_pattern r b ≡ none → Rules.children r b ≡ [] → tree_bytes r d b ≡ none
  unfolding tree_of
  box-stuck e h = go d
    where
      go : (d : ℕ) → tree_bytes r d b ≡ none
      go zero = rw e refl
      go (suc d) = rw (e, h) refl

-- number 0, then the children
split-bytes : (o : Option Forest) → map_some (layout false) (map_some split o) ≡ map_some (λ ys. bytes_of 0 ++ ys) (map_some (layouts false) o)
unfolding layout
split-bytes (some f) = refl
split-bytes none = refl

box-split : (r : Rules) (d : ℕ) (b : Rules.Box r) → first_pattern r b ≡ none → (Rules.children r b ≡ [] → ⊥)
    → tree_bytes r (suc d) b ≡ map_some (λ ys. bytes_of 0 ++ ys) (trees_bytes r d (Rules.children r b))
unfolding tree_of
box-split r d b e h = rw e (go (Rules.children r b) h)
  where
    go : (bs : List (Rules.Box r)) → (bs ≡ [] → ⊥) → map_some (layout false) (split_of (λ c. tree_of r d c) bs) ≡ map_some (λ ys. bytes_of 0 ++ ys) (trees_bytes r d bs)
    go [] z = absurd (z refl)
    go (b ∷ bs) z = split-bytes (all_of (λ c. tree_of r d c) (b ∷ bs))

-- a tree and those behind it
more_bytes : (t : Tree) (o : Option Forest) → map_some (layouts false) (map_some (more t) o) ≡ map_some (λ ys. layout false t ++ ys) (map_some (layouts false) o)
unfolding layouts
more_bytes t (some f) = refl
more_bytes t none = refl

-- ---- the trees of some boxes, in a loop: those of `rest` are to be written, from `place` on

pub record Growing (buf₀ : List ℕ) (at : ℕ) (whole rest : Option (List ℕ)) (place : ℕ) (buf : List ℕ) : Type 0 where
  pub long : length buf ≡ length buf₀
  pub within : place ≤ length buf + 1
  -- whoever writes the rest has written the whole
  pub goes : (a : Grown) (out : List ℕ) → Wrote rest buf place a out → Wrote whole buf₀ at a out

pub grow-none : (buf : List ℕ) (at : ℕ) (whole : Option (List ℕ)) → at ≤ length buf + 1 → Growing buf at whole whole at buf
grow-none buf at whole h = record { long = refl; within = h; goes = λ a out w. w }

module _ (r : Rules) (d : ℕ) (bs : List (Rules.Box r)) (c : ℕ) (buf₀ : List ℕ) (at : ℕ) (whole : Option (List ℕ)) (place : ℕ) (buf : List ℕ) (g : Growing buf₀ at whole (trees_bytes r d (drop c bs)) place buf) where
  pub grow-done : length bs ≤ c → Wrote whole buf₀ at (Some place) buf
  unfolding all_of layouts
  grow-done h = g.goes (Some place) buf (rw at-end (put-none buf place g.within))
    where
      at-end : trees_bytes r d (drop c bs) ≡ some []
      at-end = rw (drop_of_length-le bs h) refl

  -- the next box, as the code has it, and what was written for it
  module _ (b₀ : Rules.Box r) (h : c < length bs) (kid : Rules.Box r) (k : kid ≡ get_or bs c b₀) (a : Grown) (out : List ℕ) (w : Wrote (tree_bytes r d kid) buf place a out) where
    next-box : (o : Option Tree) → tree_of r d kid ≡ o → trees_bytes r d (drop c bs) ≡ map_some (layouts false) (and_also o λ _. all_of (λ c. tree_of r d c) (drop (c + 1) bs))
    unfolding all_of
    next-box o e = rw (add-one, drop-cons bs c b₀ h, ← k, e) refl

    pub grow-stopped : a ≡ None → Wrote whole buf₀ at None out
    grow-stopped z = go (tree_of r d kid) refl (rw z at w)
      where
        go : (o : Option Tree) → tree_of r d kid ≡ o → Wrote (map_some (layout false) o) buf place None out → Wrote whole buf₀ at None out
        go (some t) e v = absurd v
        go none e v = g.goes None out (rw (next-box none e) v)

    pub grow-more : (next : ℕ) → a ≡ Some next → Growing buf₀ at whole (trees_bytes r d (drop (c + 1) bs)) next out
    grow-more next z = go (tree_of r d kid) refl (rw z at w)
      where
        go : (o : Option Tree) → tree_of r d kid ≡ o → Wrote (map_some (layout false) o) buf place (Some next) out → Growing buf₀ at whole (trees_bytes r d (drop (c + 1) bs)) next out
        go none e v = absurd v
        go (some t) e v = record {
          long = put-length v ∙ g.long;
          within = omega (arith, v.place, put-length v);
          goes = λ x o u.
              g.goes x o (rw (next-box (some t) e ∙ more_bytes t (all_of (λ c. tree_of r d c) (drop (c + 1) bs))) (wrote-behind v (trees_bytes r d (drop (c + 1) bs)) x o u));
        }

-- ---- a node: what was sought for its box, and what is written

empty : {A : Type 0} (xs : List A) → length xs ≡ 0 → xs ≡ []
empty [] e = refl
empty (x ∷ xs) e = absurd (omega arith)

module _ (f : Frame) (bands coef : List ℤ) (d : ℕ) (b : List Side) (size : ℕ) (us : List ℕ) (q : pattern_by size us ≡ first_pattern (rules_in f bands coef) b) (buf : List ℕ) (at : ℕ) where
  pub node-tile : (size ≡ 0 → ⊥) → (next : ℕ) (out : List ℕ) → Put buf at (layout false (tile (pattern_of size us))) next out → Wrote (tree_bytes (rules_in f bands coef) d b) buf at (Some next) out
  node-tile z next out t = rw (box-tile (rules_in f bands coef) d b (pattern_of size us) (sym q ∙ there size z)) t
    where
      there : (k : ℕ) → (k ≡ 0 → ⊥) → pattern_by k us ≡ some (pattern_of k us)
      there zero z = absurd (z refl)
      there (suc k) z = refl

  module _ (z : size ≡ 0) where
    nothing : first_pattern (rules_in f bands coef) b ≡ none
    nothing = sym q ∙ rw z refl

    pub node-deep : d ≡ 0 → Wrote (tree_bytes (rules_in f bands coef) d b) buf at None buf
    node-deep h = rw (box-deep (rules_in f bands coef) d b nothing h) refl

    pub node-stuck : length (children_by f.form b) ≡ 0 → Wrote (tree_bytes (rules_in f bands coef) d b) buf at None buf
    node-stuck h = rw (box-stuck (rules_in f bands coef) d b nothing (empty (children_by f.form b) h)) refl

    pub node-split : (d ≡ 0 → ⊥) → (length (children_by f.form b) ≡ 0 → ⊥) → (place : ℕ) (mid : List ℕ) → Put buf at (bytes_of 0) place mid
        → (a : Grown) (out : List ℕ) → Wrote (trees_bytes (rules_in f bands coef) (d - 1) (children_by f.form b)) mid place a out → Wrote (tree_bytes (rules_in f bands coef) d b) buf at a out
    node-split h l place mid t a out w =
        let k : d ≡ suc (d - 1) = omega arith in
        let e : tree_bytes (rules_in f bands coef) d b ≡ map_some (λ ys. bytes_of 0 ++ ys) (trees_bytes (rules_in f bands coef) (d - 1) (children_by f.form b)) =
        ap (λ (i : ℕ). tree_bytes (rules_in f bands coef) i b) k ∙ box-split (rules_in f bands coef) (d - 1) b nothing (λ n. l (ap length n)) in
        rw e (wrote-behind t (trees_bytes (rules_in f bands coef) (d - 1) (children_by f.form b)) a out w)

-- ---- the whole table: form, n, then the tree of the box that is tiled

header-bytes : (r : Rules) (o : Option Tree) → map_some (draft_of r) o ≡ map_some (λ ys. bytes_of (Rules.form r) ++ ys) (map_some (λ ys. bytes_of (Rules.n r) ++ ys) (map_some (layout false) o))
header-bytes r (some t) = refl
header-bytes r none = refl

-- a draft of it: its front, where the draft has room for it
pub record Drafted (r : Rules) (size : ℕ) (out : List ℕ) : Type 0 where
  pub tree : Tree
  pub is : defined_tree r ≡ some tree
  pub held : InDraft (draft_of r tree) size out

module _ (r : Rules) where
  open r use {form, n, D, root}

  pub table-wrote : {buf : List ℕ} {past-form : ℕ} {mid : List ℕ} {past-rooms : ℕ} {behind : List ℕ} → Put buf 0 (bytes_of form) past-form mid → Put mid past-form (bytes_of n) past-rooms behind
      → (a : Grown) (out : List ℕ) → Wrote (tree_bytes r D root) behind past-rooms a out → Wrote (draft_bytes r) buf 0 a out
  table-wrote t v a out w =
      let o = tree_bytes r D root in
      rw (header-bytes r (defined_tree r)) (wrote-behind t (map_some (λ ys. bytes_of n ++ ys) o) a out (wrote-behind v o a out w))

  module _ (draft : List ℕ) (a : Grown) (out : List ℕ) (w : Wrote (draft_bytes r) draft 0 a out) where
    -- nothing where there is none
    pub draft-none : a ≡ None → defined_tree r ≡ none
    draft-none z = go (defined_tree r) (rw z at w)
      where
        go : (o : Option Tree) → Wrote (map_some (draft_of r) o) draft 0 None out → o ≡ none
        go (some t) v = absurd v
        go none v = refl

    drafted-by : (size : ℕ) → a ≡ Some size → ((t : Tree) → defined_tree r ≡ some t → length (draft_of r t) ≤ length draft) → Drafted r size out
    drafted-by size z room = go (defined_tree r) refl (rw z at w)
      where
        go : (o : Option Tree) → defined_tree r ≡ o → Wrote (map_some (draft_of r) o) draft 0 (Some size) out → Drafted r size out
        go none e v = absurd v
        go (some t) e v = record { tree = t; is = e; held = in_buffer draft (draft_of r t) size out (room t e) v }

  -- what is said of box i's table by its tree
  pub table_none : (i : ℕ) → defined_tree r ≡ none → defined_table i r ≡ bad (no_table i)
  table_none i e = rw e refl

  pub table-some : (i : ℕ) (t : Tree) → defined_tree r ≡ some t → defined_table i r ≡ good (table_of r t)
  table-some i t e = rw e refl

  -- the table of a tree by what its form tells; where it tells no lengths it is the draft
  pub table-by : (told : Bool) → tells form ≡ told → (t : Tree) → table_of r t ≡ table_by form n told t
  table-by told q t = ap (λ (u : Bool). table_by form n u t) q

  pub untold-is : tells form ≡ false → {size : ℕ} {out : List ℕ} (d : Drafted r size out) → table_of r d.tree ≡ take size out
  untold-is q d = table-by false q d.tree ∙ sym d.held.front

-- ---- the bytes of a frame's draft, at most

module _ (f : Frame) (bands coef : List ℤ) (g : FrameSound f) (t : Tree) (e : defined_tree (rules_in f bands coef) ≡ some t) where
  sides : length (box_of f.n f.root) ≡ f.n
  sides = length-tab (side_at f.root.lo f.root.hi) f.n 0

  pub shaped : Shaped (rules_in f bands coef) t
  shaped = working-shaped (rules_in f bands coef) t (defined-works (rules_in f bands coef) t e)

  -- of a tree as its form lays it out
  own-length : length (layout (tells f.form) t) ≤ most (tells f.form) (children_most f.form f.n) (tile_bytes f.modes) (depth_by f.form f.n f.d)
  own-length =
      layout-length f.form f.n f.modes f.k f.d (box_of f.n f.root) (box_of f.n f.goal) (box_of f.n f.safe) (step_in f bands coef)
      g.rooms (omega (arith, g.modes)) g.longest sides t shaped

  -- and with no lengths told: one of form 2 is one of form 1
  untold-length : length (layout false t) ≤ most false (children_most f.form f.n) (tile_bytes f.modes) (depth_by f.form f.n f.d)
  untold-length = go (tells f.form) refl
    where
      go : (told : Bool) → tells f.form ≡ told → length (layout false t) ≤ most false (children_most f.form f.n) (tile_bytes f.modes) (depth_by f.form f.n f.d)
      go false q = rw q at own-length
      go true q =
          let k : one_side f.form ≡ false = told-sides f.form q in
          rw k (layout-length 1 f.n f.modes f.k f.d (box_of f.n f.root) (box_of f.n f.goal) (box_of f.n f.safe) (step_in f bands coef)
          g.rooms (omega (arith, g.modes)) g.longest sides t
          (rooted-alike f.form 1 f.n f.modes f.k f.d (box_of f.n f.root) (box_of f.n f.goal) (box_of f.n f.safe) (step_in f bands coef) k
          (λ b us. Pattern f.k f.modes us) t shaped))

  draft-length : length (draft_of (rules_in f bands coef) t) ≤ bytes_most f
  draft-length =
      let tree = layout false t in
      omega (
        arith,
        untold-length,
        form-byte f.form g.known,
        ap length (one_byte f.n (omega (arith, g.rooms))),
        length-append (bytes_of f.form) (bytes_of f.n ++ tree),
        length-append (bytes_of f.n) tree,
      )

-- so an array of one of three lengths has room for it: for any, for at most 128 modes, and for such in at most sixteen tiles
module _ (f : Frame) (g : FrameSound f) where
  capped : most false (children_most f.form f.n) (tile_bytes f.modes) (depth_by f.form f.n f.d) ≤ 4096 * tile_bytes f.modes + 4095
  capped = go (one_side f.form)
    where
      go : (t : Bool) → most false (cond t 2 (2 ^ f.n)) (tile_bytes f.modes) (cond t (f.n * f.d) f.d) ≤ 4096 * tile_bytes f.modes + 4095
      go true = cap-halving (tile_bytes f.modes) (f.n * f.d) g.tiles
      go false = omega (arith, cap (tile_bytes f.modes) f.n f.d g.some g.rooms g.depth g.tiles)

  pub room_most : bytes_most f ≤ 57_345
  room_most = omega (arith, capped, tile-most f.modes)

  module _ (brief : f.modes ≤ 128) where
    one_each : tile_bytes f.modes ≡ 7
    one_each = simp (le-leb f.modes 128 brief)

    pub room-long : bytes_most f ≤ 32_769
    room-long = omega (arith, capped, one_each)

    pub room-few : f.n * f.d ≤ 4 → bytes_most f ≤ 129
    room-few l = omega (arith, go (one_side f.form), one_each)
      where
        go : (t : Bool) → most false (cond t 2 (2 ^ f.n)) (tile_bytes f.modes) (cond t (f.n * f.d) f.d) ≤ 16 * tile_bytes f.modes + 15
        go true = cap-halving-few (tile_bytes f.modes) (f.n * f.d) l
        go false = cap-few (tile_bytes f.modes) f.n f.d g.some g.rooms l

-- a draft that has room for a frame's table
pub drafted : (f : Frame) (bands coef : List ℤ) → FrameSound f → (draft : List ℕ) → bytes_most f ≤ length draft → (a : Grown) (out : List ℕ)
    → Wrote (draft_bytes (rules_in f bands coef)) draft 0 a out → (size : ℕ) → a ≡ Some size → Drafted (rules_in f bands coef) size out
drafted f bands coef g draft l a out w size z =
    drafted-by (rules_in f bands coef) draft a out w size z (λ t e. omega (arith, draft-length f bands coef g t e, l))

-- and an array of its own, of zeros
pub drafted-in : (f : Frame) (bands coef : List ℤ) → FrameSound f → (room : ℕ) → bytes_most f ≤ room → (a : Grown) (out : List ℕ)
    → Wrote (draft_bytes (rules_in f bands coef)) (replicate {A = ℕ} room 0) 0 a out → (size : ℕ) → a ≡ Some size → Drafted (rules_in f bands coef) size out × (size ≤ room)
drafted-in f bands coef g room l a out w size z =
    let zeros : List ℕ = replicate {A = ℕ} room 0 in
    let long : length zeros ≡ room = length-replicate {A = ℕ} room 0 in
    let d = drafted f bands coef g zeros (omega (arith, long, l)) a out w size z in
    (d, omega (arith, d.held.fits, long, wrote-length (draft_bytes (rules_in f bands coef)) zeros 0 a out w))
