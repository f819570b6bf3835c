-- Request 2026-01: of an accepted table that tells lengths an idle call on a reading in R reads at most 93 bytes, 87 while N ≤ 128: two of the header, of each split on the
-- way its 0 and its lengths, of as many bytes as its children's lengths need, and the tile. Four dimensions of depth 3 have the most: three splits of fifteen lengths, of
-- two, two and one byte. Of every tree of sound shape. Relies on pages Finds, Local and TreeLengths; what is read of other tables is page Little.
use Prim.Native.Nat.{ℕ, zero, suc, ◌+◌, ◌-◌, ◌*◌, ◌^◌, ◌≤◌}
use Rattle.std.specs.Prelude.{◌≡◌, refl, Bool, cond, List, [], ◌∷◌, ◌++◌, leb, ℤ, length, Ok}
use Rattle.std.proofs.Common.{sym, ap, subst, ◌∙◌, append-nil}
use Rattle.std.proofs.Math.Bool.{true, false}
use native.Mathlib.Omega.{arith}
use Rattle.laws.specs.Counting.{bit, count}
use Rattle.laws.specs.Every as E
use Rattle.laws.specs.Every.{Every}
use Rattle.laws.specs.Standing.{Stands, stand-front, stand-back}
use Rattle.meaning.specs.declared.Tried.TheVariants.{Works}
use Rattle.meaning.specs.Computing.{computing}
use Rattle.meaning.specs.Control as C
use Rattle.meaning.specs.Numbers.{bytes_of}
use Rattle.meaning.specs.Plants.{root_of}
use Rattle.meaning.specs.Rules.{Rules, holds}
use Rattle.meaning.specs.Tables.{depth_by, form_of, rules_of, starts_in}
use Rattle.meaning.specs.Trees.{Tree, Forest, split, tile, leaf, more, modes_bytes, tells, layout, layouts, Pattern, table_of, Over, Overs}
use Rattle.meaning.specs.Verdicts.{Length, walk}
use Rattle.promises.specs.Files.Bytes.{one_byte}
use Rattle.promises.specs.Files.Judged.{judged-sound}
use Rattle.promises.specs.Tables.Checked.{Tiled}
use Rattle.promises.specs.Tables.Finds.{pass, passed, behind-held, behind-count}
use Rattle.promises.specs.Tables.Laws.{Sizes, Fits, FitsEach, holding, Splits}
use Rattle.promises.specs.Tables.Layouts.{overs-count, tile-read, headed, table-stands}
use Rattle.promises.specs.Tables.Little.{total, passed-unread}
use Rattle.promises.specs.Tables.Local as L
use Rattle.promises.specs.Tables.Local.{spans, spans_among, spans-tile, spans-split, read_of}
use Rattle.promises.specs.Tables.PlantMotion.{splits}
use Rattle.promises.specs.Tables.PlantRules.{root-sides, sizes, header-size}
use Rattle.promises.specs.Tables.Shapes.{overs-map, working-shaped}
use Rattle.promises.specs.Tables.SplitLengths.{Held, first_child, split-stands}
use Rattle.promises.specs.Tables.TableForms.{form-known}
use Rattle.promises.specs.Tables.TreeLengths.{lengths_most, most, children_most, most-some, tile_bytes, tile-most, brief, sided-few, sided-same, told-sides, Brief, forest-length, told-length}
use Rattle.promises.specs.Tables.Walking.{lengths_count, pass_over}

-- the most bytes on the way down a tree of depth d
unfoldable pub way_most : Bool → ℕ → ℕ → ℕ → ℕ
way_most told c m zero = m
way_most told c m (suc d) = 1 + lengths_most told c (most told c m d) + way_most told c m d

module _ (told : Bool) (c m : ℕ) where
  way-deeper : (d k : ℕ) → way_most told c m d ≤ way_most told c m (k + d)
  unfolding way_most
  way-deeper d zero = let q : 0 + d ≡ d = omega arith in rw q (omega arith)
  way-deeper d (suc k) = let q : suc k + d ≡ suc (k + d) = omega arith in rw q (omega (arith, way-deeper d k))

  way-grows : (d e : ℕ) → d ≤ e → way_most told c m d ≤ way_most told c m e
  way-grows d e l = let q : e ≡ e - d + d = omega arith in rw q (way-deeper d (e - d))

-- ---- over any rules that tell lengths: Sized is kept by the children and bounds their number by c, and no tile has more than m bytes

module _ (r : Rules) (sizes : Sizes r) (splits : Splits r) (told : tells r.form ≡ true) (c m : ℕ) (some : 1 ≤ c) (Sized : r.Box → Type 0)
    (few : (b : r.Box) → Sized b → length (r.children b) ≤ c) (same : (b : r.Box) → Sized b → Every Sized (r.children b))
    (short : (us : List ℕ) → Pattern r.K r.N us → length (bytes_of (length us) ++ modes_bytes us) ≤ m) (x : r.Reading) where
  open r use {Box, children, form, K, N}

  abbrev Patterns : Box → List ℕ → Type 0
  Patterns b us = Pattern K N us

  abbrev way : ℕ → ℕ
  way d = way_most (tells form) c m d

  -- a split's own bytes
  split-bytes : (f : Forest) (d : ℕ) (b : Box) (at : ℕ) → Sized b → Overs r Patterns f d (children b)
      → first_child (tells form) f at - at ≤ 1 + lengths_most (tells form) c (most (tells form) c m d)
  split-bytes f d b at z o =
      let shorts = overs-map r Patterns (Brief r c m some Sized few same) (λ b us g. short us g) f d (children b) o in
      let each = forest-length r c m some Sized few same f d (children b) (same b z) shorts in
      let lengths = told-length r c m some Sized few same (tells form) f (length (children b)) (few b z) (most (tells form) c m d) each.1 in
      omega (arith, lengths, ap length (one_byte 0 (omega arith)))

  first-or-later : (bound d : ℕ) (s : List ℕ) (at mid : ℕ) (b : Box) (bs : List Box) (ls : List Length) (t : Bool) → holds r b x ≡ t
      → (holds r b x ≡ true → total (spans r d s at b x) ≤ bound)
      → (holds r b x ≡ false → (pass_over r d s ls at b ≡ Ok mid) × (total (spans_among r x d s bs (C.behind ls) mid) ≤ bound))
      → total (spans_among r x d s (b ∷ bs) ls at) ≤ bound
  unfolding L.among_spans
  first-or-later bound d s at mid b bs ls true e first later = rw e (first e)
  first-or-later bound d s at mid b bs ls false e first later =
      let w = later e in
      rw (e, w.0) (rw (passed-unread (tells form) told at mid (spans_among r x d s bs (C.behind ls) mid)) w.1)

  mutual
    unfolding Over layout count Fits Held total way_most L.among_spans E.Every

    tree-little : (t : Tree) (d : ℕ) (s : List ℕ) (at : ℕ) (b : Box) (end : ℕ) → Sized b → Over r Patterns t d b → Fits (tells form) t → Stands s at (layout (tells form) t) end
        → holds r b x ≡ true → total (spans r d s at b x) ≤ way d
    tree-little (tile us) d s at b end z o fit p h =
        let q = tile-read r sizes us s at end o p in
        rw (spans-tile r x d s at b (length us) (at + length (bytes_of (length us))) q.0 o.some o.few, q.1)
        (omega (arith, p.end, short us o, way-grows (tells form) c m 0 d (omega arith)))
    tree-little (split f) zero s at b end z o fit p h = absurd o
    tree-little (split f) (suc d) s at b end z o fit p h =
        let w = split-stands (tells form) f (children b) s at end (overs-count r Patterns f d (children b) o.1) fit.0 p in
        let here = first_child (tells form) f at in
        let rest = forest-little f d s here (children b) w.lengths end (same b z) o.1 fit.1 w.held w.count w.stand (splits b x o.0 ∙ ap bit h) in
        rw (spans-split r x d s at b (at + length (bytes_of 0)) here w.lengths w.number o.0 w.are) (omega (arith, rest, split-bytes f d b at z o.1))

    forest-little : (f : Forest) (d : ℕ) (s : List ℕ) (at : ℕ) (bs : List Box) (ls : List Length) (end : ℕ) → Every Sized bs → Overs r Patterns f d bs → FitsEach (tells form) f
        → Held (tells form) ls f → length ls ≡ lengths_count (tells form) (length bs) → Stands s at (layouts (tells form) f) end → holding r bs x ≡ 1
        → total (spans_among r x d s bs ls at) ≤ way d
    forest-little leaf d s at [] ls end z o fit held k p h = absurd (omega arith)
    forest-little leaf d s at (b ∷ bs) ls end z o fit held k p h = absurd o
    forest-little (more t f) d s at [] ls end z o fit held k p h = absurd o
    forest-little (more t f) d s at (b ∷ bs) ls end z o fit held k p h =
        let tree = layout (tells form) t in
        let mid = at + length tree in
        let q = stand-front tree (layouts (tells form) f) p in
        let shape : (b : Box) (us : List ℕ) → Patterns b us → Pattern K N us = λ b us g. g in
        first-or-later (way d) d s at mid b bs ls (holds r b x) refl
        (λ e. tree-little t d s at b mid z.0 o.0 fit.0 q e)
        (λ e.
        let one : holding r bs x ≡ 1 = let g : bit (holds r b x) ≡ 0 = ap bit e in omega arith in (
          passed r sizes splits Patterns shape x (tells form) (λ y k. walk r (λ _ _. Works) d s y k) t f ls at b bs k held one
              (λ _. pass r sizes splits Patterns shape x t d s at b mid o.0 fit.0 q),
          forest-little f d s mid bs (C.behind ls) end z.1 o.1 fit.1 (behind-held r sizes splits Patterns shape x (tells form) ls t f held)
              (behind-count r sizes splits Patterns shape x (tells form) ls (length bs) k) (stand-back tree (layouts (tells form) f) p) one,
        ))

-- ---- of a plant

-- of each n the deepest tree: four dimensions of depth 3 have the most
cap-way : (N n d : ℕ) → 1 ≤ n → n ≤ 4 → d ≤ 6 → n * d ≤ 12 → way_most true (2 ^ n) (tile_bytes N) d ≤ 78 + tile_bytes N
unfolding computing most way_most
cap-way N n d l h k e = go (leb N 128)
  where
    by-rooms : (m n : ℕ) → 1 ≤ n → n ≤ 4 → n * d ≤ 12 → way_most true 2 m 6 ≤ 78 + m → way_most true 4 m 6 ≤ 78 + m → way_most true 8 m 4 ≤ 78 + m → way_most true 16 m 3 ≤ 78 + m
        → way_most true (2 ^ n) m d ≤ 78 + m
    by-rooms m zero l h e one two three four = absurd (omega arith)
    by-rooms m (suc zero) l h e one two three four = omega (arith, way-grows true 2 m d 6 k)
    by-rooms m (suc (suc zero)) l h e one two three four = omega (arith, way-grows true 4 m d 6 k)
    by-rooms m (suc (suc (suc zero))) l h e one two three four = omega (arith, way-grows true 8 m d 4 (omega arith))
    by-rooms m (suc (suc (suc (suc zero)))) l h e one two three four = omega (arith, way-grows true 16 m d 3 (omega arith))
    by-rooms m (suc (suc (suc (suc (suc n))))) l h e one two three four = absurd (omega arith)

    go : (t : Bool) → way_most true (2 ^ n) (cond t 7 13) d ≤ 78 + cond t 7 13
    go true = by-rooms 7 n l h e (omega arith) (omega arith) (omega arith) (omega arith)
    go false = by-rooms 13 n l h e (omega arith) (omega arith) (omega arith) (omega arith)

-- Of an accepted table, which is that of a tree, and a reading in R: at most 80 bytes and the tile.
pub little-accepted : (plant table : List ℕ) (t : Tiled plant table) (x : List ℤ) → starts_in plant x ≡ true → tells (form_of table) ≡ true
    → total (read_of (rules_of (form_of table) t.p) x table 2) ≤ 80 + tile_bytes t.p.modes
unfolding total
little-accepted plant table t x h told =
    let p = t.p in
    let s = judged-sound plant p t.judged in
    let form = form_of table in
    let known = form-known table in
    let r = rules_of form p in
    let z = sizes form known p s in
    let held : holds r (root_of p) x ≡ true = rw t.judged at h in
    let is = t.is ∙ sym (append-nil (table_of r t.tree)) in
    let shaped = working-shaped r t.tree t.works in
    let two = header-size form known p s in
    let way : total (spans r (depth_by form p.n p.d) table (headed form p.n) (root_of p) x) ≤ way_most (tells form) (children_most form p.n) (tile_bytes p.modes) (depth_by form p.n p.d) =
    tree-little r z (splits form p) told (children_most form p.n) (tile_bytes p.modes) (most-some form p.n) (λ b. length b ≡ p.n) (sided-few form p.n) (sided-same form p.n)
    (brief p.k p.modes s.ranges.k-high s.ranges.m-high) x t.tree (depth_by form p.n p.d) table (headed form p.n) (root_of p) (length (table_of r t.tree))
    (root-sides p) shaped (z.lengths t.tree shaped) (table-stands r table [] t.tree is).1 held in
    let way2 : total (spans r (depth_by form p.n p.d) table 2 (root_of p) x) ≤ way_most (tells form) (children_most form p.n) (tile_bytes p.modes) (depth_by form p.n p.d) =
    subst (λ (a : ℕ). total (spans r (depth_by form p.n p.d) table a (root_of p) x) ≤ way_most (tells form) (children_most form p.n) (tile_bytes p.modes) (depth_by form p.n p.d)) two way in
    let cap : way_most (tells form) (children_most form p.n) (tile_bytes p.modes) (depth_by form p.n p.d) ≤ 78 + tile_bytes p.modes =
    rw (told, told-sides form told) (cap-way p.modes p.n p.d s.ranges.n-low s.ranges.n-high s.ranges.d-high s.ranges.nd-high) in
    omega (arith, way2, cap)

-- so no more than 93
pub little-accepted-most : (plant table : List ℕ) (t : Tiled plant table) (x : List ℤ) → starts_in plant x ≡ true → tells (form_of table) ≡ true
    → total (read_of (rules_of (form_of table) t.p) x table 2) ≤ 93
little-accepted-most plant table t x h told = omega (arith, little-accepted plant table t x h told, tile-most t.p.modes)
