-- Request 2026-01: on an accepted table the answer of an idle call, which passes children by their lengths, is that of the full walk, which walks over each child that it
-- passes. The full walk is the same look, with that change alone; it asks no length. Of every tree of sound shape, its tiles working or not, over any rules that split
-- well and whose numbers fit five bytes; and over bytes, of every accepted table and every reading in R. Where no lengths are told the two are one look.
-- Relies on page Finds. What the two answer of other tables is left out: there a call goes where the lengths point.
use Prim.Native.Nat.{ℕ, zero, suc, ◌+◌, ◌≤◌}
use Rattle.std.specs.Prelude.{◌≡◌, refl, Bool, List, [], ◌∷◌, ◌++◌, ℤ, length, Some, Ok, Err}
use Rattle.std.proofs.Common.{sym, ap, subst, ◌∙◌, append-nil, arith}
use Rattle.std.proofs.Math.Bool.{true, false}
use borrow.Author.Tests.{le-leb}
use Rattle.laws.specs.Counting.{bit, count}
use Rattle.laws.specs.Standing.{Stands, stand-front, stand-back}
use Rattle.meaning.specs.Answers.{Found}
use Rattle.meaning.specs.declared.Tried.TheVariants.{Works}
use Rattle.meaning.specs.Control as C
use Rattle.meaning.specs.Control.{idle, tile_found, pass_by, among, on_found, find, call}
use Rattle.meaning.specs.Numbers.{number_at, bytes_of}
use Rattle.meaning.specs.Plants.{root_of}
use Rattle.meaning.specs.Refusals.{bad_table}
use Rattle.meaning.specs.Rules.{Rules, rule, holds}
use Rattle.meaning.specs.Tables.{depth_by, form_of, rules_of, controlled, starts_in}
use Rattle.meaning.specs.Trees.{Tree, Forest, split, tile, leaf, more, tells, layout, layouts, Pattern, table_of, Over, Overs}
use Rattle.meaning.specs.Verdicts.{Length, on_read, lengths_by, split_at, modes_at, node_at, walk, header}
use Rattle.promises.specs.Files.Judged.{judged-sound}
use Rattle.promises.specs.Tables.Checked.{Tiled}
use Rattle.promises.specs.Tables.Finds.{pass, passed, behind-held, count-few, behind-count}
use Rattle.promises.specs.Tables.Laws.{Sizes, Fits, FitsEach, holding, Splits}
use Rattle.promises.specs.Tables.Layouts.{overs-count, tile-read, headed, table-stands, table-header}
use Rattle.promises.specs.Tables.PlantMotion.{splits}
use Rattle.promises.specs.Tables.PlantRules.{sizes, header-size, controlled-as}
use Rattle.promises.specs.Tables.Shapes.{Good, over-map}
use Rattle.promises.specs.Tables.SplitLengths.{Held, first_child, split-stands, past-none}
use Rattle.promises.specs.Tables.TableForms.{form-known}
use Rattle.promises.specs.Tables.Walking.{lengths_count, pass_over, look_among, split-some, find-split, find-tile}

module _ (r : Rules) where
  open r use {Box, Reading, children, form, K, N}

  -- the tile that holds a reading, each child before it being walked over
  unfoldable pub full_find : ℕ → List ℕ → ℕ → Box → Reading → Found
  full_find zero s at b x = node_at K s at Err
      (λ next. Err (bad_table at))
      (λ k next. tile_found (modes_at N k s next) next k)
  full_find (suc d) s at b x = node_at K s at Err
      (λ next. split_at (children b) (Err (bad_table at)) λ cs.
      on_read (lengths_by (tells form) cs s next) Err λ ls first.
      among (λ c. holds r c x) (λ p c. full_find d s p c x) (pass_by false (λ p c. walk r (λ _ _. Works) d s p c)) at cs ls first)
      (λ k next. tile_found (modes_at N k s next) next k)

  abbrev full_among : Reading → ℕ → List ℕ → ℕ → List Box → List Length → ℕ → Found
  full_among x d s node bs ls at = among (λ c. holds r c x) (λ p c. full_find d s p c x) (pass_by false (λ p c. walk r (λ _ _. Works) d s p c)) node bs ls at

  full-tile : (x : Reading) (d : ℕ) (s : List ℕ) (at : ℕ) (b : Box) (k m : ℕ) → number_at s at ≡ Some (k, m) → 1 ≤ k → k ≤ K
      → full_find d s at b x ≡ tile_found (modes_at N k s m) m k
  unfolding full_find
  full-tile x d s at b zero m e z l = absurd (omega arith)
  full-tile x d s at b (suc k) m e z l = elim d as (λ n. full_find n s at b x ≡ tile_found (modes_at N (suc k) s m) m (suc k)) [ zero ↦ simp (e, le-leb (suc k) K l) | suc c ↦ simp (e, le-leb (suc k) K l) ]

  full-split : (x : Reading) (d : ℕ) (s : List ℕ) (at : ℕ) (b : Box) (m : ℕ) → number_at s at ≡ Some (0, m) → (children b ≡ [] → ⊥)
      → full_find (suc d) s at b x ≡ on_read (lengths_by (tells form) (children b) s m) Err λ ls first. full_among x d s at (children b) ls first
  unfolding full_find
  full-split x d s at b m e y =
      rw e (split-some (Err (bad_table at)) (λ cs. on_read (lengths_by (tells form) cs s m) Err λ ls first. full_among x d s at cs ls first) (children b) y)

  module _ (sizes : Sizes r) (splits : Splits r) (P : Box → List ℕ → Type 0) (shape : (b : Box) (us : List ℕ) → P b us → Pattern K N us) (x : Reading) where
    -- the first child has the reading, or a later one
    first-or-later : (d : ℕ) (s : List ℕ) (node at mid : ℕ) (b : Box) (bs : List Box) (ls : List Length) (c : Bool) → holds r b x ≡ c
        → walk r (λ _ _. Works) d s at b ≡ Ok mid → (holds r b x ≡ true → full_find d s at b x ≡ find r d s at b x)
        → (holds r b x ≡ false → (pass_over r d s ls at b ≡ Ok mid) × (full_among x d s node bs (C.behind ls) mid ≡ look_among r x d s node bs (C.behind ls) mid))
        → full_among x d s node (b ∷ bs) ls at ≡ look_among r x d s node (b ∷ bs) ls at
    unfolding among
    first-or-later d s node at mid b bs ls true c over first later = rw c (first c)
    first-or-later d s node at mid b bs ls false c over first later = let w = later c in rw (c, over, w.0) w.1

    mutual
      unfolding Over layout count Fits Held among

      tree-full : (t : Tree) (d : ℕ) (s : List ℕ) (at : ℕ) (b : Box) (m : ℕ) → Over r P t d b → Fits (tells form) t → Stands s at (layout (tells form) t) m
          → holds r b x ≡ true → full_find d s at b x ≡ find r d s at b x
      tree-full (tile us) d s at b m o fit p h =
          let g = shape b us o in
          let q = tile-read r sizes us s at m g p in
          let next = at + length (bytes_of (length us)) in
          full-tile x d s at b (length us) next q.0 g.some g.few ∙ sym (find-tile r x d s at b (length us) next q.0 g.some g.few)
      tree-full (split f) zero s at b m o fit p h = absurd o
      tree-full (split f) (suc d) s at b m o fit p h =
          let told = tells form in
          let c = overs-count r P f d (children b) o.1 in
          let w = split-stands told f (children b) s at m c fit.0 p in
          let few = count-few r sizes splits P shape x told (length (children b)) in
          let past = past-none told f w.lengths s (first_child told f at) m (omega (arith, w.count, c, few)) w.held w.stand in
          let here = first_child told f at in
          let one : full_find (suc d) s at b x ≡ full_among x d s at (children b) w.lengths here = full-split x d s at b (at + length (bytes_of 0)) w.number o.0 ∙ rw w.are refl in
          let other : find r (suc d) s at b x ≡ look_among r x d s at (children b) w.lengths here =
          find-split r x (suc d) s at b (at + length (bytes_of 0)) d w.number refl o.0 ∙ rw (w.are, past) refl in
          one ∙ forest-full f d s at here (children b) w.lengths m o.1 fit.1 w.held w.count w.stand (splits b x o.0 ∙ ap bit h) ∙ sym other

      forest-full : (f : Forest) (d : ℕ) (s : List ℕ) (node at : ℕ) (bs : List Box) (ls : List Length) (m : ℕ) → Overs r P f d bs
          → FitsEach (tells form) f → Held (tells form) ls f → length ls ≡ lengths_count (tells form) (length bs)
          → Stands s at (layouts (tells form) f) m → holding r bs x ≡ 1 → full_among x d s node bs ls at ≡ look_among r x d s node bs ls at
      forest-full leaf d s node at [] ls m o fit held c p h = refl
      forest-full leaf d s node at (b ∷ bs) ls m o fit held c p h = absurd o
      forest-full (more t f) d s node at [] ls m o fit held c p h = absurd o
      forest-full (more t f) d s node at (b ∷ bs) ls m o fit held c p h =
          let told = tells form in
          let tree = layout told t in
          let mid = at + length tree in
          let q = stand-front tree (layouts told f) p in
          let over = pass r sizes splits P shape x t d s at b mid o.0 fit.0 q in
          first-or-later d s node at mid b bs ls (holds r b x) refl over
          (λ e. tree-full t d s at b mid o.0 fit.0 q e)
          (λ e.
          let z : holding r bs x ≡ 1 = let g : bit (holds r b x) ≡ 0 = ap bit e in omega arith in (
            passed r sizes splits P shape x told (λ y k. walk r (λ _ _. Works) d s y k) t f ls at b bs c held z (λ _. over),
            forest-full f d s node mid bs (C.behind ls) m o.1 fit.1 (behind-held r sizes splits P shape x told ls t f held)
                (behind-count r sizes splits P shape x told ls (length bs) c) (stand-back tree (layouts told f) p) z,
          ))

-- ---- of the table of a tree over R, with any bytes behind it, and a reading in R

pub full-finds : (r : Rules) (sizes : Sizes r) (splits : Splits r) (P : r.Box → List ℕ → Type 0) (shape : (b : r.Box) (us : List ℕ) → P b us → Pattern r.K r.N us)
    (s rest : List ℕ) (t : Tree) (is : s ≡ table_of r t ++ rest) (over : Over r P t r.D r.root) (x : r.Reading) (held : holds r r.root x ≡ true)
    → full_find r r.D s (headed r.form r.n) r.root x ≡ find r r.D s (headed r.form r.n) r.root x
full-finds r sizes splits P shape s rest t is over x held =
    tree-full r sizes splits P shape x t r.D s (headed r.form r.n) r.root (length (table_of r t)) over
    (sizes.lengths t (over-map r P (λ b us. Pattern r.K r.N us) shape t r.D r.root over)) (table-stands r s rest t is).1 held

-- and of every accepted table, which is that of a tree: an idle call's answer is that of the full walk
pub full-walk : (plant table : List ℕ) (t : Tiled plant table) (x : List ℤ) → starts_in plant x ≡ true
    → controlled plant table idle x ≡ on_found table (full_find (rules_of (form_of table) t.p) (depth_by (form_of table) t.p.n t.p.d) table 2 (root_of t.p) x)
unfolding call
full-walk plant table t x h =
    let p = t.p in
    let form = form_of table in
    let known = form-known table in
    let r = rules_of form p in
    let s = judged-sound plant p t.judged in
    let z = sizes form known p s in
    let held : holds r (root_of p) x ≡ true = rw t.judged at h in
    let is = t.is ∙ sym (append-nil (table_of r t.tree)) in
    let two = header-size form known p s in
    let head : header form p.n table ≡ Ok 2 = table-header r z table [] t.tree is ∙ ap (λ (m : ℕ). Ok m) two in
    let same = full-finds r z (splits form p) (Good r (rule r)) (λ b us g. g.shape) table [] t.tree is t.works x held in
    let same2 : full_find r (depth_by form p.n p.d) table 2 (root_of p) x ≡ find r (depth_by form p.n p.d) table 2 (root_of p) x =
    subst (λ (m : ℕ). full_find r (depth_by form p.n p.d) table m (root_of p) x ≡ find r (depth_by form p.n p.d) table m (root_of p) x) two same in
    controlled-as plant p t.judged table idle x ∙ simp (head, held) (ap (on_found table) (sym same2))
