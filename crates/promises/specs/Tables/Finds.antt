-- S8: of a tree of sound shape, exactly one tile holds a reading that R holds, and it is the one that is found, whether children are passed by their lengths or by a walk.
-- Over any rules that split well and whose numbers fit five bytes. The tiles may be of any kind, working or not, and any bytes may stand behind the
-- table: P is whatever else is known of each tile, and so is known of the one that is found. Of it a call answers the first mode.
use Rattle.std.specs.Prelude.{ℕ, zero, suc, ◌+◌, ◌^◌, ◌≤◌, ◌≡◌, Bool, cond, Ok}
use Rattle.std.proofs.Math.Path.{refl, ap}
use Rattle.std.proofs.Common.{◌∙◌}
use Rattle.std.proofs.Math.Bool.{true, false}
use mathlib.Core.List.{List, [], ◌∷◌, ◌++◌, append-nil}
use native.Mathlib.Omega.{arith}
use Rattle.std.proofs.Math.ListN.{length}
use Rattle.laws.specs.Counting.{bit, count}
use Rattle.laws.specs.Standing.{Stands, stand-front, stand-back}
use Rattle.meaning.specs.Answers.{Walk, Found}
use Rattle.meaning.specs.declared.Tried.TheVariants.{Works}
use Rattle.meaning.specs.Numbers.{bytes_of}
use Rattle.meaning.specs.Rules.{Rules, holds}
use Rattle.meaning.specs.Trees.{Tree, Forest, split, tile, leaf, more, modes_bytes, tells, layout, layouts, AllBelow, Pattern, table_of, Over, Overs, Tile, tiles_of, tiles_in, having}
use Rattle.meaning.specs.Verdicts.{Length, walk}
use Rattle.meaning.specs.Control as C
use Rattle.meaning.specs.Control.{pass_by, among, find, idle, state_with, mode_at, call}
use Rattle.promises.specs.Tables.Laws.{Sizes, Fits, FitsEach, holding, Splits}
use Rattle.promises.specs.Tables.Walking.{lengths_count, pass_over, look_among, find-split, find-tile}
use Rattle.promises.specs.Tables.Shapes.{Good, over-map}
use Rattle.promises.specs.Tables.Layouts.{overs-count, first_read, tile-read, walk-reads, headed, table-stands, table-header}
use Rattle.promises.specs.Tables.SplitLengths.{Held, first_child, split-stands, past-none}

-- the place behind a mode that stands there
abbrev pub next_place : ℕ → ℕ → ℕ
next_place place u = place + length (bytes_of u)

-- the first of some modes is answered, and the others are to come behind it
pub first-told : (N : ℕ) → N ≤ 2 ^ 35 → (u : ℕ) (vs s : List ℕ) (place end : ℕ) → AllBelow N (u ∷ vs) → Stands s place (modes_bytes (u ∷ vs)) end
    → mode_at s place (suc (length vs)) ≡ Ok (u, state_with vs (next_place place u))
first-told N small u vs s place end h p = rw (first_read N small u vs s place end h p) refl

bit-zero : (c : Bool) → bit c ≡ 0 → c ≡ false
bit-zero true e = absurd (omega arith)
bit-zero false e = refl

module _ (r : Rules) where
  open r use {Box, Reading, children, root, form, D, K, N}

  -- the place of a tile's first mode, and that behind its last
  abbrev pub first_place : Tile r → ℕ
  first_place t = t.place + length (bytes_of (length t.modes))

  abbrev pub end_place : Tile r → ℕ
  end_place t = t.place + length (layout (tells form) (tile t.modes))

  -- the tile at a place, by its first mode and the others
  abbrev pub tile_of : Box → ℕ → List ℕ → ℕ → Tile r
  tile_of b u us place = record { box = b; modes = u ∷ us; place = place }

  -- The tile was found, and is the only one of ts that holds the reading. Its bytes stand in s, not before lo.
  pub record OneTile (P : Box → List ℕ → Type 0) (x : Reading) (s : List ℕ) (lo : ℕ) (ts : List (Tile r)) (found : Found) : Type 0 where
    pub box : Box
    pub first : ℕ
    pub later : List ℕ
    pub place : ℕ
    pub only : having r x ts ≡ tile_of box first later place ∷ []
    pub told : found ≡ Ok (first_place (tile_of box first later place), suc (length later))
    pub holds-it : holds r box x ≡ true
    pub known : P box (first ∷ later)
    pub behind : lo ≤ place
    pub end : ℕ
    pub stand : Stands s place (bytes_of (suc (length later)) ++ modes_bytes (first ∷ later)) end

  abbrev pub the : {P : Box → List ℕ → Type 0} {x : Reading} {s : List ℕ} {lo : ℕ} {ts : List (Tile r)} {found : Found} → OneTile P x s lo ts found → Tile r
  the f = tile_of f.box f.first f.later f.place

  keep_append : (c : Bool) (t : Tile r) (a b : List (Tile r)) → cond c (t ∷ (a ++ b)) (a ++ b) ≡ cond c (t ∷ a) a ++ b
  keep_append true t a b = refl
  keep_append false t a b = refl

  having-append : (x : Reading) (a b : List (Tile r)) → having r x (a ++ b) ≡ having r x a ++ having r x b
  unfolding having
  having-append x [] b = refl
  having-append x (t ∷ a) b = rw (having-append x a b) (keep_append (holds r t.box x) t (having r x a) (having r x b))

  module _ (sizes : Sizes r) (splits : Splits r) (P : Box → List ℕ → Type 0) (shape : (b : Box) (us : List ℕ) → P b us → Pattern K N us) (x : Reading) where
    -- ---- no tile holds a reading that its box does not

    mutual
      unfolding Over count tiles_of having

      none-tree : (t : Tree) (d : ℕ) (b : Box) (at : ℕ) → Over r P t d b → holds r b x ≡ false → having r x (tiles_of r t b at) ≡ []
      none-tree (tile us) d b at o h = simp h
      none-tree (split f) zero b at o h = absurd o
      none-tree (split f) (suc d) b at o h = none-forest f d (children b) (first_child (tells form) f at) o.1 (splits b x o.0 ∙ ap bit h)

      none-forest : (f : Forest) (d : ℕ) (bs : List Box) (at : ℕ) → Overs r P f d bs → holding r bs x ≡ 0 → having r x (tiles_in r f bs at) ≡ []
      none-forest leaf d bs at o h = refl
      none-forest (more t f) d [] at o h = refl
      none-forest (more t f) d (b ∷ bs) at o h =
          let l : holds r b x ≡ false = bit-zero (holds r b x) (omega arith) in
          let m = at + length (layout (tells form) t) in
          having-append x (tiles_of r t b at) (tiles_in r f bs m) ∙ rw (none-tree t d b at o.0 l) (none-forest f d bs m o.1 (omega arith))

    -- ---- a subtree is passed, whatever its tiles

    pub pass : (t : Tree) (d : ℕ) (s : List ℕ) (at : ℕ) (b : Box) (m : ℕ) → Over r P t d b → Fits (tells form) t → Stands s at (layout (tells form) t) m
        → walk r (λ _ _. Works) d s at b ≡ Ok m
    pass t d s at b m o fit p =
        walk-reads r sizes (λ _ _. Works) t d s at b m (over-map r P (Good r (λ _ _. Works)) (λ c us g. record { shape = shape c us g; works = refl }) t d b o) fit p

    -- by its length, or by a walk over it; a child of which no length is told where they are told is the last, and no reading is sought behind it
    pub passed : (told : Bool) (over : ℕ → Box → Walk) (t : Tree) (f : Forest) (ls : List Length) (at : ℕ) (b : Box) (bs : List Box)
        → length ls ≡ lengths_count told (suc (length bs)) → Held told ls (more t f) → holding r bs x ≡ 1
        → (told ≡ false → over at b ≡ Ok (at + length (layout told t))) → pass_by told over ls at b ≡ Ok (at + length (layout told t))
    unfolding Held count
    passed false over t f ls at b bs c h some walked = walked refl
    passed true over t f [] at b [] c h some walked = absurd (omega arith)
    passed true over t f [] at b (e ∷ bs) c h some walked = absurd (omega arith)
    passed true over t f (l ∷ ls) at b bs c h some walked = let e : l.size ≡ length (layout true t) = h.0 in rw e refl

    -- the lengths behind the first
    pub behind-held : (told : Bool) (ls : List Length) (t : Tree) (f : Forest) → Held told ls (more t f) → Held told (C.behind ls) f
    unfolding Held
    behind-held told [] t f h = tt
    behind-held told (l ∷ ls) t f h = h.1

    pub count-few : (told : Bool) (k : ℕ) → lengths_count told k ≤ k
    count-few false k = omega arith
    count-few true k = omega arith

    pub behind-count : (told : Bool) (ls : List Length) (k : ℕ) → length ls ≡ lengths_count told (suc k) → length (C.behind ls) ≡ lengths_count told k
    behind-count false [] k c = refl
    behind-count false (l ∷ ls) k c = absurd (omega arith)
    behind-count true [] k c = omega arith
    behind-count true (l ∷ ls) k c = omega arith

    -- the same tile, of a longer list and a longer look
    seen : {s : List ℕ} {lo hi : ℕ} {ts us : List (Tile r)} {f g : Found} → lo ≤ hi → having r x us ≡ having r x ts → g ≡ f → OneTile P x s hi ts f
        → OneTile P x s lo us g
    seen l p q k = record {
      box = k.box;
      first = k.first;
      later = k.later;
      place = k.place;
      only = p ∙ k.only;
      told = q ∙ k.told;
      holds-it = k.holds-it;
      known = k.known;
      behind = omega (arith, k.behind);
      end = k.end;
      stand = k.stand;
    }

    -- the first child holds it, or a later one does
    first-or-later : (t : Tree) (f : Forest) (d : ℕ) (s : List ℕ) (node at : ℕ) (b : Box) (bs : List Box) (ls : List Length) → Over r P t d b → Overs r P f d bs
        → (holding r bs x ≡ 1 → pass_over r d s ls at b ≡ Ok (at + length (layout (tells form) t))) → holding r (b ∷ bs) x ≡ 1
        → (holds r b x ≡ true → OneTile P x s at (tiles_of r t b at) (find r d s at b x))
        → (holding r bs x ≡ 1 → OneTile P x s (at + length (layout (tells form) t)) (tiles_in r f bs (at + length (layout (tells form) t)))
        (look_among r x d s node bs (C.behind ls) (at + length (layout (tells form) t))))
        → (c : Bool) → holds r b x ≡ c → OneTile P x s at (tiles_in r (more t f) (b ∷ bs) at) (look_among r x d s node (b ∷ bs) ls at)
    unfolding count tiles_of among
    first-or-later t f d s node at b bs ls o os over h first later true c =
        let m = at + length (layout (tells form) t) in
        let z : holding r bs x ≡ 0 = let g : bit (holds r b x) ≡ 1 = ap bit c in omega arith in
        let w : having r x (tiles_in r (more t f) (b ∷ bs) at) ≡ having r x (tiles_of r t b at) =
        having-append x (tiles_of r t b at) (tiles_in r f bs m) ∙ rw (none-forest f d bs m os z) (append-nil (having r x (tiles_of r t b at))) in
        seen (omega arith) w (rw c refl) (first c)
    first-or-later t f d s node at b bs ls o os over h first later false c =
        let z : holding r bs x ≡ 1 = let g : bit (holds r b x) ≡ 0 = ap bit c in omega arith in
        let m = at + length (layout (tells form) t) in
        let w : having r x (tiles_in r (more t f) (b ∷ bs) at) ≡ having r x (tiles_in r f bs m) =
        having-append x (tiles_of r t b at) (tiles_in r f bs m) ∙ rw (none-tree t d b at o c) refl in
        seen (omega arith) w (rw (c, over z) refl) (later z)

    mutual
      unfolding Over layout tiles_of having count Fits

      tree_finds : (t : Tree) (d : ℕ) (s : List ℕ) (at : ℕ) (b : Box) (m : ℕ) → Over r P t d b → Fits (tells form) t
          → Stands s at (layout (tells form) t) m → holds r b x ≡ true
          → OneTile P x s at (tiles_of r t b at) (find r d s at b x)
      tree_finds (tile []) d s at b m o fit p h = absurd (omega (arith, (shape b [] o).some))
      tree_finds (tile (u ∷ us)) d s at b m o fit p h =
          let g = shape b (u ∷ us) o in
          let q = tile-read r sizes (u ∷ us) s at m g p in
          record {
            box = b;
            first = u;
            later = us;
            place = at;
            only = simp h;
            told = find-tile r x d s at b (suc (length us)) (at + length (bytes_of (suc (length us)))) q.0 g.some g.few ∙ rw q.1 refl;
            holds-it = h;
            known = o;
            behind = omega arith;
            end = m;
            stand = p;
          }
      tree_finds (split f) zero s at b m o fit p h = absurd o
      tree_finds (split f) (suc d) s at b m o fit p h =
          let told = tells form in
          let c = overs-count r P f d (children b) o.1 in
          let w = split-stands told f (children b) s at m c fit.0 p in
          let few = count-few told (length (children b)) in
          let past = past-none told f w.lengths s (first_child told f at) m (omega (arith, w.count, c, few)) w.held w.stand in
          seen (omega arith) refl (find-split r x (suc d) s at b (at + length (bytes_of 0)) d w.number refl o.0 ∙ rw (w.are, past) refl)
          (forest-finds f d s at (first_child told f at) (children b) w.lengths m o.1 fit.1 w.held w.count w.stand (splits b x o.0 ∙ ap bit h))

      forest-finds : (f : Forest) (d : ℕ) (s : List ℕ) (node at : ℕ) (bs : List Box) (ls : List Length) (m : ℕ) → Overs r P f d bs
          → FitsEach (tells form) f → Held (tells form) ls f → length ls ≡ lengths_count (tells form) (length bs)
          → Stands s at (layouts (tells form) f) m → holding r bs x ≡ 1 → OneTile P x s at (tiles_in r f bs at) (look_among r x d s node bs ls at)
      forest-finds leaf d s node at [] ls m o fit held c p h = absurd (omega arith)
      forest-finds leaf d s node at (b ∷ bs) ls m o fit held c p h = absurd o
      forest-finds (more t f) d s node at [] ls m o fit held c p h = absurd o
      forest-finds (more t f) d s node at (b ∷ bs) ls m o fit held c p h =
          let told = tells form in
          let tree = layout told t in
          let rest = layouts told f in
          let one = fit.0 in
          let q = stand-front tree rest p in
          first-or-later t f d s node at b bs ls o.0 o.1
          (λ z. passed told (λ y k. walk r (λ _ _. Works) d s y k) t f ls at b bs c held z (λ _. pass t d s at b (at + length tree) o.0 one q)) h
          (λ e. tree_finds t d s at b (at + length tree) o.0 one q e)
          (λ z. forest-finds f d s node (at + length tree) bs (C.behind ls) m o.1 fit.1 (behind-held told ls t f held)
          (behind-count told ls (length bs) c) (stand-back tree rest p) z)
          (holds r b x) refl

-- ---- S8: s is the table of a tree over R, with any bytes behind it, and R holds the reading

module _ (r : Rules) (sizes : Sizes r) (splits : Splits r) (P : r.Box → List ℕ → Type 0) (shape : (b : r.Box) (us : List ℕ) → P b us → Pattern r.K r.N us)
    (s rest : List ℕ) (t : Tree) (is : s ≡ table_of r t ++ rest) (over : Over r P t r.D r.root) (x : r.Reading) (held : holds r r.root x ≡ true) where
  pub finds : OneTile r P x s (headed r.form r.n) (tiles_of r t r.root (headed r.form r.n)) (find r r.D s (headed r.form r.n) r.root x)
  finds = tree_finds r sizes splits P shape x t r.D s (headed r.form r.n) r.root (length (table_of r t)) over
      (sizes.lengths t (over-map r P (λ b us. Pattern r.K r.N us) shape t r.D r.root over)) (table-stands r s rest t is).1 held

  -- and a call, idle, answers that tile's first mode
  pub call-finds : call r s idle x ≡ Ok (finds.first, state_with finds.later (next_place (first_place r (the r finds)) finds.first))
  unfolding call
  call-finds =
      let f = finds in
      let us = f.first ∷ f.later in
      let place = first_place r (the r f) in
      simp (table-header r sizes s rest t is, held, f.told)
      (first-told r.N sizes.modes f.first f.later s place f.end (shape f.box us f.known).modes (stand-back (bytes_of (length us)) (modes_bytes us) f.stand))
