-- The walk and the layout: what is walked over without a refusal is the layout of a tree of sound shape that stands there, and such a layout is
-- walked over. So of a tile's modes, and of the header. Every judge of a tile is served, and so is the passing of a subtree.
-- Over any rules; that what stands is read needs numbers that fit five bytes. The lengths that a split tells are page SplitLengths.
use Prim.Native.Nat.{ℕ, zero, suc, ◌+◌, ◌^◌, ◌≤◌, ◌<◌}
use Rattle.std.specs.Prelude.{◌≡◌, ltb, eqb, Some, Ok, Err}
use Rattle.std.proofs.Math.Path.{refl, ap}
use Rattle.std.proofs.Common.{sym, ◌∙◌, arith, zero-add}
use mathlib.Core.List.{List, [], ◌∷◌, ◌++◌, append_assoc}
use Rattle.std.proofs.Math.ListN.{length}
use Rattle.std.proofs.Math.Seq.{drop-append_seam}
use borrow.Author.Tests.{ltb-true, eqb-true, lt-ltb, eq-eqb}
use Rattle.laws.specs.Guards.{guard}
use Rattle.laws.specs.Standing.{Stands, stand-nil, stand-join, stand-front, stand-back}
use Rattle.laws.specs.Tests.{never, guard_passed}
use Rattle.meaning.specs.Answers.{Walk}
use Rattle.meaning.specs.declared.Refusal.{Refusal}
use Rattle.meaning.specs.declared.Tried.{Tried}
use Rattle.meaning.specs.declared.Tried.TheVariants.{Works, Leaves, Misses}
use Rattle.meaning.specs.Refusals.{broken, wrong_form, bad_table}
use Rattle.meaning.specs.Numbers.{number_at, bytes_of}
use Rattle.meaning.specs.Files.{Read, read, refused, before}
use Rattle.meaning.specs.Rules.{Rules}
use Rattle.meaning.specs.Trees.{Tree, Forest, split, tile, leaf, more, modes_bytes, tells, layout, layouts, AllBelow, Pattern, table_of, Over, Overs}
use Rattle.meaning.specs.Verdicts.{Length, on_number, on_tried, on_modes, lengths_by, each, split_at, modes_at, walk, header}
use Rattle.promises.specs.Files.Numbers.{reads, was}
use Rattle.promises.specs.Tables.Laws.{Sizes, Fits, FitsEach}
use Rattle.promises.specs.Tables.Shapes.{Good}
use Rattle.promises.specs.Tables.SplitLengths.{count_of, Held, first_child, lengths-stand, held_bytes, held_small, split-stands}
use Rattle.promises.specs.Tables.Walking.{number_read, walk-went, read-went, NodeWas, was-split, was-tile, node-was, lengths-by, each_by, walk_split, walk-tile}

refused-read : {A : Type 0} {e : Refusal} {a : A} {m : ℕ} → refused e ≡ read a m → ⊥
refused-read e = never cc

refused-next : {e : Refusal} {m : ℕ} → Err e ≡ Ok m → ⊥
refused-next e = never cc

-- ---- a tile's modes

module _ (N : ℕ) where
  pub record ModesStand (k : ℕ) (s : List ℕ) (at : ℕ) (us : List ℕ) (m : ℕ) : Type 0 where
    pub count : length us ≡ k
    pub modes : AllBelow N us
    pub stand : Stands s at (modes_bytes us) m

  pub modes-stand : (k : ℕ) (s : List ℕ) (at : ℕ) (us : List ℕ) (m : ℕ) → modes_at N k s at ≡ read us m → ModesStand k s at us m
  unfolding modes_at AllBelow modes_bytes
  modes-stand zero s at us m e =
      let p : us ≡ [] = cc in
      let q : m ≡ at = cc in
      rw (p, q) (record { count = refl; modes = tt; stand = stand-nil s at })
  modes-stand (suc k) s at us m e =
      let v = number_read (number_at s at) (λ u next. guard (ltb u N) (refused (bad_table at)) λ _. before u (modes_at N k s next)) refused-read e in
      let g = guard_passed (ltb v.0 N) (λ _. before v.0 (modes_at N k s v.1)) refused-read v.3 in
      go v.0 v.1 (was v.0 at v.1 s v.2).1 (ltb-true v.0 N g.0) (λ us m q. modes-stand k s v.1 us m q) (modes_at N k s v.1) refl g.1
    where
      go : (u next : ℕ) → Stands s at (bytes_of u) next → u < N → ((us : List ℕ) (m : ℕ) → modes_at N k s next ≡ read us m → ModesStand k s next us m)
          → (o : Read (List ℕ)) → modes_at N k s next ≡ o → before u o ≡ read us m → ModesStand (suc k) s at us m
      go u next p l ih (refused x) q e = absurd (refused-read e)
      go u next p l ih (read vs y) q e =
          let a : us ≡ u ∷ vs = cc in
          let b : m ≡ y = cc in
          let h = ih vs y q in
          rw (a, b) (record { count = ap suc h.count; modes = (l, h.modes); stand = stand-join p h.stand })

  -- the first of modes that stand there
  pub first_read : N ≤ 2 ^ 35 → (u : ℕ) (us s : List ℕ) (at m : ℕ) → AllBelow N (u ∷ us) → Stands s at (modes_bytes (u ∷ us)) m
      → number_at s at ≡ Some (u, at + length (bytes_of u))
  unfolding AllBelow modes_bytes
  first_read small u us s at m h p = reads u at (at + length (bytes_of u)) s (omega (arith, h.0)) (stand-front (bytes_of u) (modes_bytes us) p)

  pub modes-read : N ≤ 2 ^ 35 → (us s : List ℕ) (at m : ℕ) → AllBelow N us → Stands s at (modes_bytes us) m → modes_at N (length us) s at ≡ read us m
  unfolding modes_at AllBelow modes_bytes
  modes-read small [] s at m h p = let q : m ≡ at = omega (arith, p.end) in rw q refl
  modes-read small (u ∷ us) s at m h p =
      let ih = modes-read small us s (at + length (bytes_of u)) m h.1 (stand-back (bytes_of u) (modes_bytes us) p) in
      simp (first_read small u us s at m h p, lt-ltb u N h.0, ih)

-- ---- the header

module _ (form n : ℕ) where
  -- the place behind it
  abbrev pub headed : ℕ
  headed = length (bytes_of form ++ bytes_of n)

  pub header-stands : (s : List ℕ) (at : ℕ) → header form n s ≡ Ok at → Stands s 0 (bytes_of form ++ bytes_of n) at
  unfolding header
  header-stands s at e =
      let f = number_read (number_at s 0) (λ told p. guard (eqb told form) (Err wrong_form) λ _. second p) refused-next e in
      let told = f.0 in
      let p = f.1 in
      let one = guard_passed (eqb told form) (λ _. second p) refused-next f.3 in
      let g = number_read (number_at s p) (λ m next. guard (eqb m n) (Err (bad_table p)) λ _. Ok next) refused-next one.1 in
      let m = g.0 in
      let next = g.1 in
      let same = guard_passed (eqb m n) (λ _. Ok next) refused-next g.3 in
      let a : told ≡ form = eqb-true told form one.0 in
      let b : m ≡ n = eqb-true m n same.0 in
      let c : next ≡ at = cc same.1 in
      stand-join (rw a at (was told 0 p s f.2).1) (rw (b, c) at (was m p next s g.2).1)
    where
      -- the header's second number, at p
      second : ℕ → Walk
      second p = on_number (number_at s p) (Err (broken p)) λ m next. guard (eqb m n) (Err (bad_table p)) λ _. Ok next

  pub header_read : form < 2 ^ 35 → n < 2 ^ 35 → (s : List ℕ) (at : ℕ) → Stands s 0 (bytes_of form ++ bytes_of n) at → header form n s ≡ Ok at
  unfolding header
  header_read fit small s at p =
      let a = reads form 0 (0 + length (bytes_of form)) s fit (stand-front (bytes_of form) (bytes_of n) p) in
      let b = reads n (0 + length (bytes_of form)) at s small (stand-back (bytes_of form) (bytes_of n) p) in
      simp (a, b, eq-eqb form form refl, eq-eqb n n refl)

-- ---- a tree

module _ (r : Rules) where
  open r use {Box, children, form, n, K, N}

  -- a tree over the box, its layout from `at` up to m; a forest over the boxes
  pub record TreeStands (judge : Box → List ℕ → Tried) (d : ℕ) (s : List ℕ) (at : ℕ) (b : Box) (m : ℕ) : Type 0 where
    pub tree : Tree
    pub over : Over r (Good r judge) tree d b
    pub fits : Fits (tells form) tree
    pub stand : Stands s at (layout (tells form) tree) m

  -- each tree as long as is told of it
  record ForestStands (judge : Box → List ℕ → Tried) (d : ℕ) (s : List ℕ) (at : ℕ) (bs : List Box) (ls : List Length) (m : ℕ) : Type 0 where
    forest : Forest
    over : Overs r (Good r judge) forest d bs
    fits : FitsEach (tells form) forest
    stand : Stands s at (layouts (tells form) forest) m
    held : Held (tells form) ls forest
    count : count_of forest ≡ length bs

  -- a forest over boxes has as many trees
  pub overs-count : (P : Box → List ℕ → Type 0) (f : Forest) (d : ℕ) (bs : List Box) → Overs r P f d bs → count_of f ≡ length bs
  unfolding Over count_of
  overs-count P leaf d [] o = refl
  overs-count P leaf d (b ∷ bs) o = absurd o
  overs-count P (more t f) d [] o = absurd o
  overs-count P (more t f) d (b ∷ bs) o = ap suc (overs-count P f d bs o.1)

  module _ (judge : Box → List ℕ → Tried) where
    tile-stands : (b : Box) (k d : ℕ) (s : List ℕ) (at from m : ℕ) → number_at s at ≡ Some (k, from) → 1 ≤ k → k ≤ K
        → on_modes (modes_at N k s from) at (judge b) ≡ Ok m → TreeStands judge d s at b m
    unfolding layout Over Fits
    tile-stands b k d s at from m q l h e = go (modes_at N k s from) refl e
      where
        judged : (us : List ℕ) (y : ℕ) → ModesStand N k s from us y → (o : Tried) → judge b us ≡ o → on_tried o at y ≡ Ok m → TreeStands judge d s at b m
        judged us y w Works p e =
            let f : m ≡ y = cc in
            let c : length us ≡ k = w.count in
            record {
              tree = tile us;
              over = record { shape = record { some = omega arith; few = omega arith; modes = w.modes }; works = p };
              fits = tt;
              stand = rw (c, f) (stand-join (was k at from s q).1 w.stand);
            }
        judged us y w (Leaves i) p e = absurd (refused-next e)
        judged us y w (Misses i) p e = absurd (refused-next e)

        go : (o : Read (List ℕ)) → modes_at N k s from ≡ o → on_modes o at (judge b) ≡ Ok m → TreeStands judge d s at b m
        go (read us y) p e = judged us y (modes-stand N k s from us y p) (judge b us) refl e
        go (refused x) p e = absurd (refused-next e)

    each_stands : (d : ℕ) (s : List ℕ) → ((at : ℕ) (b : Box) (m : ℕ) → walk r judge d s at b ≡ Ok m → TreeStands judge d s at b m)
        → (bs : List Box) (ls : List Length) (at m : ℕ) → each (λ p c. walk r judge d s p c) bs ls at ≡ Ok m → ForestStands judge d s at bs ls m
    unfolding each layout Over count_of Held Fits
    each_stands d s ih [] [] at m e = let q : m ≡ at = cc in rw q (record { forest = leaf; over = tt; fits = tt; stand = stand-nil s at; held = tt; count = refl })
    each_stands d s ih [] (l ∷ ls) at m e = let q : m ≡ at = cc in rw q (record { forest = leaf; over = tt; fits = tt; stand = stand-nil s at; held = tt; count = refl })
    each_stands d s ih (b ∷ bs) [] at m e =
        let w = walk-went (walk r judge d s at b) Err (λ y. each (λ p c. walk r judge d s p c) bs [] y) (λ _. refused-next) e in
        let t = ih at b w.0 w.1 in
        let f = each_stands d s ih bs [] w.0 m w.2 in
        record { forest = more t.tree f.forest; over = (t.over, f.over); fits = (t.fits, f.fits); stand = stand-join t.stand f.stand; held = tt; count = ap suc f.count }
    each_stands d s ih (b ∷ bs) (l ∷ ls) at m e =
        let on : ℕ → Walk = λ y. guard (eqb y (at + l.size)) (Err (bad_table l.place)) λ _. each (λ p c. walk r judge d s p c) bs ls y in
        let w = walk-went (walk r judge d s at b) Err on (λ _. refused-next) e in
        let g = guard_passed (eqb w.0 (at + l.size)) (λ _. each (λ p c. walk r judge d s p c) bs ls w.0) refused-next w.2 in
        let t = ih at b w.0 w.1 in
        let f = each_stands d s ih bs ls w.0 m g.1 in
        let size : l.size ≡ length (layout (tells form) t.tree) = omega (arith, eqb-true w.0 (at + l.size) g.0, t.stand.end) in
        record { forest = more t.tree f.forest; over = (t.over, f.over); fits = (t.fits, f.fits); stand = stand-join t.stand f.stand; held = (size, f.held); count = ap suc f.count }

    -- a split's lengths are those of its children
    split-was : (d : ℕ) (s : List ℕ) (at from : ℕ) (b : Box) (m : ℕ) → number_at s at ≡ Some (0, from)
        → ((bs : List Box) (ls : List Length) (first : ℕ) → each (λ p c. walk r judge d s p c) bs ls first ≡ Ok m → ForestStands judge d s first bs ls m)
        → split_at (children b) (Err (bad_table at)) (λ cs. each_by r judge d s cs from) ≡ Ok m → TreeStands judge (suc d) s at b m
    unfolding layout Over Fits
    split-was d s at from b m q ih = go (children b) refl
      where
        go : (bs : List Box) → children b ≡ bs → split_at bs (Err (bad_table at)) (λ cs. each_by r judge d s cs from) ≡ Ok m
            → TreeStands judge (suc d) s at b m
        go [] p e = absurd (refused-next e)
        go (c ∷ cs) p e =
            let w = read-went (lengths_by (tells form) (c ∷ cs) s from) Err (λ ls first. each (λ p c. walk r judge d s p c) (c ∷ cs) ls first) (λ _. refused-next) e in
            let f = ih (c ∷ cs) w.0 w.1 w.3 in
            let l = lengths-stand _ s from w.0 w.1 (sym (lengths-by (tells form) (c ∷ cs) s from) ∙ w.2) in
            let told = held_bytes (tells form) f.forest w.0 (rw f.count l.count) f.held in
            record {
              tree = split f.forest;
              over = ((λ z. never cc), rw p f.over);
              fits = (held_small (tells form) f.forest w.0 (rw f.count l.count) f.held l.small, f.fits);
              stand = stand-join (was 0 at from s q).1 (stand-join (rw told at l.stand) f.stand);
            }

    pub walk-stands : (d : ℕ) (s : List ℕ) (at : ℕ) (b : Box) (m : ℕ) → walk r judge d s at b ≡ Ok m → TreeStands judge d s at b m
    unfolding walk
    walk-stands zero s at b m e =
        go (node-was K s at Err (λ _. Err (bad_table at)) (λ k y. on_modes (modes_at N k s y) at (judge b)) (λ _. refused-next) e)
      where
        go : NodeWas K s at (λ _. Err (bad_table at)) (λ k y. on_modes (modes_at N k s y) at (judge b)) (Ok m) → TreeStands judge zero s at b m
        go (was-split y q p) = absurd (refused-next p)
        go (was-tile k y q l h p) = tile-stands b k zero s at y m q l h p
    walk-stands (suc d) s at b m e =
        go (λ p c y f. walk-stands d s p c y f)
        (node-was K s at Err (λ y. split_at (children b) (Err (bad_table at)) λ cs. each_by r judge d s cs y)
        (λ k y. on_modes (modes_at N k s y) at (judge b)) (λ _. refused-next) e)
      where
        go : ((at : ℕ) (b : Box) (m : ℕ) → walk r judge d s at b ≡ Ok m → TreeStands judge d s at b m)
            → NodeWas K s at (λ y. split_at (children b) (Err (bad_table at)) λ cs. each_by r judge d s cs y)
            (λ k y. on_modes (modes_at N k s y) at (judge b)) (Ok m)
            → TreeStands judge (suc d) s at b m
        go ih (was-split y q p) = split-was d s at y b m q (λ bs ls first f. each_stands d s ih bs ls first m f) p
        go ih (was-tile k y q l h p) = tile-stands b k (suc d) s at y m q l h p

  -- a table with any bytes behind it: its header, and its tree
  pub table-stands : (s rest : List ℕ) (t : Tree) → s ≡ table_of r t ++ rest
      → Stands s 0 (bytes_of form ++ bytes_of n) (headed form n) × Stands s (headed form n) (layout (tells form) t) (length (table_of r t))
  table-stands s rest t e =
      let tree = layout (tells form) t in
      let q = append_assoc (bytes_of form) (bytes_of n) tree in
      let p : Stands s 0 ((bytes_of form ++ bytes_of n) ++ tree) (length (table_of r t)) =
      rw (q, e) (record { end = omega arith; bytes = ap (λ (l : List ℕ). table_of r t ++ l) (sym (drop-append_seam (table_of r t) rest)) }) in
      (rw zero-add at (stand-front (bytes_of form ++ bytes_of n) tree p), rw zero-add at (stand-back (bytes_of form ++ bytes_of n) tree p))

  module _ (sizes : Sizes r) where
    pub table-header : (s rest : List ℕ) (t : Tree) → s ≡ table_of r t ++ rest → header form n s ≡ Ok (headed form n)
    table-header s rest t e = header_read form n sizes.forms sizes.dimensions s (headed form n) (table-stands s rest t e).0

    -- a tile's number, and its modes behind it
    pub tile-read : (us s : List ℕ) (at m : ℕ) → Pattern K N us → Stands s at (bytes_of (length us) ++ modes_bytes us) m
        → (number_at s at ≡ Some (length us, at + length (bytes_of (length us)))) × (modes_at N (length us) s (at + length (bytes_of (length us))) ≡ read us m)
    tile-read us s at m g p = (
      reads (length us) at (at + length (bytes_of (length us))) s (omega (arith, g.few, sizes.nodes)) (stand-front (bytes_of (length us)) (modes_bytes us) p),
      modes-read N sizes.modes us s (at + length (bytes_of (length us))) m g.modes (stand-back (bytes_of (length us)) (modes_bytes us) p),
    )

    module _ (judge : Box → List ℕ → Tried) where
      mutual
        unfolding layout Over each Held Fits

        pub walk-reads : (t : Tree) (d : ℕ) (s : List ℕ) (at : ℕ) (b : Box) (m : ℕ) → Over r (Good r judge) t d b → Fits (tells form) t
            → Stands s at (layout (tells form) t) m → walk r judge d s at b ≡ Ok m
        walk-reads (tile us) d s at b m o fit p =
            let q = tile-read us s at m o.shape p in
            walk-tile r judge d s at b (length us) (at + length (bytes_of (length us))) q.0 o.shape.some o.shape.few ∙ rw q.1 (rw o.works refl)
        walk-reads (split f) zero s at b m o fit p = absurd o
        walk-reads (split f) (suc d) s at b m o fit p =
            let w = split-stands (tells form) f (children b) s at m (overs-count (Good r judge) f d (children b) o.1) fit.0 p in
            walk_split r judge (suc d) s at b (at + length (bytes_of 0)) d w.number refl o.0
            ∙ rw w.are (each-reads f d s (first_child (tells form) f at) (children b) w.lengths m o.1 fit.1 w.held w.stand)

        each-reads : (f : Forest) (d : ℕ) (s : List ℕ) (at : ℕ) (bs : List Box) (ls : List Length) (m : ℕ) → Overs r (Good r judge) f d bs
            → FitsEach (tells form) f → Held (tells form) ls f → Stands s at (layouts (tells form) f) m
            → each (λ p c. walk r judge d s p c) bs ls at ≡ Ok m
        each-reads leaf d s at [] [] m o fit h p = let q : m ≡ at = omega (arith, p.end) in rw q refl
        each-reads leaf d s at [] (l ∷ ls) m o fit h p = let q : m ≡ at = omega (arith, p.end) in rw q refl
        each-reads leaf d s at (b ∷ bs) ls m o fit h p = absurd o
        each-reads (more t f) d s at [] ls m o fit h p = absurd o
        each-reads (more t f) d s at (b ∷ bs) [] m o fit h p =
            let tree = layout (tells form) t in
            let rest = layouts (tells form) f in
            rw (walk-reads t d s at b (at + length tree) o.0 fit.0 (stand-front tree rest p))
            (each-reads f d s (at + length tree) bs [] m o.1 fit.1 h (stand-back tree rest p))
        each-reads (more t f) d s at (b ∷ bs) (l ∷ ls) m o fit h p =
            let tree = layout (tells form) t in
            let rest = layouts (tells form) f in
            let size : l.size ≡ length tree = h.0 in
            rw (walk-reads t d s at b (at + length tree) o.0 fit.0 (stand-front tree rest p), size, eq-eqb (at + length tree) (at + length tree) refl)
            (each-reads f d s (at + length tree) bs ls m o.1 fit.1 h.1 (stand-back tree rest p))
