-- Rows 7 and 8 of "What each number says": of a table that keeps the file's rules, the first tile in file order whose pattern does not work is told, at its
-- first byte: by 7 with the step, from 1, of the first image that leaves S, or by 8 with the last step where all lie in S and the last not in R. And where there
-- is no such tile, all work. Over any rules; what is told, where numbers fit five bytes. Relies on pages Layouts, Patterns and Walking. What is told of a table
-- that breaks the file's rules is left out.
use Prim.Native.Nat.{ℕ, zero, suc, ◌+◌}
use Rattle.std.specs.Prelude.{◌≡◌, Bool, eqb, Ok, Err}
use Rattle.std.proofs.Math.Path.{refl, sym, ap}
use Rattle.std.proofs.Common.{◌∙◌, eq-eqb}
use Rattle.std.proofs.Math.Bool.{true, false}
use mathlib.Core.List.{List, [], ◌∷◌, ◌++◌, append-nil, append_assoc}
use native.Mathlib.Omega.{arith}
use Rattle.std.proofs.Math.ListN.{length}
use Rattle.laws.specs.Every as E
use Rattle.laws.specs.Every.{Every, every_append, every-parts}
use Rattle.laws.specs.Guards.{guard}
use Rattle.laws.specs.Standing.{Stands, stand-front, stand-back}
use Rattle.laws.specs.Tests.{never}
use Rattle.meaning.specs.Answers.{Walk}
use Rattle.meaning.specs.declared.Refusal.{Refusal}
use Rattle.meaning.specs.declared.Tried.{Tried}
use Rattle.meaning.specs.declared.Tried.TheVariants.{Works, Leaves, Misses}
use Rattle.meaning.specs.Numbers.{bytes_of}
use Rattle.meaning.specs.Refusals.{bad_table, leaves, misses}
use Rattle.meaning.specs.Rules as R
use Rattle.meaning.specs.Rules.{Rules, rule_from, rule}
use Rattle.meaning.specs.Trees as Y
use Rattle.meaning.specs.Trees.{Tree, Forest, split, tile, leaf, more, tells, layout, layouts, Pattern, table_of, Over, Overs, Tile, tiles_of, tiles_in}
use Rattle.meaning.specs.Verdicts as C
use Rattle.meaning.specs.Verdicts.{Length, on_tried, on_walk, each, walk, verdict}
use Rattle.promises.specs.Tables.Laws as L
use Rattle.promises.specs.Tables.Laws.{Sizes, Fits, FitsEach}
use Rattle.promises.specs.Tables.Layouts.{overs-count, tile-read, headed, table-stands, table-header}
use Rattle.promises.specs.Tables.Patterns as T
use Rattle.promises.specs.Tables.Patterns.{last_of, images, Lands, works-exactly}
use Rattle.promises.specs.Tables.Shapes.{Good, Shaped, Working}
use Rattle.promises.specs.Tables.SplitLengths as S
use Rattle.promises.specs.Tables.SplitLengths.{Held, first_child, split-stands}
use Rattle.promises.specs.Tables.Walking.{walk_split, walk-tile}

module _ (r : Rules) where
  open r use {Box, Kept, children, within, begin, image, kept, root, goal, safe, form, n, D, K, N}

  -- ---- what is wrong with a pattern

  -- all images before one lie in S, and it does not: so many modes and one were tried
  pub record LeavesAt (k : Kept) (us : List ℕ) (i : ℕ) : Type 0 where
    pub before : List Kept
    pub it : Kept
    pub behind : List Kept
    pub are : images r k us ≡ before ++ it ∷ behind
    pub inside : Every (λ c. within (kept c) safe ≡ true) before
    pub outside : within (kept it) safe ≡ false
    pub step : i ≡ length before + 1

  -- all images lie in S, and the last does not lie in the goal
  pub record MissesAt (k : Kept) (us : List ℕ) (i : ℕ) : Type 0 where
    pub inside : Every (λ c. within (kept c) safe ≡ true) (images r k us)
    pub outside : within (kept (last_of k (images r k us))) goal ≡ false
    pub step : i ≡ length us

  -- j modes having been tried before
  leaves-from : (us : List ℕ) (j : ℕ) (k : Kept) (before : List Kept) (it : Kept) (behind : List Kept) → images r k us ≡ before ++ it ∷ behind
      → Every (λ c. within (kept c) safe ≡ true) before → within (kept it) safe ≡ false → rule_from r j k us ≡ Leaves (j + (length before + 1))
  unfolding T.images R.rule_from E.Every
  leaves-from [] j k [] it behind e h o = never cc
  leaves-from [] j k (c ∷ before) it behind e h o = never cc
  leaves-from (u ∷ us) j k [] it behind e h o =
      let q : image u k ≡ it = cc in
      let s : suc j ≡ j + (0 + 1) = omega arith in
      rw (q, o, s) refl
  leaves-from (u ∷ us) j k (c ∷ before) it behind e h o =
      let q : c ≡ image u k = cc in
      let p : images r (image u k) us ≡ before ++ it ∷ behind = cc in
      let s : suc j + (length before + 1) ≡ j + (suc (length before) + 1) = omega arith in
      let w : within (kept (image u k)) safe ≡ true = rw q at h.0 in
      rw w (leaves-from us (suc j) (image u k) before it behind p h.1 o ∙ rw s refl)

  misses-from : (us : List ℕ) (j : ℕ) (k : Kept) → Every (λ c. within (kept c) safe ≡ true) (images r k us) → within (kept (last_of k (images r k us))) goal ≡ false
      → rule_from r j k us ≡ Misses (j + length us)
  unfolding T.images T.last_of R.rule_from E.Every
  misses-from [] j k h o = let s : j + 0 ≡ j = omega arith in rw (o, s) refl
  misses-from (u ∷ us) j k h o =
      let s : suc j + length us ≡ j + suc (length us) = omega arith in
      let w : within (kept (image u k)) safe ≡ true = h.0 in
      rw w (misses-from us (suc j) (image u k) h.1 o ∙ rw s refl)

  -- a pattern works, or one of the two is so
  data Outcome (k : Kept) (us : List ℕ) : Type 0 where
    works : Lands r k us → Outcome k us
    leaves_at : {i : ℕ} → LeavesAt k us i → Outcome k us
    misses-at : {i : ℕ} → MissesAt k us i → Outcome k us

  outcome : (us : List ℕ) (k : Kept) → Outcome k us
  unfolding T.images T.last_of E.Every
  outcome [] k = go (within (kept k) goal) refl
    where
      go : (b : Bool) → within (kept k) goal ≡ b → Outcome k []
      go true e = works (record { in-safe = tt; in-goal = e })
      go false e = misses-at (record { inside = tt; outside = e; step = refl })
  outcome (u ∷ us) k = go (within (kept (image u k)) safe) refl (outcome us (image u k))
    where
      go : (b : Bool) → within (kept (image u k)) safe ≡ b → Outcome (image u k) us → Outcome k (u ∷ us)
      go false e o = leaves_at (record { before = []; it = image u k; behind = images r (image u k) us; are = refl; inside = tt; outside = e; step = refl })
      go true e (works l) = works (record { in-safe = (e, l.in-safe); in-goal = l.in-goal })
      go true e (leaves_at h) =
          leaves_at (record {
            before = image u k ∷ h.before;
            it = h.it;
            behind = h.behind;
            are = ap (λ (l : List Kept). image u k ∷ l) h.are;
            inside = (e, h.inside);
            outside = h.outside;
            step = refl;
          })
      go true e (misses-at h) = misses-at (record { inside = (e, h.inside); outside = h.outside; step = refl })

  -- ---- tiles judged in file order, from a walk over them: the first that does not work is told

  abbrev told_of : (Box → List ℕ → Tried) → Tile r → Walk
  told_of judge t = on_tried (judge t.box t.modes) t.place 0

  unfoldable tiles_judged : (Box → List ℕ → Tried) → List (Tile r) → ℕ → Walk
  tiles_judged judge [] end = Ok end
  tiles_judged judge (t ∷ ts) end = on_walk (told_of judge t) Err λ _. tiles_judged judge ts end

  module _ (judge : Box → List ℕ → Tried) where
    -- some tiles, and then those of the rest of the walk
    judged-join : (ts later : List (Tile r)) (mid end : ℕ) (rest : ℕ → Walk) → rest mid ≡ tiles_judged judge later end
        → on_walk (tiles_judged judge ts mid) Err rest ≡ tiles_judged judge (ts ++ later) end
    unfolding tiles_judged
    judged-join [] later mid end rest e = e
    judged-join (t ∷ ts) later mid end rest e = go (told_of judge t) (judged-join ts later mid end rest e)
      where
        go : (o : Walk) → on_walk (tiles_judged judge ts mid) Err rest ≡ tiles_judged judge (ts ++ later) end
            → on_walk (on_walk o Err λ _. tiles_judged judge ts mid) Err rest ≡ on_walk o Err λ _. tiles_judged judge (ts ++ later) end
        go (Ok m) q = q
        go (Err x) q = refl

    -- those before one work, and it does not
    judged-first : (front : List (Tile r)) (one : Tile r) (back : List (Tile r)) (end : ℕ) (e : Refusal)
        → Every (λ t. judge t.box t.modes ≡ Works) front → told_of judge one ≡ Err e → tiles_judged judge (front ++ one ∷ back) end ≡ Err e
    unfolding tiles_judged E.Every
    judged-first [] one back end e h q = rw q refl
    judged-first (t ∷ front) one back end e h q = rw h.0 (judged-first front one back end e h.1 q)

    one-judged : (o : Tried) (at m : ℕ) → on_tried o at m ≡ on_walk (on_tried o at 0) Err λ _. Ok m
    one-judged Works at m = refl
    one-judged (Leaves i) at m = refl
    one-judged (Misses i) at m = refl

    module _ (sizes : Sizes r) where
      abbrev Patterns : Box → List ℕ → Type 0
      Patterns b us = Pattern K N us

      mutual
        unfolding Y.layout Y.Over Y.tiles_of C.each S.Held L.Fits tiles_judged

        walk-judges : (t : Tree) (d : ℕ) (s : List ℕ) (at : ℕ) (b : Box) (m : ℕ) → Over r Patterns t d b → Fits (tells form) t
            → Stands s at (layout (tells form) t) m → walk r judge d s at b ≡ tiles_judged judge (tiles_of r t b at) m
        walk-judges (tile us) d s at b m g fit p =
            let q = tile-read r sizes us s at m g p in
            walk-tile r judge d s at b (length us) (at + length (bytes_of (length us))) q.0 g.some g.few ∙ rw q.1 (one-judged (judge b us) at m)
        walk-judges (split f) zero s at b m o fit p = absurd o
        walk-judges (split f) (suc d) s at b m o fit p =
            let w = split-stands (tells form) f (children b) s at m (overs-count r Patterns f d (children b) o.1) fit.0 p in
            walk_split r judge (suc d) s at b (at + length (bytes_of 0)) d w.number refl o.0
            ∙ rw w.are (each-judges f d s (first_child (tells form) f at) (children b) w.lengths m o.1 fit.1 w.held w.stand)

        each-judges : (f : Forest) (d : ℕ) (s : List ℕ) (at : ℕ) (bs : List Box) (ls : List Length) (m : ℕ) → Overs r Patterns f d bs
            → FitsEach (tells form) f → Held (tells form) ls f → Stands s at (layouts (tells form) f) m
            → each (λ p c. walk r judge d s p c) bs ls at ≡ tiles_judged judge (tiles_in r f bs at) m
        each-judges leaf d s at [] [] m o fit h p = let q : m ≡ at = omega (arith, p.end) in rw q refl
        each-judges leaf d s at [] (l ∷ ls) m o fit h p = let q : m ≡ at = omega (arith, p.end) in rw q refl
        each-judges leaf d s at (b ∷ bs) ls m o fit h p = absurd o
        each-judges (more t f) d s at [] ls m o fit h p = absurd o
        each-judges (more t f) d s at (b ∷ bs) [] m o fit h p =
            let tree = layout (tells form) t in
            let rest = layouts (tells form) f in
            let mid = at + length tree in
            rw (walk-judges t d s at b mid o.0 fit.0 (stand-front tree rest p))
            (judged-join (tiles_of r t b at) (tiles_in r f bs mid) mid m (λ y. each (λ p c. walk r judge d s p c) bs [] y)
            (each-judges f d s mid bs [] m o.1 fit.1 h (stand-back tree rest p)))
        each-judges (more t f) d s at (b ∷ bs) (l ∷ ls) m o fit h p =
            let tree = layout (tells form) t in
            let rest = layouts (tells form) f in
            let mid = at + length tree in
            let size : l.size ≡ length tree = h.0 in
            let on : ℕ → Walk = λ y. guard (eqb y (at + l.size)) (Err (bad_table l.place)) λ _. each (λ p c. walk r judge d s p c) bs ls y in
            rw (walk-judges t d s at b mid o.0 fit.0 (stand-front tree rest p))
            (judged-join (tiles_of r t b at) (tiles_in r f bs mid) mid m on
            (rw (size, eq-eqb mid mid refl) (each-judges f d s mid bs ls m o.1 fit.1 h.1 (stand-back tree rest p))))

  -- ---- the verdict

  abbrev pub TileWorks : Tile r → Type 0
  TileWorks c = rule r c.box c.modes ≡ Works

  -- the tiles of a table, the header being in front of them: those before one work
  pub record FirstBad (t : Tree) (one : Tile r) : Type 0 where
    pub front : List (Tile r)
    pub back : List (Tile r)
    pub are : tiles_of r t root (headed form n) ≡ front ++ one ∷ back
    pub work : Every TileWorks front

  -- what a table that keeps the file's rules comes to: its tiles all work, or there is a first that does not
  pub data Comes (t : Tree) : Type 0 where
    working : Working r t → Comes t
    leaving : (one : Tile r) → FirstBad t one → (i : ℕ) → LeavesAt (begin one.box) one.modes i → Comes t
    missing : (one : Tile r) → FirstBad t one → (i : ℕ) → MissesAt (begin one.box) one.modes i → Comes t

  -- a tree of sound shape whose tiles all work
  mutual
    unfolding Y.Over Y.tiles_of E.Every

    tree-works : (t : Tree) (d : ℕ) (b : Box) (at : ℕ) → Over r (λ b us. Pattern K N us) t d b → Every TileWorks (tiles_of r t b at) → Over r (Good r (rule r)) t d b
    tree-works (tile us) d b at o h = record { shape = o; works = h.0 }
    tree-works (split f) zero b at o h = o
    tree-works (split f) (suc d) b at o h = (o.0, forest-works f d (children b) (first_child (tells form) f at) o.1 h)

    forest-works : (f : Forest) (d : ℕ) (bs : List Box) (at : ℕ) → Overs r (λ b us. Pattern K N us) f d bs → Every TileWorks (tiles_in r f bs at) → Overs r (Good r (rule r)) f d bs
    forest-works leaf d [] at o h = o
    forest-works leaf d (b ∷ bs) at o h = o
    forest-works (more t f) d [] at o h = o
    forest-works (more t f) d (b ∷ bs) at o h =
        let mid = at + length (layout (tells form) t) in
        let w = every-parts TileWorks (tiles_of r t b at) (tiles_in r f bs mid) h in
        (tree-works t d b at o.0 w.0, forest-works f d bs mid o.1 w.1)

  -- the tiles behind those of a front that work
  comes-from : (t : Tree) → Shaped r t → (front rest : List (Tile r)) → tiles_of r t root (headed form n) ≡ front ++ rest → Every TileWorks front → Comes t
  unfolding E.Every
  comes-from t shape front [] e h =
      let q : tiles_of r t root (headed form n) ≡ front = e ∙ append-nil front in
      working (tree-works t D root (headed form n) shape (rw q h))
  comes-from t shape front (one ∷ rest) e h =
      go (outcome one.modes (begin one.box))
      (λ w. comes-from t shape (front ++ one ∷ []) rest (e ∙ sym (append_assoc front (one ∷ []) rest)) (every_append TileWorks front (one ∷ []) h (w, tt)))
    where
      bad : FirstBad t one
      bad = record { front = front; back = rest; are = e; work = h }

      go : Outcome (begin one.box) one.modes → (TileWorks one → Comes t) → Comes t
      go (works l) on = on ((works-exactly r one.box one.modes).1 l)
      go (leaves_at {i = i} k) on = leaving one bad i k
      go (misses-at {i = i} k) on = missing one bad i k

  pub comes : (t : Tree) → Shaped r t → Comes t
  unfolding E.Every
  comes t shape = comes-from t shape [] (tiles_of r t root (headed form n)) refl tt

  module _ (sizes : Sizes r) (t : Tree) (shape : Shaped r t) (one : Tile r) (bad : FirstBad t one) where
    bad-told : (e : Refusal) → told_of (rule r) one ≡ Err e → verdict r (table_of r t) ≡ Err e
    unfolding C.verdict
    bad-told e q =
        let s = table_of r t in
        let is = sym (append-nil s) in
        let w : walk r (rule r) D s (headed form n) root ≡ Err e =
        walk-judges (rule r) sizes t D s (headed form n) root (length s) shape (sizes.lengths t shape) (table-stands r s [] t is).1
        ∙ rw bad.are (judged-first (rule r) bad.front one bad.back (length s) e bad.work q) in
        simp (table-header r sizes s [] t is, w)

    -- row 7
    pub leaving-told : (i : ℕ) → LeavesAt (begin one.box) one.modes i → verdict r (table_of r t) ≡ Err (leaves one.place i)
    leaving-told i h =
        let e : rule r one.box one.modes ≡ Leaves (0 + (length h.before + 1)) =
        leaves-from one.modes 0 (begin one.box) h.before h.it h.behind h.are h.inside h.outside in
        let q : 0 + (length h.before + 1) ≡ i = omega (arith, h.step) in
        bad-told (leaves one.place i) (rw e (rw q refl))

    -- row 8
    pub missing-told : (i : ℕ) → MissesAt (begin one.box) one.modes i → verdict r (table_of r t) ≡ Err (misses one.place i)
    missing-told i h =
        let e : rule r one.box one.modes ≡ Misses (0 + length one.modes) = misses-from one.modes 0 (begin one.box) h.inside h.outside in
        let q : 0 + length one.modes ≡ i = omega (arith, h.step) in
        bad-told (misses one.place i) (rw e (rw q refl))
