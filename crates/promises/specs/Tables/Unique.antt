-- S6, the other half of "exactly": a file is the table of at most one tree of sound shape. (A tree has one layout, since that is a function.)
-- Over any rules whose numbers fit five bytes.
use Rattle.std.specs.Prelude.{ℕ, zero, suc, ◌+◌, ◌≡◌, refl, List, [], ◌∷◌, ◌++◌, length}
use Rattle.std.proofs.Common.{sym, ap, ◌∙◌, append-nil, arith}
use Rattle.laws.specs.Pairs.{some-first}
use Rattle.laws.specs.Standing.{Stands, stand-front, stand-back}
use Rattle.meaning.specs.Numbers.{bytes_of}
use Rattle.meaning.specs.Files.{read}
use Rattle.meaning.specs.Rules.{Rules}
use Rattle.meaning.specs.Trees.{Tree, Forest, split, tile, leaf, more, modes_bytes, tells, layout, layouts, Pattern, table_of, Over, Overs}
use Rattle.promises.specs.Tables.Laws.{Sizes, Fits, FitsEach}
use Rattle.promises.specs.Tables.Shapes.{Shaped}
use Rattle.promises.specs.Tables.Layouts.{overs-count, tile-read, headed, table-stands}
use Rattle.promises.specs.Tables.SplitLengths.{first_child, split-read, split-stands}

module _ (r : Rules) (sizes : Sizes r) where
  open r use {Box, children, root, form, n, D, K, N}

  abbrev Patterns : Box → List ℕ → Type 0
  Patterns b us = Pattern K N us

  one-tile : (us vs s : List ℕ) (at m k : ℕ) → Pattern K N us → Pattern K N vs
      → Stands s at (bytes_of (length us) ++ modes_bytes us) m → Stands s at (bytes_of (length vs) ++ modes_bytes vs) k → (us ≡ vs) × (m ≡ k)
  one-tile us vs s at m k g h p q =
      let a = tile-read r sizes us s at m g p in
      let b = tile-read r sizes vs s at k h q in
      let e : length us ≡ length vs = some-first (sym a.0 ∙ b.0) in
      let c : read us m ≡ read vs k = sym a.1 ∙ rw e b.1 in
      (cc c, cc c)

  -- a tile is no split
  mixed : (us rest s : List ℕ) (at m k : ℕ) → Pattern K N us
      → Stands s at (bytes_of (length us) ++ modes_bytes us) m → Stands s at (bytes_of 0 ++ rest) k → ⊥
  mixed us rest s at m k g p q =
      let a = tile-read r sizes us s at m g p in
      let b = split-read rest s at k q in
      let e : length us ≡ 0 = some-first (sym a.0 ∙ b) in
      omega (arith, g.some)

  mutual
    unfolding layout Over Fits

    tree-alike : (t u : Tree) (d : ℕ) (b : Box) (s : List ℕ) (at m k : ℕ) → Over r Patterns t d b → Over r Patterns u d b
        → Fits (tells form) t → Fits (tells form) u
        → Stands s at (layout (tells form) t) m → Stands s at (layout (tells form) u) k → (t ≡ u) × (m ≡ k)
    tree-alike (tile us) (tile vs) d b s at m k o v x y p q = let w = one-tile us vs s at m k o v p q in (ap (λ (l : List ℕ). tile l) w.0, w.1)
    tree-alike (tile us) (split g) d b s at m k o v x y p q = absurd (mixed us _ s at m k o p q)
    tree-alike (split f) (tile vs) d b s at m k o v x y p q = absurd (mixed vs _ s at k m v q p)
    tree-alike (split f) (split g) zero b s at m k o v x y p q = absurd o
    tree-alike (split f) (split g) (suc d) b s at m k o v x y p q =
        let told = tells form in
        let h = split-stands told f (children b) s at m (overs-count r Patterns f d (children b) o.1) x.0 p in
        let j = split-stands told g (children b) s at k (overs-count r Patterns g d (children b) v.1) y.0 q in
        let same : first_child told f at ≡ first_child told g at = cc (h.are, j.are) in
        let w = forest-alike f g d (children b) s (first_child told f at) m k o.1 v.1 x.1 y.1 h.stand (rw same j.stand) in
        (ap (λ (h : Forest). split h) w.0, w.1)

    forest-alike : (f g : Forest) (d : ℕ) (bs : List Box) (s : List ℕ) (at m k : ℕ) → Overs r Patterns f d bs → Overs r Patterns g d bs
        → FitsEach (tells form) f → FitsEach (tells form) g
        → Stands s at (layouts (tells form) f) m → Stands s at (layouts (tells form) g) k → (f ≡ g) × (m ≡ k)
    forest-alike leaf leaf d bs s at m k o v x y p q = (refl, omega (arith, p.end, q.end))
    forest-alike leaf (more t g) d [] s at m k o v x y p q = absurd v
    forest-alike leaf (more t g) d (b ∷ bs) s at m k o v x y p q = absurd o
    forest-alike (more t f) leaf d [] s at m k o v x y p q = absurd o
    forest-alike (more t f) leaf d (b ∷ bs) s at m k o v x y p q = absurd v
    forest-alike (more t f) (more u g) d [] s at m k o v x y p q = absurd o
    forest-alike (more t f) (more u g) d (b ∷ bs) s at m k o v x y p q =
        let told = tells form in
        let one = layout told t in
        let other = layout told u in
        let a =
        tree-alike t u d b s at (at + length one) (at + length other) o.0 v.0 x.0 y.0
        (stand-front one (layouts told f) p) (stand-front other (layouts told g) q) in
        let w =
        forest-alike f g d bs s (at + length one) m k o.1 v.1 x.1 y.1
        (stand-back one (layouts told f) p) (rw a.1 (stand-back other (layouts told g) q)) in
        (cc (a.0, w.0), w.1)

  pub one-tree : (s : List ℕ) (t u : Tree) → Shaped r t → Shaped r u → s ≡ table_of r t → s ≡ table_of r u → t ≡ u
  one-tree s t u o v p q =
      (tree-alike t u D root s (headed form n) (length (table_of r t)) (length (table_of r u)) o v (sizes.lengths t o) (sizes.lengths u v)
      (table-stands r s [] t (p ∙ sym (append-nil (table_of r t)))).1 (table-stands r s [] u (q ∙ sym (append-nil (table_of r u)))).1).0
