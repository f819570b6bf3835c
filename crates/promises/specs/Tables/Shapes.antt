-- Trees by what holds of their tiles: of sound shape, and working. A tree whose tiles are all as P says has tiles as Q says, where P is enough for Q.
-- Over any rules; assumes nothing.
use Rattle.std.specs.Prelude.{ℕ, zero, suc, ◌≤◌, ◌≡◌, List, [], ◌∷◌, length}
use Rattle.std.proofs.Common.{arith}
use Rattle.meaning.specs.declared.Tried.{Tried}
use Rattle.meaning.specs.declared.Tried.TheVariants.{Works}
use Rattle.meaning.specs.Rules.{Rules, rule}
use Rattle.meaning.specs.Trees.{Tree, Forest, split, tile, leaf, more, longest, longest_of, Pattern, Over, Overs}

module _ (r : Rules) where
  open r use {Box, children, root, D, K, N}

  -- a tile of sound shape that the judge lets be
  pub record Good (judge : Box → List ℕ → Tried) (b : Box) (us : List ℕ) : Type 0 where
    pub shape : Pattern K N us
    pub works : judge b us ≡ Works

  -- a tree of sound shape over R, its tiles working or not
  abbrev pub Shaped : Tree → Type 0
  Shaped t = Over r (λ b us. Pattern K N us) t D root

  -- a tree of sound shape over R, whose tiles all work
  abbrev pub Working : Tree → Type 0
  Working t = Over r (Good (rule r)) t D root

  -- no tile of the tree has more than m modes: P is asked to be enough for Q in such tiles only
  module _ (m : ℕ) (P Q : Box → List ℕ → Type 0) (enough : (b : Box) (us : List ℕ) → length us ≤ m → P b us → Q b us) where
    mutual
      unfolding Over longest

      pub over-short : (t : Tree) (d : ℕ) (b : Box) → longest t ≤ m → Over r P t d b → Over r Q t d b
      over-short (tile us) d b l o = enough b us l o
      over-short (split f) zero b l o = o
      over-short (split f) (suc d) b l o = (o.0, overs-short f d (children b) l o.1)

      overs-short : (f : Forest) (d : ℕ) (bs : List Box) → longest_of f ≤ m → Overs r P f d bs → Overs r Q f d bs
      overs-short leaf d [] l o = o
      overs-short leaf d (b ∷ bs) l o = o
      overs-short (more t f) d [] l o = o
      overs-short (more t f) d (b ∷ bs) l o = (over-short t d b (omega arith) o.0, overs-short f d bs (omega arith) o.1)

  pub over-map : (P Q : Box → List ℕ → Type 0) → ((b : Box) (us : List ℕ) → P b us → Q b us) → (t : Tree) (d : ℕ) (b : Box) → Over r P t d b → Over r Q t d b
  over-map P Q h t d b o = over-short (longest t) P Q (λ b us _ p. h b us p) t d b (omega arith) o

  pub overs-map : (P Q : Box → List ℕ → Type 0) → ((b : Box) (us : List ℕ) → P b us → Q b us) → (f : Forest) (d : ℕ) (bs : List Box) → Overs r P f d bs → Overs r Q f d bs
  overs-map P Q h f d bs o = overs-short (longest_of f) P Q (λ b us _ p. h b us p) f d bs (omega arith) o

  pub working-shaped : (t : Tree) → Working t → Shaped t
  working-shaped t o = over-map (Good (rule r)) (λ b us. Pattern K N us) (λ b us g. g.shape) t D root o
