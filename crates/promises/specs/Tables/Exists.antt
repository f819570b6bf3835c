-- S7, the defined table: it is accepted, and there is none exactly when no file is accepted.
-- Over any rules; what speaks of files needs numbers that fit five bytes. That the maker writes its bytes is said with the maker.
use Prim.Native.Nat.{ℕ, zero, suc}
use Rattle.std.specs.Prelude.{◌≡◌, ◌↔◌, Ok}
use Rattle.std.proofs.Math.Path.{refl}
use Rattle.std.proofs.Common.{sym, ◌∙◌}
use mathlib.Core.List.{List, [], ◌∷◌}
use Rattle.std.proofs.Math.Option.{Option, none, some}
use Rattle.laws.specs.Tests.{never}
use Rattle.meaning.specs.Rules.{Rules, rule}
use Rattle.meaning.specs.Trees.{Tree, Forest, split, tile, leaf, more, table_of, Over, Overs}
use Rattle.meaning.specs.Verdicts.{verdict}
use Rattle.meaning.specs.Defined.{or_else, map_some, and_also, all_of, split_of, first_pattern, tree_of, defined_tree}
use Rattle.promises.specs.Tables.Laws.{Sizes}
use Rattle.promises.specs.Tables.Shapes.{Good, Working}
use Rattle.promises.specs.Tables.Accept.{accepted-exactly}
use Rattle.promises.specs.Tables.First.{none-exactly, first-exactly}

-- there is a value
data Some {A : Type 0} : Option A → Type 0 where
  is : (a : A) → Some (some a)

map-some : {A B : Type 0} (f : A → B) {x : Option A} → Some x → Some (map_some f x)
map-some f (is a) = is (f a)

both_some : {x : Option Tree} (rest : Unit {0} → Option Forest) → Some x → Some (rest tt) → Some (and_also x rest)
both_some rest (is t) h = map-some (more t) h

some-none : {A : Type 0} {x : Option A} → Some x → x ≡ none → ⊥
some-none (is a) e = never cc

module _ (r : Rules) where
  open r use {Box, children, root, D}

  abbrev TreeWorks : Tree → ℕ → Box → Type 0
  TreeWorks = Over r (Good r (rule r))

  abbrev ForestWorks : Forest → ℕ → List Box → Type 0
  ForestWorks = Overs r (Good r (rule r))

  -- ---- the defined tree works

  first-works : (d : ℕ) (b : Box) (t : Tree) (rest : Unit {0} → Option Tree) → (rest tt ≡ some t → TreeWorks t d b)
      → or_else (map_some tile (first_pattern r b)) rest ≡ some t → TreeWorks t d b
  unfolding Over
  first-works d b t rest h = go (first_pattern r b) refl
    where
      go : (o : Option (List ℕ)) → first_pattern r b ≡ o → or_else (map_some tile o) rest ≡ some t → TreeWorks t d b
      go (some us) p e =
          let q : t ≡ tile us = cc in
          let f = (first-exactly r b us).0 p in
          rw q (record { shape = f.shape; works = f.works })
      go none p e = h e

  all-work : (d : ℕ) → ((b : Box) (t : Tree) → tree_of r d b ≡ some t → TreeWorks t d b)
      → (bs : List Box) (f : Forest) → all_of (λ c. tree_of r d c) bs ≡ some f → ForestWorks f d bs
  unfolding all_of Over
  all-work d ih [] f e = let q : f ≡ leaf = cc in rw q tt
  all-work d ih (b ∷ bs) f e = go (tree_of r d b) (all_of (λ c. tree_of r d c) bs) refl refl e (λ g p. all-work d ih bs g p)
    where
      go : (x : Option Tree) (y : Option Forest) → tree_of r d b ≡ x → all_of (λ c. tree_of r d c) bs ≡ y → and_also x (λ _. y) ≡ some f
          → ((g : Forest) → all_of (λ c. tree_of r d c) bs ≡ some g → ForestWorks g d bs) → ForestWorks f d (b ∷ bs)
      go (some t) (some g) p q e h = let z : f ≡ more t g = cc in rw z (ih b t p, h g q)
      go (some t) none p q e h = never cc
      go none y p q e h = never cc

  split-works : (d : ℕ) (b : Box) (t : Tree) → ((f : Forest) → all_of (λ c. tree_of r d c) (children b) ≡ some f → ForestWorks f d (children b))
      → split_of (λ c. tree_of r d c) (children b) ≡ some t → TreeWorks t (suc d) b
  unfolding Over
  split-works d b t h = go (children b) refl
    where
      joined : (bs : List Box) → children b ≡ bs → (bs ≡ [] → ⊥) → (o : Option Forest) → all_of (λ c. tree_of r d c) bs ≡ o → map_some split o ≡ some t
          → TreeWorks t (suc d) b
      joined bs p z (some f) q e = let y : t ≡ split f = cc in rw y ((λ w. z (sym p ∙ w)), h f (rw p q))
      joined bs p z none q e = never cc

      go : (bs : List Box) → children b ≡ bs → split_of (λ c. tree_of r d c) bs ≡ some t → TreeWorks t (suc d) b
      go [] p e = never cc
      go (c ∷ cs) p e = joined (c ∷ cs) p (λ w. never cc) (all_of (λ c. tree_of r d c) (c ∷ cs)) refl e

  tree-works : (d : ℕ) (b : Box) (t : Tree) → tree_of r d b ≡ some t → TreeWorks t d b
  unfolding tree_of
  tree-works zero b t e = first-works zero b t (λ _. none) (λ p. never cc) (rw e refl)
  tree-works (suc d) b t e =
      first-works (suc d) b t (λ _. split_of (λ c. tree_of r d c) (children b)) (λ p. split-works d b t (λ f q. all-work d (λ c. tree-works d c) (children b) f q) p) e

  pub defined-works : (t : Tree) → defined_tree r ≡ some t → Working r t
  defined-works t e = tree-works D root t e

  -- ---- and where some tree works, there is a defined one

  tile-some : (d : ℕ) (b : Box) (us : List ℕ) → Good r (rule r) b us → Some (tree_of r d b)
  unfolding tree_of
  tile-some d b us g = go (first_pattern r b) refl
    where
      go : (o : Option (List ℕ)) → first_pattern r b ≡ o → Some (tree_of r d b)
      go (some vs) p = elim d as (λ n. Some (tree_of r n b)) [ zero ↦ rw p (is (tile vs)) | suc e ↦ rw p (is (tile vs)) ]
      go none p = absurd ((none-exactly r b).0 p us g.shape g.works)

  split-some : (d : ℕ) (b : Box) → (children b ≡ [] → ⊥) → Some (all_of (λ c. tree_of r d c) (children b)) → Some (tree_of r (suc d) b)
  unfolding tree_of
  split-some d b z h = go (first_pattern r b)
    where
      joined : (bs : List Box) → (bs ≡ [] → ⊥) → Some (all_of (λ c. tree_of r d c) bs) → Some (split_of (λ c. tree_of r d c) bs)
      joined [] z h = absurd (z refl)
      joined (c ∷ cs) z h = map-some split h

      go : (o : Option (List ℕ)) → Some (or_else (map_some tile o) (λ _. split_of (λ c. tree_of r d c) (children b)))
      go (some vs) = is (tile vs)
      go none = joined (children b) z h

  mutual
    unfolding Over all_of

    tree-some : (t : Tree) (d : ℕ) (b : Box) → TreeWorks t d b → Some (tree_of r d b)
    tree-some (tile us) d b o = tile-some d b us o
    tree-some (split f) zero b o = absurd o
    tree-some (split f) (suc d) b o = split-some d b o.0 (all-some f d (children b) o.1)

    all-some : (f : Forest) (d : ℕ) (bs : List Box) → ForestWorks f d bs → Some (all_of (λ c. tree_of r d c) bs)
    all-some leaf d [] o = is leaf
    all-some leaf d (b ∷ bs) o = absurd o
    all-some (more t f) d [] o = absurd o
    all-some (more t f) d (b ∷ bs) o = both_some (λ _. all_of (λ c. tree_of r d c) bs) (tree-some t d b o.0) (all-some f d bs o.1)

  pub no-tree-exactly : (defined_tree r ≡ none) ↔ ((t : Tree) → Working r t → ⊥)
  no-tree-exactly = (
    λ e t o. some-none (tree-some t D root o) e,
    λ h. go h (defined_tree r) refl,
  )
    where
      go : ((t : Tree) → Working r t → ⊥) → (o : Option Tree) → defined_tree r ≡ o → defined_tree r ≡ none
      go h (some t) e = absurd (h t (defined-works t e))
      go h none e = e

  -- ---- of files

  pub defined-accepted : Sizes r → (t : Tree) → defined_tree r ≡ some t → verdict r (table_of r t) ≡ Ok tt
  defined-accepted sizes t e = (accepted-exactly r sizes (table_of r t)).1 (t, defined-works t e, refl)

  pub no-table-exactly : Sizes r → (defined_tree r ≡ none) ↔ ((s : List ℕ) → verdict r s ≡ Ok tt → ⊥)
  no-table-exactly sizes = (
    λ e s a. let w = (accepted-exactly r sizes s).0 a in no-tree-exactly.0 e w.0 w.1,
    λ h. no-tree-exactly.1 (λ t o. h (table_of r t) ((accepted-exactly r sizes (table_of r t)).1 (t, o, refl))),
  )
