-- The search in loops, turn by turn: what is left of the modes of a level, of the levels of a path and of the lengths says what the whole says, and
-- the turns that are left grow fewer. Over what the search is lent, whatever it is; then over the two arrays that hold a path. Assumes nothing.
use Prim.Native.Nat.{ℕ, zero, suc, ◌+◌, ◌-◌, ◌*◌, ◌≤◌, ◌<◌}
use mathlib.Core.Path.{◌≡◌, refl, sym, ◌∙◌}
use mathlib.Core.Bool.{true}
use mathlib.Core.List.{List, [], ◌∷◌, ◌++◌, append_assoc}
use mathlib.Core.Option.{Option, none, some}
use native.Mathlib.Omega.{arith}
use native.Mathlib.Nat.{sub-zero, zero-add}
use native.Mathlib.Numerals.{add-one}
use lib.IntN.{ℤ}
use lib.ListN.{length, set}
use lib.Seq.{get_or-set_same}
use borrow.Author.Tests.{lt-ltb, le-ltb}
use Rattle.laws.specs.Lists.{tab}
use Rattle.laws.specs.Tabs.{tab-snoc, tab-same, get_d-below}
use Rattle.meaning.specs.Boxes.{Side}
use Rattle.meaning.specs.Defined.{or_else, map_some, first_mode}
use Rattle.tables.specs.Tiles.{mode_at, pattern_of}
use Rattle.tables.specs.Search.{Moves, Level, level, begun, behind, sought, sought_from, left_below, rest, turns, turns_below, turns_left, levels_below, SameTo, one_of}

-- ---- the modes of one level: v of N are tried

module _ (try : ℕ → Option (List ℕ)) (N v : ℕ) where
  pub modes-over : N ≤ v → first_mode try (N - v) v ≡ none
  unfolding first_mode
  modes-over h = let z : N - v ≡ 0 = omega arith in rw z refl

  module _ (h : v < N) where
    one_left : N - v ≡ suc (N - (v + 1))
    one_left = omega arith

    pub modes-next : first_mode try (N - v) v ≡ or_else (map_some (λ us. v ∷ us) (try v)) λ _. first_mode try (N - (v + 1)) (v + 1)
    unfolding first_mode
    modes-next = rw (one_left, add-one) refl

    pub modes-hit : (us : List ℕ) → try v ≡ some us → first_mode try (N - v) v ≡ some (v ∷ us)
    modes-hit us e = modes-next ∙ rw e refl

    pub modes-miss : try v ≡ none → first_mode try (N - v) v ≡ first_mode try (N - (v + 1)) (v + 1)
    modes-miss e = modes-next ∙ rw e refl

-- the same answers of the modes that are tried, the same first
pub first-same : (f g : ℕ → Option (List ℕ)) (m v : ℕ) → ((u : ℕ) → u < v + m → f u ≡ g u) → first_mode f m v ≡ first_mode g m v
unfolding first_mode
first-same f g zero v e = refl
first-same f g (suc m) v e = rw (e v (omega arith), first-same f g m (suc v) (λ u h. e u (omega arith))) refl

-- ---- the levels of a path: one turn each

module _ (w : Moves) where
  abbrev tried : ℕ → List Side → ℕ → Option (List ℕ)
  tried = behind w

  -- nothing is tried yet
  pub rest_all : (j : ℕ) (b : List Side) → rest w j b 0 [] ≡ sought w j b
  unfolding left_below begun
  rest_all j b = rw sub-zero (go (first_mode (tried j b) w.modes 0))
    where
      go : (o : Option (List ℕ)) → (or_else (map_some (begun []) o) λ _. none) ≡ o
      go (some us) = refl
      go none = refl

  module _ (j : ℕ) (b : List Side) (u : ℕ) where
    -- a level is done: the one below it moves on
    module _ (h : w.modes ≤ u) where
      pub rest-done : rest w j b u [] ≡ none
      unfolding left_below
      rest-done = rw (modes-over (tried j b) w.modes u h) refl

      pub rest_over : (v : Level) (below : List Level) → rest w j b u (v ∷ below) ≡ rest w (suc j) v.box (v.mode + 1) below
      unfolding left_below
      rest_over v below = rw (modes-over (tried j b) w.modes u h, add-one) refl

    module _ (h : u < w.modes) (below : List Level) where
      -- nothing is found behind mode u
      pub rest-pass : tried j b u ≡ none → rest w j b u below ≡ rest w j b (u + 1) below
      rest-pass e = rw (modes-miss (tried j b) w.modes u h e) refl

      -- its image stays: a level on top
      pub rest-enter : w.stays u b ≡ true → rest w (suc j) b u below ≡ rest w j (w.image u b) 0 (level b u ∷ below)
      unfolding left_below begun behind
      rest-enter e = rw (modes-next (tried (suc j) b) w.modes u h, e, sub-zero, add-one) (go (first_mode (tried j (w.image u b)) w.modes 0))
        where
          others : Option (List ℕ)
          others = first_mode (tried (suc j) b) (w.modes - suc u) (suc u)

          go : (o : Option (List ℕ)) → (or_else (map_some (begun below) (or_else (map_some (λ us. u ∷ us) o) λ _. others)) λ _. left_below w (suc j) below)
              ≡ or_else (map_some (begun (level b u ∷ below)) o) λ _. or_else (map_some (begun below) others) λ _. left_below w (suc j) below
          go (some us) = refl
          go none = refl

  -- the last level, whose modes are tried in one go: v is the first that lands, or their number
  module _ (b : List Side) (v : ℕ) (e : one_of w.modes v ≡ first_mode (tried 0 b) w.modes 0) (below : List Level) where
    pub rest-found : v < w.modes → rest w 0 b 0 below ≡ some (begun below (v ∷ []))
    rest-found h = rw (sub-zero, ← e, lt-ltb v w.modes h) refl

    pub rest-none : w.modes ≤ v → rest w 0 b 0 below ≡ rest w 0 b v below
    rest-none h = rw (modes-over (tried 0 b) w.modes v h, sub-zero, ← e, le-ltb v w.modes h) refl

  -- ---- the lengths up to k: those up to m modes are tried

  module _ (k : ℕ) (b : List Side) where
    module _ (m : ℕ) (whole : Option (List ℕ)) (q : sought_from w (k - m) m b ≡ whole) where
      pub lengths-done : k ≤ m → none ≡ whole
      unfolding sought_from
      lengths-done h = let z : k - m ≡ 0 = omega arith in sym (rw z refl) ∙ q

      module _ (h : m < k) where
        one_more : k - m ≡ suc (k - (m + 1))
        one_more = omega arith

        pub lengths-found : (us : List ℕ) → sought w m b ≡ some us → some us ≡ whole
        unfolding sought_from
        lengths-found us e = sym (rw (one_more, e) refl) ∙ q

        pub lengths-next : sought w m b ≡ none → sought_from w (k - (m + 1)) (m + 1) b ≡ whole
        unfolding sought_from
        lengths-next e = sym (rw (one_more, e, add-one) refl) ∙ q

-- ---- the turns that are left

module _ (N : ℕ) where
  some_turn : (j : ℕ) → 1 ≤ turns N j
  unfolding turns
  some_turn zero = omega arith
  some_turn (suc j) = omega arith

  -- of the modes from u on, mode u first
  modes-turns : (j u : ℕ) → u < N → (N - u) * turns N j ≡ turns N j + (N - (u + 1)) * turns N j
  modes-turns j u h = let e : N - u ≡ suc (N - (u + 1)) = omega arith in rw e (omega arith)

  pub turns-over : (j u : ℕ) (v : Level) (below : List Level) → turns_left N (suc j) (v.mode + 1) below < turns_left N j u (v ∷ below)
  unfolding turns_below
  turns-over j u v below = rw (← add-one v.mode) (omega arith)

  module _ (j u : ℕ) (below : List Level) (h : u < N) where
    pub turns-pass : turns_left N j (u + 1) below < turns_left N j u below
    turns-pass = omega (arith, some_turn j, modes-turns j u h)

    pub turns-enter : (b : List Side) → turns_left N j 0 (level b u ∷ below) < turns_left N (suc j) u below
    unfolding turns_below turns
    turns-enter b = rw (← add-one u, sub-zero) (omega (arith, modes-turns (suc j) u h))

  pub turns-last : (v : ℕ) (below : List Level) → 0 < N → N ≤ v → turns_left N 0 v below < turns_left N 0 0 below
  unfolding turns
  turns-last v below h k = let z : N - v ≡ 0 = omega arith in rw (z, sub-zero) (omega arith)

-- ---- a path in two arrays

module _ (n : ℕ) (boxes : List ℤ) (us : List ℕ) where
  no-modes : pattern_of 0 us ≡ []
  unfolding tab
  no-modes = refl

  -- its modes, and those behind them
  pub begun-below : (l : ℕ) (vs : List ℕ) → begun (levels_below n boxes us l) vs ≡ pattern_of l us ++ vs
  unfolding levels_below begun
  begun-below zero vs = rw no-modes refl
  begun-below (suc l) vs =
      let z : 0 + l ≡ l = zero-add l in
      rw (← add-one l, tab-snoc (mode_at us) l 0, z) (begun-below l (mode_at us l ∷ vs) ∙ sym (append_assoc (pattern_of l us) (mode_at us l ∷ []) vs))

  -- with mode u behind level l, which is put at its end
  pub pattern-behind : (l u : ℕ) → l < length us → begun (levels_below n boxes us l) (u ∷ []) ≡ pattern_of (l + 1) (set us l u)
  pattern-behind l u h =
      let z : 0 + l ≡ l = zero-add l in
      let e : mode_at (set us l u) l ≡ u = get_or-set_same us l u 0 h in
      begun-below l (u ∷ [])
      ∙ sym (tab-snoc (mode_at (set us l u)) l 0 ∙ rw (z, e, tab-same (mode_at (set us l u)) (mode_at us) l 0 (λ i a b. get_d-below 0 us l u i (omega arith))) refl)

  pub below-same : (l : ℕ) (boxes₁ : List ℤ) (us₁ : List ℕ) → SameTo n l boxes us boxes₁ us₁ → levels_below n boxes₁ us₁ l ≡ levels_below n boxes us l
  unfolding levels_below
  below-same l boxes₁ us₁ s = go l (omega arith)
    where
      go : (i : ℕ) → i ≤ l → levels_below n boxes₁ us₁ i ≡ levels_below n boxes us i
      go zero h = refl
      go (suc i) h = rw (s.boxes-same i (omega arith), s.modes-same i (omega arith), go i (omega arith)) refl
