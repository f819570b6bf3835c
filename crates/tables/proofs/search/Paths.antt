-- A path of levels in two arrays, turn by turn, as the search's inner loop has it: what stands, what is left to find, and that the turns grow
-- fewer. Assumes nothing.
use Prim.Native.Nat.{ℕ, zero, suc, ◌+◌, ◌-◌, ◌*◌, ◌≤◌, ◌<◌}
use mathlib.Core.Path.{◌≡◌, refl, sym, ap, ◌∙◌}
use mathlib.Core.Bool.{true, false}
use mathlib.Core.List.{List, ◌∷◌}
use mathlib.Core.Logic.{◌⊎◌, inl, inr}
use mathlib.Core.Option.{Option, none, some}
use native.Mathlib.Omega.{arith}
use native.Mathlib.Decide.{ℕ_discrete, dec_lt}
use native.Mathlib.Numerals.{add-one}
use lib.IntN.{ℤ}
use lib.ListN.{length, set, length-set}
use lib.Seq.{get_or-set_same, get_or-set_other}
use Rattle.laws.specs.Tabs.{tab-same}
use Rattle.meaning.specs.Defined.{first_mode}
use Rattle.meaning.specs.Plants.{edge_limit}
use Rattle.tables.specs.Boxes.{Small}
use Rattle.tables.specs.Levels.{wide, side_in, level_in, Beside}
use Rattle.tables.specs.Limits.{stays_lent, image_lent, landing, Lent}
use Rattle.tables.specs.Tiles.{longest_pattern, mode_at, pattern_of}
use Rattle.tables.specs.Search.{level, behind, turns_left, levels_below, Open, SameTo, one_of, sought, rest, moves_lent, Standing}
use Rattle.tables.proofs.search.Laws.{first-same, rest_all, rest-done, rest_over, rest-pass, rest-enter, rest-found, rest-none, turns-over, turns-pass, turns-enter, turns-last, pattern-behind, below-same}

-- ---- level l + 1 is written: every other level stays

module _ (n : ℕ) (h : n ≤ 4) (l : ℕ) (boxes₀ boxes : List ℤ) (s : Beside (wide * l + wide) boxes₀ boxes) where
  level-other : (j : ℕ) → (j ≡ suc l → ⊥) → level_in n boxes j ≡ level_in n boxes₀ j
  level-other j z =
      tab-same (side_in boxes (wide * j)) (side_in boxes₀ (wide * j)) n 0 (λ i a b. s.others (wide * j) i (omega arith) (apart (dec_lt j (suc l))))
    where
      apart : Dec (j < suc l) → (wide * j + wide ≤ wide * l + wide) ⊎ (wide * l + wide + wide ≤ wide * j)
      apart (yes k) = inl (omega arith)
      apart (no k) = inr (omega arith)

  pub same-to : (us₀ us : List ℕ) → ((j : ℕ) → j < l → mode_at us j ≡ mode_at us₀ j) → SameTo n l boxes₀ us₀ boxes us
  same-to us₀ us e = record { boxes-same = λ j k. level-other j (λ z. absurd (omega arith)); modes-same = e }

-- mode u is put at l, and N behind it
module _ (us : List ℕ) (N l u : ℕ) where
  abbrev pub entered : List ℕ
  entered = set (set us l u) (l + 1) N

  pub entered_below : (j : ℕ) → (j ≡ l → ⊥) → (j ≡ l + 1 → ⊥) → mode_at entered j ≡ mode_at us j
  entered_below j y z = get_or-set_other (set us l u) (l + 1) j N 0 z ∙ get_or-set_other us l j u 0 y

  pub entered_here : l < length us → mode_at entered l ≡ u
  entered_here h = get_or-set_other (set us l u) (l + 1) l N 0 (λ e. absurd (omega arith)) ∙ get_or-set_same us l u 0 h

  entered-behind : l + 1 < length us → mode_at entered (l + 1) ≡ N
  entered-behind h = get_or-set_same (set us l u) (l + 1) N 0 (omega (arith, length-set us l u))

module _ (n N q : ℕ) (bands coef limits : List ℤ) where
  -- a level that is made stands, and those behind it no longer do
  module _ (h : n ≤ 4) (boxes₀ : List ℤ) (us : List ℕ) (g : Standing n N q bands coef limits boxes₀ us) (l u : ℕ) (k : suc l < longest_pattern) (boxes : List ℤ) (s : Beside (wide * l + wide) boxes₀ boxes) where
    pub standing-new : stays_lent n coef limits u (level_in n boxes₀ l) ≡ true → level_in n boxes (suc l) ≡ image_lent n q bands coef u (level_in n boxes₀ l) → Standing n N q bands coef limits boxes (entered us N l u)
    standing-new e i = record {
      roomy = s.long ∙ g.roomy;
      long = length-set (set us l u) (l + 1) N ∙ length-set us l u ∙ g.long;
      stands = λ j o m. go j o m (ℕ_discrete j l) (ℕ_discrete j (l + 1));
    }
      where
        go : (j : ℕ) → suc j < longest_pattern → mode_at (entered us N l u) j < N → Dec (j ≡ l) → Dec (j ≡ l + 1)
            → (stays_lent n coef limits (mode_at (entered us N l u) j) (level_in n boxes j) ≡ true)
            × (level_in n boxes (suc j) ≡ image_lent n q bands coef (mode_at (entered us N l u) j) (level_in n boxes j))
        go j o m (yes y) z =
            let a = entered_here us N l u (omega (arith, g.long)) in
            let b = level-other n h l boxes₀ boxes s l (λ w. absurd (omega arith)) in
            rw (y, a, b) (e, i)
        go j o m (no y) (yes z) =
            let a = entered-behind us N l u (omega (arith, g.long)) in
            absurd (omega (arith, ap (mode_at (entered us N l u)) z, a))
        go j o m (no y) (no z) =
            let a = entered_below us N l u j y z in
            let b = level-other n h l boxes₀ boxes s j (λ w. absurd (omega arith)) in
            let c = level-other n h l boxes₀ boxes s (suc j) (λ w. absurd (omega arith)) in
            rw (a, b, c) (g.stands j o (rw a at m))

  -- ---- the path: level l is tried at mode u, m modes stand in front of the last, and `whole` is what was to be found

  pub record Along (m : ℕ) (whole : Option (List ℕ)) (boxes : List ℤ) (us : List ℕ) (l u : ℕ) : Type 0 where
    pub deep : l ≤ m
    pub top : u ≤ N
    pub fresh : l ≡ m → u < N → u ≡ 0
    pub standing : Standing n N q bands coef limits boxes us
    pub small : Small edge_limit (level_in n boxes l)
    pub below : Open N (levels_below n boxes us l)
    pub to-find : rest (moves_lent n N q bands coef limits) (m - l) (level_in n boxes l) u (levels_below n boxes us l) ≡ whole

  abbrev pub turns_along : ℕ → List ℤ → List ℕ → ℕ → ℕ → ℕ
  turns_along m boxes us l u = turns_left N (m - l) u (levels_below n boxes us l)

  module _ (m : ℕ) (boxes : List ℤ) (us : List ℕ) where
    pub along-start : Standing n N q bands coef limits boxes us → Small edge_limit (level_in n boxes 0) → Along m (sought (moves_lent n N q bands coef limits) m (level_in n boxes 0)) boxes us 0 0
    unfolding levels_below Open
    along-start g s = record {
      deep = omega arith;
      top = omega arith;
      fresh = λ e h. refl;
      standing = g;
      small = s;
      below = tt;
      to-find = let z : m - 0 ≡ m = omega arith in rw z (rest_all (moves_lent n N q bands coef limits) m (level_in n boxes 0));
    }

    module _ (whole : Option (List ℕ)) where
      -- the first level is done
      pub along-done : (l u : ℕ) → l ≡ 0 → N ≤ u → Along m whole boxes us l u → whole ≡ none
      unfolding levels_below
      along-done zero u z h a = sym a.to-find ∙ rest-done (moves_lent n N q bands coef limits) (m - 0) (level_in n boxes 0) u h
      along-done (suc i) u z h a = absurd (omega arith)

      -- another one is, and the level below it goes on behind its mode
      module _ (i u : ℕ) (a : Along m whole boxes us (suc i) u) where
        under : m - i ≡ suc (m - suc i)
        under = let d = a.deep in omega arith

        up : N ≤ u → Along m whole boxes us i (mode_at us i + 1)
        unfolding levels_below Open
        up h = let d = a.deep in record {
          deep = omega arith;
          top = omega (arith, a.below.1);
          fresh = λ e k. absurd (omega arith);
          standing = a.standing;
          small = a.below.0;
          below = a.below.2;
          to-find = rw under (sym (rest_over (moves_lent n N q bands coef limits) (m - suc i) (level_in n boxes (suc i)) u h (level (level_in n boxes i) (mode_at us i)) (levels_below n boxes us i)) ∙ a.to-find);
        }

        fewer : turns_along m boxes us i (mode_at us i + 1) < turns_along m boxes us (suc i) u
        unfolding levels_below
        fewer = rw under (turns-over N (m - suc i) u (level (level_in n boxes i) (mode_at us i)) (levels_below n boxes us i))

      pub along-up : (l u : ℕ) → (l ≡ 0 → ⊥) → N ≤ u → Along m whole boxes us l u
          → Along m whole boxes us (l - 1) (mode_at us (l - 1) + 1) × (turns_along m boxes us (l - 1) (mode_at us (l - 1) + 1) < turns_along m boxes us l u)
      along-up zero u z h a = absurd (z refl)
      along-up (suc i) u z h a = let e : suc i - 1 ≡ i = omega arith in rw e (up i u a h, fewer i u a)

      -- the last level: v is its first mode that lands, or N
      module _ (l u v : ℕ) (z : l ≡ m) (a : Along m whole boxes us l u) (h : u < N) (e : one_of N v ≡ first_mode (landing n coef limits (level_in n boxes l)) N 0) where
        landed : one_of N v ≡ first_mode (behind (moves_lent n N q bands coef limits) 0 (level_in n boxes l)) N 0
        unfolding behind
        landed = e ∙ first-same _ _ N 0 (λ w o. refl)

        last : m - l ≡ 0
        last = omega arith

        from_first : rest (moves_lent n N q bands coef limits) 0 (level_in n boxes l) 0 (levels_below n boxes us l) ≡ whole
        from_first = let y : u ≡ 0 = a.fresh z h in rw (last, y) at a.to-find

        pub along-found : l < longest_pattern → v < N → some (pattern_of (m + 1) (set us l v)) ≡ whole
        along-found few k =
            ap (λ (i : ℕ). some (pattern_of (i + 1) (set us l v))) (sym z)
            ∙ ap some (sym (pattern-behind n boxes us l v (omega (arith, a.standing.long))))
            ∙ sym (rest-found (moves_lent n N q bands coef limits) (level_in n boxes l) v landed (levels_below n boxes us l) k) ∙ from_first

        pub along-none : N ≤ v → v ≤ N → Along m whole boxes us l v × (turns_along m boxes us l v < turns_along m boxes us l u)
        along-none k o = (
          record {
            deep = a.deep;
            top = o;
            fresh = λ y f. absurd (omega arith);
            standing = a.standing;
            small = a.small;
            below = a.below;
            to-find = rw last (sym (rest-none (moves_lent n N q bands coef limits) (level_in n boxes l) v landed (levels_below n boxes us l) k) ∙ from_first);
          },
          let y : u ≡ 0 = a.fresh z h in rw (last, y) (turns-last N v (levels_below n boxes us l) (omega arith) k),
        )

  -- mode u on level l: the arrays are those behind `search::descend`, which leaves level l and what is below it
  module _ (m : ℕ) (whole : Option (List ℕ)) (boxes₀ : List ℤ) (us₀ : List ℕ) (l u : ℕ) (a : Along m whole boxes₀ us₀ l u) (h : u < N) (k : l ≡ m → ⊥)
      (boxes : List ℤ) (us : List ℕ) (s : SameTo n l boxes₀ us₀ boxes us) (g : Standing n N q bands coef limits boxes us) where
    below-is : levels_below n boxes us l ≡ levels_below n boxes₀ us₀ l
    below-is = below-same n boxes₀ us₀ l boxes us s

    here-is : level_in n boxes l ≡ level_in n boxes₀ l
    here-is = s.boxes-same l (omega arith)

    more : m - l ≡ suc (m - (l + 1))
    more = let d = a.deep in omega arith

    -- its image leaves S
    module _ (e : false ≡ stays_lent n coef limits u (level_in n boxes₀ l)) where
      on : Along m whole boxes us l (u + 1)
      unfolding behind
      on = record {
        deep = a.deep;
        top = omega arith;
        fresh = λ z. absurd (k z);
        standing = g;
        small = rw here-is a.small;
        below = rw below-is a.below;
        to-find =
            rw (here-is, below-is)
            (sym (rest-pass (moves_lent n N q bands coef limits) (m - l) (level_in n boxes₀ l) u h (levels_below n boxes₀ us₀ l) (rw (more, ← e) refl)) ∙ a.to-find);
      }

      pub along-on : Along m whole boxes us l (u + 1) × (turns_along m boxes us l (u + 1) < turns_along m boxes₀ us₀ l u)
      along-on = (on, rw below-is (turns-pass N (m - l) u (levels_below n boxes₀ us₀ l) h))

    -- its image stays, and stands at level l + 1
    module _ (e : true ≡ stays_lent n coef limits u (level_in n boxes₀ l)) (i : mode_at us l ≡ u) (j : level_in n boxes (suc l) ≡ image_lent n q bands coef u (level_in n boxes₀ l)) where
      path-is : levels_below n boxes us (l + 1) ≡ level (level_in n boxes₀ l) u ∷ levels_below n boxes₀ us₀ l
      unfolding levels_below
      path-is = rw (add-one, here-is, i, below-is) refl

      top-is : level_in n boxes (l + 1) ≡ image_lent n q bands coef u (level_in n boxes₀ l)
      top-is = rw add-one j

      down : Lent n N q bands coef limits → Along m whole boxes us (l + 1) 0
      unfolding Open
      down t = record {
        deep = let d = a.deep in omega arith;
        top = omega arith;
        fresh = λ z o. refl;
        standing = g;
        small = rw top-is (t.small u (level_in n boxes₀ l) h a.small (sym e));
        below = rw path-is (a.small, h, a.below);
        to-find =
            rw (top-is, path-is)
            (sym (rest-enter (moves_lent n N q bands coef limits) (m - (l + 1)) (level_in n boxes₀ l) u h (levels_below n boxes₀ us₀ l) (sym e)) ∙ (rw more at a.to-find));
      }

      pub along-down : Lent n N q bands coef limits → Along m whole boxes us (l + 1) 0 × (turns_along m boxes us (l + 1) 0 < turns_along m boxes₀ us₀ l u)
      along-down t = (down t, rw (path-is, more) (turns-enter N (m - (l + 1)) u (levels_below n boxes₀ us₀ l) h (level_in n boxes₀ l)))
