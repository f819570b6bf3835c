-- A tile's modes, read in a loop: what is read so far, in front of what is left, is the whole. And modes that were read are a pattern. Assumes nothing.
use Rattle.std.specs.Prelude.{Some, None}
use Prim.Native.Nat.{ℕ, zero, suc, ◌+◌, ◌-◌, ◌≤◌, ◌<◌}
use mathlib.Core.Path.{◌≡◌, refl, sym, ◌∙◌}
use mathlib.Core.List.{List, [], ◌∷◌, ◌++◌}
use native.Mathlib.Omega.{arith}
use native.Mathlib.Nat.{sub-zero, zero-add}
use lib.ListN.{length, get_or, set, length-set}
use lib.Seq.{get_or-set_same, get_or-set_other}
use Rattle.laws.specs.Tabs.{tab-snoc, tab-same, get_d-tab}
use Rattle.laws.specs.Lists.{tab}
use Rattle.meaning.specs.Refusals.{broken, bad_table}
use Rattle.meaning.specs.Numbers.{number_at}
use Rattle.meaning.specs.Files.{read, refused}
use Rattle.meaning.specs.Trees.{AllBelow}
use Rattle.meaning.specs.Verdicts.{modes_at}
use Rattle.promises.specs.Tables.Walking.{behind, modes-broken, modes-over, modes-more}
use Rattle.promises.specs.Tables.Layouts.{modes-stand}
use Rattle.tables.specs.Tiles.{mode_at, pattern_of, Pattern}

behind-read : (us : List ℕ) (m : ℕ) → behind us (read [] m) ≡ read us m
behind-read [] m = refl
behind-read (u ∷ us) m = rw (behind-read us m) refl

-- one more mode is stored
stored : (us : List ℕ) (i u : ℕ) → i < length us → pattern_of (i + 1) (set us i u) ≡ pattern_of i us ++ u ∷ []
stored us i u h =
    let new : mode_at (set us i u) (0 + i) ≡ u = rw zero-add (get_or-set_same us i u 0 h) in
    tab-snoc (mode_at (set us i u)) i 0
    ∙ rw (tab-same (mode_at (set us i u)) (mode_at us) i 0 (λ k a b. get_or-set_other us i k u 0 (λ e. absurd (omega arith))), new) refl

-- i of the k modes at `at` are read; those left stand at w
pub record ModesUpTo (modes k : ℕ) (s : List ℕ) (at i w : ℕ) (us : List ℕ) : Type 0 where
  pub few : i ≤ k
  pub size : length us ≡ 6
  pub left : behind (pattern_of i us) (modes_at modes (k - i) s w) ≡ modes_at modes k s at

module _ (modes k : ℕ) (s : List ℕ) (at : ℕ) where
  pub modes-none : (us : List ℕ) → length us ≡ 6 → ModesUpTo modes k s at 0 at us
  unfolding tab
  modes-none us h = record { few = omega arith; size = h; left = rw sub-zero refl }

  module _ (i w : ℕ) (us : List ℕ) (m : ModesUpTo modes k s at i w us) where
    pub modes-all : k ≤ i → read (pattern_of k us) w ≡ modes_at modes k s at
    unfolding modes_at
    modes-all h =
        let q : i ≡ k = omega (arith, m.few) in
        let z : k - k ≡ 0 = omega arith in
        sym (behind-read (pattern_of k us) w) ∙ (rw (q, z) at m.left)

    module _ (h : i < k) where
      pub modes-end : number_at s w ≡ None → refused (broken w) ≡ modes_at modes k s at
      modes-end b = sym (modes-broken modes s (pattern_of i us) w k i h b) ∙ m.left

      module _ (u next : ℕ) (v : number_at s w ≡ Some (u, next)) where
        pub modes-past : modes ≤ u → refused (bad_table w) ≡ modes_at modes k s at
        modes-past l = sym (modes-over modes s (pattern_of i us) w k i h u next v l) ∙ m.left

        pub modes-next : u < modes → k ≤ 6 → ModesUpTo modes k s at (i + 1) next (set us i u)
        modes-next l few = record {
          few = omega arith;
          size = length-set us i u ∙ m.size;
          left = rw (stored us i u (omega (arith, m.size))) (sym (modes-more modes s (pattern_of i us) w k i h u next v l) ∙ m.left);
        }

-- ---- modes that were read are a pattern

below_at : (N : ℕ) (us : List ℕ) → AllBelow N us → (i : ℕ) → i < length us → get_or us i 0 < N
unfolding AllBelow
below_at N [] b i h = absurd (omega arith)
below_at N (u ∷ us) b zero h = b.0
below_at N (u ∷ us) b (suc i) h = below_at N us b.1 i (omega arith)

pub modes-pattern : (N k : ℕ) (s : List ℕ) (at : ℕ) (us : List ℕ) (m : ℕ) → k ≤ 6 → modes_at N k s at ≡ read (pattern_of k us) m → Pattern N k us
modes-pattern N k s at us m few e =
    let t = modes-stand N k s at (pattern_of k us) m e in
    record {
      longest = few;
      each = λ i h. rw (get_d-tab (mode_at us) 0 k 0 i h, zero-add) at (below_at N (pattern_of k us) t.modes i (omega (arith, t.count)));
    }
