-- Laws of the tile that holds a reading, for the proofs of module finds: a node that is no split, at the rules of a frame in the terms of the code; and when a box
-- holds a reading, for its callers too. A split is page Untold where lengths are not told, and page Told where they are. Assumes nothing.
use Rattle.std.specs.Prelude.{Some, None, Err}
use Prim.Native.Nat.{ℕ, ◌≤◌, ◌<◌}
use mathlib.Core.Path.{◌≡◌, sym, ap, ◌∙◌}
use mathlib.Core.Bool.{true, false}
use mathlib.Core.List.{List, []}
use native.Mathlib.Omega.{arith}
use lib.IntN.{ℤ}
use lib.ListN.{length}
use Rattle.laws.specs.Lists.{at, all, first_false}
use Rattle.laws.specs.Tabs.{length-tab}
use Rattle.laws.specs.Tests.{first-within, first-behind}
use Rattle.meaning.specs.Boxes.{Side, side_at, sides_of, fits}
use Rattle.meaning.specs.Control.{tile_found, find}
use Rattle.meaning.specs.Numbers.{number_at}
use Rattle.meaning.specs.Refusals.{broken, bad_table}
use Rattle.meaning.specs.Rules.{Rules}
use Rattle.meaning.specs.Tables.{reading_of}
use Rattle.meaning.specs.Verdicts.{modes_at}
use Rattle.promises.specs.Tables.Walking.{find-broken, find-deep, find-over, find-tile}
use Rattle.tables.specs.declared.frames.Frame.{Frame}
use Rattle.tables.specs.Frames.{rules_in}
use Rattle.tables.proofs.boxes.Laws.{holds_at, fits-tab}

-- ---- the first dimension that is missed is behind the last exactly where a box holds the reading

module _ (n : ℕ) (lo hi x : List ℤ) where
  tests : length (fits (sides_of n lo hi) (reading_of n x)) ≡ n
  tests = ap length (fits-tab (side_at lo hi) (at x) n 0) ∙ length-tab (holds_at lo hi x) n 0

  pub held : n ≤ first_false (fits (sides_of n lo hi) (reading_of n x)) → all (fits (sides_of n lo hi) (reading_of n x)) ≡ true
  held h = first-behind (fits (sides_of n lo hi) (reading_of n x)) (omega (arith, tests))

  pub not-held : first_false (fits (sides_of n lo hi) (reading_of n x)) < n → all (fits (sides_of n lo hi) (reading_of n x)) ≡ false
  not-held h = first-within (fits (sides_of n lo hi) (reading_of n x)) (omega (arith, tests))

-- ---- a node

module _ (f : Frame) (x : List ℤ) where
  abbrev rules : Rules
  rules = rules_in f [] []

  module _ (d : ℕ) (s : List ℕ) (at : ℕ) (b : List Side) where
    pub node-broken : number_at s at ≡ None → Err (broken at) ≡ find rules d s at b x
    node-broken e = sym (find-broken rules x d s at b e)

    module _ (k m : ℕ) (e : number_at s at ≡ Some (k, m)) where
      pub node_over : f.k < k → Err (bad_table at) ≡ find rules d s at b x
      node_over h = sym (find-over rules x d s at b k m e h)

      pub node-tile : 0 < k → k ≤ f.k → tile_found (modes_at f.modes k s m) m k ≡ find rules d s at b x
      node-tile h l = sym (find-tile rules x d s at b k m e (omega arith) l)

      module _ (z : k ≤ 0) where
        split : number_at s at ≡ Some (0, m)
        split = let q : k ≡ 0 = omega arith in rw q at e

        pub node-deep : d ≡ 0 → Err (bad_table at) ≡ find rules d s at b x
        node-deep h = sym (find-deep rules x d s at b m split h)
