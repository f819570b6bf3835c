-- The trees of a start file that keeps its rules: each of its tables is that of a tree over its box, and how long the longest patterns of tables 1..i are
-- together. Relies on page Accept at each box's rules, which page Chains shows to be as it asks.
use Rattle.std.specs.Prelude.{ℕ, zero, suc, ◌+◌, ◌≤◌, ◌<◌, ◌≡◌, List, []}
use Rattle.std.proofs.Common.{arith}
use Rattle.std.proofs.Math.Decide.{dec_lt}
use Rattle.std.proofs.Math.ListN.{length}
use Rattle.meaning.specs.Starts.{above}
use Rattle.meaning.specs.Tables.{form_of}
use Rattle.meaning.specs.Trees.{Tree, tile, longest, table_of}
use Rattle.promises.specs.Tables.Accept.{accepted-exactly}
use Rattle.promises.specs.Files.Judged.{judged-sound}
use Rattle.promises.specs.Tables.Shapes.{Working}
use Rattle.promises.specs.Files.Sound.{Sound}
use Rattle.promises.specs.Tables.TableForms.{form-known}
use Rattle.promises.specs.Starts.Calls.{rules_at, table_at}
use Rattle.promises.specs.Starts.Chains.{Chained, read-chained, box-sizes}
use Rattle.promises.specs.Starts.Started.{Started}

-- Each table is that of a tree over its box, of sound shape by the form that it says, whose tiles all keep the tile rule.
pub record Trees {plant start : List ℕ} (w : Started plant start) : Type 0 where
  pub tree : ℕ → Tree
  pub works : (i : ℕ) → i ≤ above w.vs → Working (rules_at w i) (tree i)
  pub is : (i : ℕ) → i ≤ above w.vs → table_at w i ≡ table_of (rules_at w i) (tree i)

module _ {plant start : List ℕ} (w : Started plant start) where
  pub sound : Sound w.p
  sound = judged-sound plant w.p w.judged

  pub chained : Chained w.p w.vs
  chained = read-chained w.p sound w.vs w.kept start w.next w.chain

  tree_of : (i : ℕ) → i < length w.tables → (t : Tree) × Working (rules_at w i) t × (table_at w i ≡ table_of (rules_at w i) t)
  tree_of i l = (accepted-exactly (rules_at w i) (box-sizes w.p sound w.vs i (form_of (table_at w i)) (form-known (table_at w i))) (table_at w i)).0 (w.each i l)

  -- behind the last, any
  tree-at : (i : ℕ) → Dec (i < length w.tables) → Tree
  tree-at i (yes l) = (tree_of i l).0
  tree-at i (no n) = tile []

  pub trees : Trees w
  unfolding tree-at tree_of
  trees = record {
    tree = λ i. tree-at i (dec_lt i (length w.tables));
    works = λ i l. (go i (omega (arith, w.count)) (dec_lt i (length w.tables))).0;
    is = λ i l. (go i (omega (arith, w.count)) (dec_lt i (length w.tables))).1;
  }
    where
      go : (i : ℕ) → i < length w.tables → (d : Dec (i < length w.tables)) → Working (rules_at w i) (tree-at i d) × (table_at w i ≡ table_of (rules_at w i) (tree-at i d))
      go i l (yes h) = let t = tree_of i h in (t.1, t.2)
      go i l (no n) = absurd (n l)

-- ---- their longest patterns

-- the longest patterns of tables 1..i together
unfoldable pub longest_up_to : (ℕ → Tree) → ℕ → ℕ
longest_up_to tree zero = 0
longest_up_to tree (suc i) = longest_up_to tree i + longest (tree (suc i))

-- it grows by each
pub longest-step : (tree : ℕ → Tree) (c j : ℕ) → c < j → longest (tree (suc c)) + longest_up_to tree c ≤ longest_up_to tree j
unfolding longest_up_to
longest-step tree c zero l = absurd (omega arith)
longest-step tree c (suc j) l = go (dec_lt c j) (longest-step tree c j)
  where
    go : Dec (c < j) → (c < j → longest (tree (suc c)) + longest_up_to tree c ≤ longest_up_to tree j)
        → longest (tree (suc c)) + longest_up_to tree c ≤ longest_up_to tree j + longest (tree (suc j))
    go (yes h) ih = omega (arith, ih h)
    go (no h) ih = let e : c ≡ j = omega arith in rw e (omega arith)

-- no pattern of tables 0..i is longer than that of table 0 and those together
pub longest-one : (tree : ℕ → Tree) (c i : ℕ) → c ≤ i → longest (tree c) ≤ longest (tree 0) + longest_up_to tree i
longest-one tree zero i l = omega arith
longest-one tree (suc c) i l = omega (arith, longest-step tree c i l)
