-- A table as the bytes that a tree lies in: what is asked of bytes that are turned. Of a box only its children are asked, so the tree is of sound shape by
-- the rules of the frame's counts alone; lengths told it has at most 58,963 bytes, where the form halves no side alone. Assumes nothing.
use Prim.Native.Nat.{ℕ, zero, suc, ◌≤◌}
use mathlib.Core.Path.{◌≡◌, sym, ap, ◌∙◌}
use mathlib.Core.Bool.{Bool, true, false}
use mathlib.Core.List.{List, [], ◌∷◌, ◌++◌, append-nil}
use native.Mathlib.Omega.{arith}
use lib.IntN.{ℤ}
use lib.ListN.{length, drop_of_length-le}
use Rattle.laws.specs.Standing.{Stands}
use Rattle.laws.specs.Tabs.{length-tab}
use Rattle.meaning.specs.Boxes.{Side, side_at}
use Rattle.meaning.specs.Images.{Step}
use Rattle.meaning.specs.Rules.{Rules}
use Rattle.meaning.specs.Tables.{one_side, depth_by, children_by, rules_from}
use Rattle.meaning.specs.Trees.{Tree, Forest, split, tile, leaf, more, layout, Pattern, Over, Overs}
use Rattle.promises.specs.Files.Bytes.{one_byte}
use Rattle.promises.specs.Tables.SameTree.{rooted-alike}
use Rattle.promises.specs.Tables.Shapes.{Shaped}
use Rattle.promises.specs.Tables.TableForms.{form_small}
use Rattle.promises.specs.Tables.TreeLengths.{tile-most, splits-most, layout-length, cap-by}
use Rattle.tables.specs.declared.frames.Frame.{Frame}
use Rattle.tables.specs.Boxes.{box_of}
use Rattle.tables.specs.Frames.{step_in, rules_in, FrameSound}
use Rattle.tables.specs.Turns.{most_tree, TableLies, table_by}

-- ---- by other boxes and other modes, of one form, a tree has the same shape

module _ (form n N K D n' N' K' D' : ℕ) (root goal safe root' goal' safe' : List Side) (step step' : ℕ → Step) (P : List Side → List ℕ → Type 0) where
  abbrev one : Rules
  one = rules_from form n N K D root goal safe step

  abbrev two : Rules
  two = rules_from form n' N' K' D' root' goal' safe' step'

  mutual
    unfolding Over

    over-boxes : (t : Tree) (d : ℕ) (b : List Side) → Over one P t d b → Over two P t d b
    over-boxes (tile us) d b o = o
    over-boxes (split f) zero b o = o
    over-boxes (split f) (suc d) b o = (o.0, overs-boxes f d (children_by form b) o.1)

    overs-boxes : (f : Forest) (d : ℕ) (bs : List (List Side)) → Overs one P f d bs → Overs two P f d bs
    overs-boxes leaf d [] o = o
    overs-boxes leaf d (b ∷ bs) o = o
    overs-boxes (more t f) d [] o = o
    overs-boxes (more t f) d (b ∷ bs) o = (over-boxes t d b o.0, overs-boxes f d bs o.1)

-- ---- behind two bytes

behind-two : (a b : ℕ) (xs : List ℕ) → Stands (a ∷ b ∷ xs) 2 xs (suc (suc (length xs)))
behind-two a b xs = record { end = omega arith; bytes = sym (append-nil xs) ∙ ap (λ (l : List ℕ). xs ++ l) (sym (drop_of_length-le xs {i = length xs} (omega arith))) }

-- ---- a frame's table, in either layout

module _ (f : Frame) (bands coef : List ℤ) (g : FrameSound f) (sides : one_side f.form ≡ false) (t : Tree) (o : Shaped (rules_in f bands coef) t) where
  -- its tree is one of form 2
  long : length (layout true t) ≤ most_tree
  long =
      let root = box_of f.n f.root in
      let goal = box_of f.n f.goal in
      let safe = box_of f.n f.safe in
      omega (
        arith,
        layout-length 2 f.n f.modes f.k f.d root goal safe (step_in f bands coef) g.rooms (omega (arith, g.modes)) g.longest
            (length-tab (side_at f.root.lo f.root.hi) f.n 0) t
            (rooted-alike f.form 2 f.n f.modes f.k f.d root goal safe (step_in f bands coef) sides (λ b us. Pattern f.k f.modes us) t o),
        cap-by 2 f.modes f.n f.d g.some g.rooms g.depth g.tiles,
        tile-most f.modes,
        splits-most 2,
      )

  pub table-lies : (told : Bool) (s : List ℕ) → s ≡ table_by f.form f.n told t → TableLies f told s t (suc (suc (length (layout told t))))
  table-lies told s is = record {
    over =
        over-boxes f.form f.n f.modes f.k f.d f.n f.modes f.k 0 (box_of f.n f.root) (box_of f.n f.goal) (box_of f.n f.safe) [] [] []
        (step_in f bands coef) (step_in f [] []) (λ _ us. Pattern f.k f.modes us) t (depth_by f.form f.n f.d) (box_of f.n f.root) o;
    stand = rw (is, one_byte f.form (form_small f.form g.known), one_byte f.n (omega (arith, g.rooms))) (behind-two f.form f.n (layout told t));
    short = long;
  }
