-- Document 01's rules of a plant that was judged good, of each known form: its numbers meet what page Laws asks of numbers, lengths too, and a table's header takes two bytes; and the
-- answers about tables over bytes are those of its rules. How a plant was judged is told by its reader's verdict; a bad one is told first. That they split well and that their patterns keep their word is page PlantMotion.
-- Relies on the ranges of page Sound, and for lengths on page TreeLengths.
use Rattle.std.specs.Prelude.{ℕ, ◌+◌, ◌≤◌, ◌≡◌, true, false, List, ◌++◌, length, ℤ, Ok, Err}
use Rattle.std.proofs.Math.Path.{refl}
use Rattle.std.proofs.Common.{ap, arith, length-append}
use Rattle.meaning.specs.Answers.{PlantRead}
use Rattle.laws.specs.Tabs.{length-tab}
use Rattle.laws.specs.Tests.{never}
use Rattle.meaning.specs.declared.Outline.{Outline}
use Rattle.meaning.specs.declared.Refusal.{Refusal}
use Rattle.meaning.specs.declared.State.{State}
use Rattle.meaning.specs.Boxes.{Side, side_at}
use Rattle.meaning.specs.Control.{call}
use Rattle.meaning.specs.Files.{Judged, good, bad}
use Rattle.meaning.specs.Numbers.{bytes_of}
use Rattle.meaning.specs.Refusals.{wrong_form}
use Rattle.meaning.specs.Plants.{Plant, root_of, safe_of, step_of, plant_judged, outline_of, read_of}
use Rattle.meaning.specs.Tables as T
use Rattle.meaning.specs.Tables.{known_form, depth_by, form_of, table_rules, rules_of, checked, defined_table, made, controlled}
use Rattle.meaning.specs.Trees.{Tree, tells, layout, table_of}
use Rattle.meaning.specs.Verdicts.{verdict}
use Rattle.promises.specs.Files.Bytes.{one_byte}
use Rattle.promises.specs.Files.Judged.{judged-sound}
use Rattle.promises.specs.Tables.Laws.{Sizes}
use Rattle.promises.specs.Tables.Layouts.{headed}
use Rattle.promises.specs.Tables.Shapes.{Shaped}
use Rattle.promises.specs.Tables.SplitLengths.{short-fits}
use Rattle.promises.specs.Tables.TableForms.{form_small, form-byte}
use Rattle.promises.specs.Tables.TreeLengths.{most, children_most, tile_bytes, tile-most, layout-length, splits-most, cap-by}
use Rattle.promises.specs.Files.Sound.{Sound}

pub root-sides : (p : Plant) → length (root_of p) ≡ p.n
root-sides p = length-tab (side_at p.rlo p.rhi) p.n 0

-- how long a tree of sound shape over a box of n sides may be
pub over-length : (form : ℕ) (p : Plant) → Sound p → (root goal : List Side) → length root ≡ p.n → (t : Tree) → Shaped (table_rules form p root goal) t
    → length (layout (tells form) t) ≤ most (tells form) (children_most form p.n) (tile_bytes p.modes) (depth_by form p.n p.d)
over-length form p s root goal sides t o =
    layout-length form p.n p.modes p.k p.d root goal (safe_of p) (step_of p) s.ranges.n-high s.ranges.m-high s.ranges.k-high sides t o

module _ (form : ℕ) (known : known_form form ≡ true) (p : Plant) (s : Sound p) where
  -- the form is at most 3, n at most 4, K at most 6, N at most 256, and no tree is longer than 58,963 bytes: numbers of five bytes hold them, wherever patterns end
  pub sizes-over : (root goal : List Side) → length root ≡ p.n → Sizes (table_rules form p root goal)
  sizes-over root goal sides = record {
    forms = omega (arith, form_small form known);
    dimensions = omega (arith, s.ranges.n-high);
    nodes = omega (arith, s.ranges.k-high);
    modes = omega (arith, s.ranges.m-high);
    lengths = λ t o.
        short-fits (tells form) t (omega (
          arith,
          over-length form p s root goal sides t o,
          cap-by form p.modes p.n p.d s.ranges.n-low s.ranges.n-high s.ranges.d-high s.ranges.nd-high,
          tile-most p.modes,
          splits-most form,
        ));
  }

  pub sizes : Sizes (rules_of form p)
  sizes = sizes-over (root_of p) (root_of p) (root-sides p)

  -- and form and n take a byte each
  pub header-size : headed form p.n ≡ 2
  header-size =
      omega (
        arith,
        length-append (bytes_of form) (bytes_of p.n),
        form-byte form known,
        ap length (one_byte p.n (omega (arith, s.ranges.n-high))),
      )

  pub table-size : (root goal : List Side) (t : Tree) → length (table_of (table_rules form p root goal) t) ≡ 2 + length (layout (tells form) t)
  table-size root goal t =
      let tree = layout (tells form) t in
      omega (
        arith,
        header-size,
        length-append (bytes_of form) (bytes_of p.n ++ tree),
        length-append (bytes_of p.n) tree,
        length-append (bytes_of form) (bytes_of p.n),
      )

-- a plant that was judged good, and its outline
pub record Taken (j : Judged Plant) (o : Outline) : Type 0 where
  pub plant : Plant
  pub was : j ≡ good plant
  pub outline : o ≡ outline_of plant

-- the reader's answer x says how the plant was judged
module _ (j : Judged Plant) (x : PlantRead) (q : x ≡ read_of j) where
  pub read-good : (o : Outline) → x ≡ Ok o → Taken j o
  read-good o h = go j q
    where
      go : (j : Judged Plant) → x ≡ read_of j → Taken j o
      go (good p) e = let same : o ≡ outline_of p = cc in record { plant = p; was = refl; outline = same }
      go (bad r) e = never cc

  pub read-bad : (e : Refusal) → x ≡ Err e → j ≡ bad e
  read-bad e h = go j q
    where
      go : (j : Judged Plant) → x ≡ read_of j → j ≡ bad e
      go (good p) f = never cc
      go (bad r) f = let same : r ≡ e = cc in rw same refl

module _ (plant : List ℕ) (r : Refusal) (e : plant_judged plant ≡ bad r) where
  pub checked-bad : (table : List ℕ) → checked plant table ≡ Err r
  unfolding T.checked
  checked-bad table = rw e refl

  pub controlled-bad : (table : List ℕ) (st : State) (x : List ℤ) → controlled plant table st x ≡ Err r
  unfolding T.controlled
  controlled-bad table st x = rw e refl

module _ (plant : List ℕ) (p : Plant) (e : plant_judged plant ≡ good p) where
  pub judged-sizes : (form : ℕ) → known_form form ≡ true → Sizes (rules_of form p)
  judged-sizes form known = sizes form known p (judged-sound plant p e)

  -- the checker's verdict, what is made of a known form, and the controller's answer: a table's form is the one that it says
  pub checked-as : (table : List ℕ) → checked plant table ≡ verdict (rules_of (form_of table) p) table
  unfolding T.checked
  checked-as table = rw e refl

  pub made_as : (form : ℕ) → known_form form ≡ true → made plant form ≡ defined_table 0 (rules_of form p)
  unfolding T.made
  made_as form known = rw (e, known) refl

  -- any other form is 2
  pub made-unknown : (form : ℕ) → known_form form ≡ false → made plant form ≡ bad wrong_form
  unfolding T.made
  made-unknown form other = rw (e, other) refl

  pub controlled-as : (table : List ℕ) (st : State) (x : List ℤ) → controlled plant table st x ≡ call (rules_of (form_of table) p) table st x
  unfolding T.controlled
  controlled-as table st x = rw e refl
