-- The walk over a table's tree of a form that tells no lengths: a split, and a loop over its children. At the rules of a frame, in the terms of the code, for
-- checker and passing alike. Relies on promises' page Walking.
use Rattle.std.specs.Prelude.{Some, Ok, Err}
use Prim.Native.Nat.{ℕ, ◌+◌, ◌-◌, ◌≤◌, ◌<◌}
use mathlib.Core.Path.{◌≡◌, sym, ap, ◌∙◌}
use mathlib.Core.Bool.{Bool, false}
use mathlib.Core.List.{List, []}
use native.Mathlib.Omega.{arith}
use lib.IntN.{ℤ}
use lib.ListN.{length, get_or, drop}
use Rattle.meaning.specs.Answers.{Walk}
use Rattle.meaning.specs.declared.Refusal.{Refusal}
use Rattle.meaning.specs.Boxes.{Side}
use Rattle.meaning.specs.Numbers.{number_at}
use Rattle.meaning.specs.Tables.{children_by}
use Rattle.meaning.specs.Trees.{tells}
use Rattle.meaning.specs.Verdicts.{each}
use Rattle.promises.specs.Tables.Walking.{each-done, each_more, each-refused, each-untold, walk_split}
use Rattle.tables.specs.declared.frames.Frame.{Frame}
use Rattle.tables.specs.Frames.{rules_in}
use Rattle.tables.specs.Walks.{judge_by}
use Rattle.tables.proofs.walks.Laws.{tree}

module _ (f : Frame) (bands coef : List ℤ) (judged : Bool) where
  abbrev walked : ℕ → List ℕ → ℕ → List Side → Walk
  walked = tree f bands coef judged

  -- a split that is possible: the children say what the whole says
  module _ (untold : tells f.form ≡ false) (d : ℕ) (s : List ℕ) (at : ℕ) (b : List Side) (k m : ℕ) (e : number_at s at ≡ Some (k, m)) (z : k ≤ 0) where
    split : number_at s at ≡ Some (0, m)
    split = let q : k ≡ 0 = omega arith in rw q at e

    pub untold-split : (d ≡ 0 → ⊥) → (length (children_by f.form b) ≡ 0 → ⊥) → each (walked (d - 1) s) (drop 0 (children_by f.form b)) [] m ≡ walked d s at b
    untold-split h l =
        sym (each-untold (rules_in f bands coef) untold (judge_by judged (rules_in f bands coef)) (d - 1) s (children_by f.form b) m)
        ∙ sym (walk_split (rules_in f bands coef) (judge_by judged (rules_in f bands coef)) d s at b m (d - 1) split (omega arith) (λ q. l (ap length q)))

  -- children in a loop: c of them are done, w is the place behind them
  module _ (d : ℕ) (s : List ℕ) (b : List Side) (c w : ℕ) where
    pub children-done : length (children_by f.form b) ≤ c → Ok w ≡ each (walked d s) (drop c (children_by f.form b)) [] w
    children-done h = sym (each-done (walked d s) (children_by f.form b) c w [] h)

    -- the next one, and what was answered for it
    module _ (h : c < length (children_by f.form b)) (kid : List Side) (q : kid ≡ get_or (children_by f.form b) c []) (v : Walk) (e : v ≡ walked d s w kid) where
      came : walked d s w (get_or (children_by f.form b) c []) ≡ v
      came = ap (λ (k : List Side). walked d s w k) (sym q) ∙ sym e

      pub children-more : (m : ℕ) → v ≡ Ok m → each (walked d s) (drop (c + 1) (children_by f.form b)) [] m ≡ each (walked d s) (drop c (children_by f.form b)) [] w
      children-more m g = sym (each_more (walked d s) (children_by f.form b) c w [] m h (came ∙ g))

      pub children-stopped : (r : Refusal) → v ≡ Err r → v ≡ each (walked d s) (drop c (children_by f.form b)) [] w
      children-stopped r g = g ∙ sym (each-refused (walked d s) (children_by f.form b) c w [] [] r h (came ∙ g))
