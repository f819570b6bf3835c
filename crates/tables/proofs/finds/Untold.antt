-- The tile that holds a reading, in a table of a form that tells no lengths: a split, and a loop over its children up to the one that holds the reading, those
-- before it walked over. At the rules of a frame, in the terms of the code, the walk being lent anything for bands and coefficients. Relies on promises' page
-- Walking.
use Rattle.std.specs.Prelude.{Some, Ok, Err}
use Prim.Native.Nat.{ℕ, suc, ◌+◌, ◌-◌, ◌≤◌, ◌<◌}
use mathlib.Core.Path.{◌≡◌, refl, sym, ap, ◌∙◌}
use mathlib.Core.Bool.{Bool, true, false}
use mathlib.Core.List.{List, [], ◌∷◌}
use native.Mathlib.Omega.{arith}
use lib.IntN.{ℤ}
use lib.ListN.{length, get_or, drop}
use Rattle.laws.specs.Lists.{all}
use Rattle.meaning.specs.Answers.{Walk, Found}
use Rattle.meaning.specs.declared.Refusal.{Refusal}
use Rattle.meaning.specs.declared.Tried.TheVariants.{Works}
use Rattle.meaning.specs.Boxes.{Side, fits}
use Rattle.meaning.specs.Control.{among, find}
use Rattle.meaning.specs.Numbers.{number_at}
use Rattle.meaning.specs.Refusals.{bad_table}
use Rattle.meaning.specs.Rules.{Rules, holds}
use Rattle.meaning.specs.Tables.{children_by, reading_of}
use Rattle.meaning.specs.Trees.{tells}
use Rattle.promises.specs.Tables.Steps.{walk_same}
use Rattle.promises.specs.Tables.Walking.{pass_over, look_among, look-untold, pass-untold, among_none, among-here, among-more, among-refused, find-stuck, find-split}
use Rattle.tables.specs.declared.frames.Frame.{Frame}
use Rattle.tables.specs.Boxes.{box_of}
use Rattle.tables.specs.Frames.{step_in, rules_in}
use Rattle.tables.specs.Walks.{walk_by}

module _ (f : Frame) (x : List ℤ) where
  abbrev rules : Rules
  rules = rules_in f [] []

  -- the look among the children of the box b of a split at `node`, c of them passed, w the place behind them
  abbrev pub look_from : ℕ → List ℕ → ℕ → List Side → ℕ → ℕ → Found
  look_from d s node b c w = look_among rules x d s node (drop c (children_by f.form b)) [] w

  module _ (untold : tells f.form ≡ false) where
    -- a split; where there are no children both sides refuse
    module _ (d : ℕ) (s : List ℕ) (at : ℕ) (b : List Side) (k m : ℕ) (e : number_at s at ≡ Some (k, m)) (z : k ≤ 0) where
      split : number_at s at ≡ Some (0, m)
      split = let q : k ≡ 0 = omega arith in rw q at e

      pub look-split : (d ≡ 0 → ⊥) → look_from (d - 1) s at b 0 m ≡ find rules d s at b x
      unfolding among
      look-split h = go (children_by f.form b) refl
        where
          go : (cs : List (List Side)) → children_by f.form b ≡ cs → look_among rules x (d - 1) s at (children_by f.form b) [] m ≡ find rules d s at b x
          go [] e = rw e (sym (find-stuck rules x d s at b m split e))
          go (c ∷ cs) e =
              sym (look-untold rules untold x (d - 1) s at (children_by f.form b) m)
              ∙ sym (find-split rules x d s at b m (d - 1) split (omega arith) (λ q. let v : ◌≡◌ {A = ℕ} 0 (suc (length cs)) = sym (ap length q) ∙ ap length e in omega arith))

    -- children in a loop
    module _ (d : ℕ) (s : List ℕ) (node : ℕ) (b : List Side) (c w : ℕ) where
      abbrev kids : List (List Side)
      kids = children_by f.form b

      abbrev has : List Side → Bool
      has k = holds rules k x

      abbrev enter : ℕ → List Side → Found
      enter p k = find rules d s p k x

      pub look_none : length kids ≤ c → Err (bad_table node) ≡ look_from d s node b c w
      look_none h = sym (among_none has enter (pass_over rules d s) node kids c [] w h)

      module _ (h : c < length kids) (kid : List Side) (q : kid ≡ get_or kids c []) where
        pub look-here : all (fits kid (reading_of f.n x)) ≡ true → find rules d s w kid x ≡ look_from d s node b c w
        look-here e = ap (λ (k : List Side). find rules d s w k x) q ∙ sym (among-here has enter (pass_over rules d s) node kids c [] w [] h (rw q at e))

        module _ (e : all (fits kid (reading_of f.n x)) ≡ false) (bands coef : List ℤ) (v : Walk) (g : v ≡ walk_by false (rules_in f bands coef) d s w kid) where
          came : pass_over rules d s [] w (get_or kids c []) ≡ v
          came =
              pass-untold rules untold d s [] w (get_or kids c [])
              ∙ ap (λ (k : List Side). walk_by false rules d s w k) (sym q)
              ∙ walk_same f.form f.n f.modes f.k f.d (box_of f.n f.root) (box_of f.n f.goal) (box_of f.n f.safe) (step_in f [] []) (step_in f bands coef) (λ _ _. Works) d s w kid
              ∙ sym g

          pub look-more : (m : ℕ) → v ≡ Ok m → look_from d s node b (c + 1) m ≡ look_from d s node b c w
          look-more m u = sym (among-more has enter (pass_over rules d s) node kids c [] w [] m h (rw q at e) (came ∙ u))

          pub look-refused : (r : Refusal) → v ≡ Err r → Err r ≡ look_from d s node b c w
          look-refused r u = sym (among-refused has enter (pass_over rules d s) node kids c [] w [] r h (rw q at e) (came ∙ u))
