-- A call hangs on neither bands nor coefficients: what the modes of a plant do to boxes is asked by the checker and the maker alone. The walk hangs on it by its
-- judge only, and the controller passes subtrees by the judge that lets every tile be. So a controller can be handed a plant without them. Assumes nothing.
use Prim.Native.Nat.{ℕ, zero, suc}
use Rattle.std.specs.Prelude.{◌≡◌, eqb, length, ℤ, Err}
use Rattle.std.proofs.Math.Path.{refl, ap, fun_ext}
use Rattle.std.proofs.Common.{◌∙◌}
use mathlib.Core.List.{List}
use Rattle.laws.specs.Guards.{guard}
use Rattle.meaning.specs.Answers.{Walk, Found, Answer}
use Rattle.meaning.specs.declared.Tried.{Tried}
use Rattle.meaning.specs.declared.Tried.TheVariants.{Works}
use Rattle.meaning.specs.declared.State.{State}
use Rattle.meaning.specs.Boxes.{Side}
use Rattle.meaning.specs.Control.{tile_found, past_file, unless_past, pass_by, among, on_found, find, inside, state_call, call}
use Rattle.meaning.specs.Images.{Step}
use Rattle.meaning.specs.Refusals.{bad_table, bad_state}
use Rattle.meaning.specs.Rules.{Rules, holds}
use Rattle.meaning.specs.Tables.{children_by, depth_by, rules_from}
use Rattle.meaning.specs.Trees.{tells}
use Rattle.meaning.specs.Verdicts.{on_walk, on_read, on_modes, lengths_by, each, split_at, modes_at, node_at, walk, header}

-- two plants that differ at most in what their modes do
module _ (form n N K D : ℕ) (root goal safe : List Side) (step step' : ℕ → Step) where
  abbrev by : (ℕ → Step) → Rules
  by t = rules_from form n N K D root goal safe t

  -- a walk with the same judge
  pub walk_same : (judge : List Side → List ℕ → Tried) (d : ℕ) (s : List ℕ) (at : ℕ) (b : List Side) → walk (by step) judge d s at b ≡ walk (by step') judge d s at b
  unfolding walk
  walk_same judge zero s at b = refl
  walk_same judge (suc d) s at b = ap node (fun_ext (λ p. fun_ext (λ c. walk_same judge d s p c)))
    where
      node : (ℕ → List Side → Walk) → Walk
      node one = node_at K s at Err
          (λ next. split_at (children_by form b) (Err (bad_table at)) λ cs.
          on_read (lengths_by (tells form) cs s next) Err λ ls first. each one cs ls first)
          (λ k next. on_modes (modes_at N k s next) at (judge b))

  -- the tile that holds a reading
  pub find-same : (d : ℕ) (s : List ℕ) (at : ℕ) (b : List Side) (x : List ℤ) → find (by step) d s at b x ≡ find (by step') d s at b x
  unfolding find
  find-same zero s at b x = refl
  find-same (suc d) s at b x =
      ap (λ (enter : ℕ → List Side → Found). node enter (pass step)) (fun_ext (λ p. fun_ext (λ c. find-same d s p c x)))
      ∙ ap (node (λ p c. find (by step') d s p c x)) (fun_ext (λ p. fun_ext (λ c. walk_same (λ _ _. Works) d s p c)))
    where
      pass : (ℕ → Step) → ℕ → List Side → Walk
      pass t p c = walk (by t) (λ _ _. Works) d s p c

      node : (ℕ → List Side → Found) → (ℕ → List Side → Walk) → Found
      node enter over = node_at K s at Err
          (λ next. split_at (children_by form b) (Err (bad_table at)) λ cs.
          on_read (lengths_by (tells form) cs s next) Err λ ls first.
          unless_past (past_file (length s) ls first) (λ place. Err (bad_table place)) λ _.
          among (λ c. holds (by step) c x) enter (pass_by (tells form) over) at cs ls first)
          (λ k next. tile_found (modes_at N k s next) next k)

  state-same : (s : List ℕ) (at place left : ℕ) (x : List ℤ) → state_call (by step) s at place left x ≡ state_call (by step') s at place left x
  state-same s at place zero x =
      ap (λ (o : Found). guard (eqb place 0) (Err bad_state) λ _. inside (by step) root x λ _. on_found s o) (find-same (depth_by form n D) s at root x)
  state-same s at place (suc m) x = refl

  -- the controller's call
  pub call_same : (s : List ℕ) (st : State) (x : List ℤ) → call (by step) s st x ≡ call (by step') s st x
  unfolding call
  call_same s st x = ap (λ (rest : ℕ → Answer). on_walk (header form n s) Err rest) (fun_ext (λ at. state-same s at st.place st.left x))
