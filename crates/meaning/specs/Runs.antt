-- Runs (demand 3; document 01, "The plant and its readings"): started idle on a reading in R, each mode that a call gives is applied, and any reading
-- may come next that the equation and band of that mode allow. Over any kind of state, any calls, any start and any rule of what may follow.
use Rattle.std.specs.Prelude.{ℕ, suc, ◌≡◌, Bool, true}

-- `gives s x u t`: a call in state s on reading x gives mode u and state t
module _ {State Reading : Type 0} (idle : State) (gives : State → Reading → ℕ → State → Type 0) (starts : Reading → Bool) (follows : ℕ → Reading → Reading → Bool) where
  -- the states and readings that a run meets, after any number of samples
  pub data Run : State → Reading → Type 0 where
    start : {x : Reading} → starts x ≡ true → Run idle x
    sample : {s t : State} {x y : Reading} {u : ℕ} → Run s x → gives s x u t → follows u x y ≡ true → Run t y

  -- m samples lead from one state and reading to another
  pub data Samples : ℕ → State → Reading → State → Reading → Type 0 where
    none : {s : State} {x : Reading} → Samples 0 s x s x
    next : {m : ℕ} {s t v : State} {x y z : Reading} {u : ℕ}
        → gives s x u t → follows u x y ≡ true → Samples m t y v z → Samples (suc m) s x v z
