-- Runs that come to a goal (document 02, request 2026-03, "an idle call meets a reading in R within .."): every run of so many samples from an idle call on
-- is, at one of them, idle on a reading in the goal. A reading in the goal where the state is not idle does not count. Over any kind of state, any calls,
-- any rule of what may follow. Relies on page Trips, and assumes nothing; that the calls of a start file make such trips is page Journeys.
use Prim.Native.Nat.{ℕ, zero, suc, ◌+◌, ◌-◌, ◌≤◌}
use Rattle.std.specs.Prelude.{◌≡◌, Bool, true}
use Rattle.std.proofs.Math.Path.{refl}
use Rattle.std.proofs.Common.{sym, ◌∙◌, zero-add}
use native.Mathlib.Omega.{arith}
use Rattle.meaning.specs.Runs.{Run, sample, Samples, none, next}
use Rattle.promises.specs.Tables.Trips.{Trip, travelled}

module _ {State Reading : Type 0} {idle : State} {gives : State → Reading → ℕ → State → Type 0} {starts : Reading → Bool} {follows : ℕ → Reading → Reading → Bool} where
  -- ---- the samples of a run

  -- the state and the reading at a sample, the first call being sample 0; behind the last, the last
  unfoldable pub state_at : {k : ℕ} {st v : State} {x z : Reading} → Samples idle gives starts follows k st x v z → ℕ → State
  state_at {st = st} run zero = st
  state_at {st = st} none (suc j) = st
  state_at (next {m = m} g f rest) (suc j) = state_at {k = m} rest j

  unfoldable pub reading_at : {k : ℕ} {st v : State} {x z : Reading} → Samples idle gives starts follows k st x v z → ℕ → Reading
  reading_at {x = x} run zero = x
  reading_at {x = x} none (suc j) = x
  reading_at (next {m = m} g f rest) (suc j) = reading_at {k = m} rest j

  -- a run cut at a sample: the samples up to it, and the run from there on, which meets what the whole one meets
  pub record Cut {k : ℕ} {st v : State} {x z : Reading} (run : Samples idle gives starts follows k st x v z) (m : ℕ) : Type 0 where
    pub left : ℕ
    pub count : k ≡ m + left
    pub before : Samples idle gives starts follows m st x (state_at run m) (reading_at run m)
    pub behind : Samples idle gives starts follows left (state_at run m) (reading_at run m) v z
    pub states : (j : ℕ) → state_at behind j ≡ state_at run (m + j)
    pub readings : (j : ℕ) → reading_at behind j ≡ reading_at run (m + j)

  pub cut : {k : ℕ} {st v : State} {x z : Reading} (run : Samples idle gives starts follows k st x v z) (m : ℕ) → m ≤ k → Cut run m
  unfolding state_at reading_at
  cut {k = k} run zero l = record { left = k; count = omega arith; before = none; behind = run; states = λ j. rw (zero-add j) refl; readings = λ j. rw (zero-add j) refl }
  cut none (suc m) l = absurd (omega arith)
  cut (next {m = more} g f rest) (suc m) l =
      let c = cut {k = more} rest m (omega arith) in
      record {
        left = c.left;
        count = omega (arith, c.count);
        before = next g f c.before;
        behind = c.behind;
        states = λ j. let e : suc m + j ≡ suc (m + j) = omega arith in rw e (c.states j);
        readings = λ j. let e : suc m + j ≡ suc (m + j) = omega arith in rw e (c.readings j);
      }

  -- samples from where a run stands go on with it
  pub runs_on : {k : ℕ} {st v : State} {x z : Reading} → Run idle gives starts follows st x → Samples idle gives starts follows k st x v z → Run idle gives starts follows v z
  runs_on run none = run
  runs_on run (next g f rest) = runs_on (sample run g f) rest

  -- ---- the goal

  -- at a sample of number at most `most` the run is idle, its reading in the goal
  pub record Passed (goal : Reading → Bool) (most : ℕ) {k : ℕ} {st v : State} {x z : Reading} (run : Samples idle gives starts follows k st x v z) : Type 0 where
    pub number : ℕ
    pub soon : number ≤ most
    pub is-idle : state_at run number ≡ idle
    pub there : goal (reading_at run number) ≡ true

  -- so it has two parts, up to that call and from it on
  pub passed-parts : (goal : Reading → Bool) (most : ℕ) {k : ℕ} {st v : State} {x z : Reading} (run : Samples idle gives starts follows k st x v z) → most ≤ k
      → (p : Passed goal most run) → (y : Reading) × Samples idle gives starts follows p.number st x idle y × (goal y ≡ true) × Samples idle gives starts follows (k - p.number) idle y v z
  passed-parts goal most {k} {st} {v} {x} {z} run l p =
      let c = cut run p.number (omega (arith, p.soon)) in
      of p.number (state_at run p.number) (reading_at run p.number) c.left (omega (arith, c.count)) p.is-idle p.there c.before c.behind
    where
      of : (m : ℕ) (t : State) (y : Reading) (left : ℕ) → k - m ≡ left → t ≡ idle → goal y ≡ true → Samples idle gives starts follows m st x t y
          → Samples idle gives starts follows left t y v z
          → (y : Reading) × Samples idle gives starts follows m st x idle y × (goal y ≡ true) × Samples idle gives starts follows (k - m) idle y v z
      of m t y left e q h a b = (y, rw q at a, h, rw e (rw q at b))

module _ {State Reading : Type 0} (idle : State) (gives : State → Reading → ℕ → State → Type 0) (starts : Reading → Bool) (follows : ℕ → Reading → Reading → Bool)
    (goal : Reading → Bool) where
  -- every run of so many samples does so that begins idle on the reading
  pub record Passes (most : ℕ) (x : Reading) : Type 0 where
    pub passes : {k : ℕ} {st v : State} {z : Reading} → st ≡ idle → (run : Samples idle gives starts follows k st x v z) → most ≤ k → Passed goal most run

  pub passes-here : (most : ℕ) (x : Reading) → goal x ≡ true → Passes most x
  unfolding state_at reading_at
  passes-here most x h = record { passes = λ e run l. record { number = 0; soon = omega arith; is-idle = e; there = h } }

  -- behind a trip to a nearer goal
  pub passes-behind : (safe near : Reading → Bool) (m most all : ℕ) (x : Reading) → Trip idle gives follows safe near m x → m + most ≤ all
      → ((y : Reading) → near y ≡ true → Passes most y) → Passes all x
  passes-behind safe near m most all x t l later = record { passes = λ e run h. go e run h (cut run m (omega arith)) }
    where
      ends : (st v : State) (y : Reading) → st ≡ idle → Samples idle gives starts follows m st x v y → (v ≡ idle) × (near y ≡ true)
      ends st v y e s = let w = (travelled idle gives follows safe near starts m x t).ends (rw e at s) in (w.1, w.2)

      go : {k : ℕ} {st v : State} {z : Reading} → st ≡ idle → (run : Samples idle gives starts follows k st x v z) → all ≤ k → Cut run m → Passed goal all run
      go {st = st} e run h c =
          let w = ends st (state_at run m) (reading_at run m) e c.before in
          let p = (later (reading_at run m) w.1).passes w.0 c.behind (omega (arith, c.count)) in
          let there = p.there in
          record {
            number = m + p.number;
            soon = omega (arith, p.soon);
            is-idle = sym (c.states p.number) ∙ p.is-idle;
            there = rw (c.readings p.number) at there;
          }
