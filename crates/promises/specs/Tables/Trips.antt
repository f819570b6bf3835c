-- Trips (demand 3): from an idle call on, so many samples, in each of which the call is answered and the reading lies in S, to the next idle call, on a
-- reading in the goal. And trips repeated, where one begins on every reading in the goal: what demand 3 says of runs of any length. Over any kind of state,
-- any calls, any rule of what may follow; and trips of one controller as trips of another that calls it. Assumes nothing; that a table's calls make trips
-- is page TableTrips.
use Prim.Native.Nat.{ℕ, zero, suc, ◌-◌, ◌≤◌, ◌<◌}
use Rattle.std.specs.Prelude.{◌≡◌, Bool, true}
use Rattle.std.proofs.Math.Path.{refl}
use native.Mathlib.Omega.{arith}
use Rattle.meaning.specs.Runs.{Run, start, sample, Samples, none, next}

module _ {State Reading : Type 0} (idle : State) (gives : State → Reading → ℕ → State → Type 0) (follows : ℕ → Reading → Reading → Bool) where
  -- a call is answered: it gives some mode and the next state
  abbrev pub Answered : State → Reading → Type 0
  Answered st x = (u : ℕ) × (then : State) × gives st x u then

  -- a sample: a call is answered, and whatever it gives and whatever reading may follow is as P says
  pub record Sampled (P : State → Reading → Type 0) (st : State) (x : Reading) : Type 0 where
    pub told : Answered st x
    pub leads : {u : ℕ} {then : State} {y : Reading} → gives st x u then → follows u x y ≡ true → P then y

  module _ (safe goal : Reading → Bool) where
    -- so many samples to go: all readings are in S, no state is idle before the end, and there it is, on a reading in the goal
    unfoldable pub ToGo : ℕ → State → Reading → Type 0
    ToGo zero st x = (safe x ≡ true) × (st ≡ idle) × (goal x ≡ true)
    ToGo (suc m) st x = (safe x ≡ true) × (st ≡ idle → ⊥) × Sampled (ToGo m) st x

    -- a trip of so many samples, one at least: it begins idle
    abbrev pub Trip : ℕ → Reading → Type 0
    Trip zero x = ⊥
    Trip (suc m) x = (safe x ≡ true) × Sampled (ToGo m) idle x

    module _ (starts : Reading → Bool) where
      -- so many samples lead from one state and reading to another
      abbrev pub Leads : ℕ → State → Reading → State → Reading → Type 0
      Leads = Samples idle gives starts follows

      -- a trip of m samples, by what they lead to
      pub record Travelled (m : ℕ) (x : Reading) : Type 0 where
        pub some : 1 ≤ m
        -- while there are fewer, the reading lies in S, the call is answered, and only the first is idle
        pub during : {i : ℕ} {st : State} {y : Reading} → Leads i idle x st y → i < m
            → (safe y ≡ true) × (1 ≤ i → st ≡ idle → ⊥) × Answered st y
        -- after just m, whatever readings came, it is idle again, the reading in S and in the goal
        pub ends : {st : State} {y : Reading} → Leads m idle x st y → (safe y ≡ true) × (st ≡ idle) × (goal y ≡ true)

      after : {i : ℕ} {st v : State} {x z : Reading} → Leads i st x v z → (m : ℕ) → i ≤ m → ToGo m st x → ToGo (m - i) v z
      unfolding ToGo
      after none m l h = let e : m - 0 ≡ m = omega arith in rw e h
      after (next {m = i} g f rest) zero l h = absurd (omega arith)
      after (next {m = i} g f rest) (suc m) l h = let e : suc m - suc i ≡ m - i = omega arith in rw e (after rest m (omega arith) (h.2.leads g f))

      pub travelled : (m : ℕ) (x : Reading) → Trip m x → Travelled m x
      unfolding ToGo
      travelled zero x t = absurd t
      travelled (suc m) x t = record { some = omega arith; during = during; ends = λ k. ends k refl }
        where
          going : (k : ℕ) {st : State} {y : Reading} → 1 ≤ k → ToGo k st y → (safe y ≡ true) × (st ≡ idle → ⊥) × Answered st y
          going zero l h = absurd (omega arith)
          going (suc k) l h = (h.0, h.1, h.2.told)

          during : {i : ℕ} {st : State} {y : Reading} → Leads i idle x st y → i < suc m
              → (safe y ≡ true) × (1 ≤ i → st ≡ idle → ⊥) × Answered st y
          during none l = (t.0, λ k. absurd (omega arith), t.1.told)
          during (next {m = i} g f rest) l = let h = going (m - i) (omega arith) (after rest m (omega arith) (t.1.leads g f)) in (h.0, λ k. h.1, h.2)

          ends : {i : ℕ} {st : State} {y : Reading} → Leads i idle x st y → i ≡ suc m → (safe y ≡ true) × (st ≡ idle) × (goal y ≡ true)
          ends none e = absurd (omega arith)
          ends (next {m = i} g f rest) e = let q : m - i ≡ 0 = omega arith in rw q at (after rest m (omega arith) (t.1.leads g f))

      -- ---- trips repeated, `starts` the readings on which they begin

      -- where a run stands: idle where a trip begins, or with some samples to go
      pub data OnTheWay : State → Reading → Type 0 where
        begins : {x : Reading} → starts x ≡ true → OnTheWay idle x
        under-way : {st : State} {x : Reading} (m : ℕ) → ToGo (suc m) st x → OnTheWay st x

      -- idle again, the reading in the goal, and so where a trip begins
      pub record Home (st : State) (y : Reading) : Type 0 where
        pub again : st ≡ idle
        pub in-goal : goal y ≡ true
        pub in-root : starts y ≡ true

      -- of every run, of any length
      pub record Repeated (most : ℕ) : Type 0 where
        -- no call is refused
        pub answered : {st : State} {x : Reading} → Run idle gives starts follows st x → Answered st x
        -- every reading lies in S, and a trip begins on it where the state is idle
        pub in-safe : {st : State} {x : Reading} → Run idle gives starts follows st x → safe x ≡ true
        pub in-root : {x : Reading} → Run idle gives starts follows idle x → starts x ≡ true
        -- From each idle call on there is a number of samples, at most `most`, after which it is home whatever readings came.
        pub returns : {x : Reading} → Run idle gives starts follows idle x → (m : ℕ) × (1 ≤ m) × (m ≤ most) × ((st : State) (y : Reading) → Leads m idle x st y → Home st y)

      module _ (home : (x : Reading) → goal x ≡ true → starts x ≡ true) (most : ℕ) (trips : (x : Reading) → starts x ≡ true → (m : ℕ) × (m ≤ most) × Trip m x) where
        on : (m : ℕ) (st : State) (x : Reading) → ToGo m st x → OnTheWay st x
        unfolding ToGo
        on zero st x h = let e : st ≡ idle = h.1 in rw e (begins (home x h.2))
        on (suc m) st x h = under-way m h

        -- on the way the reading is in S, the call is answered, and whatever may follow is on the way
        pub goes : {st : State} {x : Reading} → OnTheWay st x → (safe x ≡ true) × Sampled OnTheWay st x
        unfolding ToGo
        goes (begins {x = x} h) = let w = trips x h in of w.0 w.2
          where
            of : (m : ℕ) → Trip m x → (safe x ≡ true) × Sampled OnTheWay idle x
            of zero t = absurd t
            of (suc m) t = (t.0, record { told = t.1.told; leads = λ {u} {then} {y} g f. on m then y (t.1.leads g f) })
        goes (under-way m h) = (h.0, record { told = h.2.told; leads = λ {u} {then} {y} g f. on m then y (h.2.leads g f) })

        run-goes : {st : State} {x : Reading} → Run idle gives starts follows st x → OnTheWay st x
        run-goes (start h) = begins h
        run-goes (sample run g f) = (goes (run-goes run)).1.leads g f

        idle-begins : {st : State} {x : Reading} → OnTheWay st x → st ≡ idle → starts x ≡ true
        unfolding ToGo
        idle-begins (begins h) e = h
        idle-begins (under-way m h) e = absurd (h.1 e)

        pub repeated : Repeated most
        repeated = record {
          answered = λ run. (goes (run-goes run)).1.told;
          in-safe = λ run. (goes (run-goes run)).0;
          in-root = λ run. idle-begins (run-goes run) refl;
          returns = λ {x} run.
              let w = trips x (idle-begins (run-goes run) refl) in
              let t = travelled w.0 x w.2 in
              (w.0, t.some, w.1, λ st y k. let e = t.ends k in record { again = e.1; in-goal = e.2; in-root = home y e.2 });
        }

-- ---- trips of one controller carried over to another

-- Each state of the first is one of the second, idle alone idle; each call of the first on the way, not idle, is one of the second, whose answers are
-- functional; what may follow in the second may in the first; S and the goal of the second hold what those of the first do.
pub record Carried {State State' Reading : Type 0}
    (idle : State) (gives : State → Reading → ℕ → State → Type 0) (follows : ℕ → Reading → Reading → Bool) (safe goal : Reading → Bool)
    (idle' : State') (gives' : State' → Reading → ℕ → State' → Type 0) (follows' : ℕ → Reading → Reading → Bool) (safe' goal' : Reading → Bool)
    (to : State → State') : Type 0 where
  pub to-idle : to idle ≡ idle'
  pub idle-alone : (st : State) → to st ≡ idle' → st ≡ idle
  pub calls : {st : State} {x : Reading} {u : ℕ} {then : State} → (st ≡ idle → ⊥) → gives st x u then → gives' (to st) x u (to then)
  pub one : {st : State'} {x : Reading} {u v : ℕ} {then next : State'} → gives' st x u then → gives' st x v next → (v ≡ u) × (next ≡ then)
  pub may-follow : (u : ℕ) (x y : Reading) → follows' u x y ≡ true → follows u x y ≡ true
  pub in-safe : (x : Reading) → safe x ≡ true → safe' x ≡ true
  pub in-goal : (x : Reading) → goal x ≡ true → goal' x ≡ true

module _ {State State' Reading : Type 0}
    {idle : State} {gives : State → Reading → ℕ → State → Type 0} {follows : ℕ → Reading → Reading → Bool} {safe goal : Reading → Bool}
    {idle' : State'} {gives' : State' → Reading → ℕ → State' → Type 0} {follows' : ℕ → Reading → Reading → Bool} {safe' goal' : Reading → Bool}
    {to : State → State'} (c : Carried idle gives follows safe goal idle' gives' follows' safe' goal' to) where
  -- a sample whose call is carried over
  sample-carried : {P : State → Reading → Type 0} {Q : State' → Reading → Type 0} {st : State} {at : State'} {x : Reading}
      → ((u : ℕ) (then : State) → gives st x u then → gives' at x u (to then)) → ((then : State) (y : Reading) → P then y → Q (to then) y)
      → Sampled idle gives follows P st x → Sampled idle' gives' follows' Q at x
  sample-carried {x = x} call later s =
      let t = s.told in
      let mine = call t.0 t.1 t.2 in
      record {
        told = (t.0, to t.1, mine);
        leads = λ {u} {then} {y} g f.
            let e = c.one mine g in
            let a : u ≡ t.0 = e.0 in
            let b : then ≡ to t.1 = e.1 in
            rw b (later t.1 y (s.leads t.2 (c.may-follow t.0 x y (rw a at f))));
      }

  to-go-carried : (m : ℕ) (st : State) (x : Reading) → ToGo idle gives follows safe goal m st x → ToGo idle' gives' follows' safe' goal' m (to st) x
  unfolding ToGo
  to-go-carried zero st x h = let e : st ≡ idle = h.1 in (c.in-safe x h.0, rw e c.to-idle, c.in-goal x h.2)
  to-go-carried (suc m) st x h = (
    c.in-safe x h.0,
    λ e. h.1 (c.idle-alone st e),
    sample-carried (λ u then. c.calls h.1) (λ then y. to-go-carried m then y) h.2,
  )

  -- the first call, idle, is asked for by itself
  pub trip-carried : (m : ℕ) (x : Reading) → ((u : ℕ) (then : State) → gives idle x u then → gives' idle' x u (to then))
      → Trip idle gives follows safe goal m x → Trip idle' gives' follows' safe' goal' m x
  trip-carried zero x first t = absurd t
  trip-carried (suc m) x first t = (c.in-safe x t.0, sample-carried first (λ then y. to-go-carried m then y) t.1)
