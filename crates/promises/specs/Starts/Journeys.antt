-- The trips of a start file that keeps its rules (document 02, request 2026-03): an idle call on a reading in Ri chooses a box no further out, and its tile
-- makes a trip into the box below, within as many samples as that table's longest pattern. So every run from Ri goes on from trip to trip, and comes, idle,
-- to a reading in R within the longest patterns of tables 1..i together. Relies on page Calls for which table is called, on TableTrips for its trip, and
-- on Trips and Passes for trips behind one another. What is called from R on is page Home.
use Rattle.std.specs.Prelude.{ℕ, zero, suc, ◌+◌, ◌≤◌, ◌<◌, ◌≡◌, refl, Bool, true, false, ◌&&◌, cond, List, length, leb, ℤ}
use Rattle.std.proofs.Common.{sym, ap, subst, ◌∙◌, arith, le-leb}
use Rattle.std.proofs.Math.Decide.{dec_lt}
use Rattle.laws.specs.Pairs.{ok-first, ok-second}
use Rattle.laws.specs.Tests.{never, second, both}
use Rattle.meaning.specs.declared.State.{State}
use Rattle.meaning.specs.declared.StartState.{StartState}
use Rattle.meaning.specs.Control.{idle}
use Rattle.meaning.specs.Plants.{root_of}
use Rattle.meaning.specs.Rules.{holds}
use Rattle.meaning.specs.Starts.{above, chosen, is_idle, start_idle, state_in, in_box, StartCallGives}
use Rattle.meaning.specs.Tables.{form_of, starts_in, safe_in, may_follow}
use Rattle.meaning.specs.Trees.{longest, table_of}
use Rattle.promises.specs.Tables.TableTrips.{Gives, TripOn, table-trips}
use Rattle.promises.specs.Tables.Trips.{Trip, Carried, trip-carried, Repeated, repeated}
use Rattle.promises.specs.Tables.TableForms.{form-known}
use Rattle.promises.specs.Starts.Calls.{rules_at, table_at, holds_at, running, Chose, chose}
use Rattle.promises.specs.Starts.Chains.{held-above, box-sizes, box-splits, box-motion}
use Rattle.promises.specs.Starts.Passes.{Passes, passes-here, passes-behind}
use Rattle.promises.specs.Starts.Reaching.{idle-is, not-idle}
use Rattle.promises.specs.Starts.Started.{Started}
use Rattle.promises.specs.Starts.Trees.{sound, chained, Trees, longest_up_to, longest-step, longest-one}

idle-alone : (c : ℕ) (st : State) → state_in c st ≡ start_idle → st ≡ idle
idle-alone c st = go (is_idle st) refl
  where
    go : (b : Bool) → is_idle st ≡ b → cond b start_idle (record { index = c; state = st }) ≡ start_idle → st ≡ idle
    go true e q = idle-is st e
    go false e q = ap (λ (s : StartState). s.state) q

module _ {plant start : List ℕ} (w : Started plant start) where
  -- ---- boxes, in the words of the runs

  in-box-is : (i : ℕ) (x : List ℤ) → in_box plant start i x ≡ (leb i (above w.vs) && holds_at w i x)
  in-box-is i x = rw (w.judged, w.chain, w.kept) refl

  in-box : (i : ℕ) (x : List ℤ) → i ≤ above w.vs → holds_at w i x ≡ true → in_box plant start i x ≡ true
  in-box i x l h = in-box-is i x ∙ both (le-leb i (above w.vs) l) h

  pub box-held : (i : ℕ) (x : List ℤ) → in_box plant start i x ≡ true → holds_at w i x ≡ true
  box-held i x h = second (leb i (above w.vs)) (holds_at w i x) (sym (in-box-is i x) ∙ h)

  pub starts_is : (x : List ℤ) → starts_in plant x ≡ holds_at w 0 x
  starts_is x = rw w.judged refl

  -- a reading in Ri has a box no further out
  pub record Nearest (i : ℕ) (x : List ℤ) : Type 0 where
    pub c : ℕ
    pub near : c ≤ i
    pub chosen_is : Chose w c x

  pub nearest : (i : ℕ) (x : List ℤ) → i ≤ above w.vs → holds_at w i x ≡ true → Nearest i x
  nearest i x l h =
      let k = chose w x (held-above w.p w.vs (chained w) i (above w.vs) x l (omega arith) h) in
      record { c = chosen w.p.n (root_of w.p) w.vs x; near = near (dec_lt i (chosen w.p.n (root_of w.p) w.vs x)) k; chosen_is = k }
    where
      near : {c : ℕ} → Dec (i < c) → Chose w c x → c ≤ i
      near (yes g) k = let z = k.least i g in never (sym z ∙ h)
      near (no g) k = omega arith

  -- what the box below Rc holds, Ri does
  below-held : (c i : ℕ) → c ≤ i → i ≤ above w.vs → (y : List ℤ) → holds (rules_at w c) (rules_at w c).goal y ≡ true → holds_at w i y ≡ true
  below-held zero i l h y e = held-above w.p w.vs (chained w) 0 i y l h e
  below-held (suc k) i l h y e = held-above w.p w.vs (chained w) k i y (omega arith) h e

  -- ---- the calls of a box's table, carried over to the file

  carried : (goal : List ℤ → Bool) (c : ℕ) → c ≤ above w.vs → ((y : List ℤ) → holds (rules_at w c) (rules_at w c).goal y ≡ true → goal y ≡ true)
      → Carried idle (Gives (rules_at w c) (table_at w c)) (rules_at w c).follows (holds (rules_at w c) (rules_at w c).safe) (holds (rules_at w c) (rules_at w c).goal)
      start_idle (StartCallGives plant start) (may_follow plant) (safe_in plant) goal (state_in c)
  carried goal c l wide = record {
    to-idle = refl;
    idle-alone = idle-alone c;
    calls = λ {st} {x} {u} {then} n g. let e = not-idle st n in rw e (running w c l st e x ∙ rw g refl);
    one = λ a b. (ok-first (sym b ∙ a), ok-second (sym b ∙ a));
    may-follow = λ u x y f. rw w.judged at f;
    in-safe = λ x h. rw w.judged h;
    in-goal = wide;
  }

  -- every run of so many samples from an idle call on a reading meets one on a reading in R, of the runs from Ri
  abbrev Comes : ℕ → ℕ → List ℤ → Type 0
  Comes i = Passes start_idle (StartCallGives plant start) (in_box plant start i) (may_follow plant) (starts_in plant)

  module _ (t : Trees w) where
    -- ---- the trip that an idle call begins

    trip : (goal : List ℤ → Bool) (c : ℕ) (x : List ℤ) → Chose w c x → ((y : List ℤ) → holds (rules_at w c) (rules_at w c).goal y ≡ true → goal y ≡ true)
        → (m : ℕ) × (m ≤ longest (t.tree c)) × Trip start_idle (StartCallGives plant start) (may_follow plant) (safe_in plant) goal m x
    trip goal c x h wide =
        let k = table-trips (rules_at w c) (box-sizes w.p (sound w) w.vs c (form_of (table_at w c)) (form-known (table_at w c))) (box-splits w.p (sound w) w.vs c (form_of (table_at w c))) (box-motion w.p (sound w) w.vs c (form_of (table_at w c)) (chained w) h.few)
        (t.tree c) (t.works c h.few) x h.holds-it in
        let q : table_at w c ≡ table_of (rules_at w c) (t.tree c) = t.is c h.few in
        let m = length k.the.modes in
        (m, k.short, trip-carried (carried goal c h.few wide) m x (λ u then g. h.answers ∙ rw g refl) (subst (λ (s : List ℕ). TripOn (rules_at w c) s m x) (sym q) k.trip))

    -- ---- trips from box to box

    -- from a reading in Rj into R: at once where R holds it, else by a trip to a nearer box
    from-box : (i j : ℕ) → j ≤ above w.vs → (x : List ℤ) → holds_at w j x ≡ true
        → ((k : ℕ) → k < j → (y : List ℤ) → holds_at w k y ≡ true → Comes i (longest_up_to t.tree k) y) → Comes i (longest_up_to t.tree j) x
    from-box i j h x e later = let n = nearest j x h e in go n.c n.near n.chosen_is
      where
        go : (c : ℕ) → c ≤ j → Chose w c x → Comes i (longest_up_to t.tree j) x
        go zero l k = passes-here start_idle (StartCallGives plant start) (in_box plant start i) (may_follow plant) (starts_in plant) (longest_up_to t.tree j) x (starts_is x ∙ k.holds-it)
        go (suc c) l k =
            let r = trip (λ y. holds_at w c y) (suc c) x k (λ y g. g) in
            passes-behind start_idle (StartCallGives plant start) (in_box plant start i) (may_follow plant) (starts_in plant) (safe_in plant) (λ y. holds_at w c y)
            r.0 (longest_up_to t.tree c) (longest_up_to t.tree j) x r.2 (omega (arith, r.1, longest-step t.tree c j l)) (later c l)

    pub passes : (i b j : ℕ) → j ≤ b → j ≤ above w.vs → (x : List ℤ) → holds_at w j x ≡ true → Comes i (longest_up_to t.tree j) x
    passes i zero j l h x e = from-box i j h x e (λ k g. absurd (omega arith))
    passes i (suc b) j l h x e = from-box i j h x e (λ k g y n. passes i b k (omega arith) (omega arith) y n)

    -- ---- every run from Ri

    pub on-and-on : (i : ℕ) → i ≤ above w.vs
        → Repeated start_idle (StartCallGives plant start) (may_follow plant) (safe_in plant) (in_box plant start i) (in_box plant start i) (longest (t.tree 0) + longest_up_to t.tree i)
    on-and-on i l =
        repeated start_idle (StartCallGives plant start) (may_follow plant) (safe_in plant) (in_box plant start i) (in_box plant start i) (λ x h. h) (longest (t.tree 0) + longest_up_to t.tree i)
        (λ x h.
        let n = nearest i x l (box-held i x h) in
        let r = trip (in_box plant start i) n.c x n.chosen_is (λ y g. in-box i y l (below-held n.c i n.near l y g)) in
        (r.0, omega (arith, r.1, longest-one t.tree n.c i n.near), r.2))
