-- A call on a start file that keeps its rules (page Started; document 02, request 2026-03): running, it is the call on the table of the box that the state
-- names; idle, on that of the smallest box that holds the reading; outside Rm it is 11, and an index that cannot be is 12. These are all calls. Relies on
-- pages Accepted and Places for where the tables are, and on Reaching. What the table then answers is left to the pages on tables.
use Rattle.std.specs.Prelude.{ℕ, ◌+◌, ◌≤◌, ◌<◌, ◌≡◌, refl, Bool, true, false, ◌&&◌, ◌||◌, not, List, [], length, get_or, leb, eqb, ℤ, Err}
use Rattle.std.proofs.Common.{sym, ◌∙◌, arith, zero-add}
use borrow.Author.Tests.{le-leb, lt-leb, ne_eqb}
use Rattle.laws.specs.Lists.{tab, all, first_false}
use Rattle.laws.specs.Tabs.{length-tab, get_d-tab, map-tab}
use Rattle.laws.specs.Tests.{never, all-tab}
use Rattle.meaning.specs.declared.State.{State}
use Rattle.meaning.specs.declared.StartState.{StartState}
use Rattle.meaning.specs.Control.{idle, call}
use Rattle.meaning.specs.Plants.{root_of}
use Rattle.meaning.specs.Refusals.{outside, bad_state}
use Rattle.meaning.specs.Rules.{Rules, holds, missed}
use Rattle.meaning.specs.Starts as S
use Rattle.meaning.specs.Starts.{above, box_rules, chosen, part, is_idle, start_idle, answer_in, can_index, start_controlled}
use Rattle.meaning.specs.Tables.{form_of}
use Rattle.promises.specs.Files.Firsts.{FirstOf, first-exactly}
use Rattle.promises.specs.Starts.Accepted.{tables-short, tables-stand}
use Rattle.promises.specs.Starts.Places.{TableAt, place_of, laid}
use Rattle.promises.specs.Starts.Reaching.{box_called, reached}
use Rattle.promises.specs.Starts.Started.{Started}

-- ---- the first of m + 1 tests that holds, the last holding

not-false : (b : Bool) → not b ≡ false → b ≡ true
not-false true e = refl
not-false false e = never (sym e)

not-true : (b : Bool) → not b ≡ true → b ≡ false
not-true true e = never e
not-true false e = refl

or-true : (b : Bool) → (b || true) ≡ true
or-true true = refl
or-true false = refl

and-false : (b : Bool) → (b && false) ≡ false
and-false true = refl
and-false false = refl

module _ (t : ℕ → Bool) (m : ℕ) (last : t m ≡ true) where
  abbrev first_of : ℕ
  first_of = first_false (tab (λ i. not (t i)) (m + 1) 0)

  first-of : FirstOf (λ i. not (t i)) 0 (tab (λ i. i) (m + 1) 0) first_of
  first-of =
      let tests = map-tab (λ i. not (t i)) (λ i. i) (m + 1) 0 in
      (first-exactly (λ i. not (t i)) 0 (tab (λ i. i) (m + 1) 0) first_of).0
      (rw tests (go (all (tab (λ i. not (t i)) (m + 1) 0)) refl), rw tests refl)
    where
      go : (b : Bool) → all (tab (λ i. not (t i)) (m + 1) 0) ≡ b → b ≡ false
      go true e =
          let q = zero-add m in
          let k = not-true (t m) (rw q at (all-tab (λ i. not (t i)) (m + 1) 0 m (omega arith) e)) in
          never (sym k ∙ last)
      go false e = refl

  first-few : first_of ≤ m
  first-few = omega (arith, first-of.inside, length-tab (λ i. i) (m + 1) 0)

  entry : (k : ℕ) → k ≤ m → get_or (tab (λ i. i) (m + 1) 0) k 0 ≡ k
  entry k l = get_d-tab (λ i. i) 0 (m + 1) 0 k (omega arith) ∙ zero-add k

  first_holds : t first_of ≡ true
  first_holds = let e = entry first_of first-few in not-false (t first_of) (rw e at first-of.fails)

  first-least : (j : ℕ) → j < first_of → t j ≡ false
  first-least j l = let e = entry j (omega (arith, first-few)) in not-true (t j) (rw e at (first-of.before j l))

module _ {plant start : List ℕ} (w : Started plant start) where
  -- Ri's table and, by the form that it says, its rules; and the table's place in the file
  abbrev pub table_at : ℕ → List ℕ
  table_at i = get_or w.tables i []

  abbrev pub rules_at : ℕ → Rules
  rules_at i = box_rules w.p w.vs i (form_of (table_at i))

  abbrev pub first_at : ℕ → ℕ
  first_at i = place_of w.tables w.next i

  -- whether Ri holds a reading
  abbrev pub holds_at : ℕ → List ℤ → Bool
  holds_at i x = holds (rules_at i) (rules_at i).root x

  -- The lengths lead to each table.
  pub record Lies (i : ℕ) : Type 0 where
    pub there : TableAt start i w.next (first_at i) (length (table_at i))
    pub is : part start (first_at i) (length (table_at i)) ≡ table_at i

  pub lies : (i : ℕ) → i ≤ above w.vs → Lies i
  lies i l =
      let t = laid w.tables start i w.next (tables-short plant start w) (tables-stand plant start w) (omega (arith, w.count)) in
      record { there = t.0; is = t.1 }

  -- a call that comes to Ri's table
  comes : (s : StartState) (x : List ℤ) (i : ℕ) → i ≤ above w.vs → box_called w.p w.vs s x ≡ i
      → can_index w.p w.vs start w.next s.index s.state ≡ true → (is_idle s.state ≡ true → holds_at (above w.vs) x ≡ true)
      → start_controlled plant start s x ≡ answer_in i (first_at i) (call (rules_at i) (table_at i) s.state x)
  comes s x i l e index inside =
      let t = lies i l in
      let h = reached plant start s x (record {
        p = w.p;
        judged = w.judged;
        vs = w.vs;
        next = w.next;
        chain = w.chain;
        kept = w.kept;
        index = index;
        inside = inside;
        place = first_at i;
        size = length (table_at i);
        there = rw e t.there;
      }) in
      rw (e, t.is) at h

  -- ---- running

  pub running : (i : ℕ) → i ≤ above w.vs → (st : State) → is_idle st ≡ false → (x : List ℤ)
      → start_controlled plant start (record { index = i; state = st }) x ≡ answer_in i (first_at i) (call (rules_at i) (table_at i) st x)
  running i l st e x =
      comes (record { index = i; state = st }) x i l (rw e refl) (simp (le-leb i (above w.vs) l, e, or-true (eqb i 0))) (λ q. never (sym e ∙ q))

  -- ---- idle

  -- Box c is the smallest that holds the reading, of equal ones that of the lowest index, and its table is called.
  pub record Chose (c : ℕ) (x : List ℤ) : Type 0 where
    pub few : c ≤ above w.vs
    pub holds-it : holds_at c x ≡ true
    pub least : (j : ℕ) → j < c → holds_at j x ≡ false
    pub answers : start_controlled plant start start_idle x ≡ answer_in c (first_at c) (call (rules_at c) (table_at c) idle x)

  pub chose : (x : List ℤ) → holds_at (above w.vs) x ≡ true → Chose (chosen w.p.n (root_of w.p) w.vs x) x
  chose x h =
      let m = above w.vs in
      let c = chosen w.p.n (root_of w.p) w.vs x in
      let few = first-few (λ i. holds_at i x) m h in
      record {
        few = few;
        holds-it = first_holds (λ i. holds_at i x) m h;
        least = first-least (λ i. holds_at i x) m h;
        answers = comes start_idle x c few refl (simp (le-leb 0 m (omega arith))) (λ _. h);
      }

  -- 11: the reading is outside Rm, and so outside every box
  pub outside-last : (x : List ℤ) → holds_at (above w.vs) x ≡ false
      → start_controlled plant start start_idle x ≡ Err (outside (missed (rules_at (above w.vs)) (rules_at (above w.vs)).root x))
  unfolding S.start_controlled
  outside-last x h = simp (w.judged, w.chain, w.kept, le-leb 0 (above w.vs) (omega arith), h)

  -- ---- 12: an index that cannot be

  pub index-over : (i : ℕ) → above w.vs < i → (st : State) (x : List ℤ) → start_controlled plant start (record { index = i; state = st }) x ≡ Err bad_state
  unfolding S.start_controlled
  index-over i l st x = simp (w.judged, w.chain, w.kept, lt-leb i (above w.vs) l)

  pub index-idle : (i : ℕ) → 1 ≤ i → (x : List ℤ) → start_controlled plant start (record { index = i; state = idle }) x ≡ Err bad_state
  unfolding S.start_controlled
  index-idle i l x = simp (w.judged, w.chain, w.kept, ne_eqb i 0 (λ e. absurd (omega arith)), and-false (leb i (above w.vs)))
