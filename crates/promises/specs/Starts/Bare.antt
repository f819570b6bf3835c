-- Start files with m 0 (document 02, request 2026-03, "With m 0, a controller's answers on an accepted file are .. as today"): every call with index 0 is
-- answered as the table alone answers it, refusals and their places too, since of an accepted table only 11 and 12 are told, whose places are no bytes; every
-- other index is 12. And of any m: what a call on an accepted table may be told. Relies on page Calls, on Finds for that an idle call in the box is answered.
use Rattle.std.specs.Prelude.{ℕ, zero, suc, ◌+◌, ◌≤◌, ◌≡◌, refl, Bool, cond, eqb, ℤ, Some, None, Ok, Err}
use Rattle.std.proofs.Math.Path.{sym}
use Rattle.std.proofs.Common.{ap, ◌∙◌, arith, zero-add}
use Rattle.std.proofs.Math.Bool.{true, false}
use mathlib.Core.List.{List, [], append-nil}
use Rattle.laws.specs.Guards.{guard}
use Rattle.meaning.specs.Answers.{Number, Answer, StartAnswer}
use Rattle.meaning.specs.declared.State.{State}
use Rattle.meaning.specs.declared.StartState.{StartState}
use Rattle.meaning.specs.Control as C
use Rattle.meaning.specs.Control.{idle, call, can_run, state_call, state_at, on_found, find}
use Rattle.meaning.specs.Numbers.{number_at}
use Rattle.meaning.specs.Plants.{root_of}
use Rattle.meaning.specs.Refusals.{refusal, outside, bad_state, at_byte}
use Rattle.meaning.specs.Rules.{Rules, rule, holds, missed}
use Rattle.meaning.specs.Starts.{above, chosen, is_idle, start_idle, answer_in, start_controlled}
use Rattle.meaning.specs.Tables.{form_of, controlled}
use Rattle.meaning.specs.Trees.{table_of}
use Rattle.meaning.specs.Verdicts.{on_number, header, verdict}
use Rattle.promises.specs.Tables.Accept.{accepted-exactly}
use Rattle.promises.specs.Tables.Finds.{call-finds}
use Rattle.promises.specs.Tables.Laws.{Sizes, Splits}
use Rattle.promises.specs.Tables.Layouts.{headed, table-header}
use Rattle.promises.specs.Tables.PlantRules.{controlled-as}
use Rattle.promises.specs.Tables.Shapes.{Good}
use Rattle.promises.specs.Tables.TableForms.{form-known}
use Rattle.promises.specs.Starts.Calls.{rules_at, table_at, first_at, holds_at, running, Chose, chose, outside-last, index-over}
use Rattle.promises.specs.Starts.Chains.{box-sizes, box-splits}
use Rattle.promises.specs.Starts.Reaching.{idle-is}
use Rattle.promises.specs.Starts.Started.{Started}
use Rattle.promises.specs.Starts.Trees.{sound}

-- ---- what is told of a call on an accepted table

-- a mode, 11 or 12
pub data Plain : Answer → Type 0 where
  mode : (u : ℕ) (then : State) → Plain (Ok (u, then))
  eleven : (k : ℕ) → Plain (Err (outside k))
  twelve : Plain (Err bad_state)

module _ (r : Rules) (sizes : Sizes r) (splits : Splits r) (s : List ℕ) (a : verdict r s ≡ Ok tt) (x : r.Reading) where
  -- the header is passed
  head : header r.form r.n s ≡ Ok (headed r.form r.n)
  head = let t = (accepted-exactly r sizes s).0 a in table-header r sizes s [] t.0 (t.2 ∙ sym (append-nil (table_of r t.0)))

  pub idle-outside : holds r r.root x ≡ false → call r s idle x ≡ Err (outside (missed r r.root x))
  unfolding C.call
  idle-outside h = simp (head, h)

  -- in the box a tile is found, and its first mode answered
  idle-inside : holds r r.root x ≡ true → Plain (on_found s (find r r.D s (headed r.form r.n) r.root x))
  unfolding C.call
  idle-inside h =
      let t = (accepted-exactly r sizes s).0 a in
      let e = call-finds r sizes splits (Good r (rule r)) (λ b us g. g.shape) s [] t.0 (t.2 ∙ sym (append-nil (table_of r t.0))) t.1 x h in
      let q = rw (head, h) at e in
      rw q (mode _ _)

  pub accepted-plain : (st : State) → Plain (call r s st x)
  unfolding C.call
  accepted-plain st = rw head (go st.place st.left)
    where
      idling : (b h : Bool) → holds r r.root x ≡ h
          → Plain (guard b (Err bad_state) λ _. guard h (Err (outside (missed r r.root x))) λ _. on_found s (find r r.D s (headed r.form r.n) r.root x))
      idling false h e = twelve
      idling true false e = eleven (missed r r.root x)
      idling true true e = idle-inside e

      runs : (b h : Bool) (place m : ℕ) (v : Number) → Plain (guard b (Err bad_state) λ _. guard h (Err (outside (missed r r.safe x))) λ _.
          on_number v (Err bad_state) λ u next. Ok (u, state_at next m))
      runs false h place m v = twelve
      runs true false place m v = eleven (missed r r.safe x)
      runs true true place m None = twelve
      runs true true place m (Some (u, next)) = mode u (state_at next m)

      go : (place left : ℕ) → Plain (state_call r s (headed r.form r.n) place left x)
      go place zero = idling (eqb place 0) (holds r r.root x) refl
      go place (suc m) = runs (can_run r.K r.N s place (suc m)) (holds r r.safe x) place m (number_at s place)

-- no place of these is a byte
unmoved : (i place : ℕ) (a : Answer) → Plain a → answer_in i place a ≡ answer_in i 0 a
unmoved i place a (mode u then) = refl
unmoved i place a (eleven k) = refl
unmoved i place a twelve = refl

-- ---- m 0

-- a table's answer as the file's: index 0 in front of its state, a refusal as it is
abbrev pub bare_answer : Answer → StartAnswer
bare_answer (Err e) = Err e
bare_answer (Ok (u, st)) = Ok (u, record { index = 0; state = st })

pub answer-bare : (a : Answer) → answer_in 0 0 a ≡ bare_answer a
answer-bare (Ok (u, st)) = ap (λ (s : StartState). Ok (u, s)) (go (is_idle st) refl)
  where
    go : (b : Bool) → is_idle st ≡ b → cond b start_idle (record { index = 0; state = st }) ≡ record { index = 0; state = st }
    go true e = rw (idle-is st e) refl
    go false e = refl
answer-bare (Err e) = go (at_byte e.number)
  where
    go : (b : Bool) → ◌≡◌ {A = StartAnswer} (Err (cond b (refusal e.number (0 + e.place) e.step) e)) (Err e)
    go true = let q : 0 + e.place ≡ e.place = zero-add e.place in rw q refl
    go false = refl

module _ {plant start : List ℕ} (w : Started plant start) (alone : above w.vs ≡ 0) where
  plain : (st : State) (x : List ℤ) → Plain (call (rules_at w 0) (table_at w 0) st x)
  plain st x =
      accepted-plain (rules_at w 0) (box-sizes w.p (sound w) w.vs 0 (form_of (table_at w 0)) (form-known (table_at w 0))) (box-splits w.p (sound w) w.vs 0 (form_of (table_at w 0))) (table_at w 0) (w.each 0 (omega (arith, w.count))) x st

  idle-bare : (x : List ℤ) → start_controlled plant start start_idle x ≡ answer_in 0 0 (call (rules_at w 0) (table_at w 0) idle x)
  idle-bare x = go (holds_at w 0 x) refl
    where
      go : (b : Bool) → holds_at w 0 x ≡ b → start_controlled plant start start_idle x ≡ answer_in 0 0 (call (rules_at w 0) (table_at w 0) idle x)
      go true e =
          let c = chose w x (rw alone e) in
          let z : chosen w.p.n (root_of w.p) w.vs x ≡ 0 = omega (arith, c.few) in
          let k : Chose w 0 x = rw z at c in
          k.answers ∙ unmoved 0 (first_at w 0) (call (rules_at w 0) (table_at w 0) idle x) (plain idle x)
      go false e =
          outside-last w x (rw alone e)
          ∙ rw (idle-outside (rules_at w 0) (box-sizes w.p (sound w) w.vs 0 (form_of (table_at w 0)) (form-known (table_at w 0))) (box-splits w.p (sound w) w.vs 0 (form_of (table_at w 0))) (table_at w 0) (w.each 0 (omega (arith, w.count))) x e, alone) refl

  pub bare : (st : State) (x : List ℤ) → start_controlled plant start (record { index = 0; state = st }) x ≡ answer_in 0 0 (controlled plant (table_at w 0) st x)
  bare st x = rw (controlled-as plant w.p w.judged (table_at w 0) st x) (go (is_idle st) refl)
    where
      go : (b : Bool) → is_idle st ≡ b → start_controlled plant start (record { index = 0; state = st }) x ≡ answer_in 0 0 (call (rules_at w 0) (table_at w 0) st x)
      go true e = rw (idle-is st e) (idle-bare x)
      go false e = running w 0 (omega arith) st e x ∙ unmoved 0 (first_at w 0) (call (rules_at w 0) (table_at w 0) st x) (plain st x)

  -- the same, by its parts
  pub bare-is : (st : State) (x : List ℤ) → start_controlled plant start (record { index = 0; state = st }) x ≡ bare_answer (controlled plant (table_at w 0) st x)
  bare-is st x = bare st x ∙ answer-bare (controlled plant (table_at w 0) st x)

  -- and nothing but a mode, 11 or 12 is answered
  pub bare-plain : (st : State) (x : List ℤ) → Plain (controlled plant (table_at w 0) st x)
  bare-plain st x = rw (controlled-as plant w.p w.judged (table_at w 0) st x) (plain st x)

  pub other-index : (i : ℕ) → 1 ≤ i → (st : State) (x : List ℤ) → start_controlled plant start (record { index = i; state = st }) x ≡ Err bad_state
  other-index i l st x = index-over w i (omega arith) st x
