-- What a call on a start file passes before it comes to a table (document 02, request 2026-03, "Controller"): plant, chain, 15, the index, 11 where it is
-- idle, the lengths up to that table. Of every file, kept or not: a call that passes them is the call on that table within its length, and one that is
-- answered by a mode has passed them; so that mode is one of the plant. Relies on pages Before, Places and Modes. What is told where one is not passed is the
-- definition.
use Rattle.std.specs.Prelude.{ℕ, ◌≡◌, Bool, cond, eqb, ℤ, Ok, Err}
use Rattle.std.proofs.Math.Path.{refl}
use Rattle.std.proofs.Common.{sym, ap, ◌∙◌, eqb-true, lt-ltb}
use Rattle.std.proofs.Math.Bool.{true, false}
use mathlib.Core.List.{List}
use Rattle.laws.specs.Pairs.{ok-first, ok-second}
use Rattle.laws.specs.Guards.{choose}
use Rattle.laws.specs.Lists.{tab, all}
use Rattle.laws.specs.Tests.{never, guard_passed, first, second}
use Rattle.meaning.specs.Answers.{Answer, StartAnswer}
use Rattle.meaning.specs.declared.Refusal.{Refusal}
use Rattle.meaning.specs.declared.State.{State}
use Rattle.meaning.specs.declared.StartState.{StartState}
use Rattle.meaning.specs.Control.{idle, call}
use Rattle.meaning.specs.Files.{read, values_at, good}
use Rattle.meaning.specs.Plants.{Plant, plant_judged, root_of, safe_of}
use Rattle.meaning.specs.Rules.{Rules, holds}
use Rattle.meaning.specs.Starts as S
use Rattle.meaning.specs.Starts.{chain_form, above, box_at, held, chosen, on_start, box_rules, part, is_idle, state_in, answer_in, call_in, chosen_call, can_index, start_call, start_controlled}
use Rattle.meaning.specs.Tables.{form_of}
use Rattle.promises.specs.Files.Judged.{judged-sound}
use Rattle.promises.specs.Tables.Modes.{is_mode, call_below}
use Rattle.promises.specs.Tables.TableForms.{form-known}
use Rattle.promises.specs.Starts.Before.{plant-went, chain-went}
use Rattle.promises.specs.Starts.Chains.{box-sizes}
use Rattle.promises.specs.Starts.Places.{TableAt, on-part, part-went}

-- ---- idle states

pub idle-is : (st : State) → is_idle st ≡ true → st ≡ idle
idle-is st e =
    let a : st.place ≡ 0 = eqb-true st.place 0 (first (eqb st.place 0) (eqb st.left 0) e) in
    let b : st.left ≡ 0 = eqb-true st.left 0 (second (eqb st.place 0) (eqb st.left 0) e) in
    ap (λ (k : ℕ). record { place = k; left = st.left }) a ∙ ap (λ (k : ℕ). record { place = 0; left = k }) b

pub not-idle : (st : State) → (st ≡ idle → ⊥) → is_idle st ≡ false
not-idle st n = go (is_idle st) refl
  where
    go : (b : Bool) → is_idle st ≡ b → b ≡ false
    go true e = absurd (n (idle-is st e))
    go false e = refl

-- ---- answers

pub refused-start : {e : Refusal} {u : ℕ} {then : StartState} → ◌≡◌ {A = StartAnswer} (Err e) (Ok (u, then)) → ⊥
refused-start q = never cc

-- a mode that a table's answer gives is its own
pub answer-was : {u : ℕ} {then : StartState} (i place : ℕ) (a : Answer) → answer_in i place a ≡ Ok (u, then)
    → (next : State) × (a ≡ Ok (u, next)) × (then ≡ state_in i next)
answer-was i place (Err e) q = absurd (refused-start q)
answer-was i place (Ok (v, next)) q = let a = ok-first q in let b = ok-second q in (next, rw a refl, sym b)

-- ---- the way to a table

-- the box whose table is called: idle, the chosen one; running, that of the state's index
abbrev pub box_called : Plant → List ℤ → StartState → List ℤ → ℕ
box_called p vs st x = cond (is_idle st.state) (chosen p.n (root_of p) vs x) st.index

module _ (plant start : List ℕ) (st : StartState) (x : List ℤ) where
  pub record Reaching : Type 0 where
    pub p : Plant
    pub judged : plant_judged plant ≡ good p
    pub vs : List ℤ
    pub next : ℕ
    pub chain : values_at (chain_form p.n) start 0 ≡ read vs next
    pub kept : all (tab (held p.n (root_of p) vs (safe_of p)) (above vs) 0) ≡ true
    pub index : can_index p vs start next st.index st.state ≡ true
    pub inside : is_idle st.state ≡ true → holds (box_rules p vs (above vs) 1) (box_at p.n (root_of p) vs (above vs)) x ≡ true
    -- where the table is, and how many bytes it has
    pub place : ℕ
    pub size : ℕ
    pub there : TableAt start (box_called p vs st x) next place size

-- the box whose table is called, its rules, and the table's bytes
module _ {plant start : List ℕ} {st : StartState} {x : List ℤ} (r : Reaching plant start st x) where
  abbrev pub box_on : ℕ
  box_on = box_called r.p r.vs st x

  abbrev pub table_on : List ℕ
  table_on = part start r.place r.size

  -- by the form that the table says
  abbrev pub rules_on : Rules
  rules_on = box_rules r.p r.vs box_on (form_of table_on)

module _ (plant start : List ℕ) (st : StartState) (x : List ℤ) where
  -- it is the call on that table
  pub reached : (r : Reaching plant start st x) → start_controlled plant start st x ≡ answer_in (box_on r) r.place (call (rules_on r) (table_on r) st.state x)
  unfolding S.start_controlled
  reached r = rw (r.judged, r.chain, r.kept, r.index) (go (is_idle st.state) refl r.inside r.there)
    where
      go : (b : Bool) → is_idle st.state ≡ b → (b ≡ true → holds (box_rules r.p r.vs (above r.vs) 1) (box_at r.p.n (root_of r.p) r.vs (above r.vs)) x ≡ true)
          → TableAt start (cond b (chosen r.p.n (root_of r.p) r.vs x) st.index) r.next r.place r.size
          → choose b (λ _. chosen_call r.p r.vs start r.next x) (λ _. call_in r.p r.vs start r.next st.index st.state x)
          ≡ answer_in (cond b (chosen r.p.n (root_of r.p) r.vs x) st.index) r.place (call (box_rules r.p r.vs (cond b (chosen r.p.n (root_of r.p) r.vs x) st.index) (form_of (part start r.place r.size))) (part start r.place r.size) st.state x)
      go true e inside there = rw (inside refl, idle-is st.state e) (on-part start Err _ there)
      go false e inside there = on-part start Err _ there

  -- and one that is answered is such a call
  pub answered-reaching : {u : ℕ} {then : StartState} → start_controlled plant start st x ≡ Ok (u, then) → Reaching plant start st x
  unfolding S.start_controlled
  answered-reaching {u} {then} e =
      let a = plant-went Err (λ _. refused-start) (plant_judged plant) (λ p. on_start p start Err λ vs next. start_call p vs start next st x) e in
      let p = a.0 in
      let b = chain-went Err (λ _. refused-start) p.n (root_of p) (safe_of p) (values_at (chain_form p.n) start 0) (λ vs next. start_call p vs start next st x) a.2 in
      of p a.1 b.0 b.1 b.2 b.3 b.4
    where
      way : (p : Plant) (vs : List ℤ) (next : ℕ) (b : Bool)
          → choose b (λ _. chosen_call p vs start next x) (λ _. call_in p vs start next st.index st.state x) ≡ Ok (u, then)
          → (b ≡ true → holds (box_rules p vs (above vs) 1) (box_at p.n (root_of p) vs (above vs)) x ≡ true)
          × (place size : ℕ) × TableAt start (cond b (chosen p.n (root_of p) vs x) st.index) next place size
      way p vs next true e =
          let g = guard_passed (holds (box_rules p vs (above vs) 1) (box_at p.n (root_of p) vs (above vs)) x) _ refused-start e in
          let t = part-went start Err (λ _. refused-start) (chosen p.n (root_of p) vs x) next _ g.1 in
          (λ _. g.0, t.0, t.1, t.2)
      way p vs next false e =
          let t = part-went start Err (λ _. refused-start) st.index next _ e in
          (λ q. never q, t.0, t.1, t.2)

      of : (p : Plant) → plant_judged plant ≡ good p → (vs : List ℤ) (next : ℕ) → values_at (chain_form p.n) start 0 ≡ read vs next
          → all (tab (held p.n (root_of p) vs (safe_of p)) (above vs) 0) ≡ true → start_call p vs start next st x ≡ Ok (u, then) → Reaching plant start st x
      of p q vs next c k e =
          let g = guard_passed (can_index p vs start next st.index st.state) _ refused-start e in
          let w = way p vs next (is_idle st.state) g.1 in
          record { p = p; judged = q; vs = vs; next = next; chain = c; kept = k; index = g.0; inside = w.0; place = w.1; size = w.2; there = w.3 }

  -- the table's own answer
  pub table-answered : {u : ℕ} {then : StartState} (r : Reaching plant start st x) → start_controlled plant start st x ≡ Ok (u, then)
      → (next : State) × (call (rules_on r) (table_on r) st.state x ≡ Ok (u, next)) × (then ≡ state_in (box_on r) next)
  table-answered r e = answer-was (box_on r) r.place (call (rules_on r) (table_on r) st.state x) (sym (reached r) ∙ e)

  -- what is answered is a mode of the plant
  pub start-is-mode : {u : ℕ} {then : StartState} → start_controlled plant start st x ≡ Ok (u, then) → is_mode plant u ≡ true
  start-is-mode {u} e =
      let r = answered-reaching e in
      let a = table-answered r e in
      rw r.judged
      (lt-ltb u r.p.modes (call_below (rules_on r) (box-sizes r.p (judged-sound plant r.p r.judged) r.vs (box_on r) (form_of (table_on r)) (form-known (table_on r))) (table_on r) st.state x a.1))
