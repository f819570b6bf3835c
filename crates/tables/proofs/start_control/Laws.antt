-- A call on a start file in the terms that the code has: the table that is called, by the boxes that hold the reading; the call on it; the whole. Assumes
-- nothing.
use Rattle.std.specs.Prelude.{Ok, Err, Result, ℕ}
use Prim.Native.Nat.{ℕ, zero, suc, ◌+◌, ◌-◌, ◌^◌, ◌≤◌, ◌<◌}
use mathlib.Core.Path.{◌≡◌, refl, sym, ap, ◌∙◌, fun_ext}
use mathlib.Core.Bool.{Bool, true, false, ◌&&◌, ◌||◌, not, cond}
use mathlib.Core.List.{List, []}
use native.Mathlib.Omega.{arith}
use native.Mathlib.Nat.{zero-add}
use lib.Dec.{leb, eqb}
use lib.IntN.{ℤ}
use lib.ListN.{length, take, drop}
use borrow.Author.Tests.{leb-true, eqb-true}
use Rattle.laws.specs.Guards.{guard, choose}
use Rattle.laws.specs.Lists as L
use Rattle.laws.specs.Lists.{tab, all, first_false}
use Rattle.laws.specs.Tabs.{tab-same}
use Rattle.laws.specs.Tests.{never, first, second}
use Rattle.meaning.specs.Answers.{Verdict, Answer, StartAnswer}
use Rattle.meaning.specs.declared.Refusal.{Refusal}
use Rattle.meaning.specs.declared.StartState.{StartState}
use Rattle.meaning.specs.declared.State.{State}
use Rattle.meaning.specs.Boxes.{Side, fits}
use Rattle.meaning.specs.Control.{idle, call}
use Rattle.meaning.specs.Files.{good, bad}
use Rattle.meaning.specs.Plants.{Plant, plant_judged, root_of}
use Rattle.meaning.specs.Refusals.{outside, bad_state, moved}
use Rattle.meaning.specs.Starts as S
use Rattle.meaning.specs.Starts.{above, box_at, chosen, part, is_idle, state_in, answer_in, on_part, on_start, call_in, start_call, start_controlled}
use Rattle.meaning.specs.Tables.{reading_of, form_of, table_rules}
use Rattle.files.specs.declared.bounds.Sides.{Sides}
use Rattle.tables.specs.declared.frames.Frame.{Frame}
use Rattle.tables.specs.Boxes.{box_of}
use Rattle.tables.specs.Chains.{values_in, bx_at, frame_at}
use Rattle.tables.specs.Control.{admission}
use Rattle.tables.specs.Frames.{own_frame, formed, rules_by}
use Rattle.tables.specs.Parts.{part_behind, on_found, Movable}
use Rattle.tables.specs.StartControl.{fits_at, misses_at, idle_choice, choice_of, on_choice, call_behind, start_answer}
use Rattle.tables.proofs.chains.Laws.{Edged, in-edged, box-same, answers_at}
use Rattle.tables.proofs.control.Laws.{call_by}
use Rattle.tables.proofs.finds.Laws.{held, not-held}
use Rattle.tables.proofs.parts.Laws.{behind-within, by_part, slice-part}
use Rattle.tables.proofs.parts.Places.{call-inside}
use Rattle.tables.proofs.start_checks.Laws.{movable}

-- ---- idle

zeros : {place left : ℕ} → place ≡ 0 → left ≡ 0 → ◌≡◌ {A = State} (record { place = place; left = left }) idle
zeros e f = rw (e, f) refl

pub is-idle : (st : State) → is_idle st ≡ true → st ≡ idle
is-idle st e =
    let a = eqb st.place 0 in
    let b = eqb st.left 0 in
    zeros (eqb-true st.place 0 (first a b e)) (eqb-true st.left 0 (second a b e))

-- ---- whether Ri holds a reading, by the box that the code has

module _ (n : ℕ) (rooms : n ≤ 4) (root : Sides) (edges : List ℤ) (m : ℕ) (x : List ℤ) (i : ℕ) (b : Sides) (q : b ≡ bx_at n root edges i) where
  box : box_of n b ≡ box_at n (box_of n root) (values_in m edges) i
  box = ap (box_of n) q ∙ box-same n rooms edges (values_in m edges) (in-edged m edges) root i

  pub box-fits : fits (box_of n b) (reading_of n x) ≡ fits_at n (box_of n root) (values_in m edges) x i
  box-fits = ap (λ (b : List Side). fits b (reading_of n x)) box

  module _ (k : ℕ) (f : k ≡ first_false (fits (box_of n b) (reading_of n x))) where
    pub box-stops : n ≤ k → misses_at n (box_of n root) (values_in m edges) x i ≡ false
    box-stops h = ap (λ (b : List Side). not (all (fits b (reading_of n x)))) (sym box) ∙ ap not (held n b.lo b.hi x (omega (arith, f)))

    pub box-passed : k < n → misses_at n (box_of n root) (values_in m edges) x i ≡ true
    box-passed h = ap (λ (b : List Side). not (all (fits b (reading_of n x)))) (sym box) ∙ ap not (not-held n b.lo b.hi x (omega (arith, f)))

-- ---- the table that is called

-- by the admission to Rm
refused-by : (can held : Bool) (k low : ℕ) (e : Refusal) → guard {A = Verdict} can (Err bad_state) (λ _. guard held (Err (outside k)) λ _. Ok tt) ≡ Err e
    → Err e ≡ guard can (Err bad_state) (λ _. guard held (Err (outside k)) λ _. Ok low)
refused-by true true k low e q = never cc
refused-by true false k low e q = cc
refused-by false held k low e q = cc

accepted-by : (can held : Bool) (k low : ℕ) → guard {A = Verdict} can (Err bad_state) (λ _. guard held (Err (outside k)) λ _. Ok tt) ≡ Ok tt
    → Ok low ≡ guard can (Err bad_state) (λ _. guard held (Err (outside k)) λ _. Ok low)
accepted-by true true k low q = refl
accepted-by true false k low q = never cc
accepted-by false held k low q = never cc

module _ (n : ℕ) (root : List Side) (vs : List ℤ) (x : List ℤ) where
  module _ (i : ℕ) (v : Verdict) (q : v ≡ admission (eqb i 0) (fits_at n root vs x (above vs))) where
    abbrev fit : List Bool
    fit = fits_at n root vs x (above vs)

    pub choice-refused : (e : Refusal) → v ≡ Err e → Err e ≡ idle_choice n root vs i x
    choice-refused e h = refused-by (eqb i 0) (all fit) (first_false fit) (chosen n root vs x) e (sym q ∙ h)

    pub choice-lowest : v ≡ Ok tt → (k : ℕ) → k ≡ chosen n root vs x → Ok k ≡ idle_choice n root vs i x
    choice-lowest h k c = ap Ok c ∙ accepted-by (eqb i 0) (all fit) (first_false fit) (chosen n root vs x) (sym q ∙ h)

-- the first that does not hold is no later than one that does not
first_under : (t : ℕ → Bool) (m i k : ℕ) → k < m → t (i + k) ≡ false → first_false (tab t m i) ≤ k
unfolding L.tab L.first_false
first_under t zero i k h e = absurd (omega arith)
first_under t (suc m) i zero h e = let z : i + 0 ≡ i = omega arith in let f : t i ≡ false = rw z at e in simp f (omega arith)
first_under t (suc m) i (suc k) h e = go (t i) (let z : i + suc k ≡ i + 1 + k = omega arith in first_under t m (i + 1) k (omega arith) (rw z at e))
  where
    go : (b : Bool) → first_false (tab t m (i + 1)) ≤ k → cond b (suc (first_false (tab t m (i + 1)))) 0 ≤ suc k
    go true l = omega arith
    go false l = omega arith

-- it is one of those that there are
module _ (n : ℕ) (root : List Side) (vs : List ℤ) (x : List ℤ) where
  chosen-within : all (fits_at n root vs x (above vs)) ≡ true → chosen n root vs x ≤ above vs
  chosen-within e =
      let z : 0 + above vs ≡ above vs = zero-add (above vs) in
      first_under (misses_at n root vs x) (above vs + 1) 0 (above vs) (omega arith) (rw z (ap not e))

  pub choice-within : (st : StartState) (i : ℕ) → choice_of n root vs st x ≡ Ok i → i ≤ above vs
  choice-within st i q = go (leb st.index (above vs)) refl (is_idle st.state) (eqb st.index 0) (all (fits_at n root vs x (above vs))) refl q
    where
      go : (a : Bool) → leb st.index (above vs) ≡ a → (none nought held : Bool) → all (fits_at n root vs x (above vs)) ≡ held
          → guard a (Err bad_state) (λ _. choose none (λ _. guard nought (Err bad_state) λ _. guard held (Err (outside (first_false (fits_at n root vs x (above vs))))) λ _. Ok (chosen n root vs x)) (λ _. Ok st.index)) ≡ Ok i
          → i ≤ above vs
      go false p none nought held r q = never cc
      go true p true false held r q = never cc
      go true p true true false r q = never cc
      go true p true true true r q = let z : chosen n root vs x ≡ i = cc in omega (arith, chosen-within r)
      go true p false nought held r q = let z : st.index ≡ i = cc in omega (arith, leb-true st.index (above vs) p)

-- ---- the call on it

module _ (f : Frame) (s : List ℕ) (at i : ℕ) (st : State) (x : List ℤ) {p : Result (ℕ × ℕ) Refusal} (q : p ≡ part_behind i s at) where
  abbrev behind : ℕ → ℕ → StartAnswer
  behind first size = let t = part s first size in answer_in i first (call (rules_by f [] [] (form_of t)) t st x)

  pub behind-refused : {e : Refusal} → p ≡ Err e → Err e ≡ call_behind f s at i st x
  behind-refused {e} h = sym (by_part s i at Err behind ∙ ap (λ (o : Result (ℕ × ℕ) Refusal). on_found o Err behind) (sym q ∙ h))

  -- a is the answer on the bytes between
  module _ {first size : ℕ} (h : p ≡ Ok (first, size)) {a : Answer}
      (c : a ≡ call (rules_by f [] [] (form_of (take (first + size - first) (drop first s)))) (take (first + size - first) (drop first s)) st x) where
    called : a ≡ call (rules_by f [] [] (form_of (part s first size))) (part s first size) st x
    called = c ∙ ap (λ (t : List ℕ). call (rules_by f [] [] (form_of t)) t st x) (slice-part s first size)

    answered : (b : Answer) → a ≡ b → answer_in i first b ≡ call_behind f s at i st x
    answered b g = ap (answer_in i first) (sym g ∙ called) ∙ sym (by_part s i at Err behind ∙ ap (λ (o : Result (ℕ × ℕ) Refusal). on_found o Err behind) (sym q ∙ h))

    pub behind-moved : {e : Refusal} → a ≡ Err e → Err (moved first e) ≡ call_behind f s at i st x
    behind-moved {e} g = answered (Err e) g

    pub behind-answered : {u : ℕ} {then : State} → a ≡ Ok (u, then) → Ok (u, state_in i then) ≡ call_behind f s at i st x
    behind-answered {u} {then} g = answered (Ok (u, then)) g

    pub behind-movable : length s < 2 ^ 64 → {e : Refusal} → a ≡ Err e → Movable first e
    behind-movable short {e} g =
        movable s first size (behind-within s i at first size (sym q ∙ h)) short e
        (call-inside (rules_by f [] [] (form_of (part s first size))) (part s first size) x st e (sym called ∙ g))

-- ---- the whole, for a plant

module _ (p : Plant) (vs : List ℤ) (s : List ℕ) (at : ℕ) (st : StartState) (x : List ℤ) where
  pub called-as : on_choice (choice_of p.n (root_of p) vs st x) Err (λ i. call_in p vs s at i st.state x) ≡ start_call p vs s at st x
  called-as = go (leb st.index (above vs)) (is_idle st.state) refl (eqb st.index 0) (all fit)
    where
      fit : List Bool
      fit = fits_at p.n (root_of p) vs x (above vs)

      low : ℕ
      low = chosen p.n (root_of p) vs x

      go : (a none : Bool) → is_idle st.state ≡ none → (nought held : Bool)
          → on_choice (guard a (Err bad_state) (λ _. choose none (λ _. guard nought (Err bad_state) λ _. guard held (Err (outside (first_false fit))) λ _. Ok low) (λ _. Ok st.index))) Err (λ i. call_in p vs s at i st.state x)
          ≡ guard (a && (nought || not none)) (Err bad_state) (λ _. choose none (λ _. guard held (Err (outside (first_false fit))) λ _. call_in p vs s at low idle x) (λ _. call_in p vs s at st.index st.state x))
      go false none e nought held = refl
      go true false e true held = refl
      go true false e false held = refl
      go true true e false held = refl
      go true true e true false = refl
      go true true e true true = ap (λ (z : State). call_in p vs s at low z x) (is-idle st.state e)

-- the same boxes, the same choice
abbrev choice_by : ℕ → List Bool → ℕ → StartState → Result ℕ Refusal
choice_by m fit low st =
    guard (leb st.index m) (Err bad_state) λ _.
    choose (is_idle st.state) (λ _. guard (eqb st.index 0) (Err bad_state) λ _. guard (all fit) (Err (outside (first_false fit))) λ _. Ok low) (λ _. Ok st.index)

choice-same : (n : ℕ) (root : List Side) (vs ws : List ℤ) (st : StartState) (x : List ℤ) → above vs ≡ above ws → ((i : ℕ) → box_at n root vs i ≡ box_at n root ws i)
    → choice_of n root vs st x ≡ choice_of n root ws st x
choice-same n root vs ws st x e box =
    let m = above vs in
    let fit : (i : ℕ) → fits_at n root vs x i ≡ fits_at n root ws x i = λ i. ap (λ (b : List Side). fits b (reading_of n x)) (box i) in
    let low : chosen n root vs x ≡ first_false (tab (misses_at n root ws x) (m + 1) 0) =
    ap first_false (tab-same (misses_at n root vs x) (misses_at n root ws x) (m + 1) 0 (λ i a b. ap (λ (ts : List Bool). not (all ts)) (fit i))) in
    ap (λ (ts : List Bool). choice_by m ts (chosen n root vs x) st) (fit m)
    ∙ ap (λ (k : ℕ). choice_by m (fits_at n root ws x m) k st) low
    ∙ ap (λ (k : ℕ). choice_by k (fits_at n root ws x k) (first_false (tab (misses_at n root ws x) (k + 1) 0)) st) e

on_choice-same : (c : Result ℕ Refusal) (f g : ℕ → StartAnswer) → ((i : ℕ) → f i ≡ g i) → on_choice c Err f ≡ on_choice c Err g
on_choice-same (Err e) f g h = refl
on_choice-same (Ok i) f g h = h i

module _ (p : Plant) (rooms : p.n ≤ 4) (edges vs : List ℤ) (q : Edged edges vs) (m : ℕ) (c : m ≡ above vs) where
  pub answer-as : (f : Frame) → f ≡ own_frame p → (s : List ℕ) (at : ℕ) (st : StartState) (x : List ℤ) → start_answer f edges s m at st x ≡ start_call p vs s at st x
  answer-as f e s at st x =
      let box : (i : ℕ) → box_at p.n (root_of p) (values_in m edges) i ≡ box_at p.n (root_of p) vs i =
      λ i. sym (box-same p.n rooms edges (values_in m edges) (in-edged m edges) (own_frame p).root i) ∙ box-same p.n rooms edges vs q (own_frame p).root i in
      ap (λ (g : Frame). start_answer g edges s m at st x) e
      ∙ ap (λ (o : Result ℕ Refusal). on_choice o Err (λ i. call_behind (frame_at (own_frame p) edges i) s at i st.state x)) (choice-same p.n (root_of p) (values_in m edges) vs st x c box)
      ∙ on_choice-same (choice_of p.n (root_of p) vs st x) (λ i. call_behind (frame_at (own_frame p) edges i) s at i st.state x) (λ i. call_in p vs s at i st.state x)
      (λ i. by-rules i (frame_at (own_frame p) edges i) ∙ answers_at p rooms edges vs q (λ root goal. on_part i s at Err λ first size. let t = part s first size in answer_in i first (call (table_rules (form_of t) p root goal) t st.state x)) i)
      ∙ called-as p vs s at st x
    where
      -- a call hangs on no band and no coefficient
      by-rules : (i : ℕ) (f : Frame) → call_behind f s at i st.state x ≡ on_part i s at Err λ first size. let t = part s first size in answer_in i first (call (rules_by f p.bands p.coef (form_of t)) t st.state x)
      by-rules i f = ap (λ (answer : List ℕ → Answer). on_part i s at Err λ first size. answer_in i first (answer (part s first size))) (fun_ext (λ t. call_by (formed f (form_of t)) [] [] p.bands p.coef t st.state x))

module _ (plant start : List ℕ) (st : StartState) (x : List ℤ) where
  pub plant-bad : (e : Refusal) → plant_judged plant ≡ bad e → Err e ≡ start_controlled plant start st x
  unfolding S.start_controlled
  plant-bad e h = rw h refl

  pub plant-good : (p : Plant) → plant_judged plant ≡ good p → on_start p start Err (λ vs next. start_call p vs start next st x) ≡ start_controlled plant start st x
  unfolding S.start_controlled
  plant-good p h = rw h refl
