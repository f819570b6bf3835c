-- Laws of the controller's call for the proofs of modules control and start_control: each answer of each part, in the terms of the code, at any rules; that a
-- call hangs on no band and no coefficient; and the frame of a plant that was judged good. Assumes nothing.
use Rattle.std.specs.Prelude.{Ok, Err}
use Prim.Native.Nat.{ℕ, zero, suc, ◌≤◌, ◌<◌}
use mathlib.Core.Path.{◌≡◌, refl, sym, ap, ◌∙◌}
use mathlib.Core.Bool.{Bool, true, false}
use mathlib.Core.List.{List, []}
use native.Mathlib.Omega.{arith}
use lib.IntN.{ℤ}
use lib.Dec.{eqb}
use Rattle.laws.specs.Guards.{guard}
use Rattle.laws.specs.Lists.{all, first_false}
use Rattle.laws.specs.Tests.{never}
use Rattle.meaning.specs.Answers.{Walk, Verdict, Found, PlantRead, Answer}
use Rattle.meaning.specs.declared.Outline.{Outline}
use Rattle.meaning.specs.declared.Refusal.{Refusal}
use Rattle.meaning.specs.declared.State.{State}
use Rattle.meaning.specs.Boxes as B
use Rattle.meaning.specs.Control.{can_run, mode_at, on_found, find, idle_call, running_call, state_call, call}
use Rattle.meaning.specs.Files.{good}
use Rattle.meaning.specs.Plants.{Plant, plant_judged, plant_read}
use Rattle.meaning.specs.Refusals.{outside, bad_state}
use Rattle.meaning.specs.Rules.{Rules}
use Rattle.meaning.specs.Tables.{depth_by, reading_of}
use Rattle.meaning.specs.Verdicts.{on_walk, header}
use Rattle.promises.specs.Files.Judged.{judged-sound}
use Rattle.promises.specs.Files.Sound.{Sound}
use Rattle.promises.specs.Tables.PlantRules.{read-good}
use Rattle.promises.specs.Tables.Steps.{call_same}
use Rattle.tables.specs.declared.frames.Counts.{Counts}
use Rattle.tables.specs.declared.frames.Frame.{Frame}
use Rattle.tables.specs.Boxes.{box_of}
use Rattle.tables.specs.Control.{admission}
use Rattle.tables.specs.Frames.{frame_of, frame_from, own_frame, counts_of, edges_of, step_in, rules_in}
use Rattle.tables.proofs.finds.Laws.{held, not-held}

-- ---- whether a call may go on

module _ (can : Bool) (c : can ≡ true) (n : ℕ) (lo hi x : List ℤ) (i : ℕ) (q : i ≡ first_false (B.fits (B.sides_of n lo hi) (reading_of n x))) where
  pub admit-reading : i < n → Err (outside i) ≡ admission can (B.fits (B.sides_of n lo hi) (reading_of n x))
  admit-reading h =
      let e = not-held n lo hi x (omega (arith, q, h)) in
      ap (λ (j : ℕ). Err (outside j)) q ∙ simp (c, e)

  pub admit-both : n ≤ i → Ok tt ≡ admission can (B.fits (B.sides_of n lo hi) (reading_of n x))
  admit-both h = let e = held n lo hi x (omega (arith, q, h)) in simp (c, e)

-- where it may, the box holds the reading
pub admitted : (can : Bool) (fit : List Bool) → admission can fit ≡ Ok tt → all fit ≡ true
admitted can fit e = go can (all fit) (first_false fit) e
  where
    go : (can held : Bool) (i : ℕ) → guard {A = Verdict} can (Err bad_state) (λ _. guard held (Err (outside i)) λ _. Ok tt) ≡ Ok tt → held ≡ true
    go true true i e = refl
    go true false i e = never cc
    go false held i e = never cc

-- what is behind it, where it was refused and where not
stopped : (can all : Bool) (i : ℕ) (rest : Unit {0} → Answer) (e : Refusal)
    → guard {A = Verdict} can (Err bad_state) (λ _. guard all (Err (outside i)) λ _. Ok tt) ≡ Err e
    → Err e ≡ guard can (Err bad_state) λ _. guard all (Err (outside i)) rest
stopped true true i rest e q = never cc
stopped true false i rest e q = cc
stopped false a i rest e q = cc

goes_on : (can all : Bool) (i : ℕ) (rest : Unit {0} → Answer)
    → guard {A = Verdict} can (Err bad_state) (λ _. guard all (Err (outside i)) λ _. Ok tt) ≡ Ok tt
    → rest tt ≡ guard can (Err bad_state) λ _. guard all (Err (outside i)) rest
goes_on true true i rest q = refl
goes_on true false i rest q = never cc
goes_on false a i rest q = never cc

module _ (r : Rules) (s : List ℕ) (x : Rules.Reading r) where
  open r use {fits, root, safe, form, n, D, K, N}

  -- ---- idle

  module _ (at place : ℕ) (v : Verdict) (q : v ≡ admission (eqb place 0) (fits root x)) where
    abbrev in_root : List Bool
    in_root = fits root x

    pub idle-refused : (e : Refusal) → v ≡ Err e → Err e ≡ idle_call r s at place x
    idle-refused e g = stopped (eqb place 0) (all in_root) (first_false in_root) (λ _. on_found s (find r D s at root x)) e (sym q ∙ g)

    pub idle-finds : v ≡ Ok tt → on_found s (find r D s at root x) ≡ idle_call r s at place x
    idle-finds g = goes_on (eqb place 0) (all in_root) (first_false in_root) (λ _. on_found s (find r D s at root x)) (sym q ∙ g)

  -- ---- running

  module _ (place left : ℕ) (can : Bool) (c : can ≡ can_run K N s place left) (v : Verdict) (q : v ≡ admission can (fits safe x)) where
    abbrev in_safe : List Bool
    in_safe = fits safe x

    went-by : v ≡ admission (can_run K N s place left) in_safe
    went-by = q ∙ ap (λ (t : Bool). admission t in_safe) c

    pub running-refused : (e : Refusal) → v ≡ Err e → Err e ≡ running_call r s place left x
    running-refused e g = stopped (can_run K N s place left) (all in_safe) (first_false in_safe) (λ _. mode_at s place left) e (sym went-by ∙ g)

    pub running-answers : v ≡ Ok tt → mode_at s place left ≡ running_call r s place left x
    running-answers g = goes_on (can_run K N s place left) (all in_safe) (first_false in_safe) (λ _. mode_at s place left) (sym went-by ∙ g)

  -- ---- either

  state-idle : (at place left : ℕ) → left ≡ 0 → idle_call r s at place x ≡ state_call r s at place left x
  state-idle at place left z = rw z refl

  state-running : (at place left : ℕ) → (left ≡ 0 → ⊥) → running_call r s place left x ≡ state_call r s at place left x
  state-running at place zero h = absurd (h refl)
  state-running at place (suc m) h = refl

  module _ (st : State) (w : Walk) (q : w ≡ header form n s) where
    abbrev behind : Walk → Answer
    behind v = on_walk v Err λ at. state_call r s at st.place st.left x

    headed : (v : Walk) → w ≡ v → behind v ≡ call r s st x
    unfolding call
    headed v g = ap behind (sym g ∙ q)

    pub call-refused : (e : Refusal) → w ≡ Err e → Err e ≡ call r s st x
    call-refused e g = headed (Err e) g

    module _ (at : ℕ) (g : w ≡ Ok at) where
      pub call-idle : st.left ≡ 0 → idle_call r s at st.place x ≡ call r s st x
      call-idle z = state-idle at st.place st.left z ∙ headed (Ok at) g

      pub call-running : (st.left ≡ 0 → ⊥) → running_call r s st.place st.left x ≡ call r s st x
      call-running h = state-running at st.place st.left h ∙ headed (Ok at) g

-- ---- at the rules of a frame: a call is the same by any bands and coefficients

pub call_by : (f : Frame) (bands coef bands' coef' : List ℤ) (s : List ℕ) (st : State) (x : List ℤ) → call (rules_in f bands coef) s st x ≡ call (rules_in f bands' coef') s st x
call_by f bands coef bands' coef' s st x =
    call_same f.form f.n f.modes f.k f.d (box_of f.n f.root) (box_of f.n f.goal) (box_of f.n f.safe) (step_in f bands coef) (step_in f bands' coef') s st x

-- what an idle call goes on with where it may, by what a frame is lent as
module _ (f : Frame) (s : List ℕ) (x : List ℤ) (at place : ℕ) {v : Verdict} (q : v ≡ admission (eqb place 0) (B.fits (box_of f.n f.root) (reading_of f.n x))) (h : v ≡ Ok tt)
    {c : Counts} {edges : List (List ℤ)} {d : ℕ} (p : c ≡ counts_of f) (e : edges ≡ edges_of f) (o : d ≡ depth_by f.form f.n f.d)
    {w : Found} (g : w ≡ find (rules_in (frame_from c edges) [] []) d s at (box_of c.n f.root) x) where
  goes : (y : Found) → w ≡ y → on_found s y ≡ idle_call (rules_in f [] []) s at place x
  goes y k =
      let r : Rules = rules_in f [] [] in
      let sought : w ≡ find r r.D s at (box_of f.n f.root) x = rw (p, e, o) at g in
      ap (on_found s) (sym k ∙ sought) ∙ idle-finds r s x at place v q h

  pub found-refused : {r : Refusal} → w ≡ Err r → Err r ≡ idle_call (rules_in f [] []) s at place x
  found-refused {r} k = goes (Err r) k

  pub found-answers : {from k : ℕ} → w ≡ Ok (from, k) → mode_at s from k ≡ idle_call (rules_in f [] []) s at place x
  found-answers {from} {k} j = goes (Ok (from, k)) j

-- ---- the frame of a plant that was judged good

pub record Own (s : List ℕ) (f : Frame) : Type 0 where
  pub plant : Plant
  pub was : plant_judged s ≡ good plant
  pub sound : Sound plant
  pub framed : f ≡ own_frame plant

pub framed-own : (s : List ℕ) {x : PlantRead} → x ≡ plant_read s → {o : Outline} → x ≡ Ok o → {f : Frame} → f ≡ frame_of o → Own s f
framed-own s {x} e {o} h q =
    let t = read-good (plant_judged s) x e o h in
    record { plant = t.plant; was = t.was; sound = judged-sound s t.plant t.was; framed = q ∙ ap frame_of t.outline }
