-- A mode that a call answers is a mode of the plant (document 01, "The controller": the mode there is below N), for every plant, table, state and reading,
-- accepted or not: running, the state's test says so; idle, the tile's modes were read, each below N.
-- So the C face shows a mode below N, or 65,535 exactly where the call is refused. Relies on page Local for the tile that was found, and on page Judged.
use Rattle.std.specs.Prelude.{ℕ, zero, suc, ◌+◌, ◌-◌, ◌^◌, ◌≤◌, ◌<◌, ◌≡◌, Bool, true, false, ◌&&◌, List, [], ◌∷◌, ◌↔◌, length, leb, ltb, eqb, ℤ, pos, Some, Ok, Err}
use Rattle.std.proofs.Math.Path.{refl}
use Rattle.std.proofs.Common.{arith, lt-ltb, ltb-true, sym, ◌∙◌}
use Rattle.laws.specs.Pairs.{ok-first}
use Rattle.laws.specs.Lists.{at}
use Rattle.laws.specs.Tests.{never, guard_passed, second}
use Rattle.meaning.specs.Answers.{Found, Answer}
use Rattle.meaning.specs.declared.Refusal.{Refusal}
use Rattle.meaning.specs.declared.State.{State}
use Rattle.meaning.specs.Control as C
use Rattle.meaning.specs.Control.{state_at, mode_at, on_found, find, can_run, state_call, call}
use Rattle.meaning.specs.Files.{Read, read, refused, Judged, good, bad}
use Rattle.meaning.specs.Numbers.{number_at, bytes_of}
use Rattle.meaning.specs.Plants.{Plant, plant_judged}
use Rattle.meaning.specs.Refusals.{answer_shown}
use Rattle.meaning.specs.Rules.{Rules, holds}
use Rattle.meaning.specs.Tables as T
use Rattle.meaning.specs.Tables.{form_of, rules_of, on_plant, controlled}
use Rattle.meaning.specs.Trees as Y
use Rattle.meaning.specs.Verdicts.{modes_at, header}
use Rattle.promises.specs.Files.Judged.{judged-sound}
use Rattle.promises.specs.Tables.Laws.{Sizes}
use Rattle.promises.specs.Tables.Layouts.{ModesStand, modes-stand, first_read}
use Rattle.promises.specs.Tables.Local.{find-reach}
use Rattle.promises.specs.Tables.PlantRules.{judged-sizes}
use Rattle.promises.specs.Tables.TableForms.{form-known}
use Rattle.promises.specs.Tables.Walking.{walk-went}

-- whether u is one of the plant's N modes, 0..N−1: none where the plant is refused
abbrev pub is_mode : List ℕ → ℕ → Bool
is_mode plant u = on_plant (plant_judged plant) (λ _. false) λ p. ltb u p.modes

pub refused-mode : {e : Refusal} {u : ℕ} {then : State} → ◌≡◌ {A = Answer} (Err e) (Ok (u, then)) → ⊥
refused-mode e = never cc

-- the first of so many modes from a place on is the number there, and below N
pub record First (N : ℕ) (s : List ℕ) (place left : ℕ) : Type 0 where
  pub some : 1 ≤ left
  pub mode : ℕ
  pub next : ℕ
  pub is : number_at s place ≡ Some (mode, next)
  pub is_below : mode < N

-- so it is answered
pub first-answered : (N : ℕ) (s : List ℕ) (place left : ℕ) (f : First N s place left) → mode_at s place left ≡ Ok (f.mode, state_at f.next (left - 1))
first-answered N s place zero f = absurd (omega (arith, f.some))
first-answered N s place (suc m) f = let e : suc m - 1 ≡ m = omega arith in rw (f.is, e) refl

-- modes that were read
modes-first : (N : ℕ) → N ≤ 2 ^ 35 → (k : ℕ) (s : List ℕ) (from : ℕ) (us : List ℕ) (m : ℕ) → modes_at N k s from ≡ read us m → 1 ≤ k → First N s from k
unfolding Y.AllBelow
modes-first N small k s from us m e l = go us (modes-stand N k s from us m e)
  where
    go : (us : List ℕ) → ModesStand N k s from us m → First N s from k
    go [] w = absurd (omega (arith, w.count))
    go (u ∷ us) w = record {
      some = l;
      mode = u;
      next = from + length (bytes_of u);
      is = first_read N small u us s from m w.modes w.stand;
      is_below = w.modes.0;
    }

-- running: the state's test says so
running-first : (K N : ℕ) → N ≤ 2 ^ 35 → (s : List ℕ) (place m : ℕ) → can_run K N s place (suc m) ≡ true → First N s place (suc m)
running-first K N small s place m e =
    go (modes_at N (suc m) s place) refl (second (leb (suc m) K && leb 2 place) (C.are_read (modes_at N (suc m) s place)) e)
  where
    go : (o : Read (List ℕ)) → modes_at N (suc m) s place ≡ o → C.are_read o ≡ true → First N s place (suc m)
    go (refused f) q h = never h
    go (read us next) q h = modes-first N small (suc m) s place us next q (omega arith)

-- idle: the modes of the tile that was found were read
pub found_first : (r : Rules) → Sizes r → (x : r.Reading) (d : ℕ) (s : List ℕ) (at : ℕ) (b : r.Box) (from k : ℕ) → find r d s at b x ≡ Ok (from, k) → First r.N s from k
found_first r z x d s at b from k q =
    let w = find-reach r z x d s at b from k q in
    modes-first r.N z.modes k s from w.modes w.end w.are w.some

module _ {u : ℕ} {then : State} where
  first_below : (N : ℕ) (s : List ℕ) (place left : ℕ) → First N s place left → mode_at s place left ≡ Ok (u, then) → u < N
  first_below N s place left f e = let q : f.mode ≡ u = ok-first (sym (first-answered N s place left f) ∙ e) in rw q at f.is_below

  module _ (r : Rules) (z : Sizes r) (s : List ℕ) where
    -- 12 and 11 were passed
    state-below : (at : ℕ) (x : r.Reading) (place left : ℕ) → state_call r s at place left x ≡ Ok (u, then) → u < r.N
    state-below at x place zero e =
        let a = guard_passed (eqb place 0) _ refused-mode e in
        found (find r r.D s at r.root x) refl (guard_passed (holds r r.root x) _ refused-mode a.1).1
      where
        found : (f : Found) → find r r.D s at r.root x ≡ f → on_found s f ≡ Ok (u, then) → u < r.N
        found (Err e) q a = absurd (refused-mode a)
        found (Ok (from, k)) q a = first_below r.N s from k (found_first r z x r.D s at r.root from k q) a
    state-below at x place (suc m) e =
        let a = guard_passed (can_run r.K r.N s place (suc m)) _ refused-mode e in
        let b = guard_passed (holds r r.safe x) _ refused-mode a.1 in
        first_below r.N s place (suc m) (running-first r.K r.N z.modes s place m a.0) b.1

    pub call_below : (st : State) (x : r.Reading) → call r s st x ≡ Ok (u, then) → u < r.N
    unfolding C.call
    call_below st x e =
        let w = walk-went (header r.form r.n s) Err (λ at. state_call r s at st.place st.left x) (λ _. refused-mode) e in
        state-below w.0 x st.place st.left w.2

  -- of every plant, table, state and reading
  pub answered-mode : (plant table : List ℕ) (st : State) (x : List ℤ) → controlled plant table st x ≡ Ok (u, then)
      → (p : Plant) × (plant_judged plant ≡ good p) × (u < p.modes)
  unfolding T.controlled
  answered-mode plant table st x = go (plant_judged plant) refl
    where
      go : (j : Judged Plant) → plant_judged plant ≡ j → on_plant j Err (λ p. call (rules_of (form_of table) p) table st x) ≡ Ok (u, then)
          → (p : Plant) × (plant_judged plant ≡ good p) × (u < p.modes)
      go (bad f) q e = absurd (refused-mode e)
      go (good p) q e = (p, q, call_below (rules_of (form_of table) p) (judged-sizes plant p q (form_of table) (form-known table)) table st x e)

  -- the same, as a test on the plant's bytes
  pub answered-is-mode : (plant table : List ℕ) (st : State) (x : List ℤ) → controlled plant table st x ≡ Ok (u, then) → is_mode plant u ≡ true
  answered-is-mode plant table st x e = let w = answered-mode plant table st x e in rw w.1 (lt-ltb u w.0.modes w.2)

-- at most 255
pub mode-most : (plant : List ℕ) (u : ℕ) → is_mode plant u ≡ true → u ≤ 255
mode-most plant u = go (plant_judged plant) refl
  where
    go : (j : Judged Plant) → plant_judged plant ≡ j → on_plant j (λ _. false) (λ p. ltb u p.modes) ≡ true → u ≤ 255
    go (bad f) q e = never e
    go (good p) q e = omega (arith, ltb-true u p.modes e, (judged-sound plant p q).ranges.m-high)

-- so 65,535 is none
pub answered-most : (plant table : List ℕ) (st : State) (x : List ℤ) {u : ℕ} {then : State} → controlled plant table st x ≡ Ok (u, then) → u ≤ 255
answered-most plant table st x {u} e = mode-most plant u (answered-is-mode plant table st x e)

-- ---- what the C face shows of a call: its mode is the first of the values

-- 65,535 exactly where it is refused, and a mode of the plant, which is at most 255, exactly where it is answered
pub record ModeShown (plant : List ℕ) (a : Answer) : Type 0 where
  pub refused : (at (answer_shown a).values 0 ≡ pos 65_535) ↔ ((e : Refusal) × (a ≡ Err e))
  pub answered : ((u : ℕ) × (at (answer_shown a).values 0 ≡ pos u) × (is_mode plant u ≡ true)) ↔ ((u : ℕ) × (then : State) × (a ≡ Ok (u, then)))

pub mode-shown : (plant table : List ℕ) (st : State) (x : List ℤ) → ModeShown plant (controlled plant table st x)
mode-shown plant table st x = go (controlled plant table st x) refl
  where
    go : (a : Answer) → controlled plant table st x ≡ a → ModeShown plant a
    go (Err e) q = record {
      refused = (λ _. (e, refl), λ _. refl);
      answered = (
        λ w. let k : w.0 ≡ 65_535 = (let y = w.1 in cc) in absurd (omega (arith, mode-most plant w.0 w.2)),
        λ w. absurd (refused-mode w.2),
      );
    }
    go (Ok (u, then)) q =
        let m = answered-is-mode plant table st x q in
        record {
          refused = (λ y. let k : u ≡ 65_535 = cc in absurd (omega (arith, answered-most plant table st x q)), λ w. let y = w.1 in never cc);
          answered = (λ _. (u, then, refl), λ _. (u, refl, m));
        }
