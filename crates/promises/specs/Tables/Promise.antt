-- S9, demand 3, over bytes: for every plant and every table that the checker accepts on it, every run that starts idle on a reading in R and applies
-- each mode that the controller answers, of any length, whatever readings come that the mode's equation and band allow. Relies on page Demand at
-- document 01's rules, on page Modes, and on S12 (page PlantMotion) for that no run gets stuck. Its last sentence, that every table whose tiles keep the tile rule is
-- accepted, is page Checked.
use Rattle.std.specs.Prelude.{ℕ, ◌≤◌, ◌≡◌, true, List, ℤ, Ok}
use Rattle.std.proofs.Common.{sym, ◌∙◌, ltb-true}
use Rattle.meaning.specs.declared.State.{State}
use Rattle.meaning.specs.Control.{idle}
use Rattle.meaning.specs.Files.{good}
use Rattle.meaning.specs.Plants.{Plant, plant_judged}
use Rattle.meaning.specs.Tables as T
use Rattle.meaning.specs.Tables.{form_of, rules_of, checked, controlled, starts_in, safe_in, may_follow, CallGives, TableRun, TableSamples}
use Rattle.meaning.specs.Trees.{longest}
use Rattle.promises.specs.Tables.Checked.{Tiled, accepted-judged}
use Rattle.promises.specs.Tables.Demand.{Demand, demand}
use Rattle.promises.specs.Files.Judged.{judged-sound}
use Rattle.promises.specs.Tables.Modes.{is_mode, answered-is-mode}
use Rattle.promises.specs.Tables.PlantMotion.{splits, motion, returns, plant-follows}
use Rattle.promises.specs.Tables.PlantRules.{sizes, checked-as}
use Rattle.promises.specs.Files.Sound.{Sound}
use Rattle.promises.specs.Tables.TableForms.{form-known}
use Rattle.promises.specs.Tables.Trips.{Repeated}

-- What demand 3 says of a plant and a table whose longest pattern has so many modes. A tile is chosen where the controller is idle.
pub record Promised (plant table : List ℕ) (most : ℕ) : Type 0 where
  -- no call is refused, and what is answered is a mode of the plant
  pub answered : {st : State} {x : List ℤ} → TableRun plant table st x
      → (u : ℕ) × (then : State) × (controlled plant table st x ≡ Ok (u, then)) × (is_mode plant u ≡ true)
  -- every reading lies in S, and in R where a tile is chosen
  pub in-safe : {st : State} {x : List ℤ} → TableRun plant table st x → safe_in plant x ≡ true
  pub in-root : {x : List ℤ} → TableRun plant table idle x → starts_in plant x ≡ true
  -- From each reading at which a tile is chosen, a reading in R follows within as many samples as the longest pattern, whatever readings came;
  -- and at it the next tile is chosen.
  pub returns : {x : List ℤ} → TableRun plant table idle x
      → (m : ℕ) × (1 ≤ m) × (m ≤ most) × ((st : State) (y : List ℤ) → TableSamples plant table m idle x st y → (st ≡ idle) × (starts_in plant y ≡ true))
  -- and no run gets stuck: whatever mode is answered, some reading may follow
  pub goes_on : (u : ℕ) → is_mode plant u ≡ true → (x : List ℤ) → (y : List ℤ) × (may_follow plant u x y ≡ true)

-- runs over bytes are runs over the rules of the plant that was judged good
pub promised : (plant table : List ℕ) (p : Plant) → plant_judged plant ≡ good p → (most : ℕ) → Sound p → Demand (rules_of (form_of table) p) table most → Promised plant table most
unfolding T.controlled
promised plant table p e most s d =
    let b : Repeated idle (λ st x u then. CallGives plant table st x u then) (λ u x y. may_follow plant u x y) (λ x. safe_in plant x) (λ x. starts_in plant x) (λ x. starts_in plant x) most = rw e d in
    record {
      answered = λ {st} {x} run. let w = b.answered run in (w.0, w.1, w.2, answered-is-mode plant table st x w.2);
      in-safe = b.in-safe;
      in-root = b.in-root;
      returns = λ run. let w = b.returns run in (w.0, w.1, w.2, λ st y k. let h = w.3 st y k in (h.again, h.in-root));
      goes_on = λ u m x. rw e (plant-follows p s u (ltb-true u p.modes (rw e at m)) x);
    }

-- S9: of every accepted table, and of the one tree that it is the layout of
pub promise : (plant table : List ℕ) → checked plant table ≡ Ok tt → (t : Tiled plant table) × Promised plant table (longest t.tree)
promise plant table a =
    let w = accepted-judged plant table a in
    let p = w.0 in
    let e = w.1 in
    let s = judged-sound plant p e in
    let f = form_of table in
    let d = demand (rules_of f p) (sizes f (form-known table) p s) (splits f p) (motion f p s) (returns f p) table (sym (checked-as plant p e table) ∙ a) in
    (record { p = p; judged = e; tree = d.0; works = d.1; is = d.2 }, promised plant table p e (longest d.0) s d.3)
