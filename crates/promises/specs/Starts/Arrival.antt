-- Request 2026-03 of document 02, "Wanted": on every start file that the checker accepts, started idle on any reading in Ri, of every run, whatever readings
-- come that the plant allows: no call is refused, every reading is in S, an idle call meets a reading in R within the sum of the longest patterns of
-- tables 1..i, and from that call on the calls are those of R0's table, of which demand 3 holds. A run that passes through R in mid-pattern has not arrived:
-- the call has to be idle. Relies on pages Accepted, Trees, Journeys and Home.
use Rattle.std.specs.Prelude.{ℕ, ◌+◌, ◌-◌, ◌≤◌, ◌≡◌, refl, true, List, ℤ, Ok}
use Rattle.std.proofs.Common.{sym, ap, ◌∙◌, arith}
use Rattle.meaning.specs.declared.State.{State}
use Rattle.meaning.specs.declared.StartState.{StartState}
use Rattle.meaning.specs.Starts.{above, start_idle, state_in, answer_in, start_checked, start_controlled, in_box, StartRun, StartSamples}
use Rattle.meaning.specs.Tables.{controlled, starts_in, safe_in, TableRun}
use Rattle.meaning.specs.Trees.{longest}
use Rattle.promises.specs.Tables.Modes.{is_mode}
use Rattle.promises.specs.Starts.Accepted.{start-checked-exactly}
use Rattle.promises.specs.Starts.Calls.{table_at, first_at}
use Rattle.promises.specs.Starts.Home.{Home, home}
use Rattle.promises.specs.Starts.Journeys.{box-held, passes, on-and-on}
use Rattle.promises.specs.Starts.Passes.{state_at, reading_at, cut, Passed}
use Rattle.promises.specs.Starts.Reaching.{start-is-mode}
use Rattle.promises.specs.Starts.Started.{Started}
use Rattle.promises.specs.Starts.Trees.{Trees, trees, longest_up_to}

-- Started idle on any reading in Ri.
pub record Arrives (plant start : List ℕ) (i bound : ℕ) : Type 0 where
  -- no call is refused, and what is answered is a mode of the plant
  pub answered : {st : StartState} {x : List ℤ} → StartRun plant start i st x
      → (u : ℕ) × (then : StartState) × (start_controlled plant start st x ≡ Ok (u, then)) × (is_mode plant u ≡ true)
  -- every reading lies in S
  pub in-safe : {st : StartState} {x : List ℤ} → StartRun plant start i st x → safe_in plant x ≡ true
  -- every run of so many samples meets an idle call on a reading in R, at a sample of number at most `bound`, the first call being sample 0
  pub arrives : {x : List ℤ} {k : ℕ} {st : StartState} {y : List ℤ} → in_box plant start i x ≡ true → (run : StartSamples plant start i k start_idle x st y) → bound ≤ k
      → Passed (starts_in plant) bound run

pub record Wanted {plant start : List ℕ} (w : Started plant start) (t : Trees w) : Type 0 where
  -- from each box, within the longest patterns of tables 1..i together
  pub from_each : (i : ℕ) → i ≤ above w.vs → Arrives plant start i (longest_up_to t.tree i)
  -- from R on, R's own table
  pub home : Home plant start (table_at w 0) (first_at w 0) (longest (t.tree 0))
  -- so at each sample of a run from its arrival on, the state and the reading are such as a run of R's own table meets, and the call is that table's
  pub then-on : (i : ℕ) {k bound : ℕ} {x : List ℤ} {st : StartState} {y : List ℤ} (run : StartSamples plant start i k start_idle x st y) (p : Passed (starts_in plant) bound run)
      → (j : ℕ) → p.number ≤ j → j ≤ k
      → (own : State) × (state_at run j ≡ state_in 0 own) × TableRun plant (table_at w 0) own (reading_at run j)
      × (start_controlled plant start (state_at run j) (reading_at run j) ≡ answer_in 0 (first_at w 0) (controlled plant (table_at w 0) own (reading_at run j)))

module _ {plant start : List ℕ} (w : Started plant start) (t : Trees w) where
  -- a state and a reading that R's own table meets, and the call on them
  met : (own : State) (s v : StartState) (q z : List ℤ) → s ≡ v → z ≡ q → v ≡ state_in 0 own → TableRun plant (table_at w 0) own z
      → (own : State) × (s ≡ state_in 0 own) × TableRun plant (table_at w 0) own q × (start_controlled plant start s q ≡ answer_in 0 (first_at w 0) (controlled plant (table_at w 0) own q))
  met own s v q z a b e run =
      let there : TableRun plant (table_at w 0) own q = rw b at run in
      let state : s ≡ state_in 0 own = a ∙ e in
      (own, state, there, rw state ((home w t).calls there))

  on-from : (i : ℕ) {k bound : ℕ} {x : List ℤ} {st : StartState} {y : List ℤ} (run : StartSamples plant start i k start_idle x st y) (p : Passed (starts_in plant) bound run)
      → (j : ℕ) → p.number ≤ j → j ≤ k
      → (own : State) × (state_at run j ≡ state_in 0 own) × TableRun plant (table_at w 0) own (reading_at run j)
      × (start_controlled plant start (state_at run j) (reading_at run j) ≡ answer_in 0 (first_at w 0) (controlled plant (table_at w 0) own (reading_at run j)))
  on-from i run p j l m =
      let c = cut run p.number (omega arith) in
      let n = j - p.number in
      let f = (home w t).from-there i p.is-idle p.there (cut c.behind n (omega (arith, c.count))).before in
      let e : p.number + n ≡ j = omega arith in
      met f.0 (state_at run j) (state_at c.behind n) (reading_at run j) (reading_at c.behind n)
      (ap (state_at run) (sym e) ∙ sym (c.states n)) (c.readings n ∙ ap (reading_at run) e) f.1 f.3

  pub wanted : Wanted w t
  wanted = record {
    from_each = λ i l.
        let k = on-and-on w t i l in
        record {
          answered = λ {st} {x} run. let a = k.answered run in (a.0, a.1, a.2, start-is-mode plant start st x a.2);
          in-safe = k.in-safe;
          arrives = λ {x} h run m. (passes w t i i i (omega arith) l x (box-held w i x h)).passes refl run m;
        };
    home = home w t;
    then-on = on-from;
  }

-- of every accepted file, and of the trees that its tables are the layouts of
pub arrival : (plant start : List ℕ) → start_checked plant start ≡ Ok tt → (w : Started plant start) × (t : Trees w) × Wanted w t
arrival plant start a = let w = (start-checked-exactly plant start).0 a in (w, trees w, wanted w (trees w))
