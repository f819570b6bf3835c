-- Start files (document 02, request 2026-03): a chain of boxes R = R0, R1, .. Rm, each holding the one before, all in S, and a table for each, whose patterns
-- end in the box below it; R0's own end in R0. What checker, maker and controller answer, for every input. Nothing of trees, tables and calls is said
-- again: box i's table is judged, defined and called by the rules with that box as root and the box below as goal.
use Rattle.std.specs.Prelude.{ℕ, zero, suc, ◌+◌, ◌*◌, ◌≡◌, Bool, false, ◌&&◌, ◌||◌, not, cond, List, [], ◌∷◌, ◌++◌, length, take, drop, leb, eqb, ℤ, nat_abs, Ok, Err}
use Rattle.laws.specs.Guards.{guard, choose}
use Rattle.laws.specs.Lists.{at, tab, all, first_false}
use Rattle.meaning.specs.Answers.{Verdict, Answer, StartAnswer}
use Rattle.meaning.specs.declared.Refusal.{Refusal}
use Rattle.meaning.specs.declared.State.{State}
use Rattle.meaning.specs.declared.StartState.{StartState}
use Rattle.meaning.specs.Refusals.{broken, wrong_form, unfit, outside, bad_state, not_held, moved}
use Rattle.meaning.specs.Numbers.{number_at, bytes_of}
use Rattle.meaning.specs.Files.{Form, end, Read, read, refused, values_at, values_of, file_of, Judged, good, bad}
use Rattle.meaning.specs.Buffers.{Left, left}
use Rattle.meaning.specs.Boxes.{Side, side, fits, within}
use Rattle.meaning.specs.Plants.{Plant, edge_limit, form_one, counted, from, span, times, plant_judged, root_of, safe_of}
use Rattle.meaning.specs.Rules.{Rules, holds, missed}
use Rattle.meaning.specs.Verdicts.{on_number, on_walk, table_end}
use Rattle.meaning.specs.Control.{idle, call}
use Rattle.meaning.specs.Runs.{Run, Samples}
use Rattle.meaning.specs.Tables.{reading_of, known_form, form_of, table_rules, on_plant, defined_table, may_follow}

-- ---- the chain: a start file's beginning

-- form 1, m, then box by box from R1 on, dimension by dimension, lo and hi
unfoldable pub chain_form : ℕ → Form
chain_form n = form_one (counted (from 0 8) λ m. times (m * n) (span edge_limit) end)

-- m, of the values of a chain
abbrev pub above : List ℤ → ℕ
above vs = nat_abs (at vs 1)

-- lo and hi of dimension j of the i-th box above R, from 0
abbrev pub chain_side : ℕ → List ℤ → ℕ → ℕ → Side
chain_side n vs i j = let e = 2 + 2 * (i * n + j) in side (at vs e) (at vs (e + 1))

-- in n dimensions, R being root
module _ (n : ℕ) (root : List Side) (vs : List ℤ) where
  -- Ri, and the box that the patterns of its table end in
  abbrev pub box_at : ℕ → List Side
  box_at zero = root
  box_at (suc i) = tab (chain_side n vs i) n 0

  abbrev pub box_below : ℕ → List Side
  box_below zero = root
  box_below (suc i) = box_at i

  -- R(i+1) holds Ri and lies in S
  abbrev pub held : List Side → ℕ → Bool
  held safe i = within (box_at i) (box_at (suc i)) && within (box_at (suc i)) safe

  -- the lowest index of the boxes that hold a reading; m + 1 where none does
  abbrev pub chosen : List ℤ → ℕ
  chosen x = first_false (tab (λ i. not (all (fits (box_at i) (reading_of n x)))) (above vs + 1) 0)

-- a chain that was read, and the place behind it: then 15
abbrev pub on_chain : {A : Type 0} → ℕ → List Side → List Side → Read (List ℤ) → (Refusal → A) → (List ℤ → ℕ → A) → A
on_chain n root safe (refused e) refuse rest = refuse e
on_chain n root safe (read vs next) refuse rest =
    let kept = tab (held n root vs safe) (above vs) 0 in
    guard (all kept) (refuse (not_held (first_false kept + 1))) λ _. rest vs next

-- for a plant: the chain that a start file begins with; and a chain by itself, with nothing behind it
abbrev pub on_start : {A : Type 0} → Plant → List ℕ → (Refusal → A) → (List ℤ → ℕ → A) → A
on_start p s = on_chain p.n (root_of p) (safe_of p) (values_at (chain_form p.n) s 0)

abbrev pub on_whole : {A : Type 0} → Plant → List ℕ → (Refusal → A) → (List ℤ → ℕ → A) → A
on_whole p s = on_chain p.n (root_of p) (safe_of p) (values_of (chain_form p.n) s)

-- the rules of Ri's table, of a form
abbrev pub box_rules : Plant → List ℤ → ℕ → ℕ → Rules
box_rules p vs i form = table_rules form p (box_at p.n (root_of p) vs i) (box_below p.n (root_of p) vs i)

-- ---- the tables behind it, each with its byte length in front

-- the length at a place: broken, or passing the file's end, it is told there; else the place of its table, and the length
abbrev pub on_length : {A : Type 0} → List ℕ → ℕ → (Refusal → A) → (ℕ → ℕ → A) → A
on_length s at refuse rest =
    on_number (number_at s at) (refuse (broken at)) λ size first.
    guard (leb (first + size) (length s)) (refuse (unfit at)) λ _. rest first size

-- the bytes of a table
abbrev pub part : List ℕ → ℕ → ℕ → List ℕ
part s first size = take size (drop first s)

unfoldable pub parts_of : List (List ℕ) → List ℕ
parts_of [] = []
parts_of (t ∷ ts) = bytes_of (length t) ++ (t ++ parts_of ts)

-- a start file: the values of its chain, and a table for each box
abbrev pub start_of : ℕ → List ℤ → List (List ℕ) → List ℕ
start_of n vs ts = file_of (chain_form n) vs ++ parts_of ts

-- ---- Checker: plant; form, m, edges; 15; then each table's length and the table, read within it; bytes left over last

module _ (r : ℕ → ℕ → Rules) (s : List ℕ) where
  -- k tables, the first of them box i's
  unfoldable pub tables_at : ℕ → ℕ → ℕ → Verdict
  tables_at zero i at = guard (eqb at (length s)) (Err (unfit at)) λ _. Ok tt
  tables_at (suc k) i at =
      on_length s at Err λ first size.
      on_walk (table_end (r i (form_of (part s first size))) (part s first size)) (λ e. Err (moved first e)) λ next.
      guard (eqb next size) (Err (unfit at)) λ _.
      tables_at k (suc i) (first + size)

unfoldable pub start_checked : List ℕ → List ℕ → Verdict
start_checked plant start =
    on_plant (plant_judged plant) Err λ p.
    on_start p start Err λ vs next.
    tables_at (box_rules p vs) start (above vs + 1) 0 next

-- ---- Maker: plant; the chain, with nothing behind it; 15; 2 where the form is not known; 9 with the first index that has no table; 10

-- a table, and those behind it
abbrev pub table_with : List ℕ → Judged (List (List ℕ)) → Judged (List (List ℕ))
table_with t (bad e) = bad e
table_with t (good ts) = good (t ∷ ts)

abbrev pub table_before : Judged (List ℕ) → (Unit {0} → Judged (List (List ℕ))) → Judged (List (List ℕ))
table_before (bad e) rest = bad e
table_before (good t) rest = table_with t (rest tt)

-- k defined tables, the first of them box i's
unfoldable pub tables_from : (ℕ → Rules) → ℕ → ℕ → Judged (List (List ℕ))
tables_from r zero i = good []
tables_from r (suc k) i = table_before (defined_table i (r i)) λ _. tables_from r k (suc i)

abbrev pub start_bytes : ℕ → List ℤ → Judged (List (List ℕ)) → Judged (List ℕ)
start_bytes n vs (bad e) = bad e
start_bytes n vs (good ts) = good (start_of n vs ts)

-- it is told one form for all
unfoldable pub start_made : List ℕ → List ℕ → ℕ → Judged (List ℕ)
start_made plant chain form =
    on_plant (plant_judged plant) bad λ p.
    on_whole p chain bad λ vs _.
    guard (known_form form) (bad wrong_form) λ _.
    start_bytes p.n vs (tables_from (λ i. box_rules p vs i form) (above vs + 1) 0)

unfoldable pub start_left : List ℕ → List ℕ → ℕ → List ℕ → Left
start_left plant chain form buf = left (start_made plant chain form) buf

-- ---- Controller: plant; form, m, edges; 15; the index; 11 where idle; the lengths up to the table; then the call on it

-- idle: no mode is left and no place kept
abbrev pub is_idle : State → Bool
is_idle st = eqb st.place 0 && eqb st.left 0

abbrev pub start_idle : StartState
start_idle = record { index = 0; state = idle }

-- the state of a table as that of the file: behind the last mode the index goes too
abbrev pub state_in : ℕ → State → StartState
state_in i st = cond (is_idle st) start_idle (record { index = i; state = st })

-- the answer of box i's table, which stands at `first`
abbrev pub answer_in : ℕ → ℕ → Answer → StartAnswer
answer_in i first (Err e) = Err (moved first e)
answer_in i first (Ok (u, st)) = Ok (u, state_in i st)

-- the table that i others stand before, the first of them at a place: of those only the lengths are read
unfoldable pub on_part : {A : Type 0} → ℕ → List ℕ → ℕ → (Refusal → A) → (ℕ → ℕ → A) → A
on_part zero s at refuse rest = on_length s at refuse rest
on_part (suc i) s at refuse rest = on_length s at refuse λ first size. on_part i s (first + size) refuse rest

module _ (p : Plant) (vs : List ℤ) (s : List ℕ) (at : ℕ) where
  -- the call on box i's table
  abbrev pub call_in : ℕ → State → List ℤ → StartAnswer
  call_in i st x = on_part i s at Err λ first size. let t = part s first size in answer_in i first (call (box_rules p vs i (form_of t)) t st x)

  -- idle: the smallest box that holds the reading, of equal ones the lowest index; outside Rm it is 11
  abbrev pub chosen_call : List ℤ → StartAnswer
  chosen_call x =
      let r = box_rules p vs (above vs) 1 in
      guard (holds r r.root x) (Err (outside (missed r r.root x))) λ _.
      call_in (chosen p.n (root_of p) vs x) idle x

  -- an index over m, or one kept when idle, cannot be
  abbrev pub can_index : ℕ → State → Bool
  can_index i st = leb i (above vs) && (eqb i 0 || not (is_idle st))

  abbrev pub start_call : StartState → List ℤ → StartAnswer
  start_call st x =
      guard (can_index st.index st.state) (Err bad_state) λ _.
      choose (is_idle st.state) (λ _. chosen_call x) (λ _. call_in st.index st.state x)

unfoldable pub start_controlled : List ℕ → List ℕ → StartState → List ℤ → StartAnswer
start_controlled plant start st x =
    on_plant (plant_judged plant) Err λ p.
    on_start p start Err λ vs next.
    start_call p vs start next st x

-- ---- the runs of a start file on a plant, from idle on a reading in Ri: none where plant or chain is refused

abbrev pub in_box : List ℕ → List ℕ → ℕ → List ℤ → Bool
in_box plant start i x =
    on_plant (plant_judged plant) (λ _. false) λ p.
    on_start p start (λ _. false) λ vs _.
    leb i (above vs) && holds (box_rules p vs i 1) (box_rules p vs i 1).root x

-- a call gives a mode and the next state
abbrev pub StartCallGives : List ℕ → List ℕ → StartState → List ℤ → ℕ → StartState → Type 0
StartCallGives plant start st x u then = start_controlled plant start st x ≡ Ok (u, then)

abbrev pub StartRun : List ℕ → List ℕ → ℕ → StartState → List ℤ → Type 0
StartRun plant start i = Run start_idle (StartCallGives plant start) (in_box plant start i) (may_follow plant)

abbrev pub StartSamples : List ℕ → List ℕ → ℕ → ℕ → StartState → List ℤ → StartState → List ℤ → Type 0
StartSamples plant start i = Samples start_idle (StartCallGives plant start) (in_box plant start i) (may_follow plant)
