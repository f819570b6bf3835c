-- A call on a start file as the code makes it: which table is called, then the call on it. Definitions alone.
use Rattle.std.specs.Prelude.{ℕ, Bool, not, List, [], leb, eqb, ℤ, Ok, Err, Result}
use Rattle.laws.specs.Guards.{guard, choose}
use Rattle.laws.specs.Lists.{all, first_false}
use Rattle.meaning.specs.Answers.{StartAnswer}
use Rattle.meaning.specs.declared.Refusal.{Refusal}
use Rattle.meaning.specs.declared.StartState.{StartState}
use Rattle.meaning.specs.declared.State.{State}
use Rattle.meaning.specs.Boxes.{Side, fits}
use Rattle.meaning.specs.Control.{call}
use Rattle.meaning.specs.Refusals.{outside, bad_state}
use Rattle.meaning.specs.Starts.{above, box_at, chosen, is_idle, answer_in, on_part, part}
use Rattle.meaning.specs.Tables.{reading_of, form_of}
use Rattle.tables.specs.declared.frames.Frame.{Frame}
use Rattle.tables.specs.Boxes.{box_of}
use Rattle.tables.specs.Chains.{values_in, frame_at}
use Rattle.tables.specs.Frames.{rules_by}

-- in n dimensions, R being root, the values of the chain being vs
module _ (n : ℕ) (root : List Side) (vs : List ℤ) where
  -- Ri and a reading, dimension by dimension; and that it does not hold it
  abbrev pub fits_at : List ℤ → ℕ → List Bool
  fits_at x i = fits (box_at n root vs i) (reading_of n x)

  abbrev pub misses_at : List ℤ → ℕ → Bool
  misses_at x i = not (all (fits_at x i))

  -- idle: an index that was kept cannot be, and outside Rm it is 11
  abbrev pub idle_choice : ℕ → List ℤ → Result ℕ Refusal
  idle_choice i x =
      let fit = fits_at x (above vs) in
      guard (eqb i 0) (Err bad_state) λ _.
      guard (all fit) (Err (outside (first_false fit))) λ _. Ok (chosen n root vs x)

  -- the table that is called
  abbrev pub choice_of : StartState → List ℤ → Result ℕ Refusal
  choice_of st x =
      guard (leb st.index (above vs)) (Err bad_state) λ _.
      choose (is_idle st.state) (λ _. idle_choice st.index x) (λ _. Ok st.index)

abbrev pub on_choice : {A : Type 0} → Result ℕ Refusal → (Refusal → A) → (ℕ → A) → A
on_choice (Err e) refuse rest = refuse e
on_choice (Ok i) refuse rest = rest i

-- the call on table i, by a frame's rules of the form that the table says: a call needs no bands and no coefficients
abbrev pub call_behind : Frame → List ℕ → ℕ → ℕ → State → List ℤ → StartAnswer
call_behind f s at i st x = on_part i s at Err λ first size. let t = part s first size in answer_in i first (call (rules_by f [] [] (form_of t)) t st x)

-- a call on a chain of m boxes that was read, `at` being the place behind it
abbrev pub start_answer : Frame → List ℤ → List ℕ → ℕ → ℕ → StartState → List ℤ → StartAnswer
start_answer f edges s m at st x =
    on_choice (choice_of f.n (box_of f.n f.root) (values_in m edges) st x) Err λ i.
    call_behind (frame_at f edges i) s at i st.state x
