-- The controller (document 01, "The controller", rows 11 and 12, and the order of judgement): what a call answers for every table, checked or
-- not, every state and every reading. Plant and table header come first (page Tables puts the plant in front), then 12, 11, then the tree.
use Rattle.std.specs.Prelude.{ℕ, zero, suc, ◌+◌, Bool, true, false, ◌&&◌, List, [], ◌∷◌, length, leb, eqb, Ok, Err}
use Rattle.std.proofs.Math.Option.{Option, none, some}
use Rattle.laws.specs.Guards.{guard, choose}
use Rattle.meaning.specs.Answers.{Walk, Found, Answer}
use Rattle.meaning.specs.declared.Tried.TheVariants.{Works}
use Rattle.meaning.specs.declared.State.{State}
use Rattle.meaning.specs.Refusals.{bad_table, outside, bad_state}
use Rattle.meaning.specs.Numbers.{number_at}
use Rattle.meaning.specs.Files.{Read, read, refused}
use Rattle.meaning.specs.Rules.{Rules, holds, missed}
use Rattle.meaning.specs.Trees.{tells}
use Rattle.meaning.specs.Verdicts.{Length, on_number, on_walk, on_read, split_at, modes_at, lengths_by, node_at, walk, header}

abbrev pub idle : State
idle = record { place = 0; left = 0 }

-- a tile's modes were read: it is found
abbrev pub tile_found : Read (List ℕ) → ℕ → ℕ → Found
tile_found (refused e) from k = Err e
tile_found (read us next) from k = Ok (from, k)

-- Where lengths are told (request 2026-01): the first whose child would end past the file, each beginning where the one before ends.
unfoldable pub past_file : ℕ → List Length → ℕ → Option ℕ
past_file size [] at = none
past_file size (l ∷ ls) at = guard (leb (at + l.size) size) (some l.place) λ _. past_file size ls (at + l.size)

abbrev pub unless_past : Option ℕ → (ℕ → Found) → (Unit {0} → Found) → Found
unless_past (some place) refuse rest = refuse place
unless_past none refuse rest = rest tt

-- How a child is passed: by its length where lengths are told, and else by walking over it. The last has none, and nothing is behind it.
abbrev pub pass_by : {B : Type 0} → Bool → (ℕ → B → Walk) → List Length → ℕ → B → Walk
pass_by false over ls at b = over at b
pass_by true over [] at b = Ok at
pass_by true over (l ∷ ls) at b = Ok (at + l.size)

abbrev pub behind : List Length → List Length
behind [] = []
behind (l ∷ ls) = ls

-- The children before the one that holds the reading are passed, and that one is gone into. That no child holds it does not occur below a box
-- that holds it, and is answered by 6 at the split.
unfoldable pub among : {B : Type 0} → (B → Bool) → (ℕ → B → Found) → (List Length → ℕ → B → Walk) → ℕ → List B → List Length → ℕ → Found
among has enter pass split [] ls at = Err (bad_table split)
among has enter pass split (b ∷ bs) ls at =
    choose (has b) (λ _. enter at b) λ _.
    on_walk (pass ls at b) Err λ next. among has enter pass split bs (behind ls) next

-- the state with so many modes to come, the next of them at that place
abbrev pub state_at : ℕ → ℕ → State
state_at place zero = idle
state_at place (suc m) = record { place = place; left = suc m }

abbrev pub state_with : List ℕ → ℕ → State
state_with us place = state_at place (length us)

-- The mode at a place with that many left, itself counted: the number that stands there. That none is left, or that it is broken, does not occur: a
-- tile has modes, and both a tile that is found and a state that can be have a number there.
abbrev pub mode_at : List ℕ → ℕ → ℕ → Answer
mode_at s place zero = Err bad_state
mode_at s place (suc m) = on_number (number_at s place) (Err bad_state) λ u next. Ok (u, state_at next m)

abbrev pub on_found : List ℕ → Found → Answer
on_found s (Err e) = Err e
on_found s (Ok (from, k)) = mode_at s from k

-- modes were read: none runs off the table, is broken, or is not below N
abbrev pub are_read : Read (List ℕ) → Bool
are_read (refused e) = false
are_read (read us next) = true

-- left above 0: left at most K, place at least 2, and the modes left can be read from the place on (request 2026-08)
abbrev pub can_run : ℕ → ℕ → List ℕ → ℕ → ℕ → Bool
can_run K N s place left = leb left K && leb 2 place && are_read (modes_at N left s place)

module _ (r : Rules) where
  open r use {Box, Reading, children, root, safe, form, n, D, K, N}

  -- The tile that holds a reading, in the tree at `at`. The walk tells 1 and 6 of what it reads, passed tiles too, and tests no image.
  unfoldable pub find : ℕ → List ℕ → ℕ → Box → Reading → Found
  find zero s at b x = node_at K s at Err
      (λ next. Err (bad_table at))
      (λ k next. tile_found (modes_at N k s next) next k)
  find (suc d) s at b x = node_at K s at Err
      (λ next. split_at (children b) (Err (bad_table at)) λ cs.
      on_read (lengths_by (tells form) cs s next) Err λ ls first.
      unless_past (past_file (length s) ls first) (λ place. Err (bad_table place)) λ _.
      among (λ c. holds r c x) (λ p c. find d s p c x) (pass_by (tells form) (λ p c. walk r (λ _ _. Works) d s p c)) at cs ls first)
      (λ k next. tile_found (modes_at N k s next) next k)

  -- the reading must be in a box, or 11 with the first dimension
  abbrev pub inside : Box → Reading → (Unit {0} → Answer) → Answer
  inside b x rest = guard (holds r b x) (Err (outside (missed r b x))) rest

  -- idle: the reading must be in R; its tile is found, its first mode answered
  abbrev pub idle_call : List ℕ → ℕ → ℕ → Reading → Answer
  idle_call s at place x =
      guard (eqb place 0) (Err bad_state) λ _.
      inside root x λ _. on_found s (find D s at root x)

  -- running: the reading must be in S; the mode at the place is answered
  abbrev pub running_call : List ℕ → ℕ → ℕ → Reading → Answer
  running_call s place left x =
      guard (can_run K N s place left) (Err bad_state) λ _.
      inside safe x λ _. mode_at s place left

  abbrev pub state_call : List ℕ → ℕ → ℕ → ℕ → Reading → Answer
  state_call s at place zero x = idle_call s at place x
  state_call s at place (suc m) x = running_call s place (suc m) x

  -- a call on a plant that was read
  unfoldable pub call : List ℕ → State → Reading → Answer
  call s st x = on_walk (header form n s) Err λ at. state_call s at st.place st.left x
