-- The child of a split that holds a reading where lengths are told, as the code finds it: its box and its number, and then its place. Definitions alone.
use Rattle.std.specs.Prelude.{ℕ, zero, suc, ◌+◌, ◌-◌, ◌≤◌, ◌<◌, ◌≡◌, Bool, true, cond, List, [], ◌∷◌, ℤ, length, get_or, Ok, Err}
use Rattle.std.proofs.Math.Option.{Option, none, some}
use Rattle.laws.specs.Lists.{all}
use Rattle.meaning.specs.Answers.{Walk}
use Rattle.meaning.specs.Boxes.{Side, fits, children}
use Rattle.meaning.specs.Control.{past_file}
use Rattle.meaning.specs.Refusals.{bad_table}
use Rattle.meaning.specs.Tables.{reading_of}
use Rattle.meaning.specs.Verdicts.{Length, on_read, lengths_at}
use Rattle.tables.specs.declared.boxes.Holder.{Holder}
use Rattle.tables.specs.Boxes.{box_of}

abbrev pub holds_in : ℕ → List ℤ → List Side → Bool
holds_in n x b = all (fits b (reading_of n x))

-- the number, from 0, of the first box that has it; behind the end where none does
unfoldable pub first_held : (List Side → Bool) → List (List Side) → ℕ
first_held has [] = 0
first_held has (b ∷ bs) = cond (has b) 0 (suc (first_held has bs))

-- what tells the child of b that holds a reading, where all long sides are halved at once: a count of 1 says that there is none, and the box itself stands for it
pub record HalfOf (n : ℕ) (b : List Side) (x : List ℤ) (h : Holder) : Type 0 where
  pub stuck : h.count ≡ 1 → children b ≡ []
  pub many : (h.count ≡ 1 → ⊥) → h.count ≡ length (children b)
  pub few : h.count ≤ 16
  pub inside : h.number < h.count
  pub kid_is : (h.count ≡ 1 → ⊥) → box_of n h.kid ≡ get_or (children b) h.number []
  pub first : (h.count ≡ 1 → ⊥) → h.number ≡ first_held (holds_in n x) (children b)
  pub held : holds_in n x (box_of n h.kid) ≡ true

-- where the child of number c begins, by the lengths of those before it; the last has none
unfoldable pub place_by : ℕ → List Length → ℕ → ℕ
place_by zero ls at = at
place_by (suc c) [] at = at
place_by (suc c) (l ∷ ls) at = place_by c ls (at + l.size)

abbrev pub or_past : Option ℕ → (Unit {0} → Walk) → Walk
or_past (some place) rest = Err (bad_table place)
or_past none rest = rest tt

-- of so many children, whose lengths stand at `from`: where that of number c begins
abbrev pub place_of : ℕ → ℕ → List ℕ → ℕ → Walk
place_of count c s from = on_read (lengths_at (count - 1) s from) Err λ ls first. or_past (past_file (length s) ls first) λ _. Ok (place_by c ls first)
