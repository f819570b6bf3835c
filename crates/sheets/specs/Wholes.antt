-- Numbers of the plant one behind another: the place of the first that is out, and what an array holds of them. Definitions alone.
use Rattle.std.specs.Prelude.{ℕ, ◌+◌, cond, List, map, ℤ, pos, Ok, Err, Result}
use Rattle.laws.specs.Lists.{tab, padded, all, first_false}
use Rattle.meaning.specs.Answers.{Whole}
use Rattle.meaning.specs.declared.Refusal.{Refusal}
use Rattle.meaning.specs.Refusals.{bad_result}
use Rattle.meaning.specs.Sheets.{is_near, near_value}

-- what is made of numbers that all fit; else 14 at the first that is out, `place` being that of the first of them
abbrev pub all_near : {A : Type 0} → ℕ → List Whole → A → Result A Refusal
all_near place ws a = let fit = map is_near ws in cond (all fit) (Ok a) (Err (bad_result (place + first_false fit)))

-- what an array of m holds of n numbers: 0 where one is out, and behind them
abbrev pub held : ℕ → (ℕ → Whole) → ℕ → List ℤ
held m f n = padded m (pos 0) (tab (λ i. near_value (f i)) n 0)
