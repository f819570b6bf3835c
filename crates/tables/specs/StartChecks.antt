-- The tables of a start file as the code checks them: one behind its length, by a frame's rules of the form that it says. Definitions alone.
use Rattle.std.specs.Prelude.{ℕ, ◌+◌, List, eqb, ℤ, Ok, Err}
use Rattle.laws.specs.Guards.{guard}
use Rattle.meaning.specs.Answers.{Walk}
use Rattle.meaning.specs.Refusals.{unfit, moved}
use Rattle.meaning.specs.Rules.{Rules}
use Rattle.meaning.specs.Starts.{on_length, part}
use Rattle.meaning.specs.Tables.{form_of}
use Rattle.meaning.specs.Verdicts.{on_walk, table_end}
use Rattle.tables.specs.declared.frames.Frame.{Frame}
use Rattle.tables.specs.Chains.{frame_at}
use Rattle.tables.specs.Frames.{rules_by}

-- the rules of Ri's table, of a form
abbrev pub rules_at : Frame → List ℤ → List ℤ → List ℤ → ℕ → ℕ → Rules
rules_at f edges bands coef i = rules_by (frame_at f edges i) bands coef

-- the place behind the table whose length stands at `at`: the table ends where its length says
abbrev pub table_at : (ℕ → Rules) → List ℕ → ℕ → Walk
table_at r s at =
    on_length s at Err λ first size.
    on_walk (table_end (r (form_of (part s first size))) (part s first size)) (λ e. Err (moved first e)) λ next.
    guard (eqb next size) (Err (unfit at)) λ _.
    Ok (first + size)
