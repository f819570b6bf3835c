-- Of page Shown (specs/Paper): a call, whatever it answers. It rests on page Told of this folder.
use Rattle.std.specs.Prelude.{ℕ, ◌≡◌, ◌↔◌, ℤ, pos, Ok, Err}
use mathlib.Core.List.{List, [], ◌∷◌}
use Rattle.meaning.specs.declared.Refusal.{Refusal}
use Rattle.meaning.specs.declared.State.{State}
use Rattle.meaning.specs.Refusals.{answer_shown}
use Rattle.meaning.specs.Tables.{controlled}
use Rattle.promises.specs.Paper.Shows.{shows, refusing, no_mode, Numbered, answer-exactly, mode-some, call-some}
use Rattle.promises.proofs.Told.{controller-some}

-- of any call: what is shown says which answer it is
module _ (plant table : List ℕ) (st : State) (x : List ℤ) where
  pub mode-answered-shown : (u : ℕ) (then : State)
      → (answer_shown (controlled plant table st x) ≡ shows 0 0 0 (pos u ∷ pos then.place ∷ pos then.left ∷ [])) ↔ (controlled plant table st x ≡ Ok (u, then))
  mode-answered-shown u then = answer-exactly (controlled plant table st x) (Ok (u, then)) (controller-some plant table st x) (mode-some u then)

  -- a refused one returns idle, with no mode
  pub call-refused-shown : (e : Refusal) → Numbered e
      → (answer_shown (controlled plant table st x) ≡ refusing e no_mode) ↔ (controlled plant table st x ≡ Err e)
  call-refused-shown e s = answer-exactly (controlled plant table st x) (Err e) (controller-some plant table st x) (call-some e s)
