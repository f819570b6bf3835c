-- A plant that is judged good has as many modes as its file says before it is judged. Relies on promises' pages Files and Related.
use Rattle.std.specs.Prelude.{ℕ, ◌^◌, ◌≡◌, refl, true, cond, List, ◌∷◌, ltb, ℤ, nat_abs, Some, None}
use Rattle.std.proofs.Common.{ap, ◌∙◌}
use Rattle.laws.specs.Lists.{at}
use Rattle.laws.specs.Standing.{Stands}
use Rattle.meaning.specs.Numbers.{number_at, bytes_of}
use Rattle.meaning.specs.Files.{values_of, good}
use Rattle.meaning.specs.Plants.{headed, plant_form, Plant, plant_of, plant_judged}
use Rattle.promises.specs.Files.Files.{number-back, field-read, file-writes}
use Rattle.promises.specs.Files.Related.{good-plant}
use Rattle.files.specs.Plants.{modes_told}

-- a fact under a name: antt would write a `let`'s value out at each use
given : {A B : Type 0} → A → (A → B) → B
given a rest = rest a

number-was : (v i next : ℕ) (s : List ℕ) → Stands s i (bytes_of v) next → ltb v (2 ^ 35) ≡ true → number_at s i ≡ Some (v, next)
number-was v i next s t e = number-back v i next s t ∙ ap (λ b. cond b (Some (v, next)) None) e

third : {vs us ws xs : List ℤ} {u v w : ℤ} → vs ≡ u ∷ us → us ≡ v ∷ ws → ws ≡ w ∷ xs → nat_abs w ≡ nat_abs (at vs 2)
third e f g = rw (e, f, g) refl

pub modes-told : (s : List ℕ) (p : Plant) → plant_judged s ≡ good p → modes_told s ≡ p.modes
unfolding plant_judged plant_form plant_of headed modes_told
modes-told s p e =
    given (good-plant (values_of plant_form s) p e) λ g.
    given (field-read _ _ s 0 (file-writes plant_form s g.was).0) λ a.
    given (field-read _ _ s a.mid a.behind) λ b.
    given (field-read _ _ s b.mid b.behind) λ c.
    rw (number-was (nat_abs a.value) 0 a.mid s a.stands a.short, number-was (nat_abs b.value) a.mid b.mid s b.stands b.short, number-was (nat_abs c.value) b.mid c.mid s c.stands c.short)
    (third a.values b.values c.values ∙ ap (λ (x : Plant). x.modes) g.plant)
