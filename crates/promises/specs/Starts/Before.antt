-- What every answer about a start file asks first: the plant, then the chain, then 15. What holds of each way out and of what is behind holds of the answer; and
-- an answer that is no refusal has passed them. Of any answer; assumes nothing. What a chain is refused by is page ChainTold.
use Rattle.std.specs.Prelude.{ℕ, ◌+◌, ◌≡◌, refl, true, false, List, ℤ}
use Rattle.laws.specs.Lists.{tab, all, first_false}
use Rattle.meaning.specs.declared.Refusal.{Refusal}
use Rattle.meaning.specs.Boxes.{Side}
use Rattle.meaning.specs.Files.{Read, read, refused, Judged, good, bad}
use Rattle.meaning.specs.Refusals.{not_held}
use Rattle.meaning.specs.Starts.{above, held, on_chain}
use Rattle.meaning.specs.Tables.{on_plant}
use Rattle.meaning.specs.Plants.{Plant}
use Rattle.promises.specs.Files.Telling.{guard-keeps}

module _ {A : Type 0} (P : A → Type 0) where
  pub plant-keeps : (j : Judged Plant) (refuse : Refusal → A) (rest : Plant → A) → ((e : Refusal) → j ≡ bad e → P (refuse e))
      → ((p : Plant) → j ≡ good p → P (rest p)) → P (on_plant j refuse rest)
  plant-keeps (bad e) refuse rest a b = a e refl
  plant-keeps (good p) refuse rest a b = b p refl

  pub chain-keeps : (n : ℕ) (root safe : List Side) (t : Read (List ℤ)) (refuse : Refusal → A) (rest : List ℤ → ℕ → A) → ((e : Refusal) → t ≡ refused e → P (refuse e))
      → ((vs : List ℤ) (next : ℕ) → t ≡ read vs next → all (tab (held n root vs safe) (above vs) 0) ≡ false
      → P (refuse (not_held (first_false (tab (held n root vs safe) (above vs) 0) + 1))))
      → ((vs : List ℤ) (next : ℕ) → t ≡ read vs next → all (tab (held n root vs safe) (above vs) 0) ≡ true → P (rest vs next))
      → P (on_chain n root safe t refuse rest)
  chain-keeps n root safe (refused e) refuse rest a b c = a e refl
  chain-keeps n root safe (read vs next) refuse rest a b c =
      guard-keeps P (all (tab (held n root vs safe) (above vs) 0)) (λ _. rest vs next) (b vs next refl) (c vs next refl)

module _ {A : Type 0} {a : A} (refuse : Refusal → A) (never : (e : Refusal) → refuse e ≡ a → ⊥) where
  pub plant-went : (j : Judged Plant) (rest : Plant → A) → on_plant j refuse rest ≡ a → (p : Plant) × (j ≡ good p) × (rest p ≡ a)
  plant-went j rest = plant-keeps (λ x. x ≡ a → (p : Plant) × (j ≡ good p) × (rest p ≡ a)) j refuse rest (λ e _ q. absurd (never e q)) (λ p e q. (p, e, q))

  pub chain-went : (n : ℕ) (root safe : List Side) (t : Read (List ℤ)) (rest : List ℤ → ℕ → A) → on_chain n root safe t refuse rest ≡ a
      → (vs : List ℤ) × (next : ℕ) × (t ≡ read vs next) × (all (tab (held n root vs safe) (above vs) 0) ≡ true) × (rest vs next ≡ a)
  chain-went n root safe t rest =
      chain-keeps (λ x. x ≡ a → (vs : List ℤ) × (next : ℕ) × (t ≡ read vs next) × (all (tab (held n root vs safe) (above vs) 0) ≡ true) × (rest vs next ≡ a))
      n root safe t refuse rest (λ e _ q. absurd (never e q)) (λ vs next _ _ q. absurd (never _ q)) (λ vs next e k q. (vs, next, e, k, q))
