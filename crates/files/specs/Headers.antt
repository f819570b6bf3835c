-- The header of a plant or a sheet, as the code reads it: a form in 1..forms, n, a number in 1..most, q, K, D; or the refusal. Assumes nothing.
use Rattle.std.specs.Prelude.{ℕ, ◌≤◌, ◌≡◌, List, [], ◌∷◌, ◌++◌, pos, Ok, Err, Result}
use Rattle.meaning.specs.declared.Refusal.{Refusal}
use Rattle.meaning.specs.Files.{Form, refused, values_at}
use Rattle.meaning.specs.Numbers.{bytes_of}
use Rattle.meaning.specs.Plants.{headed}
use Rattle.files.specs.declared.headers.Header.{Header}
use Rattle.files.specs.Parts.{behind}

-- the header's numbers, and what is known of them
pub record Headed (forms most : ℕ) (s : List ℕ) (h : Header) (next : ℕ) : Type 0 where
  pub form-low : 1 ≤ h.form
  pub form-high : h.form ≤ forms
  pub n-low : 1 ≤ h.n
  pub n-high : h.n ≤ 4
  pub m-low : 1 ≤ h.m
  pub m-high : h.m ≤ most
  pub q-low : 1 ≤ h.q
  pub q-high : h.q ≤ 10000
  pub k-low : 1 ≤ h.k
  pub k-high : h.k ≤ 6
  pub d-high : h.d ≤ 6
  pub holds : (rest : ℕ → ℕ → ℕ → Form)
      → values_at (headed forms most rest) s 0 ≡ behind (pos h.form ∷ pos h.n ∷ pos h.m ∷ pos h.q ∷ pos h.k ∷ pos h.d ∷ []) (values_at (rest h.form h.n h.m) s next)

abbrev pub HeaderTold : ℕ → ℕ → List ℕ → Result (Header × ℕ) Refusal → Type 0
HeaderTold forms most s (Ok (h, next)) = Headed forms most s h next
HeaderTold forms most s (Err e) = (rest : ℕ → ℕ → ℕ → Form) → values_at (headed forms most rest) s 0 ≡ refused e

abbrev pub head_bytes : Header → List ℕ
head_bytes h = bytes_of h.form ++ (bytes_of h.n ++ (bytes_of h.m ++ (bytes_of h.q ++ (bytes_of h.k ++ bytes_of h.d))))
