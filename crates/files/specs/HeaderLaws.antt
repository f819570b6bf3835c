-- The header's numbers one after another: where one fails, the form is refused by its fault; where all are taken, their values stand in front of what
-- follows. Assumes nothing.
use Rattle.std.specs.Prelude.{ℕ, ◌*◌, ◌≤◌, ◌<◌, ◌≡◌, true, false, List, [], ◌∷◌, ◌++◌, ℤ, pos, Some, None}
use Rattle.std.proofs.Math.Path.{sym, ap}
use Rattle.std.proofs.Common.{◌∙◌, arith, mul-le-mul, Fits, le-leb}
use Rattle.std.specs.Int.{w64}
use Rattle.std.proofs.lemmas.Bool.{lt-leb}
use Rattle.meaning.specs.declared.Refusal.{Refusal}
use Rattle.meaning.specs.Refusals.{broken, wrong_form, unfit}
use Rattle.meaning.specs.Numbers.{number_at}
use Rattle.meaning.specs.Files.{Form, refused, before, values_at}
use Rattle.meaning.specs.Plants.{counted, from, depth, headed}
use Rattle.promises.specs.Files.Headers.{least-of, most-of}
use Rattle.files.specs.Fields.{counted_at, fault_at}
use Rattle.files.specs.FieldLaws.{taken-right, taken-wrong, counted-was, counted-fault, range-holds, range-fails}
use Rattle.files.specs.Parts.{behind, behind-append, behind-refused}
use Rattle.files.specs.Headers.{Headed}

-- ---- what follows the number before: D, K, q, m, n

abbrev Rest : Type 0
Rest = ℕ → ℕ → ℕ → Form

abbrev pub from-d : ℕ → ℕ → ℕ → Rest → Form
from-d form n m rest = counted (depth n) λ d. rest form n m

abbrev pub from-k : ℕ → ℕ → ℕ → Rest → Form
from-k form n m rest = counted (from 1 6) λ k. from-d form n m rest

abbrev pub from-q : ℕ → ℕ → ℕ → Rest → Form
from-q form n m rest = counted (from 1 10000) λ q. from-k form n m rest

abbrev pub from-m : ℕ → ℕ → ℕ → Rest → Form
from-m most form n rest = counted (from 1 most) λ m. from-q form n m rest

abbrev pub from-n : ℕ → ℕ → Rest → Form
from-n most form rest = counted (from 1 4) λ n. from-m most form n rest

-- ---- the header read so far: the values vs up to `at`, where it goes on with `more`

pub record Reached (forms most : ℕ) (s : List ℕ) (more : Rest → Form) (vs : List ℤ) (at : ℕ) : Type 0 where
  pub goes : (rest : Rest) → values_at (headed forms most rest) s 0 ≡ behind vs (values_at (more rest) s at)

module _ (forms most : ℕ) (s : List ℕ) where
  pub form-broken : number_at s 0 ≡ None → (rest : Rest) → values_at (headed forms most rest) s 0 ≡ refused (broken 0)
  unfolding headed values_at
  form-broken e rest = simp e

  pub form-wrong : (form a : ℕ) → number_at s 0 ≡ Some (form, a) → from 1 forms form ≡ false → (rest : Rest) → values_at (headed forms most rest) s 0 ≡ refused wrong_form
  unfolding headed values_at
  form-wrong form a e n rest = simp (e, n)

  pub form-reached : (form a : ℕ) → number_at s 0 ≡ Some (form, a) → from 1 forms form ≡ true → Reached forms most s (from-n most form) (pos form ∷ []) a
  unfolding headed values_at behind
  form-reached form a e n = record { goes = λ rest. simp (e, n) }

module _ {forms most : ℕ} {s : List ℕ} {vs : List ℤ} {at : ℕ} where
  -- the form is refused where it goes on
  refused-there : {more : Rest → Form} {e : Refusal} (w : Reached forms most s more vs at) (rest : Rest) → values_at (more rest) s at ≡ refused e → values_at (headed forms most rest) s 0 ≡ refused e
  refused-there {e = e} w rest q = w.goes rest ∙ ap (behind vs) q ∙ behind-refused vs e

  -- or goes on behind one value more
  taken-there : {more further : Rest → Form} (v : ℤ) (next : ℕ) → Reached forms most s more vs at → ((rest : Rest) → values_at (more rest) s at ≡ before v (values_at (further rest) s next)) → Reached forms most s further (vs ++ (v ∷ [])) next
  unfolding behind
  taken-there {further = further} v next w q = record {
    goes = λ rest. w.goes rest ∙ ap (behind vs) (q rest) ∙ sym (behind-append vs (v ∷ []) (values_at (further rest) s next));
  }

  module _ (least high : ℕ) (further : ℕ → Rest → Form) (w : Reached forms most s (λ rest. counted (from least high) λ v. further v rest) vs at) where
    pub number-fails : counted_at s at least high ≡ None → (rest : Rest) → values_at (headed forms most rest) s 0 ≡ refused (fault_at s at)
    number-fails e rest = refused-there w rest (range-fails (λ v. further v rest) s at least high e)

    pub number-reached : (v next : ℕ) → counted_at s at least high ≡ Some (v, next) → Reached forms most s (further v) (vs ++ (pos v ∷ [])) next
    number-reached v next e = taken-there (pos v) next w (λ rest. range-holds (λ v. further v rest) s at least high v next e)

  -- too deep: D over 6, or n·D over 12
  module _ (form n m : ℕ) (w : Reached forms most s (from-d form n m) vs at) where
    deep : (d : ℕ) → 6 < d → depth n d ≡ false
    deep d h = simp (lt-leb _ _ h)

    pub d-fails : counted_at s at 0 6 ≡ None → (rest : Rest) → values_at (headed forms most rest) s 0 ≡ refused (fault_at s at)
    d-fails e rest = refused-there w rest (counted-fault (depth n) (λ d. rest form n m) s at 0 6 (λ v h. absurd (omega arith)) deep e)

    module _ (d next : ℕ) (e : counted_at s at 0 6 ≡ Some (d, next)) where
      pub too-deep : 12 < n * d → (rest : Rest) → values_at (headed forms most rest) s 0 ≡ refused (unfit at)
      too-deep h rest =
          let c = counted-was s at 0 6 d next e in
          refused-there w rest (taken-wrong (depth n) (λ d. rest form n m) s at d next c.number (simp (le-leb _ _ c.high, lt-leb _ _ h)))

      pub d-reached : n * d ≤ 12 → Reached forms most s (λ rest. rest form n m) (vs ++ (pos d ∷ [])) next
      d-reached h =
          let c = counted-was s at 0 6 d next e in
          taken-there (pos d) next w (λ rest. taken-right (depth n) (λ d. rest form n m) s at d next c.number (simp (le-leb _ _ c.high, le-leb _ _ h)))

-- what is known of the header's numbers
pub headed-as : (forms most : ℕ) (s : List ℕ) (form a n b m c q f k g d next : ℕ) → from 1 forms form ≡ true → counted_at s a 1 4 ≡ Some (n, b) → counted_at s b 1 most ≡ Some (m, c)
    → counted_at s c 1 10000 ≡ Some (q, f) → counted_at s f 1 6 ≡ Some (k, g) → counted_at s g 0 6 ≡ Some (d, next)
    → Reached forms most s (λ rest. rest form n m) (pos form ∷ pos n ∷ pos m ∷ pos q ∷ pos k ∷ pos d ∷ []) next
    → Headed forms most s (record { form = form; n = n; m = m; q = q; k = k; d = d }) next
headed-as forms most s form a n b m c q f k g d next e₀ e₁ e₂ e₃ e₄ e₅ w =
    let w₁ = counted-was s a 1 4 n b e₁ in
    let w₂ = counted-was s b 1 most m c e₂ in
    let w₃ = counted-was s c 1 10000 q f e₃ in
    let w₄ = counted-was s f 1 6 k g e₄ in
    let w₅ = counted-was s g 0 6 d next e₅ in
    record {
      form-low = least-of 1 forms form e₀;
      form-high = most-of 1 forms form e₀;
      n-low = w₁.low;
      n-high = w₁.high;
      m-low = w₂.low;
      m-high = w₂.high;
      q-low = w₃.low;
      q-high = w₃.high;
      k-low = w₄.low;
      k-high = w₄.high;
      d-high = w₅.high;
      holds = w.goes;
    }

-- n·D is small
pub small_product : (s : List ℕ) (a g n b d next : ℕ) → counted_at s a 1 4 ≡ Some (n, b) → counted_at s g 0 6 ≡ Some (d, next) → Fits w64 (n * d)
small_product s a g n b d next e₁ e₅ =
    let l = mul-le-mul (counted-was s a 1 4 n b e₁).high (counted-was s g 0 6 d next e₅).high in
    record { fits = omega arith }
