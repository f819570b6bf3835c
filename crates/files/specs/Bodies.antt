-- What stands behind a beginning and is judged as a whole with it, whatever it is (a plant's rows, a sheet's rooms): refused by its first part that is, then
-- by leftover bytes, then by the beginning's verdict on R, S and w. Assumes nothing.
use Rattle.std.specs.Prelude.{ℕ, ◌≡◌, List, ◌++◌, length, ℤ}
use Rattle.std.proofs.Common.{sym, ap, ◌∙◌, ne_eqb, eq-eqb}
use Rattle.meaning.specs.Answers.{Verdict}
use Rattle.meaning.specs.declared.Refusal.{Refusal}
use Rattle.meaning.specs.Refusals.{unfit}
use Rattle.meaning.specs.Files.{Form, Read, read, refused, ended, values_at, values_of, Judged, good, bad}
use Rattle.files.specs.declared.beginnings.Beginning.{Beginning}
use Rattle.files.specs.Parts.{behind, behind-read, behind-refused}
use Rattle.files.specs.Beginnings.{beginning_form, beginning_numbers, by_verdict, related_in, relation, related-by, Begun}

module _ {A : Type 0} (judged : Read (List ℤ) → Judged A) (more : ℕ → ℕ → ℕ → Form) (s : List ℕ) where
  -- the whole file, its beginning having been read
  abbrev pub body_judged : Beginning → ℕ → Judged A
  body_judged b at = judged (ended s (behind (beginning_numbers b) (values_at (more b.form b.n b.m) s at)))

  pub begun-judged : {forms most : ℕ} (b : Beginning) (next : ℕ) → Begun forms most s b next → judged (values_of (beginning_form forms most more) s) ≡ body_judged b next
  begun-judged b next t = ap (λ (x : Read (List ℤ)). judged (ended s x)) (t.holds more)

  module _ (refuses : (e : Refusal) → judged (refused e) ≡ bad e) where
    pub not-begun : (forms most : ℕ) (e : Refusal) → ((rest : ℕ → ℕ → ℕ → Form) → values_at (beginning_form forms most rest) s 0 ≡ refused e) → judged (values_of (beginning_form forms most more) s) ≡ bad e
    not-begun forms most e t = ap (λ (x : Read (List ℤ)). judged (ended s x)) (t more) ∙ refuses e

    module _ (b : Beginning) (from : ℕ) where
      pub body_refused : (e : Refusal) → values_at (more b.form b.n b.m) s from ≡ refused e → body_judged b from ≡ bad e
      body_refused e q = ap (λ (x : Read (List ℤ)). judged (ended s x)) (ap (behind (beginning_numbers b)) q ∙ behind-refused (beginning_numbers b) e) ∙ refuses e

      module _ (vs : List ℤ) (next : ℕ) (q : values_at (more b.form b.n b.m) s from ≡ read vs next) where
        values : behind (beginning_numbers b) (values_at (more b.form b.n b.m) s from) ≡ read (beginning_numbers b ++ vs) next
        values = ap (behind (beginning_numbers b)) q ∙ behind-read (beginning_numbers b) vs next

        pub body-left-over : (next ≡ length s → ⊥) → body_judged b from ≡ bad (unfit next)
        body-left-over g = ap (λ (x : Read (List ℤ)). judged (ended s x)) values ∙ simp (ne_eqb _ _ g) (refuses (unfit next))

        -- all is there, and what the values make is judged
        pub body-values : next ≡ length s → body_judged b from ≡ judged (read (beginning_numbers b ++ vs) next)
        body-values whole = ap (λ (z : Read (List ℤ)). judged (ended s z)) values ∙ simp (eq-eqb _ _ whole)

        -- as the beginning is
        pub body-by-verdict : (a : A) → next ≡ length s → judged (read (beginning_numbers b ++ vs) next) ≡ related_in b (λ _. good a)
            → (x y : Verdict) → x ≡ relation b → x ≡ y → body_judged b from ≡ by_verdict y λ _. good a
        body-by-verdict a whole made x y e g =
            body-values whole ∙ made
            ∙ related-by b (λ _. good a) ∙ ap (λ (z : Verdict). by_verdict z λ _. good a) (sym e ∙ g)
