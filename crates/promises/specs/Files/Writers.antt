-- Writers of values that are judged as the file they would be (document 01, "A plant or sheet handed to a writer as values ..."), whatever is judged: they
-- refuse what the reader refuses, then 10, and else leave the file. Relies on page Buffers.
use Rattle.std.specs.Prelude.{ℕ, ◌≤◌, ◌<◌, ◌≡◌, refl, List, length, take, Ok}
use Rattle.std.proofs.Common.{ap, ◌∙◌}
use Rattle.laws.specs.Tests.{never}
use Rattle.meaning.specs.declared.Refusal.{Refusal}
use Rattle.meaning.specs.Refusals.{short}
use Rattle.meaning.specs.Buffers.{Left, left, refused_with}
use Rattle.meaning.specs.Files.{Judged, good, bad, file_judged}
use Rattle.promises.specs.Files.Buffers.{wrote, left-fits, left-short, left-length}

module _ {A : Type 0} (judged : List ℕ → Judged A) (bytes buf : List ℕ) where
  -- what a writer leaves
  abbrev leaves : Left
  leaves = left (file_judged bytes (judged bytes)) buf

  pub refuses : (e : Refusal) → judged bytes ≡ bad e → leaves ≡ refused_with e buf
  refuses e h = ap (λ (j : Judged A). left (file_judged bytes j) buf) h

  -- where the file is good, only 10, and only where the buffer is shorter than the file
  pub too_short : (a : A) → judged bytes ≡ good a → length buf < length bytes → leaves ≡ refused_with short buf
  too_short a h l = ap (λ (j : Judged A). left (file_judged bytes j) buf) h ∙ left-short bytes buf l

  pub long-enough : (a : A) → judged bytes ≡ good a → length bytes ≤ length buf → leaves ≡ wrote bytes buf
  long-enough a h l = ap (λ (j : Judged A). left (file_judged bytes j) buf) h ∙ left-fits bytes buf l

  -- a length that was answered: the file is good, and it stands in front
  pub was-written : (m : ℕ) → leaves.answer ≡ Ok m → (a : A) × (judged bytes ≡ good a) × (take m leaves.buffer ≡ bytes)
  was-written m e = go (judged bytes) refl e
    where
      go : (j : Judged A) → judged bytes ≡ j → (left (file_judged bytes j) buf).answer ≡ Ok m
          → (a : A) × (judged bytes ≡ good a) × (take m (left (file_judged bytes j) buf).buffer ≡ bytes)
      go (bad r) q e = never (let k = left-length (bad r) buf m e in cc)
      go (good a) q e = (a, q, let k = left-length (good bytes) buf m e in cc)
