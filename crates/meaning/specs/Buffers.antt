-- Lent buffers (document 01): a finished write changes only the bytes written, a refused one zeros the whole buffer. 10 where it is too short.
use Rattle.std.specs.Prelude.{ℕ, List, length, replicate, leb, Ok, Err}
use Rattle.std.proofs.lemmas.List.Edits.{sets}
use Rattle.laws.specs.Guards.{guard}
use Rattle.meaning.specs.Answers.{Written}
use Rattle.meaning.specs.declared.Refusal.{Refusal}
use Rattle.meaning.specs.Refusals.{short}
use Rattle.meaning.specs.Files.{Judged, good, bad}

-- a writer's answer, and the buffer as it leaves it
pub record Left : Type 0 where
  pub answer : Written
  pub buffer : List ℕ

abbrev pub refused_with : Refusal → List ℕ → Left
refused_with e buf = record { answer = Err e; buffer = replicate (length buf) 0 }

-- the bytes to write, or why there are none; and the buffer that was lent
abbrev pub left : Judged (List ℕ) → List ℕ → Left
left (bad e) buf = refused_with e buf
left (good bytes) buf =
    guard (leb (length bytes) (length buf)) (refused_with short buf) λ _.
    record { answer = Ok (length bytes); buffer = sets buf 0 bytes }
