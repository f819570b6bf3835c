-- What a writer leaves in a lent buffer (meaning's page Buffers), by its cases: refused, too short, written. Assumes nothing.
use Rattle.std.specs.Prelude.{ℕ, ◌≤◌, ◌<◌, ◌≡◌, refl, Bool, true, false, List, ◌++◌, length, take, drop, leb, Ok}
use Rattle.std.proofs.Common.{sym, ap, ◌∙◌, arith, zero-add, take_at, leb-true, le-leb}
use Rattle.std.proofs.lemmas.List.Edits.{sets, sets-eq}
use Rattle.std.proofs.lemmas.Bool.{lt-leb}
use Rattle.laws.specs.Guards.{guard}
use Rattle.laws.specs.Tests.{never}
use Rattle.meaning.specs.Refusals.{short}
use Rattle.meaning.specs.Files.{Judged, good, bad}
use Rattle.meaning.specs.Buffers.{Left, left, refused_with}

-- the bytes in front, and the rest of the buffer as it was
abbrev pub wrote : List ℕ → List ℕ → Left
wrote bytes buf = record { answer = Ok (length bytes); buffer = bytes ++ drop (length bytes) buf }

in-front : (bytes buf : List ℕ) → length bytes ≤ length buf → sets buf 0 bytes ≡ bytes ++ drop (length bytes) buf
in-front bytes buf h = sets-eq bytes buf 0 (omega arith) ∙ rw zero-add refl

pub left-fits : (bytes buf : List ℕ) → length bytes ≤ length buf → left (good bytes) buf ≡ wrote bytes buf
left-fits bytes buf h = rw (le-leb (length bytes) (length buf) h, in-front bytes buf h) refl

pub left-short : (bytes buf : List ℕ) → length buf < length bytes → left (good bytes) buf ≡ refused_with short buf
left-short bytes buf h = rw (lt-leb (length bytes) (length buf) h) refl

-- a length that was answered is that of bytes that were judged good, and they stand in front
pub left-length : (j : Judged (List ℕ)) (buf : List ℕ) (m : ℕ) → (left j buf).answer ≡ Ok m → j ≡ good (take m (left j buf).buffer)
left-length (bad e) buf m h = never cc
left-length (good bytes) buf m h = go (leb (length bytes) (length buf)) refl h
  where
    given : Bool → Left
    given t = guard t (refused_with short buf) λ _. record { answer = Ok (length bytes); buffer = sets buf 0 bytes }

    go : (t : Bool) → leb (length bytes) (length buf) ≡ t → (given t).answer ≡ Ok m → good bytes ≡ good (take m (given t).buffer)
    go true q e =
        let n : length bytes ≡ m = cc in
        ap good (sym (rw (in-front bytes buf (leb-true (length bytes) (length buf) q)) (take_at bytes (drop (length bytes) buf) m n)))
    go false q e = never cc
