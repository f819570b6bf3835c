-- Tables behind one another in a file, each with its byte length in front (`parts_of` of meaning's page Starts): a length that was read, and the bytes that it
-- counts; tables that stand there are read back, one by one, and at most one list of as many tables stands at a place. Of any bytes, tables or not, whose
-- number fits five bytes. Relies on S1 (page Numbers). What a table must be is left to page Accepted.
use Rattle.std.specs.Prelude.{ℕ, ◌+◌, ◌^◌, ◌≤◌, ◌<◌, ◌≡◌, refl, List, [], ◌∷◌, ◌++◌, leb, length, take, drop, Some}
use Rattle.std.proofs.Common.{sym, ap, ◌∙◌, append-nil, arith, length-append, length-drop, take-append-drop, length-take-le, take_at, drop_at, drop-drop, leb-true}
use Rattle.std.proofs.Math.Seq.{drop-length}
use Rattle.meaning.specs.Answers.{Number}
use Rattle.laws.specs.Pairs.{some-first, some-second}
use Rattle.laws.specs.Every as E
use Rattle.laws.specs.Every.{Every}
use Rattle.laws.specs.Standing.{Stands, stand-front, stand-back}
use Rattle.laws.specs.Tests.{guard_passed}
use Rattle.meaning.specs.declared.Refusal.{Refusal}
use Rattle.meaning.specs.Numbers.{number_at, bytes_of}
use Rattle.meaning.specs.Refusals.{broken, unfit}
use Rattle.meaning.specs.Starts as S
use Rattle.meaning.specs.Starts.{on_length, part, parts_of}
use Rattle.promises.specs.Files.Numbers.{reads}
use Rattle.promises.specs.Files.Telling.{guard-keeps}
use Rattle.promises.specs.Tables.Walking.{number_read}
use Rattle.promises.specs.Tables.WalkTold.{number-keeps}

-- ---- the bytes that a length counts

module _ (s : List ℕ) (first size : ℕ) (inside : first + size ≤ length s) where
  pub part-size : length (part s first size) ≡ size
  part-size = length-take-le size (drop first s) (omega (arith, length-drop first s))

  pub part-stands : Stands s first (part s first size) (first + size)
  part-stands = record {
    end = omega (arith, part-size);
    bytes = sym (take-append-drop size (drop first s)) ∙ ap (λ (l : List ℕ). part s first size ++ l) (drop-drop size first s);
  }

-- bytes that stand at a place are those that their length counts there
pub stood-part : (s t : List ℕ) (first next : ℕ) → Stands s first t next → part s first (length t) ≡ t
stood-part s t first next h = ap (take (length t)) h.bytes ∙ take_at t (drop next s) (length t) refl

-- what a file has behind its front
pub back-stands : (s front back : List ℕ) (next : ℕ) → s ≡ front ++ back → next ≡ length front → Stands s next back (length s)
back-stands s front back next e l = record {
  end = omega (arith, ap length e, length-append front back);
  bytes = ap (drop next) e ∙ drop_at front back next (sym l) ∙ sym (rw (drop-length s) (append-nil back));
}

-- ---- a length that was read

-- an answer that is no refusal has read a length, and so many bytes are there
pub length-read : {A : Type 0} {a : A} (s : List ℕ) (at : ℕ) (refuse : Refusal → A) (rest : ℕ → ℕ → A) → ((e : Refusal) → refuse e ≡ a → ⊥)
    → on_length s at refuse rest ≡ a
    → (first size : ℕ) × (number_at s at ≡ Some (size, first)) × (first + size ≤ length s) × (rest first size ≡ a)
length-read s at refuse rest never e =
    let w = number_read (number_at s at) _ (never (broken at)) e in
    let g = guard_passed (leb (w.1 + w.0) (length s)) _ (never (unfit at)) w.3 in
    (w.1, w.0, w.2, leb-true (w.1 + w.0) (length s) g.0, g.1)

-- what holds of both refusals, and of what is behind a length that was read, holds of the answer
pub length-keeps : {A : Type 0} (P : A → Type 0) (s : List ℕ) (at : ℕ) (refuse : Refusal → A) (rest : ℕ → ℕ → A) → P (refuse (broken at)) → P (refuse (unfit at))
    → ((first size : ℕ) → first + size ≤ length s → P (rest first size)) → P (on_length s at refuse rest)
length-keeps P s at refuse rest a b c =
    number-keeps P s at _ a (λ size first _. guard-keeps P (leb (first + size) (length s)) (λ _. rest first size) (λ _. b) (λ e. c first size (leb-true (first + size) (length s) e)))

-- ---- a table in front of others

-- a number of at most five bytes counts its bytes
abbrev pub Short : List ℕ → Type 0
Short t = length t < 2 ^ 35

-- its length, its place, the bytes there, and where the others stand
pub record Front (s : List ℕ) (at : ℕ) (t : List ℕ) (ts : List (List ℕ)) (end : ℕ) : Type 0 where
  pub first : ℕ
  pub size : number_at s at ≡ Some (length t, first)
  pub inside : first + length t ≤ end
  pub is : part s first (length t) ≡ t
  pub behind : Stands s (first + length t) (parts_of ts) end

pub front : (s : List ℕ) (at : ℕ) (t : List ℕ) (ts : List (List ℕ)) (end : ℕ) → Short t → Stands s at (parts_of (t ∷ ts)) end → Front s at t ts end
unfolding S.parts_of
front s at t ts end short h =
    let number = bytes_of (length t) in
    let first = at + length number in
    let later = stand-back number (t ++ parts_of ts) h in
    let behind = stand-back t (parts_of ts) later in
    record {
      first = first;
      size = reads (length t) at first s short (stand-front number (t ++ parts_of ts) h);
      inside = omega (arith, behind.end);
      is = stood-part s t first (first + length t) (stand-front t (parts_of ts) later);
      behind = behind;
    }

-- as many tables at one place are the same
pub parts-alike : (s : List ℕ) (ts us : List (List ℕ)) (at m k : ℕ) → Every Short ts → Every Short us → length ts ≡ length us
    → Stands s at (parts_of ts) m → Stands s at (parts_of us) k → ts ≡ us
unfolding E.Every
parts-alike s [] [] at m k a b l p q = refl
parts-alike s [] (u ∷ us) at m k a b l p q = absurd (omega arith)
parts-alike s (t ∷ ts) [] at m k a b l p q = absurd (omega arith)
parts-alike s (t ∷ ts) (u ∷ us) at m k a b l p q = go (front s at t ts m a.0 p) (front s at u us k b.0 q) (λ at p q. parts-alike s ts us at m k a.1 b.1 (omega arith) p q)
  where
    go : Front s at t ts m → Front s at u us k → ((at : ℕ) → Stands s at (parts_of ts) m → Stands s at (parts_of us) k → ts ≡ us) → t ∷ ts ≡ u ∷ us
    go f g later =
        let value : ◌≡◌ {A = Number} (Some (length t, f.first)) (Some (length u, g.first)) = sym f.size ∙ g.size in
        let size : length t ≡ length u = some-first value in
        let place : f.first ≡ g.first = some-second value in
        let same : t ≡ u = sym f.is ∙ rw (size, place) g.is in
        let others : ts ≡ us = later (f.first + length t) f.behind (rw (size, place) g.behind) in
        rw (same, others) refl
