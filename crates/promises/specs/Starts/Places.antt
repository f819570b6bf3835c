-- Where the tables of a start file are found (document 02, request 2026-03): the table that i others stand before is where i + 1 byte lengths lead, each
-- read and each with its table inside the file. Of any file, and of one that tables fill from a place on. Relies on S1 (page Numbers) and page Parts.
-- What the tables say is left out.
use Prim.Native.Nat.{ℕ, zero, suc, ◌+◌, ◌≤◌, ◌<◌}
use Rattle.std.specs.Prelude.{◌≡◌, List, [], ◌∷◌, length, get_or, Some}
use Rattle.std.proofs.Common.{◌∙◌, arith, le-leb}
use Rattle.laws.specs.Every as E
use Rattle.laws.specs.Every.{Every}
use Rattle.laws.specs.Standing.{Stands}
use Rattle.meaning.specs.declared.Refusal.{Refusal}
use Rattle.meaning.specs.Numbers.{number_at, bytes_of}
use Rattle.meaning.specs.Starts.{on_length, part, parts_of, on_part}
use Rattle.promises.specs.Files.Numbers.{was}
use Rattle.promises.specs.Starts.Parts.{length-read, Short, front}

-- ---- of any file

module _ (s : List ℕ) where
  -- The length at `at` was read, its table, of so many bytes, begins at `first` and is inside the file.
  pub record Length (at first size : ℕ) : Type 0 where
    pub is : number_at s at ≡ Some (size, first)
    pub inside : first + size ≤ length s

  -- i others stand before the table, the length of the first of them at `at`
  pub data TableAt : ℕ → ℕ → ℕ → ℕ → Type 0 where
    here : {at first size : ℕ} → Length at first size → TableAt zero at first size
    behind : {i at f z first size : ℕ} → Length at f z → TableAt i (f + z) first size → TableAt (suc i) at first size

  pub table-inside : {i at first size : ℕ} → TableAt i at first size → first + size ≤ length s
  table-inside (here h) = h.inside
  table-inside (behind h more) = table-inside more

  module _ {A : Type 0} (refuse : Refusal → A) where
    on-length : {at first size : ℕ} (rest : ℕ → ℕ → A) → Length at first size → on_length s at refuse rest ≡ rest first size
    on-length {first = first} {size = size} rest h = simp (h.is, le-leb (first + size) (length s) h.inside)

    -- a table that is there is the one that is called
    pub on-part : {i at first size : ℕ} (rest : ℕ → ℕ → A) → TableAt i at first size → on_part i s at refuse rest ≡ rest first size
    unfolding on_part
    on-part rest (here h) = on-length rest h
    on-part rest (behind {i = i} h more) = on-length (λ f z. on_part i s (f + z) refuse rest) h ∙ on-part rest more

    -- and where the answer is no refusal of the lengths, it was there
    pub part-went : {a : A} → ((e : Refusal) → refuse e ≡ a → ⊥) → (i at : ℕ) (rest : ℕ → ℕ → A) → on_part i s at refuse rest ≡ a
        → (first size : ℕ) × TableAt i at first size × (rest first size ≡ a)
    unfolding on_part
    part-went never zero at rest e =
        let w = length-read s at refuse rest never e in
        (w.0, w.1, here (record { is = w.2; inside = w.3 }), w.4)
    part-went never (suc i) at rest e =
        let w = length-read s at refuse (λ f z. on_part i s (f + z) refuse rest) never e in
        let m = part-went never i (w.0 + w.1) rest w.4 in
        (m.0, m.1, behind (record { is = w.2; inside = w.3 }) m.2, m.3)

-- ---- of tables that fill the file

-- the place of the i-th of them, the first length being at a place
unfoldable pub place_of : List (List ℕ) → ℕ → ℕ → ℕ
place_of [] at i = at
place_of (t ∷ ts) at zero = at + length (bytes_of (length t))
place_of (t ∷ ts) at (suc i) = place_of ts (at + length (bytes_of (length t)) + length t) i

-- the lengths lead to it, and its bytes are there
pub laid : (ts : List (List ℕ)) (s : List ℕ) (i at : ℕ) → Every Short ts → Stands s at (parts_of ts) (length s) → i < length ts
    → TableAt s i at (place_of ts at i) (length (get_or ts i [])) × (part s (place_of ts at i) (length (get_or ts i [])) ≡ get_or ts i [])
unfolding place_of E.Every
laid [] s i at short h l = absurd (omega arith)
laid (t ∷ ts) s zero at short h l =
    let f = front s at t ts (length s) short.0 h in
    let e : f.first ≡ at + length (bytes_of (length t)) = (was (length t) at f.first s f.size).1.end in
    rw (← e) (here (record { is = f.size; inside = f.inside }), f.is)
laid (t ∷ ts) s (suc i) at short h l =
    let f = front s at t ts (length s) short.0 h in
    let e : f.first ≡ at + length (bytes_of (length t)) = (was (length t) at f.first s f.size).1.end in
    let m = laid ts s i (f.first + length t) short.1 f.behind (omega arith) in
    rw (← e) (behind (record { is = f.size; inside = f.inside }) m.0, m.1)
