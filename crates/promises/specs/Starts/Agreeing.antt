-- Files that have the same bytes at some places: what was read there is read in the other too, the numbers, the values of a form, the lengths up to a table
-- and so where the table is. Relies on S1 and S2 (pages Numbers and Files) and on page Places. Which places a call reads is
-- page Local.
use Rattle.std.specs.Prelude.{ℕ, suc, ◌+◌, ◌≤◌, ◌<◌, ◌≡◌, List, length, get_or, drop, ℤ}
use Rattle.std.proofs.Common.{sym, ◌∙◌, arith, get_or-take, get_or-drop}
use Rattle.meaning.specs.Files.{Form, read, values_at}
use Rattle.meaning.specs.Starts.{part}
use Rattle.promises.specs.Files.Files.{reads-back, writes-back}
use Rattle.promises.specs.Files.Numbers.{was}
use Rattle.promises.specs.Files.SameBytes.{Same, stand-same, number_same}
use Rattle.promises.specs.Starts.Places.{Length, TableAt, here, behind}

-- a byte of a part
pub part-byte : (s : List ℕ) (first size k : ℕ) → k < size → get_or (part s first size) k 0 ≡ get_or s (first + k) 0
part-byte s first size k l = get_or-take size (drop first s) k 0 l ∙ get_or-drop first s k 0

-- byte k is one of the lengths of tables 0..i, the first of them at `at`
pub data LengthByte (s : List ℕ) : ℕ → ℕ → ℕ → Type 0 where
  first-length : {i at first size k : ℕ} → Length s at first size → at ≤ k → k < first → LengthByte s i at k
  next-lengths : {i at first size k : ℕ} → Length s at first size → LengthByte s i (first + size) k → LengthByte s (suc i) at k

module _ (s z : List ℕ) where
  pub values_same : (form : Form) (vs : List ℤ) (next : ℕ) → next ≤ length z → Same s z 0 next → values_at form s 0 ≡ read vs next → values_at form z 0 ≡ read vs next
  values_same form vs next l a e =
      let w = writes-back form s 0 e in
      reads-back form vs z 0 next w.0 (stand-same s z _ 0 next l a w.1) ∙ sym (reads-back form vs s 0 next w.0 w.1) ∙ e

  -- ---- the lengths

  -- a table stands behind its length
  length_before : {at first size : ℕ} → Length s at first size → at ≤ first
  length_before {at} {first} {size} h = omega (arith, (was size at first s h.is).1.end)

  pub table-behind : {i at first size : ℕ} → TableAt s i at first size → at ≤ first
  table-behind (here h) = length_before h
  table-behind (behind h more) = omega (arith, length_before h, table-behind more)

  length-same : (at first size : ℕ) → first + size ≤ length z → Same s z at first → Length s at first size → Length z at first size
  length-same at first size l a h = record { is = number_same s z size at first (omega arith) a h.is; inside = l }

  pub table_same : {i at first size : ℕ} → TableAt s i at first size → first + size ≤ length z → ((k : ℕ) → LengthByte s i at k → get_or z k 0 ≡ get_or s k 0)
      → TableAt z i at first size
  table_same (here {at = at} {first = first} {size = size} h) l a = here (length-same at first size l (λ k g e. a k (first-length h g e)) h)
  table_same (behind {at = at} {f = f} {z = m} h more) l a =
      behind (length-same at f m (omega (arith, table-behind more)) (λ k g e. a k (first-length h g e)) h) (table_same more l (λ k b. a k (next-lengths h b)))
