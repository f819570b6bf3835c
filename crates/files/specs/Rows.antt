-- The rows of a plant's modes as the code reads them: number by number, the column telling whether it is an entry of A or b. Assumes nothing.
use Rattle.std.specs.Prelude.{ℕ, zero, suc, ◌+◌, ◌*◌, ◌≤◌, ◌<◌, ◌≡◌, refl, cond, List, ltb, ℤ, length, Ok, Err}
use Rattle.std.proofs.Common.{ap, ◌∙◌, arith, suc-mul, zero-mul, zero-add, lt-ltb, le-ltb}
use Rattle.std.proofs.lemmas.List.Edits.{sets}
use Rattle.meaning.specs.Answers.{Walk}
use Rattle.meaning.specs.Files.{Form}
use Rattle.meaning.specs.Plants.{entry_limit, offset_limit, limited, times, row}
use Rattle.files.specs.Parts.{Holds, Fails}

abbrev pub limit_at : ℕ → ℕ → ℕ
limit_at n column = cond (ltb column n) entry_limit offset_limit

abbrev pub next_column : ℕ → ℕ → ℕ
next_column n column = cond (ltb column n) (column + 1) 0

-- m numbers, the first of them in that column
unfoldable pub entries_from : ℕ → ℕ → ℕ → Form → Form
entries_from n column zero rest = rest
entries_from n column (suc m) rest = limited (limit_at n column) (entries_from n (next_column n column) m rest)

-- a row from column j on: d more entries of A, then b, then k numbers of the rows behind it
row-entries : (n d j k : ℕ) (rest : Form) → d + j ≡ n → times d (limited entry_limit) (limited offset_limit (entries_from n 0 k rest)) ≡ entries_from n j (suc (d + k)) rest
unfolding times entries_from
row-entries n zero j k rest e =
    let q : n ≤ j = omega arith in
    let z : 0 + k ≡ k = zero-add k in
    rw z (simp (le-ltb _ _ q))
row-entries n (suc d) j k rest e =
    let q : j < n = omega arith in
    let z : suc d + k ≡ suc (d + k) = omega arith in
    ap (limited entry_limit) (row-entries n d (j + 1) k rest (omega arith)) ∙ rw z (simp (lt-ltb _ _ q))

pub rows-entries : (n m : ℕ) (rest : Form) → times m (row n) rest ≡ entries_from n 0 (m * (n + 1)) rest
unfolding times row entries_from
rows-entries n zero rest = rw zero-mul refl
rows-entries n (suc m) rest =
    let z : suc m * (n + 1) ≡ suc (n + m * (n + 1)) = suc-mul m (n + 1) ∙ omega arith in
    ap (row n) (rows-entries n m rest) ∙ row-entries n n 0 (m * (n + 1)) rest (omega arith) ∙ rw z refl

-- `count` rows stand in the file, and from `from` on in the array, as far as there is room; otherwise it is as it was
pub record RowsRead (s : List ℕ) (at n count from : ℕ) (coef₀ coef : List ℤ) (next : ℕ) : Type 0 where
  pub values : List ℤ
  pub long : length values ≡ count * (n + 1)
  pub part : Holds (times count (row n)) s at values next
  pub stored : coef ≡ sets coef₀ from values

abbrev pub RowsTold : List ℕ → ℕ → ℕ → ℕ → ℕ → List ℤ → List ℤ → Walk → Type 0
RowsTold s at n count from coef₀ coef (Ok next) = RowsRead s at n count from coef₀ coef next
RowsTold s at n count from coef₀ coef (Err e) = Fails (times count (row n)) s at e
