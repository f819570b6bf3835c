-- Files of numbers: a form says, one number after another, how it is stored and what is wrong with it where it is wrong.
-- Document 01, "What each number says": files are judged number by number in order, 1 before the others at the same number;
-- a number's place is its first byte, that of leftover bytes the first of them. The same form gives the bytes of a list of values,
-- so that what is handed to a writer as values is judged as the file it would be.
use Rattle.std.specs.Prelude.{ℕ, zero, suc, ◌+◌, ◌*◌, ◌/◌, ◌%◌, Bool, ◌&&◌, cond, List, [], ◌∷◌, ◌++◌, map, length, take, drop, ltb, eqb, ℤ, pos, nat_abs, Some, None}
use Rattle.laws.specs.Guards.{guard}
use Rattle.laws.specs.Lists.{all}
use Rattle.meaning.specs.Answers.{Number, Signed}
use Rattle.meaning.specs.declared.Refusal.{Refusal}
use Rattle.meaning.specs.Refusals.{broken, unfit}
use Rattle.meaning.specs.Numbers.{number_at, signed_at, bytes_of, stored}

-- how a value is stored: a number, a signed number, or a float as 8 bytes, low byte first, whose value here is its bit pattern
pub data Kind : Type 0 where
  plain signed float : Kind

-- a value and the place behind it; or none, where it is broken
pub data Taken : Type 0 where
  taken : ℤ → ℕ → Taken
  none : Taken

-- low byte first
unfoldable pub little : List ℕ → ℕ
little [] = 0
little (c ∷ cs) = c + 256 * little cs

unfoldable pub low_first : ℕ → ℕ → List ℕ
low_first zero v = []
low_first (suc m) v = (v % 256) ∷ low_first m (v / 256)

-- eight bytes in a row
abbrev pub float_at : List ℕ → ℕ → Taken
float_at s at =
    let cs = take 8 (drop at s) in
    cond (eqb (length cs) 8 && all (map (λ c. ltb c 256) cs)) (taken (pos (little cs)) (at + 8)) none

abbrev pub plain_taken : Number → Taken
plain_taken (Some (v, next)) = taken (pos v) next
plain_taken None = none

abbrev pub signed_taken : Signed → Taken
signed_taken (Some (z, next)) = taken z next
signed_taken None = none

abbrev pub taken_as : Kind → List ℕ → ℕ → Taken
taken_as plain s at = plain_taken (number_at s at)
taken_as signed s at = signed_taken (signed_at s at)
taken_as float s at = float_at s at

abbrev pub bytes_as : Kind → ℤ → List ℕ
bytes_as plain z = bytes_of (nat_abs z)
bytes_as signed z = bytes_of (stored z)
bytes_as float z = low_first 8 (nat_abs z)

-- a value of a file: its kind, whether it is right, and the refusal at its place where it is not
pub record Field : Type 0 where
  pub kind : Kind
  pub right : ℤ → Bool
  pub wrong : ℕ → Refusal

-- what a file holds: nothing more; or a field, and then what its value calls for
pub data Form : Type 0 where
  end : Form
  field : Field → (ℤ → Form) → Form

-- what was read and the place behind it; or the refusal
pub data Read (A : Type 0) : Type 0 where
  read : A → ℕ → Read A
  refused : Refusal → Read A

abbrev pub before : {A : Type 0} → A → Read (List A) → Read (List A)
before a (read more next) = read (a ∷ more) next
before a (refused r) = refused r

abbrev pub on_taken : Taken → ℕ → (ℤ → ℕ → Read (List ℤ)) → Read (List ℤ)
on_taken none at rest = refused (broken at)
on_taken (taken v next) at rest = rest v next

-- the values of a form that stand at `at`
unfoldable pub values_at : Form → List ℕ → ℕ → Read (List ℤ)
values_at end s at = read [] at
values_at (field f rest) s at =
    on_taken (taken_as f.kind s at) at λ v next.
    guard (f.right v) (refused (f.wrong at)) λ _.
    before v (values_at (rest v) s next)

abbrev pub ended : {A : Type 0} → List ℕ → Read A → Read A
ended s (refused r) = refused r
ended s (read a next) = guard (eqb next (length s)) (refused (unfit next)) λ _. read a next

-- the values of a whole file; bytes left over are told behind its last value
abbrev pub values_of : Form → List ℕ → Read (List ℤ)
values_of form s = ended s (values_at form s 0)

-- the bytes of values in a form
unfoldable pub file_of : Form → List ℤ → List ℕ
file_of end vs = []
file_of (field f rest) [] = []
file_of (field f rest) (v ∷ vs) = bytes_as f.kind v ++ file_of (rest v) vs

-- a file that was judged: what it says; or the refusal
pub data Judged (A : Type 0) : Type 0 where
  good : A → Judged A
  bad : Refusal → Judged A

-- the bytes themselves, where they were judged good
abbrev pub file_judged : {A : Type 0} → List ℕ → Judged A → Judged (List ℕ)
file_judged bytes (good a) = good bytes
file_judged bytes (bad r) = bad r
