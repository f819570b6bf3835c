-- Numbers (document 01, "Numbers"): groups of seven bits, lowest group first, the high bit set on every byte but the last,
-- shortest form only, at most 5 bytes. Signed ones: v ≥ 0 is stored as 2v, v < 0 as −2v − 1.
-- An entry of a list that is 256 or more is no byte, and what holds it is broken.
use Rattle.std.specs.Prelude.{ℕ, zero, suc, ◌+◌, ◌-◌, ◌*◌, ◌/◌, ◌%◌, cond, List, [], ◌∷◌, length, get_or, ltb, eqb, ℤ, pos, negsuc, Some, None}
use Rattle.meaning.specs.Answers.{Number, Signed}

-- the byte c at `at` is a number's last, v being the groups before it and w its weight: a last group of 0 is the shortest form of 0 alone
abbrev pub last_group : ℕ → ℕ → ℕ → ℕ → Number
last_group c at v w = cond (eqb c 0) (cond (eqb w 1) (Some (0, at + 1)) None) (Some (v + c * w, at + 1))

-- at most f bytes are still to come from `at` on; v is the value of the groups before, w the weight of the next
unfoldable pub groups_at : ℕ → List ℕ → ℕ → ℕ → ℕ → Number
groups_at zero s at v w = None
groups_at (suc f) s at v w =
    let c = get_or s at 0 in
    let more = groups_at f s (at + 1) (v + (c - 128) * w) (w * 128) in
    let byte = cond (ltb c 128) (last_group c at v w) (cond (ltb c 256) more None) in
    cond (ltb at (length s)) byte None

-- the number at a place of any list, behind its end too
abbrev pub number_at : List ℕ → ℕ → Number
number_at s at = groups_at 5 s at 0 1

-- v, which has at most f + 1 groups
unfoldable pub groups_of : ℕ → ℕ → List ℕ
groups_of zero v = v ∷ []
groups_of (suc f) v = cond (ltb v 128) (v ∷ []) ((v % 128 + 128) ∷ groups_of f (v / 128))

-- The bytes of a number: ten groups hold any of 64 bits. A value that takes more than five is one that no file can hold.
abbrev pub bytes_of : ℕ → List ℕ
bytes_of v = groups_of 9 v

-- how a signed number is stored, and taken back
abbrev pub stored : ℤ → ℕ
stored (pos v) = 2 * v
stored (negsuc v) = 2 * v + 1

abbrev pub restored : ℕ → ℤ
restored v = cond (eqb (v % 2) 0) (pos (v / 2)) (negsuc (v / 2))

abbrev pub as_signed : Number → Signed
as_signed (Some (v, next)) = Some (restored v, next)
as_signed None = None

abbrev pub signed_at : List ℕ → ℕ → Signed
signed_at s at = as_signed (number_at s at)
