-- The bytes of signed numbers one behind another. Assumes nothing.
use Rattle.std.specs.Prelude.{ℕ, ◌≡◌, refl, List, [], ◌∷◌, ◌++◌, ℤ}
use Rattle.std.proofs.Common.{sym, ap, ◌∙◌, append_assoc}
use Rattle.meaning.specs.Numbers.{bytes_of, stored}

unfoldable pub signed_bytes : List ℤ → List ℕ
signed_bytes [] = []
signed_bytes (v ∷ vs) = bytes_of (stored v) ++ signed_bytes vs

pub signed-append : (xs ys : List ℤ) → signed_bytes (xs ++ ys) ≡ signed_bytes xs ++ signed_bytes ys
unfolding signed_bytes
signed-append [] ys = refl
signed-append (x ∷ xs) ys = ap (λ (bs : List ℕ). bytes_of (stored x) ++ bs) (signed-append xs ys) ∙ sym (append_assoc (bytes_of (stored x)) (signed_bytes xs) (signed_bytes ys))
