-- S2, floats in files: eight bytes, low byte first, hold a pattern of 64 bits and give it back, and the other way. Assumes nothing.
-- What number a pattern stands for is not told here.
use Rattle.std.specs.Prelude.{ℕ, zero, suc, ◌+◌, ◌*◌, ◌/◌, ◌%◌, ◌^◌, ◌<◌, ◌≡◌, refl, Bool, true, false, ◌&&◌, cond, List, [], ◌∷◌, map, length, take, drop, ltb, eqb, ℤ, pos}
use Rattle.std.proofs.Common.{sym, ap, ◌∙◌, arith, take-append-drop, take_at, drop-drop, lt-ltb, ltb-true, eqb-true, eq-eqb}
use Rattle.std.proofs.Math.Bool.{and-eq-true_iff}
use Rattle.laws.specs.Lists.{all}
use Rattle.laws.specs.Standing.{Stands}
use Rattle.laws.specs.Tests.{never}
use Rattle.meaning.specs.Files.{taken, none, little, low_first, float_at}

-- ---- a list of bytes and its value

abbrev Bytes : List ℕ → Type 0
Bytes cs = all (map (λ c. ltb c 256) cs) ≡ true

pub low-length : (m v : ℕ) → length (low_first m v) ≡ m
unfolding low_first
low-length zero v = refl
low-length (suc m) v = ap suc (low-length m (v / 256))

low-bytes : (m v : ℕ) → Bytes (low_first m v)
unfolding low_first all
low-bytes zero v = refl
low-bytes (suc m) v = let h : v % 256 < 256 = omega arith in simp (lt-ltb (v % 256) 256 h) (low-bytes m (v / 256))

little-low : (m v : ℕ) → v < 256 ^ m → little (low_first m v) ≡ v
unfolding little low_first
little-low zero v h = omega arith
little-low (suc m) v h = let e : little (low_first m (v / 256)) ≡ v / 256 = little-low m (v / 256) (omega arith) in rw e (omega arith)

-- the first is a byte, and so are the others
split : (c : ℕ) (cs : List ℕ) → Bytes (c ∷ cs) → (c < 256) × Bytes cs
unfolding all
split c cs h =
    let b = (and-eq-true_iff (ltb c 256) (all (map (λ c. ltb c 256) cs))).0 h in
    (ltb-true c 256 b.0, b.1)

low-little : (cs : List ℕ) → Bytes cs → low_first (length cs) (little cs) ≡ cs
unfolding little low_first
low-little [] h = refl
low-little (c ∷ cs) h =
    let b = split c cs h in
    let e : (c + 256 * little cs) % 256 ≡ c = omega arith in
    let q : (c + 256 * little cs) / 256 ≡ little cs = omega arith in
    rw (e, q, low-little cs b.1) refl

little-less : (cs : List ℕ) → Bytes cs → little cs < 256 ^ length cs
unfolding little
little-less [] h = omega arith
little-less (c ∷ cs) h =
    let b = split c cs h in
    let e : 256 ^ suc (length cs) ≡ 256 * 256 ^ length cs = omega arith in
    omega (arith, little-less cs b.1)

-- ---- a float at a place of a file

pub float-reads : (v i next : ℕ) (s : List ℕ) → v < 2 ^ 64 → Stands s i (low_first 8 v) next → float_at s i ≡ taken (pos v) next
float-reads v i next s h p =
    let long = low-length 8 v in
    let e : take 8 (drop i s) ≡ low_first 8 v = ap (λ (l : List ℕ). take 8 l) p.bytes ∙ take_at (low_first 8 v) (drop next s) 8 long in
    let n : i + 8 ≡ next = omega (arith, p.end) in
    rw e (simp (eq-eqb _ _ long, low-bytes 8 v, little-low 8 v h, n))

pub float-was : (z : ℤ) (i next : ℕ) (s : List ℕ) → float_at s i ≡ taken z next → (v : ℕ) × (z ≡ pos v) × (v < 2 ^ 64) × Stands s i (low_first 8 v) next
float-was z i next s e = go (eqb (length cs) 8) (all (map (λ c. ltb c 256) cs)) refl refl e
  where
    cs : List ℕ
    cs = take 8 (drop i s)

    go : (a b : Bool) → eqb (length cs) 8 ≡ a → all (map (λ c. ltb c 256) cs) ≡ b → cond (a && b) (taken (pos (little cs)) (i + 8)) none ≡ taken z next
        → (v : ℕ) × (z ≡ pos v) × (v < 2 ^ 64) × Stands s i (low_first 8 v) next
    go true true a b e =
        let long : length cs ≡ 8 = eqb-true (length cs) 8 a in
        let n : next ≡ i + 8 = cc in
        let small : little cs < 256 ^ 8 = rw long at (little-less cs b) in
        let same : low_first 8 (little cs) ≡ cs = rw long at (low-little cs b) in
        (little cs, cc, small, rw same (record { end = omega arith; bytes = sym (take-append-drop 8 (drop i s)) ∙ rw (n, drop-drop 8 i s) refl }))
    go true false a b e = never cc
    go false b c d e = never cc
