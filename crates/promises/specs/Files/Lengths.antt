-- How many bytes a file of a form has at the most, for the parts that plant and sheet forms are made of. Relies on page Files.
use Rattle.std.specs.Prelude.{ℕ, zero, suc, ◌+◌, ◌*◌, ◌/◌, ◌^◌, ◌≤◌, ◌<◌, ◌≡◌, Bool, true, ◌&&◌, List, [], leb, length, ℤ, pos, negsuc, nat_abs, neg_ℤ, ◌≤ℤ◌}
use Rattle.std.proofs.Math.Bool.{and-eq-true_iff}
use Rattle.std.proofs.Common.{arith, pow-add, lt-ltb, le-ltb, leb-true}
use Rattle.std.proofs.Math.Decide.{dec_lt}
use Rattle.std.specs.Int.Signed.{le_z}
use Rattle.laws.specs.Integers.{zarith, le_z-true, within}
use Rattle.laws.specs.Lists.{at}
use Rattle.meaning.specs.Numbers.{groups_of, stored}
use Rattle.meaning.specs.Files.{Field, Form, end, field, bytes_as, read, values_at}
use Rattle.meaning.specs.Plants.{edge_limit, band_limit, counted, ranged, limited, span, times, edges, bands, from, depth, sized, headed}
use Rattle.promises.specs.Files.Files.{field-read}
use Rattle.promises.specs.Files.Headers.{most-of}

-- ---- one number: so many groups of seven bits

pub short : (c g x : ℕ) → x < 2 ^ (7 * suc c) → length (groups_of g x) ≤ suc c
unfolding groups_of
short c zero x h = omega arith
short c (suc g) x h = go c (dec_lt x 128) h (λ k l. short k g (x / 128) l)
  where
    last : x < 128 → length (groups_of (suc g) x) ≡ 1
    last l = simp (lt-ltb x 128 l)

    go : (c : ℕ) → Dec (x < 128) → x < 2 ^ (7 * suc c)
        → ((k : ℕ) → x / 128 < 2 ^ (7 * suc k) → length (groups_of g (x / 128)) ≤ suc k) → length (groups_of (suc g) x) ≤ suc c
    go c (yes l) h more = omega (arith, last l)
    go zero (no l) h more = absurd (omega arith)
    go (suc c) (no l) h more =
        let a : 7 * suc (suc c) ≡ 7 * suc c + 7 = omega arith in
        let m : x < 2 ^ (7 * suc c) * 2 ^ 7 = rw (a, pow-add 2 (7 * suc c) 7) at h in
        let k : 128 ≤ x = omega arith in
        let e : length (groups_of (suc g) x) ≡ suc (length (groups_of g (x / 128))) = simp (le-ltb x 128 k) in
        omega (arith, more c (omega arith))

pub stored-most : (v : ℤ) → stored v ≤ 2 * nat_abs v
stored-most (pos v) = omega arith
stored-most (negsuc v) = omega arith

-- ---- forms, and parts of forms

-- no file of the form has more than m bytes
pub record Longest (form : Form) (m : ℕ) : Type 0 where
  pub most : (s : List ℕ) (i : ℕ) {vs : List ℤ} {next : ℕ} → values_at form s i ≡ read vs next → next ≤ i + m

-- a part adds no more than c bytes to what comes behind it
pub record Adds (part : Form → Form) (c : ℕ) : Type 0 where
  pub adds : {rest : Form} {m : ℕ} → Longest rest m → Longest (part rest) (c + m)

-- a bound may be made larger
pub longer : {form : Form} {m k : ℕ} → Longest form m → m ≤ k → Longest form k
longer l h = record { most = λ s i e. omega (arith, l.most s i e) }

pub end-longest : Longest end 0
unfolding values_at
end-longest = record { most = λ s i e. go i e }
  where
    go : (i : ℕ) {vs : List ℤ} {next : ℕ} → read [] i ≡ read vs next → next ≤ i + 0
    go i {vs} {next} e = let q : next ≡ i = cc in omega arith

pub field-longest : (f : Field) (rest : ℤ → Form) {c m : ℕ} → ((v : ℤ) → f.right v ≡ true → length (bytes_as f.kind v) ≤ c)
    → ((v : ℤ) → f.right v ≡ true → Longest (rest v) m) → Longest (field f rest) (c + m)
field-longest f rest h l = record {
  most = λ s i e.
      let w = field-read f rest s i e in
      omega (arith, h w.value w.right, (l w.value w.right).most s w.mid w.behind, w.stands.end);
}

-- a number of at most `most`, in c + 1 bytes
pub counted-longest : (ok : ℕ → Bool) (rest : ℕ → Form) (c most : ℕ) {m : ℕ} → ((v : ℕ) → ok v ≡ true → v ≤ most) → most < 2 ^ (7 * suc c)
    → ((v : ℕ) → v ≤ most → Longest (rest v) m) → Longest (counted ok rest) (suc c + m)
counted-longest ok rest c most h l more =
    field-longest _ _ (λ v e. short c 9 (nat_abs v) (omega (arith, h (nat_abs v) e))) (λ v e. more (nat_abs v) (h (nat_abs v) e))

-- a signed number of a range within ± a limit
ranged-longest : (least most : ℤ) (rest : ℤ → Form) (c limit : ℕ) {m : ℕ} → ((v : ℤ) → least ≤ℤ v → v ≤ℤ most → nat_abs v ≤ limit) → 2 * limit < 2 ^ (7 * suc c)
    → ((v : ℤ) → least ≤ℤ v → Longest (rest v) m) → Longest (ranged least most rest) (suc c + m)
ranged-longest least most rest c limit h l more =
    field-longest _ _ (λ v e. let b = both v e in short c 9 (stored v) (omega (arith, stored-most v, h v b.0 b.1))) (λ v e. more v (both v e).0)
  where
    both : (v : ℤ) → (le_z least v && le_z v most) ≡ true → (least ≤ℤ v) × (v ≤ℤ most)
    both v e = let b = (and-eq-true_iff (le_z least v) (le_z v most)).0 e in (le_z-true least v b.0, le_z-true v most b.1)

pub limited-adds : (limit c : ℕ) → 2 * limit < 2 ^ (7 * suc c) → Adds (limited limit) (suc c)
limited-adds limit c h = record { adds = λ l. ranged-longest (neg_ℤ (pos limit)) (pos limit) _ c limit (λ v a b. within limit a b) h (λ v a. l) }

-- hi is within the limit where lo is
pub span-adds : (limit c : ℕ) → 2 * limit < 2 ^ (7 * suc c) → Adds (span limit) (suc c + suc c)
span-adds limit c h = record {
  adds = λ l. longer (ranged-longest (neg_ℤ (pos limit)) (pos limit) _ c limit (λ v a b. within limit a b) h
      (λ lo a. ranged-longest lo (pos limit) _ c limit (λ v a₂ b. let k : neg_ℤ (pos limit) ≤ℤ v = omega zarith in within limit k b) h (λ v b. l))) (omega arith);
}

pub then-adds : {a b : Form → Form} {c d : ℕ} → Adds a c → Adds b d → Adds (λ rest. a (b rest)) (c + d)
then-adds p q = record { adds = λ l. longer (p.adds (q.adds l)) (omega arith) }

pub times-adds : {part : Form → Form} {c : ℕ} → Adds part c → (m : ℕ) → Adds (times m part) (m * c)
unfolding times
times-adds p zero = record { adds = λ l. longer l (omega arith) }
times-adds {part} {c} p (suc m) = let e : suc m * c ≡ c + m * c = omega arith in rw e (then-adds p (times-adds p m))

-- edges take 3 bytes and ends of bands 5
pub edges-adds : (n : ℕ) → Adds (edges n) (n * 12)
unfolding edges
edges-adds n = let side = span-adds edge_limit 2 (omega arith) in times-adds (then-adds side side) n

pub bands-adds : (n : ℕ) → Adds (bands n) (n * 10)
unfolding bands
bands-adds n = times-adds (span-adds band_limit 4 (omega arith)) n

-- the header, its third number being at most `most`: behind its form, and with it
pub sized-longest : (most c : ℕ) (rest : ℕ → ℕ → Form) {m : ℕ} → most < 2 ^ (7 * suc c)
    → ((n k : ℕ) → n ≤ 4 → k ≤ most → Longest (rest n k) m) → Longest (sized most rest) (6 + c + m)
sized-longest most c rest h more =
    longer (counted-longest (from 1 4) _ 0 4 (λ v e. most-of 1 4 v e) (omega arith) (λ n a.
    counted-longest (from 1 most) _ c most (λ v e. most-of 1 most v e) h (λ k b.
    counted-longest (from 1 10_000) _ 1 10_000 (λ v e. most-of 1 10_000 v e) (omega arith) (λ q _.
    counted-longest (from 1 6) _ 0 6 (λ v e. most-of 1 6 v e) (omega arith) (λ k₂ _.
    counted-longest (depth n) _ 0 6 (λ v e. leb-true v 6 ((and-eq-true_iff (leb v 6) (leb (n * v) 12)).0 e).0) (omega arith) (λ d _.
    more n k a b)))))) (omega arith)

-- a form takes one byte; what stands behind it may hang on it
pub headed-longest : (forms most c : ℕ) (rest : ℕ → ℕ → ℕ → Form) (m : ℕ → ℕ) → forms ≤ 9 → most < 2 ^ (7 * suc c)
    → ((form n k : ℕ) → n ≤ 4 → k ≤ most → Longest (rest form n k) (m form))
    → (s : List ℕ) {vs : List ℤ} {next : ℕ} → values_at (headed forms most rest) s 0 ≡ read vs next → next ≤ 7 + c + m (nat_abs (at vs 0))
unfolding headed
headed-longest forms most c rest m f h more s {vs} {next} e =
    let w = field-read _ _ s 0 e in
    let form = nat_abs w.value in
    let one = short 0 9 form (omega (arith, most-of 1 forms form w.right)) in
    let l = (sized-longest most c (rest form) h (more form)).most s w.mid w.behind in
    rw w.values (omega (arith, one, w.stands.end))
