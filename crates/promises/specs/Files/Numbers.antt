-- S1, numbers: the reader reads what the writer wrote, and every number read is written back as the same bytes.
-- A number of more than 35 bits is written in more than 5 bytes, which the reader calls broken. Assumes nothing.
use Rattle.std.specs.Prelude.{ℕ, zero, suc, ◌+◌, ◌-◌, ◌*◌, ◌/◌, ◌%◌, ◌^◌, ◌≤◌, ◌<◌, ◌≡◌, refl, Bool, true, false, cond, List, [], ◌∷◌, ◌++◌, ltb, eqb, length, get_or, drop, ℤ, pos, negsuc, Some, None}
use Rattle.std.proofs.Common.{sym, ap, ◌∙◌, arith, mul_assoc, mul_comm, add-mul, zero-mul, div-add-mod', add-one, drop-cons, pow-add, lt-ltb, le-ltb, ne_eqb, ltb-true, ltb-false, eqb-true}
use Rattle.std.proofs.Math.Decide.{dec_lt, ℕ_discrete}
use Rattle.std.proofs.lemmas.Bool.{eqb-false}
use Rattle.laws.specs.Pairs.{some-first, some-second}
use Rattle.laws.specs.Standing.{Stands, at-cons}
use Rattle.laws.specs.Tests.{never}
use Rattle.meaning.specs.Answers.{Number}
use Rattle.meaning.specs.Numbers.{groups_at, last_group, groups_of, number_at, bytes_of, stored, restored}

-- ---- the reader reads what the writer wrote: f more bytes are allowed behind the next, and g are used

last-group : (c at v w : ℕ) → (c ≡ 0 → (w ≡ 1) × (v ≡ 0)) → last_group c at v w ≡ Some (v + c * w, at + 1)
last-group c at v w z = go (ℕ_discrete c 0)
  where
    go : Dec (c ≡ 0) → last_group c at v w ≡ Some (v + c * w, at + 1)
    go (yes e) = let q = z e in simp (e, q.0, q.1)
    go (no n) = simp (ne_eqb _ _ n)

one_byte : (f : ℕ) (s : List ℕ) (i v w c : ℕ) (t : List ℕ) → drop i s ≡ c ∷ t → c < 128 → groups_at (suc f) s i v w ≡ last_group c i v w
unfolding groups_at
one_byte f s i v w c t e l =
    let a = at-cons s i c t e in
    simp (lt-ltb _ _ a.0, a.1, lt-ltb _ _ l)

next-byte : (f : ℕ) (s : List ℕ) (i v w c : ℕ) (t : List ℕ) → drop i s ≡ c ∷ t → 128 ≤ c → c < 256 → groups_at (suc f) s i v w ≡ groups_at f s (i + 1) (v + (c - 128) * w) (w * 128)
unfolding groups_at
next-byte f s i v w c t e l h =
    let a = at-cons s i c t e in
    simp (lt-ltb _ _ a.0, a.1, le-ltb _ _ l, lt-ltb _ _ h)

digits : (x v w : ℕ) → v + (x % 128) * w + (x / 128) * (w * 128) ≡ v + x * w
digits x v w =
    let a : x * w ≡ (x / 128 * 128 + x % 128) * w = rw (div-add-mod' x 128) refl in
    let b : (x / 128 * 128 + x % 128) * w ≡ x / 128 * 128 * w + x % 128 * w = add-mul (x / 128 * 128) (x % 128) w in
    let c : x / 128 * (w * 128) ≡ x / 128 * 128 * w = rw (mul_comm w 128) (sym (mul_assoc (x / 128) 128 w)) in
    omega (arith, a, b, c)

seven-more : (f : ℕ) → 2 ^ (7 * (suc f + 1)) ≡ 2 ^ (7 * (f + 1)) * 128
seven-more f =
    let q : 7 * (suc f + 1) ≡ 7 * (f + 1) + 7 = omega arith in
    rw q (pow-add 2 (7 * (f + 1)) 7)

pow-big : (f : ℕ) → 128 ≤ 2 ^ (7 * (f + 1))
pow-big zero = omega arith
pow-big (suc f) = rw (seven-more f) (omega (arith, pow-big f))

groups-last : (g x : ℕ) → x < 128 → groups_of g x ≡ x ∷ []
unfolding groups_of
groups-last zero x h = refl
groups-last (suc g) x h = simp (lt-ltb x 128 h)

groups-more : (g x : ℕ) → 128 ≤ x → groups_of (suc g) x ≡ (x % 128 + 128) ∷ groups_of g (x / 128)
unfolding groups_of
groups-more g x h = simp (le-ltb x 128 h)

-- as long as the number has at most f + 1 groups, and the writer may use g ≥ f of them
read-groups : (f g x : ℕ) → f ≤ g → x < 2 ^ (7 * (f + 1)) → (s : List ℕ) (i v w : ℕ) (t : List ℕ) → drop i s ≡ groups_of g x ++ t → (x ≡ 0 → (w ≡ 1) × (v ≡ 0))
    → groups_at (suc f) s i v w ≡ Some (v + x * w, i + length (groups_of g x))
read-groups zero g x k h s i v w t e z =
    let l : x < 128 = omega arith in
    let q = groups-last g x l in
    rw q (one_byte zero s i v w x t (rw q at e) l ∙ last-group x i v w z)
read-groups (suc f) zero x k h s i v w t e z = absurd (omega arith)
read-groups (suc f) (suc g) x k h s i v w t e z =
    go (dec_lt x 128) (λ l e2. read-groups f g (x / 128) (omega arith) (less l) s (i + 1) (v + (x % 128 + 128 - 128) * w) (w * 128) t e2 (λ q. absurd (big l q)))
  where
    big : 128 ≤ x → x / 128 ≡ 0 → ⊥
    big l q = omega arith

    less : 128 ≤ x → x / 128 < 2 ^ (7 * (f + 1))
    less l = let m : x < 2 ^ (7 * (f + 1)) * 128 = rw (seven-more f) at h in omega arith

    go : Dec (x < 128)
        → (128 ≤ x → drop (i + 1) s ≡ groups_of g (x / 128) ++ t
        → groups_at (suc f) s (i + 1) (v + (x % 128 + 128 - 128) * w) (w * 128) ≡ Some (v + (x % 128 + 128 - 128) * w + (x / 128) * (w * 128), i + 1 + length (groups_of g (x / 128))))
        → groups_at (suc (suc f)) s i v w ≡ Some (v + x * w, i + length (groups_of (suc g) x))
    go (yes l) ih =
        let q = groups-last (suc g) x l in
        rw q (one_byte (suc f) s i v w x t (rw q at e) l ∙ last-group x i v w z)
    go (no n) ih =
        let l : 128 ≤ x = omega arith in
        let c = x % 128 + 128 in
        let q = groups-more g x l in
        let e1 : drop i s ≡ c ∷ (groups_of g (x / 128) ++ t) = rw q at e in
        let a = at-cons s i c (groups_of g (x / 128) ++ t) e1 in
        let k : i + suc (length (groups_of g (x / 128))) ≡ i + 1 + length (groups_of g (x / 128)) = omega arith in
        let m : x % 128 + 128 - 128 ≡ x % 128 = omega arith in
        rw q (next-byte (suc f) s i v w c (groups_of g (x / 128) ++ t) e1 (omega arith) (omega arith) ∙ ih l a.2 ∙ rw (k, m, digits x v w) refl)

pub reads : (v i next : ℕ) (s : List ℕ) → v < 2 ^ 35 → Stands s i (bytes_of v) next → number_at s i ≡ Some (v, next)
reads v i next s h p =
    let q : 0 + v * 1 ≡ v = omega arith in
    let e : next ≡ i + length (bytes_of v) = p.end in
    read-groups 4 9 v (omega arith) h s i 0 1 (drop next s) p.bytes (λ z. (refl, refl)) ∙ rw (q, e) refl

no_bytes : (s : List ℕ) (i v w : ℕ) → groups_at 0 s i v w ≡ None
unfolding groups_at
no_bytes s i v w = refl

-- a number of more than f groups is broken for a reader that allows f bytes
too_many : (f g x : ℕ) → f ≤ g → 2 ^ (7 * f) ≤ x → (s : List ℕ) (i v w : ℕ) (t : List ℕ) → drop i s ≡ groups_of g x ++ t → groups_at f s i v w ≡ None
too_many zero g x k h s i v w t e = no_bytes s i v w
too_many (suc f) zero x k h s i v w t e = absurd (omega arith)
too_many (suc f) (suc g) x k h s i v w t e =
    let p : 2 ^ (7 * suc f) ≡ 2 ^ (7 * f) * 128 = seven f in
    let o : 1 ≤ 2 ^ (7 * f) = one-le f in
    let l : 128 ≤ x = omega arith in
    let c = x % 128 + 128 in
    let e1 : drop i s ≡ c ∷ (groups_of g (x / 128) ++ t) = rw (groups-more g x l) at e in
    let a = at-cons s i c (groups_of g (x / 128) ++ t) e1 in
    next-byte f s i v w c (groups_of g (x / 128) ++ t) e1 (omega arith) (omega arith)
    ∙ too_many f g (x / 128) (omega arith) (omega arith) s (i + 1) (v + (c - 128) * w) (w * 128) t a.2
  where
    seven : (f : ℕ) → 2 ^ (7 * suc f) ≡ 2 ^ (7 * f) * 128
    seven f = let q : 7 * suc f ≡ 7 * f + 7 = omega arith in rw q (pow-add 2 (7 * f) 7)

    one-le : (f : ℕ) → 1 ≤ 2 ^ (7 * f)
    one-le zero = omega arith
    one-le (suc f) = rw (seven f) (omega (arith, one-le f))

pub too_long : (v i next : ℕ) (s : List ℕ) → 2 ^ 35 ≤ v → Stands s i (bytes_of v) next → number_at s i ≡ None
too_long v i next s h p = too_many 5 9 v (omega arith) h s i 0 1 (drop next s) p.bytes

-- ---- a number read is written back as the same bytes

record Was (f g : ℕ) (s : List ℕ) (at v w x n : ℕ) : Type 0 where
  d : ℕ
  value : x ≡ v + d * w
  small : d < 2 ^ (7 * (f + 1))
  stand : Stands s at (groups_of g d) n
  nonzero : d ≡ 0 → w ≡ 1

last-was : (f g : ℕ) (s : List ℕ) (at v w x n : ℕ) → at < length s → get_or s at 0 < 128 → x ≡ v + get_or s at 0 * w → n ≡ at + 1 → (get_or s at 0 ≡ 0 → w ≡ 1) → Was f g s at v w x n
last-was f g s at v w x n l h e q z =
    let b = groups-last g (get_or s at 0) h in
    record {
      d = get_or s at 0;
      value = e;
      small = omega (arith, pow-big f);
      stand = rw (b, q) (record { end = refl; bytes = rw add-one (drop-cons s at 0 l) });
      nonzero = z;
    }

-- one byte: the last, or one with more behind it
turn : (f g : ℕ) (s : List ℕ) (at v w x n : ℕ) → (w ≡ 1 → v ≡ 0)
    → (at < length s → 128 ≤ get_or s at 0 → get_or s at 0 < 256 → groups_at f s (at + 1) (v + (get_or s at 0 - 128) * w) (w * 128) ≡ Some (x, n) → Was f g s at v w x n)
    → groups_at (suc f) s at v w ≡ Some (x, n) → Was f g s at v w x n
unfolding groups_at
turn f g s at v w x n z rest e = there (ltb at (length s)) refl e
  where
    c : ℕ
    c = get_or s at 0

    more : Number
    more = groups_at f s (at + 1) (v + (c - 128) * w) (w * 128)

    zeroed : at < length s → c < 128 → c ≡ 0 → (t : Bool) → eqb w 1 ≡ t → cond {A = Number} t (Some (0, at + 1)) None ≡ Some (x, n) → Was f g s at v w x n
    zeroed l h y true q e =
        let a : x ≡ 0 = sym (some-first e) in
        let b : n ≡ at + 1 = sym (some-second e) in
        let i : w ≡ 1 = eqb-true w 1 q in
        last-was f g s at v w x n l h (let k = z i in rw (a, y, k, zero-mul) refl) b (λ _. i)
    zeroed l h y false q e = never cc

    ends : at < length s → c < 128 → (t : Bool) → eqb c 0 ≡ t → cond {A = Number} t (cond {A = Number} (eqb w 1) (Some (0, at + 1)) None) (Some (v + c * w, at + 1)) ≡ Some (x, n) → Was f g s at v w x n
    ends l h true q e = zeroed l h (eqb-true c 0 q) (eqb w 1) refl e
    ends l h false q e =
        let a : x ≡ v + c * w = sym (some-first e) in
        let b : n ≡ at + 1 = sym (some-second e) in
        last-was f g s at v w x n l h a b (λ y. absurd (eqb-false c 0 q y))

    goes : at < length s → 128 ≤ c → (t : Bool) → ltb c 256 ≡ t → cond t more None ≡ Some (x, n) → Was f g s at v w x n
    goes l h true q e = rest l h (ltb-true c 256 q) e
    goes l h false q e = never cc

    byte : at < length s → (t : Bool) → ltb c 128 ≡ t → cond t (last_group c at v w) (cond (ltb c 256) more None) ≡ Some (x, n) → Was f g s at v w x n
    byte l true q e = ends l (ltb-true c 128 q) (eqb c 0) refl e
    byte l false q e = goes l (ltb-false c 128 q) (ltb c 256) refl e

    there : (t : Bool) → ltb at (length s) ≡ t → cond t (cond (ltb c 128) (last_group c at v w) (cond (ltb c 256) more None)) None ≡ Some (x, n) → Was f g s at v w x n
    there true q e = byte (ltb-true at (length s) q) (ltb c 128) refl e
    there false q e = never cc

more-was : (f g : ℕ) (s : List ℕ) (at v w x n : ℕ) → 1 ≤ w → at < length s → 128 ≤ get_or s at 0 → get_or s at 0 < 256
    → Was f g s (at + 1) (v + (get_or s at 0 - 128) * w) (w * 128) x n → Was (suc f) (suc g) s at v w x n
more-was f g s at v w x n p l h k m =
    let c = get_or s at 0 - 128 in
    let one_up : 1 ≤ m.d = some (ℕ_discrete m.d 0) in
    let y = m.small in
    let r : (m.d * 128 + c) % 128 + 128 ≡ get_or s at 0 = omega arith in
    let o : (m.d * 128 + c) / 128 ≡ m.d = omega arith in
    let b : groups_of (suc g) (m.d * 128 + c) ≡ get_or s at 0 ∷ groups_of g m.d = groups-more g (m.d * 128 + c) (omega arith) ∙ rw (r, o) refl in
    record {
      d = m.d * 128 + c;
      value = omega (arith, m.value);
      small = rw (seven-more f) (omega arith);
      stand = rw b (record { end = omega (arith, m.stand.end); bytes = drop-cons s at 0 l ∙ ap (λ (t : List ℕ). get_or s at 0 ∷ t) (rw (← add-one) m.stand.bytes) });
      nonzero = λ q. absurd (omega arith);
    }
  where
    some : Dec (m.d ≡ 0) → 1 ≤ m.d
    some (yes q) = absurd (let y = m.nonzero q in omega arith)
    some (no q) = omega arith

was-groups : (f g : ℕ) → f ≤ g → (s : List ℕ) (at v w x n : ℕ) → (w ≡ 1 → v ≡ 0) → 1 ≤ w → groups_at (suc f) s at v w ≡ Some (x, n) → Was f g s at v w x n
was-groups zero g k s at v w x n z p e = turn zero g s at v w x n z (λ l h b q. let y = sym (no_bytes s (at + 1) (v + (get_or s at 0 - 128) * w) (w * 128)) ∙ q in never cc) e
was-groups (suc f) zero k s at v w x n z p e = absurd (omega arith)
was-groups (suc f) (suc g) k s at v w x n z p e =
    turn (suc f) (suc g) s at v w x n z
    (λ l h b q. more-was f g s at v w x n p l h b
    (was-groups f g (omega arith) s (at + 1) (v + (get_or s at 0 - 128) * w) (w * 128) x n (λ y. absurd (omega arith)) (omega arith) q))
    e

pub was : (v i next : ℕ) (s : List ℕ) → number_at s i ≡ Some (v, next) → (v < 2 ^ 35) × Stands s i (bytes_of v) next
was v i next s e =
    let m = was-groups 4 9 (omega arith) s i 0 1 v next (λ y. refl) (omega arith) e in
    let q : v ≡ m.d = omega (arith, m.value) in
    (rw q m.small, rw q m.stand)

-- ---- signed numbers: stored and taken back, either way

pub restored-stored : (z : ℤ) → restored (stored z) ≡ z
restored-stored (pos v) =
    let a : (2 * v) % 2 ≡ 0 = omega arith in
    let b : 2 * v / 2 ≡ v = omega arith in
    simp (a, b)
restored-stored (negsuc v) =
    let a : (2 * v + 1) % 2 ≡ 1 = omega arith in
    let b : (2 * v + 1) / 2 ≡ v = omega arith in
    simp (a, b)

pub stored-restored : (v : ℕ) → stored (restored v) ≡ v
stored-restored v = go (ℕ_discrete (v % 2) 0)
  where
    go : Dec (v % 2 ≡ 0) → stored (restored v) ≡ v
    go (yes e) = simp e (omega arith)
    go (no n) = simp (ne_eqb _ _ n) (omega arith)
