-- How many bytes a number takes: one at least, just one below 128, and no fewer where it is larger. Assumes nothing.
use Rattle.std.specs.Prelude.{ℕ, zero, suc, ◌+◌, ◌/◌, ◌%◌, ◌≤◌, ◌<◌, ◌≡◌, Bool, true, false, cond, List, [], ◌∷◌, length, ltb}
use Rattle.std.proofs.Common.{arith, lt-ltb, le-ltb}
use Rattle.std.proofs.Math.Decide.{dec_lt}
use Rattle.meaning.specs.Numbers.{groups_of, bytes_of}

pub bytes-some : (v : ℕ) → 1 ≤ length (bytes_of v)
unfolding groups_of
bytes-some v = go (ltb v 128) (groups_of 8 (v / 128))
  where
    go : (t : Bool) (more : List ℕ) → 1 ≤ length (cond t (v ∷ []) ((v % 128 + 128) ∷ more))
    go true more = omega arith
    go false more = omega arith

pub one_byte : (v : ℕ) → v < 128 → bytes_of v ≡ v ∷ []
unfolding groups_of
one_byte v h = simp (lt-ltb v 128 h)

-- a larger number takes no fewer
groups-grow : (g v w : ℕ) → v ≤ w → length (groups_of g v) ≤ length (groups_of g w)
unfolding groups_of
groups-grow zero v w h = omega arith
groups-grow (suc g) v w h = go (dec_lt v 128) (dec_lt w 128) (groups-grow g (v / 128) (w / 128) (omega arith))
  where
    last : (x : ℕ) → x < 128 → length (groups_of (suc g) x) ≡ 1
    last x l = simp (lt-ltb x 128 l)

    on : (x : ℕ) → 128 ≤ x → length (groups_of (suc g) x) ≡ suc (length (groups_of g (x / 128)))
    on x l = simp (le-ltb x 128 l)

    go : Dec (v < 128) → Dec (w < 128) → length (groups_of g (v / 128)) ≤ length (groups_of g (w / 128)) → length (groups_of (suc g) v) ≤ length (groups_of (suc g) w)
    go (yes a) (yes b) ih = omega (arith, last v a, last w b)
    go (yes a) (no b) ih = omega (arith, last v a, on w (omega arith))
    go (no a) (yes b) ih = absurd (omega arith)
    go (no a) (no b) ih = omega (arith, on v (omega arith), on w (omega arith), ih)

pub bytes-grow : (v w : ℕ) → v ≤ w → length (bytes_of v) ≤ length (bytes_of w)
bytes-grow = groups-grow 9
