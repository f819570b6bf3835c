-- What plant and sheet files share: the header and the edges of R and S, and bands, as facts from the form that they were read by (page Forms).
-- `framed` says it of the values, before they make a plant or a sheet. Relies on page Headers for the test of a range. Leaves out what stands behind the
-- edges (pages Judged and SheetSound).
use Rattle.std.specs.Prelude.{ℕ, ◌+◌, ◌*◌, ◌≤◌, ◌<◌, ◌≡◌, refl, true, List, map, leb, ℤ, pos, nat_abs, ◌-ℤ◌, ◌≤ℤ◌}
use Rattle.std.proofs.Common.{◌∙◌, zero-add, leb-true}
use native.Mathlib.Omega.{arith}
use Rattle.std.proofs.Math.IntN.{neg_ℤ}
use Rattle.laws.specs.Integers.{zarith, le_z-true}
use Rattle.laws.specs.Integers as Z
use Rattle.laws.specs.Lists.{at, tab, all}
use Rattle.laws.specs.Tabs.{padded-size, padded-at, map-tab}
use Rattle.laws.specs.Tests.{first, second, orders, all-tab}
use Rattle.meaning.specs.Boxes.{Side, side}
use Rattle.meaning.specs.Files.{Form}
use Rattle.meaning.specs.Plants as P
use Rattle.meaning.specs.Plants.{edge_limit, band_limit, limited, span, edges, bands, headed, column, wide}
use Rattle.promises.specs.Files.Forms as F
use Rattle.promises.specs.Files.Forms.{Right, times-right}
use Rattle.promises.specs.Files.Headers.{least-of, most-of}
use Rattle.promises.specs.Files.Sound.{Bounded, Edges, Wide, Ranges}

-- ---- the parts of the form, as facts

module _ (vs : List ℤ) where
  pub limited-right : (limit : ℕ) (rest : Form) (i : ℕ) → Right (limited limit rest) vs i → (nat_abs (at vs i) ≤ limit) × Right rest vs (i + 1)
  unfolding F.Right
  limited-right limit rest i h =
      let z = at vs i in
      let k = orders (neg_ℤ (pos limit)) z z (pos limit) h.0 in
      (Z.within limit k.0 k.1, h.1)

  pub span_right : (limit : ℕ) (rest : Form) (i : ℕ) → Right (span limit rest) vs i → Bounded limit (side (at vs i) (at vs (i + 1))) × Right rest vs (i + 2)
  unfolding F.Right
  span_right limit rest i h =
      let a = at vs i in
      let b = at vs (i + 1) in
      let k = orders (neg_ℤ (pos limit)) a a (pos limit) h.0 in
      let l = orders a b b (pos limit) h.1.0 in
      let low : neg_ℤ (pos limit) ≤ℤ b = omega (zarith, k, l) in
      let e : i + 2 ≡ i + 1 + 1 = omega arith in
      (record { low = Z.within limit k.0 k.1; high = Z.within limit low l.1; order = l.0 }, rw e h.1.1)

  -- R lo, R hi, S lo, S hi
  record EdgesAt (i : ℕ) : Type 0 where
    root : Bounded edge_limit (side (at vs i) (at vs (i + 1)))
    safe : Bounded edge_limit (side (at vs (i + 2)) (at vs (i + 2 + 1)))

  edges-right : (rest : Form) (i : ℕ) → Right (span edge_limit (span edge_limit rest)) vs i → EdgesAt i × Right rest vs (i + 4)
  edges-right rest i h =
      let r = span_right edge_limit (span edge_limit rest) i h in
      let s = span_right edge_limit rest (i + 2) r.1 in
      let e : i + 4 ≡ i + 2 + 2 = omega arith in
      (record { root = r.0; safe = s.0 }, rw e s.1)

-- ---- the arrays of edges and bands

module _ (vs : List ℤ) (n : ℕ) where
  column-edges : (limit from to by : ℕ) → n ≤ 4 → to ≡ from + 1 → ((i : ℕ) → i < n → Bounded limit (side (at vs (from + by * i)) (at vs (from + by * i + 1))))
      → Edges limit n (column vs from by n) (column vs to by n)
  column-edges limit from to by few e spans = record {
    lo-size = padded-size (λ i. at vs (from + by * i)) 4 n few;
    hi-size = padded-size (λ i. at vs (to + by * i)) 4 n few;
    sides = λ i h. rw (lo_at i h, hi_at i h) (spans i h);
  }
    where
      lo_at : (i : ℕ) → i < n → at (column vs from by n) i ≡ at vs (from + by * i)
      lo_at i h = padded-at (λ i. at vs (from + by * i)) 4 n i h

      hi_at : (i : ℕ) → i < n → at (column vs to by n) i ≡ at vs (from + by * i + 1)
      hi_at i h = let q : to + by * i ≡ from + by * i + 1 = omega arith in padded-at (λ i. at vs (to + by * i)) 4 n i h ∙ rw q refl

-- ---- the bands

pub wide-bands : (q : ℕ) (band : ℕ → Side) (n : ℕ) → all (map (wide q) (tab band n 0)) ≡ true → (i : ℕ) → i < n → Wide q (band i)
wide-bands q band n e i h =
    let each = all-tab (λ k. wide q (band k)) n 0 i h (rw (map-tab (wide q) band n 0) at e) in
    le_z-true (pos q -ℤ pos 1) ((band i).hi -ℤ (band i).lo) (rw zero-add at each)

-- n of them from i on, and what comes behind
pub bands-right : (vs : List ℤ) (n : ℕ) (rest : Form) (i : ℕ) → Right (bands n rest) vs i
    → ((t : ℕ) → t < n → Bounded band_limit (side (at vs (i + 2 * t)) (at vs (i + 2 * t + 1)))) × Right rest vs (i + 2 * n)
unfolding P.bands
bands-right vs n rest i h = times-right vs (span band_limit) 2 (λ i. Bounded band_limit (side (at vs i) (at vs (i + 1)))) (span_right vs band_limit) n rest i h

-- as two arrays
pub band-edges : (vs : List ℤ) (n : ℕ) → n ≤ 4 → ((t : ℕ) → t < n → Bounded band_limit (side (at vs (6 + 4 * n + 2 * t)) (at vs (6 + 4 * n + 2 * t + 1))))
    → Edges band_limit n (column vs (6 + 4 * n) 2 n) (column vs (7 + 4 * n) 2 n)
band-edges vs n few h = column-edges vs n band_limit (6 + 4 * n) (7 + 4 * n) 2 few (omega arith) h

-- ---- header and edges

-- the values of a file as arrays
abbrev pub RangesAt : ℕ → List ℤ → ℕ → ℕ → ℕ → ℕ → ℕ → Type 0
RangesAt most vs n m q k d = Ranges most n m q k d (column vs 6 4 n) (column vs 7 4 n) (column vs 8 4 n) (column vs 9 4 n)

-- and what comes behind
pub record Frame (forms most : ℕ) (rest : ℕ → ℕ → ℕ → Form) (vs : List ℤ) : Type 0 where
  pub first : 1 ≤ nat_abs (at vs 0)
  pub known : nat_abs (at vs 0) ≤ forms
  pub ranges : RangesAt most vs (nat_abs (at vs 1)) (nat_abs (at vs 2)) (nat_abs (at vs 3)) (nat_abs (at vs 4)) (nat_abs (at vs 5))
  pub behind : Right (rest (nat_abs (at vs 0)) (nat_abs (at vs 1)) (nat_abs (at vs 2))) vs (6 + 4 * nat_abs (at vs 1))

pub framed : (forms most : ℕ) (rest : ℕ → ℕ → ℕ → Form) (vs : List ℤ) → Right (headed forms most (λ form n m. edges n (rest form n m))) vs 0 → Frame forms most rest vs
unfolding F.Right P.headed P.edges
framed forms most rest vs h =
    let form = nat_abs (at vs 0) in
    let n = nat_abs (at vs 1) in
    let m = nat_abs (at vs 2) in
    let q = nat_abs (at vs 3) in
    let k = nat_abs (at vs 4) in
    let d = nat_abs (at vs 5) in
    let few = most-of 1 4 n h.1.0 in
    let sides = times-right vs (λ more. span edge_limit (span edge_limit more)) 4 (EdgesAt vs) (edges-right vs) n (rest form n m) 6 h.1.1.1.1.1.1 in
    record {
      first = least-of 1 forms form h.0;
      known = most-of 1 forms form h.0;
      ranges = record {
        n-low = least-of 1 4 n h.1.0;
        n-high = few;
        m-low = least-of 1 most m h.1.1.0;
        m-high = most-of 1 most m h.1.1.0;
        q-low = least-of 1 10_000 q h.1.1.1.0;
        q-high = most-of 1 10_000 q h.1.1.1.0;
        k-low = least-of 1 6 k h.1.1.1.1.0;
        k-high = most-of 1 6 k h.1.1.1.1.0;
        d-high = leb-true d 6 (first (leb d 6) (leb (n * d) 12) h.1.1.1.1.1.0);
        nd-high = leb-true (n * d) 12 (second (leb d 6) (leb (n * d) 12) h.1.1.1.1.1.0);
        root = column-edges vs n edge_limit 6 7 4 few refl (λ i l. (sides.0 i l).root);
        safe = column-edges vs n edge_limit 8 9 4 few refl (λ i l. let e : 8 + 4 * i ≡ 6 + 4 * i + 2 = omega arith in rw e (sides.0 i l).safe);
      };
      behind = sides.1;
    }
