-- R, S and w read against the form: a span by its two numbers, and the loops over dimensions. Assumes nothing.
use Prim.Native.Nat.{ℕ, zero, suc, ◌+◌, ◌-◌, ◌≤◌, ◌<◌}
use mathlib.Core.Path.{◌≡◌, refl, ap}
use mathlib.Core.Bool.{Bool, true, false, ◌&&◌}
use mathlib.Core.List.{List, [], ◌∷◌, ◌++◌, map}
use native.Mathlib.Omega.{arith}
use native.Mathlib.Decide.{ℕ_discrete, dec_lt}
use lib.ListN.{length, set, get_or-eq_default}
use lib.IntN.{ℤ, pos, neg_ℤ, nat_abs, ◌-ℤ◌}
use lib.Signed.{le_z, lt_z, ◌≤ℤ◌}
use mir.Syntax.{w64}
use mir.Val.{SFits, to_z, of_z}
use mir.Facts.{to_z_pos, to_z-of_z}
use Rattle.std.specs.Array.{AllOfLen}
use Rattle.laws.specs.Integers.{zarith, abs-sub, within, le_z-true, lt-nle, nlt-le}
use Rattle.laws.specs.Lists.{at, tab, tabs}
use Rattle.laws.specs.Tabs.{Filled, filled_more, at-below, at_stored, tabs-step, tabs-done, map-tab}
use Rattle.meaning.specs.Boxes.{side_at, sides_of, lies}
use Rattle.meaning.specs.Plants.{edge_limit, band_limit, span, times, edges_of, band_of, wide}
use Rattle.meaning.specs.Numbers.{bytes_of, stored}
use Rattle.files.specs.Signed.{signed_bytes}
use Rattle.files.specs.Parts.{Fails, holds_then, holds-fails, fails-then, Rows, rows_none, rows_more, rows-fails, rows_all}
use Rattle.files.specs.Spans.{span_in, Spanned}
use Rattle.files.specs.Bounds.{edges_part, EndsWithin, EdgesRead, BandSizes, BandsRead}
use Rattle.meaning.specs.declared.Refusal.{Refusal}

-- ---- the loop over bands: i dimensions are done

pub record BandsUpTo (s : List ℕ) (from n i p : ℕ) (wlo whi : List ℤ) : Type 0 where
  pub rows : Rows (span band_limit) (band_of wlo whi) s from n i p
  pub wlo-filled : Filled 4 i wlo
  pub whi-filled : Filled 4 i whi
  pub sizes : BandSizes i wlo whi

-- four ends at their default are zeros
filled-default : (l : List ℤ) → AllOfLen (λ v. v ≡ pos 0) l 4 → Filled 4 0 l
filled-default l h = record { size = h.long; rest = λ k _. go k (dec_lt k 4) }
  where
    go : (k : ℕ) → Dec (k < 4) → at l k ≡ pos 0
    go k (yes a) = h.at k (pos 0) a
    go k (no a) = get_or-eq_default l (pos 0) (omega (arith, h.long))

pub bands-none : (s : List ℕ) (from n : ℕ) {wlo whi : List ℤ} → AllOfLen (λ v. v ≡ pos 0) wlo 4 → AllOfLen (λ v. v ≡ pos 0) whi 4 → BandsUpTo s from n 0 from wlo whi
bands-none s from n {wlo} {whi} a b = record {
  rows = rows_none (span band_limit) (band_of wlo whi) s from n;
  wlo-filled = filled-default wlo a;
  whi-filled = filled-default whi b;
  sizes = λ k h. absurd (omega arith);
}

-- two stores at i: below it as before, at it what was stored
pair_same : (f g : List ℤ) (i : ℕ) (a b : ℤ) (k : ℕ) → k < i → band_of (set f i a) (set g i b) k ≡ band_of f g k
pair_same f g i a b k h = rw (at-below f i a k h, at-below g i b k h) refl

pair-new : (f g : List ℤ) (i : ℕ) (a b : ℤ) → i < length f → i < length g → band_of (set f i a) (set g i b) i ≡ a ∷ b ∷ []
pair-new f g i a b h l = rw (at_stored f i a h, at_stored g i b l) refl

-- both ends of a span lie within its limit
span-sizes : (limit : ℕ) {s : List ℕ} {from : ℕ} {lo hi : ℤ} {next : ℕ} → Spanned (neg_ℤ (pos limit)) (pos limit) s from lo hi next → (nat_abs lo ≤ limit) × (nat_abs hi ≤ limit)
span-sizes limit {s} {from} {lo} {hi} {next} w =
    let a = le_z-true (neg_ℤ (pos limit)) lo w.low in
    let b = le_z-true lo hi w.order in
    let c = le_z-true hi (pos limit) w.high in
    let d : lo ≤ℤ pos limit = omega zarith in
    let e : neg_ℤ (pos limit) ≤ℤ hi = omega zarith in
    (within limit a d, within limit e c)

sizes-more : (limit : ℕ) (lo hi : List ℤ) (i : ℕ) (a b : ℤ) → i < length lo → i < length hi → (nat_abs a ≤ limit) × (nat_abs b ≤ limit) → EndsWithin limit i lo hi → EndsWithin limit (i + 1) (set lo i a) (set hi i b)
sizes-more limit lo hi i a b h l t w k g = go (ℕ_discrete k i)
  where
    go : Dec (k ≡ i) → (nat_abs (at (set lo i a) k) ≤ limit) × (nat_abs (at (set hi i b) k) ≤ limit)
    go (yes e) = rw (e, at_stored lo i a h, at_stored hi i b l) t
    go (no e) = let c : k < i = omega arith in rw (at-below lo i a k c, at-below hi i b k c) (w k c)

module _ {s : List ℕ} {from n i p : ℕ} {wlo whi : List ℤ} (w : BandsUpTo s from n i p wlo whi) where
  pub bands-more : (lo hi : ℤ) (next : ℕ) → i < n → n ≤ 4 → Spanned (neg_ℤ (pos band_limit)) (pos band_limit) s p lo hi next → BandsUpTo s from n (i + 1) next (set wlo i lo) (set whi i hi)
  bands-more lo hi next h l t = record {
    rows = rows_more w.rows (band_of (set wlo i lo) (set whi i hi)) next h (λ k a. pair_same wlo whi i lo hi k a) (rw (pair-new wlo whi i lo hi a b) t.part);
    wlo-filled = filled_more lo w.wlo-filled;
    whi-filled = filled_more hi w.whi-filled;
    sizes = sizes-more band_limit wlo whi i lo hi a b (span-sizes band_limit t) w.sizes;
  }
    where
      a : i < length wlo
      a = omega (arith, w.wlo-filled.size)

      b : i < length whi
      b = omega (arith, w.whi-filled.size)

  pub bands-fails : (e : Refusal) → i < n → Fails (span_in (neg_ℤ (pos band_limit)) (pos band_limit)) s p e → Fails (times n (span band_limit)) s from e
  bands-fails e h t = rows-fails w.rows h t

  pub bands-all : n ≤ i → BandsRead s from n (record { lo = wlo; hi = whi }) p
  bands-all h =
      let j : i ≡ n = omega (arith, w.rows.few) in
      record {
        part = rows_all w.rows h;
        wlo-filled = rw (← j) w.wlo-filled;
        whi-filled = rw (← j) w.whi-filled;
        sizes = λ k l. w.sizes k (omega arith);
      }

-- ---- the loop over edges: i dimensions are done

pub record EdgesUpTo (s : List ℕ) (from n i p : ℕ) (rlo rhi slo shi : List ℤ) : Type 0 where
  pub rows : Rows edges_part (edges_of rlo rhi slo shi) s from n i p
  pub rlo-filled : Filled 4 i rlo
  pub rhi-filled : Filled 4 i rhi
  pub slo-filled : Filled 4 i slo
  pub shi-filled : Filled 4 i shi
  pub sizes : EndsWithin edge_limit i slo shi

pub edges_none : (s : List ℕ) (from n : ℕ) {rlo rhi slo shi : List ℤ} → AllOfLen (λ v. v ≡ pos 0) rlo 4 → AllOfLen (λ v. v ≡ pos 0) rhi 4
    → AllOfLen (λ v. v ≡ pos 0) slo 4 → AllOfLen (λ v. v ≡ pos 0) shi 4 → EdgesUpTo s from n 0 from rlo rhi slo shi
edges_none s from n {rlo} {rhi} {slo} {shi} a b c d = record {
  rows = rows_none edges_part (edges_of rlo rhi slo shi) s from n;
  rlo-filled = filled-default rlo a;
  rhi-filled = filled-default rhi b;
  slo-filled = filled-default slo c;
  shi-filled = filled-default shi d;
  sizes = λ k h. absurd (omega arith);
}

-- R's span, and S's behind it
abbrev EdgeSpan : List ℕ → ℕ → ℤ → ℤ → ℕ → Type 0
EdgeSpan = Spanned (neg_ℤ (pos edge_limit)) (pos edge_limit)

module _ {s : List ℕ} {from n i p : ℕ} {rlo rhi slo shi : List ℤ} (w : EdgesUpTo s from n i p rlo rhi slo shi) where
  pub edges_more : (a b c d : ℤ) (mid next : ℕ) → i < n → n ≤ 4 → EdgeSpan s p a b mid → EdgeSpan s mid c d next
      → EdgesUpTo s from n (i + 1) next (set rlo i a) (set rhi i b) (set slo i c) (set shi i d)
  edges_more a b c d mid next h l t u = record {
    rows = rows_more w.rows (edges_of (set rlo i a) (set rhi i b) (set slo i c) (set shi i d)) next h same (rw new (holds_then t.part u.part));
    rlo-filled = filled_more a w.rlo-filled;
    rhi-filled = filled_more b w.rhi-filled;
    slo-filled = filled_more c w.slo-filled;
    shi-filled = filled_more d w.shi-filled;
    sizes = sizes-more edge_limit slo shi i c d (there w.slo-filled) (there w.shi-filled) (span-sizes edge_limit u) w.sizes;
  }
    where
      same : (k : ℕ) → k < i → edges_of (set rlo i a) (set rhi i b) (set slo i c) (set shi i d) k ≡ edges_of rlo rhi slo shi k
      same k g = rw (at-below rlo i a k g, at-below rhi i b k g, at-below slo i c k g, at-below shi i d k g) refl

      there : {f : List ℤ} → Filled 4 i f → i < length f
      there f = omega (arith, f.size)

      new : edges_of (set rlo i a) (set rhi i b) (set slo i c) (set shi i d) i ≡ a ∷ b ∷ c ∷ d ∷ []
      new = rw (at_stored rlo i a (there w.rlo-filled), at_stored rhi i b (there w.rhi-filled), at_stored slo i c (there w.slo-filled), at_stored shi i d (there w.shi-filled)) refl

  pub root-fails : (e : Refusal) → i < n → Fails (span_in (neg_ℤ (pos edge_limit)) (pos edge_limit)) s p e → Fails (times n edges_part) s from e
  root-fails e h t = rows-fails w.rows h (fails-then {g = span edge_limit} t)

  pub safe-fails : (a b : ℤ) (mid : ℕ) (e : Refusal) → i < n → EdgeSpan s p a b mid → Fails (span_in (neg_ℤ (pos edge_limit)) (pos edge_limit)) s mid e → Fails (times n edges_part) s from e
  safe-fails a b mid e h t u = rows-fails w.rows h (holds-fails t.part u)

  pub edges-all : n ≤ i → EdgesRead s from n (record { lo = rlo; hi = rhi }) (record { lo = slo; hi = shi }) p
  edges-all h =
      let j : i ≡ n = omega (arith, w.rows.few) in
      record {
        part = rows_all w.rows h;
        rlo-filled = rw (← j) w.rlo-filled;
        rhi-filled = rw (← j) w.rhi-filled;
        slo-filled = rw (← j) w.slo-filled;
        shi-filled = rw (← j) w.shi-filled;
        sizes = λ k l. w.sizes k (omega arith);
      }

-- ---- R in S, and bands wide enough, as tests by dimension

pub inside : List ℤ → List ℤ → List ℤ → List ℤ → ℕ → Bool
inside alo ahi blo bhi i = le_z (at blo i) (at alo i) && le_z (at ahi i) (at bhi i)

pub lies-tab : (alo ahi blo bhi : List ℤ) (n i : ℕ) → lies (tab (side_at alo ahi) n i) (tab (side_at blo bhi) n i) ≡ tab (inside alo ahi blo bhi) n i
unfolding tab lies inside
lies-tab alo ahi blo bhi zero i = refl
lies-tab alo ahi blo bhi (suc n) i = ap (λ (ts : List Bool). inside alo ahi blo bhi i ∷ ts) (lies-tab alo ahi blo bhi n (i + 1))

module _ (alo ahi blo bhi : List ℤ) (i : ℕ) where
  pub below : lt_z (at alo i) (at blo i) ≡ true → inside alo ahi blo bhi i ≡ false
  unfolding inside
  below h = simp (lt-nle (at alo i) (at blo i) h)

  pub above : lt_z (at alo i) (at blo i) ≡ false → lt_z (at bhi i) (at ahi i) ≡ true → inside alo ahi blo bhi i ≡ false
  unfolding inside
  above g h = simp (nlt-le (at alo i) (at blo i) g, lt-nle (at bhi i) (at ahi i) h)

  pub between : lt_z (at alo i) (at blo i) ≡ false → lt_z (at bhi i) (at ahi i) ≡ false → inside alo ahi blo bhi i ≡ true
  unfolding inside
  between g h = simp (nlt-le (at alo i) (at blo i) g, nlt-le (at bhi i) (at ahi i) h)

pub broad : ℕ → List ℤ → List ℤ → ℕ → Bool
broad q wlo whi i = wide q (side_at wlo whi i)

pub wide-tab : (q : ℕ) (wlo whi : List ℤ) (n : ℕ) → map (wide q) (sides_of n wlo whi) ≡ tab (broad q wlo whi) n 0
unfolding broad
wide-tab q wlo whi n = map-tab (wide q) (side_at wlo whi) n 0

-- the machine's q − 1 and w hi − w lo
need-fits : (q : ℕ) → q ≤ 10000 → SFits w64 (to_z w64 q -ℤ pos 1)
need-fits q h =
    let e : to_z w64 q ≡ pos q = to_z_pos w64 (omega arith) in
    rw e (omega (zarith, abs-sub (pos q) (pos 1)))

width_fits : (lo hi : ℤ) → nat_abs lo ≤ band_limit → nat_abs hi ≤ band_limit → SFits w64 (hi -ℤ lo)
width_fits lo hi h l = omega (zarith, abs-sub hi lo)

module _ (q : ℕ) (wlo whi : List ℤ) (i : ℕ) (h : q ≤ 10000) (l : nat_abs (at wlo i) ≤ band_limit) (g : nat_abs (at whi i) ≤ band_limit) where
  -- the test as the machine makes it, read
  read-test : (t : Bool) → lt_z (to_z w64 (of_z w64 (at whi i -ℤ at wlo i))) (to_z w64 (of_z w64 (to_z w64 q -ℤ pos 1))) ≡ t → lt_z (at whi i -ℤ at wlo i) (pos q -ℤ pos 1) ≡ t
  read-test t e =
      let c : to_z w64 q ≡ pos q = to_z_pos w64 (omega arith) in
      rw (to_z-of_z (width_fits (at wlo i) (at whi i) l g), to_z-of_z (need-fits q h), c) at e

  pub thin : lt_z (to_z w64 (of_z w64 (at whi i -ℤ at wlo i))) (to_z w64 (of_z w64 (to_z w64 q -ℤ pos 1))) ≡ true → broad q wlo whi i ≡ false
  unfolding broad
  thin e = lt-nle (at whi i -ℤ at wlo i) (pos q -ℤ pos 1) (read-test true e)

  pub thick : lt_z (to_z w64 (of_z w64 (at whi i -ℤ at wlo i))) (to_z w64 (of_z w64 (to_z w64 q -ℤ pos 1))) ≡ false → broad q wlo whi i ≡ true
  unfolding broad
  thick e = nlt-le (at whi i -ℤ at wlo i) (pos q -ℤ pos 1) (read-test false e)

-- ---- written: one dimension more, or none

pub edges_step : (rlo rhi slo shi : List ℤ) (n i : ℕ) → i < n → signed_bytes (tabs (edges_of rlo rhi slo shi) (n - i) i)
    ≡ bytes_of (stored (at rlo i)) ++ (bytes_of (stored (at rhi i)) ++ (bytes_of (stored (at slo i)) ++ (bytes_of (stored (at shi i)) ++ signed_bytes (tabs (edges_of rlo rhi slo shi) (n - (i + 1)) (i + 1)))))
unfolding signed_bytes
edges_step rlo rhi slo shi n i h = ap signed_bytes (tabs-step (edges_of rlo rhi slo shi) n i h)

pub bands-step : (wlo whi : List ℤ) (n i : ℕ) → i < n → signed_bytes (tabs (band_of wlo whi) (n - i) i)
    ≡ bytes_of (stored (at wlo i)) ++ (bytes_of (stored (at whi i)) ++ signed_bytes (tabs (band_of wlo whi) (n - (i + 1)) (i + 1)))
unfolding signed_bytes
bands-step wlo whi n i h = ap signed_bytes (tabs-step (band_of wlo whi) n i h)

pub tabs-over : (f : ℕ → List ℤ) (n i : ℕ) → n ≤ i → signed_bytes (tabs f (n - i) i) ≡ []
unfolding signed_bytes
tabs-over f n i h = ap signed_bytes (tabs-done f n i h)
