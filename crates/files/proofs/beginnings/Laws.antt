-- A beginning read and judged part by part. Assumes nothing.
use Rattle.std.specs.Prelude.{Ok, Err}
use Prim.Native.Nat.{ℕ, ◌≤◌, ◌<◌}
use mathlib.Core.Path.{◌≡◌, refl, ap, ◌∙◌, subst}
use mathlib.Core.Bool.{Bool, true, false}
use mathlib.Core.List.{List, map}
use native.Mathlib.Omega.{arith}
use lib.ListN.{length}
use Rattle.laws.specs.Lists.{all, first_false}
use Rattle.laws.specs.Tabs.{length-tab}
use Rattle.laws.specs.Tests.{first-within, first-behind}
use Rattle.meaning.specs.declared.Refusal.{Refusal}
use Rattle.meaning.specs.Refusals.{not_in_safe, narrow}
use Rattle.meaning.specs.Files.{Form, refused, values_at}
use Rattle.meaning.specs.Boxes.{sides_of, lies}
use Rattle.meaning.specs.Plants.{band_limit, span, times, edges, bands, edges_and_bands, headed, wide, wide_modes}
use Rattle.files.specs.declared.headers.Header.{Header}
use Rattle.files.specs.declared.bounds.Sides.{Sides}
use Rattle.files.specs.declared.beginnings.Beginning.{Beginning}
use Rattle.files.specs.Headers.{Headed}
use Rattle.files.specs.Parts.{behind, behind-refused, Fails, holds_then, holds-fails, fails-then}
use Rattle.files.specs.Bounds.{edges_part, EdgesRead, BandsRead}
use Rattle.files.specs.Beginnings.{beginning_form, head_numbers, relation, Begun, BoundsRead}
use Rattle.files.specs.BeginningLaws.{begun}
use Rattle.files.proofs.bounds.Laws.{inside, lies-tab, broad, wide-tab}

-- ---- judged

module _ (b : Beginning) where
  in_safe : List Bool
  in_safe = lies (sides_of b.n b.root.lo b.root.hi) (sides_of b.n b.safe.lo b.safe.hi)

  all_wide : List Bool
  all_wide = map (wide b.q) (sides_of b.n b.bands.lo b.bands.hi)

  in_safe-long : length in_safe ≡ b.n
  unfolding in_safe
  in_safe-long = ap length (lies-tab b.root.lo b.root.hi b.safe.lo b.safe.hi b.n 0) ∙ length-tab (inside b.root.lo b.root.hi b.safe.lo b.safe.hi) b.n 0

  all_wide-long : length all_wide ≡ b.n
  unfolding all_wide
  all_wide-long = ap length (wide-tab b.q b.bands.lo b.bands.hi b.n) ∙ length-tab (broad b.q b.bands.lo b.bands.hi) b.n 0

  module _ (o : ℕ) (i : o ≡ first_false (lies (sides_of b.n b.root.lo b.root.hi) (sides_of b.n b.safe.lo b.safe.hi))) where
    pub out-told : o < b.n → Err (not_in_safe o) ≡ relation b
    unfolding in_safe
    out-told h =
        let a : all in_safe ≡ false = first-within in_safe (omega (arith, in_safe-long, i)) in
        simp a (rw i refl)

    module _ (g : b.n ≤ o) (k : ℕ) (j : k ≡ first_false (map (wide b.q) (sides_of b.n b.bands.lo b.bands.hi))) where
      all_in : all (lies (sides_of b.n b.root.lo b.root.hi) (sides_of b.n b.safe.lo b.safe.hi)) ≡ true
      unfolding in_safe
      all_in = first-behind in_safe (omega (arith, in_safe-long, i))

      pub thin-told : k < b.n → Err (narrow 0 k) ≡ relation b
      unfolding all_wide wide_modes
      thin-told h =
          let a : all all_wide ≡ false = first-within all_wide (omega (arith, all_wide-long, j)) in
          simp (all_in, a) (rw j refl)

      pub all_told : b.n ≤ k → Ok tt ≡ relation b
      unfolding all_wide wide_modes
      all_told h =
          let a : all all_wide ≡ true = first-behind all_wide (omega (arith, all_wide-long, j)) in
          simp (all_in, a)

-- ---- what stands behind a header

module _ (s : List ℕ) (h : Header) (from : ℕ) where
  pub edges-refused : (r : Refusal) → Fails (times h.n edges_part) s from r → Fails (edges_and_bands h.n) s from r
  unfolding edges bands
  edges-refused r t = fails-then {g = times h.n (span band_limit)} t

  module _ (root safe : Sides) (mid : ℕ) (t : EdgesRead s from h.n root safe mid) where
    pub bands-refused : (r : Refusal) → Fails (times h.n (span band_limit)) s mid r → Fails (edges_and_bands h.n) s from r
    unfolding edges bands
    bands-refused r u = holds-fails t.part u

    pub bounds-read : (w : Sides) (next : ℕ) → BandsRead s mid h.n w next
        → BoundsRead s h from (record { form = h.form; n = h.n; m = h.m; q = h.q; k = h.k; d = h.d; root = root; safe = safe; bands = w }) next
    unfolding edges bands
    bounds-read w next u = record {
      same = refl;
      part = holds_then t.part u.part;
      rlo-filled = t.rlo-filled;
      rhi-filled = t.rhi-filled;
      slo-filled = t.slo-filled;
      shi-filled = t.shi-filled;
      wlo-filled = u.wlo-filled;
      whi-filled = u.whi-filled;
      edge-sizes = t.sizes;
      band-sizes = u.sizes;
    }

-- ---- the header in front

module _ (forms most : ℕ) (s : List ℕ) where
  pub header-cut : (e : Refusal) → ((rest : ℕ → ℕ → ℕ → Form) → values_at (headed forms most rest) s 0 ≡ refused e) → (rest : ℕ → ℕ → ℕ → Form) → values_at (beginning_form forms most rest) s 0 ≡ refused e
  header-cut e t rest = t (λ form n m. edges_and_bands n (rest form n m))

  module _ (h : Header) (from : ℕ) (t : Headed forms most s h from) where
    pub bounds-cut : (e : Refusal) → Fails (edges_and_bands h.n) s from e → (rest : ℕ → ℕ → ℕ → Form) → values_at (beginning_form forms most rest) s 0 ≡ refused e
    bounds-cut e u rest =
        t.holds (λ form n m. edges_and_bands n (rest form n m))
        ∙ ap (behind (head_numbers h)) (u.fails (rest h.form h.n h.m)) ∙ behind-refused (head_numbers h) e

    pub bounds-begun : (b : Beginning) (next : ℕ) → BoundsRead s h from b next → Begun forms most s b next
    bounds-begun b next u = subst (λ (x : Header). Headed forms most s x from → BoundsRead s x from b next → Begun forms most s b next) u.same (begun forms most s b from next) t u
