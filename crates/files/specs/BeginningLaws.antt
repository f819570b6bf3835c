-- A beginning is what its numbers say, whatever stands behind them; and what is told of one that was read settles it. Relies on promises' page Bodies.
use Rattle.std.specs.Prelude.{ℕ, ◌+◌, ◌*◌, ◌<◌, ◌≡◌, refl, ℤ, Ok, Err, Result}
use Rattle.std.proofs.Common.{sym, ◌∙◌, arith}
use Rattle.std.proofs.Math.Path.{ap}
use mathlib.Core.List.{List, [], ◌++◌, append_assoc}
use Rattle.laws.specs.Lists.{at}
use Rattle.laws.specs.Tabs.{Filled}
use Rattle.meaning.specs.declared.Refusal.{Refusal}
use Rattle.meaning.specs.Files.{end, read, values_at}
use Rattle.meaning.specs.Plants.{edges_of, band_of, column, edges_and_bands}
use Rattle.promises.specs.Files.Bodies.{edge_same, band-same}
use Rattle.files.specs.declared.beginnings.Beginning.{Beginning}
use Rattle.files.specs.declared.beginnings.BeginningRead.{BeginningRead}
use Rattle.files.specs.Headers.{Headed}
use Rattle.files.specs.Parts.{behind, behind-append, behind-read}
use Rattle.files.specs.Beginnings.{head_numbers, head_of, edges_in, bands_in, beginning_numbers, beginning_of, relation, beginning_from, beginning_read, Begun, BeginningTold, BoundsRead}

-- two beginnings of the same fields
same : (form n m q k d : ℕ) {rlo rhi slo shi wlo whi rlo' rhi' slo' shi' wlo' whi' : List ℤ}
    → rlo ≡ rlo' → rhi ≡ rhi' → slo ≡ slo' → shi ≡ shi' → wlo ≡ wlo' → whi ≡ whi'
    → ◌≡◌ {A = Beginning}
    (record { form = form; n = n; m = m; q = q; k = k; d = d; root = record { lo = rlo; hi = rhi }; safe = record { lo = slo; hi = shi }; bands = record { lo = wlo; hi = whi } })
    (record { form = form; n = n; m = m; q = q; k = k; d = d; root = record { lo = rlo'; hi = rhi' }; safe = record { lo = slo'; hi = shi' }; bands = record { lo = wlo'; hi = whi' } })
same form n m q k d e₀ e₁ e₂ e₃ e₄ e₅ = rw (e₀, e₁, e₂, e₃, e₄, e₅) refl

module _ {forms most : ℕ} {s : List ℕ} (b : Beginning) {next : ℕ} (t : Begun forms most s b next) (rest : List ℤ) where
  abbrev edges : ℕ → List ℤ
  edges = edges_of b.root.lo b.root.hi b.safe.lo b.safe.hi

  abbrev bands : ℕ → List ℤ
  bands = band_of b.bands.lo b.bands.hi

  abbrev numbers : List ℤ
  numbers = head_numbers (head_of b) ++ (edges_in b ++ (bands_in b ++ rest))

  edges-same : (j : ℕ) → j < 4 → (l : List ℤ) → Filled 4 b.n l → ((i : ℕ) → at (edges i) j ≡ at l i) → column numbers (6 + j) 4 b.n ≡ l
  edges-same = edge_same (head_numbers (head_of b)) refl b.n edges (λ i. refl) (bands_in b ++ rest) t.n-high

  bands-same : (j : ℕ) → j < 2 → (l : List ℤ) → Filled 4 b.n l → ((i : ℕ) → at (bands i) j ≡ at l i) → column numbers (6 + j + 4 * b.n) 2 b.n ≡ l
  bands-same = band-same (head_numbers (head_of b)) refl b.n edges bands (λ i. refl) (λ i. refl) rest t.n-high

  beginning-back : beginning_of (beginning_numbers b ++ rest) ≡ b
  unfolding beginning_numbers
  beginning-back =
      ap (λ (l : List ℤ). beginning_of (head_numbers (head_of b) ++ l)) (append_assoc (edges_in b) (bands_in b) rest)
      ∙ same b.form b.n b.m b.q b.k b.d
      (edges-same 0 (omega arith) b.root.lo t.rlo-filled (λ i. refl))
      (edges-same 1 (omega arith) b.root.hi t.rhi-filled (λ i. refl))
      (edges-same 2 (omega arith) b.safe.lo t.slo-filled (λ i. refl))
      (edges-same 3 (omega arith) b.safe.hi t.shi-filled (λ i. refl))
      (bands-same 0 (omega arith) b.bands.lo t.wlo-filled (λ i. refl))
      (bands-same 1 (omega arith) b.bands.hi t.whi-filled (λ i. refl))

-- ---- told is settled

pub settled : (forms most : ℕ) (s : List ℕ) (r : Result BeginningRead Refusal) → BeginningTold forms most s r → r ≡ beginning_read forms most s
unfolding beginning_read values_at
settled forms most s (Err e) t = sym (ap beginning_from (t (λ form n m. end)))
settled forms most s (Ok r) t = sym (ap beginning_from (t.0.holds (λ form n m. end) ∙ ends) ∙ taken)
  where
    b : Beginning
    b = r.beginning

    ends : behind (beginning_numbers b) (values_at end s r.next) ≡ read (beginning_numbers b ++ []) r.next
    ends = behind-read (beginning_numbers b) [] r.next

    so : Beginning → Result BeginningRead Refusal
    so x = Ok (record { beginning = x; related = relation x; next = r.next })

    taken : beginning_from (read (beginning_numbers b ++ []) r.next) ≡ Ok r
    taken = ap so (beginning-back b t.0 []) ∙ rw (← t.1) refl

-- ---- a header and what stands behind it

pub begun : (forms most : ℕ) (s : List ℕ) (b : Beginning) (from next : ℕ) → Headed forms most s (head_of b) from → BoundsRead s (head_of b) from b next → Begun forms most s b next
unfolding beginning_numbers
begun forms most s b from next t u = record {
  form-low = t.form-low;
  form-high = t.form-high;
  n-low = t.n-low;
  n-high = t.n-high;
  m-low = t.m-low;
  m-high = t.m-high;
  q-low = t.q-low;
  q-high = t.q-high;
  rlo-filled = u.rlo-filled;
  rhi-filled = u.rhi-filled;
  slo-filled = u.slo-filled;
  shi-filled = u.shi-filled;
  wlo-filled = u.wlo-filled;
  whi-filled = u.whi-filled;
  edge-sizes = u.edge-sizes;
  band-sizes = u.band-sizes;
  holds = λ rest.
      t.holds (λ form n m. edges_and_bands n (rest form n m)) ∙ ap (behind (head_numbers (head_of b))) (u.part.holds (rest b.form b.n b.m))
      ∙ sym (behind-append (head_numbers (head_of b)) (edges_in b ++ bands_in b) (values_at (rest b.form b.n b.m) s next));
}
