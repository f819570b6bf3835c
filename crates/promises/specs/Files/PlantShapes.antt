-- The shape of a plant's file, of either form: the numbers of every plant have it, and numbers that were read by the form are those of the plant that
-- they make. Relies on pages Bodies, Files, FormShapes and Headers. The other half, that a plant is what its numbers say, stands on page Plants.
use Rattle.std.specs.Prelude.{ℕ, ◌+◌, ◌*◌, ◌≤◌, ◌<◌, ◌≡◌, Bool, true, false, ◌↔◌, length, ℤ, pos}
use Rattle.std.proofs.Math.Path.{refl, ap}
use Rattle.std.proofs.Common.{sym, ◌∙◌, mul-le-mul, length-append}
use Rattle.std.proofs.Math.Bool.{cond}
use mathlib.Core.List.{List, [], ◌∷◌, ◌++◌}
use native.Mathlib.Omega.{arith}
use Rattle.std.proofs.Math.Nat.{zero-add}
use Rattle.std.proofs.Math.Seq.{get_or-append-add}
use Rattle.laws.specs.Lists.{at, tab, tabs}
use Rattle.laws.specs.Tabs.{length-tab, length-tabs, Filled}
use Rattle.laws.specs.Tests.{never}
use Rattle.laws.specs.Columns.{tab-join, tabs-tab, tab-at, tab-moved, padded-filled, parted-long, parted-tab}
use Rattle.meaning.specs.Files.{Form, read, values_at}
use Rattle.meaning.specs.Plants.{times, edges, row, headed, plant_forms, most_modes, own_bands, modes_own, modes_alike, modes_form, plant_form, edges_of, column, Plant, most_coefs, coef_count, most_bands, band_count, mode_size, bands_at, rows_at, band_numbers, row_numbers, modes_numbers, plant_of, numbers_of}
use Rattle.promises.specs.Files.Bodies.{edges-taken}
use Rattle.promises.specs.Files.Files.{Shaped, writes-back}
use Rattle.promises.specs.Files.FormShapes.{Takes, edges-takes, bands-takes, row-takes, times-takes, then-takes, takes_all}
use Rattle.promises.specs.Files.Headers.{headed-read}
use Rattle.promises.specs.Files.Plants.{Tidy, mode-long}

-- what a plant's file holds behind the header
abbrev pub plant_body : ℕ → ℕ → ℕ → Form
plant_body form n modes = edges n (modes_form form n modes)

-- how many numbers the modes have
abbrev pub modes_count : Bool → ℕ → ℕ → ℕ
modes_count own n modes = cond own (mode_size n * modes) (2 * n + n * (n + 1) * modes)

rows_take : (n m : ℕ) → Takes (times m (row n)) (m * (n + 1))
rows_take n m = times-takes (row-takes n) m

body-shape : (own : Bool) (n modes : ℕ) (vs : List ℤ) → Shaped (edges n (cond own (modes_own n modes) (modes_alike n modes))) vs ↔ (length vs ≡ 4 * n + modes_count own n modes)
unfolding modes_own modes_alike
body-shape true n modes vs =
    let e : 4 * n + mode_size n * modes ≡ 4 * n + modes * (2 * n + n * (n + 1)) = omega arith in
    rw e (takes_all (then-takes (edges-takes n) (times-takes (then-takes (bands-takes n) (rows_take n n)) modes)) vs)
body-shape false n modes vs =
    let e : 4 * n + (2 * n + n * (n + 1) * modes) ≡ 4 * n + (2 * n + modes * n * (n + 1)) = omega arith in
    rw e (takes_all (then-takes (edges-takes n) (then-takes (bands-takes n) (rows_take n (modes * n)))) vs)

-- the numbers of any modes, as many
pub modes-long : (own : Bool) (n modes : ℕ) (bands coef : List ℤ)
    → length (cond own (tabs (λ u. band_numbers n bands u ++ row_numbers n coef u) modes 0) (band_numbers n bands 0 ++ tabs (row_numbers n coef) modes 0)) ≡ modes_count own n modes
modes-long true n modes bands coef = length-tabs (λ u. band_numbers n bands u ++ row_numbers n coef u) (mode_size n) (mode-long n modes bands coef) modes 0
modes-long false n modes bands coef =
    length-append (band_numbers n bands 0) (tabs (row_numbers n coef) modes 0)
    ∙ rw (length-tab (at bands) (2 * n) (2 * n * 0), length-tabs (row_numbers n coef) (n * (n + 1)) (λ u. length-tab (at coef) (n * (n + 1)) (n * (n + 1) * u)) modes 0) refl

-- the numbers of any plant, of any size
pub plant-shaped : (p : Plant) → Shaped plant_form (numbers_of p)
unfolding Shaped plant_form headed numbers_of
plant-shaped p = (refl, (refl, (refl, (refl, (refl, (refl, (body-shape (own_bands p.form) p.n p.modes (sides ++ modes)).1 long))))))
  where
    sides : List ℤ
    sides = tabs (edges_of p.rlo p.rhi p.slo p.shi) p.n 0

    modes : List ℤ
    modes = modes_numbers p.form p.n p.modes p.bands p.coef

    long : length (sides ++ modes) ≡ 4 * p.n + modes_count (own_bands p.form) p.n p.modes
    long =
        let a = length-tabs (edges_of p.rlo p.rhi p.slo p.shi) 4 (λ k. refl) p.n 0 in
        let b = modes-long (own_bands p.form) p.n p.modes p.bands p.coef in
        length-append sides modes ∙ rw (a, b) refl

-- a plant has at most 5,120 coefficients, and 2,048 ends of bands
pub numbers-few : (modes n : ℕ) → n ≤ 4 → modes ≤ most_modes → coef_count modes n ≤ most_coefs
numbers-few modes n few many = let a : modes * n ≤ most_modes * 4 = mul-le-mul many few in let b : n + 1 ≤ 5 = omega arith in omega (arith, mul-le-mul a b)

pub ends-few : (modes n : ℕ) → n ≤ 4 → modes ≤ most_modes → band_count modes n ≤ most_bands
ends-few modes n few many = let a : modes * n ≤ most_modes * 4 = mul-le-mul many few in omega arith

-- ---- numbers that were read, as many as n rooms and N modes call for

module _ (form n modes q k d : ℕ) (body : List ℤ) (few : n ≤ 4) (some : 1 ≤ modes) (many : modes ≤ most_modes) (long : length body ≡ 4 * n + modes_count (own_bands form) n modes) where
  front : List ℤ
  front = pos form ∷ pos n ∷ pos modes ∷ pos q ∷ pos k ∷ pos d ∷ []

  numbers : List ℤ
  numbers = front ++ body

  bands : List ℤ
  bands = tabs (λ u. tab (at numbers) (2 * n) (bands_at form n u)) modes 0

  coefs : List ℤ
  coefs = tabs (λ u. tab (at numbers) (n * (n + 1)) (rows_at form n u)) modes 0

  -- behind the header
  here : (m i : ℕ) → tab (at numbers) m (6 + i) ≡ tab (at body) m i
  unfolding front numbers
  here m i = tab-moved (at numbers) (at body) m (6 + i) i (λ k l. let e : 6 + i + k ≡ 6 + (i + k) = omega arith in ap (at numbers) e ∙ get_or-append-add front body (i + k) (pos 0))

  bands-back : (u : ℕ) → u < modes → band_numbers n bands u ≡ tab (at body) (2 * n) (4 * n + cond (own_bands form) (mode_size n * u) 0)
  unfolding bands
  bands-back u h =
      let c = cond (own_bands form) (mode_size n * u) 0 in
      let e : 6 + 4 * n + c ≡ 6 + (4 * n + c) = omega arith in
      parted-tab numbers (2 * n) (bands_at form n) modes u h ∙ ap (tab (at numbers) (2 * n)) e ∙ here (2 * n) (4 * n + c)

  rows_back : (u : ℕ) → u < modes → row_numbers n coefs u ≡ tab (at body) (n * (n + 1)) (6 * n + cond (own_bands form) (mode_size n * u) (n * (n + 1) * u))
  unfolding coefs
  rows_back u h =
      let c = cond (own_bands form) (mode_size n * u) (n * (n + 1) * u) in
      let e : 6 + 6 * n + c ≡ 6 + (6 * n + c) = omega arith in
      parted-tab numbers (n * (n + 1)) (rows_at form n) modes u h ∙ ap (tab (at numbers) (n * (n + 1))) e ∙ here (n * (n + 1)) (6 * n + c)

  modes-back : (own : Bool)
      → ((u : ℕ) → u < modes → band_numbers n bands u ≡ tab (at body) (2 * n) (4 * n + cond own (mode_size n * u) 0))
      → ((u : ℕ) → u < modes → row_numbers n coefs u ≡ tab (at body) (n * (n + 1)) (6 * n + cond own (mode_size n * u) (n * (n + 1) * u)))
      → cond own (tabs (λ u. band_numbers n bands u ++ row_numbers n coefs u) modes 0) (band_numbers n bands 0 ++ tabs (row_numbers n coefs) modes 0)
      ≡ tab (at body) (modes_count own n modes) (4 * n)
  modes-back true b r = tabs-tab (at body) (λ u. band_numbers n bands u ++ row_numbers n coefs u) (mode_size n) (4 * n) modes each
    where
      each : (u : ℕ) → u < modes → band_numbers n bands u ++ row_numbers n coefs u ≡ tab (at body) (mode_size n) (4 * n + mode_size n * u)
      each u h =
          let e : 6 * n + mode_size n * u ≡ 4 * n + mode_size n * u + 2 * n = omega arith in
          rw (b u h, r u h, e) (tab-join (at body) (2 * n) (n * (n + 1)) (4 * n + mode_size n * u))
  modes-back false b r =
      let z : 4 * n + 0 ≡ 4 * n = omega arith in
      let e : 6 * n ≡ 4 * n + 2 * n = omega arith in
      let first : band_numbers n bands 0 ≡ tab (at body) (2 * n) (4 * n) = b 0 (omega arith) ∙ ap (tab (at body) (2 * n)) z in
      let others : tabs (row_numbers n coefs) modes 0 ≡ tab (at body) (n * (n + 1) * modes) (4 * n + 2 * n) =
      tabs-tab (at body) (row_numbers n coefs) (n * (n + 1)) (6 * n) modes r ∙ ap (tab (at body) (n * (n + 1) * modes)) e in
      rw (first, others) (tab-join (at body) (2 * n) (n * (n + 1) * modes) (4 * n))

  numbers-back : numbers_of (plant_of numbers) ≡ numbers
  unfolding front numbers bands coefs plant_of numbers_of
  numbers-back =
      let c = modes_count (own_bands form) n modes in
      let z : 0 + 4 * n ≡ 4 * n = zero-add (4 * n) in
      ap (λ (t : List ℤ). front ++ t)
      (rw (edges-taken front refl body n, modes-back (own_bands form) bands-back rows_back)
      (ap (λ (i : ℕ). tab (at body) (4 * n) 0 ++ tab (at body) c i) (sym z) ∙ tab-join (at body) (4 * n) c 0 ∙ ap (λ (m : ℕ). tab (at body) m 0) (sym long) ∙ tab-at body))

  numbers-tidy : Tidy (plant_of numbers)
  unfolding front numbers bands coefs plant_of
  numbers-tidy =
      let b : 2 * n * modes ≡ band_count modes n = omega arith in
      let c : n * (n + 1) * modes ≡ coef_count modes n = omega arith in
      record {
        rooms = few;
        rlo-filled = columns 6 4;
        rhi-filled = columns 7 4;
        slo-filled = columns 8 4;
        shi-filled = columns 9 4;
        bands-long = parted-long numbers (2 * n) (bands_at form n) modes ∙ b;
        coef-long = parted-long numbers (n * (n + 1)) (rows_at form n) modes ∙ c;
        alike = λ one u h. alike (own_bands form) one u h bands-back;
      }
    where
      columns : (first by : ℕ) → Filled 4 n (column numbers first by n)
      columns first by = padded-filled (λ i. at numbers (first + by * i)) 4 n few

      alike : (own : Bool) → own ≡ false → (u : ℕ) → u < modes → ((u : ℕ) → u < modes → band_numbers n bands u ≡ tab (at body) (2 * n) (4 * n + cond own (mode_size n * u) 0))
          → band_numbers n bands 0 ≡ band_numbers n bands u
      alike true e u h b = never (sym e)
      alike false e u h b = b 0 (omega arith) ∙ sym (b u h)

-- the plant that numbers of a file make: its arrays are tidy, and those are its numbers
pub plant-read : (s : List ℕ) {vs : List ℤ} {next : ℕ} → values_at plant_form s 0 ≡ read vs next → Tidy (plant_of vs) × (numbers_of (plant_of vs) ≡ vs)
unfolding plant_form front numbers
plant-read s {vs} {next} e =
    let h = headed-read plant_forms most_modes plant_body s 0 e in
    let long = (body-shape (own_bands h.form) h.n h.m h.body).0 (writes-back (plant_body h.form h.n h.m) s h.place h.behind).0 in
    rw h.values (
      numbers-tidy h.form h.n h.m h.q h.k h.d h.body h.few h.some h.many long,
      numbers-back h.form h.n h.m h.q h.k h.d h.body h.few h.some h.many long,
    )
