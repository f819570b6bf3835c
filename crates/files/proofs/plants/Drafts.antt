-- A plant's draft: the file of its values, how long it can be, and that what is left of a lent buffer is told by how it is judged. Relies on page
-- DraftLaws.
use Prim.Native.Nat.{ℕ, zero, suc, ◌+◌, ◌-◌, ◌*◌, ◌≤◌}
use mathlib.Core.Path.{◌≡◌, refl, sym, ap, ◌∙◌}
use mathlib.Core.Bool.{Bool, true, false, cond}
use mathlib.Core.List.{List, [], ◌∷◌, ◌++◌, append_assoc, append-nil}
use native.Mathlib.Omega.{arith}
use native.Mathlib.Nat.{mul-le-mul}
use lib.ListN.{length, take, drop, length-append, length-take, length-drop, take-append-drop}
use lib.IntN.{ℤ}
use Rattle.meaning.specs.Answers.{PlantRead, verdict_in}
use Rattle.laws.specs.Lists.{at, tab, tabs}
use Rattle.laws.specs.Tabs.{length-tab, length-tabs}
use Rattle.meaning.specs.Buffers.{left}
use Rattle.meaning.specs.Files.{Form, end, file_of, Judged, good, bad}
use Rattle.meaning.specs.Plants.{band_limit, edge_limit, entry_limit, offset_limit, limited, span, times, edges, bands, row, plant_forms, most_modes, own_bands, mode_form, modes_own, modes_alike, modes_form, plant_form, Plant, edges_of, band_of, mode_size, band_numbers, row_numbers, modes_numbers, numbers_of, plant_related, plant_judged, read_of, plant_read, plant_left}
use Rattle.promises.specs.Files.PlantShapes.{modes_count, modes-long}
use Rattle.files.specs.Signed.{signed_bytes, signed-append}
use Rattle.files.specs.Beginnings.{edges_in, bands_in, verdict_of, by_verdict}
use Rattle.files.specs.BeginningFiles.{signed-long}
use Rattle.files.specs.DraftLaws.{draft-long, draft-left}
use Rattle.promises.specs.Files.Plants.{mode-long}
use Rattle.files.specs.Modes.{mode_numbers, rest_numbers_by}
use Rattle.files.specs.Plants.{plant_beginning, rest_of, plant_draft}
use Rattle.files.proofs.plants.Laws.{numbers-begin}

-- ---- parts of signed numbers are stored as such

record Stores (part : Form → Form) (c : ℕ) : Type 0 where
  stores : (rest : Form) (vs ws : List ℤ) → length vs ≡ c → file_of (part rest) (vs ++ ws) ≡ signed_bytes vs ++ file_of rest ws

limited-stores : (limit : ℕ) → Stores (limited limit) 1
unfolding file_of signed_bytes
limited-stores limit = record { stores = go }
  where
    go : (rest : Form) (vs ws : List ℤ) → length vs ≡ 1 → file_of (limited limit rest) (vs ++ ws) ≡ signed_bytes vs ++ file_of rest ws
    go rest [] ws e = absurd (omega arith)
    go rest (v ∷ []) ws e = simp append-nil
    go rest (v ∷ w ∷ vs) ws e = absurd (omega arith)

span-stores : (limit : ℕ) → Stores (span limit) 2
unfolding file_of signed_bytes
span-stores limit = record { stores = go }
  where
    go : (rest : Form) (vs ws : List ℤ) → length vs ≡ 2 → file_of (span limit rest) (vs ++ ws) ≡ signed_bytes vs ++ file_of rest ws
    go rest [] ws e = absurd (omega arith)
    go rest (v ∷ []) ws e = absurd (omega arith)
    go rest (v ∷ w ∷ []) ws e = simp (append-nil, append_assoc)
    go rest (v ∷ w ∷ x ∷ vs) ws e = absurd (omega arith)

then-stores : {a b : Form → Form} {c d : ℕ} → Stores a c → Stores b d → Stores (λ rest. a (b rest)) (c + d)
then-stores {a} {b} {c} {d} p q = record { stores = go }
  where
    go : (rest : Form) (vs ws : List ℤ) → length vs ≡ c + d → file_of (a (b rest)) (vs ++ ws) ≡ signed_bytes vs ++ file_of rest ws
    go rest vs ws e =
        let front = take c vs in
        let back = drop c vs in
        let join : front ++ back ≡ vs = take-append-drop c vs in
        let f : length front ≡ c = omega (arith, length-take c vs) in
        let g : length back ≡ d = omega (arith, length-drop c vs) in
        ap (λ (l : List ℤ). file_of (a (b rest)) (l ++ ws)) (sym join) ∙ ap (file_of (a (b rest))) (append_assoc front back ws)
        ∙ p.stores (b rest) front (back ++ ws) f ∙ ap (λ (bs : List ℕ). signed_bytes front ++ bs) (q.stores rest back ws g)
        ∙ sym (append_assoc (signed_bytes front) (signed_bytes back) (file_of rest ws)) ∙ ap (λ (bs : List ℕ). bs ++ file_of rest ws) (sym (signed-append front back) ∙ ap signed_bytes join)

times-stores : {part : Form → Form} {c : ℕ} → Stores part c → (m : ℕ) → Stores (times m part) (m * c)
unfolding times signed_bytes
times-stores {part} {c} p zero = record { stores = none }
  where
    none : (rest : Form) (vs ws : List ℤ) → length vs ≡ 0 * c → file_of rest (vs ++ ws) ≡ signed_bytes vs ++ file_of rest ws
    none rest [] ws e = refl
    none rest (v ∷ vs) ws e = absurd (omega arith)
times-stores {part} {c} p (suc m) = let e : suc m * c ≡ c + m * c = omega arith in rw e (then-stores p (times-stores p m))

row-stores : (n : ℕ) → Stores (row n) (n * 1 + 1)
unfolding row
row-stores n = then-stores (times-stores (limited-stores entry_limit) n) (limited-stores offset_limit)

edges-stores : (n : ℕ) → Stores (edges n) (n * 4)
unfolding edges
edges-stores n = times-stores (then-stores (span-stores edge_limit) (span-stores edge_limit)) n

bands-stores : (n : ℕ) → Stores (bands n) (n * 2)
unfolding bands
bands-stores n = times-stores (span-stores band_limit) n

-- so is all that stands behind a plant's header
body-stores : (own : Bool) (n modes : ℕ) (vs : List ℤ) → length vs ≡ 4 * n + modes_count own n modes → file_of (edges n (cond own (modes_own n modes) (modes_alike n modes))) vs ≡ signed_bytes vs
unfolding modes_own modes_alike file_of
body-stores true n modes vs e =
    let w = then-stores (edges-stores n) (times-stores (then-stores (bands-stores n) (times-stores (row-stores n) n)) modes) in
    ap (file_of (edges n (times modes (mode_form n) end))) (sym (append-nil vs)) ∙ w.stores end vs [] (omega arith) ∙ append-nil (signed_bytes vs)
body-stores false n modes vs e =
    let w = then-stores (edges-stores n) (then-stores (bands-stores n) (times-stores (row-stores n) (modes * n))) in
    ap (file_of (edges n (bands n (times (modes * n) (row n) end)))) (sym (append-nil vs)) ∙ w.stores end vs [] (omega arith) ∙ append-nil (signed_bytes vs)

-- ---- the bands of mode 0

first-bands : (p : Plant) → p.n ≤ 4 → bands_in (plant_beginning p) ≡ band_numbers p.n p.bands 0
unfolding tab tabs
first-bands p h = go p.n h
  where
    go : (n : ℕ) → n ≤ 4 → tabs (band_of (plant_beginning p).bands.lo (plant_beginning p).bands.hi) n 0 ≡ tab (at p.bands) (2 * n) (2 * n * 0)
    go zero h = refl
    go (suc zero) h = refl
    go (suc (suc zero)) h = refl
    go (suc (suc (suc zero))) h = refl
    go (suc (suc (suc (suc zero)))) h = refl
    go (suc (suc (suc (suc (suc n))))) h = absurd (omega arith)

-- ---- the file of a plant's values

module _ (p : Plant) where
  says : p.n ≤ 4 → 1 ≤ p.modes → p.modes ≤ most_modes
      → file_of (edges p.n (modes_form p.form p.n p.modes)) (edges_in (plant_beginning p) ++ modes_numbers p.form p.n p.modes p.bands p.coef)
      ≡ signed_bytes (edges_in (plant_beginning p) ++ bands_in (plant_beginning p)) ++ signed_bytes (rest_of p)
  says few some many =
      let e = edges_in (plant_beginning p) in
      let own = own_bands p.form in
      let a = length-tabs (edges_of p.rlo p.rhi p.slo p.shi) 4 (λ k. refl) p.n 0 in
      let m = modes_numbers p.form p.n p.modes p.bands p.coef in
      let long : length (e ++ m) ≡ 4 * p.n + modes_count own p.n p.modes = length-append e m ∙ rw (a, modes-long own p.n p.modes p.bands p.coef) refl in
      body-stores own p.n p.modes (e ++ m) long
      ∙ ap (λ (l : List ℤ). signed_bytes (e ++ l)) (numbers-begin own p.n p.modes p.bands p.coef some ∙ ap (λ (l : List ℤ). l ++ rest_of p) (sym (first-bands p few)))
      ∙ ap signed_bytes (sym (append_assoc e (bands_in (plant_beginning p)) (rest_of p)))
      ∙ signed-append (e ++ bands_in (plant_beginning p)) (rest_of p)

  -- ---- the draft in an array that is long enough for k modes

  module _ (k : ℕ) (one : 1 ≤ k) (few : p.modes ≤ most_modes → p.modes ≤ k) where
    rest-long : p.n ≤ 4 → p.modes ≤ most_modes → length (signed_bytes (rest_of p)) ≤ 10 * (28 * k - 8)
    rest-long h most = omega (arith, signed-long (rest_of p), few-rest (own_bands p.form))
      where
        c : p.n + 1 ≤ 5
        c = omega arith

        a : p.n * (p.n + 1) ≤ 4 * 5
        a = mul-le-mul h c

        few-rest : (own : Bool) → length (rest_numbers_by own p.n p.modes p.bands p.coef) ≤ 28 * k - 8
        few-rest true =
            let m : p.modes - 1 ≤ k - 1 = omega (arith, few most) in
            let s : mode_size p.n ≤ 28 = omega (arith, a) in
            let e = length-tabs (mode_numbers p.n p.bands p.coef) (mode_size p.n) (mode-long p.n p.modes p.bands p.coef) (p.modes - 1) 1 in
            omega (
              arith,
              a,
              length-append (row_numbers p.n p.coef 0) (tabs (mode_numbers p.n p.bands p.coef) (p.modes - 1) 1),
              length-tab (at p.coef) (p.n * (p.n + 1)) (p.n * (p.n + 1) * 0),
              mul-le-mul s m,
            )
        few-rest false =
            let e = length-tabs (row_numbers p.n p.coef) (p.n * (p.n + 1)) (λ u. length-tab (at p.coef) (p.n * (p.n + 1)) (p.n * (p.n + 1) * u)) p.modes 0 in
            omega (arith, mul-le-mul a (few most))

    pub draft-room : length (plant_draft p) ≤ 10 * (22 + 28 * k)
    unfolding plant_draft
    draft-room = omega (arith, draft-long plant_forms most_modes (omega arith) (omega arith) (plant_beginning p) (signed_bytes (rest_of p)) (10 * (28 * k - 8)) rest-long)

  -- ---- what the writer leaves, s being the draft and x what was read of it

  pub plant-left : (s : List ℕ) (x : PlantRead) → s ≡ plant_draft p → x ≡ plant_read s → (buf : List ℕ) → left (by_verdict (verdict_in x) λ _. good s) buf ≡ plant_left p buf
  unfolding plant_draft plant_left plant_judged plant_form numbers_of
  plant-left s x e q buf =
      draft-left plant_forms most_modes (omega arith) (omega arith) (plant_beginning p) (signed_bytes (rest_of p)) plant_related (λ e. refl) (λ form n modes. edges n (modes_form form n modes))
      (edges_in (plant_beginning p) ++ modes_numbers p.form p.n p.modes p.bands p.coef) says s (verdict_in x) e (ap (λ (y : PlantRead). verdict_in y) q ∙ told (plant_judged s)) buf
    where
      told : (j : Judged Plant) → verdict_in (read_of j) ≡ verdict_of j
      told (good y) = refl
      told (bad r) = refl
