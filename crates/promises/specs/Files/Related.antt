-- A plant or a sheet that was judged good (meaning's `related`): its values were read, R lies within S, and each band is wide enough; of a sheet also
-- that a plant can hold each number made of it. Assumes nothing.
use Prim.Native.Nat.{ℕ, zero, suc, ◌+◌, ◌<◌}
use Rattle.std.specs.Prelude.{◌≡◌, List, [], ◌∷◌, map, ℤ}
use Rattle.std.proofs.Math.Path.{refl}
use Rattle.std.proofs.Math.Bool.{true}
use Rattle.laws.specs.Lists as L
use Rattle.laws.specs.Lists.{tab, all}
use native.Mathlib.Omega.{arith}
use Rattle.std.proofs.Common.{zero-add}
use Rattle.laws.specs.Tests.{never, guard_passed}
use Rattle.meaning.specs.declared.Refusal.{Refusal}
use Rattle.meaning.specs.declared.Sheet.{Sheet}
use Rattle.meaning.specs.Boxes.{Side, lies, within}
use Rattle.meaning.specs.Files.{Read, read, refused, Judged, good, bad}
use Rattle.meaning.specs.Plants as P
use Rattle.meaning.specs.Plants.{Plant, plant_of, root_of, safe_of, bands_of, wide, wide_modes, related, plant_related}
use Rattle.meaning.specs.Sheets.{root_sheet, safe_sheet, bands_sheet, sheet_of, made_numbers, is_near, sheet_related}

bad-good : {A : Type 0} {r : Refusal} {a : A} → bad r ≡ good a → ⊥
bad-good e = never cc

-- ---- R within S, and each band wide enough

-- the bands of each mode, from mode u on
module _ {A : Type 0} (q : ℕ) (rest : Unit {0} → Judged A) where
  pub modes-were : {a : A} (f : ℕ → List Side) (m u : ℕ) → wide_modes q u (tab f m u) rest ≡ good a
      → ((t : ℕ) → t < m → all (map (wide q) (f (u + t))) ≡ true) × (rest tt ≡ good a)
  unfolding P.wide_modes L.tab
  modes-were f zero u e = (λ t h. absurd (omega arith), e)
  modes-were f (suc m) u e =
      let w = guard_passed (all (map (wide q) (f u))) _ bad-good e in
      let more = modes-were f m (u + 1) w.1 in
      (λ t h. each t h w.0 more.0, more.1)
    where
      each : (t : ℕ) → t < suc m → all (map (wide q) (f u)) ≡ true → ((t : ℕ) → t < m → all (map (wide q) (f (u + 1 + t))) ≡ true) → all (map (wide q) (f (u + t))) ≡ true
      each zero h first more = let z : u + 0 ≡ u = omega arith in rw z first
      each (suc t) h first more = let z : u + suc t ≡ u + 1 + t = omega arith in rw z (more t (omega arith))

  pub modes-pass : (f : ℕ → List Side) (m u : ℕ) → ((t : ℕ) → t < m → all (map (wide q) (f (u + t))) ≡ true) → wide_modes q u (tab f m u) rest ≡ rest tt
  unfolding P.wide_modes L.tab
  modes-pass f zero u h = refl
  modes-pass f (suc m) u h =
      let z : u + 0 ≡ u = omega arith in
      let first : all (map (wide q) (f u)) ≡ true = rw z at (h 0 (omega arith)) in
      rw first (modes-pass f m (u + 1) (λ t l. let y : u + 1 + t ≡ u + suc t = omega arith in rw y (h (suc t) (omega arith))))

-- one band for each dimension, as a sheet has it
bands-were : {A : Type 0} {a : A} (q : ℕ) (bands : List Side) (rest : Unit {0} → Judged A) → wide_modes q 0 (bands ∷ []) rest ≡ good a
    → (all (map (wide q) bands) ≡ true) × (rest tt ≡ good a)
unfolding P.wide_modes
bands-were q bands rest e = guard_passed (all (map (wide q) bands)) _ bad-good e

-- R within S, and then the modes
pub related-was : {A : Type 0} {a : A} (q : ℕ) (root safe : List Side) (modes : List (List Side)) (rest : Unit {0} → Judged A) → related q root safe modes rest ≡ good a
    → (within root safe ≡ true) × (wide_modes q 0 modes rest ≡ good a)
related-was q root safe modes rest e = guard_passed (all (lies root safe)) _ bad-good e

pub related-holds : {A : Type 0} (q : ℕ) (root safe : List Side) (modes : List (List Side)) (rest : Unit {0} → Judged A) → within root safe ≡ true
    → related q root safe modes rest ≡ wide_modes q 0 modes rest
related-holds q root safe modes rest a = rw a refl

-- ---- plants

pub record GoodPlant (t : Read (List ℤ)) (p : Plant) : Type 0 where
  pub values : List ℤ
  pub next : ℕ
  pub was : t ≡ read values next
  pub plant : plant_of values ≡ p
  pub root-safe : within (root_of (plant_of values)) (safe_of (plant_of values)) ≡ true
  pub bands-wide : (u : ℕ) → u < (plant_of values).modes → all (map (wide (plant_of values).q) (bands_of (plant_of values) u)) ≡ true

pub good-plant : (t : Read (List ℤ)) (p : Plant) → plant_related t ≡ good p → GoodPlant t p
good-plant (refused r) p e = never (cc)
good-plant (read vs next) p e =
    let q = plant_of vs in
    let w = related-was q.q (root_of q) (safe_of q) (tab (bands_of q) q.modes 0) _ e in
    let m = modes-were q.q _ (bands_of q) q.modes 0 w.1 in
    record { values = vs; next = next; was = refl; plant = (let k = m.1 in cc); root-safe = w.0; bands-wide = λ u h. rw zero-add at (m.0 u h) }

-- ---- sheets

pub record GoodSheet (t : Read (List ℤ)) (h : Sheet) : Type 0 where
  pub values : List ℤ
  pub next : ℕ
  pub was : t ≡ read values next
  pub sheet : sheet_of values ≡ h
  pub root-safe : within (root_sheet h) (safe_sheet h) ≡ true
  pub bands-wide : all (map (wide h.q) (bands_sheet h)) ≡ true
  pub fit : all (map is_near (made_numbers h)) ≡ true

pub good-sheet : (t : Read (List ℤ)) (h : Sheet) → sheet_related t ≡ good h → GoodSheet t h
good-sheet (refused r) h e = never (cc)
good-sheet (read vs next) h e =
    let g = sheet_of vs in
    let w = related-was g.q (root_sheet g) (safe_sheet g) (bands_sheet g ∷ []) _ e in
    let m = bands-were g.q (bands_sheet g) _ w.1 in
    let f = guard_passed (all (map is_near (made_numbers g))) _ bad-good m.1 in
    let s : g ≡ h = (let k = f.1 in cc) in
    rw (← s) (record { values = vs; next = next; was = refl; sheet = refl; root-safe = w.0; bands-wide = m.0; fit = f.0 })
