-- Arrays of zeros that a plant is read into: which have room for the plant of a file; and that a plant that was read into such is its frame with these arrays,
-- sound, with the plant's own rules. Relies on page frames/Laws and on promises' `Sound`.
use Rattle.std.specs.Prelude.{Ok}
use Prim.Native.Nat.{ℕ, ◌+◌, ◌*◌, ◌≤◌}
use mathlib.Core.Path.{◌≡◌, sym, ap, ◌∙◌}
use mathlib.Core.List.{List}
use native.Mathlib.Omega.{arith}
use native.Mathlib.Nat.{mul-le-mul}
use lib.IntN.{ℤ, pos}
use lib.ListN.{length, replicate, length-replicate}
use lib.Seq.{sets, length-sets}
use Rattle.meaning.specs.Answers.{PlantRead}
use Rattle.meaning.specs.declared.Outline.{Outline}
use Rattle.laws.specs.Lists.{at}
use Rattle.laws.specs.Stored.{stored_at}
use Rattle.meaning.specs.Files.{Judged, good}
use Rattle.meaning.specs.Plants.{Plant, most_modes, plant_judged, plant_read, array_left, bands_left, coef_left}
use Rattle.promises.specs.Files.Judged.{judged-sound}
use Rattle.promises.specs.Files.Sound.{Sound}
use Rattle.promises.specs.Tables.PlantRules.{read-good}
use Rattle.files.specs.Plants.{modes_told}
use Rattle.files.specs.PlantLaws.{modes-told}
use Rattle.tables.specs.declared.frames.Frame.{Frame}
use Rattle.tables.specs.Arrays.{few_modes, RoomFor}
use Rattle.tables.specs.Frames.{frame_of, own_frame, step_in, rules_in, PlantSound}
use Rattle.tables.proofs.frames.Laws.{framed-sound, modes-in, steps-in, rules-in}

-- ---- room

zeros : (m : ℕ) → replicate m (pos 0) ≡ replicate (length (replicate m (pos 0))) (pos 0)
zeros m = ap (λ (k : ℕ). replicate k (pos 0)) (sym (length-replicate m (pos 0)))

-- for plants of at most so many modes, in four rooms
room_for : (s : List ℕ) (modes : ℕ) → ((p : Plant) → plant_judged s ≡ good p → p.modes ≤ modes) → RoomFor s (replicate (8 * modes) (pos 0)) (replicate (20 * modes) (pos 0))
room_for s modes few = record {
  bands-zero = zeros (8 * modes);
  coef-zero = zeros (20 * modes);
  bands-room = λ p e. omega (arith, length-replicate (8 * modes) (pos 0), rows p e);
  coef-room = λ p e.
      let wide : p.n + 1 ≤ 5 = omega (arith, (judged-sound s p e).ranges.n-high) in
      omega (arith, length-replicate (20 * modes) (pos 0), mul-le-mul (rows p e) wide);
}
  where
    rows : (p : Plant) → plant_judged s ≡ good p → p.modes * p.n ≤ modes * 4
    rows p e = mul-le-mul (few p e) (judged-sound s p e).ranges.n-high

pub few-room : (s : List ℕ) → modes_told s ≤ few_modes → RoomFor s (replicate 128 (pos 0)) (replicate 320 (pos 0))
few-room s l = room_for s few_modes (λ p e. omega (arith, modes-told s p e))

pub any-room : (s : List ℕ) → RoomFor s (replicate 2_048 (pos 0)) (replicate 5_120 (pos 0))
any-room s = room_for s most_modes (λ p e. (judged-sound s p e).ranges.m-high)

-- ---- a plant that was read into arrays with room for it

module _ (s : List ℕ) (bands coef : List ℤ) (room : RoomFor s bands coef) (p : Plant) (e : plant_judged s ≡ good p)
    (bands' coef' : List ℤ) (b : bands' ≡ bands_left s bands) (c : coef' ≡ coef_left s coef) where
  sound : Sound p
  sound = judged-sound s p e

  -- its numbers stand in front of zeros
  bands-are : bands' ≡ sets (replicate (length bands) (pos 0)) 0 p.bands
  bands-are = b ∙ ap (λ (j : Judged Plant). array_left (λ p. p.bands) j bands) e ∙ ap (λ (l : List ℤ). sets l 0 p.bands) room.bands-zero

  coef-are : coef' ≡ sets (replicate (length coef) (pos 0)) 0 p.coef
  coef-are = c ∙ ap (λ (j : Judged Plant). array_left (λ p. p.coef) j coef) e ∙ ap (λ (l : List ℤ). sets l 0 p.coef) room.coef-zero

  bands-long : length bands' ≡ length bands
  bands-long = ap length bands-are ∙ length-sets (replicate (length bands) (pos 0)) 0 p.bands ∙ length-replicate (length bands) (pos 0)

  coef-long : length coef' ≡ length coef
  coef-long = ap length coef-are ∙ length-sets (replicate (length coef) (pos 0)) 0 p.coef ∙ length-replicate (length coef) (pos 0)

  bands-same : ◌≡◌ {A = ℕ → ℤ} (λ i. at bands' i) (λ i. at p.bands i)
  bands-same = ap (λ (l : List ℤ). λ (i : ℕ). at l i) bands-are ∙ stored_at p.bands (length bands) (omega (arith, room.bands-room p e, sound.band-size))

  coef-same : ◌≡◌ {A = ℕ → ℤ} (λ i. at coef' i) (λ i. at p.coef i)
  coef-same = ap (λ (l : List ℤ). λ (i : ℕ). at l i) coef-are ∙ stored_at p.coef (length coef) (omega (arith, room.coef-room p e, sound.coef-size))

  pub lent-plant : (f : Frame) → f ≡ own_frame p → PlantSound f bands' coef'
  lent-plant f q = (
    framed-sound p sound f q,
    rw q (modes-in p sound bands' coef' bands-same coef-same (omega (arith, bands-long, room.bands-room p e)) (omega (arith, coef-long, room.coef-room p e))),
  )

  pub lent-rules : (f : Frame) → rules_in f bands' coef' ≡ rules_in f p.bands p.coef
  lent-rules f = rules-in p sound bands' coef' bands-same coef-same (omega (arith, bands-long, room.bands-room p e)) (omega (arith, coef-long, room.coef-room p e)) f

  pub lent-steps : (f : Frame) → step_in f bands' coef' ≡ step_in f p.bands p.coef
  lent-steps f = steps-in p sound bands' coef' bands-same coef-same (omega (arith, bands-long, room.bands-room p e)) (omega (arith, coef-long, room.coef-room p e)) f

-- ---- what was answered for it: the plant of the file, whose frame with the arrays is sound and has the plant's rules

pub record ReadInto (s : List ℕ) (f : Frame) (bands coef : List ℤ) : Type 1 where
  pub plant : Plant
  pub was : plant_judged s ≡ good plant
  pub framed : f ≡ own_frame plant
  pub sound : PlantSound f bands coef
  pub rules : (g : Frame) → rules_in g bands coef ≡ rules_in g plant.bands plant.coef

pub read-into : {o : Outline} (s : List ℕ) (bands coef : List ℤ) → RoomFor s bands coef → (x : PlantRead) (bands' coef' : List ℤ)
    → (x ≡ plant_read s) × ((bands' ≡ bands_left s bands) × (coef' ≡ coef_left s coef)) → x ≡ Ok o
    → (f : Frame) → f ≡ frame_of o → ReadInto s f bands' coef'
read-into {o} s bands coef room x bands' coef' e h f q =
    let t = read-good (plant_judged s) x e.0 o h in
    let own = q ∙ ap frame_of t.outline in
    record {
      plant = t.plant;
      was = t.was;
      framed = own;
      sound = lent-plant s bands coef room t.plant t.was bands' coef' e.1.0 e.1.1 f own;
      rules = lent-rules s bands coef room t.plant t.was bands' coef' e.1.0 e.1.1;
    }
