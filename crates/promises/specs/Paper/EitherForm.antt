-- Request 2026-09: a form 1 plant reads as one with equal bands. A plant whose modes have equal bands is a plant in either form, read and written back in the form that
-- it has; and it has the same rules in both, so that images, tile rule and runs are the same, and with them every answer about tables and start files.
-- Relies on S2 for plants (page PlantFiles) and on page Taken; a form 1 plant has equal bands by page PlantShapes.
use Rattle.std.specs.Prelude.{ℕ, ◌≤◌, ◌<◌, ◌≡◌, List, ℤ, length}
use Rattle.std.proofs.Math.Path.{refl}
use Rattle.meaning.specs.declared.StartState.{StartState}
use Rattle.meaning.specs.declared.State.{State}
use Rattle.meaning.specs.Files.{good}
use Rattle.meaning.specs.Plants.{Plant, plant_forms, band_numbers, plant_judged, plant_left}
use Rattle.meaning.specs.Starts as S
use Rattle.meaning.specs.Starts.{start_checked, start_left, start_controlled}
use Rattle.meaning.specs.Tables as T
use Rattle.meaning.specs.Tables.{rules_of, checked, maker_left, controlled, starts_in, safe_in, may_follow}
use Rattle.promises.specs.Files.Buffers.{wrote}
use Rattle.promises.specs.Files.Judged.{judged-sound}
use Rattle.promises.specs.Files.PlantFiles.{plant_file, read-tidy, read-written}
use Rattle.promises.specs.Files.Taken.{sound-judged}

-- the bands of mode 0 are those of every mode
abbrev pub EqualBands : Plant → Type 0
EqualBands p = (u : ℕ) → u < p.modes → band_numbers p.n p.bands 0 ≡ band_numbers p.n p.bands u

pub form-one-equal : (plant : List ℕ) (p : Plant) → plant_judged plant ≡ good p → p.form ≡ 1 → EqualBands p
form-one-equal plant p e one = (read-tidy plant p e).0.alike (rw one refl)

-- the same plant in another form
abbrev pub in_form : ℕ → Plant → Plant
in_form form p = record {
  form = form;
  n = p.n;
  modes = p.modes;
  q = p.q;
  k = p.k;
  d = p.d;
  rlo = p.rlo;
  rhi = p.rhi;
  slo = p.slo;
  shi = p.shi;
  bands = p.bands;
  coef = p.coef;
}

module _ (plant : List ℕ) (p : Plant) (e : plant_judged plant ≡ good p) (equal : EqualBands p) (form : ℕ) (least : 1 ≤ form) (known : form ≤ plant_forms) where
  -- its file
  abbrev pub other : List ℕ
  other = plant_file (in_form form p)

  -- is read as the plant of that form
  pub other-read : plant_judged other ≡ good (in_form form p)
  other-read =
      let s = judged-sound plant p e in
      let t = (read-tidy plant p e).0 in
      sound-judged (in_form form p)
      (record {
        first = least;
        known = known;
        ranges = s.ranges;
        root-safe = s.root-safe;
        band-size = s.band-size;
        bands = s.bands;
        wide = s.wide;
        coef-size = s.coef-size;
        entries = s.entries;
        offsets = s.offsets;
      })
      (record {
        rooms = t.rooms;
        rlo-filled = t.rlo-filled;
        rhi-filled = t.rhi-filled;
        slo-filled = t.slo-filled;
        shi-filled = t.shi-filled;
        bands-long = t.bands-long;
        coef-long = t.coef-long;
        alike = λ _. equal;
      })

  -- and written back in that form
  pub other-written : (buf : List ℕ) → length other ≤ length buf → plant_left (in_form form p) buf ≡ wrote other buf
  other-written = read-written other (in_form form p) other-read

  -- ---- the same rules, whatever form of table is told, and so the same answers

  pub same-rules : (told : ℕ) → rules_of told (in_form form p) ≡ rules_of told p
  same-rules told = refl

  pub same-checked : (table : List ℕ) → checked other table ≡ checked plant table
  unfolding T.checked
  same-checked table = rw (e, other-read) refl

  pub same-made : (told : ℕ) (buf : List ℕ) → maker_left other told buf ≡ maker_left plant told buf
  unfolding T.maker_left T.made
  same-made told buf = rw (e, other-read) refl

  pub same-controlled : (table : List ℕ) (st : State) (x : List ℤ) → controlled other table st x ≡ controlled plant table st x
  unfolding T.controlled
  same-controlled table st x = rw (e, other-read) refl

  -- what runs are made of
  pub same-readings : (u : ℕ) (x y : List ℤ) → (starts_in other x ≡ starts_in plant x) × (safe_in other x ≡ safe_in plant x) × (may_follow other u x y ≡ may_follow plant u x y)
  same-readings u x y = (rw (e, other-read) refl, rw (e, other-read) refl, rw (e, other-read) refl)

  -- start files
  pub same-start-checked : (start : List ℕ) → start_checked other start ≡ start_checked plant start
  unfolding S.start_checked
  same-start-checked start = rw (e, other-read) refl

  pub same-start-made : (chain : List ℕ) (told : ℕ) (buf : List ℕ) → start_left other chain told buf ≡ start_left plant chain told buf
  unfolding S.start_left S.start_made
  same-start-made chain told buf = rw (e, other-read) refl

  pub same-start-controlled : (start : List ℕ) (st : StartState) (x : List ℤ) → start_controlled other start st x ≡ start_controlled plant start st x
  unfolding S.start_controlled
  same-start-controlled start st x = rw (e, other-read) refl
