-- A plant's file as the code reads it, what stands behind the beginning, and as it drafts it; and how many modes one says it has. Definitions alone.
use Rattle.std.specs.Prelude.{ℕ, ◌≡◌, List, [], ◌∷◌, ℤ, Some, None, Ok, Err}
use Rattle.laws.specs.Lists as L
use Rattle.meaning.specs.Answers.{Number, PlantRead}
use Rattle.meaning.specs.declared.Outline.{Outline}
use Rattle.meaning.specs.Numbers.{number_at}
use Rattle.meaning.specs.Files.{Judged, bad}
use Rattle.meaning.specs.Plants.{most_modes, Plant, plant_from, plant_related, read_of, array_left}
use Rattle.files.specs.declared.beginnings.Beginning.{Beginning}
use Rattle.files.specs.Signed.{signed_bytes}
use Rattle.files.specs.Bodies.{body_judged}
use Rattle.files.specs.Drafts.{draft_bytes}
use Rattle.files.specs.Modes.{rest_form, rest_numbers}

-- ---- the modes that a file says it has: its third number, before anything is judged; 0 where one of the first three is broken

abbrev pub on_number : Number → (ℕ → ℕ → ℕ) → ℕ
on_number None rest = 0
on_number (Some (v, next)) rest = rest v next

unfoldable pub modes_told : List ℕ → ℕ
modes_told s =
    on_number (number_at s 0) λ form a.
    on_number (number_at s a) λ n b.
    on_number (number_at s b) λ modes next.
    modes

-- ---- read

-- what a reader answers and leaves of a file that was judged
pub record Answered (j : Judged Plant) (bands₀ coef₀ bands coef : List ℤ) (r : PlantRead) : Type 0 where
  pub answer : r ≡ read_of j
  pub bands-left : bands ≡ array_left (λ p. p.bands) j bands₀
  pub coef-left : coef ≡ array_left (λ p. p.coef) j coef₀

-- what a file is taken for, before a refused one is cleared away: then it is refused so, and the arrays may hold anything
abbrev pub ValuesTold : Judged Plant → List ℤ → List ℤ → List ℤ → List ℤ → PlantRead → Type 0
ValuesTold j bands₀ coef₀ bands coef (Ok p) = Answered j bands₀ coef₀ bands coef (Ok p)
ValuesTold j bands₀ coef₀ bands coef (Err e) = j ≡ bad e

-- the whole file, its beginning having been read
abbrev pub body_of : List ℕ → Beginning → ℕ → Judged Plant
body_of s b at = body_judged plant_related rest_form s b at

-- a beginning as a plant's outline, and with the numbers of the modes as a plant
abbrev pub outline_in : Beginning → Outline
outline_in b = record { form = b.form; n = b.n; modes = b.m; q = b.q; k = b.k; d = b.d; rlo = b.root.lo; rhi = b.root.hi; slo = b.safe.lo; shi = b.safe.hi }

abbrev pub plant_with : Beginning → List ℤ → List ℤ → Plant
plant_with b bands coef = plant_from (outline_in b) bands coef

-- ---- drafted: what stands behind the bands of mode 0, behind the beginning

-- the beginning of a plant, which has the bands of mode 0
abbrev pub plant_beginning : Plant → Beginning
plant_beginning p = record {
  form = p.form;
  n = p.n;
  m = p.modes;
  q = p.q;
  k = p.k;
  d = p.d;
  root = record { lo = p.rlo; hi = p.rhi };
  safe = record { lo = p.slo; hi = p.shi };
  bands = record {
    lo = L.at p.bands 0 ∷ L.at p.bands 2 ∷ L.at p.bands 4 ∷ L.at p.bands 6 ∷ [];
    hi = L.at p.bands 1 ∷ L.at p.bands 3 ∷ L.at p.bands 5 ∷ L.at p.bands 7 ∷ [];
  };
}

abbrev pub rest_of : Plant → List ℤ
rest_of p = rest_numbers p.form p.n p.modes p.bands p.coef

unfoldable pub plant_draft : Plant → List ℕ
plant_draft p = draft_bytes most_modes (plant_beginning p) (signed_bytes (rest_of p))
