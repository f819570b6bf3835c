-- What plants and sheets begin with alike: a form in 1..forms, n, a number in 1..most, q, K, D, then R and S, then w of each dimension; as the code reads and writes
-- it, with what is asked of R, S and w. `Begun` is a beginning that was read: the file goes on behind it, its arrays hold zeros beyond n, and those ranges
-- that the code behind it relies on; all of document 01's are promises' `Sound`. Assumes nothing.
use Rattle.std.specs.Prelude.{ℕ, ◌+◌, ◌*◌, ◌≤◌, ◌≡◌, refl, Bool, true, false, cond, List, [], ◌∷◌, ◌++◌, map, ltb, ℤ, pos, nat_abs, Ok, Err, Result}
use Rattle.laws.specs.Guards.{guard}
use Rattle.laws.specs.Lists.{at, tabs, all, first_false}
use Rattle.laws.specs.Tabs.{Filled}
use Rattle.meaning.specs.Answers.{Verdict}
use Rattle.meaning.specs.declared.Refusal.{Refusal}
use Rattle.meaning.specs.Refusals.{not_in_safe, narrow}
use Rattle.meaning.specs.Files.{Form, end, Read, read, refused, values_at, Judged, good, bad}
use Rattle.meaning.specs.Boxes.{Side, sides_of, lies}
use Rattle.meaning.specs.Plants.{edge_limit, band_limit, edges_and_bands, headed, edges_of, band_of, column, wide, wide_modes, related}
use Rattle.files.specs.declared.headers.Header.{Header}
use Rattle.files.specs.declared.beginnings.Beginning.{Beginning}
use Rattle.files.specs.declared.beginnings.BeginningRead.{BeginningRead}
use Rattle.files.specs.Headers.{head_bytes}
use Rattle.files.specs.Parts.{behind, Holds, Fails}
use Rattle.files.specs.Bounds.{EndsWithin}
use Rattle.files.specs.Signed.{signed_bytes}

-- ---- the form, and the numbers of a beginning in file order

abbrev pub beginning_form : ℕ → ℕ → (ℕ → ℕ → ℕ → Form) → Form
beginning_form forms most rest = headed forms most λ form n m. edges_and_bands n (rest form n m)

abbrev pub head_numbers : Header → List ℤ
head_numbers h = pos h.form ∷ pos h.n ∷ pos h.m ∷ pos h.q ∷ pos h.k ∷ pos h.d ∷ []

abbrev pub head_of : Beginning → Header
head_of b = record { form = b.form; n = b.n; m = b.m; q = b.q; k = b.k; d = b.d }

abbrev pub edges_in : Beginning → List ℤ
edges_in b = tabs (edges_of b.root.lo b.root.hi b.safe.lo b.safe.hi) b.n 0

abbrev pub bands_in : Beginning → List ℤ
bands_in b = tabs (band_of b.bands.lo b.bands.hi) b.n 0

unfoldable pub beginning_numbers : Beginning → List ℤ
beginning_numbers b = head_numbers (head_of b) ++ (edges_in b ++ bands_in b)

-- the beginning that numbers make
abbrev pub beginning_of : List ℤ → Beginning
beginning_of vs =
    let n = nat_abs (at vs 1) in
    record {
      form = nat_abs (at vs 0);
      n = n;
      m = nat_abs (at vs 2);
      q = nat_abs (at vs 3);
      k = nat_abs (at vs 4);
      d = nat_abs (at vs 5);
      root = record { lo = column vs 6 4 n; hi = column vs 7 4 n };
      safe = record { lo = column vs 8 4 n; hi = column vs 9 4 n };
      bands = record { lo = column vs (6 + 4 * n) 2 n; hi = column vs (7 + 4 * n) 2 n };
    }

-- ---- R lies within S, each band is wide enough: a verdict, which is told behind leftover bytes

abbrev pub verdict_of : {A : Type 0} → Judged A → Verdict
verdict_of (good a) = Ok tt
verdict_of (bad e) = Err e

abbrev pub by_verdict : {A : Type 0} → Verdict → (Unit {0} → Judged A) → Judged A
by_verdict (Ok _) rest = rest tt
by_verdict (Err e) rest = bad e

modes-verdict : {A : Type 0} (q u : ℕ) (modes : List (List Side)) (rest : Unit {0} → Judged A)
    → wide_modes q u modes rest ≡ by_verdict (verdict_of {A = Unit {0}} (wide_modes q u modes λ _. good tt)) rest
unfolding wide_modes
modes-verdict q u [] rest = refl
modes-verdict q u (b ∷ more) rest = go (all (map (wide q) b)) (modes-verdict q (u + 1) more rest)
  where
    go : (x : Bool) → wide_modes q (u + 1) more rest ≡ by_verdict (verdict_of {A = Unit {0}} (wide_modes q (u + 1) more λ _. good tt)) rest
        → guard x (bad (narrow u (first_false (map (wide q) b)))) (λ _. wide_modes q (u + 1) more rest)
        ≡ by_verdict (verdict_of {A = Unit {0}} (guard x (bad (narrow u (first_false (map (wide q) b)))) (λ _. wide_modes q (u + 1) more λ _. good tt))) rest
    go true h = h
    go false h = refl

-- the verdict says all that `related` does, of any bands
pub related-verdict : {A : Type 0} (q : ℕ) (root safe : List Side) (modes : List (List Side)) (rest : Unit {0} → Judged A)
    → related q root safe modes rest ≡ by_verdict (verdict_of {A = Unit {0}} (related q root safe modes λ _. good tt)) rest
related-verdict q root safe modes rest = go (all (lies root safe))
  where
    go : (x : Bool) → guard x (bad (not_in_safe (first_false (lies root safe)))) (λ _. wide_modes q 0 modes rest)
        ≡ by_verdict (verdict_of {A = Unit {0}} (guard x (bad (not_in_safe (first_false (lies root safe)))) (λ _. wide_modes q 0 modes λ _. good tt))) rest
    go true = modes-verdict q 0 modes rest
    go false = refl

-- what `related` asks of a beginning, which has one band for each dimension
abbrev pub related_in : {A : Type 0} → Beginning → (Unit {0} → Judged A) → Judged A
related_in b rest = related b.q (sides_of b.n b.root.lo b.root.hi) (sides_of b.n b.safe.lo b.safe.hi) (sides_of b.n b.bands.lo b.bands.hi ∷ []) rest

abbrev pub relation : Beginning → Verdict
relation b = verdict_of {A = Unit {0}} (related_in b λ _. good tt)

pub related-by : {A : Type 0} (b : Beginning) (rest : Unit {0} → Judged A) → related_in b rest ≡ by_verdict (relation b) rest
related-by b rest = related-verdict b.q (sides_of b.n b.root.lo b.root.hi) (sides_of b.n b.safe.lo b.safe.hi) (sides_of b.n b.bands.lo b.bands.hi ∷ []) rest

-- ---- read

-- the definition: the beginning, what is to be said of it, and the place behind it; or the refusal
abbrev pub beginning_from : Read (List ℤ) → Result BeginningRead Refusal
beginning_from (refused e) = Err e
beginning_from (read vs next) = Ok (record { beginning = beginning_of vs; related = relation (beginning_of vs); next = next })

unfoldable pub beginning_read : ℕ → ℕ → List ℕ → Result BeginningRead Refusal
beginning_read forms most s = beginning_from (values_at (beginning_form forms most λ form n m. end) s 0)

-- what its numbers are and how large they can be, and that its arrays hold zeros beyond n
pub record Begun (forms most : ℕ) (s : List ℕ) (b : Beginning) (next : ℕ) : Type 0 where
  pub form-low : 1 ≤ b.form
  pub form-high : b.form ≤ forms
  pub n-low : 1 ≤ b.n
  pub n-high : b.n ≤ 4
  pub m-low : 1 ≤ b.m
  pub m-high : b.m ≤ most
  pub q-low : 1 ≤ b.q
  pub q-high : b.q ≤ 10000
  pub rlo-filled : Filled 4 b.n b.root.lo
  pub rhi-filled : Filled 4 b.n b.root.hi
  pub slo-filled : Filled 4 b.n b.safe.lo
  pub shi-filled : Filled 4 b.n b.safe.hi
  pub wlo-filled : Filled 4 b.n b.bands.lo
  pub whi-filled : Filled 4 b.n b.bands.hi
  pub edge-sizes : EndsWithin edge_limit b.n b.safe.lo b.safe.hi
  pub band-sizes : EndsWithin band_limit b.n b.bands.lo b.bands.hi
  pub holds : (rest : ℕ → ℕ → ℕ → Form) → values_at (beginning_form forms most rest) s 0 ≡ behind (beginning_numbers b) (values_at (rest b.form b.n b.m) s next)

-- whatever stands behind it
abbrev pub BeginningTold : ℕ → ℕ → List ℕ → Result BeginningRead Refusal → Type 0
BeginningTold forms most s (Ok r) = Begun forms most s r.beginning r.next × (r.related ≡ relation r.beginning)
BeginningTold forms most s (Err e) = (rest : ℕ → ℕ → ℕ → Form) → values_at (beginning_form forms most rest) s 0 ≡ refused e

-- the same behind a header that was read
pub record BoundsRead (s : List ℕ) (h : Header) (from : ℕ) (b : Beginning) (next : ℕ) : Type 0 where
  pub same : head_of b ≡ h
  pub part : Holds (edges_and_bands h.n) s from (edges_in b ++ bands_in b) next
  pub rlo-filled : Filled 4 h.n b.root.lo
  pub rhi-filled : Filled 4 h.n b.root.hi
  pub slo-filled : Filled 4 h.n b.safe.lo
  pub shi-filled : Filled 4 h.n b.safe.hi
  pub wlo-filled : Filled 4 h.n b.bands.lo
  pub whi-filled : Filled 4 h.n b.bands.hi
  pub edge-sizes : EndsWithin edge_limit h.n b.safe.lo b.safe.hi
  pub band-sizes : EndsWithin band_limit h.n b.bands.lo b.bands.hi

abbrev pub BoundsTold : List ℕ → Header → ℕ → Result (Beginning × ℕ) Refusal → Type 0
BoundsTold s h from (Ok (b, next)) = BoundsRead s h from b next
BoundsTold s h from (Err e) = Fails (edges_and_bands h.n) s from e

-- ---- written: where n is over 4 the header says it all, since it is refused there

unfoldable pub beginning_bytes : Beginning → List ℕ
beginning_bytes b = head_bytes (head_of b) ++ cond (ltb 4 b.n) [] (signed_bytes (edges_in b ++ bands_in b))
