-- A plant's file behind its beginning: refused by its first mode that is; else its numbers are the plant's numbers, and the plant is judged as a whole.
-- Relies on page Bodies, and on promises' page Plants.
use Rattle.std.specs.Prelude.{Some, None, Ok, Err}
use Prim.Native.Nat.{ℕ, suc, ◌+◌, ◌-◌, ◌*◌, ◌≤◌}
use mathlib.Core.Path.{◌≡◌, refl, sym, ap, ◌∙◌}
use mathlib.Core.Bool.{Bool, true, false, cond}
use mathlib.Core.List.{List, ◌++◌, append_assoc}
use native.Mathlib.Omega.{arith}
use lib.ListN.{length}
use lib.IntN.{ℤ, nat_abs}
use Rattle.laws.specs.Lists.{tab, tabs}
use Rattle.laws.specs.Guards.{guard}
use Rattle.meaning.specs.Answers.{Verdict}
use Rattle.meaning.specs.declared.Refusal.{Refusal}
use Rattle.meaning.specs.Refusals.{unfit}
use Rattle.meaning.specs.Numbers.{number_at}
use Rattle.meaning.specs.Files.{Taken, taken, none, Field, Form, end, field, read, refused, before, on_taken, taken_as, ended, values_at, values_of, good, bad}
use Rattle.meaning.specs.Boxes.{sides_of}
use Rattle.meaning.specs.Plants.{times, edges, bands, headed, plant_forms, most_modes, own_bands, mode_form, modes_own, modes_alike, Plant, numbers_of, plant_of, plant_related, plant_form, plant_judged, band_numbers, row_numbers}
use Rattle.promises.specs.Files.Headers.{least-of}
use Rattle.promises.specs.Files.Plants.{Tidy, plant-back}
use Rattle.files.specs.declared.beginnings.Beginning.{Beginning}
use Rattle.files.specs.Beginnings.{beginning_form, head_numbers, head_of, edges_in, bands_in, beginning_numbers, by_verdict, related-verdict, Begun}
use Rattle.files.specs.Bodies.{begun-judged, not-begun, body_refused, body-left-over, body-values}
use Rattle.files.specs.Modes.{rest_by, rest_form, mode_numbers, rest_numbers_by, rest_numbers, bands_from, related_by, ModesHeld}
use Rattle.files.specs.Plants.{modes_told, Answered, body_of, outline_in, plant_with}

-- ---- the modes that a file says it has

module _ (s : List ℕ) where
  pub form-broken : number_at s 0 ≡ None → 0 ≡ modes_told s
  unfolding modes_told
  form-broken e = rw e refl

  module _ {form a : ℕ} (e : number_at s 0 ≡ Some (form, a)) where
    pub n-broken : number_at s a ≡ None → 0 ≡ modes_told s
    unfolding modes_told
    n-broken g = rw (e, g) refl

    module _ {n b : ℕ} (g : number_at s a ≡ Some (n, b)) where
      pub modes-broken : number_at s b ≡ None → 0 ≡ modes_told s
      unfolding modes_told
      modes-broken h = rw (e, g, h) refl

      pub modes-there : {modes next : ℕ} → number_at s b ≡ Some (modes, next) → modes ≡ modes_told s
      unfolding modes_told
      modes-there h = rw (e, g, h) refl

-- ---- in either form the bands of mode 0 stand right behind the edges, since there is a mode

begins : (own : Bool) (n modes : ℕ) → 1 ≤ modes → cond own (modes_own n modes) (modes_alike n modes) ≡ bands n (rest_by own n modes)
unfolding modes_own modes_alike times
begins true n modes h = let q : modes ≡ suc (modes - 1) = omega arith in ap (λ (m : ℕ). times m (mode_form n) end) q
begins false n modes h = refl

-- and so do the numbers
pub numbers-begin : (own : Bool) (n modes : ℕ) (bs coef : List ℤ) → 1 ≤ modes
    → cond own (tabs (mode_numbers n bs coef) modes 0) (band_numbers n bs 0 ++ tabs (row_numbers n coef) modes 0) ≡ band_numbers n bs 0 ++ rest_numbers_by own n modes bs coef
unfolding tabs
numbers-begin true n modes bs coef h =
    let q : modes ≡ suc (modes - 1) = omega arith in
    ap (λ (m : ℕ). tabs (mode_numbers n bs coef) m 0) q ∙ append_assoc (band_numbers n bs 0) (row_numbers n coef 0) (tabs (mode_numbers n bs coef) (modes - 1) (0 + 1))
numbers-begin false n modes bs coef h = refl

-- forms that go on alike behind every value that is right are read alike
field-same : (f : Field) (a b : ℤ → Form) (s : List ℕ) → ((v : ℤ) → f.right v ≡ true → (i : ℕ) → values_at (a v) s i ≡ values_at (b v) s i) → (i : ℕ) → values_at (field f a) s i ≡ values_at (field f b) s i
unfolding values_at
field-same f a b s h i = go (taken_as f.kind s i)
  where
    go : (t : Taken) → on_taken t i (λ v next. guard (f.right v) (refused (f.wrong i)) λ _. before v (values_at (a v) s next))
        ≡ on_taken t i (λ v next. guard (f.right v) (refused (f.wrong i)) λ _. before v (values_at (b v) s next))
    go none = refl
    go (taken v next) = test (f.right v) refl
      where
        test : (t : Bool) → f.right v ≡ t → guard t (refused (f.wrong i)) (λ _. before v (values_at (a v) s next)) ≡ guard t (refused (f.wrong i)) (λ _. before v (values_at (b v) s next))
        test true e = ap (before v) (h v e next)
        test false e = refl

headed-same : (forms most : ℕ) (f g : ℕ → ℕ → ℕ → Form) → ((form n m : ℕ) → 1 ≤ m → f form n m ≡ g form n m) → (s : List ℕ) → values_at (headed forms most f) s 0 ≡ values_at (headed forms most g) s 0
unfolding headed
headed-same forms most f g h s =
    field-same _ _ _ s (λ form _.
    field-same _ _ _ s (λ n _.
    field-same _ _ _ s (λ m e.
    field-same _ _ _ s (λ q _.
    field-same _ _ _ s (λ k _.
    field-same _ _ _ s (λ d _ i. ap (λ (x : Form). values_at x s i) (h (nat_abs form) (nat_abs n) (nat_abs m) (least-of 1 most (nat_abs m) e))))))))
    0

pub plant-begins : (s : List ℕ) → values_of plant_form s ≡ values_of (beginning_form plant_forms most_modes rest_form) s
unfolding plant_form
plant-begins s = ap (ended s) (headed-same plant_forms most_modes _ _ (λ form n m h. ap (edges n) (begins (own_bands form) n m h)) s)

-- ---- the modes behind a beginning

module _ (s : List ℕ) (b : Beginning) (from' : ℕ) where
  pub modes-refused : (r : Refusal) → values_at (rest_form b.form b.n b.m) s from' ≡ refused r → body_of s b from' ≡ bad r
  modes-refused r t = body_refused plant_related rest_form s (λ e. refl) b from' r t

  module _ {bands₀ coef₀ bands coef : List ℤ} {told : Verdict} {next : ℕ} (v : ModesHeld s b from' bands₀ coef₀ bands coef told next) where
    p : Plant
    p = plant_with b v.ends v.entries

    rest : List ℤ
    rest = rest_numbers b.form b.n b.m v.ends v.entries

    pub left_over : (next ≡ length s → ⊥) → body_of s b from' ≡ bad (unfit next)
    unfolding rest
    left_over g = body-left-over plant_related rest_form s (λ e. refl) b from' rest next v.held g

    module _ (t : Begun plant_forms most_modes s b from') (whole : next ≡ length s) where
      tidy : Tidy p
      unfolding p
      tidy = record {
        rooms = t.n-high;
        rlo-filled = t.rlo-filled;
        rhi-filled = t.rhi-filled;
        slo-filled = t.slo-filled;
        shi-filled = t.shi-filled;
        bands-long = omega (arith, v.numbers.ends-long);
        coef-long = omega (arith, v.numbers.entries-long);
        alike = v.alike;
      }

      -- the numbers are the plant's, and give it back
      given_back : plant_of (beginning_numbers b ++ rest) ≡ p
      unfolding p rest beginning_numbers numbers_of
      given_back =
          ap (λ (l : List ℤ). plant_of (head_numbers (head_of b) ++ l))
          (append_assoc (edges_in b) (bands_in b) rest
          ∙ ap (λ (l : List ℤ). edges_in b ++ (l ++ rest)) (sym v.first) ∙ ap (λ (l : List ℤ). edges_in b ++ l) (sym (numbers-begin (own_bands b.form) b.n b.m v.ends v.entries t.m-low)))
          ∙ plant-back p tidy

      judged : plant_related (read (beginning_numbers b ++ rest) next) ≡ related_by b v.ends b.m (λ _. good (plant_with b v.ends v.entries))
      unfolding p
      judged = ap (λ (x : Plant). related_by (record { form = x.form; n = x.n; m = x.modes; q = x.q; k = x.k; d = x.d; root = record { lo = x.rlo; hi = x.rhi }; safe = record { lo = x.slo; hi = x.shi }; bands = b.bands }) x.bands x.modes λ _. good x) given_back

      by-verdict : (y : Verdict) → told ≡ y → body_of s b from' ≡ by_verdict y λ _. good (plant_with b v.ends v.entries)
      unfolding rest
      by-verdict y g =
          body-values plant_related rest_form s (λ e. refl) b from' rest next v.held whole ∙ judged
          ∙ related-verdict b.q (sides_of b.n b.root.lo b.root.hi) (sides_of b.n b.safe.lo b.safe.hi) (tab (bands_from b.n v.ends) b.m 0) (λ _. good (plant_with b v.ends v.entries))
          ∙ ap (λ (z : Verdict). by_verdict z λ _. good (plant_with b v.ends v.entries)) (sym v.verdict ∙ g)

      pub thin-told : (e : Refusal) → told ≡ Err e → body_of s b from' ≡ bad e
      thin-told e g = by-verdict (Err e) g

      pub all_told : told ≡ Ok tt → Answered (body_of s b from') bands₀ coef₀ bands coef (Ok (outline_in b))
      all_told g =
          let z : 2 * b.n * 0 ≡ 0 = omega arith in
          let o : b.n * (b.n + 1) * 0 ≡ 0 = omega arith in
          rw (by-verdict (Ok tt) g)
          (record { answer = refl; bands-left = rw z at v.stored.bands-stored; coef-left = rw o at v.stored.coef-stored })

-- ---- the beginning in front

pub beginning-refused : (s : List ℕ) (r : Refusal) → ((rest : ℕ → ℕ → ℕ → Form) → values_at (beginning_form plant_forms most_modes rest) s 0 ≡ refused r) → plant_judged s ≡ bad r
unfolding plant_judged
beginning-refused s r t = ap plant_related (plant-begins s) ∙ not-begun plant_related rest_form s (λ e. refl) plant_forms most_modes r t

pub beginning-read : (s : List ℕ) (b : Beginning) (next : ℕ) → Begun plant_forms most_modes s b next → plant_judged s ≡ body_of s b next
unfolding plant_judged
beginning-read s b next t = ap plant_related (plant-begins s) ∙ begun-judged plant_related rest_form s b next t
