-- The modes of a plant's file, read: one of form 2, those behind mode 0, and all of either form. Relies on page Laws.
use Rattle.std.specs.Prelude.{Ok, Err, Result}
use Prim.Native.Nat.{ℕ, suc, ◌+◌, ◌-◌, ◌*◌, ◌≤◌, ◌<◌}
use mathlib.Core.Path.{◌≡◌, refl, sym, ap, ◌∙◌, subst}
use mathlib.Core.Bool.{Bool, true, false}
use mathlib.Core.List.{List, [], ◌∷◌, ◌++◌, map, append_assoc, append-nil}
use native.Mathlib.Omega.{arith}
use native.Mathlib.Nat.{zero-add}
use lib.ListN.{length, length-append}
use lib.Seq.{sets}
use lib.IntN.{ℤ, pos}
use Rattle.laws.specs.Columns.{tabs-tab, tabs-later, tab-moved, tab-at, tab-behind, tab-back}
use Rattle.laws.specs.Lists.{at, tab, tabs, all, first_false}
use Rattle.laws.specs.Tabs.{length-tab, length-tabs, get_d-tab, get_d-tabs, tab-same}
use Rattle.laws.specs.Tests.{never}
use Rattle.meaning.specs.Answers.{Verdict}
use Rattle.meaning.specs.declared.Refusal.{Refusal}
use Rattle.meaning.specs.Refusals.{not_in_safe}
use Rattle.meaning.specs.Files.{end, read, refused, values_at, good, bad}
use Rattle.meaning.specs.Boxes.{Side, sides_of, lies}
use Rattle.laws.specs.Guards.{guard}
use Rattle.meaning.specs.Plants.{band_limit, span, times, bands, row, own_bands, mode_form, band_of, band_numbers, row_numbers, band_start, band_side, wide, wide_modes}
use Rattle.files.specs.declared.beginnings.Beginning.{Beginning}
use Rattle.files.specs.declared.bounds.Sides.{Sides}
use Rattle.files.specs.declared.modes.ModesRead.{ModesRead}
use Rattle.files.specs.Parts.{Fails, holds_then, holds-fails, fails-then, holds-last, rows_none, rows_more, rows-fails, rows_all}
use Rattle.files.specs.Bounds.{BandsRead}
use Rattle.files.specs.Rows.{RowsRead}
use Rattle.files.specs.Beginnings.{bands_in, verdict_of, relation}
use Rattle.files.specs.Modes.{rest_by, rest_form, mode_numbers, ends_alike, bands_from, Numbers, ModeHeld, after_mode, relation_by, FurtherTo, FurtherTold, ModesHeld, ModesTold}
use Rattle.files.proofs.modes.Laws.{bands-long, of-first, kept, numbers-joined, stored-joined, bands-sides, said, said_more, said-alike}

-- ---- one mode of form 2

-- a band for each dimension and as many rows are the numbers of one mode
one-mode : (n : ℕ) (wlo whi entries : List ℤ) → length entries ≡ n * (n + 1) → Numbers n 1 (tabs (band_of wlo whi) n 0) entries
one-mode n wlo whi entries e = record { ends-long = omega (arith, bands-long n wlo whi); entries-long = omega arith }

-- the sides of one mode's bands
one-sides : (n : ℕ) (wlo whi : List ℤ) → bands_from n (tabs (band_of wlo whi) n 0) 0 ≡ sides_of n wlo whi
one-sides n wlo whi = bands-sides n 0 wlo whi (tabs (band_of wlo whi) n 0) (of-first (2 * n) (tabs (band_of wlo whi) n 0) (bands-long n wlo whi))

module _ (s : List ℕ) (at' n q u : ℕ) where
  pub mode-bands-refused : (e : Refusal) → Fails (times n (span band_limit)) s at' e → Fails (mode_form n) s at' e
  unfolding bands
  mode-bands-refused e t = fails-then {g = times n (row n)} t

  module _ (w : Sides) (mid : ℕ) (t : BandsRead s at' n w mid) where
    pub mode-rows-refused : (e : Refusal) → Fails (times n (row n)) s mid e → Fails (mode_form n) s at' e
    unfolding bands
    mode-rows-refused e r = holds-fails t.part r

    pub mode-held : {bands₀ bands coef₀ coef : List ℤ} (thin next : ℕ) → bands ≡ sets bands₀ (2 * n * u) (tabs (band_of w.lo w.hi) n 0)
        → RowsRead s mid n n (n * (n + 1) * u) coef₀ coef next
        → thin ≡ first_false (map (wide q) (sides_of n w.lo w.hi)) → ModeHeld s at' n q u bands₀ coef₀ bands coef thin next
    unfolding bands
    mode-held thin next l r e = record {
      ends = tabs (band_of w.lo w.hi) n 0;
      entries = r.values;
      numbers = one-mode n w.lo w.hi r.values r.long;
      part = holds_then t.part r.part;
      stored = record { bands-stored = l; coef-stored = r.stored };
      first = e ∙ ap (λ (b : List Side). first_false (map (wide q) b)) (sym (one-sides n w.lo w.hi));
    }

-- ---- the modes behind mode 0, u - 1 of them done

-- what is said of R, S and the bands of the first modes
verdict-more : (b : Beginning) (bands : List ℤ) (u thin : ℕ) → thin ≡ first_false (map (wide b.q) (bands_from b.n bands u))
    → relation_by b bands (u + 1) ≡ after_mode (relation_by b bands u) b.n u thin
verdict-more b bands u thin e = go (all in_safe)
  where
    in_safe : List Bool
    in_safe = lies (sides_of b.n b.root.lo b.root.hi) (sides_of b.n b.safe.lo b.safe.hi)

    f : ℕ → List Side
    f = bands_from b.n bands

    more : said b.q 0 (tab f (u + 1) 0) ≡ after_mode (said b.q 0 (tab f u 0)) b.n u thin
    more =
        let z : 0 + u ≡ u = zero-add u in
        let o : u + 1 ≡ suc u = omega arith in
        rw o (rw z at (said_more b.q f b.n u 0 thin (rw z (length-tab (band_side b.n bands u) b.n 0)) (rw z e)))

    go : (t : Bool) → verdict_of {A = Unit {0}} (guard t (bad (not_in_safe (first_false in_safe))) λ _. wide_modes b.q 0 (tab f (u + 1) 0) λ _. good tt)
        ≡ after_mode (verdict_of {A = Unit {0}} (guard t (bad (not_in_safe (first_false in_safe))) λ _. wide_modes b.q 0 (tab f u 0) λ _. good tt)) b.n u thin
    go true = more
    go false = refl

-- the same bands give the same verdict
verdict-kept : (b : Beginning) (bands₀ bands : List ℤ) (u : ℕ) → ((v : ℕ) → v < u → bands_from b.n bands v ≡ bands_from b.n bands₀ v) → relation_by b bands u ≡ relation_by b bands₀ u
verdict-kept b bands₀ bands u h = rw (tab-same (bands_from b.n bands) (bands_from b.n bands₀) u 0 (λ v a c. h v (omega arith))) refl

-- the sides of a mode hang on its numbers alone
sides-same : (n : ℕ) (bands₀ bands : List ℤ) (w v : ℕ) → band_numbers n bands v ≡ band_numbers n bands₀ w → bands_from n bands v ≡ bands_from n bands₀ w
sides-same n bands₀ bands w v e = tab-moved (band_side n bands v) (band_side n bands₀ w) n 0 0 (λ i h. let z : 0 + i ≡ i = zero-add i in rw z (here i h))
  where
    entry : (k : ℕ) → k < 2 * n → at bands (2 * n * v + k) ≡ at bands₀ (2 * n * w + k)
    entry k h = sym (get_d-tab (at bands) (pos 0) (2 * n) (2 * n * v) k h) ∙ ap (λ (l : List ℤ). at l k) e ∙ get_d-tab (at bands₀) (pos 0) (2 * n) (2 * n * w) k h

    here : (i : ℕ) → i < n → band_side n bands v i ≡ band_side n bands₀ w i
    here i h =
        let p : band_start n v i ≡ 2 * n * v + 2 * i = omega arith in
        let p' : band_start n w i ≡ 2 * n * w + 2 * i = omega arith in
        let q : band_start n v i + 1 ≡ 2 * n * v + (2 * i + 1) = omega arith in
        let q' : band_start n w i + 1 ≡ 2 * n * w + (2 * i + 1) = omega arith in
        let a : at bands (band_start n v i) ≡ at bands₀ (band_start n w i) = ap (at bands) p ∙ entry (2 * i) (omega arith) ∙ ap (at bands₀) (sym p') in
        let c : at bands (band_start n v i + 1) ≡ at bands₀ (band_start n w i + 1) = ap (at bands) q ∙ entry (2 * i + 1) (omega arith) ∙ ap (at bands₀) (sym q') in
        rw (a, c) refl

-- one mode more behind u others
verdict-grown : (b : Beginning) (ends more : List ℤ) (u thin : ℕ) → length ends ≡ 2 * b.n * u → length more ≡ 2 * b.n
    → thin ≡ first_false (map (wide b.q) (bands_from b.n more 0)) → relation_by b (ends ++ more) (u + 1) ≡ after_mode (relation_by b ends u) b.n u thin
verdict-grown b ends more u thin long one e =
    verdict-more b (ends ++ more) u thin (e ∙ ap (λ (x : List Side). first_false (map (wide b.q) x)) (sym last))
    ∙ ap (λ (x : Verdict). after_mode x b.n u thin) (verdict-kept b ends (ends ++ more) u (λ v g. sides-same b.n ends (ends ++ more) v v (kept (2 * b.n) u ends more long v g)))
  where
    last : bands_from b.n (ends ++ more) u ≡ bands_from b.n more 0
    last = sides-same b.n more (ends ++ more) 0 u (tab-back ends more (2 * b.n) (2 * b.n * u) long one ∙ sym (of-first (2 * b.n) more one))

one_more : (w v : ℕ) → w + w * v ≡ w * (1 + v)
one_more w v = omega arith

module _ (s : List ℕ) (b : Beginning) (at' : ℕ) where
  pub further-none : (related : Verdict) (bands coef : List ℤ) → 1 ≤ b.m → FurtherTo s b at' 1 related related bands coef bands coef at'
  further-none related bands coef h = record {
    some = omega arith;
    few = h;
    ends = [];
    entries = [];
    numbers = record { ends-long = let z : 2 * b.n * 0 ≡ 0 = omega arith in sym z; entries-long = let z : b.n * (b.n + 1) * 0 ≡ 0 = omega arith in sym z };
    done = rows_none (mode_form b.n) (mode_numbers b.n [] []) s at' (b.m - 1);
    stored = record { bands-stored = refl; coef-stored = refl };
    verdict = λ first long e. e ∙ ap (λ (l : List ℤ). relation_by b l 1) (sym (append-nil first));
  }

  module _ {u p : ℕ} {related told : Verdict} {bands₀ coef₀ bands coef : List ℤ} (w : FurtherTo s b at' u related told bands₀ coef₀ bands coef p) where
    pub further-more : {bands' coef' : List ℤ} (thin next : ℕ) → u < b.m → ModeHeld s p b.n b.q u bands coef bands' coef' thin next
        → FurtherTo s b at' (u + 1) related (after_mode told b.n u thin) bands₀ coef₀ bands' coef' next
    further-more {bands'} {coef'} thin next h t =
        let n = b.n in
        let o : u + 1 - 1 ≡ u - 1 + 1 = omega (arith, w.some) in
        let up : 1 + (u - 1) ≡ u = omega (arith, w.some) in
        let one : length t.ends ≡ 2 * n = omega (arith, t.numbers.ends-long) in
        let row : length t.entries ≡ n * (n + 1) = omega (arith, t.numbers.entries-long) in
        let here : mode_numbers n (w.ends ++ t.ends) (w.entries ++ t.entries) (u - 1) ≡ t.ends ++ t.entries =
        rw (tab-back w.ends t.ends (2 * n) (2 * n * (u - 1)) w.numbers.ends-long one, tab-back w.entries t.entries (n * (n + 1)) (n * (n + 1) * (u - 1)) w.numbers.entries-long row) refl in
        record {
          some = omega arith;
          few = omega arith;
          ends = w.ends ++ t.ends;
          entries = w.entries ++ t.entries;
          numbers = rw o (numbers-joined w.numbers t.numbers);
          done = rw o (rows_more w.done (mode_numbers n (w.ends ++ t.ends) (w.entries ++ t.entries)) next (omega (arith, w.some))
              (λ k g. rw (kept (2 * n) (u - 1) w.ends t.ends w.numbers.ends-long k g, kept (n * (n + 1)) (u - 1) w.entries t.entries w.numbers.entries-long k g) refl)
              (rw here t.part));
          stored = stored-joined w.numbers 1 w.stored (rw up t.stored);
          verdict = λ first long e.
              ap (λ (x : Verdict). after_mode x n u thin) (w.verdict first long e)
              ∙ sym (verdict-grown b (first ++ w.ends) t.ends u thin (grown first long) one t.first)
              ∙ ap (λ (l : List ℤ). relation_by b l (u + 1)) (append_assoc first w.ends t.ends);
        }
      where
        grown : (first : List ℤ) → length first ≡ 2 * b.n → length (first ++ w.ends) ≡ 2 * b.n * u
        grown first long =
            let up : 1 + (u - 1) ≡ u = omega (arith, w.some) in
            length-append first w.ends ∙ rw (long, w.numbers.ends-long) (one_more (2 * b.n) (u - 1) ∙ ap (λ (k : ℕ). 2 * b.n * k) up)

    pub further-stop : (e : Refusal) → u < b.m → Fails (mode_form b.n) s p e → Fails (times (b.m - 1) (mode_form b.n)) s at' e
    further-stop e h t = rows-fails w.done (omega (arith, w.some)) t

    pub further-all : b.m ≤ u → FurtherTo s b at' b.m related told bands₀ coef₀ bands coef p
    further-all h = let j : u ≡ b.m = omega (arith, w.few) in subst (λ (x : ℕ). FurtherTo s b at' x related told bands₀ coef₀ bands coef p) j w

-- ---- all modes of form 2

module _ (s : List ℕ) (b : Beginning) (at' : ℕ) (own : own_bands b.form ≡ true) where
  own-refused : (e : Refusal) → Fails (times b.n (row b.n)) s at' e → values_at (rest_by true b.n b.m) s at' ≡ refused e
  own-refused e t = t.fails (times (b.m - 1) (mode_form b.n) end)

  -- rows of mode 0 that are not there
  pub own-cut : (e : Refusal) → Fails (times b.n (row b.n)) s at' e → values_at (rest_form b.form b.n b.m) s at' ≡ refused e
  own-cut e t = rw own (own-refused e t)

  module _ (bands₀ coef₀ bands coef bands' coef' : List ℤ) {mid : ℕ} {related : Verdict} (some : 1 ≤ b.m) (said₀ : related ≡ relation b)
      (l : bands ≡ sets bands₀ (2 * b.n * 0) (bands_in b)) (r : RowsRead s at' b.n b.n 0 coef₀ coef mid) where
    own_held : {told : Verdict} {next : ℕ} → FurtherTo s b mid b.m related told bands coef bands' coef' next → ModesHeld s b at' bands₀ coef₀ bands' coef' told next
    unfolding tab
    own_held f =
        let n = b.n in
        let up : 1 + (b.m - 1) ≡ b.m = omega arith in
        let zero : n * (n + 1) * 0 ≡ 0 = omega arith in
        let head = one-mode n b.bands.lo b.bands.hi r.values r.long in
        let first : band_numbers n (bands_in b ++ f.ends) 0 ≡ bands_in b = kept (2 * n) 1 (bands_in b) f.ends head.ends-long 0 (omega arith) ∙ of-first (2 * n) (bands_in b) (bands-long n b.bands.lo b.bands.hi) in
        let rows : row_numbers n (r.values ++ f.entries) 0 ≡ r.values = kept (n * (n + 1)) 1 r.values f.entries head.entries-long 0 (omega arith) ∙ of-first (n * (n + 1)) r.values r.long in
        let further : tabs (mode_numbers n (bands_in b ++ f.ends) (r.values ++ f.entries)) (b.m - 1) 1 ≡ tabs (mode_numbers n f.ends f.entries) (b.m - 1) 0 =
        tabs-later (mode_numbers n (bands_in b ++ f.ends) (r.values ++ f.entries)) (mode_numbers n f.ends f.entries) (b.m - 1) 0 later in
        record {
          ends = bands_in b ++ f.ends;
          entries = r.values ++ f.entries;
          numbers = rw up at (numbers-joined head f.numbers);
          held = rw own (holds-last (holds_then r.part (rows_all f.done (omega arith))) ∙ sym (rw (rows, further) refl));
          first = first;
          alike = λ no. never (sym no ∙ own);
          stored = stored-joined head 0 (record { bands-stored = l; coef-stored = rw zero r.stored }) f.stored;
          verdict = f.verdict (bands_in b) (bands-long n b.bands.lo b.bands.hi) (said₀ ∙ one-said);
        }
      where
        later : (k : ℕ) → mode_numbers b.n (bands_in b ++ f.ends) (r.values ++ f.entries) (k + 1) ≡ mode_numbers b.n f.ends f.entries k
        later k =
            let n = b.n in
            let d : length (bands_in b) + 2 * n * k ≡ 2 * n * (k + 1) = omega (arith, bands-long n b.bands.lo b.bands.hi) in
            let e : length r.values + n * (n + 1) * k ≡ n * (n + 1) * (k + 1) = omega (arith, r.long) in
            rw (tab-behind (bands_in b) f.ends (2 * n) (2 * n * (k + 1)) (2 * n * k) d, tab-behind r.values f.entries (n * (n + 1)) (n * (n + 1) * (k + 1)) (n * (n + 1) * k) e) refl

        one-said : relation b ≡ relation_by b (bands_in b) 1
        one-said = sym (rw (one-sides b.n b.bands.lo b.bands.hi) refl)

    pub own-told : (r' : Result ModesRead Refusal) → FurtherTold s b related mid bands coef bands' coef' r' → ModesTold s b at' bands₀ coef₀ bands' coef' r'
    own-told (Ok m) f = own_held f
    own-told (Err e) f = rw own ((holds-fails r.part f).fails end)

-- ---- form 1: every mode has the bands of the beginning

module _ (s : List ℕ) (b : Beginning) (at' : ℕ) (some : 1 ≤ b.m) (own : own_bands b.form ≡ false) where
  ends : List ℤ
  ends = ends_alike b.n b.bands.lo b.bands.hi b.m

  each : (u : ℕ) → u < b.m → band_numbers b.n ends u ≡ bands_in b
  unfolding ends
  each u h =
      let n = b.n in
      tab-moved (at ends) (at (bands_in b)) (2 * n) (2 * n * u) (2 * n * 0) (λ k l.
      let z : 2 * n * 0 + k ≡ k = omega arith in
      rw z (get_d-tabs (λ _. bands_in b) (2 * n) (λ _. bands-long n b.bands.lo b.bands.hi) (pos 0) b.m 0 u k h l))
      ∙ of-first (2 * n) (bands_in b) (bands-long n b.bands.lo b.bands.hi)

  alike-said : relation_by b ends b.m ≡ relation b
  alike-said = go (all in_safe)
    where
      in_safe : List Bool
      in_safe = lies (sides_of b.n b.root.lo b.root.hi) (sides_of b.n b.safe.lo b.safe.hi)

      f : ℕ → List Side
      f = bands_from b.n ends

      sides : (u : ℕ) → u < b.m → f u ≡ sides_of b.n b.bands.lo b.bands.hi
      sides u h = bands-sides b.n u b.bands.lo b.bands.hi ends (each u h)

      one : said b.q 0 (tab f b.m 0) ≡ said b.q 0 (sides_of b.n b.bands.lo b.bands.hi ∷ [])
      one = said-alike b.q f b.m some (λ u h. sides u h ∙ sym (sides 0 some)) ∙ ap (λ (x : List Side). said b.q 0 (x ∷ [])) (sides 0 some)

      go : (t : Bool) → verdict_of {A = Unit {0}} (guard t (bad (not_in_safe (first_false in_safe))) λ _. wide_modes b.q 0 (tab f b.m 0) λ _. good tt)
          ≡ verdict_of {A = Unit {0}} (guard t (bad (not_in_safe (first_false in_safe))) λ _. wide_modes b.q 0 (sides_of b.n b.bands.lo b.bands.hi ∷ []) λ _. good tt)
      go true = one
      go false = refl

  pub alike-held : {bands₀ coef₀ bands coef : List ℤ} {next : ℕ} {told : Verdict} → bands ≡ sets bands₀ 0 (ends_alike b.n b.bands.lo b.bands.hi b.m) → told ≡ relation b
      → RowsRead s at' b.n (b.m * b.n) 0 coef₀ coef next → ModesHeld s b at' bands₀ coef₀ bands coef told next
  unfolding ends
  alike-held {next = next} l e r =
      let n = b.n in
      let z : 2 * n * 0 ≡ 0 = omega arith in
      let zero : n * (n + 1) * 0 ≡ 0 = omega arith in
      record {
        ends = ends;
        entries = r.values;
        numbers = record { ends-long = length-tabs (λ _. bands_in b) (2 * n) (λ _. bands-long n b.bands.lo b.bands.hi) b.m 0; entries-long = omega (arith, r.long) };
        held = rw own (holds-last r.part ∙ ap (λ (vs : List ℤ). read vs next) (sym rows));
        first = each 0 some;
        alike = λ _ u h. each 0 some ∙ sym (each u h);
        stored = record { bands-stored = rw z l; coef-stored = rw zero r.stored };
        verdict = e ∙ sym alike-said;
      }
    where
      rows : tabs (row_numbers b.n r.values) b.m 0 ≡ r.values
      rows =
          let n = b.n in
          let e : n * (n + 1) * b.m ≡ length r.values = omega (arith, r.long) in
          tabs-tab (at r.values) (row_numbers n r.values) (n * (n + 1)) 0 b.m (λ u h. let z : 0 + n * (n + 1) * u ≡ n * (n + 1) * u = zero-add _ in rw z refl)
          ∙ ap (λ (c : ℕ). tab (at r.values) c 0) e ∙ tab-at r.values

  pub alike-cut : (e : Refusal) → Fails (times (b.m * b.n) (row b.n)) s at' e → values_at (rest_form b.form b.n b.m) s at' ≡ refused e
  alike-cut e t = rw own (t.fails end)
