-- The promises by what each answer shows (document 01, "How to write each place": a definition sets out the paper's number and values for each case of an answer,
-- and the promises use that definition). Each line has the number, the place, the step and the values themselves, exactly where the promise's own
-- condition holds: S1 the reader of numbers, S5 the tile rule, S6 the checker, S7 the maker, S8 and S9 a call. A whole number of a float is page Results.
-- Relies on the pages of those promises, on page Shows, and on page Told for that no refusal is told by 0.
use Rattle.std.specs.Prelude.{ℕ, suc, ◌^◌, ◌≤◌, ◌<◌, ◌≡◌, Bool, ◌↔◌, eqb, length, ℤ, pos, Some, None, Ok, Err}
use Rattle.std.proofs.Math.Path.{refl, ap}
use Rattle.std.proofs.Common.{sym, ◌∙◌}
use Rattle.std.proofs.Math.Bool.{true, false, cond}
use mathlib.Core.List.{List, [], ◌∷◌, ◌++◌}
use Rattle.std.proofs.Math.Logic.Iff
use Rattle.laws.specs.Pairs.{some-first, some-second}
use Rattle.laws.specs.Guards.{guard}
use Rattle.laws.specs.Lists.{all, first_false}
use Rattle.laws.specs.Standing.{Stands}
use Rattle.laws.specs.Tests.{never}
use Rattle.meaning.specs.Answers.{Number, Walk, Found}
use Rattle.meaning.specs.declared.Refusal.{Refusal}
use Rattle.meaning.specs.declared.Tried.{Tried}
use Rattle.meaning.specs.declared.State.{State}
use Rattle.meaning.specs.Refusals.{Shown, number_shown, signed_shown, tried_shown, walk_shown, found_shown, verdict_shown, written_shown, answer_shown, bad_table, no_table, short}
use Rattle.meaning.specs.Control as C
use Rattle.meaning.specs.Control.{idle, state_with, on_found, find}
use Rattle.meaning.specs.Files.{good}
use Rattle.meaning.specs.Numbers.{number_at, as_signed, signed_at, bytes_of, stored, restored}
use Rattle.meaning.specs.Plants.{Plant, plant_judged, root_of}
use Rattle.meaning.specs.Rules.{Rules, rule, holds}
use Rattle.meaning.specs.Tables.{depth_by, known_form, form_of, rules_of, checked, made, maker_left, controlled, starts_in, TableRun}
use Rattle.meaning.specs.Verdicts as W
use Rattle.meaning.specs.Verdicts.{walk, header, verdict}
use Rattle.promises.specs.Tables.Checked.{Tiled, checked-exactly}
use Rattle.promises.specs.Tables.Chosen.{Chosen, chosen}
use Rattle.promises.specs.Tables.Finds.{first_place, next_place}
use Rattle.promises.specs.Tables.Laws.{Sizes}
use Rattle.promises.specs.Tables.Layouts.{TreeStands, walk-stands, walk-reads, header-stands, header_read}
use Rattle.promises.specs.Tables.Made.{maker-nine, maker-ten, maker-length}
use Rattle.promises.specs.Tables.Modes.{is_mode, first-answered, found_first}
use Rattle.promises.specs.Files.Numbers.{reads, was, restored-stored, stored-restored}
use Rattle.promises.specs.Tables.Patterns.{Lands, works-exactly, staying, landing, leaves-exactly, misses-exactly}
use Rattle.promises.specs.Tables.PlantRules.{judged-sizes, checked-as, controlled-as}
use Rattle.promises.specs.Tables.Promise.{promise}
use Rattle.promises.specs.Tables.TableForms.{form-known}
use Rattle.promises.specs.Paper.Shows.{shows, refusing, no_mode, same-refusal, Numbered, number-exactly, signed-exactly, tried-exactly, written-exactly, walk-exactly, verdict-exactly, accepted-some, refused-some}
use Rattle.promises.specs.Paper.Told.{checker-some}

-- ---- S1: 0 with the value and the place behind it exactly where the number's bytes stand there, and else 1 there

module _ (s : List ℕ) (at : ℕ) where
  pub number-shown : (v next : ℕ) → (number_shown at (number_at s at) ≡ shows 0 0 0 (pos v ∷ pos next ∷ [])) ↔ ((v < 2 ^ 35) × Stands s at (bytes_of v) next)
  number-shown v next = Iff.trans (number-exactly at (number_at s at) (Some (v, next))) (λ e. was v at next s e, λ w. reads v at next s w.0 w.1)

  none-stands : (number_at s at ≡ None) ↔ ((v next : ℕ) → v < 2 ^ 35 → Stands s at (bytes_of v) next → ⊥)
  none-stands = (λ e v next l w. let q = reads v at next s l w in never cc, λ h. go (number_at s at) refl h)
    where
      go : (n : Number) → number_at s at ≡ n → ((v next : ℕ) → v < 2 ^ 35 → Stands s at (bytes_of v) next → ⊥) → n ≡ None
      go None q h = refl
      go (Some (v, next)) q h = let w = was v at next s q in absurd (h v next w.0 w.1)

  pub number-broken-shown : (number_shown at (number_at s at) ≡ shows 1 at 0 []) ↔ ((v next : ℕ) → v < 2 ^ 35 → Stands s at (bytes_of v) next → ⊥)
  number-broken-shown = Iff.trans (number-exactly at (number_at s at) None) none-stands

  -- signed: the same of what is stored
  as-value : (n : Number) (v : ℤ) (next : ℕ) → (as_signed n ≡ Some (v, next)) ↔ (n ≡ Some (stored v, next))
  as-value (Some (u, m)) v next = (
    λ e.
        let z : restored u ≡ v = some-first e in
        let y : m ≡ next = some-second e in
        rw (← z, stored-restored u, y) refl,
    λ e.
        let z : u ≡ stored v = some-first e in
        let y : m ≡ next = some-second e in
        rw (z, restored-stored v, y) refl,
  )
  as-value None v next = (λ e. never cc, λ e. never cc)

  as-broken : (n : Number) → (as_signed n ≡ None) ↔ (n ≡ None)
  as-broken (Some (u, m)) = (λ e. never cc, λ e. never cc)
  as-broken None = (λ e. refl, λ e. refl)

  pub signed-shown : (v : ℤ) (next : ℕ)
      → (signed_shown at (signed_at s at) ≡ shows 0 0 0 (v ∷ pos next ∷ [])) ↔ ((stored v < 2 ^ 35) × Stands s at (bytes_of (stored v)) next)
  signed-shown v next =
      Iff.trans (signed-exactly at (signed_at s at) (Some (v, next)))
      (Iff.trans (as-value (number_at s at) v next) (λ e. was (stored v) at next s e, λ w. reads (stored v) at next s w.0 w.1))

  pub signed-broken-shown : (signed_shown at (signed_at s at) ≡ shows 1 at 0 []) ↔ ((v : ℤ) (next : ℕ) → stored v < 2 ^ 35 → Stands s at (bytes_of (stored v)) next → ⊥)
  signed-broken-shown =
      Iff.trans (signed-exactly at (signed_at s at) None) (Iff.trans (as-broken (number_at s at)) (Iff.trans none-stands (
        λ h v next l w. h (stored v) next l w,
        λ h u next l w. let k = stored-restored u in h (restored u) next (rw k l) (rw k w),
      )))

-- ---- S5: 0 exactly where the pattern works; 7 with the first step whose image leaves S; 8 with the last step

module _ (r : Rules) (at : ℕ) (b : r.Box) (us : List ℕ) where
  pub works-shown : (tried_shown at (rule r b us) ≡ shows 0 0 0 []) ↔ Lands r (r.begin b) us
  works-shown = Iff.trans (tried-exactly at (rule r b us) Tried.Works) (works-exactly r b us)

  pub leaves-shown : (i : ℕ) → (tried_shown at (rule r b us) ≡ shows 7 at i [])
      ↔ ((all (staying r (r.begin b) us) ≡ false) × (i ≡ suc (first_false (staying r (r.begin b) us))))
  leaves-shown i = Iff.trans (tried-exactly at (rule r b us) (Tried.Leaves i)) (leaves-exactly r b us i)

  pub misses-shown : (i : ℕ) → (tried_shown at (rule r b us) ≡ shows 8 at i [])
      ↔ ((all (staying r (r.begin b) us) ≡ true) × (landing r (r.begin b) us ≡ false) × (i ≡ length us))
  misses-shown i = Iff.trans (tried-exactly at (rule r b us) (Tried.Misses i)) (misses-exactly r b us i)

-- ---- S6: 0 exactly where the table is that of a tree whose tiles all keep the tile rule

module _ (plant table : List ℕ) where
  pub accepted-shown : (verdict_shown (checked plant table) ≡ shows 0 0 0 []) ↔ Tiled plant table
  accepted-shown = Iff.trans (verdict-exactly (checked plant table) (Ok tt) (checker-some plant table) accepted-some) (checked-exactly plant table)

  -- and else its refusal, with no values
  pub refused-shown : (e : Refusal) → Numbered e → (verdict_shown (checked plant table) ≡ refusing e []) ↔ (checked plant table ≡ Err e)
  refused-shown e s = verdict-exactly (checked plant table) (Err e) (checker-some plant table) (refused-some e s)

-- ---- S7: 9, 10, or 0 with the length of the table

module _ (plant : List ℕ) (form : ℕ) (buf : List ℕ) where
  pub nine-shown : (written_shown (maker_left plant form buf).answer ≡ shows 9 0 0 [])
      ↔ ((p : Plant) × (plant_judged plant ≡ good p) × (known_form form ≡ true) × ((table : List ℕ) → form_of table ≡ form → checked plant table ≡ Ok tt → ⊥))
  nine-shown = Iff.trans (written-exactly (maker_left plant form buf).answer (Err (no_table 0))) (maker-nine plant form buf)

  pub ten-shown : (written_shown (maker_left plant form buf).answer ≡ shows 10 0 0 []) ↔ ((bytes : List ℕ) × (made plant form ≡ good bytes) × (length buf < length bytes))
  ten-shown = Iff.trans (written-exactly (maker_left plant form buf).answer (Err short)) (maker-ten plant form buf)

  pub length-shown : (m : ℕ) → (written_shown (maker_left plant form buf).answer ≡ shows 0 0 0 (pos m ∷ []))
      ↔ ((bytes : List ℕ) × (made plant form ≡ good bytes) × (length bytes ≤ length buf) × (m ≡ length bytes))
  length-shown m = Iff.trans (written-exactly (maker_left plant form buf).answer (Ok m)) (maker-length plant form buf m)

-- ---- S8: of an accepted table and a reading in R, the tile found and the call's answer

pub chosen-shown : (plant table : List ℕ) (t : Tiled plant table) (x : List ℤ) → starts_in plant x ≡ true
    → (c : Chosen plant table t x)
    × (found_shown (find (rules_of (form_of table) t.p) (depth_by (form_of table) t.p.n t.p.d) table 2 (root_of t.p) x) ≡ shows 0 0 0 (pos (first_place (rules_of (form_of table) t.p) c.the) ∷ pos (length c.the.modes) ∷ []))
    × (answer_shown (controlled plant table idle x)
    ≡ shows 0 0 0 (pos c.first ∷ pos (state_with c.later (next_place (first_place (rules_of (form_of table) t.p) c.the) c.first)).place ∷ pos (length c.later) ∷ []))
chosen-shown plant table t x h =
    let c = chosen plant table t x h in
    (c, ap found_shown c.found, ap answer_shown c.answered ∙ state-shown c.later c.first (next_place (first_place (rules_of (form_of table) t.p) c.the) c.first))
  where
    state-shown : (us : List ℕ) (u place : ℕ) → answer_shown (Ok (u, state_with us place)) ≡ shows 0 0 0 (pos u ∷ pos (state_with us place).place ∷ pos (length us) ∷ [])
    state-shown [] u place = refl
    state-shown (v ∷ us) u place = refl

-- ---- S9: no call of a run on an accepted table shows another number than 0, and each shows a mode of the plant

pub promise-shown : (plant table : List ℕ) → verdict_shown (checked plant table) ≡ shows 0 0 0 [] → {st : State} {x : List ℤ} → TableRun plant table st x
    → (u : ℕ) × (then : State) × (answer_shown (controlled plant table st x) ≡ shows 0 0 0 (pos u ∷ pos then.place ∷ pos then.left ∷ [])) × (is_mode plant u ≡ true)
promise-shown plant table a run =
    let p = (promise plant table ((checked-exactly plant table).1 ((accepted-shown plant table).0 a))).1 in
    let w = p.answered run in
    (w.0, w.1, ap answer_shown w.2, w.3)

-- ---- S6 and S8 in their parts, which show what they pass on

-- the header and a tree: 0 with the place behind it exactly where it stands
pub header-shown : (form n : ℕ) → form < 2 ^ 35 → n < 2 ^ 35 → (s : List ℕ) (m : ℕ)
    → (walk_shown (header form n s) ≡ shows 0 0 0 (pos m ∷ [])) ↔ Stands s 0 (bytes_of form ++ bytes_of n) m
header-shown form n fit small s m = Iff.trans (walk-exactly (header form n s) (Ok m)) (λ e. header-stands form n s m e, λ w. header_read form n fit small s m w)

pub walk-shown : (r : Rules) → Sizes r → (s : List ℕ) (judge : r.Box → List ℕ → Tried) (d at : ℕ) (b : r.Box) (m : ℕ)
    → (walk_shown (walk r judge d s at b) ≡ shows 0 0 0 (pos m ∷ [])) ↔ TreeStands r judge d s at b m
walk-shown r z s judge d at b m =
    Iff.trans (walk-exactly (walk r judge d s at b) (Ok m)) (λ e. walk-stands r judge d s at b m e, λ w. walk-reads r z judge w.tree d s at b m w.over w.fits w.stand)

module _ (plant : List ℕ) (p : Plant) (good-plant : plant_judged plant ≡ good p) (table : List ℕ) where
  -- the checker shows what the header shows that is refused; then what the walk shows; then 6 where bytes are left over
  pub header-first : (e : Refusal) → walk_shown (header (form_of table) p.n table) ≡ refusing e [] → verdict_shown (checked plant table) ≡ refusing e []
  unfolding W.verdict
  header-first e h =
      let q = (walk-exactly (header (form_of table) p.n table) (Err e)).0 h in
      let is : checked plant table ≡ Err e = checked-as plant p good-plant table ∙ rw q refl in
      ap verdict_shown is

  module _ (at : ℕ) (head : walk_shown (header (form_of table) p.n table) ≡ shows 0 0 0 (pos at ∷ [])) where
    abbrev walked : Walk
    walked = walk (rules_of (form_of table) p) (rule (rules_of (form_of table) p)) (depth_by (form_of table) p.n p.d) table at (root_of p)

    head-is : header (form_of table) p.n table ≡ Ok at
    head-is = (walk-exactly (header (form_of table) p.n table) (Ok at)).0 head

    pub walk-next : (e : Refusal) → walk_shown walked ≡ refusing e [] → verdict_shown (checked plant table) ≡ refusing e []
    unfolding W.verdict
    walk-next e h =
        let q = (walk-exactly walked (Err e)).0 h in
        let is : checked plant table ≡ Err e = checked-as plant p good-plant table ∙ rw (head-is, q) refl in
        ap verdict_shown is

    pub leftover-last : (m : ℕ) → walk_shown walked ≡ shows 0 0 0 (pos m ∷ [])
        → verdict_shown (checked plant table) ≡ cond (eqb m (length table)) (shows 0 0 0 []) (shows 6 m 0 [])
    unfolding W.verdict
    leftover-last m h =
        let q = (walk-exactly walked (Ok m)).0 h in
        let is : checked plant table ≡ guard (eqb m (length table)) (Err (bad_table m)) (λ _. Ok tt) =
        checked-as plant p good-plant table ∙ rw (head-is, q) refl in
        ap verdict_shown is ∙ go (eqb m (length table))
      where
        go : (t : Bool) → verdict_shown (guard t (Err (bad_table m)) λ _. Ok tt) ≡ cond t (shows 0 0 0 []) (shows 6 m 0 [])
        go true = refl
        go false = refl

    -- an idle call on a reading in R is refused exactly as the look for its tile is, whatever the table
    pub look-shown : (x : List ℤ) → starts_in plant x ≡ true → (e : Refusal) → Numbered e
        → (found_shown (find (rules_of (form_of table) p) (depth_by (form_of table) p.n p.d) table at (root_of p) x) ≡ refusing e []) ↔ (answer_shown (controlled plant table idle x) ≡ refusing e no_mode)
    unfolding C.call
    look-shown x h e s =
        let r = rules_of (form_of table) p in
        let held : holds r (root_of p) x ≡ true = rw good-plant at h in
        let is : controlled plant table idle x ≡ on_found table (find r (depth_by (form_of table) p.n p.d) table at (root_of p) x) = controlled-as plant p good-plant table idle x ∙ rw (head-is, held) refl in
        rw is (go (find r (depth_by (form_of table) p.n p.d) table at (root_of p) x) refl)
      where
        -- a tile that is found has a first mode
        go : (f : Found) → find (rules_of (form_of table) p) (depth_by (form_of table) p.n p.d) table at (root_of p) x ≡ f → (found_shown f ≡ refusing e []) ↔ (answer_shown (on_found table f) ≡ refusing e no_mode)
        go (Ok (from, k)) w =
            let first = found_first (rules_of (form_of table) p) (judged-sizes plant p good-plant (form_of table) (form-known table)) x (depth_by (form_of table) p.n p.d) table at (root_of p) from k w in (
              λ q. let z = ap (λ (a : Shown). a.values) q in never cc,
              λ q. absurd (s (sym (ap (λ (a : Shown). a.number) (ap answer_shown (sym (first-answered p.modes table from k first)) ∙ q)))),
            )
        go (Err f) w = (
          λ q. ap (λ (g : Refusal). refusing g no_mode) (same-refusal f e [] [] q),
          λ q. ap (λ (g : Refusal). refusing g []) (same-refusal f e no_mode no_mode q),
        )
