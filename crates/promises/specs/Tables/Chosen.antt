-- S8 over bytes: on an accepted table an idle call on a reading in R chooses the one tile of the table that holds it, and answers that tile's first
-- mode; and of every table, accepted or not, an idle call that is answered reads the header, of the splits on the way their numbers and lengths, and the tile that it
-- chose; where no lengths are told, what it passes too, but nothing behind the tile's last mode. Relies on pages Finds and Local at document 01's rules. How many
-- bytes that is, is page Little.
use Rattle.std.specs.Prelude.{ℕ, ◌≤◌, ◌≡◌, refl, true, false, List, [], ◌∷◌, length, get_or, take, ℤ, Ok, Err}
use Rattle.std.proofs.Common.{sym, ap, subst, ◌∙◌, append-nil, arith}
use Rattle.laws.specs.Tests.{never, guard_passed}
use Rattle.meaning.specs.Answers.{Found, Answer}
use Rattle.meaning.specs.declared.Refusal.{Refusal}
use Rattle.meaning.specs.declared.State.{State}
use Rattle.meaning.specs.Control as C
use Rattle.meaning.specs.Control.{idle, on_found, find, idle_call, call, state_with}
use Rattle.meaning.specs.Files.{Judged, good, bad, read}
use Rattle.meaning.specs.Plants.{Plant, plant_judged, root_of}
use Rattle.meaning.specs.Rules.{Rules, rule, holds}
use Rattle.meaning.specs.Tables as T
use Rattle.meaning.specs.Tables.{depth_by, form_of, rules_of, on_plant, controlled, starts_in}
use Rattle.meaning.specs.Trees as Y
use Rattle.meaning.specs.Trees.{tells, table_of, Tile, tiles_of, having}
use Rattle.meaning.specs.Verdicts.{modes_at, header}
use Rattle.promises.specs.Tables.Checked.{Tiled}
use Rattle.promises.specs.Tables.Finds.{next_place, first_place, end_place, the, finds, call-finds}
use Rattle.promises.specs.Files.Judged.{judged-sound}
use Rattle.promises.specs.Files.SameBytes.{In}
use Rattle.promises.specs.Tables.Layouts.{modes-stand, header-stands, table-header, tile-read}
use Rattle.promises.specs.Tables.Local.{read_of, AsLong, seen_bytes, seen_front, untold-long, seen}
use Rattle.promises.specs.Tables.PlantMotion.{splits}
use Rattle.promises.specs.Tables.PlantRules.{sizes, header-size, controlled-as}
use Rattle.promises.specs.Tables.Shapes.{Good}
use Rattle.promises.specs.Tables.TableForms.{form-known, header-form}
use Rattle.promises.specs.Tables.Walking.{walk-went}

-- ---- of an accepted table

-- The tile chosen in the table of a tree, the header being two bytes.
pub record Chosen (plant table : List ℕ) (t : Tiled plant table) (x : List ℤ) : Type 0 where
  pub the : Tile (rules_of (form_of table) t.p)
  -- of all tiles it alone holds the reading
  pub only : having (rules_of (form_of table) t.p) x (tiles_of (rules_of (form_of table) t.p) t.tree (root_of t.p) 2) ≡ the ∷ []
  pub holds-it : holds (rules_of (form_of table) t.p) the.box x ≡ true
  -- it is the one found, the first of its modes standing behind their number
  pub found : find (rules_of (form_of table) t.p) (depth_by (form_of table) t.p.n t.p.d) table 2 (root_of t.p) x ≡ Ok (first_place (rules_of (form_of table) t.p) the, length the.modes)
  -- its first mode is answered, and those to come are left, the next of them behind it
  pub first : ℕ
  pub later : List ℕ
  pub modes-are : the.modes ≡ first ∷ later
  pub answered : controlled plant table idle x ≡ Ok (first, state_with later (next_place (first_place (rules_of (form_of table) t.p) the) first))
  -- the answer is the same on every table that has the same bytes where this one was read, and is as long where lengths are told
  pub seen : (other : List ℕ) → end_place (rules_of (form_of table) t.p) the ≤ length other → AsLong (rules_of (form_of table) t.p) table other
      → ((k : ℕ) → In (read_of (rules_of (form_of table) t.p) x table 2) k → get_or other k 0 ≡ get_or table k 0)
      → controlled plant other idle x ≡ controlled plant table idle x
  -- and where none are told, on every table that agrees with this one up to the tile's last mode
  pub unread : tells (form_of table) ≡ false → (other : List ℕ) → take (end_place (rules_of (form_of table) t.p) the) table ≡ take (end_place (rules_of (form_of table) t.p) the) other
      → controlled plant other idle x ≡ controlled plant table idle x

-- what is the same by the rules of this table's form is so by those of the other's, whose header says that form too
on-other : (plant table : List ℕ) (p : Plant) → plant_judged plant ≡ good p → (other : List ℕ) (x : List ℤ) (at : ℕ) → header (form_of table) p.n other ≡ Ok at
    → call (rules_of (form_of table) p) other idle x ≡ call (rules_of (form_of table) p) table idle x → controlled plant other idle x ≡ controlled plant table idle x
on-other plant table p e other x at h q =
    controlled-as plant p e other idle x
    ∙ ap (λ (k : ℕ). call (rules_of k p) other idle x) (header-form (form_of table) p.n (form-known table) other at h)
    ∙ q ∙ sym (controlled-as plant p e table idle x)

-- S8, of a reading in R and a table that is that of a tree
pub chosen : (plant table : List ℕ) (t : Tiled plant table) (x : List ℤ) → starts_in plant x ≡ true → Chosen plant table t x
unfolding Y.layout
chosen plant table t x h =
    let p = t.p in
    let form = form_of table in
    let known = form-known table in
    let r = rules_of form p in
    let s = judged-sound plant p t.judged in
    let z = sizes form known p s in
    let held : holds r (root_of p) x ≡ true = rw t.judged at h in
    let is = t.is ∙ sym (append-nil (table_of r t.tree)) in
    let f = finds r z (splits form p) (Good r (rule r)) (λ b us g. g.shape) table [] t.tree is t.works x held in
    let us = f.first ∷ f.later in
    let two = header-size form known p s in
    let head : header form p.n table ≡ Ok 2 = table-header r z table [] t.tree is ∙ ap (λ (m : ℕ). Ok m) two in
    let found : find r (depth_by form p.n p.d) table 2 (root_of p) x ≡ Ok (first_place r (the r f), length us) =
    subst (λ (m : ℕ). find r (depth_by form p.n p.d) table m (root_of p) x ≡ Ok (first_place r (the r f), length us)) two f.told in
    let w = seen r z x table 2 (first_place r (the r f)) (length us) head found in
    let same : w.end ≡ f.end = cc ((tile-read r z us table f.place f.end f.known.shape f.stand).1, w.are) in
    let end : w.end ≡ end_place r (the r f) = ◌∙◌ {c = end_place r (the r f)} same f.stand.end in
    record {
      the = the r f;
      only = subst (λ (m : ℕ). having r x (tiles_of r t.tree (root_of p) m) ≡ the r f ∷ []) two f.only;
      holds-it = f.holds-it;
      found = found;
      first = f.first;
      later = f.later;
      modes-are = refl;
      answered = controlled-as plant p t.judged table idle x
          ∙ call-finds r z (splits form p) (Good r (rule r)) (λ b us g. g.shape) table [] t.tree is t.works x held;
      seen = λ other l long bytes.
          let a = seen_bytes r x table 2 _ _ w other (subst (λ (m : ℕ). m ≤ length other) (sym end) l) bytes in
          on-other plant table p t.judged other x 2 (w.head other a) (w.same other long a);
      unread = λ plain other q.
          let a = seen_front r x table 2 _ _ w other (subst (λ (m : ℕ). take m table ≡ take m other) (sym end) q) in
          on-other plant table p t.judged other x 2 (w.head other a) (w.same other (untold-long r plain table other) a);
    }

-- ---- of every table, accepted or not

-- An idle call was answered so: by the tile whose modes stand from `from` up to `end`; and the same on every table that has the same bytes where this one was read, and is
-- as long where lengths are told. Where none are told, that is on every table that agrees up to the end.
pub record Unread (plant table : List ℕ) (x : List ℤ) (u : ℕ) (then : State) : Type 0 where
  pub p : Plant
  pub judged : plant_judged plant ≡ good p
  pub from : ℕ
  pub modes : List ℕ
  pub found : find (rules_of (form_of table) p) (depth_by (form_of table) p.n p.d) table 2 (root_of p) x ≡ Ok (from, length modes)
  pub end : ℕ
  pub are : modes_at p.modes (length modes) table from ≡ read modes end
  pub in-file : end ≤ length table
  pub seen : (other : List ℕ) → end ≤ length other → AsLong (rules_of (form_of table) p) table other
      → ((k : ℕ) → In (read_of (rules_of (form_of table) p) x table 2) k → get_or other k 0 ≡ get_or table k 0) → controlled plant other idle x ≡ Ok (u, then)
  pub same : tells (form_of table) ≡ false → (other : List ℕ) → take end table ≡ take end other → controlled plant other idle x ≡ Ok (u, then)

refused-mode : {e : Refusal} {u : ℕ} {then : State} → ◌≡◌ {A = Answer} (Err e) (Ok (u, then)) → ⊥
refused-mode q = never cc

found-tile : (s : List ℕ) (f : Found) (u : ℕ) (then : State) → on_found s f ≡ Ok (u, then) → (from k : ℕ) × (f ≡ Ok (from, k))
found-tile s (Err e) u then q = absurd (refused-mode q)
found-tile s (Ok (from, k)) u then q = (from, k, refl)

-- a call, idle, that was answered has read the header and found a tile, by any rules
pub record Went (r : Rules) (table : List ℕ) (x : r.Reading) : Type 0 where
  pub at : ℕ
  pub from : ℕ
  pub k : ℕ
  pub head : header r.form r.n table ≡ Ok at
  pub found : find r r.D table at r.root x ≡ Ok (from, k)

pub went : (r : Rules) (table : List ℕ) (x : r.Reading) (u : ℕ) (then : State) → call r table idle x ≡ Ok (u, then) → Went r table x
unfolding C.call
went r table x u then a =
    let w = walk-went (header r.form r.n table) Err (λ at. idle_call r table at 0 x) (λ _. refused-mode) a in
    let g = guard_passed (holds r r.root x) (λ _. on_found table (find r r.D table w.0 r.root x)) refused-mode w.2 in
    let f = found-tile table (find r r.D table w.0 r.root x) u then g.1 in
    record { at = w.0; from = f.0; k = f.1; head = w.1; found = f.2 }

pub unread : (plant table : List ℕ) (x : List ℤ) (u : ℕ) (then : State) → controlled plant table idle x ≡ Ok (u, then) → Unread plant table x u then
unfolding T.controlled
unread plant table x u then = go (plant_judged plant) refl
  where
    of : (p : Plant) → plant_judged plant ≡ good p → call (rules_of (form_of table) p) table idle x ≡ Ok (u, then) → Went (rules_of (form_of table) p) table x → Unread plant table x u then
    of p e a w =
        let form = form_of table in
        let known = form-known table in
        let r = rules_of form p in
        let s = judged-sound plant p e in
        let begin : w.at ≡ 2 = omega (arith, (header-stands form p.n table w.at w.head).end, header-size form known p s) in
        let z = seen r (sizes form known p s) x table 2 w.from w.k (rw begin at w.head) (rw begin at w.found) in
        let m = modes-stand p.modes w.k table w.from z.modes z.end z.are in
        let count : length z.modes ≡ w.k = m.count in
        let was : controlled plant table idle x ≡ Ok (u, then) = controlled-as plant p e table idle x ∙ a in
        record {
          p = p;
          judged = e;
          from = w.from;
          modes = z.modes;
          found = rw count (rw begin at w.found);
          end = z.end;
          are = rw count z.are;
          in-file = z.in-file;
          seen = λ other l long bytes.
              let b = seen_bytes r x table 2 w.from w.k z other l bytes in
              on-other plant table p e other x 2 (z.head other b) (z.same other long b) ∙ was;
          same = λ plain other q.
              let b = seen_front r x table 2 w.from w.k z other q in
              on-other plant table p e other x 2 (z.head other b) (z.same other (untold-long r plain table other) b) ∙ was;
        }

    go : (j : Judged Plant) → plant_judged plant ≡ j → on_plant j Err (λ p. call (rules_of (form_of table) p) table idle x) ≡ Ok (u, then)
        → Unread plant table x u then
    go (bad e) q a = absurd (refused-mode a)
    go (good p) q a = of p q a (went (rules_of (form_of table) p) table x u then a)

-- So what an answer depends on, whatever the form: the header, the splits on the way and the tile, what is passed where no lengths are told, and the file's length.
pub depends : (plant table : List ℕ) (x : List ℤ) (u : ℕ) (then : State) (w : Unread plant table x u then) (other : List ℕ) → length other ≡ length table
    → ((k : ℕ) → In (read_of (rules_of (form_of table) w.p) x table 2) k → get_or other k 0 ≡ get_or table k 0) → controlled plant other idle x ≡ Ok (u, then)
depends plant table x u then w other long bytes = w.seen other (omega (arith, w.in-file, long)) (λ _. long) bytes
