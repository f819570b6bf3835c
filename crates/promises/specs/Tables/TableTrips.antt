-- S9, its first half: on a table that is the layout of a working tree, an idle call on a reading in the root begins a trip to the goal, of as many samples as
-- the tile that holds the reading has modes. Over any rules whose numbers fit five bytes, that split well and whose patterns keep their word; that the goal
-- lies in the root is not asked. Relies on page Finds for the tile and on page Patterns for its pattern. Trips repeated are page Demand.
use Rattle.std.specs.Prelude.{ℕ, suc, ◌≤◌, ◌≡◌, true, length, Ok}
use Rattle.std.proofs.Math.Path.{refl, ap}
use Rattle.std.proofs.Common.{sym, arith, length-append}
use mathlib.Core.List.{List, [], ◌∷◌, ◌++◌, append-nil}
use borrow.Author.Tests.{le-leb}
use Rattle.meaning.specs.Answers.{Answer}
use Rattle.laws.specs.Pairs.{ok-first, ok-second}
use Rattle.laws.specs.Every as E
use Rattle.laws.specs.Standing.{Stands, stand-back}
use Rattle.meaning.specs.declared.State.{State}
use Rattle.meaning.specs.Numbers.{bytes_of}
use Rattle.meaning.specs.Rules.{Rules, rule, holds}
use Rattle.meaning.specs.Trees as Y
use Rattle.meaning.specs.Trees.{Tree, modes_bytes, longest, AllBelow, Pattern, table_of, Over, Tile, tiles_of, having}
use Rattle.meaning.specs.Control as C
use Rattle.meaning.specs.Control.{idle, state_with, call}
use Rattle.promises.specs.Files.Bytes.{bytes-some}
use Rattle.promises.specs.Tables.Finds.{next_place, first_place, the, finds, call-finds}
use Rattle.promises.specs.Tables.Laws.{Sizes, Splits, Motion}
use Rattle.promises.specs.Tables.Layouts.{first_read, modes-read, headed, table-header}
use Rattle.promises.specs.Tables.Patterns as Q
use Rattle.promises.specs.Tables.Patterns.{Lands, works-exactly}
use Rattle.promises.specs.Tables.Shapes.{Good, Working, over-short}
use Rattle.promises.specs.Tables.Trips as W
use Rattle.promises.specs.Tables.Trips.{Sampled, ToGo, Trip}

module _ (r : Rules) where
  open r use {Reading, root, goal, safe, form, n, follows}

  -- a call on the table s gives a mode and the next state; a trip of so many samples; so many to go
  abbrev pub Gives : List ℕ → State → Reading → ℕ → State → Type 0
  Gives s st x u then = call r s st x ≡ Ok (u, then)

  abbrev pub TripOn : List ℕ → ℕ → Reading → Type 0
  TripOn s = Trip idle (Gives s) follows (holds r safe) (holds r goal)

  abbrev pub ToGoOn : List ℕ → ℕ → State → Reading → Type 0
  ToGoOn s = ToGo idle (Gives s) follows (holds r safe) (holds r goal)

  -- the tile of a tree's table that alone holds the reading, and the trip that it makes
  pub record TileTrip (t : Tree) (x : Reading) : Type 0 where
    pub the : Tile r
    pub only : having r x (tiles_of r t root (headed form n)) ≡ the ∷ []
    pub short : length the.modes ≤ longest t
    pub trip : TripOn (table_of r t) (length the.modes) x

-- The modes us stand at that place, the reading is where what was kept says, and from there they land.
record Ready (r : Rules) (motion : Motion r) (s us : List ℕ) (place : ℕ) (x : r.Reading) : Type 0 where
  kept : r.Kept
  modes : AllBelow r.N us
  few : length us ≤ r.K
  far : 2 ≤ place
  end : ℕ
  stand : Stands s place (modes_bytes us) end
  here : motion.Inv kept x
  lands : Lands r kept us

module _ (r : Rules) (sizes : Sizes r) (splits : Splits r) (motion : Motion r) (t : Tree) (works : Working r t) where
  open r use {Box, Reading, begin, image, kept, root, goal, safe, form, n, D, K, N, follows}

  abbrev table : List ℕ
  table = table_of r t

  is : table ≡ table ++ []
  is = sym (append-nil table)

  -- a sample by a call that is answered so
  answers : (P : State → Reading → Type 0) (st : State) (x : Reading) (u : ℕ) (then : State) → call r table st x ≡ Ok (u, then)
      → ((y : Reading) → follows u x y ≡ true → P then y) → Sampled idle (Gives r table) follows P st x
  answers P st x u then e h = record {
    told = (u, then, e);
    leads = λ {u = v} {then = next} {y} g f.
        let same : ◌≡◌ {A = Answer} (Ok (v, next)) (Ok (u, then)) = cc in
        let a : v ≡ u = ok-first same in
        let b : next ≡ then = ok-second same in
        rw b (h y (rw a at f));
  }

  -- ---- a tile's pattern under way

  module _ (u : ℕ) (us : List ℕ) (place : ℕ) (x : Reading) (h : Ready r motion table (u ∷ us) place x) where
    next-ready : (y : Reading) → follows u x y ≡ true → Ready r motion table us (next_place place u) y × (holds r safe y ≡ true)
    unfolding Y.AllBelow Y.modes_bytes Q.images Q.last_of E.Every
    next-ready y f =
        let c = image u h.kept in
        let there = motion.at-image h.kept u x y h.here f in (
          record {
            kept = c;
            modes = h.modes.1;
            few = omega (arith, h.few);
            far = omega (arith, h.far);
            end = h.end;
            stand = stand-back (bytes_of u) (modes_bytes us) h.stand;
            here = there;
            lands = record { in-safe = h.lands.in-safe.1; in-goal = h.lands.in-goal };
          },
          motion.inside (kept c) safe y h.lands.in-safe.0 (motion.in_kept c y there),
        )

    running-told : holds r safe x ≡ true → call r table (state_with (u ∷ us) place) x ≡ Ok (u, state_with us (next_place place u))
    unfolding C.call Y.AllBelow
    running-told w =
        let mode = first_read N sizes.modes u us table place h.end h.modes h.stand in
        simp (
          table-header r sizes table [] t is,
          le-leb (suc (length us)) K h.few,
          le-leb 2 place h.far,
          modes-read N sizes.modes (u ∷ us) table place h.end h.modes h.stand,
          w,
          mode,
        )

  to-go : (us : List ℕ) (place : ℕ) (x : Reading) → Ready r motion table us place x → holds r safe x ≡ true → ToGoOn r table (length us) (state_with us place) x
  unfolding W.ToGo Q.images Q.last_of
  to-go [] place x h w = (w, refl, motion.inside (kept h.kept) goal x h.lands.in-goal (motion.in_kept h.kept x h.here))
  to-go (u ∷ us) place x h w = (
    w,
    λ e. omega (arith, ap (λ (st : State). st.left) e),
    answers (ToGoOn r table (length us)) (state_with (u ∷ us) place) x u (state_with us (next_place place u)) (running-told u us place x h w)
        (λ y f. let q = next-ready u us place x h y f in to-go us (next_place place u) y q.0 q.1),
  )

  -- ---- an idle call

  -- what is known of each tile
  abbrev Known : Box → List ℕ → Type 0
  Known b us = Good r (rule r) b us × (length us ≤ longest t)

  known : Over r Known t D root
  known = over-short r (longest t) (Good r (rule r)) Known (λ b us l g. (g, l)) t D root (omega arith) works

  pub table-trips : (x : Reading) → holds r root x ≡ true → TileTrip r t x
  table-trips x h =
      let shape : (b : Box) (us : List ℕ) → Known b us → Pattern K N us = λ b us k. k.0.shape in
      let f = finds r sizes splits Known shape table [] t is known x h in
      let u = f.first in
      let us = f.later in
      let g = f.known.0 in
      let place = first_place r (the r f) in
      let ready : Ready r motion table (u ∷ us) place x = record {
        kept = begin f.box;
        modes = g.shape.modes;
        few = g.shape.few;
        far = omega (arith, f.behind, length-append (bytes_of form) (bytes_of n), bytes-some form, bytes-some n);
        end = f.end;
        stand = stand-back (bytes_of (suc (length us))) (modes_bytes (u ∷ us)) f.stand;
        here = motion.at-begin f.box x f.holds-it;
        lands = (works-exactly r f.box (u ∷ us)).0 g.works;
      } in
      record {
        the = the r f;
        only = f.only;
        short = f.known.1;
        trip = (
          motion.root-safe x h,
          answers (ToGoOn r table (length us)) idle x u (state_with us (next_place place u)) (call-finds r sizes splits Known shape table [] t is known x h)
              (λ y q. let w = next-ready u us place x ready y q in to-go us (next_place place u) y w.0 w.1),
        );
      }
