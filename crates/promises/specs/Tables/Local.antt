-- S8, second half: what an idle call reads, of every table, accepted or not. It reads the header; then of each split on the way its number and its lengths, where the form
-- tells them, and of the tile that it finds the number and the modes. Where no lengths are told it reads the subtrees that it passes too, so all up to the tile's
-- last mode, and nothing behind it. Where they are told (request 2026-01) it reads none of them, but asks how long the file is. Two tables that agree so far
-- get one answer. Over any rules whose numbers fit five bytes. How many bytes that is, is page Little.
use Prim.Native.Nat.{ℕ, zero, suc, ◌+◌, ◌^◌, ◌≤◌}
use Rattle.std.specs.Prelude.{◌≡◌, Bool, length, get_or, take, Some, Ok, Err}
use Rattle.std.proofs.Math.Path.{refl, ap}
use Rattle.std.proofs.Common.{sym, ◌∙◌, length-append}
use Rattle.std.proofs.Math.Bool.{true, false}
use mathlib.Core.List.{List, [], ◌∷◌, ◌++◌}
use Rattle.std.proofs.Math.Option.{Option, none}
use Rattle.std.proofs.Math.Option as O
use native.Mathlib.Omega.{arith}
use borrow.Author.Tests.{le-leb}
use Rattle.laws.specs.Pairs.{ok-first, ok-second}
use Rattle.laws.specs.Every as E
use Rattle.laws.specs.Every.{Every, every_append, every_map, every-parts}
use Rattle.laws.specs.Guards.{choose}
use Rattle.laws.specs.Standing.{stand-within}
use Rattle.laws.specs.Tests.{never}
use Rattle.meaning.specs.Answers.{Walk, Found}
use Rattle.meaning.specs.declared.Refusal.{Refusal}
use Rattle.meaning.specs.declared.Tried.{Tried}
use Rattle.meaning.specs.declared.Tried.TheVariants.{Works}
use Rattle.meaning.specs.Refusals.{bad_table}
use Rattle.meaning.specs.Numbers.{number_at, bytes_of}
use Rattle.meaning.specs.Files.{Read, read, refused, before}
use Rattle.meaning.specs.Rules.{Rules, holds}
use Rattle.meaning.specs.Trees.{tells, layout, modes_bytes}
use Rattle.meaning.specs.Verdicts as W
use Rattle.meaning.specs.Verdicts.{Length, length_at, on_walk, on_read, lengths_at, lengths_by, split_at, modes_at, node_at, walk, header}
use Rattle.meaning.specs.Control as C
use Rattle.meaning.specs.Control.{idle, tile_found, past_file, unless_past, pass_by, among, mode_at, find, call}
use Rattle.promises.specs.Files.Bytes.{bytes-some}
use Rattle.promises.specs.Files.Numbers.{was}
use Rattle.promises.specs.Files.SameBytes.{Span, span, In, Same, Agreed, stand-same, number_same, taken-same, agreed-in}
use Rattle.promises.specs.Tables.Laws.{Sizes}
use Rattle.promises.specs.Tables.Walking.{number_read, walk-went, read-went, NodeWas, was-split, was-tile, node-was, lengths_count, lengths-by, pass_over, look_among, look_by, split-some, find-split, find-tile}
use Rattle.promises.specs.Tables.Layouts.{ModesStand, modes-stand, first_read, modes-read, walk-stands, walk-reads, header-stands, header_read}
use Rattle.promises.specs.Tables.SplitLengths.{lengths-stand}

refused-tile : {e : Refusal} {from k : ℕ} → ◌≡◌ {A = Found} (Err e) (Ok (from, k)) → ⊥
refused-tile e = never cc

-- ---- what is read

-- of a tile at that place, its modes being read: all its bytes
abbrev pub tile_spans : ℕ → Read (List ℕ) → List Span
tile_spans at (refused e) = []
tile_spans at (read us end) = span at end ∷ []

-- of a child that is passed: nothing where it has a length
abbrev pub pass_spans : Bool → ℕ → ℕ → List Span
pass_spans true at next = []
pass_spans false at next = span at next ∷ []

-- among children: those that are passed, and then the one that is gone into
unfoldable pub among_spans : {B : Type 0} → Bool → (B → Bool) → (ℕ → B → List Span) → (List Length → ℕ → B → Walk) → List B → List Length → ℕ → List Span
among_spans told has enter pass [] ls at = []
among_spans told has enter pass (b ∷ bs) ls at =
    choose (has b) (λ _. enter at b) λ _.
    on_walk (pass ls at b) (λ _. []) λ next. pass_spans told at next ++ among_spans told has enter pass bs (C.behind ls) next

module _ (r : Rules) where
  open r use {Box, Reading, children, form, n, K, N}

  -- in the tree at `at`, to find the tile that holds a reading: of a split its number and lengths, in one
  unfoldable pub spans : ℕ → List ℕ → ℕ → Box → Reading → List Span
  spans zero s at b x = node_at K s at (λ _. []) (λ next. []) (λ k next. tile_spans at (modes_at N k s next))
  spans (suc d) s at b x = node_at K s at (λ _. [])
      (λ next. split_at (children b) [] λ cs.
      on_read (lengths_by (tells form) cs s next) (λ _. []) λ ls first.
      span at first ∷ among_spans (tells form) (λ c. holds r c x) (λ p c. spans d s p c x) (pass_over r d s) cs ls first)
      (λ k next. tile_spans at (modes_at N k s next))

  pub spans-tile : (x : Reading) (d : ℕ) (s : List ℕ) (at : ℕ) (b : Box) (k m : ℕ) → number_at s at ≡ Some (k, m) → 1 ≤ k → k ≤ K
      → spans d s at b x ≡ tile_spans at (modes_at N k s m)
  unfolding spans
  spans-tile x d s at b zero m e z l = absurd (omega arith)
  spans-tile x d s at b (suc k) m e z l = elim d as (λ n. spans n s at b x ≡ tile_spans at (modes_at N (suc k) s m)) [ zero ↦ simp (e, le-leb (suc k) K l) | suc c ↦ simp (e, le-leb (suc k) K l) ]

  abbrev pub spans_among : Reading → ℕ → List ℕ → List Box → List Length → ℕ → List Span
  spans_among x d s bs ls at = among_spans (tells form) (λ c. holds r c x) (λ p c. spans d s p c x) (pass_over r d s) bs ls at

  pub spans-split : (x : Reading) (d : ℕ) (s : List ℕ) (at : ℕ) (b : Box) (m first : ℕ) (ls : List Length) → number_at s at ≡ Some (0, m) → (children b ≡ [] → ⊥)
      → lengths_by (tells form) (children b) s m ≡ read ls first → spans (suc d) s at b x ≡ span at first ∷ spans_among x d s (children b) ls first
  unfolding spans
  spans-split x d s at b m first ls e y q =
      let by : List Box → List Span = λ cs. on_read (lengths_by (tells form) cs s m) (λ _. []) λ ls first. span at first ∷ spans_among x d s cs ls first in
      let split : spans (suc d) s at b x ≡ by (children b) = rw e (split-some [] by (children b) y) in
      split ∙ rw q refl

-- ---- what was read is read in every list that agrees there

module _ (s z : List ℕ) where
  modes-same : (N : ℕ) → N ≤ 2 ^ 35 → (k i m : ℕ) (us : List ℕ) → m ≤ length z → Same s z i m → modes_at N k s i ≡ read us m → modes_at N k z i ≡ read us m
  modes-same N small k i m us l a q =
      let w = modes-stand N k s i us m q in
      ap (λ (j : ℕ). modes_at N j z i) (sym w.count) ∙ modes-read N small us z i m w.modes (stand-same s z (modes_bytes us) i m l a w.stand)

  lengths-same : (k i m : ℕ) (ls : List Length) → m ≤ length z → Same s z i m → lengths_at k s i ≡ read ls m → lengths_at k z i ≡ read ls m
  unfolding W.lengths_at
  lengths-same zero i m ls l a e = e
  lengths-same (suc k) i m ls l a e =
      let v = number_read (number_at s i) (λ size next. before (length_at i size) (lengths_at k s next)) (λ e. never cc) e in
      go v.0 v.1 v.2 (λ vs a q. lengths-same k v.1 m vs l a q) (lengths_at k s v.1) refl v.3
    where
      go : (size next : ℕ) → number_at s i ≡ Some (size, next)
          → ((vs : List Length) → Same s z next m → lengths_at k s next ≡ read vs m → lengths_at k z next ≡ read vs m)
          → (o : Read (List Length)) → lengths_at k s next ≡ o → before (length_at i size) o ≡ read ls m → lengths_at (suc k) z i ≡ read ls m
      go size next q ih (refused x) w e = never cc
      go size next q ih (read vs y) w e =
          let c : m ≡ y = cc in
          let w2 : lengths_at k s next ≡ read vs m = w ∙ ap (λ (j : ℕ). read vs j) (sym c) in
          let o = (was size i next s q).1.end in
          let g = (lengths-stand k s next vs m w2).stand.end in
          rw (number_same s z size i next (omega arith) (λ j b h. a j b (omega arith)) q, ih vs (λ j b h. a j (omega arith) h) w2) (ap (before (length_at i size)) (ap (λ (j : ℕ). read vs j) c) ∙ e)

  by-same : {B : Type 0} (told : Bool) (bs : List B) (i m : ℕ) (ls : List Length) → m ≤ length z → Same s z i m → lengths_by told bs s i ≡ read ls m → lengths_by told bs z i ≡ read ls m
  by-same told bs i m ls l a e = lengths-by told bs z i ∙ lengths-same (lengths_count told (length bs)) i m ls l a (sym (lengths-by told bs s i) ∙ e)

  -- no length points behind the file, if the other is as long
  past_same : {B : Type 0} (told : Bool) (bs : List B) (i m : ℕ) (ls : List Length) → (told ≡ true → length z ≡ length s) → lengths_by told bs s i ≡ read ls m
      → past_file (length s) ls m ≡ none → past_file (length z) ls m ≡ none
  unfolding C.past_file
  past_same false bs i m ls l e p = let q : ls ≡ [] = cc in rw q refl
  past_same true bs i m ls l e p = rw (l refl) p

  -- the first of some modes, and so the answer
  mode-same : (N : ℕ) → N ≤ 2 ^ 35 → (us : List ℕ) (from k m : ℕ) → modes_at N k s from ≡ read us m → modes_at N k z from ≡ read us m → mode_at z from k ≡ mode_at s from k
  mode-same N small us from k m p q = go us (modes-stand N k s from us m p) (modes-stand N k z from us m q)
    where
      go : (us : List ℕ) → ModesStand N k s from us m → ModesStand N k z from us m → mode_at z from k ≡ mode_at s from k
      go [] w v = let e : k ≡ 0 = omega (arith, w.count) in rw e refl
      go (u ∷ us) w v =
          let e : k ≡ suc (length us) = omega (arith, w.count) in
          rw (e, first_read N small u us s from m w.modes w.stand, first_read N small u us z from m v.modes v.stand) refl

module _ (r : Rules) where
  open r use {Box, Reading, children, form, n, K, N}

  -- where lengths are told the other file is as long
  abbrev pub AsLong : List ℕ → List ℕ → Type 0
  AsLong s z = tells form ≡ true → length z ≡ length s

  -- a tile was found whose k modes stand in s from `from` up to `end`, and so it is in every list that agrees where was read
  pub record Reach (look : List ℕ → Found) (seen : List Span) (s : List ℕ) (at from k : ℕ) : Type 0 where
    pub modes : List ℕ
    pub end : ℕ
    pub are : modes_at N k s from ≡ read modes end
    pub order : (at ≤ from) × (from ≤ end)
    pub some : 1 ≤ k
    pub inside : Every (λ p. p.to ≤ end) seen
    pub same : (z : List ℕ) → AsLong s z → Every (Agreed s z) seen → (look z ≡ Ok (from, k)) × (modes_at N k z from ≡ read modes end)

  -- the same, looked at from before, where the bytes between are read
  back_to : {look see : List ℕ → Found} (more : List Span) {seen all : List Span} {s : List ℕ} {at m from k : ℕ} → all ≡ more ++ seen → at ≤ m → Every (λ p. p.to ≤ m) more
      → ((z : List ℕ) → AsLong s z → Every (Agreed s z) more → see z ≡ look z) → Reach look seen s m from k → Reach see all s at from k
  back_to more {seen = seen} {all = all} {s = s} {m = m} q l i h w = record {
    modes = w.modes;
    end = w.end;
    are = w.are;
    order = omega (arith, w.order);
    some = w.some;
    inside = rw q (every_append (λ p. p.to ≤ w.end) more seen (every_map (λ p. p.to ≤ m) (λ p. p.to ≤ w.end) (λ p o. omega (arith, o, w.order)) more i) w.inside);
    same = λ z a e.
        let v = every-parts (Agreed s z) more seen (rw q at e) in
        let k = w.same z a v.1 in
        (h z a v.0 ∙ k.0, k.1);
  }

  module _ (sizes : Sizes r) where
    walk_same : (judge : Box → List ℕ → Tried) (d : ℕ) (b : Box) (i m : ℕ) (s z : List ℕ) → walk r judge d s i b ≡ Ok m → m ≤ length z → Same s z i m
        → walk r judge d z i b ≡ Ok m
    walk_same judge d b i m s z q l a =
        let w = walk-stands r judge d s i b m q in
        walk-reads r sizes judge w.tree d z i b m w.over w.fits (stand-same s z (layout (tells form) w.tree) i m l a w.stand)

    pub header-same : (s z : List ℕ) (at : ℕ) → header form n s ≡ Ok at → Agreed s z (span 0 at) → header form n z ≡ Ok at
    header-same s z at q a =
        header_read form n sizes.forms sizes.dimensions z at (stand-same s z (bytes_of form ++ bytes_of n) 0 at a.0 a.1 (header-stands form n s at q))

    -- a child that was passed, by a length or by a walk
    pass-order : (told : Bool) (d : ℕ) (s : List ℕ) (ls : List Length) (at : ℕ) (b : Box) (m : ℕ)
        → pass_by told (λ p c. walk r (λ _ _. Works) d s p c) ls at b ≡ Ok m → (at ≤ m) × Every (λ p. p.to ≤ m) (pass_spans told at m)
    unfolding E.Every
    pass-order false d s ls at b m e = (omega (arith, (walk-stands r (λ _ _. Works) d s at b m e).stand.end), (omega arith, tt))
    pass-order true d s [] at b m e = let q : m ≡ at = cc in (omega (arith, q), tt)
    pass-order true d s (l ∷ ls) at b m e = let q : m ≡ at + l.size = cc in (omega (arith, q), tt)

    pass_same : (told : Bool) (d : ℕ) (s z : List ℕ) (ls : List Length) (at : ℕ) (b : Box) (m : ℕ)
        → pass_by told (λ p c. walk r (λ _ _. Works) d s p c) ls at b ≡ Ok m → Every (Agreed s z) (pass_spans told at m)
        → pass_by told (λ p c. walk r (λ _ _. Works) d z p c) ls at b ≡ Ok m
    unfolding E.Every
    pass_same false d s z ls at b m e a = walk_same (λ _ _. Works) d b at m s z e a.0.0 a.0.1
    pass_same true d s z [] at b m e a = e
    pass_same true d s z (l ∷ ls) at b m e a = e

    module _ (x : Reading) where
      tile-reach : (d : ℕ) (s : List ℕ) (at : ℕ) (b : Box) (size next from k : ℕ) → number_at s at ≡ Some (size, next) → 1 ≤ size → size ≤ K
          → tile_found (modes_at N size s next) next size ≡ Ok (from, k) → Reach (λ z. find r d z at b x) (tile_spans at (modes_at N size s next)) s at from k
      unfolding E.Every
      tile-reach d s at b size next from k q l h = go (modes_at N size s next) refl
        where
          go : (m : Read (List ℕ)) → modes_at N size s next ≡ m → tile_found m next size ≡ Ok (from, k) → Reach (λ z. find r d z at b x) (tile_spans at m) s at from k
          go (refused e) w p = absurd (refused-tile p)
          go (read us m) w p =
              let a : from ≡ next = sym (ok-first p) in
              let c : k ≡ size = sym (ok-second p) in
              let o = (was size at next s q).1.end in
              let g = (modes-stand N size s next us m w).stand.end in
              rw (a, c) (record {
                modes = us;
                end = m;
                are = w;
                order = omega arith;
                some = l;
                inside = (omega arith, tt);
                same = λ z f t.
                    let there = t.0.0 in
                    let v = modes-same s z N sizes.modes size next m us there (λ j b h. t.0.1 j (omega arith) h) w in
                    (find-tile r x d z at b size next (number_same s z size at next (omega arith) (λ j b h. t.0.1 j b (omega arith)) q) l h ∙ rw v refl, v);
              })

      among-reach : (d : ℕ) (s : List ℕ) (node from k : ℕ)
          → ((at : ℕ) (b : Box) → find r d s at b x ≡ Ok (from, k) → Reach (λ z. find r d z at b x) (spans r d s at b x) s at from k)
          → (bs : List Box) (ls : List Length) (at : ℕ) → look_among r x d s node bs ls at ≡ Ok (from, k)
          → Reach (λ z. look_among r x d z node bs ls at) (spans_among r x d s bs ls at) s at from k
      unfolding among among_spans E.Every
      among-reach d s node from k ih [] ls at e = absurd (refused-tile e)
      among-reach d s node from k ih (b ∷ bs) ls at e = go (holds r b x) refl e (λ m q. among-reach d s node from k ih bs (C.behind ls) m q)
        where
          go : (c : Bool) → holds r b x ≡ c
              → choose c (λ _. find r d s at b x) (λ _. on_walk (pass_over r d s ls at b) Err λ m. look_among r x d s node bs (C.behind ls) m) ≡ Ok (from, k)
              → ((m : ℕ) → look_among r x d s node bs (C.behind ls) m ≡ Ok (from, k)
              → Reach (λ z. look_among r x d z node bs (C.behind ls) m) (spans_among r x d s bs (C.behind ls) m) s m from k)
              → Reach (λ z. look_among r x d z node (b ∷ bs) ls at) (spans_among r x d s (b ∷ bs) ls at) s at from k
          go true c e h = back_to [] (rw c refl) (omega arith) tt (λ z a t. rw c refl) (ih at b e)
          go false c e h =
              let w = walk-went (pass_over r d s ls at b) Err (λ m. look_among r x d s node bs (C.behind ls) m) (λ _. refused-tile) e in
              on w.0 w.1 (h w.0 w.2)
            where
              on : (m : ℕ) → pass_over r d s ls at b ≡ Ok m → Reach (λ z. look_among r x d z node bs (C.behind ls) m) (spans_among r x d s bs (C.behind ls) m) s m from k
                  → Reach (λ z. look_among r x d z node (b ∷ bs) ls at) (spans_among r x d s (b ∷ bs) ls at) s at from k
              on m q w =
                  let o = pass-order (tells form) d s ls at b m q in
                  back_to (pass_spans (tells form) at m) (rw (c, q) refl) o.0 o.1 (λ z a t. rw (c, pass_same (tells form) d s z ls at b m q t) refl) w

      -- the lengths were read, and none points behind the file
      pub look-went : (d : ℕ) (s : List ℕ) (node : ℕ) (bs : List Box) (at from k : ℕ) → look_by r x d s node bs at ≡ Ok (from, k)
          → (ls : List Length) × (first : ℕ) × (lengths_by (tells form) bs s at ≡ read ls first) × (past_file (length s) ls first ≡ none)
          × (look_among r x d s node bs ls first ≡ Ok (from, k))
      look-went d s node bs at from k e =
          let w = read-went (lengths_by (tells form) bs s at) Err
          (λ ls first. unless_past (past_file (length s) ls first) (λ place. Err (bad_table place)) λ _. look_among r x d s node bs ls first) (λ _. refused-tile) e in
          let v = go w.0 w.1 (past_file (length s) w.0 w.1) refl w.3 in
          (w.0, w.1, w.2, v.0, v.1)
        where
          go : (ls : List Length) (first : ℕ) (o : Option ℕ) → past_file (length s) ls first ≡ o
              → unless_past o (λ place. Err (bad_table place)) (λ _. look_among r x d s node bs ls first) ≡ Ok (from, k)
              → (past_file (length s) ls first ≡ none) × (look_among r x d s node bs ls first ≡ Ok (from, k))
          go ls first none q e = (q, e)
          go ls first (O.some place) q e = absurd (refused-tile e)

      split-reach : (d : ℕ) (s : List ℕ) (at : ℕ) (b : Box) (next from k : ℕ) → number_at s at ≡ Some (0, next)
          → ((bs : List Box) (ls : List Length) (first : ℕ) → look_among r x d s at bs ls first ≡ Ok (from, k)
          → Reach (λ z. look_among r x d z at bs ls first) (spans_among r x d s bs ls first) s first from k)
          → split_at (children b) (Err (bad_table at)) (λ cs. look_by r x d s at cs next) ≡ Ok (from, k)
          → Reach (λ z. find r (suc d) z at b x) (spans r (suc d) s at b x) s at from k
      unfolding spans E.Every
      split-reach d s at b next from k q ih = go (children b) refl
        where
          go : (bs : List Box) → children b ≡ bs → split_at bs (Err (bad_table at)) (λ cs. look_by r x d s at cs next) ≡ Ok (from, k)
              → Reach (λ z. find r (suc d) z at b x) (spans r (suc d) s at b x) s at from k
          go [] w e = absurd (refused-tile e)
          go (c ∷ cs) w e =
              let bs = c ∷ cs in
              let v = look-went d s at bs next from k e in
              let ls = v.0 in
              let first = v.1 in
              let o = (was 0 at next s q).1.end in
              let g = (lengths-stand (lengths_count (tells form) (length bs)) s next ls first (sym (lengths-by (tells form) bs s next) ∙ v.2)).stand.end in
              let some : children b ≡ [] → ⊥ = λ y. never cc in
              back_to (span at first ∷ []) (rw (q, w, v.2) refl) (omega arith) (omega arith, tt)
              (λ z a t.
              let there = t.0.0 in
              let number = number_same s z 0 at next (omega arith) (λ j b h. t.0.1 j b (omega arith)) q in
              let lengths = by-same s z (tells form) bs next first ls there (λ j b h. t.0.1 j (omega arith) h) v.2 in
              find-split r x (suc d) z at b next d number refl some ∙ rw (w, lengths, past_same s z (tells form) bs next first ls a v.2 v.3) refl)
              (ih bs ls first v.4)

      pub find-reach : (d : ℕ) (s : List ℕ) (at : ℕ) (b : Box) (from k : ℕ) → find r d s at b x ≡ Ok (from, k)
          → Reach (λ z. find r d z at b x) (spans r d s at b x) s at from k
      unfolding find
      find-reach zero s at b from k e =
          go (node-was K s at Err (λ _. Err (bad_table at)) (λ k m. tile_found (modes_at N k s m) m k) (λ _. refused-tile) e)
        where
          go : NodeWas K s at (λ _. Err (bad_table at)) (λ k m. tile_found (modes_at N k s m) m k) (Ok (from, k))
              → Reach (λ z. find r zero z at b x) (spans r zero s at b x) s at from k
          go (was-split m q w) = absurd (refused-tile w)
          go (was-tile size m q l h w) = rw (spans-tile r x zero s at b size m q l h) (tile-reach zero s at b size m from k q l h w)
      find-reach (suc d) s at b from k e =
          go (λ m c q. find-reach d s m c from k q)
          (node-was K s at Err (λ m. split_at (children b) (Err (bad_table at)) λ cs. look_by r x d s at cs m)
          (λ k m. tile_found (modes_at N k s m) m k) (λ _. refused-tile) e)
        where
          go : ((m : ℕ) (c : Box) → find r d s m c x ≡ Ok (from, k) → Reach (λ z. find r d z m c x) (spans r d s m c x) s m from k)
              → NodeWas K s at (λ m. split_at (children b) (Err (bad_table at)) λ cs. look_by r x d s at cs m)
              (λ k m. tile_found (modes_at N k s m) m k) (Ok (from, k))
              → Reach (λ z. find r (suc d) z at b x) (spans r (suc d) s at b x) s at from k
          go ih (was-split m q w) = split-reach d s at b m from k q (λ bs ls first v. among-reach d s at from k ih bs ls first v) w
          go ih (was-tile size m q l h w) = rw (spans-tile r x (suc d) s at b size m q l h) (tile-reach (suc d) s at b size m from k q l h w)

-- ---- S8, second half

-- modes that were read are in the file
modes-inside : (N k : ℕ) (s : List ℕ) (from : ℕ) (us : List ℕ) (end : ℕ) → 1 ≤ k → modes_at N k s from ≡ read us end → end ≤ length s
unfolding modes_bytes
modes-inside N k s from us end l e = go us (modes-stand N k s from us end e)
  where
    go : (us : List ℕ) → ModesStand N k s from us end → end ≤ length s
    go [] w = absurd (omega (arith, w.count))
    go (u ∷ us) w = stand-within s (modes_bytes (u ∷ us)) from end w.stand (omega (arith, bytes-some u, length-append (bytes_of u) (modes_bytes us)))

-- what a call, idle, reads of a table, its header being read up to `at`
abbrev pub read_of : (r : Rules) → r.Reading → List ℕ → ℕ → List Span
read_of r x s at = span 0 at ∷ spans r r.D s at r.root x

-- A call, idle, that finds a tile: where its modes end, and that nothing but that is read; where lengths are told, of a table of that length.
pub record Seen (r : Rules) (x : r.Reading) (s : List ℕ) (at from k : ℕ) : Type 0 where
  pub modes : List ℕ
  pub end : ℕ
  pub are : modes_at r.N k s from ≡ read modes end
  -- all of it is before the end, and that in the file
  pub inside : Every (λ p. p.to ≤ end) (read_of r x s at)
  pub in-file : end ≤ length s
  pub head : (z : List ℕ) → Every (Agreed s z) (read_of r x s at) → header r.form r.n z ≡ Ok at
  pub same : (z : List ℕ) → AsLong r s z → Every (Agreed s z) (read_of r x s at) → call r z idle x ≡ call r s idle x

-- as bytes
pub seen_bytes : (r : Rules) (x : r.Reading) (s : List ℕ) (at from k : ℕ) (w : Seen r x s at from k) (z : List ℕ) → w.end ≤ length z
    → ((i : ℕ) → In (read_of r x s at) i → get_or z i 0 ≡ get_or s i 0) → Every (Agreed s z) (read_of r x s at)
seen_bytes r x s at from k w z l a = agreed-in s z w.end l (read_of r x s at) w.inside a

-- lists that agree up to the end
pub seen_front : (r : Rules) (x : r.Reading) (s : List ℕ) (at from k : ℕ) (w : Seen r x s at from k) (z : List ℕ) → take w.end s ≡ take w.end z
    → Every (Agreed s z) (read_of r x s at)
seen_front r x s at from k w z t =
    every_map (λ p. p.to ≤ w.end) (Agreed s z) (λ p l. taken-same s z w.end w.in-file t p l) (read_of r x s at) w.inside

-- where none are told, of a table of any length
pub untold-long : (r : Rules) → tells r.form ≡ false → (s z : List ℕ) → AsLong r s z
untold-long r plain s z told = never (sym plain ∙ told)

pub seen : (r : Rules) → Sizes r → (x : r.Reading) (s : List ℕ) (at from k : ℕ) → header r.form r.n s ≡ Ok at
    → find r r.D s at r.root x ≡ Ok (from, k) → Seen r x s at from k
unfolding call E.Every
seen r sizes x s at from k h e =
    let w = find-reach r sizes x r.D s at r.root from k e in
    record {
      modes = w.modes;
      end = w.end;
      are = w.are;
      inside = (omega (arith, w.order), w.inside);
      in-file = modes-inside r.N k s from w.modes w.end w.some w.are;
      head = λ z t. header-same r sizes s z at h t.0;
      same = λ z a t.
          let v = w.same z a t.1 in
          simp (h, header-same r sizes s z at h t.0, e, v.0, mode-same s z r.N sizes.modes w.modes from k w.end w.are v.1);
    }
