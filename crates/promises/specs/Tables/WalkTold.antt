-- Which numbers are told of a table (document 01, "What each number says"), and where: 1 and 6 of what is read, lengths too, 2 of its form, and of a tile's images 7 and 8
-- with a step that the tile has. Places lie in the table or just behind it. Of any bytes, over any rules, and any judge of a tile; what a judge tells is
-- a parameter. Relies on S5 (page Patterns) for the steps of the tile rule. What is told of a plant and a table is page Told.
use Prim.Native.Nat.{ℕ, zero, suc, ◌+◌, ◌≤◌}
use Rattle.std.specs.Prelude.{◌≡◌, Bool, leb, ltb, eqb, Some, None, Ok, Err}
use Rattle.std.proofs.Math.Path.{refl}
use Rattle.std.proofs.Common.{sym, ap, ◌∙◌, arith, leb-true}
use Rattle.std.proofs.Math.Bool.{true, false}
use mathlib.Core.List.{List, [], ◌∷◌}
use Rattle.std.proofs.Math.Option.{Option, none}
use Rattle.std.proofs.Math.Option as O
use Rattle.std.proofs.Math.ListN.{length}
use Rattle.std.proofs.lemmas.List.{length-map}
use Rattle.laws.specs.Every as E
use Rattle.laws.specs.Every.{Every}
use Rattle.laws.specs.Guards.{guard, choose}
use Rattle.laws.specs.Lists.{first_false}
use Rattle.laws.specs.Standing.{stand-within}
use Rattle.laws.specs.Tests.{never, guard_passed}
use Rattle.meaning.specs.Answers.{Number, Walk, Found}
use Rattle.meaning.specs.declared.Refusal.{Refusal}
use Rattle.meaning.specs.declared.Tried.{Tried}
use Rattle.meaning.specs.declared.Tried.TheVariants.{Works, Leaves, Misses}
use Rattle.meaning.specs.Refusals.{broken, bad_table}
use Rattle.meaning.specs.Numbers.{number_at, bytes_of}
use Rattle.meaning.specs.Files.{Read, read, refused, before}
use Rattle.meaning.specs.Rules.{Rules, rule, holds}
use Rattle.meaning.specs.Trees.{tells}
use Rattle.meaning.specs.Verdicts as W
use Rattle.meaning.specs.Verdicts.{Length, length_at, on_number, on_walk, on_read, on_tried, on_modes, lengths_at, lengths_by, each, split_at, on_size, modes_at, node_at, walk, header}
use Rattle.meaning.specs.Control as C
use Rattle.meaning.specs.Control.{tile_found, past_file, unless_past, pass_by, among, find}
use Rattle.promises.specs.Files.Bytes.{bytes-some}
use Rattle.promises.specs.Sheets.Faults.{ReadTells, before-tells}
use Rattle.promises.specs.Files.Firsts.{false-inside}
use Rattle.promises.specs.Tables.Layouts.{modes-stand}
use Rattle.promises.specs.Files.Numbers.{was}
use Rattle.promises.specs.Tables.Patterns as Q
use Rattle.promises.specs.Tables.Patterns.{images, staying, leaves-exactly, misses-exactly}
use Rattle.promises.specs.Tables.SplitLengths.{lengths-stand}
use Rattle.promises.specs.Tables.Walking.{lengths_count, lengths-by, each_by, pass_over, look_among, look_by}
use Rattle.promises.specs.Files.Telling.{one_of, Telling, guard-keeps}

-- ---- the walk over a table's bytes, whatever holds of both ways of each test

module _ {A : Type 0} (P : A → Type 0) where
  split-keeps : {B : Type 0} {otherwise : A} (bs : List B) (rest : List B → A) → P otherwise → ((cs : List B) → P (rest cs)) → P (split_at bs otherwise rest)
  split-keeps [] rest a b = a
  split-keeps (c ∷ cs) rest a b = b (c ∷ cs)

  -- a number that was read ends in the file
  pub number-keeps : {otherwise : A} (s : List ℕ) (at : ℕ) (rest : ℕ → ℕ → A) → P otherwise → ((v next : ℕ) → next ≤ length s → P (rest v next))
      → P (on_number (number_at s at) otherwise rest)
  number-keeps {otherwise} s at rest a b = go (number_at s at) refl
    where
      go : (n : Number) → number_at s at ≡ n → P (on_number n otherwise rest)
      go None q = a
      go (Some (v, next)) q = b v next (stand-within s (bytes_of v) at next (was v at next s q).1 (bytes-some v))

  read_keeps : {B : Type 0} (o : Read B) (refuse : Refusal → A) (rest : B → ℕ → A) → ((e : Refusal) → o ≡ refused e → P (refuse e))
      → ((b : B) (m : ℕ) → o ≡ read b m → P (rest b m)) → P (on_read o refuse rest)
  read_keeps (refused e) refuse rest a b = a e refl
  read_keeps (read c m) refuse rest a b = b c m refl

module _ (numbers : List ℕ) (size : ℕ) where
  -- goes on in the file, or is refused so; is a tile, or is refused so
  abbrev pub WalkTells : Walk → Type 0
  WalkTells (Ok m) = m ≤ size
  WalkTells (Err e) = Telling numbers size e

  abbrev pub FoundTells : Found → Type 0
  FoundTells (Ok (from, k)) = Unit {0}
  FoundTells (Err e) = Telling numbers size e

  pub walk-keeps : {A : Type 0} (P : A → Type 0) (w : Walk) (refuse : Refusal → A) (rest : ℕ → A) → WalkTells w
      → ((e : Refusal) → Telling numbers size e → P (refuse e)) → ((m : ℕ) → m ≤ size → P (rest m)) → P (on_walk w refuse rest)
  walk-keeps P (Err e) refuse rest h a b = a e h
  walk-keeps P (Ok m) refuse rest h a b = b m h

  -- a length that its child has not is told at its place
  each_tells : one_of numbers 6 ≡ true → {B : Type 0} (one : ℕ → B → Walk) → ((at : ℕ) (b : B) → at ≤ size → WalkTells (one at b)) → (bs : List B) (ls : List Length)
      → Every (λ l. l.place ≤ size) ls → (at : ℕ) → at ≤ size → WalkTells (each one bs ls at)
  unfolding W.each E.Every
  each_tells six one h [] [] i at l = l
  each_tells six one h [] (k ∷ ks) i at l = l
  each_tells six one h (b ∷ bs) [] i at l =
      walk-keeps WalkTells (one at b) Err (λ m. each one bs [] m) (h at b l) (λ e t. t) (λ m k. each_tells six one h bs [] i m k)
  each_tells six one h (b ∷ bs) (k ∷ ks) i at l =
      walk-keeps WalkTells (one at b) Err (λ m. guard (eqb m (at + k.size)) (Err (bad_table k.place)) λ _. each one bs ks m) (h at b l) (λ e t. t)
      (λ m in-file. guard-keeps WalkTells (eqb m (at + k.size)) (λ _. each one bs ks m) (λ _. record { number = six; place = i.0; step = refl })
      (λ _. each_tells six one h bs ks i.1 m in-file))

-- 1 and 6 of what is read
module _ (numbers s : List ℕ) (one : one_of numbers 1 ≡ true) (six : one_of numbers 6 ≡ true) where
  abbrev Tells : Refusal → Type 0
  Tells = Telling numbers (length s)

  broken-told : (at : ℕ) → at ≤ length s → Tells (broken at)
  broken-told at l = record { number = one; place = l; step = refl }

  pub table-told : (at : ℕ) → at ≤ length s → Tells (bad_table at)
  table-told at l = record { number = six; place = l; step = refl }

  modes-tell : (N k at : ℕ) → at ≤ length s → ReadTells numbers (length s) (modes_at N k s at)
  unfolding W.modes_at
  modes-tell N zero at l = l
  modes-tell N (suc k) at l =
      number-keeps (ReadTells numbers (length s)) s at (λ u next. guard (ltb u N) (refused (bad_table at)) λ _. before u (modes_at N k s next)) (broken-told at l)
      (λ u next m. guard-keeps (ReadTells numbers (length s)) (ltb u N) (λ _. before u (modes_at N k s next)) (λ _. table-told at l)
      (λ _. before-tells numbers (length s) u (modes_at N k s next) (modes-tell N k next m)))

  -- lengths: 1 besides, and where they stand
  lengths-tell : (k at : ℕ) → at ≤ length s → ReadTells numbers (length s) (lengths_at k s at)
  unfolding W.lengths_at
  lengths-tell zero at l = l
  lengths-tell (suc k) at l =
      number-keeps (ReadTells numbers (length s)) s at (λ size next. before (length_at at size) (lengths_at k s next)) (broken-told at l)
      (λ size next m. before-tells numbers (length s) (length_at at size) (lengths_at k s next) (lengths-tell k next m))

  abbrev Inside : List Length → Type 0
  Inside ls = Every (λ l. l.place ≤ length s) ls

  by_tells : {A B : Type 0} (P : A → Type 0) (told : Bool) (bs : List B) (at : ℕ) (refuse : Refusal → A) (rest : List Length → ℕ → A) → at ≤ length s
      → ((e : Refusal) → Tells e → P (refuse e))
      → ((ls : List Length) (first : ℕ) → lengths_by told bs s at ≡ read ls first → Inside ls → first ≤ length s → P (rest ls first))
      → P (on_read (lengths_by told bs s at) refuse rest)
  by_tells P told bs at refuse rest l a b =
      let is = lengths-by told bs s at in
      let t = lengths-tell (lengths_count told (length bs)) at l in
      read_keeps P (lengths_by told bs s at) refuse rest
      (λ e q. a e (rw (sym is ∙ q) at t))
      (λ ls first q. b ls first q (lengths-stand (lengths_count told (length bs)) s at ls first (sym is ∙ q)).inside (rw (sym is ∙ q) at t))

  node-keeps : {A : Type 0} (P : A → Type 0) (K at : ℕ) (refuse : Refusal → A) (split : ℕ → A) (tile : ℕ → ℕ → A) → at ≤ length s
      → ((e : Refusal) → Tells e → P (refuse e)) → ((next : ℕ) → next ≤ length s → P (split next))
      → ((k next : ℕ) → 1 ≤ k → k ≤ K → next ≤ length s → P (tile k next)) → P (node_at K s at refuse split tile)
  node-keeps P K at refuse split tile l a b c =
      number-keeps P s at (λ k next. on_size K k (refuse (bad_table at)) (split next) (λ k. tile k next)) (a (broken at) (broken-told at l)) size
    where
      size : (k next : ℕ) → next ≤ length s → P (on_size K k (refuse (bad_table at)) (split next) (λ k. tile k next))
      size zero next m = b next m
      size (suc k) next m =
          guard-keeps P (leb (suc k) K) (λ _. tile (suc k) next) (λ _. a (bad_table at) (table-told at l))
          (λ e. c (suc k) next (omega arith) (leb-true (suc k) K e) m)

  -- the header: 2 besides
  pub header-tells : one_of numbers 2 ≡ true → (form n : ℕ) → WalkTells numbers (length s) (header form n s)
  unfolding W.header
  header-tells two form n =
      number-keeps (WalkTells numbers (length s)) s 0 _ (broken-told 0 (omega arith))
      (λ told at l. guard-keeps (WalkTells numbers (length s)) (eqb told form) _ (λ _. record { number = two; place = refl; step = refl })
      (λ _. number-keeps (WalkTells numbers (length s)) s at _ (broken-told at l)
      (λ m next k. guard-keeps (WalkTells numbers (length s)) (eqb m n) _ (λ _. table-told at l) (λ _. k))))

  -- a tree
  module _ (r : Rules) where
    open r use {Box, Reading, children, form, K, N}

    -- and what the judge of a tile tells at its first byte
    module _ (judge : Box → List ℕ → Tried)
        (judged : (b : Box) (us : List ℕ) (at next : ℕ) → 1 ≤ length us → length us ≤ K → at ≤ length s → next ≤ length s
        → WalkTells numbers (length s) (on_tried (judge b us) at next)) where
      tile-tells : (b : Box) (k at next : ℕ) → 1 ≤ k → k ≤ K → at ≤ length s → next ≤ length s → WalkTells numbers (length s) (on_modes (modes_at N k s next) at (judge b))
      tile-tells b k at next some few l m = go (modes_at N k s next) refl (modes-tell N k next m)
        where
          go : (t : Read (List ℕ)) → modes_at N k s next ≡ t → ReadTells numbers (length s) t → WalkTells numbers (length s) (on_modes t at (judge b))
          go (refused e) q h = h
          go (read us end) q h = let c = (modes-stand N k s next us end q).count in judged b us at end (omega arith) (omega arith) l h

      pub walk-tells : (d at : ℕ) (b : Box) → at ≤ length s → WalkTells numbers (length s) (walk r judge d s at b)
      unfolding W.walk
      walk-tells zero at b l =
          node-keeps (WalkTells numbers (length s)) K at Err (λ next. Err (bad_table at)) (λ k next. on_modes (modes_at N k s next) at (judge b)) l
          (λ e t. t) (λ next m. table-told at l) (λ k next some few m. tile-tells b k at next some few l m)
      walk-tells (suc d) at b l =
          node-keeps (WalkTells numbers (length s)) K at Err
          (λ next. split_at (children b) (Err (bad_table at)) λ cs. each_by r judge d s cs next) (λ k next. on_modes (modes_at N k s next) at (judge b)) l
          (λ e t. t)
          (λ next m. split-keeps (WalkTells numbers (length s)) (children b) (λ cs. each_by r judge d s cs next) (table-told at l)
          (λ cs. by_tells (WalkTells numbers (length s)) (tells form) cs next Err (λ ls first. each (λ p c. walk r judge d s p c) cs ls first) m (λ e t. t)
          (λ ls first q i k. each_tells numbers (length s) six (λ p c. walk r judge d s p c) (λ p c k. walk-tells d p c k) cs ls i first k)))
          (λ k next some few m. tile-tells b k at next some few l m)

    -- passed tiles are told 1 and 6 alone
    pass-tells : (d at : ℕ) (b : Box) → at ≤ length s → WalkTells numbers (length s) (walk r (λ _ _. Works) d s at b)
    pass-tells = walk-tells (λ _ _. Works) (λ b us at next some few l m. m)

    -- the lengths to come point at no place behind the file; where none are told there are none
    abbrev Ahead : Bool → List Length → ℕ → Type 0
    Ahead false ls at = ls ≡ []
    Ahead true ls at = past_file (length s) ls at ≡ none

    ahead-from : (told : Bool) (bs : List Box) (ls : List Length) (at first : ℕ) → lengths_by told bs s at ≡ read ls first → past_file (length s) ls first ≡ none → Ahead told ls first
    ahead-from false bs ls at first q p = cc
    ahead-from true bs ls at first q p = p

    past-place : (ls : List Length) (at place : ℕ) → Inside ls → past_file (length s) ls at ≡ O.some place → place ≤ length s
    unfolding C.past_file E.Every
    past-place [] at place i q = never cc
    past-place (l ∷ ls) at place i q = go (leb (at + l.size) (length s)) (λ e. past-place ls (at + l.size) place i.1 e) q
      where
        go : (t : Bool) → (past_file (length s) ls (at + l.size) ≡ O.some place → place ≤ length s) → guard t (O.some l.place) (λ _. past_file (length s) ls (at + l.size)) ≡ O.some place → place ≤ length s
        go true later e = later e
        go false later e = let z : place ≡ l.place = cc in rw z i.0

    -- a child was passed, by a length or by a walk
    abbrev PassTells : Bool → List Length → Walk → Type 0
    PassTells told ls (Ok m) = (m ≤ length s) × Ahead told (C.behind ls) m
    PassTells told ls (Err e) = Tells e

    by-pass : (told : Bool) (over : ℕ → Box → Walk) (ls : List Length) (at : ℕ) (b : Box) → at ≤ length s → Ahead told ls at
        → WalkTells numbers (length s) (over at b) → PassTells told ls (pass_by told over ls at b)
    unfolding C.past_file
    by-pass false over ls at b l h w = go (over at b) w
      where
        go : (o : Walk) → WalkTells numbers (length s) o → PassTells false ls o
        go (Ok m) k = (k, rw h refl)
        go (Err e) t = t
    by-pass true over [] at b l h w = (l, refl)
    by-pass true over (k ∷ ks) at b l h w =
        let g = guard_passed (leb (at + k.size) (length s)) (λ _. past_file (length s) ks (at + k.size)) (λ e. never cc) h in
        (leb-true (at + k.size) (length s) g.0, g.1)

    pass-keeps : (told : Bool) (ls : List Length) (o : Walk) (rest : ℕ → Found) → PassTells told ls o
        → ((m : ℕ) → m ≤ length s → Ahead told (C.behind ls) m → FoundTells numbers (length s) (rest m)) → FoundTells numbers (length s) (on_walk o Err rest)
    pass-keeps told ls (Err e) rest h a = h
    pass-keeps told ls (Ok m) rest h a = a m h.0 h.1

    module _ (x : Reading) where
      among-tells : (d : ℕ) → ((at : ℕ) (b : Box) → at ≤ length s → FoundTells numbers (length s) (find r d s at b x)) → (split : ℕ) → split ≤ length s
          → (bs : List Box) (ls : List Length) (at : ℕ) → at ≤ length s → Ahead (tells form) ls at
          → FoundTells numbers (length s) (look_among r x d s split bs ls at)
      unfolding C.among
      among-tells d ih split m [] ls at l h = table-told split m
      among-tells d ih split m (b ∷ bs) ls at l h = go (holds r b x) (λ next k j. among-tells d ih split m bs (C.behind ls) next k j)
        where
          go : (t : Bool) → ((next : ℕ) → next ≤ length s → Ahead (tells form) (C.behind ls) next → FoundTells numbers (length s) (look_among r x d s split bs (C.behind ls) next))
              → FoundTells numbers (length s)
              (choose t (λ _. find r d s at b x) λ _. on_walk (pass_over r d s ls at b) Err λ next. look_among r x d s split bs (C.behind ls) next)
          go true later = ih at b l
          go false later = pass-keeps (tells form) ls (pass_over r d s ls at b) _ (by-pass (tells form) _ ls at b l h (pass-tells d at b l)) later

      -- the lengths of a split on the way: 6 besides, of the first that points behind the file
      look-tells : (d : ℕ) → ((at : ℕ) (b : Box) → at ≤ length s → FoundTells numbers (length s) (find r d s at b x)) → (split : ℕ) → split ≤ length s
          → (bs : List Box) (at : ℕ) → at ≤ length s → FoundTells numbers (length s) (look_by r x d s split bs at)
      look-tells d ih split m bs at l =
          by_tells (FoundTells numbers (length s)) (tells form) bs at Err
          (λ ls first. unless_past (past_file (length s) ls first) (λ place. Err (bad_table place)) λ _. look_among r x d s split bs ls first) l (λ e t. t) of
        where
          of : (ls : List Length) (first : ℕ) → lengths_by (tells form) bs s at ≡ read ls first → Inside ls → first ≤ length s
              → FoundTells numbers (length s) (unless_past (past_file (length s) ls first) (λ place. Err (bad_table place)) λ _. look_among r x d s split bs ls first)
          of ls first q i k = go (past_file (length s) ls first) refl
            where
              go : (o : Option ℕ) → past_file (length s) ls first ≡ o
                  → FoundTells numbers (length s) (unless_past o (λ place. Err (bad_table place)) λ _. look_among r x d s split bs ls first)
              go none e = among-tells d ih split m bs ls first k (ahead-from (tells form) bs ls at first q e)
              go (O.some place) e = table-told place (past-place ls first place i e)

      found-tells : (k next : ℕ) → next ≤ length s → FoundTells numbers (length s) (tile_found (modes_at N k s next) next k)
      found-tells k next m = go (modes_at N k s next) (modes-tell N k next m)
        where
          go : (t : Read (List ℕ)) → ReadTells numbers (length s) t → FoundTells numbers (length s) (tile_found t next k)
          go (refused e) h = h
          go (read us end) h = tt

      pub find-tells : (d at : ℕ) (b : Box) → at ≤ length s → FoundTells numbers (length s) (find r d s at b x)
      unfolding C.find
      find-tells zero at b l =
          node-keeps (FoundTells numbers (length s)) K at Err (λ next. Err (bad_table at)) (λ k next. tile_found (modes_at N k s next) next k) l
          (λ e t. t) (λ next m. table-told at l) (λ k next some few m. found-tells k next m)
      find-tells (suc d) at b l =
          node-keeps (FoundTells numbers (length s)) K at Err
          (λ next. split_at (children b) (Err (bad_table at)) λ cs. look_by r x d s at cs next)
          (λ k next. tile_found (modes_at N k s next) next k) l (λ e t. t)
          (λ next m. split-keeps (FoundTells numbers (length s)) (children b) _ (table-told at l)
          (λ cs. look-tells d (λ p c k. find-tells d p c k) at l cs next m))
          (λ k next some few m. found-tells k next m)

-- the judge that is the tile rule: 7 and 8
images-size : (r : Rules) (k : r.Kept) (us : List ℕ) → length (images r k us) ≡ length us
unfolding Q.images
images-size r k [] = refl
images-size r k (u ∷ us) = ap suc (images-size r (r.image u k) us)

module _ (r : Rules) (numbers s : List ℕ) (seven : one_of numbers 7 ≡ true) (eight : one_of numbers 8 ≡ true) (most : r.K ≤ 6) where
  pub rule-tells : (b : r.Box) (us : List ℕ) (at next : ℕ) → 1 ≤ length us → length us ≤ r.K → at ≤ length s → next ≤ length s
      → WalkTells numbers (length s) (on_tried (rule r b us) at next)
  rule-tells b us at next some few l m = go (rule r b us) refl
    where
      go : (o : Tried) → rule r b us ≡ o → WalkTells numbers (length s) (on_tried o at next)
      go Works q = m
      go (Leaves i) q =
          let tests = staying r (r.begin b) us in
          let w = (leaves-exactly r b us i).0 q in
          let size : length tests ≡ length us = length-map (images r (r.begin b) us) _ ∙ images-size r (r.begin b) us in
          let e : i ≡ suc (first_false tests) = w.1 in
          record { number = seven; place = l; step = (omega arith, omega (arith, false-inside tests w.0)) }
      go (Misses i) q =
          let e : i ≡ length us = ((misses-exactly r b us i).0 q).2 in
          record { number = eight; place = l; step = (omega arith, omega arith) }
