-- Request 2026-01: how little a call reads where lengths are told. Of any table, accepted or not, an idle call that is answered reads at most 243 bytes: two of the header, of
-- each of D splits on the way its 0 and at most 2^n − 1 lengths of five bytes, and a tile of at most 13. Which bytes those are, and that no other counts, is page
-- Local (over bytes page Chosen). Of an accepted table it is at most 93, page LittleAccepted. Relies on page Local.
use Prim.Native.Nat.{ℕ, zero, suc, ◌+◌, ◌-◌, ◌*◌, ◌^◌, ◌≤◌, ◌<◌}
use Rattle.std.specs.Prelude.{◌≡◌, Bool, true, ℤ, Some, Ok, Err}
use Rattle.std.proofs.Math.Path.{refl}
use Rattle.std.proofs.Common.{sym, ap, ◌∙◌, arith, le_refl, length-append}
use Rattle.std.proofs.Math.Bool.{false}
use mathlib.Core.List.{List, [], ◌∷◌, ◌++◌}
use Rattle.std.proofs.Math.Nat.{mul-le-mul}
use Rattle.std.proofs.Math.ListN.{length}
use Rattle.meaning.specs.Answers.{Found}
use Rattle.laws.specs.Every as E
use Rattle.laws.specs.Every.{Every}
use Rattle.laws.specs.Guards.{choose}
use Rattle.laws.specs.Tests.{never}
use Rattle.meaning.specs.declared.Refusal.{Refusal}
use Rattle.meaning.specs.declared.State.{State}
use Rattle.meaning.specs.Control as C
use Rattle.meaning.specs.Control.{tile_found, among, find}
use Rattle.meaning.specs.Files.{Read, read, refused}
use Rattle.meaning.specs.Numbers.{number_at, bytes_of}
use Rattle.meaning.specs.Refusals.{bad_table}
use Rattle.meaning.specs.Rules.{Rules, holds}
use Rattle.meaning.specs.Plants.{root_of}
use Rattle.meaning.specs.Tables.{depth_by, form_of, rules_of}
use Rattle.meaning.specs.Trees.{modes_bytes, tells}
use Rattle.meaning.specs.Verdicts.{Length, on_walk, split_at, modes_at}
use Rattle.promises.specs.Files.Judged.{judged-sound}
use Rattle.promises.specs.Files.Lengths.{short}
use Rattle.promises.specs.Files.Numbers.{was}
use Rattle.promises.specs.Files.SameBytes.{Span}
use Rattle.promises.specs.Tables.Chosen.{Unread}
use Rattle.promises.specs.Tables.Layouts.{modes-stand}
use Rattle.promises.specs.Tables.Local as L
use Rattle.promises.specs.Tables.Local.{tile_spans, pass_spans, spans, spans_among, spans-tile, spans-split, look-went, read_of}
use Rattle.promises.specs.Tables.Laws.{Sizes}
use Rattle.promises.specs.Tables.PlantRules.{root-sides, sizes}
use Rattle.promises.specs.Tables.SplitLengths as S
use Rattle.promises.specs.Tables.SplitLengths.{sizes_bytes, lengths-stand}
use Rattle.promises.specs.Tables.TableForms.{form-known}
use Rattle.promises.specs.Tables.TreeLengths.{children_most, tile_bytes, tile-most, brief, sided-few, sided-same, told-sides}
use Rattle.promises.specs.Tables.Walking.{walk-went, NodeWas, was-split, was-tile, node-was, lengths_count, lengths-by, pass_over, look_among, look_by}

-- how many bytes some spans have
unfoldable pub total : List Span → ℕ
total [] = 0
total (p ∷ ps) = (p.to - p.from) + total ps

-- a child that has a length is passed unread
pub passed-unread : (told : Bool) → told ≡ true → (at next : ℕ) (ps : List Span) → total (pass_spans told at next ++ ps) ≡ total ps
passed-unread true e at next ps = refl
passed-unread false e at next ps = never e

-- lengths of at most five bytes each
sizes-short : (ls : List Length) → Every (λ l. l.size < 2 ^ 35) ls → length (sizes_bytes ls) ≤ length ls * 5
unfolding S.sizes_bytes E.Every
sizes-short [] h = omega arith
sizes-short (l ∷ ls) h = omega (arith, length-append (bytes_of l.size) (sizes_bytes ls), short 4 9 l.size h.0, sizes-short ls h.1)

refused-tile : {e : Refusal} {from k : ℕ} → ◌≡◌ {A = Found} (Err e) (Ok (from, k)) → ⊥
refused-tile e = never cc

-- ---- over any rules that tell lengths: Sized is kept by the children and bounds their number by c, and no tile that is read has more than m bytes

module _ (r : Rules) (sizes : Sizes r) (told : tells r.form ≡ true) (c m : ℕ) (Sized : r.Box → Type 0)
    (few : (b : r.Box) → Sized b → length (r.children b) ≤ c) (same : (b : r.Box) → Sized b → Every Sized (r.children b))
    (brief : (s : List ℕ) (at k next : ℕ) (us : List ℕ) (end : ℕ) → number_at s at ≡ Some (k, next) → 1 ≤ k → k ≤ r.K → modes_at r.N k s next ≡ read us end → end ≤ at + m)
    (x : r.Reading) where
  open r use {Box, children, form, K, N}

  -- of a split its 0 and its lengths
  abbrev split_most : ℕ
  split_most = 1 + (c - 1) * 5

  abbrev up_to : ℕ → ℕ
  up_to d = d * split_most + m

  tile-little : (d : ℕ) (s : List ℕ) (at : ℕ) (b : Box) (size next from k : ℕ) → number_at s at ≡ Some (size, next) → 1 ≤ size → size ≤ K
      → tile_found (modes_at N size s next) next size ≡ Ok (from, k) → total (spans r d s at b x) ≤ up_to d
  unfolding total
  tile-little d s at b size next from k q l h e = rw (spans-tile r x d s at b size next q l h) (go (modes_at N size s next) refl e)
    where
      go : (o : Read (List ℕ)) → modes_at N size s next ≡ o → tile_found o next size ≡ Ok (from, k) → total (tile_spans at o) ≤ up_to d
      go (refused f) w p = absurd (refused-tile p)
      go (read us end) w p = omega (arith, brief s at size next us end q l h w)

  among-little : (d bound : ℕ) (s : List ℕ) (node from k : ℕ)
      → ((at : ℕ) (b : Box) → Sized b → find r d s at b x ≡ Ok (from, k) → total (spans r d s at b x) ≤ bound)
      → (bs : List Box) (ls : List Length) (at : ℕ) → Every Sized bs → look_among r x d s node bs ls at ≡ Ok (from, k) → total (spans_among r x d s bs ls at) ≤ bound
  unfolding C.among L.among_spans E.Every
  among-little d bound s node from k ih [] ls at z e = absurd (refused-tile e)
  among-little d bound s node from k ih (b ∷ bs) ls at z e = go (holds r b x) refl e (λ m q. among-little d bound s node from k ih bs (C.behind ls) m z.1 q)
    where
      on : (next : ℕ) → holds r b x ≡ false → pass_over r d s ls at b ≡ Ok next → total (spans_among r x d s bs (C.behind ls) next) ≤ bound
          → total (spans_among r x d s (b ∷ bs) ls at) ≤ bound
      on next h q l = rw (h, q) (rw (passed-unread (tells form) told at next (spans_among r x d s bs (C.behind ls) next)) l)

      go : (t : Bool) → holds r b x ≡ t
          → choose t (λ _. find r d s at b x) (λ _. on_walk (pass_over r d s ls at b) Err λ m. look_among r x d s node bs (C.behind ls) m) ≡ Ok (from, k)
          → ((m : ℕ) → look_among r x d s node bs (C.behind ls) m ≡ Ok (from, k) → total (spans_among r x d s bs (C.behind ls) m) ≤ bound)
          → total (spans_among r x d s (b ∷ bs) ls at) ≤ bound
      go true h e later = rw h (ih at b z.0 e)
      go false h e later =
          let w = walk-went (pass_over r d s ls at b) Err (λ m. look_among r x d s node bs (C.behind ls) m) (λ _. refused-tile) e in
          on w.0 h w.1 (later w.0 w.2)

  split-little : (d : ℕ) (s : List ℕ) (at : ℕ) (b : Box) (next from k : ℕ) → Sized b → number_at s at ≡ Some (0, next)
      → ((ls : List Length) (first : ℕ) → look_among r x d s at (children b) ls first ≡ Ok (from, k) → total (spans_among r x d s (children b) ls first) ≤ up_to d)
      → split_at (children b) (Err (bad_table at)) (λ cs. look_by r x d s at cs next) ≡ Ok (from, k)
      → total (spans r (suc d) s at b x) ≤ up_to (suc d)
  unfolding total
  split-little d s at b next from k z q ih = go (children b) refl
    where
      -- of a box that has children
      some : (children b ≡ [] → ⊥) → look_by r x d s at (children b) next ≡ Ok (from, k) → total (spans r (suc d) s at b x) ≤ up_to (suc d)
      some y e =
          let v = look-went r sizes x d s at (children b) next from k e in
          let ls = v.0 in
          let first = v.1 in
          let w = lengths-stand (lengths_count (tells form) (length (children b))) s next ls first (sym (lengths-by (tells form) (children b) s next) ∙ v.2) in
          let count : lengths_count (tells form) (length (children b)) ≡ length (children b) - 1 = rw told refl in
          let l : length (children b) - 1 ≤ c - 1 = omega (arith, few b z) in
          let zero-byte : next ≡ at + length (bytes_of 0) = (was 0 at next s q).1.end in
          let one : length (bytes_of 0) ≤ 1 = short 0 9 0 (omega arith) in
          let split : first - at ≤ split_most =
          omega (arith, w.stand.end, sizes-short ls w.small, w.count, count, zero-byte, one, mul-le-mul l (le_refl 5)) in
          rw (spans-split r x d s at b next first ls q y v.2) (omega (arith, split, ih ls first v.4))

      go : (bs : List Box) → children b ≡ bs → split_at bs (Err (bad_table at)) (λ cs. look_by r x d s at cs next) ≡ Ok (from, k)
          → total (spans r (suc d) s at b x) ≤ up_to (suc d)
      go [] w e = absurd (refused-tile e)
      go (b₀ ∷ bs) w e = some (λ y. never cc) (ap (λ (cs : List Box). look_by r x d s at cs next) w ∙ e)

  pub find-little : (d : ℕ) (s : List ℕ) (at : ℕ) (b : Box) (from k : ℕ) → Sized b → find r d s at b x ≡ Ok (from, k) → total (spans r d s at b x) ≤ up_to d
  unfolding find
  find-little zero s at b from k z e =
      go (node-was K s at Err (λ _. Err (bad_table at)) (λ k m. tile_found (modes_at N k s m) m k) (λ _. refused-tile) e)
    where
      go : NodeWas K s at (λ _. Err (bad_table at)) (λ k m. tile_found (modes_at N k s m) m k) (Ok (from, k)) → total (spans r zero s at b x) ≤ up_to zero
      go (was-split m q w) = absurd (refused-tile w)
      go (was-tile size m q l h w) = tile-little zero s at b size m from k q l h w
  find-little (suc d) s at b from k z e =
      go (λ m e z q. find-little d s m e from k z q)
      (node-was K s at Err (λ m. split_at (children b) (Err (bad_table at)) λ cs. look_by r x d s at cs m)
      (λ k m. tile_found (modes_at N k s m) m k) (λ _. refused-tile) e)
    where
      go : ((m : ℕ) (e : Box) → Sized e → find r d s m e x ≡ Ok (from, k) → total (spans r d s m e x) ≤ up_to d)
          → NodeWas K s at (λ m. split_at (children b) (Err (bad_table at)) λ cs. look_by r x d s at cs m)
          (λ k m. tile_found (modes_at N k s m) m k) (Ok (from, k))
          → total (spans r (suc d) s at b x) ≤ up_to (suc d)
      go ih (was-split next q w) = split-little d s at b next from k z q (λ ls first v. among-little d (up_to d) s at from k ih (children b) ls first (same b z) v) w
      go ih (was-tile size next q l h w) = tile-little (suc d) s at b size next from k q l h w

-- ---- of a plant

-- D splits on the way, each of 2^n children: four dimensions of depth 3 have the most
by-rooms : (n d : ℕ) → 1 ≤ n → n ≤ 4 → d ≤ 6 → n * d ≤ 12 → d * (1 + (2 ^ n - 1) * 5) ≤ 228
by-rooms zero d l h k e = absurd (omega arith)
by-rooms (suc zero) d l h k e = omega arith
by-rooms (suc (suc zero)) d l h k e = omega arith
by-rooms (suc (suc (suc zero))) d l h k e = omega arith
by-rooms (suc (suc (suc (suc zero)))) d l h k e = omega arith
by-rooms (suc (suc (suc (suc (suc n))))) d l h k e = absurd (omega arith)

-- what is read of a tile that is found
tile-brief : (K N : ℕ) → K ≤ 6 → N ≤ 256 → (s : List ℕ) (at k next : ℕ) (us : List ℕ) (end : ℕ) → number_at s at ≡ Some (k, next) → 1 ≤ k → k ≤ K
    → modes_at N k s next ≡ read us end → end ≤ at + tile_bytes N
tile-brief K N longest modes s at k next us end q l h e =
    let w = modes-stand N k s next us end e in
    let c : length us ≡ k = w.count in
    let b = brief K N longest modes us (record { some = omega arith; few = omega arith; modes = w.modes }) in
    omega (arith, b, length-append (bytes_of (length us)) (modes_bytes us), ap (λ (j : ℕ). length (bytes_of j)) c, (was k at next s q).1.end, w.stand.end)

-- Of any table that tells lengths: an idle call that is answered reads at most 230 bytes and the tile, which has at most 7, or 13 where N is above 128.
pub little : (plant table : List ℕ) (x : List ℤ) (u : ℕ) (then : State) (w : Unread plant table x u then) → tells (form_of table) ≡ true
    → total (read_of (rules_of (form_of table) w.p) x table 2) ≤ 230 + tile_bytes w.p.modes
unfolding total
little plant table x u then w told =
    let p = w.p in
    let s = judged-sound plant p w.judged in
    let form = form_of table in
    let r = rules_of form p in
    let l = find-little r (sizes form (form-known table) p s) told (children_most form p.n) (tile_bytes p.modes) (λ b. length b ≡ p.n) (sided-few form p.n) (sided-same form p.n)
    (tile-brief p.k p.modes s.ranges.k-high s.ranges.m-high) x (depth_by form p.n p.d) table 2 (root_of p) w.from (length w.modes) (root-sides p) w.found in
    let splits : depth_by form p.n p.d * (1 + (children_most form p.n - 1) * 5) ≤ 228 =
    rw (told-sides form told) (by-rooms p.n p.d s.ranges.n-low s.ranges.n-high s.ranges.d-high s.ranges.nd-high) in
    omega (arith, l, splits)

-- so no more than 243
pub little-most : (plant table : List ℕ) (x : List ℤ) (u : ℕ) (then : State) (w : Unread plant table x u then) → tells (form_of table) ≡ true
    → total (read_of (rules_of (form_of table) w.p) x table 2) ≤ 243
little-most plant table x u then w told = omega (arith, little plant table x u then w told, tile-most w.p.modes)
