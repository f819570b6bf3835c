-- The walk over a table's tree at the rules of a frame, in the terms of the code: a tile by its modes and the judge of them, a node, and a loop over a
-- split's children, each held to its length where one is told. Stated once over the flag, for checker and passing alike. Where no lengths are told, page Untold has
-- the children. Relies on promises' page Walking.
use Rattle.std.specs.Prelude.{Some, None, Ok, Err}
use Prim.Native.Nat.{ℕ, suc, ◌+◌, ◌-◌, ◌≤◌, ◌<◌}
use mathlib.Core.Path.{◌≡◌, refl, sym, ap, ◌∙◌, fun_ext}
use mathlib.Core.Bool.{Bool, true, false}
use mathlib.Core.List.{List, [], ◌∷◌}
use native.Mathlib.Omega.{arith}
use lib.IntN.{ℤ}
use lib.Dec.{ltb, eqb}
use lib.ListN.{length, get_or, drop}
use borrow.Author.Tests.{ltb-true, ltb-false, eqb-true, eqb-false}
use Rattle.laws.specs.Guards.{guard}
use Rattle.laws.specs.Tests.{never}
use Rattle.meaning.specs.Answers.{Walk}
use Rattle.meaning.specs.declared.Refusal.{Refusal}
use Rattle.meaning.specs.declared.Tried.{Tried}
use Rattle.meaning.specs.Boxes.{Side, within}
use Rattle.meaning.specs.Files.{Read, read}
use Rattle.meaning.specs.Images.{image}
use Rattle.meaning.specs.Numbers.{number_at}
use Rattle.meaning.specs.Refusals.{broken, bad_table}
use Rattle.meaning.specs.Rules as R
use Rattle.meaning.specs.Rules.{on_safe, rule_from}
use Rattle.meaning.specs.Trees.{tells}
use Rattle.meaning.specs.Verdicts.{Length, length_at, on_modes, on_read, lengths_at, lengths_by, each, modes_at}
use Rattle.meaning.specs.Tables.{children_by}
use Rattle.promises.specs.Tables.Walking.{lengths_count, lengths-by, each-done, each_more, each-held, each-wrong, each-refused, walk-broken, walk-deep, walk-stuck, walk_split, walk-over, walk-tile}
use Rattle.tables.specs.declared.frames.Frame.{Frame}
use Rattle.tables.specs.Boxes.{box_of}
use Rattle.tables.specs.Frames.{formed, step_in, rules_in, rules_by, FrameSound}
use Rattle.tables.specs.Lengths.{behind_at, held_at}
use Rattle.tables.specs.Walks.{judge_by, walk_by}
use Rattle.tables.proofs.lengths.Laws.{OneRead, one-read, behind-read, behind-refused}

-- ---- children in a loop: c of them are done, behind them is `place`, and of the lengths that the split tells, many, those to come stand at the cursor

pub record Left (one : ℕ → List Side → Walk) (kids : List (List Side)) (s : List ℕ) (many c cursor place : ℕ) (whole : Walk) : Type 0 where
  pub lengths : List Length
  pub end : ℕ
  pub are : lengths_at (many - c) s cursor ≡ read lengths end
  pub rest : each one (drop c kids) lengths place ≡ whole

module _ (one : ℕ → List Side → Walk) (kids : List (List Side)) (s : List ℕ) (many c cursor place : ℕ) (whole : Walk) (left : Left one kids s many c cursor place whole) where
  pub left-done : length kids ≤ c → Ok place ≡ whole
  left-done h = sym (each-done one kids c place left.lengths h) ∙ left.rest

  -- the next one, and what was answered for it
  module _ (h : c < length kids) (kid : List Side) (q : kid ≡ get_or kids c []) (v : Walk) (e : v ≡ one place kid) where
    came : one place (get_or kids c []) ≡ v
    came = ap (λ (k : List Side). one place k) (sym q) ∙ sym e

    pub left-stopped : (x : Refusal) → v ≡ Err x → v ≡ whole
    left-stopped x g = g ∙ sym (each-refused one kids c place [] left.lengths x h (came ∙ g)) ∙ left.rest

    module _ (m : ℕ) (g : v ≡ Ok m) where
      -- of which no length is told
      last : many ≤ c → Left one kids s many (c + 1) cursor m whole
      unfolding lengths_at
      last l =
          let z : many - c ≡ 0 = omega arith in
          let y : many - (c + 1) ≡ 0 = omega arith in
          let are : lengths_at 0 s cursor ≡ read left.lengths left.end = ap (λ (k : ℕ). lengths_at k s cursor) (sym z) ∙ left.are in
          let none : left.lengths ≡ [] = cc in
          record {
            lengths = [];
            end = cursor;
            are = ap (λ (k : ℕ). lengths_at k s cursor) y;
            rest = sym (each_more one kids c place [] m h (came ∙ g)) ∙ ap (λ (ls : List Length). each one (drop c kids) ls place) (sym none) ∙ left.rest;
          }

      -- of which one is
      module _ (l : c < many) where
        next-read : OneRead (many - (c + 1)) s cursor left.lengths left.end
        next-read = let z : suc (many - (c + 1)) ≡ many - c = omega arith in one-read (many - (c + 1)) s cursor left.lengths left.end (ap (λ (k : ℕ). lengths_at k s cursor) z ∙ left.are)

        abbrev size : ℕ
        size = next-read.size

        abbrev others : List Length
        others = next-read.others

        there : each one (drop c kids) (length_at cursor size ∷ others) place ≡ whole
        there = ap (λ (ls : List Length). each one (drop c kids) ls place) (sym next-read.all) ∙ left.rest

        tested : held_at true s cursor place m ≡ guard (eqb m (place + size)) (Err (bad_table cursor)) (λ _. Ok next-read.next)
        tested = rw next-read.number refl

        right : (then : ℕ) → held_at true s cursor place m ≡ Ok then → Left one kids s many (c + 1) then m whole
        right then w = go (eqb m (place + size)) refl (sym tested ∙ w)
          where
            go : (t : Bool) → eqb m (place + size) ≡ t → guard t (Err (bad_table cursor)) (λ _. Ok next-read.next) ≡ Ok then → Left one kids s many (c + 1) then m whole
            go false p w = never cc
            go true p w =
                let z : next-read.next ≡ then = cc in
                record {
                  lengths = others;
                  end = left.end;
                  are = ap (λ (k : ℕ). lengths_at (many - (c + 1)) s k) (sym z) ∙ next-read.behind;
                  rest = sym (each-held one kids c place [] (length_at cursor size) others m h (came ∙ g) (eqb-true m (place + size) p)) ∙ there;
                }

        wrong : (x : Refusal) → held_at true s cursor place m ≡ Err x → Err x ≡ whole
        wrong x w = go (eqb m (place + size)) refl (sym tested ∙ w)
          where
            go : (t : Bool) → eqb m (place + size) ≡ t → guard t (Err (bad_table cursor)) (λ _. Ok next-read.next) ≡ Err x → Err x ≡ whole
            go true p w = never cc
            go false p w = sym w ∙ sym (each-wrong one kids c place [] (length_at cursor size) others m h (came ∙ g) (eqb-false m (place + size) p)) ∙ there

      -- by what was answered for its length
      module _ (w : Walk) (a : w ≡ held_at (ltb c many) s cursor place m) where
        pub left-more : (then : ℕ) → w ≡ Ok then → Left one kids s many (c + 1) then m whole
        left-more then b = go (ltb c many) refl (sym a ∙ b)
          where
            go : (t : Bool) → ltb c many ≡ t → held_at t s cursor place m ≡ Ok then → Left one kids s many (c + 1) then m whole
            go true p k = right (ltb-true c many p) then k
            go false p k = let z : cursor ≡ then = cc in rw z at (last (ltb-false c many p))

        pub left-wrong : (x : Refusal) → w ≡ Err x → w ≡ whole
        left-wrong x b = b ∙ go (ltb c many) refl (sym a ∙ b)
          where
            go : (t : Bool) → ltb c many ≡ t → held_at t s cursor place m ≡ Err x → Err x ≡ whole
            go true p k = wrong (ltb-true c many p) x k
            go false p k = never cc

none : (bs : List (List Side)) → length bs ≡ 0 → bs ≡ []
none [] h = refl
none (b ∷ bs) h = absurd (omega arith)

module _ (f : Frame) (bands coef : List ℤ) (judged : Bool) where
  abbrev judge : List Side → List ℕ → Tried
  judge = judge_by judged (rules_in f bands coef)

  -- the walk over the tree at `at`, over box b with depth d left
  abbrev pub tree : ℕ → List ℕ → ℕ → List Side → Walk
  tree d s at b = walk_by judged (rules_in f bands coef) d s at b

  -- ---- a node

  module _ (d : ℕ) (s : List ℕ) (at : ℕ) (b : List Side) where
    pub tree-broken : number_at s at ≡ None → Err (broken at) ≡ tree d s at b
    tree-broken e = sym (walk-broken (rules_in f bands coef) judge d s at b e)

    module _ (k m : ℕ) (e : number_at s at ≡ Some (k, m)) where
      pub tree_over : f.k < k → Err (bad_table at) ≡ tree d s at b
      tree_over h = sym (walk-over (rules_in f bands coef) judge d s at b k m e h)

      pub tree-tile : 0 < k → k ≤ f.k → on_modes (modes_at f.modes k s m) at (judge b) ≡ tree d s at b
      tree-tile h l = sym (walk-tile (rules_in f bands coef) judge d s at b k m e (omega arith) l)

      module _ (z : k ≤ 0) where
        split : number_at s at ≡ Some (0, m)
        split = let q : k ≡ 0 = omega arith in rw q at e

        pub tree-deep : d ≡ 0 → Err (bad_table at) ≡ tree d s at b
        tree-deep h = sym (walk-deep (rules_in f bands coef) judge d s at b m split h)

        pub tree-stuck : length (children_by f.form b) ≡ 0 → Err (bad_table at) ≡ tree d s at b
        tree-stuck h = sym (walk-stuck (rules_in f bands coef) judge d s at b m split (none (children_by f.form b) h))

        -- many lengths are told, and behind them the children begin
        module _ (h : d ≡ 0 → ⊥) (count : ℕ) (c : count ≡ length (children_by f.form b)) (l : count ≡ 0 → ⊥) (many : ℕ) (q : many ≡ lengths_count (tells f.form) count) where
          abbrev kids : List (List Side)
          kids = children_by f.form b

          abbrev behind : Read (List Length) → Walk
          behind o = on_read o Err λ ls first. each (tree (d - 1) s) kids ls first

          are-told : lengths_at many s m ≡ lengths_by (tells f.form) kids s m
          are-told = ap (λ (k : ℕ). lengths_at k s m) (q ∙ ap (lengths_count (tells f.form)) c) ∙ sym (lengths-by (tells f.form) kids s m)

          by_read : behind (lengths_at many s m) ≡ tree d s at b
          by_read = ap behind are-told ∙ sym (walk_split (rules_in f bands coef) judge d s at b m (d - 1) split (omega arith) (λ z. l (c ∙ ap length z)))

          pub tree-unread : (x : Refusal) → behind_at many s m ≡ Err x → Err x ≡ tree d s at b
          tree-unread x e = sym (ap behind (behind-refused s many m x e)) ∙ by_read

          pub tree-split : (first : ℕ) → behind_at many s m ≡ Ok first → Left (tree (d - 1) s) kids s many 0 m first (tree d s at b)
          tree-split first e =
              let o = behind-read s many m first e in
              let z : many - 0 ≡ many = omega arith in
              record { lengths = o.0; end = first; are = ap (λ (k : ℕ). lengths_at k s m) z ∙ o.1; rest = sym (ap behind o.1) ∙ by_read }

-- ---- a tile is judged alike in every form

rule-alike : (f : Frame) (bands coef : List ℤ) (i : ℕ) (b : List Side) (us : List ℕ) → rule_from (rules_by f bands coef 1) i b us ≡ rule_from (rules_in f bands coef) i b us
unfolding R.rule_from
rule-alike f bands coef i b [] = refl
rule-alike f bands coef i b (u ∷ us) =
    let c = image (step_in f bands coef u) b in
    ap (λ (rest : ℕ → Tried). on_safe (within c (box_of f.n f.safe)) i rest) (fun_ext (λ m. rule-alike f bands coef m c us))

judge-alike : (f : Frame) (bands coef : List ℤ) (judged : Bool) (b : List Side) (us : List ℕ) → judge_by judged (rules_by f bands coef 1) b us ≡ judge_by judged (rules_in f bands coef) b us
judge-alike f bands coef true b us = rule-alike f bands coef 0 b us
judge-alike f bands coef false b us = refl

pub tile-alike : (f : Frame) (bands coef : List ℤ) (judged : Bool) (d : ℕ) (s : List ℕ) (at : ℕ) (b : List Side) (k m : ℕ) → number_at s at ≡ Some (k, m) → 0 < k → k ≤ f.k
    → walk_by judged (rules_by f bands coef 1) d s at b ≡ walk_by judged (rules_in f bands coef) d s at b
tile-alike f bands coef judged d s at b k m e h l =
    sym (tree-tile (formed f 1) bands coef judged d s at b k m e h l)
    ∙ ap (λ (j : List ℕ → Tried). on_modes (modes_at f.modes k s m) at j) (fun_ext (λ us. judge-alike f bands coef judged b us))
    ∙ tree-tile f bands coef judged d s at b k m e h l

pub plain-sound : (f : Frame) → FrameSound f → FrameSound (formed f 1)
plain-sound f g = record {
  known = refl;
  some = g.some;
  rooms = g.rooms;
  longest = g.longest;
  least = g.least;
  most = g.most;
  modes = g.modes;
  depth = g.depth;
  tiles = g.tiles;
  root = g.root;
  goal = g.goal;
  safe = g.safe;
  in-safe = g.in-safe;
}
