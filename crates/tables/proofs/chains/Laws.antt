-- A chain that was accepted: its boxes and frames, as the code takes them out of its edges, are meaning's, and each frame is sound. Assumes nothing.
use Rattle.std.specs.Prelude.{Ok, Err}
use Prim.Native.Nat.{ℕ, zero, suc, ◌+◌, ◌-◌, ◌*◌, ◌≤◌, ◌<◌}
use mathlib.Core.Path.{◌≡◌, refl, sym, ap, ◌∙◌, subst}
use mathlib.Core.Bool.{Bool, true, false, ◌&&◌}
use mathlib.Core.List.{List, [], ◌∷◌, ◌++◌}
use native.Mathlib.Omega.{arith}
use native.Mathlib.Numerals.{add-one}
use native.Mathlib.Nat.{zero-add, mul-le-mul, le_refl}
use borrow.Author.Tests.{leb-true}
use lib.Dec.{leb}
use lib.IntN.{ℤ, pos, neg_ℤ}
use lib.ListN.{length, drop, replicate}
use lib.Seq.{get_or-drop}
use lib.Signed.{◌≤ℤ◌}
use Rattle.laws.specs.Integers as Z
use Rattle.laws.specs.Integers.{zarith}
use Rattle.laws.specs.Lists.{at, tab, padded, all, first_false}
use Rattle.laws.specs.Tabs.{padded-at, tab-same, Filled, filled_none, filled-padded}
use Rattle.laws.specs.Tests.{never, second, orders, all-tab}
use Rattle.meaning.specs.declared.Refusal.{Refusal}
use Rattle.meaning.specs.Boxes.{Side, side, side_at, within}
use Rattle.meaning.specs.Files.{Form, end, Read, read, refused, values_at}
use Rattle.meaning.specs.Plants.{Plant, edge_limit, span, column, root_of, safe_of}
use Rattle.meaning.specs.Refusals.{not_held}
use Rattle.meaning.specs.Starts as S
use Rattle.meaning.specs.Starts.{chain_form, above, chain_side, box_at, box_below, held, on_chain, box_rules}
use Rattle.meaning.specs.Tables.{table_rules}
use Rattle.promises.specs.Files.Files.{file-writes}
use Rattle.promises.specs.Files.Sound.{Bounded, Sound}
use Rattle.promises.specs.Files.Forms as F
use Rattle.promises.specs.Files.Forms.{Right, values-right, times-right}
use Rattle.files.specs.declared.bounds.Sides.{Sides}
use Rattle.tables.specs.declared.chains.Chain.{Chain}
use Rattle.tables.specs.declared.frames.Frame.{Frame}
use Rattle.tables.specs.Boxes.{box_of, Small}
use Rattle.tables.specs.Chains.{ChainRead, most_above, most_edges, edges_above, values_in, no_chain, chain_with, chain_values, chain_read, box_on, bx_at, bx_below, frame_at, keeps, FramesSound}
use Rattle.tables.specs.Frames.{own_frame, rules_by, FrameSound}
use Rattle.tables.proofs.boxes.Laws.{small-tab}
use Rattle.tables.proofs.frames.Laws.{framed-sound}

-- ---- edges and values: the e-th edge is the value e + 2

at-made-up : (k : ℕ) (l : List ℤ) (e : ℕ) → at (l ++ replicate k (pos 0)) e ≡ at l e
at-made-up k [] e = (filled_none k).rest e (omega arith)
at-made-up k (v ∷ l) zero = refl
at-made-up k (v ∷ l) (suc e) = at-made-up k l e

abbrev pub Edged : List ℤ → List ℤ → Type 0
Edged edges vs = (e : ℕ) → at edges e ≡ at vs (2 + e)

pub above-edged : (vs : List ℤ) → Edged (edges_above vs) vs
above-edged vs e = at-made-up (most_edges - length (drop 2 vs)) (drop 2 vs) e ∙ get_or-drop 2 vs e (pos 0)

pub in-edged : (m : ℕ) (edges : List ℤ) → Edged edges (values_in m edges)
in-edged m edges e = let q : 2 + e ≡ suc (suc e) = omega arith in rw q refl

-- ---- boxes

module _ (n : ℕ) (rooms : n ≤ 4) (edges vs : List ℤ) (q : Edged edges vs) where
  side-on : (i j : ℕ) → j < n → side_at (box_on n edges i).lo (box_on n edges i).hi j ≡ chain_side n vs i j
  side-on i j h =
      let a : 2 + (2 * (i * n) + 2 * j) ≡ 2 + 2 * (i * n + j) = omega arith in
      let b : 2 + (2 * (i * n) + 1 + 2 * j) ≡ 2 + 2 * (i * n + j) + 1 = omega arith in
      let low = padded-at (λ k. at edges (2 * (i * n) + 2 * k)) 4 n j h ∙ q (2 * (i * n) + 2 * j) ∙ ap (at vs) a in
      let high = padded-at (λ k. at edges (2 * (i * n) + 1 + 2 * k)) 4 n j h ∙ q (2 * (i * n) + 1 + 2 * j) ∙ ap (at vs) b in
      rw (low, high) refl

  pub box-on : (i : ℕ) → box_of n (box_on n edges i) ≡ tab (chain_side n vs i) n 0
  box-on i = tab-same (side_at (box_on n edges i).lo (box_on n edges i).hi) (chain_side n vs i) n 0 (λ j a b. side-on i j (omega arith))

  module _ (root : Sides) where
    pub box-same : (i : ℕ) → box_of n (bx_at n root edges i) ≡ box_at n (box_of n root) vs i
    box-same zero = refl
    box-same (suc i) = box-on i

    pub below-same : (i : ℕ) → box_of n (bx_below n root edges i) ≡ box_below n (box_of n root) vs i
    below-same zero = refl
    below-same (suc i) = box-same i

    -- what is answered over the boxes that the code has, and over meaning's
    pub boxes-same {ℓ} : {A : Type ℓ} (answer : List Side → List Side → A) (i : ℕ)
        → answer (box_of n (bx_at n root edges i)) (box_of n (bx_below n root edges i)) ≡ answer (box_at n (box_of n root) vs i) (box_below n (box_of n root) vs i)
    boxes-same answer i =
        ap (λ (b : List Side). answer b (box_of n (bx_below n root edges i))) (box-same i)
        ∙ ap (λ (b : List Side). answer (box_at n (box_of n root) vs i) b) (below-same i)

-- one box more holds the one below and lies in S
pub held-as : (n : ℕ) → n ≤ 4 → (edges : List ℤ) (m : ℕ) (root : List Side) (safe below b : Sides) (i : ℕ) → box_of n below ≡ box_at n root (values_in m edges) i → b ≡ box_on n edges i
    → keeps n below b safe ≡ held n root (values_in m edges) (box_of n safe) i
held-as n rooms edges m root safe below b i p q =
    let box : box_of n b ≡ box_at n root (values_in m edges) (suc i) = ap (box_of n) q ∙ box-on n rooms edges (values_in m edges) (in-edged m edges) i in
    ap (λ (x : List Side). within x (box_of n b) && within (box_of n b) (box_of n safe)) p
    ∙ ap (λ (x : List Side). within (box_at n root (values_in m edges) i) x && within x (box_of n safe)) box

pub next-box : (n : ℕ) → n ≤ 4 → (edges : List ℤ) (m : ℕ) (root : List Side) (b : Sides) (i : ℕ) → b ≡ box_on n edges i → box_of n b ≡ box_at n root (values_in m edges) (i + 1)
next-box n rooms edges m root b i q = rw add-one (ap (box_of n) q ∙ box-on n rooms edges (values_in m edges) (in-edged m edges) i)

-- ---- every second of the edges from a place on, taken out into an array: j of them are done

pub record TakenOut (edges : List ℤ) (from j : ℕ) (out : List ℤ) : Type 0 where
  pub filled : Filled 4 j out
  pub same : (k : ℕ) → k < j → at out k ≡ at edges (from + 2 * k)

module _ {edges : List ℤ} {from j : ℕ} {out : List ℤ} (w : TakenOut edges from j out) where
  pub all-out : j ≤ 4 → out ≡ column edges from 2 j
  all-out h =
      sym (filled-padded w.filled h)
      ∙ ap (padded 4 (pos 0)) (tab-same (at out) (λ k. at edges (from + 2 * k)) j 0 (λ k a b. w.same k (omega arith)))

-- ---- values that were read: m is at most 8, and each side of each box is in its range

module _ (vs : List ℤ) where
  abbrev SideAt : ℕ → Type 0
  SideAt i = Bounded edge_limit (side (at vs i) (at vs (i + 1)))

  span_right : (rest : Form) (i : ℕ) → Right (span edge_limit rest) vs i → SideAt i × Right rest vs (i + 2)
  unfolding F.Right
  span_right rest i h =
      let a = at vs i in
      let b = at vs (i + 1) in
      let k = orders (neg_ℤ (pos edge_limit)) a a (pos edge_limit) h.0 in
      let l = orders a b b (pos edge_limit) h.1.0 in
      let low : neg_ℤ (pos edge_limit) ≤ℤ b = omega (zarith, k, l) in
      let e : i + 2 ≡ i + 1 + 1 = omega arith in
      (record { low = Z.within edge_limit k.0 k.1; high = Z.within edge_limit low l.1; order = l.0 }, rw e h.1.1)

  right-chain : (n : ℕ) → Right (chain_form n) vs 0 → (above vs ≤ most_above) × ((t : ℕ) → t < above vs * n → SideAt (2 + 2 * t))
  unfolding F.Right S.chain_form
  right-chain n h = (
    leb-true (above vs) 8 (second (leb 0 (above vs)) (leb (above vs) 8) h.1.0),
    (times-right vs (span edge_limit) 2 SideAt span_right (above vs * n) end 2 h.1.1).0,
  )

pub record InRange (n : ℕ) (vs : List ℤ) : Type 0 where
  pub few : above vs ≤ most_above
  pub sides : (i j : ℕ) → i < above vs → j < n → Bounded edge_limit (chain_side n vs i j)

in-range : (n : ℕ) (vs : List ℤ) (s : List ℕ) (next : ℕ) → values_at (chain_form n) s 0 ≡ read vs next → InRange n vs
in-range n vs s next e =
    let r = right-chain vs n (values-right (chain_form n) s 0 vs next e) in
    record { few = r.0; sides = λ i j h l. r.1 (i * n + j) (omega (arith, mul-le-mul h (le_refl n))) }

-- ---- a chain that was accepted

pub record Chained (whole : Bool) (f : Frame) (s : List ℕ) (r : Chain) : Type 0 where
  pub vs : List ℤ
  pub values : chain_values whole f.n s ≡ read vs r.next
  pub begins : values_at (chain_form f.n) s 0 ≡ read vs r.next
  pub kept : all (tab (held f.n (box_of f.n f.root) vs (box_of f.n f.safe)) (above vs) 0) ≡ true
  pub count : r.m ≡ above vs
  pub edges : r.edges ≡ edges_above vs

beginning : (whole : Bool) (n : ℕ) (s : List ℕ) {vs : List ℤ} {next : ℕ} → chain_values whole n s ≡ read vs next → values_at (chain_form n) s 0 ≡ read vs next
beginning true n s e = (file-writes (chain_form n) s e).0
beginning false n s e = e

module _ (whole : Bool) (f : Frame) (s : List ℕ) where
  abbrev n : ℕ
  n = f.n

  abbrev root : List Side
  root = box_of n f.root

  abbrev safe : List Side
  safe = box_of n f.safe

  abbrev kept_of : List ℤ → List Bool
  kept_of vs = tab (held n root vs safe) (above vs) 0

  -- by what the reader answered
  module _ (x : ChainRead) (q : x ≡ chain_read whole f s) where
    pub chain-taken : {r : Chain} → x ≡ Ok r → Chained whole f s r
    chain-taken {r} h = go (chain_values whole n s) refl q
      where
        go : (t : Read (List ℤ)) → chain_values whole n s ≡ t → x ≡ on_chain n root safe t no_chain chain_with → Chained whole f s r
        go (refused e) g c = never cc
        go (read vs next) g c = tests (all (kept_of vs)) refl
          where
            tests : (b : Bool) → all (kept_of vs) ≡ b → Chained whole f s r
            tests true k =
                let d : x ≡ chain_with vs next = c ∙ simp k in
                let same : r ≡ record { m = above vs; next = next; edges = edges_above vs } = cc in
                let e : next ≡ r.next = sym (ap (λ (y : Chain). y.next) same) in
                let values : chain_values whole n s ≡ read vs r.next = g ∙ ap (read vs) e in
                record { vs = vs; values = values; begins = beginning whole n s values; kept = k; count = ap (λ (y : Chain). y.m) same; edges = ap (λ (y : Chain). y.edges) same }
            tests false k =
                let d : x ≡ no_chain (not_held (first_false (kept_of vs) + 1)) = c ∙ simp k in
                never cc

    pub chain-refused : {A : Type 0} (e : Refusal) → x ≡ Err e → (refuse : Refusal → A) (rest : List ℤ → ℕ → A)
        → refuse e ≡ on_chain n root safe (chain_values whole n s) refuse rest
    chain-refused {A} e h refuse rest = go (chain_values whole n s) q
      where
        go : (t : Read (List ℤ)) → x ≡ on_chain n root safe t no_chain chain_with → refuse e ≡ on_chain n root safe t refuse rest
        go (refused y) c = let d : e ≡ y = cc in ap refuse d
        go (read vs next) c = tests (all (kept_of vs)) refl
          where
            tests : (b : Bool) → all (kept_of vs) ≡ b → refuse e ≡ on_chain n root safe (read vs next) refuse rest
            tests true k =
                let d : x ≡ chain_with vs next = c ∙ simp k in
                never cc
            tests false k =
                let d : x ≡ no_chain (not_held (first_false (kept_of vs) + 1)) = c ∙ simp k in
                let y : e ≡ not_held (first_false (kept_of vs) + 1) = cc in
                simp k (ap refuse y)

  module _ {r : Chain} (t : Chained whole f s r) where
    pub chain-goes : {A : Type 0} (refuse : Refusal → A) (rest : List ℤ → ℕ → A) → rest t.vs r.next ≡ on_chain n root safe (chain_values whole n s) refuse rest
    chain-goes refuse rest = rw t.values (simp t.kept)

    pub chain-range : InRange n t.vs
    chain-range = in-range n t.vs s r.next t.begins

    pub chain-few : r.m ≤ most_above
    chain-few = omega (arith, t.count, chain-range.few)

    pub chain-edged : Edged r.edges t.vs
    chain-edged e = ap (λ (l : List ℤ). at l e) t.edges ∙ above-edged t.vs e

    -- ---- its frames

    module _ (g : FrameSound f) (in-safe : within root safe ≡ true) where
      box-small : (i : ℕ) → i ≤ r.m → Small edge_limit (box_at n root t.vs i)
      box-small zero h = g.root
      box-small (suc i) h = small-tab (chain_side n t.vs i) n 0 (λ j a b. chain-range.sides i j (omega (arith, t.count)) (omega arith))

      box-safe : (i : ℕ) → i ≤ r.m → within (box_at n root t.vs i) safe ≡ true
      box-safe zero h = in-safe
      box-safe (suc i) h =
          let k = all-tab (held n root t.vs safe) (above t.vs) 0 i (omega (arith, t.count)) t.kept in
          let e : 0 + i ≡ i = zero-add i in
          second (within (box_at n root t.vs i) (box_at n root t.vs (suc i))) (within (box_at n root t.vs (suc i)) safe) (rw e at k)

      below-small : (i : ℕ) → i ≤ r.m → Small edge_limit (box_below n root t.vs i)
      below-small zero h = g.root
      below-small (suc i) h = box-small i (omega arith)

      below-safe : (i : ℕ) → i ≤ r.m → within (box_below n root t.vs i) safe ≡ true
      below-safe zero h = in-safe
      below-safe (suc i) h = box-safe i (omega arith)

      pub frame-sound : (i : ℕ) → i ≤ r.m → FrameSound (frame_at f r.edges i)
      frame-sound i h =
          let box = box-same n g.rooms r.edges t.vs chain-edged f.root i in
          let below = below-same n g.rooms r.edges t.vs chain-edged f.root i in
          record {
            known = g.known;
            some = g.some;
            rooms = g.rooms;
            longest = g.longest;
            least = g.least;
            most = g.most;
            modes = g.modes;
            depth = g.depth;
            tiles = g.tiles;
            root = subst (Small edge_limit) (sym box) (box-small i h);
            goal = subst (Small edge_limit) (sym below) (below-small i h);
            safe = g.safe;
            in-safe = ap (λ (b : List Side). within b safe) below ∙ below-safe i h;
          }

-- ---- for a plant: its frame's rules over a box of the chain, of any form, are meaning's rules of that box

module _ (p : Plant) (rooms : p.n ≤ 4) (edges vs : List ℤ) (q : Edged edges vs) where
  pub rules-at : (i : ℕ) → rules_by (frame_at (own_frame p) edges i) p.bands p.coef ≡ box_rules p vs i
  rules-at i = boxes-same p.n rooms edges vs q (own_frame p).root (λ root goal form. table_rules form p root goal) i

  -- and what is answered by them
  pub answers_at : {A : Type 0} (answer : List Side → List Side → A) (i : ℕ)
      → answer (box_of p.n (frame_at (own_frame p) edges i).root) (box_of p.n (frame_at (own_frame p) edges i).goal)
      ≡ answer (box_at p.n (root_of p) vs i) (box_below p.n (root_of p) vs i)
  answers_at answer i = boxes-same p.n rooms edges vs q (own_frame p).root answer i

-- ---- for a plant that was judged good, whose frame the code has: what the definitions go on with behind the chain, and its frames

module _ (whole : Bool) (p : Plant) (g : Sound p) (f : Frame) (e : f ≡ own_frame p) (s : List ℕ) where
  module _ (x : ChainRead) (q : x ≡ chain_read whole f s) where
    own : x ≡ chain_read whole (own_frame p) s
    own = q ∙ ap (λ (f : Frame). chain_read whole f s) e

    pub plant-chain : {r : Chain} → x ≡ Ok r → Chained whole (own_frame p) s r
    plant-chain = chain-taken whole (own_frame p) s x own

    pub plant-refused : {A : Type 0} (y : Refusal) → x ≡ Err y → (refuse : Refusal → A) (rest : List ℤ → ℕ → A)
        → refuse y ≡ on_chain p.n (root_of p) (safe_of p) (chain_values whole p.n s) refuse rest
    plant-refused = chain-refused whole (own_frame p) s x own

  module _ {r : Chain} (t : Chained whole (own_frame p) s r) where
    pub plant-goes : {A : Type 0} (refuse : Refusal → A) (rest : List ℤ → ℕ → A)
        → rest t.vs r.next ≡ on_chain p.n (root_of p) (safe_of p) (chain_values whole p.n s) refuse rest
    plant-goes = chain-goes whole (own_frame p) s t

    pub plant-edged : Edged r.edges t.vs
    plant-edged = chain-edged whole (own_frame p) s t

    pub plant-frames : FramesSound f r.edges r.m
    plant-frames = rw e (record {
      rooms = g.ranges.n-high;
      few = chain-few whole (own_frame p) s t;
      each = λ i h. frame-sound whole (own_frame p) s t (framed-sound p g (own_frame p) refl) g.root-safe i h;
    })
