-- A chain read against its form: form and m, the loop over the sides, and the whole by its parts. Assumes nothing.
use Rattle.std.specs.Prelude.{Some, None, Ok}
use Prim.Native.Nat.{ℕ, suc, ◌+◌, ◌*◌, ◌≤◌, ◌<◌}
use mathlib.Core.Path.{◌≡◌, refl, sym, ap, ◌∙◌}
use mathlib.Core.Bool.{Bool, true, false, ◌&&◌, not}
use mathlib.Core.List.{List, [], ◌∷◌}
use native.Mathlib.Omega.{arith}
use native.Mathlib.Decide.{dec_lt}
use native.Mathlib.Nat.{mul-le-mul}
use lib.Dec.{eqb}
use lib.IntN.{ℤ, pos, neg_ℤ}
use lib.ListN.{length, set, replicate, length-set}
use borrow.Author.Tests.{le-leb, lt-leb, not-true, not-false}
use Rattle.laws.specs.Columns.{tabs-tab}
use Rattle.laws.specs.Lists as L
use Rattle.laws.specs.Lists.{at, tab, first_false}
use Rattle.laws.specs.Tabs.{length-tab, tab-same, Filled, filled_none, filled_more, filled-padded, at-below, at_stored}
use Rattle.laws.specs.Tests.{never, first-within, first-behind}
use Rattle.meaning.specs.declared.Refusal.{Refusal}
use Rattle.meaning.specs.Boxes.{Side, within}
use Rattle.meaning.specs.Files.{end, Read, read, refused, values_at, ended}
use Rattle.meaning.specs.Numbers.{number_at}
use Rattle.meaning.specs.Plants.{edge_limit, from, span, times}
use Rattle.meaning.specs.Refusals.{broken, wrong_form, unfit, not_held}
use Rattle.meaning.specs.Starts.{chain_form, box_at, held, on_chain}
use Rattle.files.specs.Parts.{behind, behind-read, behind-refused, Fails, holds-last, Rows, rows_none, rows_more, rows-fails, rows_all}
use Rattle.files.specs.Spans.{span_in, Spanned}
use Rattle.tables.specs.declared.frames.Frame.{Frame}
use Rattle.tables.specs.Boxes.{box_of}
use Rattle.tables.specs.Chains.{ChainRead, most_above, most_edges, edges_above, values_in, no_chain, chain_with, chain_values, chain_read, Headed, EdgesRead}
use Rattle.tables.proofs.chains.Laws.{Edged, above-edged, in-edged, box-same}

-- ---- form and m

module _ (s : List ℕ) where
  pub form-broken : number_at s 0 ≡ None → (n : ℕ) → values_at (chain_form n) s 0 ≡ refused (broken 0)
  unfolding chain_form values_at
  form-broken e n = simp e

  module _ (form at : ℕ) (e : number_at s 0 ≡ Some (form, at)) where
    pub form-wrong : (form ≡ 1 → ⊥) → (n : ℕ) → values_at (chain_form n) s 0 ≡ refused wrong_form
    unfolding chain_form values_at
    form-wrong h n = simp (e, not-one (dec_lt form 1))
      where
        not-one : Dec (form < 1) → from 1 1 form ≡ false
        not-one (yes l) = simp (lt-leb _ _ l)
        not-one (no l) = let a : 1 ≤ form = omega arith in let b : 1 < form = omega (arith, h) in simp (le-leb _ _ a, lt-leb _ _ b)

    module _ (h : form ≡ 1) where
      pub m-broken : number_at s at ≡ None → (n : ℕ) → values_at (chain_form n) s 0 ≡ refused (broken at)
      unfolding chain_form values_at
      m-broken f n = simp (e, h, f)

      module _ (m next : ℕ) (f : number_at s at ≡ Some (m, next)) where
        pub m-over : most_above < m → (n : ℕ) → values_at (chain_form n) s 0 ≡ refused (unfit at)
        unfolding chain_form values_at
        m-over g n = simp (e, h, f, lt-leb _ _ g, le-leb 0 m (omega arith))

        pub headed : m ≤ most_above → Headed s m next
        unfolding chain_form values_at behind
        headed g = record { few = g; goes = λ n. simp (e, h, f, le-leb _ _ g, le-leb 0 m (omega arith)) }

-- ---- the sides: i of `count` are done

abbrev pair_at : List ℤ → ℕ → List ℤ
pair_at edges k = at edges (2 * k) ∷ at edges (2 * k + 1) ∷ []

pub record EdgesUpTo (s : List ℕ) (from count i p : ℕ) (edges : List ℤ) : Type 0 where
  pub rows : Rows (span edge_limit) (pair_at edges) s from count i p
  pub filled : Filled most_edges (2 * i) edges

pub edges_none : (s : List ℕ) (from count : ℕ) → EdgesUpTo s from count 0 from (replicate most_edges (pos 0))
edges_none s from count = record { rows = rows_none (span edge_limit) (pair_at (replicate most_edges (pos 0))) s from count; filled = filled_none most_edges }

-- two stores behind what is filled
module _ (edges : List ℤ) (i : ℕ) (lo hi : ℤ) where
  abbrev pub pair_stored : List ℤ
  pair_stored = set (set edges (2 * i) lo) (2 * i + 1) hi

  pair_same : (k : ℕ) → k < i → pair_at pair_stored k ≡ pair_at edges k
  pair_same k h =
      let one = set edges (2 * i) lo in
      let a = at-below one (2 * i + 1) hi (2 * k) (omega arith) ∙ at-below edges (2 * i) lo (2 * k) (omega arith) in
      let b = at-below one (2 * i + 1) hi (2 * k + 1) (omega arith) ∙ at-below edges (2 * i) lo (2 * k + 1) (omega arith) in
      rw (a, b) refl

  pair-new : 2 * i + 1 < length edges → pair_at pair_stored i ≡ lo ∷ hi ∷ []
  pair-new h =
      let one = set edges (2 * i) lo in
      let a = at-below one (2 * i + 1) hi (2 * i) (omega arith) ∙ at_stored edges (2 * i) lo (omega arith) in
      let b = at_stored one (2 * i + 1) hi (omega (arith, length-set edges (2 * i) lo)) in
      rw (a, b) refl

pair-tab : (edges : List ℤ) (k : ℕ) → pair_at edges k ≡ tab (at edges) 2 (0 + 2 * k)
unfolding tab
pair-tab edges k = let e : 0 + 2 * k ≡ 2 * k = omega arith in rw e refl

module _ {s : List ℕ} {from count i p : ℕ} {edges : List ℤ} (w : EdgesUpTo s from count i p edges) where
  pub edges_more : (lo hi : ℤ) (next : ℕ) → i < count → count ≤ 32 → Spanned (neg_ℤ (pos edge_limit)) (pos edge_limit) s p lo hi next
      → EdgesUpTo s from count (i + 1) next (pair_stored edges i lo hi)
  edges_more lo hi next h l t =
      let e : 2 * (i + 1) ≡ 2 * i + 1 + 1 = omega arith in
      record {
        rows = rows_more w.rows (pair_at (pair_stored edges i lo hi)) next h (pair_same edges i lo hi) (rw (pair-new edges i lo hi (omega (arith, w.filled.size))) t.part);
        filled = rw e (filled_more hi (filled_more lo w.filled));
      }

  pub edges-fails : {e : Refusal} → i < count → Fails (span_in (neg_ℤ (pos edge_limit)) (pos edge_limit)) s p e → Fails (times count (span edge_limit)) s from e
  edges-fails h t = rows-fails w.rows h t

  pub edges-all : count ≤ i → EdgesRead s from count edges p
  edges-all h =
      let j : i ≡ count = omega (arith, w.rows.few) in
      record { part = rw (tabs-tab (at edges) (pair_at edges) 2 0 count (λ k l. pair-tab edges k)) at (rows_all w.rows h); filled = rw (← j) w.filled }

-- at most 8 boxes of 4 sides
pub few-sides : (m n : ℕ) → m ≤ most_above → n ≤ 4 → m * n ≤ 32
few-sides m n h l = mul-le-mul h l

-- ---- the whole: head and edges, bytes left over, then 15

values-refused : (whole : Bool) (n : ℕ) (s : List ℕ) {e : Refusal} → values_at (chain_form n) s 0 ≡ refused e → chain_values whole n s ≡ refused e
values-refused true n s q = ap (ended s) q
values-refused false n s q = q

values-over : (whole : Bool) (n : ℕ) (s : List ℕ) {vs : List ℤ} {next : ℕ} → values_at (chain_form n) s 0 ≡ read vs next → whole && not (eqb next (length s)) ≡ true
    → chain_values whole n s ≡ refused (unfit next)
values-over true n s {vs} {next} q h = ap (ended s) q ∙ simp (not-true (eqb next (length s)) h)
values-over false n s q h = never h

values-whole : (whole : Bool) (n : ℕ) (s : List ℕ) {vs : List ℤ} {next : ℕ} → values_at (chain_form n) s 0 ≡ read vs next → whole && not (eqb next (length s)) ≡ false
    → chain_values whole n s ≡ read vs next
values-whole true n s {vs} {next} q h = ap (ended s) q ∙ simp (not-false (eqb next (length s)) h)
values-whole false n s q h = q

module _ (whole : Bool) (f : Frame) (s : List ℕ) where
  abbrev n : ℕ
  n = f.n

  abbrev root : List Side
  root = box_of n f.root

  abbrev safe : List Side
  safe = box_of n f.safe

  abbrev answered : Read (List ℤ) → ChainRead
  answered t = on_chain n root safe t no_chain chain_with

  pub head-stopped : (e : Refusal) → values_at (chain_form n) s 0 ≡ refused e → no_chain e ≡ chain_read whole f s
  head-stopped e q = ap answered (sym (values-refused whole n s q))

  module _ (m at : ℕ) (w : Headed s m at) where
    pub edges-stopped : (e : Refusal) → Fails (times (m * n) (span edge_limit)) s at e → no_chain e ≡ chain_read whole f s
    edges-stopped e t = head-stopped e (w.goes n ∙ ap (behind (pos 1 ∷ pos m ∷ [])) (t.fails end) ∙ behind-refused (pos 1 ∷ pos m ∷ []) e)

    module _ (rooms : n ≤ 4) (edges : List ℤ) (next : ℕ) (t : EdgesRead s at (m * n) edges next) where
      abbrev vs : List ℤ
      vs = pos 1 ∷ pos m ∷ tab (L.at edges) (2 * (m * n)) 0

      values : values_at (chain_form n) s 0 ≡ read vs next
      values = w.goes n ∙ ap (behind (pos 1 ∷ pos m ∷ [])) (holds-last t.part) ∙ behind-read (pos 1 ∷ pos m ∷ []) (tab (L.at edges) (2 * (m * n)) 0) next

      same : edges_above vs ≡ edges
      same = filled-padded t.filled (omega (arith, few-sides m n w.few rooms))

      held_same : (i : ℕ) → held n root vs safe i ≡ held n root (values_in m edges) safe i
      held_same i =
          let edged : Edged edges vs = λ e. ap (λ (l : List ℤ). L.at l e) (sym same) ∙ above-edged vs e in
          let box : (i : ℕ) → box_at n root vs i ≡ box_at n root (values_in m edges) i
          = λ i. sym (box-same n rooms edges vs edged f.root i) ∙ box-same n rooms edges (values_in m edges) (in-edged m edges) f.root i in
          ap (λ (b : List Side). within b (box_at n root vs (suc i)) && within (box_at n root vs (suc i)) safe) (box i)
          ∙ ap (λ (b : List Side). within (box_at n root (values_in m edges) i) b && within b safe) (box (suc i))

      pub over-told : whole && not (eqb next (length s)) ≡ true → no_chain (unfit next) ≡ chain_read whole f s
      over-told h = ap answered (sym (values-over whole n s values h))

      module _ (h : whole && not (eqb next (length s)) ≡ false) (fault : ℕ) (q : fault ≡ first_false (tab (held n root (values_in m edges) safe) m 0)) where
        kept : tab (held n root vs safe) m 0 ≡ tab (held n root (values_in m edges) safe) m 0
        kept = tab-same (held n root vs safe) (held n root (values_in m edges) safe) m 0 (λ i a b. held_same i)

        here : fault ≡ first_false (tab (held n root vs safe) m 0)
        here = q ∙ ap first_false (sym kept)

        long : length (tab (held n root vs safe) m 0) ≡ m
        long = length-tab (held n root vs safe) m 0

        pub not-kept : fault < m → no_chain (not_held (fault + 1)) ≡ chain_read whole f s
        not-kept l =
            let none = first-within (tab (held n root vs safe) m 0) (omega (arith, here, long)) in
            sym (ap answered (values-whole whole n s values h) ∙ simp (none, ← here))

        pub taken : m ≤ fault → ◌≡◌ {A = ChainRead} (Ok (record { m = m; next = next; edges = edges })) (chain_read whole f s)
        taken l =
            let every = first-behind (tab (held n root vs safe) m 0) (omega (arith, here, long)) in
            sym (ap answered (values-whole whole n s values h) ∙ simp every (ap (λ (l : List ℤ). with-edges l) same))
          where
            with-edges : List ℤ → ChainRead
            with-edges l = Ok (record { m = m; next = next; edges = l })
