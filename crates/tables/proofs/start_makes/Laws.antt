-- The start file, written: a table behind its length; the tables of the boxes one after another; the chain's bytes before them; and the whole by what was
-- read of the chain. Assumes nothing.
use Rattle.std.specs.Prelude.{Some, None, Ok, Err, ℕ}
use Prim.Native.Nat.{ℕ, zero, suc, ◌+◌, ◌-◌, ◌≤◌, ◌<◌}
use mathlib.Core.Path.{◌≡◌, refl, sym, ap, ◌∙◌}
use mathlib.Core.Bool.{Bool, true, false}
use mathlib.Core.List.{List, [], ◌++◌, append_assoc}
use mathlib.Core.Option.{Option, none, some}
use native.Mathlib.Omega.{arith}
use lib.IntN.{ℤ}
use lib.ListN.{length}
use Rattle.laws.specs.Guards.{guard}
use Rattle.laws.specs.Tests.{never}
use Rattle.laws.specs.Writing.{Put, put-append, put-length, put-none}
use Rattle.meaning.specs.Answers.{Walk}
use Rattle.meaning.specs.declared.Refusal.{Refusal}
use Rattle.meaning.specs.Refusals.{wrong_form, no_table, short}
use Rattle.meaning.specs.Buffers.{Left, refused_with, left}
use Rattle.meaning.specs.Defined.{map_some, defined_tree}
use Rattle.meaning.specs.Files.{Judged, good, bad, values_of}
use Rattle.meaning.specs.Images.{Step}
use Rattle.meaning.specs.Numbers.{bytes_of}
use Rattle.meaning.specs.Rules.{Rules}
use Rattle.meaning.specs.Plants.{Plant, plant_judged}
use Rattle.meaning.specs.Starts.{chain_form, above, box_at, box_below, on_chain, parts_of, table_with, table_before, tables_from, start_bytes, start_made, start_left}
use Rattle.meaning.specs.Tables.{known_form, rules_from, defined_table}
use Rattle.meaning.specs.Trees.{Tree, table_of}
use Rattle.promises.specs.Files.Files.{file-writes}
use Rattle.tables.specs.declared.chains.Chain.{Chain}
use Rattle.tables.specs.declared.frames.Frame.{Frame}
use Rattle.tables.specs.Boxes.{box_of}
use Rattle.tables.specs.Chains.{ChainRead, chain_read}
use Rattle.tables.specs.Drafts.{Wrote, Grown}
use Rattle.tables.specs.Frames.{own_frame, formed, step_in}
use Rattle.tables.specs.StartMakes.{with_length, part_bytes, WroteParts, frames_rules, frames_tables, behind_chain, values_rules, chain_left}
use Rattle.tables.proofs.chains.Laws.{boxes-same, Chained, chain-refused, chain-edged, chain-goes}
use Rattle.tables.proofs.drafts.Laws.{table_none, table-some}
use Rattle.tables.proofs.turns.Laws.{put-fits, put-short}

-- ---- a table behind its length

module _ (r : Rules) (buf : List ℕ) (at : ℕ) where
  pub part_none : defined_tree r ≡ none → Wrote (part_bytes r) buf at None buf
  part_none e = rw e refl

  pub part-wrote : (t : Tree) → defined_tree r ≡ some t → (bytes : List ℕ) → table_of r t ≡ bytes → {size past : ℕ} {mid : List ℕ} {next : ℕ} {out : List ℕ} → size ≡ length bytes
      → Put buf at (bytes_of size) past mid → Put mid past bytes next out → Wrote (part_bytes r) buf at (Some next) out
  part-wrote t e bytes q l p w = rw (e, q) (put-append (rw l at p) w)

-- and those behind it
parts-behind : (t : List ℕ) {buf : List ℕ} {at next : ℕ} {mid : List ℕ} → Put buf at (with_length t) next mid
    → (j : Judged (List (List ℕ))) (a : Walk) (out : List ℕ) → WroteParts j mid next a out → WroteParts (table_with t j) buf at a out
unfolding parts_of
parts-behind t p (good ts) (Ok n) out w = rw (← append_assoc (bytes_of (length t)) t (parts_of ts)) (put-append p w)
parts-behind t p (good ts) (Err e) out w = w
parts-behind t p (bad e) (Ok n) out w = w
parts-behind t p (bad e) (Err f) out w = (w.0, w.1 ∙ put-length p)

-- ---- the tables of some boxes, in a loop: those of `rest` are to be written, from `place` on

pub record Going (buf₀ : List ℕ) (at : ℕ) (whole rest : Judged (List (List ℕ))) (place : ℕ) (buf : List ℕ) : Type 0 where
  pub long : length buf ≡ length buf₀
  pub within : place ≤ length buf + 1
  -- whoever writes the rest has written the whole
  pub goes : (a : Walk) (out : List ℕ) → WroteParts rest buf place a out → WroteParts whole buf₀ at a out

pub parts-begin : (r : ℕ → Rules) (m : ℕ) (buf : List ℕ) (at : ℕ) → at ≤ length buf + 1 → Going buf at (tables_from r (m + 1) 0) (tables_from r (m + 1 - 0) 0) at buf
parts-begin r m buf at h = let q : m + 1 - 0 ≡ m + 1 = omega arith in rw q (record { long = refl; within = h; goes = λ a out w. w })

module _ (r : ℕ → Rules) (m i : ℕ) (buf₀ : List ℕ) (at : ℕ) (whole : Judged (List (List ℕ))) (place : ℕ) (buf : List ℕ) (g : Going buf₀ at whole (tables_from r (m + 1 - i) i) place buf) where
  pub parts-done : m < i → WroteParts whole buf₀ at (Ok place) buf
  unfolding tables_from parts_of
  parts-done h = g.goes (Ok place) buf (rw at-end (put-none buf place g.within))
    where
      at-end : tables_from r (m + 1 - i) i ≡ good []
      at-end = let k : m + 1 - i ≡ 0 = omega arith in rw k refl

  -- box i's table, and what was written for it
  module _ (h : i ≤ m) (a : Grown) (out : List ℕ) (w : Wrote (part_bytes (r i)) buf place a out) where
    next-box : (j : Judged (List ℕ)) → defined_table i (r i) ≡ j → tables_from r (m + 1 - i) i ≡ table_before j λ _. tables_from r (m + 1 - (i + 1)) (i + 1)
    unfolding tables_from
    next-box j e =
        let k : m + 1 - i ≡ suc (m + 1 - (i + 1)) = omega arith in
        let q : i + 1 ≡ suc i = omega arith in
        rw (k, q, e) refl

    pub parts-stopped : a ≡ None → (e : Refusal) → e ≡ no_table i → WroteParts whole buf₀ at (Err e) out
    parts-stopped z e q = go (defined_tree (r i)) refl (rw z at w)
      where
        go : (o : Option Tree) → defined_tree (r i) ≡ o → Wrote (map_some (λ t. with_length (table_of (r i) t)) o) buf place None out → WroteParts whole buf₀ at (Err e) out
        go (some t) d v = absurd v
        go none d v = g.goes (Err e) out (rw (next-box (bad (no_table i)) (table_none (r i) i d)) (q, v))

    pub parts_more : (next : ℕ) → a ≡ Some next → Going buf₀ at whole (tables_from r (m + 1 - (i + 1)) (i + 1)) next out
    parts_more next z = go (defined_tree (r i)) refl (rw z at w)
      where
        go : (o : Option Tree) → defined_tree (r i) ≡ o → Wrote (map_some (λ t. with_length (table_of (r i) t)) o) buf place (Some next) out
            → Going buf₀ at whole (tables_from r (m + 1 - (i + 1)) (i + 1)) next out
        go none d v = absurd v
        go (some t) d v = record {
          long = put-length v ∙ g.long;
          within = omega (arith, v.place, put-length v);
          goes = λ x o u. g.goes x o (rw (next-box (good (table_of (r i) t)) (table-some (r i) i t d)) (parts-behind (table_of (r i) t) v (tables_from r (m + 1 - (i + 1)) (i + 1)) x o u));
        }

-- ---- the whole file: the chain's bytes, then the tables

module _ (chain buf : List ℕ) (j : Judged (List (List ℕ))) {past : ℕ} {mid : List ℕ} (p : Put buf 0 chain past mid) (a : Walk) (out : List ℕ) (w : WroteParts j mid past a out) where
  pub start-refused : (e : Refusal) → a ≡ Err e → refused_with e out ≡ left (behind_chain chain j) buf
  start-refused e z = go j (rw z at w)
    where
      go : (j : Judged (List (List ℕ))) → WroteParts j mid past (Err e) out → refused_with e out ≡ left (behind_chain chain j) buf
      go (good ts) v = absurd v
      go (bad f) v =
          let d : e ≡ f = v.0 in
          let l : length out ≡ length buf = v.1 ∙ put-length p in
          rw (d, l) refl

  module _ (size : ℕ) (z : a ≡ Ok size) where
    -- the whole was written
    record Started : Type 0 where
      ts : List (List ℕ)
      is : j ≡ good ts
      put : Put buf 0 (chain ++ parts_of ts) size out

    started : Started
    started = go j refl (rw z at w)
      where
        go : (k : Judged (List (List ℕ))) → j ≡ k → WroteParts k mid past (Ok size) out → Started
        go (good ts) e v = record { ts = ts; is = e; put = put-append p v }
        go (bad f) e v = absurd v

    pub start-short : length out < size → refused_with short out ≡ left (behind_chain chain j) buf
    start-short h = let s = started in let e : j ≡ good s.ts = s.is in rw e (put-short (chain ++ parts_of s.ts) buf size out s.put h)

    pub start_fits : size ≤ length out → record { answer = Ok size; buffer = out } ≡ left (behind_chain chain j) buf
    start_fits h = let s = started in let e : j ≡ good s.ts = s.is in rw e (put-fits (chain ++ parts_of s.ts) buf size out s.put h)

-- ---- the whole by what was read of the chain

tables-same : (r s : ℕ → Rules) → ((i : ℕ) → r i ≡ s i) → (m i : ℕ) → tables_from r m i ≡ tables_from s m i
unfolding tables_from
tables-same r s e zero i = refl
tables-same r s e (suc m) i =
    ap (λ (x : Rules). table_before (defined_table i x) λ _. tables_from r m (suc i)) (e i)
    ∙ ap (λ (j : Judged (List (List ℕ))). table_before (defined_table i (s i)) λ _. j) (tables-same r s e m (suc i))

module _ (f : Frame) (bands coef : List ℤ) (chain : List ℕ) (form : ℕ) (buf : List ℕ) where
  abbrev rest : List ℤ → ℕ → Judged (List ℕ)
  rest vs next = guard (known_form form) (bad wrong_form) λ _. start_bytes f.n vs (tables_from (values_rules (formed f form) bands coef vs) (above vs + 1) 0)

  pub chain-bad : (x : ChainRead) → x ≡ chain_read true f chain → (e : Refusal) → x ≡ Err e → refused_with e buf ≡ chain_left f bands coef chain form buf
  chain-bad x q e h = ap (λ (j : Judged (List ℕ)). left j buf) (chain-refused true f chain x q e h bad rest)

  pub chain-unknown : {r : Chain} → Chained true f chain r → known_form form ≡ false → refused_with wrong_form buf ≡ chain_left f bands coef chain form buf
  chain-unknown t k = ap (λ (j : Judged (List ℕ)). left j buf) (sym (go (known_form form) k) ∙ chain-goes true f chain t bad rest)
    where
      go : (b : Bool) → b ≡ false → guard b (bad wrong_form) (λ _. start_bytes f.n t.vs (tables_from (values_rules (formed f form) bands coef t.vs) (above t.vs + 1) 0)) ≡ bad wrong_form
      go true e = never cc
      go false e = refl

  module _ {r : Chain} (t : Chained true f chain r) (rooms : f.n ≤ 4) (known : known_form form ≡ true) where
    -- the bytes of the values read are the bytes read
    written : (j : Judged (List (List ℕ))) → behind_chain chain j ≡ start_bytes f.n t.vs j
    written (bad e) = refl
    written (good ts) = ap (λ (s : List ℕ). good (s ++ parts_of ts)) (sym (file-writes (chain_form f.n) chain t.values).2)

    tables : frames_tables (formed f form) bands coef r.edges r.m ≡ tables_from (values_rules (formed f form) bands coef t.vs) (above t.vs + 1) 0
    tables =
        ap (λ (m : ℕ). frames_tables (formed f form) bands coef r.edges m) t.count
        ∙ tables-same (frames_rules (formed f form) bands coef r.edges) (values_rules (formed f form) bands coef t.vs) same (above t.vs + 1) 0
      where
        same : (i : ℕ) → frames_rules (formed f form) bands coef r.edges i ≡ values_rules (formed f form) bands coef t.vs i
        same i =
            boxes-same f.n rooms r.edges t.vs (chain-edged true f chain t) f.root
            (λ root goal. rules_from form f.n f.modes f.k f.d root goal (box_of f.n f.safe) (step_in f bands coef)) i

    pub chain-good : left (behind_chain chain (frames_tables (formed f form) bands coef r.edges r.m)) buf ≡ chain_left f bands coef chain form buf
    chain-good =
        let made = tables_from (values_rules (formed f form) bands coef t.vs) (above t.vs + 1) 0 in
        ap (λ (j : Judged (List ℕ)). left j buf)
        (ap (behind_chain chain) tables ∙ written made ∙ sym (go (known_form form) known (start_bytes f.n t.vs made)) ∙ chain-goes true f chain t bad rest)
      where
        go : (b : Bool) → b ≡ true → (j : Judged (List ℕ)) → guard b (bad wrong_form) (λ _. j) ≡ j
        go true e j = refl
        go false e j = never cc

-- bands and coefficients count by what the modes do with them alone
pub chain_steps : (f : Frame) (bands coef bands' coef' : List ℤ) → step_in f bands coef ≡ step_in f bands' coef' → (chain : List ℕ) (form : ℕ) (buf : List ℕ)
    → chain_left f bands coef chain form buf ≡ chain_left f bands' coef' chain form buf
chain_steps f bands coef bands' coef' e chain form buf = ap made e
  where
    rules : (ℕ → Step) → List ℤ → ℕ → Rules
    rules step vs i =
        let root = box_of f.n f.root in
        rules_from form f.n f.modes f.k f.d (box_at f.n root vs i) (box_below f.n root vs i) (box_of f.n f.safe) step

    made : (ℕ → Step) → Left
    made step =
        left (on_chain f.n (box_of f.n f.root) (box_of f.n f.safe) (values_of (chain_form f.n) chain) bad λ vs _.
        guard (known_form form) (bad wrong_form) λ _.
        start_bytes f.n vs (tables_from (rules step vs) (above vs + 1) 0)) buf

-- ---- for a plant: its own frame's

module _ (plant chain : List ℕ) (form : ℕ) (buf : List ℕ) where
  pub start-bad : (e : Refusal) → plant_judged plant ≡ bad e → refused_with e buf ≡ start_left plant chain form buf
  unfolding start_left start_made
  start-bad e h = rw h refl

  pub start-own : (p : Plant) → plant_judged plant ≡ good p → (f : Frame) → f ≡ own_frame p → chain_left f p.bands p.coef chain form buf ≡ start_left plant chain form buf
  unfolding start_left start_made
  start-own p h f e = rw (h, e) refl
