-- The checker of start files accepts a file exactly where it keeps its rules (page Started), and a file keeps them in at most one way: one plant, one chain,
-- one table for each box. Relies on page Accept for each table, which is accepted exactly where it ends with its length; on Parts for how they stand; and
-- on TableLengths, by which a table's length is a number that five bytes hold. What a refusal tells is left to the definitions.
use Prim.Native.Nat.{ℕ, zero, suc, ◌+◌, ◌≤◌, ◌<◌}
use Rattle.std.specs.Prelude.{◌≡◌, refl, ◌↔◌, eqb, ℤ, get_or, Some, Ok, Err}
use Rattle.std.proofs.Math.Path.{sym, ap}
use Rattle.std.proofs.Common.{◌∙◌}
use Rattle.std.proofs.Math.Bool.{true}
use mathlib.Core.List.{List, [], ◌∷◌, append-nil}
use native.Mathlib.Omega.{arith}
use Rattle.std.proofs.Math.Nat.{zero-add}
use Rattle.std.proofs.Math.ListN.{length}
use Rattle.std.proofs.Math.Seq.{drop-length}
use borrow.Author.Tests.{eqb-true, eq-eqb, le-leb}
use Rattle.laws.specs.Every as E
use Rattle.laws.specs.Every.{Every}
use Rattle.laws.specs.Lists.{tab, all}
use Rattle.laws.specs.Standing.{Stands, stand-nil, stand-join}
use Rattle.laws.specs.Tests.{guard_passed}
use Rattle.meaning.specs.Files.{read, values_at, file_of, good}
use Rattle.meaning.specs.Numbers.{number_at, bytes_of}
use Rattle.meaning.specs.Plants.{Plant, plant_judged, root_of, safe_of}
use Rattle.meaning.specs.Rules.{Rules}
use Rattle.meaning.specs.Starts as S
use Rattle.meaning.specs.Starts.{chain_form, above, held, box_rules, part, parts_of, start_of, tables_at, start_checked}
use Rattle.meaning.specs.Tables.{form_of}
use Rattle.meaning.specs.Verdicts.{table_end, verdict}
use Rattle.promises.specs.Tables.Accept.{refused-accepted, accepted-end}
use Rattle.promises.specs.Files.Files.{writes-back}
use Rattle.promises.specs.Files.Judged.{judged-sound}
use Rattle.promises.specs.Files.Numbers.{was}
use Rattle.promises.specs.Tables.TableForms.{form-known}
use Rattle.promises.specs.Tables.TableLengths.{over-box}
use Rattle.promises.specs.Tables.Walking.{walk-went}
use Rattle.promises.specs.Starts.Before.{plant-went, chain-went}
use Rattle.promises.specs.Starts.Chains.{box-size}
use Rattle.promises.specs.Starts.Parts.{part-size, part-stands, length-read, Short, front, back-stands, parts-alike}
use Rattle.promises.specs.Starts.Started.{Started}

-- ---- the tables behind one another, from box i's on

record Tables (r : ℕ → ℕ → Rules) (s : List ℕ) (m i at : ℕ) : Type 0 where
  tables : List (List ℕ)
  count : length tables ≡ m
  each : (k : ℕ) → k < length tables → verdict (r (i + k) (form_of (get_or tables k []))) (get_or tables k []) ≡ Ok tt
  stand : Stands s at (parts_of tables) (length s)

module _ (r : ℕ → ℕ → Rules) (s : List ℕ) where
  -- a length, the table that it counts, and the others
  first-table : (m i at first size : ℕ) → number_at s at ≡ Some (size, first) → first + size ≤ length s
      → table_end (r i (form_of (part s first size))) (part s first size) ≡ Ok size → Tables r s m (suc i) (first + size) → Tables r s (suc m) i at
  unfolding S.parts_of
  first-table m i at first size q l e t =
      let z = part-size s first size l in
      let number : Stands s at (bytes_of (length (part s first size))) first = rw z (was size at first s q).1 in
      record {
        tables = part s first size ∷ t.tables;
        count = ap suc t.count;
        each = each ((accepted-end (r i (form_of (part s first size))) (part s first size)).1 (rw z e));
        stand = stand-join number (stand-join (part-stands s first size l) t.stand);
      }
    where
      each : verdict (r i (form_of (part s first size))) (part s first size) ≡ Ok tt → (k : ℕ) → k < suc (length t.tables)
          → verdict (r (i + k) (form_of (get_or (part s first size ∷ t.tables) k []))) (get_or (part s first size ∷ t.tables) k []) ≡ Ok tt
      each a zero h = let z : i + 0 ≡ i = omega arith in rw z a
      each a (suc k) h = let z : i + suc k ≡ suc i + k = omega arith in rw z (t.each k (omega arith))

  tables-were : (m i at : ℕ) → tables_at r s m i at ≡ Ok tt → Tables r s m i at
  unfolding S.tables_at S.parts_of
  tables-were zero i at e =
      let g = guard_passed (eqb at (length s)) (λ _. Ok tt) refused-accepted e in
      let q : length s ≡ at = sym (eqb-true at (length s) g.0) in
      record { tables = []; count = refl; each = λ k l. absurd (omega arith); stand = rw q (stand-nil s at) }
  tables-were (suc m) i at e =
      let l = length-read s at Err _ (λ _. refused-accepted) e in
      let w = walk-went (table_end (r i (form_of (part s l.0 l.1))) (part s l.0 l.1)) _ _ (λ _. refused-accepted) l.4 in
      let g = guard_passed (eqb w.0 l.1) _ refused-accepted w.2 in
      let end = w.1 ∙ ap (λ (k : ℕ). Ok k) (eqb-true w.0 l.1 g.0) in
      first-table m i at l.0 l.1 l.2 l.3 end (tables-were m (suc i) (l.0 + l.1) g.1)

  tables-pass : (ts : List (List ℕ)) (i at : ℕ) → Every Short ts → ((k : ℕ) → k < length ts → verdict (r (i + k) (form_of (get_or ts k []))) (get_or ts k []) ≡ Ok tt)
      → Stands s at (parts_of ts) (length s) → tables_at r s (length ts) i at ≡ Ok tt
  unfolding S.tables_at S.parts_of E.Every
  tables-pass [] i at short each h = simp (eq-eqb at (length s) (omega (arith, h.end)))
  tables-pass (t ∷ ts) i at short each h =
      let f = front s at t ts (length s) short.0 h in
      let z : i + 0 ≡ i = omega arith in
      let end = (accepted-end (r i (form_of t)) t).0 (rw z at (each 0 (omega arith))) in
      simp (f.size, le-leb (f.first + length t) (length s) f.inside, f.is, end, eq-eqb (length t) (length t) refl)
      (tables-pass ts (suc i) (f.first + length t) short.1 (λ k l. let q : suc i + k ≡ i + suc k = omega arith in rw q (each (suc k) (omega arith))) f.behind)

-- ---- the whole file

-- accepted tables are short enough for their lengths to be read
shorts : (ts : List (List ℕ)) → ((k : ℕ) → k < length ts → Short (get_or ts k [])) → Every Short ts
unfolding E.Every
shorts [] h = tt
shorts (t ∷ ts) h = (h 0 (omega arith), shorts ts (λ k l. h (suc k) (omega arith)))

module _ (plant start : List ℕ) where
  module _ (t : Started plant start) where
    pub table-short : (i : ℕ) → i < length t.tables → length (get_or t.tables i []) ≤ 58_965
    table-short i h = let table = get_or t.tables i [] in over-box (form_of table) (form-known table) t.p (judged-sound plant t.p t.judged) _ _ (box-size t.p t.vs i) (get_or t.tables i []) (t.each i h)

    pub tables-short : Every Short t.tables
    tables-short = shorts t.tables (λ i h. omega (arith, table-short i h))

    pub tables-stand : Stands start t.next (parts_of t.tables) (length start)
    tables-stand = back-stands start (file_of (chain_form t.p.n) t.vs) (parts_of t.tables) t.next t.is (omega (arith, (writes-back (chain_form t.p.n) start 0 t.chain).1.end))

    started-accepted : start_checked plant start ≡ Ok tt
    unfolding S.start_checked
    started-accepted =
        rw (t.judged, t.chain, t.kept, ← t.count)
        (tables-pass (box_rules t.p t.vs) start t.tables 0 t.next tables-short (λ k h. rw zero-add (t.each k h)) tables-stand)

  accepted-started : start_checked plant start ≡ Ok tt → Started plant start
  unfolding S.start_checked
  accepted-started e =
      let a = plant-went Err (λ _. refused-accepted) (plant_judged plant) _ e in
      let p = a.0 in
      let b = chain-went Err (λ _. refused-accepted) p.n (root_of p) (safe_of p) (values_at (chain_form p.n) start 0) _ a.2 in
      of p a.1 b.0 b.1 b.2 b.3 (tables-were (box_rules p b.0) start (above b.0 + 1) 0 b.1 b.4)
    where
      of : (p : Plant) → plant_judged plant ≡ good p → (vs : List ℤ) (next : ℕ) → values_at (chain_form p.n) start 0 ≡ read vs next
          → all (tab (held p.n (root_of p) vs (safe_of p)) (above vs) 0) ≡ true → Tables (box_rules p vs) start (above vs + 1) 0 next → Started plant start
      of p q vs next c k t = record {
        p = p;
        judged = q;
        vs = vs;
        next = next;
        chain = c;
        kept = k;
        tables = t.tables;
        count = t.count;
        each = λ i h. rw zero-add at (t.each i h);
        is = (stand-join (writes-back (chain_form p.n) start 0 c).1 t.stand).bytes ∙ rw (drop-length start) (append-nil (start_of p.n vs t.tables));
      }

  pub start-checked-exactly : (start_checked plant start ≡ Ok tt) ↔ Started plant start
  start-checked-exactly = (accepted-started, started-accepted)

  -- ---- in one way

  pub record Alike (a b : Started plant start) : Type 0 where
    pub plants : a.p ≡ b.p
    pub chains : a.vs ≡ b.vs
    pub tables : a.tables ≡ b.tables

  pub started-alike : (a b : Started plant start) → Alike a b
  started-alike a b =
      let plants : a.p ≡ b.p = same_good (sym a.judged ∙ b.judged) in
      let read-both : read a.vs a.next ≡ read b.vs b.next = sym a.chain ∙ rw plants b.chain in
      let chains : a.vs ≡ b.vs = cc in
      let places : a.next ≡ b.next = cc in
      record {
        plants = plants;
        chains = chains;
        tables = parts-alike start a.tables b.tables a.next (length start) (length start) (tables-short a) (tables-short b)
            (a.count ∙ rw chains (sym b.count)) (tables-stand a) (rw places (tables-stand b));
      }
    where
      same_good : {p q : Plant} → good p ≡ good q → p ≡ q
      same_good e = cc
