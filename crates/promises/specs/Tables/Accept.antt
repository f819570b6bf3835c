-- S6: the verdict accepts exactly the files that are the layout of a tree of sound shape whose tiles all work.
-- Over any rules whose numbers fit five bytes.
use Prim.Native.Nat.{ℕ}
use Rattle.std.specs.Prelude.{◌≡◌, refl, ◌↔◌, length, eqb, Ok, Err}
use Rattle.std.proofs.Math.Path.{sym, ap}
use Rattle.std.proofs.Common.{◌∙◌}
use mathlib.Core.List.{List, [], ◌++◌, append-nil, append_assoc}
use Rattle.std.proofs.Math.Seq.{drop-length}
use borrow.Author.Tests.{eqb-true, eq-eqb}
use Rattle.laws.specs.Guards.{guard}
use Rattle.laws.specs.Standing.{Stands, stand-join}
use Rattle.laws.specs.Tests.{never, guard_passed}
use Rattle.meaning.specs.Answers.{Verdict}
use Rattle.meaning.specs.declared.Refusal.{Refusal}
use Rattle.meaning.specs.Refusals.{bad_table}
use Rattle.meaning.specs.Numbers.{bytes_of}
use Rattle.meaning.specs.Rules.{Rules, rule}
use Rattle.meaning.specs.Trees.{Tree, tells, layout, table_of}
use Rattle.meaning.specs.Verdicts.{walk, header, table_end, verdict}
use Rattle.promises.specs.Tables.Laws.{Sizes}
use Rattle.promises.specs.Tables.Shapes.{Working, working-shaped}
use Rattle.promises.specs.Tables.Walking.{walk-went}
use Rattle.promises.specs.Tables.Layouts.{walk-stands, header-stands, walk-reads, headed, table-stands, table-header}

pub refused-accepted : {e : Refusal} → ◌≡◌ {A = Verdict} (Err e) (Ok tt) → ⊥
refused-accepted e = never cc

module _ (r : Rules) where
  open r use {root, form, n, D}

  -- a header and a tree that fill the file
  filled : (s : List ℕ) (at : ℕ) (t : Tree) → Stands s 0 (bytes_of form ++ bytes_of n) at → Stands s at (layout (tells form) t) (length s) → s ≡ table_of r t
  filled s at t h p =
      let head = bytes_of form ++ bytes_of n in
      let tree = layout (tells form) t in
      (stand-join h p).bytes ∙ rw (drop-length s, append-nil (head ++ tree)) (append_assoc (bytes_of form) (bytes_of n) tree)

  -- a table is accepted exactly where it ends with its file
  pub accepted-end : (s : List ℕ) → (verdict r s ≡ Ok tt) ↔ (table_end r s ≡ Ok (length s))
  unfolding verdict
  accepted-end s = (
    λ e.
        let w = walk-went (table_end r s) Err ended (λ _. refused-accepted) e in
        let g = guard_passed (eqb w.0 (length s)) (λ _. Ok tt) refused-accepted w.2 in
        w.1 ∙ ap (λ (m : ℕ). Ok m) (eqb-true w.0 (length s) g.0),
    λ e. simp (e, eq-eqb (length s) (length s) refl),
  )
    where
      ended : ℕ → Verdict
      ended m = guard (eqb m (length s)) (Err (bad_table m)) λ _. Ok tt

  accepted-is : (s : List ℕ) → verdict r s ≡ Ok tt → (t : Tree) × Working r t × (s ≡ table_of r t)
  accepted-is s e =
      let h = walk-went (header form n s) Err (λ at. walk r (rule r) D s at root) (λ _ z. never cc) ((accepted-end s).0 e) in
      let t = walk-stands r (rule r) D s h.0 root (length s) h.2 in
      (t.tree, t.over, filled s h.0 t.tree (header-stands form n s h.0 h.1) t.stand)

  module _ (sizes : Sizes r) where
    is-accepted : (t : Tree) → Working r t → verdict r (table_of r t) ≡ Ok tt
    unfolding verdict
    is-accepted t o =
        let s = table_of r t in
        let is = sym (append-nil s) in
        let w = walk-reads r sizes (rule r) t D s (headed form n) root (length s) o (sizes.lengths t (working-shaped r t o)) (table-stands r s [] t is).1 in
        simp (table-header r sizes s [] t is, w, eq-eqb (length s) (length s) refl)

    pub accepted-exactly : (s : List ℕ) → (verdict r s ≡ Ok tt) ↔ ((t : Tree) × Working r t × (s ≡ table_of r t))
    accepted-exactly s = (accepted-is s, λ w. let e : s ≡ table_of r w.0 = w.2 in rw e (is-accepted w.0 w.1))
