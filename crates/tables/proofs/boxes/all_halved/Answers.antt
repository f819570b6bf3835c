-- `boxes::all_halved`: the sides that are done, and the child of the others by the bits that are left, are the whole child. Assumes nothing.
use mathlib.Core.Path.{◌≡◌, sym, ◌∙◌}
use Prim.Native.Nat.{ℕ, ◌<◌}
use native.Mathlib.Omega.{arith}
use lib.ListN.{length-set}
use lib.IntN.{ℤ}
use borrow.Author.Rules.{rules}
use mir.Facts.{to_z-of_z}
use Rattle.laws.specs.Integers.{ok64}
use Rattle.laws.specs.Lists.{at}
use Rattle.laws.specs.Expressions.{Ex, var, val, mach, under, down}
use Rattle.meaning.specs.Boxes.{side}
use Rattle.meaning.specs.Plants.{edge_limit}
use Rattle.tables.specs.Boxes.{box_of, piece_of, rest_of}
use Rattle.tables.proofs.boxes.Laws.{cut-none, children-at, small-side, cut-done, cut-more}
use Rattle.tables.proofs.boxes.all_halved.Goals as goal

pub loop-j-init : goal.loop-j-init
loop-j-init c =
    let a = c.args in
    (omega arith, search rules, search rules, cut-none a.b.lo a.b.hi a.b.lo a.b.hi a.n a.x)

pub half-e-requires : goal.half-e-requires
half-e-requires c =
    let low : (j : ℕ) → (h : j < c.args.n) → Ex = λ j. λ h. var (at c.args.b.lo j) edge_limit (small-side c.args.b.lo c.args.b.hi c.args.n j c.requires.1 h).low in
    let high : (j : ℕ) → (h : j < c.args.n) → Ex = λ j. λ h. var (at c.args.b.hi j) edge_limit (small-side c.args.b.lo c.args.b.hi c.args.n j c.requires.1 h).high in
    (under (low _ (omega arith)) edge_limit tt, under (high _ (omega arith)) edge_limit tt)

pub loop-j-preserved : goal.loop-j-preserved
loop-j-preserved c =
    let low : (j : ℕ) → (h : j < c.args.n) → Ex = λ j. λ h. var (at c.args.b.lo j) edge_limit (small-side c.args.b.lo c.args.b.hi c.args.n j c.requires.1 h).low in
    let high : (j : ℕ) → (h : j < c.args.n) → Ex = λ j. λ h. var (at c.args.b.hi j) edge_limit (small-side c.args.b.lo c.args.b.hi c.args.n j c.requires.1 h).high in
    let l = c.loop-j in
    let a = c.args in
    let e = c.half-e in
    let here : l.j < a.n = omega arith in
    let Halved : ℤ → ℤ → Type 0 = λ lo. λ hi. (side e.result.lo e.result.hi ≡ piece_of (side lo hi) l.bits) × (e.result.bits ≡ rest_of (side lo hi) l.bits) in
    let gave : Halved (at a.b.lo l.j) (at a.b.hi l.j) = down (λ (z : ℤ). Halved z (val (high l.j here))) (low l.j here) tt (down (λ (z : ℤ). Halved (mach (low l.j here)) z) (high l.j here) tt e.ensures) in (
      omega arith,
      simp length-set l.invariant.1,
      simp length-set l.invariant.2,
      cut-more a.b.lo a.b.hi l.kid.lo l.kid.hi a.n l.j l.bits _ _ _ _ here (omega arith) (omega arith)
          (rw (to_z-of_z (ok64 e.result.lo (omega arith)), to_z-of_z (ok64 e.result.hi (omega arith))) gave.0) gave.1 l.invariant.3,
    )

pub returns : goal.returns
returns c =
    let l = c.loop-j in
    let a = c.args in
    cut-done a.b.lo a.b.hi l.kid.lo l.kid.hi a.n l.j l.bits _ (omega arith) l.invariant.3
    ∙ sym (children-at (box_of a.n a.b) a.x c.requires.2)
