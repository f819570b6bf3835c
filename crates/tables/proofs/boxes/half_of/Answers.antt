-- `boxes::half_of`: the sides that are done, with what the others say, are the whole child that holds the reading. Assumes nothing.
use mathlib.Core.Path.{◌≡◌, subst}
use Prim.Native.Nat.{ℕ, ◌<◌, ◌+◌, ◌*◌}
use native.Mathlib.Omega.{arith}
use lib.ListN.{length, set}
use lib.IntN.{ℤ}
use borrow.Author.Rules.{rules}
use mir.Facts.{to_z-of_z}
use Rattle.laws.specs.Integers.{ok64}
use Rattle.laws.specs.Lists.{at}
use Rattle.laws.specs.Expressions.{Ex, var, val, mach, under, down}
use Rattle.meaning.specs.Boxes.{side, halves}
use Rattle.meaning.specs.Plants.{edge_limit}
use Rattle.tables.specs.Boxes.{box_of, part_of, bit_of}
use Rattle.tables.proofs.boxes.Laws.{small-side, pow_small}
use Rattle.tables.proofs.boxes.HalfOf.{pow-most, Halfway, halfway-none, halfway-more, halfway-done, half_is}
use Rattle.tables.proofs.boxes.half_of.Goals as goal

pub loop-j-init : goal.loop-j-init
loop-j-init c =
    let a = c.args in
    halfway-none a.b.lo a.b.hi a.x a.b.lo a.b.hi a.n (search rules) (search rules)

pub part_of-e-requires : goal.part_of-e-requires
part_of-e-requires c =
    let low : (j : ℕ) → (h : j < c.args.n) → Ex = λ j. λ h. var (at c.args.b.lo j) edge_limit (small-side c.args.b.lo c.args.b.hi c.args.n j c.requires.1 h).low in
    let high : (j : ℕ) → (h : j < c.args.n) → Ex = λ j. λ h. var (at c.args.b.hi j) edge_limit (small-side c.args.b.lo c.args.b.hi c.args.n j c.requires.1 h).high in
    let l = c.loop-j in
    (under (low _ (omega arith)) edge_limit tt, under (high _ (omega arith)) edge_limit tt, omega (arith, pow_small l.j (omega arith), l.invariant.count_small))

pub loop-j-preserved : goal.loop-j-preserved
loop-j-preserved c =
    let low : (j : ℕ) → (h : j < c.args.n) → Ex = λ j. λ h. var (at c.args.b.lo j) edge_limit (small-side c.args.b.lo c.args.b.hi c.args.n j c.requires.1 h).low in
    let high : (j : ℕ) → (h : j < c.args.n) → Ex = λ j. λ h. var (at c.args.b.hi j) edge_limit (small-side c.args.b.lo c.args.b.hi c.args.n j c.requires.1 h).high in
    let here : ℕ = c.loop-j.j in
    let Parted : ℤ → ℤ → ℤ → Type 0 = λ l. λ h. λ v. let r = c.part_of-e.result in let k = c.loop-j.count in (side r.lo r.hi ≡ part_of (side l h) v) × (r.add ≡ k * bit_of (side l h) v) × (r.count ≡ k * length (halves (side l h))) in
    let Given : Type 0 = Parted (at c.args.b.lo here) (at c.args.b.hi here) (at c.args.x here) in
    let gave : here < c.args.n → Given = λ k. let l = low here k in let h = high here k in let v = to_z-of_z (ok64 (at c.args.x here) (omega arith)) in down (λ (z : ℤ). Parted z (val h) (at c.args.x here)) l tt (down (λ (z : ℤ). Parted (mach l) z (at c.args.x here)) h tt (subst (λ (z : ℤ). Parted (mach l) (mach h) z) v c.part_of-e.ensures)) in
    let more : here < c.args.n → Halfway c.args.b.lo c.args.b.hi c.args.x (set c.loop-j.kid.lo here c.part_of-e.result.lo) (set c.loop-j.kid.hi here c.part_of-e.result.hi) c.args.n (c.loop-j.number + c.part_of-e.result.add) c.part_of-e.result.count (here + 1) = λ k. let g = gave k in halfway-more c.loop-j.invariant k c.requires.0 _ _ _ _ g.0 g.1 g.2 in
    let e = c.part_of-e.result in
    rw (to_z-of_z (ok64 e.lo (omega arith)), to_z-of_z (ok64 e.hi (omega arith))) (more (omega arith))

pub returns : goal.returns
returns c =
    let l = c.loop-j in
    let a = c.args in
    let d = halfway-done l.invariant c.loop-j-test.false in
    half_is a.n (box_of a.n a.b) a.x _ c.requires.2 d.0 d.1 d.2 (omega (arith, l.invariant.count_small, pow-most l.j (omega arith)))
