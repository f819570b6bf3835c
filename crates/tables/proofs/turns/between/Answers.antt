-- `turns::between`: lengths that are told are passed over, and others are written. Assumes nothing.
use Prim.Native.Nat.{ℕ}
use mathlib.Core.Path.{◌≡◌, sym, subst}
use mathlib.Core.Bool.{Bool, true, false}
use mathlib.Core.List.{List}
use native.Mathlib.Omega.{arith}
use Rattle.laws.specs.Writing.{put-none}
use Rattle.meaning.specs.Boxes.{Side}
use Rattle.meaning.specs.Tables.{children_by}
use Rattle.meaning.specs.Trees.{Forest}
use Rattle.tables.specs.Boxes.{box_of}
use Rattle.tables.specs.Turns.{TreesLie, SplitLies}
use Rattle.tables.proofs.turns.Laws.{told-behind}
use Rattle.tables.proofs.turns.between.Goals as goal

pub returns-then-told : goal.returns-then-told
returns-then-told c first g m l =
    let kids : List (List Side) = children_by c.args.f.form (box_of c.args.f.n c.args.b) in
    let Lies : Bool → ℕ → Forest → ℕ → Type 0 = λ told. SplitLies c.args.f told c.args.table.now c.args.d kids c.args.at in
    let e : c.args.told ≡ true = c.if-told.true in
    let k : Lies true first g m = subst (λ (t : Bool). Lies t first g m) e l in
    let n = c.requires.counts.2 in
    let w = told-behind c.args.f c.args.table.now c.args.d kids c.args.at first g m k in
    (c.passed.ensures first (rw n w), rw e (put-none c.args.buf.now c.args.to c.requires.place))

pub tell-requires : goal.tell-requires
tell-requires c =
    let kids : List (List Side) = children_by c.args.f.form (box_of c.args.f.n c.args.b) in
    let Lies : Bool → ℕ → Forest → ℕ → Type 0 = λ told. SplitLies c.args.f told c.args.table.now c.args.d kids c.args.at in
    let untold : c.args.told ≡ false → (first : ℕ) (g : Forest) (m : ℕ) → Lies c.args.told first g m → (first ≡ c.args.at) × TreesLie c.args.f false c.args.table.now c.args.d kids c.args.at g m = λ e. λ first. λ g. λ m. λ l. let k : Lies false first g m = subst (λ (t : Bool). Lies t first g m) e l in let q : first ≡ c.args.at = omega (arith, k.told-there.end) in (q, rw q at k.trees) in
    let l = c.requires.trees in
    let w = untold c.if-told.false l.0 l.1 l.2 l.3 in
    record { counts = c.requires.counts; trees = (l.1, l.2, w.1); place = c.requires.place }

pub returns : goal.returns
returns c first g m l =
    let kids : List (List Side) = children_by c.args.f.form (box_of c.args.f.n c.args.b) in
    let Lies : Bool → ℕ → Forest → ℕ → Type 0 = λ told. SplitLies c.args.f told c.args.table.now c.args.d kids c.args.at in
    let untold : c.args.told ≡ false → (first : ℕ) (g : Forest) (m : ℕ) → Lies c.args.told first g m → (first ≡ c.args.at) × TreesLie c.args.f false c.args.table.now c.args.d kids c.args.at g m = λ e. λ first. λ g. λ m. λ l. let k : Lies false first g m = subst (λ (t : Bool). Lies t first g m) e l in let q : first ≡ c.args.at = omega (arith, k.told-there.end) in (q, rw q at k.trees) in
    let e : c.args.told ≡ false = c.if-told.false in
    let w = untold e first g m l in
    (sym w.0, rw e (c.tell.ensures g m w.1))
