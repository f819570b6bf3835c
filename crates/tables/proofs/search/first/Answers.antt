-- `search::first`: what is left of the path says what the length says, and what is left of the lengths says what the search says. Assumes nothing.
use Prim.Native.Nat.{ℕ, ◌+◌, ◌-◌, ◌<◌}
use mathlib.Core.Path.{◌≡◌, refl, sym, ◌∙◌}
use mathlib.Core.Bool.{true, false}
use mathlib.Core.List.{List}
use mathlib.Core.Option.{Option}
use native.Mathlib.Omega.{arith}
use native.Mathlib.Numerals.{add-one}
use lib.IntN.{ℤ}
use lib.ListN.{length-set}
use Rattle.meaning.specs.Plants.{edge_limit}
use Rattle.tables.specs.Boxes.{box_of, Small}
use Rattle.tables.specs.Levels.{level_in}
use Rattle.tables.specs.Search.{Moves, moves_lent, sought}
use Rattle.tables.specs.Tiles.{longest_pattern, mode_at}
use Rattle.tables.proofs.search.Laws.{lengths-done, lengths-found, lengths-next}
use Rattle.tables.proofs.search.Paths.{Along, turns_along, along-start, along-done, along-up, along-found, along-none, along-on, along-down}
use Rattle.tables.proofs.search.first.Goals as goal

pub loop-u-init : goal.loop-u-init
loop-u-init c =
    let box-is : level_in c.args.n c.search.boxes 0 ≡ box_of c.args.n c.args.b = c.search.invariant.2 ∙ c.begin.ensures.0 in
    let small : Small edge_limit (level_in c.args.n c.search.boxes 0) = rw box-is c.requires.2 in
    let a = c.args in
    (refl, along-start a.n a.count a.q a.bands.now a.coef.now a.limits.now c.search.m c.search.boxes c.search.us c.search.invariant.1 small, c.search.invariant.4)

pub overflow_add-u : goal.overflow_add-u
overflow_add-u c =
    let moves : Moves = let a = c.args in moves_lent a.n a.count a.q a.bands.now a.coef.now a.limits.now in
    let whole : Option (List ℕ) = sought moves c.search.m (level_in c.args.n c.search.boxes 0) in
    let Turned : List ℤ → List ℕ → ℕ → ℕ → Type 0 = λ boxes. λ us. λ l. λ u. let a = c.args in let m = c.search.m in let v = c.loop-u in Along a.n a.count a.q a.bands.now a.coef.now a.limits.now m whole boxes us l u × (turns_along a.n a.count a.q a.bands.now a.coef.now a.limits.now m boxes us l u < turns_along a.n a.count a.q a.bands.now a.coef.now a.limits.now m v.boxes v.us v.l v.u) in
    let up : let l = c.loop-u in Turned l.boxes l.us (l.l - 1) (mode_at l.us (l.l - 1) + 1) = let a = c.args in let l = c.loop-u in let e = c.if-u-count.true in along-up a.n a.count a.q a.bands.now a.coef.now a.limits.now c.search.m l.boxes l.us whole l.l l.u c.if-l-eq0.false (omega arith) l.invariant.1 in
    let h = up.0.top in omega arith

pub loop-u-smaller-then-u-count : goal.loop-u-smaller-then-u-count
loop-u-smaller-then-u-count c =
    let moves : Moves = let a = c.args in moves_lent a.n a.count a.q a.bands.now a.coef.now a.limits.now in
    let whole : Option (List ℕ) = sought moves c.search.m (level_in c.args.n c.search.boxes 0) in
    let Turned : List ℤ → List ℕ → ℕ → ℕ → Type 0 = λ boxes. λ us. λ l. λ u. let a = c.args in let m = c.search.m in let v = c.loop-u in Along a.n a.count a.q a.bands.now a.coef.now a.limits.now m whole boxes us l u × (turns_along a.n a.count a.q a.bands.now a.coef.now a.limits.now m boxes us l u < turns_along a.n a.count a.q a.bands.now a.coef.now a.limits.now m v.boxes v.us v.l v.u) in
    let up : let l = c.loop-u in Turned l.boxes l.us (l.l - 1) (mode_at l.us (l.l - 1) + 1) = let a = c.args in let l = c.loop-u in let e = c.if-u-count.true in along-up a.n a.count a.q a.bands.now a.coef.now a.limits.now c.search.m l.boxes l.us whole l.l l.u c.if-l-eq0.false (omega arith) l.invariant.1 in
    up.1

pub loop-u-preserved-then-u-count : goal.loop-u-preserved-then-u-count
loop-u-preserved-then-u-count c =
    let moves : Moves = let a = c.args in moves_lent a.n a.count a.q a.bands.now a.coef.now a.limits.now in
    let whole : Option (List ℕ) = sought moves c.search.m (level_in c.args.n c.search.boxes 0) in
    let Turned : List ℤ → List ℕ → ℕ → ℕ → Type 0 = λ boxes. λ us. λ l. λ u. let a = c.args in let m = c.search.m in let v = c.loop-u in Along a.n a.count a.q a.bands.now a.coef.now a.limits.now m whole boxes us l u × (turns_along a.n a.count a.q a.bands.now a.coef.now a.limits.now m boxes us l u < turns_along a.n a.count a.q a.bands.now a.coef.now a.limits.now m v.boxes v.us v.l v.u) in
    let up : let l = c.loop-u in Turned l.boxes l.us (l.l - 1) (mode_at l.us (l.l - 1) + 1) = let a = c.args in let l = c.loop-u in let e = c.if-u-count.true in along-up a.n a.count a.q a.bands.now a.coef.now a.limits.now c.search.m l.boxes l.us whole l.l l.u c.if-l-eq0.false (omega arith) l.invariant.1 in
    let l = c.loop-u in (l.invariant.0, up.0, l.invariant.2)

pub loop-u-smaller-then-l-m : goal.loop-u-smaller-then-l-m
loop-u-smaller-then-l-m c =
    let moves : Moves = let a = c.args in moves_lent a.n a.count a.q a.bands.now a.coef.now a.limits.now in
    let whole : Option (List ℕ) = sought moves c.search.m (level_in c.args.n c.search.boxes 0) in
    let Turned : List ℤ → List ℕ → ℕ → ℕ → Type 0 = λ boxes. λ us. λ l. λ u. let a = c.args in let m = c.search.m in let v = c.loop-u in Along a.n a.count a.q a.bands.now a.coef.now a.limits.now m whole boxes us l u × (turns_along a.n a.count a.q a.bands.now a.coef.now a.limits.now m boxes us l u < turns_along a.n a.count a.q a.bands.now a.coef.now a.limits.now m v.boxes v.us v.l v.u) in
    let found : ℕ = c.args.count in
    let not_done : c.loop-u.u < c.args.count = let h = c.loop-u.invariant.1.top in let z = c.if-u-count.false in omega arith in
    let none-lands : (let l = c.loop-u in Turned l.boxes l.us l.l found) = let a = c.args in let l = c.loop-u in along-none a.n a.count a.q a.bands.now a.coef.now a.limits.now c.search.m l.boxes l.us whole l.l l.u found c.if-l-m.true l.invariant.1 not_done c.in_default.ensures.none (omega arith) (omega arith) in
    none-lands.1

pub loop-u-preserved-then-l-m : goal.loop-u-preserved-then-l-m
loop-u-preserved-then-l-m c =
    let moves : Moves = let a = c.args in moves_lent a.n a.count a.q a.bands.now a.coef.now a.limits.now in
    let whole : Option (List ℕ) = sought moves c.search.m (level_in c.args.n c.search.boxes 0) in
    let Turned : List ℤ → List ℕ → ℕ → ℕ → Type 0 = λ boxes. λ us. λ l. λ u. let a = c.args in let m = c.search.m in let v = c.loop-u in Along a.n a.count a.q a.bands.now a.coef.now a.limits.now m whole boxes us l u × (turns_along a.n a.count a.q a.bands.now a.coef.now a.limits.now m boxes us l u < turns_along a.n a.count a.q a.bands.now a.coef.now a.limits.now m v.boxes v.us v.l v.u) in
    let found : ℕ = c.args.count in
    let not_done : c.loop-u.u < c.args.count = let h = c.loop-u.invariant.1.top in let z = c.if-u-count.false in omega arith in
    let none-lands : (let l = c.loop-u in Turned l.boxes l.us l.l found) = let a = c.args in let l = c.loop-u in along-none a.n a.count a.q a.bands.now a.coef.now a.limits.now c.search.m l.boxes l.us whole l.l l.u found c.if-l-m.true l.invariant.1 not_done c.in_default.ensures.none (omega arith) (omega arith) in
    let l = c.loop-u in (l.invariant.0, none-lands.0, l.invariant.2)

pub loop-u-smaller-then-descend : goal.loop-u-smaller-then-descend
loop-u-smaller-then-descend c =
    let moves : Moves = let a = c.args in moves_lent a.n a.count a.q a.bands.now a.coef.now a.limits.now in
    let whole : Option (List ℕ) = sought moves c.search.m (level_in c.args.n c.search.boxes 0) in
    let Turned : List ℤ → List ℕ → ℕ → ℕ → Type 0 = λ boxes. λ us. λ l. λ u. let a = c.args in let m = c.search.m in let v = c.loop-u in Along a.n a.count a.q a.bands.now a.coef.now a.limits.now m whole boxes us l u × (turns_along a.n a.count a.q a.bands.now a.coef.now a.limits.now m boxes us l u < turns_along a.n a.count a.q a.bands.now a.coef.now a.limits.now m v.boxes v.us v.l v.u) in
    let us-after : List ℕ = c.descend.new.us in
    let boxes-after : List ℤ = c.descend.new.boxes in
    let below_last : c.loop-u.u < c.args.count = let h = c.loop-u.invariant.1.top in let z = c.if-u-count.false in omega arith in
    let down : c.descend.result ≡ true → Turned boxes-after us-after (c.loop-u.l + 1) 0 = λ e. let a = c.args in let l = c.loop-u in let new = c.descend.ensures.new e in along-down a.n a.count a.q a.bands.now a.coef.now a.limits.now c.search.m whole l.boxes l.us l.l l.u l.invariant.1 below_last c.if-l-m.false boxes-after us-after c.descend.ensures.same c.descend.ensures.standing (sym e ∙ c.descend.ensures.stays) new.0 new.1 c.requires.0 in
    (down c.if-descend.true).1

pub loop-u-preserved-then-descend : goal.loop-u-preserved-then-descend
loop-u-preserved-then-descend c =
    let moves : Moves = let a = c.args in moves_lent a.n a.count a.q a.bands.now a.coef.now a.limits.now in
    let whole : Option (List ℕ) = sought moves c.search.m (level_in c.args.n c.search.boxes 0) in
    let Turned : List ℤ → List ℕ → ℕ → ℕ → Type 0 = λ boxes. λ us. λ l. λ u. let a = c.args in let m = c.search.m in let v = c.loop-u in Along a.n a.count a.q a.bands.now a.coef.now a.limits.now m whole boxes us l u × (turns_along a.n a.count a.q a.bands.now a.coef.now a.limits.now m boxes us l u < turns_along a.n a.count a.q a.bands.now a.coef.now a.limits.now m v.boxes v.us v.l v.u) in
    let us-after : List ℕ = c.descend.new.us in
    let boxes-after : List ℤ = c.descend.new.boxes in
    let below_last : c.loop-u.u < c.args.count = let h = c.loop-u.invariant.1.top in let z = c.if-u-count.false in omega arith in
    let down : c.descend.result ≡ true → Turned boxes-after us-after (c.loop-u.l + 1) 0 = λ e. let a = c.args in let l = c.loop-u in let new = c.descend.ensures.new e in along-down a.n a.count a.q a.bands.now a.coef.now a.limits.now c.search.m whole l.boxes l.us l.l l.u l.invariant.1 below_last c.if-l-m.false boxes-after us-after c.descend.ensures.same c.descend.ensures.standing (sym e ∙ c.descend.ensures.stays) new.0 new.1 c.requires.0 in
    let front_same : level_in c.args.n boxes-after 0 ≡ level_in c.args.n c.search.boxes 0 = c.descend.ensures.same.boxes-same 0 (omega arith) ∙ c.loop-u.invariant.0 in
    (front_same, (down c.if-descend.true).0, c.loop-u.invariant.2)

pub loop-u-smaller : goal.loop-u-smaller
loop-u-smaller c =
    let moves : Moves = let a = c.args in moves_lent a.n a.count a.q a.bands.now a.coef.now a.limits.now in
    let whole : Option (List ℕ) = sought moves c.search.m (level_in c.args.n c.search.boxes 0) in
    let Turned : List ℤ → List ℕ → ℕ → ℕ → Type 0 = λ boxes. λ us. λ l. λ u. let a = c.args in let m = c.search.m in let v = c.loop-u in Along a.n a.count a.q a.bands.now a.coef.now a.limits.now m whole boxes us l u × (turns_along a.n a.count a.q a.bands.now a.coef.now a.limits.now m boxes us l u < turns_along a.n a.count a.q a.bands.now a.coef.now a.limits.now m v.boxes v.us v.l v.u) in
    let us-after : List ℕ = c.descend.new.us in
    let boxes-after : List ℤ = c.descend.new.boxes in
    let below_last : c.loop-u.u < c.args.count = let h = c.loop-u.invariant.1.top in let z = c.if-u-count.false in omega arith in
    let on : c.descend.result ≡ false → Turned boxes-after us-after c.loop-u.l (c.loop-u.u + 1) = λ e. let a = c.args in let l = c.loop-u in along-on a.n a.count a.q a.bands.now a.coef.now a.limits.now c.search.m whole l.boxes l.us l.l l.u l.invariant.1 below_last c.if-l-m.false boxes-after us-after c.descend.ensures.same c.descend.ensures.standing (sym e ∙ c.descend.ensures.stays) in
    (on c.if-descend.false).1

pub loop-u-preserved : goal.loop-u-preserved
loop-u-preserved c =
    let moves : Moves = let a = c.args in moves_lent a.n a.count a.q a.bands.now a.coef.now a.limits.now in
    let whole : Option (List ℕ) = sought moves c.search.m (level_in c.args.n c.search.boxes 0) in
    let Turned : List ℤ → List ℕ → ℕ → ℕ → Type 0 = λ boxes. λ us. λ l. λ u. let a = c.args in let m = c.search.m in let v = c.loop-u in Along a.n a.count a.q a.bands.now a.coef.now a.limits.now m whole boxes us l u × (turns_along a.n a.count a.q a.bands.now a.coef.now a.limits.now m boxes us l u < turns_along a.n a.count a.q a.bands.now a.coef.now a.limits.now m v.boxes v.us v.l v.u) in
    let us-after : List ℕ = c.descend.new.us in
    let boxes-after : List ℤ = c.descend.new.boxes in
    let below_last : c.loop-u.u < c.args.count = let h = c.loop-u.invariant.1.top in let z = c.if-u-count.false in omega arith in
    let on : c.descend.result ≡ false → Turned boxes-after us-after c.loop-u.l (c.loop-u.u + 1) = λ e. let a = c.args in let l = c.loop-u in along-on a.n a.count a.q a.bands.now a.coef.now a.limits.now c.search.m whole l.boxes l.us l.l l.u l.invariant.1 below_last c.if-l-m.false boxes-after us-after c.descend.ensures.same c.descend.ensures.standing (sym e ∙ c.descend.ensures.stays) in
    let front_same : level_in c.args.n boxes-after 0 ≡ level_in c.args.n c.search.boxes 0 = c.descend.ensures.same.boxes-same 0 (omega arith) ∙ c.loop-u.invariant.0 in
    (front_same, (on c.if-descend.false).0, c.loop-u.invariant.2)

pub search-preserved : goal.search-preserved
search-preserved c =
    let moves : Moves = let a = c.args in moves_lent a.n a.count a.q a.bands.now a.coef.now a.limits.now in
    let whole : Option (List ℕ) = sought moves c.search.m (level_in c.args.n c.search.boxes 0) in
    let a = c.args in
    let l = c.loop-u in
    let m = c.search.m in
    let h = c.search-test.true in
    let e = c.if-u-count.true in
    let none-there = along-done a.n a.count a.q a.bands.now a.coef.now a.limits.now m l.boxes l.us whole l.l l.u c.if-l-eq0.true (omega arith) l.invariant.1 in (
      omega arith,
      l.invariant.1.standing,
      l.invariant.0 ∙ c.search.invariant.2,
      lengths-next moves a.k _ m _ c.search.invariant.3 h (rw c.search.invariant.2 at none-there),
      l.invariant.2,
    )

pub returns-after-search : goal.returns-after-search
returns-after-search c =
    let moves : Moves = let a = c.args in moves_lent a.n a.count a.q a.bands.now a.coef.now a.limits.now in
    let a = c.args in
    let e = c.begin.ensures.0 in record { pattern = rw (c.search.invariant.4, ← e) (lengths-done moves a.k _ c.search.m _ c.search.invariant.3 c.search-test.false); size = (omega arith, c.search.invariant.1.long) }

pub returns-in-Some : goal.returns-in-Some
returns-in-Some c =
    let moves : Moves = let a = c.args in moves_lent a.n a.count a.q a.bands.now a.coef.now a.limits.now in
    let few : c.search.m < longest_pattern = let h = c.search-test.true in let k = c.requires.1 in omega arith in
    let whole : Option (List ℕ) = sought moves c.search.m (level_in c.args.n c.search.boxes 0) in
    let found : ℕ = c.in-Some.v in
    let not_done : c.loop-u.u < c.args.count = let h = c.loop-u.invariant.1.top in let z = c.if-u-count.false in omega arith in
    let a = c.args in
    let l = c.loop-u in
    let m = c.search.m in
    let q = c.if-l-m.true in
    let h = few in
    let e = c.begin.ensures.0 in
    let there =
    along-found a.n a.count a.q a.bands.now a.coef.now a.limits.now m l.boxes l.us whole l.l l.u found q l.invariant.1 not_done c.in-Some.ensures.found.1 (omega arith) c.in-Some.ensures.found.0 in record { pattern = rw (add-one, ← e) (lengths-found moves a.k _ m _ c.search.invariant.3 c.search-test.true _ (rw (add-one, c.search.invariant.2) at (sym there))); size = (omega arith, length-set l.us l.l found ∙ l.invariant.1.standing.long) }
