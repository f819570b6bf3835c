-- `images::extremes`: the sums of the first rooms, one room more at each call. Assumes nothing.
use Prim.Native.Nat.{ℕ, ◌+◌, ◌≤◌, ◌<◌}
use mathlib.Core.Path.{◌≡◌}
use native.Mathlib.Omega.{arith}
use lib.IntN.{ℤ, pos, nat_abs, ◌+ℤ◌}
use lib.ListN.{length}
use Rattle.laws.specs.Lists.{tab}
use Rattle.meaning.specs.Boxes.{Side, side_at}
use Rattle.meaning.specs.Images.{least_of, greatest_of}
use Rattle.meaning.specs.Plants.{edge_limit, entry_limit}
use Rattle.promises.specs.Files.Sound.{Bounded}
use Rattle.tables.specs.Images.{row_limit, entry_at, Extremes}
use Rattle.tables.proofs.images.Laws.{Sums, sums_none, sums-more, sums-done, sums-place, sums-asked}
use Rattle.tables.proofs.images.extremes.Goals as goal

pub more-one-requires : goal.more-one-requires
more-one-requires c =
    let sides : ℕ → Side = side_at c.args.lo.now c.args.hi.now in
    let entries : ℕ → ℤ = entry_at c.args.coef.now c.args.start in
    let Summed : ℕ → ℤ → ℤ → Type 0 = Sums c.args.n c.args.coef.now c.args.start sides in
    let none : Summed 0 (pos 0) (pos 0) = sums_none c.args.n c.args.coef.now c.args.start sides in
    let asks : (j : ℕ) → j < c.args.n → (lo hi : ℤ) → Summed j lo hi → ((j < 4) × (c.args.start + j < length c.args.coef.now)) × (((nat_abs (entries j) ≤ entry_limit) × Bounded edge_limit (sides j)) × ((nat_abs lo ≤ row_limit) × (nat_abs hi ≤ row_limit))) = λ j. λ h. λ lo. λ hi. λ w. let p = sums-place c.args.n c.args.coef.now c.args.start sides c.requires.0 c.requires.1 j h in ((p.0, p.1), sums-asked c.args.n c.args.coef.now c.args.start sides c.requires.0 c.requires.1 j h lo hi w) in
    let whole = asks 0 c.requires.0.some _ _ none in record { place = whole.0; entry = whole.1.0; sums = whole.1.1 }

pub returns-then-n-eq1 : goal.returns-then-n-eq1
returns-then-n-eq1 c =
    let sides : ℕ → Side = side_at c.args.lo.now c.args.hi.now in
    let entries : ℕ → ℤ = entry_at c.args.coef.now c.args.start in
    let Summed : ℕ → ℤ → ℤ → Type 0 = Sums c.args.n c.args.coef.now c.args.start sides in
    let none : Summed 0 (pos 0) (pos 0) = sums_none c.args.n c.args.coef.now c.args.start sides in
    let summed : (j : ℕ) → j < c.args.n → (x y lo hi : ℤ) → Summed j x y → (lo ≡ x +ℤ least_of (entries j) (sides j)) × (hi ≡ y +ℤ greatest_of (entries j) (sides j)) → Summed (j + 1) lo hi = sums-more c.args.n c.args.coef.now c.args.start sides c.requires.0 c.requires.1 in
    let done : (j : ℕ) (lo hi : ℤ) → c.args.n ≡ j → j ≤ 4 → Summed j lo hi → Extremes (tab entries c.args.n 0) (tab sides c.args.n 0) lo hi = sums-done c.args.n c.args.coef.now c.args.start sides in
    let one : Summed 1 c.more-one.result.lo c.more-one.result.hi = summed 0 c.requires.0.some _ _ c.more-one.result.lo c.more-one.result.hi none (c.more-one.ensures.least, c.more-one.ensures.greatest) in
    done 1 _ _ c.if-n-eq1.true (omega arith) one

pub more-two-requires : goal.more-two-requires
more-two-requires c =
    let sides : ℕ → Side = side_at c.args.lo.now c.args.hi.now in
    let entries : ℕ → ℤ = entry_at c.args.coef.now c.args.start in
    let Summed : ℕ → ℤ → ℤ → Type 0 = Sums c.args.n c.args.coef.now c.args.start sides in
    let none : Summed 0 (pos 0) (pos 0) = sums_none c.args.n c.args.coef.now c.args.start sides in
    let summed : (j : ℕ) → j < c.args.n → (x y lo hi : ℤ) → Summed j x y → (lo ≡ x +ℤ least_of (entries j) (sides j)) × (hi ≡ y +ℤ greatest_of (entries j) (sides j)) → Summed (j + 1) lo hi = sums-more c.args.n c.args.coef.now c.args.start sides c.requires.0 c.requires.1 in
    let asks : (j : ℕ) → j < c.args.n → (lo hi : ℤ) → Summed j lo hi → ((j < 4) × (c.args.start + j < length c.args.coef.now)) × (((nat_abs (entries j) ≤ entry_limit) × Bounded edge_limit (sides j)) × ((nat_abs lo ≤ row_limit) × (nat_abs hi ≤ row_limit))) = λ j. λ h. λ lo. λ hi. λ w. let p = sums-place c.args.n c.args.coef.now c.args.start sides c.requires.0 c.requires.1 j h in ((p.0, p.1), sums-asked c.args.n c.args.coef.now c.args.start sides c.requires.0 c.requires.1 j h lo hi w) in
    let one : Summed 1 c.more-one.result.lo c.more-one.result.hi = summed 0 c.requires.0.some _ _ c.more-one.result.lo c.more-one.result.hi none (c.more-one.ensures.least, c.more-one.ensures.greatest) in
    let e = c.if-n-eq1.false in
    let k = c.requires.0.some in
    let whole = asks 1 (omega arith) _ _ one in
    record { place = whole.0; entry = whole.1.0; sums = whole.1.1 }

pub returns-then-n-eq2 : goal.returns-then-n-eq2
returns-then-n-eq2 c =
    let sides : ℕ → Side = side_at c.args.lo.now c.args.hi.now in
    let entries : ℕ → ℤ = entry_at c.args.coef.now c.args.start in
    let Summed : ℕ → ℤ → ℤ → Type 0 = Sums c.args.n c.args.coef.now c.args.start sides in
    let none : Summed 0 (pos 0) (pos 0) = sums_none c.args.n c.args.coef.now c.args.start sides in
    let summed : (j : ℕ) → j < c.args.n → (x y lo hi : ℤ) → Summed j x y → (lo ≡ x +ℤ least_of (entries j) (sides j)) × (hi ≡ y +ℤ greatest_of (entries j) (sides j)) → Summed (j + 1) lo hi = sums-more c.args.n c.args.coef.now c.args.start sides c.requires.0 c.requires.1 in
    let done : (j : ℕ) (lo hi : ℤ) → c.args.n ≡ j → j ≤ 4 → Summed j lo hi → Extremes (tab entries c.args.n 0) (tab sides c.args.n 0) lo hi = sums-done c.args.n c.args.coef.now c.args.start sides in
    let one : Summed 1 c.more-one.result.lo c.more-one.result.hi = summed 0 c.requires.0.some _ _ c.more-one.result.lo c.more-one.result.hi none (c.more-one.ensures.least, c.more-one.ensures.greatest) in
    let two : Summed 2 c.more-two.result.lo c.more-two.result.hi = let e = c.if-n-eq1.false in let k = c.requires.0.some in summed 1 (omega arith) _ _ c.more-two.result.lo c.more-two.result.hi one (c.more-two.ensures.least, c.more-two.ensures.greatest) in
    done 2 _ _ c.if-n-eq2.true (omega arith) two

pub more-three-requires : goal.more-three-requires
more-three-requires c =
    let sides : ℕ → Side = side_at c.args.lo.now c.args.hi.now in
    let entries : ℕ → ℤ = entry_at c.args.coef.now c.args.start in
    let Summed : ℕ → ℤ → ℤ → Type 0 = Sums c.args.n c.args.coef.now c.args.start sides in
    let none : Summed 0 (pos 0) (pos 0) = sums_none c.args.n c.args.coef.now c.args.start sides in
    let summed : (j : ℕ) → j < c.args.n → (x y lo hi : ℤ) → Summed j x y → (lo ≡ x +ℤ least_of (entries j) (sides j)) × (hi ≡ y +ℤ greatest_of (entries j) (sides j)) → Summed (j + 1) lo hi = sums-more c.args.n c.args.coef.now c.args.start sides c.requires.0 c.requires.1 in
    let asks : (j : ℕ) → j < c.args.n → (lo hi : ℤ) → Summed j lo hi → ((j < 4) × (c.args.start + j < length c.args.coef.now)) × (((nat_abs (entries j) ≤ entry_limit) × Bounded edge_limit (sides j)) × ((nat_abs lo ≤ row_limit) × (nat_abs hi ≤ row_limit))) = λ j. λ h. λ lo. λ hi. λ w. let p = sums-place c.args.n c.args.coef.now c.args.start sides c.requires.0 c.requires.1 j h in ((p.0, p.1), sums-asked c.args.n c.args.coef.now c.args.start sides c.requires.0 c.requires.1 j h lo hi w) in
    let one : Summed 1 c.more-one.result.lo c.more-one.result.hi = summed 0 c.requires.0.some _ _ c.more-one.result.lo c.more-one.result.hi none (c.more-one.ensures.least, c.more-one.ensures.greatest) in
    let two : Summed 2 c.more-two.result.lo c.more-two.result.hi = let e = c.if-n-eq1.false in let k = c.requires.0.some in summed 1 (omega arith) _ _ c.more-two.result.lo c.more-two.result.hi one (c.more-two.ensures.least, c.more-two.ensures.greatest) in
    let e = c.if-n-eq2.false in
    let f = c.if-n-eq1.false in
    let k = c.requires.0.some in
    let whole = asks 2 (omega arith) _ _ two in
    record { place = whole.0; entry = whole.1.0; sums = whole.1.1 }

pub returns-then-n-eq3 : goal.returns-then-n-eq3
returns-then-n-eq3 c =
    let sides : ℕ → Side = side_at c.args.lo.now c.args.hi.now in
    let entries : ℕ → ℤ = entry_at c.args.coef.now c.args.start in
    let Summed : ℕ → ℤ → ℤ → Type 0 = Sums c.args.n c.args.coef.now c.args.start sides in
    let none : Summed 0 (pos 0) (pos 0) = sums_none c.args.n c.args.coef.now c.args.start sides in
    let summed : (j : ℕ) → j < c.args.n → (x y lo hi : ℤ) → Summed j x y → (lo ≡ x +ℤ least_of (entries j) (sides j)) × (hi ≡ y +ℤ greatest_of (entries j) (sides j)) → Summed (j + 1) lo hi = sums-more c.args.n c.args.coef.now c.args.start sides c.requires.0 c.requires.1 in
    let done : (j : ℕ) (lo hi : ℤ) → c.args.n ≡ j → j ≤ 4 → Summed j lo hi → Extremes (tab entries c.args.n 0) (tab sides c.args.n 0) lo hi = sums-done c.args.n c.args.coef.now c.args.start sides in
    let one : Summed 1 c.more-one.result.lo c.more-one.result.hi = summed 0 c.requires.0.some _ _ c.more-one.result.lo c.more-one.result.hi none (c.more-one.ensures.least, c.more-one.ensures.greatest) in
    let two : Summed 2 c.more-two.result.lo c.more-two.result.hi = let e = c.if-n-eq1.false in let k = c.requires.0.some in summed 1 (omega arith) _ _ c.more-two.result.lo c.more-two.result.hi one (c.more-two.ensures.least, c.more-two.ensures.greatest) in
    let three : Summed 3 c.more-three.result.lo c.more-three.result.hi = let e = c.if-n-eq2.false in let f = c.if-n-eq1.false in let k = c.requires.0.some in summed 2 (omega arith) _ _ c.more-three.result.lo c.more-three.result.hi two (c.more-three.ensures.least, c.more-three.ensures.greatest) in
    done 3 _ _ c.if-n-eq3.true (omega arith) three

pub more-requires : goal.more-requires
more-requires c =
    let sides : ℕ → Side = side_at c.args.lo.now c.args.hi.now in
    let entries : ℕ → ℤ = entry_at c.args.coef.now c.args.start in
    let Summed : ℕ → ℤ → ℤ → Type 0 = Sums c.args.n c.args.coef.now c.args.start sides in
    let none : Summed 0 (pos 0) (pos 0) = sums_none c.args.n c.args.coef.now c.args.start sides in
    let summed : (j : ℕ) → j < c.args.n → (x y lo hi : ℤ) → Summed j x y → (lo ≡ x +ℤ least_of (entries j) (sides j)) × (hi ≡ y +ℤ greatest_of (entries j) (sides j)) → Summed (j + 1) lo hi = sums-more c.args.n c.args.coef.now c.args.start sides c.requires.0 c.requires.1 in
    let asks : (j : ℕ) → j < c.args.n → (lo hi : ℤ) → Summed j lo hi → ((j < 4) × (c.args.start + j < length c.args.coef.now)) × (((nat_abs (entries j) ≤ entry_limit) × Bounded edge_limit (sides j)) × ((nat_abs lo ≤ row_limit) × (nat_abs hi ≤ row_limit))) = λ j. λ h. λ lo. λ hi. λ w. let p = sums-place c.args.n c.args.coef.now c.args.start sides c.requires.0 c.requires.1 j h in ((p.0, p.1), sums-asked c.args.n c.args.coef.now c.args.start sides c.requires.0 c.requires.1 j h lo hi w) in
    let one : Summed 1 c.more-one.result.lo c.more-one.result.hi = summed 0 c.requires.0.some _ _ c.more-one.result.lo c.more-one.result.hi none (c.more-one.ensures.least, c.more-one.ensures.greatest) in
    let two : Summed 2 c.more-two.result.lo c.more-two.result.hi = let e = c.if-n-eq1.false in let k = c.requires.0.some in summed 1 (omega arith) _ _ c.more-two.result.lo c.more-two.result.hi one (c.more-two.ensures.least, c.more-two.ensures.greatest) in
    let three : Summed 3 c.more-three.result.lo c.more-three.result.hi = let e = c.if-n-eq2.false in let f = c.if-n-eq1.false in let k = c.requires.0.some in summed 2 (omega arith) _ _ c.more-three.result.lo c.more-three.result.hi two (c.more-three.ensures.least, c.more-three.ensures.greatest) in
    let e = c.if-n-eq3.false in
    let f = c.if-n-eq2.false in
    let g = c.if-n-eq1.false in
    let k = c.requires.0.some in
    let whole = asks 3 (omega arith) _ _ three in
    record { place = whole.0; entry = whole.1.0; sums = whole.1.1 }

pub returns : goal.returns
returns c =
    let sides : ℕ → Side = side_at c.args.lo.now c.args.hi.now in
    let entries : ℕ → ℤ = entry_at c.args.coef.now c.args.start in
    let Summed : ℕ → ℤ → ℤ → Type 0 = Sums c.args.n c.args.coef.now c.args.start sides in
    let none : Summed 0 (pos 0) (pos 0) = sums_none c.args.n c.args.coef.now c.args.start sides in
    let summed : (j : ℕ) → j < c.args.n → (x y lo hi : ℤ) → Summed j x y → (lo ≡ x +ℤ least_of (entries j) (sides j)) × (hi ≡ y +ℤ greatest_of (entries j) (sides j)) → Summed (j + 1) lo hi = sums-more c.args.n c.args.coef.now c.args.start sides c.requires.0 c.requires.1 in
    let done : (j : ℕ) (lo hi : ℤ) → c.args.n ≡ j → j ≤ 4 → Summed j lo hi → Extremes (tab entries c.args.n 0) (tab sides c.args.n 0) lo hi = sums-done c.args.n c.args.coef.now c.args.start sides in
    let one : Summed 1 c.more-one.result.lo c.more-one.result.hi = summed 0 c.requires.0.some _ _ c.more-one.result.lo c.more-one.result.hi none (c.more-one.ensures.least, c.more-one.ensures.greatest) in
    let two : Summed 2 c.more-two.result.lo c.more-two.result.hi = let e = c.if-n-eq1.false in let k = c.requires.0.some in summed 1 (omega arith) _ _ c.more-two.result.lo c.more-two.result.hi one (c.more-two.ensures.least, c.more-two.ensures.greatest) in
    let three : Summed 3 c.more-three.result.lo c.more-three.result.hi = let e = c.if-n-eq2.false in let f = c.if-n-eq1.false in let k = c.requires.0.some in summed 2 (omega arith) _ _ c.more-three.result.lo c.more-three.result.hi two (c.more-three.ensures.least, c.more-three.ensures.greatest) in
    let e = c.if-n-eq3.false in
    let f = c.if-n-eq2.false in
    let g = c.if-n-eq1.false in
    let k = c.requires.0.some in
    let r = c.requires.0.rooms in
    done 4 _ _ (omega arith) (omega arith) (summed 3 (omega arith) _ _ c.more.result.lo c.more.result.hi three (c.more.ensures.least, c.more.ensures.greatest))
