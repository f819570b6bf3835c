-- `boxes::Bx::count`: of at most four sides there are at most 2 to the 4 children. Assumes nothing.
use Rattle.std.proofs.Common.{◌≤◌, arith, rules}
use Rattle.std.proofs.lemmas.Nat.{one_shl}
use Rattle.std.proofs.Math.Pow.{pow_mono}
use Rattle.list.proofs.boxes.Bx.count.Goals as goal

pub returns-else-form-eq3 : goal.returns-else-form-eq3
returns-else-form-eq3 c =
    let k = c.count-long.result in
    let few : c.count-long.result ≤ 4 = search rules in
    omega (arith, one_shl k 64 (omega arith), pow_mono {i = k} {j = 4} few)
