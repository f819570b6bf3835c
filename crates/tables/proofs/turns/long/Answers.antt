-- `turns::long`: three bytes have room for every length of a table. Assumes nothing.
use mathlib.Core.Path.{◌≡◌, refl}
use mathlib.Core.Bool.{true}
use native.Mathlib.Omega.{arith}
use lib.ListN.{length}
use Rattle.meaning.specs.Numbers.{bytes_of, groups_of}
use Rattle.promises.specs.Files.Bytes.{bytes-grow}
use Rattle.tables.specs.Turns.{most_tree}
use Rattle.tables.proofs.turns.long.Goals as goal

three : length (bytes_of most_tree) ≡ 3
unfolding groups_of
three = refl

-- src/turns.rt:55:9
pub returns-then-told : goal.returns-then-told
returns-then-told c =
    let w = c.put_number in
    let a = c.args in
    let told : a.told ≡ true = c.if-told.true in
    rw told (omega (arith, w.ensures.place, bytes-grow a.size most_tree c.requires, three))
