-- `floats::put_float`: the bits' bytes are those of the definition. Assumes nothing.
use Prim.Native.Nat.{ℕ}
use mathlib.Core.Path.{ap, ◌∙◌, subst}
use mathlib.Core.List.{List}
use Rattle.laws.specs.Writing.{Put}
use Rattle.meaning.specs.Files.{low_first}
use Rattle.sheets.proofs.floats.Laws.{low-bytes}
use Rattle.sheets.proofs.floats.put_float.Goals as goal

pub returns : goal.returns
returns c =
    let w = c.put_bytes in
    let same = c.to_le_bytes.ensures ∙ low-bytes c.bits.result ∙ ap (low_first 8) c.bits.ensures in
    subst (λ (bytes : List ℕ). Put c.args.buf.now c.args.at bytes w.result w.new.buf) same w.ensures
