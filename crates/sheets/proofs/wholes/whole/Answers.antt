-- `wholes::whole` goes by the exponent's field of x. Assumes nothing.
use Prim.Native.Nat.{ℕ}
use mathlib.Core.Path.{◌≡◌, sym, ap, ◌∙◌, subst}
use native.Mathlib.Omega.{arith}
use lib.Dec.{T}
use lib.Ieee.{binary64, of_fields, to_bits}
use Rattle.meaning.specs.Sheets.{whole_of}
use Rattle.sheets.proofs.wholes.Fields.{sign, exponent, digits, digits-few, of-fields}
use Rattle.sheets.proofs.wholes.Laws.{nan-out, far-out, near-zero, near-shifted}
use Rattle.sheets.proofs.wholes.whole.Goals as goal

pub returns-then-is_nan : goal.returns-then-is_nan
returns-then-is_nan c = nan-out c.args.limit c.args.k c.args.x (sym c.if-is_nan.ensures.value)

pub returns-then-e-ge1057 : goal.returns-then-e-ge1057
returns-then-e-ge1057 c =
    let bits : ℕ = to_bits binary64 c.args.x in
    let by-fields : whole_of c.args.limit c.args.k c.args.x ≡ whole_of c.args.limit c.args.k (of_fields binary64 (sign bits) (exponent bits) (digits bits)) = ap (whole_of c.args.limit c.args.k) (of-fields c.args.x (subst T (sym c.well_formed.1.1.0.1) tt)) in
    sym (by-fields ∙ far-out c.args.limit c.args.k (sign bits) (exponent bits) (digits bits) (omega arith) (omega arith) c.if-e-ge1057.true)

pub returns-then-e-lt993 : goal.returns-then-e-lt993
returns-then-e-lt993 c =
    let bits : ℕ = to_bits binary64 c.args.x in
    let by-fields : whole_of c.args.limit c.args.k c.args.x ≡ whole_of c.args.limit c.args.k (of_fields binary64 (sign bits) (exponent bits) (digits bits)) = ap (whole_of c.args.limit c.args.k) (of-fields c.args.x (subst T (sym c.well_formed.1.1.0.1) tt)) in
    sym (by-fields ∙ near-zero c.args.limit c.args.k (sign bits) (exponent bits) (digits bits) (omega arith) c.if-e-lt993.true (digits-few bits))

pub returns : goal.returns
returns c =
    let bits : ℕ = to_bits binary64 c.args.x in
    let by-fields : whole_of c.args.limit c.args.k c.args.x ≡ whole_of c.args.limit c.args.k (of_fields binary64 (sign bits) (exponent bits) (digits bits)) = ap (whole_of c.args.limit c.args.k) (of-fields c.args.x (subst T (sym c.well_formed.1.1.0.1) tt)) in
    c.limited.ensures
    ∙ sym (by-fields ∙ near-shifted c.args.limit c.args.k (sign bits) (exponent bits) (digits bits) c.if-e-lt993.false c.if-e-ge1057.false)
