-- `limits::same_row`: parts of the coefficients that are the same have the same entries. Assumes nothing.
use Prim.Native.Nat.{ℕ, ◌+◌, ◌-◌, ◌<◌}
use mathlib.Core.Path.{◌≡◌, sym, ap, ◌∙◌}
use native.Mathlib.Omega.{arith}
use lib.ListN.{take, drop}
use Rattle.std.proofs.lemmas.Bool.Decides.{Decides-int_eq}
use Rattle.std.proofs.lemmas.List.{get_or-drop, get_or-take}
use Rattle.std.proofs.lemmas.Slice.Eq.{slice_eq-Decides}
use Rattle.laws.specs.Lists.{at}
use Rattle.laws.specs.Tabs.{tab-same}
use Rattle.tables.specs.Images.{entry_at}
use Rattle.tables.proofs.limits.same_row.Goals as goal

pub returns : goal.returns
returns c = λ e.
    let n = c.args.n in
    let coef = c.args.coef.now in
    let same : take (c.args.a + n - c.args.a) (drop c.args.a coef) ≡ take (c.args.b + n - c.args.b) (drop c.args.b coef) = (slice_eq-Decides Decides-int_eq _ _ _ c.eq.ensures).0 e in
    let entry : (start k : ℕ) → k < n → at (take (start + n - start) (drop start coef)) k ≡ entry_at coef start k =
    λ start k h. get_or-take (start + n - start) (drop start coef) k _ (omega arith) ∙ get_or-drop start coef k _ in
    tab-same _ _ n 0 (λ k from to. sym (entry c.args.a k (omega arith)) ∙ ap (λ l. at l k) same ∙ entry c.args.b k (omega arith))
