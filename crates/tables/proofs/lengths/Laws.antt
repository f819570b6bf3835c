-- The lengths of a split as the code reads them: the place behind them, one held to its child, and where children end by them; and what that says of the lengths
-- of the definitions. Assumes nothing.
use Rattle.std.specs.Prelude.{Some, None, Ok, Err}
use Prim.Native.Nat.{ℕ, zero, suc, ◌+◌, ◌-◌, ◌*◌, ◌≤◌, ◌<◌}
use mathlib.Core.Path.{◌≡◌, refl, sym, ap, ◌∙◌}
use mathlib.Core.Bool.{Bool, true, false}
use mathlib.Core.List.{List, [], ◌∷◌, ◌++◌}
use mathlib.Core.Option.{none, some}
use native.Mathlib.Omega.{arith}
use native.Mathlib.Nat.{zero-add}
use lib.Dec.{leb}
use lib.ListN.{length}
use borrow.Author.Tests.{le-leb, lt-leb}
use Rattle.laws.specs.Pairs.{some-first, some-second}
use Rattle.laws.specs.Guards.{guard}
use Rattle.laws.specs.Tests.{never}
use Rattle.meaning.specs.Answers.{Number, Walk}
use Rattle.meaning.specs.declared.Refusal.{Refusal}
use Rattle.meaning.specs.Control.{past_file}
use Rattle.meaning.specs.Files.{Read, read, refused, before}
use Rattle.meaning.specs.Numbers.{number_at}
use Rattle.meaning.specs.Refusals.{broken, bad_table}
use Rattle.meaning.specs.Verdicts.{Length, length_at, on_number, on_read, lengths_at}
use Rattle.promises.specs.Files.Numbers.{was}
use Rattle.promises.specs.Tables.Walking.{lengths-broken, lengths-more}
use Rattle.tables.specs.Finds.{place_by, or_past}
use Rattle.tables.specs.Lengths.{behind_at, ends_at, sum_of, total_of, total_at}
use Rattle.tables.proofs.parts.Laws.{number-within}

-- ---- one that was read, and those behind it

pub record OneRead (k : ℕ) (s : List ℕ) (at : ℕ) (ls : List Length) (first : ℕ) : Type 0 where
  pub size : ℕ
  pub next : ℕ
  pub others : List Length
  pub number : number_at s at ≡ Some (size, next)
  pub behind : lengths_at k s next ≡ read others first
  pub all : ls ≡ length_at at size ∷ others

pub one-read : (k : ℕ) (s : List ℕ) (at : ℕ) (ls : List Length) (first : ℕ) → lengths_at (suc k) s at ≡ read ls first → OneRead k s at ls first
unfolding lengths_at
one-read k s at ls first e = go (number_at s at) refl e
  where
    with_rest : (size next : ℕ) → number_at s at ≡ Some (size, next) → (o : Read (List Length)) → lengths_at k s next ≡ o → before (length_at at size) o ≡ read ls first
        → OneRead k s at ls first
    with_rest size next q (refused x) p e = never cc
    with_rest size next q (read others m) p e =
        let a : ls ≡ length_at at size ∷ others = cc in
        let b : m ≡ first = cc in
        record { size = size; next = next; others = others; number = q; behind = p ∙ ap (read others) b; all = a }

    go : (n : Number) → number_at s at ≡ n → on_number n (refused (broken at)) (λ size next. before (length_at at size) (lengths_at k s next)) ≡ read ls first → OneRead k s at ls first
    go None q e = never cc
    go (Some (size, next)) q e = with_rest size next q (lengths_at k s next) refl e

-- they end in the file
pub lengths-within : (k : ℕ) (s : List ℕ) (at : ℕ) (ls : List Length) (first : ℕ) → at ≤ length s → lengths_at k s at ≡ read ls first → first ≤ length s
unfolding lengths_at
lengths-within zero s at ls first l e = let q : at ≡ first = cc in omega (arith, q)
lengths-within (suc k) s at ls first l e =
    let o = one-read k s at ls first e in
    lengths-within k s o.next o.others first (number-within s at o.size o.next o.number) o.behind

-- ---- the place behind k of them

abbrev after : Read (List Length) → Walk
after o = on_read o Err λ ls next. Ok next

after-before : (l : Length) (o : Read (List Length)) → after (before l o) ≡ after o
after-before l (refused x) = refl
after-before l (read ls m) = refl

module _ (s : List ℕ) where
  -- i of them are passed
  module _ (k i at : ℕ) where
    pub behind-done : k ≤ i → Ok at ≡ behind_at (k - i) s at
    unfolding lengths_at
    behind-done h = let e : k - i ≡ 0 = omega arith in rw e refl

    module _ (h : i < k) where
      one_more : lengths_at (k - i) s at ≡ lengths_at (suc (k - (i + 1))) s at
      one_more = let e : k - i ≡ suc (k - (i + 1)) = omega arith in ap (λ (k : ℕ). lengths_at k s at) e

      pub behind-broken : number_at s at ≡ None → Err (broken at) ≡ behind_at (k - i) s at
      behind-broken e = sym (ap after (one_more ∙ lengths-broken (k - (i + 1)) s at e))

      pub behind_more : {size next : ℕ} → number_at s at ≡ Some (size, next) → behind_at (k - (i + 1)) s next ≡ behind_at (k - i) s at
      behind_more {size} {next} e = sym (ap after (one_more ∙ lengths-more (k - (i + 1)) s at size next e) ∙ after-before (length_at at size) (lengths_at (k - (i + 1)) s next))

  module _ (k at : ℕ) where
    pub behind-read : (first : ℕ) → behind_at k s at ≡ Ok first → (ls : List Length) × (lengths_at k s at ≡ read ls first)
    behind-read first e = go (lengths_at k s at) refl e
      where
        go : (o : Read (List Length)) → lengths_at k s at ≡ o → after o ≡ Ok first → (ls : List Length) × (lengths_at k s at ≡ read ls first)
        go (refused x) q e = never cc
        go (read ls m) q e = let z : m ≡ first = cc in (ls, q ∙ ap (read ls) z)

    pub behind-refused : (x : Refusal) → behind_at k s at ≡ Err x → lengths_at k s at ≡ refused x
    behind-refused x e = go (lengths_at k s at) refl e
      where
        go : (o : Read (List Length)) → lengths_at k s at ≡ o → after o ≡ Err x → lengths_at k s at ≡ refused x
        go (refused y) q e = let z : y ≡ x = cc in q ∙ ap refused z
        go (read ls m) q e = never cc

-- ---- where children end by them

module _ (s : List ℕ) where
  ends-unfold : (k at from : ℕ) → ends_at (suc k) s at from
      ≡ on_number (number_at s at) (Err (broken at)) λ size next. guard (leb (from + size) (length s)) (Err (bad_table at)) λ _. ends_at k s next (from + size)
  unfolding ends_at
  ends-unfold k at from = refl

  -- i children are behind
  module _ (k i at from : ℕ) where
    pub ends-done : k ≤ i → Ok from ≡ ends_at (k - i) s at from
    unfolding ends_at
    ends-done h = let e : k - i ≡ 0 = omega arith in rw e refl

    module _ (h : i < k) where
      ends-one : ends_at (k - i) s at from ≡ ends_at (suc (k - (i + 1))) s at from
      ends-one = let e : k - i ≡ suc (k - (i + 1)) = omega arith in ap (λ (k : ℕ). ends_at k s at from) e

      pub ends-broken : number_at s at ≡ None → Err (broken at) ≡ ends_at (k - i) s at from
      ends-broken e = sym (ends-one ∙ ends-unfold (k - (i + 1)) at from ∙ rw e refl)

      module _ {size next : ℕ} (e : number_at s at ≡ Some (size, next)) where
        pub ends-past : length s < from + size → Err (bad_table at) ≡ ends_at (k - i) s at from
        ends-past l = sym (ends-one ∙ ends-unfold (k - (i + 1)) at from ∙ rw (e, lt-leb (from + size) (length s) l) refl)

        pub ends_more : from + size ≤ length s → ends_at (k - (i + 1)) s next (from + size) ≡ ends_at (k - i) s at from
        ends_more l = sym (ends-one ∙ ends-unfold (k - (i + 1)) at from ∙ rw (e, le-leb (from + size) (length s) l) refl)

  -- as the definitions say it of lengths that were read
  pub ends-are : (k at from : ℕ) (ls : List Length) (first : ℕ) → lengths_at k s at ≡ read ls first
      → ends_at k s at from ≡ or_past (past_file (length s) ls from) (λ _. Ok (place_by k ls from))
  unfolding ends_at lengths_at past_file place_by
  ends-are zero at from ls first e = let q : ls ≡ [] = cc in rw q refl
  ends-are (suc k) at from ls first e =
      let o = one-read k s at ls first e in
      rw (o.all, o.number) (go o.size o.next o.others (leb (from + o.size) (length s)) (ends-are k o.next (from + o.size) o.others first o.behind))
    where
      go : (size next : ℕ) (others : List Length) (t : Bool)
          → ends_at k s next (from + size) ≡ or_past (past_file (length s) others (from + size)) (λ _. Ok (place_by k others (from + size)))
          → guard t (Err (bad_table at)) (λ _. ends_at k s next (from + size))
          ≡ or_past (guard t (some at) (λ _. past_file (length s) others (from + size))) (λ _. Ok (place_by k others (from + size)))
      go size next others true ih = ih
      go size next others false ih = refl

  -- and where none points past the file, of the first c alone
  pub ends_some : (c k at from : ℕ) (ls : List Length) (first : ℕ) → c ≤ k → lengths_at k s at ≡ read ls first → past_file (length s) ls from ≡ none
      → ends_at c s at from ≡ Ok (place_by c ls from)
  unfolding ends_at lengths_at past_file place_by
  ends_some zero k at from ls first l e n = refl
  ends_some (suc c) zero at from ls first l e n = absurd (omega arith)
  ends_some (suc c) (suc k) at from ls first l e n =
      let o = one-read k s at ls first e in
      let z : guard (leb (from + o.size) (length s)) (some at) (λ _. past_file (length s) o.others (from + o.size)) ≡ none = rw o.all at n in
      rw (o.all, o.number)
      (go o.size o.next o.others (leb (from + o.size) (length s)) (λ p. ends_some c k o.next (from + o.size) o.others first (omega arith) o.behind p) z)
    where
      go : (size next : ℕ) (others : List Length) (t : Bool)
          → (past_file (length s) others (from + size) ≡ none → ends_at c s next (from + size) ≡ Ok (place_by c others (from + size)))
          → guard t (some at) (λ _. past_file (length s) others (from + size)) ≡ none
          → guard t (Err (bad_table at)) (λ _. ends_at c s next (from + size)) ≡ Ok (place_by c others (from + size))
      go size next others true ih n = ih n
      go size next others false ih n = never cc

-- ---- k of them added up: what is added so far, and those that are left

module _ (s : List ℕ) where
  total-before : (sum : ℕ) (l : Length) (o : Read (List Length)) → total_of sum (before l o) ≡ total_of (sum + l.size) o
  unfolding sum_of
  total-before sum l (refused x) = refl
  total-before sum l (read ls m) = let e : sum + (l.size + sum_of ls) ≡ sum + l.size + sum_of ls = omega arith in rw e refl

  module _ (k i sum at : ℕ) where
    pub total-done : k ≤ i → Some (sum, at) ≡ total_of sum (lengths_at (k - i) s at)
    unfolding lengths_at sum_of
    total-done h =
        let a : k - i ≡ 0 = omega arith in
        let b : sum + 0 ≡ sum = omega arith in
        rw (a, b) refl

    module _ (h : i < k) where
      pub total-broken : number_at s at ≡ None → None ≡ total_of sum (lengths_at (k - i) s at)
      total-broken e = sym (ap (total_of sum) (one_more s k i at h ∙ lengths-broken (k - (i + 1)) s at e))

      pub total-more : {size next : ℕ} → number_at s at ≡ Some (size, next) → total_of (sum + size) (lengths_at (k - (i + 1)) s next) ≡ total_of sum (lengths_at (k - i) s at)
      total-more {size} {next} e = sym (ap (total_of sum) (one_more s k i at h ∙ lengths-more (k - (i + 1)) s at size next e) ∙ total-before sum (length_at at size) (lengths_at (k - (i + 1)) s next))

  -- one behind another
  pub total-read : (k at sum next : ℕ) → total_at k s at ≡ Some (sum, next) → (ls : List Length) × (lengths_at k s at ≡ read ls next) × (sum ≡ sum_of ls)
  total-read k at sum next e = go (lengths_at k s at) refl e
    where
      go : (o : Read (List Length)) → lengths_at k s at ≡ o → total_of 0 o ≡ Some (sum, next) → (ls : List Length) × (lengths_at k s at ≡ read ls next) × (sum ≡ sum_of ls)
      go (refused x) q e = never cc
      go (read ls m) q e =
          let z : m ≡ next = some-second e in
          let y : 0 + sum_of ls ≡ sum = some-first e in
          (ls, q ∙ ap (read ls) z, omega (arith, y))

  pub lengths-joined : (k c at : ℕ) (ls : List Length) (mid : ℕ) (ms : List Length) (next : ℕ) → lengths_at c s at ≡ read ls mid → lengths_at k s mid ≡ read ms next
      → lengths_at (c + k) s at ≡ read (ls ++ ms) next
  unfolding lengths_at
  lengths-joined k zero at ls mid ms next e q =
      let a : ls ≡ [] = cc in
      let b : mid ≡ at = cc in
      let z : lengths_at k s at ≡ read ms next = rw b at q in
      rw (a, zero-add) z
  lengths-joined k (suc c) at ls mid ms next e q =
      let o = one-read c s at ls mid e in
      let ih = lengths-joined k c o.next o.others mid ms next o.behind q in
      let w : suc c + k ≡ suc (c + k) = omega arith in
      rw (o.all, w) (lengths-more (c + k) s at o.size o.next o.number ∙ rw ih refl)

  -- none of them is above 2^35
  pub sum-small : (k at : ℕ) (ls : List Length) (next : ℕ) → lengths_at k s at ≡ read ls next → sum_of ls ≤ k * 34_359_738_368
  unfolding lengths_at sum_of
  sum-small zero at ls next e = let a : ls ≡ [] = cc in rw a (omega arith)
  sum-small (suc k) at ls next e =
      let o = one-read k s at ls next e in
      rw o.all (omega (arith, (was o.size at o.next s o.number).0, sum-small k o.next o.others next o.behind))

  pub lengths-count : (k at : ℕ) (ls : List Length) (next : ℕ) → lengths_at k s at ≡ read ls next → length ls ≡ k
  unfolding lengths_at
  lengths-count zero at ls next e = let a : ls ≡ [] = cc in rw a refl
  lengths-count (suc k) at ls next e = let o = one-read k s at ls next e in rw o.all (ap suc (lengths-count k o.next o.others next o.behind))

-- of lengths that come to what the file has room for none points past it, and the child behind the first of them begins where these end
pub sum-append : (ls ms : List Length) → sum_of (ls ++ ms) ≡ sum_of ls + sum_of ms
unfolding sum_of
sum-append [] ms = omega arith
sum-append (l ∷ ls) ms = omega (arith, sum-append ls ms)

pub none-past-sum : (size : ℕ) (ls : List Length) (at : ℕ) → at + sum_of ls ≤ size → past_file size ls at ≡ none
unfolding sum_of past_file
none-past-sum size [] at h = refl
none-past-sum size (l ∷ ls) at h = rw (le-leb (at + l.size) size (omega (arith, h))) (none-past-sum size ls (at + l.size) (omega (arith, h)))

pub place-sum : (ls ms : List Length) (at : ℕ) → place_by (length ls) (ls ++ ms) at ≡ at + sum_of ls
unfolding sum_of place_by
place-sum [] ms at = omega arith
place-sum (l ∷ ls) ms at = place-sum ls ms (at + l.size) ∙ omega arith
