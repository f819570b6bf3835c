-- The loop over the coefficients of some rows: c of them are done, and stored as far as there is room. Assumes nothing.
use Rattle.std.specs.Prelude.{Ok, Err, Result, ok_or}
use Prim.Native.Nat.{ℕ, suc, ◌+◌, ◌-◌, ◌*◌, ◌≤◌, ◌<◌}
use mathlib.Core.Path.{◌≡◌, refl, sym, ap, ◌∙◌}
use mathlib.Core.List.{List, [], ◌∷◌, ◌++◌}
use native.Mathlib.Omega.{arith}
use lib.ListN.{length, set, length-append}
use lib.Seq.{sets}
use lib.IntN.{ℤ, pos, neg_ℤ}
use Rattle.laws.specs.Lists.{at, tab}
use Rattle.laws.specs.Tabs.{tab-step, tab-done}
use Rattle.laws.specs.Writing.{sets-append}
use Rattle.meaning.specs.declared.Refusal.{Refusal}
use Rattle.meaning.specs.Files.{Form, refused, values_at}
use Rattle.meaning.specs.Plants.{limited, times, row}
use Rattle.meaning.specs.Numbers.{bytes_of, stored}
use Rattle.files.specs.Signed.{signed_bytes}
use Rattle.files.specs.Fields.{ranged_at, fault_at}
use Rattle.files.specs.FieldLaws.{was-taken, was-refused, ranged-was, ranged-fault}
use Rattle.files.specs.Parts.{behind, behind-append, behind-refused, Fails}
use Rattle.files.specs.Rows.{limit_at, next_column, entries_from, rows-entries, RowsRead}

-- what a signed number's reader answers
abbrev Read : Type 0
Read = Result (ℤ × ℕ) Refusal

pub record EntriesUpTo (s : List ℕ) (start n count from c column p : ℕ) (coef₀ coef : List ℤ) : Type 0 where
  pub few : c ≤ count
  pub values : List ℤ
  pub long : length values ≡ c
  pub stored : coef ≡ sets coef₀ from values
  pub done : (rest : Form) → values_at (entries_from n 0 count rest) s start ≡ behind values (values_at (entries_from n column (count - c) rest) s p)

pub entries_none : (s : List ℕ) (start n count from : ℕ) (coef : List ℤ) → EntriesUpTo s start n count from 0 0 start coef coef
unfolding behind
entries_none s start n count from coef = record {
  few = omega arith;
  values = [];
  long = refl;
  stored = refl;
  done = λ rest. let q : count - 0 ≡ count = omega arith in rw q refl;
}

module _ {s : List ℕ} {start n count from c column p : ℕ} {coef₀ coef : List ℤ} (w : EntriesUpTo s start n count from c column p coef₀ coef) where
  one_more : c < count → (rest : Form) → entries_from n column (count - c) rest ≡ limited (limit_at n column) (entries_from n (next_column n column) (count - (c + 1)) rest)
  unfolding entries_from
  one_more h rest = let q : count - c ≡ suc (count - (c + 1)) = omega arith in rw q refl

  pub entries-more : (v : ℤ) (next : ℕ) → c < count → ◌≡◌ {A = Read} (Ok (v, next)) (ok_or (ranged_at s p (neg_ℤ (pos (limit_at n column))) (pos (limit_at n column))) (fault_at s p))
      → EntriesUpTo s start n count from (c + 1) (next_column n column) next coef₀ (set coef (from + c) v)
  unfolding behind
  entries-more v next h e = record {
    few = omega arith;
    values = w.values ++ v ∷ [];
    long = omega (arith, w.long, length-append w.values (v ∷ []));
    stored = rw w.stored (sym (sets-append w.values (v ∷ []) coef₀ from ∙ ap (λ (k : ℕ). set (sets coef₀ from w.values) (from + k) v) w.long));
    done = λ rest.
        let more = entries_from n (next_column n column) (count - (c + 1)) rest in
        let limit = pos (limit_at n column) in
        let taken = was-taken (ranged_at s p (neg_ℤ limit) limit) (fault_at s p) (v, next) e in
        w.done rest
        ∙ ap (λ (x : Form). behind w.values (values_at x s p)) (one_more h rest)
        ∙ ap (behind w.values) ((ranged-was s p (neg_ℤ limit) limit v next taken).holds (λ _. more))
        ∙ sym (behind-append w.values (v ∷ []) (values_at more s next));
  }

  pub entries-fails : (r : Refusal) → c < count → ◌≡◌ {A = Read} (Err r) (ok_or (ranged_at s p (neg_ℤ (pos (limit_at n column))) (pos (limit_at n column))) (fault_at s p))
      → (rest : Form) → values_at (entries_from n 0 count rest) s start ≡ refused r
  entries-fails r h e rest =
      let more = entries_from n (next_column n column) (count - (c + 1)) rest in
      let limit = pos (limit_at n column) in
      let told = was-refused (ranged_at s p (neg_ℤ limit) limit) (fault_at s p) r e in
      w.done rest
      ∙ ap (λ (x : Form). behind w.values (values_at x s p)) (one_more h rest)
      ∙ ap (behind w.values) (ranged-fault s p (neg_ℤ limit) limit (λ _. more) told.0 ∙ ap refused told.1)
      ∙ behind-refused w.values r

-- as rows
module _ {s : List ℕ} {start n : ℕ} (rows : ℕ) {from c column p : ℕ} {coef₀ coef : List ℤ} (w : EntriesUpTo s start n (rows * (n + 1)) from c column p coef₀ coef) where
  pub rows-fails : (r : Refusal) → c < rows * (n + 1) → ◌≡◌ {A = Read} (Err r) (ok_or (ranged_at s p (neg_ℤ (pos (limit_at n column))) (pos (limit_at n column))) (fault_at s p))
      → Fails (times rows (row n)) s start r
  rows-fails r h e = record { fails = λ rest. ap (λ (x : Form). values_at x s start) (rows-entries n rows rest) ∙ entries-fails w r h e rest }

  pub rows_all : rows * (n + 1) ≤ c → RowsRead s start n rows from coef₀ coef p
  unfolding entries_from
  rows_all h = record {
    values = w.values;
    long = omega (arith, w.few, w.long);
    part = record { holds = λ rest. ap (λ (x : Form). values_at x s start) (rows-entries n rows rest) ∙ w.done rest ∙ ap (λ (x : Form). behind w.values (values_at x s p)) (none rest) };
    stored = w.stored;
  }
    where
      none : (rest : Form) → entries_from n column (rows * (n + 1) - c) rest ≡ rest
      none rest = let q : rows * (n + 1) - c ≡ 0 = omega arith in rw q refl

-- ---- written: one number more, or none

pub some-step : (l : List ℤ) (n i : ℕ) → i < n → signed_bytes (tab (at l) (n - i) i) ≡ bytes_of (stored (at l i)) ++ signed_bytes (tab (at l) (n - (i + 1)) (i + 1))
unfolding signed_bytes
some-step l n i h = ap signed_bytes (tab-step (at l) n i h)

pub some-over : (l : List ℤ) (n i : ℕ) → n ≤ i → signed_bytes (tab (at l) (n - i) i) ≡ []
unfolding signed_bytes
some-over l n i h = ap signed_bytes (tab-done (at l) n i h)
