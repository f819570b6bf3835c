-- What a write of some entries at a place of a buffer does. The place stops at one past the buffer's length, which says that the buffer was too
-- short, and `sets` stores what fits, so that one statement serves a write that fits and one that does not. Assumes nothing.
use Rattle.std.specs.Prelude.{ℕ, zero, suc, ◌+◌, ◌≤◌, ◌<◌, min, ◌≡◌, refl, List, [], ◌∷◌, ◌++◌, length, get_or, set, take}
use Rattle.std.proofs.Common.{sym, ap, ◌∙◌, arith, add-zero, length-append, length-set, get_or-set_same, get_or-set_other}
use Rattle.std.proofs.Math.Decide.{dec_le}
use Rattle.std.proofs.lemmas.List.Edits.{sets}
use Rattle.std.proofs.Math.Seq.{length-sets, set_out, take-nil}

pub record Put (buf : List ℕ) (at : ℕ) (xs : List ℕ) (next : ℕ) (out : List ℕ) : Type 0 where
  pub place : next ≡ min (at + length xs) (length buf + 1)
  pub bytes : out ≡ sets buf at xs

module _ {ℓ} {A : Type ℓ} where
  -- past the end nothing is written
  pub sets-out : (xs buf : List A) (i : ℕ) → length buf ≤ i → sets buf i xs ≡ buf
  sets-out [] buf i h = refl
  sets-out (x ∷ xs) buf i h =
      let e : set buf i x ≡ buf = set_out buf i x h in
      rw e (sets-out xs buf (suc i) (omega arith))

  pub sets-append : (xs ys buf : List A) (i : ℕ) → sets buf i (xs ++ ys) ≡ sets (sets buf i xs) (i + length xs) ys
  sets-append [] ys buf i = rw add-zero refl
  sets-append (x ∷ xs) ys buf i =
      let e : i + suc (length xs) ≡ suc i + length xs = omega arith in
      rw e (sets-append xs ys (set buf i x) (suc i))

  -- what there is no room for need not be there
  pub sets-room : (xs buf : List A) (i k : ℕ) → length buf ≤ i + k → sets buf i (take k xs) ≡ sets buf i xs
  sets-room [] buf i k h = rw (take-nil {A = A} k) refl
  sets-room (x ∷ xs) buf i zero h = sym (sets-out (x ∷ xs) buf i (omega arith))
  sets-room (x ∷ xs) buf i (suc k) h = sets-room xs (set buf i x) (suc i) k (omega (arith, length-set buf i x))

  -- what stands in front of the place, and what was written there
  sets_below : (d : A) (xs buf : List A) (i k : ℕ) → k < i → get_or (sets buf i xs) k d ≡ get_or buf k d
  sets_below d [] buf i k h = refl
  sets_below d (x ∷ xs) buf i k h = sets_below d xs (set buf i x) (suc i) k (omega arith) ∙ get_or-set_other buf i k x d (λ e. absurd (omega arith))

  pub get_d_sets : (d : A) (xs buf : List A) (i j : ℕ) → j < length xs → i + j < length buf → get_or (sets buf i xs) (i + j) d ≡ get_or xs j d
  get_d_sets d [] buf i j h l = absurd (omega arith)
  get_d_sets d (x ∷ xs) buf i zero h l =
      let e : i + 0 ≡ i = omega arith in
      rw e (sets_below d xs (set buf i x) (suc i) i (omega arith) ∙ get_or-set_same buf i x d (omega arith))
  get_d_sets d (x ∷ xs) buf i (suc j) h l =
      let e : i + suc j ≡ suc i + j = omega arith in
      rw e (get_d_sets d xs (set buf i x) (suc i) j (omega arith) (omega (arith, length-set buf i x)))

sets-stop : (xs buf : List ℕ) (i : ℕ) → sets buf (min i (length buf + 1)) xs ≡ sets buf i xs
sets-stop xs buf i = go (dec_le i (length buf))
  where
    go : Dec (i ≤ length buf) → sets buf (min i (length buf + 1)) xs ≡ sets buf i xs
    go (yes h) = let e : min i (length buf + 1) ≡ i = omega arith in rw e refl
    go (no h) = sets-out xs buf (min i (length buf + 1)) (omega arith) ∙ sym (sets-out xs buf i (omega arith))

pub put-length : {b : List ℕ} {at : ℕ} {xs : List ℕ} {r : ℕ} {o : List ℕ} → Put b at xs r o → length o ≡ length b
put-length {b} {at} {xs} {r} {o} p = ap length p.bytes ∙ length-sets b at xs

-- nothing written
pub put-none : (b : List ℕ) (at : ℕ) → at ≤ length b + 1 → Put b at [] at b
put-none b at h = record { place = omega arith; bytes = refl }

-- one write after another
pub put-append : {b : List ℕ} {at : ℕ} {xs ys : List ℕ} {r r2 : ℕ} {o o2 : List ℕ} → Put b at xs r o → Put o r ys r2 o2 → Put b at (xs ++ ys) r2 o2
put-append {b} {at} {xs} {ys} {r} {r2} {o} {o2} p q =
    let n : length o ≡ length b = put-length p in
    let k : length (xs ++ ys) ≡ length xs + length ys = length-append xs ys in
    record { place = omega (arith, p.place, q.place); bytes = q.bytes ∙ chain }
  where
    stop : sets (sets b at xs) (min (at + length xs) (length b + 1)) ys ≡ sets (sets b at xs) (at + length xs) ys
    stop = let e : length b ≡ length (sets b at xs) = sym (length-sets b at xs) in rw e (sets-stop ys (sets b at xs) (at + length xs))

    chain : sets o r ys ≡ sets b at (xs ++ ys)
    chain = rw (p.bytes, p.place) (stop ∙ sym (sets-append xs ys b at))

-- ---- a write that is under way: of the entries `whole`, `rest` are still to be written, from p on

pub record Under (buf₀ : List ℕ) (at : ℕ) (whole rest : List ℕ) (p : ℕ) (buf : List ℕ) : Type 0 where
  pub long : length buf ≡ length buf₀
  pub within : p ≤ length buf + 1
  -- whoever writes the rest has written the whole
  pub goes : (next : ℕ) (out : List ℕ) → Put buf p rest next out → Put buf₀ at whole next out

pub under_none : (buf : List ℕ) (at : ℕ) (whole : List ℕ) → at ≤ length buf + 1 → Under buf at whole whole at buf
under_none buf at whole h = record { long = refl; within = h; goes = λ next out t. t }

pub under_more : {buf₀ : List ℕ} {at : ℕ} {whole xs rest : List ℕ} {p next : ℕ} {buf out : List ℕ} → Under buf₀ at whole (xs ++ rest) p buf → Put buf p xs next out → Under buf₀ at whole rest next out
under_more {buf₀} {at} {whole} {xs} {rest} {p} {next} {buf} {out} u t = record {
  long = put-length t ∙ u.long;
  within = omega (arith, t.place, put-length t);
  goes = λ n o v. u.goes n o (put-append t v);
}

pub under-done : {buf₀ : List ℕ} {at : ℕ} {whole : List ℕ} {p : ℕ} {buf : List ℕ} → Under buf₀ at whole [] p buf → Put buf₀ at whole p buf
under-done {p = p} {buf = buf} u = u.goes p buf (put-none buf p u.within)
