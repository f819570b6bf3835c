-- A header whose n is over 4, or whose m is 0 or over its most, is refused, whatever stands behind it: what a writer drafts of such values may end with
-- the header. Relies on page HeaderLaws, and on promises' pages Numbers and Files.
use Rattle.std.specs.Prelude.{ℕ, ◌+◌, ◌^◌, ◌≤◌, ◌<◌, ◌≡◌, Bool, true, false, cond, List, [], ◌∷◌, ◌++◌, ltb, pos, Some, None}
use Rattle.std.proofs.Math.Path.{refl}
use Rattle.std.proofs.Common.{ap, ◌∙◌, arith, lt-ltb, le-ltb}
use Rattle.std.proofs.Math.Nat.{zero-add}
use Rattle.std.proofs.Math.Decide.{dec_lt}
use Rattle.std.proofs.Math.ListN.{length}
use Rattle.std.proofs.Math.Seq.{drop-append_seam}
use Rattle.laws.specs.Standing.{Stands, stand-front, stand-back}
use Rattle.meaning.specs.Answers.{Number}
use Rattle.meaning.specs.declared.Refusal.{Refusal}
use Rattle.meaning.specs.Numbers.{number_at, bytes_of}
use Rattle.meaning.specs.Files.{Form, refused, values_at}
use Rattle.meaning.specs.Refusals.{broken, wrong_form}
use Rattle.meaning.specs.Plants.{from, headed}
use Rattle.promises.specs.Files.Files.{number-back}
use Rattle.promises.specs.Files.Headers.{most-of}
use Rattle.files.specs.declared.headers.Header.{Header}
use Rattle.files.specs.Fields.{in_range, fault_of}
use Rattle.files.specs.Headers.{head_bytes}
use Rattle.files.specs.HeaderLaws.{from-q, from-m, from-n, Reached, form-broken, form-wrong, form-reached, number-fails, number-reached}

-- what is read of a number's bytes
abbrev seen : ℕ → ℕ → Number
seen v next = cond (ltb v (2 ^ 35)) (Some (v, next)) None

-- a form that is not taken
abbrev form_fault : Number → Refusal
form_fault None = broken 0
form_fault (Some (v, next)) = wrong_form

-- such a number is not taken
low-out : (least most v next : ℕ) → v < least → in_range least most (seen v next) ≡ None
low-out least most v next h = go (ltb v (2 ^ 35))
  where
    go : (t : Bool) → in_range least most (cond t (Some (v, next)) None) ≡ None
    go true = simp (lt-ltb _ _ h)
    go false = refl

high-out : (least most v next : ℕ) → least ≤ v → most < v → in_range least most (seen v next) ≡ None
high-out least most v next l h = go (ltb v (2 ^ 35))
  where
    go : (t : Bool) → in_range least most (cond t (Some (v, next)) None) ≡ None
    go true = simp (le-ltb _ _ l, lt-ltb _ _ h)
    go false = refl

-- the numbers of a header, with anything behind it
module _ (h : Header) (t : List ℕ) where
  s : List ℕ
  s = head_bytes h ++ t

  first : ℕ
  first = length (bytes_of h.form)

  second : ℕ
  second = first + length (bytes_of h.n)

  all-stand : Stands s 0 (head_bytes h) (0 + length (head_bytes h))
  unfolding s
  all-stand = record { end = refl; bytes = let q : 0 + length (head_bytes h) ≡ length (head_bytes h) = zero-add (length (head_bytes h)) in rw (q, drop-append_seam (head_bytes h) t) refl }

  abbrev behind-form : List ℕ
  behind-form = bytes_of h.n ++ (bytes_of h.m ++ (bytes_of h.q ++ (bytes_of h.k ++ bytes_of h.d)))

  form-seen : number_at s 0 ≡ seen h.form first
  unfolding first
  form-seen = let z : 0 + length (bytes_of h.form) ≡ length (bytes_of h.form) = zero-add _ in number-back h.form 0 (length (bytes_of h.form)) s (rw z at (stand-front (bytes_of h.form) behind-form all-stand))

  n-stand : Stands s first behind-form (0 + length (head_bytes h))
  unfolding first
  n-stand = let z : 0 + length (bytes_of h.form) ≡ length (bytes_of h.form) = zero-add _ in rw z at (stand-back (bytes_of h.form) behind-form all-stand)

  n-seen : number_at s first ≡ seen h.n second
  unfolding second
  n-seen = number-back h.n first (first + length (bytes_of h.n)) s (stand-front (bytes_of h.n) (bytes_of h.m ++ (bytes_of h.q ++ (bytes_of h.k ++ bytes_of h.d))) n-stand)

  m-seen : number_at s second ≡ seen h.m (second + length (bytes_of h.m))
  unfolding second
  m-seen =
      number-back h.m (first + length (bytes_of h.n)) (first + length (bytes_of h.n) + length (bytes_of h.m)) s
      (stand-front (bytes_of h.m) (bytes_of h.q ++ (bytes_of h.k ++ bytes_of h.d))
      (stand-back (bytes_of h.n) (bytes_of h.m ++ (bytes_of h.q ++ (bytes_of h.k ++ bytes_of h.d))) n-stand))

  module _ (forms most : ℕ) where
    -- refused at its form, or else read on
    form-bad : from 1 forms h.form ≡ false → (rest : ℕ → ℕ → ℕ → Form) → values_at (headed forms most rest) s 0 ≡ refused (form_fault (seen h.form first))
    form-bad q rest = go (ltb h.form (2 ^ 35)) form-seen
      where
        go : (t : Bool) → number_at s 0 ≡ cond t (Some (h.form, first)) None → values_at (headed forms most rest) s 0 ≡ refused (form_fault (cond t (Some (h.form, first)) None))
        go true e = form-wrong forms most s h.form first e q rest
        go false e = form-broken forms most s e rest

    module _ (few : forms < 2 ^ 35) (known : from 1 forms h.form ≡ true) where
      form-read : Reached forms most s (from-n most h.form) (pos h.form ∷ []) first
      form-read =
          let l = most-of 1 forms h.form known in
          let c : h.form < 2 ^ 35 = omega arith in
          form-reached forms most s h.form first (form-seen ∙ simp (lt-ltb _ _ c)) known

      n-bad : in_range 1 4 (seen h.n second) ≡ None → (rest : ℕ → ℕ → ℕ → Form) → values_at (headed forms most rest) s 0 ≡ refused (fault_of first (seen h.n second))
      n-bad q rest = number-fails 1 4 (from-m most h.form) form-read (ap (in_range 1 4) n-seen ∙ q) rest ∙ ap (λ (x : Number). refused (fault_of first x)) n-seen

      m-bad : in_range 1 4 (seen h.n second) ≡ Some (h.n, second) → in_range 1 most (seen h.m (second + length (bytes_of h.m))) ≡ None
          → (rest : ℕ → ℕ → ℕ → Form) → values_at (headed forms most rest) s 0 ≡ refused (fault_of second (seen h.m (second + length (bytes_of h.m))))
      m-bad q r rest =
          number-fails 1 most (from-q h.form h.n) (number-reached 1 4 (from-m most h.form) form-read h.n second (ap (in_range 1 4) n-seen ∙ q)) (ap (in_range 1 most) m-seen ∙ r) rest
          ∙ ap (λ (x : Number). refused (fault_of second x)) m-seen

-- the refusal of such a header
pub record Refusing (forms most : ℕ) (h : Header) : Type 0 where
  pub refusal : Refusal
  pub fails : (rest : ℕ → ℕ → ℕ → Form) (t : List ℕ) → values_at (headed forms most rest) (head_bytes h ++ t) 0 ≡ refused refusal

-- by its form, where that is not known; else by what comes behind
by_form : (forms most : ℕ) (h : Header) → (from 1 forms h.form ≡ true → Refusing forms most h) → Refusing forms most h
unfolding s first
by_form forms most h later = go (from 1 forms h.form) refl
  where
    go : (t : Bool) → from 1 forms h.form ≡ t → Refusing forms most h
    go true e = later e
    go false e = record { refusal = form_fault (seen h.form (length (bytes_of h.form))); fails = λ rest t. form-bad h t forms most e rest }

pub n-refusing : (forms most : ℕ) (h : Header) → forms < 2 ^ 35 → 4 < h.n → Refusing forms most h
unfolding s first second
n-refusing forms most h few g = by_form forms most h λ known. record {
  refusal = fault_of (length (bytes_of h.form)) (seen h.n (length (bytes_of h.form) + length (bytes_of h.n)));
  fails = λ rest t. n-bad h t forms most few known (high-out 1 4 h.n (length (bytes_of h.form) + length (bytes_of h.n)) (omega arith) g) rest;
}

-- n in range or not, m is not
pub m-refusing : (forms most : ℕ) (h : Header) → forms < 2 ^ 35 → h.n ≤ 4 → ((next : ℕ) → in_range 1 most (seen h.m next) ≡ None) → Refusing forms most h
unfolding s first second
m-refusing forms most h few g out = by_form forms most h λ known. go known (dec_lt h.n 1)
  where
    go : from 1 forms h.form ≡ true → Dec (h.n < 1) → Refusing forms most h
    go known (yes a) =
        let at = length (bytes_of h.form) in
        let next = at + length (bytes_of h.n) in
        record { refusal = fault_of at (seen h.n next); fails = λ rest t. n-bad h t forms most few known (low-out 1 4 h.n next a) rest }
    go known (no a) =
        let next = length (bytes_of h.form) + length (bytes_of h.n) in
        let b : 1 ≤ h.n = omega arith in
        let c : h.n < 2 ^ 35 = omega arith in
        record {
          refusal = fault_of next (seen h.m (next + length (bytes_of h.m)));
          fails = λ rest t. m-bad h t forms most few known (simp (lt-ltb _ _ c, le-ltb _ _ b, le-ltb _ _ g)) (out (next + length (bytes_of h.m))) rest;
        }

pub none_out : (most : ℕ) (m next : ℕ) → m < 1 → in_range 1 most (seen m next) ≡ None
none_out most m next h = low-out 1 most m next h

pub many-out : (most : ℕ) (m next : ℕ) → 1 ≤ m → most < m → in_range 1 most (seen m next) ≡ None
many-out most m next l h = high-out 1 most m next l h
