-- The header's numbers, each as its reader answers it: where one is refused, so is the file; where all are taken, they are the header. Relies on page
-- HeaderLaws.
use Rattle.std.specs.Prelude.{Some, None, Ok, Err, Result, ok_or}
use Rattle.std.specs.Int.{w64}
use Rattle.std.proofs.Common.{Fits}
use Prim.Native.Nat.{ℕ, ◌*◌, ◌≤◌, ◌<◌}
use mathlib.Core.Path.{◌≡◌, ap, ◌∙◌}
use mathlib.Core.Bool.{true}
use mathlib.Core.List.{List, [], ◌∷◌}
use lib.IntN.{pos}
use Rattle.meaning.specs.declared.Refusal.{Refusal}
use Rattle.meaning.specs.Refusals.{unfit}
use Rattle.meaning.specs.Numbers.{number_at}
use Rattle.meaning.specs.Files.{Form, refused, values_at}
use Rattle.meaning.specs.Plants.{from, headed}
use Rattle.files.specs.Fields.{counted_at, fault_at}
use Rattle.files.specs.FieldLaws.{was-taken, was-refused}
use Rattle.files.specs.HeaderLaws.{from-d, from-k, from-q, from-m, from-n, Reached, form-reached, number-fails, number-reached, d-fails, too-deep, d-reached, headed-as, small_product}
use Rattle.files.specs.Headers.{Headed}

-- what a number's reader answers
abbrev Read : Type 0
Read = Result (ℕ × ℕ) Refusal

abbrev Taken : List ℕ → ℕ → ℕ → ℕ → ℕ → ℕ → Type 0
Taken s at least most v next = ◌≡◌ {A = Read} (Ok (v, next)) (ok_or (counted_at s at least most) (fault_at s at))

abbrev Left : List ℕ → ℕ → ℕ → ℕ → Refusal → Type 0
Left s at least most r = ◌≡◌ {A = Read} (Err r) (ok_or (counted_at s at least most) (fault_at s at))

taken : (s : List ℕ) (at least most v next : ℕ) → Taken s at least most v next → counted_at s at least most ≡ Some (v, next)
taken s at least most v next e = was-taken (counted_at s at least most) (fault_at s at) (v, next) e

module _ (forms most : ℕ) (s : List ℕ) where
  abbrev Refused : Refusal → Type 0
  Refused r = (rest : ℕ → ℕ → ℕ → Form) → values_at (headed forms most rest) s 0 ≡ refused r

  left : (at least high : ℕ) (r : Refusal) → ((rest : ℕ → ℕ → ℕ → Form) → counted_at s at least high ≡ None → values_at (headed forms most rest) s 0 ≡ refused (fault_at s at)) → Left s at least high r → Refused r
  left at least high r fails e rest =
      let w = was-refused (counted_at s at least high) (fault_at s at) r e in
      fails rest w.0 ∙ ap refused w.1

  module _ (form a : ℕ) (e : number_at s 0 ≡ Some (form, a)) (known : from 1 forms form ≡ true) where
    form_read : Reached forms most s (from-n most form) (pos form ∷ []) a
    form_read = form-reached forms most s form a e known

    pub n-left : (r : Refusal) → Left s a 1 4 r → Refused r
    n-left r = left a 1 4 r λ rest z. number-fails 1 4 (from-m most form) form_read z rest

    module _ (n b : ℕ) (n-is : Taken s a 1 4 n b) where
      n-read : Reached forms most s (from-m most form n) (pos form ∷ pos n ∷ []) b
      n-read = number-reached 1 4 (from-m most form) form_read n b (taken s a 1 4 n b n-is)

      pub m-left : (r : Refusal) → Left s b 1 most r → Refused r
      m-left r = left b 1 most r λ rest z. number-fails 1 most (from-q form n) n-read z rest

      module _ (m c : ℕ) (m-is : Taken s b 1 most m c) where
        m-read : Reached forms most s (from-q form n m) (pos form ∷ pos n ∷ pos m ∷ []) c
        m-read = number-reached 1 most (from-q form n) n-read m c (taken s b 1 most m c m-is)

        pub q-left : (r : Refusal) → Left s c 1 10000 r → Refused r
        q-left r = left c 1 10000 r λ rest z. number-fails 1 10000 (λ q. from-k form n m) m-read z rest

        module _ (q f : ℕ) (q-is : Taken s c 1 10000 q f) where
          q-read : Reached forms most s (from-k form n m) (pos form ∷ pos n ∷ pos m ∷ pos q ∷ []) f
          q-read = number-reached 1 10000 (λ q. from-k form n m) m-read q f (taken s c 1 10000 q f q-is)

          pub k-left : (r : Refusal) → Left s f 1 6 r → Refused r
          k-left r = left f 1 6 r λ rest z. number-fails 1 6 (λ k. from-d form n m) q-read z rest

          module _ (k g : ℕ) (k-is : Taken s f 1 6 k g) where
            k-read : Reached forms most s (from-d form n m) (pos form ∷ pos n ∷ pos m ∷ pos q ∷ pos k ∷ []) g
            k-read = number-reached 1 6 (λ k. from-d form n m) q-read k g (taken s f 1 6 k g k-is)

            pub d-left : (r : Refusal) → Left s g 0 6 r → Refused r
            d-left r = left g 0 6 r λ rest z. d-fails form n m k-read z rest

            module _ (d next : ℕ) (d-is : Taken s g 0 6 d next) where
              pub deep : 12 < n * d → Refused (unfit g)
              deep h rest = too-deep form n m k-read d next (taken s g 0 6 d next d-is) h rest

              pub header-read : n * d ≤ 12 → Headed forms most s (record { form = form; n = n; m = m; q = q; k = k; d = d }) next
              header-read h =
                  headed-as forms most s form a n b m c q f k g d next known (taken s a 1 4 n b n-is) (taken s b 1 most m c m-is) (taken s c 1 10000 q f q-is) (taken s f 1 6 k g k-is) (taken s g 0 6 d next d-is)
                  (d-reached form n m k-read d next (taken s g 0 6 d next d-is) h)

pub product-fits : (s : List ℕ) (a g n b d next : ℕ) → Taken s a 1 4 n b → Taken s g 0 6 d next → Fits w64 (n * d)
product-fits s a g n b d next e h = small_product s a g n b d next (taken s a 1 4 n b e) (taken s g 0 6 d next h)
