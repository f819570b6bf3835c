-- S2 for files of any form of meaning's page Files: values that were written are read back, and values that were read are written back as the
-- same bytes. What a reader says of written values is told without bytes, value by value, by `judged_values`. Relies on S1 (page Numbers) and on
-- page Floats. What the values of a plant or a sheet have to satisfy together is left to the pages on those.
use Rattle.std.specs.Prelude.{ℕ, ◌+◌, ◌^◌, ◌≤◌, ◌<◌, ◌≡◌, refl, Bool, true, false, cond, List, [], ◌∷◌, ◌++◌, length, ltb, eqb, ℤ, pos, nat_abs, Some, None}
use Rattle.std.proofs.Common.{sym, ap, ◌∙◌, append-nil, arith, add-zero, length-append, drop_at, lt-ltb, le-ltb, eqb-true, eq-eqb}
use Rattle.std.proofs.Math.Decide.{dec_lt}
use Rattle.std.proofs.Math.Seq.{drop-length}
use Rattle.laws.specs.Guards.{guard}
use Rattle.laws.specs.Standing.{Stands, stand-nil, stand-join, stand-front, stand-back}
use Rattle.laws.specs.Tests.{never, guard_passed}
use Rattle.meaning.specs.Answers.{Number}
use Rattle.meaning.specs.declared.Refusal.{Refusal}
use Rattle.meaning.specs.Refusals.{broken}
use Rattle.meaning.specs.Numbers.{number_at, as_signed, bytes_of, stored, restored}
use Rattle.meaning.specs.Files.{Kind, plain, signed, float, Taken, taken, none, taken_as, plain_taken, signed_taken, bytes_as, Field, Form, end, field, Read, read, refused, before, on_taken, values_at, ended, values_of, file_of}
use Rattle.promises.specs.Files.Numbers.{reads, was, too_long, restored-stored, stored-restored}
use Rattle.promises.specs.Files.Floats.{float-reads, float-was}

-- ---- one value

-- what a kind can store
abbrev pub Storable : Kind → ℤ → Type 0
Storable plain v = pos (nat_abs v) ≡ v
Storable signed v = Unit {0}
Storable float v = (pos (nat_abs v) ≡ v) × (nat_abs v < 2 ^ 64)

-- whether five bytes hold it, which is 35 bits; a float always has its eight
abbrev pub five_bytes : Kind → ℤ → Bool
five_bytes plain v = ltb (nat_abs v) (2 ^ 35)
five_bytes signed v = ltb (stored v) (2 ^ 35)
five_bytes float v = true

-- what is read of a number's bytes
pub number-back : (v i next : ℕ) (s : List ℕ) → Stands s i (bytes_of v) next → number_at s i ≡ cond (ltb v (2 ^ 35)) (Some (v, next)) None
number-back v i next s p = go (dec_lt v (2 ^ 35))
  where
    go : Dec (v < 2 ^ 35) → number_at s i ≡ cond (ltb v (2 ^ 35)) (Some (v, next)) None
    go (yes h) = rw (lt-ltb v (2 ^ 35) h) (reads v i next s h p)
    go (no h) = let l : 2 ^ 35 ≤ v = omega arith in rw (le-ltb v (2 ^ 35) l) (too_long v i next s l p)

taken_back : (k : Kind) (v : ℤ) (i next : ℕ) (s : List ℕ) → Storable k v → Stands s i (bytes_as k v) next → taken_as k s i ≡ cond (five_bytes k v) (taken v next) none
taken_back plain v i next s h p = ap plain_taken (number-back (nat_abs v) i next s p) ∙ go (ltb (nat_abs v) (2 ^ 35))
  where
    go : (t : Bool) → plain_taken (cond t (Some (nat_abs v, next)) None) ≡ cond t (taken v next) none
    go true = ap (λ (z : ℤ). taken z next) h
    go false = refl
taken_back signed v i next s h p = ap (λ (n : Number). signed_taken (as_signed n)) (number-back (stored v) i next s p) ∙ go (ltb (stored v) (2 ^ 35))
  where
    go : (t : Bool) → signed_taken (as_signed (cond t (Some (stored v, next)) None)) ≡ cond t (taken v next) none
    go true = ap (λ (z : ℤ). taken z next) (restored-stored v)
    go false = refl
taken_back float v i next s h p = float-reads (nat_abs v) i next s h.1 p ∙ ap (λ (z : ℤ). taken z next) h.0

-- a value that was read
pub record Was (k : Kind) (v : ℤ) (s : List ℕ) (i next : ℕ) : Type 0 where
  pub storable : Storable k v
  pub short : five_bytes k v ≡ true
  pub stands : Stands s i (bytes_as k v) next

pub taken-was : (k : Kind) (v : ℤ) (i next : ℕ) (s : List ℕ) → taken_as k s i ≡ taken v next → Was k v s i next
taken-was plain v i next s e = go (number_at s i) refl e
  where
    go : (n : Number) → number_at s i ≡ n → plain_taken n ≡ taken v next → Was plain v s i next
    go (Some (u, m)) q e =
        let a : v ≡ pos u = cc in
        let b : next ≡ m = cc in
        let w = was u i m s q in
        rw (a, b) (record { storable = refl; short = lt-ltb u (2 ^ 35) w.0; stands = w.1 })
    go None q e = never cc
taken-was signed v i next s e = go (number_at s i) refl e
  where
    go : (n : Number) → number_at s i ≡ n → signed_taken (as_signed n) ≡ taken v next → Was signed v s i next
    go (Some (u, m)) q e =
        let a : v ≡ restored u = cc in
        let b : next ≡ m = cc in
        let w = was u i m s q in
        let c = stored-restored u in
        rw (a, b) (record { storable = tt; short = rw c (lt-ltb u (2 ^ 35) w.0); stands = rw c w.1 })
    go None q e = never cc
taken-was float v i next s e =
    let w = float-was v i next s e in
    rw w.1 (record { storable = (refl, w.2); short = refl; stands = w.3 })

-- ---- values of a form

-- nothing at the end; at a field a value that its kind can store, and then values of the shape that it calls for
unfoldable pub Shaped : Form → List ℤ → Type 0
Shaped end vs = vs ≡ []
Shaped (field f rest) [] = ⊥
Shaped (field f rest) (v ∷ vs) = Storable f.kind v × Shaped (rest v) vs

-- Values judged in order, the first of them at a place: 1 where five bytes do not hold a value, its field's refusal where it is not right. Each
-- place is behind the bytes of the values before. (A form that asks for more values than there are is no form of them.)
unfoldable pub judged_values : Form → List ℤ → ℕ → Read (List ℤ)
judged_values end vs at = read [] at
judged_values (field f rest) [] at = refused (broken at)
judged_values (field f rest) (v ∷ vs) at =
    guard (five_bytes f.kind v) (refused (broken at)) λ _.
    guard (f.right v) (refused (f.wrong at)) λ _.
    before v (judged_values (rest v) vs (at + length (bytes_as f.kind v)))

-- ---- what was written is judged by its values

pub reads-back : (form : Form) (vs : List ℤ) (s : List ℕ) (i next : ℕ) → Shaped form vs → Stands s i (file_of form vs) next → values_at form s i ≡ judged_values form vs i
unfolding Shaped judged_values values_at file_of
reads-back end vs s i next h p = refl
reads-back (field f rest) [] s i next h p = absurd h
reads-back (field f rest) (v ∷ vs) s i next h p =
    let bytes = bytes_as f.kind v in
    let mid = i + length bytes in
    rw (taken_back f.kind v i mid s h.0 (stand-front bytes (file_of (rest v) vs) p))
    (go mid (five_bytes f.kind v) (reads-back (rest v) vs s mid next h.1 (stand-back bytes (file_of (rest v) vs) p)))
  where
    go : (mid : ℕ) (t : Bool) → values_at (rest v) s mid ≡ judged_values (rest v) vs mid
        → on_taken (cond t (taken v mid) none) i (λ v next. guard (f.right v) (refused (f.wrong i)) λ _. before v (values_at (rest v) s next))
        ≡ guard t (refused (broken i)) λ _. guard (f.right v) (refused (f.wrong i)) λ _. before v (judged_values (rest v) vs mid)
    go mid true e = ap (λ (r : Read (List ℤ)). guard (f.right v) (refused (f.wrong i)) λ _. before v r) e
    go mid false e = refl

-- ---- what was read: a value came before the others

refused-read : {r : Refusal} {ws : List ℤ} {m : ℕ} → refused r ≡ read ws m → ⊥
refused-read e = never cc

before-read : {ws : List ℤ} {m : ℕ} (v : ℤ) (t : Read (List ℤ)) → before v t ≡ read ws m → (more : List ℤ) × (ws ≡ v ∷ more) × (t ≡ read more m)
before-read v (read more n) e = (more, cc, cc)
before-read v (refused r) e = never cc

-- values that were judged right are the values themselves, and the place behind them is that behind their bytes
pub judged-back : (form : Form) (vs : List ℤ) (i : ℕ) {ws : List ℤ} {m : ℕ} → Shaped form vs → judged_values form vs i ≡ read ws m
    → (ws ≡ vs) × (m ≡ i + length (file_of form vs))
unfolding Shaped judged_values file_of
judged-back end vs i h e = (rw h (cc), cc (add-zero i))
judged-back (field f rest) [] i h e = absurd h
judged-back (field f rest) (v ∷ vs) i h e =
    let bytes = bytes_as f.kind v in
    let a = guard_passed (five_bytes f.kind v) _ refused-read e in
    let b = guard_passed (f.right v) _ refused-read a.1 in
    let c = before-read v (judged_values (rest v) vs (i + length bytes)) b.1 in
    let more = judged-back (rest v) vs (i + length bytes) h.1 c.2 in
    (c.1 ∙ ap (λ (us : List ℤ). v ∷ us) more.0, omega (arith, more.1, length-append bytes (file_of (rest v) vs)))

-- a field that was read, and what was read behind it
pub record FieldRead (f : Field) (rest : ℤ → Form) (s : List ℕ) (i : ℕ) (vs : List ℤ) (next : ℕ) : Type 0 where
  pub value : ℤ
  pub others : List ℤ
  pub mid : ℕ
  pub values : vs ≡ value ∷ others
  pub right : f.right value ≡ true
  pub storable : Storable f.kind value
  pub short : five_bytes f.kind value ≡ true
  pub stands : Stands s i (bytes_as f.kind value) mid
  pub behind : values_at (rest value) s mid ≡ read others next

pub field-read : (f : Field) (rest : ℤ → Form) (s : List ℕ) (i : ℕ) {vs : List ℤ} {next : ℕ} → values_at (field f rest) s i ≡ read vs next → FieldRead f rest s i vs next
unfolding values_at
field-read f rest s i {vs} {next} e = go (taken_as f.kind s i) refl e
  where
    go : (t : Taken) → taken_as f.kind s i ≡ t → on_taken t i (λ v m. guard (f.right v) (refused (f.wrong i)) λ _. before v (values_at (rest v) s m)) ≡ read vs next
        → FieldRead f rest s i vs next
    go none q e = never cc
    go (taken v mid) q e =
        let a = guard_passed (f.right v) _ refused-read e in
        let b = before-read v (values_at (rest v) s mid) a.1 in
        let w = taken-was f.kind v i mid s q in
        record { value = v; others = b.0; mid = mid; values = b.1; right = a.0; storable = w.storable; short = w.short; stands = w.stands; behind = b.2 }

-- ---- what was read is written back

pub writes-back : (form : Form) (s : List ℕ) (i : ℕ) {vs : List ℤ} {next : ℕ} → values_at form s i ≡ read vs next → Shaped form vs × Stands s i (file_of form vs) next
unfolding Shaped values_at file_of
writes-back end s i {vs} {next} e =
    let a : vs ≡ [] = cc in
    let b : next ≡ i = cc in
    (a, rw b (stand-nil s i))
writes-back (field f rest) s i e =
    let w = field-read f rest s i e in
    let more = writes-back (rest w.value) s w.mid w.behind in
    rw w.values ((w.storable, more.0), stand-join w.stands more.1)

-- ---- whole files

whole : (s : List ℕ) → Stands s 0 s (length s)
whole s = record { end = omega arith; bytes = rw (drop-length s) (sym (append-nil s)) }

-- a file of written values is judged by its values
pub file-reads : (form : Form) (vs : List ℤ) → Shaped form vs → values_of form (file_of form vs) ≡ judged_values form vs 0
file-reads form vs h = ap (ended s) (reads-back form vs s 0 (length s) h (whole s)) ∙ go (judged_values form vs 0) refl
  where
    s : List ℕ
    s = file_of form vs

    go : (t : Read (List ℤ)) → judged_values form vs 0 ≡ t → ended s t ≡ t
    go (refused r) e = refl
    go (read ws m) e = let q = judged-back form vs 0 h e in rw (eq-eqb m (length s) (omega (arith, q.1))) refl

-- the bytes of the values of a file that was read are the file, to its end
pub file-writes : (form : Form) (s : List ℕ) {vs : List ℤ} {next : ℕ} → values_of form s ≡ read vs next
    → (values_at form s 0 ≡ read vs next) × (next ≡ length s) × (file_of form vs ≡ s)
file-writes form s {vs} {next} e = go (values_at form s 0) refl e
  where
    go : (t : Read (List ℤ)) → values_at form s 0 ≡ t → ended s t ≡ read vs next
        → (values_at form s 0 ≡ read vs next) × (next ≡ length s) × (file_of form vs ≡ s)
    go (refused r) q e = never cc
    go (read ws m) q e =
        let a = guard_passed (eqb m (length s)) _ refused-read e in
        let r : values_at form s 0 ≡ read vs next = q ∙ a.1 in
        let b = writes-back form s 0 r in
        let n : next ≡ length s = (let k : m ≡ next = cc in omega (arith, eqb-true m (length s) a.0)) in
        let x : s ≡ file_of form vs = b.1.bytes ∙ rw (n, drop-length s, append-nil) refl in
        (r, n, sym x)

-- and are read so whatever stands behind them
pub read-in-front : (form : Form) (s : List ℕ) {vs : List ℤ} {next : ℕ} → values_of form s ≡ read vs next → (rest : List ℕ) → values_at form (file_of form vs ++ rest) 0 ≡ read vs next
read-in-front form s {vs} {next} e rest =
    let w = file-writes form s e in
    let b = writes-back form s 0 w.0 in
    let t = file_of form vs ++ rest in
    let stands : Stands t 0 (file_of form vs) next = record {
      end = b.1.end;
      bytes = ap (λ (l : List ℕ). file_of form vs ++ l) (sym (drop_at (file_of form vs) rest next (omega (arith, b.1.end))));
    } in
    reads-back form vs t 0 next b.0 stands ∙ sym (reads-back form vs s 0 next b.0 b.1) ∙ w.0
