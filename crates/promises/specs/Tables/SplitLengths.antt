-- The lengths that a split tells of its children (request 2026-01): what is read as lengths stands there; and those of a forest whose lengths stand are read, each
-- that of its tree, and point at no place behind a file that holds the forest. Over any flag: where lengths are not told there are none. That what stands is
-- read needs lengths that fit five bytes. Relies on the laws of numbers. What the walk does with them is page Layouts, what a call does page Finds.
use Rattle.std.specs.Prelude.{ℕ, zero, suc, ◌+◌, ◌-◌, ◌^◌, ◌≤◌, ◌<◌, ◌≡◌, refl, Bool, true, false, cond, List, [], ◌∷◌, ◌++◌, length, Some}
use Rattle.std.proofs.Common.{ap, ◌∙◌, arith, length-append, le-leb}
use Rattle.std.proofs.Math.Option.{none}
use Rattle.laws.specs.Every as E
use Rattle.laws.specs.Every.{Every}
use Rattle.laws.specs.Standing.{Stands, stand-nil, stand-join, stand-front, stand-back, stand-within}
use Rattle.laws.specs.Tests.{never}
use Rattle.meaning.specs.declared.Refusal.{Refusal}
use Rattle.meaning.specs.Control as C
use Rattle.meaning.specs.Control.{past_file}
use Rattle.meaning.specs.Files.{Read, read, refused, before}
use Rattle.meaning.specs.Numbers.{number_at, bytes_of}
use Rattle.meaning.specs.Trees as Y
use Rattle.meaning.specs.Trees.{Tree, Forest, split, tile, leaf, more, modes_bytes, layout, layouts, lengths_of}
use Rattle.meaning.specs.Verdicts as W
use Rattle.meaning.specs.Verdicts.{Length, length_at, lengths_at, lengths_by}
use Rattle.promises.specs.Files.Bytes.{bytes-some}
use Rattle.promises.specs.Files.Numbers.{reads, was}
use Rattle.promises.specs.Tables.Laws.{Small, Fits, FitsEach}
use Rattle.promises.specs.Tables.Walking.{number_read, lengths_count, lengths-by}

refused-read : {A : Type 0} {e : Refusal} {a : A} {m : ℕ} → refused e ≡ read a m → ⊥
refused-read e = never cc

-- how many trees a forest has
unfoldable pub count_of : Forest → ℕ
count_of leaf = 0
count_of (more t f) = suc (count_of f)

-- each length is that of its tree, as far as there are both
unfoldable pub Held : Bool → List Length → Forest → Type 0
Held told [] f = Unit {0}
Held told (l ∷ ls) leaf = Unit {0}
Held told (l ∷ ls) (more t f) = (l.size ≡ length (layout told t)) × Held told ls f

-- the bytes of some lengths
unfoldable pub sizes_bytes : List Length → List ℕ
sizes_bytes [] = []
sizes_bytes (l ∷ ls) = bytes_of l.size ++ sizes_bytes ls

-- the bytes between a split's 0 and its children, and the place behind them
abbrev pub told_bytes : Bool → Forest → List ℕ
told_bytes told f = cond told (lengths_of told f) []

abbrev pub first_child : Bool → Forest → ℕ → ℕ
first_child told f at = at + length (bytes_of 0) + length (told_bytes told f)

-- a tree has bytes
pub layout-some : (told : Bool) (t : Tree) → 1 ≤ length (layout told t)
unfolding Y.layout
layout-some told (tile us) = omega (arith, bytes-some (length us), length-append (bytes_of (length us)) (modes_bytes us))
layout-some told (split f) = omega (arith, bytes-some 0, length-append (bytes_of 0) (told_bytes told f ++ layouts told f))

-- ---- what is read stands there

pub record LengthsStand (k : ℕ) (s : List ℕ) (at : ℕ) (ls : List Length) (m : ℕ) : Type 0 where
  pub count : length ls ≡ k
  pub stand : Stands s at (sizes_bytes ls) m
  -- each stands in the file, and is a number of at most five bytes
  pub inside : Every (λ l. l.place ≤ length s) ls
  pub small : Every (λ l. l.size < 2 ^ 35) ls

pub lengths-stand : (k : ℕ) (s : List ℕ) (at : ℕ) (ls : List Length) (m : ℕ) → lengths_at k s at ≡ read ls m → LengthsStand k s at ls m
unfolding W.lengths_at sizes_bytes E.Every
lengths-stand zero s at ls m e =
    let p : ls ≡ [] = cc in
    let q : m ≡ at = cc in
    rw (p, q) (record { count = refl; stand = stand-nil s at; inside = tt; small = tt })
lengths-stand (suc k) s at ls m e =
    let v = number_read (number_at s at) (λ size next. before (length_at at size) (lengths_at k s next)) refused-read e in
    go v.0 v.1 (was v.0 at v.1 s v.2) (λ ls m q. lengths-stand k s v.1 ls m q) (lengths_at k s v.1) refl v.3
  where
    go : (size next : ℕ) → (size < 2 ^ 35) × Stands s at (bytes_of size) next → ((ls : List Length) (m : ℕ) → lengths_at k s next ≡ read ls m → LengthsStand k s next ls m)
        → (o : Read (List Length)) → lengths_at k s next ≡ o → before (length_at at size) o ≡ read ls m → LengthsStand (suc k) s at ls m
    go size next p ih (refused x) q e = absurd (refused-read e)
    go size next p ih (read vs y) q e =
        let a : ls ≡ length_at at size ∷ vs = cc in
        let b : m ≡ y = cc in
        let h = ih vs y q in
        let in-file : at ≤ length s = omega (arith, p.1.end, stand-within s (bytes_of size) at next p.1 (bytes-some size)) in
        rw (a, b) (record { count = ap suc h.count; stand = stand-join p.1 h.stand; inside = (in-file, h.inside); small = (p.0, h.small) })

-- where they are those of a forest, they are the bytes that its layout has
pub held_bytes : (told : Bool) (f : Forest) (ls : List Length) → length ls ≡ lengths_count told (count_of f) → Held told ls f → sizes_bytes ls ≡ told_bytes told f
unfolding Y.layout count_of Held sizes_bytes
held_bytes false f [] c h = refl
held_bytes false f (l ∷ ls) c h = absurd (omega arith)
held_bytes true leaf [] c h = refl
held_bytes true leaf (l ∷ ls) c h = absurd (omega arith)
held_bytes true (more t leaf) [] c h = refl
held_bytes true (more t leaf) (l ∷ ls) c h = absurd (omega arith)
held_bytes true (more t (more u f)) [] c h = absurd (omega arith)
held_bytes true (more t (more u f)) (l ∷ ls) c h =
    let e : l.size ≡ length (layout true t) = h.0 in
    rw (e, held_bytes true (more u f) ls (omega arith) h.1) refl

-- and so those are small
pub held_small : (told : Bool) (f : Forest) (ls : List Length) → length ls ≡ lengths_count told (count_of f) → Held told ls f → Every (λ l. l.size < 2 ^ 35) ls → Small told f
unfolding count_of Held Small E.Every
held_small false f ls c h l = tt
held_small true leaf ls c h l = tt
held_small true (more t leaf) ls c h l = tt
held_small true (more t (more u f)) [] c h l = absurd (omega arith)
held_small true (more t (more u f)) (k ∷ ls) c h l = (omega (arith, h.0, l.0), held_small true (more u f) ls (omega arith) h.1 l.1)

-- ---- what stands is read

pub record LengthsRead (told : Bool) (f : Forest) (s : List ℕ) (at m : ℕ) : Type 0 where
  pub lengths : List Length
  pub are : lengths_at (lengths_count told (count_of f)) s at ≡ read lengths m
  pub held : Held told lengths f
  pub count : length lengths ≡ lengths_count told (count_of f)

pub lengths_read : (told : Bool) (f : Forest) (s : List ℕ) (at m : ℕ) → Small told f → Stands s at (told_bytes told f) m → LengthsRead told f s at m
unfolding W.lengths_at Y.layout count_of Held Small
lengths_read false f s at m fit p =
    let q : m ≡ at = omega (arith, p.end) in
    record { lengths = []; are = rw q refl; held = tt; count = refl }
lengths_read true leaf s at m fit p =
    let q : m ≡ at = omega (arith, p.end) in
    record { lengths = []; are = rw q refl; held = tt; count = refl }
lengths_read true (more t leaf) s at m fit p =
    let q : m ≡ at = omega (arith, p.end) in
    record { lengths = []; are = rw q refl; held = tt; count = refl }
lengths_read true (more t (more u f)) s at m fit p =
    let size = length (layout true t) in
    let mid = at + length (bytes_of size) in
    let q : suc (suc (count_of f)) - 1 ≡ suc (suc (count_of f) - 1) = omega arith in
    let e = reads size at mid s fit.0 (stand-front (bytes_of size) (lengths_of true (more u f)) p) in
    let w = lengths_read true (more u f) s mid m fit.1 (stand-back (bytes_of size) (lengths_of true (more u f)) p) in
    record {
      lengths = length_at at size ∷ w.lengths;
      are = rw q (rw (e, w.are) refl);
      held = (refl, w.held);
      count = omega (arith, w.count);
    }

-- none of them points behind the file
pub past-none : (told : Bool) (f : Forest) (ls : List Length) (s : List ℕ) (at m : ℕ) → length ls ≤ count_of f → Held told ls f → Stands s at (layouts told f) m
    → past_file (length s) ls at ≡ none
unfolding C.past_file Y.layout count_of Held
past-none told f [] s at m c h p = refl
past-none told leaf (l ∷ ls) s at m c h p = absurd (omega arith)
past-none told (more t f) (l ∷ ls) s at m c h p =
    let q = stand-front (layout told t) (layouts told f) p in
    let e : l.size ≡ length (layout told t) = h.0 in
    let in-file : at + length (layout told t) ≤ length s = stand-within s (layout told t) at (at + length (layout told t)) q (layout-some told t) in
    rw (e, le-leb (at + length (layout told t)) (length s) in-file)
    (past-none told f ls s (at + length (layout told t)) m (omega arith) h.1 (stand-back (layout told t) (layouts told f) p))

-- ---- a split that stands: its number, the lengths that it tells of its children, and they behind them

-- a split's number
pub split-read : (rest s : List ℕ) (at m : ℕ) → Stands s at (bytes_of 0 ++ rest) m → number_at s at ≡ Some (0, at + length (bytes_of 0))
split-read rest s at m p = reads 0 at (at + length (bytes_of 0)) s (omega arith) (stand-front (bytes_of 0) rest p)

pub record SplitStands {B : Type 0} (told : Bool) (f : Forest) (bs : List B) (s : List ℕ) (at m : ℕ) : Type 0 where
  pub number : number_at s at ≡ Some (0, at + length (bytes_of 0))
  pub lengths : List Length
  pub are : lengths_by told bs s (at + length (bytes_of 0)) ≡ read lengths (first_child told f at)
  pub held : Held told lengths f
  pub count : length lengths ≡ lengths_count told (length bs)
  pub stand : Stands s (first_child told f at) (layouts told f) m

pub split-stands : {B : Type 0} (told : Bool) (f : Forest) (bs : List B) (s : List ℕ) (at m : ℕ) → count_of f ≡ length bs → Small told f
    → Stands s at (bytes_of 0 ++ (told_bytes told f ++ layouts told f)) m → SplitStands told f bs s at m
split-stands told f bs s at m c fit p =
    let q = stand-back (bytes_of 0) (told_bytes told f ++ layouts told f) p in
    let w = lengths_read told f s (at + length (bytes_of 0)) (first_child told f at) fit (stand-front (told_bytes told f) (layouts told f) q) in
    record {
      number = split-read (told_bytes told f ++ layouts told f) s at m p;
      lengths = w.lengths;
      are = lengths-by told bs s (at + length (bytes_of 0)) ∙ rw (← c) w.are;
      held = w.held;
      count = rw (← c) w.count;
      stand = stand-back (told_bytes told f) (layouts told f) q;
    }

-- ---- what fits

-- lengths of trees that fit are of five bytes
pub short-small : (told : Bool) (f : Forest) → length (layouts told f) < 2 ^ 35 → Small told f
unfolding Y.layout Small
short-small false f h = tt
short-small true leaf h = tt
short-small true (more t leaf) h = tt
short-small true (more t (more u f)) h =
    let all = length-append (layout true t) (layouts true (more u f)) in
    (omega (arith, h, all), short-small true (more u f) (omega (arith, h, all)))

mutual
  unfolding Y.layout Fits

  pub short-fits : (told : Bool) (t : Tree) → length (layout told t) < 2 ^ 35 → Fits told t
  short-fits told (tile us) h = tt
  short-fits told (split f) h =
      let l : length (layouts told f) < 2 ^ 35 = omega (arith, h, length-append (bytes_of 0) (told_bytes told f ++ layouts told f), length-append (told_bytes told f) (layouts told f)) in
      (short-small told f l, short-each told f l)

  short-each : (told : Bool) (f : Forest) → length (layouts told f) < 2 ^ 35 → FitsEach told f
  short-each told leaf h = tt
  short-each told (more t f) h =
      let all = length-append (layout told t) (layouts told f) in
      (short-fits told t (omega (arith, h, all)), short-each told f (omega (arith, h, all)))

-- and where none are told, any tree
mutual
  unfolding Fits Small

  pub plain_fits : (t : Tree) → Fits false t
  plain_fits (tile us) = tt
  plain_fits (split f) = (tt, plain-each f)

  plain-each : (f : Forest) → FitsEach false f
  plain-each leaf = tt
  plain-each (more t f) = (plain_fits t, plain-each f)
