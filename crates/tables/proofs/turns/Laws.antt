-- A tree that lies in some bytes, taken apart as the code reads it: a tile's numbers, a split's lengths, its trees one after another. Then the three loops over
-- these: their sizes, their lengths, and they themselves in the other layout. Assumes nothing.
use Rattle.std.specs.Prelude.{Some, None, Ok}
use Prim.Native.Nat.{ℕ, zero, suc, ◌+◌, ◌-◌, ◌^◌, ◌≤◌, ◌<◌}
use mathlib.Core.Path.{◌≡◌, refl, sym, ap, ◌∙◌}
use mathlib.Core.Bool.{Bool, true, false, not}
use mathlib.Core.List.{List, [], ◌∷◌, ◌++◌}
use native.Mathlib.Omega.{arith}
use native.Mathlib.Numerals.{add-one}
use lib.Dec.{ltb}
use lib.ListN.{length, get_or, drop, take, drop_of_length-le, length-append}
use lib.Seq.{drop-cons, take_at}
use native.Mathlib.Decide.{dec_lt}
use borrow.Author.Tests.{lt-ltb, le-ltb, le-leb}
use Rattle.meaning.specs.Answers.{Number}
use Rattle.laws.specs.Pairs.{some-first, some-second}
use Rattle.laws.specs.Standing.{Stands, stand-front, stand-back, stand-within}
use Rattle.laws.specs.Tests.{never}
use Rattle.laws.specs.Writing.{Put, Under, put-append, put-length, under_none, under_more, under-done}
use Rattle.meaning.specs.Boxes.{Side}
use Rattle.meaning.specs.Buffers.{refused_with, left}
use Rattle.meaning.specs.Files.{read, good}
use Rattle.meaning.specs.Numbers.{number_at, bytes_of}
use Rattle.meaning.specs.Refusals.{short}
use Rattle.meaning.specs.Tables.{children_by}
use Rattle.meaning.specs.Trees.{Tree, Forest, split, tile, leaf, more, modes_bytes, unless_last, layout, layouts, lengths_of, AllBelow, Pattern, Over, Overs}
use Rattle.meaning.specs.Verdicts.{lengths_at}
use Rattle.promises.specs.Files.Buffers.{left-short}
use Rattle.promises.specs.Files.Bytes.{one_byte}
use Rattle.promises.specs.Files.Numbers.{reads}
use Rattle.promises.specs.Tables.SplitLengths.{told_bytes, layout-some, lengths_read, short-small, split-read}
use Rattle.promises.specs.Tables.Layouts.{overs-count}
use Rattle.tables.specs.declared.frames.Counts.{Counts}
use Rattle.tables.specs.Lengths.{behind_at}
use Rattle.tables.proofs.lengths.Laws.{behind_more}
use Rattle.tables.specs.declared.turns.Size.{Size}
use Rattle.tables.specs.declared.turns.Turned.{Turned}
use Rattle.tables.specs.Turns.{shapes, CountsSound, most_tree, TreeLies, TreesLie, SplitLies, Measured, Turns, length_if}

value_same : {k next j m : ℕ} → ◌≡◌ {A = Number} (Some (k, next)) (Some (j, m)) → (k ≡ j) × (next ≡ m)
value_same e = (some-first e, some-second e)

-- ---- a tile: the place behind its modes

modes-behind : (N : ℕ) → N ≤ 2 ^ 35 → (us s : List ℕ) (at m : ℕ) → AllBelow N us → Stands s at (modes_bytes us) m → behind_at (length us) s at ≡ Ok m
unfolding lengths_at AllBelow modes_bytes
modes-behind N small [] s at m h p = let q : m ≡ at = omega (arith, p.end) in rw q refl
modes-behind N small (u ∷ us) s at m h p =
    let mid = at + length (bytes_of u) in
    let e : number_at s at ≡ Some (u, mid) = reads u at mid s (omega (arith, h.0)) (stand-front (bytes_of u) (modes_bytes us) p) in
    let rest : behind_at (length us) s mid ≡ Ok m = modes-behind N small us s mid m h.1 (stand-back (bytes_of u) (modes_bytes us) p) in
    let all : suc (length us) ≡ suc (length us) - 0 = omega arith in
    let one : suc (length us) - (0 + 1) ≡ length us = omega arith in
    ap (λ (k : ℕ). behind_at k s at) all ∙ sym (behind_more s (suc (length us)) 0 at (omega arith) e) ∙ ap (λ (k : ℕ). behind_at k s mid) one ∙ rest

-- ---- a node by its number

tile-number : (f : Counts) → CountsSound f → (s : List ℕ) (at : ℕ) (us : List ℕ) (m : ℕ) → Pattern f.k f.modes us → Stands s at (bytes_of (length us) ++ modes_bytes us) m
    → number_at s at ≡ Some (length us, at + length (bytes_of (length us)))
tile-number f sound s at us m g p =
    reads (length us) at (at + length (bytes_of (length us))) s (omega (arith, g.few, sound.1)) (stand-front (bytes_of (length us)) (modes_bytes us) p)

some-children : (bs : List (List Side)) → (bs ≡ [] → ⊥) → 1 ≤ length bs
some-children [] z = absurd (z refl)
some-children (c ∷ cs) z = omega arith

module _ {f : Counts} {told : Bool} {s : List ℕ} {d : ℕ} {b : List Side} {at : ℕ} (sound : CountsSound f) where
  pub lies-read : {t : Tree} {m : ℕ} → TreeLies f told s d b at t m → number_at s at ≡ None → ⊥
  unfolding layout Over
  lies-read {t = tile us} {m} l e = let q = sym e ∙ tile-number f sound s at us m l.over l.stand in never cc
  lies-read {t = split g} {m} l e = let q = sym e ∙ split-read _ s at m l.stand in never cc

  module _ (k next : ℕ) (t : Tree) (m : ℕ) (l : TreeLies f told s d b at t m) where
    pub record WasTile : Type 0 where
      pub modes : List ℕ
      pub is : t ≡ tile modes
      pub behind : behind_at k s next ≡ Ok m
      -- a tile is laid out alike
      pub same : (other : Bool) → layout other t ≡ layout told t

    pub record WasSplit : Type 0 where
      pub trees : Forest
      pub is : t ≡ split trees
      pub deep : 0 < d
      pub some : 1 ≤ length (children_by f.form b)
      pub place : next ≡ at + length (bytes_of 0)
      pub first : ℕ
      pub lie : SplitLies f told s (d - 1) (children_by f.form b) next first trees m

  pub was-tile : {k next : ℕ} → number_at s at ≡ Some (k, next) → {t : Tree} {m : ℕ} (l : TreeLies f told s d b at t m) → 0 < k → WasTile k next t m l
  unfolding layout Over
  was-tile {k} {next} e {t = split g} {m} l z = let q = value_same (sym e ∙ split-read _ s at m l.stand) in absurd (omega (arith, q.0))
  was-tile {k} {next} e {t = tile us} {m} l z =
      let q = value_same (sym e ∙ tile-number f sound s at us m l.over l.stand) in
      record {
        modes = us;
        is = refl;
        same = λ other. refl;
        behind = rw (q.0, q.1) (modes-behind f.modes (omega (arith, sound.2)) us s (at + length (bytes_of (length us))) m l.over.modes
            (stand-back (bytes_of (length us)) (modes_bytes us) l.stand));
      }

  pub was-split : {k next : ℕ} → number_at s at ≡ Some (k, next) → {t : Tree} {m : ℕ} (l : TreeLies f told s d b at t m) → k ≤ 0 → WasSplit k next t m l
  unfolding layout Over
  was-split {k} {next} e {t = tile us} {m} l z =
      let q = value_same (sym e ∙ tile-number f sound s at us m l.over l.stand) in
      absurd (omega (arith, z, q.0, l.over.some))
  was-split {k} {next} e {t = split g} {m} l z = go d refl l.over
    where
      q : next ≡ at + length (bytes_of 0)
      q = (value_same (sym e ∙ split-read _ s at m l.stand)).1

      behind : Stands s next (told_bytes told g ++ layouts told g) m
      behind = rw q (stand-back (bytes_of 0) (told_bytes told g ++ layouts told g) l.stand)

      less : length (layouts true g) ≤ most_tree
      less = omega (arith, l.short, length-append (bytes_of 0) (told_bytes true g ++ layouts true g), length-append (told_bytes true g) (layouts true g))

      go : (c : ℕ) → d ≡ c → Over (shapes f) (λ _ us. Pattern f.k f.modes us) (split g) c b → WasSplit k next (split g) m l
      go zero p o = absurd o
      go (suc c) p o =
          let one : d - 1 ≡ c = omega (arith, p) in
          record {
            trees = g;
            is = refl;
            deep = omega (arith, p);
            some = some-children (children_by f.form b) o.0;
            place = q;
            first = next + length (told_bytes told g);
            lie = record {
              told-there = stand-front (told_bytes told g) (layouts told g) behind;
              trees = record { over = rw one o.1; stand = stand-back (told_bytes told g) (layouts told g) behind; short = less };
            };
          }

-- ---- trees one after another: c of them are done

module _ (f : Counts) (told : Bool) (s : List ℕ) (d : ℕ) (bs : List (List Side)) (c at : ℕ) where
  -- none is left
  pub no-tree : (g : Forest) (m : ℕ) → length bs ≤ c → TreesLie f told s d (drop c bs) at g m → (g ≡ leaf) × (m ≡ at)
  unfolding layout Over
  no-tree g m h l = go g (rw (drop_of_length-le bs h) at l.over) l.stand
    where
      go : (g : Forest) → Overs (shapes f) (λ _ us. Pattern f.k f.modes us) g d [] → Stands s at (layouts told g) m → (g ≡ leaf) × (m ≡ at)
      go leaf o p = (refl, omega (arith, p.end))
      go (more t g) o p = absurd o

  pub record NextTree (g : Forest) (m : ℕ) : Type 0 where
    pub tree : Tree
    pub rest : Forest
    pub is : g ≡ more tree rest
    pub behind : ℕ
    pub lies : TreeLies f told s d (get_or bs c []) at tree behind
    pub others : TreesLie f told s d (drop (c + 1) bs) behind rest m

  pub next-tree : (g : Forest) (m : ℕ) → c < length bs → TreesLie f told s d (drop c bs) at g m → NextTree g m
  unfolding layout Over
  next-tree g m h l = go g (rw (drop-cons bs c [] h) at l.over) l.stand l.short
    where
      go : (g : Forest) → Overs (shapes f) (λ _ us. Pattern f.k f.modes us) g d (get_or bs c [] ∷ drop (suc c) bs) → Stands s at (layouts told g) m
          → length (layouts true g) ≤ most_tree → NextTree g m
      go leaf o p l = absurd o
      go (more t g) o p l =
          let all = length-append (layout true t) (layouts true g) in
          record {
            tree = t;
            rest = g;
            is = refl;
            behind = at + length (layout told t);
            lies = record { over = o.0; stand = stand-front (layout told t) (layouts told g) p; short = omega (arith, l, all) };
            others = record { over = rw add-one o.1; stand = stand-back (layout told t) (layouts told g) p; short = omega (arith, l, all) };
          }

-- a length is told of each tree but the last
unless-last : (f : Counts) (told : Bool) (s : List ℕ) (d : ℕ) (bs : List (List Side)) (c at : ℕ) (g : Forest) (m v : ℕ) → TreesLie f told s d (drop c bs) at g m
    → length (unless_last g (bytes_of v)) ≡ length_if (ltb c (length bs)) v
unless-last f told s d bs c at g m v l = go (dec_lt c (length bs))
  where
    go : Dec (c < length bs) → length (unless_last g (bytes_of v)) ≡ length_if (ltb c (length bs)) v
    go (yes h) = let e = (next-tree f told s d bs c at g m h l).is in rw (e, lt-ltb c (length bs) h) refl
    go (no h) =
        let k : length bs ≤ c = omega arith in
        let e = (no-tree f told s d bs c at g m k l).0 in
        rw (e, le-ltb c (length bs) k) refl

-- ---- the sizes of trees, where lengths are told: what is counted, and the trees that are left with their lengths, are the whole

module _ (f : Counts) (s : List ℕ) (d : ℕ) (bs : List (List Side)) where
  pub record Sizing (c place size : ℕ) (t : Tree) (m : ℕ) : Type 0 where
    pub rest : Forest
    pub lie : TreesLie f false s d (drop c bs) place rest m
    pub sum : size + (length (lengths_of true rest) + length (layouts true rest)) ≡ length (layout true t)
    pub short : length (layout true t) ≤ most_tree

  pub sizing-none : (at first m : ℕ) (g : Forest) → SplitLies f false s d bs at first g m → length (layout true (split g)) ≤ most_tree → Sizing 0 at 1 (split g) m
  unfolding layout
  sizing-none at first m g l short =
      let q : first ≡ at = omega (arith, l.told-there.end) in
      let all = length-append (bytes_of 0) (lengths_of true g ++ layouts true g) in
      record { rest = g; lie = rw q at l.trees; sum = omega (arith, all, ap length (one_byte 0 (omega arith)), length-append (lengths_of true g) (layouts true g)); short = short }

  module _ (c place size : ℕ) (t : Tree) (m : ℕ) (z : Sizing c place size t m) where
    -- one more is counted
    pub sizing-more : (h : c < length bs) (behind kid : ℕ) → let w = next-tree f false s d bs c place z.rest m h z.lie in
        behind ≡ w.behind → kid ≡ length (layout true w.tree) → Sizing (c + 1) behind (size + (kid + length_if (ltb (c + 1) (length bs)) kid)) t m
    unfolding layout
    sizing-more h behind kid p q =
        let w = next-tree f false s d bs c place z.rest m h z.lie in
        let own = length (layout true w.tree) in
        let u = unless-last f false s d bs (c + 1) w.behind w.rest m own w.others in
        let told : length_if (ltb (c + 1) (length bs)) kid ≡ length_if (ltb (c + 1) (length bs)) own = ap (λ (v : ℕ). length_if (ltb (c + 1) (length bs)) v) q in
        let sum : size + (length (lengths_of true (more w.tree w.rest)) + length (layouts true (more w.tree w.rest))) ≡ length (layout true t) = rw w.is at z.sum in
        let ls = length-append (unless_last w.rest (bytes_of own)) (lengths_of true w.rest) in
        record {
          rest = w.rest;
          lie = rw p w.others;
          sum = omega (arith, sum, ls, u, told, q, length-append (layout true w.tree) (layouts true w.rest));
          short = z.short;
        }

    pub sizing-done : length bs ≤ c → (place ≡ m) × (size ≡ length (layout true t))
    unfolding layout
    sizing-done h =
        let w = no-tree f false s d bs c place z.rest m h z.lie in
        let sum : size + (length (lengths_of true leaf) + length (layouts true leaf)) ≡ length (layout true t) = rw w.0 at z.sum in
        (sym w.1, omega (arith, sum))

-- the next child as the code has it, its size and that of its length counted
pub sizing-kid : {f : Counts} {s : List ℕ} {d : ℕ} {bs : List (List Side)} {c place size : ℕ} {t : Tree} {m : ℕ} → Sizing f s d bs c place size t m → {count : ℕ} → count ≡ length bs → c < count
    → {kid : List Side} → kid ≡ get_or bs c [] → (x : Size) → Measured f s d kid place x → {told : ℕ} → told ≡ length_if (ltb (c + 1) count) x.size
    → Sizing f s d bs (c + 1) x.behind (size + (x.size + told)) t m
sizing-kid {f} {s} {d} {bs} {c} {place} {size} {t} {m} z q h k x w e =
    let below : c < length bs = omega (arith, q, h) in
    let n = next-tree f false s d bs c place z.rest m below z.lie in
    let y = w n.tree n.behind (rw k n.lies) in
    rw (e, q) (sizing-more f s d bs c place size t m z below x.behind x.size y.0 y.1)

-- one that another is behind
first-length : (t : Tree) (g : Forest) (u : Tree) (h : Forest) → g ≡ more u h → lengths_of true (more t g) ≡ bytes_of (length (layout true t)) ++ lengths_of true g
unfolding layout
first-length t g u h e = rw e refl

last-length : (t : Tree) (g : Forest) → g ≡ leaf → lengths_of true (more t g) ≡ []
unfolding layout
last-length t g e = rw e refl

-- ---- the lengths of trees, written: those that are left are of the trees that are left

module _ (f : Counts) (s : List ℕ) (d : ℕ) (bs : List (List Side)) (buf₀ : List ℕ) (to : ℕ) where
  pub record Telling (c place past : ℕ) (buf : List ℕ) (g : Forest) (m : ℕ) : Type 0 where
    pub rest : Forest
    pub lie : TreesLie f false s d (drop c bs) place rest m
    pub under : Under buf₀ to (lengths_of true g) (lengths_of true rest) past buf

  pub telling-none : (at : ℕ) (g : Forest) (m : ℕ) → to ≤ length buf₀ + 1 → TreesLie f false s d bs at g m → Telling 0 at to buf₀ g m
  telling-none at g m h l = record { rest = g; lie = l; under = under_none buf₀ to (lengths_of true g) h }

  module _ (c place past : ℕ) (buf : List ℕ) (g : Forest) (m : ℕ) (z : Telling c place past buf g m) where
    pub telling-more : (h : c < length bs) (k : c + 1 < length bs) (behind kid next : ℕ) (out : List ℕ) → let w = next-tree f false s d bs c place z.rest m h z.lie in
        behind ≡ w.behind → kid ≡ length (layout true w.tree) → Put buf past (bytes_of kid) next out → Telling (c + 1) behind next out g m
    unfolding layout
    telling-more h k behind kid next out p q v =
        let w = next-tree f false s d bs c place z.rest m h z.lie in
        let x = next-tree f false s d bs (c + 1) w.behind w.rest m k w.others in
        let told : lengths_of true z.rest ≡ bytes_of kid ++ lengths_of true w.rest =
        ap (lengths_of true) w.is ∙ first-length w.tree w.rest x.tree x.rest x.is ∙ ap (λ (v : ℕ). bytes_of v ++ lengths_of true w.rest) (sym q) in
        record { rest = w.rest; lie = rw p w.others; under = under_more (rw told at z.under) v }

    pub telling-done : length bs ≤ c + 1 → Put buf₀ to (lengths_of true g) past buf
    unfolding layout
    telling-done h = under-done (rw (go (dec_lt c (length bs))) at z.under)
      where
        go : Dec (c < length bs) → lengths_of true z.rest ≡ []
        go (yes k) =
            let w = next-tree f false s d bs c place z.rest m k z.lie in
            let x = no-tree f false s d bs (c + 1) w.behind w.rest m h w.others in
            ap (lengths_of true) w.is ∙ last-length w.tree w.rest x.0
        go (no k) = let x = no-tree f false s d bs c place z.rest m (omega arith) z.lie in rw x.0 refl

-- the next child as the code has it, its length written
pub telling-kid : {f : Counts} {s : List ℕ} {d : ℕ} {bs : List (List Side)} {buf₀ : List ℕ} {to c place past : ℕ} {buf : List ℕ} {g : Forest} {m : ℕ} → Telling f s d bs buf₀ to c place past buf g m
    → c + 1 < length bs → {kid : List Side} → kid ≡ get_or bs c [] → (x : Size) → Measured f s d kid place x → {next : ℕ} {out : List ℕ} → Put buf past (bytes_of x.size) next out
    → Telling f s d bs buf₀ to (c + 1) x.behind next out g m
telling-kid {f} {s} {d} {bs} {buf₀} {to} {c} {place} {past} {buf} {g} {m} z h k x w {next} {out} v =
    let below : c < length bs = omega (arith, h) in
    let n = next-tree f false s d bs c place z.rest m below z.lie in
    let y = w n.tree n.behind (rw k n.lies) in
    telling-more f s d bs buf₀ to c place past buf g m z below h x.behind x.size next out y.0 y.1 v

-- the place behind lengths that are told
pub told-behind : (f : Counts) (s : List ℕ) (d : ℕ) (bs : List (List Side)) (at first : ℕ) (g : Forest) (m : ℕ) → SplitLies f true s d bs at first g m
    → behind_at (length bs - 1) s at ≡ Ok first
told-behind f s d bs at first g m l =
    let t = l.trees in
    let w = lengths_read true g s at first (short-small true g (omega (arith, t.short))) l.told-there in
    let count = overs-count (shapes f) (λ _ us. Pattern f.k f.modes us) g d bs t.over in
    let are : lengths_at (length bs - 1) s at ≡ read w.lengths first = rw (← count) w.are in
    rw are refl

-- ---- trees in the other layout: of those from `past₀` on, written, those that are left

module _ (f : Counts) (told : Bool) (s : List ℕ) (d : ℕ) (bs : List (List Side)) (buf₀ : List ℕ) (past₀ : ℕ) where
  pub record Turning (c place past : ℕ) (buf : List ℕ) (g : Forest) (m : ℕ) : Type 0 where
    pub rest : Forest
    pub lie : TreesLie f told s d (drop c bs) place rest m
    pub under : Under buf₀ past₀ (layouts (not told) g) (layouts (not told) rest) past buf

  pub turning-none : (first : ℕ) (g : Forest) (m : ℕ) → TreesLie f told s d bs first g m → past₀ ≤ length buf₀ + 1 → Turning 0 first past₀ buf₀ g m
  turning-none first g m l h = record { rest = g; lie = l; under = under_none buf₀ past₀ (layouts (not told) g) h }

  module _ (c place past : ℕ) (buf : List ℕ) (g : Forest) (m : ℕ) (z : Turning c place past buf g m) where
    pub turning-more : (h : c < length bs) (behind next : ℕ) (out : List ℕ) → let w = next-tree f told s d bs c place z.rest m h z.lie in
        behind ≡ w.behind → Put buf past (layout (not told) w.tree) next out → Turning (c + 1) behind next out g m
    unfolding layout
    turning-more h behind next out p v =
        let w = next-tree f told s d bs c place z.rest m h z.lie in
        let e : layouts (not told) z.rest ≡ layout (not told) w.tree ++ layouts (not told) w.rest = ap (layouts (not told)) w.is in
        record { rest = w.rest; lie = rw p w.others; under = under_more (rw e at z.under) v }

    pub turning-done : length bs ≤ c → (place ≡ m) × Put buf₀ past₀ (layouts (not told) g) past buf
    unfolding layout
    turning-done h =
        let w = no-tree f told s d bs c place z.rest m h z.lie in
        let e : layouts (not told) z.rest ≡ [] = ap (layouts (not told)) w.0 in
        (sym w.1, under-done (rw e at z.under))

-- the next child as the code has it, written
pub turning-kid : {f : Counts} {told : Bool} {s : List ℕ} {d : ℕ} {bs : List (List Side)} {buf₀ : List ℕ} {past₀ c place past : ℕ} {buf : List ℕ} {g : Forest} {m : ℕ}
    → Turning f told s d bs buf₀ past₀ c place past buf g m → {count : ℕ} → count ≡ length bs → c < count → {kid : List Side} → kid ≡ get_or bs c [] → (x : Turned) {out : List ℕ}
    → Turns f told s d kid place buf past x out → Turning f told s d bs buf₀ past₀ (c + 1) x.behind x.to out g m
turning-kid {f} {told} {s} {d} {bs} {buf₀} {past₀} {c} {place} {past} {buf} {g} {m} z q h k x {out} w =
    let below : c < length bs = omega (arith, q, h) in
    let n = next-tree f told s d bs c place z.rest m below z.lie in
    let y = w n.tree n.behind (rw k n.lies) in
    turning-more f told s d bs buf₀ past₀ c place past buf g m z below x.behind x.to out y.0 y.1

-- a split: its 0, its lengths where they are to be told, its trees
pub split-turned : (told : Bool) (g : Forest) {buf : List ℕ} {to next : ℕ} {mid : List ℕ} {past₀ : ℕ} {behind : List ℕ} {past : ℕ} {out : List ℕ}
    → Put buf to (bytes_of 0) next mid → Put mid next (told_bytes told g) past₀ behind → Put behind past₀ (layouts told g) past out → Put buf to (layout told (split g)) past out
unfolding layout
split-turned told g t v w = put-append t (put-append v w)

-- a tile's bytes, cut out of the table, which holds them
pub tile-cut : (s xs : List ℕ) (at m : ℕ) → Stands s at xs m → take (m - at) (drop at s) ≡ xs
tile-cut s xs at m p = let e : m - at ≡ length xs = omega (arith, p.end) in rw (e, p.bytes) (take_at xs (drop m s) (length xs) refl)

pub tree-within : (f : Counts) (told : Bool) (s : List ℕ) (d : ℕ) (b : List Side) (at : ℕ) (t : Tree) (m : ℕ) → TreeLies f told s d b at t m → (at ≤ m) × (m ≤ length s)
tree-within f told s d b at t m l = (omega (arith, l.stand.end), stand-within s (layout told t) at m l.stand (layout-some told t))

-- ---- what was written straight into the lent buffer, as a writer leaves it: where it fits, and where it does not

pub put-fits : (bytes buf : List ℕ) (size : ℕ) (out : List ℕ) → Put buf 0 bytes size out → size ≤ length out → record { answer = Ok size; buffer = out } ≡ left (good bytes) buf
put-fits bytes buf size out t h =
    let l : length out ≡ length buf = put-length t in
    let n : size ≡ length bytes = omega (arith, t.place) in
    rw (le-leb (length bytes) (length buf) (omega arith), n, t.bytes) refl

pub put-short : (bytes buf : List ℕ) (size : ℕ) (out : List ℕ) → Put buf 0 bytes size out → length out < size → refused_with short out ≡ left (good bytes) buf
put-short bytes buf size out t h =
    let l : length out ≡ length buf = put-length t in
    rw l (sym (left-short bytes buf (omega (arith, t.place))))
