-- The bounds of page TableLengths are reached, and by the maker: of page Turning's plant the table of form 1 has just 30,039 bytes, that of form 2 just 34,389 and that
-- of form 3 just 32,769. They split R down to its 4,096 readings, forms 1 and 2 six times over and form 3 twelve times, each side in turn, and have six modes in each
-- tile. Relies on pages Made and Halving; the tables are not computed. Tables with modes of two bytes are left out.
use Rattle.std.specs.Prelude.{ℕ, zero, suc, ◌+◌, ◌*◌, ◌/◌, ◌≤◌, ◌<◌, ◌≡◌, refl, Bool, true, false, ◌||◌, cond, List, [], ◌∷◌, ◌++◌, length, ℤ, pos, ◌+ℤ◌, ◌-ℤ◌, ◌≤ℤ◌, ◌<ℤ◌, Ok}
use Rattle.std.proofs.Common.{sym, ap, subst, ◌∙◌, arith, add-zero, lt-ltb, length-append}
use Rattle.std.proofs.Math.Option.{some}
use Rattle.std.specs.Int.Signed.{le_z, lt_z}
use Rattle.laws.specs.Division.{floor_z}
use Rattle.laws.specs.Integers.{zarith, sub, to-eq}
use Rattle.laws.specs.Tests.{true-le_z, false-le_z}
use Rattle.meaning.specs.Boxes as B
use Rattle.meaning.specs.Boxes.{Side, side, long, children, larger, furthest, halved, longest_halved}
use Rattle.meaning.specs.Computing.{computing}
use Rattle.meaning.specs.Defined as D
use Rattle.meaning.specs.Defined.{tree_of, defined_tree}
use Rattle.meaning.specs.Files.{good}
use Rattle.meaning.specs.Numbers.{bytes_of}
use Rattle.meaning.specs.Plants.{root_of}
use Rattle.meaning.specs.Tables.{one_side, known_form, checked, made}
use Rattle.meaning.specs.Trees as Y
use Rattle.meaning.specs.Trees.{Tree, split, tile, leaf, more, tells, layout, table_of}
use Rattle.promises.specs.Files.Bytes.{one_byte}
use Rattle.promises.specs.Tables.Halving.{larger-first, larger-second, larger-both}
use Rattle.promises.specs.Tables.Made.{made-accepted, made-exactly}
use Rattle.promises.specs.Files.Judged.{judged-sound}
use Rattle.promises.specs.Tables.PlantRules.{table-size}
use Rattle.promises.specs.Tables.TreeLengths as L
use Rattle.promises.specs.Tables.TreeLengths.{most}
use Rattle.promises.specs.Tables.Turning.{bytes, p, judged, r, six, none_first, six-first}

-- ---- the tree: split d times over, then tiles of six modes

unfoldable full : ℕ → Tree
full zero = tile six
full (suc d) = split (more (full d) (more (full d) (more (full d) (more (full d) leaf))))

six-length : (told : Bool) → length (layout told (tile six)) ≡ 7
unfolding computing
six-length false = refl
six-length true = refl

full-length : (told : Bool) (d : ℕ) → length (layout told (full d)) ≡ most told 4 7 d
unfolding full L.most Y.layout
full-length told zero = six-length told
full-length false (suc d) =
    let l = layout false (full d) in
    omega (
      arith,
      full-length false d,
      ap length (one_byte 0 (omega arith)),
      length-append (bytes_of 0) (l ++ (l ++ (l ++ (l ++ [])))),
      length-append l (l ++ (l ++ (l ++ []))),
      length-append l (l ++ (l ++ [])),
      length-append l (l ++ []),
      length-append l [],
    )
full-length true (suc d) =
    let l = layout true (full d) in
    let e : length l ≡ most true 4 7 d = full-length true d in
    let k = bytes_of (length l) in
    let size : length k ≡ length (bytes_of (most true 4 7 d)) = rw e refl in
    omega (
      arith,
      e,
      size,
      ap length (one_byte 0 (omega arith)),
      length-append (bytes_of 0) ((k ++ (k ++ (k ++ []))) ++ (l ++ (l ++ (l ++ (l ++ []))))),
      length-append (k ++ (k ++ (k ++ []))) (l ++ (l ++ (l ++ (l ++ [])))),
      length-append k (k ++ (k ++ [])),
      length-append k (k ++ []),
      length-append k [],
      length-append l (l ++ (l ++ (l ++ []))),
      length-append l (l ++ (l ++ [])),
      length-append l (l ++ []),
      length-append l [],
    )

-- ---- a box of 2^d counts a side, and its children

-- how many counts beyond the first
unfoldable beyond : ℕ → ℕ
beyond zero = 0
beyond (suc d) = 2 * beyond d + 1

abbrev box : ℕ → ℕ → ℕ → List Side
box d a c = side (pos a) (pos (a + beyond d)) ∷ side (pos c) (pos (c + beyond d)) ∷ []

quarters : (a m b c k d : ℤ) → lt_z a b ≡ true → lt_z c d ≡ true → floor_z (a +ℤ b) 2 ≡ m → floor_z (c +ℤ d) 2 ≡ k
    → children (side a b ∷ side c d ∷ [])
    ≡ (side a m ∷ side c k ∷ []) ∷ (side (m +ℤ pos 1) b ∷ side c k ∷ [])
    ∷ (side a m ∷ side (k +ℤ pos 1) d ∷ []) ∷ (side (m +ℤ pos 1) b ∷ side (k +ℤ pos 1) d ∷ []) ∷ []
unfolding computing
quarters a m b c k d p q e f = simp (p, q, e, f)

children-full : (d a c : ℕ) → children (box (suc d) a c)
    ≡ box d a c ∷ box d (a + beyond d + 1) c ∷ box d a (c + beyond d + 1) ∷ box d (a + beyond d + 1) (c + beyond d + 1) ∷ []
unfolding beyond
children-full d a c =
    let w = beyond d in
    quarters (pos a) (pos (a + w)) (pos (a + (2 * w + 1))) (pos c) (pos (c + w)) (pos (c + (2 * w + 1)))
    (lt-ltb a (a + (2 * w + 1)) (omega arith)) (lt-ltb c (c + (2 * w + 1)) (omega arith)) (half a w) (half c w)
    ∙ rw (upper a w, upper c w) refl
  where
    half : (a w : ℕ) → pos ((a + (a + (2 * w + 1))) / 2) ≡ pos (a + w)
    half a w = ap (λ (m : ℕ). pos m) (omega arith)

    upper : (a w : ℕ) → a + (2 * w + 1) ≡ a + w + 1 + w
    upper a w = omega arith

-- ---- the tree is the defined one

tree-full : (form : ℕ) → one_side form ≡ false → (d a c : ℕ) → 1000 ≤ a → a + beyond d ≤ 1063 → 1000 ≤ c → c + beyond d ≤ 1063 → tree_of (r form) d (box d a c) ≡ some (full d)
unfolding D.tree_of D.all_of full beyond
tree-full form all zero a c la ha lc hc =
    let ha : a ≤ 1063 = omega arith in
    let hc : c ≤ 1063 = omega arith in
    rw (add-zero a, add-zero c) (rw (six-first form a c la ha lc hc) refl)
tree-full form all (suc d) a c la ha lc hc =
    let w = beyond d in
    let m = a + w + 1 in
    let k = c + w + 1 in
    rw (
      none_first form a (a + (2 * w + 1)) c (c + (2 * w + 1)) (omega arith) (omega arith) lc ha,
      all,
      children-full d a c,
      tree-full form all d a c la (omega arith) lc (omega arith),
      tree-full form all d m c (omega arith) (omega arith) lc (omega arith),
      tree-full form all d a k la (omega arith) (omega arith) (omega arith),
      tree-full form all d m k (omega arith) (omega arith) (omega arith) (omega arith),
    ) refl

deep : p.d ≡ 6
unfolding computing
deep = refl

root_is : root_of p ≡ box 6 1000 1000
unfolding computing beyond
root_is = refl

defined : (form : ℕ) → one_side form ≡ false → defined_tree (r form) ≡ some (full 6)
unfolding beyond
defined form all =
    subst (λ (d : ℕ). tree_of (r form) d (root_of p) ≡ some (full 6)) (sym (depth_is form all))
    (subst (λ (b : List Side). tree_of (r form) 6 b ≡ some (full 6)) (sym root_is) (tree-full form all 6 1000 1000 (omega arith) (omega arith) (omega arith) (omega arith)))
  where
    depth_is : (form : ℕ) → one_side form ≡ false → (r form).D ≡ 6
    depth_is form all = rw all deep

-- ---- and its table, of a form that splits all long sides

abbrev table : ℕ → List ℕ
table form = table_of (r form) (full 6)

full-made : (form : ℕ) → known_form form ≡ true → one_side form ≡ false
    → (made bytes form ≡ good (table form)) × (checked bytes (table form) ≡ Ok tt) × (length (table form) ≡ 2 + most (tells form) 4 7 6)
full-made form known all =
    let m = (made-exactly bytes p judged form known (table form)).1 (full 6, defined form all, refl) in (
      m,
      (made-accepted bytes form (table form) m).0,
      table-size form known p (judged-sound bytes p judged) (root_of p) (root_of p) (full 6) ∙ ap (λ (k : ℕ). 2 + k) (full-length (tells form) 6),
    )

-- some plant's table, made and accepted, has just 30,039 bytes
pub reached : (plant table : List ℕ) × (made plant 1 ≡ good table) × (checked plant table ≡ Ok tt) × (length table ≡ 30_039)
unfolding L.most
reached = let w = full-made 1 refl refl in (bytes, table 1, w.0, w.1, w.2)

-- and of form 2 just 34,389
pub reached-told : (plant table : List ℕ) × (made plant 2 ≡ good table) × (checked plant table ≡ Ok tt) × (length table ≡ 34_389)
unfolding L.most computing
reached-told = let w = full-made 2 refl refl in (bytes, table 2, w.0, w.1, w.2)

-- ---- form 3: each split halves one side, the first of a square, else the second

unfoldable halvings : ℕ → Tree
halvings zero = tile six
halvings (suc d) = split (more (halvings d) (more (halvings d) leaf))

halvings-length : (d : ℕ) → length (layout false (halvings d)) ≡ most false 2 7 d
unfolding computing halvings L.most Y.layout
halvings-length zero = refl
halvings-length (suc d) =
    let l = layout false (halvings d) in
    omega (arith, halvings-length d, length-append l (l ++ []), length-append l [])

-- of two sides, by which of them reaches further
first-halved : (a m b : ℤ) (t : Side) → lt_z a b ≡ true → floor_z (a +ℤ b) 2 ≡ m → le_z (furthest (side a b ∷ t ∷ [])) (b -ℤ a) ≡ true
    → longest_halved (side a b ∷ t ∷ []) ≡ (side a m ∷ t ∷ []) ∷ (side (m +ℤ pos 1) b ∷ t ∷ []) ∷ []
unfolding B.longest_halved B.halved B.any_long
first-halved a m b t p e f = simp (p, e, f)

second-halved : (s : Side) (c k d : ℤ) → lt_z c d ≡ true → floor_z (c +ℤ d) 2 ≡ k
    → le_z (furthest (s ∷ side c d ∷ [])) (s.hi -ℤ s.lo) ≡ false → le_z (furthest (s ∷ side c d ∷ [])) (d -ℤ c) ≡ true
    → longest_halved (s ∷ side c d ∷ []) ≡ (s ∷ side c k ∷ []) ∷ (s ∷ side (k +ℤ pos 1) d ∷ []) ∷ []
unfolding B.longest_halved B.halved B.any_long
second-halved s c k d p e f g = go (long s)
  where
    go : (t : Bool) → cond (t || (lt_z c d || false)) (halved (furthest (s ∷ side c d ∷ [])) (s ∷ side c d ∷ [])) [] ≡ (s ∷ side c k ∷ []) ∷ (s ∷ side (k +ℤ pos 1) d ∷ []) ∷ []
    go true = simp (p, e, f, g)
    go false = simp (p, e, f, g)

-- a side of so many counts beyond its first reaches so far
reaches : (a w : ℕ) → pos (a + w) -ℤ pos a ≡ pos w
reaches a w = to-eq (omega (arith, sub (pos (a + w)) (pos a)))

-- a box of 2^h by 2^k counts
abbrev oblong : ℕ → ℕ → ℕ → ℕ → List Side
oblong h k a c = side (pos a) (pos (a + beyond h)) ∷ side (pos c) (pos (c + beyond k)) ∷ []

abbrev far : ℕ → ℕ → ℤ
far v w = larger (pos v) (larger (pos w) (pos 0))

furthest-is : (h k a c : ℕ) → furthest (oblong h k a c) ≡ far (beyond h) (beyond k)
unfolding B.furthest
furthest-is h k a c = rw (reaches a (beyond h), reaches c (beyond k)) refl

far-first : (v : ℕ) → le_z (far v v) (pos v) ≡ true
far-first v =
    let inner : larger (pos v) (pos 0) ≤ℤ pos v = larger-both (pos v) (pos 0) (pos v) (omega zarith) (omega zarith) in
    let outer : far v v ≤ℤ pos v = larger-both (pos v) (larger (pos v) (pos 0)) (pos v) (omega zarith) inner in
    true-le_z outer

far-second : (v w : ℕ) → v < w → (le_z (far v w) (pos v) ≡ false) × (le_z (far v w) (pos w) ≡ true)
far-second v w l =
    let inner : larger (pos w) (pos 0) ≤ℤ pos w = larger-both (pos w) (pos 0) (pos w) (omega zarith) (omega zarith) in
    let outer : far v w ≤ℤ pos w = larger-both (pos v) (larger (pos w) (pos 0)) (pos w) (omega zarith) inner in
    let past : pos v <ℤ far v w = omega (zarith, larger-first (pos w) (pos 0), larger-second (pos v) (larger (pos w) (pos 0))) in
    (false-le_z past, true-le_z outer)

middle-is : (a w : ℕ) → floor_z (pos a +ℤ pos (a + (2 * w + 1))) 2 ≡ pos (a + w)
middle-is a w = let e : (a + (a + (2 * w + 1))) / 2 ≡ a + w = omega arith in ap (λ (m : ℕ). pos m) e

square-halved : (d a c : ℕ) → longest_halved (oblong (suc d) (suc d) a c) ≡ oblong d (suc d) a c ∷ oblong d (suc d) (a + beyond d + 1) c ∷ []
unfolding beyond
square-halved d a c =
    let w = beyond d in
    let t = side (pos c) (pos (c + (2 * w + 1))) in
    let b : a + (2 * w + 1) ≡ a + w + 1 + w = omega arith in
    let far-is : le_z (furthest (oblong (suc d) (suc d) a c)) (pos (a + (2 * w + 1)) -ℤ pos a) ≡ true =
    rw (furthest-is (suc d) (suc d) a c, reaches a (2 * w + 1)) (far-first (2 * w + 1)) in
    first-halved (pos a) (pos (a + w)) (pos (a + (2 * w + 1))) t (lt-ltb a (a + (2 * w + 1)) (omega arith)) (middle-is a w) far-is
    ∙ rw b refl

oblong-halved : (d a c : ℕ) → longest_halved (oblong d (suc d) a c) ≡ oblong d d a c ∷ oblong d d a (c + beyond d + 1) ∷ []
unfolding beyond
oblong-halved d a c =
    let w = beyond d in
    let s = side (pos a) (pos (a + w)) in
    let b : c + (2 * w + 1) ≡ c + w + 1 + w = omega arith in
    let k = far-second w (2 * w + 1) (omega arith) in
    let short : le_z (furthest (oblong d (suc d) a c)) (pos (a + w) -ℤ pos a) ≡ false = rw (furthest-is d (suc d) a c, reaches a w) k.0 in
    let far-is : le_z (furthest (oblong d (suc d) a c)) (pos (c + (2 * w + 1)) -ℤ pos c) ≡ true = rw (furthest-is d (suc d) a c, reaches c (2 * w + 1)) k.1 in
    second-halved s (pos c) (pos (c + w)) (pos (c + (2 * w + 1))) (lt-ltb c (c + (2 * w + 1)) (omega arith)) (middle-is c w) short far-is
    ∙ rw b refl

-- twice as many halvings as a side can be halved
unfoldable twice : ℕ → ℕ
twice zero = 0
twice (suc d) = suc (suc (twice d))

tree-halved : (d a c : ℕ) → 1000 ≤ a → a + beyond d ≤ 1063 → 1000 ≤ c → c + beyond d ≤ 1063 → tree_of (r 3) (twice d) (oblong d d a c) ≡ some (halvings (twice d))
unfolding D.tree_of D.all_of halvings beyond twice
tree-halved zero a c la ha lc hc =
    let ha : a ≤ 1063 = omega arith in
    let hc : c ≤ 1063 = omega arith in
    rw (add-zero a, add-zero c) (rw (six-first 3 a c la ha lc hc) refl)
tree-halved (suc d) a c la ha lc hc =
    let w = beyond d in
    let m = a + w + 1 in
    let k = c + w + 1 in
    rw (
      none_first 3 a (a + (2 * w + 1)) c (c + (2 * w + 1)) (omega arith) (omega arith) lc ha,
      square-halved d a c,
      none_first 3 a (a + w) c (c + (2 * w + 1)) (omega arith) (omega arith) lc (omega arith),
      none_first 3 m (m + w) c (c + (2 * w + 1)) (omega arith) (omega arith) lc (omega arith),
      oblong-halved d a c,
      oblong-halved d m c,
      tree-halved d a c la (omega arith) lc (omega arith),
      tree-halved d a k la (omega arith) (omega arith) (omega arith),
      tree-halved d m c (omega arith) (omega arith) lc (omega arith),
      tree-halved d m k (omega arith) (omega arith) (omega arith) (omega arith),
    ) refl

deep-halved : (r 3).D ≡ 12
unfolding computing
deep-halved = refl

defined-halved : defined_tree (r 3) ≡ some (halvings 12)
unfolding beyond twice
defined-halved =
    subst (λ (d : ℕ). tree_of (r 3) d (root_of p) ≡ some (halvings 12)) (sym deep-halved)
    (subst (λ (b : List Side). tree_of (r 3) 12 b ≡ some (halvings 12)) (sym root_is) (tree-halved 6 1000 1000 (omega arith) (omega arith) (omega arith) (omega arith)))

abbrev halved_table : List ℕ
halved_table = table_of (r 3) (halvings 12)

-- some plant's table of form 3, made and accepted, has just 32,769 bytes
pub reached-halved : (plant table : List ℕ) × (made plant 3 ≡ good table) × (checked plant table ≡ Ok tt) × (length table ≡ 32_769)
unfolding L.most
reached-halved =
    let m = (made-exactly bytes p judged 3 refl halved_table).1 (halvings 12, defined-halved, refl) in
    (bytes, halved_table, m, (made-accepted bytes 3 halved_table m).0, table-size 3 refl p (judged-sound bytes p judged) (root_of p) (root_of p) (halvings 12) ∙ ap (λ (k : ℕ). 2 + k) (halvings-length 12))
