-- How long the layout of a tree may be. A tree of depth d whose splits have at most c children and whose tiles have at most m bytes has at most c^d tiles (page
-- TileCounts), one byte for each split above them, and where lengths are told (request 2026-01) c − 1 lengths for each split, of as many bytes as its children's
-- length needs. A plant has c = 2^n and depth D, in form 3 c = 2 and depth n·D; m = 7, or 13 where modes may take two bytes; n·D ≤ 12. Over any tree of sound
-- shape, its tiles working or not. Relies on pages Children and Halving. What that says of accepted tables is page TableLengths.
use Rattle.std.specs.Prelude.{ℕ, zero, suc, ◌+◌, ◌-◌, ◌*◌, ◌^◌, ◌≤◌, ◌≡◌, refl, Bool, true, false, cond, List, [], ◌∷◌, ◌++◌, map, leb, length, ℤ, pos, ◌+ℤ◌}
use Rattle.std.proofs.Common.{sym, ap, ◌∙◌, arith, le_refl, lt_of_lt_of_le, leb-true, eqb-true, length-append}
use Rattle.std.proofs.Math.Nat.{mul-le-mul, one-le-pow}
use Rattle.std.proofs.lemmas.List.{length-map}
use Rattle.std.specs.Int.Signed.{le_z}
use Rattle.laws.specs.Every as E
use Rattle.laws.specs.Every.{Every, every_map}
use Rattle.laws.specs.Lists as L
use Rattle.laws.specs.Lists.{all}
use Rattle.laws.specs.Tests.{never, second}
use Rattle.meaning.specs.Boxes as B
use Rattle.meaning.specs.Boxes.{Side, side, covers, lies, within, long, middle, halves, in_front, pieces, any_long, children, reach, furthest, halved, longest_halved}
use Rattle.meaning.specs.Computing.{computing}
use Rattle.meaning.specs.Images.{Step}
use Rattle.meaning.specs.Numbers.{bytes_of}
use Rattle.meaning.specs.Rules.{Rules}
use Rattle.meaning.specs.Trees as T
use Rattle.meaning.specs.Trees.{Tree, Forest, split, tile, leaf, more, modes_bytes, tells, layout, layouts, lengths_of, AllBelow, Pattern, Over, Overs}
use Rattle.meaning.specs.Tables.{one_side, children_by, depth_by, rules_from}
use Rattle.promises.specs.Files.Bytes.{one_byte, bytes-grow}
use Rattle.promises.specs.Files.Lengths.{short}
use Rattle.promises.specs.Tables.Children.{Child}
use Rattle.promises.specs.Tables.Halving.{children-by-are}
use Rattle.promises.specs.Tables.Shapes.{Shaped, over-map}
use Rattle.promises.specs.Tables.SplitLengths.{told_bytes}

-- the most bytes of the lengths that a split of c children tells, where none of them has more than m bytes
abbrev pub lengths_most : Bool → ℕ → ℕ → ℕ
lengths_most told c m = cond told ((c - 1) * length (bytes_of m)) 0

-- the most bytes of a tree of depth d
unfoldable pub most : Bool → ℕ → ℕ → ℕ → ℕ
most told c m zero = m
most told c m (suc d) = 1 + lengths_most told c (most told c m d) + c * most told c m d

module _ (told : Bool) (c m : ℕ) (some : 1 ≤ c) where
  more-deep : (d : ℕ) → most told c m d ≤ most told c m (suc d)
  unfolding most
  more-deep d = omega (arith, mul-le-mul some (le_refl (most told c m d)))

  most-deeper : (d k : ℕ) → most told c m d ≤ most told c m (k + d)
  most-deeper d zero = let q : 0 + d ≡ d = omega arith in rw q (le_refl (most told c m d))
  most-deeper d (suc k) = let q : suc k + d ≡ suc (k + d) = omega arith in rw q (omega (arith, most-deeper d k, more-deep (k + d)))

  -- a deeper tree may be longer
  pub most-grows : (d e : ℕ) → d ≤ e → most told c m d ≤ most told c m e
  most-grows d e l = go (e - d) (omega arith)
    where
      go : (k : ℕ) → e ≡ k + d → most told c m d ≤ most told c m e
      go k q = rw q (most-deeper d k)

-- ---- over any rules: Sized is kept by the children and bounds their number

module _ (r : Rules) (c m : ℕ) (some : 1 ≤ c) (Sized : r.Box → Type 0)
    (few : (b : r.Box) → Sized b → length (r.children b) ≤ c) (same : (b : r.Box) → Sized b → Every Sized (r.children b)) where
  open r use {Box, children, form}

  -- a tile of at most m bytes
  abbrev pub Brief : Box → List ℕ → Type 0
  Brief b us = length (bytes_of (length us) ++ modes_bytes us) ≤ m

  -- the most bytes of a tree of the rules' form
  abbrev up_to : ℕ → ℕ
  up_to d = most (tells form) c m d

  pub told-length : (told : Bool) (f : Forest) (k : ℕ) → k ≤ c → (l : ℕ) → length (lengths_of told f) ≤ (k - 1) * length (bytes_of l) → length (told_bytes told f) ≤ lengths_most told c l
  told-length false f k h l e = omega arith
  told-length true f k h l e =
      let w : k - 1 ≤ c - 1 = omega arith in
      omega (arith, e, mul-le-mul w (le_refl (length (bytes_of l))))

  mutual
    unfolding T.layout T.Over most E.Every

    pub tree-length : (t : Tree) (d : ℕ) (b : Box) → Sized b → Over r Brief t d b → length (layout (tells form) t) ≤ up_to d
    tree-length (tile us) d b z o = omega (arith, o, most-grows (tells form) c m some 0 d (omega arith))
    tree-length (split f) zero b z o = absurd o
    tree-length (split f) (suc d) b z o =
        let told = tells form in
        let each = forest-length f d (children b) (same b z) o.1 in
        omega (
          arith,
          length-append (bytes_of 0) (told_bytes told f ++ layouts told f),
          length-append (told_bytes told f) (layouts told f),
          ap length (one_byte 0 (omega arith)),
          told-length told f (length (children b)) (few b z) (up_to d) each.1,
          each.0,
          mul-le-mul (few b z) (le_refl (up_to d)),
        )

    -- all together, and their lengths
    pub forest-length : (f : Forest) (d : ℕ) (bs : List Box) → Every Sized bs → Overs r Brief f d bs
        → (length (layouts (tells form) f) ≤ length bs * up_to d) × (length (lengths_of (tells form) f) ≤ (length bs - 1) * length (bytes_of (up_to d)))
    forest-length leaf d bs z o = (omega arith, omega arith)
    forest-length (more t f) d [] z o = absurd o
    forest-length (more t leaf) d (b ∷ bs) z o =
        let one = tree-length t d b z.0 o.0 in
        (omega (arith, length-append (layout (tells form) t) [], one), omega arith)
    forest-length (more t (more u f)) d (b ∷ []) z o = absurd o.1
    forest-length (more t (more u f)) d (b ∷ e ∷ bs) z o =
        let told = tells form in
        let rest = forest-length (more u f) d (e ∷ bs) z.1 o.1 in
        let one = tree-length t d b z.0 o.0 in
        let size = bytes_of (length (layout told t)) in
        let few : suc (suc (length bs)) - 1 ≡ suc (suc (length bs) - 1) = omega arith in
        let whole = length-append (layout told t) (layouts told (more u f)) in
        let lengths = length-append size (lengths_of told (more u f)) in
        (omega (arith, whole, one, rest.0), rw few (omega (arith, lengths, bytes-grow (length (layout told t)) (up_to d) one, rest.1)))

-- ---- document 01's split: at most 2^n children, of as many sides

halves-few : (s : Side) → length (halves s) ≤ 2
halves-few s = go (long s)
  where
    go : (t : Bool) → length (cond t (side s.lo (middle s) ∷ side (middle s +ℤ pos 1) s.hi ∷ []) (s ∷ [])) ≤ 2
    go true = omega arith
    go false = omega arith

front_length : (hs : List Side) (bs : List (List Side)) → length (in_front hs bs) ≡ length hs * length bs
unfolding B.in_front
front_length hs [] = omega arith
front_length hs (b ∷ bs) = omega (arith, length-append (map (λ h. h ∷ b) hs) (in_front hs bs), length-map hs (λ h. h ∷ b), front_length hs bs)

pieces-few : (b : List Side) → length (pieces b) ≤ 2 ^ length b
unfolding B.pieces
pieces-few [] = omega arith
pieces-few (s ∷ b) =
    doubled (length b) (length (in_front (halves s) (pieces b))) (omega (arith, front_length (halves s) (pieces b), mul-le-mul (halves-few s) (pieces-few b)))
  where
    doubled : (n l : ℕ) → l ≤ 2 * 2 ^ n → l ≤ 2 ^ suc n
    doubled n l h = omega arith

children-few : (b : List Side) → length (children b) ≤ 2 ^ length b
unfolding B.children
children-few b = go (any_long b)
  where
    go : (t : Bool) → length (cond t (pieces b) []) ≤ 2 ^ length b
    go true = pieces-few b
    go false = omega arith

within-size : (a b : List Side) → within a b ≡ true → length a ≡ length b
unfolding B.lies L.all
within-size [] [] e = refl
within-size [] (t ∷ b) e = never e
within-size (s ∷ a) [] e = never e
within-size (s ∷ a) (t ∷ b) e = ap suc (within-size a b (second (covers t s) (all (lies a b)) e))

halves-alone : (far : ℤ) (b : List Side) → length (halved far b) ≤ 2
unfolding B.halved
halves-alone far [] = omega arith
halves-alone far (s ∷ b) = go (le_z far (reach s)) (halves-alone far b)
  where
    go : (t : Bool) → length (halved far b) ≤ 2 → length (cond t (map (λ h. h ∷ b) (halves s)) (map (λ c. s ∷ c) (halved far b))) ≤ 2
    go true l = omega (arith, length-map (halves s) (λ h. h ∷ b), halves-few s)
    go false l = omega (arith, length-map (halved far b) (λ c. s ∷ c))

longest-few : (b : List Side) → length (longest_halved b) ≤ 2
unfolding B.longest_halved
longest-few b = go (any_long b)
  where
    go : (t : Bool) → length (cond t (halved (furthest b) b) []) ≤ 2
    go true = halves-alone (furthest b) b
    go false = omega arith

-- the most children of a box of n sides, by the form
abbrev pub children_most : ℕ → ℕ → ℕ
children_most form n = cond (one_side form) 2 (2 ^ n)

pub most-some : (form n : ℕ) → 1 ≤ children_most form n
most-some form n = go (one_side form)
  where
    go : (t : Bool) → 1 ≤ cond t 2 (2 ^ n)
    go true = omega arith
    go false = one-le-pow n 2 (omega arith)

by-few : (form : ℕ) (b : List Side) → length (children_by form b) ≤ children_most form (length b)
by-few form b = go (one_side form)
  where
    go : (t : Bool) → length (cond t (longest_halved b) (children b)) ≤ cond t 2 (2 ^ length b)
    go true = longest-few b
    go false = children-few b

-- the children of a box of n sides: so many at the most, and of n sides too
pub sided-few : (form n : ℕ) (b : List Side) → length b ≡ n → length (children_by form b) ≤ children_most form n
sided-few form n b z = rw (← z) (by-few form b)

pub sided-same : (form n : ℕ) (b : List Side) → length b ≡ n → Every (λ a. length a ≡ n) (children_by form b)
sided-same form n b z = every_map (Child b) (λ a. length a ≡ n) (λ a k. within-size a b k.inside ∙ z) (children_by form b) (children-by-are form b)

-- ---- document 01's rules, whatever is tiled and wherever patterns end

-- modes below 2^(7·(c + 1)) take c + 1 bytes each at the most
modes-length : (c N : ℕ) (us : List ℕ) → N ≤ 2 ^ (7 * suc c) → AllBelow N us → length (modes_bytes us) ≤ length us * suc c
unfolding T.AllBelow T.modes_bytes
modes-length c N [] l h = omega arith
modes-length c N (u ∷ us) l h =
    let more = modes-length c N us l h.1 in
    let e : suc (length us) * suc c ≡ suc c + length us * suc c = omega arith in
    rw e (omega (arith, length-append (bytes_of u) (modes_bytes us), short c 9 u (lt_of_lt_of_le h.0 l), more))

-- the bytes of a tile of six modes: one each while N ≤ 128, else two
abbrev pub tile_bytes : ℕ → ℕ
tile_bytes N = cond (leb N 128) 7 13

-- a pattern takes no more
pub brief : (K N : ℕ) → K ≤ 6 → N ≤ 256 → (us : List ℕ) → Pattern K N us → length (bytes_of (length us) ++ modes_bytes us) ≤ tile_bytes N
brief K N longest modes us g = go (leb N 128) refl
  where
    few : length us ≤ 6
    few = omega (arith, g.few)

    tile-length : length (bytes_of (length us) ++ modes_bytes us) ≡ 1 + length (modes_bytes us)
    tile-length = omega (arith, ap length (one_byte (length us) (omega (arith, few))), length-append (bytes_of (length us)) (modes_bytes us))

    go : (t : Bool) → leb N 128 ≡ t → length (bytes_of (length us) ++ modes_bytes us) ≤ cond t 7 13
    go true e = omega (arith, few, tile-length, modes-length 0 N us (leb-true N 128 e) g.modes)
    go false e = omega (arith, few, tile-length, modes-length 1 N us (omega (arith, modes)) g.modes)

module _ (form n N K D : ℕ) (root goal safe : List Side) (step : ℕ → Step) (rooms : n ≤ 4) (modes : N ≤ 256) (longest : K ≤ 6) (sides : length root ≡ n) where
  abbrev rules : Rules
  rules = rules_from form n N K D root goal safe step

  -- of a tree of sound shape
  pub layout-length : (t : Tree) → Shaped rules t → length (layout (tells form) t) ≤ most (tells form) (children_most form n) (tile_bytes N) (depth_by form n D)
  layout-length t o =
      let brief-all = over-map rules (λ b us. Pattern K N us) (λ b us. length (bytes_of (length us) ++ modes_bytes us) ≤ tile_bytes N) (λ b us g. brief K N longest modes us g) t (depth_by form n D) root o in
      tree-length rules (children_most form n) (tile_bytes N) (most-some form n) (λ b. length b ≡ n) (sided-few form n) (sided-same form n)
      t (depth_by form n D) root sides brief-all

-- ---- n·D ≤ 12, D ≤ 6: two dimensions of depth 6 have the longest

-- of each n the deepest tree
pub by-rooms : (bound : ℕ → ℕ) (told : Bool) (m n d : ℕ) → 1 ≤ n → n ≤ 4 → d ≤ 6 → n * d ≤ 12
    → most told 2 m 6 ≤ bound 1 → most told 4 m 6 ≤ bound 2 → most told 8 m 4 ≤ bound 3 → most told 16 m 3 ≤ bound 4 → most told (2 ^ n) m d ≤ bound n
by-rooms bound told m zero d l h k e one two three four = absurd (omega arith)
by-rooms bound told m (suc zero) d l h k e one two three four = omega (arith, most-grows told 2 m (omega arith) d 6 k)
by-rooms bound told m (suc (suc zero)) d l h k e one two three four = omega (arith, most-grows told 4 m (omega arith) d 6 k)
by-rooms bound told m (suc (suc (suc zero))) d l h k e one two three four = omega (arith, most-grows told 8 m (omega arith) d 4 (omega arith))
by-rooms bound told m (suc (suc (suc (suc zero)))) d l h k e one two three four = omega (arith, most-grows told 16 m (omega arith) d 3 (omega arith))
by-rooms bound told m (suc (suc (suc (suc (suc n))))) d l h k e one two three four = absurd (omega arith)

-- 4,096 tiles and 1,365 splits
pub cap : (m n d : ℕ) → 1 ≤ n → n ≤ 4 → d ≤ 6 → n * d ≤ 12 → most false (2 ^ n) m d ≤ 4096 * m + 1365
unfolding most
cap m n d l h k e = by-rooms (λ _. 4096 * m + 1365) false m n d l h k e (omega arith) (omega arith) (omega arith) (omega arith)

-- and their lengths: 4,350 bytes of them where a tile has 7 bytes, and as many where it has 13
pub cap-told : (N n d : ℕ) → 1 ≤ n → n ≤ 4 → d ≤ 6 → n * d ≤ 12 → most true (2 ^ n) (tile_bytes N) d ≤ 4096 * tile_bytes N + 5715
unfolding computing most
cap-told N n d l h k e = go (leb N 128)
  where
    go : (t : Bool) → most true (2 ^ n) (cond t 7 13) d ≤ 4096 * cond t 7 13 + 5715
    go true = by-rooms (λ _. 34_387) true 7 n d l h k e (omega arith) (omega arith) (omega arith) (omega arith)
    go false = by-rooms (λ _. 58_963) true 13 n d l h k e (omega arith) (omega arith) (omega arith) (omega arith)

-- form 3: n·D ≤ 12 halvings have at most 4,096 tiles and 4,095 splits
pub cap-halving : (m h : ℕ) → h ≤ 12 → most false 2 m h ≤ 4096 * m + 4095
unfolding most
cap-halving m h l = omega (arith, most-grows false 2 m (omega arith) h 12 l)

-- the bytes of the splits of 4,096 tiles, by the form
abbrev pub splits_most : ℕ → ℕ
splits_most form = cond (one_side form) 4095 (cond (tells form) 5715 1365)

pub splits-most : (form : ℕ) → splits_most form ≤ 5715
splits-most form = go (one_side form) (tells form)
  where
    go : (t u : Bool) → cond t 4095 (cond u 5715 1365) ≤ 5715
    go true u = omega arith
    go false true = omega arith
    go false false = omega arith

pub splits-untold : (form : ℕ) → tells form ≡ false → splits_most form ≤ 4095
splits-untold form e = go (one_side form) (tells form) e
  where
    go : (t u : Bool) → u ≡ false → cond t 4095 (cond u 5715 1365) ≤ 4095
    go true u q = omega arith
    go false true q = never (sym q)
    go false false q = omega arith

-- a form that halves one side tells no lengths
pub halving-untold : (form : ℕ) → one_side form ≡ true → tells form ≡ false
halving-untold form e = let q : form ≡ 3 = eqb-true form 3 e in rw q refl

pub told-sides : (form : ℕ) → tells form ≡ true → one_side form ≡ false
told-sides form e = let q : form ≡ 2 = eqb-true form 2 e in rw q refl

pub cap-by : (form N n d : ℕ) → 1 ≤ n → n ≤ 4 → d ≤ 6 → n * d ≤ 12 → most (tells form) (children_most form n) (tile_bytes N) (depth_by form n d) ≤ 4096 * tile_bytes N + splits_most form
cap-by form N n d l h k e = go (one_side form) refl (tells form) refl
  where
    go : (t : Bool) → one_side form ≡ t → (u : Bool) → tells form ≡ u
        → most u (cond t 2 (2 ^ n)) (tile_bytes N) (cond t (n * d) d) ≤ 4096 * tile_bytes N + cond t 4095 (cond u 5715 1365)
    go true p true q = never (sym (halving-untold form p) ∙ q)
    go true p false q = cap-halving (tile_bytes N) (n * d) e
    go false p true q = cap-told N n d l h k e
    go false p false q = cap (tile_bytes N) n d l h k e

-- ---- at most sixteen tiles, n·D ≤ 4: one dimension of depth 4 has the longest

by-few-rooms : (told : Bool) (m n d bound : ℕ) → 1 ≤ n → n ≤ 4 → n * d ≤ 4
    → most told 2 m 4 ≤ bound → most told 4 m 2 ≤ bound → most told 8 m 1 ≤ bound → most told 16 m 1 ≤ bound → most told (2 ^ n) m d ≤ bound
by-few-rooms told m zero d bound l h e one two three four = absurd (omega arith)
by-few-rooms told m (suc zero) d bound l h e one two three four = omega (arith, most-grows told 2 m (omega arith) d 4 (omega arith))
by-few-rooms told m (suc (suc zero)) d bound l h e one two three four = omega (arith, most-grows told 4 m (omega arith) d 2 (omega arith))
by-few-rooms told m (suc (suc (suc zero))) d bound l h e one two three four = omega (arith, most-grows told 8 m (omega arith) d 1 (omega arith))
by-few-rooms told m (suc (suc (suc (suc zero)))) d bound l h e one two three four = omega (arith, most-grows told 16 m (omega arith) d 1 (omega arith))
by-few-rooms told m (suc (suc (suc (suc (suc n))))) d bound l h e one two three four = absurd (omega arith)

pub cap-few : (m n d : ℕ) → 1 ≤ n → n ≤ 4 → n * d ≤ 4 → most false (2 ^ n) m d ≤ 16 * m + 15
unfolding most
cap-few m n d l h e = by-few-rooms false m n d (16 * m + 15) l h e (omega arith) (omega arith) (omega arith) (omega arith)

pub cap-halving-few : (m h : ℕ) → h ≤ 4 → most false 2 m h ≤ 16 * m + 15
unfolding most
cap-halving-few m h l = omega (arith, most-grows false 2 m (omega arith) h 4 l)

-- a tile has at most 13 bytes
pub tile-most : (N : ℕ) → tile_bytes N ≤ 13
tile-most N = go (leb N 128)
  where
    go : (t : Bool) → cond t 7 13 ≤ 13
    go true = omega arith
    go false = omega arith
