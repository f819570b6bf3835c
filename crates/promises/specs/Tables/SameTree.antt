-- Request 2026-01, against the same tree in another form: two forms that split boxes alike have the same trees of sound shape, with the same tiles in the same order, only
-- at other places. So on the two tables of one tree an idle call chooses the same tile, and calls in states that are in the same tile with the same modes done, each at
-- its place in its own file, answer alike on every reading: the same mode and number left, and again such states; or the same refusal. The defined tree is one too. Over document 01's rules,
-- whose numbers fit five bytes, of every tree of sound shape, its tiles working or not. Relies on page Finds. What that says of accepted tables and their runs is page Relaid.
use Prim.Native.Nat.{ℕ, zero, suc, ◌+◌, ◌≤◌}
use Rattle.std.specs.Prelude.{◌≡◌, Bool, ◌⊎◌, ℤ, Ok, Err}
use Rattle.std.proofs.Math.Path.{refl, sym, ap, subst, fun_ext}
use Rattle.std.proofs.Common.{◌∙◌, arith}
use Rattle.std.proofs.Math.Bool.{true, false, cond}
use mathlib.Core.List.{List, [], ◌∷◌, ◌++◌, append-nil, append_assoc}
use Rattle.std.proofs.Math.Logic.{inl, inr}
use Rattle.std.proofs.Math.Option.{Option, none}
use Rattle.std.proofs.Math.ListN.{length, length-append}
use borrow.Author.Tests.{le-leb}
use Rattle.laws.specs.Every as E
use Rattle.laws.specs.Every.{Every, every_append, every_map}
use Rattle.laws.specs.Guards.{guard}
use Rattle.laws.specs.Standing.{Stands, stand-front, stand-back}
use Rattle.laws.specs.Tests.{never}
use Rattle.meaning.specs.Answers.{Answer}
use Rattle.meaning.specs.declared.State.{State}
use Rattle.meaning.specs.declared.Tried.{Tried}
use Rattle.meaning.specs.Boxes.{Side, within}
use Rattle.meaning.specs.Control as C
use Rattle.meaning.specs.Control.{idle, state_with, call}
use Rattle.meaning.specs.Defined as F
use Rattle.meaning.specs.Defined.{or_else, map_some, split_of, first_mode, exactly, shortest, tree_of, defined_tree}
use Rattle.meaning.specs.Images.{Step, image}
use Rattle.meaning.specs.Numbers.{bytes_of}
use Rattle.meaning.specs.Refusals.{outside}
use Rattle.meaning.specs.Rules as R
use Rattle.meaning.specs.Rules.{Rules, on_safe, rule_from, rule, holds, missed}
use Rattle.meaning.specs.Tables.{one_side, children_by, depth_by, rules_from}
use Rattle.meaning.specs.Trees as Y
use Rattle.meaning.specs.Trees.{Tree, Forest, split, tile, leaf, more, modes_bytes, tells, layout, layouts, AllBelow, Pattern, table_of, Over, Overs, Tile, tiles_of, tiles_in, having}
use Rattle.promises.specs.Files.Bytes.{bytes-some}
use Rattle.promises.specs.Tables.Finds.{next_place, first_place, tile_of, the, finds, call-finds}
use Rattle.promises.specs.Tables.Laws.{Sizes, Splits}
use Rattle.promises.specs.Tables.Layouts.{first_read, modes-read, headed, table-stands, table-header}
use Rattle.promises.specs.Tables.Shapes.{Good, Shaped, Working, over-map}
use Rattle.promises.specs.Tables.SplitLengths.{told_bytes, first_child}

-- ---- a state in a tile

-- one of a list
unfoldable pub Member : {A : Type 0} → A → List A → Type 0
Member a [] = ⊥
Member a (b ∷ bs) = (a ≡ b) ⊎ Member a bs

every-member : {A : Type 0} (P : A → Type 0) (l : List A) (a : A) → Every P l → Member a l → P a
unfolding Member E.Every
every-member P [] a h i = absurd i
every-member P (b ∷ l) a h (inl e) = rw e h.0
every-member P (b ∷ l) a h (inr i) = every-member P l a h.1 i

module _ (r : Rules) where
  open r use {Box, Reading, children, root, form, n, D, K, N}

  having-member : (x : Reading) (ts : List (Tile r)) (c : Tile r) → having r x ts ≡ c ∷ [] → Member c ts
  unfolding Y.having Member
  having-member x [] c e = never cc
  having-member x (t ∷ ts) c e = go (holds r t.box x) e (λ q. having-member x ts c q)
    where
      go : (held : Bool) → cond held (t ∷ having r x ts) (having r x ts) ≡ c ∷ [] → (having r x ts ≡ c ∷ [] → Member c ts) → Member c (t ∷ ts)
      go true q later = inl cc
      go false q later = inr (later q)

  -- the place of a tile's mode behind those that are done
  abbrev pub place_at : Tile r → List ℕ → ℕ
  place_at c done = first_place r c + length (modes_bytes done)

  -- Some modes of a tile of the tree are done, us are to come, and the state is at the first of these, in the tree's table.
  pub record InTile (t : Tree) (b : Box) (done us : List ℕ) (st : State) : Type 0 where
    pub the-tile : Tile r
    pub one_of : Member the-tile (tiles_of r t root (headed form n))
    pub box-is : the-tile.box ≡ b
    pub modes-are : the-tile.modes ≡ done ++ us
    pub place_is : st ≡ state_with us (place_at the-tile done)

  -- each tile of a tree of sound shape stands where it says
  record TileStands (s : List ℕ) (lo : ℕ) (c : Tile r) : Type 0 where
    shape : Pattern K N c.modes
    behind : lo ≤ c.place
    end : ℕ
    stand : Stands s c.place (bytes_of (length c.modes) ++ modes_bytes c.modes) end

  raised : (s : List ℕ) (lo hi : ℕ) → lo ≤ hi → (ts : List (Tile r)) → Every (TileStands s hi) ts → Every (TileStands s lo) ts
  raised s lo hi l ts h =
      every_map (TileStands s hi) (TileStands s lo) (λ c w. record { shape = w.shape; behind = omega (arith, w.behind); end = w.end; stand = w.stand }) ts h

  mutual
    unfolding Y.Over Y.layout Y.tiles_of E.Every

    tiles-stand : (t : Tree) (d : ℕ) (s : List ℕ) (at : ℕ) (b : Box) (m : ℕ) → Over r (λ b us. Pattern K N us) t d b → Stands s at (layout (tells form) t) m
        → Every (TileStands s at) (tiles_of r t b at)
    tiles-stand (tile us) d s at b m o p = (record { shape = o; behind = omega arith; end = m; stand = p }, tt)
    tiles-stand (split f) zero s at b m o p = absurd o
    tiles-stand (split f) (suc d) s at b m o p =
        let first = first_child (tells form) f at in
        let q = stand-back (bytes_of 0) (told_bytes (tells form) f ++ layouts (tells form) f) p in
        raised s at first (omega arith) (tiles_in r f (children b) first)
        (forest-stands f d s first (children b) m o.1 (stand-back (told_bytes (tells form) f) (layouts (tells form) f) q))

    forest-stands : (f : Forest) (d : ℕ) (s : List ℕ) (at : ℕ) (bs : List Box) (m : ℕ) → Overs r (λ b us. Pattern K N us) f d bs → Stands s at (layouts (tells form) f) m
        → Every (TileStands s at) (tiles_in r f bs at)
    forest-stands leaf d s at bs m o p = tt
    forest-stands (more t f) d s at [] m o p = tt
    forest-stands (more t f) d s at (b ∷ bs) m o p =
        let tree = layout (tells form) t in
        let mid = at + length tree in
        every_append (TileStands s at) (tiles_of r t b at) (tiles_in r f bs mid)
        (tiles-stand t d s at b mid o.0 (stand-front tree (layouts (tells form) f) p))
        (raised s at mid (omega arith) (tiles_in r f bs mid) (forest-stands f d s mid bs m o.1 (stand-back tree (layouts (tells form) f) p)))

-- ---- modes in two parts

modes-append : (us vs : List ℕ) → modes_bytes (us ++ vs) ≡ modes_bytes us ++ modes_bytes vs
unfolding Y.modes_bytes
modes-append [] vs = refl
modes-append (u ∷ us) vs = rw (modes-append us vs) (sym (append_assoc (bytes_of u) (modes_bytes us) (modes_bytes vs)))

AllBelow-back : (N : ℕ) (us vs : List ℕ) → AllBelow N (us ++ vs) → AllBelow N vs
unfolding Y.AllBelow
AllBelow-back N [] vs h = h
AllBelow-back N (u ∷ us) vs h = AllBelow-back N us vs h.1

-- the modes us are to come, in the file s from that place on
record Coming (K N : ℕ) (s us : List ℕ) (place : ℕ) : Type 0 where
  are-AllBelow : AllBelow N us
  few : length us ≤ K
  far : 2 ≤ place
  end : ℕ
  stand : Stands s place (modes_bytes us) end

-- ---- calls on the table of a tree of sound shape, by any rules

module _ (r : Rules) (sizes : Sizes r) (t : Tree) (shape : Shaped r t) (s : List ℕ) (is : s ≡ table_of r t) where
  open r use {Box, Reading, root, safe, form, n, D, K, N}

  whole : s ≡ table_of r t ++ []
  whole = is ∙ sym (append-nil (table_of r t))

  -- the modes to come of a tile stand in the table
  in-coming : (b : Box) (done us : List ℕ) (st : State) (w : InTile r t b done us st) → Coming K N s us (place_at r w.the-tile done)
  in-coming b done us st w =
      let c = w.the-tile in
      let h = every-member (TileStands r s (headed form n)) (tiles_of r t root (headed form n)) c
      (tiles-stand r t D s (headed form n) root (length (table_of r t)) shape (table-stands r s [] t whole).1) w.one_of in
      let modes : c.modes ≡ done ++ us = w.modes-are in
      let below_all : AllBelow N (done ++ us) = rw modes at h.shape.modes in
      let p : Stands s (first_place r c) (modes_bytes (done ++ us)) h.end =
      subst (λ (l : List ℕ). Stands s (first_place r c) (modes_bytes l) h.end) modes (stand-back (bytes_of (length c.modes)) (modes_bytes c.modes) h.stand) in
      record {
        are-AllBelow = AllBelow-back N done us below_all;
        few = omega (arith, h.shape.few, ap length modes, length-append done us);
        far = omega (arith, h.behind, bytes-some form, bytes-some n, length-append (bytes_of form) (bytes_of n));
        end = h.end;
        stand = stand-back (modes_bytes done) (modes_bytes us) (rw (modes-append done us) at p);
      }

  -- one of them is done
  next-in : (b : Box) (done : List ℕ) (u : ℕ) (us : List ℕ) (st : State) (w : InTile r t b done (u ∷ us) st)
      → InTile r t b (done ++ u ∷ []) us (state_with us (next_place (place_at r w.the-tile done) u))
  unfolding Y.modes_bytes
  next-in b done u us st w =
      let e : next_place (place_at r w.the-tile done) u ≡ place_at r w.the-tile (done ++ u ∷ []) =
      omega (arith, ap length (modes-append done (u ∷ [])), length-append (modes_bytes done) (bytes_of u ++ []), length-append (bytes_of u) []) in
      record {
        the-tile = w.the-tile;
        one_of = w.one_of;
        box-is = w.box-is;
        modes-are = w.modes-are ∙ sym (append_assoc done (u ∷ []) us);
        place_is = ap (state_with us) e;
      }

  -- running: the next of the modes to come, where S holds the reading
  module _ (u : ℕ) (us : List ℕ) (place : ℕ) (w : Coming K N s (u ∷ us) place) (x : Reading) where
    runs : holds r safe x ≡ true → call r s (state_with (u ∷ us) place) x ≡ Ok (u, state_with us (next_place place u))
    unfolding C.call
    runs h = simp (
      table-header r sizes s [] t whole,
      le-leb (suc (length us)) K w.few,
      le-leb 2 place w.far,
      modes-read N sizes.modes (u ∷ us) s place w.end w.are-AllBelow w.stand,
      h,
      first_read N sizes.modes u us s place w.end w.are-AllBelow w.stand,
    )

    runs-outside : holds r safe x ≡ false → call r s (state_with (u ∷ us) place) x ≡ Err (outside (missed r safe x))
    unfolding C.call
    runs-outside h = simp (
      table-header r sizes s [] t whole,
      le-leb (suc (length us)) K w.few,
      le-leb 2 place w.far,
      modes-read N sizes.modes (u ∷ us) s place w.end w.are-AllBelow w.stand,
      h,
    )

  idle-outside : (x : Reading) → holds r root x ≡ false → call r s idle x ≡ Err (outside (missed r root x))
  unfolding C.call
  idle-outside x h = simp (table-header r sizes s [] t whole, h)

-- ---- the same tree in two forms

module _ (form other n N K D : ℕ) (root goal safe : List Side) (step : ℕ → Step) where
  abbrev one : Rules
  one = rules_from form n N K D root goal safe step

  abbrev two : Rules
  two = rules_from other n N K D root goal safe step

  -- both idle; or in the same tile with the same modes done and to come, each at its place in its own file
  pub data SameState (t : Tree) : State → State → Type 0 where
    both-idle : SameState t idle idle
    in-tile : {st st' : State} (b : List Side) (done us : List ℕ) → InTile one t b done us st → InTile two t b done us st' → SameState t st st'

  -- the number left is the same
  pub same_left : (t : Tree) (st st' : State) → SameState t st st' → st.left ≡ st'.left
  same_left t st st' both-idle = refl
  same_left t st st' (in-tile b done us w v) =
      left_is us st (place_at one w.the-tile done) w.place_is ∙ sym (left_is us st' (place_at two v.the-tile done) v.place_is)
    where
      left_is : (us : List ℕ) (st : State) (place : ℕ) → st ≡ state_with us place → st.left ≡ length us
      left_is [] st place e = ap (λ (s : State). s.left) e
      left_is (u ∷ us) st place e = ap (λ (s : State). s.left) e

  -- the same mode, and again such states; or the same refusal
  abbrev pub SameAnswer : Tree → Answer → Answer → Type 0
  SameAnswer t (Ok (u, st)) (Ok (v, st')) = (u ≡ v) × SameState t st st'
  SameAnswer t (Err e) (Err f) = e ≡ f
  SameAnswer t (Ok (u, st)) (Err f) = ⊥
  SameAnswer t (Err e) (Ok (v, st')) = ⊥

  same_answer : (t : Tree) {a b : Answer} (c d : Answer) → a ≡ c → b ≡ d → SameAnswer t c d → SameAnswer t a b
  same_answer t c d p q h = rw (p, q) h

module _ (form other n N K D : ℕ) (root goal safe : List Side) (step : ℕ → Step) (splits-alike : one_side form ≡ one_side other) where
  abbrev first : Rules
  first = one form other n N K D root goal safe step

  abbrev second : Rules
  second = two form other n N K D root goal safe step

  children-alike : (b : List Side) → children_by form b ≡ children_by other b
  children-alike b = rw splits-alike refl

  depth-alike : depth_by form n D ≡ depth_by other n D
  depth-alike = rw splits-alike refl

  -- ---- it has the same shape

  module _ (P : List Side → List ℕ → Type 0) where
    mutual
      unfolding Y.Over

      over-alike : (t : Tree) (d : ℕ) (b : List Side) → Over first P t d b → Over second P t d b
      over-alike (tile us) d b o = o
      over-alike (split f) zero b o = o
      over-alike (split f) (suc d) b o = (λ e. o.0 (children-alike b ∙ e), rw (children-alike b) at (overs-alike f d (children_by form b) o.1))

      overs-alike : (f : Forest) (d : ℕ) (bs : List (List Side)) → Overs first P f d bs → Overs second P f d bs
      overs-alike leaf d [] o = o
      overs-alike leaf d (b ∷ bs) o = o
      overs-alike (more t f) d [] o = o
      overs-alike (more t f) d (b ∷ bs) o = (over-alike t d b o.0, overs-alike f d bs o.1)

    pub rooted-alike : (t : Tree) → Over first P t (depth_by form n D) root → Over second P t (depth_by other n D) root
    rooted-alike t o = subst (λ (d : ℕ). Over second P t d root) depth-alike (over-alike t (depth_by form n D) root o)

  -- what the modes do does not hang on the form
  rule-alike : (i : ℕ) (b : List Side) (us : List ℕ) → rule_from first i b us ≡ rule_from second i b us
  unfolding R.rule_from
  rule-alike i b [] = refl
  rule-alike i b (u ∷ us) = ap (λ (rest : ℕ → Tried). on_safe (within (image (step u) b) safe) i rest) (fun_ext (λ m. rule-alike m (image (step u) b) us))

  pub working-alike : (t : Tree) → Working first t → Working second t
  working-alike t o =
      over-map second (Good first (rule first)) (Good second (rule second)) (λ b us g. record { shape = g.shape; works = sym (rule-alike 0 b us) ∙ g.works }) t (depth_by other n D) root
      (rooted-alike (Good first (rule first)) t o)

  -- so the defined tree is one

  exactly-alike : (m : ℕ) (b : List Side) → exactly first m b ≡ exactly second m b
  unfolding F.exactly
  exactly-alike zero b = refl
  exactly-alike (suc m) b =
      ap (λ (try : ℕ → Option (List ℕ)). first_mode try N 0)
      (fun_ext (λ u. ap (λ (o : Option (List ℕ)). guard (within (image (step u) b) safe) none λ _. o) (exactly-alike m (image (step u) b))))

  shortest-alike : (j m : ℕ) (b : List Side) → shortest first j m b ≡ shortest second j m b
  unfolding F.shortest
  shortest-alike zero m b = refl
  shortest-alike (suc j) m b = rw (exactly-alike m b, shortest-alike j (suc m) b) refl

  tree-alike : (d : ℕ) (b : List Side) → tree_of first d b ≡ tree_of second d b
  unfolding F.tree_of
  tree-alike zero b = rw (shortest-alike K 1 b) refl
  tree-alike (suc d) b =
      let same : tree_of first d ≡ tree_of second d = fun_ext (λ c. tree-alike d c) in
      rw (shortest-alike K 1 b, children-alike b) (ap (λ (kid : List Side → Option Tree). or_else (map_some tile (shortest second K 1 b)) λ _. split_of kid (children_by other b)) same)

  pub defined-alike : defined_tree first ≡ defined_tree second
  defined-alike = tree-alike (depth_by form n D) root ∙ ap (λ (d : ℕ). tree_of second d root) depth-alike

  -- ---- and the same tiles in the same order

  unfoldable SameTiles : List (Tile first) → List (Tile second) → Type 0
  SameTiles [] [] = Unit {0}
  SameTiles [] (u ∷ us) = ⊥
  SameTiles (t ∷ ts) [] = ⊥
  SameTiles (t ∷ ts) (u ∷ us) = (t.box ≡ u.box) × (t.modes ≡ u.modes) × SameTiles ts us

  same-append : (a b : List (Tile first)) (c d : List (Tile second)) → SameTiles a c → SameTiles b d → SameTiles (a ++ b) (c ++ d)
  unfolding SameTiles
  same-append [] b [] d h k = k
  same-append [] b (u ∷ c) d h k = absurd h
  same-append (t ∷ a) b [] d h k = absurd h
  same-append (t ∷ a) b (u ∷ c) d h k = (h.0, h.1, same-append a b c d h.2 k)

  mutual
    unfolding Y.tiles_of SameTiles

    tiles-alike : (t : Tree) (b : List Side) (at to : ℕ) → SameTiles (tiles_of first t b at) (tiles_of second t b to)
    tiles-alike (tile us) b at to = (refl, refl, tt)
    tiles-alike (split f) b at to = rw (children-alike b) (forest-alike f (children_by other b) (first_child (tells form) f at) (first_child (tells other) f to))

    forest-alike : (f : Forest) (bs : List (List Side)) (at to : ℕ) → SameTiles (tiles_in first f bs at) (tiles_in second f bs to)
    forest-alike leaf bs at to = tt
    forest-alike (more t f) [] at to = tt
    forest-alike (more t f) (b ∷ bs) at to =
        same-append (tiles_of first t b at) (tiles_in first f bs (at + length (layout (tells form) t))) (tiles_of second t b to) (tiles_in second f bs (to + length (layout (tells other) t)))
        (tiles-alike t b at to) (forest-alike f bs (at + length (layout (tells form) t)) (to + length (layout (tells other) t)))

  having-alike : (x : List ℤ) (ts : List (Tile first)) (us : List (Tile second)) → SameTiles ts us → SameTiles (having first x ts) (having second x us)
  unfolding Y.having SameTiles
  having-alike x [] [] h = tt
  having-alike x [] (u ∷ us) h = absurd h
  having-alike x (t ∷ ts) [] h = absurd h
  having-alike x (t ∷ ts) (u ∷ us) h = go (holds first t.box x) (holds second u.box x) (ap (λ (b : List Side). holds second b x) h.0) (having-alike x ts us h.2)
    where
      go : (c d : Bool) → c ≡ d → SameTiles (having first x ts) (having second x us)
          → SameTiles (cond c (t ∷ having first x ts) (having first x ts)) (cond d (u ∷ having second x us) (having second x us))
      go true true e k = (h.0, h.1, k)
      go true false e k = never (sym e)
      go false true e k = never e
      go false false e k = k

  -- ---- so calls answer alike

  module _ (sizes : Sizes first) (sizes' : Sizes second) (splits : Splits first) (splits' : Splits second) (t : Tree) (shape : Shaped first t)
      (s z : List ℕ) (is : s ≡ table_of first t) (is' : z ≡ table_of second t) where
    abbrev Patterns : List Side → List ℕ → Type 0
    Patterns b us = Pattern K N us

    abbrev Same : Answer → Answer → Type 0
    Same = SameAnswer form other n N K D root goal safe step t

    shape' : Shaped second t
    shape' = rooted-alike Patterns t shape

    -- the tile that is found, its first mode done
    found_in : (r : Rules) (b : r.Box) (u : ℕ) (us : List ℕ) (place : ℕ) → Member (tile_of r b u us place) (tiles_of r t r.root (headed r.form r.n))
        → InTile r t b (u ∷ []) us (state_with us (next_place (first_place r (tile_of r b u us place)) u))
    unfolding Y.modes_bytes
    found_in r b u us place m =
        let e : next_place (first_place r (tile_of r b u us place)) u ≡ place_at r (tile_of r b u us place) (u ∷ []) = omega (arith, length-append (bytes_of u) []) in
        record { the-tile = tile_of r b u us place; one_of = m; box-is = refl; modes-are = refl; place_is = ap (state_with us) e }

    idle-alike : (x : List ℤ) → holds first root x ≡ true → Same (call first s idle x) (call second z idle x)
    unfolding SameTiles
    idle-alike x h =
        let w = is ∙ sym (append-nil (table_of first t)) in
        let w' = is' ∙ sym (append-nil (table_of second t)) in
        let f = finds first sizes splits Patterns (λ b us g. g) s [] t w shape x h in
        let g = finds second sizes' splits' Patterns (λ b us g. g) z [] t w' shape' x h in
        let same : SameTiles (the first f ∷ []) (the second g ∷ []) =
        rw (f.only, g.only) at (having-alike x (tiles_of first t root (headed form n)) (tiles_of second t root (headed other n)) (tiles-alike t root (headed form n) (headed other n))) in
        let modes : f.first ∷ f.later ≡ g.first ∷ g.later = same.1 in
        let u : g.first ≡ f.first = cc in
        let us : g.later ≡ f.later = cc in
        let b : g.box ≡ f.box = sym same.0 in
        let here = found_in first f.box f.first f.later f.place (having-member first x (tiles_of first t root (headed form n)) (the first f) f.only) in
        let there = found_in second g.box g.first g.later g.place (having-member second x (tiles_of second t root (headed other n)) (the second g) g.only) in
        same_answer form other n N K D root goal safe step t
        (Ok (f.first, state_with f.later (next_place (first_place first (the first f)) f.first)))
        (Ok (g.first, state_with g.later (next_place (first_place second (the second g)) g.first)))
        (call-finds first sizes splits Patterns (λ b us g. g) s [] t w shape x h)
        (call-finds second sizes' splits' Patterns (λ b us g. g) z [] t w' shape' x h)
        (sym u, in-tile f.box (f.first ∷ []) f.later here (moved g.box f.box g.first f.first g.later f.later b u us there))
      where
        -- named by the other's box and modes
        moved : {st : State} (b c : List Side) (u v : ℕ) (us vs : List ℕ) → b ≡ c → u ≡ v → us ≡ vs → InTile second t b (u ∷ []) us st → InTile second t c (v ∷ []) vs st
        moved {st} b c u v us vs p q e i =
            subst (λ (l : List ℕ). InTile second t c (v ∷ []) l st) e (subst (λ (m : ℕ). InTile second t c (m ∷ []) us st) q (subst (λ (a : List Side). InTile second t a (u ∷ []) us st) p i))

    -- in such states, on every reading
    pub calls-alike : (st st' : State) → SameState form other n N K D root goal safe step t st st' → (x : List ℤ) → Same (call first s st x) (call second z st' x)
    calls-alike st st' state x = of st st' state
      where
        refused : (c : List Side) {a b : Answer} → a ≡ Err (outside (missed first c x)) → b ≡ Err (outside (missed second c x)) → Same a b
        refused c p q = same_answer form other n N K D root goal safe step t (Err (outside (missed first c x))) (Err (outside (missed second c x))) p q refl

        idles : (c : Bool) → holds first root x ≡ c → Same (call first s idle x) (call second z idle x)
        idles true h = idle-alike x h
        idles false h = refused root (idle-outside first sizes t shape s is x h) (idle-outside second sizes' t shape' z is' x h)

        run : (st st' : State) (b : List Side) (done : List ℕ) (u : ℕ) (us : List ℕ) → InTile first t b done (u ∷ us) st → InTile second t b done (u ∷ us) st'
            → (c : Bool) → holds first safe x ≡ c → Same (call first s st x) (call second z st' x)
        run st st' b done u us w v true e =
            let place = place_at first w.the-tile done in
            let place' = place_at second v.the-tile done in
            same_answer form other n N K D root goal safe step t (Ok (u, state_with us (next_place place u))) (Ok (u, state_with us (next_place place' u)))
            (ap (λ (y : State). call first s y x) w.place_is ∙ runs first sizes t shape s is u us place (in-coming first sizes t shape s is b done (u ∷ us) st w) x e)
            (ap (λ (y : State). call second z y x) v.place_is ∙ runs second sizes' t shape' z is' u us place' (in-coming second sizes' t shape' z is' b done (u ∷ us) st' v) x e)
            (refl, in-tile b (done ++ u ∷ []) us (next-in first sizes t shape s is b done u us st w) (next-in second sizes' t shape' z is' b done u us st' v))
        run st st' b done u us w v false e =
            refused safe
            (ap (λ (y : State). call first s y x) w.place_is
            ∙ runs-outside first sizes t shape s is u us (place_at first w.the-tile done) (in-coming first sizes t shape s is b done (u ∷ us) st w) x e)
            (ap (λ (y : State). call second z y x) v.place_is
            ∙ runs-outside second sizes' t shape' z is' u us (place_at second v.the-tile done) (in-coming second sizes' t shape' z is' b done (u ∷ us) st' v) x e)

        inside : (st st' : State) (b : List Side) (done us : List ℕ) → InTile first t b done us st → InTile second t b done us st' → Same (call first s st x) (call second z st' x)
        inside st st' b done [] w v =
            let p : st ≡ idle = w.place_is in
            let q : st' ≡ idle = v.place_is in
            rw (p, q) (idles (holds first root x) refl)
        inside st st' b done (u ∷ us) w v = run st st' b done u us w v (holds first safe x) refl

        of : (st st' : State) → SameState form other n N K D root goal safe step t st st' → Same (call first s st x) (call second z st' x)
        of st st' both-idle = idles (holds first root x) refl
        of st st' (in-tile b done us w v) = inside st st' b done us w v
