-- The walk over a table's bytes, one step at a time: a node, a loop over a split's lengths, one over its children, one over a tile's modes. Each fact unfolds one
-- definition once, in the terms that a proof about a recursion or a loop has. Over any rules and any judge of a tile; assumes nothing.
use Prim.Native.Nat.{ℕ, zero, suc, ◌+◌, ◌-◌, ◌≤◌, ◌<◌}
use Rattle.std.specs.Prelude.{◌≡◌, Bool, true, false, length, get_or, drop, ltb, leb, Some, None, Ok, Err}
use Rattle.std.proofs.Math.Path.{refl}
use mathlib.Core.List.{List, [], ◌∷◌, ◌++◌}
use native.Mathlib.Omega.{arith}
use Rattle.std.proofs.Common.{add-one, drop_of_length-le}
use Rattle.std.proofs.Math.Seq.{drop-cons}
use borrow.Author.Tests.{le-leb, lt-leb, lt-ltb, le-ltb, leb-true, eq-eqb, ne_eqb}
use Rattle.laws.specs.Guards.{guard}
use Rattle.laws.specs.Tests.{guard_passed}
use Rattle.meaning.specs.Answers.{Number, Walk, Found}
use Rattle.meaning.specs.declared.Refusal.{Refusal}
use Rattle.meaning.specs.declared.Tried.{Tried}
use Rattle.meaning.specs.declared.Tried.TheVariants.{Works}
use Rattle.meaning.specs.Refusals.{broken, bad_table}
use Rattle.meaning.specs.Numbers.{number_at}
use Rattle.meaning.specs.Files.{Read, read, refused, before}
use Rattle.meaning.specs.Rules.{Rules, holds}
use Rattle.meaning.specs.Trees.{tells}
use Rattle.meaning.specs.Verdicts.{Length, length_at, on_number, on_walk, on_read, on_modes, lengths_at, lengths_by, each, split_at, on_size, modes_at, node_at, walk}
use Rattle.meaning.specs.Control as C
use Rattle.meaning.specs.Control.{tile_found, past_file, unless_past, pass_by, among, find}

-- ---- an answer that is no refusal has read what it asked for

pub number_read : {A : Type 0} {otherwise a : A} (v : Number) (rest : ℕ → ℕ → A) → (otherwise ≡ a → ⊥) → on_number v otherwise rest ≡ a
    → (k m : ℕ) × (v ≡ Some (k, m)) × (rest k m ≡ a)
number_read None rest never e = absurd (never e)
number_read (Some (k, m)) rest never e = (k, m, refl, e)

pub walk-went : {A : Type 0} {a : A} (w : Walk) (refuse : Refusal → A) (rest : ℕ → A) → ((e : Refusal) → refuse e ≡ a → ⊥) → on_walk w refuse rest ≡ a
    → (m : ℕ) × (w ≡ Ok m) × (rest m ≡ a)
walk-went (Err e) refuse rest never q = absurd (never e q)
walk-went (Ok m) refuse rest never q = (m, refl, q)

pub read-went : {A B : Type 0} {b : B} (o : Read A) (refuse : Refusal → B) (rest : A → ℕ → B) → ((e : Refusal) → refuse e ≡ b → ⊥) → on_read o refuse rest ≡ b
    → (a : A) × (m : ℕ) × (o ≡ read a m) × (rest a m ≡ b)
read-went (refused e) refuse rest never q = absurd (never e q)
read-went (read a m) refuse rest never q = (a, m, refl, q)

-- ---- lengths

-- how many a split of k children tells
abbrev pub lengths_count : Bool → ℕ → ℕ
lengths_count false k = 0
lengths_count true k = k - 1

pub lengths-by : {B : Type 0} (told : Bool) (bs : List B) (s : List ℕ) (at : ℕ) → lengths_by told bs s at ≡ lengths_at (lengths_count told (length bs)) s at
unfolding lengths_at
lengths-by false bs s at = refl
lengths-by true bs s at = refl

-- ---- children in a loop: c of them are done, and ls are the lengths that are told of those to come

module _ {B : Type 0} (one : ℕ → B → Walk) (bs : List B) (c at : ℕ) where
  pub each-done : (ls : List Length) → length bs ≤ c → each one (drop c bs) ls at ≡ Ok at
  unfolding each
  each-done ls h = rw (drop_of_length-le bs h) refl

  -- of whose length nothing is told
  pub each_more : (b₀ : B) (m : ℕ) → c < length bs → one at (get_or bs c b₀) ≡ Ok m → each one (drop c bs) [] at ≡ each one (drop (c + 1) bs) [] m
  unfolding each
  each_more b₀ m h e = rw (add-one, drop-cons bs c b₀ h) (rw e refl)

  -- whose length is as it is told
  pub each-held : (b₀ : B) (l : Length) (ls : List Length) (m : ℕ) → c < length bs → one at (get_or bs c b₀) ≡ Ok m → m ≡ at + l.size
      → each one (drop c bs) (l ∷ ls) at ≡ each one (drop (c + 1) bs) ls m
  unfolding each
  each-held b₀ l ls m h e q = rw (add-one, drop-cons bs c b₀ h) (rw (e, eq-eqb m (at + l.size) q) refl)

  -- or is not
  pub each-wrong : (b₀ : B) (l : Length) (ls : List Length) (m : ℕ) → c < length bs → one at (get_or bs c b₀) ≡ Ok m → (m ≡ at + l.size → ⊥)
      → each one (drop c bs) (l ∷ ls) at ≡ Err (bad_table l.place)
  unfolding each
  each-wrong b₀ l ls m h e q = rw (drop-cons bs c b₀ h) (rw (e, ne_eqb m (at + l.size) q) refl)

  pub each-refused : (b₀ : B) (ls : List Length) (e : Refusal) → c < length bs → one at (get_or bs c b₀) ≡ Err e → each one (drop c bs) ls at ≡ Err e
  unfolding each
  each-refused b₀ [] e h q = rw (drop-cons bs c b₀ h) (rw q refl)
  each-refused b₀ (l ∷ ls) e h q = rw (drop-cons bs c b₀ h) (rw q refl)

-- the same loop, looking for the child that has a reading
module _ {B : Type 0} (has : B → Bool) (enter : ℕ → B → Found) (pass : List Length → ℕ → B → Walk) (split : ℕ) (bs : List B) (c : ℕ) (ls : List Length) (at : ℕ) where
  pub among_none : length bs ≤ c → among has enter pass split (drop c bs) ls at ≡ Err (bad_table split)
  unfolding among
  among_none h = rw (drop_of_length-le bs h) refl

  pub among-here : (b₀ : B) → c < length bs → has (get_or bs c b₀) ≡ true → among has enter pass split (drop c bs) ls at ≡ enter at (get_or bs c b₀)
  unfolding among
  among-here b₀ h q = rw (drop-cons bs c b₀ h) (rw q refl)

  pub among-more : (b₀ : B) (m : ℕ) → c < length bs → has (get_or bs c b₀) ≡ false → pass ls at (get_or bs c b₀) ≡ Ok m
      → among has enter pass split (drop c bs) ls at ≡ among has enter pass split (drop (c + 1) bs) (C.behind ls) m
  unfolding among
  among-more b₀ m h q e = rw (add-one, drop-cons bs c b₀ h) (rw (q, e) refl)

  pub among-refused : (b₀ : B) (e : Refusal) → c < length bs → has (get_or bs c b₀) ≡ false → pass ls at (get_or bs c b₀) ≡ Err e
      → among has enter pass split (drop c bs) ls at ≡ Err e
  unfolding among
  among-refused b₀ e h q w = rw (drop-cons bs c b₀ h) (rw (q, w) refl)

-- ---- modes in a loop

-- modes read before, in front of those to come
abbrev pub behind : List ℕ → Read (List ℕ) → Read (List ℕ)
behind [] m = m
behind (u ∷ us) m = before u (behind us m)

behind-refused : (us : List ℕ) (e : Refusal) → behind us (refused e) ≡ refused e
behind-refused [] e = refl
behind-refused (u ∷ us) e = rw (behind-refused us e) refl

behind_more : (us : List ℕ) (u : ℕ) (m : Read (List ℕ)) → behind us (before u m) ≡ behind (us ++ u ∷ []) m
behind_more [] u m = refl
behind_more (v ∷ us) u m = rw (behind_more us u m) refl

-- a split that is possible
pub split-some : {A B : Type 0} (otherwise : A) (rest : List B → A) (bs : List B) → (bs ≡ [] → ⊥) → split_at bs otherwise rest ≡ rest bs
split-some otherwise rest [] z = absurd (z refl)
split-some otherwise rest (b ∷ bs) z = refl

-- i of k are done
module _ (N : ℕ) (s us : List ℕ) (at k i : ℕ) (h : i < k) where
  modes-step : modes_at N (k - i) s at
      ≡ on_number (number_at s at) (refused (broken at)) λ u m. guard (ltb u N) (refused (bad_table at)) λ _. before u (modes_at N (k - (i + 1)) s m)
  unfolding modes_at
  modes-step = let q : k - i ≡ suc (k - (i + 1)) = omega arith in rw q refl

  pub modes-broken : number_at s at ≡ None → behind us (modes_at N (k - i) s at) ≡ refused (broken at)
  modes-broken e = rw (modes-step, e) (behind-refused us (broken at))

  pub modes-over : (u m : ℕ) → number_at s at ≡ Some (u, m) → N ≤ u → behind us (modes_at N (k - i) s at) ≡ refused (bad_table at)
  modes-over u m e l = rw modes-step (simp (e, le-ltb u N l) (behind-refused us (bad_table at)))

  pub modes-more : (u m : ℕ) → number_at s at ≡ Some (u, m) → u < N
      → behind us (modes_at N (k - i) s at) ≡ behind (us ++ u ∷ []) (modes_at N (k - (i + 1)) s m)
  modes-more u m e l = rw modes-step (simp (e, lt-ltb u N l) (behind_more us u (modes_at N (k - (i + 1)) s m)))

-- ---- a node

-- what a node was, where its answer is no refusal
pub data NodeWas {A : Type 0} (K : ℕ) (s : List ℕ) (at : ℕ) (split : ℕ → A) (tile : ℕ → ℕ → A) (a : A) : Type 0 where
  was-split : (m : ℕ) → number_at s at ≡ Some (0, m) → split m ≡ a → NodeWas K s at split tile a
  was-tile : (k m : ℕ) → number_at s at ≡ Some (k, m) → 1 ≤ k → k ≤ K → tile k m ≡ a → NodeWas K s at split tile a

pub node-was : {A : Type 0} {a : A} (K : ℕ) (s : List ℕ) (at : ℕ) (refuse : Refusal → A) (split : ℕ → A) (tile : ℕ → ℕ → A)
    → ((e : Refusal) → refuse e ≡ a → ⊥) → node_at K s at refuse split tile ≡ a → NodeWas K s at split tile a
node-was {a} K s at refuse split tile never e =
    let q = number_read (number_at s at) (λ k m. on_size K k (refuse (bad_table at)) (split m) (λ k. tile k m)) (never (broken at)) e in
    size q.0 q.1 q.2 q.3
  where
    size : (k m : ℕ) → number_at s at ≡ Some (k, m) → on_size K k (refuse (bad_table at)) (split m) (λ k. tile k m) ≡ a → NodeWas K s at split tile a
    size zero m q e = was-split m q e
    size (suc k) m q e =
        let p = guard_passed (leb (suc k) K) (λ _. tile (suc k) m) (never (bad_table at)) e in
        was-tile (suc k) m q (omega arith) (leb-true (suc k) K p.0) p.1

module _ (r : Rules) where
  open r use {Box, Reading, children, form, K, N}

  -- the lengths of a split, where its form tells them, and then its children, depth d left for each
  abbrev pub each_by : (Box → List ℕ → Tried) → ℕ → List ℕ → List Box → ℕ → Walk
  each_by judge d s bs at = on_read (lengths_by (tells form) bs s at) Err λ ls first. each (λ p c. walk r judge d s p c) bs ls first

  -- a node that is walked over
  module _ (judge : Box → List ℕ → Tried) (d : ℕ) (s : List ℕ) (at : ℕ) (b : Box) where
    pub walk-broken : number_at s at ≡ None → walk r judge d s at b ≡ Err (broken at)
    unfolding walk
    walk-broken e = elim d as (λ n. walk r judge n s at b ≡ Err (broken at)) [ zero ↦ simp e | suc m ↦ simp e ]

    pub walk-deep : (m : ℕ) → number_at s at ≡ Some (0, m) → d ≡ 0 → walk r judge d s at b ≡ Err (bad_table at)
    unfolding walk
    walk-deep m e z = simp (z, e)

    pub walk-stuck : (m : ℕ) → number_at s at ≡ Some (0, m) → children b ≡ [] → walk r judge d s at b ≡ Err (bad_table at)
    unfolding walk
    walk-stuck m e z = elim d as (λ n. walk r judge n s at b ≡ Err (bad_table at)) [ zero ↦ simp e | suc k ↦ simp (e, z) ]

    pub walk_split : (m c : ℕ) → number_at s at ≡ Some (0, m) → d ≡ suc c → (children b ≡ [] → ⊥)
        → walk r judge d s at b ≡ each_by judge c s (children b) m
    unfolding walk
    walk_split m c e z y = rw z (rw e (split-some (Err (bad_table at)) (λ cs. each_by judge c s cs m) (children b) y))

    pub walk-over : (k m : ℕ) → number_at s at ≡ Some (k, m) → K < k → walk r judge d s at b ≡ Err (bad_table at)
    unfolding walk
    walk-over zero m e l = absurd (omega arith)
    walk-over (suc k) m e l = elim d as (λ n. walk r judge n s at b ≡ Err (bad_table at)) [ zero ↦ simp (e, lt-leb (suc k) K l) | suc c ↦ simp (e, lt-leb (suc k) K l) ]

    pub walk-tile : (k m : ℕ) → number_at s at ≡ Some (k, m) → 1 ≤ k → k ≤ K → walk r judge d s at b ≡ on_modes (modes_at N k s m) at (judge b)
    unfolding walk
    walk-tile zero m e z l = absurd (omega arith)
    walk-tile (suc k) m e z l = elim d as (λ n. walk r judge n s at b ≡ on_modes (modes_at N (suc k) s m) at (judge b)) [ zero ↦ simp (e, le-leb (suc k) K l) | suc c ↦ simp (e, le-leb (suc k) K l) ]

  -- how a child is passed
  abbrev pub pass_over : ℕ → List ℕ → List Length → ℕ → Box → Walk
  pass_over d s = pass_by (tells form) (λ p c. walk r (λ _ _. Works) d s p c)

  -- the look among the children of a split at `node`, from `at` on, depth d left for each
  abbrev pub look_among : Reading → ℕ → List ℕ → ℕ → List Box → List Length → ℕ → Found
  look_among x d s node bs ls at = among (λ c. holds r c x) (λ p c. find r d s p c x) (pass_over d s) node bs ls at

  -- the lengths before it, where the form tells them, none of which points past the file
  abbrev pub look_by : Reading → ℕ → List ℕ → ℕ → List Box → ℕ → Found
  look_by x d s node bs at =
      on_read (lengths_by (tells form) bs s at) Err λ ls first.
      unless_past (past_file (length s) ls first) (λ place. Err (bad_table place)) λ _. look_among x d s node bs ls first

  -- a node on the way to a reading's tile
  module _ (x : Reading) (d : ℕ) (s : List ℕ) (at : ℕ) (b : Box) where
    pub find-broken : number_at s at ≡ None → find r d s at b x ≡ Err (broken at)
    unfolding find
    find-broken e = elim d as (λ n. find r n s at b x ≡ Err (broken at)) [ zero ↦ simp e | suc m ↦ simp e ]

    pub find-deep : (m : ℕ) → number_at s at ≡ Some (0, m) → d ≡ 0 → find r d s at b x ≡ Err (bad_table at)
    unfolding find
    find-deep m e z = simp (z, e)

    pub find-stuck : (m : ℕ) → number_at s at ≡ Some (0, m) → children b ≡ [] → find r d s at b x ≡ Err (bad_table at)
    unfolding find
    find-stuck m e z = elim d as (λ n. find r n s at b x ≡ Err (bad_table at)) [ zero ↦ simp e | suc k ↦ simp (e, z) ]

    pub find-split : (m c : ℕ) → number_at s at ≡ Some (0, m) → d ≡ suc c → (children b ≡ [] → ⊥) → find r d s at b x ≡ look_by x c s at (children b) m
    unfolding find
    find-split m c e z y = rw z (rw e (split-some (Err (bad_table at)) (λ cs. look_by x c s at cs m) (children b) y))

    pub find-over : (k m : ℕ) → number_at s at ≡ Some (k, m) → K < k → find r d s at b x ≡ Err (bad_table at)
    unfolding find
    find-over zero m e l = absurd (omega arith)
    find-over (suc k) m e l = elim d as (λ n. find r n s at b x ≡ Err (bad_table at)) [ zero ↦ simp (e, lt-leb (suc k) K l) | suc c ↦ simp (e, lt-leb (suc k) K l) ]

    pub find-tile : (k m : ℕ) → number_at s at ≡ Some (k, m) → 1 ≤ k → k ≤ K → find r d s at b x ≡ tile_found (modes_at N k s m) m k
    unfolding find
    find-tile zero m e z l = absurd (omega arith)
    find-tile (suc k) m e z l = elim d as (λ n. find r n s at b x ≡ tile_found (modes_at N (suc k) s m) m (suc k)) [ zero ↦ simp (e, le-leb (suc k) K l) | suc c ↦ simp (e, le-leb (suc k) K l) ]

  -- where no lengths are told there is nothing but the children, and each is passed by a walk
  module _ (untold : tells form ≡ false) where
    pub each-untold : (judge : Box → List ℕ → Tried) (d : ℕ) (s : List ℕ) (bs : List Box) (at : ℕ) → each_by judge d s bs at ≡ each (λ p c. walk r judge d s p c) bs [] at
    each-untold judge d s bs at = rw untold refl

    pub look-untold : (x : Reading) (d : ℕ) (s : List ℕ) (node : ℕ) (bs : List Box) (at : ℕ) → look_by x d s node bs at ≡ look_among x d s node bs [] at
    unfolding past_file
    look-untold x d s node bs at = let q : lengths_by (tells form) bs s at ≡ read [] at = rw untold refl in rw q refl

    pub pass-untold : (d : ℕ) (s : List ℕ) (ls : List Length) (at : ℕ) (b : Box) → pass_over d s ls at b ≡ walk r (λ _ _. Works) d s at b
    pass-untold d s ls at b = rw untold refl

-- ---- lengths in a loop

-- one more is read
pub lengths-broken : (k : ℕ) (s : List ℕ) (at : ℕ) → number_at s at ≡ None → lengths_at (suc k) s at ≡ refused (broken at)
unfolding lengths_at
lengths-broken k s at e = rw e refl

pub lengths-more : (k : ℕ) (s : List ℕ) (at size next : ℕ) → number_at s at ≡ Some (size, next) → lengths_at (suc k) s at ≡ before (length_at at size) (lengths_at k s next)
unfolding lengths_at
lengths-more k s at size next e = rw e refl
