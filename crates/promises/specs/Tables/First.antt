-- S7, a box's first pattern: the one found works, no shorter one does, and none of its length that stands before it in mode order;
-- and where none is found, no pattern works. Over any rules. Relies on page Patterns.
use Prim.Native.Nat.{ℕ, zero, suc, ◌+◌, ◌≤◌, ◌<◌}
use Rattle.std.specs.Prelude.{◌≡◌, ◌↔◌, Bool, length}
use Rattle.std.proofs.Math.Path.{refl, sym, ap}
use Rattle.std.proofs.Common.{◌∙◌, get_or, drop}
use Rattle.std.proofs.Math.Bool.{true, false}
use mathlib.Core.List.{List, [], ◌∷◌}
use Rattle.std.proofs.Math.Option.{Option, none, some}
use native.Mathlib.Omega.{arith}
use Rattle.std.proofs.Math.Decide.{ℕ_discrete, dec_lt}
use Rattle.laws.specs.Guards.{guard}
use Rattle.laws.specs.Tests.{never}
use Rattle.meaning.specs.declared.Tried.TheVariants.{Works}
use Rattle.meaning.specs.Rules.{Rules, rule, rule_from}
use Rattle.meaning.specs.Trees.{AllBelow, Pattern}
use Rattle.meaning.specs.Defined.{or_else, map_some, first_mode, exactly, shortest, first_pattern}
use Rattle.promises.specs.Tables.Patterns.{goal-works, safe-works}

-- in mode order, compared from the first mode: us stands before vs or is vs
pub data NotAfter : List ℕ → List ℕ → Type 0 where
  end : NotAfter [] []
  sooner : {u v : ℕ} {us vs : List ℕ} → u < v → NotAfter (u ∷ us) (v ∷ vs)
  then : {u : ℕ} {us vs : List ℕ} → NotAfter us vs → NotAfter (u ∷ us) (u ∷ vs)

meet : {us vs ws : List ℕ} → NotAfter us vs → NotAfter vs ws → us ≡ ws → us ≡ vs
meet end q e = refl
meet (sooner {u = u} l) (sooner h) e = let same : u ≡ _ = ap (λ (x : List ℕ). get_or x 0 0) e in absurd (omega arith)
meet (sooner l) (then q) e = let same = ap (λ (x : List ℕ). get_or x 0 0) e in absurd (omega arith)
meet (then p) (sooner h) e = let same = ap (λ (x : List ℕ). get_or x 0 0) e in absurd (omega arith)
meet (then {u = u} p) (then q) e = ap (λ (x : List ℕ). u ∷ x) (meet p q (ap (λ (x : List ℕ). drop 1 x) e))

same : {us vs : List ℕ} → NotAfter us vs → NotAfter vs us → us ≡ vs
same p q = meet p q refl

-- ---- modes tried in order

-- what was found by trying modes u, u + 1, .., m of them
record FirstMode (try : ℕ → Option (List ℕ)) (m u : ℕ) (us : List ℕ) : Type 0 where
  v : ℕ
  vs : List ℕ
  is : us ≡ v ∷ vs
  from : u ≤ v
  under : v < u + m
  found_it : try v ≡ some vs
  before : (y : ℕ) → u ≤ y → y < v → try y ≡ none

first_some : (try : ℕ → Option (List ℕ)) (m u : ℕ) (us : List ℕ) → first_mode try m u ≡ some us → FirstMode try m u us
unfolding first_mode
first_some try zero u us e = never cc
first_some try (suc m) u us e = go (try u) refl e (λ q. first_some try m (suc u) us q)
  where
    here : try u ≡ none → (v y : ℕ) → (suc u ≤ y → y < v → try y ≡ none) → u ≤ y → y < v → Dec (u ≡ y) → try y ≡ none
    here q v y k l h (yes c) = rw (← c) q
    here q v y k l h (no c) = k (omega arith) h

    go : (o : Option (List ℕ)) → try u ≡ o → or_else (map_some (λ us. u ∷ us) o) (λ _. first_mode try m (suc u)) ≡ some us
        → (first_mode try m (suc u) ≡ some us → FirstMode try m (suc u) us) → FirstMode try (suc m) u us
    go (some vs) q e h =
        let z : us ≡ u ∷ vs = cc in
        record { v = u; vs = vs; is = z; from = omega arith; under = omega arith; found_it = q; before = λ y l m. absurd (omega arith) }
    go none q e h =
        let k = h e in
        record {
          v = k.v;
          vs = k.vs;
          is = k.is;
          from = omega (arith, k.from);
          under = omega (arith, k.under);
          found_it = k.found_it;
          before = λ y l m. here q k.v y (k.before y) l m (ℕ_discrete u y);
        }

untried : (try : ℕ → Option (List ℕ)) (m u : ℕ) → first_mode try m u ≡ none → (v : ℕ) → u ≤ v → v < u + m → try v ≡ none
unfolding first_mode
untried try zero u e v l h = absurd (omega arith)
untried try (suc m) u e v l h = go (try u) refl e (λ q y. untried try m (suc u) q v y (omega arith)) (ℕ_discrete u v)
  where
    go : (o : Option (List ℕ)) → try u ≡ o → or_else (map_some (λ us. u ∷ us) o) (λ _. first_mode try m (suc u)) ≡ none
        → (first_mode try m (suc u) ≡ none → suc u ≤ v → try v ≡ none) → Dec (u ≡ v) → try v ≡ none
    go (some vs) q e k c = never cc
    go none q e k (yes c) = rw (← c) q
    go none q e k (no c) = k e (omega arith)

module _ (r : Rules) where
  open r use {Box, Kept, within, begin, image, kept, goal, safe, K, N}

  -- the first of all patterns that work for a box
  pub record First (b : Box) (us : List ℕ) : Type 0 where
    pub shape : Pattern K N us
    pub works : rule r b us ≡ Works
    pub shortest : (vs : List ℕ) → Pattern K N vs → rule r b vs ≡ Works → length us ≤ length vs
    pub foremost : (vs : List ℕ) → Pattern K N vs → rule r b vs ≡ Works → length vs ≡ length us → NotAfter us vs

  -- ---- patterns of just m modes, from what is kept

  -- those that begin with u
  abbrev behind : ℕ → Kept → ℕ → Option (List ℕ)
  behind m k u = guard (within (kept (image u k)) safe) none λ _. exactly r m (image u k)

  record FirstOf (m : ℕ) (k : Kept) (us : List ℕ) : Type 0 where
    count : length us ≡ m
    modes : AllBelow N us
    works : (i : ℕ) → rule_from r i k us ≡ Works

  exactly-works : (m : ℕ) (k : Kept) (us : List ℕ) → exactly r m k ≡ some us → FirstOf m k us
  unfolding exactly rule_from AllBelow
  exactly-works zero k us e = go (within (kept k) goal) refl e
    where
      go : (t : Bool) → within (kept k) goal ≡ t → guard t none (λ _. some []) ≡ some us → FirstOf zero k us
      go true q e = let z : us ≡ [] = cc in rw z (record { count = refl; modes = tt; works = λ i. rw q refl })
      go false q e = never cc
  exactly-works (suc m) k us e = go (first_some (behind m k) N 0 us e) (λ c vs q. exactly-works m c vs q)
    where
      inside : (t : FirstMode (behind m k) N 0 us) → (c : Bool) → within (kept (image t.v k)) safe ≡ c
          → guard c none (λ _. exactly r m (image t.v k)) ≡ some t.vs
          → ((c : Kept) (vs : List ℕ) → exactly r m c ≡ some vs → FirstOf m c vs) → FirstOf (suc m) k (t.v ∷ t.vs)
      inside t true q e ih =
          let h = ih (image t.v k) t.vs e in
          record { count = ap suc h.count; modes = (omega (arith, t.under), h.modes); works = λ i. rw q (h.works (suc i)) }
      inside t false q e ih = never cc

      go : FirstMode (behind m k) N 0 us → ((c : Kept) (vs : List ℕ) → exactly r m c ≡ some vs → FirstOf m c vs) → FirstOf (suc m) k us
      go t ih = let z : us ≡ t.v ∷ t.vs = t.is in rw z (inside t (within (kept (image t.v k)) safe) refl t.found_it ih)

  exactly-none : (m : ℕ) (k : Kept) (us : List ℕ) (i : ℕ) → exactly r m k ≡ none → length us ≡ m → AllBelow N us → rule_from r i k us ≡ Works → ⊥
  unfolding exactly rule_from AllBelow
  exactly-none zero k [] i e l h w = let q : none ≡ some [] = sym e ∙ rw ((goal-works (within (kept k) goal) i).0 w) refl in never cc
  exactly-none zero k (u ∷ us) i e l h w = omega arith
  exactly-none (suc m) k [] i e l h w = omega arith
  exactly-none (suc m) k (u ∷ us) i e l h w =
      let s = (safe-works (within (kept (image u k)) safe) i (λ j. rule_from r j (image u k) us)).0 w in
      exactly-none m (image u k) us (suc i) (rw s.0 at (untried (behind m k) N 0 e u (omega arith) (omega (arith, h.0)))) (omega arith) h.1 s.1

  exactly-foremost : (m : ℕ) (k : Kept) (us vs : List ℕ) (i : ℕ) → exactly r m k ≡ some us → length vs ≡ m → AllBelow N vs → rule_from r i k vs ≡ Works
      → NotAfter us vs
  unfolding exactly rule_from AllBelow
  exactly-foremost zero k us [] i e l h w = go (within (kept k) goal) e
    where
      go : (t : Bool) → guard t none (λ _. some []) ≡ some us → NotAfter us []
      go true e = let z : us ≡ [] = cc in rw z end
      go false e = never cc
  exactly-foremost zero k us (v ∷ vs) i e l h w = absurd (omega arith)
  exactly-foremost (suc m) k us [] i e l h w = absurd (omega arith)
  exactly-foremost (suc m) k us (v ∷ vs) i e l h w =
      let s = (safe-works (within (kept (image v k)) safe) i (λ j. rule_from r j (image v k) vs)).0 w in
      go s.0 (first_some (behind m k) N 0 us e)
      (λ q. exactly-none m (image v k) vs (suc i) q (omega arith) h.1 s.1)
      (λ ws q. exactly-foremost m (image v k) ws vs (suc i) q (omega arith) h.1 s.1)
    where
      cases : within (kept (image v k)) safe ≡ true → (u : ℕ) (ws : List ℕ) → behind m k u ≡ some ws → ((y : ℕ) → 0 ≤ y → y < u → behind m k y ≡ none)
          → (exactly r m (image v k) ≡ none → ⊥) → ((ws : List ℕ) → exactly r m (image v k) ≡ some ws → NotAfter ws vs)
          → Dec (u < v) → Dec (u ≡ v) → NotAfter (u ∷ ws) (v ∷ vs)
      cases c u ws q b never ih (yes l) d = sooner l
      cases c u ws q b never ih (no l) (yes d) = rw d (then (ih ws (rw (d, c) at q)))
      cases c u ws q b never ih (no l) (no d) = absurd (never (rw c at (b v (omega arith) (omega arith))))

      go : within (kept (image v k)) safe ≡ true → FirstMode (behind m k) N 0 us
          → (exactly r m (image v k) ≡ none → ⊥) → ((ws : List ℕ) → exactly r m (image v k) ≡ some ws → NotAfter ws vs) → NotAfter us (v ∷ vs)
      go c t never ih = let z : us ≡ t.v ∷ t.vs = t.is in rw z (cases c t.v t.vs t.found_it t.before never ih (dec_lt t.v v) (ℕ_discrete t.v v))

  -- ---- lengths m, m + 1, .. in order, j of them

  record FirstFrom (j m : ℕ) (b : Box) (us : List ℕ) : Type 0 where
    longer : m ≤ length us
    few : length us < m + j
    first : exactly r (length us) (begin b) ≡ some us
    before : (y : ℕ) → m ≤ y → y < length us → exactly r y (begin b) ≡ none

  shortest-first : (j m : ℕ) (b : Box) (us : List ℕ) → shortest r j m b ≡ some us → FirstFrom j m b us
  unfolding shortest
  shortest-first zero m b us e = never cc
  shortest-first (suc j) m b us e = go (exactly r m (begin b)) refl e (λ q. shortest-first j (suc m) b us q)
    where
      here : exactly r m (begin b) ≡ none → (y : ℕ) → (suc m ≤ y → exactly r y (begin b) ≡ none) → m ≤ y → Dec (m ≡ y) → exactly r y (begin b) ≡ none
      here q y k l (yes c) = rw (← c) q
      here q y k l (no c) = k (omega arith)

      go : (o : Option (List ℕ)) → exactly r m (begin b) ≡ o → or_else o (λ _. shortest r j (suc m) b) ≡ some us
          → (shortest r j (suc m) b ≡ some us → FirstFrom j (suc m) b us) → FirstFrom (suc j) m b us
      go (some vs) q e h =
          let z : vs ≡ us = cc in
          let q2 : exactly r m (begin b) ≡ some us = q ∙ ap (λ (x : List ℕ). some x) z in
          let c : length us ≡ m = (exactly-works m (begin b) us q2).count in
          record { longer = omega arith; few = omega arith; first = rw c q2; before = λ y l k. absurd (omega arith) }
      go none q e h =
          let k = h e in
          record {
            longer = omega (arith, k.longer);
            few = omega (arith, k.few);
            first = k.first;
            before = λ y l n. here q y (λ o. k.before y o n) l (ℕ_discrete m y);
          }

  shortest-none : (j m : ℕ) (b : Box) → shortest r j m b ≡ none → (y : ℕ) → m ≤ y → y < m + j → exactly r y (begin b) ≡ none
  unfolding shortest
  shortest-none zero m b e y l h = absurd (omega arith)
  shortest-none (suc j) m b e y l h = go (exactly r m (begin b)) refl e (λ q k. shortest-none j (suc m) b q y k (omega arith)) (ℕ_discrete m y)
    where
      go : (o : Option (List ℕ)) → exactly r m (begin b) ≡ o → or_else o (λ _. shortest r j (suc m) b) ≡ none
          → (shortest r j (suc m) b ≡ none → suc m ≤ y → exactly r y (begin b) ≡ none) → Dec (m ≡ y) → exactly r y (begin b) ≡ none
      go (some vs) q e k c = never cc
      go none q e k (yes c) = rw (← c) q
      go none q e k (no c) = k e (omega arith)

  found_first : (b : Box) (us : List ℕ) → first_pattern r b ≡ some us → First b us
  found_first b us e =
      let f = shortest-first K 1 b us e in
      let w = exactly-works (length us) (begin b) us f.first in
      record {
        shape = record { some = f.longer; few = omega (arith, f.few); modes = w.modes };
        works = w.works 0;
        shortest = λ vs p q. least vs p q (f.before (length vs) p.some) (dec_lt (length vs) (length us));
        foremost = λ vs p q c. exactly-foremost (length us) (begin b) us vs 0 f.first c p.modes q;
      }
    where
      least : (vs : List ℕ) → Pattern K N vs → rule r b vs ≡ Works → (length vs < length us → exactly r (length vs) (begin b) ≡ none)
          → Dec (length vs < length us)
          → length us ≤ length vs
      least vs p q h (yes l) = absurd (exactly-none (length vs) (begin b) vs 0 (h l) refl p.modes q)
      least vs p q h (no l) = omega arith

  -- no pattern is found exactly where none works
  pub none-exactly : (b : Box) → (first_pattern r b ≡ none) ↔ ((us : List ℕ) → Pattern K N us → rule r b us ≡ Works → ⊥)
  none-exactly b = (
    λ e us p w. exactly-none (length us) (begin b) us 0 (shortest-none K 1 b e (length us) p.some (omega (arith, p.few))) refl p.modes w,
    λ h. go h (first_pattern r b) refl,
  )
    where
      go : ((us : List ℕ) → Pattern K N us → rule r b us ≡ Works → ⊥) → (o : Option (List ℕ)) → first_pattern r b ≡ o → first_pattern r b ≡ none
      go h (some us) e = let f = found_first b us e in absurd (h us f.shape f.works)
      go h none e = e

  -- and the one that is found is the first of all that work
  pub first-exactly : (b : Box) (us : List ℕ) → (first_pattern r b ≡ some us) ↔ First b us
  first-exactly b us = (found_first b us, λ f. go f (first_pattern r b) refl)
    where
      go : First b us → (o : Option (List ℕ)) → first_pattern r b ≡ o → first_pattern r b ≡ some us
      go f none e = absurd ((none-exactly b).0 e us f.shape f.works)
      go f (some vs) e =
          let g = found_first b vs e in
          let l = f.shortest vs g.shape g.works in
          let h = g.shortest us f.shape f.works in
          e ∙ ap (λ (x : List ℕ). some x) (same (g.foremost us f.shape f.works (omega arith)) (f.foremost vs g.shape g.works (omega arith)))
