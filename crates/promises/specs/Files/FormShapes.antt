-- The shapes (page Files) that the parts of plant and sheet forms ask for: so many signed values, and then what comes behind. And parts that are
-- repeated, whatever is asked of the values. Relies on page Files.
use Prim.Native.Nat.{ℕ, zero, suc, ◌+◌, ◌*◌, ◌≤◌, ◌<◌}
use Rattle.std.specs.Prelude.{◌≡◌, List, [], ◌∷◌, ◌++◌, ◌↔◌, length, drop, ℤ}
use Rattle.std.proofs.Common.{ap, append_assoc, le_of_eq, length-drop, drop_of_length-le, drop-drop}
use native.Mathlib.Omega.{arith}
use Rattle.laws.specs.Lists as L
use Rattle.laws.specs.Lists.{tabs}
use Rattle.meaning.specs.Files.{Form, end}
use Rattle.meaning.specs.Plants as P
use Rattle.meaning.specs.Plants.{edge_limit, band_limit, entry_limit, offset_limit, limited, span, times, edges, bands, row}
use Rattle.promises.specs.Files.Files.{Shaped}

-- ---- whatever X is asked of the values of a form

module _ (X : Form → List ℤ → Type 0) where
  -- lists that a part takes, one behind another
  pub times-each : (part : Form → Form) (f : ℕ → List ℤ) (m i : ℕ) (rest : Form) (vs : List ℤ)
      → ((k : ℕ) → i ≤ k → k < i + m → (rest : Form) (vs : List ℤ) → X rest vs → X (part rest) (f k ++ vs)) → X rest vs → X (times m part rest) (tabs f m i ++ vs)
  unfolding P.times L.tabs
  times-each part f zero i rest vs h p = p
  times-each part f (suc m) i rest vs h p =
      rw (append_assoc (f i) (tabs f m (i + 1)) vs)
      (h i (omega arith) (omega arith) (times m part rest) (tabs f m (i + 1) ++ vs) (times-each part f m (i + 1) rest vs (λ k a b. h k (omega arith) (omega arith)) p))

  -- a part that c values satisfy, and what is left behind them satisfies the rest
  pub record Leaves (part : Form → Form) (c : ℕ) : Type 0 where
    pub leaves : (rest : Form) (vs : List ℤ) → X (part rest) vs → (c ≤ length vs) × X rest (drop c vs)

  pub then-leaves : {a b : Form → Form} {c d : ℕ} → Leaves a c → Leaves b d → Leaves (λ rest. a (b rest)) (c + d)
  then-leaves {a} {b} {c} {d} p q = record {
    leaves = λ rest vs h.
        let x = p.leaves (b rest) vs h in
        let y = q.leaves rest (drop c vs) x.1 in
        (omega (arith, length-drop c vs), rw (drop-drop d c vs) at y.1);
  }

  pub times-leaves : {part : Form → Form} {c : ℕ} → Leaves part c → (m : ℕ) → Leaves (times m part) (m * c)
  unfolding P.times
  times-leaves {part} {c} p zero = let e : 0 * c ≡ 0 = omega arith in rw e (record { leaves = λ rest vs h. (omega arith, h) })
  times-leaves {part} {c} p (suc m) = let e : suc m * c ≡ c + m * c = omega arith in rw e (then-leaves p (times-leaves p m))

-- ---- shapes

-- a part that takes c signed values
pub record Takes (part : Form → Form) (c : ℕ) : Type 0 where
  pub shape : (rest : Form) (vs : List ℤ) → Shaped (part rest) vs ↔ ((c ≤ length vs) × Shaped rest (drop c vs))

limited-takes : (limit : ℕ) → Takes (limited limit) 1
unfolding Shaped
limited-takes limit = record { shape = go }
  where
    go : (rest : Form) (vs : List ℤ) → Shaped (limited limit rest) vs ↔ ((1 ≤ length vs) × Shaped rest (drop 1 vs))
    go rest [] = (λ h. absurd h, λ h. absurd (omega arith))
    go rest (v ∷ vs) = (λ h. (omega arith, h.1), λ h. (tt, h.1))

span-takes : (limit : ℕ) → Takes (span limit) 2
unfolding Shaped
span-takes limit = record { shape = go }
  where
    go : (rest : Form) (vs : List ℤ) → Shaped (span limit rest) vs ↔ ((2 ≤ length vs) × Shaped rest (drop 2 vs))
    go rest [] = (λ h. absurd h, λ h. absurd (omega arith))
    go rest (v ∷ []) = (λ h. absurd h.1, λ h. absurd (omega arith))
    go rest (v ∷ w ∷ vs) = (λ h. (omega arith, h.1.1), λ h. (tt, (tt, h.1)))

-- one part behind another
pub then-takes : {a b : Form → Form} {c d : ℕ} → Takes a c → Takes b d → Takes (λ rest. a (b rest)) (c + d)
then-takes {a} {b} {c} {d} p q = record { shape = λ rest vs. ((then-leaves Shaped (half p) (half q)).leaves rest vs, back rest vs) }
  where
    half : {part : Form → Form} {m : ℕ} → Takes part m → Leaves Shaped part m
    half t = record { leaves = λ rest vs h. (t.shape rest vs).0 h }

    back : (rest : Form) (vs : List ℤ) → (c + d ≤ length vs) × Shaped rest (drop (c + d) vs) → Shaped (a (b rest)) vs
    back rest vs h = (p.shape (b rest) vs).1 (omega arith, (q.shape rest (drop c vs)).1 (omega (arith, length-drop c vs), rw (drop-drop d c vs) h.1))

pub times-takes : {part : Form → Form} {c : ℕ} → Takes part c → (m : ℕ) → Takes (times m part) (m * c)
unfolding times
times-takes {part} {c} p zero = let e : 0 * c ≡ 0 = omega arith in rw e (record { shape = λ rest vs. (λ h. (omega arith, h), λ h. h.1) })
times-takes {part} {c} p (suc m) = let e : suc m * c ≡ c + m * c = omega arith in rw e (then-takes p (times-takes p m))

pub row-takes : (n : ℕ) → Takes (row n) (n + 1)
unfolding row
row-takes n = let e : n + 1 ≡ n * 1 + 1 = omega arith in rw e (then-takes (times-takes (limited-takes entry_limit) n) (limited-takes offset_limit))

pub edges-takes : (n : ℕ) → Takes (edges n) (4 * n)
unfolding edges
edges-takes n = let e : 4 * n ≡ n * 4 = omega arith in rw e (times-takes (then-takes (span-takes edge_limit) (span-takes edge_limit)) n)

pub bands-takes : (n : ℕ) → Takes (bands n) (2 * n)
unfolding bands
bands-takes n = let e : 2 * n ≡ n * 2 = omega arith in rw e (times-takes (span-takes band_limit) n)

-- a part with nothing behind it
pub takes_all : {part : Form → Form} {c : ℕ} → Takes part c → (vs : List ℤ) → Shaped (part end) vs ↔ (length vs ≡ c)
unfolding Shaped
takes_all {part} {c} p vs = (there, λ e. (p.shape end vs).1 (omega arith, drop_of_length-le vs (le_of_eq e)))
  where
    there : Shaped (part end) vs → length vs ≡ c
    there h = let w = (p.shape end vs).0 h in omega (arith, length-drop c vs, ap length w.1)
