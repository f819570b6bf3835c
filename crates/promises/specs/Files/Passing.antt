-- Values that a form takes: each can be stored, five bytes hold it where it is a number, and it passes its field's test. The file of such values is read as
-- just these values, and values that were read are such; and what that asks for the parts that plant and sheet forms are made of. Relies on page Files.
use Rattle.std.specs.Prelude.{ℕ, zero, suc, ◌+◌, ◌*◌, ◌^◌, ◌≤◌, ◌<◌, ◌≡◌, refl, true, List, [], ◌∷◌, ◌++◌, length, ℤ, pos, neg_ℤ, nat_abs, ◌≤ℤ◌}
use Rattle.std.proofs.Common.{◌∙◌, append_assoc, arith, length-append, lt-ltb, le-leb}
use Rattle.laws.specs.Columns.{tab-tabs}
use Rattle.laws.specs.Integers.{zarith, neg, abs}
use Rattle.laws.specs.Lists.{at, tab, tabs}
use Rattle.laws.specs.Tests.{both, ordered}
use Rattle.meaning.specs.Numbers.{stored}
use Rattle.meaning.specs.Boxes.{side}
use Rattle.meaning.specs.Files as F
use Rattle.meaning.specs.Files.{signed, Form, end, field, bytes_as, read, values_at, values_of, file_of}
use Rattle.meaning.specs.Plants as P
use Rattle.meaning.specs.Plants.{edge_limit, band_limit, entry_limit, offset_limit, limited, span, times, edges, bands, row, headed, edges_of}
use Rattle.promises.specs.Files.Files as J
use Rattle.promises.specs.Files.Files.{Storable, five_bytes, Shaped, judged_values, file-reads, field-read}
use Rattle.promises.specs.Files.FormShapes.{times-each}
use Rattle.promises.specs.Files.Headers.{from-holds}
use Rattle.promises.specs.Files.Lengths.{stored-most}
use Rattle.promises.specs.Files.Sound.{Bounded, Edges}

unfoldable pub Passes : Form → List ℤ → Type 0
Passes end vs = vs ≡ []
Passes (field f rest) [] = ⊥
Passes (field f rest) (v ∷ vs) = Storable f.kind v × (five_bytes f.kind v ≡ true) × (f.right v ≡ true) × Passes (rest v) vs

-- ---- read as just these values

shaped : (form : Form) (vs : List ℤ) → Passes form vs → Shaped form vs
unfolding Passes J.Shaped
shaped end vs h = h
shaped (field f rest) [] h = absurd h
shaped (field f rest) (v ∷ vs) h = (h.0, shaped (rest v) vs h.3)

judged : (form : Form) (vs : List ℤ) (i : ℕ) → Passes form vs → judged_values form vs i ≡ read vs (i + length (file_of form vs))
unfolding Passes J.judged_values F.file_of
judged end vs i h = let e : i + 0 ≡ i = omega arith in rw (h, e) refl
judged (field f rest) [] i h = absurd h
judged (field f rest) (v ∷ vs) i h =
    let bytes = bytes_as f.kind v in
    let e : i + length bytes + length (file_of (rest v) vs) ≡ i + length (bytes ++ file_of (rest v) vs) = omega (arith, length-append bytes (file_of (rest v) vs)) in
    rw (h.1, h.2, judged (rest v) vs (i + length bytes) h.3, e) refl

pub passes-read : (form : Form) (vs : List ℤ) → Passes form vs → values_of form (file_of form vs) ≡ read vs (length (file_of form vs))
passes-read form vs h = let e : 0 + length (file_of form vs) ≡ length (file_of form vs) = omega arith in file-reads form vs (shaped form vs h) ∙ judged form vs 0 h ∙ rw e refl

-- ---- values that were read

pub read-passes : (form : Form) (s : List ℕ) (i : ℕ) (vs : List ℤ) (next : ℕ) → values_at form s i ≡ read vs next → Passes form vs
unfolding Passes F.values_at
read-passes end s i vs next e = cc
read-passes (field f rest) s i vs next e =
    let w = field-read f rest s i e in
    rw w.values (w.storable, w.short, w.right, read-passes (rest w.value) s w.mid w.others next w.behind)

-- ---- signed numbers within ± a limit

five : (limit : ℕ) (v : ℤ) → 2 * limit < 2 ^ 35 → nat_abs v ≤ limit → five_bytes signed v ≡ true
five limit v l h = lt-ltb (stored v) (2 ^ 35) (omega (arith, stored-most v))

low : (limit : ℕ) (v : ℤ) → nat_abs v ≤ limit → neg_ℤ (pos limit) ≤ℤ v
low limit v h = omega (zarith, abs v, neg (pos limit))

high : (limit : ℕ) (v : ℤ) → nat_abs v ≤ limit → v ≤ℤ pos limit
high limit v h = omega (zarith, abs v)

pub limited-passes : (limit : ℕ) → 2 * limit < 2 ^ 35 → (rest : Form) (v : ℤ) (vs : List ℤ) → nat_abs v ≤ limit → Passes rest vs → Passes (limited limit rest) (v ∷ vs)
unfolding Passes
limited-passes limit l rest v vs h p = (tt, five limit v l h, ordered (low limit v h) (high limit v h), p)

pub span-passes : (limit : ℕ) → 2 * limit < 2 ^ 35 → (rest : Form) (lo hi : ℤ) (vs : List ℤ) → nat_abs lo ≤ limit → nat_abs hi ≤ limit → lo ≤ℤ hi
    → Passes rest vs → Passes (span limit rest) (lo ∷ hi ∷ vs)
unfolding Passes
span-passes limit l rest lo hi vs a b c p =
    (tt, five limit lo l a, ordered (low limit lo a) (high limit lo a), (tt, five limit hi l b, ordered c (high limit hi b), p))

-- ---- a part that is repeated

-- m times n of a part
times_more : (part : Form → Form) (m n : ℕ) (rest : Form) → times (m + n) part rest ≡ times m part (times n part rest)
unfolding P.times
times_more part zero n rest = let e : 0 + n ≡ n = omega arith in rw e refl
times_more part (suc m) n rest = let e : suc m + n ≡ suc (m + n) = omega arith in rw (e, times_more part m n rest) refl

pub times-times : (part : Form → Form) (m n : ℕ) (rest : Form) → times (m * n) part rest ≡ times m (times n part) rest
unfolding P.times
times-times part zero n rest = let e : 0 * n ≡ 0 = omega arith in rw e refl
times-times part (suc m) n rest =
    let e : suc m * n ≡ n + m * n = omega arith in
    rw e (times_more part n (m * n) rest ∙ rw (times-times part m n rest) refl)

-- ---- edges, bands and rows

pub edges-pass : (n : ℕ) {rlo rhi slo shi : List ℤ} → Edges edge_limit n rlo rhi → Edges edge_limit n slo shi
    → (rest : Form) (vs : List ℤ) → Passes rest vs → Passes (edges n rest) (tabs (edges_of rlo rhi slo shi) n 0 ++ vs)
unfolding P.edges
edges-pass n {rlo} {rhi} {slo} {shi} root safe rest vs p =
    times-each Passes (λ more. span edge_limit (span edge_limit more)) (edges_of rlo rhi slo shi) n 0 rest vs (λ i a b. one i (omega arith)) p
  where
    one : (i : ℕ) → i < n → (rest : Form) (vs : List ℤ) → Passes rest vs → Passes (span edge_limit (span edge_limit rest)) (edges_of rlo rhi slo shi i ++ vs)
    one i l rest vs p =
        let r = root.sides i l in
        let t = safe.sides i l in
        span-passes edge_limit (omega arith) (span edge_limit rest) (at rlo i) (at rhi i) _ r.low r.high r.order
        (span-passes edge_limit (omega arith) rest (at slo i) (at shi i) vs t.low t.high t.order p)

pub bands-pass : (n : ℕ) (lo hi : ℕ → ℤ) → ((i : ℕ) → i < n → Bounded band_limit (side (lo i) (hi i)))
    → (rest : Form) (vs : List ℤ) → Passes rest vs → Passes (bands n rest) (tabs (λ i. lo i ∷ hi i ∷ []) n 0 ++ vs)
unfolding P.bands
bands-pass n lo hi h rest vs p =
    times-each Passes (span band_limit) (λ i. lo i ∷ hi i ∷ []) n 0 rest vs
    (λ i a b rest vs p. let k = h i (omega arith) in span-passes band_limit (omega arith) rest (lo i) (hi i) vs k.low k.high k.order p) p

pub row-pass : (n : ℕ) (f : ℕ → ℤ) (b : ℤ) → ((j : ℕ) → j < n → nat_abs (f j) ≤ entry_limit) → nat_abs b ≤ offset_limit
    → (rest : Form) (vs : List ℤ) → Passes rest vs → Passes (row n rest) ((tab f n 0 ++ b ∷ []) ++ vs)
unfolding P.row
row-pass n f b small least rest vs p =
    rw (append_assoc (tab f n 0) (b ∷ []) vs, tab-tabs f n 0)
    (times-each Passes (limited entry_limit) (λ j. f j ∷ []) n 0 (limited offset_limit rest) (b ∷ vs)
    (λ j c d rest vs q. limited-passes entry_limit (omega arith) rest (f j) vs (small j (omega arith)) q)
    (limited-passes offset_limit (omega arith) rest b vs least p))

-- ---- the header

pub headed-passes : (forms most : ℕ) (rest : ℕ → ℕ → ℕ → Form) (form n m q k d : ℕ) (vs : List ℤ) → forms < 2 ^ 35 → most < 2 ^ 35 → 1 ≤ form → form ≤ forms → 1 ≤ n → n ≤ 4 → 1 ≤ m → m ≤ most → 1 ≤ q → q ≤ 10_000
    → 1 ≤ k → k ≤ 6 → d ≤ 6 → n * d ≤ 12 → Passes (rest form n m) vs → Passes (headed forms most rest) (pos form ∷ pos n ∷ pos m ∷ pos q ∷ pos k ∷ pos d ∷ vs)
unfolding Passes P.headed
headed-passes forms most rest form n m q k d vs lf l f₁ f₂ n₁ n₂ m₁ m₂ q₁ q₂ k₁ k₂ d₁ d₂ p = (
  refl,
  lt-ltb form (2 ^ 35) (omega arith),
  from-holds 1 forms form f₁ f₂,
  (
    refl,
    lt-ltb n (2 ^ 35) (omega arith),
    from-holds 1 4 n n₁ n₂,
    (
      refl,
      lt-ltb m (2 ^ 35) (omega arith),
      from-holds 1 most m m₁ m₂,
      (
        refl,
        lt-ltb q (2 ^ 35) (omega arith),
        from-holds 1 10_000 q q₁ q₂,
        (
          refl,
          lt-ltb k (2 ^ 35) (omega arith),
          from-holds 1 6 k k₁ k₂,
          (refl, lt-ltb d (2 ^ 35) (omega arith), both (le-leb d 6 d₁) (le-leb (n * d) 12 d₂), p),
        ),
      ),
    ),
  ),
)
