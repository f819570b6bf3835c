-- A beginning as a file: its bytes in front of those of what follows it, and how many there can be. Assumes nothing.
use Rattle.std.specs.Prelude.{ℕ, zero, suc, ◌+◌, ◌*◌, ◌/◌, ◌%◌, ◌≤◌, ◌<◌, ◌≡◌, refl, Bool, true, false, length, ltb, ℤ}
use Rattle.std.proofs.Common.{sym, ◌∙◌, arith, length-append, lt-ltb, le-ltb}
use Rattle.std.proofs.Math.Path.{ap}
use Rattle.std.proofs.Math.Bool.{cond}
use mathlib.Core.List.{List, [], ◌∷◌, ◌++◌, append_assoc}
use Rattle.std.proofs.Math.Decide.{dec_lt}
use Rattle.laws.specs.Lists.{tabs}
use Rattle.laws.specs.Tabs.{length-tabs}
use Rattle.meaning.specs.Numbers.{groups_of, bytes_of, stored}
use Rattle.meaning.specs.Files.{Form, refused, values_at, file_of}
use Rattle.meaning.specs.Plants.{band_limit, span, times, edges, bands, edges_and_bands, headed, edges_of, band_of}
use Rattle.files.specs.declared.headers.Header.{Header}
use Rattle.files.specs.declared.beginnings.Beginning.{Beginning}
use Rattle.files.specs.Signed.{signed_bytes, signed-append}
use Rattle.files.specs.Headers.{head_bytes}
use Rattle.files.specs.Bounds.{edges_part}
use Rattle.files.specs.Refusing.{Refusing}
use Rattle.files.specs.Beginnings.{head_numbers, head_of, edges_in, bands_in, beginning_bytes}

-- a part that many times, its bytes being those of its values each time
pub file-times : (part : Form → Form) (f : ℕ → List ℤ) (bytes : ℕ → List ℕ) → ((k : ℕ) (rest : Form) (vs : List ℤ) → file_of (part rest) (f k ++ vs) ≡ bytes k ++ file_of rest vs)
    → (m i : ℕ) (rest : Form) (vs : List ℤ) → file_of (times m part rest) (tabs f m i ++ vs) ≡ tabs bytes m i ++ file_of rest vs
unfolding times tabs
file-times part f bytes one zero i rest vs = refl
file-times part f bytes one (suc m) i rest vs =
    ap (file_of (part (times m part rest))) (append_assoc (f i) (tabs f m (i + 1)) vs)
    ∙ one i (times m part rest) (tabs f m (i + 1) ++ vs)
    ∙ ap (λ (bs : List ℕ). bytes i ++ bs) (file-times part f bytes one m (i + 1) rest vs)
    ∙ sym (append_assoc (bytes i) (tabs bytes m (i + 1)) (file_of rest vs))

signed-tabs : (f : ℕ → List ℤ) (m i : ℕ) → tabs (λ k. signed_bytes (f k)) m i ≡ signed_bytes (tabs f m i)
unfolding tabs signed_bytes
signed-tabs f zero i = refl
signed-tabs f (suc m) i = ap (λ (bs : List ℕ). signed_bytes (f i) ++ bs) (signed-tabs f m (i + 1)) ∙ sym (signed-append (f i) (tabs f m (i + 1)))

file-edges : (rlo rhi slo shi : List ℤ) (k : ℕ) (rest : Form) (vs : List ℤ) → file_of (edges_part rest) (edges_of rlo rhi slo shi k ++ vs) ≡ signed_bytes (edges_of rlo rhi slo shi k) ++ file_of rest vs
unfolding file_of signed_bytes
file-edges rlo rhi slo shi k rest vs = simp append_assoc

file-bands : (wlo whi : List ℤ) (k : ℕ) (rest : Form) (vs : List ℤ) → file_of (span band_limit rest) (band_of wlo whi k ++ vs) ≡ signed_bytes (band_of wlo whi k) ++ file_of rest vs
unfolding file_of signed_bytes
file-bands wlo whi k rest vs = simp append_assoc

regroup : (a b c d e f x : List ℕ) → (a ++ (b ++ (c ++ (d ++ (e ++ f))))) ++ x ≡ a ++ (b ++ (c ++ (d ++ (e ++ (f ++ x)))))
regroup a b c d e f x = simp append_assoc

-- the header in front of what stands behind it
pub file-headed : (h : Header) (forms most : ℕ) (body : ℕ → ℕ → ℕ → Form) (vs : List ℤ)
    → file_of (headed forms most body) (head_numbers h ++ vs) ≡ head_bytes h ++ file_of (body h.form h.n h.m) vs
unfolding headed file_of
file-headed h forms most body vs =
    sym (regroup (bytes_of h.form) (bytes_of h.n) (bytes_of h.m) (bytes_of h.q) (bytes_of h.k) (bytes_of h.d) (file_of (body h.form h.n h.m) vs))

-- edges and bands in front of the rest
pub file-bounds : (b : Beginning) (rest : Form) (vs : List ℤ)
    → file_of (edges_and_bands b.n rest) (edges_in b ++ (bands_in b ++ vs)) ≡ signed_bytes (edges_in b ++ bands_in b) ++ file_of rest vs
unfolding edges bands
file-bounds b rest vs =
    file-times edges_part edge (λ k. signed_bytes (edge k)) (file-edges b.root.lo b.root.hi b.safe.lo b.safe.hi) b.n 0 (times b.n (span band_limit) rest) (bands_in b ++ vs)
    ∙ ap (λ (bs : List ℕ). bs ++ file_of (times b.n (span band_limit) rest) (bands_in b ++ vs)) (signed-tabs edge b.n 0)
    ∙ ap (λ (bs : List ℕ). signed_bytes (edges_in b) ++ bs)
    (file-times (span band_limit) band (λ k. signed_bytes (band k)) (file-bands b.bands.lo b.bands.hi) b.n 0 rest vs ∙ ap (λ (bs : List ℕ). bs ++ file_of rest vs) (signed-tabs band b.n 0))
    ∙ sym (append_assoc (signed_bytes (edges_in b)) (signed_bytes (bands_in b)) (file_of rest vs))
    ∙ ap (λ (bs : List ℕ). bs ++ file_of rest vs) (sym (signed-append (edges_in b) (bands_in b)))
  where
    edge : ℕ → List ℤ
    edge = edges_of b.root.lo b.root.hi b.safe.lo b.safe.hi

    band : ℕ → List ℤ
    band = band_of b.bands.lo b.bands.hi

-- ---- as it is drafted

module _ (b : Beginning) where
  pub header-alone : 4 < b.n → beginning_bytes b ≡ head_bytes (head_of b) ++ []
  unfolding beginning_bytes
  header-alone h = simp (lt-ltb _ _ h)

  pub all-drafted : b.n ≤ 4 → beginning_bytes b ≡ head_bytes (head_of b) ++ signed_bytes (edges_in b ++ bands_in b)
  unfolding beginning_bytes
  all-drafted h = simp (le-ltb _ _ h)

-- where the header is refused, the draft is, and so is any file that begins with it
module _ {forms most : ℕ} (b : Beginning) (w : Refusing forms most (head_of b)) (body : ℕ → ℕ → ℕ → Form) where
  pub draft-fails : (y : List ℕ) → values_at (headed forms most body) (beginning_bytes b ++ y) 0 ≡ refused w.refusal
  unfolding beginning_bytes
  draft-fails y =
      let mid = cond (ltb 4 b.n) [] (signed_bytes (edges_in b ++ bands_in b)) in
      ap (λ (bs : List ℕ). values_at (headed forms most body) bs 0) (append_assoc (head_bytes (head_of b)) mid y) ∙ w.fails body (mid ++ y)

  pub file-fails : (vs : List ℤ) → values_at (headed forms most body) (file_of (headed forms most body) (head_numbers (head_of b) ++ vs)) 0 ≡ refused w.refusal
  file-fails vs =
      ap (λ (bs : List ℕ). values_at (headed forms most body) bs 0) (file-headed (head_of b) forms most body vs)
      ∙ w.fails body (file_of (body b.form b.n b.m) vs)

-- ---- how long it can be

bytes-long : (f v : ℕ) → length (groups_of f v) ≤ f + 1
unfolding groups_of
bytes-long zero v = omega arith
bytes-long (suc f) v = go (ltb v 128) (bytes-long f (v / 128))
  where
    go : (t : Bool) → length (groups_of f (v / 128)) ≤ f + 1 → length (cond t (v ∷ []) ((v % 128 + 128) ∷ groups_of f (v / 128))) ≤ suc f + 1
    go true h = omega arith
    go false h = omega arith

ten : (v : ℕ) → length (bytes_of v) ≤ 10
ten v = bytes-long 9 v

pub signed-long : (vs : List ℤ) → length (signed_bytes vs) ≤ 10 * length vs
unfolding signed_bytes
signed-long [] = omega arith
signed-long (v ∷ vs) = omega (arith, ten (stored v), signed-long vs, length-append (bytes_of (stored v)) (signed_bytes vs))

head-long : (h : Header) → length (head_bytes h) ≤ 60
head-long h =
    let a = bytes_of h.n in
    let b = bytes_of h.m in
    let c = bytes_of h.q in
    let d = bytes_of h.k in
    let e = bytes_of h.d in
    omega (
      arith,
      ten h.form,
      ten h.n,
      ten h.m,
      ten h.q,
      ten h.k,
      ten h.d,
      length-append (bytes_of h.form) (a ++ (b ++ (c ++ (d ++ e)))),
      length-append a (b ++ (c ++ (d ++ e))),
      length-append b (c ++ (d ++ e)),
      length-append c (d ++ e),
      length-append d e,
    )

pub beginning-long : (b : Beginning) → length (beginning_bytes b) ≤ 300
beginning-long b = go (dec_lt 4 b.n)
  where
    h : Header
    h = head_of b

    body : List ℤ
    body = edges_in b ++ bands_in b

    go : Dec (4 < b.n) → length (beginning_bytes b) ≤ 300
    go (yes a) = rw (header-alone b a) (omega (arith, length-append (head_bytes h) [], head-long h))
    go (no a) =
        rw (all-drafted b (omega arith))
        (omega (
          arith,
          length-append (head_bytes h) (signed_bytes body),
          head-long h,
          signed-long body,
          length-append (edges_in b) (bands_in b),
          length-tabs (edges_of b.root.lo b.root.hi b.safe.lo b.safe.hi) 4 (λ k. refl) b.n 0,
          length-tabs (band_of b.bands.lo b.bands.hi) 2 (λ k. refl) b.n 0,
        ))
