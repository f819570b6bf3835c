-- How long a start file may be: one that is accepted, and so one that is made, has at most 530,810 bytes; one whose tables tell no lengths, and so one that is made of
-- form 3, at most 516,326; and one that is made of form 1 at most 491,660. Form and m take a byte each, an edge 3, a table's length 3. Of forms 1 and 2 the
-- longest tables have n 2 and D 6; with n 3 and 4 the edges are more, the tables shorter by more than that. Of form 3 they are as long with any n that reaches
-- n·D = 12, so n 4 has the longest file. Relies on pages Accepted, Maker, TableLengths and TreeLengths; that some file is so long is left out.
use Rattle.std.specs.Prelude.{ℕ, zero, suc, ◌+◌, ◌-◌, ◌*◌, ◌/◌, ◌^◌, ◌≤◌, ◌<◌, ◌≡◌, refl, Bool, true, false, cond, List, [], ◌∷◌, ◌++◌, leb, eqb, nat_abs, length, get_or, Ok, Err}
use Rattle.std.proofs.Common.{sym, ap, subst, ◌∙◌, arith, mul-le-mul, le_refl, eqb-true, length-append}
use Rattle.laws.specs.Tests.{never}
use Rattle.meaning.specs.Computing.{computing}
use Rattle.meaning.specs.Files.{good, file_of}
use Rattle.meaning.specs.Numbers.{bytes_of}
use Rattle.meaning.specs.Plants.{edge_limit, from}
use Rattle.meaning.specs.Refusals as R
use Rattle.meaning.specs.Starts as S
use Rattle.meaning.specs.Starts.{chain_form, box_rules, parts_of, start_checked, start_made, start_left}
use Rattle.meaning.specs.Tables.{one_side, depth_by, form_of}
use Rattle.meaning.specs.Trees.{tells}
use Rattle.meaning.specs.Verdicts.{verdict}
use Rattle.promises.specs.Files.Files.{writes-back}
use Rattle.promises.specs.Files.Headers.{most-of}
use Rattle.promises.specs.Files.Judged.{judged-sound}
use Rattle.promises.specs.Files.Lengths.{short, Longest, longer, end-longest, field-longest, counted-longest, span-adds, times-adds}
use Rattle.promises.specs.Tables.TableForms.{form-known}
use Rattle.promises.specs.Tables.TableLengths.{over-most}
use Rattle.promises.specs.Tables.TreeLengths as L
use Rattle.promises.specs.Tables.TreeLengths.{most, most-grows, children_most, tile_bytes, tile-most}
use Rattle.promises.specs.Starts.Accepted.{start-checked-exactly}
use Rattle.promises.specs.Starts.Chains.{chain-few, box-size}
use Rattle.promises.specs.Starts.Maker.{start-made-exactly, defined-accepted, defined-form, defined-started, start-made-accepted, start-maker-ten}
use Rattle.promises.specs.Starts.Started.{Started}

-- ---- the chain

chain-longest : (n : ℕ) → Longest (chain_form n) (2 + 48 * n)
unfolding S.chain_form
chain-longest n =
    longer (field-longest _ _ {c = 1} {m = 1 + 48 * n} (λ v e. short 0 9 (nat_abs v) (omega (arith, most-of 1 1 (nat_abs v) e))) (λ v e.
    counted-longest (from 0 8) _ 0 8 (λ m e. most-of 0 8 m e) (omega arith) (λ m few.
    longer ((times-adds (span-adds edge_limit 2 (omega arith)) (m * n)).adds end-longest) (omega (arith, mul-le-mul few (le_refl n)))))) (omega arith)

-- ---- the tables

-- tables of at most b bytes, each with its length
parts-length : (b : ℕ) → b < 2 ^ 21 → (ts : List (List ℕ)) → ((i : ℕ) → i < length ts → length (get_or ts i []) ≤ b) → length (parts_of ts) ≤ length ts * (3 + b)
unfolding S.parts_of
parts-length b h [] each = omega arith
parts-length b h (t ∷ ts) each =
    let few = each 0 (omega arith) in
    omega (
      arith,
      length-append (bytes_of (length t)) (t ++ parts_of ts),
      length-append t (parts_of ts),
      short 2 9 (length t) (omega arith),
      parts-length b h ts (λ i l. each (suc i) (omega arith)),
    )

-- n·D ≤ 12, D ≤ 6: two dimensions of depth 6 have the most, nine tables and the edges of eight boxes together
cap : (m n d : ℕ) → 1 ≤ n → n ≤ 4 → d ≤ 6 → n * d ≤ 12 → 48 * n + 9 * most false (2 ^ n) m d ≤ 36_864 * m + 12_381
unfolding L.most
cap m zero d l h k e = absurd (omega arith)
cap m (suc zero) d l h k e = omega (arith, most-grows false 2 m (omega arith) d 6 k)
cap m (suc (suc zero)) d l h k e = omega (arith, most-grows false 4 m (omega arith) d 6 k)
cap m (suc (suc (suc zero))) d l h k e = omega (arith, most-grows false 8 m (omega arith) d 4 (omega arith))
cap m (suc (suc (suc (suc zero)))) d l h k e = omega (arith, most-grows false 16 m (omega arith) d 3 (omega arith))
cap m (suc (suc (suc (suc (suc n))))) d l h k e = absurd (omega arith)

-- of any form: the most bytes of a tree
abbrev most_by : ℕ → ℕ → ℕ → ℕ → ℕ
most_by form N n d = most (tells form) (children_most form n) (tile_bytes N) (depth_by form n d)

-- nine tables and the edges of eight boxes together: where lengths are told, two dimensions of depth 6 have the most too
cap-any : (form N n d : ℕ) → 1 ≤ n → n ≤ 4 → d ≤ 6 → n * d ≤ 12 → 48 * n + 9 * (2 + most_by form N n d) ≤ 530_781
unfolding computing L.most
cap-any form N n d l h k e = go (tells form) refl (one_side form) refl
  where
    -- three and four dimensions have shorter tables
    few : ℕ → ℕ
    few n = cond (eqb n 2) 58_963 58_000

    told : (t : Bool) → most true (2 ^ n) (cond t 7 13) d ≤ few n
    told true = L.by-rooms few true 7 n d l h k e (omega arith) (omega arith) (omega arith) (omega arith)
    told false = L.by-rooms few true 13 n d l h k e (omega arith) (omega arith) (omega arith) (omega arith)

    room : (t : Bool) → eqb n 2 ≡ t → 48 * n + 9 * (2 + cond t 58_963 58_000) ≤ 530_781
    room true q = let z : n ≡ 2 = eqb-true n 2 q in omega (arith, z)
    room false q = omega arith

    go : (t : Bool) → tells form ≡ t → (u : Bool) → one_side form ≡ u → 48 * n + 9 * (2 + most t (cond u 2 (2 ^ n)) (tile_bytes N) (cond u (n * d) d)) ≤ 530_781
    go true p true q = never (sym (L.halving-untold form q) ∙ p)
    go true p false q = omega (arith, told (leb N 128), room (eqb n 2) refl)
    go false p true q = omega (arith, L.cap-halving (tile_bytes N) (n * d) e, tile-most N)
    go false p false q = omega (arith, L.cap (tile_bytes N) n d l h k e, tile-most N)

-- where none are told, form 3 has the longest
cap-untold : (form N n d : ℕ) → tells form ≡ false → 1 ≤ n → n ≤ 4 → d ≤ 6 → n * d ≤ 12 → 2 + most_by form N n d ≤ 57_345
cap-untold form N n d untold l h k e = go (one_side form) refl
  where
    go : (u : Bool) → one_side form ≡ u → 2 + most (tells form) (cond u 2 (2 ^ n)) (tile_bytes N) (cond u (n * d) d) ≤ 57_345
    go true q = rw untold (omega (arith, L.cap-halving (tile_bytes N) (n * d) e, tile-most N))
    go false q = rw untold (omega (arith, L.cap (tile_bytes N) n d l h k e, tile-most N))

-- ---- the file

-- with tables of at most b bytes
started-length : (plant start : List ℕ) (t : Started plant start) (b : ℕ) → b < 2 ^ 21 → ((i : ℕ) → i < length t.tables → length (get_or t.tables i []) ≤ b)
    → length start ≤ 2 + 48 * t.p.n + 9 * (3 + b)
started-length plant start t b small each =
    let p = t.p in
    let form = chain_form p.n in
    let nine : length t.tables ≤ 9 = omega (arith, t.count, chain-few p.n t.vs start t.next t.chain) in
    omega (
      arith,
      ap length t.is,
      length-append (file_of form t.vs) (parts_of t.tables),
      (writes-back form start 0 t.chain).1.end,
      (chain-longest p.n).most start 0 t.chain,
      parts-length b small t.tables each,
      mul-le-mul nine (le_refl (3 + b)),
    )

-- of the tables of a start file that was accepted, each by the form that it says
table-most : (plant start : List ℕ) (t : Started plant start) (i : ℕ) → i < length t.tables
    → length (get_or t.tables i []) ≤ 2 + most_by (form_of (get_or t.tables i [])) t.p.modes t.p.n t.p.d
table-most plant start t i h =
    let table = get_or t.tables i [] in
    over-most (form_of table) (form-known table) t.p (judged-sound plant t.p t.judged) _ _ (box-size t.p t.vs i) table (t.each i h)

-- whatever the forms of its tables
pub accepted-length : (plant start : List ℕ) → start_checked plant start ≡ Ok tt → length start ≤ 530_810
accepted-length plant start e =
    let t = (start-checked-exactly plant start).0 e in
    let p = t.p in
    let s = judged-sound plant p t.judged in
    let b = (530_781 - 48 * p.n) / 9 in
    let each : (i : ℕ) → i < length t.tables → length (get_or t.tables i []) ≤ b = λ i h.
    omega (arith, table-most plant start t i h, cap-any (form_of (get_or t.tables i [])) p.modes p.n p.d s.ranges.n-low s.ranges.n-high s.ranges.d-high s.ranges.nd-high) in
    omega (arith, started-length plant start t b (omega arith) each, s.ranges.n-high)

-- where no table tells lengths
pub accepted-length-untold : (plant start : List ℕ) → (e : start_checked plant start ≡ Ok tt)
    → ((i : ℕ) → tells (form_of (get_or ((start-checked-exactly plant start).0 e).tables i [])) ≡ false) → length start ≤ 516_326
accepted-length-untold plant start e untold =
    let t = (start-checked-exactly plant start).0 e in
    let p = t.p in
    let s = judged-sound plant p t.judged in
    let each : (i : ℕ) → i < length t.tables → length (get_or t.tables i []) ≤ 57_345 = λ i h.
    omega (arith, table-most plant start t i h, cap-untold (form_of (get_or t.tables i [])) p.modes p.n p.d (untold i) s.ranges.n-low s.ranges.n-high s.ranges.d-high s.ranges.nd-high) in
    omega (arith, started-length plant start t 57_345 (omega arith) each, s.ranges.n-high)

pub made-length : (plant chain : List ℕ) (form : ℕ) (bytes : List ℕ) → start_made plant chain form ≡ good bytes → length bytes ≤ 530_810
made-length plant chain form bytes e = accepted-length plant bytes (start-made-accepted plant chain form bytes e)

-- of a form that tells no lengths
pub made-length-untold : (plant chain : List ℕ) (form : ℕ) → tells form ≡ false → (bytes : List ℕ) → start_made plant chain form ≡ good bytes → length bytes ≤ 516_326
unfolding defined-started
made-length-untold plant chain form untold bytes e =
    let d = (start-made-exactly plant chain form bytes).0 e in
    let g = d.given in
    let t = defined-started plant chain form bytes d in
    let p = g.p in
    let s = judged-sound plant p g.judged in
    let each : (i : ℕ) → i < length d.tables → length (get_or d.tables i []) ≤ 57_345 = λ i l.
    omega (
      arith,
      over-most form d.known p s _ _ (box-size p g.vs i) (get_or d.tables i []) (defined-accepted plant chain form bytes d i l),
      cap-untold form p.modes p.n p.d untold s.ranges.n-low s.ranges.n-high s.ranges.d-high s.ranges.nd-high,
    ) in
    omega (arith, started-length plant bytes t 57_345 (omega arith) each, s.ranges.n-high)

-- of tables of form 1 alone
pub accepted-length-one : (plant start : List ℕ) (t : Started plant start) → ((i : ℕ) → i < length t.tables → form_of (get_or t.tables i []) ≡ 1) → length start ≤ 491_660
accepted-length-one plant start t ones =
    let p = t.p in
    let s = judged-sound plant p t.judged in
    let m = tile_bytes p.modes in
    let b = 2 + most false (2 ^ p.n) m p.d in
    let each : (i : ℕ) → i < length t.tables → length (get_or t.tables i []) ≤ b = λ i l.
    over-most 1 refl p s _ _ (box-size p t.vs i) (get_or t.tables i [])
    (subst (λ (form : ℕ). verdict (box_rules p t.vs i form) (get_or t.tables i []) ≡ Ok tt) (ones i l) (t.each i l)) in
    let small : b < 2 ^ 21 = omega (arith, tile-most p.modes, L.cap m p.n p.d s.ranges.n-low s.ranges.n-high s.ranges.d-high s.ranges.nd-high) in
    omega (
      arith,
      started-length plant start t b small each,
      tile-most p.modes,
      cap m p.n p.d s.ranges.n-low s.ranges.n-high s.ranges.d-high s.ranges.nd-high,
    )

pub made-length-one : (plant chain bytes : List ℕ) → start_made plant chain 1 ≡ good bytes → length bytes ≤ 491_660
unfolding defined-started
made-length-one plant chain bytes e =
    let d = (start-made-exactly plant chain 1 bytes).0 e in
    accepted-length-one plant bytes (defined-started plant chain 1 bytes d) (λ i l. defined-form plant chain 1 bytes d i l)

-- a buffer of so many is long enough for any
pub start-maker-fits : (plant chain : List ℕ) (form : ℕ) (buf : List ℕ) → 530_810 ≤ length buf → (start_left plant chain form buf).answer ≡ Err R.short → ⊥
start-maker-fits plant chain form buf l e = let w = (start-maker-ten plant chain form buf).0 e in omega (arith, w.2, made-length plant chain form w.0 w.1)

pub start-maker-fits-one : (plant chain buf : List ℕ) → 491_660 ≤ length buf → (start_left plant chain 1 buf).answer ≡ Err R.short → ⊥
start-maker-fits-one plant chain buf l e = let w = (start-maker-ten plant chain 1 buf).0 e in omega (arith, w.2, made-length-one plant chain w.0 w.1)

pub start-maker-fits-untold : (plant chain : List ℕ) (form : ℕ) → tells form ≡ false → (buf : List ℕ) → 516_326 ≤ length buf
    → (start_left plant chain form buf).answer ≡ Err R.short → ⊥
start-maker-fits-untold plant chain form untold buf l e =
    let w = (start-maker-ten plant chain form buf).0 e in omega (arith, w.2, made-length-untold plant chain form untold w.0 w.1)
