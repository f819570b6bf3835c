-- A sheet file has at most 308 bytes, and one has exactly so many. Relies on pages Files, Floats, Lengths and Related; the checker computes the one.
use Rattle.std.specs.Prelude.{ℕ, zero, suc, ◌+◌, ◌-◌, ◌*◌, ◌≤◌, ◌≡◌, refl, Bool, List, [], ◌∷◌, ◌++◌, length, ℤ, pos, neg_ℤ, nat_abs, Float}
use Rattle.std.proofs.Common.{arith, mul-le-mul}
use Rattle.laws.specs.Lists.{tabs}
use Rattle.meaning.specs.declared.Sheet.{Sheet}
use Rattle.meaning.specs.Computing.{computing}
use Rattle.meaning.specs.Files.{low_first, Form, values_of, good, file_of}
use Rattle.meaning.specs.Plants.{edge_limit, counted, from}
use Rattle.meaning.specs.Sheets as S
use Rattle.meaning.specs.Sheets.{floating, not_below, any_float, emitter_form, room_form, above, sheet_form, sheet_of, sheet_judged}
use Rattle.promises.specs.Files.Files.{file-writes}
use Rattle.promises.specs.Files.Floats.{low-length}
use Rattle.promises.specs.Files.Headers.{most-of}
use Rattle.promises.specs.Files.Lengths.{Longest, longer, Adds, end-longest, field-longest, counted-longest, then-adds, times-adds, edges-adds, bands-adds, headed-longest}
use Rattle.promises.specs.Files.Related.{good-sheet}
use Rattle.promises.specs.Sheets.SheetShapes.{sheet_body}

-- ---- at most

eight : (v : ℕ) → length (low_first 8 v) ≤ 8
eight v = omega (arith, low-length 8 v)

floating-adds : (ok : Float → Bool) → Adds (floating ok) 8
floating-adds ok = record { adds = λ l. field-longest _ _ (λ v e. eight (nat_abs v)) (λ v e. l) }

-- a heater's values are the longest
own-longest : (rest : Form) (m kind : ℕ) → Longest rest m → Longest (emitter_form rest kind) (16 + m)
own-longest rest m zero l = longer l (omega arith)
own-longest rest m (suc zero) l = longer ((floating-adds not_below).adds ((floating-adds any_float).adds l)) (omega arith)
own-longest rest m (suc (suc kind)) l = longer ((floating-adds any_float).adds l) (omega arith)

emitter-adds : Adds (λ rest. counted (from 0 2) (emitter_form rest)) 17
emitter-adds = record { adds = λ {rest} {m} l. longer (counted-longest (from 0 2) (emitter_form rest) 0 2 (λ v e. most-of 0 2 v e) (omega arith) (λ v h. own-longest rest m v l)) (omega arith) }

room-adds : (n : ℕ) → Adds (room_form n) (8 + ((n - 1) * 8 + 17))
unfolding S.room_form
room-adds n = then-adds (floating-adds not_below) (then-adds (times-adds (floating-adds not_below) (n - 1)) emitter-adds)

body-longest : (form n r : ℕ) → n ≤ 4 → r ≤ 1_000 → Longest (sheet_body form n r) 300
body-longest form n r few many =
    let a : 8 + ((n - 1) * 8 + 17) ≤ 49 = omega arith in
    longer ((edges-adds n).adds ((bands-adds n).adds ((floating-adds above).adds ((floating-adds any_float).adds ((times-adds (room-adds n) n).adds end-longest))))) (omega (arith, mul-le-mul few a))

pub at_most : (s : List ℕ) (h : Sheet) → sheet_judged s ≡ good h → length s ≤ 308
unfolding S.sheet_judged S.sheet_form
at_most s h e =
    let w = file-writes sheet_form s (good-sheet (values_of sheet_form s) h e).was in
    omega (arith, headed-longest 1 1_000 1 sheet_body (λ _. 300) (omega arith) (omega arith) body-longest s w.0, w.1)

-- ---- and one that has them

abbrev widest : ℕ → List ℤ
widest limit = neg_ℤ (pos limit) ∷ pos limit ∷ []

-- no loss, no exchanges, and a heater that gives nothing
abbrev longest_room : List ℤ
longest_room = pos 0 ∷ pos 0 ∷ pos 0 ∷ pos 0 ∷ pos 1 ∷ pos 0 ∷ pos 0 ∷ []

-- n 4, r 1,000, q 10,000, K 6, D 3, edges at their limit, bands half as wide as they may be, which leaves room to widen them; time 1.0, outside 0.0
unfoldable pub largest : List ℤ
largest =
    pos 1 ∷ pos 4 ∷ pos 1_000 ∷ pos 10_000 ∷ pos 6 ∷ pos 3
    ∷ (tabs (λ _. widest edge_limit ++ widest edge_limit) 4 0 ++ (tabs (λ _. widest 500_000_000) 4 0
    ++ (pos 4_607_182_418_800_017_408 ∷ pos 0 ∷ tabs (λ _. longest_room) 4 0)))

pub reached : (length (file_of sheet_form largest) ≡ 308) × (sheet_judged (file_of sheet_form largest) ≡ good (sheet_of largest))
unfolding computing largest
reached = (refl, refl)
