-- A sheet's file behind its beginning: refused by its first part that is; else its values are the sheet's, they give the sheet back, and it is judged as a
-- whole. Relies on files' page Bodies, and on promises' page Sheets.
use Prim.Native.Nat.{ℕ}
use mathlib.Core.Path.{◌≡◌, refl, ap, ◌∙◌}
use mathlib.Core.List.{List, [], ◌∷◌, ◌++◌, append_assoc}
use native.Mathlib.Omega.{arith}
use lib.ListN.{length}
use lib.IntN.{ℤ}
use lib.Ieee.{Float}
use Rattle.laws.specs.Lists.{tabs}
use Rattle.meaning.specs.Answers.{Verdict}
use Rattle.meaning.specs.declared.Refusal.{Refusal}
use Rattle.meaning.specs.declared.Room.{Room}
use Rattle.meaning.specs.declared.Sheet.{Sheet}
use Rattle.meaning.specs.Refusals.{unfit}
use Rattle.meaning.specs.Files.{Form, end, read, refused, values_at, good, bad}
use Rattle.meaning.specs.Plants.{times, related}
use Rattle.meaning.specs.Sheets.{bits_of, above, room_form, sheet_form, sheet_of, sheet_values, root_sheet, safe_sheet, bands_sheet, sheet_read_of}
use Rattle.promises.specs.Sheets.Sheets.{HeldSheet, TidySheet, sheet-back}
use Rattle.files.specs.declared.beginnings.Beginning.{Beginning}
use Rattle.files.specs.Parts.{Fails, holds_then, holds-fails, holds-last}
use Rattle.files.specs.Beginnings.{beginning_form, head_numbers, head_of, edges_in, bands_in, beginning_numbers, by_verdict, related_in, relation, Begun}
use Rattle.files.specs.Bodies.{begun-judged, not-begun, body_refused, body-left-over, body-by-verdict}
use Rattle.sheets.specs.Floats.{two_part, TwoFloated}
use Rattle.sheets.specs.Rooms.{values_of_room, RoomsHeld}
use Rattle.sheets.specs.Sheets.{unfitted_of, unfitted, rooms_form, body_read, sheet_with}

-- ---- what stands behind a beginning

module _ (s : List ℕ) (b : Beginning) (from : ℕ) where
  by_values : (r : Refusal) → values_at (rooms_form b.form b.n b.m) s from ≡ refused r → body_read s b from ≡ sheet_read_of (bad r)
  by_values r e = ap sheet_read_of (body_refused unfitted_of rooms_form s (λ e. refl) b from r e)

  pub time-refused : (r : Refusal) → Fails (two_part above) s from r → body_read s b from ≡ sheet_read_of (bad r)
  time-refused r t = by_values r (t.fails (times b.n (room_form b.n) end))

  module _ (time outside : Float) (mid : ℕ) (u : TwoFloated above s from time outside mid) where
    pub rooms-refused : (r : Refusal) → Fails (times b.n (room_form b.n)) s mid r → body_read s b from ≡ sheet_read_of (bad r)
    rooms-refused r t = by_values r ((holds-fails u.part t).fails end)

    module _ (rooms : List Room) (next : ℕ) (v : RoomsHeld s mid b.n rooms next) where
      h : Sheet
      h = sheet_with b time outside rooms

      rest : List ℤ
      rest = bits_of time ∷ bits_of outside ∷ tabs (values_of_room b.n rooms) b.n 0

      values : values_at (rooms_form b.form b.n b.m) s from ≡ read rest next
      unfolding rest
      values = holds-last (holds_then u.part v.part)

      pub left_over : (next ≡ length s → ⊥) → body_read s b from ≡ sheet_read_of (bad (unfit next))
      left_over g = ap sheet_read_of (body-left-over unfitted_of rooms_form s (λ e. refl) b from rest next values g)

      module _ (t : Begun 1 1000 s b from) (whole : next ≡ length s) where
        tidy : TidySheet h
        unfolding h
        tidy = record {
          few = t.n-high;
          rlo-filled = t.rlo-filled;
          rhi-filled = t.rhi-filled;
          slo-filled = t.slo-filled;
          shi-filled = t.shi-filled;
          wlo-filled = t.wlo-filled;
          whi-filled = t.whi-filled;
          rooms-filled = v.filled;
          rooms = v.tidy;
        }

        held : HeldSheet h
        unfolding h
        held = record { time = u.first-held; outside = u.second-held; rooms = v.held }

        -- they are the sheet's, and give it back
        given_back : sheet_of (beginning_numbers b ++ rest) ≡ h
        unfolding h rest sheet_values beginning_numbers
        given_back =
            let one : b.form ≡ 1 = omega (arith, t.form-low, t.form-high) in
            ap (λ (l : List ℤ). sheet_of (head_numbers (head_of b) ++ l)) (append_assoc (edges_in b) (bands_in b) rest) ∙ rw one (sheet-back h tidy held)

        judged : unfitted_of (read (beginning_numbers b ++ rest) next) ≡ related_in b (λ _. good (sheet_with b time outside rooms))
        unfolding h
        judged = ap (λ (x : Sheet). related x.q (root_sheet x) (safe_sheet x) (bands_sheet x ∷ []) λ _. good x) given_back

        pub by-verdict : (x y : Verdict) → x ≡ relation b → x ≡ y → body_read s b from ≡ sheet_read_of (by_verdict y λ _. good (sheet_with b time outside rooms))
        by-verdict x y e g = ap sheet_read_of (body-by-verdict unfitted_of rooms_form s (λ e. refl) b from rest next values (sheet_with b time outside rooms) whole judged x y e g)

-- ---- the beginning in front

pub beginning-refused : (s : List ℕ) (r : Refusal) → ((rest : ℕ → ℕ → ℕ → Form) → values_at (beginning_form 1 1000 rest) s 0 ≡ refused r) → unfitted s ≡ sheet_read_of (bad r)
unfolding unfitted sheet_form
beginning-refused s r t = ap sheet_read_of (not-begun unfitted_of rooms_form s (λ e. refl) 1 1000 r t)

pub beginning-read : (s : List ℕ) (b : Beginning) (next : ℕ) → Begun 1 1000 s b next → unfitted s ≡ body_read s b next
unfolding unfitted sheet_form
beginning-read s b next t = ap sheet_read_of (begun-judged unfitted_of rooms_form s b next t)
