-- What a call on a start file reads (document 02, request 2026-03; readings: nothing of the tables before the one that is called but their lengths): the
-- chain, the lengths up to that table's own, and of the table, idle, no more than up to the last mode of the tile that is found, and of what is before it only the
-- splits on the way where it tells lengths; running, its header and the modes left from the state's place on. On every file that has the same bytes there, and is long enough for that table, the answer is the same: bytes of other
-- tables, and all that stands behind the tile, do not count. Of every file, kept or not. Relies on page Local within the table, on Agreeing and Reaching.
-- What a refused call reads is left out, but for one that is refused before any length, and a running one whose modes left can be read.
use Prim.Native.Nat.{ℕ, zero, suc, ◌+◌, ◌≤◌, ◌<◌}
use Rattle.std.specs.Prelude.{◌≡◌, true, false, ◌&&◌, ◌⊎◌, length, get_or, set, leb, eqb, ℤ, Ok, Err}
use Rattle.std.proofs.Math.Path.{refl}
use Rattle.std.proofs.Common.{sym, ap, ◌∙◌, inl, inr, arith, length-append, length-set, get_or-set_other}
use mathlib.Core.List.{List, [], ◌∷◌, ◌++◌}
use Rattle.laws.specs.Every.{Every}
use Rattle.laws.specs.Lists.{tab, all}
use Rattle.laws.specs.Standing.{Stands, stand-within}
use Rattle.laws.specs.Tests.{never, second, guard_passed}
use Rattle.meaning.specs.declared.StartState.{StartState}
use Rattle.meaning.specs.declared.State.{State}
use Rattle.meaning.specs.Control as C
use Rattle.meaning.specs.Control.{call, are_read, can_run, state_call, find}
use Rattle.meaning.specs.Files.{Read, read, refused, values_at, good}
use Rattle.meaning.specs.Numbers.{bytes_of}
use Rattle.meaning.specs.Plants.{Plant, plant_judged, root_of, safe_of}
use Rattle.meaning.specs.Rules.{Rules, holds}
use Rattle.meaning.specs.Starts as S
use Rattle.meaning.specs.Starts.{chain_form, above, box_at, held, box_rules, part, is_idle, start_idle, answer_in, can_index, start_call, start_controlled}
use Rattle.meaning.specs.Tables.{form_of}
use Rattle.meaning.specs.Trees.{modes_bytes}
use Rattle.meaning.specs.Verdicts.{modes_at, header}
use Rattle.promises.specs.Files.Bytes.{bytes-some}
use Rattle.promises.specs.Tables.Chosen.{Went, went}
use Rattle.promises.specs.Files.Judged.{judged-sound}
use Rattle.promises.specs.Tables.Laws.{Sizes}
use Rattle.promises.specs.Tables.Layouts.{ModesStand, modes-stand, first_read, modes-read, header-stands, header_read}
use Rattle.promises.specs.Tables.Local.{read_of, Seen, seen_bytes, seen}
use Rattle.promises.specs.Tables.Modes.{refused-mode}
use Rattle.promises.specs.Tables.PlantRules.{header-size}
use Rattle.promises.specs.Files.Sound.{Sound}
use Rattle.promises.specs.Tables.TableForms.{form-known, header-form}
use Rattle.promises.specs.Tables.Walking.{walk-went}
use Rattle.promises.specs.Files.SameBytes.{In, in-before, Same, stand-same}
use Rattle.promises.specs.Starts.Agreeing.{part-byte, LengthByte, values_same, table-behind, table_same}
use Rattle.promises.specs.Starts.Chains.{box-sizes}
use Rattle.promises.specs.Starts.Parts.{part-size}
use Rattle.promises.specs.Starts.Places.{table-inside}
use Rattle.promises.specs.Starts.Reaching.{Reaching, box_on, rules_on, table_on, reached, answered-reaching, table-answered}

-- The places that a call reads that comes to the table of box i, which begins at `place`: those of the chain, of the lengths up to the table's own, and of
-- the table such as T says, counted within it.
pub data Sees (start : List ℕ) (i next place : ℕ) (T : ℕ → Type 0) : ℕ → Type 0 where
  of-chain : {k : ℕ} → k < next → Sees start i next place T k
  of_length : {k : ℕ} → LengthByte start i next k → Sees start i next place T k
  of-table : (j : ℕ) → T j → Sees start i next place T (place + j)

-- what sees more of the table sees more
sees_more : {start : List ℕ} {i next place k : ℕ} {T U : ℕ → Type 0} → ((j : ℕ) → T j → U j) → Sees start i next place T k → Sees start i next place U k
sees_more h (of-chain l) = of-chain l
sees_more h (of_length b) = of_length b
sees_more h (of-table j t) = of-table j (h j t)

-- where one byte is another, those that are not it are the same
others : (s : List ℕ) (k b : ℕ) (P : ℕ → Type 0) → (P k → ⊥) → (j : ℕ) → P j → get_or (set s k b) j 0 ≡ get_or s j 0
others s k b P n j h = get_or-set_other s k j b 0 (λ (e : j ≡ k). n (rw e at h))

-- ---- the way to the table

module _ {plant start : List ℕ} {st : StartState} {x : List ℤ} (way : Reaching plant start st x) (other : List ℕ) (long : way.place + way.size ≤ length other) (T : ℕ → Type 0)
    (same : (k : ℕ) → Sees start (box_on way) way.next way.place T k → get_or other k 0 ≡ get_or start k 0) where
  -- the other file's call comes to a table at the same place
  way_same : start_controlled plant other st x
      ≡ answer_in (box_on way) way.place (call (box_rules way.p way.vs (box_on way) (form_of (part other way.place way.size))) (part other way.place way.size) st.state x)
  way_same = reached plant other st x (record {
    p = way.p;
    judged = way.judged;
    vs = way.vs;
    next = way.next;
    chain = values_same start other (chain_form way.p.n) way.vs way.next (omega (arith, table-behind start other way.there)) (λ k _ l. same k (of-chain l)) way.chain;
    kept = way.kept;
    index = way.index;
    inside = way.inside;
    place = way.place;
    size = way.size;
    there = table_same start other way.there long (λ k b. same k (of_length b));
  })

  -- within the table
  table-bytes : (from to : ℕ) → to ≤ way.size → ((j : ℕ) → from ≤ j → j < to → T j) → Same (table_on way) (part other way.place way.size) from to
  table-bytes from to l in-T k g h =
      part-byte other way.place way.size k (omega arith) ∙ same (way.place + k) (of-table k (in-T k g h)) ∙ sym (part-byte start way.place way.size k (omega arith))

  -- so the answer is the same where the form that the table says and its answer are
  call_same : form_of (part other way.place way.size) ≡ form_of (table_on way)
      → call (rules_on way) (part other way.place way.size) st.state x ≡ call (rules_on way) (table_on way) st.state x
      → start_controlled plant other st x ≡ start_controlled plant start st x
  call_same q e =
      way_same
      ∙ ap (λ (f : ℕ). answer_in (box_on way) way.place (call (box_rules way.p way.vs (box_on way) f) (part other way.place way.size) st.state x)) q
      ∙ rw e (sym (reached plant start st x way))

-- ---- idle

-- The call was answered by the tile whose modes stand in the table of the chosen box from `from` up to `end`.
pub record IdleUnread (plant start : List ℕ) (x : List ℤ) (u : ℕ) (then : StartState) : Type 0 where
  pub way : Reaching plant start start_idle x
  pub from : ℕ
  pub modes : List ℕ
  pub found : find (rules_on way) (rules_on way).D (table_on way) 2 (rules_on way).root x ≡ Ok (from, length modes)
  pub end : ℕ
  pub are : modes_at way.p.modes (length modes) (table_on way) from ≡ read modes end
  -- all that is read of the table is before that
  pub inside : Every (λ p. p.to ≤ end) (read_of (rules_on way) x (table_on way) 2)
  -- The same on every file with the same bytes in chain and lengths, and in the table where it was read: up to there where the table tells no lengths, and else
  -- its header, the splits on the way and the tile. How long the table is is told in front of it.
  pub same : (other : List ℕ) → way.place + way.size ≤ length other
      → ((k : ℕ) → Sees start (box_on way) way.next way.place (In (read_of (rules_on way) x (table_on way) 2)) k → get_or other k 0 ≡ get_or start k 0)
      → start_controlled plant other start_idle x ≡ Ok (u, then)

pub idle-unread : (plant start : List ℕ) (x : List ℤ) (u : ℕ) (then : StartState) → start_controlled plant start start_idle x ≡ Ok (u, then)
    → IdleUnread plant start x u then
idle-unread plant start x u then a =
    let way = answered-reaching plant start start_idle x a in
    let t = table-answered plant start start_idle x way a in
    of way (judged-sound plant way.p way.judged) (went (rules_on way) (table_on way) x u t.0 t.1)
  where
    by-tile : (way : Reaching plant start start_idle x) (from k : ℕ) (z : Seen (rules_on way) x (table_on way) 2 from k)
        → find (rules_on way) (rules_on way).D (table_on way) 2 (rules_on way).root x ≡ Ok (from, k) → IdleUnread plant start x u then
    by-tile way from k z found =
        let count : length z.modes ≡ k = (modes-stand way.p.modes k (table_on way) from z.modes z.end z.are).count in
        let size : length (table_on way) ≡ way.size = part-size start way.place way.size (table-inside start way.there) in
        record {
          way = way;
          from = from;
          modes = z.modes;
          found = rw count found;
          end = z.end;
          are = rw count z.are;
          inside = z.inside;
          same = λ other long same.
              let t = part other way.place way.size in
              let T = In (read_of (rules_on way) x (table_on way) 2) in
              let alike : length t ≡ way.size = part-size other way.place way.size long in
              let bytes : (j : ℕ) → T j → get_or t j 0 ≡ get_or (table_on way) j 0 = λ j h.
              let l : j < z.end = in-before z.end (read_of (rules_on way) x (table_on way) 2) j z.inside h in
              let few : j < way.size = omega (arith, z.in-file, size, l) in
              part-byte other way.place way.size j few ∙ same (way.place + j) (of-table j h) ∙ sym (part-byte start way.place way.size j few) in
              let b = seen_bytes (rules_on way) x (table_on way) 2 from k z t (omega (arith, z.in-file, size, alike)) bytes in
              call_same way other long T same (header-form (form_of (table_on way)) way.p.n (form-known (table_on way)) t 2 (z.head t b)) (z.same t (λ _. alike ∙ sym size) b) ∙ a;
        }

    of : (way : Reaching plant start start_idle x) → Sound way.p → Went (rules_on way) (table_on way) x → IdleUnread plant start x u then
    of way sound w =
        let begin : w.at ≡ 2 = omega (arith, (header-stands (form_of (table_on way)) way.p.n (table_on way) w.at w.head).end, header-size (form_of (table_on way)) (form-known (table_on way)) way.p sound) in
        let found = rw begin at w.found in
        by-tile way w.from w.k
        (seen (rules_on way) (box-sizes way.p sound way.vs (box_on way) (form_of (table_on way)) (form-known (table_on way))) x (table_on way) 2 w.from w.k (rw begin at w.head) found) found

-- up to the tile's last mode
pub idle-front : {plant start : List ℕ} {x : List ℤ} {u : ℕ} {then : StartState} (w : IdleUnread plant start x u then) (other : List ℕ)
    → w.way.place + w.way.size ≤ length other
    → ((k : ℕ) → Sees start (box_on w.way) w.way.next w.way.place (λ j. j < w.end) k → get_or other k 0 ≡ get_or start k 0)
    → start_controlled plant other start_idle x ≡ Ok (u, then)
idle-front w other l same = w.same other l (λ k s. same k (sees_more (λ j h. in-before w.end _ j w.inside h) s))

-- so a byte that it does not read may be any other
pub idle-byte : {plant start : List ℕ} {x : List ℤ} {u : ℕ} {then : StartState} (w : IdleUnread plant start x u then) (k b : ℕ)
    → (Sees start (box_on w.way) w.way.next w.way.place (In (read_of (rules_on w.way) x (table_on w.way) 2)) k → ⊥)
    → start_controlled plant (set start k b) start_idle x ≡ Ok (u, then)
idle-byte {start = start} {x = x} w k b n =
    w.same (set start k b) (rw (length-set start k b) (table-inside start w.way.there))
    (others start k b (Sees start (box_on w.way) w.way.next w.way.place (In (read_of (rules_on w.way) x (table_on w.way) 2))) n)

-- ---- running

-- what was read is inside the table
header-inside : (form n : ℕ) (s : List ℕ) (at : ℕ) → header form n s ≡ Ok at → at ≤ length s
header-inside form n s at h =
    stand-within s (bytes_of form ++ bytes_of n) 0 at (header-stands form n s at h) (omega (arith, length-append (bytes_of form) (bytes_of n), bytes-some form))

modes-inside : (s : List ℕ) (at u : ℕ) (us : List ℕ) (end : ℕ) → Stands s at (modes_bytes (u ∷ us)) end → end ≤ length s
unfolding modes_bytes
modes-inside s at u us end w = stand-within s (modes_bytes (u ∷ us)) at end w (omega (arith, bytes-some u, length-append (bytes_of u) (modes_bytes us)))

read-inside : (N : ℕ) (s : List ℕ) (at left : ℕ) (us : List ℕ) (end : ℕ) → 1 ≤ left → modes_at N left s at ≡ read us end → end ≤ length s
read-inside N s at left us end l e = go us (modes-stand N left s at us end e)
  where
    go : (us : List ℕ) → ModesStand N left s at us end → end ≤ length s
    go [] w = absurd (omega (arith, w.count))
    go (u ∷ us) w = modes-inside s at u us end w.stand

-- two tables of one length with the same bytes in the header
header-same : (r : Rules) → Sizes r → (s z : List ℕ) → length z ≡ length s → (at : ℕ) → header r.form r.n s ≡ Ok at → Same s z 0 at → header r.form r.n z ≡ Ok at
header-same r sizes s z long at h a =
    let i = header-inside r.form r.n s at h in
    header_read r.form r.n sizes.forms sizes.dimensions z at
    (stand-same s z (bytes_of r.form ++ bytes_of r.n) 0 at (omega arith) a (header-stands r.form r.n s at h))

-- a call on two tables of one length that have the same header and the same modes left from the state's place on
module _ (r : Rules) (sizes : Sizes r) (s z : List ℕ) (long : length z ≡ length s) (st : State) (x : r.Reading) where
  run-same : (at : ℕ) (us : List ℕ) (end : ℕ) → 1 ≤ st.left → header r.form r.n s ≡ Ok at → modes_at r.N st.left s st.place ≡ read us end
      → Same s z 0 at → Same s z st.place end → call r z st x ≡ call r s st x
  unfolding C.call
  run-same at us end l h n a b =
      let hz = header-same r sizes s z long at h a in
      rw (h, hz) (go st.left l us (modes-stand r.N st.left s st.place us end n))
    where
      go : (left : ℕ) → 1 ≤ left → (us : List ℕ) → ModesStand r.N left s st.place us end → state_call r z at st.place left x ≡ state_call r s at st.place left x
      go zero l us w = absurd (omega arith)
      go (suc m) l [] w = absurd (omega (arith, w.count))
      go (suc m) l (u ∷ us) w =
          let N = r.N in
          let j = modes-inside s st.place u us end w.stand in
          let there = stand-same s z (modes_bytes (u ∷ us)) st.place end (omega arith) b w.stand in
          let c = w.count in
          let here-read : modes_at N (suc m) s st.place ≡ read (u ∷ us) end = rw c at (modes-read N sizes.modes (u ∷ us) s st.place end w.modes w.stand) in
          let there-read : modes_at N (suc m) z st.place ≡ read (u ∷ us) end = rw c at (modes-read N sizes.modes (u ∷ us) z st.place end w.modes there) in
          let here-first = first_read N sizes.modes u us s st.place end w.modes w.stand in
          let there-first = first_read N sizes.modes u us z st.place end w.modes there in
          rw (here-read, there-read, here-first, there-first) refl

-- byte j of a table is one of its header's two, or of the modes left from a place on, `end` being the place behind them
abbrev pub HeaderOrModes : ℕ → ℕ → ℕ → Type 0
HeaderOrModes place end j = (j < 2) ⊎ ((place ≤ j) × (j < end))

-- The header was read, and so are the modes left, of which there are some: whatever is answered, no other byte of the table is read.
pub running-same : (plant start : List ℕ) (st : StartState) (x : List ℤ) (way : Reaching plant start st x) (us : List ℕ) (end : ℕ) → 1 ≤ st.state.left
    → header (form_of (table_on way)) way.p.n (table_on way) ≡ Ok 2 → modes_at way.p.modes st.state.left (table_on way) st.state.place ≡ read us end
    → (other : List ℕ) → way.place + way.size ≤ length other
    → ((k : ℕ) → Sees start (box_on way) way.next way.place (HeaderOrModes st.state.place end) k → get_or other k 0 ≡ get_or start k 0)
    → start_controlled plant other st x ≡ start_controlled plant start st x
running-same plant start st x way us end l h n other long same =
    let T = HeaderOrModes st.state.place end in
    let size = part-size start way.place way.size (table-inside start way.there) in
    let sizes = box-sizes way.p (judged-sound plant way.p way.judged) way.vs (box_on way) (form_of (table_on way)) (form-known (table_on way)) in
    let e : length (part other way.place way.size) ≡ length (table_on way) = omega (arith, size, part-size other way.place way.size long) in
    let i = header-inside (form_of (table_on way)) way.p.n (table_on way) 2 h in
    let j = read-inside way.p.modes (table_on way) st.state.place st.state.left us end l n in
    let hz = header-same (rules_on way) sizes (table_on way) (part other way.place way.size) e 2 h (table-bytes way other long T same 0 2 (omega arith) (λ k _ g. inl g)) in
    call_same way other long T same (header-form (form_of (table_on way)) way.p.n (form-known (table_on way)) (part other way.place way.size) 2 hz)
    (run-same (rules_on way) sizes (table_on way) (part other way.place way.size) e st.state x 2 us end l h n
    (table-bytes way other long T same 0 2 (omega arith) (λ k _ g. inl g))
    (table-bytes way other long T same st.state.place end (omega arith) (λ k g f. inr (g, f))))

-- such is a call that was answered
record RunWas (r : Rules) (s : List ℕ) (st : State) : Type 0 where
  at : ℕ
  head : header r.form r.n s ≡ Ok at
  some : 1 ≤ st.left
  modes : List ℕ
  end : ℕ
  are : modes_at r.N st.left s st.place ≡ read modes end

were-read : (o : Read (List ℕ)) → are_read o ≡ true → (us : List ℕ) × (end : ℕ) × (o ≡ read us end)
were-read (refused e) h = never h
were-read (read us end) h = (us, end, refl)

run-was : (r : Rules) (s : List ℕ) (st : State) (x : r.Reading) {u : ℕ} {then : State} → is_idle st ≡ false → call r s st x ≡ Ok (u, then) → RunWas r s st
unfolding C.call
run-was r s st x {u} {then} n e =
    let w = walk-went (header r.form r.n s) Err (λ at. state_call r s at st.place st.left x) (λ _. refused-mode) e in
    let k = go w.0 st.place st.left n w.2 in
    record { at = w.0; head = w.1; some = k.0; modes = k.1; end = k.2; are = k.3 }
  where
    go : (at place left : ℕ) → (eqb place 0 && eqb left 0) ≡ false → state_call r s at place left x ≡ Ok (u, then)
        → (1 ≤ left) × (us : List ℕ) × (end : ℕ) × (modes_at r.N left s place ≡ read us end)
    go at place zero n e = let a = guard_passed (eqb place 0) _ refused-mode e in never (sym (rw a.0 at n))
    go at place (suc m) n e =
        let a = guard_passed (can_run r.K r.N s place (suc m)) _ refused-mode e in
        let o = modes_at r.N (suc m) s place in
        let w = were-read o (second (leb (suc m) r.K && leb 2 place) (are_read o) a.0) in
        (omega arith, w.0, w.1, w.2)

-- a running call that is answered
pub record RunningUnread (plant start : List ℕ) (st : StartState) (x : List ℤ) (u : ℕ) (then : StartState) : Type 0 where
  pub way : Reaching plant start st x
  pub modes : List ℕ
  pub end : ℕ
  pub are : modes_at way.p.modes st.state.left (table_on way) st.state.place ≡ read modes end
  pub same : (other : List ℕ) → way.place + way.size ≤ length other
      → ((k : ℕ) → Sees start st.index way.next way.place (HeaderOrModes st.state.place end) k → get_or other k 0 ≡ get_or start k 0)
      → start_controlled plant other st x ≡ Ok (u, then)

pub running-unread : (plant start : List ℕ) (st : StartState) (x : List ℤ) (u : ℕ) (then : StartState) → is_idle st.state ≡ false
    → start_controlled plant start st x ≡ Ok (u, then) → RunningUnread plant start st x u then
running-unread plant start st x u then n a =
    let way = answered-reaching plant start st x a in
    let t = table-answered plant start st x way a in
    of way (judged-sound plant way.p way.judged) (run-was (rules_on way) (table_on way) st.state x n t.1)
  where
    of : (way : Reaching plant start st x) → Sound way.p → RunWas (rules_on way) (table_on way) st.state → RunningUnread plant start st x u then
    of way sound w =
        let begin : w.at ≡ 2 = omega (arith, (header-stands (form_of (table_on way)) way.p.n (table_on way) w.at w.head).end, header-size (form_of (table_on way)) (form-known (table_on way)) way.p sound) in
        let i : box_on way ≡ st.index = rw n refl in
        record {
          way = way;
          modes = w.modes;
          end = w.end;
          are = w.are;
          same = λ other long same. running-same plant start st x way w.modes w.end w.some (rw begin at w.head) w.are other long (rw i same) ∙ a;
        }

pub running-byte : {plant start : List ℕ} {st : StartState} {x : List ℤ} {u : ℕ} {then : StartState} (w : RunningUnread plant start st x u then) (k b : ℕ)
    → (Sees start st.index w.way.next w.way.place (HeaderOrModes st.state.place w.end) k → ⊥) → start_controlled plant (set start k b) st x ≡ Ok (u, then)
running-byte {start = start} {st = st} w k b n =
    w.same (set start k b) (rw (length-set start k b) (table-inside start w.way.there))
    (others start k b (Sees start st.index w.way.next w.way.place (HeaderOrModes st.state.place w.end)) n)

-- ---- refused before any length is read: 12 for the index, 11 where it is idle

-- such a call reads no more than the chain
pub early-same : (plant start : List ℕ) (st : StartState) (x : List ℤ) (p : Plant) → plant_judged plant ≡ good p → (vs : List ℤ) (next : ℕ)
    → values_at (chain_form p.n) start 0 ≡ read vs next → all (tab (held p.n (root_of p) vs (safe_of p)) (above vs) 0) ≡ true
    → (can_index p vs start next st.index st.state ≡ false) ⊎ ((is_idle st.state ≡ true) × (holds (box_rules p vs (above vs) 1) (box_at p.n (root_of p) vs (above vs)) x ≡ false))
    → (other : List ℕ) → next ≤ length other → Same start other 0 next → start_controlled plant other st x ≡ start_controlled plant start st x
unfolding S.start_controlled
early-same plant start st x p judged vs next chain kept why other long same =
    rw (judged, chain, values_same start other (chain_form p.n) vs next long same chain, kept) (go why)
  where
    go : (can_index p vs start next st.index st.state ≡ false) ⊎ ((is_idle st.state ≡ true) × (holds (box_rules p vs (above vs) 1) (box_at p.n (root_of p) vs (above vs)) x ≡ false))
        → start_call p vs other next st x ≡ start_call p vs start next st x
    go (inl e) = rw e refl
    go (inr e) = rw (e.0, e.1) refl
