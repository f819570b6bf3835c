-- What is made of a plant and a chain, told one form for all tables: the start file whose tables are the defined ones of that form, exactly where plant and chain are
-- good, the form is known and each box has a table; it is accepted; 2 where the form is not known; else 9 with the first index for which no table at all of
-- that form is accepted. And the maker, lent a buffer, answers 9 and 10 exactly as that and the
-- buffer's length say. Relies on page Made over the rules of each box, and on page ChainTold: a plant or a chain is never refused by 9 or 10. That the
-- function that makes does what `start_left` says is its contract.
use Rattle.std.specs.Prelude.{ℕ, ◌+◌, ◌≤◌, ◌<◌, ◌≡◌, true, false, ◌↔◌, List, [], ◌∷◌, ℤ, length, get_or, Ok, Err}
use Rattle.std.proofs.Math.Path.{refl}
use Rattle.std.proofs.Common.{ap, ◌∙◌, arith, zero-add}
use Rattle.laws.specs.Lists.{tab, all}
use Rattle.laws.specs.Tests.{never}
use Rattle.meaning.specs.declared.Refusal.{Refusal}
use Rattle.meaning.specs.Files.{read, values_of, Judged, good, bad}
use Rattle.meaning.specs.Plants.{Plant, plant_judged, root_of, safe_of}
use Rattle.meaning.specs.Refusals.{wrong_form, no_table, short}
use Rattle.meaning.specs.Rules.{Rules}
use Rattle.meaning.specs.Starts as S
use Rattle.meaning.specs.Starts.{chain_form, above, held, box_rules, parts_of, start_of, tables_from, start_bytes, start_checked, start_made, start_left}
use Rattle.meaning.specs.Tables.{known_form, form_of, defined_table}
use Rattle.meaning.specs.Verdicts.{verdict}
use Rattle.promises.specs.Files.Buffers.{wrote, left-fits}
use Rattle.promises.specs.Sheets.Faults.{plant-told}
use Rattle.promises.specs.Files.Files.{file-writes, read-in-front}
use Rattle.promises.specs.Files.Judged.{judged-sound}
use Rattle.promises.specs.Tables.Laws.{Sizes}
use Rattle.promises.specs.Tables.Accept.{accepted-exactly}
use Rattle.promises.specs.Tables.TableForms.{table-form}
use Rattle.promises.specs.Tables.Made.{only-nine, table-accepted, table-nine, nine-answered, ten-answered, length-answered}
use Rattle.promises.specs.Files.Telling.{guard-keeps, told_more}
use Rattle.promises.specs.Starts.Accepted.{start-checked-exactly}
use Rattle.promises.specs.Starts.Before.{plant-keeps, chain-keeps}
use Rattle.promises.specs.Starts.Chains.{chain-few, box-sizes}
use Rattle.promises.specs.Starts.ChainTold.{early_numbers, whole-told, held-told}
use Rattle.promises.specs.Starts.Rows.{StartTold, of-plant, of-start, start-more, start-not-told}
use Rattle.promises.specs.Starts.Started.{Started}
use Rattle.promises.specs.Starts.TablesMade.{NoneAt, all_made, each-made, only-nines, first-none, none_first}

-- plant and chain are good: what is made of them is made of these
pub record Given (plant chain : List ℕ) : Type 0 where
  pub p : Plant
  pub judged : plant_judged plant ≡ good p
  pub vs : List ℤ
  pub next : ℕ
  pub values : values_of (chain_form p.n) chain ≡ read vs next
  pub kept : all (tab (held p.n (root_of p) vs (safe_of p)) (above vs) 0) ≡ true

-- each box has its defined table of a known form
pub record Defined (plant chain : List ℕ) (form : ℕ) (bytes : List ℕ) : Type 0 where
  pub given : Given plant chain
  pub known : known_form form ≡ true
  pub tables : List (List ℕ)
  pub count : length tables ≡ above given.vs + 1
  pub each : (i : ℕ) → i < length tables → defined_table i (box_rules given.p given.vs i form) ≡ good (get_or tables i [])
  pub is : bytes ≡ start_of given.p.n given.vs tables

-- the form is known, and i is the first index for which no table of that form is accepted
pub record FirstWithout (plant chain : List ℕ) (form i : ℕ) : Type 0 where
  pub given : Given plant chain
  pub known : known_form form ≡ true
  pub index : i ≤ above given.vs
  pub none : (t : List ℕ) → verdict (box_rules given.p given.vs i form) t ≡ Ok tt → ⊥
  pub before : (j : ℕ) → j < i → (t : List ℕ) × (verdict (box_rules given.p given.vs j form) t ≡ Ok tt)

-- ---- plant and chain come first

-- the numbers that a chain is refused by, and 9
abbrev pub made_numbers : List ℕ
made_numbers = 9 ∷ early_numbers

bytes_good : (n : ℕ) (vs : List ℤ) (o : Judged (List (List ℕ))) (bytes : List ℕ) → start_bytes n vs o ≡ good bytes → (ts : List (List ℕ)) × (o ≡ good ts) × (bytes ≡ start_of n vs ts)
bytes_good n vs (good ts) bytes e = (ts, refl, cc)
bytes_good n vs (bad f) bytes e = never cc

bytes-bad : (n : ℕ) (vs : List ℤ) (o : Judged (List (List ℕ))) (f : Refusal) → start_bytes n vs o ≡ bad f → o ≡ bad f
bytes-bad n vs (good ts) f e = never cc
bytes-bad n vs (bad g) f e = cc

module _ (plant chain : List ℕ) (form : ℕ) where
  -- the rules of each box's table
  abbrev rules_in : Given plant chain → ℕ → Rules
  rules_in g i = box_rules g.p g.vs i form

  abbrev tables_of : Given plant chain → Judged (List (List ℕ))
  tables_of g = tables_from (rules_in g) (above g.vs + 1) 0

  abbrev bytes_from : Given plant chain → Judged (List ℕ)
  bytes_from g = start_bytes g.p.n g.vs (tables_of g)

  made_as : (g : Given plant chain) → known_form form ≡ true → start_made plant chain form ≡ bytes_from g
  unfolding S.start_made
  made_as g known = rw (g.judged, g.values, g.kept, known) refl

  -- 2 where plant and chain are good and the form is not known
  pub start-made-unknown : Given plant chain → known_form form ≡ false → start_made plant chain form ≡ bad wrong_form
  unfolding S.start_made
  start-made-unknown g other = rw (g.judged, g.values, g.kept, other) refl

  -- what is made is refused early, or made of what was given
  made-keeps : (P : Judged (List ℕ) → Type 0) → ((e : Refusal) → StartTold plant chain early_numbers e → P (bad e)) → ((g : Given plant chain) → known_form form ≡ true → P (bytes_from g))
      → P (start_made plant chain form)
  unfolding S.start_made
  made-keeps P early made =
      plant-keeps P (plant_judged plant) bad _ (λ e q. early e (of-plant q (plant-told plant e q)))
      (λ p j. chain-keeps P p.n (root_of p) (safe_of p) (values_of (chain_form p.n) chain) bad _
      (λ e q. early e (of-start p j (told_more (whole-told p.n chain e q) early_numbers refl)))
      (λ vs next q h. early _ (of-start p j (told_more (held-told p.n chain (root_of p) (safe_of p) vs next (file-writes (chain_form p.n) chain q).0 h) early_numbers refl)))
      (λ vs next q h. guard-keeps P (known_form form) _ (λ _. early wrong_form (of-start p j (record { number = refl; place = omega arith; step = refl })))
      (λ known. made (record { p = p; judged = j; vs = vs; next = next; values = q; kept = h }) known)))

  was-given : (a : Judged (List ℕ)) → ((e : Refusal) → StartTold plant chain early_numbers e → bad e ≡ a → ⊥) → start_made plant chain form ≡ a
      → (g : Given plant chain) × (known_form form ≡ true) × (bytes_from g ≡ a)
  was-given a late = made-keeps (λ x. x ≡ a → (g : Given plant chain) × (known_form form ≡ true) × (bytes_from g ≡ a)) (λ e t q. absurd (late e t q)) (λ g known q. (g, known, q))

  -- ---- made

  pub start-made-exactly : (bytes : List ℕ) → (start_made plant chain form ≡ good bytes) ↔ Defined plant chain form bytes
  start-made-exactly bytes = (there, back)
    where
      there : start_made plant chain form ≡ good bytes → Defined plant chain form bytes
      there e =
          let w = was-given (good bytes) (λ f _ z. never cc) e in
          let g = w.0 in
          let b = bytes_good g.p.n g.vs (tables_of g) bytes w.2 in
          let h = all_made (rules_in g) (above g.vs + 1) 0 b.0 b.1 in
          record { given = g; known = w.1; tables = b.0; count = h.0; each = λ i l. rw zero-add at (h.1 i l); is = b.2 }

      back : Defined plant chain form bytes → start_made plant chain form ≡ good bytes
      back d =
          let g = d.given in
          made_as g d.known ∙ rw (each-made (rules_in g) (above g.vs + 1) 0 d.tables (d.count, λ i l. rw zero-add (d.each i l)), d.is) refl

  -- and accepted: each table says its form
  module _ (g : Given plant chain) (known : known_form form ≡ true) where
    sized : (i : ℕ) → Sizes (rules_in g i)
    sized i = box-sizes g.p (judged-sound plant g.p g.judged) g.vs i form known

    pub of-form : (i : ℕ) (t : List ℕ) → verdict (rules_in g i) t ≡ Ok tt
        → (form_of t ≡ form) × (verdict (box_rules g.p g.vs i (form_of t)) t ≡ Ok tt)
    of-form i t a =
        let w = (accepted-exactly (rules_in g i) (sized i) t).0 a in
        let q : form_of t ≡ form = table-form (rules_in g i) (sized i) known t w.0 w.2 in
        (q, ap (λ (f : ℕ). verdict (box_rules g.p g.vs i f) t) q ∙ a)

  pub defined-accepted : (bytes : List ℕ) (d : Defined plant chain form bytes) (i : ℕ) → i < length d.tables
      → verdict (rules_in d.given i) (get_or d.tables i []) ≡ Ok tt
  defined-accepted bytes d i l = table-accepted i (rules_in d.given i) (sized d.given d.known i) (get_or d.tables i []) (d.each i l)

  -- and is of the form that was told
  pub defined-form : (bytes : List ℕ) (d : Defined plant chain form bytes) (i : ℕ) → i < length d.tables → form_of (get_or d.tables i []) ≡ form
  defined-form bytes d i l = (of-form d.given d.known i (get_or d.tables i []) (defined-accepted bytes d i l)).0

  unfoldable pub defined-started : (bytes : List ℕ) → Defined plant chain form bytes → Started plant bytes
  defined-started bytes d =
      let g = d.given in
      record {
        p = g.p;
        judged = g.judged;
        vs = g.vs;
        next = g.next;
        chain = rw d.is (read-in-front (chain_form g.p.n) chain g.values (parts_of d.tables));
        kept = g.kept;
        tables = d.tables;
        count = d.count;
        each = λ i l. (of-form g d.known i (get_or d.tables i []) (defined-accepted bytes d i l)).1;
        is = d.is;
      }

  pub start-made-accepted : (bytes : List ℕ) → start_made plant chain form ≡ good bytes → start_checked plant bytes ≡ Ok tt
  start-made-accepted bytes e = (start-checked-exactly plant bytes).1 (defined-started bytes ((start-made-exactly bytes).0 e))

  -- ---- 9

  module _ (g : Given plant chain) (known : known_form form ≡ true) where
    -- a box has a defined table exactly where some table is accepted
    some-defined : (i : ℕ) → ((t : List ℕ) × (defined_table i (rules_in g i) ≡ good t)) ↔ ((t : List ℕ) × (verdict (rules_in g i) t ≡ Ok tt))
    some-defined i = (λ w. (w.0, table-accepted i _ (sized g known i) w.0 w.1), λ w. go w (defined_table i (rules_in g i)) refl)
      where
        go : (t : List ℕ) × (verdict (rules_in g i) t ≡ Ok tt) → (j : Judged (List ℕ)) → defined_table i (rules_in g i) ≡ j
            → (t : List ℕ) × (defined_table i (rules_in g i) ≡ good t)
        go w (good t) q = (t, q)
        go w (bad f) q = absurd ((table-nine i _ (sized g known i)).0 (q ∙ ap bad (only-nine i _ f q)) w.0 w.1)

  -- 9 exactly where some box has no table at all, with the first such
  pub start-nine-exactly : (i : ℕ) → (start_made plant chain form ≡ bad (no_table i)) ↔ FirstWithout plant chain form i
  start-nine-exactly i = (there, back)
    where
      there : start_made plant chain form ≡ bad (no_table i) → FirstWithout plant chain form i
      there e =
          let w = was-given (bad (no_table i)) (λ f t z. start-not-told 9 refl refl t (cc z)) e in
          let g = w.0 in
          let h = first-none (rules_in g) (above g.vs + 1) 0 i (bytes-bad g.p.n g.vs (tables_of g) (no_table i) w.2) in
          record {
            given = g;
            known = w.1;
            index = omega (arith, h.to);
            none = (table-nine i _ (sized g w.1 i)).0 h.none;
            before = λ j l. (some-defined g w.1 j).0 (h.before j (omega arith) l);
          }

      back : FirstWithout plant chain form i → start_made plant chain form ≡ bad (no_table i)
      back f =
          let g = f.given in
          let h : NoneAt (rules_in g) (above g.vs + 1) 0 i = record {
            from = omega arith;
            to = omega (arith, f.index);
            none = (table-nine i _ (sized g f.known i)).1 f.none;
            before = λ j _ l. (some-defined g f.known j).1 (f.before j l);
          } in
          made_as g f.known ∙ rw (none_first (rules_in g) (above g.vs + 1) 0 i h) refl

  -- what is not made is refused early, or by 9
  pub start-made-told : (f : Refusal) → start_made plant chain form ≡ bad f → StartTold plant chain made_numbers f
  start-made-told f =
      made-keeps (λ x. x ≡ bad f → StartTold plant chain made_numbers f) (λ e t q. let z : e ≡ f = cc in start-more made_numbers refl (rw z at t)) none
    where
      none : (g : Given plant chain) → known_form form ≡ true → bytes_from g ≡ bad f → StartTold plant chain made_numbers f
      none g known q =
          let r = rules_in g in
          let e = bytes-bad g.p.n g.vs (tables_of g) f q in
          let w = only-nines r (above g.vs + 1) 0 f e in
          let h = first-none r (above g.vs + 1) 0 w.0 (rw w.1 at e) in
          let few = chain-few g.p.n g.vs chain g.next (file-writes (chain_form g.p.n) chain g.values).0 in
          rw w.1 (of-start g.p g.judged (record { number = refl; place = omega (arith, h.to); step = refl }))

  -- ---- the maker, lent a buffer

  module _ (buf : List ℕ) where
    -- 9 exactly where plant and chain are good and some box has no table, with the first such
    pub start-maker-nine : (i : ℕ) → ((start_left plant chain form buf).answer ≡ Err (no_table i)) ↔ FirstWithout plant chain form i
    unfolding S.start_left
    start-maker-nine i =
        let w = nine-answered buf i (start_made plant chain form) in
        let k = start-nine-exactly i in
        (λ e. k.0 (w.0 e), λ h. w.1 (k.1 h))

    -- 2 at 0 where plant and chain are good and the form is not known
    pub start-maker-two : Given plant chain → known_form form ≡ false → (start_left plant chain form buf).answer ≡ Err wrong_form
    unfolding S.start_left
    start-maker-two g other = rw (start-made-unknown g other) refl

    -- 10 exactly where there is a file, and the buffer is shorter
    pub start-maker-ten : ((start_left plant chain form buf).answer ≡ Err short)
        ↔ ((bytes : List ℕ) × (start_made plant chain form ≡ good bytes) × (length buf < length bytes))
    unfolding S.start_left
    start-maker-ten = ten-answered buf (start_made plant chain form) (λ f e. start-not-told 10 refl refl (start-made-told f e))

    -- one that fits is written in front, and the rest of the buffer is as it was
    pub start-maker-writes : (bytes : List ℕ) → start_made plant chain form ≡ good bytes → length bytes ≤ length buf → start_left plant chain form buf ≡ wrote bytes buf
    unfolding S.start_left
    start-maker-writes bytes e l = rw e (left-fits bytes buf l)

    -- a length is answered exactly then, and is the file's
    pub start-maker-length : (m : ℕ) → ((start_left plant chain form buf).answer ≡ Ok m)
        ↔ ((bytes : List ℕ) × (start_made plant chain form ≡ good bytes) × (length bytes ≤ length buf) × (m ≡ length bytes))
    unfolding S.start_left
    start-maker-length = length-answered buf (start_made plant chain form)
