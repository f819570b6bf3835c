-- S7 over bytes, for each known form: what is made of a plant that was judged good is the form's defined table, which the checker accepts, or 9 exactly where
-- it accepts no table at all of that form; 2 where the form is not known; and the maker, lent a buffer, answers 9 and 10 exactly as that and the buffer's length say. Relies on page Exists at document 01's rules, and on
-- page Faults: a plant is never refused by 9 or 10. That the function `make` does what `maker_left` says is its contract; that each pattern of the
-- defined table is the first that works is page First. What is said of one table over any rules, and of a buffer lent for any bytes, serves start files too.
use Rattle.std.specs.Prelude.{ℕ, ◌≤◌, ◌<◌, ◌≡◌, Bool, true, false, ◌↔◌, List, ◌∷◌, leb, length, Ok, Err, Result}
use Rattle.std.proofs.Math.Path.{refl}
use Rattle.std.proofs.Common.{sym, ap, ◌∙◌, arith, leb-true, leb-false}
use Rattle.std.proofs.Math.Option.{Option, none, some}
use Rattle.std.proofs.lemmas.List.Edits.{sets}
use Rattle.laws.specs.Guards.{guard}
use Rattle.laws.specs.Tests.{never}
use Rattle.meaning.specs.declared.Refusal.{Refusal}
use Rattle.meaning.specs.Refusals.{wrong_form, no_table, short}
use Rattle.meaning.specs.Buffers.{Left, refused_with, left}
use Rattle.meaning.specs.Defined.{defined_tree}
use Rattle.meaning.specs.Files.{Judged, good, bad}
use Rattle.meaning.specs.Plants.{Plant, plant_judged}
use Rattle.meaning.specs.Rules.{Rules}
use Rattle.meaning.specs.Tables as T
use Rattle.meaning.specs.Tables.{known_form, form_of, rules_of, on_plant, checked, table_bytes, defined_table, made, maker_left}
use Rattle.meaning.specs.Trees.{Tree, tells, table_of}
use Rattle.meaning.specs.Verdicts.{verdict}
use Rattle.promises.specs.Files.Buffers.{wrote, left-fits, left-short}
use Rattle.promises.specs.Tables.Checked.{accepted-form}
use Rattle.promises.specs.Tables.Exists.{defined-accepted, no-table-exactly}
use Rattle.promises.specs.Sheets.Faults.{plant_numbers, plant-told}
use Rattle.promises.specs.Tables.Laws.{Sizes}
use Rattle.promises.specs.Tables.PlantRules.{judged-sizes, made_as, made-unknown}
use Rattle.promises.specs.Tables.TableLengths as L
use Rattle.promises.specs.Files.Telling.{Telling, told_more, not-told}

-- a refusal that is told is the one that was meant
refusal-told : {A : Type 0} {e f : Refusal} → ◌≡◌ {A = Result A Refusal} (Err e) (Err f) → e ≡ f
refusal-told q = cc

-- ---- the bytes of a tree that may not be there, over any rules; the box's index is i

module _ (i : ℕ) (r : Rules) where
  none-bytes : (o : Option Tree) → (table_bytes i r o ≡ bad (no_table i)) ↔ (o ≡ none)
  none-bytes none = (λ e. refl, λ e. refl)
  none-bytes (some t) = (λ e. never cc, λ e. never cc)

  some_bytes : (o : Option Tree) (bytes : List ℕ) → (table_bytes i r o ≡ good bytes) ↔ ((t : Tree) × (o ≡ some t) × (bytes ≡ table_of r t))
  some_bytes none bytes = (λ e. never cc, λ w. let e : none ≡ some w.0 = w.1 in never cc)
  some_bytes (some t) bytes = (λ e. (t, refl, cc), λ w. same w.0 w.1 w.2)
    where
      same : (u : Tree) → some t ≡ some u → bytes ≡ table_of r u → good (table_of r t) ≡ good bytes
      same u e q = let z : t ≡ u = cc in rw (z, q) refl

  -- nothing else is refused
  pub only-nine : (e : Refusal) → defined_table i r ≡ bad e → e ≡ no_table i
  only-nine e = go (defined_tree r)
    where
      go : (o : Option Tree) → table_bytes i r o ≡ bad e → e ≡ no_table i
      go none q = cc
      go (some t) q = never cc

  module _ (sizes : Sizes r) where
    pub table-accepted : (bytes : List ℕ) → defined_table i r ≡ good bytes → verdict r bytes ≡ Ok tt
    table-accepted bytes e = let w = (some_bytes (defined_tree r) bytes).0 e in ap (verdict r) w.2 ∙ defined-accepted r sizes w.0 w.1

    pub table-nine : (defined_table i r ≡ bad (no_table i)) ↔ ((table : List ℕ) → verdict r table ≡ Ok tt → ⊥)
    table-nine =
        let w = none-bytes (defined_tree r) in
        let k = no-table-exactly r sizes in
        (λ e. k.0 (w.0 e), λ h. w.1 (k.1 h))

-- ---- what the maker answers of bytes that may not be there

module _ (buf : List ℕ) where
  -- whether they fit, as a test
  abbrev fitted : List ℕ → Bool → Left
  fitted bytes c = guard c (refused_with short buf) λ _. record { answer = Ok (length bytes); buffer = sets buf 0 bytes }

  ten-of : (bytes : List ℕ) → ((left (good bytes) buf).answer ≡ Err short) ↔ (length buf < length bytes)
  ten-of bytes = (λ e. go (leb (length bytes) (length buf)) refl e, λ l. ap (λ (w : Left). w.answer) (left-short bytes buf l))
    where
      go : (c : Bool) → leb (length bytes) (length buf) ≡ c → (fitted bytes c).answer ≡ Err short → length buf < length bytes
      go true q e = never cc
      go false q e = leb-false (length bytes) (length buf) q

  -- bytes that are there are not answered by 9
  not-nine : (i : ℕ) (bytes : List ℕ) → (left (good bytes) buf).answer ≡ Err (no_table i) → ⊥
  not-nine i bytes = go (leb (length bytes) (length buf))
    where
      go : (c : Bool) → (fitted bytes c).answer ≡ Err (no_table i) → ⊥
      go true e = never cc
      go false e = let q = ap (λ (f : Refusal). f.number) (refusal-told e) in omega (arith, q)

  pub nine-answered : (i : ℕ) (j : Judged (List ℕ)) → ((left j buf).answer ≡ Err (no_table i)) ↔ (j ≡ bad (no_table i))
  nine-answered i (good bytes) = (λ e. absurd (not-nine i bytes e), λ e. never cc)
  nine-answered i (bad f) = (λ e. ap (λ (g : Refusal). bad g) (refusal-told e), λ e. let z : f ≡ no_table i = cc in rw z refl)

  -- 10 exactly where there are bytes and the buffer is shorter, what is refused not being so itself
  pub ten-answered : (j : Judged (List ℕ)) → ((f : Refusal) → j ≡ bad f → f.number ≡ 10 → ⊥)
      → ((left j buf).answer ≡ Err short) ↔ ((bytes : List ℕ) × (j ≡ good bytes) × (length buf < length bytes))
  ten-answered (good bytes) other = (λ e. (bytes, refl, (ten-of bytes).0 e), λ w. let z : w.0 ≡ bytes = cc w.1 in (ten-of bytes).1 (rw z at w.2))
  ten-answered (bad f) other = (λ e. absurd (other f refl (ap (λ (g : Refusal). g.number) (refusal-told e))), λ w. let z : bad f ≡ good w.0 = w.1 in never cc)

  -- a length is answered exactly where they fit, and is theirs
  pub length-answered : (j : Judged (List ℕ)) (m : ℕ) → ((left j buf).answer ≡ Ok m)
      ↔ ((bytes : List ℕ) × (j ≡ good bytes) × (length bytes ≤ length buf) × (m ≡ length bytes))
  length-answered (bad f) m = (λ e. never cc, λ w. let z : bad f ≡ good w.0 = w.1 in never cc)
  length-answered (good bytes) m = (
    λ e. let w = fits (leb (length bytes) (length buf)) refl e in (bytes, refl, w.0, w.1),
    λ w. let z : w.0 ≡ bytes = cc w.1 in ap (λ (l : Left). l.answer) (left-fits bytes buf (rw z at w.2)) ∙ ap (λ (k : ℕ). Ok k) (sym (rw z at w.3)),
  )
    where
      fits : (c : Bool) → leb (length bytes) (length buf) ≡ c → (fitted bytes c).answer ≡ Ok m → (length bytes ≤ length buf) × (m ≡ length bytes)
      fits true q e = (leb-true (length bytes) (length buf) q, cc)
      fits false q e = never cc

-- ---- S7

-- what the maker goes by once the plant was judged: the form, then the defined table
abbrev by_form : Plant → ℕ → Bool → Judged (List ℕ)
by_form p form c = guard c (bad wrong_form) λ _. defined_table 0 (rules_of form p)

-- what is made is accepted, says its form, and was asked for in a known one
pub made-accepted : (plant : List ℕ) (form : ℕ) (bytes : List ℕ) → made plant form ≡ good bytes
    → (checked plant bytes ≡ Ok tt) × (form_of bytes ≡ form) × (known_form form ≡ true)
unfolding T.made
made-accepted plant form bytes = go (plant_judged plant) refl
  where
    of : (p : Plant) → plant_judged plant ≡ good p → (c : Bool) → known_form form ≡ c → by_form p form c ≡ good bytes
        → (checked plant bytes ≡ Ok tt) × (form_of bytes ≡ form) × (known_form form ≡ true)
    of p e false q a = never cc
    of p e true q a =
        let w = (accepted-form plant bytes p e form q).0 (table-accepted 0 (rules_of form p) (judged-sizes plant p e form q) bytes a) in
        (w.1, w.0, q)

    go : (j : Judged Plant) → plant_judged plant ≡ j → on_plant j bad (λ p. by_form p form (known_form form)) ≡ good bytes
        → (checked plant bytes ≡ Ok tt) × (form_of bytes ≡ form) × (known_form form ≡ true)
    go (bad f) e a = never cc
    go (good p) e a = of p e (known_form form) refl a

module _ (plant : List ℕ) (p : Plant) (e : plant_judged plant ≡ good p) (form : ℕ) (known : known_form form ≡ true) where
  -- what is made is the form's defined table
  pub made-exactly : (bytes : List ℕ)
      → (made plant form ≡ good bytes) ↔ ((t : Tree) × (defined_tree (rules_of form p) ≡ some t) × (bytes ≡ table_of (rules_of form p) t))
  made-exactly bytes =
      let w = some_bytes 0 (rules_of form p) (defined_tree (rules_of form p)) bytes in
      (λ a. w.0 (sym (made_as plant p e form known) ∙ a), λ t. made_as plant p e form known ∙ w.1 t)

  -- and 9 exactly where no table at all of that form is accepted
  pub nine-exactly : (made plant form ≡ bad (no_table 0)) ↔ ((table : List ℕ) → form_of table ≡ form → checked plant table ≡ Ok tt → ⊥)
  nine-exactly =
      let w = table-nine 0 (rules_of form p) (judged-sizes plant p e form known) in (
        λ a table q c. w.0 (sym (made_as plant p e form known) ∙ a) table ((accepted-form plant table p e form known).1 (q, c)),
        λ h. made_as plant p e form known ∙ w.1 (λ table c. let k = (accepted-form plant table p e form known).0 c in h table k.0 k.1),
      )

-- ---- the maker, of all plants, judged good or not

-- Maker: plant, 2, 9, 10. What is not made is refused by the plant's own number, by 2 for the form, or by 9.
pub made_told : (plant : List ℕ) (form : ℕ) (f : Refusal) → made plant form ≡ bad f → Telling (9 ∷ plant_numbers) (length plant) f
unfolding T.made
made_told plant form f = go (plant_judged plant) refl
  where
    of : (p : Plant) (c : Bool) → by_form p form c ≡ bad f → Telling (9 ∷ plant_numbers) (length plant) f
    of p false a = let z : f ≡ wrong_form = cc in rw z (record { number = refl; place = refl; step = refl })
    of p true a = rw (only-nine 0 (rules_of form p) f a) (record { number = refl; place = refl; step = refl })

    go : (j : Judged Plant) → plant_judged plant ≡ j → on_plant j bad (λ p. by_form p form (known_form form)) ≡ bad f → Telling (9 ∷ plant_numbers) (length plant) f
    go (bad e) q a = let z : f ≡ e = cc in rw z (told_more (plant-told plant e q) (9 ∷ plant_numbers) refl)
    go (good p) q a = of p (known_form form) a

-- 9 is said of a plant that was judged good, and of a known form
nine-judged : (plant : List ℕ) (form : ℕ) → made plant form ≡ bad (no_table 0) → (p : Plant) × (plant_judged plant ≡ good p) × (known_form form ≡ true)
unfolding T.made
nine-judged plant form = go (plant_judged plant) refl
  where
    of : (p : Plant) (c : Bool) → by_form p form c ≡ bad (no_table 0) → c ≡ true
    of p true a = refl
    of p false a = let z : wrong_form.number ≡ 9 = (let k : wrong_form ≡ no_table 0 = cc in ap (λ (g : Refusal). g.number) k) in absurd (omega (arith, z))

    go : (j : Judged Plant) → plant_judged plant ≡ j → on_plant j bad (λ p. by_form p form (known_form form)) ≡ bad (no_table 0)
        → (p : Plant) × (plant_judged plant ≡ good p) × (known_form form ≡ true)
    go (bad e) q a = let z : e.number ≡ 9 = cc in absurd (not-told (plant-told plant e q) 9 refl z)
    go (good p) q a = (p, q, of p (known_form form) a)

module _ (plant : List ℕ) (form : ℕ) (buf : List ℕ) where
  -- 9 exactly where the plant is good, the form is known and no table at all of that form is accepted
  pub maker-nine : ((maker_left plant form buf).answer ≡ Err (no_table 0))
      ↔ ((p : Plant) × (plant_judged plant ≡ good p) × (known_form form ≡ true) × ((table : List ℕ) → form_of table ≡ form → checked plant table ≡ Ok tt → ⊥))
  unfolding T.maker_left
  maker-nine =
      let w = nine-answered buf 0 (made plant form) in (
        λ a. let q = w.0 a in let j = nine-judged plant form q in (j.0, j.1, j.2, (nine-exactly plant j.0 j.1 form j.2).0 q),
        λ h. w.1 ((nine-exactly plant h.0 h.1 form h.2).1 h.3),
      )

  -- 2 at 0 where the plant is good and the form is not known
  pub maker-two : (p : Plant) → plant_judged plant ≡ good p → known_form form ≡ false → (maker_left plant form buf).answer ≡ Err wrong_form
  unfolding T.maker_left
  maker-two p e other = rw (made-unknown plant p e form other) refl

  -- 10 exactly where there is a table, and the buffer is shorter
  pub maker-ten : ((maker_left plant form buf).answer ≡ Err short) ↔ ((bytes : List ℕ) × (made plant form ≡ good bytes) × (length buf < length bytes))
  unfolding T.maker_left
  maker-ten = ten-answered buf (made plant form) (λ f q. not-told (made_told plant form f q) 10 refl)

  -- and where there is one that fits, it is written in front, and the rest of the buffer is as it was
  pub maker-writes : (bytes : List ℕ) → made plant form ≡ good bytes → length bytes ≤ length buf → maker_left plant form buf ≡ wrote bytes buf
  unfolding T.maker_left
  maker-writes bytes a l = rw a (left-fits bytes buf l)

  -- a length is answered exactly then, and is the table's
  pub maker-length : (m : ℕ) → ((maker_left plant form buf).answer ≡ Ok m)
      ↔ ((bytes : List ℕ) × (made plant form ≡ good bytes) × (length bytes ≤ length buf) × (m ≡ length bytes))
  unfolding T.maker_left
  maker-length = length-answered buf (made plant form)

  -- a buffer of 58,965 bytes is long enough for any
  pub maker-fits : 58_965 ≤ length buf → (maker_left plant form buf).answer ≡ Err short → ⊥
  maker-fits l a = let w = maker-ten.0 a in omega (arith, w.2, L.at_most plant w.0 (made-accepted plant form w.0 w.1).0)

  -- and of form 1 one of so many is
  pub maker-fits-one : form ≡ 1 → 54_615 ≤ length buf → (maker_left plant form buf).answer ≡ Err short → ⊥
  maker-fits-one one l a =
      let w = maker-ten.0 a in
      let m = made-accepted plant form w.0 w.1 in
      omega (arith, w.2, L.at_most_one plant w.0 m.0 (m.1 ∙ one))

  -- and one of 57,345 for any of a form that tells no lengths
  pub maker-fits-untold : tells form ≡ false → 57_345 ≤ length buf → (maker_left plant form buf).answer ≡ Err short → ⊥
  maker-fits-untold untold l a =
      let w = maker-ten.0 a in
      let m = made-accepted plant form w.0 w.1 in
      omega (arith, w.2, L.at-most-untold plant w.0 m.0 (ap tells m.1 ∙ untold))
