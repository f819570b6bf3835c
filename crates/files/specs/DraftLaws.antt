-- A drafted file: how long it can be, that its array holds it, and that it is judged as the file that the values are, whatever is judged (plants and
-- sheets). It is the same bytes where n and m are in range, and else refused alike. Relies on pages BeginningFiles and Refusing.
use Rattle.std.specs.Prelude.{ℕ, ◌+◌, ◌^◌, ◌≤◌, ◌<◌, ◌≡◌, refl, List, [], ◌++◌, length, drop, take, replicate, ℤ}
use Rattle.std.proofs.Common.{sym, ap, ◌∙◌, append_assoc, arith, zero-add, length-append}
use Rattle.std.proofs.Math.Decide.{dec_lt}
use Rattle.std.proofs.lemmas.List.{length-replicate}
use Rattle.std.proofs.Math.Seq.{take-append_seam}
use Rattle.std.proofs.lemmas.List.Edits.{sets-eq}
use borrow.Author.Tests.{lt-ltb, le-ltb}
use Rattle.laws.specs.Writing.{Put, put-length}
use Rattle.meaning.specs.Answers.{Verdict}
use Rattle.meaning.specs.declared.Refusal.{Refusal}
use Rattle.meaning.specs.Buffers.{left}
use Rattle.meaning.specs.Files.{Form, Read, refused, ended, values_at, values_of, file_of, Judged, good, bad, file_judged}
use Rattle.meaning.specs.Plants.{headed}
use Rattle.files.specs.declared.beginnings.Beginning.{Beginning}
use Rattle.files.specs.Headers.{head_bytes}
use Rattle.files.specs.Signed.{signed_bytes}
use Rattle.files.specs.Refusing.{Refusing, n-refusing, m-refusing, none_out, many-out}
use Rattle.files.specs.Beginnings.{head_numbers, head_of, edges_in, bands_in, verdict_of, by_verdict, beginning_bytes}
use Rattle.files.specs.BeginningFiles as B
use Rattle.files.specs.BeginningFiles.{file-headed, draft-fails, file-fails, beginning-long}
use Rattle.files.specs.Drafts.{draft_bytes}

-- ---- the three cases of a draft

module _ (most : ℕ) (b : Beginning) (rest : List ℕ) where
  pub wide-draft : 4 < b.n → draft_bytes most b rest ≡ beginning_bytes b ++ []
  unfolding draft_bytes
  wide-draft h = simp (lt-ltb _ _ h)

  pub many-draft : b.n ≤ 4 → most < b.m → draft_bytes most b rest ≡ beginning_bytes b ++ []
  unfolding draft_bytes
  many-draft h l = simp (le-ltb _ _ h, lt-ltb _ _ l)

  pub whole-draft : b.n ≤ 4 → b.m ≤ most → draft_bytes most b rest ≡ beginning_bytes b ++ rest
  unfolding draft_bytes
  whole-draft h l = simp (le-ltb _ _ h, le-ltb _ _ l)

-- either the header is refused, whatever stands behind it, or all is drafted
data Drafted (forms most : ℕ) (b : Beginning) (rest : List ℕ) : Type 0 where
  header-out : (y : List ℕ) → draft_bytes most b rest ≡ beginning_bytes b ++ y → Refusing forms most (head_of b) → Drafted forms most b rest
  all-drafted : b.n ≤ 4 → 1 ≤ b.m → b.m ≤ most → draft_bytes most b rest ≡ beginning_bytes b ++ rest → Drafted forms most b rest

module _ (forms most : ℕ) (known : forms < 2 ^ 35) (some : 1 ≤ most) (b : Beginning) (rest : List ℕ) where
  drafted : Drafted forms most b rest
  drafted = go (dec_lt 4 b.n) (dec_lt most b.m) (dec_lt b.m 1)
    where
      go : Dec (4 < b.n) → Dec (most < b.m) → Dec (b.m < 1) → Drafted forms most b rest
      go (yes g) l o = header-out [] (wide-draft most b rest g) (n-refusing forms most (head_of b) known g)
      go (no g) (yes l) o = header-out [] (many-draft most b rest (omega arith) l) (m-refusing forms most (head_of b) known (omega arith) (λ next. many-out most b.m next (omega arith) l))
      go (no g) (no l) (yes o) = header-out rest (whole-draft most b rest (omega arith) (omega arith)) (m-refusing forms most (head_of b) known (omega arith) (λ next. none_out most b.m next o))
      go (no g) (no l) (no o) = all-drafted (omega arith) (omega arith) (omega arith) (whole-draft most b rest (omega arith) (omega arith))

  pub draft-long : (k : ℕ) → (b.n ≤ 4 → b.m ≤ most → length rest ≤ k) → length (draft_bytes most b rest) ≤ 300 + k
  draft-long k long = go (dec_lt 4 b.n) (dec_lt most b.m)
    where
      go : Dec (4 < b.n) → Dec (most < b.m) → length (draft_bytes most b rest) ≤ 300 + k
      go (yes g) l = rw (wide-draft most b rest g) (omega (arith, length-append (beginning_bytes b) [], beginning-long b))
      go (no g) (yes l) = rw (many-draft most b rest (omega arith) l) (omega (arith, length-append (beginning_bytes b) [], beginning-long b))
      go (no g) (no l) = rw (whole-draft most b rest (omega arith) (omega arith)) (omega (arith, length-append (beginning_bytes b) rest, beginning-long b, long (omega arith) (omega arith)))

  -- ---- judged as the file of the values is, vs standing behind the header; and where it is taken it is that file

  module _ {A : Type 0} (judged : Read (List ℤ) → Judged A) (refuses : (e : Refusal) → judged (refused e) ≡ bad e) (body : ℕ → ℕ → ℕ → Form) (vs : List ℤ)
      (says : b.n ≤ 4 → 1 ≤ b.m → b.m ≤ most → file_of (body b.form b.n b.m) vs ≡ signed_bytes (edges_in b ++ bands_in b) ++ rest) where
    abbrev form : Form
    form = headed forms most body

    abbrev file : List ℕ
    file = file_of form (head_numbers (head_of b) ++ vs)

    abbrev draft : List ℕ
    draft = draft_bytes most b rest

    abbrev judged_file : List ℕ → Judged (List ℕ)
    judged_file s = file_judged s (judged (values_of form s))

    draft-judged : judged_file file ≡ judged_file draft
    draft-judged = go drafted
      where
        out : (s : List ℕ) (e : Refusal) → values_at form s 0 ≡ refused e → judged_file s ≡ bad e
        out s e q = ap (file_judged s) (ap (λ (x : Read (List ℤ)). judged (ended s x)) q ∙ refuses e)

        go : Drafted forms most b rest → judged_file file ≡ judged_file draft
        go (header-out y e w) =
            out file w.refusal (file-fails b w body vs)
            ∙ sym (out draft w.refusal (ap (λ (s : List ℕ). values_at form s 0) e ∙ draft-fails b w body y))
        go (all-drafted h o l e) =
            ap judged_file (file-headed (head_of b) forms most body vs ∙ ap (λ (bs : List ℕ). head_bytes (head_of b) ++ bs) (says h o l)
            ∙ sym (append_assoc (head_bytes (head_of b)) (signed_bytes (edges_in b ++ bands_in b)) rest) ∙ ap (λ (bs : List ℕ). bs ++ rest) (sym (B.all-drafted b h)) ∙ sym e)

    -- so what is left of a lent buffer is told by the draft s and its verdict v
    pub draft-left : (s : List ℕ) (v : Verdict) → s ≡ draft → v ≡ verdict_of (judged (values_of form s)) → (buf : List ℕ) → left (by_verdict v λ _. good s) buf ≡ left (judged_file file) buf
    draft-left s v e q buf =
        ap (λ (x : Verdict). left (by_verdict x λ _. good s) buf) q
        ∙ ap (λ (j : Judged (List ℕ)). left j buf) (told (judged (values_of form s)) ∙ ap judged_file e ∙ sym draft-judged)
      where
        told : (j : Judged A) → by_verdict (verdict_of j) (λ _. good s) ≡ file_judged s j
        told (good a) = refl
        told (bad r) = refl

-- ---- in a buffer, and in an array of k bytes

pub record InDraft (bs : List ℕ) (r : ℕ) (out : List ℕ) : Type 0 where
  pub fits : r ≤ length out
  pub front : take r out ≡ bs

pub in_buffer : (b bs : List ℕ) (r : ℕ) (out : List ℕ) → length bs ≤ length b → Put b 0 bs r out → InDraft bs r out
in_buffer b bs r out l t =
    let q : r ≡ length bs = omega (arith, t.place) in
    let e : out ≡ bs ++ drop (length bs) b = t.bytes ∙ sets-eq bs b 0 (omega arith) ∙ rw (zero-add (length bs)) refl in
    record { fits = omega (arith, put-length t); front = rw (q, e) (take-append_seam bs (drop (length bs) b)) }

pub in_array : (k : ℕ) (bs : List ℕ) (r : ℕ) (out : List ℕ) → length bs ≤ k → Put (replicate k 0) 0 bs r out → InDraft bs r out
in_array k bs r out l t = in_buffer (replicate k 0) bs r out (omega (arith, length-replicate {A = ℕ} k 0)) t
