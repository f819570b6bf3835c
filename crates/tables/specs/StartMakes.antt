-- What the start file's maker leaves in a buffer: a table behind its length, those of all boxes, and the whole file. Definitions alone.
use Rattle.std.specs.Prelude.{ℕ, ◌+◌, ◌≤◌, ◌≡◌, List, ◌++◌, ℤ, length, Ok, Err}
use Rattle.std.proofs.Math.Option.{Option}
use Rattle.laws.specs.Writing.{Put}
use Rattle.laws.specs.Guards.{guard}
use Rattle.meaning.specs.Answers.{Walk}
use Rattle.meaning.specs.Buffers.{Left, left}
use Rattle.meaning.specs.Defined.{map_some, defined_tree}
use Rattle.meaning.specs.Files.{Judged, good, bad, values_of}
use Rattle.meaning.specs.Numbers.{bytes_of}
use Rattle.meaning.specs.Refusals.{wrong_form}
use Rattle.meaning.specs.Rules.{Rules}
use Rattle.meaning.specs.Starts.{chain_form, above, box_at, box_below, on_chain, parts_of, tables_from, start_bytes}
use Rattle.meaning.specs.Tables.{known_form, rules_from}
use Rattle.meaning.specs.Trees.{table_of}
use Rattle.tables.specs.declared.frames.Frame.{Frame}
use Rattle.tables.specs.Boxes.{box_of}
use Rattle.tables.specs.Chains.{frame_at}
use Rattle.tables.specs.Frames.{formed, step_in, rules_in, PlantSound}

-- a table behind its length
abbrev pub with_length : List ℕ → List ℕ
with_length t = bytes_of (length t) ++ t

-- the defined table of some rules so, where there is one
abbrev pub part_bytes : Rules → Option (List ℕ)
part_bytes r = map_some (λ t. with_length (table_of r t)) (defined_tree r)

-- The tables that are asked for, or 9: what was answered, and the buffer as it is left. At 9 the bytes in it are left open, for the maker zeros them.
abbrev pub WroteParts : Judged (List (List ℕ)) → List ℕ → ℕ → Walk → List ℕ → Type 0
WroteParts (good ts) buf at (Ok next) out = Put buf at (parts_of ts) next out
WroteParts (good ts) buf at (Err e) out = ⊥
WroteParts (bad e) buf at (Ok next) out = ⊥
WroteParts (bad e) buf at (Err f) out = (f ≡ e) × (length out ≡ length buf)

-- the rules of Ri's table, and the tables of R0..Rm, as the code has them: by frames
abbrev pub frames_rules : Frame → List ℤ → List ℤ → List ℤ → ℕ → Rules
frames_rules f bands coef edges i = rules_in (frame_at f edges i) bands coef

abbrev pub frames_tables : Frame → List ℤ → List ℤ → List ℤ → ℕ → Judged (List (List ℕ))
frames_tables f bands coef edges m = tables_from (frames_rules f bands coef edges) (m + 1) 0

abbrev pub FramesSound : Frame → List ℤ → List ℤ → List ℤ → ℕ → Type 0
FramesSound f bands coef edges m = (i : ℕ) → i ≤ m → PlantSound (frame_at f edges i) bands coef

-- the file: the chain's bytes, then the tables
abbrev pub behind_chain : List ℕ → Judged (List (List ℕ)) → Judged (List ℕ)
behind_chain chain (bad e) = bad e
behind_chain chain (good ts) = good (chain ++ parts_of ts)

-- ---- the same by the chain's values, as meaning has it; a plant's own frame gives meaning's own

abbrev pub values_rules : Frame → List ℤ → List ℤ → List ℤ → ℕ → Rules
values_rules f bands coef vs i =
    let root = box_of f.n f.root in
    rules_from f.form f.n f.modes f.k f.d (box_at f.n root vs i) (box_below f.n root vs i) (box_of f.n f.safe) (step_in f bands coef)

abbrev pub chain_made : Frame → List ℤ → List ℤ → List ℕ → ℕ → Judged (List ℕ)
chain_made f bands coef chain form =
    on_chain f.n (box_of f.n f.root) (box_of f.n f.safe) (values_of (chain_form f.n) chain) bad λ vs _.
    guard (known_form form) (bad wrong_form) λ _.
    start_bytes f.n vs (tables_from (values_rules (formed f form) bands coef vs) (above vs + 1) 0)

abbrev pub chain_left : Frame → List ℤ → List ℤ → List ℕ → ℕ → List ℕ → Left
chain_left f bands coef chain form buf = left (chain_made f bands coef chain form) buf
