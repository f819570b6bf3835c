-- The chain of a start file as the code holds it: its edges in one array as they stand in the file, the boxes taken out of it, and the frame of each
-- box's table. What the reader answers is meaning's `on_chain`. Definitions alone.
use Rattle.std.specs.Prelude.{ℕ, zero, suc, ◌+◌, ◌*◌, ◌≤◌, ◌≡◌, Bool, true, false, ◌&&◌, List, [], ◌∷◌, ℤ, pos, drop, Ok, Err, Result}
use Rattle.laws.specs.Lists.{at, tab, padded}
use Rattle.laws.specs.Tabs.{Filled}
use Rattle.meaning.specs.Answers.{Walk}
use Rattle.meaning.specs.declared.Refusal.{Refusal}
use Rattle.meaning.specs.Boxes.{within}
use Rattle.meaning.specs.Files.{end, Read, refused, values_at, values_of}
use Rattle.meaning.specs.Plants.{edge_limit, span, times, column}
use Rattle.meaning.specs.Starts.{chain_form, above, on_chain}
use Rattle.files.specs.Parts.{behind, Holds, Fails}
use Rattle.files.specs.declared.bounds.Sides.{Sides}
use Rattle.tables.specs.declared.chains.Chain.{Chain}
use Rattle.tables.specs.declared.frames.Frame.{Frame}
use Rattle.tables.specs.Boxes.{box_of}
use Rattle.tables.specs.Frames.{box_from, FrameSound}

-- as many boxes above R, and as many of their edges, as there may be
abbrev pub most_above : ℕ
most_above = 8

abbrev pub most_edges : ℕ
most_edges = 64

-- ---- what was read

-- of a chain's values those behind form and m, zeros behind them
abbrev pub edges_above : List ℤ → List ℤ
edges_above vs = padded most_edges (pos 0) (drop 2 vs)

-- the values of a chain of m boxes that has these edges
abbrev pub values_in : ℕ → List ℤ → List ℤ
values_in m edges = pos 1 ∷ pos m ∷ edges

-- a chain, or what it is refused with
abbrev pub ChainRead : Type 0
ChainRead = Result Chain Refusal

abbrev pub no_chain : Refusal → ChainRead
no_chain e = Err e

abbrev pub chain_with : List ℤ → ℕ → ChainRead
chain_with vs next = Ok (record { m = above vs; next = next; edges = edges_above vs })

-- of a whole file, behind which nothing may stand, or of a start file's beginning
abbrev pub chain_values : Bool → ℕ → List ℕ → Read (List ℤ)
chain_values true n s = values_of (chain_form n) s
chain_values false n s = values_at (chain_form n) s 0

-- what the reader answers: the frame says n, R and S
abbrev pub chain_read : Bool → Frame → List ℕ → ChainRead
chain_read whole f s = on_chain f.n (box_of f.n f.root) (box_of f.n f.safe) (chain_values whole f.n s) no_chain chain_with

-- ---- boxes and frames taken out of it

-- the i-th box above R, from 0; and Ri, R being root
abbrev pub box_on : ℕ → List ℤ → ℕ → Sides
box_on n edges i = box_from (column edges (2 * (i * n)) 2 n) (column edges (2 * (i * n) + 1) 2 n)

abbrev pub bx_at : ℕ → Sides → List ℤ → ℕ → Sides
bx_at n root edges zero = root
bx_at n root edges (suc i) = box_on n edges i

-- the box that the patterns of Ri's table end in
abbrev pub bx_below : ℕ → Sides → List ℤ → ℕ → Sides
bx_below n root edges zero = root
bx_below n root edges (suc i) = bx_at n root edges i

-- a plant's frame with Ri as the box that is tiled, and the box below as the one that patterns end in
abbrev pub frame_at : Frame → List ℤ → ℕ → Frame
frame_at f edges i = record {
  form = f.form;
  n = f.n;
  modes = f.modes;
  q = f.q;
  k = f.k;
  d = f.d;
  root = bx_at f.n f.root edges i;
  goal = bx_below f.n f.root edges i;
  safe = f.safe;
}

-- what is asked of the frames of all tables, R0's to Rm's
pub record FramesSound (f : Frame) (edges : List ℤ) (m : ℕ) : Type 0 where
  pub rooms : f.n ≤ 4
  pub few : m ≤ most_above
  pub each : (i : ℕ) → i ≤ m → FrameSound (frame_at f edges i)

-- a box holds the one below it and lies in S
abbrev pub keeps : ℕ → Sides → Sides → Sides → Bool
keeps n below b safe = within (box_of n below) (box_of n b) && within (box_of n b) (box_of n safe)

-- ---- its parts: form and m, then the edges, two by two

pub record Headed (s : List ℕ) (m next : ℕ) : Type 0 where
  pub few : m ≤ most_above
  pub goes : (n : ℕ) → values_at (chain_form n) s 0 ≡ behind (pos 1 ∷ pos m ∷ []) (values_at (times (m * n) (span edge_limit) end) s next)

abbrev pub HeadTold : List ℕ → Result (ℕ × ℕ) Refusal → Type 0
HeadTold s (Ok (m, next)) = Headed s m next
HeadTold s (Err e) = (n : ℕ) → values_at (chain_form n) s 0 ≡ refused e

pub record EdgesRead (s : List ℕ) (from count : ℕ) (edges : List ℤ) (next : ℕ) : Type 0 where
  pub part : Holds (times count (span edge_limit)) s from (tab (at edges) (2 * count) 0) next
  pub filled : Filled most_edges (2 * count) edges

abbrev pub EdgesTold : List ℕ → ℕ → ℕ → List ℤ → Walk → Type 0
EdgesTold s from count edges (Ok next) = EdgesRead s from count edges next
EdgesTold s from count edges (Err e) = Fails (times count (span edge_limit)) s from e
