-- A start file that keeps its rules: the plant was judged good, the chain was read and keeps 15, and behind it stands a table for each box, each accepted
-- for it by the form that it says. Definitions alone; that the checker accepts just these files is page Accepted.
use Rattle.std.specs.Prelude.{ℕ, ◌+◌, ◌<◌, ◌≡◌, true, List, [], ℤ, length, get_or, Ok}
use Rattle.laws.specs.Lists.{tab, all}
use Rattle.meaning.specs.Files.{read, values_at, good}
use Rattle.meaning.specs.Plants.{Plant, plant_judged, root_of, safe_of}
use Rattle.meaning.specs.Starts.{chain_form, above, held, box_rules, start_of}
use Rattle.meaning.specs.Tables.{form_of}
use Rattle.meaning.specs.Verdicts.{verdict}

pub record Started (plant start : List ℕ) : Type 0 where
  pub p : Plant
  pub judged : plant_judged plant ≡ good p
  -- the values of the chain, and the place behind it
  pub vs : List ℤ
  pub next : ℕ
  pub chain : values_at (chain_form p.n) start 0 ≡ read vs next
  -- each box holds the one before and lies in S
  pub kept : all (tab (held p.n (root_of p) vs (safe_of p)) (above vs) 0) ≡ true
  -- the tables
  pub tables : List (List ℕ)
  pub count : length tables ≡ above vs + 1
  pub each : (i : ℕ) → i < length tables → verdict (box_rules p vs i (form_of (get_or tables i []))) (get_or tables i []) ≡ Ok tt
  pub is : start ≡ start_of p.n vs tables
