-- `tiles::tile_rule`: the rule from the present box on, over the modes that are left, is the whole. Assumes nothing.
use mathlib.Core.Path.{◌≡◌}
use Prim.Native.Nat.{◌≤◌, ◌-◌}
use Rattle.laws.specs.Lists.{tab}
use Rattle.meaning.specs.Plants.{edge_limit}
use Rattle.meaning.specs.Rules.{rule, rule_from}
use Rattle.tables.specs.Boxes.{box_of, Small}
use Rattle.tables.specs.Frames.{frame_from, rules_in}
use Rattle.tables.specs.Tiles.{mode_at, pattern_of}
use Rattle.tables.proofs.tiles.tile_rule.Given as goal

abbrev pub invariant-loop-i : goal.invariant-loop-i
invariant-loop-i l =
    (l.i ≤ l.k) × Small edge_limit (box_of l.f.n l.c)
    × (rule_from (rules_in (frame_from l.f l.edges) l.bands l.coef) l.i (box_of l.f.n l.c) (tab (mode_at l.us) (l.k - l.i) l.i) ≡ rule (rules_in (frame_from l.f l.edges) l.bands l.coef) (box_of l.f.n l.initial.c) (pattern_of l.k l.us))
