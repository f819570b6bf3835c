-- To unfold `computing` is to unfold every definition of document 01's meaning that answers something: for worked lines, which the checker computes.
use Rattle.laws.specs.Lists.{tab, tabs, all, first_false}
use Rattle.meaning.specs.Numbers.{groups_at, groups_of}
use Rattle.meaning.specs.Files.{little, low_first, values_at, file_of}
use Rattle.meaning.specs.Boxes.{fits, lies, in_front, pieces, any_long, children, furthest, halved, longest_halved}
use Rattle.meaning.specs.Images.{dot, reached_all, extreme, image}
use Rattle.meaning.specs.Plants.{times, edges, bands, row, headed, modes_own, modes_alike, plant_form, plant_of, numbers_of, wide_modes, plant_judged, plant_left}
use Rattle.meaning.specs.Rules.{rule_from}
use Rattle.meaning.specs.Trees.{modes_bytes, layout, longest, tiles_of}
use Rattle.meaning.specs.Verdicts.{lengths_at, each, modes_at, walk, header, verdict}
use Rattle.meaning.specs.Defined.{first_mode, all_of, exactly, shortest, tree_of}
use Rattle.meaning.specs.Control.{past_file, among, find, call}
use Rattle.meaning.specs.Tables.{checked, made, maker_left, controlled}
use Rattle.meaning.specs.Relays.{trees_at, tree_at, relayed, relay_left}
use Rattle.meaning.specs.Starts.{chain_form, parts_of, tables_at, start_checked, tables_from, start_made, start_left, on_part, start_controlled}
use Rattle.meaning.specs.Sheets.{finite, room_form, sheet_form, rooms_of, sheet_of, sheet_values, sum_from, coefficient, emitters, offset, whole_of, units_of, largest_edge, widening, made_numbers, sheet_judged, sheet_left, made_left}
use Rattle.std.specs.Float.Ieee.{add, sub, mul, lt, of_bits, to_bits}

unfoldable pub computing : Unit {0}
unfolding tab tabs all first_false groups_at groups_of little low_first values_at file_of fits lies in_front pieces any_long children furthest halved longest_halved dot reached_all extreme image times edges bands row headed modes_own modes_alike plant_form plant_of numbers_of wide_modes plant_judged plant_left rule_from modes_bytes layout longest tiles_of lengths_at each modes_at walk header verdict first_mode all_of exactly shortest tree_of past_file among find call checked made maker_left controlled trees_at tree_at relayed relay_left chain_form parts_of tables_at start_checked tables_from start_made start_left on_part start_controlled finite room_form sheet_form rooms_of sheet_of sheet_values sum_from coefficient emitters offset whole_of units_of largest_edge widening made_numbers sheet_judged sheet_left made_left add sub mul lt of_bits to_bits
computing = tt
