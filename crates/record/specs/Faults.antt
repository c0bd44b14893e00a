-- The numbers and places of faults.
--   field_place, part_place   where a field of the head, or a part's pair, stands
--   fault_number, fault_place  a fault's number and place
--   found_of                  both
--   refused_line              what is printed of them: `refused`, the number and the place, one blank between
use Rattle.std.specs.Prelude.{ℕ, List, ◌++◌, codes, decimal}
use Rattle.format.specs.Requirements.{Found, found}
use Rattle.record.specs.declared.fault.HeadField.{HeadField}
use Rattle.record.specs.declared.fault.HeadField.TheVariants.{Mark, SecondMark, Version, Byte3, FirstEntrant, SecondEntrant, Verdict, Byte7, Limit, PairCount}
use Rattle.record.specs.declared.fault.Part.{Part}
use Rattle.record.specs.declared.fault.Part.TheVariants.{Text, Turns, Lefts}
use Rattle.record.specs.declared.fault.Fault.{Fault}
use Rattle.record.specs.declared.fault.Fault.TheVariants.{Short, Head, Pair, Reading, Left}

abbrev pub field_place : HeadField → ℕ
field_place Mark = 0
field_place SecondMark = 1
field_place Version = 2
field_place Byte3 = 3
field_place FirstEntrant = 4
field_place SecondEntrant = 5
field_place Verdict = 6
field_place Byte7 = 7
field_place Limit = 8
field_place PairCount = 10

abbrev pub part_place : Part → ℕ
part_place Text = 12
part_place Turns = 20
part_place Lefts = 28

abbrev pub fault_number : Fault → ℕ
fault_number (Short n) = 11
fault_number (Head f) = 11
fault_number (Pair p) = 12
fault_number (Reading p) = 13
fault_number (Left p) = 13

abbrev pub fault_place : Fault → ℕ
fault_place (Short n) = n
fault_place (Head f) = field_place f
fault_place (Pair p) = part_place p
fault_place (Reading p) = p
fault_place (Left p) = p

abbrev pub found_of : Fault → Found
found_of f = found (fault_number f) (fault_place f)

abbrev pub refused_line : Found → List ℕ
refused_line f = codes "refused " ++ (decimal f.number ++ (codes " " ++ decimal f.place))
