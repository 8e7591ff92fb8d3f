-- `number_lines::numbers` meets its contract. The loop's invariant, `Filled`: the array begins with the numbers of the fields that
-- came, and those of the fields that are left are to come.
use mathlib.Core.List.{map}
use Rattle.line_forms.specs.Rows.{value_of, values_of}
use Rattle.fields.specs.Left.{fields_left}
use Rattle.number_lines.proofs.Lines.{Filled}
use Rattle.number_lines.proofs.numbers.Given as goal

abbrev pub invariant-loop-i : goal.invariant-loop-i
invariant-loop-i l =
    (goal.iterator-loop-i).can_next l.i-iterator × (goal.iterator-loop-i).is_finite l.i-iterator
    × Filled (values_of 4 l.l) l.xs l.i-iterator.count (map value_of (fields_left l.i-iterator.iter))
