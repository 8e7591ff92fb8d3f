-- `program_input::part_input` meets its contract. The loop's invariant: no line `=` starts before `at` (`Running`); where
-- one starts there the input is parted, and at the end it has none.
use Rattle.program_input.specs.Parts.{Running}
use Rattle.program_input.proofs.part_input.Given as goal

abbrev pub invariant-loop-at : goal.invariant-loop-at
invariant-loop-at l = Running l.input l.at
