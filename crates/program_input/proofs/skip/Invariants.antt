-- `program_input::skip` meets its contract. The loop's invariant: no line `=` starts before `at` (`Running`), since none
-- starts among bytes that are not `=`, and what is left of the text is cut.
use Rattle.std.proofs.Common.{◌≡◌, drop}
use Rattle.std.specs.Slice.Iter.{chunks_exact_rest, chunks_exact_size}
use Rattle.program_input.specs.Parts.{Running}
use Rattle.program_input.proofs.skip.Given as goal

abbrev pub invariant-loop-part : goal.invariant-loop-part
invariant-loop-part l =
    (goal.iterator-loop-part).can_next l.part-iterator × (goal.iterator-loop-part).is_finite l.part-iterator
    × (chunks_exact_size l.part-iterator ≡ 128) × (drop l.at l.s ≡ chunks_exact_rest l.part-iterator) × Running l.s l.at
