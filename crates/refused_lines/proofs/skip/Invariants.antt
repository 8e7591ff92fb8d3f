-- `refused_lines::skip` meets its contract. The loop's invariant: the line sought is the one in front of which `left`
-- line ends stand from `at` on (`Running`), and what is left of the text is cut. 128 bytes with fewer line ends than are left
-- cannot hold its start.
use Rattle.std.proofs.Common.{◌≡◌, ◌≤◌, length, drop}
use Rattle.std.specs.Slice.Iter.{chunks_exact_rest, chunks_exact_size}
use Rattle.refused_lines.specs.Shown.{Running}
use Rattle.refused_lines.proofs.skip.Given as goal

abbrev pub invariant-loop-part : goal.invariant-loop-part
invariant-loop-part l =
    (goal.iterator-loop-part).can_next l.part-iterator × (goal.iterator-loop-part).is_finite l.part-iterator
    × (chunks_exact_size l.part-iterator ≡ 128) × (drop l.at l.text ≡ chunks_exact_rest l.part-iterator) × (l.at ≤ length l.text)
    × Running l.text l.line l.left l.at
