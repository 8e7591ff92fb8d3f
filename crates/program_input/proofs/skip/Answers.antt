use Rattle.std.proofs.Common.{sym, ap, ◌∙◌, arith}
use Rattle.std.specs.Slice.Iter.{chunks_exact_rest, chunks_exact_size}
use Rattle.byte_slices.specs.Counts.{count_of}
use Rattle.byte_slices.proofs.Parts.{part_is, rest_is, part_within}
use Rattle.program_input.proofs.Laws.{begun, leap}
use Rattle.program_input.proofs.skip.Goals as goal

pub loop-part-init : goal.loop-part-init
loop-part-init c =
    let i = c.into_iter-part-iterator.ensures.into_iter_gives in
    let p = c.chunks_exact-part-items.ensures in
    (omega (arith, ap chunks_exact_size i ∙ p.size), tt, ap chunks_exact_size i ∙ p.size, sym (ap chunks_exact_rest i ∙ p.rest), begun _)

pub overflow_add-at : goal.overflow_add-at
overflow_add-at c =
    let i = c.loop-part.invariant in
    let s = c.in-Some.ensures.steps in
    omega (arith, part_within c.args.s.now c.in-Some.part.now _ c.loop-part.at 128 (i.3 ∙ s.1.0) (s.1.1 ∙ i.2) i.4.within)

pub loop-part-preserved : goal.loop-part-preserved
loop-part-preserved c =
    let i = c.loop-part.invariant in
    let s = c.in-Some.ensures.steps in
    let text = c.args.s.now in
    let at = c.loop-part.at in
    let e = i.3 ∙ s.1.0 in
    let l = s.1.1 ∙ i.2 in
    let size = s.0 ∙ i.2 in
    let within = part_within text c.in-Some.part.now _ at 128 e l i.4.within in
    let count = c.count_in.ensures.0 ∙ ap (count_of 61) (part_is text c.in-Some.part.now _ at 128 e l) in
    (omega (arith, size), tt, size, sym (rest_is text c.in-Some.part.now _ at 128 e l), leap text 128 at i.4 within (omega (arith, count)))
