use Rattle.std.proofs.Common.{sym, ap, ◌∙◌, arith}
use Rattle.std.specs.Slice.Iter.{chunks_exact_rest, chunks_exact_size}
use Rattle.byte_slices.specs.Counts.{count_of}
use Rattle.byte_slices.proofs.Parts.{part_is, rest_is, part_within}
use Rattle.refused_lines.proofs.Laws.{begun, leap}
use Rattle.refused_lines.proofs.skip.Goals as goal

pub loop-part-init : goal.loop-part-init
loop-part-init c =
    let i = c.into_iter-part-iterator.ensures.into_iter_gives in
    let p = c.chunks_exact-part-items.ensures in
    let s = ap chunks_exact_size i ∙ p.size in
    (omega arith, tt, s, sym (ap chunks_exact_rest i ∙ p.rest), omega arith, begun _ _ c.requires)

pub loop-part-preserved : goal.loop-part-preserved
loop-part-preserved c =
    let i = c.loop-part.invariant in
    let s = c.in-Some.ensures.steps in
    let text = c.args.text.now in
    let at = c.loop-part.at in
    let e = i.3 ∙ s.1.0 in
    let l = s.1.1 ∙ i.2 in
    let size = s.0 ∙ i.2 in
    let within = part_within text c.in-Some.part.now _ at 128 e l i.4 in
    let count = c.count_in-c.ensures.0 ∙ ap (count_of 10) (part_is text c.in-Some.part.now _ at 128 e l) in
    (omega arith, tt, size, sym (rest_is text c.in-Some.part.now _ at 128 e l), within, leap text c.args.line c.loop-part.left at i.5 _ within count (omega arith))
