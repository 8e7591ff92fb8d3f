use native.Mathlib.Omega.{arith}
use Rattle.row_pairs.proofs.Raising.{overall-none, overall-more, overall-end, marks-raised}
use Rattle.row_pairs.proofs.raise_marks.Goals as goal

pub loop-c-init : goal.loop-c-init
loop-c-init c = overall-none _ _

pub raise_guards-requires : goal.raise_guards-requires
raise_guards-requires c =
    let v = c.loop-c.invariant in
    (omega arith, c.requires.1, omega (arith, c.requires.2), c.requires.3, omega (arith, v.long, c.requires.4), v.good c.requires.5)

pub raise_reads-requires : goal.raise_reads-requires
raise_reads-requires c =
    let v = c.loop-c.invariant in
    let g = c.raise_guards.ensures in
    (omega arith, c.requires.1, omega (arith, c.requires.2), c.requires.3, omega (arith, v.long, c.requires.4, g.long), g.good (v.good c.requires.5))

pub loop-c-preserved : goal.loop-c-preserved
loop-c-preserved c = overall-more _ c.loop-c.invariant (marks-raised _ _ _ c.raise_guards.ensures c.raise_reads.ensures)

pub returns : goal.returns
returns c = overall-end _ _ (omega arith) c.loop-c.invariant
