use Prim.Native.Nat.{◌+◌}
use native.Mathlib.Omega.{arith}
use lib.Dec.{lit<}
use Rattle.spec.specs.declared.Class.TheVariants.{LineEnd}
use Rattle.byte_entries.proofs.Scans.{first-of-class}
use Rattle.lines.specs.Lines.{RawLineAt, span_to}
use Rattle.lines.proofs.Lines.{line-found}
use Rattle.refused_lines.proofs.Laws.{no_line, ended, here, turn}
use Rattle.refused_lines.proofs.find_line.Goals as goal
use Rattle.refused_lines.proofs.find_line.Goals.{After-end_of-at}

pub returns-then-line-eq0 : goal.returns-then-line-eq0
returns-then-line-eq0 c = no_line _ _ c.if-line-eq0.true

pub skip-left-requires : goal.skip-left-requires
skip-left-requires c = omega (arith, c.if-line-eq0.false)

pub loop-at-init : goal.loop-at-init
loop-at-init c = c.skip-left.ensures

pub line_at-l-requires : goal.line_at-l-requires
line_at-l-requires c = c.loop-at-test.true

pub returns-then-left-eq0 : goal.returns-then-left-eq0
returns-then-left-eq0 c = here _ _ _ _ c.loop-at.invariant _ c.loop-at-test.true c.line_at-l.ensures c.if-left-eq0.true

pub end_of-at-requires : goal.end_of-at-requires
end_of-at-requires c = omega (arith, c.loop-at-test.true)

pub overflow_sub-left : goal.overflow_sub-left
overflow_sub-left c = omega (arith, c.if-left-eq0.false)

-- what is passed: the line up to its line end
passed : (c : After-end_of-at) → let s = c.args.text.now in
    RawLineAt s c.loop-at.at (span_to s c.end_of-at.result (c.end_of-at.result + 1))
passed c = let e = c.end_of-at.ensures in line-found _ _ _ c.loop-at-test.true (first-of-class LineEnd (lit< tt) _ _ _ e.0) e.1

pub overflow_add-at : goal.overflow_add-at
overflow_add-at c = omega (arith, c.end_of-at.ensures.1)

pub loop-at-smaller : goal.loop-at-smaller
loop-at-smaller c = let l = passed (goal.at.loop-at-smaller c).After-end_of-at in omega (arith, l.start, l.end)

pub loop-at-preserved : goal.loop-at-preserved
loop-at-preserved c = turn _ _ _ _ c.loop-at.invariant _ c.loop-at-test.true (passed (goal.at.loop-at-preserved c).After-end_of-at) c.if-left-eq0.false

pub returns : goal.returns
returns c = ended _ _ _ _ c.loop-at.invariant c.loop-at-test.false
