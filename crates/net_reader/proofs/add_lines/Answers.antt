use mathlib.Core.Path.{◌≡◌}
use native.Mathlib.Omega.{arith}
use Rattle.std.specs.Prelude.{Err}
use Rattle.spec.specs.Net.{add_line}
use Rattle.lines.proofs.ByLines.{begun}
use Rattle.net.proofs.Answers.{fits}
use Rattle.net_reader.proofs.Reading.{zeros, added-on, added-no, added-all}
use Rattle.net_reader.proofs.add_lines.Goals as goal

pub loop-at-init : goal.loop-at-init
loop-at-init c = (omega arith, omega arith, begun add_line _ (zeros c.requires))

pub add_at-requires : goal.add_at-requires
add_at-requires c = (omega arith, c.ended_to-ended.ensures, fits c.loop-at.invariant.2.holds)

pub returns-in_err-took : goal.returns-in_err-took
returns-in_err-took c =
    let gone : c.from_residual.result ≡ Err c.in_err-took.field-0.0 = grind arith in
    rw gone (added-no c.loop-at.invariant.2 c.in_err-took.ensures)

pub loop-at-smaller : goal.loop-at-smaller
loop-at-smaller c = let t = c.in_ok-took.ensures in omega (arith, t.on, t.found.on, t.found.within)

pub loop-at-preserved : goal.loop-at-preserved
loop-at-preserved c = let t = c.in_ok-took.ensures in
    (omega (arith, t.on, t.found.within), omega (arith, t.on, t.found.on), added-on c.loop-at.invariant.2 t)

pub returns : goal.returns
returns c = added-all c.loop-at.invariant.2 c.loop-at-test.false
