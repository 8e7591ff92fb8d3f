use mathlib.Core.Path.{◌≡◌, refl}
use native.Mathlib.Omega.{arith}
use Rattle.std.specs.Prelude.{Err}
use Rattle.log_steps.specs.declared.LogRefusal.TheVariants.{Step}
use Rattle.logs.proofs.Running.{runs_none, runs-end, readable, few-places, within, refused-line}
use Rattle.logs.proofs.Running.{buildable, can-play, refused-step, goes_on}
use Rattle.logs.proofs.play_log.Goals as goal

pub loop-at-init : goal.loop-at-init
loop-at-init c =
    (omega arith, record { step = refl; long = refl; wide = refl; places = refl; transitions = refl; runs = runs_none _ c.requires.line })

pub judge_line-line-requires : goal.judge_line-line-requires
judge_line-line-requires c =
    let g = c.loop-at.invariant.1 in
    rw c.position.ensures
    (c.loop-at-test.true, c.ended_to-ended.ensures, readable c.requires g, few-places c.requires g, within c.requires g)

pub returns-in_err-count : goal.returns-in_err-count
returns-in_err-count c =
    let gone : c.from_residual.result ≡ Err (Step c.in_err-count.field-0.0) = grind arith in
    rw gone (refused-line c.requires c.loop-at.invariant.1 _ (rw c.position.ensures at c.judge_line-line.ensures) c.in_err-count.was)

pub build_step-requires : goal.build_step-requires
build_step-requires c = buildable c.requires c.loop-at.invariant.1 (rw c.position.ensures at c.judge_line-line.ensures) c.in_ok-count.was

pub returns-in_err-run : goal.returns-in_err-run
returns-in_err-run c =
    let gone : c.from_residual-in_err-run.result ≡ Err c.in_err-run.field-0.0 = grind arith in
    rw gone (refused-step c.requires c.loop-at.invariant.1 (rw c.position.ensures at c.judge_line-line.ensures) c.in_ok-count.was _ c.in_err-run.ensures)

pub play-requires : goal.play-requires
play-requires c =
    let d = rw c.position.ensures at c.judge_line-line.ensures in
    let g = c.in_ok-count.was in
    ((buildable c.requires c.loop-at.invariant.1 d g).step, can-play c.requires c.loop-at.invariant.1 d g)

pub loop-at-smaller : goal.loop-at-smaller
loop-at-smaller c = omega (arith, c.judge_line-line.ensures.found)

pub loop-at-preserved : goal.loop-at-preserved
loop-at-preserved c = (
  c.judge_line-line.ensures.found.within,
  goes_on c.requires c.loop-at.invariant.1 (rw c.position.ensures at c.judge_line-line.ensures) c.in_ok-count.was c.in_ok-run.ensures c.play.ensures,
)

pub returns : goal.returns
returns c =
    let g = c.loop-at.invariant.1 in
    record { answers = runs-end _ g.runs c.loop-at.run c.loop-at-test.false; long = g.long }
