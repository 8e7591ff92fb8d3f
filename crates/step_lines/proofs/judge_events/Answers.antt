-- The first part that refuses is the definitions' too; where none does, the line is enabled.
use Prim.Native.Nat.{◌+◌, ◌≤◌}
use mathlib.Core.Path.{◌≡◌}
use native.Mathlib.Omega.{arith}
use Rattle.std.specs.Prelude.{Err}
use Rattle.step_lines.proofs.Lines.{line-unread, line-uncounted, line-barred, line-judged, count_fits}
use Rattle.step_lines.proofs.judge_events.Goals as goal
use Rattle.step_lines.proofs.judge_events.Goals.{In_ok-count_step}

pub returns-in_err-count : goal.returns-in_err-count
returns-in_err-count c l R N mk A q H =
    let gone : c.from_residual.result ≡ Err c.in_err-count.field-0.0 = grind arith in
    rw gone (line-unread c.args.x (rw c.in_err-count.was at R) N mk q)

pub returns-in_err-count_step : goal.returns-in_err-count_step
returns-in_err-count_step c l R N mk A q H =
    let gone : c.from_residual-in_err-count_step.result ≡ Err c.in_err-count_step.field-0.0 = grind arith in
    rw gone (line-uncounted (rw c.in_ok-count.was at R) N mk q _ c.in_err-count_step.ensures)

-- so many events fit
fits : (c : In_ok-count_step) → c.args.x.events + c.in_ok-count.count ≤ 128
fits c = count_fits c.args.x _ c.requires.0 c.in_ok-count_step.ensures

pub judge-requires : goal.judge-requires
judge-requires c = let F = fits c in ((rw c.in_ok-count.was at c.requires.3) (omega (arith, F)), c.requires.1, c.requires.2)

pub returns-in_err-judge : goal.returns-in_err-judge
returns-in_err-judge c l R N mk A q H = let F = fits (goal.at.returns-in_err-judge c).In_ok-count_step in
    let gone : c.from_residual-in_err-judge.result ≡ Err c.in_err-judge.field-0.0 = grind arith in
    rw gone (line-barred (rw c.in_ok-count.was at R) N mk q F c.requires.0 A H _ c.in_err-judge.ensures)

pub returns : goal.returns
returns c l R N mk A q H = let F = fits (goal.at.returns c).In_ok-count_step in
    line-judged (rw c.in_ok-count.was at R) N mk q F c.requires.0 A H c.in_ok-judge.ensures
