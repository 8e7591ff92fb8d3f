-- What accepting promises is what judging the lines and writing the rows rely on.
use Rattle.std.proofs.Common.{Err, refl}
use Rattle.accepting.proofs.Accepting.{at-bench, taken}
use Rattle.accepting.proofs.Fresh.{fresh-net, fresh-record, fresh}
use Rattle.record_columns.proofs.Answers.{err-is}
use Rattle.replaying.proofs.Operation.{short-replays, refused-replays, judge-room, refused-lines, playable, played-lines}
use Rattle.replaying.proofs.replay.Goals as goal

pub returns-then-out-lt-ROWS : goal.returns-then-out-lt-ROWS
returns-then-out-lt-ROWS c = short-replays _ _ _ _ c.if-out-lt-ROWS.true

pub accept-requires : goal.accept-requires
accept-requires c = (c.bench.ensures.1, fresh-net, fresh-record, fresh)

pub returns-in_err-accepted : goal.returns-in_err-accepted
returns-in_err-accepted c = rw (err-is _ c.from_residual.ensures.1) (refused-replays _ _ _ _ c.if-out-lt-ROWS.false c.accept.new.w _ (at-bench _ _ (Err c.in_err-accepted.field-0.0) c.accept.new.w c.bench.ensures.0 c.in_err-accepted.ensures.1))

pub judge_lines-requires : goal.judge_lines-requires
judge_lines-requires c = let r = judge-room (taken c.bench.ensures.0 c.in_ok-accepted.ensures) in (r.0, r.1, refl)

pub returns-in_err-lines : goal.returns-in_err-lines
returns-in_err-lines c =
    rw (err-is _ c.from_residual-in_err-lines.ensures.1) (refused-lines (taken c.bench.ensures.0 c.in_ok-accepted.ensures) _ _ c.if-out-lt-ROWS.false _ c.in_err-lines.ensures)

pub put_rows-requires : goal.put_rows-requires
put_rows-requires c =
    (c.if-out-lt-ROWS.false, playable (taken c.bench.ensures.0 c.in_ok-accepted.ensures) _ c.args.out.now c.if-out-lt-ROWS.false _ c.in_ok-lines.ensures c.bytes_at-trans.ensures)

pub returns : goal.returns
returns c =
    played-lines (taken c.bench.ensures.0 c.in_ok-accepted.ensures) _ _ c.if-out-lt-ROWS.false _ c.in_ok-lines.ensures c.bytes_at-trans.ensures c.put_rows.ensures
