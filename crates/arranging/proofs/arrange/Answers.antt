-- What accepting promises of the rows is what the lines need.
use Rattle.std.specs.Prelude.{Ok, Err}
use Rattle.record_columns.proofs.Answers.{err-is}
use Rattle.accepting.proofs.Accepting.{at-bench}
use Rattle.accepting.proofs.Fresh.{fresh-net, fresh-record, fresh}
use Rattle.arranging.proofs.Operation.{short-arranges, refused-arranges, given-ready, given-arranges}
use Rattle.arranging.proofs.arrange.Goals as goal

pub returns-then-out-lt-BUFFER : goal.returns-then-out-lt-BUFFER
returns-then-out-lt-BUFFER c = short-arranges _ _ _ c.if-out-lt-BUFFER.true

pub accept-requires : goal.accept-requires
accept-requires c = (c.bench.ensures.1, fresh-net, fresh-record, fresh)

pub returns-in_err-accepted : goal.returns-in_err-accepted
returns-in_err-accepted c =
    rw (err-is _ c.from_residual.ensures.1)
    (refused-arranges _ _ _ c.if-out-lt-BUFFER.false c.accept.new.w c.in_err-accepted.field-0.0 (at-bench _ _ (Err c.in_err-accepted.field-0.0) c.accept.new.w c.bench.ensures.0 c.in_err-accepted.ensures.1))

pub write_lines-requires : goal.write_lines-requires
write_lines-requires c = given-ready _ _ c.args.out.now c.if-out-lt-BUFFER.false c.accept.new.w (at-bench _ _ (Ok c.in_ok-accepted.accepted) c.accept.new.w c.bench.ensures.0 c.in_ok-accepted.ensures.1)

pub returns : goal.returns
returns c = given-arranges _ _ _ c.if-out-lt-BUFFER.false c.accept.new.w (at-bench _ _ (Ok c.in_ok-accepted.accepted) c.accept.new.w c.bench.ensures.0 c.in_ok-accepted.ensures.1) c.write_lines.ensures
