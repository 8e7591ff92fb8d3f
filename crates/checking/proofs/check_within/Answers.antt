-- What accepting promises of the rows is what the table and the count need.
use Rattle.record_columns.proofs.Answers.{err-is}
use Rattle.accepting.proofs.Fresh.{fresh-net, fresh-record, fresh}
use Rattle.checking.proofs.CheckAnswers.{order-given, short-checks, refused-checks, given-checks}
use Rattle.checking.proofs.check_within.Goals as goal

pub returns-then-out-lt-TABLE : goal.returns-then-out-lt-TABLE
returns-then-out-lt-TABLE c = short-checks _ _ _ _ c.if-out-lt-TABLE.true

pub accept-requires : goal.accept-requires
accept-requires c = (c.requires, fresh-net, fresh-record, fresh)

pub returns-in_err-a : goal.returns-in_err-a
returns-in_err-a c = rw (err-is _ c.from_residual.ensures.1) (refused-checks _ _ _ _ c.if-out-lt-TABLE.false c.accept.new.w _ c.in_err-a.ensures.1)

pub write_table-requires : goal.write_table-requires
write_table-requires c = let o = order-given _ _ _ _ _ c.in_ok-a.ensures.1 in
    (o.0.few, c.if-out-lt-TABLE.false, o.0.beyond)

pub independent_pairs-requires : goal.independent_pairs-requires
independent_pairs-requires c = order-given _ _ _ _ _ c.in_ok-a.ensures.1

pub returns : goal.returns
returns c = given-checks _ _ _ _ c.if-out-lt-TABLE.false _ _ _ _ c.in_ok-a.ensures.1 c.independent_pairs.ensures c.write_table.ensures
