-- `record_reader::enter_any` meets its contract: it is read as a line, which says where the next one starts. A line that is
-- not ended has no form, so that the definitions refuse it as malformed; one that is ended they enter by its row.
use Rattle.std.specs.Prelude.{Ok, Err}
use borrow.Author.Tests.{not-true, not-false}
use Rattle.record_columns.proofs.Answers.{err-is, line_refused, entered-same}
use Rattle.record_reader.proofs.Plain.{ended-entered, unended-refused, line-takes}
use Rattle.record_reader.proofs.enter_any.Goals as goal

pub returns-then-not-line : goal.returns-then-not-line
returns-then-not-line c = line-takes (Err _) c.line_at-line.ensures
    (λ N d. line_refused _ (λ R h. unended-refused _ _ _ N R (not-true _ c.if-not-line.true)))

pub returns-in_err-counts : goal.returns-in_err-counts
returns-in_err-counts c =
    rw (err-is _ c.from_residual.ensures.1)
    (line-takes (Err _) c.line_at-line.ensures
    (λ N d. entered-same _ (λ R. rw c.row_of.ensures (ended-entered _ _ _ N R (not-false _ c.if-not-line.false))) (c.in_err-counts.ensures N d)))

pub returns : goal.returns
returns c =
    line-takes (Ok _) c.line_at-line.ensures
    (λ N d. entered-same _ (λ R. rw c.row_of.ensures (ended-entered _ _ _ N R (not-false _ c.if-not-line.false))) (c.in_ok-counts.ensures N d))
