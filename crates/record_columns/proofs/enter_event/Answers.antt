-- `record_columns::enter_event` meets its contract: its tests are the three refusals of the definitions, in their
-- order, and the byte that is stored is that of the next event.
use mathlib.Core.Path.{◌∙◌}
use native.Mathlib.Omega.{arith}
use borrow.Author.Tests.{le-leb, lt-leb}
use Rattle.spec.specs.Checking.{with_event}
use Rattle.record_columns.proofs.Answers.{line_refused, line-entered}
use Rattle.record_columns.proofs.Stores.{event-stored, event-marks}
use Rattle.record_columns.proofs.Steps.{first, second, third, through, event-is}
use Rattle.record_columns.proofs.enter_event.Goals as goal

pub returns-then-s : goal.returns-then-s
returns-then-s c N words d =
    line_refused _ (λ R h.
    event-is h.columns _ _ N _ d ∙ first _ _ _ _ _ _ _ _ c.if-s.true)

pub returns-then-lim-s : goal.returns-then-lim-s
returns-then-lim-s c N words d =
    line_refused _ (λ R h.
    event-is h.columns _ _ N _ d
    ∙ second _ _ _ _ _ _ _ _ c.if-s.false (le-leb _ _ c.if-lim-s.true))

pub returns-then-b-t : goal.returns-then-b-t
returns-then-b-t c N words d =
    line_refused _ (λ R h.
    event-is h.columns _ _ N _ d
    ∙ third _ _ _ _ _ _ _ _ c.if-s.false (lt-leb _ _ c.if-lim-s.false) (le-leb _ _ c.if-b-t.true))

pub returns : goal.returns
returns c N words d =
    line-entered _ (with_event _) (λ R h. (
      event-is h.columns _ _ N _ d
          ∙ through _ _ _ _ _ _ _ _ c.if-s.false (lt-leb _ _ c.if-lim-s.false) (lt-leb _ _ c.if-b-t.false),
      record { columns = event-stored h.columns _ (omega (arith, c.if-lim-s.false, c.requires.0.events)); marks = event-marks h.marks _ },
    ))
