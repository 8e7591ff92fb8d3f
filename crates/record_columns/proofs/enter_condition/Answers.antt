-- `record_columns::enter_condition` meets its contract: its tests are the three refusals of the definitions, in their
-- order; numbers that are declared fit a byte, and the bytes that are stored are those of the next condition.
use mathlib.Core.Path.{refl, ap, ◌∙◌}
use native.Mathlib.Omega.{arith}
use borrow.Author.Tests.{le-leb, lt-leb, eq-eqb, ne_eqb}
use mathlib.Core.Bool.{not}
use Rattle.line_forms.specs.Rows.{event_of}
use Rattle.spec.specs.Checking.{with_condition}
use Rattle.record_columns.proofs.Answers.{line_refused, line-entered}
use Rattle.record_columns.proofs.Stores.{condition-stored, condition-marks}
use Rattle.record_columns.proofs.Steps.{first, second, third, through, condition-is, Known, known}
use Rattle.record_columns.proofs.enter_condition.Goals as goal
use Rattle.record_columns.proofs.enter_condition.Goals.{Else-not-p-b}

pub returns-then-s-ne0 : goal.returns-then-s-ne0
returns-then-s-ne0 c N words d =
    line_refused _ (λ R h.
    condition-is h.columns _ _ N _ d ∙ first _ _ _ _ _ _ _ _ (ap not (ne_eqb _ _ c.if-s-ne0.true)))

pub returns-then-lim-s : goal.returns-then-lim-s
returns-then-lim-s c N words d =
    line_refused _ (λ R h.
    condition-is h.columns _ _ N _ d
    ∙ second _ _ _ _ _ _ _ _ (ap not (eq-eqb _ _ c.if-s-ne0.false)) (le-leb _ _ c.if-lim-s.true))

-- behind the third test the place, the producer and the consumer fit a byte
declared : (c : Else-not-p-b) → Known c.args.p c.args.b.places (event_of c.args.producer) (event_of c.args.consumer)
declared c =
    known _ _ _ _ _ _ _ c.event_below.ensures c.event_below-2.ensures
    c.requires.1.events (ap not c.if-not-p-b.false)

pub overflow_cast-rec : goal.overflow_cast-rec
overflow_cast-rec c = omega (arith, declared (goal.at.overflow_cast-rec c).Else-not-p-b)

pub overflow_cast-rec-2 : goal.overflow_cast-rec-2
overflow_cast-rec-2 c = omega (arith, declared (goal.at.overflow_cast-rec-2 c).Else-not-p-b)

pub overflow_cast-rec-3 : goal.overflow_cast-rec-3
overflow_cast-rec-3 c = omega (arith, declared (goal.at.overflow_cast-rec-3 c).Else-not-p-b)

pub returns-then-not-p-b : goal.returns-then-not-p-b
returns-then-not-p-b c N words d =
    line_refused _ (λ R h.
    condition-is h.columns _ _ N _ d
    ∙ third _ _ _ _ _ _ _ _ (ap not (eq-eqb _ _ c.if-s-ne0.false)) (lt-leb _ _ c.if-lim-s.false)
    (rw (← c.event_below.ensures, ← c.event_below-2.ensures) (ap not c.if-not-p-b.true)))

pub returns : goal.returns
returns c N words d =
    line-entered _ (with_condition _) (λ R h. (
      condition-is h.columns _ _ N _ d
          ∙ through _ _ _ _ _ _ _ _ (ap not (eq-eqb _ _ c.if-s-ne0.false)) (lt-leb _ _ c.if-lim-s.false)
          (rw (← c.event_below.ensures, ← c.event_below-2.ensures) (ap not c.if-not-p-b.false)),
      record {
        columns =
            condition-stored h.columns _ _ _ (omega (arith, c.if-lim-s.false, c.requires.0.conditions)) _ refl
            c.event_code.ensures c.event_code-2.ensures;
        marks = condition-marks h.marks _;
      },
    ))
