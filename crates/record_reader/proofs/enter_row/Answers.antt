-- `record_reader::enter_row` meets its contract: its tests are those of `enter_row`, in their order, and each enters
-- what `enter_row` enters there.
use mathlib.Core.Path.{sym, ◌∙◌}
use Rattle.record_columns.proofs.Answers.{line_refused, entered-same}
use Rattle.record_reader.specs.Reads.{enter_row}
use Rattle.record_reader.proofs.Plain.{mark-entered, no-row}
use Rattle.record_reader.proofs.enter_row.Goals as goal

pub returns-then-is_one : goal.returns-then-is_one
unfolding enter_row
returns-then-is_one c N d =
    entered-same _ (λ R. rw (sym c.is_one.ensures ∙ c.if-is_one.true, ← c.number_in-x.ensures))
    (c.enter_event.ensures N _ d.transitions)

pub returns-then-is_three : goal.returns-then-is_three
unfolding enter_row
returns-then-is_three c N d =
    entered-same _ (λ R. rw (
      sym c.is_one.ensures ∙ c.if-is_one.false,
      sym c.is_three.ensures ∙ c.if-is_three.true,
      ← c.number_in-x.ensures,
    ))
    (c.enter_condition.ensures N _ d.places)

pub returns-in-Some : goal.returns-in-Some
returns-in-Some c N d =
    entered-same _ (λ R. rw (c.number_in-x.ensures, c.number_in.ensures)
    (mark-entered _ _ _ N R (sym c.is_one.ensures ∙ c.if-is_one.false) (sym c.is_three.ensures ∙ c.if-is_three.false) (sym c.kind_in.ensures ∙ c.in-Some.is)))
    (c.enter_mark.ensures _)

pub returns-in-None : goal.returns-in-None
returns-in-None c N d =
    line_refused _ (λ R h.
    no-row _ _ _ N R (sym c.is_one.ensures ∙ c.if-is_one.false) (sym c.is_three.ensures ∙ c.if-is_three.false) (sym c.kind_in.ensures ∙ c.in-None.is))
