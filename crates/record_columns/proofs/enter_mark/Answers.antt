-- `record_columns::enter_mark` meets its contract: its tests are the three refusals of the definitions, in their order,
-- the second asked of the condition and then of the event. There is a mark where the words have a value, and the value
-- that is raised is that of the new mark, in the row of its slot.
use mathlib.Core.Path.{◌≡◌, sym, ap, ◌∙◌}
use native.Mathlib.Omega.{arith}
use borrow.Author.Tests.{le-leb, lt-leb}
use lib.Dec.{ltb}
use Rattle.spec.specs.Record.{slot_of}
use Rattle.spec.specs.Checking.{with_mark}
use Rattle.reach.specs.Rows.{cell_of}
use Rattle.record_columns.specs.Layout.{mark_row}
use Rattle.record_columns.proofs.Marks.{slot-few}
use Rattle.record_columns.proofs.Answers.{line_refused, line-entered}
use Rattle.record_columns.proofs.Stores.{mark-counted, mark-raised}
use Rattle.record_columns.proofs.Steps.{first, second, third, through, mark-is, mark-read, no-condition, no-event, both-declared}
use Rattle.record_columns.proofs.enter_mark.Goals as goal
use Rattle.record_columns.proofs.enter_mark.Goals.{After-mark_row-row, After-related}

pub returns-then-lim-s : goal.returns-then-lim-s
returns-then-lim-s c rec =
    line_refused _ (λ R h.
    mark-is h.columns _ _ _ ∙ first _ _ _ _ _ _ _ _ (le-leb _ _ c.if-lim-s.true))

pub returns-then-s-c : goal.returns-then-s-c
returns-then-s-c c rec =
    line_refused _ (λ R h.
    mark-is h.columns _ _ _
    ∙ second _ _ _ _ _ _ _ _ (lt-leb _ _ c.if-lim-s.false)
    (no-condition c.args.c c.args.s.conditions c.args.e c.args.s.events c.if-s-c.true))

pub returns-then-s-e : goal.returns-then-s-e
returns-then-s-e c rec =
    line_refused _ (λ R h.
    mark-is h.columns _ _ _
    ∙ second _ _ _ _ _ _ _ _ (lt-leb _ _ c.if-lim-s.false)
    (no-event c.args.c c.args.s.conditions c.args.e c.args.s.events c.if-s-e.true))

pub mark_row-row-requires : goal.mark_row-row-requires
mark_row-row-requires c =
    (omega (arith, c.if-s-c.false, c.requires.2), omega (arith, c.slot_of.ensures, slot-few c.args.x))

-- the row of the mark's slot
row_is : (c : After-mark_row-row) → c.mark_row-row.result ≡ mark_row c.args.c (slot_of c.args.x)
row_is c = c.mark_row-row.ensures ∙ ap (mark_row c.args.c) c.slot_of.ensures

pub related-requires : goal.related-requires
related-requires c =
    (omega (arith, row_is (goal.at.related-requires c).After-mark_row-row, slot-few c.args.x, c.if-s-c.false, c.requires.3.room), omega arith, c.requires.3.sub _)

-- what was found in that row
found-is : (c : After-related) → c.related.result ≡ ltb 0 (cell_of c.args.marks.now (mark_row c.args.c (slot_of c.args.x)) c.args.e)
found-is c = rw (row_is c.before) at c.related.ensures

pub returns-then-related : goal.returns-then-related
returns-then-related c rec =
    line_refused _ (λ R h.
    mark-is h.columns _ _ _
    ∙ third _ _ _ _ _ _ _ _ (lt-leb _ _ c.if-lim-s.false) (both-declared _ _ _ _ c.if-s-c.false c.if-s-e.false)
    (mark-read h.marks _ _ _ (slot-few _) ∙ sym (found-is (goal.at.returns-then-related c).After-related) ∙ c.if-related.true))

pub raise-requires : goal.raise-requires
raise-requires c =
    (omega (arith, row_is (goal.at.raise-requires c).After-mark_row-row, slot-few c.args.x, c.if-s-c.false, c.requires.3.room), omega arith, c.requires.3.sub _)

pub returns : goal.returns
returns c rec =
    line-entered _ (with_mark _) (λ R h. (
      mark-is h.columns _ _ _
          ∙ through _ _ _ _ _ _ _ _ (lt-leb _ _ c.if-lim-s.false) (both-declared _ _ _ _ c.if-s-c.false c.if-s-e.false)
          (mark-read h.marks _ _ _ (slot-few _) ∙ sym (found-is (goal.at.returns c).After-related) ∙ c.if-related.false),
      record {
        columns = mark-counted h.columns _;
        marks = mark-raised h.marks _ (rw (c.is_after.ensures, row_is (goal.at.returns c).After-mark_row-row) at c.raise.ensures);
      },
    ))
