-- `record_reader::enter_at` meets its contract: the opening of a line tells its letter and that a line end is ahead, so
-- that a plain line is entered as the definitions enter it, by its letter; any other is read as a line.
use Rattle.std.specs.Prelude.{Ok, Err}
use mathlib.Core.Path.{sym, ◌∙◌}
use native.Mathlib.Omega.{arith}
use Rattle.spec.specs.Checking.{enter_event, enter_condition, enter_mark}
use Rattle.byte_entries.specs.Entries.{code_of}
use Rattle.record_columns.specs.Enters.{condition_in, mark_of}
use Rattle.record_columns.proofs.Answers.{err-is}
use Rattle.record_reader.specs.Reads.{letter_of}
use Rattle.plain_lines.proofs.Plain.{BeginsWith, opens-list}
use Rattle.record_reader.proofs.Plain.{kind-letter, begins-mark, event-line, condition-line, mark-line, plain-takes}
use Rattle.record_reader.proofs.enter_at.Goals as goal
use Rattle.record_reader.proofs.enter_at.Goals.{In-Some, Then-opens_with, Then-opens_with-2}

-- what an opening tells: the letter of a kind of marks, a C or an E, and a comma
mark : (c : In-Some) → BeginsWith c.args.text.now c.args.c.at (code_of (letter_of c.in-Some.kind))
mark c = begins-mark _ c.args.c c.in-Some.kind c.requires.1 c.open_at-open.ensures (kind-letter _ _ (sym c.kind_of.ensures ∙ c.in-Some.is)) c.if-open-eq-COMMA.true

condition : (c : Then-opens_with) → BeginsWith c.args.text.now c.args.c.at 20
condition c = opens-list _ c.args.c c.requires.1 c.open_at-open.ensures 20 (omega arith) (omega arith) (sym c.opens_with.ensures ∙ c.if-opens_with.true)

event : (c : Then-opens_with-2) → BeginsWith c.args.text.now c.args.c.at 19
event c = opens-list _ c.args.c c.requires.1 c.open_at-open.ensures 19 (omega arith) (omega arith) (sym c.opens_with-2.ensures ∙ c.if-opens_with-2.true)

pub two_at-f-requires : goal.two_at-f-requires
two_at-f-requires c = (omega arith, omega arith, (mark (goal.at.two_at-f-requires c).In-Some).0)

pub returns-in_err-counts : goal.returns-in_err-counts
returns-in_err-counts c =
    rw (err-is _ c.from_residual.ensures.1)
    (plain-takes (Err _) (λ N. enter_mark _ _ (mark_of c.in-Some.kind c.two_at-f.result.a c.two_at-f.result.b)) c.two_at-f.ensures c.if-at-f.true
    (λ N R l. mark-line _ _ N R c.in-Some.kind l (mark (goal.at.returns-in_err-counts c).In-Some).1) (λ N d. c.in_err-counts.ensures c.args.rec.now))

pub returns-then-at-f : goal.returns-then-at-f
returns-then-at-f c =
    plain-takes (Ok _) (λ N. enter_mark _ _ (mark_of c.in-Some.kind c.two_at-f.result.a c.two_at-f.result.b)) c.two_at-f.ensures c.if-at-f.true
    (λ N R l. mark-line _ _ N R c.in-Some.kind l (mark (goal.at.returns-then-at-f c).In-Some).1) (λ N d. c.in_ok-counts.ensures c.args.rec.now)

pub three_at-f-requires : goal.three_at-f-requires
three_at-f-requires c = (omega arith, omega arith, (condition (goal.at.three_at-f-requires c).Then-opens_with).0)

pub returns-in_err-counts-2 : goal.returns-in_err-counts-2
returns-in_err-counts-2 c =
    let e = c.three_at-f.ensures in
    rw (err-is _ c.from_residual-in_err-counts-2.ensures.1)
    (plain-takes (Err _) (λ N. enter_condition _ N _ (condition_in _ c.three_at-f.result.b c.three_at-f.result.c)) e.read c.if-at-f-2.true
    (λ N R l. condition-line _ _ N R l (e.second c.if-at-f-2.true) (e.third c.if-at-f-2.true) (condition (goal.at.returns-in_err-counts-2 c).Then-opens_with).1)
    (λ N d. c.in_err-counts-2.ensures N _ d.places))

pub returns-then-at-f-2 : goal.returns-then-at-f-2
returns-then-at-f-2 c =
    let e = c.three_at-f.ensures in
    plain-takes (Ok _) (λ N. enter_condition _ N _ (condition_in _ c.three_at-f.result.b c.three_at-f.result.c)) e.read c.if-at-f-2.true
    (λ N R l. condition-line _ _ N R l (e.second c.if-at-f-2.true) (e.third c.if-at-f-2.true) (condition (goal.at.returns-then-at-f-2 c).Then-opens_with).1)
    (λ N d. c.in_ok-counts-2.ensures N _ d.places)

pub one_at-f-requires : goal.one_at-f-requires
one_at-f-requires c = (omega arith, omega arith, (event (goal.at.one_at-f-requires c).Then-opens_with-2).0)

pub returns-in_err-counts-3 : goal.returns-in_err-counts-3
returns-in_err-counts-3 c =
    rw (err-is _ c.from_residual-in_err-counts-3.ensures.1)
    (plain-takes (Err _) (λ N. enter_event _ N _ _) c.one_at-f.ensures c.if-at-f-3.true
    (λ N R l. event-line _ _ N R l (event (goal.at.returns-in_err-counts-3 c).Then-opens_with-2).1)
    (λ N d. c.in_err-counts-3.ensures N _ d.transitions))

pub returns-then-at-f-3 : goal.returns-then-at-f-3
returns-then-at-f-3 c =
    plain-takes (Ok _) (λ N. enter_event _ N _ _) c.one_at-f.ensures c.if-at-f-3.true
    (λ N R l. event-line _ _ N R l (event (goal.at.returns-then-at-f-3 c).Then-opens_with-2).1)
    (λ N d. c.in_ok-counts-3.ensures N _ d.transitions)
