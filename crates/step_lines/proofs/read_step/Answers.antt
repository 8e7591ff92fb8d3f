-- `step_lines::read_step` meets its contract: a plain line, where a line end is ahead, was read in one walk; any other is
-- read by its own tests.
use mathlib.Core.Path.{◌≡◌, sym, ap, ◌∙◌}
use mathlib.Core.Bool.{true}
use native.Mathlib.Omega.{arith}
use lib.ListN.{length}
use borrow.Author.Tests.{le-leb, lt-leb}
use Rattle.lines.specs.Lines.{line_of}
use Rattle.lines.proofs.Lines.{line-to, ahead_of}
use Rattle.number_lines.proofs.Lines.{few-known}
use Rattle.number_lines.proofs.Listing.{list-to}
use Rattle.step_lines.proofs.Lines.{letter-step, list-step, reads-22, reads-step}
use Rattle.step_lines.proofs.read_step.Goals as goal
use Rattle.step_lines.proofs.read_step.Goals.{then-at-c+else-at-plain, else-at-c, Joined-at-c}

pub list_at-plain-requires : goal.list_at-plain-requires
list_at-plain-requires c =
    (letter-step, ahead_of c.requires.1 _ c.if-at-c.true, c.requires.2.long)

pub returns-then-x-plain : goal.returns-then-x-plain
returns-then-x-plain c =
    let x = c.args.x in
    let r = c.list_at-plain.ensures in
    let l = r.line c.if-at-plain.true in
    let u = sym (l.high x.transitions) ∙ le-leb _ _ c.if-x-plain.true in
    record {
      found = list-to l c.if-at-plain.true;
      read = reads-22 (line_of l.bytes true) x r.long (list-step l.bytes l.list) u;
    }

pub returns-then-at-plain : goal.returns-then-at-plain
returns-then-at-plain c =
    let x = c.args.x in
    let k = c.requires.2.known in
    let r = c.list_at-plain.ensures in
    let l = r.line c.if-at-plain.true in
    let u = sym (l.high x.transitions) ∙ lt-leb _ _ c.if-x-plain.false in
    record {
      found = list-to l c.if-at-plain.true;
      read = reads-step (line_of l.bytes true) x r.long (list-step l.bytes l.list) k u l.count
          (λ h. l.numbers (few-known 256 x.transitions _ (omega (arith, l.count)) u (omega (arith, k))));
    }

pub slice_bounds-any_line-start : goal.slice_bounds-any_line-start
slice_bounds-any_line-start c = omega (arith, c.line_at-any.ensures.start)

-- the array is as long as it was, whether a list line was looked for or not
as_long : (c : Joined-at-c) → length c.if-at-c.step ≡ 128
as_long c =
    elim c.if-at-c.branch [
      | then-at-c+else-at-plain w ↦ ap length w.step-is ∙ w.list_at-plain.ensures.long
      | else-at-c w ↦ ap length w.step-is ∙ c.requires.2.long
    ]

pub any_line-requires : goal.any_line-requires
any_line-requires c =
    record { known = c.requires.2.known; events = c.requires.2.events; long = as_long (goal.at.any_line-requires c).Joined-at-c }

pub returns : goal.returns
returns c = record { found = line-to c.line_at-any.ensures; read = c.any_line.ensures }
