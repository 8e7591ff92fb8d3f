-- `energy_reader::row_at` meets its contract: the line that was found, by its row where it is ended.
use borrow.Author.Tests.{not-true, not-false}
use Rattle.lines.proofs.Lines.{line-to}
use Rattle.energy_reader.specs.Reads.{row_in}
use Rattle.energy_reader.proofs.row_at.Goals as goal

pub returns-then-not-line : goal.returns-then-not-line
unfolding row_in
returns-then-not-line c = record { found = line-to c.line_at-line.ensures; row = rw (not-true _ c.if-not-line.true) }

pub returns : goal.returns
unfolding row_in
returns c = record { found = line-to c.line_at-line.ensures; row = rw (not-false _ c.if-not-line.false) c.row_of-row.ensures }
