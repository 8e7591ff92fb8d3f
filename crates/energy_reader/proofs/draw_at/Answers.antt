-- `energy_reader::draw_at` meets its contract: the opening of a line tells its letter and that a line end is ahead, so that
-- a plain line says what the definitions say of it, by its letter; any other is read as a line, and says what its row says.
use native.Mathlib.Omega.{arith}
use mathlib.Core.Path.{sym, ◌∙◌}
use Rattle.plain_lines.proofs.Plain.{plain-to, BeginsWith, opens-list}
use Rattle.energy_reader.proofs.Figures.{draw-by-row}
use Rattle.energy_reader.proofs.Plain.{pulse-line, load_line}
use Rattle.energy_reader.proofs.draw_at.Goals as goal
use Rattle.energy_reader.proofs.draw_at.Goals.{Then-opens_with, Then-opens_with-2}

pub open_at-open-requires : goal.open_at-open-requires
open_at-open-requires c = (c.requires.0, c.requires.1.within)

-- what an opening tells: a J or a W, and a comma
pulse : (c : Then-opens_with) → BeginsWith c.args.text.now c.args.c.at 26
pulse c = opens-list _ c.args.c c.requires.1 c.open_at-open.ensures 26 (omega arith) (omega arith) (sym c.opens_with.ensures ∙ c.if-opens_with.true)

load : (c : Then-opens_with-2) → BeginsWith c.args.text.now c.args.c.at 27
load c = opens-list _ c.args.c c.requires.1 c.open_at-open.ensures 27 (omega arith) (omega arith) (sym c.opens_with-2.ensures ∙ c.if-opens_with-2.true)

pub one_at-f-requires : goal.one_at-f-requires
one_at-f-requires c = (omega arith, omega arith, (pulse (goal.at.one_at-f-requires c).Then-opens_with).0)

pub returns-then-at-f : goal.returns-then-at-f
returns-then-at-f c = record { found = plain-to c.one_at-f.ensures c.if-at-f.true; draws = rw (pulse-line (c.one_at-f.ensures.line c.if-at-f.true) (pulse (goal.at.returns-then-at-f c).Then-opens_with).1) c.pulse_in-draw.ensures }

pub two_at-f-requires : goal.two_at-f-requires
two_at-f-requires c = (omega arith, omega arith, (load (goal.at.two_at-f-requires c).Then-opens_with-2).0)

pub returns-then-at-f-2 : goal.returns-then-at-f-2
returns-then-at-f-2 c = record { found = plain-to c.two_at-f.ensures c.if-at-f-2.true; draws = rw (load_line (c.two_at-f.ensures.line c.if-at-f-2.true) (load (goal.at.returns-then-at-f-2 c).Then-opens_with-2).1) c.load_in-draw.ensures }

pub row_at-line-requires : goal.row_at-line-requires
row_at-line-requires c = c.requires.0

pub returns : goal.returns
returns c = let l = c.row_at-line.ensures in
    record { found = l.found; draws = rw (draw-by-row l.found.line, ← l.row) c.draw_row-draw.ensures }
