-- `energy_reader::capacitor_at` meets its contract: the first line says what its row says.
use Rattle.energy_reader.proofs.Figures.{ratings-by-row}
use Rattle.energy_reader.proofs.capacitor_at.Goals as goal

pub returns : goal.returns
returns c = let l = c.row_at-line.ensures in
    record { found = l.found; rated = rw (ratings-by-row l.found.line, ← l.row) c.capacitor_row-capacitor.ensures }
