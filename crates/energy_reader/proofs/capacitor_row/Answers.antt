-- `energy_reader::capacitor_row` meets its contract: its test is that of `row_ratings`, by three numbers (`by-triple`), and what
-- passes it are the figures that `row_ratings` takes.
use mathlib.Core.Path.{sym, ◌∙◌}
use Rattle.energy_reader.proofs.Figures.{by-triple}
use Rattle.energy_reader.proofs.capacitor_row.Goals as goal

pub returns-then-is_triple : goal.returns-then-is_triple
returns-then-is_triple c =
    rw (by-triple c.args.w, sym c.is_triple.ensures ∙ c.if-is_triple.true, ← c.number_in.ensures, ← c.number_in-then-is_triple.ensures, ← c.number_in-then-is_triple-2.ensures)
    c.capacitor_in.ensures

pub returns : goal.returns
returns c = rw (by-triple c.args.w, sym c.is_triple.ensures ∙ c.if-is_triple.false) tt
