-- The pairs of the conditions join those of the marks; the closure of both is the record's order.
use mathlib.Core.Path.{sym, ◌∙◌}
use Rattle.row_pairs.proofs.Raising.{filled}
use Rattle.accepting.proofs.RecordOrder.{marks-raised, ordered}
use Rattle.accepting.proofs.order.Goals as goal

pub raise_conditions-requires : goal.raise_conditions-requires
raise_conditions-requires c = let x = c.raise_marks.ensures in (c.requires.0.conditions, c.requires.0.long, x.long ∙ c.requires.2.long, x.good c.requires.2.good)

pub close-requires : goal.close-requires
close-requires c = let x = c.raise_marks.ensures in let y = c.raise_conditions.ensures in (c.requires.0.events, y.long ∙ x.long ∙ c.requires.2.long, y.good (x.good c.requires.2.good))

pub returns : goal.returns
returns c = let k = c.close.ensures in
    (k.0 ∙ sym c.requires.2.long, λ a N R h u. ordered a _ _ _ N R h u _ _ _ _ (filled _ _ _ (marks-raised c.args.s _ _ c.requires.2 c.raise_marks.ensures) c.raise_conditions.ensures) k.1 c.first_loop.ensures)
