-- `printing::put_refusal` meets its contract: the line of a refusal is short enough for the buffer (`refusal-size`),
-- and a line written from its start is what is printed (`wrote-printed`).
use native.Mathlib.Omega.{arith}
use Rattle.spec.specs.Text.{line_with}
use Rattle.spec.specs.Printing.{printed}
use Rattle.printing.proofs.Sizes.{refusal-size}
use Rattle.printing.proofs.Buffer.{wrote-printed}
use Rattle.printing.proofs.put_refusal.Goals as goal

pub put_line-requires : goal.put_line-requires
unfolding printed line_with
put_line-requires c = omega (arith, refusal-size c.args.number c.args.spot, c.requires)

pub returns : goal.returns
unfolding printed line_with
returns c = wrote-printed (omega (arith, refusal-size c.args.number c.args.spot, c.requires)) c.put_line.ensures
