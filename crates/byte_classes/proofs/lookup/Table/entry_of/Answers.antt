-- `byte_classes::Table::entry_of` meets its contract: the table has the entry of each byte (`entry_at`).
use native.Mathlib.Omega.{arith}
use Rattle.byte_classes.proofs.Tabulated.{entry_at}
use Rattle.byte_classes.proofs.lookup.Table.entry_of.Goals as goal

pub returns : goal.returns
returns c = rw c.from.ensures (entry_at c.args.self.now.tabulated c.args.b (omega arith))
