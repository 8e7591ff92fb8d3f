-- `byte_classes::byte_table` meets its contract: one test, computed over the 256 entries of the constant, says that each is
-- what the range rule gives for its byte (`tabulated`).
use mathlib.Core.Path.{refl}
use Rattle.spec.specs.Lists.{up_to}
use Rattle.spec.specs.Text.{named, in_digits, class_of, digit_of}
use Rattle.byte_entries.specs.Entries.{entry_of}
use Rattle.byte_classes.specs.Table.{byte_table}
use Rattle.byte_classes.proofs.Tabulated.{tabulates, tabulated}
use Rattle.byte_classes.proofs.lookup.byte_table.Goals as goal

pub invariant_of-result : goal.invariant_of-result
unfolding byte_table up_to tabulates entry_of class_of named in_digits digit_of
invariant_of-result c = record { tabulated = tabulated entry_of 0 _ refl }
