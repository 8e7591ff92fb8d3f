-- `byte_classes::class_of` meets its contract: each number that an arm names is that of the arm's class, and a number that none
-- names lies past the last of them.
use Rattle.std.proofs.Common.{arith}
use Rattle.std.proofs.lemmas.Grind.{common_steps}
use Rattle.byte_entries.specs.Entries.{class_by}
use Rattle.byte_classes.proofs.class_of.Goals as goal

pub returns-in_default : goal.returns-in_default
unfolding class_by
returns-in_default c = grind (arith, common_steps)
