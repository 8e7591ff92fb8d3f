-- `played_lines::judge_lines` meets its contract: a line that breaks the order is met before what is wrong behind it
-- (`broken`), then what reading met (`refused`), and then the event that no line has (`finishes`): the order of the
-- definition.
use Rattle.std.proofs.Common.{refl}
use Rattle.played_lines.proofs.Judging.{broken, refused, finishes}
use Rattle.played_lines.proofs.judge_lines.Goals as goal

pub first_broken-requires : goal.first_broken-requires
first_broken-requires c = (c.requires.0, c.requires.1, record { groups = c.read_lines-read.ensures.groups; taken = c.read_lines-read.ensures.taken })

pub returns-in-Some : goal.returns-in-Some
returns-in-Some c = broken c.requires.0 c.read_lines-read.ensures c.in-Some.ensures refl

pub returns-in-Some-refused : goal.returns-in-Some-refused
returns-in-Some-refused c = refused c.requires.0 c.read_lines-read.ensures c.first_broken.ensures c.in_default.is c.in-Some-refused.is

pub returns : goal.returns
returns c = finishes c.requires.0 c.read_lines-read.ensures c.first_broken.ensures c.in_default.is c.in_default-refused.is c.finish.result c.finish.ensures
