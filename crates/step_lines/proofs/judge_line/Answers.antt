-- The line is read, and what was read is judged.
use Rattle.step_lines.proofs.Lines.{has-step}
use Rattle.step_lines.proofs.judge_line.Goals as goal

pub read_step-read-requires : goal.read_step-read-requires
read_step-read-requires c = (c.requires.0, c.requires.1, c.requires.2)

pub judge_events-requires : goal.judge_events-requires
judge_events-requires c = (c.requires.2.events, c.requires.3, c.requires.4, has-step _ c.read_step-read.ensures.read)

pub returns : goal.returns
returns c = let E = c.read_step-read.ensures in record {
  found = E.found;
  long = E.read.long;
  answers = c.judge_events.ensures E.found.line E.read;
}
