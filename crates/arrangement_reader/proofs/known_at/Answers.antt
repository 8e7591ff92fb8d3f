-- `arrangement_reader::known_at` meets its contract: a plain line, where a line end is ahead, is known by its letter and
-- its numbers as the definitions know it, and any other is read as a line.
use mathlib.Core.Path.{◌≡◌, ap, ◌∙◌}
use lib.ListN.{length}
use Rattle.lines.proofs.Lines.{ahead_of}
use Rattle.arrangement_reader.proofs.Reading.{letter-group, plain-unknown, plain-kept, line-known-at}
use Rattle.arrangement_reader.proofs.known_at.Goals as goal
use Rattle.arrangement_reader.proofs.known_at.Goals.{then-at-c+else-at-f, else-at-c, Joined-at-c}

pub list_at-f-requires : goal.list_at-f-requires
list_at-f-requires c =
    (letter-group, ahead_of c.requires.1 _ c.if-at-c.true, c.requires.3)

pub returns-then-n-f : goal.returns-then-n-f
returns-then-n-f c =
    plain-unknown c.list_at-f.ensures c.if-at-f.true _ _ c.if-n-f.true

pub returns-then-at-f : goal.returns-then-at-f
returns-then-at-f c =
    plain-kept c.list_at-f.ensures c.if-at-f.true _ _ c.if-n-f.false

-- the array is as long as it was, whether a list line was looked for or not
as_long : (c : Joined-at-c) → length c.if-at-c.events ≡ 128
as_long c =
    elim c.if-at-c.branch [
      | then-at-c+else-at-f w ↦ ap length w.events-is ∙ w.list_at-f.ensures.long
      | else-at-c w ↦ ap length w.events-is ∙ c.requires.3
    ]

pub known_line-requires : goal.known_line-requires
known_line-requires c =
    (c.requires.2, as_long (goal.at.known_line-requires c).Joined-at-c)

pub returns : goal.returns
returns c = line-known-at c.line_at-line.ensures c.known_line.ensures
