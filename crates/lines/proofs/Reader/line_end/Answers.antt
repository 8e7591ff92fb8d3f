-- `lines::Reader::line_end` meets its contract: a line ends before the first byte from its start on that has the entry of a line
-- end (`first-of-class`), or with the text.
use lib.Dec.{lit<}
use Rattle.spec.specs.declared.Class.TheVariants.{LineEnd}
use Rattle.byte_entries.proofs.Scans.{first-of-class}
use Rattle.lines.proofs.Reader.line_end.Goals as goal

pub returns : goal.returns
returns c = let e = c.end_of.ensures in (first-of-class LineEnd (lit< tt) _ _ _ e.0, e.1)
