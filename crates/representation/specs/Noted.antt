-- Bytes and words that hold a record that is right: on a net, a process within the limits of the bench.
use Rattle.std.specs.Prelude.{ℕ, ◌*◌, ◌≤◌, List, length}
use Rattle.spec.specs.Net.{Net as NetD}
use Rattle.spec.specs.Record.{RunRecord, bench}
use Rattle.spec.specs.Process.{Process}
use Rattle.runs.specs.ReadRecord.{Fits}
use Rattle.net.specs.declared.Net.{Net}
use Rattle.record_columns.specs.Layout.{condition_words, HoldsMarks}
use Rattle.record_columns.specs.declared.Counts.{Counts}
use Rattle.representation.specs.Held.{Held}

pub record Noted (s : Counts) (rec words : List ℕ) : Type 0 where
  pub arrays : Net
  pub net : NetD
  pub run : RunRecord
  pub held : Held arrays s rec net run
  pub marks : HoldsMarks words run
  pub room : condition_words * s.conditions ≤ length words
  pub process : Process net run
  pub fits : Fits bench run
