-- A net of arrays and a record of bytes that hold a net and a record of the definitions, and the bounds that the code relies on.
use Rattle.std.specs.Prelude.{ℕ, ◌+◌, ◌≤◌, ◌<◌, List, length, get_or}
use Rattle.spec.specs.Net.{Net as NetD}
use Rattle.spec.specs.Record.{RunRecord}
use Rattle.spec.specs.Process.{WellFormed}
use Rattle.runs.specs.ReadRecord.{MarksOnce}
use Rattle.net.specs.NetArrays.{Holds}
use Rattle.net.specs.declared.Net.{Net}
use Rattle.record_columns.specs.Enters.{Keeps}
use Rattle.record_columns.specs.declared.Counts.{Counts}
use Rattle.record_columns.specs.Layout.{record_bytes, producers_at, consumers_at}

pub record Held (net : Net) (s : Counts) (rec : List ℕ) (N : NetD) (R : RunRecord) : Type 0 where
  pub arrays : Holds net N
  pub bytes : Keeps s rec R
  pub well_formed : WellFormed N R
  pub once : MarksOnce R

-- places of the net, and events or none (128) in a column of the record
pub record Linked (rec : List ℕ) (m at : ℕ) : Type 0 where
  pub place : (c : ℕ) → c < m → get_or rec (128 + c) 0 < 32
  pub event : (c : ℕ) → c < m → get_or rec (at + c) 0 ≤ 128

pub record Sound (s : Counts) (rec : List ℕ) : Type 0 where
  pub events : s.events ≤ 128
  pub conditions : s.conditions ≤ 512
  pub long : record_bytes ≤ length rec
  pub transition : (e : ℕ) → e < s.events → get_or rec e 0 < 32
  pub producers : Linked rec s.conditions producers_at
  pub consumers : Linked rec s.conditions consumers_at
