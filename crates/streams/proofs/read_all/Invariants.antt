-- the buffer keeps its length, and what was read so far stands at its start
use Rattle.std.proofs.Common.{◌≡◌, ◌-◌, ◌≤◌, length, take}
use Rattle.std.specs.Io.KnownBytes.{Consumes}
use Rattle.streams.proofs.read_all.Given as goal

abbrev pub invariant-loop-read : goal.invariant-loop-read
invariant-loop-read g l = record {
  same : length l.buf ≡ length l.initial.buf;
  within : l.read ≤ length l.buf;
  took : Consumes (g.R.Read.remaining l.initial.from) (g.R.Read.remaining l.from) (take l.read l.buf);
}

abbrev pub decreases-loop-read : goal.decreases-loop-read
decreases-loop-read g l = length l.initial.buf - l.read
