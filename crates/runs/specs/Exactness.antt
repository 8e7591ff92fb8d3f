-- Exactness: what the net reader, building, the check and replay accept is what document 01 says, and nothing else.
use Rattle.std.specs.Prelude.{◌≡◌, ◌↔◌, ℕ, ◌≤◌, List, length}
use Rattle.std.proofs.Math.Path.{sym, ap}
use Rattle.std.proofs.Common.{◌∙◌, le_trans, le_of_eq, arith, le-ltb}
use Rattle.spec.specs.Answer.{gives, ◌>>=◌, ◌>>◌, refuse◌at◌when◌}
use Rattle.spec.specs.Text.{lines_of}
use Rattle.spec.specs.Net.{Net, read_net}
use Rattle.spec.specs.Record.{RunRecord, bench, record_bytes}
use Rattle.spec.specs.Building.{play_log, record_of, record_for, built, build}
use Rattle.spec.specs.Checking.{read_record}
use Rattle.spec.specs.Replaying.{read_arrangement}
use Rattle.spec.specs.Arranging.{arrangement_bytes}
use Rattle.spec.specs.Runs.{KeepsOrder, WithinLimits}
use Rattle.spec.specs.Endings.{plain_ends}
use Rattle.spec.specs.Exactness.{IsBuilt, IsProcess, Exactness}
use Rattle.runs.specs.Log.{record-events}
use Rattle.runs.specs.Answers.{of-gives, of-bind}
use Rattle.runs.specs.Endings.{record-by-lines, arrangement-by-lines}
use Rattle.runs.specs.Written.{log-lines-are, record-lines-are, arrangement-lines-are}
use Rattle.runs.specs.NetText.{net-text}
use Rattle.runs.specs.NetLimits.{NetLimits, net-limits}
use Rattle.runs.specs.ReadNet.{net-read}
use Rattle.runs.specs.ReadRecord.{Fits, Printed}
use Rattle.runs.specs.Accepted.{accepted-record, record-accepted}
use Rattle.runs.specs.Growth.{start_fits}
use Rattle.runs.specs.ReadLog.{log-played, log-exact}
use Rattle.runs.specs.ReadArrangement.{arrangement-read, arrangement-exact}

-- the bench's numbers, and those of an accepted net, can all be written
pub printed : (N : Net) → NetLimits N → Printed bench N
unfolding bench
printed N L = record { transitions = omega (arith, L.transitions); places = omega (arith, L.places); events = omega arith; conditions = omega arith }

-- a sequence is within the limits exactly where its record is within the bench's
pub within-fits : (N : Net) (steps : List (List ℕ)) → WithinLimits N steps ↔ Fits bench (record_for N steps)
unfolding bench
within-fits N steps = (
  λ w. record { events = le_trans (le_of_eq (ap length (record-events N steps))) w.events; conditions = w.conditions; marks = w.marks },
  λ f. record { events = le_trans (le_of_eq (sym (ap length (record-events N steps)))) f.events; conditions = f.conditions; marks = f.marks },
)

module _ (net : List ℕ) (N : Net) (accepted : read_net net ≡ gives N) where
  L : NetLimits N
  L = net-limits net N accepted

  -- building, where the buffer is large enough
  building : (log : List ℕ) (room : ℕ) → 48256 ≤ room → build net log room ≡ (built bench N (lines_of log) >>= λ r. gives (record_bytes r))
  unfolding build ◌>>=◌ ◌>>◌ refuse◌at◌when◌
  building log room h = rw (le-ltb room 48256 h, accepted)

  was-built : (log bytes : List ℕ) (room : ℕ) → 48256 ≤ room → build net log room ≡ gives bytes → IsBuilt N (plain_ends log) bytes
  unfolding built bench record_for
  was-built log bytes room l h =
      let b = of-bind (built bench N (lines_of log)) _ (sym (building log room l) ∙ h) in
      let c = of-bind (play_log bench N (lines_of log)) _ b.1 in
      let d = log-exact bench N (start_fits bench N L.tokens) log c.0 c.1 in
      record {
        steps = d.0;
        written = d.1;
        enabled = d.2;
        within = (within-fits N d.0).1 d.4;
        named = sym (of-gives b.2) ∙ ap record_bytes (sym (of-gives c.2) ∙ ap (record_of N) d.3);
      }

  is-built : (log bytes : List ℕ) (room : ℕ) → 48256 ≤ room → IsBuilt N (plain_ends log) bytes → build net log room ≡ gives bytes
  unfolding built record_for ◌>>=◌
  is-built log bytes room l B =
      let p = log-played bench N (printed N L).transitions B.steps B.enabled ((within-fits N B.steps).0 B.within) in
      building log room l ∙ rw (log-lines-are log B.steps B.written, p, B.named)

  was-process : (text : List ℕ) (R : RunRecord) → read_record bench N text ≡ gives R → (plain_ends text ≡ record_bytes R) × IsProcess N R
  unfolding bench
  was-process text R h =
      let z = accepted-record bench N text R h in
      let F = z.0.fits in
      (z.0.written, record { events = F.events; conditions = F.conditions; marks = F.marks; well_formed = z.0.well_formed; process = z.1 })

  is-process : (R : RunRecord) → IsProcess N R → read_record bench N (record_bytes R) ≡ gives R
  unfolding bench
  is-process R I =
      let F : Fits bench R = record { events = I.events; conditions = I.conditions; marks = I.marks } in
      record-accepted bench N (printed N L) R I.well_formed F I.process

  replaying : (text : List ℕ) (R : RunRecord) → read_record bench N text ≡ gives R → (arrangement : List ℕ) (lines : List (List ℕ))
      → (read_arrangement R arrangement ≡ gives lines) ↔ ((plain_ends arrangement ≡ arrangement_bytes lines) × KeepsOrder R lines)
  replaying text R h arrangement lines =
      let I = (was-process text R h).1 in (
        arrangement-exact N R I.well_formed arrangement lines,
        λ A. arrangement-by-lines arrangement (arrangement_bytes lines) (arrangement-lines-are arrangement lines A.0) R ∙ arrangement-read N R I.well_formed (omega (arith, I.events)) lines A.1,
      )

pub exactness : Exactness
exactness = record {
  reads = λ text N. (net-text text N, net-read text N);
  builds = λ net N h log bytes room l. (was-built net N h log bytes room l, is-built net N h log bytes room l);
  checks = λ net N h text R. (was-process net N h text R, λ I. record-by-lines text (record_bytes R) (record-lines-are text R I.0) bench N ∙ is-process net N h R I.1);
  replays = λ net N h. replaying net N h;
}
