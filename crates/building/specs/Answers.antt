-- What ties the answer of building, and the buffer that it leaves, to those of the definitions.
use Rattle.std.specs.Prelude.{ℕ, ◌≡◌, List, length, Result, Ok, Err, IfOk}
use Rattle.spec.specs.Answer.{Answer, gives, refuses, returned}
use Rattle.spec.specs.Text.{lines_of}
use Rattle.spec.specs.Net.{Net as NetD, read_net}
use Rattle.lines.specs.Agree.{refused_as}
use Rattle.net.specs.NetArrays.{net_refusal}
use Rattle.spec.specs.Record.{bench}
use Rattle.spec.specs.Building.{build, built}
use Rattle.spec.specs.Buffer.{build_leaves}
use Rattle.spec.specs.Values.{byte_values}
use Rattle.record_columns.specs.declared.Counts.{Counts}
use Rattle.log_steps.specs.RunArrays.{log_refused}
use Rattle.representation.specs.Noted.{Noted}
use Rattle.building.specs.declared.BuildNoted.{BuildNoted}
use Rattle.building.specs.declared.BuildRefusal.{BuildRefusal}
use Rattle.building.specs.declared.BuildRefusal.TheVariants.{BufferShort, Net, Log}

-- the paper's number and spot of a refusal of building
abbrev pub build_refused : {A : Type 0} → BuildRefusal → Answer A
build_refused BufferShort = refuses 20 0
build_refused (Net x) = refused_as (net_refusal x)
build_refused (Log x) = log_refused x

-- the paper's number and values of an answer of building
abbrev pub build_answer : Result ℕ BuildRefusal → Answer (ℕ × ℕ × ℕ)
build_answer (Ok n) = gives (n, 0, 0)
build_answer (Err x) = build_refused x

-- how many bytes an answer says
abbrev pub bytes_of : Result BuildNoted BuildRefusal → Result ℕ BuildRefusal
bytes_of (Ok b) = Ok b.bytes
bytes_of (Err x) = Err x

-- the answer is the paper's, and the buffer is left as the paper says
pub record Builds (net log old : List ℕ) (r : Result ℕ BuildRefusal) (new : List ℕ) : Type 0 where
  pub answer : build_answer r ≡ returned byte_values (build net log (length old))
  pub buffer : new ≡ build_leaves (build net log (length old)) old

-- the bytes and words hold the record that the log builds on the net
pub record Runs (net log : List ℕ) (s : Counts) (rec words : List ℕ) : Type 0 where
  pub model : NetD
  pub reads : read_net net ≡ gives model
  pub noted : Noted s rec words
  pub builds : built bench model (lines_of log) ≡ gives noted.run

-- so it is where a record is written
abbrev pub NotesRun : List ℕ → List ℕ → Result BuildNoted BuildRefusal → List ℕ → List ℕ → Type 0
NotesRun net log r rec words = IfOk r (λ b. Runs net log b.counts rec words)
