-- The third demand at cases a, b and f of the drive net, read as whole runs; and where it says nothing, since the record of case
-- k is refused. Transition 0 is the write, 1 the flush, 2 the park.
use Rattle.std.specs.Prelude.{◌≡◌, refl, ◌≢◌, ℕ, ◌<◌, true, false, List, [], ◌∷◌}
use Rattle.std.proofs.Common.{sym, ◌∙◌, le_refl, arith}
use Rattle.std.proofs.Math.Option.{none, some}
use mathlib.Core.List.Memᴰ
use Rattle.spec.specs.Answer.{gives, refuses}
use Rattle.spec.specs.Net.{Net, read_net}
use Rattle.spec.specs.Record.{RunRecord, Mark, bench}
use Rattle.spec.specs.Order.{single, NotLater, StrictlyBefore}
use Rattle.spec.specs.Building.{build}
use Rattle.spec.specs.Checking.{read_record}
use Rattle.spec.specs.Replaying.{read_arrangement}
use Rattle.spec.specs.Arrangement.{index}
use Rattle.spec.specs.Arranging.{arrangement_bytes}
use Rattle.spec.specs.Runs.{EnabledSequence, KeepsOrder, as_steps, log_bytes}
use Rattle.spec.specs.Demand.{OrderOfRuns, RunIsRecorded}
use Rattle.spec.specs.Independence.{FreeToSwap}
use Rattle.spec.specs.Quoted.{as_text}
use Rattle.spec.specs.Cases.{drive, record_b, open_all}
use Rattle.spec.specs.declared.ArcKind.TheVariants.{Input, Output, Inhibitor}
use Rattle.spec.specs.declared.MarkKind.TheVariants.{Before, After}
use Rattle.runs.specs.Answers.{of-gives, not-refused}
use Rattle.runs.specs.Exactness.{exactness}
use Rattle.runs.specs.Operations.{operations}
use Rattle.runs.specs.Demand.{demand}

unfoldable pub drive_net : Net
drive_net = record {
  tokens = 1 ∷ 0 ∷ 1 ∷ 0 ∷ 0 ∷ [];
  transitions = 3;
  arcs = record { kind = Inhibitor; place = 1; transition = 2; weight = 1 }
      ∷ record { kind = Output; place = 3; transition = 2; weight = 1 } ∷ record { kind = Input; place = 2; transition = 2; weight = 1 }
      ∷ record { kind = Output; place = 4; transition = 1; weight = 1 } ∷ record { kind = Input; place = 1; transition = 1; weight = 1 }
      ∷ record { kind = Output; place = 1; transition = 0; weight = 1 } ∷ record { kind = Input; place = 0; transition = 0; weight = 1 } ∷ [];
}

net-accepted : read_net drive ≡ gives drive_net
unfolding open_all drive_net
net-accepted = refl

-- ---- case b: event 0 is the write, event 1 the park, in one step

unfoldable pub run_b : RunRecord
run_b = record {
  events = 0 ∷ 2 ∷ [];
  conditions = record { place = 0; producer = none; consumer = some 0 } ∷ record { place = 2; producer = none; consumer = some 1 }
      ∷ record { place = 1; producer = some 0; consumer = none } ∷ record { place = 3; producer = some 1; consumer = none } ∷ [];
  marks = record { kind = Before; condition = 2; event = 1 } ∷ [];
}

b-accepted : read_record bench drive_net record_b ≡ gives run_b
unfolding open_all drive_net run_b
b-accepted = refl

order-b : OrderOfRuns drive record_b drive_net run_b
order-b = demand.order-of-runs drive drive_net net-accepted record_b run_b b-accepted

-- the park may come first: that arrangement keeps the order, and is a run of the net
unfoldable pub park_first : List (List ℕ)
park_first = (1 ∷ []) ∷ (0 ∷ []) ∷ []

read : read_arrangement run_b (arrangement_bytes park_first) ≡ gives park_first
unfolding open_all drive_net run_b park_first
read = refl

pub keeps : KeepsOrder run_b park_first
keeps = ((exactness.replays drive drive_net net-accepted record_b run_b b-accepted (arrangement_bytes park_first) park_first).0 read).1

pub enabled : EnabledSequence drive_net ((2 ∷ []) ∷ (0 ∷ []) ∷ [])
unfolding open_all drive_net run_b park_first as_steps
enabled = order-b.kept.enabled park_first keeps

-- the write comes before the park in no run: the park is not later, by the one weak pair
b-weak : NotLater run_b 1 0
unfolding open_all run_b
b-weak = (λ e. omega arith, (false, single (record { source = 1; target = 0; strict = false }) (Memᴰ.head refl)))

pub never_first : (lines : List (List ℕ)) → KeepsOrder run_b lines → ¬ (index 0 lines < index 1 lines)
unfolding run_b
never_first = (order-b.order.weak 1 0 (record { one = omega arith; other = omega arith; differ = λ e. omega arith })).0 b-weak

-- so that they are not free to swap (02, 2026-04)
pub bound : ¬ FreeToSwap run_b 0 1
bound s = let r = s.one-first in never_first r.0 r.1 r.2

-- ---- cases a and f: events 0, 1 and 2 are the write, the flush and the park; the condition that the write made is marked

unfoldable pub marked_by : Mark → RunRecord
marked_by m = record {
  events = 0 ∷ 1 ∷ 2 ∷ [];
  conditions = record { place = 0; producer = none; consumer = some 0 } ∷ record { place = 2; producer = none; consumer = some 2 }
      ∷ record { place = 1; producer = some 0; consumer = some 1 } ∷ record { place = 4; producer = some 1; consumer = none } ∷ record { place = 3; producer = some 2; consumer = none } ∷ [];
  marks = m ∷ [];
}

unfoldable pub run_a : RunRecord
run_a = marked_by (record { kind = After; condition = 2; event = 2 })

unfoldable pub run_f : RunRecord
run_f = marked_by (record { kind = Before; condition = 2; event = 2 })

unfoldable record_a : List ℕ
record_a = as_text "E,0 E,1 E,2 C,0,-,0 C,2,-,2 C,1,0,1 C,4,1,- C,3,2,- A,2,2"

unfoldable record_f : List ℕ
record_f = as_text "E,0 E,1 E,2 C,0,-,0 C,2,-,2 C,1,0,1 C,4,1,- C,3,2,- B,2,2"

a-accepted : read_record bench drive_net record_a ≡ gives run_a
unfolding open_all drive_net marked_by run_a record_a
a-accepted = refl

f-accepted : read_record bench drive_net record_f ≡ gives run_f
unfolding open_all drive_net marked_by run_f record_f
f-accepted = refl

order-a : OrderOfRuns drive record_a drive_net run_a
order-a = demand.order-of-runs drive drive_net net-accepted record_a run_a a-accepted

order-f : OrderOfRuns drive record_f drive_net run_f
order-f = demand.order-of-runs drive drive_net net-accepted record_f run_f f-accepted

-- in a the park comes after the flush in every run,
a-strict : StrictlyBefore run_a 1 2
unfolding open_all marked_by run_a
a-strict = single (record { source = 1; target = 2; strict = true }) (Memᴰ.tail (Memᴰ.head refl))

pub flushed-first : (lines : List (List ℕ)) → KeepsOrder run_a lines → index 1 lines < index 2 lines
unfolding run_a marked_by
flushed-first = (order-a.order.strict 1 2 (record { one = omega arith; other = omega arith; differ = λ e. omega arith })).0 a-strict

-- in f after the write in none
f-weak : NotLater run_f 2 0
unfolding open_all marked_by run_f
f-weak = (λ e. omega arith, (false, single (record { source = 2; target = 0; strict = false }) (Memᴰ.tail (Memᴰ.head refl))))

pub parked-first : (lines : List (List ℕ)) → KeepsOrder run_f lines → ¬ (index 0 lines < index 2 lines)
unfolding run_f marked_by
parked-first = (order-f.order.weak 2 0 (record { one = omega arith; other = omega arith; differ = λ e. omega arith })).0 f-weak

-- ---- the run of case a: its log is built into its record, which keeps that run among its arrangements

unfoldable pub steps_a : List (List ℕ)
steps_a = (0 ∷ []) ∷ (1 ∷ []) ∷ (2 ∷ []) ∷ []

a-built : build drive (log_bytes steps_a) 48256 ≡ gives record_a
unfolding open_all steps_a record_a
a-built = refl

pub run-a : RunIsRecorded drive drive_net steps_a
run-a =
    let z = (operations.builds drive drive_net net-accepted steps_a 48256 (le_refl 48256) record_a).0 a-built in
    demand.runs-recorded drive drive_net net-accepted steps_a z.0 z.1

pub recorded : run-a.run ≡ run_a
recorded =
    let e : run-a.bytes ≡ record_a = of-gives (sym (run-a.builds 48256 (le_refl 48256)) ∙ a-built) in
    of-gives (sym run-a.accepts ∙ rw e a-accepted)

pub among : KeepsOrder run_a ((0 ∷ []) ∷ (1 ∷ []) ∷ (2 ∷ []) ∷ [])
unfolding open_all steps_a
among = rw recorded at run-a.among

-- ---- case k: no record is accepted, so that the demand says nothing of this text

unfoldable pub net_k : Net
net_k = record {
  tokens = 1 ∷ 0 ∷ [];
  transitions = 1;
  arcs = record { kind = Inhibitor; place = 0; transition = 0; weight = 1 } ∷ record { kind = Output; place = 1; transition = 0; weight = 1 } ∷ record { kind = Input; place = 0; transition = 0; weight = 1 } ∷ [];
}

k-net : read_net (as_text "P,1 P,0 T I,0,0 O,0,1 H,0,0") ≡ gives net_k
unfolding open_all net_k
k-net = refl

k-refused : read_record bench net_k (as_text "E,0 C,0,-,0 C,1,0,- A,0,0") ≡ refuses 39 0
unfolding open_all net_k
k-refused = refl

pub k-not-accepted : (R : RunRecord) → read_record bench net_k (as_text "E,0 C,0,-,0 C,1,0,- A,0,0") ≢ gives R
k-not-accepted R h = not-refused (sym k-refused ∙ h)
