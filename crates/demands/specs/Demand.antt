-- The third demand, said of calls: what they return and the bytes that they leave in the buffers. The crate `runs`
-- has the same over the definitions; here it is what the functions of this crate, which make the calls, promise.
use Rattle.std.specs.Prelude.{◌≡◌, ◌↔◌, ◌⊎◌, ℕ, ◌+◌, ◌*◌, ◌≤◌, ◌<◌, List, length, get_or, take}
use Rattle.spec.specs.Answer.{gives}
use Rattle.spec.specs.Net.{Net, places, read_net}
use Rattle.spec.specs.Step.{tokens_at}
use Rattle.spec.specs.Record.{RunRecord, bench}
use Rattle.spec.specs.Checking.{read_record}
use Rattle.spec.specs.Arranging.{arrangement_bytes}
use Rattle.spec.specs.Runs.{EnabledSequence, KeepsOrder, WithinLimits, marking_at, as_steps, event_lines, log_bytes}
use Rattle.spec.specs.Runs.{TwoEvents, StandsEarlier, InEvery, InNone}
use Rattle.spec.specs.Endings.{plain_ends}
use Rattle.spec.specs.declared.Numbers.{Numbers}
use Rattle.demands.specs.declared.Calls.{Calls}
use Rattle.demands.specs.declared.RunCalls.{RunCalls}

-- N is the net of a net text that is accepted, R the record of a text that is accepted under it

-- "the arrangement written puts each event into one of its steps, none of them empty, and keeps the order. Every other
-- arrangement that keeps it has at least the returned count of steps."
pub record Arranged (R : RunRecord) (r : Numbers) (new : List ℕ) : Type 0 where
  pub accepted : r.number ≡ 0
  pub lines : List (List ℕ)
  pub written : take r.a new ≡ arrangement_bytes lines
  pub count : r.b ≡ length lines
  pub keeps : KeepsOrder R lines
  pub shortest : (others : List (List ℕ)) → KeepsOrder R others → r.b ≤ length others

-- "replay writes that sequence's markings for its lines"
pub record Replayed (N : Net) (R : RunRecord) (lines : List (List ℕ)) (r : Numbers) (new : List ℕ) : Type 0 where
  pub accepted : r.number ≡ 0
  pub played : r.a ≡ length lines
  pub rows : (k p : ℕ) → k ≤ length lines → p < 32
      → get_or new (32 * k + p) 0 ≡ tokens_at (marking_at N (as_steps R lines) k) p

-- "Of two different events, the order, and with it the check's table, has one strictly before the other exactly when
-- it stands in an earlier step in every such arrangement, and not later exactly when it stands in a later step in
-- none."
pub record Checked (R : RunRecord) (r : Numbers) (new : List ℕ) : Type 0 where
  pub accepted : r.number ≡ 0
  pub strict : (e f : ℕ) → TwoEvents R e f
      → (get_or new (128 * e + f) 0 ≡ 2) ↔ InEvery R (λ lines. StandsEarlier e f lines)
  pub weak : (e f : ℕ) → TwoEvents R e f
      → ((get_or new (128 * e + f) 0 ≡ 1) ⊎ (get_or new (128 * e + f) 0 ≡ 2))
      ↔ InNone R (λ lines. StandsEarlier f e lines)

-- "Net (read alone, it returns how many places and transitions it has)"
pub record NetCounted (N : Net) (r : Numbers) : Type 0 where
  pub accepted : r.number ≡ 0
  pub places : r.a ≡ places N
  pub transitions : r.b ≡ N.transitions

-- the buffers that are lent to the check, to arranging and to replay
pub record Buffers : Type 0 where
  pub table : List ℕ
  pub out : List ℕ
  pub rows : List ℕ

abbrev pub buffers : List ℕ → List ℕ → List ℕ → Buffers
buffers t o r = record { table = t; out = o; rows = r }

-- "buffers of the stated sizes"
pub record StatedSizes (b : Buffers) : Type 0 where
  pub table : 16384 ≤ length b.table
  pub out : 768 ≤ length b.out
  pub rows : 4128 ≤ length b.rows

-- The calls on the net text of N and the record text of R, and on any text of an arrangement, whichever endings its
-- lines have; `new` is what they left. "Every arrangement that keeps the order is, read as transitions, an enabled step
-- sequence of the net; replay writes that sequence's markings for its lines, and all such arrangements end in the same
-- marking."
pub record OrderOfCalls (arrangement : List ℕ) (N : Net) (R : RunRecord) (r : Calls) (new : Buffers) : Type 0 where
  pub net : NetCounted N r.net
  pub checks : Checked R r.check new.table
  pub arranges : Arranged R r.arrange new.out
  pub enabled : (lines : List (List ℕ)) → KeepsOrder R lines → EnabledSequence N (as_steps R lines)
  pub replays : (lines : List (List ℕ)) → KeepsOrder R lines → plain_ends arrangement ≡ arrangement_bytes lines
      → Replayed N R lines r.replay new.rows
  pub one_end : (lines others : List (List ℕ)) → KeepsOrder R lines → KeepsOrder R others
      → marking_at N (as_steps R lines) (length lines) ≡ marking_at N (as_steps R others) (length others)

-- "For every accepted net and record": "All the calls get the same net and buffers of the stated sizes; check, replay
-- and arranging get the same record"
abbrev pub OrderPromised : List ℕ → List ℕ → List ℕ → Buffers → Calls → Buffers → Type 0
OrderPromised net text arrangement old r new =
    (N : Net) (R : RunRecord) → read_net net ≡ gives N → read_record bench N text ≡ gives R → StatedSizes old
    → OrderOfCalls arrangement N R r new

-- "the record built from it is accepted, and that sequence is among the arrangements that keep the record's order.":
-- "a built record is the bytes that building wrote", and all that is said of calls holds of them
pub record RunOfCalls (arrangement : List ℕ) (N : Net) (steps : List (List ℕ)) (r : RunCalls) (written : List ℕ)
    (new : Buffers) : Type 0 where
  pub accepted : r.build.number ≡ 0
  pub run : RunRecord
  pub reads : read_record bench N (take r.build.a written) ≡ gives run
  pub among : KeepsOrder run (event_lines 0 steps)
  pub steps_back : as_steps run (event_lines 0 steps) ≡ steps
  pub calls : OrderOfCalls arrangement N run r.calls new

-- "For every enabled step sequence within the limits"
abbrev pub RunPromised : List ℕ → List ℕ → List ℕ → List ℕ → Buffers → RunCalls → List ℕ → Buffers → Type 0
RunPromised net log arrangement room old r written new =
    (N : Net) (steps : List (List ℕ)) → read_net net ≡ gives N → plain_ends log ≡ log_bytes steps
    → EnabledSequence N steps → WithinLimits N steps
    → 48256 ≤ length room → StatedSizes old → RunOfCalls arrangement N steps r written new
