-- Building a run record from a step log (01, "Steps", "Building"; 02, 2026-01; refusals 20 to 27).
use Rattle.std.specs.Prelude.{ℕ, suc, ◌+◌, Bool, false, not, ◌&&◌, ◌||◌, cond, List, [], ◌∷◌, ◌++◌, map, length, get_or, replicate, eqb, ltb, leb}
use Rattle.std.proofs.Math.Option.{Option, none, some}
use Rattle.spec.specs.Lists.{any, up_to, lowest, flat}
use Rattle.spec.specs.Answer.{Answer, gives, ◌>>=◌, ◌>>◌, refuse◌at◌when◌}
use Rattle.spec.specs.Text.{Line, lines_of, by_lines}
use Rattle.spec.specs.Forms.{is_list_line, numbers_of}
use Rattle.spec.specs.Net.{Net, places, takes, makes, reads, read_net}
use Rattle.spec.specs.Step.{short, inhibited, play}
use Rattle.spec.specs.Record.{RunRecord, Condition, Mark, bench, names, is_none, transition_of, condition_at, due, record_bytes}
use Rattle.spec.specs.declared.Limits.{Limits}
use Rattle.spec.specs.declared.MarkKind.TheVariants.{Before, After, Read}

-- an event of a log: its transition and the number of its step
pub record Event : Type 0 where
  pub transition : ℕ
  pub step : ℕ

unfoldable pub no_event : Event
no_event = record { transition = 0; step = 0 }

-- what has been played: the running marking, the events and the conditions so far
pub record Run : Type 0 where
  pub marking : List ℕ
  pub events : List Event
  pub conditions : List Condition

-- ---- "Conditions: initial ones by place, then each event's outputs by place."

unfoldable pub initial_of : ℕ → List ℕ → List Condition
initial_of p [] = []
initial_of p (k ∷ ks) = replicate k (record { place = p; producer = none; consumer = none }) ++ initial_of (suc p) ks

unfoldable pub start : Net → Run
start n = record { marking = n.tokens; events = []; conditions = initial_of 0 n.tokens }

-- each place as often as transition t makes a token there, by place
unfoldable pub outputs_of : Net → ℕ → List ℕ
outputs_of n t = flat (map (λ p. replicate (makes n t p) p) (up_to (places n)))

unfoldable pub made_by : ℕ → ℕ → Condition
made_by e p = record { place = p; producer = some e; consumer = none }

-- what the events of a step, numbered from e, make
unfoldable pub make_all : Net → ℕ → List ℕ → List Condition
make_all n e [] = []
make_all n e (t ∷ ts) = map (made_by e) (outputs_of n t) ++ make_all n (suc e) ts

-- ---- "An event takes, for each input place, the lowest-numbered condition that held when its step began and that no
-- earlier event of the step took."

-- a condition of place p that no event has taken
unfoldable pub is_free : ℕ → Condition → Bool
is_free p c = eqb c.place p && is_none c.consumer

unfoldable pub consumed_by : ℕ → Condition → Condition
consumed_by e c = record { place = c.place; producer = c.producer; consumer = some e }

-- event e takes the lowest-numbered such condition
unfoldable pub consume : ℕ → ℕ → List Condition → List Condition
consume e p [] = []
consume e p (c ∷ cs) = cond (is_free p c) (consumed_by e c ∷ cs) (c ∷ consume e p cs)

unfoldable pub consume_all : ℕ → List ℕ → List Condition → List Condition
consume_all e [] cs = cs
consume_all e (p ∷ ps) cs = consume_all e ps (consume e p cs)

-- each place as often as transition t takes a token from it, by place
unfoldable pub inputs_of : Net → ℕ → List ℕ
inputs_of n t = flat (map (λ p. replicate (takes n t p) p) (up_to (places n)))

-- the events of a step, numbered from e, take from the conditions that held when it began, in their order
unfoldable pub take_all : Net → ℕ → List ℕ → List Condition → List Condition
take_all n e [] cs = cs
take_all n e (t ∷ ts) cs = take_all n (suc e) ts (consume_all e (inputs_of n t) cs)

-- ---- a step, and a sequence of steps

unfoldable pub in_step : ℕ → ℕ → Event
in_step k t = record { transition = t; step = k }

-- step k is played: "Events follow the log."
unfoldable pub play_step : Net → ℕ → List ℕ → Run → Run
play_step n k ts r =
    record {
      marking = play n r.marking ts;
      events = r.events ++ map (in_step k) ts;
      conditions = take_all n (length r.events) ts r.conditions ++ make_all n (length r.events) ts;
    }

unfoldable pub play_steps : Net → ℕ → List (List ℕ) → Run → Run
play_steps n k [] r = r
play_steps n k (ts ∷ tss) r = play_steps n (suc k) tss (play_step n k ts r)

unfoldable pub run_of : Net → List (List ℕ) → Run
run_of n steps = play_steps n 1 steps (start n)

-- ---- "one mark, B or A, for each condition and event where the condition's place inhibits the event's transition
-- and the event isn't its producer" (`due` of `Record`). "Marks stand by event, then condition."

-- the events and conditions of a run, as a record that has no marks yet
abbrev pub unmarked : Run → RunRecord
unmarked r = record { events = map (λ v. v.transition) r.events; conditions = r.conditions; marks = [] }

-- the number of the step of event e
abbrev pub step_of : List Event → ℕ → ℕ
step_of es e = (get_or es e no_event).step

-- the producer or consumer, if there is one, is an event of a step earlier than that of event e
unfoldable pub is_earlier : List Event → Option ℕ → ℕ → Bool
is_earlier es none e = false
is_earlier es (some f) e = ltb (step_of es f) (step_of es e)

-- "A mark is A if the condition was consumed in a step earlier than the marked event's, else B.": the mark of event e
-- at condition c
unfoldable pub mark_at : Run → ℕ → ℕ → Mark
mark_at r e c =
    let early : Bool = is_earlier r.events (condition_at (unmarked r) c).consumer e in
    record { kind = cond early After Before; condition = c; event = e }

-- ---- 2026-01: "The builder marks the lowest-numbered condition that held when the reader's step began, taken in that
-- step or not, and reading takes nothing; R stands with the other marks by event, then condition."

-- condition c is of place p and held when the step of event e began: it is initial or was produced in an earlier step,
-- and was consumed in none
unfoldable pub held_in : Run → ℕ → ℕ → ℕ → Bool
held_in r p e c =
    let k : Condition = condition_at (unmarked r) c in
    eqb k.place p
    && (is_none k.producer || is_earlier r.events k.producer e)
    && not (is_earlier r.events k.consumer e)

-- the lowest-numbered of them
unfoldable pub lowest_held : Run → ℕ → ℕ → Option ℕ
lowest_held r p e = lowest (held_in r p e) (length r.conditions)

-- event e reads condition c: its transition reads the condition's place, and c is the one that it marks there
unfoldable pub read_by : Net → Run → ℕ → ℕ → Bool
read_by n r c e =
    let p : ℕ = (condition_at (unmarked r) c).place in
    reads n p (transition_of (unmarked r) e) && names (lowest_held r p e) c

unfoldable pub read_mark : ℕ → ℕ → Mark
read_mark e c = record { kind = Read; condition = c; event = e }

-- ---- all marks

-- the mark, where the test passes
unfoldable pub mark_if : Bool → Mark → List Mark
mark_if b m = cond b (m ∷ []) []

-- the marks of event e at condition c
unfoldable pub marks_at : Net → Run → ℕ → ℕ → List Mark
marks_at n r e c = mark_if (due n (unmarked r) c e) (mark_at r e c) ++ mark_if (read_by n r c e) (read_mark e c)

-- the marks of event e, by condition
unfoldable pub marks_of : Net → Run → ℕ → List Mark
marks_of n r e = flat (map (marks_at n r e) (up_to (length r.conditions)))

-- all marks, by event
unfoldable pub marks_due : Net → Run → List Mark
marks_due n r = flat (map (marks_of n r) (up_to (length r.events)))

unfoldable pub record_of : Net → Run → RunRecord
record_of n r = record { events = (unmarked r).events; conditions = r.conditions; marks = marks_due n r }

-- the record that building names for a step sequence
unfoldable pub record_for : Net → List (List ℕ) → RunRecord
record_for n steps = record_of n (run_of n steps)

-- ---- "Build: 20 buffer under 48,256 bytes (spot 0); net's; per line 21 malformed, 22 unknown transition, 23 over
-- 128 events, 24 too few tokens, 25 inhibited, 26 over 512 conditions, 27 over 4,096 marks (spot: line). 27 counts
-- the marks due when that line is played."

-- "A log line is `S` and one or more transitions, repeats allowed."
unfoldable pub is_step_line : Line → Bool
is_step_line l = is_list_line "S" l

unfoldable pub log_line : Limits → Net → ℕ → Line → Run → Answer Run
log_line lim n k l r = do
  refuse 21 at k when not (is_step_line l)
  let ts : List ℕ = numbers_of l
  refuse 22 at k when any (leb n.transitions) ts
  refuse 23 at k when ltb lim.events (length r.events + length ts)
  refuse 24 at k when short n r.marking ts
  refuse 25 at k when inhibited n r.marking ts
  let r' : Run = play_step n k ts r
  refuse 26 at k when ltb lim.conditions (length r'.conditions)
  refuse 27 at k when ltb lim.marks (length (marks_due n r'))
  gives r'

-- the lines of a log are played
unfoldable pub play_log : Limits → Net → List Line → Answer Run
play_log lim n ls = by_lines (log_line lim n) 1 ls (start n)

unfoldable pub built : Limits → Net → List Line → Answer RunRecord
built lim n ls = do
  r ← play_log lim n ls
  gives (record_of n r)

-- the bytes that building writes into a buffer of so many bytes
unfoldable pub build : List ℕ → List ℕ → ℕ → Answer (List ℕ)
build net log room = do
  refuse 20 at 0 when ltb room 48256
  n ← read_net net
  r ← built bench n (lines_of log)
  gives (record_bytes r)
