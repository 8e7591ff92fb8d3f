-- Reading and checking a run record, and the table that the check writes (01, "Record", "Checking"; 02,
-- 2026-01; refusals 30 to 39).
use Rattle.std.specs.Prelude.{ℕ, Bool, true, false, not, ◌&&◌, ◌||◌, cond, List, [], ◌∷◌, ◌++◌, map, length, eqb, ltb, leb}
use Rattle.std.proofs.Math.Option.{Option}
use Rattle.spec.specs.Lists.{any, count, up_to, lowest, sum, flat, as_count}
use Rattle.spec.specs.Answer.{Answer, gives, refuses, ◌>>=◌, ◌>>◌, refuse◌at◌when◌, refuse◌at?◌}
use Rattle.spec.specs.Text.{Line, lines_of, by_lines}
use Rattle.spec.specs.Forms.{number, number_or_dash, is_line, number_at, event_at}
use Rattle.spec.specs.Net.{Net, places, takes, makes, reads, read_net}
use Rattle.spec.specs.Step.{tokens_at}
use Rattle.spec.specs.Record.{RunRecord, Condition, Mark, bench, slot_of, guard_slot, marked, due, transition_of, condition_at}
use Rattle.spec.specs.Order.{is_strictly_before, is_not_later}
use Rattle.spec.specs.Process.{initial_in, consumed_in, produced_in, read_in, wrong_end, is_below}
use Rattle.spec.specs.declared.Limits.{Limits}
use Rattle.spec.specs.declared.MarkKind.{MarkKind}
use Rattle.spec.specs.declared.MarkKind.TheVariants.{Before, After, Read}

-- ---- "per line 31 malformed or group out of order, 32 limit passed, 33 undeclared number, 34 condition and event
-- marked already (spot: line);" 2026-01: "34 lets R stand beside B or A but not twice"

unfoldable pub is_empty : {A : Type 0} → List A → Bool
is_empty [] = true
is_empty (x ∷ xs) = false

unfoldable pub with_event : ℕ → RunRecord → RunRecord
with_event t r = record { events = r.events ++ t ∷ []; conditions = r.conditions; marks = r.marks }

unfoldable pub with_condition : Condition → RunRecord → RunRecord
with_condition c r = record { events = r.events; conditions = r.conditions ++ c ∷ []; marks = r.marks }

unfoldable pub with_mark : Mark → RunRecord → RunRecord
with_mark m r = record { events = r.events; conditions = r.conditions; marks = r.marks ++ m ∷ [] }

-- events stand before conditions and marks
unfoldable pub enter_event : Limits → Net → ℕ → ℕ → RunRecord → Answer RunRecord
enter_event lim n k t r = do
  refuse 31 at k when not (is_empty r.conditions && is_empty r.marks)
  refuse 32 at k when leb lim.events (length r.events)
  refuse 33 at k when leb n.transitions t
  gives (with_event t r)

-- conditions stand before marks
unfoldable pub enter_condition : Limits → Net → ℕ → Condition → RunRecord → Answer RunRecord
enter_condition lim n k c r = do
  refuse 31 at k when not (is_empty r.marks)
  refuse 32 at k when leb lim.conditions (length r.conditions)
  let known : Option ℕ → Bool = is_below (length r.events)
  refuse 33 at k when not (ltb c.place (places n) && known c.producer && known c.consumer)
  gives (with_condition c r)

unfoldable pub enter_mark : Limits → ℕ → Mark → RunRecord → Answer RunRecord
enter_mark lim k m r = do
  refuse 32 at k when leb lim.marks (length r.marks)
  refuse 33 at k when not (ltb m.condition (length r.conditions) && ltb m.event (length r.events))
  refuse 34 at k when marked r (slot_of m.kind) m.condition m.event
  gives (with_mark m r)

unfoldable pub condition_of : Line → Condition
condition_of l = record { place = number_at l 0; producer = event_at l 1; consumer = event_at l 2 }

unfoldable pub mark_in : MarkKind → Line → Mark
mark_in x l = record { kind = x; condition = number_at l 0; event = number_at l 1 }

-- "`E,transition`", "`C,place,producer,consumer`", "`B,condition,event` or `A,condition,event`", "`R,condition,event`"
unfoldable pub enter_line : Limits → Net → ℕ → Line → RunRecord → Answer RunRecord
enter_line lim n k l r =
    cond (is_line "E" (number ∷ []) l) (enter_event lim n k (number_at l 0) r)
    (cond (is_line "C" (number ∷ number_or_dash ∷ number_or_dash ∷ []) l) (enter_condition lim n k (condition_of l) r)
    (cond (is_line "B" (number ∷ number ∷ []) l) (enter_mark lim k (mark_in Before l) r)
    (cond (is_line "A" (number ∷ number ∷ []) l) (enter_mark lim k (mark_in After l) r)
    (cond (is_line "R" (number ∷ number ∷ []) l) (enter_mark lim k (mark_in Read l) r)
    (refuses 31 k)))))

unfoldable pub empty_record : RunRecord
empty_record = record { events = []; conditions = []; marks = [] }

-- ---- "then 35 initial count (lowest place), 36 inputs or outputs, 37 mark missing or undue, 38 B on initial or A on
-- unconsumed, 39 event strictly before itself (36 to 39: lowest event), each rule over the whole record before the
-- next."

-- 35: the place has another number of initial conditions than of initial tokens
unfoldable pub wrong_initial : Net → RunRecord → ℕ → Bool
wrong_initial n r p = not (eqb (count (initial_in p) r.conditions) (tokens_at n.tokens p))

-- 36: for some place the event consumes or produces another number of conditions than its transition takes or makes
unfoldable pub wrong_arcs_at : Net → RunRecord → ℕ → ℕ → Bool
wrong_arcs_at n r e p =
    not (eqb (count (consumed_in e p) r.conditions) (takes n (transition_of r e) p)
    && eqb (count (produced_in e p) r.conditions) (makes n (transition_of r e) p))

unfoldable pub wrong_arcs : Net → RunRecord → ℕ → Bool
wrong_arcs n r e = any (wrong_arcs_at n r e) (up_to (places n))

unfoldable pub agree : Bool → Bool → Bool
agree true b = b
agree false b = not b

-- 37: at some condition the event's mark B or A is missing or undue,
unfoldable pub wrong_mark_at : Net → RunRecord → ℕ → ℕ → Bool
wrong_mark_at n r e c = not (agree (marked r guard_slot c e) (due n r c e))

unfoldable pub wrong_marks : Net → RunRecord → ℕ → Bool
wrong_marks n r e = any (wrong_mark_at n r e) (up_to (length r.conditions))

-- or at some place the event has another number of R marks than its transition's read arc asks for ("37 a wrong R mark")
unfoldable pub wrong_readings_at : Net → RunRecord → ℕ → ℕ → Bool
wrong_readings_at n r e p = not (eqb (count (read_in r e p) r.marks) (as_count (reads n p (transition_of r e))))

unfoldable pub wrong_readings : Net → RunRecord → ℕ → Bool
wrong_readings n r e = any (wrong_readings_at n r e) (up_to (places n))

unfoldable pub wrongly_marked : Net → RunRecord → ℕ → Bool
wrongly_marked n r e = wrong_marks n r e || wrong_readings n r e

-- 38: some mark of the event is B on an initial or A on an unconsumed condition
unfoldable pub wrong_kind_at : RunRecord → ℕ → Mark → Bool
wrong_kind_at r e m = eqb m.event e && wrong_end m.kind (condition_at r m.condition)

unfoldable pub wrong_kind : RunRecord → ℕ → Bool
wrong_kind r e = any (wrong_kind_at r e) r.marks

-- 39: the event is strictly before itself
unfoldable pub before_itself : RunRecord → ℕ → Bool
before_itself r e = is_strictly_before r e e

unfoldable pub obeys : Net → RunRecord → Answer (Unit {0})
obeys n r = do
  refuse 35 at? lowest (wrong_initial n r) (places n)
  refuse 36 at? lowest (wrong_arcs n r) (length r.events)
  refuse 37 at? lowest (wrongly_marked n r) (length r.events)
  refuse 38 at? lowest (wrong_kind r) (length r.events)
  refuse 39 at? lowest (before_itself r) (length r.events)

unfoldable pub read_record : Limits → Net → List ℕ → Answer RunRecord
read_record lim n text = do
  r ← by_lines (enter_line lim n) 1 (lines_of text) empty_record
  obeys n r
  gives r

-- ---- "net's; check's but 30": what check, replay and arrange share

-- a net and a record that are accepted
pub record Accepted : Type 0 where
  pub net : Net
  pub run : RunRecord

unfoldable pub accepts : Limits → List ℕ → List ℕ → Answer Accepted
accepts lim net text = do
  n ← read_net net
  r ← read_record lim n text
  gives (record { net = n; run = r })

-- ---- "The check writes 16,384 bytes: at 128 × e + f, 2 if e is strictly before f, 1 if only not later, else 0; 0
-- beyond the events."

unfoldable pub related : RunRecord → ℕ → ℕ → ℕ
related r e f = cond (is_strictly_before r e f) 2 (cond (is_not_later r e f) 1 0)

unfoldable pub table_at : RunRecord → ℕ → ℕ → ℕ
table_at r e f = cond (ltb e (length r.events) && ltb f (length r.events)) (related r e f) 0

unfoldable pub table_bytes : RunRecord → List ℕ
table_bytes r = flat (map (λ e. map (table_at r e) (up_to 128)) (up_to 128))

-- "strictly before, or not later than, the other in the closed order"
unfoldable pub ordered : RunRecord → ℕ → ℕ → Bool
ordered r e f = is_strictly_before r e f || is_not_later r e f

-- "independent pairs, unordered: two different events"; 2026-04: "a pair is independent when neither event is strictly
-- before, or not later than, the other in the closed order."
unfoldable pub independent : RunRecord → ℕ → ℕ → Bool
independent r e f = not (eqb e f) && not (ordered r e f) && not (ordered r f e)

-- each pair is counted once, at its higher event
unfoldable pub independent_pairs : RunRecord → ℕ
independent_pairs r = sum (map (λ e. count (independent r e) (up_to e)) (up_to (length r.events)))

-- "It also returns the events, conditions and independent pairs"
pub record Checked : Type 0 where
  pub events : ℕ
  pub conditions : ℕ
  pub independents : ℕ
  pub table : List ℕ

unfoldable pub checked_of : RunRecord → Checked
checked_of r =
    record {
      events = length r.events;
      conditions = length r.conditions;
      independents = independent_pairs r;
      table = table_bytes r;
    }

-- "Check: 30 buffer under 16,384 bytes (spot 0); net's; .."
unfoldable pub check_within : Limits → List ℕ → List ℕ → ℕ → Answer Checked
check_within lim net text room = do
  refuse 30 at 0 when ltb room 16384
  a ← accepts lim net text
  gives (checked_of a.run)

unfoldable pub check : List ℕ → List ℕ → ℕ → Answer Checked
check net text room = check_within bench net text room
