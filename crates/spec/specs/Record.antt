-- Run records and the bytes of one (01, "Record"; 02, 2026-01).
use Rattle.std.specs.Prelude.{ℕ, Bool, true, false, not, ◌&&◌, List, [], ◌∷◌, ◌++◌, map, get_or, eqb}
use Rattle.std.proofs.Math.Option.{Option, none, some}
use Rattle.spec.specs.Lists.{any, flat}
use Rattle.spec.specs.Text.{line_with}
use Rattle.spec.specs.Net.{Net, inhibits}
use Rattle.spec.specs.declared.Field.{Field}
use Rattle.spec.specs.declared.Field.TheVariants.{Number, Dash}
use Rattle.spec.specs.declared.MarkKind.{MarkKind}
use Rattle.spec.specs.declared.MarkKind.TheVariants.{Before, After, Read}
use Rattle.spec.specs.declared.Limits.{Limits}

-- "`C,place,producer,consumer` (conditions; `-` for initial or unconsumed)": producer and consumer are events, or none
pub record Condition : Type 0 where
  pub place : ℕ
  pub producer : Option ℕ
  pub consumer : Option ℕ

-- "marks `B,condition,event` or `A,condition,event`": Busi and Pinna's before and after arcs;
-- 2026-01: "a record line `R,condition,event` stands among the marks"
pub record Mark : Type 0 where
  pub kind : MarkKind
  pub condition : ℕ
  pub event : ℕ

-- "All `E,transition` (events), then all [conditions], then all marks"; events: the transition of each event
pub record RunRecord : Type 0 where
  pub events : List ℕ
  pub conditions : List Condition
  pub marks : List Mark

-- "At most 128 events, 512 conditions, 4,096 marks."
unfoldable pub bench : Limits
bench = record { events = 128; conditions = 512; marks = 4096 }

-- what stands for a condition beyond the last
unfoldable pub no_condition : Condition
no_condition = record { place = 0; producer = none; consumer = none }

abbrev pub transition_of : RunRecord → ℕ → ℕ
transition_of r e = get_or r.events e 0

abbrev pub condition_at : RunRecord → ℕ → Condition
condition_at r c = get_or r.conditions c no_condition

-- the producer or consumer is event e
unfoldable pub names : Option ℕ → ℕ → Bool
names none e = false
names (some f) e = eqb f e

unfoldable pub is_none : Option ℕ → Bool
is_none none = true
is_none (some f) = false

-- "34 lets R stand beside B or A but not twice": B and A share one slot of a condition and an event, R has its own
unfoldable pub slot_of : MarkKind → ℕ
slot_of Before = 0
slot_of After = 0
slot_of Read = 1

abbrev pub guard_slot : ℕ
guard_slot = 0

abbrev pub read_slot : ℕ
read_slot = 1

-- the mark stands in slot s of condition c and event e
unfoldable pub is_at : ℕ → ℕ → ℕ → Mark → Bool
is_at s c e m = eqb (slot_of m.kind) s && eqb m.condition c && eqb m.event e

unfoldable pub marked : RunRecord → ℕ → ℕ → ℕ → Bool
marked r s c e = any (is_at s c e) r.marks

-- ".. where the condition's place inhibits the event's transition and the event isn't its producer": a mark, B or A, is
-- due at condition c and event e
unfoldable pub due : Net → RunRecord → ℕ → ℕ → Bool
due n r c e = inhibits n (condition_at r c).place (transition_of r e) && not (names (condition_at r c).producer e)

-- ---- the record as a text

unfoldable pub event_field : Option ℕ → Field
event_field none = Dash
event_field (some e) = Number e

unfoldable pub event_line : ℕ → List ℕ
event_line t = line_with "E" (Number t ∷ [])

unfoldable pub condition_line : Condition → List ℕ
condition_line c = line_with "C" (Number c.place ∷ event_field c.producer ∷ event_field c.consumer ∷ [])

unfoldable pub mark_line_of : MarkKind → ℕ → ℕ → List ℕ
mark_line_of Before c e = line_with "B" (Number c ∷ Number e ∷ [])
mark_line_of After c e = line_with "A" (Number c ∷ Number e ∷ [])
mark_line_of Read c e = line_with "R" (Number c ∷ Number e ∷ [])

unfoldable pub mark_line : Mark → List ℕ
mark_line m = mark_line_of m.kind m.condition m.event

unfoldable pub record_bytes : RunRecord → List ℕ
record_bytes r =
    flat (map event_line r.events)
    ++ flat (map condition_line r.conditions)
    ++ flat (map mark_line r.marks)
