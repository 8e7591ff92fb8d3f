-- What a process is (01, "Record"; 02, 2026-01; 004, definition 2; 000, section 5), and when the numbers of a record name
-- something.
use Rattle.std.specs.Prelude.{◌≡◌, ℕ, ◌<◌, Bool, true, false, ◌&&◌, length, eqb, ltb}
use Rattle.std.proofs.Math.Option.{Option, none, some}
use Rattle.spec.specs.Lists.{In, count, as_count}
use Rattle.spec.specs.Net.{Net, places, takes, makes, reads}
use Rattle.spec.specs.Step.{tokens_at}
use Rattle.spec.specs.Record.{RunRecord, Condition, Mark, transition_of, condition_at, names, is_none, slot_of, guard_slot, read_slot, is_at, due}
use Rattle.spec.specs.Order.{StrictlyBefore}
use Rattle.spec.specs.declared.MarkKind.{MarkKind}
use Rattle.spec.specs.declared.MarkKind.TheVariants.{Before, After, Read}

unfoldable pub initial_in : ℕ → Condition → Bool
initial_in p c = eqb c.place p && is_none c.producer

unfoldable pub consumed_in : ℕ → ℕ → Condition → Bool
consumed_in e p c = eqb c.place p && names c.consumer e

unfoldable pub produced_in : ℕ → ℕ → Condition → Bool
produced_in e p c = eqb c.place p && names c.producer e

-- the mark is an R mark of event e, on a condition of place p
unfoldable pub read_in : RunRecord → ℕ → ℕ → Mark → Bool
read_in r e p m = eqb (slot_of m.kind) read_slot && eqb m.event e && eqb (condition_at r m.condition).place p

-- the condition lacks what a mark of this kind stands by: a producer under B, a consumer under A, nothing under R
unfoldable pub wrong_end : MarkKind → Condition → Bool
wrong_end Before c = is_none c.producer
wrong_end After c = is_none c.consumer
wrong_end Read c = false

-- "A process has:"
pub record Process (N : Net) (R : RunRecord) : Type 0 where
  -- "per place, as many initial conditions as initial tokens;"
  pub initial : (p : ℕ) → p < places N → count (initial_in p) R.conditions ≡ tokens_at N.tokens p
  -- "for each event and place, one consumed condition if that input arc exists, else none; the same for outputs;"
  pub arcs : (e p : ℕ) → e < length R.events → p < places N
      → (count (consumed_in e p) R.conditions ≡ takes N (transition_of R e) p)
      × (count (produced_in e p) R.conditions ≡ makes N (transition_of R e) p)
  -- "one mark, B or A, for each condition and event where the condition's place inhibits the event's transition and
  -- the event isn't its producer; no other mark", of these two kinds;
  pub marks : (c e : ℕ) → c < length R.conditions → e < length R.events
      → count (is_at guard_slot c e) R.marks ≡ as_count (due N R c e)
  -- 2026-01: "Each event has exactly one R mark, on a condition of that place, per read arc, and no other.";
  pub readings : (e p : ℕ) → e < length R.events → p < places N
      → count (read_in R e p) R.marks ≡ as_count (reads N p (transition_of R e))
  -- "B only on a produced, A only on a consumed condition;"
  pub kinds : (m : Mark) → In m R.marks → wrong_end m.kind (condition_at R m.condition) ≡ false
  -- "no cycle of the pairs below with a strict one in it."
  pub acyclic : (e : ℕ) → ¬ StrictlyBefore R e e

-- none, or an event below n
unfoldable pub is_below : ℕ → Option ℕ → Bool
is_below n none = true
is_below n (some e) = ltb e n

-- every number of the record names something
pub record WellFormed (N : Net) (R : RunRecord) : Type 0 where
  pub known : (t : ℕ) → In t R.events → t < N.transitions
  pub placed : (c : Condition) → In c R.conditions → c.place < places N
  pub producers : (c : Condition) → In c R.conditions → is_below (length R.events) c.producer ≡ true
  pub consumers : (c : Condition) → In c R.conditions → is_below (length R.events) c.consumer ≡ true
  pub conditions : (m : Mark) → In m R.marks → m.condition < length R.conditions
  pub events : (m : Mark) → In m R.marks → m.event < length R.events
