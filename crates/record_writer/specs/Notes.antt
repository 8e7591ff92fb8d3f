-- Marks written, and noted in the words of a record.
use Rattle.std.specs.Prelude.{ℕ, ◌+◌, ◌≤◌, ◌<◌, max, ◌≡◌, true, not, ◌&&◌, List, ◌++◌, map, eqb, length, get_or}
use Rattle.spec.specs.Lists.{up_to, flat, as_count}
use Rattle.spec.specs.Record.{Mark, mark_line}
use Rattle.spec.specs.Building.{mark_if}
use Rattle.spec.specs.declared.MarkKind.TheVariants.{Read}
use Rattle.writing.specs.Written.{Wrote}
use Rattle.reach.specs.Rows.{Sub, row_of, cell_of}
use Rattle.bit_sets.specs.Bits.{bit}
use Rattle.arc_sets.specs.Sets.{read_at}
use Rattle.record_columns.specs.Layout.{conditions_most, mark_words, mark_slots, mark_row, no_event, mark_value}
use Rattle.record_columns.specs.Enters.{mark_of}
use Rattle.record_columns.specs.declared.Counts.{Counts}
use Rattle.line_writer.specs.Lines.{kind_if}
use Rattle.condition_sets.specs.Sets.{word_bits, bit_at, guards_of}
use Rattle.held_conditions.specs.Held.{place_in, producer_in, consumer_in, earlier_at, reads_condition}
use Rattle.record_writer.specs.Bytes.{event_lines, condition_lines}
use Rattle.record_writer.specs.declared.Ends.{Ends}
use Rattle.record_writer.specs.declared.Spot.{Spot}
use Rattle.record_writer.specs.declared.Part.{Part}

-- ---- which they are

-- event e's mark B or A at condition c, if b is 1 and e did not produce the condition
unfoldable pub guard_if : ℕ → List ℕ → List ℕ → ℕ → ℕ → List Mark
guard_if b rec ks e c =
    mark_if (eqb b 1 && not (eqb (producer_in rec c) e)) (mark_of (kind_if (earlier_at ks e (consumer_in rec c))) c e)

-- and its mark R there, if d is 1
unfoldable pub note_if : ℕ → ℕ → List ℕ → List ℕ → ℕ → ℕ → List Mark
note_if b d rec ks e c = guard_if b rec ks e c ++ mark_if (eqb d 1) (mark_of Read c e)

-- its marks at the first n conditions of those that w and v tell
unfoldable pub notes_if : (ℕ → ℕ) → (ℕ → ℕ) → List ℕ → List ℕ → ℕ → (ℕ → ℕ) → ℕ → List Mark
notes_if w v rec ks e at n = flat (map (λ i. note_if (w i) (v i) rec ks e (at i)) (up_to n))

-- at a spot, at the conditions of a part, and at those of the set of its transition and of the set that it reads
abbrev pub spot_notes : Spot → List ℕ → List ℕ → ℕ → List Mark
spot_notes spot rec ks e = note_if (as_count spot.guard) (as_count spot.read) rec ks e spot.condition

abbrev pub part_notes : Part → List ℕ → List ℕ → ℕ → List Mark
part_notes part rec ks e = notes_if (bit part.guards) (bit part.reads) rec ks e (λ i. part.first + i) word_bits

abbrev pub row_notes : List ℕ → List ℕ → List ℕ → List ℕ → ℕ → List Mark
row_notes watched reads rec ks e =
    notes_if (bit_at watched (get_or rec e 0)) (bit_at reads 0) rec ks e (λ c. c) conditions_most

-- the consumer of condition c is an event, or none; so are those of a spot, of a part, and of the set of event e's
-- transition, where its place inhibits
abbrev pub Consumer : List ℕ → ℕ → Type 0
Consumer rec c = consumer_in rec c ≤ no_event

abbrev pub SpotConsumer : Spot → List ℕ → Type 0
SpotConsumer spot rec = spot.guard ≡ true → Consumer rec spot.condition

abbrev pub PartConsumers : Part → List ℕ → Type 0
PartConsumers part rec = (i : ℕ) → i < word_bits → bit part.guards i ≡ 1 → Consumer rec (part.first + i)

abbrev pub RowConsumers : List ℕ → List ℕ → ℕ → Type 0
RowConsumers watched rec e = (c : ℕ) → c < conditions_most → bit_at watched (get_or rec e 0) c ≡ 1 → Consumer rec c

-- by the sets of a net's arcs: event e's marks at condition c, one of the first m; at all of them; and those of all events
unfoldable pub note_of : List ℕ → List ℕ → List ℕ → ℕ → ℕ → ℕ → List Mark
note_of arcs rec ks m e c =
    note_if (bit (guards_of arcs (get_or rec e 0)) (place_in rec c))
    (as_count (reads_condition rec ks (get_or arcs (read_at + get_or rec e 0) 0) e m c)) rec ks e c

unfoldable pub notes_of : List ℕ → List ℕ → List ℕ → ℕ → ℕ → List Mark
notes_of arcs rec ks m e = flat (map (note_of arcs rec ks m e) (up_to m))

unfoldable pub notes_to : List ℕ → List ℕ → List ℕ → ℕ → ℕ → List Mark
notes_to arcs rec ks m n = flat (map (notes_of arcs rec ks m) (up_to n))

abbrev pub run_notes : List ℕ → Counts → List ℕ → List ℕ → List Mark
run_notes arcs s rec ks = notes_to arcs rec ks s.conditions s.events

-- ---- as they are written and noted

-- where there are words for marks, these marks are noted there
pub record NotesMarks (ws : List Mark) (old new : List ℕ) : Type 0 where
  pub long : length new ≡ length old
  pub sub : ((i : ℕ) → Sub (row_of old i)) → (i : ℕ) → Sub (row_of new i)
  pub cell : mark_words ≤ length old → (s c e : ℕ) → s < mark_slots
      → cell_of new (mark_row c s) e ≡ max (cell_of old (mark_row c s) e) (mark_value ws s c e)

-- the lines of marks
abbrev pub text_of : List Mark → List ℕ
text_of ws = flat (map mark_line ws)

-- these marks are written and noted
pub record Puts (ws : List Mark) (a : Ends) (out words : List ℕ) (b : Ends) (out' words' : List ℕ) : Type 0 where
  pub text : Wrote out a.at (text_of ws) b.at out'
  pub next : b.marks ≡ a.marks + length ws
  pub noted : NotesMarks ws words words'

-- there is room for these marks
pub record Room (ws : List Mark) (a : Ends) (out words : List ℕ) : Type 0 where
  pub text : a.at + length (text_of ws) ≤ length out
  pub marks : a.marks + length ws ≤ 4096
  pub sub : (i : ℕ) → Sub (row_of words i)

-- ---- the whole record

-- a text that ends at a position, with no mark yet
abbrev pub unmarked : ℕ → Ends
unmarked at = record { at = at; marks = 0 }

-- its lines: the events, the conditions, the marks
unfoldable pub run_bytes : List ℕ → Counts → List ℕ → List ℕ → List ℕ
run_bytes arcs s rec ks =
    event_lines rec s.events ++ condition_lines rec s.conditions ++ text_of (run_notes arcs s rec ks)

-- the record of a run is written from the start of the buffer, and its marks are noted
pub record Recorded (arcs : List ℕ) (s : Counts) (rec ks out words : List ℕ) (r : Ends) (out' words' : List ℕ) : Type 0 where
  pub text : Wrote out 0 (run_bytes arcs s rec ks) r.at out'
  pub count : r.marks ≡ length (run_notes arcs s rec ks)
  pub noted : NotesMarks (run_notes arcs s rec ks) words words'
