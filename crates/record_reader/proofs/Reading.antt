-- The lines of a record text, one after the other.
use Rattle.std.specs.Prelude.{Ok, Err}
use Prim.Native.Nat.{ℕ, ◌+◌, ◌*◌, ◌≤◌}
use mathlib.Core.Path.{◌≡◌, refl}
use mathlib.Core.List.{List, []}
use native.Mathlib.Omega.{arith}
use lib.ListN.{length, get_or, replicate, length-replicate}
use Rattle.spec.specs.Net.{Net}
use Rattle.spec.specs.Record.{RunRecord}
use Rattle.spec.specs.Checking.{enter_line, empty_record}
use Rattle.lines.specs.Agree.{Agrees, giving, refusing}
use Rattle.lines.proofs.ByLines.{Running, begun, turn, stop, done}
use Rattle.reach.proofs.Zero.{zero-sub, zero-cell}
use Rattle.record_columns.specs.Layout.{condition_words, mark_row, mark_value}
use Rattle.record_columns.specs.Enters.{answer_of, no_values, Holds, HoldsEntered, Fits, Spans}
use Rattle.record_reader.specs.Reads.{Declares, Takes, ReadsRecord}
use Rattle.record_columns.specs.declared.Bounds.{Bounds}
use Rattle.record_columns.specs.declared.Counts.{Counts}
use Rattle.record_reader.specs.declared.Took.{Took}
use Rattle.record_columns.specs.declared.RecordRefusal.{RecordRefusal}
use Rattle.record_reader.proofs.Widths.{width, line-grows}

-- ---- the lines so far

-- for every net with so many places and transitions
abbrev pub Reading : Bounds → List ℕ → ℕ → ℕ → Counts → List ℕ → List ℕ → Type 0
Reading b text k at s rec words = (N : Net) → Declares b N → Running (enter_line b.limits N) text empty_record k at (Holds s rec words)

abbrev no_counts : Counts
no_counts = record { events = 0; conditions = 0; marks = 0 }

pub entered-none : (b : Bounds) (text rec words : List ℕ) → 1664 ≤ length rec → ((i : ℕ) → get_or words i 0 ≡ 0) → Reading b text 1 0 no_counts rec words
unfolding empty_record mark_value
entered-none b text rec words long z N d = begun (enter_line b.limits N) text (record {
  columns = record {
    events = refl;
    conditions = refl;
    marks = refl;
    few_events = omega arith;
    few_conditions = omega arith;
    long = long;
    transition = λ e l. absurd (omega arith);
    place = λ c l. absurd (omega arith);
    producer = λ c l. absurd (omega arith);
    consumer = λ c l. absurd (omega arith);
  };
  marks = record { sub = zero-sub words z; cell = λ s c e l. zero-cell words z (mark_row c s) e };
})

-- a net with so many places and transitions
net_of : ℕ → ℕ → Net
net_of ps ts = record { tokens = replicate ps 0; transitions = ts; arcs = [] }

declared : (b : Bounds) → Declares b (net_of b.places b.transitions)
unfolding net_of
declared b = record { places = length-replicate {A = ℕ} b.places 0; transitions = refl }

module _ (b : Bounds) {text : List ℕ} {k at : ℕ} {s : Counts} {rec words : List ℕ} (g : Reading b text k at s rec words) where
  held : (R : RunRecord) × Holds s rec words R
  held = let h = g (net_of b.places b.transitions) (declared b) in (h.state, h.holds)

  pub fits : Fits s rec
  fits = let h = held.1.columns in record { events = h.few_events; conditions = h.few_conditions; long = h.long }

  pub spans : condition_words * s.conditions ≤ length words → Spans s words
  spans r = record { room = r; sub = held.1.marks.sub }

  module _ {r : Took} {rec' words' : List ℕ} (t : Takes b text at k s rec words (Ok r) rec' words') where
    pub entered_on : Reading b text (k + 1) r.next r.counts rec' words'
    entered_on N d = rw t.goes (turn (g N d) t.found ((t.enters N d).answers (g N d).state (g N d).holds) refl)

    -- a line that is entered ends within the text and before the next, and has eight bytes for each condition more
    pub grown : condition_words * r.counts.conditions ≤ condition_words * s.conditions + width t.found.line
    grown = go ((t.enters N (declared b)).answers held.0 held.1)
      where
        N : Net
        N = net_of b.places b.transitions

        go : Agrees no_values (answer_of (Ok r.counts)) (HoldsEntered (Ok r.counts) rec' words') (enter_line b.limits N k t.found.line held.0)
            → condition_words * r.counts.conditions ≤ condition_words * s.conditions + width t.found.line
        go (giving S q y o) = omega (arith, line-grows b.limits N k t.found.line held.0 S q, o.columns.conditions, held.1.columns.conditions)
        go (refusing n p q y) = cc

  pub entered-no : {x : RecordRefusal} {rec' words' : List ℕ} → Takes b text at k s rec words (Err x) rec' words' → ReadsRecord b text (Err x) rec' words'
  entered-no t N d = stop (g N d) t.found ((t.enters N d).answers (g N d).state (g N d).holds) refl

  pub entered_all : length text ≤ at → ReadsRecord b text (Ok s) rec words
  entered_all u N d = done (g N d) u refl (g N d).holds
