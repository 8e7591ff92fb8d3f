-- Arranging, from its buffer to its answer.
use Rattle.std.specs.Prelude.{Result, Ok, Err}
use Prim.Native.Nat.{ℕ, ◌≤◌, ◌<◌}
use mathlib.Core.Path.{◌≡◌, refl, sym, ap, ◌∙◌, subst}
use mathlib.Core.List.{List}
use native.Mathlib.Nat.{le_trans}
use lib.ListN.{length}
use borrow.Author.Tests.{lt-ltb, le-ltb}
use Rattle.spec.specs.Answer.{Answer, gives, refuses, ◌>>=◌, ◌>>◌, refuse◌at◌when◌, returned}
use Rattle.spec.specs.Record.{bench}
use Rattle.spec.specs.Arranging.{Arranged as ArrangedD, levels, arranged_lines, arrangement_bytes, arranged_of, arrange}
use Rattle.spec.specs.Buffer.{leaves, arrange_leaves}
use Rattle.order.specs.Order.{Order}
use Rattle.reach.specs.Rows.{cell_of}
use Rattle.row_facts.specs.Counts.{Ready}
use Rattle.runs.specs.Answers.{not-refused}
use Rattle.lines.specs.Agree.{giving, refusing}
use Rattle.accepting.specs.Accepting.{Accepts}
use Rattle.accepting.specs.declared.Refusal.{Refusal}
use Rattle.accepting.specs.declared.Accepted.{Accepted}
use Rattle.accepting.proofs.Accepting.{accepted-process}
use Rattle.spec.specs.Values.{arrange_values}
use Rattle.arranging.specs.Answers.{levels_in, WritesLines, answer_of, Arranges}
use Rattle.arranging.specs.declared.Arranged.{Arranged}
use Rattle.arranging.specs.declared.ArrangeRefusal.{ArrangeRefusal}
use Rattle.arranging.specs.declared.ArrangeRefusal.TheVariants.{BufferShort, Refused}
use Rattle.arranging.proofs.Levels.{order-held, levels-held, lines-held}

module _ (net text old : List ℕ) where
  -- the answer and the buffer, once the definition's answer is known
  arrange-is : (x : Answer ArrangedD) {r : Result Arranged ArrangeRefusal} {new : List ℕ} → arrange net text (length old) ≡ x → answer_of r ≡ returned arrange_values x → new ≡ arrange_leaves x old → Arranges net text old r new
  arrange-is x e y z = record { answer = y ∙ sym (ap (returned arrange_values) e); buffer = z ∙ sym (ap (λ a. arrange_leaves a old) e) }

  -- a refusal leaves the buffer as it was
  refuses-all : {n s : ℕ} (r : Result Arranged ArrangeRefusal) → arrange net text (length old) ≡ refuses n s → answer_of r ≡ refuses n s → Arranges net text old r old
  unfolding returned arrange_leaves leaves
  refuses-all {n} {s} r e y = arrange-is (refuses n s) e y refl

  -- 50
  pub short-arranges : length old < 768 → Arranges net text old (Err BufferShort) old
  unfolding arrange refuse◌at◌when◌ ◌>>◌
  short-arranges h = refuses-all (Err BufferShort) (rw (lt-ltb (length old) 768 h)) refl

  module _ (room : 768 ≤ length old) (t : List ℕ) where
    -- a refusal of the net or the record
    pub refused-arranges : (x : Refusal) → Accepts bench net text (Err x) t → Arranges net text old (Err (Refused x)) old
    unfolding arrange refuse◌at◌when◌ ◌>>◌ ◌>>=◌ returned
    refused-arranges x (giving b e y H) = not-refused y
    refused-arranges x (refusing n s e y) =
        refuses-all (Err (Refused x)) (rw (le-ltb (length old) 768 room, e)) (ap (returned (λ (u : Unit {0}). (0, 0, 0))) y)

    module _ {a : Accepted} where
      -- an accepted record: its order is in the rows, and its lines fit the buffer
      pub given-ready : Accepts bench net text (Ok a) t → Ready a.events t × Order a.events (cell_of t) × (length (arrangement_bytes (arranged_lines (levels_in a.events t))) ≤ length old)
      given-ready (refusing n s e y) = not-refused (sym y)
      given-ready (giving b e y H) =
          let w = accepted-process bench net text b e in (
            subst (λ (n : ℕ). Ready n t) (sym H.events) H.order.ready,
            order-held b.net b.run w.0 w.1 a.events t H.events H.order,
            le_trans (lines-held b.net b.run w.0 w.1 a.events t H.events H.order H.few) room,
          )

      -- and they are what is written
      pub given-arranges : {r : Arranged} {new : List ℕ} → Accepts bench net text (Ok a) t → WritesLines (levels_in a.events t) old r new → Arranges net text old (Ok r) new
      unfolding arrange arranged_of refuse◌at◌when◌ ◌>>◌ ◌>>=◌ returned arrange_leaves leaves
      given-arranges (refusing n s e y) W = not-refused (sym y)
      given-arranges {r} {new} (giving b e y H) W =
          let w = accepted-process bench net text b e in
          let z = levels-held b.net b.run w.0 w.1 a.events t H.events H.order in
          let X : WritesLines (levels b.run) old r new = rw (← z) W in
          arrange-is (gives (arranged_of b.run)) (rw (le-ltb (length old) 768 room, e)) (rw (X.bytes, X.lines)) X.buffer
