-- Replaying, from its buffer to its answer.
use Prim.Native.Nat.{ℕ, zero, suc, ◌+◌, ◌≤◌, ◌<◌}
use native.Mathlib.Nat.{zero-add}
use mathlib.Core.Path.{◌≡◌, refl, sym, ap, ◌∙◌}
use Rattle.std.proofs.Common.{Result, Ok, Err}
use mathlib.Core.List.{List, [], ◌∷◌}
use native.Mathlib.Omega.{arith}
use lib.ListN.{length, get_or}
use borrow.Author.Tests.{lt-ltb, le-ltb}
use Rattle.spec.specs.Lists.{sum}
use Rattle.spec.specs.Answer.{gives, refuses, ◌>>=◌, ◌>>◌, refuse◌at◌when◌, returned}
use Rattle.spec.specs.Record.{bench, transition_of}
use Rattle.spec.specs.Process.{WellFormed}
use Rattle.spec.specs.Checking.{accepts}
use Rattle.spec.specs.Replaying.{read_arrangement, replayed_of, replay}
use Rattle.spec.specs.Buffer.{leaves, replay_leaves}
use Rattle.runs.specs.Answers.{not-refused}
use Rattle.lines.specs.Agree.{Agrees, giving, refusing}
use Rattle.lines.proofs.Answers.{same-given, refuses≢gives}
use Rattle.accepting.specs.Accepting.{Accepts}
use Rattle.accepting.specs.declared.Refusal.{Refusal}
use Rattle.accepting.specs.declared.Accepted.{Accepted}
use Rattle.accepting.proofs.Accepting.{accepted-process, Took, event-known}
use Rattle.arrangement_reader.specs.Arrangement.{answer_of, lines_played}
use Rattle.reach.specs.Rows.{Good}
use Rattle.arrangement_reader.specs.Lined.{TellsOrder}
use Rattle.marking_rows.specs.Rows.{Playable, PutsRows}
use Rattle.played_lines.specs.Lines.{Arranged, JudgesLines, Describes}
use Rattle.replaying.specs.Replaying.{Replays}
use Rattle.arrangement_reader.specs.declared.ArrangementRefusal.{ArrangementRefusal}
use Rattle.replaying.specs.declared.ReplayRefusal.TheVariants.{BufferShort, Refused, Lines}
use Rattle.replaying.proofs.Telling.{tells-order}
use Rattle.played_lines.proofs.Markings.{rows-held}

-- ---- 40, and a refusal of the net or the record

module _ (net text arrangement : List ℕ) where
  short : (room : ℕ) → room < 4128 → replay net text arrangement room ≡ refuses 40 0
  unfolding replay ◌>>◌ refuse◌at◌when◌
  short room h = rw (lt-ltb room 4128 h)

  pub short-replays : (old : List ℕ) → length old < 4128 → Replays (replay net text arrangement (length old)) old (Err BufferShort) old
  unfolding returned replay_leaves leaves
  short-replays old h = rw (short (length old) h) (record { answer = refl; buffer = refl })

  module _ (old : List ℕ) (h : 4128 ≤ length old) where
    refused : {n s : ℕ} → accepts bench net text ≡ refuses n s → replay net text arrangement (length old) ≡ refuses n s
    unfolding replay ◌>>=◌ ◌>>◌ refuse◌at◌when◌
    refused e = rw (le-ltb (length old) 4128 h, e)

    pub refused-replays : (t : List ℕ) (x : Refusal) → Accepts bench net text (Err x) t → Replays (replay net text arrangement (length old)) old (Err (Refused x)) old
    unfolding returned replay_leaves leaves
    refused-replays t x (giving a e y k) = not-refused y
    refused-replays t x (refusing n s e y) = rw (refused e) (record { answer = ap (returned (λ (u : Unit {0}). (0, 0, 0))) y; buffer = refl })

-- ---- a net and a record that are accepted

one-most : (xs : List ℕ) (p : ℕ) → get_or xs p 0 ≤ sum xs
unfolding sum
one-most [] p = omega arith
one-most (x ∷ xs) zero = omega arith
one-most (x ∷ xs) (suc p) = omega (arith, one-most xs p)

module _ {net text : List ℕ} {r : Accepted} {tokens arcs rec t : List ℕ} where
  module _ (A : Took net text r tokens arcs rec t) where
    well : WellFormed A.accepted.net A.accepted.run
    well = (accepted-process bench net text A.accepted A.is).0

    few : r.events ≤ 128
    few = A.run.few

    pub order_is : TellsOrder r.events t A.accepted.run
    order_is = tells-order A.accepted.net A.accepted.run well A.run.events A.run.order.cell

    pub judge-room : (r.events ≤ 128) × Good t
    judge-room = (few, A.run.order.ready.good)

    -- the transitions of the events, in an array of their own
    module _ (ts : List ℕ) (c : (f : ℕ) → f < 128 → get_or ts f 0 ≡ get_or rec (0 + f) 0) where
      transition : (e : ℕ) → e < r.events → get_or ts e 0 ≡ transition_of A.accepted.run e
      transition e u = c e (omega (arith, few)) ∙ ap (λ (j : ℕ). get_or rec j 0) (zero-add e) ∙ A.lent.transitions e u

      known : (e : ℕ) → e < r.events → get_or ts e 0 < 32
      known e u = let n = A.lent.arrays.counts in
          omega (arith, transition e u, event-known A e u, n.few_transitions)

      describes : Describes r.places tokens arcs r.events ts A.accepted.net A.accepted.run
      describes = let k = A.lent.arrays in record {
        places = A.lent.places;
        tokens = k.counts.tokens;
        inputs = k.inputs;
        outputs = k.outputs;
        known = known;
        transition = transition;
      }

    -- ---- its arrangement

    module _ (arrangement old : List ℕ) (h : 4128 ≤ length old) where
      arranged : replay net text arrangement (length old) ≡ (read_arrangement A.accepted.run arrangement >>= λ gs. gives (replayed_of A.accepted.net A.accepted.run gs))
      unfolding replay ◌>>=◌ ◌>>◌ refuse◌at◌when◌
      arranged = rw (le-ltb (length old) 4128 h, A.is)

      judged : (b : Result ℕ ArrangementRefusal) {lined : List ℕ} → JudgesLines r.events t arrangement b lined → Agrees lines_played (answer_of b) (λ gs. Arranged r.events gs lined) (read_arrangement A.accepted.run arrangement)
      judged b J = J A.accepted.run order_is

      -- the arrangement that the lines are
      record Found (m : ℕ) (lined : List ℕ) : Type 0 where
        groups : List (List ℕ)
        is : read_arrangement A.accepted.run arrangement ≡ gives groups
        count : m ≡ length groups
        arranged : Arranged r.events groups lined

      -- lines that are no arrangement
      pub refused-lines : (x : ArrangementRefusal) {lined : List ℕ} → JudgesLines r.events t arrangement (Err x) lined → Replays (replay net text arrangement (length old)) old (Err (Lines x)) old
      unfolding ◌>>=◌ returned replay_leaves leaves
      refused-lines x J = go (judged (Err x) J)
        where
          go : {lined : List ℕ} → Agrees lines_played (answer_of (Err x)) (λ gs. Arranged r.events gs lined) (read_arrangement A.accepted.run arrangement) → Replays (replay net text arrangement (length old)) old (Err (Lines x)) old
          go (giving gs e y k) = absurd (refuses≢gives y)
          go (refusing n s e y) = rw (arranged, e) (record { answer = y; buffer = refl })

      -- an arrangement: what writing the rows relies on, and the rows
      module _ (m : ℕ) {lined : List ℕ} (J : JudgesLines r.events t arrangement (Ok m) lined) where
        found : Found m lined
        found = go (judged (Ok m) J)
          where
            go : Agrees lines_played (answer_of (Ok m)) (λ gs. Arranged r.events gs lined) (read_arrangement A.accepted.run arrangement) → Found m lined
            go (giving gs e y k) = record { groups = gs; is = e; count = ap (λ (z : ℕ × ℕ × ℕ). z.0) (same-given y); arranged = k }
            go (refusing n s e y) = absurd (refuses≢gives (sym y))

        pub playable : {ts : List ℕ} → ((f : ℕ) → f < 128 → get_or ts f 0 ≡ get_or rec (0 + f) 0) → Playable r.places tokens ts lined m
        playable {ts} c = let n = A.lent.arrays.counts in let k = found.arranged in record {
          places = omega (arith, A.lent.places, n.few_places);
          tokens = λ p. omega (arith, n.tokens p, one-most A.accepted.net.tokens p, n.most);
          groups = found.groups;
          ordered = k.ordered;
          lines = found.count;
          few = k.few;
          events = k.events;
          known = λ e u. (omega (arith, k.known e u, few), known ts c e (k.known e u));
        }

        pub played-lines : {ts : List ℕ} → ((f : ℕ) → f < 128 → get_or ts f 0 ≡ get_or rec (0 + f) 0) → {new : List ℕ} → PutsRows r.places tokens arcs ts lined m old new
            → Replays (replay net text arrangement (length old)) old (Ok m) new
        unfolding ◌>>=◌ returned replay_leaves leaves replayed_of
        played-lines {ts} c w = let k = found.arranged in rw (arranged, found.is) (record {
          answer = ap (λ (j : ℕ). gives (j, 0, 0)) found.count;
          buffer = rows-held (describes ts c) k.known k.few h (w found.groups k.ordered found.count);
        })
