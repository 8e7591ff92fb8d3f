-- The check's answers, and what it leaves in the buffer.
use Rattle.std.specs.Prelude.{Ok, Err}
use mathlib.Core.Path.{◌≡◌, refl, sym, ap, subst}
use Prim.Native.Nat.{ℕ, ◌≤◌, ◌<◌}
use mathlib.Core.List.{List}
use lib.ListN.{length}
use borrow.Author.Tests.{lt-ltb, le-ltb}
use Rattle.spec.specs.Answer.{gives, refuses, ◌>>=◌, ◌>>◌, refuse◌at◌when◌, returned}
use Rattle.spec.specs.Checking.{accepts, Accepted as AcceptedD, checked_of, check_within}
use Rattle.spec.specs.Buffer.{leaves, check_leaves}
use Rattle.spec.specs.declared.Limits.{Limits}
use Rattle.lists.specs.Mapped.{Mapped}
use Rattle.reach.specs.Rows.{cell_of}
use Rattle.order.specs.Order.{Order}
use Rattle.order.proofs.Order.{order_same}
use Rattle.row_facts.specs.Counts.{Ready}
use Rattle.row_table.specs.Table.{byte_in}
use Rattle.runs.specs.Values.{order_of, order}
use Rattle.runs.specs.Answers.{not-refused}
use Rattle.lines.specs.Agree.{giving, refusing}
use Rattle.row_independence.specs.Pairs.{independent_pairs}
use Rattle.accepting.specs.Accepting.{Accepts}
use Rattle.accepting.specs.declared.Refusal.{Refusal}
use Rattle.accepting.specs.declared.Accepted.{Accepted}
use Rattle.accepting.proofs.Accepting.{accepted-process}
use Rattle.checking.specs.Checking.{Checks}
use Rattle.checking.specs.declared.CheckRefusal.TheVariants.{BufferShort, Refused}
use Rattle.checking.proofs.CheckTable.{table-written, pairs-counted}

module _ (lim : Limits) (net text : List ℕ) where
  -- what is accepted has a closed order in its rows
  pub order-given : (a : Accepted) (t : List ℕ) → Accepts lim net text (Ok a) t → Ready a.events t × Order a.events (cell_of t)
  order-given a t (giving b e y k) =
      let w = accepted-process lim net text b e in
      subst (λ (n : ℕ). Ready n t × Order n (cell_of t)) (sym k.events) (k.order.ready, order_same _ (cell_of t) (order_of b.run) k.order.cell (order b.net b.run w.0 w.1))
  order-given a t (refusing n p e y) = not-refused (sym y)

  -- ---- 30

  short : (room : ℕ) → room < 16384 → check_within lim net text room ≡ refuses 30 0
  unfolding check_within refuse◌at◌when◌ ◌>>◌
  short room h = rw (lt-ltb room 16384 h)

  pub short-checks : (out : List ℕ) → length out < 16384 → Checks (check_within lim net text (length out)) out (Err BufferShort) out
  unfolding returned check_leaves leaves
  short-checks out h = rw (short (length out) h) (record { answer = refl; buffer = refl })

  module _ (out : List ℕ) (h : 16384 ≤ length out) where
    -- ---- a refusal of the net or the record

    refused : {n p : ℕ} → accepts lim net text ≡ refuses n p → check_within lim net text (length out) ≡ refuses n p
    unfolding check_within refuse◌at◌when◌ ◌>>◌ ◌>>=◌
    refused e = rw (le-ltb (length out) 16384 h, e)

    pub refused-checks : (t : List ℕ) (x : Refusal) → Accepts lim net text (Err x) t → Checks (check_within lim net text (length out)) out (Err (Refused x)) out
    unfolding returned check_leaves leaves
    refused-checks t x (giving b e y k) = not-refused y
    refused-checks t x (refusing n p e y) = rw (refused e) (record { answer = ap (returned (λ (u : Unit {0}). (0, 0, 0))) y; buffer = refl })

    -- ---- an accepted record

    given : (b : AcceptedD) → accepts lim net text ≡ gives b → check_within lim net text (length out) ≡ gives (checked_of b.run)
    unfolding check_within refuse◌at◌when◌ ◌>>◌ ◌>>=◌
    given b e = rw (le-ltb (length out) 16384 h, e)

    pub given-checks : (a : Accepted) (t new : List ℕ) (k : ℕ) → Accepts lim net text (Ok a) t → k ≡ independent_pairs a.events (cell_of t)
        → Mapped out 16384 (byte_in (cell_of t) a.events) new → Checks (check_within lim net text (length out)) out (Ok (record { events = a.events; conditions = a.conditions; independent = k })) new
    unfolding returned check_leaves leaves checked_of
    given-checks a t new k (refusing n p e y) c m = not-refused (sym y)
    given-checks a t new k (giving b e y z) c m =
        let w = accepted-process lim net text b e in
        rw (given b e) (record {
          answer = rw (z.events, z.conditions, c, pairs-counted b.net b.run t a.events w.0 z.order z.events) refl;
          buffer = table-written b.net b.run t a.events w.0 z.order z.events w.1 out new h m;
        })
