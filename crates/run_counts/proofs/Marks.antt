-- How many marks are due: each condition for each event that its place inhibits, but not for the event that made it; and one for each
-- place that an event reads.
use Prim.Native.Nat.{ℕ, ◌+◌, ◌*◌, ◌<◌}
use mathlib.Core.Path.{◌≡◌, sym, ap, ◌∙◌}
use mathlib.Core.Bool.{Bool, true, false, not, ◌&&◌, and-true}
use mathlib.Core.List.{List}
use native.Mathlib.Nat.{mul_comm}
use native.Mathlib.Omega.{arith}
use lib.Dec.{eqb}
use lib.ListN.{length, get_or}
use Rattle.spec.specs.Lists.{In, up_to, count, sum_of, as_count}
use Rattle.spec.specs.Net.{Net, places, makes, inhibits}
use Rattle.spec.specs.Record.{Condition, names}
use Rattle.spec.specs.Process.{produced_in}
use Rattle.spec.specs.Building.{Event, no_event, Run, marks_due}
use Rattle.lists.specs.Laws
use Rattle.lists.specs.Grouped.{sum_of-scaled, count_by}
use Rattle.runs.specs.Built.{fired_by, Good}
use Rattle.runs.specs.MarkCounts.{due_for, reads_of, marks-length}
use Rattle.run_counts.specs.Tally.{in_place, watched_from, own_of, own_all, reads_all}

-- ---- the marks of one event

module _ (N : Net) (e t : ℕ) where
  -- the condition's place inhibits the transition, and the event made it
  is_own : Condition → Bool
  is_own c = inhibits N c.place t && names c.producer e

  either : (a b : Bool) → as_count a ≡ as_count (a && not b) + as_count (a && b)
  unfolding as_count
  either true true = omega arith
  either true false = omega arith
  either false b = omega arith

  due-or-own : (cs : List Condition) → count (λ c. inhibits N c.place t) cs ≡ count (due_for N e t) cs + count is_own cs
  unfolding due_for is_own
  due-or-own cs = Laws.count-either (due_for N e t) is_own (λ c. inhibits N c.place t) cs (λ c m. either (inhibits N c.place t) (names c.producer e))

  -- its own, by place
  own-by : (cs : List Condition) → ((c : Condition) → In c cs → c.place < places N) → ((p : ℕ) → p < places N → count (produced_in e p) cs ≡ makes N t p) → count is_own cs ≡ own_of N t
  unfolding is_own produced_in own_of
  own-by cs h m =
      count_by (λ c. c.place) (λ p. inhibits N p t) (λ c. names c.producer e) (places N) cs h
      ∙ Laws.sum_of-same _ _ (up_to (places N)) (λ p i. ap (λ z. as_count (inhibits N p t) * z) (m p (Laws.in-up_to (places N) i)))

-- ---- the marks of all

module _ (N : Net) (cs : List Condition) (placed : (c : Condition) → In c cs → c.place < places N) where
  held : ℕ → ℕ
  held p = count (in_place p) cs

  -- the conditions whose place inhibits the transition, by place
  inhibiting-by : (t : ℕ) → count (λ c. inhibits N c.place t) cs ≡ sum_of (λ p. held p * as_count (inhibits N p t)) (up_to (places N))
  unfolding held in_place
  inhibiting-by t =
      Laws.count_same _ (λ c. inhibits N c.place t && true) cs (λ c m. sym (and-true (inhibits N c.place t)))
      ∙ count_by (λ c. c.place) (λ p. inhibits N p t) (λ c. true) (places N) cs placed
      ∙ Laws.sum_of-same _ _ (up_to (places N)) (λ p m. mul_comm (as_count (inhibits N p t)) _ ∙ ap (λ z. z * as_count (inhibits N p t)) (Laws.count_same _ _ cs (λ c i. and-true (eqb c.place p))))

  -- first by event and then by place, or first by place and then by event
  by_place : (vs : List Event) → sum_of (λ v. count (λ c. inhibits N c.place v.transition) cs) vs ≡ sum_of (λ p. held p * count (watched_from N p) vs) (up_to (places N))
  unfolding watched_from
  by_place vs =
      Laws.sum_of-same _ _ vs (λ v m. inhibiting-by v.transition)
      ∙ Laws.sum_of-swap (λ v p. held p * as_count (inhibits N p v.transition)) vs (up_to (places N))
      ∙ Laws.sum_of-same _ _ (up_to (places N)) (λ p m. sum_of-scaled (held p) (λ v. as_count (inhibits N p v.transition)) vs ∙ ap (λ z. held p * z) (sym (Laws.count-sum (watched_from N p) vs)))

-- ---- the marks of a run

module _ (N : Net) (k : ℕ) (r : Run) (G : Good N k r) where
  -- what is summed over the numbers of the events is summed over the events
  by_number : (f : ℕ → ℕ) → sum_of (λ e. f (fired_by r.events e)) (up_to (length r.events)) ≡ sum_of (λ v. f v.transition) r.events
  by_number f = sym (
      ap (sum_of (λ v. f v.transition)) (Laws.tabled no_event r.events)
      ∙ Laws.sum_of-map (λ v. f v.transition) (λ e. get_or r.events e no_event) (up_to (length r.events))
      )

  placed : (c : Condition) → In c r.conditions → c.place < places N
  placed c m = (G.sound c m).placed

  -- the marks B and A, with those that an event would have at what it made itself
  due-and-own : sum_of (λ e. count (due_for N e (fired_by r.events e)) r.conditions) (up_to (length r.events)) + own_all N r.events
      ≡ sum_of (λ v. count (λ c. inhibits N c.place v.transition) r.conditions) r.events
  unfolding own_all
  due-and-own =
      ap (λ z. sum_of (λ e. count (due_for N e (fired_by r.events e)) r.conditions) (up_to (length r.events)) + z) (sym (by_number (own_of N)))
      ∙ sym (Laws.sum_of-add (λ e. count (due_for N e (fired_by r.events e)) r.conditions) (λ e. own_of N (fired_by r.events e)) (up_to (length r.events)))
      ∙ Laws.sum_of-same _ _ (up_to (length r.events)) (λ e m.
      let t = fired_by r.events e in
      ap (λ z. count (due_for N e t) r.conditions + z) (sym (own-by N e t r.conditions placed (λ p l. G.produced e p (Laws.in-up_to (length r.events) m) l)))
      ∙ sym (due-or-own N e t r.conditions))
      ∙ by_number (λ t. count (λ c. inhibits N c.place t) r.conditions)

  -- what the places say of the marks B and A, and one mark R for each place that an event reads
  pub marks-counted : length (marks_due N r) + own_all N r.events
      ≡ sum_of (λ p. count (in_place p) r.conditions * count (watched_from N p) r.events) (up_to (places N)) + reads_all N r.events
  unfolding held reads_all
  marks-counted = omega (
    arith,
    marks-length N k r G,
    Laws.sum_of-add (λ e. count (due_for N e (fired_by r.events e)) r.conditions) (λ e. reads_of N (fired_by r.events e)) (up_to (length r.events)),
    by_number (reads_of N),
    due-and-own,
    by_place N r.conditions placed r.events,
  )
