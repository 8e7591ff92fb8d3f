-- An arrangement keeps a record's order exactly when no line of it breaks the order: line by line, each event's strict
-- predecessors stand in earlier lines and its weak ones in no later line.
use Rattle.std.specs.Prelude.{◌≡◌, ◌↔◌, ℕ, suc, ◌<◌, true, false, ◌&&◌, List, [], ◌++◌, length, get_or, take}
use Rattle.std.proofs.Common.{le_of_suc-le-suc, arith}
use Rattle.std.proofs.Math.Bool.{not}
use Rattle.spec.specs.Lists.{In, any, flat, up_to, is_in}
use Rattle.spec.specs.Net.{Net}
use Rattle.spec.specs.Record.{RunRecord}
use Rattle.spec.specs.Order.{is_strictly_before, is_not_later}
use Rattle.spec.specs.Process.{WellFormed}
use Rattle.spec.specs.Arrangement.{Arrangement, times, index}
use Rattle.spec.specs.Replaying.{late, breaks}
use Rattle.spec.specs.Runs.{KeepsOrder}
use Rattle.order.specs.Index.{placed, place_of, index-has}
use Rattle.lists.specs.Laws.{or-false, and-not, false-or, any_none, none_any, member_is, counted-in, flat-take-suc, up_to-in, in-up_to}
use Rattle.runs.specs.Closure.{strict-is, weak-is}
use Rattle.runs.specs.Lines.{stands-in, line-below, line-inside, line-index}

-- ---- the test of one predecessor, and of a line

-- d stands where it must for event e of the line
abbrev InTime : RunRecord → List ℕ → List ℕ → ℕ → ℕ → Type 0
InTime R done now e d = (is_strictly_before R d e ≡ true → is_in d done ≡ true) × (is_not_later R d e ≡ true → is_in d (done ++ now) ≡ true)

module _ (R : RunRecord) (done now : List ℕ) where
  abbrev events : List ℕ
  events = up_to (length R.events)

  late_is : (e d : ℕ) → (late R done now e d ≡ false) ↔ InTime R done now e d
  unfolding late
  late_is e d = (
    λ h. let z = or-false (is_strictly_before R d e && not (is_in d done)) (is_not_later R d e && not (is_in d (done ++ now))) h in ((and-not _ _).0 z.0, (and-not _ _).0 z.1),
    λ h. false-or ((and-not _ _).1 h.0) ((and-not _ _).1 h.1),
  )

  breaks-is : (breaks R done now ≡ false) ↔ ((e d : ℕ) → In e now → d < length R.events → InTime R done now e d)
  unfolding breaks
  breaks-is = (
    λ h e d m l. (late_is e d).0 (any_none (late R done now e) events (any_none (λ e. any (late R done now e) events) now h e m) d (up_to-in (length R.events) l)),
    λ h. none_any _ now (λ e m. none_any _ events (λ d i. (late_is e d).1 (h e d m (in-up_to (length R.events) i)))),
  )

-- ---- arrangements

-- an event stands in the first k lines exactly where its line's index is below k
stands-before : (n : ℕ) (lines : List (List ℕ)) → Arrangement n lines → (d k : ℕ) → d < n → (is_in d (flat (take k lines)) ≡ true) ↔ (index d lines < k)
unfolding times
stands-before n lines A d k l =
    let z = member_is d (flat (take k lines)) in (λ h. placed d k lines (z.0 h), λ h. z.1 (place_of d k lines (stands-in n lines A d l) h))

module _ (N : Net) (R : RunRecord) (W : WellFormed N R) (lines : List (List ℕ)) where
  abbrev n : ℕ
  n = length R.events

  -- no line breaks the order
  abbrev pub Unbroken : Type 0
  Unbroken = (k : ℕ) → k < length lines → breaks R (flat (take k lines)) (get_or lines k []) ≡ false

  pub keeps-unbroken : KeepsOrder R lines → Unbroken
  keeps-unbroken K k h = (breaks-is R (flat (take k lines)) (get_or lines k [])).1 (λ e d m l.
      let A = K.each-once in
      let f = line-inside n lines A k e m in
      let i = line-index n lines A k e m in (
        λ s. (stands-before n lines A d k l).1 (omega (arith, K.strict d e l f ((strict-is N R W d e).0 s))),
        λ s. rw (← flat-take-suc lines k h) ((stands-before n lines A d (suc k) l).1 (omega (arith, K.weak d e l f ((weak-is N R W d e).0 s)))),
      ))

  pub unbroken-keeps : Arrangement n lines → Unbroken → KeepsOrder R lines
  unbroken-keeps A u = record {
    each-once = A;
    strict = λ e f l m p. (stands-before n lines A e (index f lines) l).0 ((in-time f e m l).0 ((strict-is N R W e f).1 p));
    weak = λ e f l m p. le_of_suc-le-suc ((stands-before n lines A e (suc (index f lines)) l).0
        (rw (flat-take-suc lines (index f lines) (line-below n lines A f m)) ((in-time f e m l).1 ((weak-is N R W e f).1 p))));
  }
    where
      in-time : (f e : ℕ) → f < n → e < n → InTime R (flat (take (index f lines) lines)) (get_or lines (index f lines) []) f e
      in-time f e m l =
          (breaks-is R _ _).0 (u (index f lines) (line-below n lines A f m)) f e (counted-in f (get_or lines (index f lines) []) (index-has f lines (stands-in n lines A f m))) l
