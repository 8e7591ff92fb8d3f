-- The history before the first step.
use Prim.Native.Nat.{ℕ, suc, ◌+◌, ◌≤◌, ◌<◌}
use mathlib.Core.Path.{◌≡◌, refl, sym, ap, ap₂, ◌∙◌}
use mathlib.Core.Option.{none}
use mathlib.Core.List.{List, [], ◌∷◌, ◌++◌, append-nil, append_assoc}
use native.Mathlib.Omega.{arith}
use lib.ListN.{length, get_or, take, drop, replicate, take-append-drop}
use lib.Seq.{length-take-le}
use Rattle.spec.specs.Lists.{from, up_to, sum}
use Rattle.spec.specs.Record.{Condition}
use Rattle.spec.specs.Building.{initial_of}
use Rattle.lists.specs.Along.{take_more}
use Rattle.lists.specs.Grouped.{sum-append}
use Rattle.runs.specs.Growth.{initial-length}
use Rattle.conditions.specs.Conditions.{decoded, conditions_in, fresh, MadeAt}
use Rattle.columns.specs.Columns.{column-length}
use Rattle.history.specs.HistoryColumns.{events_in, events_of, conditions_of, history_at, Starts}

initial-append : (a : ℕ) (xs ys : List ℕ) → initial_of a (xs ++ ys) ≡ initial_of a xs ++ initial_of (a + length xs) ys
unfolding initial_of
initial-append a [] ys = ap (λ (z : ℕ). initial_of z ys) (omega arith)
initial-append a (x ∷ xs) ys =
    let c : Condition = record { place = a; producer = none; consumer = none } in
    ap (λ z. replicate x c ++ z) (initial-append (suc a) xs ys ∙ ap (λ (z : ℕ). initial_of (suc a) xs ++ initial_of z ys) (omega arith))
    ∙ sym (append_assoc (replicate x c) (initial_of (suc a) xs) (initial_of (a + suc (length xs)) ys))

pub initial-none : initial_of 0 [] ≡ []
unfolding initial_of
initial-none = refl

module _ (ks : List ℕ) (p v : ℕ) (l : p < length ks) (e : v ≡ get_or ks p 0) where
  pub initial-next : initial_of 0 (take p ks) ++ replicate v (fresh 128 p) ≡ initial_of 0 (take (p + 1) ks)
  unfolding fresh decoded initial_of
  initial-next = sym (
      ap (initial_of 0) (take_more 0 ks p l)
      ∙ initial-append 0 (take p ks) (get_or ks p 0 ∷ [])
      ∙ ap (λ z. initial_of 0 (take p ks) ++ z) (append-nil (replicate (get_or ks p 0) _))
      ∙ ap₂ (λ (x y : ℕ). initial_of 0 (take p ks) ++ replicate x (fresh 128 y)) (sym e) (omega (arith, length-take-le p ks (omega arith)))
      )

  pub initial-fits : length (initial_of 0 (take p ks)) + v ≤ sum ks
  unfolding sum
  initial-fits = omega (
    arith,
    initial-length 0 (take p ks),
    ap sum (take_more 0 ks p l),
    sum-append (take p ks) (get_or ks p 0 ∷ []),
    sum-append (take (p + 1) ks) (drop (p + 1) ks),
    ap sum (take-append-drop (p + 1) ks),
  )

pub starts : {tokens rec rec' steps next : List ℕ} {r : ℕ} → sum tokens ≤ 512 → 1664 ≤ length rec → length steps ≡ 128 → length next ≡ 32 → ((p : ℕ) → get_or next p 0 ≡ 0)
    → MadeAt (initial_of 0 tokens) 0 rec r rec' → Starts tokens (history_at 0 r rec' steps next)
starts {tokens} {rec' = rec'} h l k w z M = record {
  whole = record {
    events = omega arith;
    conditions = omega (arith, M.made.next, initial-length 0 tokens);
    transitions = column-length 0 128 rec' (omega (arith, M.long));
    steps = k;
    sized = M.made.sized;
    wide = w;
    cursors = record { within = λ p. omega (arith, z p); passed = λ p j l. absurd (omega (arith, z p)) };
  };
  events = unfold events_of events_in up_to from in refl;
  conditions = unfold conditions_of conditions_in up_to from in M.made.conditions;
}
