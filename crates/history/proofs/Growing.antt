-- The history after a step, from what was added, taken and made.
use Prim.Native.Nat.{ℕ, ◌+◌, ◌≤◌, ◌<◌}
use mathlib.Core.Path.{◌≡◌, sym, ap, ◌∙◌}
use mathlib.Core.List.{List, ◌++◌, map}
use native.Mathlib.Omega.{arith}
use lib.ListN.{length, get_or, get_or-append, length-map}
use Rattle.spec.specs.Record.{Condition, no_condition}
use Rattle.spec.specs.Building.{is_free}
use Rattle.arc_sets.specs.Sets.{arc_at}
use Rattle.runs.specs.Flows.{flows}
use Rattle.runs.specs.Consume.{made_of}
use Rattle.conditions.specs.Conditions.{condition_in, conditions_in, free_at, Cursors, Took, Made, ReadyAt, TookAt, MadeAt}
use Rattle.columns.specs.Columns.{column}
use Rattle.conditions.specs.declared.Extent.{Extent}
use Rattle.history.specs.HistoryColumns.{History, events_of, conditions_of, Added, AddedAt, Whole, Grown, Growable, GrownAt}
use Rattle.conditions.proofs.Coded.{length-conditions, condition-at, free-is}

-- the old conditions are as they were
module _ {cs : List Condition} {n r : ℕ} {ps gs fs ps' gs' fs' : List ℕ} (M : Made cs n ps gs fs r ps' gs' fs') where
  kept : (j : ℕ) → j < n → condition_in ps' gs' fs' j ≡ condition_in ps gs fs j
  kept j l =
      sym (condition-at r ps' gs' fs' j (omega (arith, M.next)))
      ∙ ap (λ z. get_or z j no_condition) M.conditions
      ∙ get_or-append (conditions_in n ps gs fs) cs no_condition j (omega (arith, length-conditions n ps gs fs))
      ∙ condition-at n ps gs fs j l

  kept_free : (p j : ℕ) → j < n → free_at p ps' fs' j ≡ free_at p ps fs j
  kept_free p j l = sym (free-is p ps' gs' fs' j) ∙ ap (is_free p) (kept j l) ∙ free-is p ps gs fs j

  cursors-kept : {nx : List ℕ} → Cursors n ps fs nx → Cursors r ps' fs' nx
  cursors-kept C = record {
    within = λ p. omega (arith, C.within p, M.next);
    passed = λ p j l. kept_free p j (omega (arith, C.within p)) ∙ C.passed p j l;
  }

pub grown : {k r : ℕ} {ts sets ts' ks' fs nx ps' gs' fs' : List ℕ} {h : History} (count : ℕ) → Whole h → h.events + count ≤ 128
    → h.conditions + length (flows (arc_at sets 32) 64 h.events ts) ≤ 512
    → Added k ts h.events h.transitions h.steps (h.events + count) ts' ks'
    → Took (flows (arc_at sets 0) 64 h.events ts) h.conditions h.places h.consumers h.next fs nx
    → Made (map made_of (flows (arc_at sets 32) 64 h.events ts)) h.conditions h.places h.producers fs r ps' gs' fs'
    → Grown k ts sets h (record { events = h.events + count; transitions = ts'; steps = ks'; conditions = r; places = ps'; producers = gs'; consumers = fs'; next = nx })
grown {k} {r} {ts} {sets} {h = h} count W l f A T M = record {
  whole = record {
    events = l;
    conditions = omega (arith, M.next, length-map (flows (arc_at sets 32) 64 h.events ts) made_of);
    transitions = A.transitions;
    steps = A.steps;
    sized = M.sized;
    wide = T.ready.wide;
    cursors = cursors-kept M T.ready.cursors;
  };
  events = unfold events_of in A.events;
  conditions = unfold conditions_of in (M.conditions ∙ ap (λ z. z ++ map made_of (flows (arc_at sets 32) 64 h.events ts)) (T.conditions h.producers));
}

-- once the events are added, the conditions are ready
pub taking-ready : {ts rec steps counts rec₁ steps₁ : List ℕ} {k count made r : ℕ} {x : Extent} → Growable count made x rec steps counts → AddedAt k ts x.events rec steps r rec₁ steps₁ → ReadyAt x.conditions rec₁ counts
taking-ready G A = record {
  long = omega (arith, G.long, A.long);
  wide = G.wide;
  ready = rw (A.kept 128 512 (omega arith), A.kept 1152 512 (omega arith)) record { few = G.whole.conditions; long = G.whole.sized.consumers; wide = G.whole.wide; cursors = G.whole.cursors };
}

-- and from these by the lent arrays, one after the other
pub grows : {ts sets rec steps counts rec₁ steps₁ rec₂ counts₂ rec₃ : List ℕ} {r : ℕ} {x : Extent} (count : ℕ)
    → Growable count (length (flows (arc_at sets 32) 64 x.events ts)) x rec steps counts
    → AddedAt x.line ts x.events rec steps (x.events + count) rec₁ steps₁
    → TookAt (flows (arc_at sets 0) 64 x.events ts) x.conditions rec₁ counts rec₂ counts₂
    → MadeAt (map made_of (flows (arc_at sets 32) 64 x.events ts)) x.conditions rec₂ r rec₃
    → GrownAt ts count sets x rec steps counts r rec₃ steps₁ counts₂
grows {ts} {sets} {rec} {rec₂ = rec₂} {rec₃ = rec₃} {r = r} {x = x} count G A T M = record {
  grown = rw (M.kept 0 128 (omega arith), T.kept 0 128 (omega arith))
      (grown count G.whole G.events G.conditions A.added (rw (A.kept 128 512 (omega arith), A.kept 1152 512 (omega arith)) at T.took) made);
  long = M.long ∙ T.long ∙ A.long;
  wide = T.wide;
  counted = T.counted;
}
  where
    made : Made (map made_of (flows (arc_at sets 32) 64 x.events ts)) x.conditions (column 128 512 rec) (column 640 512 rec) (column 1152 512 rec₂) r (column 128 512 rec₃) (column 640 512 rec₃) (column 1152 512 rec₃)
    made = rw (T.kept 128 512 (omega arith), A.kept 128 512 (omega arith), T.kept 640 512 (omega arith), A.kept 640 512 (omega arith)) at M.made
