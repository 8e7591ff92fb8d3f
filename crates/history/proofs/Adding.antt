-- One event more.
use Prim.Native.Nat.{ℕ, ◌+◌, ◌≤◌, ◌<◌}
use mathlib.Core.Path.{◌≡◌, refl, sym, ap, ◌∙◌}
use mathlib.Core.List.{List, [], ◌∷◌, ◌++◌, map, map-append, append-nil, append_assoc}
use native.Mathlib.Omega.{arith}
use lib.ListN.{length, get_or, set, take, length-set}
use lib.Seq.{get_or-set_same, get_or-set_other}
use Rattle.spec.specs.Building.{in_step}
use Rattle.lists.specs.Along.{take_more}
use Rattle.lists.specs.Tables.{table_more}
use Rattle.columns.specs.Columns.{column, column-length, store_in, store_below}
use Rattle.history.specs.HistoryColumns.{event_in, events_in, Added, AddedAt}

one-event : (k t n : ℕ) (ts ks : List ℕ) → length ts ≡ 128 → length ks ≡ 128 → n < 128 → events_in (n + 1) (set ts n t) (set ks n k) ≡ events_in n ts ks ++ in_step k t ∷ []
unfolding events_in event_in in_step
one-event k t n ts ks a b l = table_more (event_in ts ks) (event_in (set ts n t) (set ks n k)) n (in_step k t)
    (λ i m. let q : i ≡ n → ⊥ = λ z. omega arith in rw (get_or-set_other ts n i t 0 q, get_or-set_other ks n i k 0 q))
    (rw (get_or-set_same ts n t 0 (omega arith), get_or-set_same ks n k 0 (omega arith)))

module _ {k n : ℕ} {ts ks : List ℕ} where
  pub added_none : length ts ≡ 128 → length ks ≡ 128 → Added k [] n ts ks (n + 0) ts ks
  added_none a b = record { transitions = a; steps = b; events = ap (λ (z : ℕ). events_in z ts ks) (omega arith) ∙ sym (append-nil (events_in n ts ks)) }

  pub added_next : {ts' ks' : List ℕ} (step : List ℕ) (i : ℕ) → i < length step → n + i < 128
      → Added k (take i step) n ts ks (n + i) ts' ks' → Added k (take (i + 1) step) n ts ks (n + (i + 1)) (set ts' (n + i) (get_or step i 0)) (set ks' (n + i) k)
  added_next {ts'} {ks'} step i l h a = record {
    transitions = length-set ts' (n + i) (get_or step i 0) ∙ a.transitions;
    steps = length-set ks' (n + i) k ∙ a.steps;
    events =
        ap (λ (z : ℕ). events_in z (set ts' (n + i) (get_or step i 0)) (set ks' (n + i) k)) (omega arith)
        ∙ one-event k (get_or step i 0) (n + i) ts' ks' a.transitions a.steps h
        ∙ ap (λ z. z ++ in_step k (get_or step i 0) ∷ []) a.events
        ∙ append_assoc (events_in n ts ks) (map (in_step k) (take i step)) (in_step k (get_or step i 0) ∷ [])
        ∙ ap (λ z. events_in n ts ks ++ z) (sym (ap (map (in_step k)) (take_more 0 step i l) ∙ map-append (in_step k) (take i step) (get_or step i 0 ∷ [])));
  }

-- ---- by the transitions of a record's bytes

-- a store in the first column
store-first : (n : ℕ) (xs : List ℕ) (i v : ℕ) → i < n → column 0 n (set xs i v) ≡ set (column 0 n xs) i v
store-first n xs i v h = ap (λ (j : ℕ). column 0 n (set xs j v)) (omega arith) ∙ store_in 0 n xs i v h

module _ {k n : ℕ} {rec ks : List ℕ} where
  pub adds_none : 1664 ≤ length rec → length ks ≡ 128 → AddedAt k [] n rec ks (n + 0) rec ks
  adds_none a b = record { added = added_none (column-length 0 128 rec (omega arith)) b; long = refl; kept = λ at j h. refl }

  pub adds-next : {rec' ks' : List ℕ} (step : List ℕ) (i : ℕ) → i < length step → n + i < 128
      → AddedAt k (take i step) n rec ks (n + i) rec' ks' → AddedAt k (take (i + 1) step) n rec ks (n + (i + 1)) (set rec' (n + i) (get_or step i 0)) (set ks' (n + i) k)
  adds-next {rec'} {ks'} step i l h a = record {
    added = rw (store-first 128 rec' (n + i) (get_or step i 0) h) (added_next step i l h a.added);
    long = length-set rec' (n + i) (get_or step i 0) ∙ a.long;
    kept = λ at j g. store_below at j rec' (n + i) (get_or step i 0) (omega arith) ∙ a.kept at j g;
  }

  pub adds-as : {new new' rec' ks' : List ℕ} {r s : ℕ} → AddedAt k new n rec ks r rec' ks' → new ≡ new' → r ≡ s → AddedAt k new' n rec ks s rec' ks'
  adds-as a e q = rw (← e, ← q) a
