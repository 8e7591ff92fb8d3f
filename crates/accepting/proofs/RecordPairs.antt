-- The relation of a record's bytes and words is that of its pairs.
use mathlib.Core.Path.{◌≡◌, refl, sym, ap, ◌∙◌}
use Prim.Native.Nat.{ℕ, ◌+◌, ◌*◌, ◌≤◌, ◌<◌, zero-le}
use native.Mathlib.Nat.{le_trans, le_antisymm, le_of_eq}
use native.Mathlib.Decide.{ℕ_discrete, dec_le}
use native.Mathlib.Omega.{arith}
use mathlib.Core.Bool.{Bool, true, false, ◌&&◌, cond}
use mathlib.Core.Option.{Option, none, some}
use mathlib.Core.List.Memᴰ
use mathlib.Core.List.{List, map}
use lib.ListN.{length, get_or}
use lib.Dec.{eqb}
use borrow.Author.Tests.{eq-eqb, eqb-true}
use Rattle.spec.specs.Lists.{In}
use Rattle.spec.specs.Net.{Net as NetD}
use Rattle.spec.specs.Record.{RunRecord, Condition, Mark, no_condition, condition_at, slot_of, guard_slot, read_slot}
use Rattle.spec.specs.Order.{Pair, pairs, is_pair}
use Rattle.spec.specs.declared.MarkKind.{MarkKind}
use Rattle.spec.specs.declared.MarkKind.TheVariants.{Before, After, Read}
use Rattle.lists.specs.Laws
use Rattle.order.specs.Below.{max-above, max_least}
use Rattle.runs.specs.Sources.{between, condition-pair, before-pair, after-pair, made-read, read_taken, each-pair}
use Rattle.runs.specs.Values.{weight, value_at, pair_at, pair-above}
use Rattle.net.specs.declared.Net.{Net}
use Rattle.reach.specs.Rows.{cell_of}
use Rattle.record_columns.specs.Layout.{event_code, mark_slots, mark_row, kind_code, HoldsMarks}
use Rattle.record_columns.proofs.Marks.{kind-some, slot-few, at_own_lem, value_found, value-once}
use Rattle.record_columns.specs.declared.Counts.{Counts}
use Rattle.representation.specs.Held.{Held}
use Rattle.row_pairs.specs.Relation.{pair_in, condition_pair_in, afters_in, befores_in, sides_in, after, before, reader, guard_pair_in, read_pair_in, mark_pair_in, overall, relation_in}
use Rattle.representation.proofs.Codes.{in-record}

-- ---- a pair

-- v is said of no other events than e and f
pair-says : (e f v x i j : ℕ) → (e ≡ i → f ≡ j → v ≤ x) → pair_in e f v i j ≤ x
unfolding pair_in
pair-says e f v x i j h = go (eqb e i) (eqb f j) refl refl
  where
    go : (a b : Bool) → eqb e i ≡ a → eqb f j ≡ b → cond (a && b) v 0 ≤ x
    go true true p q = h (eqb-true e i p) (eqb-true f j q)
    go true false p q = zero-le
    go false b p q = zero-le

value-is : (e f i j : ℕ) (s : Bool) → value_at i j (between e f s) ≡ pair_in e f (weight s) i j
unfolding value_at is_pair pair_in
value-is e f i j s = refl

event-of : (o : Option ℕ) (i : ℕ) → event_code o ≡ i → i < 128 → o ≡ some i
event-of none i h l = absurd (omega arith)
event-of (some e) i h l = ap some h

-- a kind by its slot and its number there
is-before : (x : MarkKind) → slot_of x ≡ guard_slot → kind_code x ≡ 1 → x ≡ Before
unfolding slot_of
is-before Before o h = refl
is-before After o h = absurd (omega arith)
is-before Read o h = absurd (omega arith)

is-after : (x : MarkKind) → kind_code x ≡ 2 → x ≡ After
is-after Before h = absurd (omega arith)
is-after After h = refl
is-after Read h = absurd (omega arith)

is_read : (x : MarkKind) → slot_of x ≡ read_slot → x ≡ Read
unfolding slot_of
is_read Before o = absurd (omega arith)
is_read After o = absurd (omega arith)
is_read Read o = refl

kind-few : (x : MarkKind) → kind_code x ≤ 2
kind-few Before = omega arith
kind-few After = omega arith
kind-few Read = omega arith

if-so : {v x : ℕ} (a b : ℕ) → (a ≡ b → v ≤ x) → cond (eqb a b) v 0 ≤ x
if-so {v} {x} a b h = go (eqb a b) refl
  where
    go : (t : Bool) → eqb a b ≡ t → cond t v 0 ≤ x
    go true p = h (eqb-true a b p)
    go false p = zero-le

module _ (net : Net) (s : Counts) (rec words : List ℕ) (N : NetD) (R : RunRecord) (h : Held net s rec N R) (u : HoldsMarks words R) where
  -- ---- each byte's pair is a pair of the record

  module _ (i j : ℕ) (hi : i < 128) (hj : j < 128) where
    abbrev most : ℕ
    most = pair_at (pairs R) i j

    condition-says : (c : ℕ) → c < s.conditions → condition_pair_in rec c i j ≤ most
    unfolding condition_pair_in weight
    condition-says c l = pair-says _ _ 2 _ i j (λ p q. pair-above (pairs R) (between i j true)
        (condition-pair R (in-record net s rec N R h c l) (event-of _ i (sym (h.bytes.producer c l) ∙ p) hi) (event-of _ j (sym (h.bytes.consumer c l) ∙ q) hj)))

    -- the mark that a value stands for
    which : (o c e : ℕ) → o < mark_slots → 0 < cell_of words (mark_row c o) e
        → (w : Mark) × In w R.marks × (slot_of w.kind ≡ o) × (w.condition ≡ c) × (w.event ≡ e) × (kind_code w.kind ≡ cell_of words (mark_row c o) e)
    which o c e k l = let w = value_found R.marks o c e (omega (arith, u.cell o c e k)) in (w.0, w.1, w.2, w.3, w.4, w.5 ∙ sym (u.cell o c e k))

    -- the producer and the consumer of its condition
    producer-of : (c f : ℕ) → c < s.conditions → f < 128 → get_or rec (640 + c) 0 ≡ f → (w : Mark) → w.condition ≡ c → (condition_at R w.condition).producer ≡ some f
    producer-of c f l m p w q = ap (λ (c : ℕ). (condition_at R c).producer) q ∙ event-of _ f (sym (h.bytes.producer c l) ∙ p) m

    consumer-of : (c f : ℕ) → c < s.conditions → f < 128 → get_or rec (1152 + c) 0 ≡ f → (w : Mark) → w.condition ≡ c → (condition_at R w.condition).consumer ≡ some f
    consumer-of c f l m p w q = ap (λ (c : ℕ). (condition_at R c).consumer) q ∙ event-of _ f (sym (h.bytes.consumer c l) ∙ p) m

    after-says : (c : ℕ) → c < s.conditions → get_or rec (1152 + c) 0 ≡ i → 2 * after (cell_of words (mark_row c guard_slot) j) ≤ most
    unfolding weight
    after-says c l p = elim (dec_le (cell_of words (mark_row c guard_slot) j) 1) [
      | yes m ↦ omega arith
      | no d ↦
          let w = which guard_slot c j (omega arith) (omega arith) in
          let k : w.0.kind ≡ After = is-after w.0.kind (omega (arith, w.5, kind-few w.0.kind)) in
          let q : kind_code w.0.kind ≡ 2 = ap kind_code k in
          let z : 2 ≤ most = rw (← w.4) (pair-above (pairs R) (between i w.0.event true) (after-pair R w.1 k (consumer-of c i l hi p w.0 w.3))) in
          omega (arith, w.5)
    ]

    before-says : (c : ℕ) → c < s.conditions → get_or rec (640 + c) 0 ≡ j → before (cell_of words (mark_row c guard_slot) i) ≤ most
    unfolding weight
    before-says c l p = elim (ℕ_discrete (cell_of words (mark_row c guard_slot) i) 1) [
      | no d ↦ elim (dec_le 1 (cell_of words (mark_row c guard_slot) i)) [
        | yes m ↦ let w = which guard_slot c i (omega arith) m in omega (arith, w.5, kind-some w.0.kind, kind-few w.0.kind)
        | no e ↦ omega arith
      ]
      | yes v ↦
          let w = which guard_slot c i (omega arith) (omega arith) in
          let k : w.0.kind ≡ Before = is-before w.0.kind w.2 (w.5 ∙ v) in
          let z : 1 ≤ most = rw (← w.4) (pair-above (pairs R) (between w.0.event j false) (before-pair R w.1 k (producer-of c j l hj p w.0 w.3))) in
          omega arith
    ]

    produced-says : (c : ℕ) → c < s.conditions → get_or rec (640 + c) 0 ≡ i → 2 * reader (cell_of words (mark_row c read_slot) j) ≤ most
    unfolding weight
    produced-says c l p = elim (dec_le 1 (cell_of words (mark_row c read_slot) j)) [
      | no d ↦ omega arith
      | yes m ↦
          let w = which read_slot c j (omega arith) m in
          let z : 2 ≤ most = rw (← w.4) (pair-above (pairs R) (between i w.0.event true) (made-read R w.1 (is_read w.0.kind w.2) (producer-of c i l hi p w.0 w.3))) in
          omega arith
    ]

    consumed-says : (c : ℕ) → c < s.conditions → get_or rec (1152 + c) 0 ≡ j → reader (cell_of words (mark_row c read_slot) i) ≤ most
    unfolding weight
    consumed-says c l p = elim (dec_le 1 (cell_of words (mark_row c read_slot) i)) [
      | no d ↦ omega arith
      | yes m ↦
          let w = which read_slot c i (omega arith) m in
          let z : 1 ≤ most = rw (← w.4) (pair-above (pairs R) (between w.0.event j false) (read_taken R w.1 (is_read w.0.kind w.2) (consumer-of c j l hj p w.0 w.3))) in
          omega arith
    ]

    mark-says : (c : ℕ) → c < s.conditions → mark_pair_in rec words c i j ≤ most
    unfolding mark_pair_in guard_pair_in read_pair_in sides_in afters_in befores_in
    mark-says c l = omega (
      arith,
      if-so (get_or rec (1152 + c) 0) i (after-says c l),
      if-so (get_or rec (640 + c) 0) j (before-says c l),
      if-so (get_or rec (640 + c) 0) i (produced-says c l),
      if-so (get_or rec (1152 + c) 0) j (consumed-says c l),
    )

    bytes-say : relation_in s rec words i j ≤ most
    unfolding relation_in overall
    bytes-say = omega (
      arith,
      max_least s.conditions (λ c. condition_pair_in rec c i j) most condition-says,
      max_least s.conditions (λ c. mark_pair_in rec words c i j) most mark-says,
    )

  -- ---- and each pair of the record is a byte's

  condition-above : (c i j : ℕ) → c < s.conditions → condition_pair_in rec c i j ≤ relation_in s rec words i j
  unfolding relation_in overall
  condition-above c i j l = omega (arith, max-above s.conditions (λ c. condition_pair_in rec c i j) c l)

  mark-above : (c i j : ℕ) → c < s.conditions → mark_pair_in rec words c i j ≤ relation_in s rec words i j
  unfolding relation_in overall
  mark-above c i j l = omega (arith, max-above s.conditions (λ c. mark_pair_in rec words c i j) c l)

  abbrev Said : ℕ → ℕ → Pair → Type 0
  Said i j q = value_at i j q ≤ relation_in s rec words i j

  condition-said : (i j : ℕ) (c : Condition) → In c R.conditions → (e f : ℕ) → c.producer ≡ some e → c.consumer ≡ some f → Said i j (between e f true)
  unfolding condition_pair_in weight
  condition-said i j c m e f p q =
      let r : (k : ℕ) × (k < length R.conditions) × (condition_at R k ≡ c) = Laws.in-at no_condition c R.conditions m in
      let l : r.0 < s.conditions = omega (arith, r.1, h.bytes.conditions) in
      let x : get_or rec (640 + r.0) 0 ≡ e = h.bytes.producer r.0 l ∙ ap (λ (c : Condition). event_code c.producer) r.2 ∙ ap event_code p in
      let y : get_or rec (1152 + r.0) 0 ≡ f = h.bytes.consumer r.0 l ∙ ap (λ (c : Condition). event_code c.consumer) r.2 ∙ ap event_code q in
      le_trans (le_of_eq (value-is e f i j true ∙ rw (x, y) refl)) (condition-above r.0 i j l)

  module _ (i j : ℕ) (w : Mark) (m : In w R.marks) where
    condition-low : w.condition < s.conditions
    condition-low = omega (arith, h.well_formed.conditions w m, h.bytes.conditions)

    -- the value at its slot, condition and event
    value-said : cell_of words (mark_row w.condition (slot_of w.kind)) w.event ≡ kind_code w.kind
    value-said =
        u.cell (slot_of w.kind) w.condition w.event (slot-few w.kind)
        ∙ value-once R.marks w (slot_of w.kind) w.condition w.event m (at_own_lem w _ _ _ refl refl refl) (h.once (slot_of w.kind) w.condition w.event)

    value_of : {x : MarkKind} → w.kind ≡ x → cell_of words (mark_row w.condition (slot_of x)) w.event ≡ kind_code x
    value_of k = rw (← k) value-said

    -- the bytes of its condition's producer and consumer
    producer-said : (g : ℕ) → (condition_at R w.condition).producer ≡ some g → get_or rec (640 + w.condition) 0 ≡ g
    producer-said g p = h.bytes.producer w.condition condition-low ∙ ap event_code p

    consumer-said : (g : ℕ) → (condition_at R w.condition).consumer ≡ some g → get_or rec (1152 + w.condition) 0 ≡ g
    consumer-said g p = h.bytes.consumer w.condition condition-low ∙ ap event_code p

    before-said : w.kind ≡ Before → (g : ℕ) → (condition_at R w.condition).producer ≡ some g → Said i j (between w.event g false)
    unfolding mark_pair_in guard_pair_in sides_in afters_in befores_in weight slot_of
    before-said k g p =
        let v : cell_of words (mark_row w.condition guard_slot) w.event ≡ 1 = value_of k in
        le_trans (le_of_eq (value-is w.event g i j false)) (pair-says w.event g 1 _ i j (λ a b.
        let y : cond (eqb (get_or rec (640 + w.condition) 0) j) (before (cell_of words (mark_row w.condition guard_slot) i)) 0 ≡ 1 = rw (eq-eqb (get_or rec (640 + w.condition) 0) j (producer-said g p ∙ b), ← a, v) refl in
        omega (arith, y, mark-above w.condition i j condition-low)))

    after-said : w.kind ≡ After → (f : ℕ) → (condition_at R w.condition).consumer ≡ some f → Said i j (between f w.event true)
    unfolding mark_pair_in guard_pair_in sides_in afters_in befores_in weight slot_of
    after-said k f p =
        let v : cell_of words (mark_row w.condition guard_slot) w.event ≡ 2 = value_of k in
        le_trans (le_of_eq (value-is f w.event i j true)) (pair-says f w.event 2 _ i j (λ a b.
        let y : cond (eqb (get_or rec (1152 + w.condition) 0) i) (2 * after (cell_of words (mark_row w.condition guard_slot) j)) 0 ≡ 2 = rw (eq-eqb (get_or rec (1152 + w.condition) 0) i (consumer-said f p ∙ a), ← b, v) refl in
        omega (arith, y, mark-above w.condition i j condition-low)))

    produced-said : w.kind ≡ Read → (f : ℕ) → (condition_at R w.condition).producer ≡ some f → Said i j (between f w.event true)
    unfolding mark_pair_in read_pair_in sides_in afters_in befores_in weight slot_of
    produced-said k f p =
        let v : cell_of words (mark_row w.condition read_slot) w.event ≡ 1 = value_of k in
        le_trans (le_of_eq (value-is f w.event i j true)) (pair-says f w.event 2 _ i j (λ a b.
        let y : cond (eqb (get_or rec (640 + w.condition) 0) i) (2 * reader (cell_of words (mark_row w.condition read_slot) j)) 0 ≡ 2 = rw (eq-eqb (get_or rec (640 + w.condition) 0) i (producer-said f p ∙ a), ← b, v) refl in
        omega (arith, y, mark-above w.condition i j condition-low)))

    consumed-said : w.kind ≡ Read → (g : ℕ) → (condition_at R w.condition).consumer ≡ some g → Said i j (between w.event g false)
    unfolding mark_pair_in read_pair_in sides_in afters_in befores_in weight slot_of
    consumed-said k g p =
        let v : cell_of words (mark_row w.condition read_slot) w.event ≡ 1 = value_of k in
        le_trans (le_of_eq (value-is w.event g i j false)) (pair-says w.event g 1 _ i j (λ a b.
        let y : cond (eqb (get_or rec (1152 + w.condition) 0) j) (reader (cell_of words (mark_row w.condition read_slot) i)) 0 ≡ 1 = rw (eq-eqb (get_or rec (1152 + w.condition) 0) j (consumer-said g p ∙ b), ← a, v) refl in
        omega (arith, y, mark-above w.condition i j condition-low)))

  pairs-say : (i j : ℕ) → pair_at (pairs R) i j ≤ relation_in s rec words i j
  unfolding pair_at
  pairs-say i j = Laws.greatest-least _ (map (value_at i j) (pairs R)) (λ y m.
      let r : (q : Pair) × In q (pairs R) × (value_at i j q ≡ y) = Memᴰ.of_map (value_at i j) (pairs R) m in
      le_trans (le_of_eq (sym r.2)) (each-pair R (Said i j) (condition-said i j) (before-said i j) (after-said i j) (produced-said i j) (consumed-said i j) r.0 r.1))

  pub relation-is : (i j : ℕ) → i < 128 → j < 128 → relation_in s rec words i j ≡ pair_at (pairs R) i j
  relation-is i j l m = le_antisymm (bytes-say i j l m) (pairs-say i j)
