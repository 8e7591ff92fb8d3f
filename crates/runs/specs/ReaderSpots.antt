-- The refusals that each reader can meet, by lines and then by its last rules, and their spots: the lines before a line each
-- added something, of which there are only so many.
use Rattle.std.specs.Prelude.{◌≡◌, ◌≢◌, false, ◌&&◌, ◌||◌, eqb, ltb, leb}
use Rattle.std.proofs.Math.Path.{refl}
use Rattle.std.proofs.Common.{sym, ap, ◌∙◌, le_trans, le_of_eq}
use Rattle.std.proofs.Math.Logic.{inl, inr}
use Prim.Native.Nat.{ℕ, suc, ◌+◌, ◌*◌, ◌≤◌, ◌<◌, zero-le}
use Rattle.std.proofs.Math.Nat.{le_refl}
use Rattle.std.proofs.Math.Decide.{ℕ_discrete, dec_le}
use native.Mathlib.Omega.{arith}
use Rattle.std.proofs.Math.Bool.{true, not}
use mathlib.Core.List.Memᴰ
use mathlib.Core.List.{List, [], ◌∷◌, ◌++◌, map}
use Rattle.std.proofs.Math.ListN.{length, length-append, length-map}
use borrow.Author.Tests.{eq-eqb, eqb-true, eqb-false, ltb-true, ltb-false, leb-true, leb-false}
use Rattle.spec.specs.Lists.{In, up_to, any, count, first, flat, is_in}
use Rattle.spec.specs.Order.{has_path, is_strictly_before, is_not_later}
use Rattle.spec.specs.Text.{Line, lines_of, by_lines}
use Rattle.spec.specs.Forms.{number, number_or_dash, is_line, number_at, numbers_of}
use Rattle.spec.specs.Net.{Net, Arc, places, joined, read_and_consumed, with_place, with_transition, with_arc, add_place, add_transition, add_arc, add_line, empty_net, lacking, whole, net_of}
use Rattle.spec.specs.Record.{RunRecord, Condition, Mark, slot_of, is_at, marked, bench}
use Rattle.spec.specs.Building.{Run, start, in_step, play_step, is_step_line, log_line, play_log, built}
use Rattle.spec.specs.Checking.{with_event, with_condition, with_mark, enter_event, enter_condition, enter_mark, condition_of, mark_in, enter_line, empty_record, obeys, read_record}
use Rattle.spec.specs.Replaying.{is_group_line, repeats, late, breaks, groups_line, missing, read_arrangement}
use Rattle.spec.specs.Exactness.{IsProcess}
use Rattle.spec.specs.Refusals.{net_refusals, log_refusals, record_refusals, arrangement_refusals}
use Rattle.spec.specs.declared.ArcKind.{ArcKind}
use Rattle.spec.specs.declared.ArcKind.TheVariants.{Input, Output, Inhibitor, Read}
use Rattle.spec.specs.declared.MarkKind.TheVariants.{Before, After, Read as ReadMark}
use Rattle.lists.specs.Laws.{and-true, true-and, or-true, or-false, true-or-l, true-or-r, not-is-true, not-is-false, one-le, count-cons, count-append, count_none, count-in, count-le, count-found, count_same, eqb-sym, neqb-count, any_none, any_found, all-below, in-up_to, flat-long}
use Rattle.runs.specs.Bytes.{S-letter, G-letter}
use Rattle.runs.specs.Texts.{list-line}
use Rattle.runs.specs.Closure.{strict-is}
use Rattle.runs.specs.ArcSlots.{arc_slot, slots-few, in_slot, slot-taken, SlotsOnce, slots-more}
use Rattle.runs.specs.ReadArrangement.{once-each, Lined, lined_snoc, no_lines}
use Rattle.runs.specs.Within.{listed, Within, given-within, refused-within, when-within, cond-within, seq-within, lowest-within, bind-within, lines-within, has_some, few}

-- ---- nets

-- the slots of arcs between things below 32 by number: 3 · 32 · 32 of them
abbrev arc_code : Arc → ℕ
arc_code a = arc_slot a.kind * 1024 + a.place * 32 + a.transition

-- line k is next, and each line before it added a place, a transition or an arc whose slot was free
record Drafted (k : ℕ) (n : Net) : Type 0 where
  next : k ≡ 1 + places n + n.transitions + length n.arcs
  places : places n ≤ 32
  transitions : n.transitions ≤ 32
  declared : (a : Arc) → In a n.arcs → (a.place < 32) × (a.transition < 32)
  once : SlotsOnce n

nothing : Drafted 1 empty_net
unfolding empty_net count
nothing = record { next = refl; places = zero-le; transitions = zero-le; declared = λ a i. absurd (Memᴰ.not-nil i); once = λ s p t. zero-le }

module _ {k : ℕ} {n : Net} (D : Drafted k n) where
  -- arcs with the same number stand in the same slot
  same-slot : (a b : Arc) → In a n.arcs → In b n.arcs → arc_code a ≡ arc_code b → in_slot (arc_slot a.kind) a.place a.transition b ≡ true
  unfolding in_slot
  same-slot a b i j e =
      let x = D.declared a i in
      let y = D.declared b j in
      let f : arc_slot b.kind ≡ arc_slot a.kind = omega (arith, x.0, x.1, y.0, y.1) in
      let g : b.place ≡ a.place = omega (arith, x.0, x.1, y.0, y.1) in
      true-and (true-and (eq-eqb _ _ f) (eq-eqb _ _ g)) (eq-eqb b.transition a.transition (omega arith))

  code-once : (c : ℕ) → count (λ a. eqb (arc_code a) c) n.arcs ≤ 1
  code-once c = elim (dec_le (count (λ a. eqb (arc_code a) c) n.arcs) 0) [
    | yes h ↦ omega arith
    | no h ↦
        let r : (a : Arc) × In a n.arcs × (eqb (arc_code a) c ≡ true) = count-found (λ a. eqb (arc_code a) c) n.arcs (omega arith) in
        let a = r.0 in
        le_trans (count-le _ (in_slot (arc_slot a.kind) a.place a.transition) n.arcs
        (λ b i e. same-slot a b r.1 i (eqb-true (arc_code a) c r.2 ∙ sym (eqb-true (arc_code b) c e)))) (D.once (arc_slot a.kind) a.place a.transition)
  ]

  arcs-few : length n.arcs ≤ 3072
  arcs-few = few arc_code 3072 n.arcs (λ a i. let z = D.declared a i in omega (arith, slots-few a.kind, z.0, z.1)) code-once

  spot-few : (1 ≤ k) × (k ≤ 3137)
  spot-few = (omega (arith, D.next), omega (arith, D.next, D.places, D.transitions, arcs-few))

  place-within : (v : ℕ) → Within (Drafted (suc k)) net_refusals (add_place k v n)
  unfolding add_place with_place first
  place-within v = when-within 12 k _ _ (λ t. listed net_refusals 12 refl spot-few) λ e. given-within (record {
    next = omega (arith, D.next, length-append n.tokens (v ∷ []));
    places = omega (arith, length-append n.tokens (v ∷ []), leb-false 32 (places n) (or-false (leb 32 (places n)) _ e).0);
    transitions = D.transitions;
    declared = D.declared;
    once = D.once;
  })

  transition-within : Within (Drafted (suc k)) net_refusals (add_transition k n)
  unfolding add_transition with_transition first
  transition-within = when-within 12 k _ _ (λ t. listed net_refusals 12 refl spot-few) λ e. given-within (record {
    next = omega (arith, D.next);
    places = D.places;
    transitions = omega (arith, leb-false 32 n.transitions e);
    declared = D.declared;
    once = D.once;
  })

  arc-within : (x : ArcKind) (p t w : ℕ) → Within (Drafted (suc k)) net_refusals (add_arc x k p t w n)
  unfolding add_arc with_arc first
  arc-within x p t w = when-within 13 k _ _ (λ d. listed net_refusals 13 refl spot-few) λ d.
      let z = and-true (ltb p (places n)) (ltb t n.transitions) (not-is-false _ d) in
      let i = ltb-true p (places n) z.0 in
      let j = ltb-true t n.transitions z.1 in
      let h : p < 32 = omega (arith, D.places) in
      let l : t < 32 = omega (arith, D.transitions) in
      let slot = slot-taken n p t x in
      let taken : (joined n x p t || read_and_consumed n x p t) ≡ true → (4 ≤ k) × (k ≤ 3137) =
      λ e. (omega (arith, D.next, has_some (in_slot (arc_slot x) p t) n.arcs (slot ∙ e)), spot-few.1) in
      when-within 54 k _ _ (λ b. listed net_refusals 54 refl (omega (arith, D.next), spot-few.1)) λ b.
      when-within 14 k _ _ (λ e. listed net_refusals 14 refl (taken (true-or-l (read_and_consumed n x p t) e))) λ e.
      when-within 51 k _ _ (λ f. listed net_refusals 51 refl (taken (true-or-r (joined n x p t) f))) λ f. given-within (record {
        next = omega (arith, D.next);
        places = D.places;
        transitions = D.transitions;
        declared = λ a i. elim i [ Memᴰ.head q ↦ rw q (h, l) | Memᴰ.tail j ↦ D.declared a j ];
        once = slots-more n x p t w D.once e f;
      })

  line-within : (l : Line) → Within (Drafted (suc k)) net_refusals (add_line k l n)
  unfolding add_line first
  line-within l =
      let two = number ∷ number ∷ [] in
      let three = number ∷ number ∷ number ∷ [] in
      let a : ℕ = number_at l 0 in
      let b : ℕ = number_at l 1 in
      let w : ℕ = number_at l 2 in
      cond-within (is_line "P" (number ∷ []) l) _ _ (place-within a) (cond-within (is_line "T" [] l) _ _ transition-within
      (cond-within (is_line "I" two l) _ _ (arc-within Input a b 1) (cond-within (is_line "I" three l) _ _ (arc-within Input a b w)
      (cond-within (is_line "O" two l) _ _ (arc-within Output b a 1) (cond-within (is_line "O" three l) _ _ (arc-within Output b a w)
      (cond-within (is_line "H" two l) _ _ (arc-within Inhibitor a b 1) (cond-within (is_line "R" two l) _ _ (arc-within Read a b 1)
      (refused-within (listed net_refusals 11 refl spot-few)))))))))

  whole-within : Within (λ m. Unit) net_refusals (whole n)
  unfolding whole first
  whole-within = seq-within (lowest-within 15 (lacking n) n.transitions (λ s h. listed net_refusals 15 refl (zero-le, omega (arith, D.transitions)))) (given-within tt)

pub net-within : (ls : List Line) → Within (λ n. Unit) net_refusals (net_of ls)
unfolding net_of
net-within ls = bind-within (by_lines add_line 1 ls empty_net) whole (lines-within add_line Drafted net_refusals (λ k l n D. line-within D l) 1 ls empty_net nothing) (λ n e D. whole-within D.1)

-- ---- logs

-- line k is next, and each line before it has one event or more
record Played (k : ℕ) (r : Run) : Type 0 where
  some : 1 ≤ k
  next : k ≤ 1 + length r.events
  events : length r.events ≤ 128

module _ (N : Net) where
  step-within : (k : ℕ) (l : Line) (r : Run) → Played k r → Within (Played (suc k)) log_refusals (log_line bench N k l r)
  unfolding log_line is_step_line play_step bench first
  step-within k l r D =
      let spot : (1 ≤ k) × (k ≤ 129) = (D.some, omega (arith, D.next, D.events)) in
      let ts : List ℕ = numbers_of l in
      when-within 21 k _ _ (λ t. listed log_refusals 21 refl spot) λ a. when-within 22 k _ _ (λ t. listed log_refusals 22 refl spot) λ b.
      when-within 23 k _ _ (λ t. listed log_refusals 23 refl spot) λ c.
      let more : length (r.events ++ map (in_step k) ts) ≡ length r.events + length ts = omega (arith, length-append r.events (map (in_step k) ts), length-map ts (in_step k)) in
      let full = (list-line S-letter l (not-is-false _ a)).1 in
      let room = ltb-false 128 (length r.events + length ts) c in
      let here : (1 ≤ k) × (k ≤ 128) = (D.some, omega (arith, D.next)) in
      when-within 24 k _ _ (λ t. listed log_refusals 24 refl here) λ d. when-within 25 k _ _ (λ t. listed log_refusals 25 refl here) λ e.
      when-within 26 k _ _ (λ t. listed log_refusals 26 refl here) λ f. when-within 27 k _ _ (λ t. listed log_refusals 27 refl here) λ g.
      given-within (record { some = omega arith; next = omega (arith, D.next); events = omega arith })

  pub log-within : (ls : List Line) → Within (λ r. Unit) log_refusals (built bench N ls)
  unfolding built play_log
  log-within ls =
      let begun : Played 1 (start N) = unfold start in (record { some = le_refl 1; next = le_refl 1; events = zero-le }) in
      bind-within (play_log bench N ls) _ (lines-within (log_line bench N) Played log_refusals step-within 1 ls (start N) begun) (λ r e p. given-within tt)

-- ---- records

-- line k is next, and each line before it added an event, a condition or a mark
record Entered (k : ℕ) (r : RunRecord) : Type 0 where
  next : k ≡ 1 + length r.events + length r.conditions + length r.marks
  events : length r.events ≤ 128
  conditions : length r.conditions ≤ 512
  marks : length r.marks ≤ 4096

module _ (N : Net) {k : ℕ} {r : RunRecord} (D : Entered k r) where
  record-spot : (1 ≤ k) × (k ≤ 4737)
  record-spot = (omega (arith, D.next), omega (arith, D.next, D.events, D.conditions, D.marks))

  event-within : (t : ℕ) → Within (Entered (suc k)) record_refusals (enter_event bench N k t r)
  unfolding enter_event with_event bench first
  event-within t =
      when-within 31 k _ _ (λ e. listed record_refusals 31 refl record-spot) λ a.
      when-within 32 k _ _ (λ e. listed record_refusals 32 refl (omega (arith, D.next, leb-true 128 (length r.events) e), record-spot.1)) λ b.
      let l = leb-false 128 (length r.events) b in
      when-within 33 k _ _ (λ e. listed record_refusals 33 refl (record-spot.0, omega (arith, D.next, D.conditions, D.marks))) λ c.
      let more = length-append r.events (t ∷ []) in
      given-within (record { next = omega (arith, D.next); events = omega arith; conditions = D.conditions; marks = D.marks })

  condition-within : (c : Condition) → Within (Entered (suc k)) record_refusals (enter_condition bench N k c r)
  unfolding enter_condition with_condition bench first
  condition-within c =
      when-within 31 k _ _ (λ e. listed record_refusals 31 refl record-spot) λ a.
      when-within 32 k _ _ (λ e. listed record_refusals 32 refl (omega (arith, D.next, leb-true 512 (length r.conditions) e), record-spot.1)) λ b.
      let l = leb-false 512 (length r.conditions) b in
      when-within 33 k _ _ (λ e. listed record_refusals 33 refl (record-spot.0, omega (arith, D.next, D.events, D.marks))) λ d.
      let more = length-append r.conditions (c ∷ []) in
      given-within (record { next = omega (arith, D.next); events = D.events; conditions = omega arith; marks = D.marks })

  mark-within : (m : Mark) → Within (Entered (suc k)) record_refusals (enter_mark bench k m r)
  unfolding enter_mark with_mark marked bench first
  mark-within m =
      when-within 32 k _ _ (λ e. listed record_refusals 32 refl (omega (arith, D.next, leb-true 4096 (length r.marks) e), record-spot.1)) λ b.
      let l = leb-false 4096 (length r.marks) b in
      let spot : k ≤ 4736 = omega (arith, D.next, D.events, D.conditions) in
      when-within 33 k _ _ (λ e. listed record_refusals 33 refl (record-spot.0, spot)) λ c.
      let z = and-true (ltb m.condition (length r.conditions)) (ltb m.event (length r.events)) (not-is-false _ c) in
      let i = ltb-true m.condition (length r.conditions) z.0 in
      let j = ltb-true m.event (length r.events) z.1 in
      when-within 34 k _ _ (λ e. listed record_refusals 34 refl (omega (arith, D.next, has_some (is_at (slot_of m.kind) m.condition m.event) r.marks e), spot)) λ d.
      let more = length-append r.marks (m ∷ []) in
      given-within (record { next = omega (arith, D.next); events = D.events; conditions = D.conditions; marks = omega arith })

  row_within : (l : Line) → Within (Entered (suc k)) record_refusals (enter_line bench N k l r)
  unfolding enter_line first
  row_within l =
      let two = number ∷ number ∷ [] in
      let three = number ∷ number_or_dash ∷ number_or_dash ∷ [] in
      cond-within (is_line "E" (number ∷ []) l) _ _ (event-within (number_at l 0)) (cond-within (is_line "C" three l) _ _ (condition-within (condition_of l))
      (cond-within (is_line "B" two l) _ _ (mark-within (mark_in Before l)) (cond-within (is_line "A" two l) _ _ (mark-within (mark_in After l))
      (cond-within (is_line "R" two l) _ _ (mark-within (mark_in ReadMark l)) (refused-within (listed record_refusals 31 refl record-spot))))))

-- the rules that are judged after all lines
rules-within : (N : Net) (r : RunRecord) → places N ≤ 32 → length r.events ≤ 128 → Within (λ u. Unit) record_refusals (obeys N r)
unfolding obeys first
rules-within N r p e =
    seq-within (lowest-within 35 _ _ (λ s l. listed record_refusals 35 refl (zero-le, omega arith)))
    (seq-within (lowest-within 36 _ _ (λ s l. listed record_refusals 36 refl (zero-le, omega arith)))
    (seq-within (lowest-within 37 _ _ (λ s l. listed record_refusals 37 refl (zero-le, omega arith)))
    (seq-within (lowest-within 38 _ _ (λ s l. listed record_refusals 38 refl (zero-le, omega arith)))
    (lowest-within 39 _ _ (λ s l. listed record_refusals 39 refl (zero-le, omega arith))))))

pub record-within : (N : Net) (text : List ℕ) → places N ≤ 32 → Within (λ r. Unit) record_refusals (read_record bench N text)
unfolding read_record
record-within N text p =
    let begun : Entered 1 empty_record = unfold empty_record in (record { next = refl; events = zero-le; conditions = zero-le; marks = zero-le }) in
    bind-within (by_lines (enter_line bench N) 1 (lines_of text) empty_record) _ (lines-within (enter_line bench N) Entered record_refusals (λ k l r D. row_within N D l) 1 (lines_of text) empty_record begun)
    (λ r e D. seq-within (rules-within N r p D.1.events) (given-within tt))

-- ---- arrangements

-- numbers below n, none twice, are at most n
numbers-few : (n : ℕ) (xs : List ℕ) → ((x : ℕ) → In x xs → x < n) → ((e : ℕ) → count (eqb e) xs ≤ 1) → length xs ≤ n
numbers-few n xs b o = few (λ x. x) n xs b (λ c. le_trans (le_of_eq (count_same _ (eqb c) xs (λ x m. eqb-sym x c))) (o c))

-- and at most n - 2 where two numbers are not among them
two-left : (n d e : ℕ) (xs : List ℕ) → ((x : ℕ) → In x xs → x < n) → ((x : ℕ) → count (eqb x) xs ≤ 1) → d < n → e < n → d ≢ e → count (eqb d) xs ≡ 0 → count (eqb e) xs ≡ 0
    → 2 + length xs ≤ n
two-left n d e xs b o l m q p r = omega (arith, numbers-few n (d ∷ e ∷ xs) known once)
  where
    known : (x : ℕ) → In x (d ∷ e ∷ xs) → x < n
    known x (Memᴰ.head h) = rw h l
    known x (Memᴰ.tail (Memᴰ.head h)) = rw h m
    known x (Memᴰ.tail (Memᴰ.tail i)) = b x i

    once : (x : ℕ) → count (eqb x) (d ∷ e ∷ xs) ≤ 1
    once x =
        let both = count-cons (eqb x) d (e ∷ xs) in
        let then = count-cons (eqb x) e xs in
        elim (ℕ_discrete x d) [
          | yes h ↦ omega (arith, one-le (eqb x d), neqb-count x e (λ i. q (sym h ∙ i)), ap (λ y. count (eqb y) xs) h)
          | no h ↦ elim (ℕ_discrete x e) [
            | yes i ↦ omega (arith, neqb-count x d h, one-le (eqb x e), ap (λ y. count (eqb y) xs) i)
            | no i ↦ omega (arith, neqb-count x d h, neqb-count x e i, o x)
          ]
        ]

none-counted : (x : ℕ) (xs : List ℕ) → is_in x xs ≡ false → count (eqb x) xs ≡ 0
unfolding is_in
none-counted x xs h = count_none (eqb x) xs (any_none (eqb x) xs h)

module _ (N : Net) (R : RunRecord) (I : IsProcess N R) where
  abbrev n : ℕ
  n = length R.events

  -- a predecessor that is late is another event, and in no line before
  late-apart : (done now : List ℕ) (e d : ℕ) → late R done now e d ≡ true → (d ≢ e) × (count (eqb d) done ≡ 0)
  unfolding late is_not_later
  late-apart done now e d h = elim (or-true (is_strictly_before R d e && not (is_in d done)) (is_not_later R d e && not (is_in d (done ++ now))) h) [
    | inl a ↦
        let z = and-true (is_strictly_before R d e) (not (is_in d done)) a in
        (λ q. I.process.acyclic e ((strict-is N R I.well_formed e e).0 (rw q at z.0)), none-counted d done (not-is-true _ z.1))
    | inr a ↦
        let z = and-true (is_not_later R d e) (not (is_in d (done ++ now))) a in
        let y = and-true (not (eqb d e)) (has_path R d e) z.0 in
        (eqb-false d e (not-is-true _ y.0), omega (arith, none-counted d (done ++ now) (not-is-true _ z.1), count-append (eqb d) done now))
  ]

  -- where the order is broken, two events are left
  broken-early : (gs : List (List ℕ)) (es : List ℕ) → Lined R gs → any (leb n) es ≡ false → repeats (flat gs ++ es) ≡ false → breaks R (flat gs) es ≡ true → 2 + length (flat gs) ≤ n
  unfolding breaks
  broken-early gs es L b c h =
      let e = any_found _ es h in
      let d = any_found _ (up_to n) e.2 in
      let z = late-apart (flat gs) es e.0 d.0 d.2 in
      let own = count-in (eqb e.0) e.0 es e.1 (eq-eqb e.0 e.0 refl) in
      two-left n d.0 e.0 (flat gs) L.known L.once (in-up_to n d.1) ((all-below n es).0 b e.0 e.1) z.0 z.1
      (omega (arith, once-each (flat gs ++ es) c e.0, count-append (eqb e.0) (flat gs) es))

  -- line k is next, and each line before it has events of its own
  record Grouped (k : ℕ) (gs : List (List ℕ)) : Type 0 where
    next : k ≡ 1 + length gs
    lined : Lined R gs

  group-within : (k : ℕ) (l : Line) (gs : List (List ℕ)) → Grouped k gs → Within (Grouped (suc k)) arrangement_refusals (groups_line R k l gs)
  unfolding groups_line is_group_line first
  group-within k l gs D =
      let es : List ℕ = numbers_of l in
      let long = flat-long gs D.lined.full in
      let spot : (1 ≤ k) × (k ≤ 129) = (omega (arith, D.next), omega (arith, D.next, numbers-few n (flat gs) D.lined.known D.lined.once, I.events)) in
      when-within 41 k _ _ (λ t. listed arrangement_refusals 41 refl spot) λ a. when-within 42 k _ _ (λ t. listed arrangement_refusals 42 refl spot) λ b.
      when-within 43 k _ _ (λ t. listed arrangement_refusals 43 refl spot) λ c.
      when-within 44 k _ _ (λ t. listed arrangement_refusals 44 refl (spot.0, omega (arith, D.next, broken-early gs es D.lined b c t, I.events))) λ d.
      given-within (record { next = omega (arith, D.next, length-append gs (es ∷ [])); lined = lined_snoc R gs es D.lined (list-line G-letter l (not-is-false _ a)).1 b c d })

  pub arrangement-within : (text : List ℕ) → Within (λ gs. Unit) arrangement_refusals (read_arrangement R text)
  unfolding read_arrangement first
  arrangement-within text =
      bind-within (by_lines (groups_line R) 1 (lines_of text) []) _ (lines-within (groups_line R) Grouped arrangement_refusals group-within 1 (lines_of text) [] (record { next = refl; lined = no_lines R }))
      (λ gs e D. seq-within (lowest-within 45 (missing gs) n (λ s l. listed arrangement_refusals 45 refl (zero-le, omega (arith, I.events)))) (given-within tt))
