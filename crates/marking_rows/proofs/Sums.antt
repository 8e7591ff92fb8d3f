-- The sums of events, one event after the other, and the rows that are written from them: each event adds its arcs
-- once, so that the sums are those of the definitions over its transitions, and a row is what was had less what was
-- taken.
use Rattle.std.proofs.Common.{◌≡◌, ℕ, suc, ◌+◌, ◌-◌, ◌*◌, ◌≤◌, ◌<◌, List, [], ◌∷◌, ◌++◌, length, get_or, set, take, drop, refl, sym, ap, ap₂, ◌∙◌, subst, arith, lt-ltb, le-ltb, length-take, length-drop}
use Rattle.std.proofs.Math.Decide.{dec_le, ℕ_discrete}
use Rattle.std.proofs.Math.Seq.{get_or-take, get_or-drop}
use mathlib.Core.List.{map-append}
use Rattle.spec.specs.Lists.{sum_of, flat}
use Rattle.lists.specs.Laws.{sum_of-append, at_in}
use Rattle.lists.specs.Along.{take_more}
use Rattle.lists.specs.Arrays.{blank}
use Rattle.lists.specs.Mapped.{Mapped, mapped-none, mapped-more}
use Rattle.lists.specs.Stretch.{MappedFrom}
use Rattle.arrangement_reader.specs.Lined.{Ordered}
use Rattle.arrangement_reader.proofs.Ordering.{end-next, end-most, first-lines}
use Rattle.marking_rows.specs.Rows.{transitions_of, arc_at, row_in, Small, Room, added, AddsArcs, Begun, Played, Playing, Plays, left_of, Playable, Rows}
use Rattle.marking_rows.specs.declared.PlaceSums.{PlaceSums}

-- ---- the arcs of a transition

added-here : {old : List ℕ} {p : ℕ} (arcs : List ℕ) (start : ℕ) (new : List ℕ) {v : ℕ} → Mapped old p (added old arcs start) new → v ≡ get_or arcs (start + p) 0 → get_or new p 0 + v ≡ added old arcs start p
unfolding added
added-here {p = p} arcs start new m e = ap₂ (λ (x y : ℕ). x + y) (m.beyond p (omega arith)) e

pub adds_none : (old arcs : List ℕ) (start : ℕ) → AddsArcs old arcs start 0 old
adds_none old arcs start = record { mapped = mapped-none old _; bytes = λ p h. absurd (omega arith) }

pub adds-more : {old arcs : List ℕ} {start p v : ℕ} {new : List ℕ} → p < length old → v ≡ get_or arcs (start + p) 0 → v ≤ 255 → AddsArcs old arcs start p new → AddsArcs old arcs start (p + 1) (set new p (get_or new p 0 + v))
adds-more {arcs = arcs} {start} {p} {v} {new} h e l a = record {
  mapped = mapped-more _ h (added-here arcs start new a.mapped e) a.mapped;
  bytes = λ q u. elim (ℕ_discrete q p) [
    | yes z ↦ let w : get_or arcs (start + q) 0 ≡ v = ap (λ (j : ℕ). get_or arcs (start + j) 0) z ∙ sym e in omega arith
    | no z ↦ a.bytes q (omega arith)
  ];
}

pub left_here : (sums : PlaceSums) (p : ℕ) {v : ℕ} → v ≡ get_or sums.had p 0 - get_or sums.taken p 0 → v ≡ left_of sums p
unfolding left_of
left_here sums p e = e

-- ---- an event

snoc : (f : ℕ → ℕ) (ts : List ℕ) (t : ℕ) → sum_of f (ts ++ t ∷ []) ≡ sum_of f ts + f t
unfolding sum_of
snoc f ts t = sum_of-append f ts (t ∷ []) ∙ omega arith

output-is : (arcs : List ℕ) (t p : ℕ) → arc_at arcs 1024 t p ≡ get_or arcs (1024 + 32 * t + p) 0
unfolding arc_at
output-is arcs t p = refl

input-is : (arcs : List ℕ) (t p : ℕ) → arc_at arcs 0 t p ≡ get_or arcs (32 * t + p) 0
unfolding arc_at
input-is arcs t p = let z : 0 + 32 * t + p ≡ 32 * t + p = omega arith in ap (λ (j : ℕ). get_or arcs j 0) z

arc-added : {old arcs new : List ℕ} {start places : ℕ} → AddsArcs old arcs start places new → (p : ℕ) → p < places → get_or new p 0 ≡ get_or old p 0 + get_or arcs (start + p) 0
unfolding added
arc-added a p l = a.mapped.here p l

arcs-small : {old arcs new : List ℕ} {start places : ℕ} (m : ℕ) → AddsArcs old arcs start places new → Small old m → Small new (m + 1)
arcs-small {places = places} m a r p l = elim (dec_le places p) [
  | yes u ↦ omega (arith, a.mapped.beyond p u, r p l)
  | no u ↦ omega (arith, arc-added a p (omega arith), a.bytes p (omega arith), r p l)
]

module _ {places : ℕ} {arcs : List ℕ} (t : ℕ) {old new : PlaceSums} (a : AddsArcs old.had arcs (1024 + 32 * t) places new.had) (b : AddsArcs old.taken arcs (32 * t) places new.taken) where
  pub event-room : (m : ℕ) → Room old m → Room new (m + 1)
  event-room m r = record { had = arcs-small m a r.had; taken = arcs-small m b r.taken }

  pub event-played : {tokens ts : List ℕ} → Played places tokens arcs ts old → Played places tokens arcs (ts ++ t ∷ []) new
  event-played {tokens} {ts} s = record {
    had = λ p l. omega (arith, arc-added a p l, s.had p l, snoc (λ u. arc_at arcs 1024 u p) ts t, output-is arcs t p);
    none = λ p l u. a.mapped.beyond p l ∙ s.none p l u;
    taken = λ p l. omega (arith, arc-added b p l, s.taken p l, snoc (λ u. arc_at arcs 0 u p) ts t, input-is arcs t p);
  }

transitions-more : (trans es : List ℕ) (x : ℕ) → transitions_of trans (es ++ x ∷ []) ≡ transitions_of trans es ++ get_or trans x 0 ∷ []
unfolding transitions_of
transitions-more trans es x = map-append (λ e. get_or trans e 0) es (x ∷ [])

-- the events up to place i of an array
pub plays-none : {places : ℕ} {arcs trans lined : List ℕ} {from : ℕ} {old : PlaceSums} → Room old from → Plays places arcs trans lined from from old old
plays-none r = record { room = r; played = λ tokens s. s }

-- event j of the part
module _ {places : ℕ} {arcs trans lined : List ℕ} {j e t : ℕ} {old now new : PlaceSums} where
  pub plays-more : (from to : ℕ) → j < length (take (to - from) (drop from lined)) → e ≡ get_or (take (to - from) (drop from lined)) j 0 → t ≡ get_or trans e 0
      → AddsArcs now.had arcs (1024 + 32 * t) places new.had → AddsArcs now.taken arcs (32 * t) places new.taken
      → Plays places arcs trans lined from (from + j) old now → Plays places arcs trans lined from (from + j + 1) old new
  plays-more from to l d u a b g = record {
    room = event-room t a b (from + j) g.room;
    played = λ tokens s. subst (λ (ts : List ℕ). Played places tokens arcs ts new) one_more (event-played t a b (g.played tokens s));
  }
    where
      inside : (j < to - from) × (from + j < length lined)
      inside = (omega (arith, length-take (to - from) (drop from lined)), omega (arith, length-take (to - from) (drop from lined), length-drop from lined))

      event : e ≡ get_or lined (from + j) 0
      event = d ∙ get_or-take (to - from) (drop from lined) j 0 inside.0 ∙ get_or-drop from lined j 0

      one_more : transitions_of trans (take (from + j) lined) ++ t ∷ [] ≡ transitions_of trans (take (from + j + 1) lined)
      one_more = rw (take_more 0 lined (from + j) inside.1, u, event) (sym (transitions-more trans (take (from + j) lined) (get_or lined (from + j) 0)))

-- ---- the first row

pub begun-played : {places : ℕ} (tokens arcs : List ℕ) {sums : PlaceSums} → places ≤ 32 → Begun tokens places sums → Played places tokens arcs [] sums
unfolding sum_of
begun-played tokens arcs few b = record {
  had = λ p l. b.had.here p l ∙ omega arith;
  none = λ p l u. b.had.beyond p l ∙ blank 32 p;
  taken = λ p l. rw b.taken (blank 32 p);
}

pub begun-room : {places : ℕ} (tokens : List ℕ) {sums : PlaceSums} → ((p : ℕ) → get_or tokens p 0 ≤ 512) → Begun tokens places sums → Room sums 0
begun-room {places} tokens low b = record {
  had = λ p l. elim (dec_le places p) [
    | yes u ↦ omega (arith, b.had.beyond p u, blank 32 p)
    | no u ↦ omega (arith, b.had.here p (omega arith), low p)
  ];
  taken = λ p l. rw b.taken (omega (arith, blank 32 p));
}

left_is : {places : ℕ} {tokens arcs ts : List ℕ} {sums : PlaceSums} → Played places tokens arcs ts sums → (p : ℕ) → p < 32 → left_of sums p ≡ row_in places tokens arcs ts p
unfolding left_of row_in
left_is {places} s p l = elim (dec_le places p) [
  | yes u ↦ rw (le-ltb p places u) (omega (arith, s.none p u l))
  | no u ↦ rw (lt-ltb p places (omega arith)) (ap₂ ◌-◌ (s.had p (omega arith)) (s.taken p (omega arith)))
]

-- ---- the rows up to row k

pub record Putting (places : ℕ) (tokens arcs trans lined : List ℕ) (old : List ℕ) (k : ℕ) (sums : PlaceSums) (new : List ℕ) : Type 0 where
  pub room : Room sums (get_or lined (128 + k) 0)
  pub played : Played places tokens arcs (transitions_of trans (take (get_or lined (128 + k) 0) lined)) sums
  pub long : length new ≡ length old
  pub row : (j p : ℕ) → j ≤ k → p < 32 → get_or new (32 * j + p) 0 ≡ row_in places tokens arcs (transitions_of trans (take (get_or lined (128 + j) 0) lined)) p
  pub beyond : (i : ℕ) → 32 * k + 32 ≤ i → get_or new i 0 ≡ get_or old i 0

pub putting-first : {places : ℕ} {tokens arcs trans lined old : List ℕ} {sums : PlaceSums} {new : List ℕ} → places ≤ 32 → ((p : ℕ) → get_or tokens p 0 ≤ 512) → get_or lined 128 0 ≡ 0
    → Begun tokens places sums → MappedFrom old 0 32 (left_of sums) new → Putting places tokens arcs trans lined new 0 sums new
unfolding transitions_of
putting-first {places} {tokens} {arcs} {trans} {lined} {old} {sums} {new} few low e m w = record {
  room = rw e (begun-room tokens low m);
  played = rw e start;
  long = refl;
  row = λ j p h l. let z : j ≡ 0 = omega arith in let q : 32 * j + p ≡ 0 + p = omega arith in rw (q, z, e) (w.here p l ∙ left_is start p l);
  beyond = λ i h. refl;
}
  where
    start : Played places tokens arcs [] sums
    start = begun-played tokens arcs few m

pub putting-more : {places : ℕ} {tokens arcs trans lined old : List ℕ} {k : ℕ} {sums sums' : PlaceSums} {now new : List ℕ} → Putting places tokens arcs trans lined old k sums now
    → Plays places arcs trans lined (get_or lined (128 + k) 0) (get_or lined (129 + k) 0) sums sums' → MappedFrom now (32 * (k + 1)) 32 (left_of sums') new → Putting places tokens arcs trans lined old (k + 1) sums' new
putting-more {places} {tokens} {arcs} {trans} {lined} {old} {k} {sums} {sums'} {now} {new} g a w = record {
  room = rw next a.room;
  played = rw next played;
  long = w.long ∙ g.long;
  row = λ j p h l. elim (ℕ_discrete j (k + 1)) [
    | yes z ↦ rw (z, next) (w.here p l ∙ left_is played p l)
    | no z ↦ w.before (32 * j + p) (omega arith) ∙ g.row j p (omega arith) l
  ];
  beyond = λ i h. w.beyond i (omega arith) ∙ g.beyond i (omega arith);
}
  where
    next : 128 + (k + 1) ≡ 129 + k
    next = omega arith

    played : Played places tokens arcs (transitions_of trans (take (get_or lined (129 + k) 0) lined)) sums'
    played = a.played tokens g.played

pub putting-end : {places : ℕ} {tokens arcs trans lined first old : List ℕ} {f : ℕ → ℕ} {k : ℕ} {sums : PlaceSums} {now new : List ℕ} → MappedFrom first 0 32 f old → Putting places tokens arcs trans lined old k sums now → k ≤ 128
    → MappedFrom now (32 * k + 32) (4096 - 32 * k) (λ p. 0) new → (gs : List (List ℕ)) → Ordered gs lined → k ≡ length gs → Rows places tokens arcs trans gs first new
putting-end {places} {tokens} {arcs} {trans} {lined} {k = k} {new = new} v g most w gs o e = record {
  long = w.long ∙ g.long ∙ v.long;
  row = λ j p h l. w.before (32 * j + p) (omega arith) ∙ g.row j p (omega arith) l ∙ ap (λ (es : List ℕ). row_in places tokens arcs (transitions_of trans es) p) (ap (λ (i : ℕ). take i lined) (o.ends j h) ∙ first-lines o j);
  zero = λ i h l. let q : 32 * k + 32 + (i - (32 * k + 32)) ≡ i = omega arith in ap (λ (j : ℕ). get_or new j 0) (sym q) ∙ w.here (i - (32 * k + 32)) (omega arith);
  beyond = λ i h. w.beyond i (omega arith) ∙ g.beyond i (omega arith) ∙ v.beyond i (omega arith);
}

-- ---- where a line starts and ends, and its events

module _ {places : ℕ} {tokens trans lined : List ℕ} {lines : ℕ} (P : Playable places tokens trans lined lines) where
  pub no-events : get_or lined 128 0 ≡ 0
  unfolding flat
  no-events = P.ordered.ends 0 (omega arith)

  pub line-playing : {k from to : ℕ} {sums : PlaceSums} → k < lines → from ≡ get_or lined (128 + k) 0 → to ≡ get_or lined (129 + k) 0
      → Room sums from → Playing sums places trans lined from to
  line-playing {k} {from} {to} h p q room =
      let gs = P.groups in
      let l : k < length gs = omega (arith, P.lines) in
      let a : 129 + k ≡ 128 + suc k = omega arith in
      let x : from ≡ length (flat (take k gs)) = p ∙ P.ordered.ends k (omega arith) in
      let y : to ≡ length (flat (take (suc k) gs)) =
      q ∙ ap (λ (z : ℕ). get_or lined z 0) a ∙ P.ordered.ends (suc k) l in
      record {
        few = P.places;
        order = omega (arith, end-next P.ordered k l);
        most = omega (arith, end-most P.ordered (suc k), P.events);
        room = room;
        events-long = P.ordered.long;
        known = λ i u. let v : i < length (flat gs) = omega (arith, end-most P.ordered (suc k)) in
            rw (sym (get_or-take (length (flat gs)) lined i 0 v) ∙ ap (λ (z : List ℕ). get_or z i 0) P.ordered.events)
            (P.known _ (at_in 0 (flat gs) i v));
      }
