-- The marks that the sets tell are those of the run.
use Prim.Native.Nat.{ℕ, ◌+◌, ◌-◌, ◌*◌, ◌/◌, ◌%◌, ◌^◌, ◌≤◌, ◌<◌}
use mathlib.Core.Path.{◌≡◌, refl, sym, ap, ap₂, ◌∙◌}
use mathlib.Core.Logic.{inl, inr}
use mathlib.Core.Bool.{Bool, true, false, and-false}
use mathlib.Core.List.{List, [], ◌∷◌, ◌++◌, map, append-nil}
use native.Mathlib.Decide.{ℕ_discrete}
use native.Mathlib.Omega.{arith}
use lib.Bits.{bit_and, bit_or, bit_xor}
use lib.Count.{count_trailing_zeros}
use lib.Dec.{eqb}
use lib.ListN.{length, get_or, length-append}
use borrow.Author.Tests.{eq-eqb, ne_eqb, eqb-true}
use Rattle.spec.specs.Lists.{up_to, flat, as_count}
use Rattle.spec.specs.Record.{Mark, names}
use Rattle.spec.specs.Building.{mark_if}
use Rattle.spec.specs.declared.MarkKind.TheVariants.{Read}
use Rattle.lists.specs.Laws
use Rattle.lists.specs.Tables.{table_same}
use Rattle.bit_sets.specs.Bits.{bit, bit-most, bit-or}
use Rattle.arc_sets.specs.Walk.{Left, lowest, left-within, skipped, left-rest, nothing_left}
use Rattle.record_columns.specs.Enters.{mark_of}
use Rattle.line_writer.specs.Lines.{kind_if}
use Rattle.condition_sets.specs.Sets.{bit_at, guards_of, Placed, WatchedBy}
use Rattle.condition_sets.proofs.Words.{at_most}
use Rattle.held_conditions.specs.Held.{place_in, producer_in, consumer_in, earlier_at, lowest_at, reads_condition, ReadsOf}
use Rattle.held_conditions.proofs.Reading.{lowest-place, named-is}
use Rattle.record_columns.specs.declared.Counts.{Counts}
use Rattle.record_writer.specs.Bytes.{event_lines, condition_lines}
use Rattle.record_writer.specs.Notes.{guard_if, note_if, notes_if, note_of, notes_of, notes_to, run_notes, run_bytes, Puts, Room, text_of}
use Rattle.record_writer.specs.declared.Ends.{Ends}
use Rattle.record_writer.proofs.Noting.{puts-as, puts-after, room_as, room-before, room-behind, parts-begin, parts_next, parts-room, parts-skip, parts-behind}

-- ---- the marks at one condition

module _ (rec ks : List ℕ) (e c : ℕ) where
  pub guard-unset : guard_if 0 rec ks e c ≡ []
  unfolding guard_if mark_if
  guard-unset = refl

  pub guard-own : producer_in rec c ≡ e → guard_if 1 rec ks e c ≡ []
  unfolding guard_if mark_if
  guard-own q = rw (eq-eqb (producer_in rec c) e q)

  pub guard-other : {a : Bool} → (producer_in rec c ≡ e → ⊥) → a ≡ earlier_at ks e (consumer_in rec c) → guard_if 1 rec ks e c ≡ mark_of (kind_if a) c e ∷ []
  unfolding guard_if mark_if
  guard-other d h = rw (ne_eqb (producer_in rec c) e d, h)

  note-unset : {b d : ℕ} → b ≡ 0 → d ≡ 0 → note_if b d rec ks e c ≡ []
  unfolding note_if guard_if mark_if
  note-unset p q = rw (p, q)

  -- by the two tests of a spot
  module _ {g r : Bool} where
    pub spot-none : g ≡ false → r ≡ false → note_if (as_count g) (as_count r) rec ks e c ≡ []
    spot-none p q = note-unset (Laws.count-false p) (Laws.count-false q)

    pub spot-read : g ≡ false → r ≡ true → note_if (as_count g) (as_count r) rec ks e c ≡ mark_of Read c e ∷ []
    unfolding note_if guard_if mark_if
    spot-read p q = rw (Laws.count-false p, Laws.count-true q)

    pub spot-guard : g ≡ true → r ≡ false → note_if (as_count g) (as_count r) rec ks e c ≡ guard_if 1 rec ks e c
    unfolding note_if mark_if
    spot-guard p q = rw (Laws.count-true p, Laws.count-false q) (append-nil (guard_if 1 rec ks e c))

    pub spot-both : g ≡ true → r ≡ true → note_if (as_count g) (as_count r) rec ks e c ≡ guard_if 1 rec ks e c ++ mark_of Read c e ∷ []
    unfolding note_if mark_if
    spot-both p q = rw (Laws.count-true p, Laws.count-true q)

  -- the guard's mark comes first
  pub due-room : {g : Bool} (r : Bool) {a : Ends} {out words : List ℕ} → g ≡ true → Room (note_if (as_count g) (as_count r) rec ks e c) a out words → Room (guard_if 1 rec ks e c) a out words
  unfolding note_if
  due-room r p R = room-before _ (rw (Laws.count-true p) at R)

-- a bit as the test of it
bit_test : (word i : ℕ) {b : Bool} → b ≡ eqb (bit word i) 1 → as_count b ≡ bit word i
bit_test word i q = elim (ℕ_discrete (bit word i) 1) [
  | yes e ↦ Laws.count-true (q ∙ eq-eqb (bit word i) 1 e) ∙ sym e
  | no d ↦ Laws.count-false (q ∙ ne_eqb (bit word i) 1 d) ∙ omega (arith, bit-most word i)
]

-- ---- the marks of a part, from its lowest bit on

module _ (guards reads : ℕ) (rec ks : List ℕ) (e first : ℕ) where
  abbrev here : ℕ → List Mark
  here i = note_if (bit guards i) (bit reads i) rec ks e (first + i)

  abbrev all : ℕ
  all = bit_or guards reads

  abbrev notes : ℕ → List Mark
  notes n = notes_if (bit guards) (bit reads) rec ks e (λ i. first + i) n

  here-none : (j : ℕ) → bit all j ≡ 0 → here j ≡ []
  here-none j z = note-unset rec ks e (first + j) (omega (arith, bit-or guards reads j)) (omega (arith, bit-or guards reads j))

  pub part_none : (a : Ends) (out words : List ℕ) → Puts (notes 0) a out words a out words
  unfolding notes_if
  part_none a out words = parts-begin here a out words

  -- bits that are not set add nothing
  part-skip : {a b : Ends} {out mid words rem : List ℕ} (d i : ℕ) → d ≤ i → ((j : ℕ) → d ≤ j → j < i → bit all j ≡ 0) → Puts (notes d) a out words b mid rem → Puts (notes i) a out words b mid rem
  unfolding notes_if
  part-skip d i h z x =
      let q : d + (i - d) ≡ i = omega arith in
      puts-as (parts-skip here d (i - d) (λ j l u. here-none j (z j l (omega arith))) ∙ ap (λ (n : ℕ). flat (map here (up_to n))) q) x

  module _ (few : first + 64 ≤ 512) {bits d i : ℕ} (L : Left all bits d) (t : i ≡ count_trailing_zeros 64 bits) (z : bits ≡ 0 → ⊥)
      {a b : Ends} {out mid words rem : List ℕ} (x : Puts (notes d) a out words b mid rem) where
    low : (i < 64) × (bit bits i ≡ 1)
    low = lowest L t z

    at-lowest : Puts (notes i) a out words b mid rem
    at-lowest = part-skip d i (left-within L t low.1) (skipped L t low.1) x

    pub part_low : (i < 64) × (first + i < 512)
    part_low = (low.0, omega (arith, low.0))

    module _ {g r : Bool} (p : g ≡ eqb (bit guards i) 1) (q : r ≡ eqb (bit reads i) 1) where
      same : here i ≡ note_if (as_count g) (as_count r) rec ks e (first + i)
      same = ap₂ (λ (u v : ℕ). note_if u v rec ks e (first + i)) (sym (bit_test guards i p)) (sym (bit_test reads i q))

      -- what the marks at the lowest bit ask for
      pub part_room : Room (notes 64) a out words → Room (note_if (as_count g) (as_count r) rec ks e (first + i)) b mid rem
      unfolding notes_if
      part_room R = room_as same (parts-room here i 64 at-lowest low.0 R)

      pub part-consumer : ((j : ℕ) → j < 64 → bit guards j ≡ 1 → consumer_in rec (first + j) ≤ 128) → g ≡ true → consumer_in rec (first + i) ≤ 128
      part-consumer c w = c i low.0 (eqb-true (bit guards i) 1 (sym p ∙ w))

      -- the marks are put, and their bit is cleared
      pub part-next : {c : Ends} {new ren : List ℕ} → Puts (note_if (as_count g) (as_count r) rec ks e (first + i)) b mid rem c new ren
          → (n : ℕ) × (n ≤ 64) × Left all (bit_and bits (bit_xor bits ((1 * 2 ^ i) % 2 ^ 64))) n × Puts (notes n) a out words c new ren
      unfolding notes_if
      part-next y = (i + 1, omega (arith, low.0), left-rest L t low.1 low.0, parts_next here i at-lowest (puts-as (sym same) y))

  pub part_end : {bits d : ℕ} {a b : Ends} {out mid words rem : List ℕ} → Left all bits d → d ≤ 64 → bits ≡ 0 → Puts (notes d) a out words b mid rem → Puts (notes 64) a out words b mid rem
  part_end {d = d} L h z x = part-skip d 64 h (λ j l u. nothing_left L z j l) x

-- ---- the words of a row

word-bit : (sets : List ℕ) (r w i : ℕ) → i < 64 → bit_at sets r (64 * w + i) ≡ bit (get_or sets (8 * r + w) 0) i
unfolding bit_at
word-bit sets r w i h =
    let q : (64 * w + i) / 64 ≡ w = omega arith in
    let m : (64 * w + i) % 64 ≡ i = omega arith in
    ap₂ (λ (x y : ℕ). bit (get_or sets (8 * r + x) 0) y) q m

module _ (watched reads rec ks : List ℕ) (e t : ℕ) where
  abbrev at-condition : ℕ → List Mark
  at-condition c = note_if (bit_at watched t c) (bit_at reads 0 c) rec ks e c

  abbrev row : ℕ → List Mark
  row n = notes_if (bit_at watched t) (bit_at reads 0) rec ks e (λ c. c) n

  pub row-none : (a : Ends) (out words : List ℕ) → Puts (row (64 * 0)) a out words a out words
  unfolding notes_if
  row-none a out words = parts-begin at-condition a out words

  module _ (w : ℕ) (h : w < 8) where
    abbrev guards : ℕ
    guards = get_or watched (8 * t + w) 0

    abbrev read : ℕ
    read = get_or reads w 0

    abbrev part : List Mark
    part = notes_if (bit guards) (bit read) rec ks e (λ i. 64 * w + i) 64

    row-part : row (64 * w + 64) ≡ row (64 * w) ++ part
    unfolding notes_if
    row-part =
        parts-behind at-condition (64 * w) 64
        ∙ ap (λ (ws : List (List Mark)). flat (map at-condition (up_to (64 * w))) ++ flat ws)
        (table_same (λ i. at-condition (64 * w + i)) (λ i. note_if (bit guards i) (bit read i) rec ks e (64 * w + i)) 64 (λ i l.
        let q : 8 * 0 + w ≡ w = omega arith in
        ap₂ (λ (b d : ℕ). note_if b d rec ks e (64 * w + i)) (word-bit watched t w i l) (word-bit reads 0 w i l ∙ ap (λ (z : ℕ). bit (get_or reads z 0) i) q)))

    pub row-consumer : ((c : ℕ) → c < 512 → bit_at watched t c ≡ 1 → consumer_in rec c ≤ 128) → (i : ℕ) → i < 64 → bit guards i ≡ 1 → consumer_in rec (64 * w + i) ≤ 128
    row-consumer g i l b = g (64 * w + i) (omega arith) (word-bit watched t w i l ∙ b)

    -- there is room for the marks of the next word
    pub row_room : {a b : Ends} {out mid words rem : List ℕ} → Puts (row (64 * w)) a out words b mid rem → Room (row 512) a out words → Room part b mid rem
    unfolding notes_if
    row_room x R =
        let q : 64 * w + 64 + (512 - (64 * w + 64)) ≡ 512 = omega arith in
        let whole = room_as (ap (λ (k : ℕ). flat (map at-condition (up_to k))) (sym q) ∙ parts-behind at-condition (64 * w + 64) (512 - (64 * w + 64))) R in
        room-behind x (room_as row-part (room-before _ whole))

    pub row_next : {a b c : Ends} {out mid new words rem ren : List ℕ} → Puts (row (64 * w)) a out words b mid rem → Puts part b mid rem c new ren → Puts (row (64 * (w + 1))) a out words c new ren
    row_next x y =
        let q : 64 * w + 64 ≡ 64 * (w + 1) = omega arith in
        puts-as (sym row-part ∙ ap row q) (puts-after x y)

  pub row-end : {w : ℕ} {a b : Ends} {out mid words rem : List ℕ} → w ≡ 8 → Puts (row (64 * w)) a out words b mid rem → Puts (row 512) a out words b mid rem
  row-end q x = puts-as (ap (λ (n : ℕ). row (64 * n)) q) x

-- ---- the sets of an event tell its marks

module _ (arcs : List ℕ) {places watched reads rec ks : List ℕ} {m : ℕ} (e : ℕ) (P : Placed rec m places) (few : m ≤ 512) (placed : (c : ℕ) → c < m → place_in rec c < 32)
    (W : WatchedBy (guards_of arcs (get_or rec e 0)) places (get_or rec e 0) 64 watched) (Y : ReadsOf rec ks (get_or arcs (96 + get_or rec e 0) 0) e m reads)
    (low : (p : ℕ) → bit (guards_of arcs (get_or rec e 0)) p ≡ 1 → p < 32) where
  abbrev t : ℕ
  t = get_or rec e 0

  abbrev guarding : ℕ
  guarding = guards_of arcs t

  pub watched-low : (c : ℕ) → c < 512 → bit_at watched t c ≡ 1 → c < m
  watched-low c h b = let y = (W.tells c h).says b in ((P.tells y.0 c (low y.0 y.2) h).says y.3).0

  guard-same : (c : ℕ) → c < m → bit_at watched t c ≡ bit guarding (place_in rec c)
  guard-same c l =
      let p = place_in rec c in
      let h : c < 512 = omega arith in
      elim (ℕ_discrete (bit guarding p) 1) [
        | yes g ↦ (W.tells c h).holds (p, omega (arith, placed c l), g, (P.tells p c (placed c l) h).holds (l, refl)) ∙ sym g
        | no d ↦ elim (ℕ_discrete (bit_at watched t c) 1) [
          | yes b ↦
              let y = (W.tells c h).says b in
              let q : p ≡ y.0 = ((P.tells y.0 c (low y.0 y.2) h).says y.3).1 in
              absurd (d (ap (bit guarding) q ∙ y.2))
          | no f ↦ omega (arith, at_most watched t c, bit-most guarding p)
        ]
      ]

  -- beyond the conditions there is nothing
  beyond : (c : ℕ) → m ≤ c → c < m + (512 - m) → note_if (bit_at watched t c) (bit_at reads 0 c) rec ks e c ≡ []
  beyond c h l = note-unset rec ks e c no-guard (Y.bits c (omega arith) ∙ Laws.count-false no_read)
    where
      no-guard : bit_at watched t c ≡ 0
      no-guard = elim (ℕ_discrete (bit_at watched t c) 1) [
        | yes q ↦ absurd (omega (arith, watched-low c (omega arith) q))
        | no d ↦ omega (arith, at_most watched t c)
      ]

      no_read : reads_condition rec ks (get_or arcs (96 + t) 0) e m c ≡ false
      no_read = unfold reads_condition in (elim (Laws.true-or-false (names (lowest_at rec ks (place_in rec c) e m) c)) [
        | inl s ↦ absurd (omega (arith, (lowest-place rec ks (place_in rec c) e m c (named-is (lowest_at rec ks (place_in rec c) e m) c s)).0))
        | inr s ↦ rw s (and-false (eqb (bit (get_or arcs (96 + t) 0) (place_in rec c)) 1))
      ])

  pub row-notes : notes_if (bit_at watched t) (bit_at reads 0) rec ks e (λ c. c) 512 ≡ notes_of arcs rec ks m e
  unfolding notes_if notes_of note_of
  row-notes =
      let f : ℕ → List Mark = λ c. note_if (bit_at watched t c) (bit_at reads 0 c) rec ks e c in
      let z : m + (512 - m) ≡ 512 = omega arith in
      ap (λ (n : ℕ). flat (map f (up_to n))) (sym z) ∙ sym (parts-skip f m (512 - m) beyond)
      ∙ ap flat (table_same f _ m (λ c l. ap₂ (λ (b d : ℕ). note_if b d rec ks e c) (guard-same c l) (Y.bits c (omega arith))))

-- ---- the marks of the events, one after the other

module _ (arcs rec ks : List ℕ) (m : ℕ) where
  pub marks-none : (a : Ends) (out words : List ℕ) → Puts (notes_to arcs rec ks m 0) a out words a out words
  unfolding notes_to
  marks-none a out words = parts-begin (notes_of arcs rec ks m) a out words

  pub marks-room : {ws : List Mark} {n : ℕ} {a b : Ends} {out mid words rem : List ℕ} (e : ℕ) → e < n → ws ≡ notes_of arcs rec ks m e → Puts (notes_to arcs rec ks m e) a out words b mid rem → Room (notes_to arcs rec ks m n) a out words → Room ws b mid rem
  unfolding notes_to
  marks-room {n = n} e l q x R = room_as (sym q) (parts-room (notes_of arcs rec ks m) e n x l R)

  pub marks-next : {ws : List Mark} {a b c : Ends} {out mid new words rem ren : List ℕ} (e : ℕ) → ws ≡ notes_of arcs rec ks m e → Puts (notes_to arcs rec ks m e) a out words b mid rem → Puts ws b mid rem c new ren → Puts (notes_to arcs rec ks m (e + 1)) a out words c new ren
  unfolding notes_to
  marks-next e q x y = parts_next (notes_of arcs rec ks m) e x (puts-as q y)

  pub marks-end : {e n : ℕ} {a b : Ends} {out mid words rem : List ℕ} → e ≡ n → Puts (notes_to arcs rec ks m e) a out words b mid rem → Puts (notes_to arcs rec ks m n) a out words b mid rem
  marks-end q x = puts-as (ap (notes_to arcs rec ks m) q) x

-- ---- the whole record

pub run_length : (arcs : List ℕ) (s : Counts) (rec ks : List ℕ) → length (run_bytes arcs s rec ks)
    ≡ length (event_lines rec s.events) + length (condition_lines rec s.conditions) + length (text_of (run_notes arcs s rec ks))
unfolding run_bytes
run_length arcs s rec ks =
    let es = event_lines rec s.events in
    let cs = condition_lines rec s.conditions in
    omega (arith, length-append (es ++ cs) (text_of (run_notes arcs s rec ks)), length-append es cs)
