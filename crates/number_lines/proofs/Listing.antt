-- A list line, walked from its letter on: what is read so far, and what follows from a comma or an ending behind it.
use Prim.Native.Nat.{ℕ, zero, suc, ◌+◌, ◌%◌, ◌≤◌, ◌<◌, max}
use mathlib.Core.Path.{◌≡◌, refl, sym, ap, ◌∙◌}
use mathlib.Core.Bool.{Bool, true, false, ◌||◌}
use mathlib.Core.List.Memᴰ
use mathlib.Core.List.{List, [], ◌∷◌, ◌++◌, map}
use native.Mathlib.Nat.{mod-eq_of_lt}
use native.Mathlib.Numerals.{add-one}
use native.Mathlib.Omega.{arith}
use lib.Dec.{leb}
use lib.ListN.{length, get_or, take, set, length-append, length-set}
use lib.Seq.{take-suc-set}
use borrow.Author.Tests.{le-leb, lt-leb, eq-eqb}
use Rattle.spec.specs.Lists.{any, every}
use Rattle.spec.specs.Text.{class_of}
use Rattle.line_forms.specs.Rows.{a_number, value_of, is_list, values_of}
use Rattle.spec.specs.Classes.{class_code, alike}
use Rattle.spec.specs.declared.Class.{Class}
use Rattle.spec.specs.declared.Class.TheVariants.{Return}
use Rattle.line_forms.specs.declared.Slot.{Slot}
use Rattle.line_forms.specs.declared.Slot.TheVariants.{Number}
use Rattle.lists.specs.Laws.{here, leb-max}
use Rattle.byte_entries.specs.Entries.{code_of, entry_of, class_by}
use Rattle.byte_entries.proofs.Classes.{class-named, comma-entry}
use Rattle.lines.specs.Lines.{line_of, LineTo, Ending, PastEnding, past_by, Ahead}
use Rattle.lines.proofs.Lines.{past-told, went_on, here as inside, on, on-by}
use Rattle.digits.specs.Digits.{between, Stands, IsField, FieldTo}
use Rattle.plain_lines.specs.Plain.{LetterEntry, Begins, PlainLine}
use Rattle.plain_lines.proofs.Plain.{Tail, last-field, more-fields, plain-line, opens_by}
use Rattle.number_lines.specs.declared.Listed.{Listed}
use Rattle.number_lines.specs.Numbers.{Few, Puts, Listing, ListAt}

-- ---- what is read

-- the numbers ns have been read from a line, and the last of them, or the letter, ends before `end`
pub record Read (s : List ℕ) (at end : ℕ) (ns : List ℕ) : Type 0 where
  pub more : Stands 44 s end → (next : ℕ) (fs : List Slot) → Tail 4 s (end + 1) next fs → PlainLine 4 s at next (map Number ns ++ fs)
  pub ends : 0 < length ns → (next : ℕ) → Ending s end next → PlainLine 4 s at next (map Number ns)

-- they are counted, the greatest of them is known, and the array has them as far as it has room
pub record Kept (xs : List ℕ) (count high : ℕ) (ns : List ℕ) : Type 0 where
  pub long : length xs ≡ 128
  pub counted : count ≡ length ns
  pub highest : (known : ℕ) → 0 < known → leb known high ≡ any (leb known) ns
  pub array : Few 128 256 ns → take count xs ≡ ns

map_more : (ns : List ℕ) (v : ℕ) (fs : List Slot) → map Number (ns ++ v ∷ []) ++ fs ≡ map Number ns ++ Number v ∷ fs
map_more [] v fs = refl
map_more (n ∷ ns) v fs = ap (λ (z : List Slot). Number n ∷ z) (map_more ns v fs)

map_last : (ns : List ℕ) (v : ℕ) → map Number (ns ++ v ∷ []) ≡ map Number ns ++ Number v ∷ []
map_last [] v = refl
map_last (n ∷ ns) v = ap (λ (z : List Slot). Number n ∷ z) (map_last ns v)

module _ {s : List ℕ} {at : ℕ} where
  pub read_none : Begins s at → Read s at (at + 1) []
  read_none b = record {
    more = λ c next fs t. plain-line b c (let z : at + 1 + 1 ≡ at + 2 = omega arith in rw z at t);
    ends = λ h. absurd (omega arith);
  }

  pub read_more : {end e v : ℕ} {ns : List ℕ} → Read s at end ns → Stands 44 s end → end + 1 ≤ e → IsField 4 (between s (end + 1) e) (Number v) → Read s at e (ns ++ v ∷ [])
  read_more {end} {e} {v} {ns} r w h p = record {
    more = λ c next fs t. rw (map_more ns v fs) (r.more w next (Number v ∷ fs) (more-fields h p c t));
    ends = λ z next c. rw (map_last ns v) (r.more w next (Number v ∷ []) (last-field h p c));
  }

-- ---- what is kept

any_last : (q : ℕ → Bool) (ns : List ℕ) (v : ℕ) → any q (ns ++ v ∷ []) ≡ (any q ns || q v)
unfolding any
any_last q [] v = or-none (q v)
  where
    or-none : (b : Bool) → (b || false) ≡ b
    or-none true = refl
    or-none false = refl
any_last q (n ∷ ns) v = rw (any_last q ns v) (or_assoc (q n) (any q ns) (q v))
  where
    or_assoc : (a b c : Bool) → (a || (b || c)) ≡ ((a || b) || c)
    or_assoc true b c = refl
    or_assoc false b c = refl

few-before : (ns : List ℕ) (v : ℕ) → Few 128 256 (ns ++ v ∷ []) → Few 128 256 ns
few-before ns v f = record { few = omega (arith, f.few, length-append ns (v ∷ [])); low = λ n m. f.low n (Memᴰ.append_left (v ∷ []) m) }

pub kept-none : {xs : List ℕ} → length xs ≡ 128 → Kept xs 0 0 []
unfolding any
kept-none h = record { long = h; counted = refl; highest = λ known z. lt-leb known 0 z; array = λ f. refl }

pub kept_more : {xs ys ns : List ℕ} {count high v : ℕ} → Kept xs count high ns → Puts xs count v ys → Kept ys (count + 1) (max high v) (ns ++ v ∷ [])
kept_more {xs} {ys} {ns} {count} {high} {v} k p = record {
  long = p.long;
  counted = omega (arith, k.counted, length-append ns (v ∷ []));
  highest = λ known z. leb-max known high v ∙ ap (λ b. b || leb known v) (k.highest known z) ∙ sym (any_last (leb known) ns v);
  array = λ f.
      let c : count < 128 = omega (arith, k.counted, f.few, length-append ns (v ∷ [])) in
      rw (p.put c (f.low v (Memᴰ.append_right ns here)), add-one count, take-suc-set xs count v (omega (arith, k.long)), k.array (few-before ns v f));
}

pub puts : (xs : List ℕ) (i v : ℕ) → length xs ≡ 128 → Puts xs i v (set xs i (v % 256))
puts xs i v h = record { long = length-set xs i (v % 256) ∙ h; put = λ z l. ap (set xs i) (mod-eq_of_lt l) }

-- ---- the whole line

all-numbers : (ns : List ℕ) → every a_number (map Number ns) ≡ true
unfolding every
all-numbers [] = refl
all-numbers (n ∷ ns) = all-numbers ns

values : (ns : List ℕ) → map value_of (map Number ns) ≡ ns
values [] = refl
values (n ∷ ns) = ap (λ (z : List ℕ). n ∷ z) (values ns)

count-fields : (ns : List ℕ) → length (map Number ns) ≡ length ns
count-fields [] = refl
count-fields (n ∷ ns) = ap suc (count-fields ns)

any-zero : (ns : List ℕ) → 0 < length ns → any (leb 0) ns ≡ true
unfolding any
any-zero [] h = absurd (omega arith)
any-zero (n ∷ ns) h = rw (le-leb 0 n (omega arith))

module _ {s : List ℕ} {at next : ℕ} (ns : List ℕ) (l : PlainLine 4 s at next (map Number ns)) (h : 0 < length ns) where
  is-list : {k : Class} → class_of (get_or s at 0) ≡ k → is_list 4 k l.bytes ≡ true
  unfolding is_list alike
  is-list {k} e = rw (l.letter, l.fields, e, eq-eqb (class_code k) (class_code k) refl, le-leb 1 (length (map Number ns)) (omega (arith, count-fields ns))) (all-numbers ns)

  numbers-are : values_of 4 l.bytes ≡ ns
  unfolding values_of
  numbers-are = rw l.fields (values ns)

-- what is known of a list line at a comma or an ending, of which the entry is told
pub record Walked (s : List ℕ) (at : ℕ) (xs : List ℕ) (count high end stop : ℕ) : Type 0 where
  pub numbers : List ℕ
  pub read : Read s at end numbers
  pub kept : Kept xs count high numbers
  pub few : at + count < end
  pub told : stop ≡ entry_of (get_or s end 0)
  pub ahead : Ahead s end

abbrev pub list-to : {k : Class} {s xs : List ℕ} {at : ℕ} {r : Listed} → Listing k s at r xs → at < r.next → LineTo s at r.next
list-to l h = record { line = line_of l.bytes true; lines = l.lines; on = h; within = omega (arith, l.within) }

pub no-list : {k : Class} {s xs : List ℕ} {at : ℕ} → length xs ≡ 128 → ListAt k s at (record { count = 0; high = 0; next = at }) xs
no-list h = record { long = h; start = omega arith; line = λ z. absurd (omega arith) }

-- the letter, told by its entry
module _ {s : List ℕ} {at letter e : ℕ} (l : LetterEntry letter) (a : Ahead s at) (q : e ≡ entry_of (get_or s at 0)) (z : e ≡ letter) where
  begins : Begins s at
  begins = record { within = inside a; letter = opens_by (get_or s at 0) l (sym q ∙ z) }

  pub letter-on : Ahead s (at + 1)
  letter-on = on a begins.letter.end

  pub letter-class : class_of (get_or s at 0) ≡ class_by letter
  letter-class = sym (class-named (get_or s at 0)) ∙ ap class_by (sym q ∙ z)

  pub walk_start : {xs : List ℕ} {stop : ℕ} → length xs ≡ 128 → stop ≡ entry_of (get_or s (at + 1) 0) → Walked s at xs 0 0 (at + 1) stop
  walk_start h t = record { numbers = []; read = read_none begins; kept = kept-none h; few = omega arith; told = t; ahead = letter-on }

module _ {s xs : List ℕ} {at count high end stop : ℕ} (w : Walked s at xs count high end stop) where
  -- behind a comma, and with the number that was read there
  pub comma-on : stop ≡ 10 → Ahead s (end + 1)
  comma-on e = on-by w.ahead w.told (λ z. omega arith)

  pub walk-on : {ys : List ℕ} {to v next : ℕ} → stop ≡ 10 → FieldTo 4 s (end + 1) to next (Number v) → Puts xs count v ys → Walked s at ys (count + 1) (max high v) to next
  walk-on {v = v} e f u = record {
    numbers = w.numbers ++ v ∷ [];
    read = read_more w.read (record { within = inside w.ahead; byte = comma-entry (get_or s end 0) (sym w.told ∙ e) }) f.start f.field;
    kept = kept_more w.kept u;
    few = omega (arith, w.few, f.start);
    told = f.stops;
    ahead = f.ahead;
  }

  -- a return lies in front of a line end
  pub return-on : stop ≡ code_of Return → end + 1 < length s
  return-on e = inside (on-by w.ahead w.told (λ z. omega arith))

  -- an ending, which is passed
  pub listed : {k : Class} {next : ℕ} → class_of (get_or s at 0) ≡ k → 0 < count → next ≡ past_by stop s end → (next ≡ end → ⊥) → ListAt k s at (record { count = count; high = high; next = next }) xs
  listed {k} {next} c h p d = record { long = w.kept.long; start = omega (arith, w.few, passed.start); line = λ n. listing }
    where
      passed : PastEnding s end next
      passed = rw p (past-told s end w.told (inside w.ahead) return-on)

      further : end < next
      further = went_on passed d

      some : 0 < length w.numbers
      some = omega (arith, w.kept.counted)

      line : PlainLine 4 s at next (map Number w.numbers)
      line = w.read.ends some next (passed.ending further)

      highest : (known : ℕ) → leb known high ≡ any (leb known) w.numbers
      highest zero = rw (any-zero w.numbers some) (le-leb 0 high (omega arith))
      highest (suc n) = w.kept.highest (suc n) (omega arith)

      listing : Listing k s at (record { count = count; high = high; next = next }) xs
      listing = let q = numbers-are w.numbers line some in record {
        bytes = line.bytes;
        lines = line.lines;
        within = passed.within further;
        list = is-list w.numbers line some c;
        count = w.kept.counted ∙ ap length (sym q);
        few = omega (arith, passed.within further, w.few);
        high = λ known. rw q (highest known);
        numbers = rw q (λ f. record { long = w.kept.long; numbers = rw (← w.kept.counted) (w.kept.array f) });
      }
