-- Lines of an energy text by their rows: a line is a letter and so many numbers where its row is, and what it says is what
-- its row says. Piece by piece, as a slot each: every piece of so many is a number, and no piece is read as Absent.
-- Assumes nothing.
use Prim.Native.Nat.{ℕ, suc, ◌*◌}
use Prim.Native.Char.{Char, code}
use mathlib.Core.Path.{◌≡◌, refl, sym, ap, ◌∙◌}
use mathlib.Core.Bool.{Bool, true, false, ◌&&◌, ◌||◌, and_assoc, and-false, cond, false≢true}
use mathlib.Core.Option.{none, some}
use mathlib.Core.List.{List, [], ◌∷◌, map}
use lib.ListN.{length, get_or}
use lib.Dec.{eqb, leb, eqb-suc-zero, eqb-suc-suc}
use Rattle.lists.specs.Laws.{and-three}
use Rattle.spec.specs.Lists.{every}
use Rattle.spec.specs.Text.{Line, named, in_digits, class_of, pieces, is_number}
use Rattle.spec.specs.Forms.{has_letter, fields_of, or_zero}
use Rattle.spec.specs.Energy.{Ratings, energy_digits, is_figures, figure_at, is_capacitor_line, is_pulse_line, is_load_line, draw_in, ratings_in}
use Rattle.spec.specs.Classes.{alike}
use Rattle.spec.specs.declared.Class.{Class}
use Rattle.spec.specs.declared.Class.TheVariants.{LetterK, LetterJ, LetterW, Foreign}
use Rattle.line_forms.specs.Rows.{a_number, a_number_or_dash, absent, value_of, slot_of, letter_in, slots_of, row_of, is_one, is_two, is_three, is_triple}
use Rattle.line_forms.specs.declared.Row.{Row}
use Rattle.line_forms.specs.declared.Slot.{Slot}
use Rattle.line_forms.specs.declared.Slot.TheVariants.{Number, Dash, Wrong, Absent}
use Rattle.lines.specs.Lines.{line_of}
use Rattle.line_forms.proofs.Ties.{number-slot, present, event-there, event-value, letter-slot, triple_by_three}
use Rattle.energy_reader.specs.Reads.{line_draw, line_ratings, figures_of, row_draw, row_ratings, row_in}

-- ---- the fields of a line

abbrev slot : List ℕ → Slot
slot p = slot_of energy_digits p

-- so many numbers
abbrev numbers : ℕ → List (List ℕ) → Bool
numbers n ps = eqb (length ps) n && every (is_number energy_digits) ps

no_number : (ps : List (List ℕ)) → numbers 0 ps ≡ absent (get_or (map slot ps) 0 Absent)
unfolding every
no_number [] = refl
no_number (p ∷ ps) = rw (eqb-suc-zero (length ps), present energy_digits p)

a-number-more : (n : ℕ) (p : List ℕ) (ps : List (List ℕ)) → numbers (suc n) (p ∷ ps) ≡ (a_number (slot p) && numbers n ps)
unfolding every
a-number-more n p ps = rw (eqb-suc-suc (length ps) n, number-slot energy_digits p) (go (eqb (length ps) n) (a_number (slot p)) (every (is_number energy_digits) ps))
  where
    go : (a b c : Bool) → (a && (b && c)) ≡ (b && (a && c))
    go true b c = refl
    go false true c = refl
    go false false c = refl

one_number : (ps : List (List ℕ)) → numbers 1 ps ≡ (a_number (get_or (map slot ps) 0 Absent) && absent (get_or (map slot ps) 1 Absent))
one_number [] = refl
one_number (p ∷ ps) = a-number-more 0 p ps ∙ rw (no_number ps)

two-numbers : (ps : List (List ℕ)) → numbers 2 ps ≡ (a_number (get_or (map slot ps) 0 Absent) && (a_number (get_or (map slot ps) 1 Absent) && absent (get_or (map slot ps) 2 Absent)))
two-numbers [] = refl
two-numbers (p ∷ ps) = a-number-more 1 p ps ∙ rw (one_number ps)

three-numbers : (ps : List (List ℕ)) → numbers 3 ps
    ≡ (a_number (get_or (map slot ps) 0 Absent) && (a_number (get_or (map slot ps) 1 Absent) && (a_number (get_or (map slot ps) 2 Absent) && absent (get_or (map slot ps) 3 Absent))))
three-numbers [] = refl
three-numbers (p ∷ ps) = a-number-more 2 p ps ∙ rw (two-numbers ps)

-- ---- a line of a letter that is in use

module _ (c : Char) (h : alike Foreign (class_of (code c)) ≡ false) (l : Line) where
  abbrev k : Class
  k = class_of (code c)

  lettered : (n : ℕ) → is_figures c n l ≡ (l.ended && (alike (letter_in l.bytes) k && numbers n (fields_of l)))
  unfolding is_figures has_letter letter_in
  lettered n = rw (letter-slot k h (get_or (pieces l.bytes) 0 [])) (simp and_assoc)

  pub figures-one : is_figures c 1 l ≡ (l.ended && is_one k (row_of energy_digits l.bytes))
  unfolding fields_of is_one row_of slots_of
  figures-one = lettered 1 ∙ rw (one_number (fields_of l)) (simp and_assoc)

  pub figures-two : is_figures c 2 l ≡ (l.ended && is_two k (row_of energy_digits l.bytes))
  unfolding fields_of is_two row_of slots_of
  figures-two = lettered 2 ∙ rw (two-numbers (fields_of l)) (simp and_assoc)

  -- three numbers: neither of the last two is a dash
  pub figures-three : let w = row_of energy_digits l.bytes in is_figures c 3 l ≡ (l.ended && (a_number w.second && a_number w.third && is_three k w))
  unfolding fields_of is_three row_of slots_of
  figures-three =
      let w = row_of energy_digits l.bytes in
      lettered 3 ∙ rw (three-numbers (fields_of l)) (ap (λ (b : Bool). l.ended && b) (go (alike w.letter k) (a_number w.first) w.second w.third (absent w.fourth)))
    where
      go : (a b : Bool) (s t : Slot) (e : Bool) → (a && (b && (a_number s && (a_number t && e)))) ≡ (a_number s && a_number t && (a && b && a_number_or_dash s && a_number_or_dash t && e))
      go a b (Number n) (Number m) e = simp and_assoc
      go a b (Number n) Dash e = simp and-false
      go a b (Number n) Wrong e = simp and-false
      go a b (Number n) Absent e = simp and-false
      go a b Dash t e = simp and-false
      go a b Wrong t e = simp and-false
      go a b Absent t e = simp and-false

pub figure-at : (l : Line) (i : ℕ) → figure_at l i ≡ value_of (get_or (slots_of energy_digits l.bytes) i Absent)
unfolding figure_at fields_of slots_of
figure-at l i = ap or_zero (event-there energy_digits (fields_of l) i) ∙ event-value (get_or (slots_of energy_digits l.bytes) i Absent)

-- ---- what a line says

-- no row is of one number and of two
not-both : (j k : Class) (w : Row) → is_one j w ≡ true → is_two k w ≡ false
unfolding is_one is_two
not-both j k w h = go w.second (and-three (alike w.letter j) (a_number w.first) (absent w.second) h).2
  where
    go : (s : Slot) → absent s ≡ true → (alike w.letter k && a_number w.first && a_number s && absent w.third) ≡ false
    go (Number n) e = absurd (false≢true e)
    go Dash e = absurd (false≢true e)
    go Wrong e = absurd (false≢true e)
    go Absent e = simp and-false

module _ (b : List ℕ) where
  ended-draw : line_draw (line_of b true) ≡ row_draw (row_of energy_digits b)
  unfolding line_draw is_pulse_line is_load_line draw_in row_draw row_of alike class_of named in_digits
  ended-draw =
      let l = line_of b true in
      let w = row_of energy_digits b in
      rw (figures-one "J" refl l, figures-two "W" refl l, figure-at l 0, figure-at l 1)
      (go (is_one LetterJ w) (is_two LetterW w) (leb (value_of w.first) 1000000) (leb (value_of w.second) 1000000) (value_of w.first) (value_of w.first * value_of w.second) (not-both LetterJ LetterW w))
    where
      go : (j w p q : Bool) (x y : ℕ) → (j ≡ true → w ≡ false) → cond (j && p || w && p && q) (some (cond (j && p) x y)) none ≡ cond j (cond p (some x) none) (cond w (cond (p && q) (some y) none) none)
      go true w true q x y h = refl
      go true w false q x y h = rw (h refl)
      go false true true true x y h = refl
      go false true true false x y h = refl
      go false true false q x y h = refl
      go false false p q x y h = refl

  ended-ratings : line_ratings (line_of b true) ≡ row_ratings (row_of energy_digits b)
  unfolding line_ratings is_capacitor_line ratings_in row_ratings row_of alike class_of named in_digits
  ended-ratings =
      let l = line_of b true in
      let w = row_of energy_digits b in
      rw (figures-three "K" refl l, figure-at l 0, figure-at l 1, figure-at l 2) (go (a_number w.second && a_number w.third && is_three LetterK w) _ _ _ _ _)
    where
      go : (t p q r s : Bool) (x : Ratings) → cond (t && p && q && r && s) (some x) none ≡ cond t (cond (p && q && r && s) (some x) none) none
      go true p q r s x = refl
      go false p q r s x = refl

-- by its row; a line that is not ended is of no form, and neither is its row
pub draw-by-row : (l : Line) → line_draw l ≡ row_draw (row_in l)
unfolding line_draw is_pulse_line is_load_line is_figures row_draw row_in is_one is_two alike
draw-by-row l = go l.bytes l.ended
  where
    go : (b : List ℕ) (e : Bool) → line_draw (line_of b e) ≡ row_draw (row_in (line_of b e))
    go b true = ended-draw b
    go b false = refl

pub ratings-by-row : (l : Line) → line_ratings l ≡ row_ratings (row_in l)
unfolding line_ratings is_capacitor_line is_figures row_ratings row_in
ratings-by-row l = go l.bytes l.ended
  where
    go : (b : List ℕ) (e : Bool) → line_ratings (line_of b e) ≡ row_ratings (row_in (line_of b e))
    go b true = ended-ratings b
    go b false = refl

-- ---- three numbers as a row's test

pub by-triple : (w : Row) → row_ratings w ≡ cond (is_triple LetterK w) (figures_of (value_of w.first) (value_of w.second) (value_of w.third)) none
unfolding row_ratings
by-triple w =
    ap (λ b. cond b (figures_of (value_of w.first) (value_of w.second) (value_of w.third)) none)
    (turned (a_number w.second) (a_number w.third) (is_three LetterK w) ∙ sym (triple_by_three LetterK w))
  where
    turned : (a b c : Bool) → (a && b && c) ≡ (c && a && b)
    turned true true true = refl
    turned true true false = refl
    turned true false true = refl
    turned true false false = refl
    turned false b true = refl
    turned false b false = refl
