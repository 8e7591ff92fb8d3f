-- Plain lines of an energy text: what they begin with, and what they say.
use Prim.Native.Nat.{ℕ}
use mathlib.Core.Path.{◌≡◌, ◌∙◌}
use mathlib.Core.Bool.{true}
use mathlib.Core.List.{List, [], ◌∷◌}
use lib.ListN.{get_or}
use lib.Dec.{lit<}
use Rattle.spec.specs.Classes.{alike}
use Rattle.spec.specs.Energy.{energy_digits}
use Rattle.spec.specs.declared.Class.TheVariants.{LetterJ, LetterW}
use Rattle.byte_entries.specs.Entries.{code_of, entry_of}
use Rattle.byte_entries.proofs.Classes.{entry-class}
use Rattle.line_forms.specs.Rows.{is_one, is_two}
use Rattle.line_forms.specs.declared.Slot.TheVariants.{Number}
use Rattle.lines.specs.Lines.{line_of}
use Rattle.plain_lines.specs.Plain.{PlainLine}
use Rattle.energy_reader.specs.Reads.{pulse_of, load_of, line_draw, row_draw, row_in}
use Rattle.energy_reader.proofs.Figures.{draw-by-row}

module _ {text : List ℕ} {i next : ℕ} where
  pub pulse-line : {n : ℕ} (l : PlainLine energy_digits text i next (Number n ∷ [])) → entry_of (get_or text i 0) ≡ code_of LetterJ → line_draw (line_of l.bytes true) ≡ pulse_of n
  unfolding row_draw row_in is_one alike
  pulse-line l e = draw-by-row (line_of l.bytes true) ∙ rw (l.row, entry-class (get_or text i 0) LetterJ (lit< tt) e)

  pub load_line : {n m : ℕ} (l : PlainLine energy_digits text i next (Number n ∷ Number m ∷ [])) → entry_of (get_or text i 0) ≡ code_of LetterW → line_draw (line_of l.bytes true) ≡ load_of n m
  unfolding row_draw row_in is_one is_two alike
  load_line l e = draw-by-row (line_of l.bytes true) ∙ rw (l.row, entry-class (get_or text i 0) LetterW (lit< tt) e)
