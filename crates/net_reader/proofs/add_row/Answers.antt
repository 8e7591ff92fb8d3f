-- `net_reader::add_row` meets its contract: its tests are those of `add_row`, in their order, and each adds what
-- `add_row` adds there.
use mathlib.Core.Path.{◌≡◌, refl, sym, ◌∙◌}
use mathlib.Core.Bool.{false}
use Rattle.spec.specs.declared.ArcKind.TheVariants.{Input, Output, Inhibitor, Read}
use Rattle.spec.specs.declared.Class.TheVariants.{LetterP, LetterT, LetterI, LetterO, LetterH, LetterR}
use Rattle.line_forms.specs.Rows.{is_alone, is_one, is_two, is_triple}
use Rattle.line_forms.specs.declared.Row.{Row}
use Rattle.lines.specs.Agree.{refusing}
use Rattle.net_reader.specs.Reads.{add_row}
use Rattle.net_reader.proofs.add_row.Goals as goal
use Rattle.net_reader.proofs.add_row.Goals.{After-number_in-w, Else-is_alone, Else-is_one, Else-is_triple, Else-is_triple-2, Else-is_two, Else-is_two-2, Else-is_two-3, Else-is_two-4}

-- ---- the tests that did not pass, each with its row
abbrev row : After-number_in-w → Row
row c = c.args.r

no_place : (c : Else-is_one) → is_one LetterP (row c.before.before) ≡ false
no_place c = sym c.is_one.ensures ∙ c.if-is_one.false

no-transition : (c : Else-is_alone) → is_alone LetterT (row c.before.before.before.before) ≡ false
no-transition c = sym c.is_alone.ensures ∙ c.if-is_alone.false

no-input : (c : Else-is_two) → is_two LetterI (row c.before.before.before.before.before.before) ≡ false
no-input c = sym c.is_two.ensures ∙ c.if-is_two.false

no-weighted-input : (c : Else-is_triple) → is_triple LetterI (row c.before.before.before.before.before.before.before.before) ≡ false
no-weighted-input c = sym c.is_triple.ensures ∙ c.if-is_triple.false

no_output : (c : Else-is_two-2) → is_two LetterO (row c.before.before.before.before.before.before.before.before.before.before) ≡ false
no_output c = sym c.is_two-2.ensures ∙ c.if-is_two-2.false

no-weighted-output : (c : Else-is_triple-2) → is_triple LetterO (row c.before.before.before.before.before.before.before.before.before.before.before.before) ≡ false
no-weighted-output c = sym c.is_triple-2.ensures ∙ c.if-is_triple-2.false

no-inhibitor : (c : Else-is_two-3) → is_two LetterH (row c.before.before.before.before.before.before.before.before.before.before.before.before.before.before) ≡ false
no-inhibitor c = sym c.is_two-3.ensures ∙ c.if-is_two-3.false

no_read : (c : Else-is_two-4) → is_two LetterR (row c.before.before.before.before.before.before.before.before.before.before.before.before.before.before.before.before) ≡ false
no_read c = sym c.is_two-4.ensures ∙ c.if-is_two-4.false

pub returns-then-is_one : goal.returns-then-is_one
unfolding add_row
returns-then-is_one c m d = rw (sym c.is_one.ensures ∙ c.if-is_one.true, ← c.number_in-a.ensures) (c.add_place.ensures _ m d)

pub returns-then-is_alone : goal.returns-then-is_alone
unfolding add_row
returns-then-is_alone c m d = rw (no_place (goal.at.returns-then-is_alone c).Else-is_one, sym c.is_alone.ensures ∙ c.if-is_alone.true) (c.add_transition.ensures _ m d)

pub returns-then-is_two : goal.returns-then-is_two
unfolding add_row
returns-then-is_two c m d = rw (no_place (goal.at.returns-then-is_two c).Else-is_one, no-transition (goal.at.returns-then-is_two c).Else-is_alone, sym c.is_two.ensures ∙ c.if-is_two.true, ← c.number_in-a.ensures, ← c.number_in-b.ensures) (c.add_arc.ensures Input _ refl tt m d)

pub returns-then-is_triple : goal.returns-then-is_triple
unfolding add_row
returns-then-is_triple c m d = rw (no_place (goal.at.returns-then-is_triple c).Else-is_one, no-transition (goal.at.returns-then-is_triple c).Else-is_alone, no-input (goal.at.returns-then-is_triple c).Else-is_two, sym c.is_triple.ensures ∙ c.if-is_triple.true, ← c.number_in-a.ensures, ← c.number_in-b.ensures, ← c.number_in-w.ensures) (c.add_arc-then-is_triple.ensures Input _ refl tt m d)

pub returns-then-is_two-2 : goal.returns-then-is_two-2
unfolding add_row
returns-then-is_two-2 c m d = rw (no_place (goal.at.returns-then-is_two-2 c).Else-is_one, no-transition (goal.at.returns-then-is_two-2 c).Else-is_alone, no-input (goal.at.returns-then-is_two-2 c).Else-is_two, no-weighted-input (goal.at.returns-then-is_two-2 c).Else-is_triple, sym c.is_two-2.ensures ∙ c.if-is_two-2.true, ← c.number_in-a.ensures, ← c.number_in-b.ensures) (c.add_arc-then-is_two-2.ensures Output _ refl tt m d)

pub returns-then-is_triple-2 : goal.returns-then-is_triple-2
unfolding add_row
returns-then-is_triple-2 c m d = rw (no_place (goal.at.returns-then-is_triple-2 c).Else-is_one, no-transition (goal.at.returns-then-is_triple-2 c).Else-is_alone, no-input (goal.at.returns-then-is_triple-2 c).Else-is_two, no-weighted-input (goal.at.returns-then-is_triple-2 c).Else-is_triple, no_output (goal.at.returns-then-is_triple-2 c).Else-is_two-2, sym c.is_triple-2.ensures ∙ c.if-is_triple-2.true, ← c.number_in-a.ensures, ← c.number_in-b.ensures, ← c.number_in-w.ensures) (c.add_arc-then-is_triple-2.ensures Output _ refl tt m d)

pub returns-then-is_two-3 : goal.returns-then-is_two-3
unfolding add_row
returns-then-is_two-3 c m d = rw (no_place (goal.at.returns-then-is_two-3 c).Else-is_one, no-transition (goal.at.returns-then-is_two-3 c).Else-is_alone, no-input (goal.at.returns-then-is_two-3 c).Else-is_two, no-weighted-input (goal.at.returns-then-is_two-3 c).Else-is_triple, no_output (goal.at.returns-then-is_two-3 c).Else-is_two-2, no-weighted-output (goal.at.returns-then-is_two-3 c).Else-is_triple-2, sym c.is_two-3.ensures ∙ c.if-is_two-3.true, ← c.number_in-a.ensures, ← c.number_in-b.ensures) (c.add_arc-then-is_two-3.ensures Inhibitor _ refl refl m d)

pub returns-then-is_two-4 : goal.returns-then-is_two-4
unfolding add_row
returns-then-is_two-4 c m d = rw (no_place (goal.at.returns-then-is_two-4 c).Else-is_one, no-transition (goal.at.returns-then-is_two-4 c).Else-is_alone, no-input (goal.at.returns-then-is_two-4 c).Else-is_two, no-weighted-input (goal.at.returns-then-is_two-4 c).Else-is_triple, no_output (goal.at.returns-then-is_two-4 c).Else-is_two-2, no-weighted-output (goal.at.returns-then-is_two-4 c).Else-is_triple-2, no-inhibitor (goal.at.returns-then-is_two-4 c).Else-is_two-3, sym c.is_two-4.ensures ∙ c.if-is_two-4.true, ← c.number_in-a.ensures, ← c.number_in-b.ensures) (c.add_arc-then-is_two-4.ensures Read _ refl refl m d)

pub returns : goal.returns
unfolding add_row
returns c m d = rw (no_place (goal.at.returns c).Else-is_one, no-transition (goal.at.returns c).Else-is_alone, no-input (goal.at.returns c).Else-is_two, no-weighted-input (goal.at.returns c).Else-is_triple, no_output (goal.at.returns c).Else-is_two-2, no-weighted-output (goal.at.returns c).Else-is_triple-2, no-inhibitor (goal.at.returns c).Else-is_two-3, no_read (goal.at.returns c).Else-is_two-4) (refusing 11 _ refl refl)
