-- `fields::field_of` meets its contract: the tests that it joins are those of a number whose bytes are digits (`number-told`);
-- where one fails, or they are no digits, the piece is no number. `slot_of` asks next whether it is a dash, as the code does.
use Rattle.std.proofs.Common.{◌≡◌, false, sym, ap, ◌∙◌}
use Rattle.std.specs.Prelude.{is_some}
use Rattle.spec.specs.Text.{is_number}
use Rattle.line_forms.specs.Rows.{slot_of}
use Rattle.fields.proofs.Pieces.{number-told, no_number, number_short}
use Rattle.fields.proofs.field_of.Goals as goal
use Rattle.fields.proofs.field_of.Goals.{In_default, in_default-via-in-Some+else-fits, in_default-via-in_default}

pub returns-in-Some : goal.returns-in-Some
unfolding slot_of
returns-in-Some c =
    let d = sym c.requires.digits ∙ ap is_some c.in-Some.is in
    let n = sym (number-told _ _ c.needless_zero.ensures d) ∙ c.if-fits.true in
    rw (n, ← c.requires.value _ c.in-Some.is (number_short _ _ n))

no : (c : In_default) → is_number c.args.most c.args.p.now ≡ false
no c = elim c.in_default.branch [
  | in_default-via-in-Some+else-fits w ↦ sym (number-told _ _ c.needless_zero.ensures (sym c.requires.digits ∙ ap is_some w.in-Some.is)) ∙ w.if-fits.false
  | in_default-via-in_default w ↦ no_number _ _ (sym c.requires.digits ∙ ap is_some w.in_default.is)
]

pub returns-in_default : goal.returns-in_default
unfolding slot_of
returns-in_default c = rw (no (goal.at.returns-in_default c).In_default, sym c.is_dash.ensures ∙ c.if-is_dash.true)

pub returns-in_default-2 : goal.returns-in_default-2
unfolding slot_of
returns-in_default-2 c = rw (no (goal.at.returns-in_default-2 c).In_default, sym c.is_dash.ensures ∙ c.if-is_dash.false)
