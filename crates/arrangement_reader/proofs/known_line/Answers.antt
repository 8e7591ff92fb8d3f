-- `arrangement_reader::known_line` meets its contract: its tests are 41 and 42 of the definitions, on the numbers of
-- the line; where no number is unknown and there are few enough, they are the numbers that the array begins with.
use Rattle.std.proofs.Common.{◌≡◌, true, false, leb, refl, sym, ◌∙◌, arith}
use Rattle.spec.specs.Lists.{any}
use Rattle.spec.specs.Text.{most_digits}
use Rattle.spec.specs.Replaying.{is_group_line}
use Rattle.line_forms.specs.Rows.{values_of}
use Rattle.lines.specs.Lines.{line_of}
use Rattle.number_lines.proofs.Lines.{few-known}
use Rattle.arrangement_reader.specs.Arrangement.{malformed, unknown, known}
use Rattle.arrangement_reader.proofs.Reading.{group-line}
use Rattle.arrangement_reader.proofs.known_line.Goals as goal
use Rattle.arrangement_reader.proofs.known_line.Goals.{Else-any_unknown, Else-not-is_list_line}

pub returns-then-not-is_list_line : goal.returns-then-not-is_list_line
returns-then-not-is_list_line c =
    let no = sym (group-line _ _) ∙ sym c.is_list_line.ensures ∙ c.if-not-is_list_line.true in
    record { long = c.requires.1; on = tt; by = malformed refl no }

-- behind the first test the line is a group line, and behind the second all its numbers are known
formed : (c : Else-not-is_list_line) → is_group_line (line_of c.args.l.now c.args.ended) ≡ true
formed c = sym (group-line _ _) ∙ sym c.is_list_line.ensures ∙ c.if-not-is_list_line.false

all_known : (c : Else-any_unknown)
    → any (leb c.args.n) (values_of most_digits c.args.l.now) ≡ false
all_known c = sym c.any_unknown.ensures ∙ c.if-any_unknown.false

pub returns-then-any_unknown : goal.returns-then-any_unknown
returns-then-any_unknown c = record {
  long = c.requires.1;
  on = tt;
  by = unknown refl (formed (goal.at.returns-then-any_unknown c).Else-not-is_list_line) (sym c.any_unknown.ensures ∙ c.if-any_unknown.true);
}

pub returns-then-count-gt-NUMBERS : goal.returns-then-count-gt-NUMBERS
returns-then-count-gt-NUMBERS c = record {
  long = c.requires.1;
  on = refl;
  by = known _ refl (formed (goal.at.returns-then-count-gt-NUMBERS c).Else-not-is_list_line) (all_known (goal.at.returns-then-count-gt-NUMBERS c).Else-any_unknown) c.count_numbers-count.ensures.0
      (λ f. absurd (omega (arith, f.few, c.count_numbers-count.ensures.0, c.if-count-gt-NUMBERS.true)));
}

pub numbers-requires : goal.numbers-requires
numbers-requires c =
    few-known 256 _ _ (omega (arith, c.count_numbers-count.ensures.0, c.if-count-gt-NUMBERS.false)) (all_known (goal.at.numbers-requires c).Else-any_unknown) (omega (arith, c.requires.0))

pub returns : goal.returns
returns c = record {
  long = c.numbers.ensures.long;
  on = refl;
  by = known _ refl (formed (goal.at.returns c).Else-not-is_list_line) (all_known (goal.at.returns c).Else-any_unknown) c.count_numbers-count.ensures.0 (λ f. c.numbers.ensures);
}
