-- What is written has no byte 13 (02, 2026-02): a line's letter, its fields and its byte 10 are other bytes. So a text that
-- is what is written but for its endings has the lines of what is written.
use Rattle.std.specs.Prelude.{◌≡◌, ℕ, false, List, [], ◌∷◌, ◌++◌, map}
use Rattle.std.proofs.Math.Path.{refl}
use Rattle.std.proofs.Common.{sym, ap, ◌∙◌, inl, inr, arith}
use Prim.Native.Char.{Char, code}
use mathlib.Core.List.Memᴰ
use Rattle.spec.specs.Lists.{flat}
use Rattle.spec.specs.Answer.{Answer, gives, refuses}
use Rattle.spec.specs.Classes.{alike}
use Rattle.spec.specs.Text.{named, in_digits, class_of, is_a, lines_of, line_with}
use Rattle.spec.specs.NetText.{Declaration, new_place, new_transition, new_arc, weighted_input, weighted_output, declaration_line, net_bytes}
use Rattle.spec.specs.Record.{RunRecord, Condition, Mark, event_line, condition_line, mark_line_of, mark_line, record_bytes}
use Rattle.spec.specs.Arranging.{group_line, arrangement_bytes}
use Rattle.spec.specs.Printing.{summary, printed, program}
use Rattle.spec.specs.Runs.{step_line, log_bytes}
use Rattle.spec.specs.Endings.{plain_ends, NoReturn}
use Rattle.spec.specs.declared.ArcKind.TheVariants.{Input, Output, Inhibitor, Read}
use Rattle.spec.specs.declared.Class.TheVariants.{Return}
use Rattle.spec.specs.declared.Field.{Field}
use Rattle.spec.specs.declared.MarkKind.{MarkKind}
use Rattle.spec.specs.declared.MarkKind.TheVariants.{Before, After, Read as ReadMark}
use Rattle.lists.specs.Laws.{clash}
use Rattle.lists.specs.LineEnds.{return-is}
use Rattle.runs.specs.Fields.{Lacks, body}
use Rattle.runs.specs.Texts.{returns-none}
use Rattle.runs.specs.Endings.{plain-itself, written_as}

-- ---- bytes of no class Return

pub lacks-none : (bs : List ℕ) → Lacks Return bs → NoReturn bs
lacks-none bs h b m e = clash return-is (sym (ap (is_a Return) e) ∙ h b m)

none_both : (xs ys : List ℕ) → NoReturn xs → NoReturn ys → NoReturn (xs ++ ys)
none_both xs ys p q b m = elim (Memᴰ.append_cases xs m) [
  | inl i ↦ p b i
  | inr i ↦ q b i
]

none_each : {A : Type 0} (print : A → List ℕ) → ((x : A) → NoReturn (print x)) → (xs : List A) → NoReturn (flat (map print xs))
unfolding flat
none_each print h [] b m = absurd (Memᴰ.not-nil m)
none_each print h (x ∷ xs) b m = none_both (print x) (flat (map print xs)) (h x) (none_each print h xs) b m

none-in-line : (c : Char) → is_a Return (code c) ≡ false → (fs : List Field) → NoReturn (line_with c fs)
unfolding line_with body
none-in-line c e fs = none_both (body c fs) (10 ∷ []) (lacks-none (body c fs) (returns-none c e fs)) (λ b m q. let z = Memᴰ.eq_of_singleton m in omega (arith, z, q))

-- ---- each text that is written

none-in-declaration : (d : Declaration) → NoReturn (declaration_line d)
unfolding declaration_line is_a alike class_of named in_digits
none-in-declaration (new_place v) = none-in-line "P" refl _
none-in-declaration new_transition = none-in-line "T" refl _
none-in-declaration (new_arc Input p t) = none-in-line "I" refl _
none-in-declaration (new_arc Output p t) = none-in-line "O" refl _
none-in-declaration (new_arc Inhibitor p t) = none-in-line "H" refl _
none-in-declaration (new_arc Read p t) = none-in-line "R" refl _
none-in-declaration (weighted_input p t w) = none-in-line "I" refl _
none-in-declaration (weighted_output p t w) = none-in-line "O" refl _

pub none-in-net : (ds : List Declaration) → NoReturn (net_bytes ds)
unfolding net_bytes
none-in-net = none_each declaration_line none-in-declaration

pub none-in-log : (steps : List (List ℕ)) → NoReturn (log_bytes steps)
unfolding log_bytes step_line is_a alike class_of named in_digits
none-in-log = none_each step_line (λ ts. none-in-line "S" refl _)

pub none-in-arrangement : (lines : List (List ℕ)) → NoReturn (arrangement_bytes lines)
unfolding arrangement_bytes group_line is_a alike class_of named in_digits
none-in-arrangement = none_each group_line (λ es. none-in-line "G" refl _)

none-in-event : (t : ℕ) → NoReturn (event_line t)
unfolding event_line is_a alike class_of named in_digits
none-in-event t = none-in-line "E" refl _

none-in-condition : (c : Condition) → NoReturn (condition_line c)
unfolding condition_line is_a alike class_of named in_digits
none-in-condition c = none-in-line "C" refl _

none-in-mark : (m : Mark) → NoReturn (mark_line m)
unfolding mark_line mark_line_of is_a alike class_of named in_digits
none-in-mark m = go m.kind
  where
    go : (k : MarkKind) → NoReturn (mark_line_of k m.condition m.event)
    go Before = none-in-line "B" refl _
    go After = none-in-line "A" refl _
    go ReadMark = none-in-line "R" refl _

pub none-in-record : (R : RunRecord) → NoReturn (record_bytes R)
unfolding record_bytes
none-in-record R =
    none_both (flat (map event_line R.events) ++ flat (map condition_line R.conditions)) (flat (map mark_line R.marks))
    (none_both (flat (map event_line R.events)) (flat (map condition_line R.conditions)) (none_each event_line none-in-event R.events) (none_each condition_line none-in-condition R.conditions))
    (none_each mark_line none-in-mark R.marks)

pub none-printed : (input : List ℕ) → NoReturn (program input)
unfolding program
none-printed input = go _
  where
    go : (a : Answer RunRecord) → NoReturn (printed a)
    go (gives r) = unfold printed summary is_a alike class_of named in_digits in (none_both (record_bytes r) (summary r) (none-in-record r) (none-in-line "Z" refl _))
    go (refuses n s) = unfold printed is_a alike class_of named in_digits in (none-in-line "X" refl _)

-- ---- so each is itself with byte 10 alone

pub plain-net : (ds : List Declaration) → plain_ends (net_bytes ds) ≡ net_bytes ds
plain-net ds = plain-itself (net_bytes ds) (none-in-net ds)

pub plain-log : (steps : List (List ℕ)) → plain_ends (log_bytes steps) ≡ log_bytes steps
plain-log steps = plain-itself (log_bytes steps) (none-in-log steps)

pub plain-record : (R : RunRecord) → plain_ends (record_bytes R) ≡ record_bytes R
plain-record R = plain-itself (record_bytes R) (none-in-record R)

pub plain-arrangement : (lines : List (List ℕ)) → plain_ends (arrangement_bytes lines) ≡ arrangement_bytes lines
plain-arrangement lines = plain-itself (arrangement_bytes lines) (none-in-arrangement lines)

-- and the lines of a text that is one of them with byte 10 alone are its lines

pub net-lines-are : (text : List ℕ) (ds : List Declaration) → plain_ends text ≡ net_bytes ds → lines_of text ≡ lines_of (net_bytes ds)
net-lines-are text ds e = written_as text (net_bytes ds) e (none-in-net ds)

pub log-lines-are : (text : List ℕ) (steps : List (List ℕ)) → plain_ends text ≡ log_bytes steps → lines_of text ≡ lines_of (log_bytes steps)
log-lines-are text steps e = written_as text (log_bytes steps) e (none-in-log steps)

pub record-lines-are : (text : List ℕ) (R : RunRecord) → plain_ends text ≡ record_bytes R → lines_of text ≡ lines_of (record_bytes R)
record-lines-are text R e = written_as text (record_bytes R) e (none-in-record R)

pub arrangement-lines-are : (text : List ℕ) (lines : List (List ℕ)) → plain_ends text ≡ arrangement_bytes lines → lines_of text ≡ lines_of (arrangement_bytes lines)
arrangement-lines-are text lines e = written_as text (arrangement_bytes lines) e (none-in-arrangement lines)
