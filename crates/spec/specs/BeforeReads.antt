-- The definitions of document 01 as they stood before request 2026-01 (02; read arcs), word for word and under their names: those
-- that the request moved, and those that lie between them and the operations. `WithoutReads` says of them what is unchanged.
-- All others serve as they are. Of these some have a case more, for the class `LetterR` (`class_code`) or for arcs and marks of
-- the kind `Read` (`arc_kind_code`, `mark_line_of`, `mark_pair_of`, `wrong_end`); no definition here makes an arc or a mark of that
-- kind. Those that go by `is_a`, from `lines_of` to `is_line`, ask for no class that moved but in an `R` line. What a later request
-- moved stands here as it moved it: a carriage return has its class (2026-02), independent pairs are counted by `Checking`
-- (2026-04), the letters of energy texts have their classes (2026-05), and inputs and outputs carry weights (2026-06).
use Rattle.std.specs.Prelude.{ℕ, ◌+◌, Bool, not, ◌&&◌, cond, List, [], ◌∷◌, map, length, eqb, ltb, leb}
use Prim.Native.Char.{code}
use Rattle.spec.specs.Lists.{any, up_to, lowest, keep, flat}
use Rattle.spec.specs.Answer.{Answer, gives, refuses, ◌>>=◌, ◌>>◌, refuse◌at◌when◌, refuse◌at?◌}
use Rattle.spec.specs.Classes.{alike}
use Rattle.spec.specs.Text.{Line, named, in_digits, lines_of, by_lines}
use Rattle.spec.specs.Forms.{number, number_or_dash, is_line, number_at, numbers_of}
use Rattle.spec.specs.Net.{Net, places, joined, with_arc, add_place, add_transition, empty_net, whole}
use Rattle.spec.specs.Step.{tokens_at, taken, inhibited}
use Rattle.spec.specs.Record.{RunRecord, Mark, bench, due, record_bytes}
use Rattle.spec.specs.Building.{Run, start, play_step, unmarked, mark_at, is_step_line}
use Rattle.spec.specs.Checking.{with_mark, enter_event, enter_condition, condition_of, mark_in, empty_record, wrong_initial, wrong_arcs, agree, wrong_kind, before_itself, Accepted, Checked, checked_of}
use Rattle.spec.specs.Arranging.{Arranged, arranged_of}
use Rattle.spec.specs.Replaying.{Replayed, read_arrangement, replayed_of}
use Rattle.spec.specs.Printing.{input_of, printed}
use Rattle.spec.specs.declared.Class.{Class}
use Rattle.spec.specs.declared.Class.TheVariants.{Digit, Comma, Dash as DashByte, LineEnd, LetterP, LetterT, LetterI, LetterO, LetterH, LetterS, LetterE, LetterC, LetterB, LetterA, LetterG, LetterK, LetterJ, LetterW, Return}
use Rattle.spec.specs.declared.ArcKind.{ArcKind}
use Rattle.spec.specs.declared.ArcKind.TheVariants.{Input, Output, Inhibitor}
use Rattle.spec.specs.declared.Limits.{Limits}
use Rattle.spec.specs.declared.MarkKind.TheVariants.{Before, After}

-- ---- `Text`: the class of a byte

abbrev pub class_names : List (ℕ × Class)
class_names =
    (code ",", Comma) ∷ (code "-", DashByte) ∷ (10, LineEnd)
    ∷ (code "P", LetterP) ∷ (code "T", LetterT) ∷ (code "I", LetterI) ∷ (code "O", LetterO) ∷ (code "H", LetterH)
    ∷ (code "S", LetterS)
    ∷ (code "E", LetterE) ∷ (code "C", LetterC) ∷ (code "B", LetterB) ∷ (code "A", LetterA)
    ∷ (code "G", LetterG)
    ∷ (code "K", LetterK) ∷ (code "J", LetterJ) ∷ (code "W", LetterW)
    ∷ (13, Return)
    ∷ []

unfoldable pub class_of : ℕ → Class
class_of b = cond (in_digits b) Digit (named b class_names)

unfoldable pub is_a : Class → ℕ → Bool
is_a k b = alike (class_of b) k

-- ---- `Net`: "`P,tokens` place. `T` transition. `I,place,transition` input. `O,transition,place` output.
-- `H,place,transition` inhibitor."

unfoldable pub add_arc : ArcKind → ℕ → ℕ → ℕ → ℕ → Net → Answer Net
add_arc x k p t w n = do
  refuse 13 at k when not (ltb p (places n) && ltb t n.transitions)
  refuse 54 at k when not (leb 1 w && leb w 16)
  refuse 14 at k when joined n x p t
  gives (with_arc x p t w n)

unfoldable pub add_line : ℕ → Line → Net → Answer Net
add_line k l n =
    let two = number ∷ number ∷ [] in
    let three = number ∷ number ∷ number ∷ [] in
    cond (is_line "P" (number ∷ []) l) (add_place k (number_at l 0) n)
    (cond (is_line "T" [] l) (add_transition k n)
    (cond (is_line "I" two l) (add_arc Input k (number_at l 0) (number_at l 1) 1 n)
    (cond (is_line "I" three l) (add_arc Input k (number_at l 0) (number_at l 1) (number_at l 2) n)
    (cond (is_line "O" two l) (add_arc Output k (number_at l 1) (number_at l 0) 1 n)
    (cond (is_line "O" three l) (add_arc Output k (number_at l 1) (number_at l 0) (number_at l 2) n)
    (cond (is_line "H" two l) (add_arc Inhibitor k (number_at l 0) (number_at l 1) 1 n)
    (refuses 11 k)))))))

unfoldable pub net_of : List Line → Answer Net
net_of ls = do
  n ← by_lines add_line 1 ls empty_net
  whole n

unfoldable pub read_net : List ℕ → Answer Net
read_net text = net_of (lines_of text)

-- ---- `Step`: 24, some place has fewer tokens than the step's events take from it

unfoldable pub short : Net → List ℕ → List ℕ → Bool
short n m step = any (λ p. ltb (tokens_at m p) (taken n step p)) (up_to (places n))

-- ---- `Building`: "one mark, B or A, for each condition and event where the condition's place inhibits the event's transition
-- and the event isn't its producer", and no other

unfoldable pub marks_of : Net → Run → ℕ → List Mark
marks_of n r e = map (mark_at r e) (keep (λ c. due n (unmarked r) c e) (up_to (length r.conditions)))

unfoldable pub marks_due : Net → Run → List Mark
marks_due n r = flat (map (marks_of n r) (up_to (length r.events)))

unfoldable pub record_of : Net → Run → RunRecord
record_of n r = record { events = (unmarked r).events; conditions = r.conditions; marks = marks_due n r }

unfoldable pub log_line : Limits → Net → ℕ → Line → Run → Answer Run
log_line lim n k l r = do
  refuse 21 at k when not (is_step_line l)
  let ts : List ℕ = numbers_of l
  refuse 22 at k when any (leb n.transitions) ts
  refuse 23 at k when ltb lim.events (length r.events + length ts)
  refuse 24 at k when short n r.marking ts
  refuse 25 at k when inhibited n r.marking ts
  let r' : Run = play_step n k ts r
  refuse 26 at k when ltb lim.conditions (length r'.conditions)
  refuse 27 at k when ltb lim.marks (length (marks_due n r'))
  gives r'

unfoldable pub play_log : Limits → Net → List Line → Answer Run
play_log lim n ls = by_lines (log_line lim n) 1 ls (start n)

unfoldable pub built : Limits → Net → List Line → Answer RunRecord
built lim n ls = do
  r ← play_log lim n ls
  gives (record_of n r)

unfoldable pub build : List ℕ → List ℕ → ℕ → Answer (List ℕ)
build net log room = do
  refuse 20 at 0 when ltb room 48256
  n ← read_net net
  r ← built bench n (lines_of log)
  gives (record_bytes r)

-- ---- `Record`, `Checking`: 34, condition and event marked already; 37, the event's mark missing or undue

unfoldable pub is_at : ℕ → ℕ → Mark → Bool
is_at c e m = eqb m.condition c && eqb m.event e

unfoldable pub marked : RunRecord → ℕ → ℕ → Bool
marked r c e = any (is_at c e) r.marks

unfoldable pub enter_mark : Limits → ℕ → Mark → RunRecord → Answer RunRecord
enter_mark lim k m r = do
  refuse 32 at k when leb lim.marks (length r.marks)
  refuse 33 at k when not (ltb m.condition (length r.conditions) && ltb m.event (length r.events))
  refuse 34 at k when marked r m.condition m.event
  gives (with_mark m r)

unfoldable pub enter_line : Limits → Net → ℕ → Line → RunRecord → Answer RunRecord
enter_line lim n k l r =
    cond (is_line "E" (number ∷ []) l) (enter_event lim n k (number_at l 0) r)
    (cond (is_line "C" (number ∷ number_or_dash ∷ number_or_dash ∷ []) l) (enter_condition lim n k (condition_of l) r)
    (cond (is_line "B" (number ∷ number ∷ []) l) (enter_mark lim k (mark_in Before l) r)
    (cond (is_line "A" (number ∷ number ∷ []) l) (enter_mark lim k (mark_in After l) r)
    (refuses 31 k))))

unfoldable pub wrong_mark_at : Net → RunRecord → ℕ → ℕ → Bool
wrong_mark_at n r e c = not (agree (marked r c e) (due n r c e))

unfoldable pub wrong_marks : Net → RunRecord → ℕ → Bool
wrong_marks n r e = any (wrong_mark_at n r e) (up_to (length r.conditions))

unfoldable pub obeys : Net → RunRecord → Answer (Unit {0})
obeys n r = do
  refuse 35 at? lowest (wrong_initial n r) (places n)
  refuse 36 at? lowest (wrong_arcs n r) (length r.events)
  refuse 37 at? lowest (wrong_marks n r) (length r.events)
  refuse 38 at? lowest (wrong_kind r) (length r.events)
  refuse 39 at? lowest (before_itself r) (length r.events)

unfoldable pub read_record : Limits → Net → List ℕ → Answer RunRecord
read_record lim n text = do
  r ← by_lines (enter_line lim n) 1 (lines_of text) empty_record
  obeys n r
  gives r

unfoldable pub accepts : Limits → List ℕ → List ℕ → Answer Accepted
accepts lim net text = do
  n ← read_net net
  r ← read_record lim n text
  gives (record { net = n; run = r })

unfoldable pub check_within : Limits → List ℕ → List ℕ → ℕ → Answer Checked
check_within lim net text room = do
  refuse 30 at 0 when ltb room 16384
  a ← accepts lim net text
  gives (checked_of a.run)

unfoldable pub check : List ℕ → List ℕ → ℕ → Answer Checked
check net text room = check_within bench net text room

-- ---- `Replaying`, `Arranging`, `Printing`: what stands on these

unfoldable pub replay : List ℕ → List ℕ → List ℕ → ℕ → Answer Replayed
replay net text arrangement room = do
  refuse 40 at 0 when ltb room 4128
  a ← accepts bench net text
  gs ← read_arrangement a.run arrangement
  gives (replayed_of a.net a.run gs)

unfoldable pub arrange : List ℕ → List ℕ → ℕ → Answer Arranged
arrange net text room = do
  refuse 50 at 0 when ltb room 768
  a ← accepts bench net text
  gives (arranged_of a.run)

unfoldable pub program : List ℕ → List ℕ
program input = printed (do
  q ← input_of input
  n ← net_of q.net
  built bench n q.log)
