-- Both line endings give the same answers (02, 2026-02): the readers and operations go by lines, and two texts that differ
-- only in their endings have the same lines. A line with a byte 13 in it is of no form, as what is written has none.
use Rattle.std.specs.Prelude.{◌≡◌, ℕ, zero, suc, ◌+◌, ◌≤◌, Bool, true, false, ◌&&◌, cond, length, get_or, eqb, ltb}
use Rattle.std.proofs.Math.Path.{refl}
use Rattle.std.proofs.Common.{sym, ap, ◌∙◌, arith, le-ltb, ne_eqb}
use Rattle.std.proofs.Math.Logic.{inl, inr}
use Prim.Native.Char.{Char, code}
use Rattle.std.proofs.Math.Bool.{and-false}
use Rattle.std.proofs.Math.Option.{Option, none, some}
use mathlib.Core.List.Memᴰ
use mathlib.Core.List.{List, [], ◌∷◌, map}
use Rattle.std.proofs.Math.ListN.{get_elem?}
use Rattle.spec.specs.Lists.{In, every}
use Rattle.spec.specs.Answer.{Answer, refuses, ◌>>◌, refuse◌at◌when◌, found}
use Rattle.spec.specs.Classes.{alike}
use Rattle.spec.specs.Text.{Line, named, in_digits, class_of, is_a, is_number, raw_lines_of, without_return, lines_of}
use Rattle.spec.specs.Forms.{FieldForm, number, number_or_dash, is_line, is_list_line, has_letter, fields_of}
use Rattle.spec.specs.Net.{Net, add_line}
use Rattle.spec.specs.Record.{RunRecord}
use Rattle.spec.specs.Building.{Run, is_step_line, log_line, play_log}
use Rattle.spec.specs.Checking.{enter_line}
use Rattle.spec.specs.Replaying.{is_group_line, groups_line}
use Rattle.spec.specs.Energy.{is_figures, energy_digits, is_capacitor_line, is_pulse_line, is_load_line, EnergyText, capacitor_line, draw_line, energy_line}
use Rattle.spec.specs.LineParts.{Part, parts_from, line_at, chosen_text, refused_line}
use Rattle.spec.specs.Printing.{is_parting, input_of, program}
use Rattle.spec.specs.Endings.{SameButEndings, shown_of, EitherEnding}
use Rattle.spec.specs.declared.Class.TheVariants.{Digit, Return}
use Rattle.spec.specs.declared.Field.{Field}
use Rattle.spec.specs.declared.Limits.{Limits}
use Rattle.lists.specs.Laws.{true-or-false, and-four, every_in}
use Rattle.runs.specs.Bytes.{Letter, P-letter, T-letter, I-letter, O-letter, H-letter, R-letter, S-letter, E-letter, C-letter, B-letter, A-letter, G-letter, K-letter, J-letter, W-letter, other-class}
use Rattle.runs.specs.Fields.{body, line-lacks}
use Rattle.runs.specs.Digits.{number_digits}
use Rattle.runs.specs.LineForms.{form-is, list-is}
use Rattle.runs.specs.Texts.{returns-none}
use Rattle.runs.specs.Endings.{raw-lines, same_lines, net-by-lines, record-by-lines, arrangement-by-lines, energy-text-by-lines, energy-by-lines, build-by-lines, check-by-lines, arrange-by-lines, replay-by-lines}
use Rattle.runs.specs.Written.{lacks-none, none-in-record, none-in-arrangement, none-printed}

-- ---- the program

inputs : (s t : List ℕ) → SameButEndings s t → length s ≤ 65536 → length t ≤ 65536 → input_of s ≡ input_of t
unfolding input_of
inputs s t S l m = rw (le-ltb 65536 (length s) l, le-ltb 65536 (length t) m, same_lines s t S)

prints : (s t : List ℕ) → SameButEndings s t → length s ≤ 65536 → length t ≤ 65536 → program s ≡ program t
unfolding program
prints s t S l m = rw (inputs s t S l m)

-- ---- the refused line

-- a part by its choice and its bytes
shown_part : Option Part → Option (ℕ × List ℕ)
shown_part none = none
shown_part (some p) = some (p.text, p.bytes)

-- the same of line k, from the lines
shown_line : ℕ → List Line → ℕ → Option (ℕ × List ℕ)
shown_line t ls zero = none
shown_line t ls (suc k) = get_elem? (map (λ (l : Line). (t, l.bytes)) ls) k

part_at : (t s : ℕ) (ls : List Line) (k : ℕ) → shown_part (get_elem? (parts_from t s ls) k) ≡ get_elem? (map (λ (l : Line). (t, l.bytes)) (map without_return ls)) k
unfolding parts_from shown_part
part_at t s [] k = refl
part_at t s (l ∷ ls) zero = refl
part_at t s (l ∷ ls) (suc k) = part_at t ((s + length l.bytes) + 1) ls k

line-shown : (t : ℕ) (text : List ℕ) (k : ℕ) → shown_part (line_at (parts_from t 0 (raw_lines_of text)) k) ≡ shown_line t (lines_of text) k
unfolding shown_part shown_line line_at lines_of
line-shown t text zero = refl
line-shown t text (suc k) = part_at t 0 (raw_lines_of text) k

shown-found : (k : ℕ) (p : Option Part) → shown_of (found 46 k p) ≡ found 46 k (shown_part p)
unfolding found shown_part
shown-found k none = refl
shown-found k (some p) = refl

-- what is shown goes by the lines of the chosen text
chosen-shown : (net second : List ℕ) (choice k : ℕ) → shown_of (refused_line net second choice k) ≡ (refuse 46 at k when ltb 1 choice >> found 46 k (shown_line choice (lines_of (chosen_text net second choice)) k))
unfolding refused_line refuse◌at◌when◌ ◌>>◌
chosen-shown net second choice k = go (ltb 1 choice)
  where
    text : List ℕ
    text = chosen_text net second choice

    go : (t : Bool) → shown_of (refuse 46 at k when t >> found 46 k (line_at (parts_from choice 0 (raw_lines_of text)) k)) ≡ (refuse 46 at k when t >> found 46 k (shown_line choice (lines_of text) k))
    go true = refl
    go false = shown-found k (line_at (parts_from choice 0 (raw_lines_of text)) k) ∙ ap (found 46 k) (line-shown choice text k)

chosen-lines : (n m s t : List ℕ) (choice : ℕ) → SameButEndings n m → SameButEndings s t → lines_of (chosen_text n s choice) ≡ lines_of (chosen_text m t choice)
unfolding chosen_text
chosen-lines n m s t choice N S = go (eqb choice 0)
  where
    go : (b : Bool) → lines_of (cond b n s) ≡ lines_of (cond b m t)
    go true = same_lines n m N
    go false = same_lines s t S

shows : (n m s t : List ℕ) (choice k : ℕ) → SameButEndings n m → SameButEndings s t → shown_of (refused_line n s choice k) ≡ shown_of (refused_line m t choice k)
shows n m s t choice k N S = chosen-shown n s choice k ∙ rw (chosen-lines n m s t choice N S) (sym (chosen-shown m t choice k))

-- ---- a line with a byte 13 in it

comma-stays : is_a Return (code ",") ≡ false
unfolding is_a alike class_of named in_digits
comma-stays = refl

module _ (l : Line) (m : In 13 l.bytes) where
  not_written : {c : Char} → Letter c → (fs : List Field) → l.bytes ≡ body c fs → ⊥
  not_written {c} L fs e = lacks-none (body c fs) (returns-none c L.no_return fs) 13 (rw (← e) m) refl

  no-form : {c : Char} → Letter c → (xs : List FieldForm) → is_line c xs l ≡ false
  no-form {c} L xs = elim (true-or-false (is_line c xs l)) [
    | inl t ↦ absurd (not_written L _ (form-is L xs l t).1)
    | inr f ↦ f
  ]

  no-list : {c : Char} → Letter c → is_list_line c l ≡ false
  no-list {c} L = elim (true-or-false (is_list_line c l)) [
    | inl t ↦ absurd (not_written L _ (list-is L l t).1)
    | inr f ↦ f
  ]

  in-nets : (k : ℕ) (N : Net) → add_line k l N ≡ refuses 11 k
  unfolding add_line
  in-nets k N =
      let two = number ∷ number ∷ [] in
      let three = number ∷ number ∷ number ∷ [] in
      rw (no-form P-letter (number ∷ []), no-form T-letter [], no-form I-letter two, no-form I-letter three, no-form O-letter two, no-form O-letter three, no-form H-letter two, no-form R-letter two)

  in-logs : (lim : Limits) (N : Net) (k : ℕ) (r : Run) → log_line lim N k l r ≡ refuses 21 k
  unfolding log_line is_step_line refuse◌at◌when◌ ◌>>◌
  in-logs lim N k r = rw (no-list S-letter)

  in-records : (lim : Limits) (N : Net) (k : ℕ) (R : RunRecord) → enter_line lim N k l R ≡ refuses 31 k
  unfolding enter_line
  in-records lim N k R =
      let two = number ∷ number ∷ [] in
      rw (no-form E-letter (number ∷ []), no-form C-letter (number ∷ number_or_dash ∷ number_or_dash ∷ []), no-form B-letter two, no-form A-letter two, no-form R-letter two)

  in-arrangements : (R : RunRecord) (k : ℕ) (gs : List (List ℕ)) → groups_line R k l gs ≡ refuses 41 k
  unfolding groups_line is_group_line refuse◌at◌when◌ ◌>>◌
  in-arrangements R k gs = rw (no-list G-letter)

  -- neither a letter nor a number has it
  no-figures : {c : Char} → Letter c → (n : ℕ) → is_figures c n l ≡ false
  unfolding is_figures is_number alike
  no-figures {c} L n = elim (true-or-false (is_figures c n l)) [
    | inl t ↦
        let z = and-four l.ended (has_letter c l) (eqb (length (fields_of l)) n) (every (is_number energy_digits) (fields_of l)) t in
        absurd (lacks-none l.bytes (line-lacks L Return comma-stays L.no_return l z.1 (λ p i b j.
        other-class Digit Return refl b (every_in (is_a Digit) p (number_digits energy_digits p (every_in (is_number energy_digits) (fields_of l) z.3 p i)) b j))) 13 m refl)
    | inr f ↦ f
  ]

  in-energies : (k : ℕ) (e : EnergyText) → energy_line k l e ≡ refuses 52 k
  unfolding energy_line capacitor_line draw_line is_capacitor_line is_pulse_line is_load_line refuse◌at◌when◌ ◌>>◌
  in-energies k e = rw (no-figures K-letter 3, no-figures J-letter 1, no-figures W-letter 2) (same (eqb k 1))
    where
      refused : Answer EnergyText
      refused = refuses 52 k

      same : (t : Bool) → cond t refused refused ≡ refused
      same true = refl
      same false = refl

-- it is not the line `=`, whose one byte is another
in-inputs : (l : Line) → In 13 l.bytes → is_parting l ≡ false
unfolding is_parting
in-inputs l m = go l.bytes m
  where
    go : (bs : List ℕ) → In 13 bs → (l.ended && eqb (length bs) 1 && eqb (get_or bs 0 0) (code "=")) ≡ false
    go [] i = absurd (Memᴰ.not-nil i)
    go (b ∷ []) i = rw (← Memᴰ.eq_of_singleton i) (and-false (l.ended && true))
    go (b ∷ c ∷ bs) i = rw (ne_eqb (length (b ∷ c ∷ bs)) 1 (λ e. omega arith), and-false l.ended)

pub either-ending : EitherEnding
either-ending = record {
  lines = same_lines;
  nets = λ s t S. net-by-lines s t (same_lines s t S);
  logs = λ lim N s t S. ap (play_log lim N) (same_lines s t S);
  records = λ lim N s t S. record-by-lines s t (same_lines s t S) lim N;
  arrangements = λ R s t S. arrangement-by-lines s t (same_lines s t S) R;
  energy-texts = λ N s t S. energy-text-by-lines s t (same_lines s t S) N;
  inputs = inputs;
  builds = λ n m s t room N S. build-by-lines n m s t (same_lines n m N) (same_lines s t S) room;
  checks = λ n m s t room N S. check-by-lines n m s t (same_lines n m N) (same_lines s t S) room;
  replays = λ n m s t a b room N S A. replay-by-lines n m s t (same_lines n m N) (same_lines s t S) room a b (same_lines a b A);
  arranges = λ n m s t room N S. arrange-by-lines n m s t (same_lines n m N) (same_lines s t S) room;
  energies = λ n m s t a b N S A. energy-by-lines n m s t (same_lines n m N) (same_lines s t S) a b (same_lines a b A);
  prints = prints;
  shows = shows;
  in-nets = in-nets;
  in-logs = in-logs;
  in-records = in-records;
  in-arrangements = in-arrangements;
  in-energies = in-energies;
  in-inputs = in-inputs;
  written-records = none-in-record;
  written-arrangements = none-in-arrangement;
  printed = none-printed;
  as_before = raw-lines;
}
