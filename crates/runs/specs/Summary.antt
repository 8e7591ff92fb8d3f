-- The summary that the program prints behind a record, `Z,events,conditions,pairs,lines`, shows its four numbers whole: they are at
-- most 128, 512, 8,128 and 128. What the program prints is a process, and an arrangement of n events has at most n lines.
use Rattle.std.specs.Prelude.{◌≡◌, List, [], ◌∷◌, ◌++◌, map, length}
use Rattle.std.proofs.Common.{sym, ap, ◌∙◌, subst, mul-le-mul_right, arith}
use Prim.Native.Nat.{ℕ, zero, suc, ◌+◌, ◌*◌, ◌^◌, ◌≤◌, ◌<◌, zero-le}
use Rattle.std.proofs.Math.Option.{some}
use Rattle.std.proofs.lemmas.List.{map-append}
use Rattle.spec.specs.Lists.{from, up_to, count, sum}
use Rattle.spec.specs.Answer.{gives}
use Rattle.spec.specs.Text.{Line, most_digits, number_in, digits, line_with}
use Rattle.spec.specs.Net.{Net, net_of}
use Rattle.spec.specs.Record.{RunRecord, bench, record_bytes}
use Rattle.spec.specs.Building.{play_log, record_of, record_for, built}
use Rattle.spec.specs.Checking.{independent, independent_pairs}
use Rattle.spec.specs.Arranging.{levels, line_count, arranged_lines}
use Rattle.spec.specs.Printing.{input_of, summary, printed, program}
use Rattle.spec.specs.Exactness.{IsProcess}
use Rattle.spec.specs.declared.Field.TheVariants.{Number}
use Rattle.lists.specs.Laws.{count-length, length-up_to, up_to-snoc}
use Rattle.lists.specs.Arrays.{sum_more}
use Rattle.runs.specs.Digits.{number-back}
use Rattle.runs.specs.Answers.{of-gives, of-bind}
use Rattle.runs.specs.NetLimits.{lines-limits}
use Rattle.runs.specs.Growth.{start_fits}
use Rattle.runs.specs.ReadLog.{lines-exact}
use Rattle.runs.specs.Log.{built-well-formed, built-process}
use Rattle.runs.specs.Levels.{arranged-count, arranged-keeps}
use Rattle.runs.specs.Sizes.{lines-few}
use Rattle.runs.specs.Spots.{answer_to, program-prints}

-- a number of at most m, whose digits are all written
abbrev pub Shown : ℕ → ℕ → Type 0
Shown m n = (n ≤ m) × (number_in most_digits (digits most_digits n) ≡ some n)

shown : (m n : ℕ) → m < 10 ^ most_digits → n ≤ m → Shown m n
shown m n l h = (h, number-back most_digits n (omega arith) (omega arith))

-- n events have at most n (n - 1) / 2 pairs
pairs-few : (R : RunRecord) (n : ℕ) → 2 * sum (map (λ e. count (independent R e) (up_to e)) (up_to n)) + n ≤ n * n
pairs-few R zero = unfold up_to from sum in zero-le
pairs-few R (suc n) =
    let f : ℕ → ℕ = λ e. count (independent R e) (up_to e) in
    let one = count-length (independent R n) (up_to n) in
    rw (up_to-snoc n, map-append f (up_to n) (n ∷ [])) (omega (arith, sum_more (map f (up_to n)) (f n), pairs-few R n, length-up_to n))

pairs-most : (R : RunRecord) → length R.events ≤ 128 → independent_pairs R ≤ 8128
unfolding independent_pairs
pairs-most R h = omega (arith, pairs-few R (length R.events), mul-le-mul_right (length R.events) h)

-- no more lines than events
lines-most : (N : Net) (R : RunRecord) → IsProcess N R → line_count (levels R) ≤ length R.events
lines-most N R I = omega (arith, arranged-count R, lines-few (length R.events) (arranged_lines (levels R)) (arranged-keeps N R I.well_formed I.process).each-once)

-- what is built from the lines of a net and a log is a process
pub built-is-process : (net log : List Line) (N : Net) (R : RunRecord) → net_of net ≡ gives N → built bench N log ≡ gives R → IsProcess N R
unfolding built record_for bench
built-is-process net log N R e h =
    let b = of-bind (play_log bench N log) _ h in
    let d = lines-exact bench N (start_fits bench N (lines-limits net N e).tokens) log b.0 b.1 in
    let F = d.4 in
    subst (IsProcess N) (ap (record_of N) (sym d.3) ∙ of-gives b.2) (record {
      events = F.events;
      conditions = F.conditions;
      marks = F.marks;
      well_formed = built-well-formed N d.0 d.2;
      process = built-process N d.0 d.2;
    })

pub summary-back : (input : List ℕ) (R : RunRecord) → answer_to input ≡ gives R
    → (program input ≡ record_bytes R ++ line_with "Z" (Number (length R.events) ∷ Number (length R.conditions) ∷ Number (independent_pairs R) ∷ Number (line_count (levels R)) ∷ []))
    × Shown 128 (length R.events) × Shown 512 (length R.conditions) × Shown 8128 (independent_pairs R) × Shown 128 (line_count (levels R))
unfolding answer_to printed summary
summary-back input R h =
    let q = of-bind (input_of input) _ h in
    let n = of-bind (net_of q.0.net) _ q.2 in
    let I = built-is-process q.0.net q.0.log n.0 R n.1 n.2 in (
      program-prints input ∙ ap printed h,
      shown 128 _ (omega arith) I.events,
      shown 512 _ (omega arith) I.conditions,
      shown 8128 _ (omega arith) (pairs-most R I.events),
      shown 128 _ (omega arith) (omega (arith, I.events, lines-most n.0 R I)),
    )
