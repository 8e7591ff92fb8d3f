-- The numbers and spots of refusals: each operation meets those of its list alone, within their ranges. So the line
-- `X,number,spot` that the program prints, whose fields have at most four digits, shows both whole.
use Rattle.std.specs.Prelude.{◌≡◌, refl, ℕ, suc, ◌+◌, ◌≤◌, ◌<◌, ◌&&◌, List, [], ◌∷◌, ◌++◌, length, eqb, ltb, leb}
use Rattle.std.proofs.Common.{ap, ◌∙◌, zero-le, le_refl, arith, ltb-true, leb-true}
use Rattle.std.proofs.Math.Option.{some}
use mathlib.Core.List.Memᴰ
use Rattle.spec.specs.Lists.{In, every, first}
use Rattle.spec.specs.Answer.{Answer, gives, refuses, ◌>>=◌}
use Rattle.spec.specs.Text.{Line, lines_of, by_lines, most_digits, number_in, digits, line_with}
use Rattle.spec.specs.Net.{net_of, read_net}
use Rattle.spec.specs.Record.{RunRecord, bench}
use Rattle.spec.specs.Building.{built, build}
use Rattle.spec.specs.Checking.{read_record, accepts, check_within, check}
use Rattle.spec.specs.Arranging.{arrange}
use Rattle.spec.specs.Replaying.{read_arrangement, replay}
use Rattle.spec.specs.Energy.{EnergyText, no_energy, capacitor_line, draw_line, energy_line, read_energy, energy}
use Rattle.spec.specs.LineParts.{refused_line}
use Rattle.spec.specs.Printing.{input_of, parted, printed, program}
use Rattle.spec.specs.Refusals.{NumberAndSpots, net_refusals, log_refusals, record_refusals, arrangement_refusals, figure_refusals, energy_refusals, build_refusals, check_refusals, replay_refusals, arrange_refusals, line_refusals, input_refusals, program_refusals, IsAmong, RefusesOnly, Refusals}
use Rattle.spec.specs.declared.Field.TheVariants.{Number}
use Rattle.lists.specs.Laws.{there, and-true, every_in}
use Rattle.runs.specs.Digits.{number-back}
use Rattle.runs.specs.NetLimits.{net-limits}
use Rattle.runs.specs.Exactness.{exactness}
use Rattle.runs.specs.Within.{listed, Within, given-within, when-within, cond-within, wider, bind-within, refuses-listed, found_within}
use Rattle.runs.specs.ReaderSpots.{net-within, log-within, record-within, arrangement-within}

-- ---- the operations

-- "net's; check's but 30", among the refusals of an operation
accepts-within : (rs : List NumberAndSpots) → ((r : NumberAndSpots) → In r net_refusals → In r rs) → ((r : NumberAndSpots) → In r record_refusals → In r rs) → (net text : List ℕ)
    → Within (λ a. (read_net net ≡ gives a.net) × (read_record bench a.net text ≡ gives a.run)) rs (accepts bench net text)
unfolding accepts read_net
accepts-within rs i j net text =
    bind-within (read_net net) _ (wider rs i (net-within (lines_of net))) (λ N e u.
    bind-within (read_record bench N text) _ (wider rs j (record-within N text (net-limits net N e).places)) (λ R q v. given-within (e, q)))

build-within : (net log : List ℕ) (room : ℕ) → Within (λ b. Unit) build_refusals (build net log room)
unfolding build read_net first
build-within net log room =
    when-within 20 0 _ _ (λ t. listed build_refusals 20 refl (zero-le, zero-le)) λ l.
    bind-within (read_net net) _ (wider build_refusals (λ r m. there (Memᴰ.append_left log_refusals m)) (net-within (lines_of net))) (λ N e u.
    bind-within (built bench N (lines_of log)) _ (wider build_refusals (λ r m. there (Memᴰ.append_right net_refusals m)) (log-within N (lines_of log))) (λ r q v. given-within tt))

check-within : (net text : List ℕ) (room : ℕ) → Within (λ c. Unit) check_refusals (check net text room)
unfolding check check_within first
check-within net text room =
    when-within 30 0 _ _ (λ t. listed check_refusals 30 refl (zero-le, zero-le)) λ l.
    bind-within (accepts bench net text) _ (accepts-within check_refusals (λ r m. there (Memᴰ.append_left record_refusals m)) (λ r m. there (Memᴰ.append_right net_refusals m)) net text) (λ a e p. given-within tt)

arrange-within : (net text : List ℕ) (room : ℕ) → Within (λ a. Unit) arrange_refusals (arrange net text room)
unfolding arrange first
arrange-within net text room =
    when-within 50 0 _ _ (λ t. listed arrange_refusals 50 refl (zero-le, zero-le)) λ l.
    bind-within (accepts bench net text) _ (accepts-within arrange_refusals (λ r m. there (Memᴰ.append_left record_refusals m)) (λ r m. there (Memᴰ.append_right net_refusals m)) net text) (λ a e p. given-within tt)

replay-within : (net text arrangement : List ℕ) (room : ℕ) → Within (λ x. Unit) replay_refusals (replay net text arrangement room)
unfolding replay first
replay-within net text arrangement room =
    let rest = record_refusals ++ arrangement_refusals in
    when-within 40 0 _ _ (λ t. listed replay_refusals 40 refl (zero-le, zero-le)) λ l.
    bind-within (accepts bench net text) _ (accepts-within replay_refusals (λ r m. there (Memᴰ.append_left rest m)) (λ r m. there (Memᴰ.append_right net_refusals (Memᴰ.append_left arrangement_refusals m))) net text) (λ a e p.
    let I = ((exactness.checks net a.net p.0 text a.run).0 p.1).1 in
    bind-within (read_arrangement a.run arrangement) _ (wider replay_refusals (λ r m. there (Memᴰ.append_right net_refusals (Memᴰ.append_right record_refusals m)))
    (arrangement-within a.net a.run I arrangement)) (λ gs q v. given-within tt))

-- the lines of an energy text from line k on, up to the last
figures-within : (lines k : ℕ) (ls : List Line) (e : EnergyText) → 1 ≤ k → k + length ls ≡ lines + 1 → Within (λ e. Unit) (figure_refusals lines) (by_lines energy_line k ls e)
unfolding by_lines energy_line capacitor_line draw_line first
figures-within lines k [] e a b = given-within tt
figures-within lines k (l ∷ ls) e a b =
    let spot : (1 ≤ k) × (k ≤ lines) = (a, omega (arith, b)) in
    bind-within {P = λ s. Unit} (energy_line k l e) _
    (cond-within (eqb k 1) _ _ (when-within 52 k _ _ (λ t. listed (figure_refusals lines) 52 refl spot) (λ t. given-within tt)) (when-within 52 k _ _ (λ t. listed (figure_refusals lines) 52 refl spot) (λ t. given-within tt)))
    (λ s h u. figures-within lines (suc k) ls s (omega arith) (omega (arith, b)))

energy-within : (net text figures : List ℕ) → Within (λ e. Unit) (energy_refusals (length (lines_of figures))) (energy net text figures)
unfolding energy read_energy first
energy-within net text figures =
    let m = length (lines_of figures) in
    let rs = energy_refusals m in
    let last : (r : NumberAndSpots) → In r (figure_refusals m) → In r rs = λ r i. Memᴰ.append_right net_refusals (Memᴰ.append_right record_refusals i) in
    bind-within (accepts bench net text) _ (accepts-within rs (λ r i. Memᴰ.append_left (record_refusals ++ figure_refusals m) i) (λ r i. Memᴰ.append_right net_refusals (Memᴰ.append_left (figure_refusals m) i)) net text) (λ a e p.
    bind-within {P = λ t. Unit} (read_energy a.net figures) _ (wider rs last (
    bind-within (by_lines energy_line 1 (lines_of figures) no_energy) _ (figures-within m 1 (lines_of figures) no_energy (omega arith) (omega arith)) (λ t h u.
    when-within 53 0 _ _ (λ b. listed (figure_refusals m) 53 refl (zero-le, zero-le)) (λ b. given-within tt))))
    (λ t h u. given-within tt))

line-within : (net second : List ℕ) (choice asked : ℕ) → Within (λ p. Unit) (line_refusals asked) (refused_line net second choice asked)
unfolding refused_line first
line-within net second choice asked =
    let over : IsAmong (line_refusals asked) 46 asked = listed (line_refusals asked) 46 refl (le_refl asked, le_refl asked) in
    when-within 46 asked _ _ (λ t. over) λ e. found_within 46 asked _ over

input-within : (input : List ℕ) → Within (λ q. Unit) input_refusals (input_of input)
unfolding input_of first
input-within input =
    let over : IsAmong input_refusals 10 0 = listed input_refusals 10 refl (zero-le, zero-le) in
    when-within 10 0 _ _ (λ t. over) λ e. found_within 10 0 (parted (lines_of input)) over

pub refusals : Refusals
unfolding read_net every
refusals = record {
  net = λ text. refuses-listed refl (net-within (lines_of text));
  build = λ net log room. refuses-listed refl (build-within net log room);
  check = λ net text room. refuses-listed refl (check-within net text room);
  replay = λ net text arrangement room. refuses-listed refl (replay-within net text arrangement room);
  arrange = λ net text room. refuses-listed refl (arrange-within net text room);
  energy = λ net text figures. refuses-listed refl (energy-within net text figures);
  line = λ net second choice asked. refuses-listed refl (line-within net second choice asked);
  input = λ input. refuses-listed refl (input-within input);
}

-- ---- the program

-- the answer that the program prints
unfoldable pub answer_to : List ℕ → Answer RunRecord
answer_to input = do
  q ← input_of input
  n ← net_of q.net
  built bench n q.log

pub program-prints : (input : List ℕ) → program input ≡ printed (answer_to input)
unfolding program answer_to
program-prints input = refl

-- an input that is refused: by rule 10, for its net or for its log
pub program-refuses : (input : List ℕ) → RefusesOnly program_refusals (answer_to input)
unfolding answer_to every
program-refuses input = refuses-listed refl (
    bind-within (input_of input) _ (wider program_refusals (λ r m. Memᴰ.append_left (net_refusals ++ log_refusals) m) (input-within input)) (λ q e u.
    bind-within (net_of q.net) _ (wider program_refusals (λ r m. Memᴰ.append_right input_refusals (Memᴰ.append_left log_refusals m)) (net-within q.net)) (λ N d v.
    wider program_refusals (λ r m. Memᴰ.append_right input_refusals (Memᴰ.append_right net_refusals m)) (log-within N q.log))))

-- numbers below 100 and spots of at most 3,137
pub program-spot : (input : List ℕ) (n s : ℕ) → answer_to input ≡ refuses n s → (n < 100) × (s ≤ 3137)
unfolding every
program-spot input n s h =
    let a = (program-refuses input).among n s h in
    let r = a.which in
    let z = and-true (ltb r.number 100) (leb r.most 3137) (every_in (λ r. ltb r.number 100 && leb r.most 3137) program_refusals refl r a.listed) in
    (omega (arith, a.number, ltb-true r.number 100 z.0), omega (arith, a.most, leb-true r.most 3137 z.1))

-- So the line that the program prints shows the whole number and the whole spot: both fields are read back.
pub refusal-back : (input : List ℕ) (n s : ℕ) → answer_to input ≡ refuses n s
    → (program input ≡ line_with "X" (Number n ∷ Number s ∷ [])) × (number_in most_digits (digits most_digits n) ≡ some n) × (number_in most_digits (digits most_digits s) ≡ some s)
unfolding printed
refusal-back input n s h =
    let z = program-spot input n s h in
    (program-prints input ∙ ap printed h, number-back most_digits n (omega arith) (omega (arith, z.0)), number-back most_digits s (omega arith) (omega (arith, z.1)))
