-- The lines of an energy text, one after the other: the capacitor's, and then a draw for each transition. What a line answers
-- is told by what it says, and each line that is read leaves one fewer, so that at the end they are counted.
use Prim.Native.Nat.{ℕ, ◌+◌, ◌-◌, ◌≤◌, ◌<◌}
use mathlib.Core.Path.{◌≡◌, refl, ap, ◌∙◌}
use mathlib.Core.Bool.{Bool, true, false, not, ◌||◌, cond}
use mathlib.Core.Option.{Option, none, some}
use mathlib.Core.List.{List, [], ◌∷◌, ◌++◌}
use native.Mathlib.Omega.{arith}
use lib.ListN.{length, get_or, set, drop, length-append, length-set, drop_of_length-le}
use lib.Seq.{get_or-set_same, get_or-set_other}
use borrow.Author.Tests.{eq-eqb, ne_eqb}
use Rattle.lists.specs.Laws.{index-snoc}
use Rattle.lists.specs.LineEnds.{no-first}
use Rattle.spec.specs.Answer.{gives, refuses, ◌>>=◌, ◌>>◌, refuse◌at◌when◌, found, returned}
use Rattle.spec.specs.Text.{Line, lines_of, by_lines}
use Rattle.spec.specs.Energy.{Ratings, EnergyText, no_energy, is_capacitor_line, ratings_in, is_pulse_line, is_load_line, draw_in, capacitor_line, draw_line, energy_line, read_energy}
use Rattle.lines.specs.Agree.{giving, refusing}
use Rattle.lines.proofs.ByLines.{Running, line_taken, line_refused, lines-done}
use Rattle.hold_up.specs.Floats.{Stands, no_draw, Holds}
use Rattle.hold_up.specs.declared.Capacitor.{Capacitor}
use Rattle.hold_up.specs.declared.Draw.{Draw}
use Rattle.energy_reader.specs.Reads.{line_draw, line_ratings, Both, made_of, ReadsCapacitor, ReadsDraw, ReadsEnergy}
use Rattle.energy_reader.specs.declared.EnergyRefusal.TheVariants.{WrongLine, LineCount}
use Rattle.std.specs.Prelude.{Ok, Err}
use Rattle.energy_reader.specs.declared.CapacitorAt.{CapacitorAt}
use Rattle.energy_reader.specs.declared.DrawAt.{DrawAt}

-- ---- what a line answers, by what it says

abbrev first : Ratings → EnergyText
first f = record { capacitor = f; draws = [] }

abbrev more : EnergyText → ℕ → EnergyText
more e n = record { capacitor = e.capacitor; draws = e.draws ++ n ∷ [] }

-- a line is judged, and what it says is taken: what it may say tells what it answers
said : {A : Type 0} (f : A → EnergyText) (k : ℕ) (b : Bool) (x : A) → (refuse 52 at k when not b >> gives (f x)) ≡ returned f (found 52 k (cond b (some x) none))
unfolding refuse◌at◌when◌ ◌>>◌ returned found
said f k true x = refl
said f k false x = refl

module _ (k : ℕ) (l : Line) (e : EnergyText) where
  capacitor-said : k ≡ 1 → energy_line k l e ≡ returned first (found 52 k (line_ratings l))
  unfolding energy_line capacitor_line line_ratings
  capacitor-said h = rw (eq-eqb k 1 h) (said first k (is_capacitor_line l) (ratings_in l))

  draw-said : 2 ≤ k → energy_line k l e ≡ returned (more e) (found 52 k (line_draw l))
  unfolding energy_line draw_line line_draw
  draw-said h = rw (ne_eqb k 1 (λ q. omega arith)) (said (more e) k (is_pulse_line l || is_load_line l) (draw_in l))

-- ---- what is made of it

module _ {A B : Type 0} (P : A → B → Type 0) (x : Option A) (y : Option B) (h : Both P x y) where
  made : (a : A) → x ≡ some a → (b : B) × (y ≡ some b) × P a b
  made a e = go y (rw e at h)
    where
      go : (z : Option B) → Both P (some a) z → (b : B) × (z ≡ some b) × P a b
      go (some b) p = (b, refl, p)
      go none p = absurd p

  none_made : x ≡ none → y ≡ none
  none_made e = go y (rw e at h)
    where
      go : (z : Option B) → Both P none z → z ≡ none
      go (some b) p = absurd p
      go none p = refl

-- ---- the lines so far

-- the text of k - 1 lines: its capacitor and its draws are held, each draw as long as there is room
pub record Holding (c : Capacitor) (kept : List Draw) (k : ℕ) (e : EnergyText) : Type 0 where
  pub capacitor : Holds c e.capacitor
  pub draws : (t : ℕ) → t < length e.draws → t < 32 → Stands (get_or kept t no_draw) (get_or e.draws t 0)
  pub count : length e.draws + 2 ≡ k

-- line k starts at position i, and what stands before it is held
pub record Reading (text : List ℕ) (c : Capacitor) (kept : List Draw) (k i : ℕ) : Type 0 where
  pub lines : Running energy_line text no_energy k i (Holding c kept k)
  pub count : k + length (lines_of (drop i text)) ≡ length (lines_of text) + 1

-- a draw is stored at place i, if there is room
pub record Stores (kept : List Draw) (i : ℕ) (d : Draw) (kept' : List Draw) : Type 0 where
  pub long : length kept' ≡ 32
  pub old : (t : ℕ) → t < i → get_or kept' t no_draw ≡ get_or kept t no_draw
  pub new : i < 32 → get_or kept' i no_draw ≡ d

module _ (kept : List Draw) (i : ℕ) (d : Draw) (h : length kept ≡ 32) where
  pub stored : i < 32 → Stores kept i d (set kept i d)
  stored l = record { long = length-set kept i _ ∙ h; old = λ t u. get_or-set_other kept i t _ no_draw (λ e. omega arith); new = λ u. get_or-set_same kept i _ no_draw (omega arith) }

  pub no_room : 32 ≤ i → Stores kept i d kept
  no_room u = record { long = h; old = λ t l. refl; new = λ l. absurd (omega arith) }

module _ {text : List ℕ} {r : CapacitorAt} (h : ReadsCapacitor text r) where
  pub capacitor-read : {c : Capacitor} (kept : List Draw) → made_of r.capacitor ≡ some c → Reading text c kept 2 r.next
  unfolding returned found
  capacitor-read {c} kept e = let m = made Holds _ (line_ratings h.found.line) h.rated _ e in record {
    lines = record {
      state = first m.0;
      holds = record { capacitor = m.2; draws = λ t l. absurd (omega arith); count = refl };
      answers = line_taken energy_line 1 no_energy h.found (capacitor-said 1 h.found.line no_energy refl ∙ ap (λ (o : Option Ratings). returned first (found 52 1 o)) m.1);
    };
    count = omega (arith, ap length h.found.lines);
  }

  pub capacitor-no : made_of r.capacitor ≡ none → by_lines energy_line 1 (lines_of text) no_energy ≡ refuses 52 1
  unfolding returned found
  capacitor-no e = line_refused energy_line 1 no_energy h.found (capacitor-said 1 h.found.line no_energy refl ∙ rw (none_made Holds _ (line_ratings h.found.line) h.rated e))

module _ {text : List ℕ} {c : Capacitor} {kept : List Draw} {k i : ℕ} (g : Reading text c kept k i) {r : DrawAt} (h : ReadsDraw text i r) where
  late : 2 ≤ k
  late = omega (arith, g.lines.holds.count)

  pub draw-read : {d : Draw} {kept' : List Draw} → made_of r.draw ≡ some d → Stores kept (k - 2) d kept' → Reading text c kept' (k + 1) r.next
  unfolding returned found
  draw-read {d} {kept'} e w = let m = made Stands _ (line_draw h.found.line) h.draws _ e in let s = g.lines.state in let b = g.lines.holds in record {
    lines = record {
      state = more s m.0;
      holds = record {
        capacitor = b.capacitor;
        draws = index-snoc (λ t n. t < 32 → Stands (get_or kept' t no_draw) n) 0 s.draws m.0 (λ t l u. rw (w.old t (omega (arith, b.count))) (b.draws t l u)) (λ u. let z : k - 2 ≡ length s.draws = omega (arith, b.count) in rw (← z, w.new (omega arith)) m.2);
        count = omega (arith, length-append s.draws (m.0 ∷ []), b.count);
      };
      answers = g.lines.answers ∙ line_taken energy_line k s h.found (draw-said k h.found.line s late ∙ ap (λ (o : Option ℕ). returned (more s) (found 52 k o)) m.1);
    };
    count = omega (arith, ap length h.found.lines, g.count);
  }

  pub draw-no : made_of r.draw ≡ none → by_lines energy_line 1 (lines_of text) no_energy ≡ refuses 52 k
  unfolding returned found
  draw-no e = let s = g.lines.state in g.lines.answers ∙ line_refused energy_line k s h.found (draw-said k h.found.line s late ∙ rw (none_made Stands _ (line_draw h.found.line) h.draws e))

-- ---- the answer

no_lines : (text : List ℕ) (i : ℕ) → length text ≤ i → length (lines_of (drop i text)) ≡ 0
no_lines text i u = rw (drop_of_length-le text u, no-first)

-- the lines are judged first, and then counted
module _ (transitions : ℕ) (text : List ℕ) where
  pub line-no : {k : ℕ} → by_lines energy_line 1 (lines_of text) no_energy ≡ refuses 52 k → ReadsEnergy transitions text (Err (WrongLine k))
  unfolding read_energy ◌>>=◌
  line-no {k} h N m = refusing 52 k (rw h) refl

  count_no : {e : EnergyText} → by_lines energy_line 1 (lines_of text) no_energy ≡ gives e → (length (lines_of text) ≡ transitions + 1 → ⊥) → ReadsEnergy transitions text (Err LineCount)
  unfolding read_energy ◌>>=◌ ◌>>◌ refuse◌at◌when◌
  count_no g d N m = refusing 53 0 (rw (g, m, ne_eqb (length (lines_of text)) (transitions + 1) d)) refl

  pub empty-text : length text ≤ 0 → ReadsEnergy transitions text (Err LineCount)
  empty-text u = count_no (lines-done energy_line 1 no_energy text 0 u) (λ q. omega (arith, no_lines text 0 u))

  module _ {c : Capacitor} {kept : List Draw} {k i : ℕ} (g : Reading text c kept k i) (u : length text ≤ i) where
    all_read : by_lines energy_line 1 (lines_of text) no_energy ≡ gives g.lines.state
    all_read = g.lines.answers ∙ lines-done energy_line k g.lines.state text i u

    pub other-count : (k ≡ transitions + 2 → ⊥) → ReadsEnergy transitions text (Err LineCount)
    other-count d = count_no all_read (λ q. d (omega (arith, g.count, no_lines text i u)))

    pub text-read : transitions ≤ 32 → k ≡ transitions + 2 → ReadsEnergy transitions text (Ok (record { capacitor = c; draws = kept }))
    unfolding read_energy ◌>>=◌ ◌>>◌ refuse◌at◌when◌
    text-read l e N m =
        let b = g.lines.holds in
        let n : length (lines_of text) ≡ transitions + 1 = omega (arith, g.count, no_lines text i u) in
        let z : length g.lines.state.draws ≡ transitions = omega (arith, b.count) in
        giving g.lines.state (rw (all_read, m, eq-eqb (length (lines_of text)) (transitions + 1) n)) refl
        (record { capacitor = b.capacitor; draws = λ t h. b.draws t h (omega arith); count = z })
