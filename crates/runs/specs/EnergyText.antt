-- What an energy text says is in range, line by line: the capacitor's figures, and what an event of each transition draws.
use Rattle.std.specs.Prelude.{◌≡◌, refl, ℕ, ◌*◌, ◌≤◌, Bool, true, not, ◌||◌, cond, List, [], eqb, leb}
use Rattle.std.proofs.Common.{sym, subst, inl, inr, zero-le, lit≤, leb-true}
use Rattle.std.proofs.Math.Nat.{le_trans, mul-le-mul}
use Rattle.std.proofs.Math.Bool.{false}
use mathlib.Core.List.Memᴰ
use Rattle.spec.specs.Lists.{In}
use Rattle.spec.specs.Answer.{gives}
use Rattle.spec.specs.Text.{Line, lines_of, by_lines}
use Rattle.spec.specs.Net.{Net}
use Rattle.spec.specs.Energy.{is_figures, figure_at, is_capacitor_line, is_pulse_line, is_load_line, draw_in, ratings_in, EnergyText, no_energy, capacitor_line, draw_line, energy_line, read_energy}
use Rattle.lists.specs.Laws.{and-true, and-three, and-five, not-is-false}
use Rattle.runs.specs.Answers.{of-gives, of-bind, of-when}
use Rattle.runs.specs.Readers.{lines_keep}

pub record InRange (e : EnergyText) : Type 0 where
  pub capacitance : e.capacitor.capacitance ≤ 1000000
  pub full : e.capacitor.full ≤ 60000
  pub cutoff : e.capacitor.cutoff ≤ e.capacitor.full
  pub draws : (n : ℕ) → In n e.draws → n ≤ 1000000000000

-- a pulse, or a load: no more than 10 ^ 12 µJ
draw-small : (l : Line) → (is_pulse_line l || is_load_line l) ≡ true → draw_in l ≤ 1000000000000
unfolding draw_in
draw-small l h = go (is_pulse_line l) refl h
  where
    a : ℕ
    a = figure_at l 0

    b : ℕ
    b = figure_at l 1

    go : (t : Bool) → is_pulse_line l ≡ t → (t || is_load_line l) ≡ true → cond t a (a * b) ≤ 1000000000000
    go true p q = unfold is_pulse_line in le_trans (leb-true a 1000000 (and-true (is_figures "J" 1 l) (leb a 1000000) p).1) (lit≤ tt)
    go false p q = unfold is_load_line in (
        let z = and-three (is_figures "W" 2 l) (leb a 1000000) (leb b 1000000) q in
        mul-le-mul (leb-true a 1000000 z.1) (leb-true b 1000000 z.2))

line_kept : (k : ℕ) (l : Line) (e f : EnergyText) → energy_line k l e ≡ gives f → InRange e → InRange f
unfolding energy_line capacitor_line draw_line is_capacitor_line ratings_in
line_kept k l e f h r = go (eqb k 1) h
  where
    go : (t : Bool) → cond t (capacitor_line k l) (draw_line k l e) ≡ gives f → InRange f
    go true h =
        let z = of-when 52 k (not (is_capacitor_line l)) _ h in
        let q = and-five (is_figures "K" 3 l) (leb 1 (figure_at l 0)) (leb (figure_at l 0) 1000000) (leb (figure_at l 1) 60000) (leb (figure_at l 2) (figure_at l 1)) (not-is-false _ z.0) in
        subst InRange (of-gives z.1) (record { capacitance = leb-true _ _ q.2; full = leb-true _ _ q.3; cutoff = leb-true _ _ q.4; draws = λ n i. absurd (Memᴰ.not-nil i) })
    go false h =
        let z = of-when 52 k (not (is_pulse_line l || is_load_line l)) _ h in
        subst InRange (of-gives z.1) (record {
          capacitance = r.capacitance;
          full = r.full;
          cutoff = r.cutoff;
          draws = λ n i. elim (Memᴰ.append_cases e.draws i) [
            | inl a ↦ r.draws n a
            | inr b ↦ subst (λ (m : ℕ). m ≤ 1000000000000) (sym (Memᴰ.eq_of_singleton b)) (draw-small l (not-is-false _ z.0))
          ];
        })

none_yet : InRange no_energy
unfolding no_energy
none_yet = record { capacitance = zero-le; full = zero-le; cutoff = zero-le; draws = λ n i. absurd (Memᴰ.not-nil i) }

pub read-in-range : (N : Net) (text : List ℕ) (e : EnergyText) → read_energy N text ≡ gives e → InRange e
unfolding read_energy
read-in-range N text e h =
    let z = of-bind (by_lines energy_line 1 (lines_of text) no_energy) _ h in
    subst InRange (of-gives (of-when 53 0 _ _ z.2).1)
    (lines_keep energy_line (λ k s done. InRange s) (λ k l s t done. line_kept k l s t) 1 (lines_of text) no_energy z.0 [] z.1 none_yet).1
