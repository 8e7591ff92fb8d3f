-- What is promised of energies: what was accepted has at most 128 events and figures in range, where the definitions' energies
-- are right, and a call returns these.
use mathlib.Core.Path.{◌≡◌, refl, ◌∙◌, subst, subst⁻¹}
use Prim.Native.Nat.{ℕ, ◌*◌, ◌≤◌}
use mathlib.Core.List.{List}
use lib.ListN.{length, get_or}
use Rattle.spec.specs.Lists.{sum_of}
use Rattle.spec.specs.Answer.{gives, ◌>>=◌}
use Rattle.spec.specs.Net.{read_net}
use Rattle.spec.specs.Record.{bench}
use Rattle.spec.specs.Checking.{Accepted, read_record, accepts}
use Rattle.spec.specs.Energy.{draw_of, energies_of, energy, as_energy, energy_returns}
use Rattle.spec.specs.HoldUp.{Right, RightEnergy}
use Rattle.spec.specs.declared.EnergyNumbers.{EnergyNumbers}
use Rattle.lists.specs.Laws.{at_in}
use Rattle.runs.specs.Answers.{of-gives, of-bind}
use Rattle.runs.specs.Exactness.{exactness}
use Rattle.runs.specs.EnergyText.{read-in-range}
use Rattle.energies.proofs.Ranges.{sum-small}
use Rattle.energies.proofs.Right.{right}

-- a record that is accepted has at most 128 events
few-events : (net text : List ℕ) (a : Accepted) → accepts bench net text ≡ gives a → length a.run.events ≤ 128
unfolding accepts
few-events net text a h =
    let x = of-bind (read_net net) _ h in
    let y = of-bind (read_record bench x.0 text) _ x.2 in
    let z = ((exactness.checks net x.0 x.1 text y.0).0 y.1).1.events in
    subst (λ (b : Accepted). length b.run.events ≤ 128) (of-gives y.2) z

module _ (net text figures : List ℕ) {r : EnergyNumbers} (q : r ≡ energy_returns net text figures) where
  pub energy-promised : RightEnergy net text figures r
  unfolding energy ◌>>=◌ as_energy energies_of draw_of
  energy-promised = record {
    answered = λ a e h k.
        let g = read-in-range a.net figures e k in
        let n = sum_of (λ t. get_or e.draws t 0) a.run.events in
        let small : n ≤ 128 * 1000000000000 = sum-small e.draws a.run.events (λ t l. g.draws _ (at_in 0 e.draws t l)) (few-events net text a h) in
        let z : r ≡ as_energy (gives (energies_of e.capacitor n)) = q ∙ rw (h, k) in
        subst⁻¹ (λ (v : EnergyNumbers). (v.number ≡ 0) × Right e.capacitor n v.usable v.draw v.left) z (refl, right e.capacitor n g.capacitance g.full g.cutoff small);
  }
