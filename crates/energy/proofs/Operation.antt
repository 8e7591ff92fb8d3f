-- A net and a record that are accepted, and an energy text: where it is refused, and the energies where it is not.
use Prim.Native.Nat.{ℕ, ◌≤◌, ◌<◌}
use mathlib.Core.Path.{◌≡◌, refl, sym, ap, ◌∙◌}
use mathlib.Core.List.{List}
use native.Mathlib.Omega.{arith}
use lib.ListN.{length, take}
use lib.Seq.{length-take-le, get_or-take}
use lib.Ieee.{nan}
use Rattle.std.proofs.Common.{Result, Ok, Err}
use Rattle.spec.specs.Answer.{gives, refuses, ◌>>=◌, returned}
use Rattle.spec.specs.Record.{bench}
use Rattle.spec.specs.Energy.{read_energy, energy}
use Rattle.spec.specs.declared.Energies.{Energies}
use Rattle.lines.specs.Agree.{Agrees, giving, refusing, refused_as}
use Rattle.runs.specs.Answers.{not-refused}
use Rattle.accepting.specs.Accepting.{refused_by, Accepts}
use Rattle.accepting.specs.declared.Accepted.{Accepted}
use Rattle.accepting.specs.declared.Refusal.{Refusal}
use Rattle.accepting.proofs.Accepting.{Took, event-known, events-are}
use Rattle.energies.specs.Promises.{Below, GivesEnergies}
use Rattle.energy_reader.specs.Reads.{refusal_of, answer_of, no_values, ReadsEnergy, HoldsRead}
use Rattle.energy_reader.specs.declared.EnergyText.{EnergyText}
use Rattle.energy_reader.specs.declared.EnergyRefusal.{EnergyRefusal}

-- a refusal is the same of whatever it is one
same-refusal : {p : ℕ × ℕ} {n s : ℕ} → refused_as {A = Unit {0}} p ≡ refuses n s → refused_as {A = Energies} p ≡ refuses n s
unfolding returned
same-refusal h = ap (returned (λ (u : Unit {0}). record { usable = nan; draw = nan; left = nan })) h

-- ---- the net or the record is refused

pub not-accepted : (net text figures t : List ℕ) (x : Refusal) → Accepts bench net text (Err x) t → refused_by x ≡ energy net text figures
unfolding energy ◌>>=◌
not-accepted net text figures t x (giving a e y k) = not-refused y
not-accepted net text figures t x (refusing n s e y) = same-refusal y ∙ sym (rw e refl)

-- ---- both are accepted

module _ {net text : List ℕ} {r : Accepted} {tokens arcs rec t : List ℕ} (A : Took net text r tokens arcs rec t) where
  pub few : r.transitions ≤ 32
  few = omega (arith, A.lent.declared, A.lent.arrays.counts.few_transitions)

  module _ (long : r.events ≤ length rec) where
    -- the transition of each event is one of the net's
    known : Below A.accepted.net.transitions (take r.events rec)
    known i l =
        let u : i < r.events = omega (arith, length-take-le r.events rec long) in
        omega (arith, get_or-take r.events rec i 0 u, A.lent.transitions i u, event-known A i u)

    pub known-32 : Below 32 (take r.events rec)
    known-32 i l = omega (arith, known i l, A.lent.declared, few)

  module _ (figures : List ℕ) (z : Result EnergyText EnergyRefusal) (read : ReadsEnergy r.transitions figures z) where
    told : Agrees no_values (answer_of z) (HoldsRead r.transitions z) (read_energy A.accepted.net figures)
    told = read A.accepted.net (sym A.lent.declared)

    -- the energy text is refused
    pub not-read : {x : EnergyRefusal} → z ≡ Err x → refused_as (refusal_of x) ≡ energy net text figures
    unfolding energy ◌>>=◌
    not-read {x} q = go (rw q at told)
      where
        go : Agrees no_values (answer_of (Err x)) (HoldsRead r.transitions (Err x)) (read_energy A.accepted.net figures) → refused_as (refusal_of x) ≡ energy net text figures
        go (giving e h y k) = not-refused y
        go (refusing n s h y) = same-refusal y ∙ sym (rw (A.is, h) refl)

    -- it is read
    pub all_read : {f : EnergyText} → z ≡ Ok f → r.events ≤ length rec → (e : Energies) → GivesEnergies f.capacitor f.draws (take r.events rec) e → gives e ≡ energy net text figures
    unfolding energy ◌>>=◌
    all_read {f} q long e g = go (rw q at told)
      where
        go : Agrees no_values (answer_of (Ok f)) (HoldsRead r.transitions (Ok f)) (read_energy A.accepted.net figures) → gives e ≡ energy net text figures
        go (giving d i y k) =
            let es = take r.events rec in
            let below : Below (length d.draws) es = λ j l. omega (arith, known long j l, k.count, A.lent.declared) in
            let t = g d.capacitor d.draws A.accepted.run k.capacitor (record { stand = k.draws; known = below; few = omega (arith, length-take-le r.events rec long, A.run.few) }) (sym (events-are A long)) in
            rw (A.is, i, t) refl
        go (refusing n s i y) = not-refused (sym y)
