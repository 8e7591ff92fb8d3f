-- The paper's number and spot, or the energies, of an answer.
use Rattle.std.specs.Prelude.{Result, Ok, Err}
use Rattle.spec.specs.Answer.{Answer, gives}
use Rattle.spec.specs.declared.Energies.{Energies}
use Rattle.lines.specs.Agree.{refused_as}
use Rattle.accepting.specs.Accepting.{refused_by}
use Rattle.energy_reader.specs.Reads.{refusal_of}
use Rattle.energy.specs.declared.EnergiesRefusal.{EnergiesRefusal}
use Rattle.energy.specs.declared.EnergiesRefusal.TheVariants.{Refused, Text}

abbrev pub energy_of : Result Energies EnergiesRefusal → Answer Energies
energy_of (Ok e) = gives e
energy_of (Err (Refused x)) = refused_by x
energy_of (Err (Text x)) = refused_as (refusal_of x)
