-- `energy::energy` meets its contract: what accepting promises is what reading the energy text and summing over the events rely
-- on (`Took`); each refusal is the definitions', and the energies are those of the text and the record that were read.
use Rattle.std.proofs.Common.{Err, arith, refl}
use Rattle.accepting.proofs.Accepting.{at-bench, taken}
use Rattle.accepting.proofs.Fresh.{fresh-net, fresh-record, fresh}
use Rattle.record_columns.proofs.Answers.{err-is}
use Rattle.energy.proofs.Operation.{not-accepted, few, known-32, not-read, all_read}
use Rattle.energy.proofs.energy.Goals as goal

pub accept-requires : goal.accept-requires
accept-requires c = (c.bench.ensures.1, fresh-net, fresh-record, fresh)

pub returns-in_err-accepted : goal.returns-in_err-accepted
returns-in_err-accepted c =
    rw (err-is _ c.from_residual.ensures.1) (not-accepted _ _ _ c.accept.new.w _ (at-bench _ _ (Err c.in_err-accepted.field-0.0) c.accept.new.w c.bench.ensures.0 c.in_err-accepted.ensures.1))

pub read_energy-requires : goal.read_energy-requires
read_energy-requires c = few (taken c.bench.ensures.0 c.in_ok-accepted.ensures)

pub returns-in_err-told : goal.returns-in_err-told
returns-in_err-told c = rw (err-is _ c.from_residual-in_err-told.ensures.1) (not-read (taken c.bench.ensures.0 c.in_ok-accepted.ensures) _ _ c.in_err-told.ensures refl)

pub energies_of-requires : goal.energies_of-requires
energies_of-requires c = let A = taken c.bench.ensures.0 c.in_ok-accepted.ensures in known-32 A (omega (arith, A.run.few))

pub returns : goal.returns
returns c = let A = taken c.bench.ensures.0 c.in_ok-accepted.ensures in
    all_read A _ _ c.in_ok-told.ensures refl (omega (arith, A.run.few)) _ c.energies_of.ensures
