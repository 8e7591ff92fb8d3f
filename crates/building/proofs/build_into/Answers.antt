-- `building::build_into` meets its contract: each refusal is the buffer's, the net's or the log's; what is written and
-- noted is the record of the run that the log leaves.
use mathlib.Core.Path.{◌≡◌, refl}
use native.Mathlib.Omega.{arith}
use Rattle.std.specs.Prelude.{Err}
use Rattle.building.specs.declared.BuildRefusal.TheVariants.{BufferShort, Net, Log}
use Rattle.building.proofs.Operation.{net-accepted, net-refused, net-bounds, net-few, net-begun, net-plays, log-accepted, log-refused, lent-ready, lent_written, lent-noted, build-20, refuses-all, refuses-net, refuses-log}
use Rattle.building.proofs.build_into.Goals as goal

pub returns-then-out-lt-BUFFER : goal.returns-then-out-lt-BUFFER
returns-then-out-lt-BUFFER c = (refuses-all BufferShort (build-20 _ _ _ c.if-out-lt-BUFFER.true) refl, λ l. tt)

pub read_into-requires : goal.read_into-requires
read_into-requires c = record { tokens = refl; arcs = refl }

pub returns-in_err-size : goal.returns-in_err-size
returns-in_err-size c =
    let gone : c.from_residual.result ≡ Err (Net c.in_err-size.field-0.0) = grind arith in
    rw gone (refuses-net _ c.if-out-lt-BUFFER.false (net-refused _ c.in_err-size.ensures), λ l. tt)

pub put_sets-requires : goal.put_sets-requires
put_sets-requires c = let b = net-bounds (net-accepted _ c.in_ok-size.ensures) in (b.0, b.1, refl)

pub begin-x-requires : goal.begin-x-requires
begin-x-requires c = net-few (net-accepted _ c.in_ok-size.ensures) c.requires.0 refl refl

pub play_log-requires : goal.play_log-requires
play_log-requires c = net-begun (net-accepted _ c.in_ok-size.ensures) c.put_sets.ensures c.begin-x.ensures _ refl c.requires.0

pub returns-in_err-run : goal.returns-in_err-run
returns-in_err-run c =
    let A = net-accepted _ c.in_ok-size.ensures in
    let F = log-refused _ (net-plays A c.put_sets.ensures c.begin-x.ensures refl c.in_err-run.ensures) in
    let gone : c.from_residual-in_err-run.result ≡ Err (Log c.in_err-run.field-0.0) = grind arith in
    rw gone (refuses-log _ c.if-out-lt-BUFFER.false A.is F, λ l. tt)

pub put_record-ends-requires : goal.put_record-ends-requires
put_record-ends-requires c =
    let A = net-accepted _ c.in_ok-size.ensures in
    let E = log-accepted (net-plays A c.put_sets.ensures c.begin-x.ensures refl c.in_ok-run.ensures) in
    lent-ready A c.args.log.now c.put_sets.ensures c.in_ok-run.run' _ _ _ E _ c.if-out-lt-BUFFER.false (omega (arith, c.in_ok-run.ensures.long, c.begin-x.ensures.long, c.requires.0)) c.requires.1

pub returns : goal.returns
returns c =
    let A = net-accepted _ c.in_ok-size.ensures in
    let E = log-accepted (net-plays A c.put_sets.ensures c.begin-x.ensures refl c.in_ok-run.ensures) in
    let R = c.put_record-ends.ensures in (
      lent_written A c.args.log.now c.put_sets.ensures c.in_ok-run.run' _ _ _ E R c.if-out-lt-BUFFER.false,
      λ l. lent-noted A c.args.log.now c.put_sets.ensures c.in_ok-run.run' _ _ _ E R (omega (arith, c.in_ok-run.ensures.long, c.begin-x.ensures.long, c.requires.0)) c.requires.1 l,
    )
