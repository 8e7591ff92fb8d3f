use mathlib.Core.Path.{refl}
use native.Mathlib.Omega.{arith}
use Rattle.record_columns.proofs.Answers.{err-is}
use Rattle.record_reader.proofs.Reading.{entered-none, fits, spans, entered_on, entered-no, grown, entered_all}
use Rattle.record_reader.proofs.Widths.{line-ends}
use Rattle.record_reader.proofs.read_record.Goals as goal

pub loop-at-init : goal.loop-at-init
loop-at-init c = (omega arith, omega arith, omega arith, omega arith, refl, refl, entered-none _ _ _ _ c.requires.1 c.requires.2.zero)

pub enter_at-requires : goal.enter_at-requires
enter_at-requires c =
    let i = c.loop-at.invariant in
    let f = fits c.args.b i.6 in (
      omega arith,
      c.ended_to-ended.ensures,
      c.requires.0,
      f,
      spans c.args.b i.6 (omega (arith, c.requires.2.room)),
    )

pub returns-in_err-took : goal.returns-in_err-took
returns-in_err-took c = rw (err-is _ c.from_residual.ensures.1) (entered-no _ c.loop-at.invariant.6 c.in_err-took.ensures, tt)

pub loop-at-smaller : goal.loop-at-smaller
loop-at-smaller c = let t = c.in_ok-took.ensures in omega (arith, t.goes, t.found.on, t.found.within)

pub loop-at-preserved : goal.loop-at-preserved
loop-at-preserved c =
    let t = c.in_ok-took.ensures in
    let g = c.loop-at.invariant.6 in
    let w = line-ends t.found (omega arith) in (
      omega (arith, t.goes, t.found.within),
      omega (arith, t.goes, t.found.on),
      omega (arith, t.goes, w.0, grown _ g t),
      omega (arith, w.1, grown _ g t),
      omega arith,
      omega arith,
      entered_on _ g t,
    )

pub returns : goal.returns
returns c = let v = c.loop-at.invariant in let f = fits c.args.b v.6 in
    (entered_all _ v.6 c.loop-at-test.false, omega (arith, v.3, v.5, f.conditions, c.requires.2.room))
