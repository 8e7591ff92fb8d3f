use mathlib.Core.Path.{◌≡◌, sym, ap, ◌∙◌, subst}
use Prim.Native.Nat.{ℕ, ◌<◌}
use lib.ListN.{length, get_or}
use Rattle.spec.specs.Rounding.{float_of}
use Rattle.energies.proofs.Sums.{no-events, next-event}
use Rattle.energies.proofs.total_draw.Goals as goal

pub loop-t-init : goal.loop-t-init
loop-t-init c = λ ns d. no-events ns c.args.events.now

pub loop-t-preserved : goal.loop-t-preserved
loop-t-preserved c =
    let i = c.loop-t.t-index in
    let t = c.from.result in
    let e : t ≡ get_or c.args.events.now i 0 = c.from.ensures in
    let l = c.loop-t-test.true in
    λ ns d. next-event d i c.loop-t.sum c.event_draw-sum.result l (c.loop-t.invariant ns d)
    (c.event_draw-sum.ensures (get_or ns t 0) (d.stand t (subst (λ (n : ℕ). n < length ns) (sym e) (d.known i l))) ∙ ap (λ (n : ℕ). float_of (get_or ns n 0)) e)
