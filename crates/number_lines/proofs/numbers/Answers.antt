use Rattle.std.proofs.Common.{◌≡◌, ◌+◌, ◌<◌, ◌∷◌, length, arith, sym, ◌∙◌, inl, ap}
use lib.ListN.{set, length-map}
use mathlib.Core.List.{map}
use Rattle.line_forms.specs.Rows.{value_of, slots_of, values_of}
use Rattle.fields.specs.Left.{fields_left}
use Rattle.number_lines.proofs.Lines.{Filled, counted, few-slots, filled_none, filled-room, filled_more, filled-all}
use Rattle.number_lines.proofs.numbers.Goals as goal
use Rattle.number_lines.proofs.numbers.Goals.{After-into_iter-i-iterator, After-number_in}

-- at first all fields of the line are left
first : (c : After-into_iter-i-iterator) → fields_left c.into_iter-i-iterator.result.iter ≡ slots_of 4 c.args.l.now
first c =
    let a = c.into_iter-i-iterator.ensures.into_iter_gives in
    let b = c.enumerate-i-items.ensures.source in
    let d = c.fields_of.ensures in
    cc (a, b, d)

none : (c : After-into_iter-i-iterator) → c.into_iter-i-iterator.result.count ≡ 0
none c =
    let a = c.into_iter-i-iterator.ensures.into_iter_gives in
    let b = c.enumerate-i-items.ensures.count in
    cc (a, b)

room : (c : After-into_iter-i-iterator) → c.into_iter-i-iterator.result.count + length (fields_left c.into_iter-i-iterator.result.iter) < 18446744073709551616
room c = omega (arith, few-slots 4 c.args.l.now, ap length (first c), none c)

pub loop-i-init-derived : goal.loop-i-init-derived
loop-i-init-derived c = ((tt, tt, inl (room (goal.at.loop-i-init-derived c).After-into_iter-i-iterator)), tt)

pub loop-i-init : goal.loop-i-init
unfolding values_of
loop-i-init c = ((tt, tt, inl (room (goal.at.loop-i-init c).After-into_iter-i-iterator)), tt, filled_none (none (goal.at.loop-i-init c).After-into_iter-i-iterator) (ap (map value_of) (first (goal.at.loop-i-init c).After-into_iter-i-iterator)))

-- the number that comes next
next : (c : After-number_in) → map value_of (fields_left c.loop-i.i-iterator.iter) ≡ c.number_in.result ∷ map value_of (fields_left c.next.new.self.iter)
next c = ap (map value_of) c.in-Some.ensures.steps.0 ∙ ap (λ n. n ∷ map value_of (fields_left c.next.new.self.iter)) (sym c.number_in.ensures)

pub overflow_cast-xs : goal.overflow_cast-xs
overflow_cast-xs c = omega (arith, filled-room c.loop-i.invariant.2 c.requires (next (goal.at.overflow_cast-xs c).After-number_in))

here : (c : After-number_in) → c.in-Some.i ≡ c.loop-i.i-iterator.count
here c = c.in-Some.ensures.steps.1

pub bounds-xs-i : goal.bounds-xs-i
bounds-xs-i c = let k = (goal.at.bounds-xs-i c).After-number_in in
    omega (arith, here k, (filled-room c.loop-i.invariant.2 c.requires (next k)).0)

-- the array with that number in it
filled : (c : After-number_in) → Filled (values_of 4 c.args.l.now) (set c.loop-i.xs c.in-Some.i c.number_in.result) c.next.new.self.count (map value_of (fields_left c.next.new.self.iter))
filled c =
    let f = c.loop-i.invariant.2 in
    rw (here c, c.in-Some.ensures.steps.2) (filled_more f (filled-room f c.requires (next c)).0 (next c))

pub loop-i-preserved : goal.loop-i-preserved
loop-i-preserved c =
    let f = filled (goal.at.loop-i-preserved c).After-number_in in
    let n = length-map (fields_left c.next.new.self.iter) value_of in
    ((tt, tt, inl (omega (arith, counted f, n, c.requires.few))), tt, f)

pub returns : goal.returns
returns c = filled-all c.loop-i.invariant.2 (ap (map value_of) c.in-None.ensures.steps.0.0)
