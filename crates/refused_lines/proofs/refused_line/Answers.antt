-- `refused_lines::refused_line` meets its contract: a line that was found goes from its start to its end inside the
-- chosen text, so that the part taken is its bytes and lies there; where none was found the part is empty, at the start
-- of the net text.
use Rattle.std.proofs.Common.{arith}
use native.Mathlib.Decide.{ℕ_discrete}
use Rattle.refused_lines.proofs.Laws.{net-part, second-part, empty-part, net-inside, second-inside}
use Rattle.refused_lines.proofs.refused_line.Goals as goal

pub overflow_add-end : goal.overflow_add-end
overflow_add-end c =
    let g = c.find.ensures.goes c.in-Some.is in elim (ℕ_discrete c.args.choice 0) [
      | yes q ↦ omega (arith, net-inside _ _ _ _ g.1 q)
      | no d ↦ omega (arith, second-inside _ _ _ _ g.1 g.0 d)
    ]

pub slice_bounds-result-end : goal.slice_bounds-result-end
slice_bounds-result-end c = omega (arith, net-inside _ _ _ _ (c.find.ensures.goes c.in-Some.is).1 c.if-choice-eq0.true)

pub slice_bounds-result-end-else-choice-eq0 : goal.slice_bounds-result-end-else-choice-eq0
slice_bounds-result-end-else-choice-eq0 c =
    let g = c.find.ensures.goes c.in-Some.is in omega (arith, second-inside _ _ _ _ g.1 g.0 c.if-choice-eq0.false)

pub returns-then-choice-eq0 : goal.returns-then-choice-eq0
returns-then-choice-eq0 c =
    let a = c.args in
    let g = c.find.ensures.goes c.in-Some.is in
    let p = net-part a.net a.second a.choice a.line _ _ g.0 g.1 c.if-choice-eq0.true in
    record { bytes = p.0; place = p.1 }

pub returns-else-choice-eq0 : goal.returns-else-choice-eq0
returns-else-choice-eq0 c =
    let a = c.args in
    let g = c.find.ensures.goes c.in-Some.is in
    let p = second-part a.net a.second a.choice a.line _ _ g.0 g.1 c.if-choice-eq0.false in
    record { bytes = p.0; place = p.1 }

pub returns-in-None : goal.returns-in-None
returns-in-None c =
    let a = c.args in
    let p = empty-part a.net a.second a.choice a.line (c.find.ensures.nothing c.in-None.is) in
    record { bytes = p.0; place = p.1 }
