-- `lines::raw_line_at` meets its contract: the reader moves to the place behind the line's end (`line-found`).
use Rattle.std.proofs.Common.{◌≡◌, ◌≤◌, ◌+◌, length, ap, ◌∙◌, arith}
use Rattle.lines.specs.Lines.{end_from}
use Rattle.lines.proofs.Lines.{line-found}
use Rattle.lines.proofs.raw_line_at.Goals as goal

pub returns : goal.returns
returns c =
    let s = c.args.s.now in
    let here = c.new-here.ensures in
    let end = c.line_end-end.result in
    let text : c.new-here.result.text.now ≡ s = ap (λ t. t.now) here.0 in
    let is : end ≡ end_from s c.args.at =
    c.line_end-end.ensures.0 ∙ ap (λ t. end_from t c.new-here.result.at) text ∙ ap (end_from s) here.1 in
    let within : end ≤ length s = rw text at c.line_end-end.ensures.1 in
    let reaches : c.moved.result.at ≡ end + 1 = omega (arith, here.1, is, c.moved.ensures.1) in
    rw reaches (line-found s c.args.at end (omega arith) is within)
