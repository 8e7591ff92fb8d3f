-- `net_reader::add_any` meets its contract: a line that is not ended has no form, so that the definitions refuse it as
-- malformed; one that is ended they add by its row. Where the next line starts was told with the line.
use mathlib.Core.Path.{◌≡◌, refl}
use native.Mathlib.Omega.{arith}
use Rattle.std.specs.Prelude.{Err}
use borrow.Author.Tests.{not-true, not-false}
use Rattle.lines.specs.Agree.{refusing}
use Rattle.net_reader.proofs.Plain.{ended-added, unended-refused, line-takes}
use Rattle.net_reader.proofs.add_any.Goals as goal

pub slice_bounds-row_of-count : goal.slice_bounds-row_of-count
slice_bounds-row_of-count c = omega (arith, c.line_at-line.ensures.start)

pub returns-then-not-line : goal.returns-then-not-line
returns-then-not-line c = line-takes (Err _) c.line_at-line.ensures tt (λ m d. refusing 11 _ (unended-refused _ _ m (not-true _ c.if-not-line.true)) refl)

pub returns-in_err-size : goal.returns-in_err-size
returns-in_err-size c =
    let gone : c.from_residual.result ≡ Err c.in_err-size.field-0.0 = grind arith in
    rw gone (line-takes (Err _) c.line_at-line.ensures tt (λ m d. rw (ended-added _ _ m (not-false _ c.if-not-line.false), ← c.row_of.ensures) (c.in_err-size.ensures m d)))

pub returns : goal.returns
returns c = line-takes _ c.line_at-line.ensures refl
    (λ m d. rw (ended-added _ _ m (not-false _ c.if-not-line.false), ← c.row_of.ensures) (c.in_ok-size.ensures m d))
