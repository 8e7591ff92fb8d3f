-- `net::add_transition` meets its contract: its test is the limit of the definitions, and one more transition, which
-- has no arcs yet, changes no array.
use mathlib.Core.Path.{refl}
use Rattle.lines.specs.Agree.{giving, refusing}
use Rattle.net.proofs.Laws.{transition-full, transition-goes, transition-counts, transition-draft}
use Rattle.net.proofs.add_transition.Goals as goal

pub returns-then-s-ge32 : goal.returns-then-s-ge32
returns-then-s-ge32 c a m d = refusing 12 _ (transition-full _ _ _ m d c.if-s-ge32.true) refl

pub returns : goal.returns
returns c a m d = giving _ (transition-goes _ _ _ m d c.if-s-ge32.false) (transition-counts _ _ m d) (transition-draft _ _ m d c.if-s-ge32.false)
