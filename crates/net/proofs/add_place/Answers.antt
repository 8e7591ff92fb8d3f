-- `net::add_place` meets its contract: the tests are the two limits of the definitions, that on tokens asked first of
-- the place alone so that the sum fits; the entry that is set is that of the next place.
use mathlib.Core.Path.{refl}
use native.Mathlib.Omega.{arith}
use Rattle.lines.specs.Agree.{giving, refusing}
use Rattle.net.proofs.Laws.{place-full, place-over, place-goes, place-counts, place-draft}
use Rattle.net.proofs.add_place.Goals as goal
use Rattle.net.proofs.add_place.Goals.{then-v-gt512-via-then-v-gt512, then-v-gt512-via-else-v-gt512+then-s-v-gt512}

pub returns-then-s-ge32 : goal.returns-then-s-ge32
returns-then-s-ge32 c arcs m d = refusing 12 _ (place-full _ _ _ _ m d c.if-s-ge32.true) refl

pub returns-then-v-gt512 : goal.returns-then-v-gt512
returns-then-v-gt512 c arcs m d = refusing 12 _ (place-over _ _ _ _ m d (elim c.then-v-gt512.branch [
  | then-v-gt512-via-then-v-gt512 w ↦ omega arith
  | then-v-gt512-via-else-v-gt512+then-s-v-gt512 w ↦ w.if-s-v-gt512.true
])) refl

pub returns : goal.returns
returns c arcs m d = giving _ (place-goes _ _ _ _ m d c.if-s-ge32.false c.if-s-v-gt512.false) (place-counts _ _ _ m d) (place-draft _ _ _ m d c.if-s-ge32.false c.if-s-v-gt512.false)
