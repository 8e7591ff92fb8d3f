-- A call of the library: what it returned and what it left in the buffer it was lent, by the definitions.
use Rattle.std.specs.Prelude.{◌≡◌, ℕ, List, length}
use Rattle.spec.specs.Building.{build}
use Rattle.spec.specs.Checking.{check}
use Rattle.spec.specs.Replaying.{replay}
use Rattle.spec.specs.Arranging.{arrange}
use Rattle.spec.specs.Buffer.{build_leaves, check_leaves, replay_leaves, arrange_leaves, program_leaves}
use Rattle.spec.specs.Values.{build_returns, check_returns, replay_returns, arrange_returns, program_returns}
use Rattle.spec.specs.declared.Numbers.{Numbers}

-- `old` is the buffer before the call and `new` the one after it

pub record BuildCall (net log old : List ℕ) (r : Numbers) (new : List ℕ) : Type 0 where
  pub answer : r ≡ build_returns net log (length old)
  pub buffer : new ≡ build_leaves (build net log (length old)) old

pub record CheckCall (net text old : List ℕ) (r : Numbers) (new : List ℕ) : Type 0 where
  pub answer : r ≡ check_returns net text (length old)
  pub buffer : new ≡ check_leaves (check net text (length old)) old

pub record ReplayCall (net text arrangement old : List ℕ) (r : Numbers) (new : List ℕ) : Type 0 where
  pub answer : r ≡ replay_returns net text arrangement (length old)
  pub buffer : new ≡ replay_leaves (replay net text arrangement (length old)) old

pub record ArrangeCall (net text old : List ℕ) (r : Numbers) (new : List ℕ) : Type 0 where
  pub answer : r ≡ arrange_returns net text (length old)
  pub buffer : new ≡ arrange_leaves (arrange net text (length old)) old

pub record ProgramCall (input old : List ℕ) (r : Numbers) (new : List ℕ) : Type 0 where
  pub answer : r ≡ program_returns input
  pub buffer : new ≡ program_leaves input old
