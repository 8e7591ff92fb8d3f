-- `held_conditions::join` meets its contract: the bit of the condition in its word is set, and no other bit changes.
use mathlib.Core.Path.{refl}
use native.Mathlib.Omega.{arith}
use lib.ListN.{length-set}
use Rattle.condition_sets.proofs.Words.{entered_here, entered-other}
use Rattle.held_conditions.proofs.join.Goals as goal

pub returns : goal.returns
returns c =
    record {
      long = length-set c.args.reads.now _ _;
      here = entered_here c.args.reads.now 0 c.args.c _ _ (omega arith) (omega arith) refl;
      other = λ d f k. entered-other c.args.reads.now 0 c.args.c _ _ (omega arith) (omega arith) refl 0 d (λ x y. f y) c.requires.0 k;
    }
