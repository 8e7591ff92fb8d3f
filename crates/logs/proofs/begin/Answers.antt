-- The tokens are the marking and the first conditions.
use mathlib.Core.Path.{refl}
use native.Mathlib.Omega.{arith}
use Rattle.columns.specs.Columns.{column-length}
use Rattle.history.proofs.Starting.{starts}
use Rattle.logs.proofs.Beginning.{begins, put-long, put-marking, put-held, put-blank, put-cursors}
use Rattle.logs.proofs.begin.Goals as goal

pub returns : goal.returns
returns c = let C = c.put_tokens-2.ensures in
    record {
      places = refl;
      transitions = refl;
      line = refl;
      long = c.start.ensures.long;
      wide = put-long c.requires C;
      marking = put-marking c.requires c.put_tokens.ensures;
      begins = λ steps k N h. begins N h _ (put-long c.requires C) (put-held c.requires C) (λ p l. put-blank c.requires C 32 p (omega arith) l)
          (starts c.requires.most c.requires.long k (column-length 64 32 _ (omega (arith, put-long c.requires C))) (put-cursors c.requires C) c.start.ensures);
    }
