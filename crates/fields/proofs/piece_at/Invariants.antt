-- `fields::piece_at` meets its contract. The loop's invariant, `Walked`: the piece ends where what is left of it does,
-- its bytes are all digits if those before i and those left are, and from the value so far the bytes left give its
-- value while it has room. What each byte is, its entry tells.
use Rattle.fields.proofs.Pieces.{Walked}
use Rattle.fields.proofs.piece_at.Given as goal

abbrev pub invariant-loop-i : goal.invariant-loop-i
invariant-loop-i l = Walked l.most l.l l.at l.i l.digits l.value
