-- The record, then the rules; where one is refused, the refusal is that of all.
use mathlib.Core.Path.{refl}
use Rattle.record_columns.proofs.Answers.{err-is}
use Rattle.representation.proofs.Codes.{sound}
use Rattle.accepting.proofs.Accepting.{held, record-stop, rules-stop, record-go}
use Rattle.accepting.proofs.accept_record.Goals as goal

pub returns-in_err-s : goal.returns-in_err-s
returns-in_err-s c = let a = c.args in let n = c.read_record.new in
    rw (err-is _ c.from_residual.ensures.1) (refl, λ N h. record-stop a.b a.tokens.now a.arcs.now a.text.now n.rec n.marks N h _ c.in_err-s.ensures.0)

pub judge-requires : goal.judge-requires
judge-requires c = let a = c.args in let n = c.read_record.new in
    let e = c.in_ok-s.ensures in
    let b = held a.b a.tokens.now a.arcs.now a.text.now n.rec n.marks c.requires.1.net c.requires.1.holds e.0 in
    (c.requires.0, sound _ _ _ _ _ b.2, record { room = e.1; sub = b.3.sub }, c.requires.4)

pub returns-in_err-judge : goal.returns-in_err-judge
returns-in_err-judge c = let a = c.args in let n = c.read_record.new in let j = c.in_err-judge.ensures in
    rw (err-is _ c.from_residual-in_err-judge.ensures.1)
    (j.0, λ N h. rules-stop a.b a.tokens.now a.arcs.now a.text.now n.rec n.marks N h c.in_ok-s.ensures.0 _ _ j.1)

pub returns : goal.returns
returns c = let a = c.args in let n = c.read_record.new in let j = c.in_ok-judge.ensures in
    (j.0, λ N h. record-go a.b a.tokens.now a.arcs.now a.text.now n.rec n.marks N h c.in_ok-s.ensures.0 _ j.1)
