-- The net, then the record; where the net is refused, the refusal is that of all.
use mathlib.Core.Path.{refl}
use Rattle.net_reader.proofs.Reading.{read_found}
use Rattle.record_columns.proofs.Answers.{err-is}
use Rattle.accepting.specs.declared.Refusal.TheVariants.{Net}
use Rattle.accepting.proofs.Fresh.{fresh-few, fresh-all}
use Rattle.accepting.proofs.Accepting.{net-stop, refused-both, accepted-both}
use Rattle.accepting.proofs.accept.Goals as goal

pub returns-in_err-size : goal.returns-in_err-size
returns-in_err-size c = let r = c.read_into in
    rw (err-is _ c.from_residual.ensures.1)
    (refused-both refl c.args.limits c.args.net.now c.args.text.now (Net c.in_err-size.field-0.0) r.new.tokens r.new.arcs c.args.rec.now c.args.w.now
    (net-stop _ _ _ c.in_err-size.field-0.0 c.in_err-size.ensures.answer))

pub accept_record-requires : goal.accept_record-requires
accept_record-requires c = let f = read_found _ _ _ _ c.in_ok-size.ensures in let d = f.2.counts in
    (record { events = c.requires.0.events; conditions = c.requires.0.conditions; places = d.few_places; transitions = d.few_transitions }, record { net = f.0; holds = f.2 }, c.requires.2, fresh-few _ c.if-text-le-SHORT_TEXT.true, c.requires.3)

pub returns-then-text-le-SHORT_TEXT : goal.returns-then-text-le-SHORT_TEXT
returns-then-text-le-SHORT_TEXT c = let f = read_found _ _ _ _ c.in_ok-size.ensures in let e = c.accept_record.ensures in
    accepted-both e.0 _ _ _ _ _ _ _ _ _ _ f.0 f.1 f.2 (e.1 f.0 f.2)

pub accept_record-requires-2 : goal.accept_record-requires-2
accept_record-requires-2 c = let f = read_found _ _ _ _ c.in_ok-size.ensures in let d = f.2.counts in
    (record { events = c.requires.0.events; conditions = c.requires.0.conditions; places = d.few_places; transitions = d.few_transitions }, record { net = f.0; holds = f.2 }, c.requires.2, fresh-all _, c.requires.3)

pub returns : goal.returns
returns c = let f = read_found _ _ _ _ c.in_ok-size.ensures in let e = c.accept_record-2.ensures in
    accepted-both e.0 _ _ _ _ _ _ _ _ _ _ f.0 f.1 f.2 (e.1 f.0 f.2)
