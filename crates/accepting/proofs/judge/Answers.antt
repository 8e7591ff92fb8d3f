-- Each rule's lowest offender is the definitions', so the first rule with one refuses.
use mathlib.Core.Path.{refl}
use Rattle.lines.specs.Agree.{giving, refusing}
use Rattle.accepting.proofs.Judging.{broken-35, broken-36, broken-37, broken-38, broken-39, none-broken}
use Rattle.accepting.proofs.judge.Goals as goal

pub returns-in-Some : goal.returns-in-Some
returns-in-Some c = (refl, λ N R h u. refusing 35 _ (broken-35 N R (c.in-Some.ensures _ N R refl refl h)) refl)

pub returns-in-Some-wrong_arcs : goal.returns-in-Some-wrong_arcs
returns-in-Some-wrong_arcs c = (refl, λ N R h u. refusing 36 _ (broken-36 N R (c.in_default.ensures _ N R refl refl h) (c.in-Some-wrong_arcs.ensures _ N R refl refl refl h)) refl)

pub returns-in-Some-wrong_marks : goal.returns-in-Some-wrong_marks
returns-in-Some-wrong_marks c =
    (refl, λ N R h u. refusing 37 _ (broken-37 N R (c.in_default.ensures _ N R refl refl h) (c.in_default-wrong_arcs.ensures _ N R refl refl refl h) (c.in-Some-wrong_marks.ensures _ N R refl refl refl refl h u)) refl)

pub returns-in-Some-wrong_kind : goal.returns-in-Some-wrong_kind
returns-in-Some-wrong_kind c =
    (refl, λ N R h u. refusing 38 _ (broken-38 N R (c.in_default.ensures _ N R refl refl h) (c.in_default-wrong_arcs.ensures _ N R refl refl refl h) (c.in_default-wrong_marks.ensures _ N R refl refl refl refl h u) (c.in-Some-wrong_kind.ensures _ N R h u)) refl)

pub returns-in-Some-order : goal.returns-in-Some-order
returns-in-Some-order c =
    let o = c.in-Some-order.ensures in
    (o.0, λ N R h u. refusing 39 _ (broken-39 N R (c.in_default.ensures _ N R refl refl h) (c.in_default-wrong_arcs.ensures _ N R refl refl refl h) (c.in_default-wrong_marks.ensures _ N R refl refl refl refl h u) (c.in_default-wrong_kind.ensures _ N R h u) (o.1 _ N R h u).lowest) refl)

pub returns : goal.returns
returns c =
    let o = c.in_default-order.ensures in
    (o.0, λ N R h u. giving tt (none-broken N R (c.in_default.ensures _ N R refl refl h) (c.in_default-wrong_arcs.ensures _ N R refl refl refl h) (c.in_default-wrong_marks.ensures _ N R refl refl refl refl h u) (c.in_default-wrong_kind.ensures _ N R h u) (o.1 _ N R h u).lowest) refl (o.1 _ N R h u).order)
