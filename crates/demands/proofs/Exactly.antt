-- Exactness of calls, from the exactness of the operations: a call's number is 0 exactly where its operation gives
-- something.
use mathlib.Core.Path.{◌≡◌, refl, sym, ◌∙◌, subst}
use Prim.Native.Nat.{ℕ}
use mathlib.Core.List.{List, []}
use lib.ListN.{length}
use Rattle.spec.specs.Net.{read_net}
use Rattle.spec.specs.NetText.{net_bytes, declared, Complete}
use Rattle.spec.specs.Record.{record_bytes}
use Rattle.spec.specs.Building.{record_for, build}
use Rattle.spec.specs.Checking.{checked_of, check}
use Rattle.spec.specs.Arranging.{arranged_of, arrange, arrangement_bytes}
use Rattle.spec.specs.Replaying.{replayed_of, replay}
use Rattle.spec.specs.Runs.{log_bytes}
use Rattle.spec.specs.Buffer.{build_leaves, check_leaves, replay_leaves, arrange_leaves}
use Rattle.spec.specs.Values.{net_values, byte_values, check_values, replay_values, arrange_values, net_returns}
use Rattle.spec.specs.Exactness.{EachAllowed}
use Rattle.spec.specs.declared.Numbers.{Numbers}
use Rattle.runs.specs.Endings.{net-by-lines, build-by-lines, check-by-lines, arrange-by-lines, replay-by-lines}
use Rattle.runs.specs.Written.{net-lines-are, log-lines-are, record-lines-are, arrangement-lines-are}
use Rattle.runs.specs.Operations.{operations, nothing-else}
use Rattle.runs.specs.Spots.{refusals}
use Rattle.pti.specs.Calls.{BuildCall, CheckCall, ReplayCall, ArrangeCall}
use Rattle.demands.specs.Exactly.{ReadsExactly, BuildsExactly, ChecksExactly, ArrangesExactly, ReplaysExactly}
use Rattle.demands.proofs.Given.{zero-given, exactly}

pub reads-exactly : (net : List ℕ) {r : Numbers} → r ≡ net_returns net → ReadsExactly net r
reads-exactly net {r} e ds q =
    let F = refusals.net net in
    let same = net-by-lines net (net_bytes ds) (net-lines-are net ds q) in
    let E = exactly net_values (read_net net) F e (λ n. []) (declared ds) {old = []} refl
    (λ (p : EachAllowed ds × Complete (declared ds)). same ∙ (operations.reads ds (declared ds)).1 (p.0, p.1, refl))
    (λ N g. let z = (operations.reads ds N).0 (sym same ∙ g) in (z.0, subst Complete z.2 z.1)) in
    (E.accepted, E.returns)

module _ (net log old : List ℕ) {r : Numbers} {new : List ℕ} (c : BuildCall net log old r new) where
  pub builds-exactly : BuildsExactly net log old r new
  unfolding build_leaves
  builds-exactly = record {
    builds = λ N steps h_n q room.
        let X = build net log (length old) in
        let O = operations.builds net N h_n steps (length old) room in
        let same = build-by-lines net net log (log_bytes steps) refl (log-lines-are log steps q) (length old) in
        exactly byte_values X (refusals.build net log (length old)) c.answer (λ b. b) (record_bytes (record_for N steps)) c.buffer
        (λ p. same ∙ (O (record_bytes (record_for N steps))).1 (p.0, p.1, refl))
        (λ b g. let z = (O b).0 (sym same ∙ g) in (z.0, z.1));
    nothing-else = λ z. let w = zero-given byte_values (build net log (length old)) (refusals.build net log (length old)) c.answer z in nothing-else.builds net log (length old) w.0 w.1;
  }

module _ (net text old : List ℕ) {r : Numbers} {new : List ℕ} where
  pub checks-exactly : CheckCall net text old r new → ChecksExactly net text old r new
  unfolding check_leaves
  checks-exactly c = record {
    checks = λ N R h_n q room.
        let O = operations.checks net N h_n R (length old) room in
        let same = check-by-lines net net text (record_bytes R) refl (record-lines-are text R q) (length old) in
        exactly check_values (check net text (length old)) (refusals.check net text (length old)) c.answer (λ k. k.table) (checked_of R) c.buffer
        (λ p. same ∙ (O (checked_of R)).1 (p, refl))
        (λ k g. ((O k).0 (sym same ∙ g)).0);
    nothing-else = λ z. let w = zero-given check_values (check net text (length old)) (refusals.check net text (length old)) c.answer z in nothing-else.checks net text (length old) w.0 w.1;
  }

  pub arranges-exactly : ArrangeCall net text old r new → ArrangesExactly net text old r new
  unfolding arrange_leaves
  arranges-exactly c = record {
    arranges = λ N R h_n q room.
        let O = operations.arranges net N h_n R (length old) room in
        let same = arrange-by-lines net net text (record_bytes R) refl (record-lines-are text R q) (length old) in
        exactly arrange_values (arrange net text (length old)) (refusals.arrange net text (length old)) c.answer (λ a. a.bytes) (arranged_of R) c.buffer
        (λ p. same ∙ (O (arranged_of R)).1 (p, refl))
        (λ a g. ((O a).0 (sym same ∙ g)).0);
    nothing-else = λ z. let w = zero-given arrange_values (arrange net text (length old)) (refusals.arrange net text (length old)) c.answer z in nothing-else.arranges net text (length old) w.0 w.1;
  }

  pub replays-exactly : (arrangement : List ℕ) → ReplayCall net text arrangement old r new → ReplaysExactly net text arrangement old r new
  unfolding replay_leaves
  replays-exactly arrangement c = record {
    replays = λ N R lines h_n q s room.
        let O = operations.replays net N h_n R lines (length old) room in
        let same = replay-by-lines net net text (record_bytes R) refl (record-lines-are text R q) (length old) arrangement (arrangement_bytes lines) (arrangement-lines-are arrangement lines s) in
        exactly replay_values (replay net text arrangement (length old)) (refusals.replay net text arrangement (length old)) c.answer (λ x. x.counts) (replayed_of N R lines) c.buffer
        (λ p. same ∙ (O (replayed_of N R lines)).1 (p.0, p.1, refl))
        (λ x g. let z = (O x).0 (sym same ∙ g) in (z.0, z.1));
    nothing-else = λ z. let w = zero-given replay_values (replay net text arrangement (length old)) (refusals.replay net text arrangement (length old)) c.answer z in nothing-else.replays net text arrangement (length old) w.0 w.1;
  }
