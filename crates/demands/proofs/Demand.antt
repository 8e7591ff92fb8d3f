-- The third demand of calls, from the third demand of the definitions: of an accepted record each call's answer is
-- given, so that its numbers are the answer's values and its buffer starts with what the answer writes (`Given`).
use mathlib.Core.Path.{◌≡◌, refl, sym, ap, ◌∙◌}
use Prim.Native.Nat.{ℕ, ◌+◌, ◌-◌, ◌*◌, ◌≤◌, ◌<◌}
use native.Mathlib.Nat.{le_of_eq, le_trans}
use native.Mathlib.Omega.{arith}
use mathlib.Core.List.{List}
use lib.ListN.{length, get_or, take, drop, length-append}
use Rattle.spec.specs.Answer.{Answer, gives, refuses, returned}
use Rattle.spec.specs.Text.{lines_of}
use Rattle.spec.specs.Net.{Net, read_net}
use Rattle.spec.specs.Record.{RunRecord, bench}
use Rattle.spec.specs.Building.{build}
use Rattle.spec.specs.Checking.{read_record}
use Rattle.spec.specs.Arranging.{arrangement_bytes}
use Rattle.spec.specs.Buffer.{over, leaves, build_leaves, check_leaves, replay_leaves, arrange_leaves}
use Rattle.spec.specs.Demand.{OrderOfRuns}
use Rattle.spec.specs.Runs.{KeepsOrder, log_bytes}
use Rattle.runs.specs.Endings.{build-by-lines, replay-by-lines}
use Rattle.runs.specs.Written.{log-lines-are, arrangement-lines-are}
use Rattle.runs.specs.Demand.{demand}
use Rattle.runs.specs.Accepted.{accepted-record}
use Rattle.runs.specs.Sizes.{lines-few}
use Rattle.spec.specs.Values.{as_numbers, net_values, byte_values, check_values, replay_values, arrange_values, net_returns}
use Rattle.spec.specs.declared.Numbers.{Numbers}
use Rattle.pti.specs.Calls.{BuildCall, CheckCall, ReplayCall, ArrangeCall}
use Rattle.demands.specs.Demand.{Arranged, Replayed, Checked, NetCounted, Buffers, OrderPromised, RunPromised}
use Rattle.demands.specs.declared.Calls.{Calls}
use Rattle.demands.specs.declared.RunCalls.{RunCalls}
use Rattle.demands.proofs.Given.{numbers-given, left-given, start_is, entry-is}

-- ---- the sizes of an accepted record and its arrangements

events-few : (N : Net) (text : List ℕ) (R : RunRecord) → read_record bench N text ≡ gives R → length R.events ≤ 128
unfolding bench
events-few N text R h = (accepted-record bench N text R h).0.fits.events

lines-most : (N : Net) (text : List ℕ) (R : RunRecord) → read_record bench N text ≡ gives R → (lines : List (List ℕ)) → KeepsOrder R lines → length lines ≤ 128
lines-most N text R h lines K = le_trans (lines-few (length R.events) lines K.each-once) (events-few N text R h)

-- ---- of an accepted record

module _ (net : List ℕ) (N : Net) (h_n : read_net net ≡ gives N) (text : List ℕ) (R : RunRecord) (h_r : read_record bench N text ≡ gives R) where
  O : OrderOfRuns net text N R
  O = demand.order-of-runs net N h_n text R h_r

  arranges : {old new : List ℕ} {r : Numbers} → 768 ≤ length old → ArrangeCall net text old r new → Arranged R r new
  unfolding arrange_leaves
  arranges {old} h c =
      let g = O.arranging.writes (length old) h in
      let q = numbers-given arrange_values (λ a. a.bytes) g c.answer in
      let b : _ = ap (λ (z : Numbers). z.b) q in
      record {
        accepted = ap (λ (z : Numbers). z.number) q;
        lines = O.arranging.written;
        written = start_is (arrangement_bytes O.arranging.written) old (left-given arrange_values (λ a. a.bytes) g old c.buffer) (ap (λ (z : Numbers). z.a) q);
        count = b;
        keeps = O.arranging.keeps;
        shortest = λ others K. le_trans (le_of_eq b) (O.arranging.shortest others K);
      }

  checks : {old new : List ℕ} {r : Numbers} → 16384 ≤ length old → CheckCall net text old r new → Checked R r new
  unfolding check_leaves
  checks {old} {new} h c =
      let T = O.table in
      let g = T.checks (length old) h in
      let q = numbers-given check_values (λ x. x.table) g c.answer in
      let few = events-few N text R h_r in
      let at : (e f : ℕ) → e < length R.events → f < length R.events → get_or new (128 * e + f) 0 ≡ get_or T.answer.table (128 * e + f) 0 =
      λ e f l m. entry-is T.answer.table old (128 * e + f) (left-given check_values (λ x. x.table) g old c.buffer) (omega (arith, T.full, few)) in
      record {
        accepted = ap (λ (z : Numbers). z.number) q;
        strict = λ e f t. (
          λ x. (O.order.strict e f t).0 ((T.strict e f t).0 (sym (at e f t.one t.other) ∙ x)),
          λ k. at e f t.one t.other ∙ (T.strict e f t).1 ((O.order.strict e f t).1 k),
        );
        weak = λ e f t. (
          λ x. (O.order.weak e f t).0 ((T.weak e f t).0 (rw (at e f t.one t.other) at x)),
          λ k. rw (at e f t.one t.other) ((T.weak e f t).1 ((O.order.weak e f t).1 k)),
        );
      }

  replays : (lines : List (List ℕ)) → KeepsOrder R lines → {old new : List ℕ} {r : Numbers} → 4128 ≤ length old → ReplayCall net text (arrangement_bytes lines) old r new → Replayed N R lines r new
  unfolding replay_leaves
  replays lines K {old} h c =
      let P = O.kept.replays lines K in
      let g = P.plays (length old) h in
      let q = numbers-given replay_values (λ x. x.counts) g c.answer in
      record {
        accepted = ap (λ (z : Numbers). z.number) q;
        played = ap (λ (z : Numbers). z.a) q;
        rows = λ k p l m. entry-is P.counts old (32 * k + p) (left-given replay_values (λ x. x.counts) g old c.buffer) (omega (arith, P.full, lines-most N text R h_r lines K)) ∙ P.rows k p l m;
      }

-- ---- the calls that were made

-- replay goes by the lines of the arrangement
replayed-by-lines : (net text a b : List ℕ) → lines_of a ≡ lines_of b → {old new : List ℕ} {r : Numbers} → ReplayCall net text a old r new → ReplayCall net text b old r new
replayed-by-lines net text a b e {old} c =
    let same = replay-by-lines net net text text refl refl (length old) a b e in
    record { answer = c.answer ∙ ap (λ x. as_numbers (returned replay_values x)) same; buffer = c.buffer ∙ ap (λ x. replay_leaves x old) same }

-- an accepted net is counted
net-counted : (net : List ℕ) {N : Net} {r : Numbers} → read_net net ≡ gives N → r ≡ net_returns net → NetCounted N r
net-counted net {N} {r} h e =
    let q : r ≡ as_numbers (gives (net_values N)) = unfold returned in (e ∙ ap (λ a. as_numbers (returned net_values a)) h) in
    record { accepted = ap (λ (z : Numbers). z.number) q; places = ap (λ (z : Numbers). z.a) q; transitions = ap (λ (z : Numbers). z.b) q }

module _ (net text arrangement : List ℕ) {old new : Buffers} (r : Calls) where
  pub order-promised : r.net ≡ net_returns net → CheckCall net text old.table r.check new.table → ArrangeCall net text old.out r.arrange new.out
      → ReplayCall net text arrangement old.rows r.replay new.rows → OrderPromised net text arrangement old r new
  order-promised e c a p N R h_n h_r S = record {
    net = net-counted net h_n e;
    checks = checks net N h_n text R h_r S.table c;
    arranges = arranges net N h_n text R h_r S.out a;
    enabled = (demand.order-of-runs net N h_n text R h_r).kept.enabled;
    replays = λ lines K q. replays net N h_n text R h_r lines K S.rows (replayed-by-lines net text arrangement (arrangement_bytes lines) (arrangement-lines-are arrangement lines q) p);
    one_end = (demand.order-of-runs net N h_n text R h_r).kept.one_end;
  }

-- ---- building

-- what building wrote stands within its buffer, also where it is refused and wrote nothing
pub build-within : (net log old : List ℕ) {r : Numbers} {new : List ℕ} → BuildCall net log old r new → r.a ≤ length new
unfolding build_leaves leaves over returned
build-within net log old {r} {new} c = go (build net log (length old)) c.answer c.buffer
  where
    go : (x : Answer (List ℕ)) → r ≡ as_numbers (returned byte_values x) → new ≡ build_leaves x old → r.a ≤ length new
    go (gives bytes) e b = omega (arith, ap (λ (z : Numbers). z.a) e, ap length b, length-append bytes (drop (length bytes) old))
    go (refuses n s) e b = omega (arith, ap (λ (z : Numbers). z.a) e)

-- building goes by the lines of the log
built-by-lines : (net a b : List ℕ) → lines_of a ≡ lines_of b → {old new : List ℕ} {r : Numbers} → BuildCall net a old r new → BuildCall net b old r new
built-by-lines net a b e {old} c =
    let same = build-by-lines net net a b refl e (length old) in
    record { answer = c.answer ∙ ap (λ x. as_numbers (returned byte_values x)) same; buffer = c.buffer ∙ ap (λ x. build_leaves x old) same }

-- the code takes a part from 0 on
whole : (n : ℕ) → n - 0 ≡ n
whole n = omega arith

module _ (net log arrangement room : List ℕ) {written : List ℕ} {old new : Buffers} (r : RunCalls) where
  pub run-promised : BuildCall net log room r.build written → OrderPromised net (take (r.build.a - 0) written) arrangement old r.calls new
      → RunPromised net log arrangement room old r written new
  unfolding build_leaves
  run-promised c O N steps h_n e E F h S =
      let B = demand.runs-recorded net N h_n steps E F in
      let g = B.builds (length room) h in
      let d = built-by-lines net log (log_bytes steps) (log-lines-are log steps e) c in
      let q = numbers-given byte_values (λ x. x) g d.answer in
      let reads = ap (read_record bench N) (start_is B.bytes room (left-given byte_values (λ x. x) g room d.buffer) (ap (λ (z : Numbers). z.a) q)) ∙ B.accepts in
      record {
        accepted = ap (λ (z : Numbers). z.number) q;
        run = B.run;
        reads = reads;
        among = B.among;
        steps_back = B.reads;
        calls = O N B.run h_n (ap (λ (k : ℕ). read_record bench N (take k written)) (whole r.build.a) ∙ reads) S;
      }
