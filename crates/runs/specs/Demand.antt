-- The third demand, proved: the order that an accepted record carries is the order of its runs.
use Rattle.std.specs.Prelude.{◌≡◌, ◌⊎◌, ◌≢◌, ◌↔◌, ℕ, ◌+◌, ◌*◌, ◌≤◌, ◌<◌, Bool, cond, leb}
use Rattle.std.proofs.Math.Path.{refl}
use Rattle.std.proofs.Common.{sym, ◌∙◌, inl, inr, le_trans, arith}
use Rattle.std.proofs.Math.Bool.{true, false}
use mathlib.Core.List.{List, map}
use lib.ListN.{length, get_or, length-map, length-replicate}
use borrow.Author.Tests.{lt-ltb, le-leb}
use Rattle.spec.specs.Text.{lines_of}
use Rattle.spec.specs.Lists.{up_to}
use Rattle.spec.specs.Answer.{gives}
use Rattle.spec.specs.Net.{Net, read_net}
use Rattle.spec.specs.Step.{tokens_at}
use Rattle.spec.specs.Record.{RunRecord, bench, record_bytes}
use Rattle.spec.specs.Order.{is_strictly_before, is_not_later}
use Rattle.spec.specs.Process.{Process, WellFormed}
use Rattle.spec.specs.Building.{record_for}
use Rattle.spec.specs.Checking.{read_record, related, table_at, table_bytes, checked_of, check}
use Rattle.spec.specs.Arranging.{levels, arranged_lines, arrangement_bytes, arranged_of, arrange}
use Rattle.spec.specs.Replaying.{row_at, replay_row, fired_by, replayed_of, replay}
use Rattle.spec.specs.Runs.{EnabledSequence, KeepsOrder, WithinLimits, marking_at, as_steps}
use Rattle.spec.specs.Exactness.{IsProcess}
use Rattle.spec.specs.Demand.{ReplaysMarkings, TableSays, OrderOfRuns, RunIsRecorded, Demand}
use Rattle.lists.specs.Laws
use Rattle.lists.specs.Rows.{length-rows}
use Rattle.runs.specs.Play.{enabled-steps, row_is, one_end}
use Rattle.runs.specs.Levels.{arranged-keeps, arranged-count, arranged-least, strict-exact, weak-exact}
use Rattle.runs.specs.Closure.{strict-is, weak-is}
use Rattle.runs.specs.Sizes.{lines-few}
use Rattle.runs.specs.Log.{built-well-formed, built-process, built-keeps, built-reads}
use Rattle.runs.specs.Accepted.{record-accepted}
use Rattle.runs.specs.NetLimits.{net-limits}
use Rattle.runs.specs.Exactness.{exactness, printed, within-fits}
use Rattle.runs.specs.Operations.{operations}
use Rattle.runs.specs.Endings.{check-by-lines, arrange-by-lines, replay-by-lines}
use Rattle.runs.specs.Written.{record-lines-are}

-- ---- of an accepted record

-- entries 0, 1 and 2 of the table
related-strict : (b c : Bool) → ◌≡◌ {A = ℕ} (cond b 2 (cond c 1 0)) 2 ↔ (b ≡ true)
related-strict true c = (λ h. refl, λ h. refl)
related-strict false true = (λ h. absurd (omega arith), λ h. Laws.clash h refl)
related-strict false false = (λ h. absurd (omega arith), λ h. Laws.clash h refl)

related-weak : (b c : Bool) → (b ≡ true → c ≡ true) → (◌≡◌ {A = ℕ} (cond b 2 (cond c 1 0)) 1 ⊎ ◌≡◌ {A = ℕ} (cond b 2 (cond c 1 0)) 2) ↔ (c ≡ true)
related-weak true c h = (λ s. h refl, λ q. inr refl)
related-weak false true h = (λ s. refl, λ q. inl refl)
related-weak false false h = (λ s. absurd (none s), λ q. Laws.clash q refl)
  where
    none : ◌≡◌ {A = ℕ} 0 1 ⊎ ◌≡◌ {A = ℕ} 0 2 → ⊥
    none (inl e) = omega arith
    none (inr e) = omega arith

module _ (net : List ℕ) (N : Net) (h_n : read_net net ≡ gives N) (text : List ℕ) (R : RunRecord) (h_r : read_record bench N text ≡ gives R) where
  -- the text has the lines of the record that is written
  lines_are : lines_of text ≡ lines_of (record_bytes R)
  lines_are = record-lines-are text R ((exactness.checks net N h_n text R).0 h_r).0

  I : IsProcess N R
  I = ((exactness.checks net N h_n text R).0 h_r).1

  W : WellFormed N R
  W = I.well_formed

  P : Process N R
  P = I.process

  writes : (room : ℕ) → 768 ≤ room → arrange net text room ≡ gives (record { lines = length (arranged_lines (levels R)); bytes = arrangement_bytes (arranged_lines (levels R)) })
  unfolding arranged_of
  writes room h = arrange-by-lines net net text (record_bytes R) refl lines_are room ∙ rw (arranged-count R) ((operations.arranges net N h_n R room h (arranged_of R)).1 (I, refl))

  -- ---- replay

  row-length : (lines : List (List ℕ)) (k : ℕ) → length (replay_row N R lines k) ≡ 32
  unfolding replay_row
  row-length lines k = go (leb k (length lines))
    where
      go : (b : Bool) → length (cond b (map (row_at N (fired_by R lines k)) (up_to 32)) (lib.ListN.replicate 32 0)) ≡ 32
      go true = length-map (up_to 32) (row_at N (fired_by R lines k)) ∙ Laws.length-up_to 32
      go false = length-replicate {A = ℕ} 32 0

  module _ (lines : List (List ℕ)) (K : KeepsOrder R lines) where
    plays : (room : ℕ) → 4128 ≤ room → replay net text (arrangement_bytes lines) room ≡ gives (replayed_of N R lines)
    plays room h = replay-by-lines net net text (record_bytes R) refl lines_are room (arrangement_bytes lines) (arrangement_bytes lines) refl ∙ ((operations.replays net N h_n R lines room h (replayed_of N R lines)).1 (I, K, refl))

    row_count : (k p : ℕ) → k ≤ length lines → p < 32 → get_or (replay_row N R lines k) p 0 ≡ tokens_at (marking_at N (as_steps R lines) k) p
    unfolding replay_row
    row_count k p l h = rw (le-leb k (length lines) l) (Laws.get_or-table (row_at N (fired_by R lines k)) 32 p 0 h ∙ row_is N R W P lines K k p l)

    few : length lines ≤ 128
    few = le_trans (lines-few (length R.events) lines K.each-once) I.events

    replays : ReplaysMarkings net text N R lines
    unfolding replayed_of
    replays = record {
      counts = (replayed_of N R lines).counts;
      plays = plays;
      full = length-rows 32 (replay_row N R lines) (row-length lines) 129;
      rows = λ k p l h. Laws.get_or-table-rows 32 129 (replay_row N R lines) (row-length lines) k p 0 (omega (arith, few)) h ∙ row_count k p l h;
    }

  -- ---- the check's table

  pub check-given : (room : ℕ) → 16384 ≤ room → check net text room ≡ gives (checked_of R)
  check-given room h = check-by-lines net net text (record_bytes R) refl lines_are room ∙ ((operations.checks net N h_n R room h (checked_of R)).1 (I, refl))

  entry-is : (e f : ℕ) → e < length R.events → f < length R.events → get_or (checked_of R).table (128 * e + f) 0 ≡ related R e f
  unfolding checked_of table_bytes table_at
  entry-is e f l m =
      Laws.get_or-table-rows 128 128 (λ e. map (table_at R e) (up_to 128)) (λ k. length-map (up_to 128) (table_at R k) ∙ Laws.length-up_to 128) e f 0 (omega (arith, I.events)) (omega (arith, I.events))
      ∙ Laws.get_or-table (table_at R e) 128 f 0 (omega (arith, I.events))
      ∙ rw (lt-ltb e (length R.events) l, lt-ltb f (length R.events) m)

  strict-weak : (e f : ℕ) → e ≢ f → is_strictly_before R e f ≡ true → is_not_later R e f ≡ true
  strict-weak e f d h = (weak-is N R W e f).1 (d, (true, (strict-is N R W e f).0 h))

  tables : TableSays net text R
  unfolding related checked_of table_bytes
  tables = record {
    answer = checked_of R;
    checks = check-given;
    full = length-rows 128 (λ e. map (table_at R e) (up_to 128)) (λ k. length-map (up_to 128) (table_at R k) ∙ Laws.length-up_to 128) 128;
    strict = λ e f t. (
      λ h. (strict-is N R W e f).0 ((related-strict (is_strictly_before R e f) (is_not_later R e f)).0 (sym (entry-is e f t.one t.other) ∙ h)),
      λ p. entry-is e f t.one t.other ∙ (related-strict (is_strictly_before R e f) (is_not_later R e f)).1 ((strict-is N R W e f).1 p),
    );
    weak = λ e f t. (
      λ h. (weak-is N R W e f).0 ((related-weak (is_strictly_before R e f) (is_not_later R e f) (strict-weak e f t.differ)).0 (rw (entry-is e f t.one t.other) at h)),
      λ p. rw (entry-is e f t.one t.other) ((related-weak (is_strictly_before R e f) (is_not_later R e f) (strict-weak e f t.differ)).1 ((weak-is N R W e f).1 p)),
    );
  }

  order-of-runs : OrderOfRuns net text N R
  order-of-runs = record {
    arranging = record { written = arranged_lines (levels R); writes = writes; keeps = arranged-keeps N R W P; shortest = arranged-least N R W P };
    kept = record {
      enabled = enabled-steps N R W P;
      replays = replays;
      one_end = λ lines others K M. one_end N R W P lines others K M;
    };
    order = record {
      strict = λ e f t. strict-exact N R W P e f t.one t.other;
      weak = λ e f t. weak-exact N R W P e f t.one t.other t.differ;
    };
    table = tables;
  }

-- ---- of an enabled step sequence within the limits

module _ (net : List ℕ) (N : Net) (h_n : read_net net ≡ gives N) (steps : List (List ℕ)) (E : EnabledSequence N steps) (F : WithinLimits N steps) where
  runs-recorded : RunIsRecorded net N steps
  runs-recorded = record {
    bytes = record_bytes (record_for N steps);
    builds = λ room h. (operations.builds net N h_n steps room h (record_bytes (record_for N steps))).1 (E, F, refl);
    run = record_for N steps;
    accepts = record-accepted bench N (printed N (net-limits net N h_n)) (record_for N steps) (built-well-formed N steps E) ((within-fits N steps).0 F) (built-process N steps E);
    among = built-keeps N steps E;
    reads = built-reads N steps;
  }

pub demand : Demand
demand = record { order-of-runs = order-of-runs; runs-recorded = runs-recorded }
