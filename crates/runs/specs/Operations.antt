-- The operations are exact: what an accepted text was written from is read from it, so that each accepts the text of a given
-- thing exactly when document 01 does, and gives what it names.
use Rattle.std.specs.Prelude.{◌≡◌, refl, ◌↔◌, ℕ, ◌≤◌, true, List, [], length, ltb}
use Rattle.std.proofs.Common.{sym, ◌∙◌, inr, le_trans, arith, lt-ltb, le-ltb, ltb-true, ltb-false}
use Rattle.std.proofs.Math.Path.{ap}
use Rattle.std.proofs.Math.Option.{Option, none, some}
use Rattle.spec.specs.Answer.{Answer, gives, ◌>>=◌, ◌>>◌, refuse◌at◌when◌}
use Rattle.spec.specs.Net.{Net, read_net}
use Rattle.spec.specs.NetText.{Declaration, net_bytes, declared, Complete}
use Rattle.spec.specs.Record.{RunRecord, bench, record_bytes}
use Rattle.spec.specs.Process.{is_below}
use Rattle.spec.specs.Building.{record_for, build}
use Rattle.spec.specs.Checking.{Accepted, Checked, read_record, accepts, checked_of, check_within, check}
use Rattle.spec.specs.Arranging.{Arranged, arrangement_bytes, arranged_of, arrange}
use Rattle.spec.specs.Replaying.{Replayed, read_arrangement, replayed_of, replay}
use Rattle.spec.specs.Runs.{EnabledSequence, KeepsOrder, WithinLimits, log_bytes}
use Rattle.spec.specs.Exactness.{EachAllowed, IsProcess, LinesBelow, RecordBelow, IsAccepted, IsTextOf, Operations, NothingElse}
use Rattle.spec.specs.Endings.{plain_ends}
use Rattle.lists.specs.Laws.{in-flat, in-at}
use Rattle.runs.specs.Answers.{of-gives, of-bind, of-when}
use Rattle.runs.specs.NetLimits.{NetLimits, sound-small, net-limits}
use Rattle.runs.specs.Sizes.{arranged-below}
use Rattle.runs.specs.Injective.{logs-same, arrangements-same, nets-same, records-same}
use Rattle.runs.specs.Exactness.{exactness}
use Rattle.runs.specs.Written.{plain-net, plain-log, plain-record, plain-arrangement}

-- ---- the numbers of what is accepted have at most three digits

below_more : (n m : ℕ) (o : Option ℕ) → n ≤ m → is_below n o ≡ true → is_below m o ≡ true
unfolding is_below
below_more n m none l h = refl
below_more n m (some e) l h = lt-ltb e m (le_trans (ltb-true e n h) l)

process-below : (N : Net) (R : RunRecord) → NetLimits N → IsProcess N R → RecordBelow 1000 R
process-below N R L I =
    let W = I.well_formed in
    let few : length R.events ≤ 1000 = omega (arith, I.events) in
    record {
      transitions = λ t m. omega (arith, W.known t m, L.transitions);
      places = λ c m. omega (arith, W.placed c m, L.places);
      producers = λ c m. below_more (length R.events) 1000 c.producer few (W.producers c m);
      consumers = λ c m. below_more (length R.events) 1000 c.consumer few (W.consumers c m);
      conditions = λ m i. omega (arith, W.conditions m i, I.conditions);
      events = λ m i. omega (arith, W.events m i, I.events);
    }

steps-below : (N : Net) (steps : List (List ℕ)) → NetLimits N → EnabledSequence N steps → LinesBelow 1000 steps
steps-below N steps L E t m =
    let z = in-flat steps m in
    let k = in-at [] z.0 steps z.1 in
    omega (arith, E.known k.0 t k.1 (rw k.2 z.2), L.transitions)

-- ---- nets and logs

reads : (ds : List Declaration) (N : Net) → (read_net (net_bytes ds) ≡ gives N) ↔ (EachAllowed ds × Complete N × (N ≡ declared ds))
reads ds N = (
  λ h.
      let I = (exactness.reads (net_bytes ds) N).0 h in
      let e : ds ≡ I.lines = nets-same ds I.lines (inr (sound-small I.lines I.sound)) (sym (plain-net ds) ∙ I.written) in
      rw e (I.sound, I.complete, I.named),
  λ z. (exactness.reads (net_bytes ds) N).1 (record { lines = ds; written = plain-net ds; sound = z.0; complete = z.1; named = z.2 }),
)

module _ (net : List ℕ) (N : Net) (accepted : read_net net ≡ gives N) where
  builds : (steps : List (List ℕ)) (room : ℕ) → 48256 ≤ room → (bytes : List ℕ)
      → (build net (log_bytes steps) room ≡ gives bytes) ↔ (EnabledSequence N steps × WithinLimits N steps × (bytes ≡ record_bytes (record_for N steps)))
  builds steps room l bytes =
      let E = exactness.builds net N accepted (log_bytes steps) bytes room l in (
        λ h.
            let B = E.0 h in
            let e : steps ≡ B.steps = logs-same steps B.steps (inr (steps-below N B.steps (net-limits net N accepted) B.enabled)) (sym (plain-log steps) ∙ B.written) in
            rw e (B.enabled, B.within, B.named),
        λ z. E.1 (record { steps = steps; written = plain-log steps; enabled = z.0; within = z.1; named = z.2 }),
      )

-- ---- what check, arrange and replay share: a buffer of `size` or more, an accepted net, a record of its own

module _ {A : Type 0} (n size : ℕ) (next : Accepted → Answer A) where
  unfoldable after : List ℕ → List ℕ → ℕ → Answer A
  after net text room = refuse n at 0 when ltb room size >> (accepts bench net text >>= next)

  of-after : (net text : List ℕ) (room : ℕ) (x : A) → after net text room ≡ gives x
      → (size ≤ room) × (a : Accepted) × (read_net net ≡ gives a.net) × (read_record bench a.net text ≡ gives a.run) × (next a ≡ gives x)
  unfolding after accepts
  of-after net text room x h =
      let a = of-when n 0 (ltb room size) _ h in
      let b = of-bind (accepts bench net text) next a.1 in
      let c = of-bind (read_net net) _ b.1 in
      let d = of-bind (read_record bench c.0 text) _ c.2 in
      (ltb-false room size a.0, record { net = c.0; run = d.0 }, c.1, d.1, ap next (of-gives d.2) ∙ b.2)

  module _ (net : List ℕ) (N : Net) (accepted : read_net net ≡ gives N) (R : RunRecord) where
    of-given : (room : ℕ) → size ≤ room → (x : A) → (after net (record_bytes R) room ≡ gives x) ↔ (IsProcess N R × (next (record { net = N; run = R }) ≡ gives x))
    unfolding after accepts ◌>>=◌ ◌>>◌ refuse◌at◌when◌
    of-given room l x = (
      λ h.
          let z = of-after net (record_bytes R) room x h in
          let e : z.1.net ≡ N = of-gives (sym z.2 ∙ accepted) in
          let y = (exactness.checks net N accepted (record_bytes R) z.1.run).0 (rw e at z.3) in
          let q : R ≡ z.1.run = records-same R z.1.run (inr (process-below N z.1.run (net-limits net N accepted) y.1)) (sym (plain-record R) ∙ y.0) in
          (rw q y.1, rw (q, ← e) z.4),
      λ I. rw (le-ltb room size l, accepted, (exactness.checks net N accepted (record_bytes R) R).1 (plain-record R, I.0)) I.1,
    )

-- an operation that gives a value for each accepted record
module _ {A : Type 0} (n size : ℕ) (f : RunRecord → A) where
  of-record : (net : List ℕ) (N : Net) → read_net net ≡ gives N → (R : RunRecord) (room : ℕ) → size ≤ room → (x : A)
      → (after n size (λ a. gives (f a.run)) net (record_bytes R) room ≡ gives x) ↔ (IsProcess N R × (x ≡ f R))
  of-record net N accepted R room l x =
      let z = of-given n size (λ a. gives (f a.run)) net N accepted R room l x in
      (λ h. let y = z.0 h in (y.0, sym (of-gives y.1)), λ y. z.1 (y.0, ap gives (sym y.1)))

  only-record : (net text : List ℕ) (room : ℕ) (x : A) → after n size (λ a. gives (f a.run)) net text room ≡ gives x → (size ≤ room) × IsAccepted net × IsTextOf record_bytes (plain_ends text)
  only-record net text room x h =
      let z = of-after n size (λ a. gives (f a.run)) net text room x h in
      (z.0, (z.1.net, z.2), (z.1.run, ((exactness.checks net z.1.net z.2 text z.1.run).0 z.3).0))

checks : (net : List ℕ) (N : Net) → read_net net ≡ gives N → (R : RunRecord) (room : ℕ) → 16384 ≤ room → (c : Checked) → (check net (record_bytes R) room ≡ gives c) ↔ (IsProcess N R × (c ≡ checked_of R))
unfolding check check_within after
checks = of-record 30 16384 checked_of

arranges : (net : List ℕ) (N : Net) → read_net net ≡ gives N → (R : RunRecord) (room : ℕ) → 768 ≤ room → (a : Arranged) → (arrange net (record_bytes R) room ≡ gives a) ↔ (IsProcess N R × (a ≡ arranged_of R))
unfolding arrange after
arranges = of-record 50 768 arranged_of

-- ---- replay

-- the text of given lines, once net and record are accepted
lines-given : (net : List ℕ) (N : Net) → read_net net ≡ gives N → (R : RunRecord) → IsProcess N R → (lines gs : List (List ℕ))
    → (read_arrangement R (arrangement_bytes lines) ≡ gives gs) ↔ (KeepsOrder R lines × (gs ≡ lines))
lines-given net N accepted R I lines gs =
    let E = exactness.replays net N accepted (record_bytes R) R ((exactness.checks net N accepted (record_bytes R) R).1 (plain-record R, I)) (arrangement_bytes lines) gs in (
      λ h.
          let A = E.0 h in
          let few : LinesBelow 1000 gs = λ e m. omega (arith, arranged-below (length R.events) gs A.1.each-once e m, I.events) in
          let e : lines ≡ gs = arrangements-same lines gs (inr few) (sym (plain-arrangement lines) ∙ A.0) in
          (rw e A.1, sym e),
      λ z. E.1 (plain-arrangement lines ∙ ap arrangement_bytes (sym z.1), rw z.1 z.0),
    )

abbrev playing : List ℕ → Accepted → Answer Replayed
playing arrangement a = read_arrangement a.run arrangement >>= λ gs. gives (replayed_of a.net a.run gs)

replays : (net : List ℕ) (N : Net) → read_net net ≡ gives N → (R : RunRecord) (lines : List (List ℕ)) (room : ℕ) → 4128 ≤ room → (x : Replayed)
    → (replay net (record_bytes R) (arrangement_bytes lines) room ≡ gives x) ↔ (IsProcess N R × KeepsOrder R lines × (x ≡ replayed_of N R lines))
unfolding replay after ◌>>=◌
replays net N accepted R lines room l x =
    let G = of-given 40 4128 (playing (arrangement_bytes lines)) net N accepted R room l x in (
      λ h.
          let z = G.0 h in
          let y = of-bind (read_arrangement R (arrangement_bytes lines)) _ z.1 in
          let k = (lines-given net N accepted R z.0 lines y.0).0 y.1 in
          (z.0, k.0, sym (of-gives y.2) ∙ ap (replayed_of N R) k.1),
      λ z. G.1 (z.0, rw ((lines-given net N accepted R z.0 lines lines).1 (z.1, refl), z.2)),
    )

only-replayed : (net text arrangement : List ℕ) (room : ℕ) (x : Replayed) → replay net text arrangement room ≡ gives x
    → (4128 ≤ room) × IsAccepted net × IsTextOf record_bytes (plain_ends text) × IsTextOf arrangement_bytes (plain_ends arrangement)
unfolding replay after
only-replayed net text arrangement room x h =
    let z = of-after 40 4128 (playing arrangement) net text room x h in
    let N = z.1.net in
    let R = z.1.run in
    let y = of-bind (read_arrangement R arrangement) _ z.4 in
    (z.0, (N, z.2), (R, ((exactness.checks net N z.2 text R).0 z.3).0), (y.0, ((exactness.replays net N z.2 text R z.3 arrangement y.0).0 y.1).0))

only-built : (net log : List ℕ) (room : ℕ) (bytes : List ℕ) → build net log room ≡ gives bytes → (48256 ≤ room) × IsAccepted net × IsTextOf log_bytes (plain_ends log)
unfolding build
only-built net log room bytes h =
    let a = of-when 20 0 (ltb room 48256) _ h in
    let l = ltb-false room 48256 a.0 in
    let N = of-bind (read_net net) _ a.1 in
    let B = (exactness.builds net N.0 N.1 log bytes room l).0 h in
    (l, (N.0, N.1), (B.steps, B.written))

pub operations : Operations
operations = record { reads = reads; builds = builds; checks = checks; arranges = arranges; replays = replays }

pub nothing-else : NothingElse
unfolding check check_within arrange after
nothing-else = record { builds = only-built; checks = only-record 30 16384 checked_of; arranges = only-record 50 768 arranged_of; replays = only-replayed }
