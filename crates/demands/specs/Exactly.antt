-- What exactly is accepted, said of calls: the second demand as the promise of functions that make them. The crate
-- `runs` has the same over the definitions. Each line of a text may end in byte 10 or in 13 and 10 (02, 2026-02).
use Rattle.std.specs.Prelude.{◌≡◌, ◌↔◌, ℕ, ◌≤◌, List, length}
use Rattle.spec.specs.Answer.{gives}
use Rattle.spec.specs.Net.{Net, read_net}
use Rattle.spec.specs.NetText.{Declaration, net_bytes, declared, Complete}
use Rattle.spec.specs.Record.{RunRecord, record_bytes}
use Rattle.spec.specs.Building.{record_for}
use Rattle.spec.specs.Checking.{checked_of}
use Rattle.spec.specs.Arranging.{arranged_of, arrangement_bytes}
use Rattle.spec.specs.Replaying.{replayed_of}
use Rattle.spec.specs.Runs.{EnabledSequence, KeepsOrder, WithinLimits, log_bytes}
use Rattle.spec.specs.Buffer.{over}
use Rattle.spec.specs.Values.{as_numbers, net_values, byte_values, check_values, replay_values, arrange_values}
use Rattle.spec.specs.Endings.{plain_ends}
use Rattle.spec.specs.Exactness.{EachAllowed, IsProcess, IsAccepted, IsTextOf}
use Rattle.spec.specs.declared.Numbers.{Numbers}

-- number 0 is returned exactly where P holds, and then the values of `what`, which stands at the start of the buffer
pub record Exactly {A : Type 0} (P : Type 0) (values : A → ℕ × ℕ × ℕ) (written : A → List ℕ) (what : A)
    (old : List ℕ) (r : Numbers) (new : List ℕ) : Type 0 where
  pub accepted : (r.number ≡ 0) ↔ P
  pub returns : r.number ≡ 0 → r ≡ as_numbers (gives (values what))
  pub leaves : r.number ≡ 0 → new ≡ over (written what) old

-- a net text: of declarations, each allowed below those above it, that give each transition an input and an output
abbrev pub ReadsExactly : List ℕ → Numbers → Type 0
ReadsExactly net r =
    (ds : List Declaration) → plain_ends net ≡ net_bytes ds
    → ((r.number ≡ 0) ↔ (EachAllowed ds × Complete (declared ds)))
    × (r.number ≡ 0 → r ≡ as_numbers (gives (net_values (declared ds))))

-- "With an accepted net and buffers of the stated sizes, a well-formed log of known transitions becomes a record
-- exactly when each step is enabled in its turn and the limits hold, and the record is the one document 01 names."
pub record BuildsExactly (net log old : List ℕ) (r : Numbers) (new : List ℕ) : Type 0 where
  pub builds : (N : Net) (steps : List (List ℕ)) → read_net net ≡ gives N → plain_ends log ≡ log_bytes steps
      → 48256 ≤ length old
      → Exactly (EnabledSequence N steps × WithinLimits N steps) byte_values (λ b. b) (record_bytes (record_for N steps))
      old r new
  pub nothing-else : r.number ≡ 0 → (48256 ≤ length old) × IsAccepted net × IsTextOf log_bytes (plain_ends log)

-- "Likewise a proposed record is accepted exactly when it is a process by the definition there.", by the check,
pub record ChecksExactly (net text old : List ℕ) (r : Numbers) (new : List ℕ) : Type 0 where
  pub checks : (N : Net) (R : RunRecord) → read_net net ≡ gives N → plain_ends text ≡ record_bytes R → 16384 ≤ length old
      → Exactly (IsProcess N R) check_values (λ c. c.table) (checked_of R) old r new
  pub nothing-else : r.number ≡ 0 → (16384 ≤ length old) × IsAccepted net × IsTextOf record_bytes (plain_ends text)

-- by arranging,
pub record ArrangesExactly (net text old : List ℕ) (r : Numbers) (new : List ℕ) : Type 0 where
  pub arranges : (N : Net) (R : RunRecord) → read_net net ≡ gives N → plain_ends text ≡ record_bytes R → 768 ≤ length old
      → Exactly (IsProcess N R) arrange_values (λ a. a.bytes) (arranged_of R) old r new
  pub nothing-else : r.number ≡ 0 → (768 ≤ length old) × IsAccepted net × IsTextOf record_bytes (plain_ends text)

-- and by replay, which besides accepts an arrangement exactly when it keeps the order
pub record ReplaysExactly (net text arrangement old : List ℕ) (r : Numbers) (new : List ℕ) : Type 0 where
  pub replays : (N : Net) (R : RunRecord) (lines : List (List ℕ)) → read_net net ≡ gives N
      → plain_ends text ≡ record_bytes R → plain_ends arrangement ≡ arrangement_bytes lines → 4128 ≤ length old
      → Exactly (IsProcess N R × KeepsOrder R lines) replay_values (λ x. x.counts) (replayed_of N R lines) old r new
  pub nothing-else : r.number ≡ 0
      → (4128 ≤ length old) × IsAccepted net × IsTextOf record_bytes (plain_ends text)
      × IsTextOf arrangement_bytes (plain_ends arrangement)
