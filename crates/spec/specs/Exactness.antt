-- What exactly is accepted: the second demand, and of the first "Input that meets no refusal named in the papers is
-- accepted, by each operation." The statements are types here; the crate `runs` has a proof of each.
use Rattle.std.specs.Prelude.{◌≡◌, ◌↔◌, ℕ, ◌≤◌, ◌<◌, true, List, ◌∷◌, ◌++◌, length}
use Rattle.spec.specs.Lists.{In, flat}
use Rattle.spec.specs.Answer.{gives}
use Rattle.spec.specs.Net.{Net, read_net}
use Rattle.spec.specs.NetText.{Declaration, new_place, new_transition, new_arc, weighted_input, weighted_output}
use Rattle.spec.specs.NetText.{net_bytes, declared, Allowed, Complete}
use Rattle.spec.specs.Record.{RunRecord, Condition, Mark, bench, record_bytes}
use Rattle.spec.specs.Process.{Process, WellFormed, is_below}
use Rattle.spec.specs.Building.{record_for, build}
use Rattle.spec.specs.Checking.{Checked, read_record, checked_of, check}
use Rattle.spec.specs.Arranging.{Arranged, arrangement_bytes, arranged_of, arrange}
use Rattle.spec.specs.Replaying.{Replayed, read_arrangement, replayed_of, replay}
use Rattle.spec.specs.Runs.{EnabledSequence, KeepsOrder, WithinLimits, log_bytes}
use Rattle.spec.specs.Endings.{plain_ends}

-- ---- of any text: what is accepted is the text of such a thing

-- each declaration is allowed below those above it
abbrev pub EachAllowed : List Declaration → Type 0
EachAllowed ds =
    (above rest : List Declaration) (d : Declaration) → ds ≡ above ++ d ∷ rest → Allowed (declared above) d

-- the text is that of declarations, each allowed below those above it, and N is the net that they declare
pub record IsNet (text : List ℕ) (N : Net) : Type 0 where
  pub lines : List Declaration
  pub written : text ≡ net_bytes lines
  pub sound : EachAllowed lines
  pub complete : Complete N
  pub named : N ≡ declared lines

-- "a well-formed log of known transitions becomes a record exactly when each step is enabled in its turn and the
-- limits hold, and the record is the one document 01 names."
pub record IsBuilt (N : Net) (log bytes : List ℕ) : Type 0 where
  pub steps : List (List ℕ)
  pub written : log ≡ log_bytes steps
  pub enabled : EnabledSequence N steps
  pub within : WithinLimits N steps
  pub named : bytes ≡ record_bytes (record_for N steps)

-- "Likewise a proposed record is accepted exactly when it is a process by the definition there.": a record of the
-- stated size, whose numbers name something, that is a process
pub record IsProcess (N : Net) (R : RunRecord) : Type 0 where
  pub events : length R.events ≤ 128
  pub conditions : length R.conditions ≤ 512
  pub marks : length R.marks ≤ 4096
  pub well_formed : WellFormed N R
  pub process : Process N R

-- 2026-02: each line of the text may end in byte 10 or in 13 and 10; it has no byte 13 elsewhere, as what is written has
-- none
pub record Exactness : Type 0 where
  pub reads : (text : List ℕ) (N : Net) → (read_net text ≡ gives N) ↔ IsNet (plain_ends text) N
  pub builds : (net : List ℕ) (N : Net) → read_net net ≡ gives N
      → (log bytes : List ℕ) (room : ℕ) → 48256 ≤ room
      → (build net log room ≡ gives bytes) ↔ IsBuilt N (plain_ends log) bytes
  pub checks : (net : List ℕ) (N : Net) → read_net net ≡ gives N
      → (text : List ℕ) (R : RunRecord)
      → (read_record bench N text ≡ gives R) ↔ ((plain_ends text ≡ record_bytes R) × IsProcess N R)
  pub replays : (net : List ℕ) (N : Net) → read_net net ≡ gives N
      → (text : List ℕ) (R : RunRecord) → read_record bench N text ≡ gives R
      → (arrangement : List ℕ) (lines : List (List ℕ))
      → (read_arrangement R arrangement ≡ gives lines)
      ↔ ((plain_ends arrangement ≡ arrangement_bytes lines) × KeepsOrder R lines)

-- ---- of each operation, and of a given list of declarations, sequence, record or arrangement. "With an accepted net
-- and buffers of the stated sizes" its text is accepted exactly when it is what it should be, and what is then given
-- is what document 01 names.

pub record Operations : Type 0 where
  pub reads : (ds : List Declaration) (N : Net)
      → (read_net (net_bytes ds) ≡ gives N) ↔ (EachAllowed ds × Complete N × (N ≡ declared ds))
  -- "a well-formed log of known transitions": an enabled sequence has no empty step, and names transitions of the net
  -- only
  pub builds : (net : List ℕ) (N : Net) → read_net net ≡ gives N
      → (steps : List (List ℕ)) (room : ℕ) → 48256 ≤ room → (bytes : List ℕ)
      → (build net (log_bytes steps) room ≡ gives bytes)
      ↔ (EnabledSequence N steps × WithinLimits N steps × (bytes ≡ record_bytes (record_for N steps)))
  pub checks : (net : List ℕ) (N : Net) → read_net net ≡ gives N
      → (R : RunRecord) (room : ℕ) → 16384 ≤ room → (c : Checked)
      → (check net (record_bytes R) room ≡ gives c) ↔ (IsProcess N R × (c ≡ checked_of R))
  pub arranges : (net : List ℕ) (N : Net) → read_net net ≡ gives N
      → (R : RunRecord) (room : ℕ) → 768 ≤ room → (a : Arranged)
      → (arrange net (record_bytes R) room ≡ gives a) ↔ (IsProcess N R × (a ≡ arranged_of R))
  -- an arrangement that keeps the order has no empty line, and each event of the record once
  pub replays : (net : List ℕ) (N : Net) → read_net net ≡ gives N
      → (R : RunRecord) (lines : List (List ℕ)) (room : ℕ) → 4128 ≤ room → (x : Replayed)
      → (replay net (record_bytes R) (arrangement_bytes lines) room ≡ gives x)
      ↔ (IsProcess N R × KeepsOrder R lines × (x ≡ replayed_of N R lines))

-- ---- and nothing else is accepted: no shorter buffer, no net that is refused, no other text

abbrev pub IsAccepted : List ℕ → Type 0
IsAccepted net = (N : Net) × (read_net net ≡ gives N)

abbrev pub IsTextOf : {A : Type 0} → (A → List ℕ) → List ℕ → Type 0
IsTextOf {A} print text = (x : A) × (text ≡ print x)

pub record NothingElse : Type 0 where
  pub builds : (net log : List ℕ) (room : ℕ) (bytes : List ℕ) → build net log room ≡ gives bytes
      → (48256 ≤ room) × IsAccepted net × IsTextOf log_bytes (plain_ends log)
  pub checks : (net text : List ℕ) (room : ℕ) (c : Checked) → check net text room ≡ gives c
      → (16384 ≤ room) × IsAccepted net × IsTextOf record_bytes (plain_ends text)
  pub arranges : (net text : List ℕ) (room : ℕ) (a : Arranged) → arrange net text room ≡ gives a
      → (768 ≤ room) × IsAccepted net × IsTextOf record_bytes (plain_ends text)
  pub replays : (net text arrangement : List ℕ) (room : ℕ) (x : Replayed) → replay net text arrangement room ≡ gives x
      → (4128 ≤ room) × IsAccepted net × IsTextOf record_bytes (plain_ends text)
      × IsTextOf arrangement_bytes (plain_ends arrangement)

-- ---- two with the same text are the same, where their numbers have at most four digits

-- every number of the lines of a log or an arrangement is below b, and so of a declaration and of a record
abbrev pub LinesBelow : ℕ → List (List ℕ) → Type 0
LinesBelow b lines = (n : ℕ) → In n (flat lines) → n < b

abbrev pub DeclarationBelow : ℕ → Declaration → Type 0
DeclarationBelow b (new_place v) = v < b
DeclarationBelow b new_transition = Unit {0}
DeclarationBelow b (new_arc x p t) = (p < b) × (t < b)
DeclarationBelow b (weighted_input p t w) = (p < b) × (t < b) × (w < b)
DeclarationBelow b (weighted_output p t w) = (p < b) × (t < b) × (w < b)

abbrev pub DeclarationsBelow : ℕ → List Declaration → Type 0
DeclarationsBelow b ds = (d : Declaration) → In d ds → DeclarationBelow b d

pub record RecordBelow (b : ℕ) (R : RunRecord) : Type 0 where
  pub transitions : (t : ℕ) → In t R.events → t < b
  pub places : (c : Condition) → In c R.conditions → c.place < b
  pub producers : (c : Condition) → In c R.conditions → is_below b c.producer ≡ true
  pub consumers : (c : Condition) → In c R.conditions → is_below b c.consumer ≡ true
  pub conditions : (m : Mark) → In m R.marks → m.condition < b
  pub events : (m : Mark) → In m R.marks → m.event < b

pub record OneReading : Type 0 where
  pub nets : (ds es : List Declaration) → DeclarationsBelow 10000 ds → DeclarationsBelow 10000 es
      → net_bytes ds ≡ net_bytes es → ds ≡ es
  pub logs : (s t : List (List ℕ)) → LinesBelow 10000 s → LinesBelow 10000 t
      → log_bytes s ≡ log_bytes t → s ≡ t
  pub records : (R S : RunRecord) → RecordBelow 10000 R → RecordBelow 10000 S
      → record_bytes R ≡ record_bytes S → R ≡ S
  pub arrangements : (s t : List (List ℕ)) → LinesBelow 10000 s → LinesBelow 10000 t
      → arrangement_bytes s ≡ arrangement_bytes t → s ≡ t
