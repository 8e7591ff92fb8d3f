-- Request 2026-02, carriage returns (02): texts that differ only in the endings of their lines, and what is promised of
-- them. The statement is a type here; the crate `runs` has its proof.
use Rattle.std.specs.Prelude.{◌≡◌, ◌≢◌, ℕ, ◌≤◌, false, ◌&&◌, cond, List, [], ◌∷◌, length, get_or, eqb}
use Rattle.spec.specs.Lists.{In}
use Rattle.spec.specs.Answer.{Answer, gives, refuses}
use Rattle.spec.specs.Text.{Line, raw_lines_of, lines_of}
use Rattle.spec.specs.Net.{Net, add_line, read_net}
use Rattle.spec.specs.Record.{RunRecord, record_bytes}
use Rattle.spec.specs.Building.{Run, log_line, play_log, build}
use Rattle.spec.specs.Checking.{enter_line, read_record, check}
use Rattle.spec.specs.Arranging.{arrangement_bytes, arrange}
use Rattle.spec.specs.Replaying.{groups_line, read_arrangement, replay}
use Rattle.spec.specs.LineParts.{Part, refused_line}
use Rattle.spec.specs.Energy.{EnergyText, energy_line, read_energy, energy}
use Rattle.spec.specs.Printing.{is_parting, input_of, program}
use Rattle.spec.specs.declared.Limits.{Limits}

-- ---- "Both line endings are accepted, mixed or not."

-- the text with byte 10 alone as the ending of every line
unfoldable pub plain_ends : List ℕ → List ℕ
plain_ends [] = []
plain_ends (b ∷ bs) = cond (eqb b 13 && eqb (get_or bs 0 0) 10) (plain_ends bs) (b ∷ plain_ends bs)

abbrev pub NoReturn : List ℕ → Type 0
NoReturn text = (b : ℕ) → In b text → b ≢ 13

-- "no byte 13 outside its endings", and the two differ only in the endings of their lines
pub record SameButEndings (s t : List ℕ) : Type 0 where
  pub same : plain_ends s ≡ plain_ends t
  pub none-else : NoReturn (plain_ends s)

-- ---- "A text with no byte 13 outside its endings must give the same answer with either ending from each reader"

-- the refused line by its choice and its bytes: where it starts in its text is the one thing that the endings above it
-- move
abbrev pub shown_of : Answer Part → Answer (ℕ × List ℕ)
shown_of (gives p) = gives (p.text, p.bytes)
shown_of (refuses n s) = refuses n s

pub record EitherEnding : Type 0 where
  -- Both have the same lines.
  pub lines : (s t : List ℕ) → SameButEndings s t → lines_of s ≡ lines_of t
  -- The readers of nets, logs, records and arrangements give the same, or refuse with the same number and spot,
  pub nets : (s t : List ℕ) → SameButEndings s t → read_net s ≡ read_net t
  pub logs : (lim : Limits) (N : Net) (s t : List ℕ) → SameButEndings s t
      → play_log lim N (lines_of s) ≡ play_log lim N (lines_of t)
  pub records : (lim : Limits) (N : Net) (s t : List ℕ) → SameButEndings s t → read_record lim N s ≡ read_record lim N t
  pub arrangements : (R : RunRecord) (s t : List ℕ) → SameButEndings s t → read_arrangement R s ≡ read_arrangement R t
  -- and so does the reader of energy texts (2026-05),
  pub energy-texts : (N : Net) (s t : List ℕ) → SameButEndings s t → read_energy N s ≡ read_energy N t
  -- and the program's input is parted into the same lines "as long as both forms are within the program's 65,536 bytes".
  pub inputs : (s t : List ℕ) → SameButEndings s t → length s ≤ 65536 → length t ≤ 65536 → input_of s ≡ input_of t
  -- So each operation gives the same answer; what it leaves in a buffer goes by the answer (`Buffer.leaves`).
  pub builds : (n m s t : List ℕ) (room : ℕ) → SameButEndings n m → SameButEndings s t → build n s room ≡ build m t room
  pub checks : (n m s t : List ℕ) (room : ℕ) → SameButEndings n m → SameButEndings s t → check n s room ≡ check m t room
  pub replays : (n m s t a b : List ℕ) (room : ℕ) → SameButEndings n m → SameButEndings s t → SameButEndings a b
      → replay n s a room ≡ replay m t b room
  pub arranges : (n m s t : List ℕ) (room : ℕ) → SameButEndings n m → SameButEndings s t
      → arrange n s room ≡ arrange m t room
  pub energies : (n m s t a b : List ℕ) → SameButEndings n m → SameButEndings s t → SameButEndings a b
      → energy n s a ≡ energy m t b
  pub prints : (s t : List ℕ) → SameButEndings s t → length s ≤ 65536 → length t ≤ 65536 → program s ≡ program t
  -- "The refused line is shown without its ending": the same bytes of the same choice.
  pub shows : (n m s t : List ℕ) (choice k : ℕ) → SameButEndings n m → SameButEndings s t
      → shown_of (refused_line n s choice k) ≡ shown_of (refused_line m t choice k)
  -- "A byte 13 elsewhere is malformed.": a line that has one is refused as such by each reader, whatever stood above it,
  -- and is not the line `=`.
  pub in-nets : (l : Line) → In 13 l.bytes → (k : ℕ) (N : Net) → add_line k l N ≡ refuses 11 k
  pub in-logs : (l : Line) → In 13 l.bytes → (lim : Limits) (N : Net) (k : ℕ) (r : Run)
      → log_line lim N k l r ≡ refuses 21 k
  pub in-records : (l : Line) → In 13 l.bytes → (lim : Limits) (N : Net) (k : ℕ) (R : RunRecord)
      → enter_line lim N k l R ≡ refuses 31 k
  pub in-arrangements : (l : Line) → In 13 l.bytes → (R : RunRecord) (k : ℕ) (gs : List (List ℕ))
      → groups_line R k l gs ≡ refuses 41 k
  pub in-energies : (l : Line) → In 13 l.bytes → (k : ℕ) (e : EnergyText) → energy_line k l e ≡ refuses 52 k
  pub in-inputs : (l : Line) → In 13 l.bytes → is_parting l ≡ false
  -- "What we write keeps byte 10 alone.": neither a record, an arrangement nor what the program prints has a byte 13.
  pub written-records : (R : RunRecord) → NoReturn (record_bytes R)
  pub written-arrangements : (lines : List (List ℕ)) → NoReturn (arrangement_bytes lines)
  pub printed : (input : List ℕ) → NoReturn (program input)
  -- The lines of a text without byte 13 are those that byte 10 alone ends, as document 01 has them.
  pub as_before : (text : List ℕ) → NoReturn text → lines_of text ≡ raw_lines_of text
