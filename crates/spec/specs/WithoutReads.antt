-- A net without `R` lines and its records give what they gave (02, 2026-01): each operation answers now as it did by the
-- definitions of `BeforeReads`. The statement is a type here; the crate `runs` has its proof.
use Rattle.std.specs.Prelude.{◌≡◌, ◌≢◌, ℕ, false, List, [], ◌∷◌}
use Prim.Native.Char.{code}
use Rattle.spec.specs.Lists.{In}
use Rattle.spec.specs.Answer.{gives}
use Rattle.spec.specs.Classes.{alike}
use Rattle.spec.specs.Text.{Line, class_of, is_a, lines_of}
use Rattle.spec.specs.Forms.{number, is_line}
use Rattle.spec.specs.Net.{Net, read_net}
use Rattle.spec.specs.Building.{build}
use Rattle.spec.specs.Checking.{Checked, check}
use Rattle.spec.specs.Replaying.{Replayed, replay}
use Rattle.spec.specs.Arranging.{Arranged, arrange}
use Rattle.spec.specs.Printing.{program}
use Rattle.spec.specs.declared.Class.{Class}
use Rattle.spec.specs.declared.Class.TheVariants.{Foreign, LetterR}
use Rattle.spec.specs.BeforeReads as Then

-- no line is an `R` line: the letter and two numbers, of a net `R,place,transition`, of a record `R,condition,event`
abbrev pub LackR : List Line → Type 0
LackR ls = (l : Line) → In l ls → is_line "R" (number ∷ number ∷ []) l ≡ false

abbrev pub HasNoR : List ℕ → Type 0
HasNoR text = LackR (lines_of text)

pub record Unchanged : Type 0 where
  -- Every byte but `R` has the class that it had; `R` was foreign and has a class of its own. So by all other classes, which
  -- tell lines, fields, digits and the other letters, a text is read as it was.
  pub bytes : (b : ℕ) → b ≢ code "R" → class_of b ≡ Then.class_of b
  pub letter : (Then.class_of (code "R") ≡ Foreign) × (class_of (code "R") ≡ LetterR)
  pub classes : (k : Class) → alike Foreign k ≡ false → alike LetterR k ≡ false → (b : ℕ) → is_a k b ≡ Then.is_a k b
  -- A net text without `R` lines is read as it was: the same net, or the same refusal at the same spot.
  pub reads : (text : List ℕ) → HasNoR text → read_net text ≡ Then.read_net text
  -- From such a net and any log the same record is built, byte for byte, or the same refusal is met.
  pub builds : (net log : List ℕ) (room : ℕ) → HasNoR net → build net log room ≡ Then.build net log room
  -- With such a net, a record text without `R` lines is checked as it was: the same numbers and table, or the same refusal.
  pub checks : (net text : List ℕ) (room : ℕ) → HasNoR net → HasNoR text → check net text room ≡ Then.check net text room
  -- Any arrangement of it is replayed as it was,
  pub replays : (net text arrangement : List ℕ) (room : ℕ) → HasNoR net → HasNoR text
      → replay net text arrangement room ≡ Then.replay net text arrangement room
  -- and it is arranged as it was.
  pub arranges : (net text : List ℕ) (room : ℕ) → HasNoR net → HasNoR text → arrange net text room ≡ Then.arrange net text room
  -- The program prints what it printed.
  pub prints : (input : List ℕ) → HasNoR input → program input ≡ Then.program input
  -- Of any texts at all: what was accepted is accepted, and the answer is the same.
  pub still-reads : (text : List ℕ) (N : Net) → Then.read_net text ≡ gives N → read_net text ≡ gives N
  pub still-builds : (net log : List ℕ) (room : ℕ) (bytes : List ℕ)
      → Then.build net log room ≡ gives bytes → build net log room ≡ gives bytes
  pub still-checks : (net text : List ℕ) (room : ℕ) (c : Checked)
      → Then.check net text room ≡ gives c → check net text room ≡ gives c
  pub still-replays : (net text arrangement : List ℕ) (room : ℕ) (x : Replayed)
      → Then.replay net text arrangement room ≡ gives x → replay net text arrangement room ≡ gives x
  pub still-arranges : (net text : List ℕ) (room : ℕ) (a : Arranged)
      → Then.arrange net text room ≡ gives a → arrange net text room ≡ gives a
