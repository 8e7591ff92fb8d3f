-- "Old nets must give their old records" (02, 2026-06): a net text without weights is read as it was by the definitions of
-- `BeforeWeights`, and each of its transitions takes and makes what it did; and a weight of 1 written out changes nothing but
-- the text. The statement is a type here; the crate `runs` has its proof.
use Rattle.std.specs.Prelude.{◌≡◌, ℕ, suc, Bool, false, ◌||◌, cond, List, [], ◌∷◌, ◌++◌}
use Prim.Native.Char.{code}
use Rattle.spec.specs.Lists.{In}
use Rattle.spec.specs.Answer.{gives}
use Rattle.spec.specs.Text.{Line, lines_of}
use Rattle.spec.specs.Forms.{number, is_line}
use Rattle.spec.specs.Net.{Net, takes, makes, read_net}
use Rattle.spec.specs.Building.{build}
use Rattle.spec.specs.Checking.{check}
use Rattle.spec.specs.Replaying.{replay}
use Rattle.spec.specs.Arranging.{arrange}
use Rattle.spec.specs.Energy.{energy}
use Rattle.spec.specs.BeforeWeights as Then

-- the line is no `I` and no `O` line with a third number
pub record Unweighted (l : Line) : Type 0 where
  pub input : is_line "I" (number ∷ number ∷ number ∷ []) l ≡ false
  pub output : is_line "O" (number ∷ number ∷ number ∷ []) l ≡ false

abbrev pub HasNoWeight : List ℕ → Type 0
HasNoWeight text = (l : Line) → In l (lines_of text) → Unweighted l

-- an `I` or an `O` line that has no weight with 1 written out as its weight, and any other line as it is
unfoldable pub with_one : Line → Line
with_one l =
    cond (is_line "I" (number ∷ number ∷ []) l || is_line "O" (number ∷ number ∷ []) l)
    (record { bytes = l.bytes ++ code "," ∷ code "1" ∷ []; ended = l.ended })
    l

-- so for the lines, numbered from k, that are chosen
unfoldable pub with_ones : (ℕ → Bool) → ℕ → List Line → List Line
with_ones chosen k [] = []
with_ones chosen k (l ∷ ls) = cond (chosen k) (with_one l) l ∷ with_ones chosen (suc k) ls

-- two net texts are one to every operation: the same net or the same refusal at the same spot, and so with every other text
pub record SameNet (one other : List ℕ) : Type 0 where
  pub reads : read_net one ≡ read_net other
  pub builds : (log : List ℕ) (room : ℕ) → build one log room ≡ build other log room
  pub checks : (text : List ℕ) (room : ℕ) → check one text room ≡ check other text room
  pub replays : (text arrangement : List ℕ) (room : ℕ) → replay one text arrangement room ≡ replay other text arrangement room
  pub arranges : (text : List ℕ) (room : ℕ) → arrange one text room ≡ arrange other text room
  pub energies : (text figures : List ℕ) → energy one text figures ≡ energy other text figures

pub record OldNets : Type 0 where
  -- A net text without weights is read as it was: the same net, or the same refusal at the same spot.
  pub reads : (text : List ℕ) → HasNoWeight text → read_net text ≡ Then.read_net text
  -- Of any text at all: what was accepted is accepted, and the net is the same.
  pub still-reads : (text : List ℕ) (N : Net) → Then.read_net text ≡ gives N → read_net text ≡ gives N
  -- Of that net what each transition takes and makes is what it was, and all other definitions ask for no more of an arc.
  pub takes : (text : List ℕ) (N : Net) → Then.read_net text ≡ gives N → (t p : ℕ) → takes N t p ≡ Then.takes N t p
  pub makes : (text : List ℕ) (N : Net) → Then.read_net text ≡ gives N → (t p : ℕ) → makes N t p ≡ Then.makes N t p
  -- A weight of 1 written out, at any of the lines, changes nothing but the text.
  pub ones : (text spelled : List ℕ) (chosen : ℕ → Bool) → lines_of spelled ≡ with_ones chosen 1 (lines_of text)
      → SameNet spelled text
