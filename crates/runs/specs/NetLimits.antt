-- The limits of an accepted net: at most 32 places, 32 transitions and 512 initial tokens in all.
use Rattle.std.specs.Prelude.{◌≡◌, refl, ℕ, ◌≤◌, List, [], ◌∷◌}
use Rattle.std.proofs.Common.{zero-le, arith, length-append}
use mathlib.Core.List.Memᴰ
use Rattle.spec.specs.Lists.{sum}
use Rattle.spec.specs.Answer.{gives}
use Rattle.spec.specs.Text.{Line, lines_of}
use Rattle.spec.specs.Net.{Net, places, with_place, with_transition, with_arc, empty_net, net_of, read_net}
use Rattle.spec.specs.NetText.{Declaration, new_place, new_transition, new_arc, weighted_input, weighted_output, declare, declare_all, Allowed}
use Rattle.spec.specs.Exactness.{DeclarationBelow, DeclarationsBelow}
use Rattle.lists.specs.Arrays.{sum_more}
use Rattle.runs.specs.NetText.{Sound, sound-tail, sound-keeps, net-lines}

pub record NetLimits (N : Net) : Type 0 where
  pub places : places N ≤ 32
  pub transitions : N.transitions ≤ 32
  pub tokens : sum N.tokens ≤ 512

no-net : NetLimits empty_net
unfolding empty_net sum
no-net = record { places = zero-le; transitions = zero-le; tokens = zero-le }

declare-keeps : (n : Net) (d : Declaration) → NetLimits n → Allowed n d → NetLimits (declare n d)
unfolding declare with_place with_transition with_arc
declare-keeps n (new_place v) L a = record {
  places = omega (arith, length-append n.tokens (v ∷ []), a.0);
  transitions = L.transitions;
  tokens = omega (arith, sum_more n.tokens v, a.1);
}
declare-keeps n new_transition L a = record { places = L.places; transitions = omega arith; tokens = L.tokens }
declare-keeps n (new_arc x p t) L a = record { places = L.places; transitions = L.transitions; tokens = L.tokens }
declare-keeps n (weighted_input p t w) L a = record { places = L.places; transitions = L.transitions; tokens = L.tokens }
declare-keeps n (weighted_output p t w) L a = record { places = L.places; transitions = L.transitions; tokens = L.tokens }

allowed-below : (n : Net) (d : Declaration) → NetLimits n → Allowed n d → DeclarationBelow 1000 d
allowed-below n (new_place v) L a = omega (arith, a.1)
allowed-below n new_transition L a = tt
allowed-below n (new_arc x p t) L a = (omega (arith, a.0, L.places), omega (arith, a.1, L.transitions))
allowed-below n (weighted_input p t w) L a = (omega (arith, a.0.0, L.places), omega (arith, a.0.1, L.transitions), omega arith)
allowed-below n (weighted_output p t w) L a = (omega (arith, a.0.0, L.places), omega (arith, a.0.1, L.transitions), omega arith)

pub sound-limits : (ds : List Declaration) → Sound empty_net ds → NetLimits (declare_all empty_net ds)
sound-limits ds S = sound-keeps NetLimits declare-keeps empty_net ds no-net S

-- the numbers of sound declarations have at most three digits
sound-below : (n : Net) (ds : List Declaration) → NetLimits n → Sound n ds → DeclarationsBelow 1000 ds
unfolding declare_all
sound-below n (d ∷ ds) L S e (Memᴰ.head q) = rw q (allowed-below n d L (S [] ds d refl))
sound-below n (d ∷ ds) L S e (Memᴰ.tail m) = sound-below (declare n d) ds (declare-keeps n d L (S [] ds d refl)) (sound-tail n d ds S) e m
sound-below n [] L S e x3 = elim x3 [ ]

pub sound-small : (ds : List Declaration) → Sound empty_net ds → DeclarationsBelow 1000 ds
sound-small ds S = sound-below empty_net ds no-net S

-- the lines of a text, or of a part of one
pub lines-limits : (ls : List Line) (N : Net) → net_of ls ≡ gives N → NetLimits N
lines-limits ls N h = let I = net-lines ls N h in rw I.named (sound-limits I.lines I.sound)

pub net-limits : (text : List ℕ) (N : Net) → read_net text ≡ gives N → NetLimits N
unfolding read_net
net-limits text N h = lines-limits (lines_of text) N h
