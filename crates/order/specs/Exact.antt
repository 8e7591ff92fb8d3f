-- What all arrangements that keep an order agree on is the order (the generalised Szpilrajn theorem, 004's formula (1)):
-- for each event f one numbering that puts no event before f but those that must be; and so for any events of which none is
-- strictly before another, which it puts on one line.
use Rattle.std.specs.Prelude.{List, [], ◌∷◌, map, cond, eqb}
use Prim.Native.Nat.{ℕ, zero, suc, ◌+◌, ◌<◌}
use Rattle.spec.specs.Lists.{In, greatest}
use Rattle.lists.specs.Laws.{all_none, all_cons}
use Rattle.order.specs.Level.{lev}

-- how g stands to f, f itself counted as not later than f
unfoldable pub toward : (ℕ → ℕ → ℕ) → ℕ → ℕ → ℕ
toward c g f = cond (eqb g f) 1 (c g f)

-- how it stands to the events fs: as it does to that of them which it must be before the most
unfoldable pub toward_all : (ℕ → ℕ → ℕ) → List ℕ → ℕ → ℕ
toward_all c fs g = greatest (map (toward c g) fs)

-- what is strictly before one of fs keeps its level, what is not later stands on line n with them, the rest comes after
unfoldable pub place : ℕ → ℕ → ℕ → ℕ
place n zero x = n + suc x
place n (suc zero) x = n
place n (suc (suc a)) x = x

unfoldable pub late : ℕ → (ℕ → ℕ → ℕ) → List ℕ → ℕ → ℕ
late n c fs g = place n (toward_all c fs g) (lev n c g)

-- none of fs is strictly before another of them
abbrev pub NoneBefore : (ℕ → ℕ → ℕ) → List ℕ → Type 0
NoneBefore c fs = (e : ℕ) → In e fs → (f : ℕ) → In f fs → c e f < 2

-- ---- one event

-- what holds of f holds of each of f alone
abbrev pub of_one : (P : ℕ → Type 0) (f : ℕ) → P f → (g : ℕ) → In g (f ∷ []) → P g
of_one P f p = all_cons P f [] p (all_none P)
