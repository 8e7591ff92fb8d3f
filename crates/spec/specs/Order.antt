-- The pairs of a run record and its closed order (01, "Record"; 02, 2026-01; 004, section 2.2).
use Rattle.std.specs.Prelude.{◌≢◌, ℕ, zero, suc, Bool, true, false, not, ◌&&◌, ◌||◌, List, [], ◌∷◌, ◌++◌, map, length, eqb}
use Rattle.std.proofs.Math.Option.{Option, none, some}
use Rattle.spec.specs.Lists.{In, any, flat}
use Rattle.spec.specs.Record.{RunRecord, Condition, Mark, condition_at}
use Rattle.spec.specs.declared.MarkKind.{MarkKind}
use Rattle.spec.specs.declared.MarkKind.TheVariants.{Before, After, Read}

-- a strict pair or a weak one, from an event to an event
pub record Pair : Type 0 where
  pub source : ℕ
  pub target : ℕ
  pub strict : Bool

-- the pair between two events, none where one of them is none
unfoldable pub pair_of : Option ℕ → Option ℕ → Bool → List Pair
pair_of none f s = []
pair_of (some e) none s = []
pair_of (some e) (some f) s = record { source = e; target = f; strict = s } ∷ []

-- "Strict pairs: producer to consumer"
unfoldable pub condition_pair : Condition → List Pair
condition_pair c = pair_of c.producer c.consumer true

-- "under A, consumer to marked event. Weak pairs: under B, marked event to producer."
-- 2026-01: "The condition's producer is strictly before the reader, the reader not later than its consumer."
unfoldable pub mark_pair_of : MarkKind → Condition → Option ℕ → List Pair
mark_pair_of Before c e = pair_of e c.producer false
mark_pair_of After c e = pair_of c.consumer e true
mark_pair_of Read c e = pair_of c.producer e true ++ pair_of e c.consumer false

unfoldable pub mark_pair : RunRecord → Mark → List Pair
mark_pair r m = mark_pair_of m.kind (condition_at r m.condition) (some m.event)

unfoldable pub pairs : RunRecord → List Pair
pairs r = flat (map condition_pair r.conditions) ++ flat (map (mark_pair r) r.marks)

-- ---- "In the closed order, e is strictly before f if a path of pairs from e to f has a strict pair, and not later
-- if e and f differ and any path exists (004's ◇-closure)."

-- a path of pairs from e to f; the Boolean says whether a strict pair is on it
pub data Path (ps : List Pair) : Bool → ℕ → ℕ → Type 0 where
  single : (q : Pair) → In q ps → Path ps q.strict q.source q.target
  then : (q : Pair) {s : Bool} {f : ℕ} → In q ps → Path ps s q.target f → Path ps (q.strict || s) q.source f

abbrev pub StrictlyBefore : RunRecord → ℕ → ℕ → Type 0
StrictlyBefore r e f = Path (pairs r) true e f

abbrev pub NotLater : RunRecord → ℕ → ℕ → Type 0
NotLater r e f = (e ≢ f) × ((s : Bool) × Path (pairs r) s e f)

-- ---- the same, computed

unfoldable pub is_pair : ℕ → ℕ → Pair → Bool
is_pair e f p = eqb p.source e && eqb p.target f

-- a path of pairs from e to f whose inner events are all below k
unfoldable pub reach : List Pair → ℕ → ℕ → ℕ → Bool
reach ps zero e f = any (is_pair e f) ps
reach ps (suc k) e f = reach ps k e f || (reach ps k e k && reach ps k k f)

-- any path from e to f
unfoldable pub has_path : RunRecord → ℕ → ℕ → Bool
has_path r e f = reach (pairs r) (length r.events) e f

-- a path from e to f through the strict pair p
unfoldable pub path_by : RunRecord → ℕ → ℕ → Pair → Bool
path_by r e f p =
    p.strict && (eqb e p.source || has_path r e p.source) && (eqb p.target f || has_path r p.target f)

unfoldable pub is_strictly_before : RunRecord → ℕ → ℕ → Bool
is_strictly_before r e f = any (path_by r e f) (pairs r)

unfoldable pub is_not_later : RunRecord → ℕ → ℕ → Bool
is_not_later r e f = not (eqb e f) && has_path r e f
