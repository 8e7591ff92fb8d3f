-- `plain_lines::field_from` meets its contract: a dash is a field (`dash-field`), and so is the number that was read; where
-- there is neither nothing is promised.
use Prim.Native.Nat.{◌+◌}
use mathlib.Core.Path.{refl, sym, ◌∙◌}
use native.Mathlib.Omega.{arith}
use Rattle.byte_entries.proofs.Classes.{dash-entry}
use Rattle.lines.specs.Lines.{Ahead}
use Rattle.lines.proofs.Lines.{here, on-by}
use Rattle.plain_lines.proofs.Plain.{dash-field}
use Rattle.plain_lines.proofs.field_from.Goals as goal
use Rattle.plain_lines.proofs.field_from.Goals.{Then-entry_of-eq-DASH}

pub bounds-s-at : goal.bounds-s-at
bounds-s-at c = here c.requires.2

pub overflow_add-end : goal.overflow_add-end
overflow_add-end c = omega (arith, here c.requires.2)

-- a dash ends no line
behind : (c : Then-entry_of-eq-DASH) → Ahead c.args.s.now (c.args.at + 1)
behind c = on-by c.requires.2 c.entry_of.ensures (λ z. omega (arith, c.if-entry_of-eq-DASH.true))

pub bounds-s-end : goal.bounds-s-end
bounds-s-end c = here (behind (goal.at.bounds-s-end c).Then-entry_of-eq-DASH)

pub returns-then-entry_of-eq-DASH : goal.returns-then-entry_of-eq-DASH
returns-then-entry_of-eq-DASH c = let a = behind (goal.at.returns-then-entry_of-eq-DASH c).Then-entry_of-eq-DASH in record {
  within = omega (arith, here a);
  field = λ d. record {
    start = omega arith;
    field = dash-field _ (record { within = here c.requires.2; byte = dash-entry _ (sym c.entry_of.ensures ∙ c.if-entry_of-eq-DASH.true) });
    stops = c.entry_of-then-entry_of-eq-DASH.ensures;
    ahead = a;
  };
  kind = refl;
}

pub number_from-n-requires : goal.number_from-n-requires
number_from-n-requires c = c.requires

pub returns : goal.returns
returns c = let n = c.number_from-n.ensures in record { within = n.within; field = n.number; kind = refl }
