-- The entry of a byte by the range rule: a byte that is no digit and that the list of names leaves out has the number of the
-- foreign class. And the search for the byte that ends a line: a byte that is passed has another
-- entry, so that what is sought stays the same.
-- Assumes nothing.
use Rattle.std.proofs.Common.{◌≡◌, ℕ, ◌+◌, ◌≤◌, ◌<◌, Bool, true, false, ◌&&◌, leb, List, [], ◌∷◌, get_or, drop, refl, sym, ◌∙◌, arith, leb-true, eq-eqb, ne_eqb}
use Rattle.spec.specs.Lists.{up_to}
use Rattle.spec.specs.Text.{named, class_names, in_digits, class_of}
use Rattle.spec.specs.declared.Class.{Class}
use Rattle.spec.specs.declared.Class.TheVariants.{LineEnd, Foreign}
use Rattle.lists.specs.Laws.{length-up_to, get_or-from}
use Rattle.byte_entries.specs.Entries.{code_of, entry_of, is_entry, before_first}
use Rattle.byte_entries.proofs.Scans.{before_here, before_on, before-end}
use Rattle.byte_table.specs.TableText.{line_end_byte}

-- the byte is none of those that the list names
abbrev pub None : ℕ → List (ℕ × Class) → Type 0
None b [] = Unit {0}
None b (n ∷ ns) = (b ≡ n.0 → ⊥) × None b ns

none_named : (b : ℕ) (ns : List (ℕ × Class)) → None b ns → named b ns ≡ Foreign
unfolding named
none_named b [] h = refl
none_named b (n ∷ ns) h = rw (ne_eqb b n.0 h.0) (none_named b ns h.1)

no_digit : (b : ℕ) → (48 ≤ b → b ≤ 57 → ⊥) → in_digits b ≡ false
unfolding in_digits
no_digit b h = go (leb 48 b) (leb b 57) refl refl
  where
    go : (s t : Bool) → leb 48 b ≡ s → leb b 57 ≡ t → (s && t) ≡ false
    go true true p q = absurd (h (leb-true _ _ p) (leb-true _ _ q))
    go true false p q = refl
    go false t p q = refl

pub foreign : (b : ℕ) → (48 ≤ b → b ≤ 57 → ⊥) → None b class_names → code_of Foreign ≡ entry_of b
unfolding entry_of class_of
foreign b d h = sym (rw (no_digit b d, none_named b class_names h))

-- ---- the search for the byte that ends a line, from byte b on

abbrev is_end : ℕ → Bool
is_end = is_entry (code_of LineEnd)

abbrev pub Sought : ℕ → Type 0
Sought b = b + before_first is_end (drop b (up_to 256)) ≡ line_end_byte

pub sought-first : Sought 0
unfolding line_end_byte
sought-first = omega arith

module _ (b : ℕ) where
  byte_at : b < 256 → get_or (up_to 256) b 0 ≡ b
  unfolding up_to
  byte_at h = get_or-from 0 256 b 0 h ∙ omega arith

  pub sought-here : b < 256 → entry_of b ≡ code_of LineEnd → Sought b → b ≡ line_end_byte
  sought-here h e s = before_here is_end (up_to 256) b (omega (arith, length-up_to 256)) (rw (byte_at h) (eq-eqb _ _ e)) ∙ s

  pub sought-on : b < 256 → (entry_of b ≡ code_of LineEnd → ⊥) → Sought b → Sought (b + 1)
  sought-on h e s = before_on is_end (up_to 256) b (omega (arith, length-up_to 256)) (rw (byte_at h) (ne_eqb _ _ e)) ∙ s

  pub sought-end : 256 ≤ b → Sought b → b ≡ line_end_byte
  sought-end h s = before-end is_end (up_to 256) b (omega (arith, length-up_to 256)) ∙ s
