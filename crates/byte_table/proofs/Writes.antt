-- The digits of a number below 100; how long the text and its parts are, which tells that there is room for them; and a
-- write from the start of a buffer, which is what then stands there.
-- Assumes nothing.
use Prim.Native.Nat.{ℕ, ◌+◌, ◌≤◌}
use mathlib.Core.Path.{◌≡◌, refl, ◌∙◌}
use mathlib.Core.List.{List, ◌++◌}
use native.Mathlib.Omega.{arith}
use lib.ListN.{length, take, drop, length-append}
use lib.Seq.{take-append_seam}
use borrow.Author.Tests.{leb-true}
use Rattle.spec.specs.Lists.{from, up_to, flat}
use Rattle.spec.specs.Text.{named, in_digits, class_of, digit_of, digit_byte, digits}
use Rattle.spec.specs.Quoted.{ascii}
use Rattle.spec.specs.Buffer.{over}
use Rattle.byte_entries.specs.Entries.{entry_of, before_first}
use Rattle.writing.specs.Written.{Wrote}
use Rattle.writing.proofs.Laws.{put-over}
use Rattle.byte_table.specs.TableText.{opening, entry_line, entry_lines, line_end_byte, closing, table_text}

pub opening-length : length opening ≡ 182
unfolding opening ascii
opening-length = refl

pub line-length : (b : ℕ) → length (entry_line b) ≡ length (digits 4 (entry_of b)) + 6
unfolding entry_line ascii
line-length b = omega (arith, length-append (digits 4 (entry_of b)) (ascii ",\n"))

pub closing-length : length closing ≡ length (digits 4 line_end_byte) + 66
unfolding closing ascii
closing-length = omega (arith, length-append (digits 4 line_end_byte) (ascii ";\n"))

pub text-length : length table_text ≡ length opening + (length entry_lines + length closing)
unfolding table_text
text-length = omega (arith, length-append opening (entry_lines ++ closing), length-append entry_lines closing)

pub text-fits : length table_text ≤ 4096
unfolding table_text opening entry_lines entry_line closing line_end_byte ascii flat up_to from digits digit_byte before_first entry_of class_of named in_digits digit_of
text-fits = leb-true (length table_text) 4096 refl

-- what is written from the start of a buffer on stands there
pub from_start : {old new bs : List ℕ} {r : ℕ} → length bs ≤ length old → Wrote old 0 bs r new → (r ≡ length bs) × (take r new ≡ bs)
unfolding over
from_start {old} {new} {bs} h w =
    let e : _ ≡ length bs = w.next ∙ omega arith in
    (e, rw (e, w.bytes, put-over old bs h) (take-append_seam bs (drop (length bs) old)))
