-- The text of the table of bytes, which the source keeps as `rt fmt` lays it out: a line for each byte with its entry, and
-- behind them the byte that ends a line.
use Rattle.std.specs.Prelude.{ℕ, List, ◌++◌, map}
use Rattle.spec.specs.Lists.{up_to, flat}
use Rattle.spec.specs.Text.{digits}
use Rattle.spec.specs.Quoted.{ascii}
use Rattle.spec.specs.declared.Class.TheVariants.{LineEnd}
use Rattle.byte_entries.specs.Entries.{code_of, entry_of, is_entry, before_first}

unfoldable pub opening : List ℕ
opening =
    ascii "// What each byte is: a digit's value, or 9 more than the number of its class. "
    ++ (ascii "The program `byte_table` prints this text,\n"
    ++ (ascii "// and no hand writes in it.\n"
    ++ ascii "pub const TABLE: [u8; 256] = [\n"))

-- the line of a byte
unfoldable pub entry_line : ℕ → List ℕ
entry_line b = ascii "    " ++ (digits 4 (entry_of b) ++ ascii ",\n")

unfoldable pub entry_lines : List ℕ
entry_lines = flat (map entry_line (up_to 256))

-- the first byte whose entry is that of a line end: as many bytes stand before it
unfoldable pub line_end_byte : ℕ
line_end_byte = before_first (is_entry (code_of LineEnd)) (up_to 256)

unfoldable pub closing : List ℕ
closing =
    ascii "];\n\n"
    ++ (ascii "// The byte that ends a line.\n"
    ++ (ascii "pub const LINE_END_BYTE: u8 = "
    ++ (digits 4 line_end_byte ++ ascii ";\n")))

unfoldable pub table_text : List ℕ
table_text = opening ++ (entry_lines ++ closing)
