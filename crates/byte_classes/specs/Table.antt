-- The table of 256 entries.
use Rattle.std.specs.Prelude.{ℕ, List, map}
use Rattle.spec.specs.Lists.{up_to}
use Rattle.byte_entries.specs.Entries.{entry_of}

unfoldable pub byte_table : List ℕ
byte_table = map entry_of (up_to 256)
