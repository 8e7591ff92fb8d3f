-- The fields of a line that are left.
use Rattle.std.specs.Prelude.{List}
use Rattle.line_forms.specs.declared.Slot.{Slot}
use Rattle.fields.specs.Fields.{fields_from}
use Rattle.fields.specs.declared.in_line.Fields.{Fields}

abbrev pub fields_left : Fields → List Slot
fields_left f = fields_from f.most f.line.now f.at
