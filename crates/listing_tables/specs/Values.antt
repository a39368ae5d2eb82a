-- The values of a table line.
use Rattle.std.specs.Prelude.{ℕ, List, ◌++◌, codes}
use Rattle.listing_definitions.specs.Report as reports
use Rattle.listing_definitions.specs.Text.{value_text}
use Rattle.listing_tables.specs.declared.line.Value.{Value}
use Rattle.listing_tables.specs.declared.line.Value.TheVariants.{Code, Number, Absent, Dash}

abbrev pub value_view : Value → reports.Value
value_view (Code at) = reports.Code at
value_view (Number value) = reports.Number value
value_view Absent = reports.Absent
value_view Dash = reports.Dash

-- the text of a value, with the blank before it
abbrev pub value_after_blank : Value → List ℕ
value_after_blank value = codes " " ++ value_text (value_view value)
