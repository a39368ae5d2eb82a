-- The text of a table line, in the parts in which it is written.
use Rattle.std.proofs.Common.{◌≡◌, ℕ, List, [], ◌∷◌, ◌++◌, codes, map, append_assoc}
use Rattle.std.specs.List.{concat, flat_map}
use Rattle.std.proofs.lemmas.List.Folds.{flat_map-map}
use Rattle.problem_definitions.specs.Names.{Name}
use Rattle.listing_definitions.specs.Report as reports
use Rattle.listing_definitions.specs.Text.{number5, name8, value_text, line_text}
use Rattle.listing_tables.specs.declared.line.Value.{Value}
use Rattle.listing_tables.specs.Values.{value_view, value_after_blank}

pub line_parts : (number : ℕ) (name : Name) (values : List Value) →
    concat (number5 number ∷ codes " " ∷ name8 name ∷ []) ++ (flat_map value_after_blank values ++ codes "\n") ≡ line_text
    (record { number = number; name = name; values = map value_view values })
line_parts number name values =
    simp (flat_map-map (λ (value : reports.Value). codes " " ++ value_text value) value_view values, append_assoc)
