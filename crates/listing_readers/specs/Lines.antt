-- What stands at a place of a line that isn't a number to be read: the same however the word of a number is read.
--     code_in                      any of the six codes
--     known_in value               this value alone
use Rattle.std.specs.Prelude.{ℕ, List, Some, None, codes, option_map, bytes_eq, if◌then◌else◌}
use Rattle.card_definitions.specs.Words.{named}
use Rattle.listing_definitions.specs.Report.{Value, Code}
use Rattle.listing_definitions.specs.Text.{value_text}
use Rattle.walk_definitions.specs.Words.{Parsed, with_text, with_word}
use Rattle.walk_definitions.specs.Tables.{all_codes}

abbrev pub code_in : List ℕ → Parsed Value
code_in rest = with_text (codes " ") (with_word (λ word. option_map Code (named all_codes word)) (λ value left. Some (value, left))) rest

abbrev pub known_in : Value → List ℕ → Parsed Value
known_in value rest =
    with_text (codes " ") (with_word (λ word. if bytes_eq (value_text value) word then Some value else None) (λ value left. Some (value, left))) rest
