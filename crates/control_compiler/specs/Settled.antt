-- Labels replaced by positions.
use Rattle.std.specs.Prelude.{ℕ, Bool, false, List, is_none, map, unwrap_or, bytes_eq}
use Rattle.std.specs.Option.{option_map_or}
use Rattle.std.specs.Map.{lookup}
use Rattle.control_definitions.specs.Program.{Verb, Statement, Program, label_argument, verb_by}
use Rattle.control_verbs.specs.Views.{statement_view}
use Rattle.control_compiler.specs.declared.draft.Draft.{Draft}

-- whether a verb names a label that has no position
abbrev pub lacks_label : List (List ℕ × ℕ) → Verb (List ℕ) → Bool
lacks_label labels verb = option_map_or (λ label. is_none (lookup (bytes_eq label) labels)) (label_argument verb) false

-- the position of a label, and 0 where it has none
abbrev pub place_in : List (List ℕ × ℕ) → List ℕ → ℕ
place_in labels label = unwrap_or (lookup (bytes_eq label) labels) 0

abbrev pub settled : List (List ℕ × ℕ) → Statement (List ℕ) → Statement ℕ
settled labels statement = record { card = statement.card; verb = verb_by (place_in labels) statement.verb }

-- the program of a draft, with the first card after it
abbrev pub settled_program : Draft → ℕ → Program
settled_program draft decks_from =
    record { statements = map (λ statement. settled draft.labels (statement_view statement)) draft.statements.items; decks_from = decks_from }
