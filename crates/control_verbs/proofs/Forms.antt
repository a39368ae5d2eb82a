-- The forms of the verbs' arguments.
use Rattle.std.proofs.Common.{◌≡◌, ℕ, List, [], ◌∷◌, None, false, refl}
use Rattle.std.specs.Prelude.{option_map, option_and_then, is_some}
use Rattle.std.specs.Option.{option_map_or}
use Rattle.card_definitions.specs.Words.{named}
use Rattle.control_definitions.specs.Program.{Title, Mvadr, Goto}
use Rattle.control_definitions.specs.Statements.{With, Malformed}
use Rattle.control_definitions.specs.Arguments.{title_argument, label_text, quotation}
use Rattle.control_definitions.specs.Compiled.{is_program_argument}
use Rattle.control_definitions.specs.Verbs.{VerbWord, Alone, TakesTitle, TakesCell, TakesDemand, TakesLabel, TakesOptions, EndsProgram, cell_words}
use Rattle.control_definitions.specs.Verbs.{demand_words, moved, verb_with}
use Rattle.control_verbs.specs.Pieces.{only_part, two_parts}

pub of_title : (parts : List (List ℕ)) →
    verb_with TakesTitle (With parts) ≡ option_and_then (λ (text : List ℕ). option_map (λ title. Title title) (title_argument text)) (only_part parts)
of_title [] = refl
of_title (text ∷ []) = refl
of_title (text ∷ next ∷ parts) = refl

pub of_label : (parts : List (List ℕ)) →
    verb_with TakesLabel (With parts) ≡ option_and_then (λ (text : List ℕ). option_map (λ label. Goto label) (label_text text)) (only_part parts)
of_label [] = refl
of_label (text ∷ []) = refl
of_label (text ∷ next ∷ parts) = refl

pub of_cell : (parts : List (List ℕ)) →
    verb_with TakesCell (With parts) ≡ option_and_then (λ (pair : List ℕ × List ℕ). option_and_then (λ known. moved known pair.1) (named cell_words pair.0))
    (two_parts parts)
of_cell [] = refl
of_cell (cell ∷ []) = refl
of_cell (cell ∷ value ∷ []) = refl
of_cell (cell ∷ value ∷ next ∷ parts) = refl

pub of_demand : (parts : List (List ℕ)) → verb_with TakesDemand (With parts)
    ≡ option_and_then
    (λ (pair : List ℕ × List ℕ). option_and_then (λ known. option_map (λ text. Mvadr known text) (label_text pair.1)) (named demand_words pair.0))
    (two_parts parts)
of_demand [] = refl
of_demand (demand ∷ []) = refl
of_demand (demand ∷ label ∷ []) = refl
of_demand (demand ∷ label ∷ next ∷ parts) = refl

-- a statement without form has no verb
pub of_no_form : (word : VerbWord) → verb_with word Malformed ≡ None
of_no_form (Alone verb) = refl
of_no_form TakesTitle = refl
of_no_form TakesCell = refl
of_no_form TakesDemand = refl
of_no_form TakesLabel = refl
of_no_form TakesOptions = refl
of_no_form EndsProgram = refl

-- PROGRAM has one text in quotes, or none
pub of_program : (parts : List (List ℕ)) →
    is_program_argument (With parts) ≡ option_map_or (λ (text : List ℕ). is_some (quotation text)) (only_part parts) false
of_program [] = refl
of_program (text ∷ []) = refl
of_program (text ∷ next ∷ parts) = refl
