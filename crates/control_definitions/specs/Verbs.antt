-- The table of verbs: what arguments each takes, and what a card says with them.
--     cell_words, demand_words, verb_words     the words of the table
--     verb_of card                             the card's verb with its arguments, where these have the table's form
use Rattle.std.specs.Prelude.{ℕ, List, [], ◌∷◌, Option, Some, None, codes, option_map, option_and_then}
use Rattle.card_definitions.specs.Words.{named}
use Rattle.control_definitions.specs.declared.NameCell.{NameCell}
use Rattle.control_definitions.specs.declared.NameCell.TheVariants.{Xdata, Xpbname, Xobj, Xrhs, Xoldname, Xchrow, Xchcol}
use Rattle.control_definitions.specs.declared.NumberCell.{NumberCell}
use Rattle.control_definitions.specs.declared.NumberCell.TheVariants.{Xparam, Xparmax}
use Rattle.control_definitions.specs.declared.Demand.{Demand}
use Rattle.control_definitions.specs.declared.Demand.TheVariants.{Xdonfs, Xdounb}
use Rattle.control_definitions.specs.Program.{Verb, Initialz, Title, MoveName, MoveNumber, MoveLimit, Mvadr, Goto, Convert, Setup, Primal, Dual, Revise}
use Rattle.control_definitions.specs.Program.{Ranging, Paraobj, Pararhs, Solution, Bcdout, Punch, Insert, Exit}
use Rattle.control_definitions.specs.Statements.{statement_of, verb_word, Arguments, Without, With, arguments_of}
use Rattle.control_definitions.specs.Arguments.{title_argument, quoted_name, number_argument, limit_argument, label_text, options_of, setup_arguments}

-- what a cell holds: a name, a number, or the limit on steps
pub data Cell : Type 0 where
  OfName : NameCell → Cell
  OfNumber : NumberCell → Cell
  OfLimit : Cell

abbrev pub cell_words : List (List ℕ × Cell)
cell_words =
    (codes "XDATA", OfName Xdata) ∷ (codes "XPBNAME", OfName Xpbname) ∷ (codes "XOLDNAME", OfName Xoldname) ∷
    (codes "XOBJ", OfName Xobj) ∷ (codes "XRHS", OfName Xrhs) ∷ (codes "XCHROW", OfName Xchrow) ∷ (codes "XCHCOL", OfName Xchcol) ∷
    (codes "XPARAM", OfNumber Xparam) ∷ (codes "XPARMAX", OfNumber Xparmax) ∷ (codes "XITERLIM", OfLimit) ∷ []

abbrev pub demand_words : List (List ℕ × Demand)
demand_words = (codes "XDONFS", Xdonfs) ∷ (codes "XDOUNB", Xdounb) ∷ []

-- a cell set to an argument of its kind
abbrev pub moved : Cell → List ℕ → Option (Verb (List ℕ))
moved (OfName cell) argument = option_map (λ name. MoveName cell name) (quoted_name argument)
moved (OfNumber cell) argument = option_map (λ value. MoveNumber cell value) (number_argument argument)
moved OfLimit argument = option_map (λ limit. MoveLimit limit) (limit_argument argument)

-- What a verb's word asks for: no parentheses at all, or the arguments of one verb.
pub data VerbWord : Type 0 where
  Alone : Verb (List ℕ) → VerbWord
  TakesTitle TakesCell TakesDemand TakesLabel TakesOptions EndsProgram : VerbWord

abbrev pub verb_words : List (List ℕ × VerbWord)
verb_words =
    (codes "INITIALZ", Alone Initialz) ∷ (codes "CONVERT", Alone Convert) ∷ (codes "PRIMAL", Alone Primal) ∷ (codes "DUAL", Alone Dual) ∷
    (codes "REVISE", Alone Revise) ∷
    (codes "RANGE", Alone Ranging) ∷ (codes "PARAOBJ", Alone Paraobj) ∷ (codes "PARARHS", Alone Pararhs) ∷ (codes "SOLUTION", Alone Solution) ∷
    (codes "BCDOUT", Alone Bcdout) ∷ (codes "PUNCH", Alone Punch) ∷ (codes "INSERT", Alone Insert) ∷ (codes "EXIT", Alone Exit) ∷ (codes "TITLE", TakesTitle) ∷
    (codes "MOVE", TakesCell) ∷
    (codes "MVADR", TakesDemand) ∷ (codes "GOTO", TakesLabel) ∷ (codes "SETUP", TakesOptions) ∷ (codes "PEND", EndsProgram) ∷ []

-- the verb of a word with its arguments, where these have its form; PEND is no statement
abbrev pub verb_with : VerbWord → Arguments → Option (Verb (List ℕ))
verb_with (Alone verb) Without = Some verb
verb_with TakesTitle (With (text ∷ [])) = option_map (λ title. Title title) (title_argument text)
verb_with TakesCell (With (cell ∷ value ∷ [])) = option_and_then (λ known. moved known value) (named cell_words cell)
verb_with TakesDemand (With (demand ∷ label ∷ [])) =
    option_and_then (λ known. option_map (λ text. Mvadr known text) (label_text label)) (named demand_words demand)
verb_with TakesLabel (With (label ∷ [])) = option_map (λ text. Goto text) (label_text label)
verb_with TakesOptions Without = Some (Setup (options_of []))
verb_with TakesOptions (With arguments) = option_map (λ options. Setup options) (setup_arguments arguments)
verb_with _ _ = None

unfoldable pub verb_of : List ℕ → Option (Verb (List ℕ))
verb_of card =
    let statement = statement_of card in
    option_and_then (λ word. verb_with word (arguments_of statement)) (named verb_words (verb_word statement))
