-- What the types of this crate stand for in the definitions.
use Rattle.std.specs.Prelude.{◌≡◌, ℕ, ◌≤◌, false, List, take, drop, IfSome}
use Rattle.card_definitions.specs.Words.{is_empty}
use Rattle.control_definitions.specs.declared.TheConstants.{MAX_STEPS}
use Rattle.control_definitions.specs.Program as program
use Rattle.control_definitions.specs.Verbs as table
use Rattle.control_verbs.specs.declared.verb.Verb.{Verb}
use Rattle.control_verbs.specs.declared.verb.Verb.TheVariants.{Initialz, Title, MoveName, MoveNumber, MoveLimit, Mvadr, Goto, Convert, Setup, Primal, Dual}
use Rattle.control_verbs.specs.declared.verb.Verb.TheVariants.{Revise, Ranging, Paraobj, Pararhs, Solution, Bcdout, Punch, Insert, Exit}
use Rattle.control_verbs.specs.declared.verb.Statement.{Statement}
use Rattle.control_verbs.specs.declared.tables.Cell.{Cell}
use Rattle.control_verbs.specs.declared.tables.Cell.TheVariants.{OfName, OfNumber, OfLimit}
use Rattle.control_verbs.specs.declared.tables.VerbWord.{VerbWord}
use Rattle.control_verbs.specs.declared.tables.VerbWord.TheVariants.{Alone, TakesTitle, TakesCell, TakesDemand, TakesLabel, TakesOptions, EndsProgram}

abbrev pub viewed : {L : Type 0} → Verb L → program.Verb L
viewed Initialz = program.Initialz
viewed (Title text) = program.Title text
viewed (MoveName cell name) = program.MoveName cell name
viewed (MoveNumber cell value) = program.MoveNumber cell value
viewed (MoveLimit limit) = program.MoveLimit limit
viewed (Mvadr demand label) = program.Mvadr demand label
viewed (Goto label) = program.Goto label
viewed Convert = program.Convert
viewed (Setup options) = program.Setup options
viewed Primal = program.Primal
viewed Dual = program.Dual
viewed Revise = program.Revise
viewed Ranging = program.Ranging
viewed Paraobj = program.Paraobj
viewed Pararhs = program.Pararhs
viewed Solution = program.Solution
viewed Bcdout = program.Bcdout
viewed Punch = program.Punch
viewed Insert = program.Insert
viewed Exit = program.Exit

-- a limit that a verb moves, if it is a number, is at most 1,000,000, and the label that it names isn't empty
abbrev pub IsLawful : program.Verb (List ℕ) → Type 0
IsLawful (program.MoveLimit limit) = IfSome limit (λ steps. steps ≤ MAX_STEPS)
IsLawful (program.Mvadr demand label) = is_empty label ≡ false
IsLawful (program.Goto label) = is_empty label ≡ false
IsLawful _ = Unit {0}

abbrev pub statement_view : {L : Type 0} → Statement L → program.Statement L
statement_view statement = record { card = statement.card; verb = viewed statement.verb }

-- ---- the words of the table

abbrev pub cell_view : Cell → table.Cell
cell_view (OfName cell) = table.OfName cell
cell_view (OfNumber cell) = table.OfNumber cell
cell_view OfLimit = table.OfLimit

abbrev pub word_view : VerbWord → table.VerbWord
word_view (Alone verb) = table.Alone (viewed verb)
word_view TakesTitle = table.TakesTitle
word_view TakesCell = table.TakesCell
word_view TakesDemand = table.TakesDemand
word_view TakesLabel = table.TakesLabel
word_view TakesOptions = table.TakesOptions
word_view EndsProgram = table.EndsProgram

abbrev pub alone_view : Verb (List ℕ) → table.VerbWord
alone_view verb = table.Alone (viewed verb)

-- a verb that stands alone is lawful
abbrev pub IsLawfulWord : table.VerbWord → Type 0
IsLawfulWord (table.Alone verb) = IsLawful verb
IsLawfulWord _ = Unit {0}

-- the table of verbs begins with the words of those that stand alone
abbrev pub alone_words : List (List ℕ × table.VerbWord)
alone_words = take 13 table.verb_words

abbrev pub argument_words : List (List ℕ × table.VerbWord)
argument_words = drop 13 table.verb_words
