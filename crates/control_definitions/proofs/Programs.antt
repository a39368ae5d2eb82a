-- Control programs without a fault, computed.
use Rattle.std.specs.Prelude.{◌≡◌, refl, ℕ, List, [], ◌∷◌, ◌++◌, codes, Option, Some, None, Result, Ok, option_map, pos, negsuc, ℤ}
use Prim.Native.String.{String}
use Rattle.exact_values.specs.Gcd.{gcd}
use Rattle.exact_values.specs.Rational.{ℚ, fraction}
use Rattle.lp_definitions.specs.declared.Sense.TheVariants.{Min, Max}
use Rattle.card_definitions.specs.Cards.{cards_of}
use Rattle.card_definitions.specs.Numbers.{number_of, number_fault, value_of}
use Rattle.control_definitions.specs.declared.ControlFault.{ControlFault}
use Rattle.control_definitions.specs.declared.NameCell.TheVariants.{Xdata, Xpbname, Xobj, Xrhs, Xoldname, Xchrow, Xchcol}
use Rattle.control_definitions.specs.declared.Demand.TheVariants.{Xdonfs, Xdounb}
use Rattle.control_definitions.specs.Program.{Verb, Initialz, Title, MoveName, MoveNumber, MoveLimit, Mvadr, Goto, Convert, Setup, Primal, Revise, Ranging}
use Rattle.control_definitions.specs.Program.{Paraobj, Pararhs, Solution, Bcdout, Exit, Program}
use Rattle.control_definitions.specs.Statements.{label_of, statement_of}
use Rattle.control_definitions.specs.Verbs.{verb_of}
use Rattle.control_definitions.specs.Compiled.{control_fault, control_card_fault, compiled}

program : String → Result Program ControlFault
program text = compiled (cards_of (codes text))

-- what a card with this statement says
said : String → Option (Verb (List ℕ))
said text = verb_of (codes "         " ++ codes text)

options : Option (List ℕ) → Option (List ℕ) → Option (Verb (List ℕ))
options bound range = Some (Setup (record { bound = bound; range = range; sense = Max }))

-- ---- whole programs

first_run : program
    "         PROGRAM\n         TITLE('FIRST RUN') a remark\n* skipped\n         GOTO(LAST)\n         SETUP('MAX','BOUND','A, B')\nLAST     EXIT\n         PEND\n"
    ≡ Ok (record {
      statements =
          record { card = 2; verb = Title (codes "FIRST RUN") } ∷
          record { card = 4; verb = Goto 4 } ∷
          record { card = 5; verb = Setup (record { bound = Some (codes "A, B"); range = None; sense = Max }) } ∷
          record { card = 6; verb = Exit } ∷ [];
      decks_from = 8;
    })
unfolding program compiled control_fault control_card_fault verb_of label_of statement_of cards_of
first_run = refl

-- a label on PROGRAM stands for the first statement, and one on PEND for the end
labels_at_the_ends : program
    "\nSTART    PROGRAM('A, B')\nLOOP     MVADR(XDONFS,END)\n         MVADR(XDOUNB,LOOP)\n         GOTO(START)\nEND      PEND\nNAME          A\n" ≡ Ok (record {
      statements =
          record { card = 3; verb = Mvadr Xdonfs 4 } ∷
          record { card = 4; verb = Mvadr Xdounb 1 } ∷
          record { card = 5; verb = Goto 1 } ∷ [];
      decks_from = 7;
    })
unfolding program compiled control_fault control_card_fault verb_of label_of statement_of cards_of
labels_at_the_ends = refl

no_statement : program "P        PROGRAM\n         PEND" ≡ Ok (record { statements = []; decks_from = 3 })
unfolding program compiled control_fault control_card_fault verb_of label_of statement_of cards_of
no_statement = refl

all_plain_verbs : program
    "         PROGRAM\n         INITIALZ\n         CONVERT\n         SETUP\n         PRIMAL\n         REVISE\n         RANGE\n         PARAOBJ\n         PARARHS\n         SOLUTION\n         BCDOUT\n         EXIT\n         PEND\n"
    ≡ Ok (record {
      statements =
          record { card = 2; verb = Initialz } ∷
          record { card = 3; verb = Convert } ∷
          record { card = 4; verb = Setup (record { bound = None; range = None; sense = Min }) } ∷
          record { card = 5; verb = Primal } ∷
          record { card = 6; verb = Revise } ∷
          record { card = 7; verb = Ranging } ∷
          record { card = 8; verb = Paraobj } ∷
          record { card = 9; verb = Pararhs } ∷
          record { card = 10; verb = Solution } ∷
          record { card = 11; verb = Bcdout } ∷
          record { card = 12; verb = Exit } ∷ [];
      decks_from = 14;
    })
unfolding program compiled control_fault control_card_fault verb_of label_of statement_of cards_of
all_plain_verbs = refl

all_name_cells : program
    "         PROGRAM\n         MOVE(XDATA,'A')\n         MOVE(XPBNAME,' B')\n         MOVE(XOLDNAME,'12345678')\n         MOVE(XOBJ,'C D')\n         MOVE(XRHS,'')\n         MOVE(XCHROW,',')\n         MOVE(XCHCOL,')')\n         PEND\n"
    ≡ Ok (record {
      statements =
          record { card = 2; verb = MoveName Xdata (codes "A") } ∷
          record { card = 3; verb = MoveName Xpbname (codes " B") } ∷
          record { card = 4; verb = MoveName Xoldname (codes "12345678") } ∷
          record { card = 5; verb = MoveName Xobj (codes "C D") } ∷
          record { card = 6; verb = MoveName Xrhs [] } ∷
          record { card = 7; verb = MoveName Xchrow (codes ",") } ∷
          record { card = 8; verb = MoveName Xchcol (codes ")") } ∷ [];
      decks_from = 10;
    })
unfolding program compiled control_fault control_card_fault verb_of label_of statement_of cards_of
all_name_cells = refl

-- ---- single statements

-- columns 73 to 80 aren't read: the text ends in column 72 with the parenthesis
to_column_72 : verb_of (codes "              TITLE('2345678901234567890123456789012345678901234567890')UNREAD") ≡ Some
    (Title (codes "2345678901234567890123456789012345678901234567890"))
unfolding verb_of label_of statement_of
to_column_72 = refl

sixty_bytes : verb_of (codes "A TITLE('123234567890123456789012345678901234567890123456789034567890')") ≡ Some
    (Title (codes "123234567890123456789012345678901234567890123456789034567890"))
unfolding verb_of label_of statement_of
sixty_bytes = refl

sixty_one_bytes : verb_of (codes "A TITLE('1232345678901234567890123456789012345678901234567890345678901')") ≡ None
unfolding verb_of label_of statement_of
sixty_one_bytes = refl

empty_title : said "TITLE('')" ≡ Some (Title [])
unfolding said verb_of label_of statement_of
empty_title = refl

whole_limit : said "MOVE(XITERLIM,5.)" ≡ Some (MoveLimit (Some 5))
unfolding said verb_of label_of statement_of number_of number_fault value_of fraction gcd
whole_limit = refl

greatest_limit : said "MOVE(XITERLIM,+.1D7)" ≡ Some (MoveLimit (Some 1000000))
unfolding said verb_of label_of statement_of number_of number_fault value_of fraction gcd
greatest_limit = refl

no_limit : said "MOVE(XITERLIM,'NONE')" ≡ Some (MoveLimit None)
unfolding said verb_of label_of statement_of number_of number_fault value_of fraction gcd
no_limit = refl

another_text : said "MOVE(XITERLIM,'SOME')" ≡ None
unfolding said verb_of label_of statement_of number_of number_fault value_of fraction gcd
another_text = refl

no_quotes : said "MOVE(XITERLIM,NONE)" ≡ None
unfolding said verb_of label_of statement_of number_of number_fault value_of fraction gcd
no_quotes = refl

bound_and_range : said "SETUP('BOUND','MIN','MAX','RANGE','BOUND')" ≡ options (Some (codes "MIN")) (Some (codes "BOUND"))
unfolding said options verb_of label_of statement_of
bound_and_range = refl

range_alone : said "SETUP('MAX','RANGE','')" ≡ options None (Some [])
unfolding said options verb_of label_of statement_of
range_alone = refl

-- the value that a statement moves to a number cell
value_moved : Option (Verb (List ℕ)) → Option ℚ
value_moved (Some (MoveNumber cell value)) = Some value
value_moved _ = None

terms : ℚ → ℤ × ℕ
terms value = (value.numerator, value.denominator)

half : option_map terms (value_moved (said "MOVE(XPARAM,-.5)")) ≡ Some (negsuc 0, 2)
unfolding said value_moved terms verb_of label_of statement_of number_of number_fault value_of fraction gcd
half = refl

four : option_map terms (value_moved (said "MOVE(XPARMAX,40E-1)")) ≡ Some (pos 4, 1)
unfolding said value_moved terms verb_of label_of statement_of number_of number_fault value_of fraction gcd
four = refl
