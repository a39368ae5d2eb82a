-- Worked jobs that ask nothing of linear programming, computed from their bytes to their listings. That these are the jobs' runs is
-- shown in `Courses`.
use Rattle.std.specs.Prelude.{◌≡◌, refl, ℕ, List, [], codes, Option, Some, option_map}
use Prim.Native.String.{String}
use Rattle.exact_values.specs.Gcd.{gcd}
use Rattle.exact_values.specs.Rational.{fraction, whole, compare_ℚ}
use Rattle.card_definitions.specs.Cards.{cards_of, job_fault}
use Rattle.card_definitions.specs.Fields.{reading_of}
use Rattle.card_definitions.specs.Numbers.{number_of, number_fault, value_of}
use Rattle.problem_definitions.specs.Numbering.{numbered, by_names}
use Rattle.deck_definitions.specs.Decks.{decks_of, deck_taken}
use Rattle.deck_definitions.specs.Described.{described}
use Rattle.deck_definitions.specs.Conversion.{card_fault, deck_fault, conversion}
use Rattle.deck_definitions.specs.Written.{data_card, written, card_text}
use Rattle.revise_definitions.specs.Revision.{revised, revise_card_fault, revise_fault, revision}
use Rattle.control_definitions.specs.Statements.{label_of, statement_of}
use Rattle.control_definitions.specs.Verbs.{verb_of}
use Rattle.control_definitions.specs.Compiled.{control_fault, control_card_fault, compiled}
use Rattle.selection_definitions.specs.Choice.{selection_fault}
use Rattle.selection_definitions.specs.Selection.{selected}
use Rattle.listing_definitions.specs.Numbers.{digits}
use Rattle.listing_definitions.specs.Listing.{listing}
use Rattle.run_definitions.specs.Verbs.{verb_move}
use Rattle.run_definitions.proofs.Courses.{Course, job_course}

abbrev texts : Course → Option (List ℕ × List ℕ)
texts course = option_map {U = List ℕ × List ℕ} (λ ending. (listing course.reports ending, card_text course.cards)) course.ending

-- the listing and the punch of a job that asks nothing
answer : String → Option (List ℕ × List ℕ)
answer job = texts (job_course (codes job))

empty_job : answer "" ≡ Some (codes "STOP 8 CONTROL FAULT 1 CARD 0\n", [])
unfolding answer job_fault cards_of compiled control_fault control_card_fault verb_of label_of statement_of decks_of deck_taken conversion deck_fault
    card_fault described reading_of number_of number_fault value_of numbered by_names written data_card revision revised revise_fault revise_card_fault
    selected selection_fault verb_move fraction gcd whole compare_ℚ digits
empty_job = refl

program_alone : answer
    "         PROGRAM\n         CONVERT\n         SETUP('BOUND','BND1')\n         PRIMAL\n         SOLUTION\n         EXIT\n         PEND\n"
    ≡ Some (codes "STOP 10 VERB FAULT 1 CARD 2\n", [])
unfolding answer job_fault cards_of compiled control_fault control_card_fault verb_of label_of statement_of decks_of deck_taken conversion deck_fault
    card_fault described reading_of number_of number_fault value_of numbered by_names written data_card revision revised revise_fault revise_card_fault
    selected selection_fault verb_move fraction gcd whole compare_ℚ digits
program_alone = refl

title_and_label : answer "         PROGRAM\n         TITLE('FIRST RUN')\n         GOTO(LAST)\n         SETUP\nLAST     EXIT\n         PEND\n" ≡ Some
    (codes "TITLE FIRST RUN\nEND 0\n", [])
unfolding answer job_fault cards_of compiled control_fault control_card_fault verb_of label_of statement_of decks_of deck_taken conversion deck_fault
    card_fault described reading_of number_of number_fault value_of numbered by_names written data_card revision revised revise_fault revise_card_fault
    selected selection_fault verb_move fraction gcd whole compare_ℚ digits
title_and_label = refl

control_no_label : answer "         PROGRAM\n         GOTO(HERE)\n         PEND\n" ≡ Some (codes "STOP 8 CONTROL FAULT 6 CARD 2\n", [])
unfolding answer job_fault cards_of compiled control_fault control_card_fault verb_of label_of statement_of decks_of deck_taken conversion deck_fault
    card_fault described reading_of number_of number_fault value_of numbered by_names written data_card revision revised revise_fault revise_card_fault
    selected selection_fault verb_move fraction gcd whole compare_ℚ digits
control_no_label = refl

verb_fault_1_line_2 : answer "         PROGRAM\n         CONVERT\n         CONVERT\n         PEND\nNAME          ONE\nROWS\n N  COST\n G  LOW\nCOLUMNS\n    X         COST      1\n    X         LOW       1\nRHS\n    B         LOW       1\nENDATA\n" ≡ Some (codes "CONVERT ONE      ROWS 2 COLUMNS 1 ENTRIES 2\nSTOP 10 VERB FAULT 1 CARD 3\n", [])
unfolding answer job_fault cards_of compiled control_fault control_card_fault verb_of label_of statement_of decks_of deck_taken conversion deck_fault
    card_fault described reading_of number_of number_fault value_of numbered by_names written data_card revision revised revise_fault revise_card_fault
    selected selection_fault verb_move fraction gcd whole compare_ℚ digits
verb_fault_1_line_2 = refl

verb_fault_2_line_1 : answer "         PROGRAM\n         SETUP\n         PEND\nNAME          ONE\nROWS\n N  COST\n G  LOW\nCOLUMNS\n    X         COST      1\n    X         LOW       1\nRHS\n    B         LOW       1\nENDATA\n" ≡ Some (codes "STOP 10 VERB FAULT 2 CARD 2\n", [])
unfolding answer job_fault cards_of compiled control_fault control_card_fault verb_of label_of statement_of decks_of deck_taken conversion deck_fault
    card_fault described reading_of number_of number_fault value_of numbered by_names written data_card revision revised revise_fault revise_card_fault
    selected selection_fault verb_move fraction gcd whole compare_ℚ digits
verb_fault_2_line_1 = refl

verb_fault_3_line_3 : answer "         PROGRAM\n         CONVERT\n         PRIMAL\n         PEND\nNAME          ONE\nROWS\n N  COST\n G  LOW\nCOLUMNS\n    X         COST      1\n    X         LOW       1\nRHS\n    B         LOW       1\nENDATA\n" ≡ Some (codes "CONVERT ONE      ROWS 2 COLUMNS 1 ENTRIES 2\nSTOP 10 VERB FAULT 3 CARD 3\n", [])
unfolding answer job_fault cards_of compiled control_fault control_card_fault verb_of label_of statement_of decks_of deck_taken conversion deck_fault
    card_fault described reading_of number_of number_fault value_of numbered by_names written data_card revision revised revise_fault revise_card_fault
    selected selection_fault verb_move fraction gcd whole compare_ℚ digits
verb_fault_3_line_3 = refl

verb_fault_11_line_4 : answer "         PROGRAM\n         CONVERT\n         MOVE(XOBJ,'LOW')\n         SETUP\n         PEND\nNAME          ONE\nROWS\n N  COST\n G  LOW\nCOLUMNS\n    X         COST      1\n    X         LOW       1\nRHS\n    B         LOW       1\nENDATA\n" ≡ Some (codes "CONVERT ONE      ROWS 2 COLUMNS 1 ENTRIES 2\nSTOP 10 VERB FAULT 11 CARD 4\n", [])
unfolding answer job_fault cards_of compiled control_fault control_card_fault verb_of label_of statement_of decks_of deck_taken conversion deck_fault
    card_fault described reading_of number_of number_fault value_of numbered by_names written data_card revision revised revise_fault revise_card_fault
    selected selection_fault verb_move fraction gcd whole compare_ℚ digits
verb_fault_11_line_4 = refl

verb_fault_12_line_5 : answer "         PROGRAM\n         CONVERT\n         MOVE(XRHS,'Z')\n         SETUP\n         PEND\nNAME          ONE\nROWS\n N  COST\n G  LOW\nCOLUMNS\n    X         COST      1\n    X         LOW       1\nRHS\n    B         LOW       1\nENDATA\n" ≡ Some (codes "CONVERT ONE      ROWS 2 COLUMNS 1 ENTRIES 2\nSTOP 10 VERB FAULT 12 CARD 4\n", [])
unfolding answer job_fault cards_of compiled control_fault control_card_fault verb_of label_of statement_of decks_of deck_taken conversion deck_fault
    card_fault described reading_of number_of number_fault value_of numbered by_names written data_card revision revised revise_fault revise_card_fault
    selected selection_fault verb_move fraction gcd whole compare_ℚ digits
verb_fault_12_line_5 = refl

verb_fault_14_line_6 : answer "         PROGRAM\n         CONVERT\n         SETUP('BOUND','Z')\n         PEND\nNAME          ONE\nROWS\n N  COST\n G  LOW\nCOLUMNS\n    X         COST      1\n    X         LOW       1\nRHS\n    B         LOW       1\nENDATA\n" ≡ Some (codes "CONVERT ONE      ROWS 2 COLUMNS 1 ENTRIES 2\nSTOP 10 VERB FAULT 14 CARD 3\n", [])
unfolding answer job_fault cards_of compiled control_fault control_card_fault verb_of label_of statement_of decks_of deck_taken conversion deck_fault
    card_fault described reading_of number_of number_fault value_of numbered by_names written data_card revision revised revise_fault revise_card_fault
    selected selection_fault verb_move fraction gcd whole compare_ℚ digits
verb_fault_14_line_6 = refl

verb_fault_6_line_7 : answer "         PROGRAM\n         CONVERT\n         SETUP\n         PARAOBJ\n         PEND\nNAME          ONE\nROWS\n N  COST\n G  LOW\nCOLUMNS\n    X         COST      1\n    X         LOW       1\nRHS\n    B         LOW       1\nENDATA\n" ≡ Some (codes "CONVERT ONE      ROWS 2 COLUMNS 1 ENTRIES 2\nSETUP   ONE      MIN\nSTOP 10 VERB FAULT 6 CARD 4\n", [])
unfolding answer job_fault cards_of compiled control_fault control_card_fault verb_of label_of statement_of decks_of deck_taken conversion deck_fault
    card_fault described reading_of number_of number_fault value_of numbered by_names written data_card revision revised revise_fault revise_card_fault
    selected selection_fault verb_move fraction gcd whole compare_ℚ digits
verb_fault_6_line_7 = refl

verb_fault_8_line_8 : answer "         PROGRAM\n         CONVERT\n         SETUP\n         MOVE(XCHROW,'COST')\n         PARAOBJ\n         PEND\nNAME          ONE\nROWS\n N  COST\n G  LOW\nCOLUMNS\n    X         COST      1\n    X         LOW       1\nRHS\n    B         LOW       1\nENDATA\n" ≡ Some (codes "CONVERT ONE      ROWS 2 COLUMNS 1 ENTRIES 2\nSETUP   ONE      MIN\nSTOP 10 VERB FAULT 8 CARD 5\n", [])
unfolding answer job_fault cards_of compiled control_fault control_card_fault verb_of label_of statement_of decks_of deck_taken conversion deck_fault
    card_fault described reading_of number_of number_fault value_of numbered by_names written data_card revision revised revise_fault revise_card_fault
    selected selection_fault verb_move fraction gcd whole compare_ℚ digits
verb_fault_8_line_8 = refl

paraobj_parmax_below : answer "         PROGRAM\n         CONVERT\n         SETUP\n         MOVE(XCHROW,'COST')\n         MOVE(XPARMAX,-1)\n         PARAOBJ\n         PEND\nNAME          ONE\nROWS\n N  COST\n G  LOW\nCOLUMNS\n    X         COST      1\n    X         LOW       1\nRHS\n    B         LOW       1\nENDATA\n" ≡ Some (codes "CONVERT ONE      ROWS 2 COLUMNS 1 ENTRIES 2\nSETUP   ONE      MIN\nSTOP 10 VERB FAULT 9 CARD 6\n", [])
unfolding answer job_fault cards_of compiled control_fault control_card_fault verb_of label_of statement_of decks_of deck_taken conversion deck_fault
    card_fault described reading_of number_of number_fault value_of numbered by_names written data_card revision revised revise_fault revise_card_fault
    selected selection_fault verb_move fraction gcd whole compare_ℚ digits
paraobj_parmax_below = refl

pararhs_no_change_set : answer "         PROGRAM\n         CONVERT\n         SETUP\n         MOVE(XCHCOL,'Z')\n         PARARHS\n         PEND\nNAME          ONE\nROWS\n N  COST\n G  LOW\nCOLUMNS\n    X         COST      1\n    X         LOW       1\nRHS\n    B         LOW       1\nENDATA\n" ≡ Some (codes "CONVERT ONE      ROWS 2 COLUMNS 1 ENTRIES 2\nSETUP   ONE      MIN\nSTOP 10 VERB FAULT 7 CARD 5\n", [])
unfolding answer job_fault cards_of compiled control_fault control_card_fault verb_of label_of statement_of decks_of deck_taken conversion deck_fault
    card_fault described reading_of number_of number_fault value_of numbered by_names written data_card revision revised revise_fault revise_card_fault
    selected selection_fault verb_move fraction gcd whole compare_ℚ digits
pararhs_no_change_set = refl

bcdout_one : answer "         PROGRAM\n         CONVERT\n         BCDOUT\n         EXIT\n         PEND\nNAME          ONE\nROWS\n N  COST\n G  LOW\nCOLUMNS\n    X         COST      1\n    X         LOW       1\nRHS\n    B         LOW       1\nENDATA\n" ≡ Some (codes "CONVERT ONE      ROWS 2 COLUMNS 1 ENTRIES 2\nBCDOUT  ONE      CARDS 10\nEND 0\n", codes "NAME          ONE\nROWS\n N  COST\n G  LOW\nCOLUMNS\n    X         COST      1\n    X         LOW       1\nRHS\n    B         LOW       1\nENDATA\n")
unfolding answer job_fault cards_of compiled control_fault control_card_fault verb_of label_of statement_of decks_of deck_taken conversion deck_fault
    card_fault described reading_of number_of number_fault value_of numbered by_names written data_card revision revised revise_fault revise_card_fault
    selected selection_fault verb_move fraction gcd whole compare_ℚ digits
bcdout_one = refl

revise_delete_row : answer "         PROGRAM\n         CONVERT\n         REVISE\n         EXIT\n         PEND\nNAME          ONE\nROWS\n N  COST\n G  LOW\nCOLUMNS\n    X         COST      1\n    X         LOW       1\nRHS\n    B         LOW       1\nENDATA\nNAME          REV\nROWS\n DELETE\n G  LOW\nENDATA\n" ≡ Some (codes "CONVERT ONE      ROWS 2 COLUMNS 1 ENTRIES 2\nREVISE  REV      ROWS 1 COLUMNS 1 ENTRIES 1\nEND 0\n", [])
unfolding answer job_fault cards_of compiled control_fault control_card_fault verb_of label_of statement_of decks_of deck_taken conversion deck_fault
    card_fault described reading_of number_of number_fault value_of numbered by_names written data_card revision revised revise_fault revise_card_fault
    selected selection_fault verb_move fraction gcd whole compare_ℚ digits
revise_delete_row = refl

revise_delete_missing : answer "         PROGRAM\n         CONVERT\n         REVISE\n         EXIT\n         PEND\nNAME          ONE\nROWS\n N  COST\n G  LOW\nCOLUMNS\n    X         COST      1\n    X         LOW       1\nRHS\n    B         LOW       1\nENDATA\nNAME          REV\nROWS\n DELETE\n G  ZZ\nENDATA\n" ≡ Some (codes "CONVERT ONE      ROWS 2 COLUMNS 1 ENTRIES 2\nSTOP 12 DECK FAULT 23 CARD 19\n", [])
unfolding answer job_fault cards_of compiled control_fault control_card_fault verb_of label_of statement_of decks_of deck_taken conversion deck_fault
    card_fault described reading_of number_of number_fault value_of numbered by_names written data_card revision revised revise_fault revise_card_fault
    selected selection_fault verb_move fraction gcd whole compare_ℚ digits
revise_delete_missing = refl

revise_unknown_action : answer "         PROGRAM\n         CONVERT\n         REVISE\n         EXIT\n         PEND\nNAME          ONE\nROWS\n N  COST\n G  LOW\nCOLUMNS\n    X         COST      1\n    X         LOW       1\nRHS\n    B         LOW       1\nENDATA\nNAME          REV\nROWS\n CHANGE\n G  LOW\nENDATA\n" ≡ Some (codes "CONVERT ONE      ROWS 2 COLUMNS 1 ENTRIES 2\nSTOP 12 DECK FAULT 21 CARD 18\n", [])
unfolding answer job_fault cards_of compiled control_fault control_card_fault verb_of label_of statement_of decks_of deck_taken conversion deck_fault
    card_fault described reading_of number_of number_fault value_of numbered by_names written data_card revision revised revise_fault revise_card_fault
    selected selection_fault verb_move fraction gcd whole compare_ℚ digits
revise_unknown_action = refl

deck_without_endata : answer "         PROGRAM\n         CONVERT\n         SETUP('BOUND','BND1')\n         PRIMAL\n         SOLUTION\n         EXIT\n         PEND\nNAME          TESTPROB\nROWS\n N  COST\n L  LIM1\n G  LIM2\n E  MYEQN\nCOLUMNS\n    XONE      COST      1              LIM1      1\n    XONE      LIM2      1\n    YTWO      COST      4              LIM1      1\n    YTWO      MYEQN     -1\n    ZTHREE    COST      9              LIM2      1\n    ZTHREE    MYEQN     1\nRHS\n    RHS       LIM1      5              LIM2      10\n    RHS       MYEQN     7\nBOUNDS\n UP BND1      XONE      4\n LO BND1      YTWO      -1\n UP BND1      YTWO      1\n" ≡ Some (codes "STOP 12 DECK FAULT 13 CARD 27\n", [])
unfolding answer job_fault cards_of compiled control_fault control_card_fault verb_of label_of statement_of decks_of deck_taken conversion deck_fault
    card_fault described reading_of number_of number_fault value_of numbered by_names written data_card revision revised revise_fault revise_card_fault
    selected selection_fault verb_move fraction gcd whole compare_ℚ digits
deck_without_endata = refl

deck_number_bad_character : answer "         PROGRAM\n         CONVERT\n         SETUP\n         PRIMAL\n         SOLUTION\n         EXIT\n         PEND\nNAME          T\nROWS\n N  COST\nCOLUMNS\n    X         COST      1.2.3\nENDATA\n" ≡ Some (codes "STOP 12 DECK FAULT 8 CARD 12 NUMBER 2 COLUMN 28\n", [])
unfolding answer job_fault cards_of compiled control_fault control_card_fault verb_of label_of statement_of decks_of deck_taken conversion deck_fault
    card_fault described reading_of number_of number_fault value_of numbered by_names written data_card revision revised revise_fault revise_card_fault
    selected selection_fault verb_move fraction gcd whole compare_ℚ digits
deck_number_bad_character = refl

deck_number_exponent : answer "         PROGRAM\n         CONVERT\n         SETUP\n         PRIMAL\n         SOLUTION\n         EXIT\n         PEND\nNAME          T\nROWS\n N  COST\nCOLUMNS\n    X         COST      1E19\nENDATA\n" ≡ Some (codes "STOP 12 DECK FAULT 8 CARD 12 NUMBER 4\n", [])
unfolding answer job_fault cards_of compiled control_fault control_card_fault verb_of label_of statement_of decks_of deck_taken conversion deck_fault
    card_fault described reading_of number_of number_fault value_of numbered by_names written data_card revision revised revise_fault revise_card_fault
    selected selection_fault verb_move fraction gcd whole compare_ℚ digits
deck_number_exponent = refl

deck_unknown_section : answer "         PROGRAM\n         CONVERT\n         SETUP\n         PRIMAL\n         SOLUTION\n         EXIT\n         PEND\nNAME          T\nROWS\n N  COST\nOBJSENSE\nENDATA\n" ≡ Some (codes "STOP 12 DECK FAULT 2 CARD 11\n", [])
unfolding answer job_fault cards_of compiled control_fault control_card_fault verb_of label_of statement_of decks_of deck_taken conversion deck_fault
    card_fault described reading_of number_of number_fault value_of numbered by_names written data_card revision revised revise_fault revise_card_fault
    selected selection_fault verb_move fraction gcd whole compare_ℚ digits
deck_unknown_section = refl

card_with_tab : answer "         PROGRAM\n         CONVERT\n         SETUP\tX\n         PRIMAL\n         SOLUTION\n         EXIT\n         PEND\nNAME          ONE\nROWS\n N  COST\n G  LOW\nCOLUMNS\n    X         COST      1\n    X         LOW       1\nRHS\n    B         LOW       1\nENDATA\n" ≡ Some (codes "STOP 13 CARD FAULT 4 CARD 3\n", [])
unfolding answer job_fault cards_of compiled control_fault control_card_fault verb_of label_of statement_of decks_of deck_taken conversion deck_fault
    card_fault described reading_of number_of number_fault value_of numbered by_names written data_card revision revised revise_fault revise_card_fault
    selected selection_fault verb_move fraction gcd whole compare_ℚ digits
card_with_tab = refl
