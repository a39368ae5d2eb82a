-- Each control fault, computed.
use Rattle.std.specs.Prelude.{◌≡◌, refl, ℕ, ◌++◌, codes, Option, Some, None, replicate}
use Prim.Native.String.{String}
use Rattle.exact_values.specs.Gcd.{gcd}
use Rattle.exact_values.specs.Rational.{fraction}
use Rattle.card_definitions.specs.Cards.{Card, cards_of}
use Rattle.card_definitions.specs.Numbers.{number_of, number_fault, value_of}
use Rattle.control_definitions.specs.declared.ControlFault.{ControlFault}
use Rattle.control_definitions.specs.declared.ControlFaultKind.TheVariants.{TooManyStatements}
use Rattle.control_definitions.specs.Statements.{label_of, statement_of}
use Rattle.control_definitions.specs.Verbs.{verb_of}
use Rattle.control_definitions.specs.Compiled.{control_fault, control_card_fault}

-- a job of these cards, and one of PROGRAM, these cards and PEND
job_fault : String → Option ControlFault
job_fault text = control_fault (cards_of (codes text))

program_fault : String → Option ControlFault
program_fault text = control_fault (cards_of (codes "         PROGRAM\n" ++ (codes text ++ codes "\n         PEND\n")))

fault : ℕ → ℕ → Option ControlFault
fault number card = Some (record { number = number; card = card })

-- ---- 1: the first card that isn't skipped isn't PROGRAM

no_card : job_fault "" ≡ fault 1 0
unfolding job_fault fault control_fault control_card_fault verb_of label_of statement_of cards_of
no_card = refl

skipped_alone : job_fault "* A\n\n" ≡ fault 1 2
unfolding job_fault fault control_fault control_card_fault verb_of label_of statement_of cards_of
skipped_alone = refl

no_program : job_fault "* A\n         EXIT\n         PEND\n" ≡ fault 1 2
unfolding job_fault fault control_fault control_card_fault verb_of label_of statement_of cards_of
no_program = refl

two_arguments : job_fault "         PROGRAM('A','B')\n         PEND\n" ≡ fault 1 1
unfolding job_fault fault control_fault control_card_fault verb_of label_of statement_of cards_of
two_arguments = refl

unclosed_program : job_fault "         PROGRAM('A\n         PEND\n" ≡ fault 1 1
unfolding job_fault fault control_fault control_card_fault verb_of label_of statement_of cards_of
unclosed_program = refl

label_first : job_fault "NINELONG9 EXIT\n         PEND\n" ≡ fault 4 1
unfolding job_fault fault control_fault control_card_fault verb_of label_of statement_of cards_of
label_first = refl

-- ---- 2 and 6: the job ends before PEND, and a label that no card has

no_pend : job_fault "         PROGRAM\n         EXIT\n\n" ≡ fault 2 3
unfolding job_fault fault control_fault control_card_fault verb_of label_of statement_of cards_of
no_pend = refl

no_label : program_fault "         GOTO(HERE)" ≡ fault 6 2
unfolding program_fault fault control_fault control_card_fault verb_of label_of statement_of cards_of
no_label = refl

no_demand_label : program_fault "         MVADR(XDOUNB,HERE)\n         GOTO(THERE)" ≡ fault 6 2
unfolding program_fault fault control_fault control_card_fault verb_of label_of statement_of cards_of
no_demand_label = refl

label_before_end : job_fault "         PROGRAM\n         GOTO(HERE)\n         EXIT\n" ≡ fault 6 2
unfolding job_fault fault control_fault control_card_fault verb_of label_of statement_of cards_of
label_before_end = refl

end_on_one_card : job_fault "         PROGRAM\n         GOTO(HERE)\n" ≡ fault 2 2
unfolding job_fault fault control_fault control_card_fault verb_of label_of statement_of cards_of
end_on_one_card = refl

label_after_end : program_fault "         GOTO(HERE)\n         PEND\nHERE     EXIT" ≡ fault 6 2
unfolding program_fault fault control_fault control_card_fault verb_of label_of statement_of cards_of
label_after_end = refl

other_fault_first : program_fault "         GOTO(HERE)\n         SOLVE" ≡ fault 3 3
unfolding program_fault fault control_fault control_card_fault verb_of label_of statement_of cards_of
other_fault_first = refl

-- ---- 3: no verb

unknown_verb : program_fault "         SOLVE" ≡ fault 3 2
unfolding program_fault fault control_fault control_card_fault verb_of label_of statement_of cards_of
unknown_verb = refl

label_alone : program_fault "HERE" ≡ fault 3 2
unfolding program_fault fault control_fault control_card_fault verb_of label_of statement_of cards_of
label_alone = refl

second_program : program_fault "         PROGRAM" ≡ fault 3 2
unfolding program_fault fault control_fault control_card_fault verb_of label_of statement_of cards_of
second_program = refl

-- ---- 4 and 5: labels

small_letters : program_fault "here     EXIT" ≡ fault 4 2
unfolding program_fault fault control_fault control_card_fault verb_of label_of statement_of cards_of
small_letters = refl

label_twice : program_fault "A        EXIT\nA        SOLVE" ≡ fault 5 3
unfolding program_fault fault control_fault control_card_fault verb_of label_of statement_of cards_of
label_twice = refl

label_of_program : job_fault "A        PROGRAM\nA        PEND\n" ≡ fault 5 2
unfolding job_fault fault control_fault control_card_fault verb_of label_of statement_of cards_of
label_of_program = refl

-- ---- 7: arguments

name_without_quotes : program_fault "         MOVE(XOBJ,5)" ≡ fault 7 2
unfolding program_fault fault control_fault control_card_fault verb_of label_of statement_of cards_of
name_without_quotes = refl

trailing_blank : program_fault "         MOVE(XRHS,'A ')" ≡ fault 7 2
unfolding program_fault fault control_fault control_card_fault verb_of label_of statement_of cards_of
trailing_blank = refl

nine_bytes : program_fault "         MOVE(XRHS,'123456789')" ≡ fault 7 2
unfolding program_fault fault control_fault control_card_fault verb_of label_of statement_of cards_of
nine_bytes = refl

cell_alone : program_fault "         MOVE(XOBJ)" ≡ fault 7 2
unfolding program_fault fault control_fault control_card_fault verb_of label_of statement_of cards_of
cell_alone = refl

open_parenthesis : program_fault "         MOVE(XOBJ" ≡ fault 7 2
unfolding program_fault fault control_fault control_card_fault verb_of label_of statement_of cards_of
open_parenthesis = refl

after_arguments : program_fault "         EXIT\n         GOTO(A)B" ≡ fault 7 3
unfolding program_fault fault control_fault control_card_fault verb_of label_of statement_of cards_of
after_arguments = refl

no_arguments : program_fault "         EXIT()" ≡ fault 7 2
unfolding program_fault fault control_fault control_card_fault verb_of label_of statement_of cards_of
no_arguments = refl

not_whole : program_fault "         MOVE(XITERLIM,5.)\n         MOVE(XITERLIM,.5)" ≡ fault 7 3
unfolding program_fault fault control_fault control_card_fault verb_of label_of statement_of cards_of number_of number_fault value_of fraction gcd
not_whole = refl

past_a_million : program_fault "         MOVE(XITERLIM,1E6)\n         MOVE(XITERLIM,1000001)" ≡ fault 7 3
unfolding program_fault fault control_fault control_card_fault verb_of label_of statement_of cards_of number_of number_fault value_of fraction gcd
past_a_million = refl

negative_limit : program_fault "         MOVE(XITERLIM,-0)\n         MOVE(XITERLIM,-1)" ≡ fault 7 3
unfolding program_fault fault control_fault control_card_fault verb_of label_of statement_of cards_of number_of number_fault value_of fraction gcd
negative_limit = refl

limit_in_quotes : program_fault "         MOVE(XITERLIM,'SOME')" ≡ fault 7 2
unfolding program_fault fault control_fault control_card_fault verb_of label_of statement_of cards_of number_of number_fault value_of fraction gcd
limit_in_quotes = refl

thirteen_bytes : program_fault "         MOVE(XPARAM,1234567890.1)\n         MOVE(XPARAM,1234567890.12)" ≡ fault 7 3
unfolding program_fault fault control_fault control_card_fault verb_of label_of statement_of cards_of number_of number_fault value_of fraction gcd
thirteen_bytes = refl

no_options : program_fault "         SETUP()" ≡ fault 7 2
unfolding program_fault fault control_fault control_card_fault verb_of label_of statement_of cards_of
no_options = refl

two_senses : program_fault "         SETUP('MIN','BOUND','B','MAX')" ≡ fault 7 2
unfolding program_fault fault control_fault control_card_fault verb_of label_of statement_of cards_of
two_senses = refl

two_bound_sets : program_fault "         SETUP('BOUND','A','BOUND','B')" ≡ fault 7 2
unfolding program_fault fault control_fault control_card_fault verb_of label_of statement_of cards_of
two_bound_sets = refl

set_without_name : program_fault "         SETUP('MIN','RANGE')" ≡ fault 7 2
unfolding program_fault fault control_fault control_card_fault verb_of label_of statement_of cards_of
set_without_name = refl

quote_in_quotes : program_fault "         TITLE('A''B')" ≡ fault 7 2
unfolding program_fault fault control_fault control_card_fault verb_of label_of statement_of cards_of
quote_in_quotes = refl

long_label : program_fault "         GOTO(NINELONG9)" ≡ fault 7 2
unfolding program_fault fault control_fault control_card_fault verb_of label_of statement_of cards_of
long_label = refl

pend_with_argument : program_fault "         PEND('A')" ≡ fault 7 2
unfolding program_fault fault control_fault control_card_fault verb_of label_of statement_of cards_of
pend_with_argument = refl

-- ---- 8 and 9: cells and demands

unknown_cell : program_fault "         MOVE(XFOO,'A')" ≡ fault 8 2
unfolding program_fault fault control_fault control_card_fault verb_of label_of statement_of cards_of
unknown_cell = refl

no_cell : program_fault "         MOVE" ≡ fault 8 2
unfolding program_fault fault control_fault control_card_fault verb_of label_of statement_of cards_of
no_cell = refl

cell_in_quotes : program_fault "         MOVE('XOBJ,',A)" ≡ fault 8 2
unfolding program_fault fault control_fault control_card_fault verb_of label_of statement_of cards_of
cell_in_quotes = refl

unknown_demand : program_fault "         MVADR(XDONE,A)" ≡ fault 9 2
unfolding program_fault fault control_fault control_card_fault verb_of label_of statement_of cards_of
unknown_demand = refl

-- ---- 10: a quote that isn't closed by column 72

unclosed : program_fault "         TITLE('ABC" ≡ fault 10 2
unfolding program_fault fault control_fault control_card_fault verb_of label_of statement_of cards_of
unclosed = refl

-- a quote in column 73, and a parenthesis there
closed_in_column_73 : program_fault "               TITLE('34567890123456789012345678901234567890123456789012')" ≡ fault 10 2
unfolding program_fault fault control_fault control_card_fault verb_of label_of statement_of cards_of
closed_in_column_73 = refl

closed_in_column_72 : program_fault "               TITLE('3456789012345678901234567890123456789012345678901')" ≡ fault 7 2
unfolding program_fault fault control_fault control_card_fault verb_of label_of statement_of cards_of
closed_in_column_72 = refl

unclosed_first : program_fault "         SOLVE('" ≡ fault 10 2
unfolding program_fault fault control_fault control_card_fault verb_of label_of statement_of cards_of
unclosed_first = refl

quote_in_remark : program_fault "         EXIT don't" ≡ None
unfolding program_fault fault control_fault control_card_fault verb_of label_of statement_of cards_of
quote_in_remark = refl

-- ---- 11: too many statements

exit_card : Card
exit_card = record { number = 2; bytes = codes "         EXIT" }

statement_5000 : control_card_fault (replicate 5000 exit_card) exit_card.bytes ≡ None
unfolding control_card_fault verb_of label_of statement_of exit_card
statement_5000 = refl

statement_5001 : control_card_fault (replicate 5001 exit_card) exit_card.bytes ≡ Some TooManyStatements
unfolding control_card_fault verb_of label_of statement_of exit_card
statement_5001 = refl

pend_after_5000 : control_card_fault (replicate 5001 exit_card) (codes "         PEND") ≡ None
unfolding control_card_fault verb_of label_of statement_of exit_card
pend_after_5000 = refl
