-- A program that cards compile to moves names alone to the cells of names.
use Rattle.std.proofs.Common.{◌≡◌, ℕ, zero, suc, Bool, true, false, cond, List, [], ◌∷◌, Option, Some, None, Ok, refl, subst}
use Rattle.std.specs.List.{AllByRecursion, cons_option, filter_map, slice_get, find}
use Rattle.std.specs.Option.{IfSome, option_map, option_and_then}
use Rattle.std.specs.Prelude.{bytes_eq}
use Rattle.std.proofs.lemmas.Option.{same_Some}
use Rattle.card_definitions.specs.Words.{named, unless}
use Rattle.card_definitions.specs.Cards.{Card, live, numbered_cards}
use Rattle.problem_definitions.specs.Valid.{IsName}
use Rattle.control_definitions.specs.declared.ControlFault.{ControlFault}
use Rattle.control_definitions.specs.declared.NameCell.{NameCell}
use Rattle.control_definitions.specs.Program.{Verb, Initialz, Title, MoveName, MoveNumber, MoveLimit, Mvadr, Goto, Convert, Setup, Primal, Dual, Revise}
use Rattle.control_definitions.specs.Program.{Ranging, Paraobj, Pararhs, Solution, Bcdout, Punch, Insert, Exit, Statement, Program, verb_by}
use Rattle.control_definitions.specs.Statements.{statement_of, verb_word, Arguments, Without, With, Malformed, arguments_of}
use Rattle.control_definitions.specs.Arguments.{if_passes, is_name, quotation, quoted_name, title_argument, number_argument, limit_argument, label_text}
use Rattle.control_definitions.specs.Arguments.{setup_arguments}
use Rattle.control_definitions.specs.Verbs.{Cell, OfName, OfNumber, OfLimit, cell_words, demand_words, moved, VerbWord, Alone, TakesTitle, TakesCell}
use Rattle.control_definitions.specs.Verbs.{TakesDemand, TakesLabel, TakesOptions, EndsProgram, verb_words, verb_with, verb_of}
use Rattle.control_definitions.specs.Compiled.{positioned, statement_on, program_of, control_fault, cards_to_pend, compiled}
use Rattle.control_definitions.proofs.Names.{passes_name}

-- what a verb moves to a cell of names is a name
abbrev pub MovesName : {L : Type 0} → Verb L → Type 0
MovesName (MoveName cell name) = IsName name
MovesName _ = Unit {0}

abbrev pub HasNames : Program → Type 0
HasNames program = AllByRecursion (λ (statement : Statement ℕ). MovesName statement.verb) program.statements

-- ---- values that may be there

mapped : {X Y : Type 0} (P : Y → Type 0) (f : X → Y) (o : Option X) → ((x : X) → P (f x)) → IfSome (option_map f o) P
mapped P f None holds = tt
mapped P f (Some x) holds = holds x

then_holds : {X Y : Type 0} (P : Y → Type 0) (f : X → Option Y) (o : Option X) → ((x : X) → IfSome (f x) P) → IfSome (option_and_then f o) P
then_holds P f None holds = tt
then_holds P f (Some x) holds = holds x

gathered_hold : {X Y : Type 0} (P : Y → Type 0) (f : X → Option Y) (xs : List X) → ((x : X) → IfSome (f x) P) → AllByRecursion P (filter_map f xs)
gathered_hold P f [] holds = tt
gathered_hold P f (x ∷ xs) holds = by (f x) (holds x) (gathered_hold P f xs holds)
  where
    by : (o : Option _) → IfSome o P → AllByRecursion P (filter_map f xs) → AllByRecursion P (cons_option o (filter_map f xs))
    by None first rest = rest
    by (Some y) first rest = (first, rest)

element_holds : {X : Type 0} (P : X → Type 0) (xs : List X) (i : ℕ) (x : X) → AllByRecursion P xs → slice_get xs i ≡ Some x → P x
element_holds P [] i x each e = absurd (cc e)
element_holds P (y ∷ xs) zero x each e = subst P (same_Some y x e) each.0
element_holds P (y ∷ xs) (suc i) x each e = element_holds P xs i x each.1 e

line_holds : {X : Type 0} (P : X → Type 0) (table : List (List ℕ × X)) (word : List ℕ) → AllByRecursion (λ (line : List ℕ × X). P line.1) table →
    IfSome (named table word) P
line_holds P [] word each = tt
line_holds P (line ∷ table) word each = by (bytes_eq line.0 word) (line_holds P table word each.1)
  where
    by : (b : Bool) → IfSome (named table word) P →
        IfSome (option_map (λ (l : List ℕ × _). l.1) (cond b (Some line) (find (λ (l : List ℕ × _). bytes_eq l.0 word) table))) P
    by true rest = each.0
    by false rest = rest

-- ---- names

-- ---- cards

-- a quoted name is a name
quoted : (argument : List ℕ) → IfSome (quoted_name argument) IsName
quoted argument = then_holds IsName (if_passes is_name) (quotation argument) (λ text. by text (is_name text) refl)
  where
    by : (text : List ℕ) (b : Bool) → is_name text ≡ b → IfSome (cond b (Some text) None) IsName
    by text true e = passes_name text e
    by text false e = tt

name_moved : (cell : NameCell) (o : Option (List ℕ)) → IfSome o IsName → IfSome {T = Verb (List ℕ)} (option_map (λ name. MoveName cell name) o) MovesName
name_moved cell None holds = tt
name_moved cell (Some name) holds = holds

moved_named : (cell : Cell) (argument : List ℕ) → IfSome (moved cell argument) MovesName
moved_named (OfName cell) argument = name_moved cell (quoted_name argument) (quoted argument)
moved_named (OfNumber cell) argument = mapped MovesName (λ value. MoveNumber cell value) (number_argument argument) (λ value. tt)
moved_named OfLimit argument = mapped MovesName (λ limit. MoveLimit limit) (limit_argument argument) (λ limit. tt)

abbrev AloneNamed : VerbWord → Type 0
AloneNamed (Alone verb) = MovesName verb
AloneNamed _ = Unit {0}

words_named : (word : List ℕ) → IfSome (named verb_words word) AloneNamed
words_named word =
    line_holds AloneNamed verb_words word (tt, (tt, (tt, (tt, (tt, (tt, (tt, (tt, (tt, (tt, (tt, (tt, (tt, (tt, (tt, (tt, (tt, (tt, (tt, tt)))))))))))))))))))

with_named : (word : VerbWord) (arguments : Arguments) → AloneNamed word → IfSome (verb_with word arguments) MovesName
with_named (Alone verb) Without alone = alone
with_named (Alone verb) Malformed alone = tt
with_named (Alone verb) (With parts) alone = tt
with_named TakesTitle Without alone = tt
with_named TakesTitle Malformed alone = tt
with_named TakesTitle (With []) alone = tt
with_named TakesTitle (With (text ∷ [])) alone = mapped MovesName (λ title. Title title) (title_argument text) (λ title. tt)
with_named TakesTitle (With (text ∷ next ∷ parts)) alone = tt
with_named TakesCell Without alone = tt
with_named TakesCell Malformed alone = tt
with_named TakesCell (With []) alone = tt
with_named TakesCell (With (cell ∷ [])) alone = tt
with_named TakesCell (With (cell ∷ value ∷ [])) alone =
    then_holds MovesName (λ known. moved known value) (named cell_words cell) (λ known. moved_named known value)
with_named TakesCell (With (cell ∷ value ∷ next ∷ parts)) alone = tt
with_named TakesDemand Without alone = tt
with_named TakesDemand Malformed alone = tt
with_named TakesDemand (With []) alone = tt
with_named TakesDemand (With (demand ∷ [])) alone = tt
with_named TakesDemand (With (demand ∷ label ∷ [])) alone =
    then_holds MovesName (λ known. option_map (λ text. Mvadr known text) (label_text label)) (named demand_words demand)
    (λ known. mapped MovesName (λ text. Mvadr known text) (label_text label) (λ text. tt))
with_named TakesDemand (With (demand ∷ label ∷ next ∷ parts)) alone = tt
with_named TakesLabel Without alone = tt
with_named TakesLabel Malformed alone = tt
with_named TakesLabel (With []) alone = tt
with_named TakesLabel (With (label ∷ [])) alone = mapped MovesName (λ text. Goto text) (label_text label) (λ text. tt)
with_named TakesLabel (With (label ∷ next ∷ parts)) alone = tt
with_named TakesOptions Without alone = tt
with_named TakesOptions Malformed alone = tt
with_named TakesOptions (With arguments) alone = mapped MovesName (λ options. Setup options) (setup_arguments arguments) (λ options. tt)
with_named EndsProgram Without alone = tt
with_named EndsProgram Malformed alone = tt
with_named EndsProgram (With parts) alone = tt

said_named : (card : List ℕ) → IfSome (verb_of card) MovesName
unfolding verb_of
said_named card = by (named verb_words (verb_word (statement_of card))) (words_named (verb_word (statement_of card)))
  where
    by : (o : Option VerbWord) → IfSome o AloneNamed → IfSome (option_and_then (λ word. verb_with word (arguments_of (statement_of card))) o) MovesName
    by None alone = tt
    by (Some word) alone = with_named word (arguments_of (statement_of card)) alone

-- ---- programs

by_named : {L K : Type 0} (f : L → K) (verb : Verb L) → MovesName verb → MovesName (verb_by f verb)
by_named f Initialz holds = tt
by_named f (Title text) holds = tt
by_named f (MoveName cell name) holds = holds
by_named f (MoveNumber cell value) holds = tt
by_named f (MoveLimit limit) holds = tt
by_named f (Mvadr demand label) holds = tt
by_named f (Goto label) holds = tt
by_named f Convert holds = tt
by_named f (Setup options) holds = tt
by_named f Primal holds = tt
by_named f Dual holds = tt
by_named f Revise holds = tt
by_named f Ranging holds = tt
by_named f Paraobj holds = tt
by_named f Pararhs holds = tt
by_named f Solution holds = tt
by_named f Bcdout holds = tt
by_named f Punch holds = tt
by_named f Insert holds = tt
by_named f Exit holds = tt

statement_named : (cards : List Card) (card : Card) → IfSome (statement_on cards card) (λ (statement : Statement ℕ). MovesName statement.verb)
statement_named cards card = by (verb_of card.bytes) (said_named card.bytes)
  where
    by : (o : Option (Verb (List ℕ))) → IfSome o MovesName →
        IfSome (option_map (λ verb. record { card = card.number; verb = positioned cards verb }) o) (λ (statement : Statement ℕ). MovesName statement.verb)
    by None holds = tt
    by (Some verb) holds = by_named _ verb holds

program_named : (cards : List Card) → HasNames (program_of cards)
program_named cards = gathered_hold (λ (statement : Statement ℕ). MovesName statement.verb) (statement_on cards) cards (statement_named cards)

made : (fault : Option ControlFault) (program value : Program) → unless fault value ≡ Ok program → value ≡ program
made None program value e = cc
made (Some fault) program value e = cc

-- a program that cards compile to
pub compiled_named : (cards : List (List ℕ)) (program : Program) → compiled cards ≡ Ok program → HasNames program
unfolding compiled
compiled_named cards program e =
    subst HasNames (made (control_fault cards) program (program_of (cards_to_pend (live (numbered_cards cards)))) e)
    (program_named (cards_to_pend (live (numbered_cards cards))))

-- and its statements
pub statement_at : (program : Program) (place : ℕ) (statement : Statement ℕ) → HasNames program → slice_get program.statements place ≡ Some statement →
    MovesName statement.verb
statement_at program place statement names e = element_holds (λ (s : Statement ℕ). MovesName s.verb) program.statements place statement names e
