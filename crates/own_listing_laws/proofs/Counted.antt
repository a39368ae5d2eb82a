-- The counts of a run are small: those of cards, of steps that are allowed, and of variables.
--     AreSmall program             the card of each statement, and each limit that is moved
use Rattle.std.proofs.Common.{◌≡◌, ℕ, zero, suc, ◌+◌, ◌≤◌, Bool, true, false, not, cond, ◌&&◌, ◌||◌, List, [], ◌∷◌, map, length, take, filter, Option, Some}
use Rattle.std.proofs.Common.{None, ℤ, pos, negsuc, ◌==◌, Ok, if◌then◌else◌, refl, subst, arith, leb-true}
use Rattle.std.specs.Prelude.{find, slice_get, bytes_eq, nat_le, nat_lt, codes}
use Rattle.std.specs.List.{AllByRecursion, cons_option, filter_map, position_or_len}
use Rattle.std.specs.Option.{IfSome, option_map, option_and_then}
use Rattle.std.proofs.lemmas.Bool.Decides.{nat_tests}
use Rattle.std.proofs.lemmas.Option.{same_Some}
use Rattle.card_definitions.specs.Words.{named, unless, first_fault, ◌⟹◌}
use Rattle.card_definitions.specs.declared.CardFault.TheVariants.{TooLong}
use Rattle.card_definitions.specs.declared.TheConstants.{MAX_JOB_BYTES, MAX_JOB_CARDS}
use Rattle.card_definitions.specs.Cards.{Card, cards_of, live, numbered_from, numbered_cards, is_skipped, card_fault, job_fault}
use Rattle.lp_definitions.specs.LinearProgram.{LinearProgram, size}
use Rattle.problem_definitions.specs.Problem.{Problem}
use Rattle.problem_definitions.specs.Valid.{IsProblem}
use Rattle.control_definitions.specs.declared.ControlFault.{ControlFault}
use Rattle.control_definitions.specs.declared.TheConstants.{MAX_STEPS}
use Rattle.control_definitions.specs.Program.{Verb, Initialz, Title, MoveName, MoveNumber, MoveLimit, Mvadr, Goto, Convert, Setup, Primal, Dual, Revise}
use Rattle.control_definitions.specs.Program.{Ranging, Paraobj, Pararhs, Solution, Bcdout, Punch, Insert, Exit, Statement, Program, verb_by}
use Rattle.control_definitions.specs.Statements.{statement_of, verb_word, Arguments, Without, With, Malformed, arguments_of}
use Rattle.control_definitions.specs.Arguments.{quoted_name, title_argument, number_argument, steps_of, steps_argument, limit_argument, label_text}
use Rattle.control_definitions.specs.Arguments.{setup_arguments}
use Rattle.control_definitions.specs.Verbs.{Cell, OfName, OfNumber, OfLimit, cell_words, demand_words, moved, VerbWord, Alone, TakesTitle, TakesCell}
use Rattle.control_definitions.specs.Verbs.{TakesDemand, TakesLabel, TakesOptions, EndsProgram, verb_words, verb_with, verb_of}
use Rattle.control_definitions.specs.Compiled.{is_pend, positioned, statement_on, program_of, control_fault, cards_to_pend, compiled}
use Rattle.selection_definitions.specs.Choice.{Choice}
use Rattle.selection_definitions.specs.Selection.{selected}
use Rattle.run_definitions.specs.Answer.{IsProgramOf}
use Rattle.soundness_laws.proofs.Selected.{selected_has_names}
use Rattle.walk_definitions.specs.Words.{max_count}

-- ---- limits on steps

abbrev pub MovesSmall : {L : Type 0} → Verb L → Type 0
MovesSmall (MoveLimit limit) = IfSome limit (λ steps. steps ≤ max_count)
MovesSmall _ = Unit {0}

mapped : {X Y : Type 0} (P : Y → Type 0) (f : X → Y) (o : Option X) → ((x : X) → P (f x)) → IfSome (option_map f o) P
mapped P f None holds = tt
mapped P f (Some x) holds = holds x

then_holds : {X Y : Type 0} (P : Y → Type 0) (f : X → Option Y) (o : Option X) → ((x : X) → IfSome (f x) P) → IfSome (option_and_then f o) P
then_holds P f None holds = tt
then_holds P f (Some x) holds = holds x

steps_count : (n : ℕ) → n ≤ MAX_STEPS → n ≤ max_count
steps_count n small = omega (arith, small)

steps_small : (z : ℤ) (d : ℕ) → IfSome (steps_of z d) (λ steps. steps ≤ max_count)
steps_small (negsuc n) d = tt
steps_small (pos n) d = by (d == 1) (nat_le n MAX_STEPS) refl
  where
    by : (a b : Bool) → nat_le n MAX_STEPS ≡ b → IfSome (if a && b then Some n else None) (λ steps. steps ≤ max_count)
    by true true e = steps_count n (leb-true n MAX_STEPS e)
    by true false e = tt
    by false b e = tt

limit_small : (argument : List ℕ) → IfSome (limit_argument argument) (λ limit. IfSome limit (λ steps. steps ≤ max_count))
limit_small argument = by (bytes_eq argument (codes "'NONE'"))
  where
    some : (o : Option ℕ) → IfSome o (λ steps. steps ≤ max_count) →
        IfSome (option_map {U = Option ℕ} (λ steps. Some steps) o) (λ limit. IfSome limit (λ steps. steps ≤ max_count))
    some None holds = tt
    some (Some n) holds = holds

    by : (b : Bool) →
        IfSome {T = Option ℕ} (if b then Some None else option_map {U = Option ℕ} (λ steps. Some steps) (steps_argument argument))
        (λ limit. IfSome limit (λ steps. steps ≤ max_count))
    by true = tt
    by false =
        some (steps_argument argument)
        (then_holds (λ steps. steps ≤ max_count) (λ value. steps_of value.numerator value.denominator) (number_argument argument)
        (λ value. steps_small value.numerator value.denominator))

limit_moved : (o : Option (Option ℕ)) → IfSome o (λ limit. IfSome limit (λ steps. steps ≤ max_count)) →
    IfSome {T = Verb (List ℕ)} (option_map (λ limit. MoveLimit limit) o) MovesSmall
limit_moved None holds = tt
limit_moved (Some limit) holds = holds

moved_small : (cell : Cell) (argument : List ℕ) → IfSome (moved cell argument) MovesSmall
moved_small (OfName cell) argument = mapped MovesSmall (λ name. MoveName cell name) (quoted_name argument) (λ name. tt)
moved_small (OfNumber cell) argument = mapped MovesSmall (λ value. MoveNumber cell value) (number_argument argument) (λ value. tt)
moved_small OfLimit argument = limit_moved (limit_argument argument) (limit_small argument)

abbrev AloneSmall : VerbWord → Type 0
AloneSmall (Alone verb) = MovesSmall verb
AloneSmall _ = Unit {0}

line_holds : {X : Type 0} (P : X → Type 0) (table : List (List ℕ × X)) (word : List ℕ) → AllByRecursion (λ (line : List ℕ × X). P line.1) table →
    IfSome (named table word) P
line_holds P [] word each = tt
line_holds P (line ∷ table) word each = by (bytes_eq line.0 word) (line_holds P table word each.1)
  where
    by : (b : Bool) → IfSome (named table word) P →
        IfSome (option_map (λ (l : List ℕ × _). l.1) (cond b (Some line) (find (λ (l : List ℕ × _). bytes_eq l.0 word) table))) P
    by true rest = each.0
    by false rest = rest

words_small : (word : List ℕ) → IfSome (named verb_words word) AloneSmall
words_small word =
    line_holds AloneSmall verb_words word (tt, (tt, (tt, (tt, (tt, (tt, (tt, (tt, (tt, (tt, (tt, (tt, (tt, (tt, (tt, (tt, (tt, (tt, (tt, tt)))))))))))))))))))

with_small : (word : VerbWord) (arguments : Arguments) → AloneSmall word → IfSome (verb_with word arguments) MovesSmall
with_small (Alone verb) Without alone = alone
with_small (Alone verb) Malformed alone = tt
with_small (Alone verb) (With parts) alone = tt
with_small TakesTitle Without alone = tt
with_small TakesTitle Malformed alone = tt
with_small TakesTitle (With []) alone = tt
with_small TakesTitle (With (text ∷ [])) alone = mapped MovesSmall (λ title. Title title) (title_argument text) (λ title. tt)
with_small TakesTitle (With (text ∷ next ∷ parts)) alone = tt
with_small TakesCell Without alone = tt
with_small TakesCell Malformed alone = tt
with_small TakesCell (With []) alone = tt
with_small TakesCell (With (cell ∷ [])) alone = tt
with_small TakesCell (With (cell ∷ value ∷ [])) alone =
    then_holds MovesSmall (λ known. moved known value) (named cell_words cell) (λ known. moved_small known value)
with_small TakesCell (With (cell ∷ value ∷ next ∷ parts)) alone = tt
with_small TakesDemand Without alone = tt
with_small TakesDemand Malformed alone = tt
with_small TakesDemand (With []) alone = tt
with_small TakesDemand (With (demand ∷ [])) alone = tt
with_small TakesDemand (With (demand ∷ label ∷ [])) alone =
    then_holds MovesSmall (λ known. option_map (λ text. Mvadr known text) (label_text label)) (named demand_words demand)
    (λ known. mapped MovesSmall (λ text. Mvadr known text) (label_text label) (λ text. tt))
with_small TakesDemand (With (demand ∷ label ∷ next ∷ parts)) alone = tt
with_small TakesLabel Without alone = tt
with_small TakesLabel Malformed alone = tt
with_small TakesLabel (With []) alone = tt
with_small TakesLabel (With (label ∷ [])) alone = mapped MovesSmall (λ text. Goto text) (label_text label) (λ text. tt)
with_small TakesLabel (With (label ∷ next ∷ parts)) alone = tt
with_small TakesOptions Without alone = tt
with_small TakesOptions Malformed alone = tt
with_small TakesOptions (With arguments) alone = mapped MovesSmall (λ options. Setup options) (setup_arguments arguments) (λ options. tt)
with_small EndsProgram Without alone = tt
with_small EndsProgram Malformed alone = tt
with_small EndsProgram (With parts) alone = tt

said_small : (card : List ℕ) → IfSome (verb_of card) MovesSmall
unfolding verb_of
said_small card = by (named verb_words (verb_word (statement_of card))) (words_small (verb_word (statement_of card)))
  where
    by : (o : Option VerbWord) → IfSome o AloneSmall → IfSome (option_and_then (λ word. verb_with word (arguments_of (statement_of card))) o) MovesSmall
    by None alone = tt
    by (Some word) alone = with_small word (arguments_of (statement_of card)) alone

by_small : {L K : Type 0} (f : L → K) (verb : Verb L) → MovesSmall verb → MovesSmall (verb_by f verb)
by_small f Initialz holds = tt
by_small f (Title text) holds = tt
by_small f (MoveName cell name) holds = tt
by_small f (MoveNumber cell value) holds = tt
by_small f (MoveLimit limit) holds = holds
by_small f (Mvadr demand label) holds = tt
by_small f (Goto label) holds = tt
by_small f Convert holds = tt
by_small f (Setup options) holds = tt
by_small f Primal holds = tt
by_small f Dual holds = tt
by_small f Revise holds = tt
by_small f Ranging holds = tt
by_small f Paraobj holds = tt
by_small f Pararhs holds = tt
by_small f Solution holds = tt
by_small f Bcdout holds = tt
by_small f Punch holds = tt
by_small f Insert holds = tt
by_small f Exit holds = tt

-- ---- cards

abbrev HasSmallCards : List Card → Type 0
HasSmallCards cards = AllByRecursion (λ (card : Card). card.number ≤ max_count) cards

numbered_small : (first : ℕ) (cards : List (List ℕ)) → first + length cards ≤ 300000 → HasSmallCards (numbered_from first cards)
numbered_small first [] small = tt
numbered_small first (card ∷ cards) small = (omega (arith, small), numbered_small (first + 1) cards (omega (arith, small)))

filtered_small : (p : Card → Bool) (cards : List Card) → HasSmallCards cards → HasSmallCards (filter p cards)
filtered_small p [] each = tt
filtered_small p (card ∷ cards) each = by (p card) (filtered_small p cards each.1)
  where
    by : (b : Bool) → HasSmallCards (filter p cards) → HasSmallCards (cond b (card ∷ filter p cards) (filter p cards))
    by true rest = (each.0, rest)
    by false rest = rest

taken_small : (n : ℕ) (cards : List Card) → HasSmallCards cards → HasSmallCards (take n cards)
taken_small zero cards each = tt
taken_small (suc n) [] each = tt
taken_small (suc n) (card ∷ cards) each = (each.0, taken_small n cards each.1)

to_pend_small : (cards : List Card) → HasSmallCards cards → HasSmallCards (cards_to_pend cards)
to_pend_small [] each = tt
to_pend_small (card ∷ cards) each = (each.0, taken_small (position_or_len (λ other. is_pend other.bytes) cards + 1) cards each.1)

-- ---- statements

abbrev IsSmall : Statement ℕ → Type 0
IsSmall statement = (statement.card ≤ max_count) × MovesSmall statement.verb

abbrev pub AreSmall : Program → Type 0
AreSmall program = AllByRecursion IsSmall program.statements

statement_small : (cards : List Card) (card : Card) → card.number ≤ max_count → IfSome (statement_on cards card) IsSmall
statement_small cards card small = by (verb_of card.bytes) (said_small card.bytes)
  where
    by : (o : Option (Verb (List ℕ))) → IfSome o MovesSmall →
        IfSome (option_map (λ verb. record { card = card.number; verb = positioned cards verb }) o) IsSmall
    by None holds = tt
    by (Some verb) holds = (small, by_small _ verb holds)

gathered_small : (all cards : List Card) → HasSmallCards cards → AllByRecursion IsSmall (filter_map (statement_on all) cards)
gathered_small all [] each = tt
gathered_small all (card ∷ cards) each = by (statement_on all card) (statement_small all card each.0) (gathered_small all cards each.1)
  where
    by : (o : Option (Statement ℕ)) → IfSome o IsSmall → AllByRecursion IsSmall (filter_map (statement_on all) cards) →
        AllByRecursion IsSmall (cons_option o (filter_map (statement_on all) cards))
    by None first rest = rest
    by (Some statement) first rest = (first, rest)

made : (fault : Option ControlFault) (program value : Program) → unless fault value ≡ Ok program → value ≡ program
made None program value e = cc
made (Some fault) program value e = cc

compiled_small : (cards : List (List ℕ)) (program : Program) → length cards ≤ 200000 → compiled cards ≡ Ok program → AreSmall program
unfolding compiled
compiled_small cards program few e =
    let all = cards_to_pend (live (numbered_cards cards)) in
    subst AreSmall (made (control_fault cards) program (program_of all) e)
    (gathered_small all all
    (to_pend_small (live (numbered_cards cards))
    (filtered_small (λ card. not (is_skipped card.bytes)) (numbered_cards cards) (numbered_small 1 cards (omega (arith, few))))))

-- a job without a fault has so many cards at most
few_cards : (bytes : List ℕ) → job_fault bytes ≡ None → length (cards_of bytes) ≤ 200000
unfolding job_fault
few_cards bytes none = by (nat_lt MAX_JOB_BYTES (length bytes)) (nat_lt MAX_JOB_CARDS (length (cards_of bytes))) refl none
  where
    not_more : (n : ℕ) → nat_lt 200000 n ≡ false → n ≤ 200000
    not_more n e = grind (arith, nat_tests, e)

    by : (a b : Bool) → nat_lt MAX_JOB_CARDS (length (cards_of bytes)) ≡ b →
        first_fault (((a || b) ⟹ TooLong) ∷ map card_fault (numbered_cards (cards_of bytes))) ≡ None → length (cards_of bytes) ≤ 200000
    by true b e none = absurd (cc none)
    by false true e none = absurd (cc none)
    by false false e none = not_more (length (cards_of bytes)) e

pub program_small : (bytes : List ℕ) (program : Program) → IsProgramOf bytes program → AreSmall program
program_small bytes program is = compiled_small (cards_of bytes) program (few_cards bytes is.is_read) is.is_compiled

element_holds : {X : Type 0} (P : X → Type 0) (xs : List X) (i : ℕ) (x : X) → AllByRecursion P xs → slice_get xs i ≡ Some x → P x
element_holds P [] i x each e = absurd (cc e)
element_holds P (y ∷ xs) zero x each e = subst P (same_Some y x e) each.0
element_holds P (y ∷ xs) (suc i) x each e = element_holds P xs i x each.1 e

pub statement_at : (program : Program) (place : ℕ) (statement : Statement ℕ) → AreSmall program → slice_get program.statements place ≡ Some statement →
    (statement.card ≤ max_count) × MovesSmall statement.verb
statement_at program place statement small e = element_holds IsSmall program.statements place statement small e

-- ---- variables

pub few_variables : (problem : Problem ℕ) (choice : Choice) (lp : LinearProgram) → IsProblem problem → selected problem choice ≡ Ok lp →
    size lp.matrix ≤ max_count
few_variables problem choice lp is e =
    let names = selected_has_names problem choice lp e in
    let rows : length problem.rows ≤ 1000 = is.few_rows in
    let columns : length problem.columns ≤ 5000 = is.few_columns in
    omega (arith, rows, columns, names.rows, names.columns)

pub filter_short : {X : Type 0} (p : X → Bool) (xs : List X) → length (filter p xs) ≤ length xs
filter_short p [] = omega arith
filter_short {X} p (x ∷ xs) = by (p x) (filter_short p xs)
  where
    by : (b : Bool) → length (filter p xs) ≤ length xs → length (cond b (x ∷ filter p xs) (filter p xs)) ≤ length (x ∷ xs)
    by true short = omega (arith, short)
    by false short = omega (arith, short)
