-- What holds where a card has no fault.
use Rattle.std.proofs.Common.{◌≡◌, ℕ, Bool, true, false, not, ◌&&◌, List, [], ◌∷◌, ◌++◌, Option, Some, None, length, map, refl, ap, ◌∙◌, arith, length-append}
use Rattle.std.proofs.Common.{ltb}
use Rattle.std.specs.Prelude.{◌+◌, is_none, is_some, bytes_eq, codes, option_map, option_to_list, filter_map, unwrap_or}
use Rattle.std.specs.List.{last_or, cons_option}
use Rattle.std.proofs.lemmas.List.{length-map}
use Rattle.std.proofs.lemmas.List.Elements.{filter_map-append}
use Rattle.std.proofs.lemmas.Slice.Eq.{bytes_eq-Decides}
use Rattle.card_definitions.specs.Words.{named, ◌⟹◌, first_fault}
use Rattle.card_definitions.specs.Cards.{Card, last_number}
use Rattle.control_definitions.specs.declared.TheConstants.{MAX_STATEMENTS}
use Rattle.control_definitions.specs.Program.{Verb, Statement}
use Rattle.control_definitions.specs.Statements.{statement_of, is_unclosed, verb_word, arguments_of, Arguments, Without, With, Malformed}
use Rattle.control_definitions.specs.Verbs.{verb_words, cell_words, demand_words, verb_of, verb_with, EndsProgram}
use Rattle.control_definitions.specs.declared.ControlFaultKind.TheVariants.{NoProgram, BadLabel, LabelTwice, Unclosed, UnknownVerb, UnknownCell, UnknownDemand}
use Rattle.control_definitions.specs.declared.ControlFaultKind.TheVariants.{BadArgument, TooManyStatements}
use Rattle.control_definitions.specs.Compiled.{head_fault, is_program, has_verb, is_program_argument, has_bad_label, has_label_twice, lacks_word}
use Rattle.control_definitions.specs.Compiled.{is_lawful_pend, is_pend, control_card_fault}
use Rattle.control_verbs.specs.Views.{statement_view}
use Rattle.control_compiler.specs.Cards.{statement_said}
use Rattle.control_compiler.specs.After.{IsAfter}
use Rattle.control_compiler.specs.declared.draft.Draft.{Draft}

-- where no test finds a fault, each fails
no_fault : (a b c d e f g h : Bool)
    → first_fault
    ((a ⟹ BadLabel) ∷ (b ⟹ LabelTwice) ∷ (c ⟹ Unclosed) ∷ (d ⟹ UnknownVerb) ∷ (e ⟹ UnknownCell) ∷ (f ⟹ UnknownDemand) ∷ (g ⟹ BadArgument) ∷
    (h ⟹ TooManyStatements) ∷ []) ≡ None
    → (a ≡ false) × (b ≡ false) × (g ≡ false) × (h ≡ false)
no_fault true b c d e f g h none = cc none
no_fault false true c d e f g h none = cc none
no_fault false false true d e f g h none = cc none
no_fault false false false true e f g h none = cc none
no_fault false false false false true f g h none = cc none
no_fault false false false false false true g h none = cc none
no_fault false false false false false false true h none = cc none
no_fault false false false false false false false true none = cc none
no_fault false false false false false false false false none = (refl, refl, refl, refl)

-- the tests of a card without a fault
pub record IsFaultless (cards : List Card) (card : List ℕ) : Type 0 where
  pub label : has_bad_label card ≡ false
  pub once : has_label_twice cards card ≡ false
  pub argument : (not (is_lawful_pend card) && is_none (verb_of card)) ≡ false
  pub few : (not (is_pend card) && ltb MAX_STATEMENTS (length cards)) ≡ false

pub faultless : (cards : List Card) (card : List ℕ) → control_card_fault cards card ≡ None → IsFaultless cards card
unfolding control_card_fault
faultless cards card e =
    let each =
    no_fault (has_bad_label card) (has_label_twice cards card) (is_unclosed (statement_of card)) (is_none (named verb_words (verb_word (statement_of card))))
    (lacks_word (codes "MOVE") cell_words card) (lacks_word (codes "MVADR") demand_words card) (not (is_lawful_pend card) && is_none (verb_of card))
    (not (is_pend card) && ltb MAX_STATEMENTS (length cards)) e in
    record { label = each.0; once = each.1; argument = each.2; few = each.3 }

-- PEND is no statement
pub pend_is_no_statement : (card : List ℕ) → is_pend card ≡ true → verb_of card ≡ None
unfolding verb_of
pend_is_no_statement card e =
    let word : verb_word (statement_of card) ≡ codes "PEND" = (bytes_eq-Decides (verb_word (statement_of card)) (codes "PEND")).0 e in
    rw word (by (arguments_of (statement_of card)))
  where
    by : (arguments : Arguments) → verb_with EndsProgram arguments ≡ None
    by Without = refl
    by Malformed = refl
    by (With parts) = refl

-- a lawful PEND is PEND
lawful_is_pend : (card : List ℕ) → is_lawful_pend card ≡ true → is_pend card ≡ true
lawful_is_pend card e =
    let is : statement_of card ≡ codes "PEND" = (bytes_eq-Decides (statement_of card) (codes "PEND")).0 e in
    ap (λ (statement : List ℕ). bytes_eq (verb_word statement) (codes "PEND")) is

-- a card without a fault that isn't PEND says a verb
pub says_verb : (cards : List Card) (card : List ℕ) → IsFaultless cards card → is_pend card ≡ false → is_some (verb_of card) ≡ true
says_verb cards card tests goes_on = by (is_lawful_pend card) (verb_of card) refl tests.argument
  where
    by : {X : Type 0} (t : Bool) (verb : Option X) → is_lawful_pend card ≡ t → (not t && is_none verb) ≡ false → is_some verb ≡ true
    by true verb e argument = cc (lawful_is_pend card e, goes_on)
    by false None e argument = cc argument
    by false (Some verb) e argument = refl

-- a verb on a card of this number
abbrev pub said_on : ℕ → Verb (List ℕ) → Statement (List ℕ)
said_on number verb = record { card = number; verb = verb }

-- how many statements there are with one more card
pub statements_more : (cards : List Card) (card : Card) (old new : Draft) → IsAfter cards old → IsAfter (cards ++ card ∷ []) new
    → length new.statements.items ≡ length old.statements.items + length (option_to_list (verb_of card.bytes))
statements_more cards card old new after more =
    let now : length (map statement_view new.statements.items) ≡ length (filter_map statement_said (cards ++ card ∷ [])) =
    ap (λ (list : List (Statement (List ℕ))). length list) more.statements in
    let then : length (map statement_view old.statements.items) ≡ length (filter_map statement_said cards) =
    ap (λ (list : List (Statement (List ℕ))). length list) after.statements in
    let split : length (filter_map statement_said (cards ++ card ∷ [])) ≡ length (filter_map statement_said cards) + length
    (filter_map statement_said (card ∷ [])) =
    ap (λ (list : List (Statement (List ℕ))). length list) (filter_map-append statement_said cards (card ∷ []))
    ∙ length-append (filter_map statement_said cards) (filter_map statement_said (card ∷ [])) in
    let last : length (filter_map statement_said (card ∷ [])) ≡ length (option_to_list (verb_of card.bytes)) = by (verb_of card.bytes) in
    let kept_new : length (map statement_view new.statements.items) ≡ length new.statements.items = length-map new.statements.items statement_view in
    let kept_old : length (map statement_view old.statements.items) ≡ length old.statements.items = length-map old.statements.items statement_view in
    omega arith
  where
    by : (verb : Option (Verb (List ℕ))) → length (cons_option (option_map (said_on card.number) verb) []) ≡ length (option_to_list verb)
    by None = refl
    by (Some verb) = refl

-- the last number of cards and one more
pub last_number-push : (cards : List Card) (card : Card) → last_number (cards ++ card ∷ []) ≡ card.number
last_number-push cards card = ap (λ last. unwrap_or last 0) (by None cards)
  where
    by : (d : Option ℕ) (cards : List Card) → last_or d (map (λ (card : Card). card.number) (cards ++ card ∷ [])) ≡ Some card.number
    by d [] = refl
    by d (other ∷ cards) = by (Some other.number) cards

-- ---- PROGRAM

no_head_fault : (a b : Bool) → first_fault ((a ⟹ BadLabel) ∷ (not b ⟹ NoProgram) ∷ []) ≡ None → (a ≡ false) × (b ≡ true)
no_head_fault true b none = cc none
no_head_fault false false none = cc none
no_head_fault false true none = (refl, refl)

-- a lawful PROGRAM has no bad label, and is no statement
pub program_is_no_statement : (card : List ℕ) → head_fault card ≡ None → (has_bad_label card ≡ false) × (verb_of card ≡ None)
unfolding verb_of
program_is_no_statement card e =
    let each = no_head_fault (has_bad_label card) (is_program card) e in
    let verb = first_of_two (has_verb (codes "PROGRAM") card) (is_program_argument (arguments_of (statement_of card))) each.1 in
    let word : verb_word (statement_of card) ≡ codes "PROGRAM" = (bytes_eq-Decides (verb_word (statement_of card)) (codes "PROGRAM")).0 verb in
    (each.0, rw word refl)
  where
    first_of_two : (a b : Bool) → (a && b) ≡ true → a ≡ true
    first_of_two true b e = refl
    first_of_two false b e = cc e
