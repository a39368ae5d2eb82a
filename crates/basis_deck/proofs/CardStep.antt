-- The tests of a card of a basis deck, and what it adds, by what is known of the cards before it.
use Rattle.std.proofs.Common.{◌≡◌, ℕ, ◌-◌, Bool, true, false, cond, not, ◌||◌, List, [], ◌∷◌, ◌++◌, Option, Some, None, set, replicate, refl, ap, ap₂, sym, ◌∙◌}
use Rattle.std.proofs.Common.{unwrap_or, arith}
use Rattle.std.specs.Prelude.{fold}
use Rattle.std.specs.List.{list_any}
use Rattle.std.specs.Option.{option_or, option_map}
use Rattle.std.proofs.lemmas.List.{append-nil, append_assoc}
use Rattle.std.proofs.lemmas.List.Sums.{fold-append}
use Rattle.std.proofs.lemmas.Grind.{flat_map-append}
use Rattle.lp_definitions.specs.LinearProgram.{LinearProgram, size, IsVariable}
use Rattle.lp_definitions.specs.Basis.{with_status, opening_statuses}
use Rattle.lp_definitions.specs.declared.Status.{Status}
use Rattle.lp_definitions.specs.declared.Status.TheVariants.{Bs}
use Rattle.card_definitions.specs.Words.{named, ◌⟹◌, first_fault}
use Rattle.card_definitions.specs.Cards.{Card}
use Rattle.card_definitions.specs.Fields.{Fixed, Reading, reading_of}
use Rattle.card_definitions.proofs.FirstFaults.{no_first, no_second}
use Rattle.problem_definitions.specs.Problem.{Problem, has_row, has_group}
use Rattle.deck_definitions.specs.declared.DeckFaultKind.{DeckFaultKind}
use Rattle.deck_definitions.specs.declared.DeckFaultKind.TheVariants.{SectionOrder, UnknownRow, UnknownColumn, NamedTwice, NoSuchLimit}
use Rattle.deck_definitions.specs.declared.Section.{Section}
use Rattle.deck_definitions.specs.declared.Section.TheVariants.{Header}
use Rattle.deck_definitions.specs.Sections.{is_section_card, section_word, section_words, section_after, is_section_after}
use Rattle.deck_definitions.specs.Conversion.{section_card_fault, gaps_fault}
use Rattle.deck_definitions.proofs.Steps.{section_after-push}
use Rattle.basis_deck_definitions.specs.declared.Code.{Code}
use Rattle.basis_deck_definitions.specs.declared.Code.TheVariants.{Exchanges, Stands}
use Rattle.basis_deck_definitions.specs.Placings.{code_words, HasNames, Placing, placings_by, row_variable, column_variable}
use Rattle.basis_deck_definitions.specs.Reading.{has_limit_of, is_named_in, filled_after, placings_on, placings_of, stands_for, code_fault, by_code}
use Rattle.basis_deck_definitions.specs.Reading.{basis_card_fault}
use Rattle.basis_deck_laws.proofs.Lawful.{row_is, column_is}
use Rattle.basis_deck.specs.Reading.{marks_of, state_of, is_marked, ends_after, code_test, read_test, fault_at, with_code, with_read, state_with}
use Rattle.basis_deck.proofs.Marks.{unmarked, marked_at, marks_more}

module _ (problem : Problem ℕ) (lp : LinearProgram) (names : HasNames problem lp) where
  abbrev row_placing : Reading → Status → Placing
  row_placing card to = record { variable = row_variable problem card.name2; status = to }

  abbrev column_placing : Reading → Status → Placing
  column_placing card to = record { variable = column_variable problem card.name1; status = to }

  -- a name that is there has a variable
  row_variable_is : (card : Reading) → has_row problem.rows card.name2 ≡ true → IsVariable lp.matrix (row_variable problem card.name2)
  row_variable_is card there = let row = row_is problem lp names card.name2 there in (omega (arith, row.positive), omega (arith, row.at_most))

  column_variable_is : (card : Reading) → has_group problem.columns card.name1 ≡ true → IsVariable lp.matrix (column_variable problem card.name1)
  column_variable_is card there = (column_is problem lp names card.name1 there).1

  -- ---- tests

  code-same : (seen : List Card) (card : Reading) (code : Code) →
      code_fault problem lp (placings_of problem seen) card code ≡ code_test (state_of problem lp seen) card code
  code-same seen card (Exchanges to) = by (has_group problem.columns card.name1) (has_row problem.rows card.name2) refl refl
    where
      tests : Bool → Bool → Bool → Option DeckFaultKind
      tests column row twice = first_fault (
          (not column ⟹ UnknownColumn) ∷ (not row ⟹ UnknownRow) ∷ (twice ⟹ NamedTwice) ∷
          (list_any (λ placing. not (has_limit_of lp placing)) (placings_by problem card (Exchanges to)) ⟹ NoSuchLimit) ∷ filled_after card (Exchanges to) ∷ [])

      twice : Bool
      twice = list_any (is_named_in (placings_of problem seen)) (placings_by problem card (Exchanges to))

      marked : Bool
      marked = list_any (is_marked (marks_of lp (placings_of problem seen))) (placings_by problem card (Exchanges to))

      agree : has_group problem.columns card.name1 ≡ true → has_row problem.rows card.name2 ≡ true
          → list_any (is_named_in (placings_of problem seen)) (placings_by problem card (Exchanges to)) ≡ list_any
          (is_marked (marks_of lp (placings_of problem seen))) (placings_by problem card (Exchanges to))
      agree column row =
          ap₂ (λ c r. c || (r || false)) (sym (marked_at lp (placings_of problem seen) (column_placing card Bs) (column_variable_is card column)))
          (sym (marked_at lp (placings_of problem seen) (row_placing card to) (row_variable_is card row)))

      by : (column row : Bool) → has_group problem.columns card.name1 ≡ column → has_row problem.rows card.name2 ≡ row
          → code_fault problem lp (placings_of problem seen) card (Exchanges to) ≡ code_test (state_of problem lp seen) card (Exchanges to)
      by false row c r = rw c refl
      by true false c r = rw (c, r) refl
      by true true c r = ap (λ b. first_fault (
          (not (has_group problem.columns card.name1) ⟹ UnknownColumn) ∷ (not (has_row problem.rows card.name2) ⟹ UnknownRow) ∷ (b ⟹ NamedTwice) ∷
          (list_any (λ placing. not (has_limit_of lp placing)) (placings_by problem card (Exchanges to)) ⟹ NoSuchLimit) ∷ filled_after card
          (Exchanges to) ∷ [])) (agree c r)
  code-same seen card (Stands at) = by (has_group problem.columns card.name1) refl
    where
      by : (column : Bool) → has_group problem.columns card.name1 ≡ column
          → code_fault problem lp (placings_of problem seen) card (Stands at) ≡ code_test (state_of problem lp seen) card (Stands at)
      by false c = rw c refl
      by true c = ap (λ b. first_fault (
          (not (has_group problem.columns card.name1) ⟹ UnknownColumn) ∷ None ∷ ((b || false) ⟹ NamedTwice) ∷
          (list_any (λ placing. not (has_limit_of lp placing)) (placings_by problem card (Stands at)) ⟹ NoSuchLimit) ∷ filled_after card (Stands at) ∷ []))
          (sym (marked_at lp (placings_of problem seen) (column_placing card at) (column_variable_is card c)))

  read-same : (seen : List Card) (card : Reading) (code : Option Code) →
      by_code problem lp (placings_of problem seen) card code ≡ read_test (state_of problem lp seen) card code
  read-same seen card None = refl
  read-same seen card (Some code) = code-same seen card code

  -- the fault of a card after others is that at the state after them
  pub fault-state : (seen : List Card) (card : List ℕ) → basis_card_fault problem lp seen card ≡ fault_at (state_of problem lp seen) card
  unfolding basis_card_fault
  fault-state seen card =
      ap (λ o. cond (is_section_card card) (section_card_fault ends_after (section_after seen) card)
      (cond (is_section_after Header seen) (option_or (gaps_fault card) (option_or o None)) (Some SectionOrder)))
      (read-same seen (reading_of Fixed card) (named code_words ((reading_of Fixed card).kind)))

  -- ---- one more card

  -- a card with a code without a fault adds its placings
  code-marks : (seen : List Card) (card : Reading) (code : Code) → code_test (state_of problem lp seen) card code ≡ None
      → marks_of lp (placings_of problem seen ++ placings_by problem card code) ≡ (with_code (state_of problem lp seen) card code).marks
  code-marks seen card (Exchanges to) fine =
      let column = passed (has_group problem.columns card.name1) _ _ fine in
      let row = passed (has_row problem.rows card.name2) _ _ (no_second (not (has_group problem.columns card.name1) ⟹ UnknownColumn) _ fine) in
      ap (marks_of lp) (sym (append_assoc (placings_of problem seen) (column_placing card Bs ∷ []) (row_placing card to ∷ [])))
      ∙ marks_more lp (placings_of problem seen ++ column_placing card Bs ∷ []) (row_placing card to) (row_variable_is card row)
      ∙ ap (λ marks. set marks (row_variable problem card.name2 - 1) true)
      (marks_more lp (placings_of problem seen) (column_placing card Bs) (column_variable_is card column))
    where
      passed : (b : Bool) (kind : DeckFaultKind) (rest : Option DeckFaultKind) → option_or (not b ⟹ kind) rest ≡ None → b ≡ true
      passed true kind rest h = refl
      passed false kind rest h = absurd (cc h)
  code-marks seen card (Stands at) fine =
      marks_more lp (placings_of problem seen) (column_placing card at) (column_variable_is card (passed (has_group problem.columns card.name1) _ _ fine))
    where
      passed : (b : Bool) (kind : DeckFaultKind) (rest : Option DeckFaultKind) → option_or (not b ⟹ kind) rest ≡ None → b ≡ true
      passed true kind rest h = refl
      passed false kind rest h = absurd (cc h)

  code-state : (seen : List Card) (card : Reading) (code : Code) (statuses : List Status) (marks : List Bool)
      → statuses ≡ fold (λ s placing. with_status s placing.variable placing.status) (stands_for problem lp seen) (placings_by problem card code)
      → marks ≡ (with_code (state_of problem lp seen) card code).marks
      → record (state_of problem lp seen) { statuses = statuses; marks = marks } ≡ with_code (state_of problem lp seen) card code
  code-state seen card (Exchanges to) statuses marks s m = λ i. record (state_of problem lp seen) { statuses = s i; marks = m i }
  code-state seen card (Stands at) statuses marks s m = λ i. record (state_of problem lp seen) { statuses = s i; marks = m i }

  module _ (seen : List Card) (card : Card) where
    abbrev read : Reading
    read = reading_of Fixed card.bytes

    -- the state after a card that begins this section and says these placings
    said : (section : Option Section) (placings : List Placing) → section_after (seen ++ card ∷ []) ≡ section → placings_on problem card ≡ placings
        → state_of problem lp (seen ++ card ∷ []) ≡ record {
          problem = problem;
          lp = lp;
          section = section;
          statuses = fold (λ s placing. with_status s placing.variable placing.status) (stands_for problem lp seen) placings;
          marks = marks_of lp (placings_of problem seen ++ placings);
        }
    unfolding stands_for
    said section placings s p =
        let all : placings_of problem (seen ++ card ∷ []) ≡ placings_of problem seen ++ placings
        = flat_map-append (placings_on problem) seen (card ∷ []) ∙ ap (λ more. placings_of problem seen ++ more) (append-nil (placings_on problem card) ∙ p) in
        let statuses : stands_for problem lp (seen ++ card ∷ []) ≡ fold (λ (s : List Status) (placing : Placing). with_status s placing.variable placing.status)
        (stands_for problem lp seen) placings
        = ap (fold (λ (s : List Status) (placing : Placing). with_status s placing.variable placing.status) (opening_statuses lp)) all
        ∙ fold-append (λ (s : List Status) (placing : Placing). with_status s placing.variable placing.status) (opening_statuses lp)
        (placings_of problem seen) placings in
        λ i. record { problem = problem; lp = lp; section = s i; statuses = statuses i; marks = marks_of lp (all i) }

    section-is : (b : Bool) → is_section_card card.bytes ≡ b →
        section_after (seen ++ card ∷ []) ≡ option_or (cond b (named section_words (section_word card.bytes)) None) (section_after seen)
    section-is b e = section_after-push seen card ∙ ap (λ b. option_or (cond b (named section_words (section_word card.bytes)) None) (section_after seen)) e

    placings-are : (b : Bool) (code : Option Code) → is_section_card card.bytes ≡ b → named code_words read.kind ≡ code →
        placings_on problem card ≡ cond b [] (unwrap_or (option_map (placings_by problem read) code) [])
    placings-are b code e k = ap₂ (λ b o. cond b [] (unwrap_or (option_map (placings_by problem read) o) [])) e k

    data-step : (code : Option Code) → is_section_card card.bytes ≡ false → named code_words read.kind ≡ code
        → read_test (state_of problem lp seen) read code ≡ None
        → state_of problem lp (seen ++ card ∷ []) ≡ with_read (state_of problem lp seen) read code
    data-step None e k fine =
        said (section_after seen) [] (section-is false e) (placings-are false None e k)
        ∙ ap (λ list. record (state_of problem lp seen) { marks = marks_of lp list }) (append-nil (placings_of problem seen))
    data-step (Some code) e k fine =
        said (section_after seen) (placings_by problem read code) (section-is false e) (placings-are false (Some code) e k)
        ∙ code-state seen read code _ _ refl (code-marks seen read code fine)

    step-by : (b header : Bool) → is_section_card card.bytes ≡ b → cond b (section_card_fault ends_after (section_after seen) card.bytes)
        (cond header (option_or (gaps_fault card.bytes) (option_or (read_test (state_of problem lp seen) read (named code_words read.kind)) None))
        (Some SectionOrder)) ≡ None
        → state_of problem lp (seen ++ card ∷ [])
        ≡ cond b (record (state_of problem lp seen) { section = option_or (cond b (named section_words (section_word card.bytes)) None) (section_after seen) })
        (with_read (state_of problem lp seen) read (named code_words read.kind))
    step-by true header e fine =
        said (option_or (named section_words (section_word card.bytes)) (section_after seen)) [] (section-is true e)
        (placings-are true (named code_words read.kind) e refl)
        ∙ ap (λ list. record
        (state_of problem lp seen) { section = option_or (named section_words (section_word card.bytes)) (section_after seen); marks = marks_of lp list })
        (append-nil (placings_of problem seen))
    step-by false false e fine = absurd (cc fine)
    step-by false true e fine =
        data-step (named code_words read.kind) e refl
        (no_first (read_test (state_of problem lp seen) read (named code_words read.kind)) None (no_second (gaps_fault card.bytes) _ fine))

    -- one more card takes the state one step on
    pub state-step : fault_at (state_of problem lp seen) card.bytes ≡ None →
        state_of problem lp (seen ++ card ∷ []) ≡ state_with (state_of problem lp seen) card.bytes
    state-step fine =
        step-by (is_section_card card.bytes) (is_section_after Header seen) refl fine
        ∙ ap (λ b. cond (is_section_card card.bytes)
        (record (state_of problem lp seen) { section = option_or (cond b (named section_words (section_word card.bytes)) None) (section_after seen) })
        (with_read (state_of problem lp seen) read (named code_words read.kind))) refl

-- after no card
pub nothing_read : (problem : Problem ℕ) (lp : LinearProgram) (section : Option Section) (statuses : List Status) (marks : List Bool) → section ≡ None
    → statuses ≡ opening_statuses lp → marks ≡ replicate (size lp.matrix) false
    → record { problem = problem; lp = lp; section = section; statuses = statuses; marks = marks } ≡ state_of problem lp []
unfolding stands_for
nothing_read problem lp section statuses marks s st m =
    λ i. record { problem = problem; lp = lp; section = s i; statuses = st i; marks = (m ∙ sym (unmarked lp)) i }
