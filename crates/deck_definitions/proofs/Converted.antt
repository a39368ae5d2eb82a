-- What a data deck converts to is a problem.
use Rattle.std.proofs.Common.{◌≡◌, ℕ, Bool, true, false, cond, not, List, [], ◌∷◌, ◌++◌, Option, Some, None, Result, Ok, Err, refl, ap, sym, ◌∙◌, subst}
use Rattle.std.proofs.Common.{unwrap_or, lit≤}
use Rattle.std.specs.List.{IsDistinct, list_all}
use Rattle.std.specs.Option.{option_map, option_or, IfSome}
use Rattle.std.proofs.lemmas.List.{append_assoc, append-nil}
use Rattle.card_definitions.specs.Words.{first_fault, unless, ◌⟹◌}
use Rattle.card_definitions.specs.Cards.{Card, is_printable, is_skipped, live, last_number}
use Rattle.card_definitions.specs.Fields.{reading_of}
use Rattle.card_definitions.proofs.FirstFaults.{no_first, no_second, passes}
use Rattle.problem_definitions.specs.Names.{Name}
use Rattle.problem_definitions.specs.Problem.{Problem}
use Rattle.problem_definitions.specs.Numbering.{numbered}
use Rattle.problem_definitions.specs.Valid.{IsName, IsProblem}
use Rattle.problem_definitions.proofs.Lawful.{IsLawful, lawful-numbered}
use Rattle.deck_definitions.specs.declared.DeckFault.{DeckFault}
use Rattle.deck_definitions.specs.declared.DeckFaultKind.TheVariants.{NoEndata}
use Rattle.deck_definitions.specs.declared.Section.{Section}
use Rattle.deck_definitions.specs.declared.Section.TheVariants.{Header, Rows, Columns, Rhs, Ranges, Bounds, Endata}
use Rattle.deck_definitions.specs.Sections.{is_section_card, section_after, is_section_after}
use Rattle.deck_definitions.specs.declared.Style.{Style}
use Rattle.deck_definitions.specs.DataCards.{style_of, form_on, read_after}
use Rattle.deck_definitions.specs.Described.{described}
use Rattle.deck_definitions.specs.Conversion.{section_card_fault, form_fault, section_fault, data_card_fault, card_fault, first_faulty, deck_fault, deck_name}
use Rattle.deck_definitions.specs.Conversion.{conversion}
use Rattle.deck_definitions.specs.Sections.{may_follow}
use Rattle.deck_definitions.proofs.Steps.{described-data, described-section}
use Rattle.deck_definitions.specs.Steps.{with_card}
use Rattle.deck_definitions.proofs.CardTexts.{columns-name, reading-lawful}
use Rattle.deck_definitions.proofs.Validity.{card-step}
use Rattle.deck_definitions.specs.Readings.{ArePrintableCards}

-- a data card in which no fault was found stands in a section, has its form, and passes its tests
record DataPasses (seen : Problem Name) (style : Style) (section : Option Section) (card : List ℕ) : Type 0 where
  place : Section
  stands : section ≡ Some place
  formed : form_fault style place false card ≡ None
  fine : section_fault seen place (reading_of (form_on style place false card) card) ≡ None

data-passes : (seen : Problem Name) (style : Style) (section : Option Section) (card : List ℕ) → data_card_fault seen style section card ≡ None →
    DataPasses seen style section card
data-passes seen style section card = by section
  where
    in_place : (place : Section)
        → first_fault (form_fault style place false card ∷ section_fault seen place (reading_of (form_on style place false card) card) ∷ []) ≡ None
        → DataPasses seen style (Some place) card
    in_place place h =
        let both = passes (form_fault style place false card ∷ section_fault seen place (reading_of (form_on style place false card) card) ∷ []) h in
        record { place = place; stands = refl; formed = both.0; fine = both.1.0 }

    by : (section : Option Section) → data_card_fault seen style section card ≡ None → DataPasses seen style section card
    by None h = absurd (cc h)
    by (Some Header) h = absurd (cc h)
    by (Some Rows) h = in_place Rows h
    by (Some Columns) h = in_place Columns h
    by (Some Rhs) h = in_place Rhs h
    by (Some Ranges) h = in_place Ranges h
    by (Some Bounds) h = in_place Bounds h
    by (Some Endata) h = in_place Endata h

-- an accepted card keeps what holds of the problem described
accepted-card : (before : List Card) (card : Card) → list_all is_printable card.bytes ≡ true → IsLawful (described [] before) →
    card_fault before card.bytes ≡ None → IsLawful (described [] (before ++ card ∷ []))
unfolding card_fault
accepted-card before card printable lawful fine = by (is_section_card card.bytes) refl fine
  where
    by : (b : Bool) → is_section_card card.bytes ≡ b
        → cond b (section_card_fault may_follow (section_after before) card.bytes)
        (data_card_fault (described [] before) (style_of before) (section_after before) card.bytes) ≡ None
        → IsLawful (described [] (before ++ card ∷ []))
    by true e h = subst IsLawful (sym (described-section [] before card e)) lawful
    by false e h =
        let pass = data-passes (described [] before) (style_of before) (section_after before) card.bytes h in
        let read = reading_of (form_on (style_of before) pass.place false card.bytes) card.bytes in
        let read_so : read_after before card ≡ read =
        ap (λ section. reading_of (form_on (style_of before) (unwrap_or section Header) false card.bytes) card.bytes) pass.stands in
        subst IsLawful
        (sym (described-data [] before card pass.place e pass.stands ∙ ap (λ reading. with_card pass.place reading (described [] before)) read_so))
        (card-step (described [] before) lawful read (reading-lawful pass.place false card.bytes (style_of before) printable pass.formed) pass.place pass.fine)

no_kind : {A B : Type 0} (f : A → B) (o : Option A) → option_map f o ≡ None → o ≡ None
no_kind f None h = refl
no_kind f (Some x) h = absurd (cc h)

accepted-cards : (before after : List Card) → ArePrintableCards after → IsLawful (described [] before) → first_faulty card_fault before after ≡ None →
    IsLawful (described [] (before ++ after))
accepted-cards before [] printable lawful fine = subst (λ cards. IsLawful (described [] cards)) (sym (append-nil before)) lawful
accepted-cards before (card ∷ after) printable lawful fine =
    let kind =
    no_first (option_map (λ kind. record { card = card.number; kind = kind }) (card_fault before card.bytes))
    (first_faulty card_fault (before ++ card ∷ []) after) fine in
    let rest =
    no_second (option_map (λ kind. record { card = card.number; kind = kind }) (card_fault before card.bytes))
    (first_faulty card_fault (before ++ card ∷ []) after) fine in
    let step =
    accepted-card before card printable.0 lawful (no_kind (λ kind. record { card = card.number; kind = kind }) (card_fault before card.bytes) kind) in
    subst (λ cards. IsLawful (described [] cards)) (append_assoc before (card ∷ []) after) (accepted-cards (before ++ card ∷ []) after printable.1 step rest)

-- no cards describe a lawful problem
nothing : IsLawful (described [] [])
unfolding described IsDistinct
nothing = record {
  row_labels = tt;
  rows_distinct = tt;
  parts = tt;
  columns = record { names = tt; distinct = tt; items = tt };
  rhs = record { names = tt; distinct = tt; items = tt };
  ranges = record { names = tt; distinct = tt; items = tt };
  bounds = record { names = tt; distinct = tt; items = tt };
  few_rows = lit≤ tt;
  few_columns = lit≤ tt;
  few_entries = lit≤ tt;
}

-- the problem's name decides nothing
renamed : (name : Name) (cards : List Card) → IsLawful (described [] cards) → IsLawful (described name cards)
unfolding described
renamed name cards lawful = record {
  row_labels = lawful.row_labels;
  rows_distinct = lawful.rows_distinct;
  parts = lawful.parts;
  columns = lawful.columns;
  rhs = lawful.rhs;
  ranges = lawful.ranges;
  bounds = lawful.bounds;
  few_rows = lawful.few_rows;
  few_columns = lawful.few_columns;
  few_entries = lawful.few_entries;
}

-- The cards in which no fault was found describe a problem.
pub described-problem : (name : Name) (cards : List Card) → IsName name → ArePrintableCards cards → first_faulty card_fault [] cards ≡ None →
    IsProblem (numbered (described name cards))
unfolding described
described-problem name cards named printable fine =
    lawful-numbered (described name cards) named (renamed name cards (accepted-cards [] cards printable nothing fine))

pub printable_live : (cards : List Card) → ArePrintableCards cards → ArePrintableCards (live cards)
printable_live [] printable = tt
printable_live (card ∷ cards) printable = by (is_skipped card.bytes) (printable_live cards printable.1)
  where
    by : (b : Bool) → ArePrintableCards (live cards) → ArePrintableCards (cond (not b) (card ∷ live cards) (live cards))
    by true rest = rest
    by false rest = (printable.0, rest)

-- the name of a deck is a name
pub deck_name-name : (cards : List Card) → ArePrintableCards cards → IsName (deck_name cards)
deck_name-name [] printable = record { short = lit≤ tt; printable = refl; trimmed = refl }
deck_name-name (card ∷ cards) printable = columns-name 15 22 card.bytes (lit≤ tt) printable.0

-- What a deck of printable cards converts to, under a name or its own, is a problem.
pub conversion-problem : (deck : List Card) (name : Option Name) (problem : Problem ℕ) → ArePrintableCards deck → IfSome name IsName →
    conversion deck name ≡ Ok problem → IsProblem problem
unfolding conversion deck_fault
conversion-problem deck name problem printable named converted = by (first_faulty card_fault [] (live deck)) refl converted
  where
    given : IsName (unwrap_or name (deck_name (live deck)))
    given = by_name name named
      where
        by_name : (o : Option Name) → IfSome o IsName → IsName (unwrap_or o (deck_name (live deck)))
        by_name None h = deck_name-name (live deck) (printable_live deck printable)
        by_name (Some n) h = h

    made : Problem ℕ
    made = numbered (described (unwrap_or name (deck_name (live deck))) (live deck))

    unended : DeckFault
    unended = record { card = last_number deck; kind = NoEndata }

    value_or : Result (Problem ℕ) DeckFault → Problem ℕ
    value_or (Ok p) = p
    value_or (Err fault) = made

    by : (o : Option DeckFault) → first_faulty card_fault [] (live deck) ≡ o
        → unless (option_or o (option_or (not (is_section_after Endata (live deck)) ⟹ unended) None)) made ≡ Ok problem → IsProblem problem
    by (Some fault) e h = absurd (cc h)
    by None e h = last (not (is_section_after Endata (live deck))) h
      where
        last : (b : Bool) → unless (option_or (b ⟹ unended) None) made ≡ Ok problem → IsProblem problem
        last true h = absurd (cc h)
        last false h =
            subst IsProblem (ap value_or h) (described-problem (unwrap_or name (deck_name (live deck))) (live deck) given (printable_live deck printable) e)
