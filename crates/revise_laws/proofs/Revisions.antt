-- What a REVISE deck makes of a lawful problem is lawful.
use Rattle.std.proofs.Common.{◌≡◌, ℕ, Bool, true, false, cond, not, List, [], ◌∷◌, ◌++◌, Option, Some, None, Result, Ok, Err, refl, ap, sym, ◌∙◌, subst}
use Rattle.std.proofs.Common.{unwrap_or}
use Rattle.std.specs.List.{list_all}
use Rattle.std.specs.Option.{option_map, option_or, IfSome}
use Rattle.std.proofs.lemmas.List.{append_assoc, append-nil}
use Rattle.card_definitions.specs.Words.{is_empty, unless, ◌⟹◌}
use Rattle.card_definitions.specs.Cards.{Card, is_printable, live, last_number}
use Rattle.card_definitions.specs.Fields.{Reading, reading_of}
use Rattle.card_definitions.proofs.FirstFaults.{no_first, no_second, passes}
use Rattle.problem_definitions.specs.Names.{Name}
use Rattle.problem_definitions.specs.Problem.{Problem}
use Rattle.problem_definitions.specs.Groups.{in_group}
use Rattle.problem_definitions.specs.Numbering.{numbered, by_names}
use Rattle.problem_definitions.specs.Valid.{IsName, IsProblem}
use Rattle.problem_definitions.proofs.Lawful.{IsLawful, lawful-numbered}
use Rattle.deck_definitions.specs.declared.DeckFault.{DeckFault}
use Rattle.deck_definitions.specs.declared.DeckFaultKind.TheVariants.{NoEndata}
use Rattle.deck_definitions.specs.declared.Section.{Section}
use Rattle.deck_definitions.specs.declared.Section.TheVariants.{Header, Rows, Columns, Rhs, Ranges, Bounds, Endata}
use Rattle.deck_definitions.specs.Sections.{is_section_card, section_after, is_section_after}
use Rattle.deck_definitions.specs.declared.Style.{Style}
use Rattle.deck_definitions.specs.DataCards.{style_of, form_on}
use Rattle.deck_definitions.specs.Conversion.{section_card_fault, form_fault, first_faulty, deck_name}
use Rattle.deck_definitions.proofs.CardTexts.{reading-lawful}
use Rattle.deck_definitions.specs.Readings.{IsReading}
use Rattle.deck_definitions.proofs.Converted.{printable_live, deck_name-name}
use Rattle.deck_definitions.specs.Readings.{ArePrintableCards}
use Rattle.revise_definitions.specs.declared.Action.{Action}
use Rattle.revise_definitions.specs.declared.Action.TheVariants.{Modify, Delete, Before, After}
use Rattle.revise_definitions.specs.Actions.{deletes, is_action_card, action_on, anchor_on, action_after, anchor_after, under_after, edit_in, edit_of}
use Rattle.revise_definitions.specs.Actions.{is_heading}
use Rattle.revise_definitions.specs.Edits.{edited, delete_column, without_row}
use Rattle.revise_definitions.specs.Tests.{action_fault, edit_fault, action_data_fault}
use Rattle.revise_definitions.specs.Revision.{revised, may_come_after, inner_card_fault, revise_card_fault, revise_fault, revision}
use Rattle.revise_definitions.proofs.Steps.{revised-push, with_edit}
use Rattle.revise_laws.proofs.ByNames.{named-lawful}
use Rattle.revise_laws.proofs.RowEdits.{row-modified, row-deleted, row-inserted}
use Rattle.revise_laws.proofs.ColumnEdits.{column-modified, column-deleted, entry-deleted, column-inserted}
use Rattle.revise_laws.proofs.SetEdits.{rhs-modified, rhs-deleted, ranges-modified, ranges-deleted, bounds-modified, bounds-deleted}

module _ (p : Problem Name) (lawful : IsLawful p) where
  columns-deleted : (card : Reading) → IsLawful (edited p (record { section = Columns; action = Delete; anchor = []; under = []; card = card }))
  columns-deleted card = by (is_empty card.name2)
    where
      by : (b : Bool) → IsLawful (cond b (delete_column card.name1 p) (record p { columns = in_group card.name1 (without_row card.name2) p.columns }))
      by true = column-deleted p lawful card.name1
      by false = entry-deleted p lawful card.name1 card.name2

  -- An edit whose tests find no fault keeps a problem lawful.
  pub edit-step : (section : Section) (action : Action) (anchor : Name) (under : List Reading) (card : Reading) → IsReading card
      → edit_fault p section action anchor under card ≡ None
      → IsLawful (edited p (record { section = section; action = action; anchor = anchor; under = under; card = card }))
  edit-step Header action anchor under card reads fine = lawful
  edit-step Rows Modify anchor under card reads fine = row-modified card p lawful reads fine
  edit-step Rows Delete anchor under card reads fine = row-deleted card.name1 p lawful
  edit-step Rows Before anchor under card reads fine =
      row-inserted p lawful (record { section = Rows; action = Before; anchor = anchor; under = under; card = card }) reads fine
  edit-step Rows After anchor under card reads fine =
      row-inserted p lawful (record { section = Rows; action = After; anchor = anchor; under = under; card = card }) reads fine
  edit-step Columns Modify anchor under card reads fine = column-modified p lawful card reads fine
  edit-step Columns Delete anchor under card reads fine = columns-deleted card
  edit-step Columns Before anchor under card reads fine =
      column-inserted p lawful (record { section = Columns; action = Before; anchor = anchor; under = under; card = card }) reads fine
  edit-step Columns After anchor under card reads fine =
      column-inserted p lawful (record { section = Columns; action = After; anchor = anchor; under = under; card = card }) reads fine
  edit-step Rhs Modify anchor under card reads fine = rhs-modified p lawful card reads fine
  edit-step Rhs Delete anchor under card reads fine = rhs-deleted p lawful card
  edit-step Rhs Before anchor under card reads fine = rhs-modified p lawful card reads fine
  edit-step Rhs After anchor under card reads fine = rhs-modified p lawful card reads fine
  edit-step Ranges Modify anchor under card reads fine = ranges-modified p lawful card reads fine
  edit-step Ranges Delete anchor under card reads fine = ranges-deleted p lawful card
  edit-step Ranges Before anchor under card reads fine = ranges-modified p lawful card reads fine
  edit-step Ranges After anchor under card reads fine = ranges-modified p lawful card reads fine
  edit-step Bounds Modify anchor under card reads fine = bounds-modified p lawful card reads fine
  edit-step Bounds Delete anchor under card reads fine = bounds-deleted p lawful card
  edit-step Bounds Before anchor under card reads fine = bounds-modified p lawful card reads fine
  edit-step Bounds After anchor under card reads fine = bounds-modified p lawful card reads fine
  edit-step Endata action anchor under card reads fine = lawful

-- what the tests of a card that begins no section say: it stands in a section, and is an action card or a data card
record InnerPasses (seen : Problem Name) (before : List Card) (section : Option Section) (card : List ℕ) : Type 0 where
  place : Section
  stands : section ≡ Some place
  fine : cond (is_action_card (style_of before) card) (action_fault seen place (action_on (style_of before) card) (anchor_on (style_of before) card))
      (action_data_fault seen (style_of before) place (action_after before) (anchor_after before) (under_after before) card) ≡ None

inner-passes : (seen : Problem Name) (before : List Card) (section : Option Section) (card : List ℕ) → inner_card_fault seen before section card ≡ None →
    InnerPasses seen before section card
inner-passes seen before None card h = absurd (cc h)
inner-passes seen before (Some Header) card h = absurd (cc h)
inner-passes seen before (Some Rows) card h = record { place = Rows; stands = refl; fine = h }
inner-passes seen before (Some Columns) card h = record { place = Columns; stands = refl; fine = h }
inner-passes seen before (Some Rhs) card h = record { place = Rhs; stands = refl; fine = h }
inner-passes seen before (Some Ranges) card h = record { place = Ranges; stands = refl; fine = h }
inner-passes seen before (Some Bounds) card h = record { place = Bounds; stands = refl; fine = h }
inner-passes seen before (Some Endata) card h = record { place = Endata; stands = refl; fine = h }

-- what the tests of a data card say: an action holds for it, it has its form, and it passes that action's tests
record DataPasses (seen : Problem Name) (style : Style) (place : Section) (action : Option Action) (anchor : Name) (under : List Reading)
    (card : List ℕ) : Type 0 where
  by_action : Action
  holds : action ≡ Some by_action
  formed : form_fault style place (deletes by_action) card ≡ None
  fine : edit_fault seen place by_action anchor under (reading_of (form_on style place (deletes by_action) card) card) ≡ None

data-passes : (seen : Problem Name) (style : Style) (place : Section) (action : Option Action) (anchor : Name) (under : List Reading) (card : List ℕ)
    → action_data_fault seen style place action anchor under card ≡ None
    → DataPasses seen style place action anchor under card
data-passes seen style place None anchor under card h = absurd (cc h)
data-passes seen style place (Some action) anchor under card h =
    let both =
    passes (form_fault style place (deletes action) card ∷ edit_fault seen place action anchor under
    (reading_of (form_on style place (deletes action) card) card) ∷ []) h in
    record { by_action = action; holds = refl; formed = both.0; fine = both.1.0 }

-- a section card or an action card edits nothing
no-edit : (before : List Card) (card : Card) → is_heading (style_of before) card.bytes ≡ true → edit_of before card ≡ None
no-edit before card heading = rw heading refl

-- a data card stands for an edit
one-edit : (before : List Card) (card : Card) (section : Section) (action : Action) → is_heading (style_of before) card.bytes ≡ false
    → section_after before ≡ Some section → action_after before ≡ Some action
    → edit_of before card ≡ Some
    (record {
      section = section;
      action = action;
      anchor = anchor_after before;
      under = under_after before;
      card = reading_of
          (form_on (style_of before) section (deletes action) card.bytes) card.bytes;
    })
one-edit before card section action heading stands holds =
    (λ i. cond (heading i) None (edit_in before card (stands i) (holds i)))
    ∙ (λ i. Some (record {
      section = section;
      action = action;
      anchor = anchor_after before;
      under = under_after before;
      card = reading_of (form_on (style_of before) (unwrap_or (stands i) Header) (unwrap_or (option_map deletes (holds i)) false) card.bytes) card.bytes;
    }))

module _ (old : Problem Name) where
  -- an accepted card keeps the revised problem lawful
  accepted-card : (before : List Card) (card : Card) → list_all is_printable card.bytes ≡ true → IsLawful (revised old before) →
      revise_card_fault old before card.bytes ≡ None → IsLawful (revised old (before ++ card ∷ []))
  unfolding revise_card_fault
  accepted-card before card printable lawful fine = subst IsLawful (sym (revised-push old before card)) (by (is_section_card card.bytes) refl fine)
    where
      unedited : is_heading (style_of before) card.bytes ≡ true → IsLawful (with_edit (edit_of before card) (revised old before))
      unedited heading = subst (λ edit. IsLawful (with_edit edit (revised old before))) (sym (no-edit before card heading)) lawful

      inner : is_section_card card.bytes ≡ false → (place : Section) → section_after before ≡ Some place → (b : Bool)
          → is_action_card (style_of before) card.bytes ≡ b
          → cond b (action_fault (revised old before) place (action_on (style_of before) card.bytes) (anchor_on (style_of before) card.bytes))
          (action_data_fault (revised old before) (style_of before) place (action_after before) (anchor_after before)
          (under_after before) card.bytes) ≡ None
          → IsLawful (with_edit (edit_of before card) (revised old before))
      inner e place stands true a h = unedited (rw (e, a) refl)
      inner e place stands false a h =
          let pass = data-passes (revised old before) (style_of before) place (action_after before) (anchor_after before) (under_after before) card.bytes h in
          let form = form_on (style_of before) place (deletes pass.by_action) card.bytes in
          subst (λ edit. IsLawful (with_edit edit (revised old before))) (sym (one-edit before card place pass.by_action (rw (e, a) refl) stands pass.holds))
          (edit-step (revised old before) lawful place pass.by_action (anchor_after before) (under_after before) (reading_of form card.bytes)
          (reading-lawful place (deletes pass.by_action) card.bytes (style_of before) printable pass.formed) pass.fine)

      by : (b : Bool) → is_section_card card.bytes ≡ b
          → cond b (section_card_fault may_come_after (section_after before) card.bytes)
          (inner_card_fault (revised old before) before (section_after before) card.bytes) ≡ None
          → IsLawful (with_edit (edit_of before card) (revised old before))
      by true e h = unedited (rw e refl)
      by false e h =
          let pass = inner-passes (revised old before) before (section_after before) card.bytes h in
          inner e pass.place pass.stands (is_action_card (style_of before) card.bytes) refl pass.fine

  no_kind : {A B : Type 0} (f : A → B) (o : Option A) → option_map f o ≡ None → o ≡ None
  no_kind f None h = refl
  no_kind f (Some x) h = absurd (cc h)

  accepted-cards : (before after : List Card) → ArePrintableCards after → IsLawful (revised old before) →
      first_faulty (revise_card_fault old) before after ≡ None → IsLawful (revised old (before ++ after))
  accepted-cards before [] printable lawful fine = subst (λ cards. IsLawful (revised old cards)) (sym (append-nil before)) lawful
  accepted-cards before (card ∷ after) printable lawful fine =
      let kind =
      no_first (option_map (λ kind. record { card = card.number; kind = kind }) (revise_card_fault old before card.bytes))
      (first_faulty (revise_card_fault old) (before ++ card ∷ []) after) fine in
      let rest =
      no_second (option_map (λ kind. record { card = card.number; kind = kind }) (revise_card_fault old before card.bytes))
      (first_faulty (revise_card_fault old) (before ++ card ∷ []) after) fine in
      let step =
      accepted-card before card printable.0 lawful
      (no_kind (λ kind. record { card = card.number; kind = kind }) (revise_card_fault old before card.bytes) kind) in
      subst (λ cards. IsLawful (revised old cards)) (append_assoc before (card ∷ []) after) (accepted-cards (before ++ card ∷ []) after printable.1 step rest)

  -- the cards in which no fault was found make a lawful problem of a lawful one
  pub revised-lawful : (cards : List Card) → IsLawful old → ArePrintableCards cards → first_faulty (revise_card_fault old) [] cards ≡ None →
      IsLawful (revised old cards)
  unfolding revised
  revised-lawful cards lawful printable fine = accepted-cards [] cards printable lawful fine

-- the problem's name decides nothing
pub renamed : (name : Name) (p : Problem Name) → IsLawful p → IsLawful (record p { name = name })
renamed name p lawful = record {
  row_labels = lawful.row_labels;
  rows_distinct = lawful.rows_distinct;
  parts = lawful.parts;
  columns = lawful.columns;
  rhs = lawful.rhs;
  ranges = lawful.ranges;
  bounds = lawful.bounds;
  few_rows = lawful.few_rows;
  few_columns = lawful.few_columns;
  few_entries = lawful.few_entries;
}

-- What a REVISE deck of printable cards makes of a lawful problem, under a name or its own, is a lawful problem.
pub revision-problem : (old : Problem ℕ) (deck : List Card) (name : Option Name) (new : Problem ℕ) → IsProblem old → ArePrintableCards deck →
    IfSome name IsName → revision old deck name ≡ Ok new → IsProblem new
unfolding revision revise_fault
revision-problem old deck name new is printable named_by revised_to = by (first_faulty (revise_card_fault (by_names old)) [] (live deck)) refl revised_to
  where
    given : IsName (unwrap_or name (deck_name (live deck)))
    given = by_name name named_by
      where
        by_name : (o : Option Name) → IfSome o IsName → IsName (unwrap_or o (deck_name (live deck)))
        by_name None h = deck_name-name (live deck) (printable_live deck printable)
        by_name (Some n) h = h

    made : Problem ℕ
    made = numbered (record (revised (by_names old) (live deck)) { name = unwrap_or name (deck_name (live deck)) })

    unended : DeckFault
    unended = record { card = last_number deck; kind = NoEndata }

    value_or : Result (Problem ℕ) DeckFault → Problem ℕ
    value_or (Ok p) = p
    value_or (Err fault) = made

    by : (o : Option DeckFault) → first_faulty (revise_card_fault (by_names old)) [] (live deck) ≡ o
        → unless (option_or o (option_or (not (is_section_after Endata (live deck)) ⟹ unended) None)) made ≡ Ok new → IsProblem new
    by (Some fault) e h = absurd (cc h)
    by None e h = last (not (is_section_after Endata (live deck))) h
      where
        last : (b : Bool) → unless (option_or (b ⟹ unended) None) made ≡ Ok new → IsProblem new
        last true h = absurd (cc h)
        last false h = subst IsProblem (ap value_or h)
            (lawful-numbered (record (revised (by_names old) (live deck)) { name = unwrap_or name (deck_name (live deck)) }) given
            (renamed (unwrap_or name (deck_name (live deck))) (revised (by_names old) (live deck))
            (revised-lawful (by_names old) (live deck) (named-lawful old is) (printable_live deck printable) e)))
