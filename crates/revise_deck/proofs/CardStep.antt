-- The tests of a card of a REVISE deck, and what it changes, by what is known of the cards before it.
use Rattle.std.proofs.Common.{◌≡◌, ℕ, ◌+◌, Bool, true, false, cond, ◌||◌, List, [], ◌∷◌, ◌++◌, Option, Some, None, map, take, refl, ap, ap₂, sym, ◌∙◌}
use Rattle.std.proofs.Common.{unwrap_or}
use Rattle.std.specs.List.{last_or}
use Rattle.std.specs.Option.{option_or, option_map, option_and_then}
use Rattle.std.proofs.lemmas.List.{map-append}
use Rattle.indexmap.specs.IndexSet.{insert_key}
use Rattle.card_definitions.specs.Words.{named}
use Rattle.card_definitions.specs.Cards.{Card}
use Rattle.card_definitions.specs.Fields.{Reading, reading_of}
use Rattle.problem_definitions.specs.declared.RowKind.{RowKind}
use Rattle.problem_definitions.specs.Names.{Name, same, different}
use Rattle.problem_definitions.specs.Problem.{Problem}
use Rattle.problem_definitions.specs.Parts.{rows_before}
use Rattle.problem_definitions.proofs.Names.{has_name-different, different-push}
use Rattle.deck_definitions.specs.declared.DeckFaultKind.{DeckFaultKind}
use Rattle.deck_definitions.specs.declared.Section.{Section}
use Rattle.deck_definitions.specs.declared.Section.TheVariants.{Header, Rows, Columns, Rhs, Ranges, Bounds, Endata}
use Rattle.deck_definitions.specs.Sections.{is_section_card, section_after, section_words, section_word}
use Rattle.deck_definitions.specs.declared.Style.{Style}
use Rattle.deck_definitions.specs.DataCards.{style_begun, style_of, form_on, combination_kinds, is_card_of}
use Rattle.deck_definitions.specs.Tests.{rows_fault}
use Rattle.deck_definitions.specs.Conversion.{section_card_fault, form_fault}
use Rattle.deck_definitions.proofs.Steps.{section_after-push, style_of-push, style_of-data, last_or-push}
use Rattle.revise_definitions.specs.declared.Action.{Action}
use Rattle.revise_definitions.specs.declared.Action.TheVariants.{Modify, Delete, Before, After}
use Rattle.revise_definitions.specs.Actions.{is_action_card, is_heading, deletes, action_on, anchor_on, action_card_after, action_after, anchor_after}
use Rattle.revise_definitions.specs.Actions.{under_after, edit_in, edit_of}
use Rattle.revise_definitions.specs.Edits.{goes_on, goes_on_row, rows_begun, row_place, edited}
use Rattle.revise_definitions.specs.Tests.{action_fault, edit_fault, action_data_fault}
use Rattle.revise_definitions.specs.Revision.{revised, may_come_after, inner_card_fault, revise_card_fault}
use Rattle.revise_definitions.proofs.Steps.{action_card_after-push, under_after-push, revised-push, with_edit, rows_begun-push}
use Rattle.revise_edits.specs.Summary.{combination_on, under_of, with_card_under, goes_on_from, goes_on_row_from, edited_by}
use Rattle.revise_edits.specs.EditTests.{insert_columns_test, edit_test}
use Rattle.revise_deck.specs.State.{State, state_of, read_at, data_fault, standing_fault, inner_fault, fault_at, problem_in, problem_with, state_with}

-- ---- what is known of the cards under an action

last-mapped : {X Y : Type 0} (f : X → Y) (o : Option X) (xs : List X) → last_or (option_map f o) (map f xs) ≡ option_map f (last_or o xs)
last-mapped f o [] = refl
last-mapped f o (x ∷ xs) = last-mapped f (Some x) xs

goes-same : (anchor : Name) (under : List Reading) (card : Reading) → goes_on under card ≡ goes_on_from (under_of anchor under) card
goes-same anchor under card =
    sym (ap (λ o. unwrap_or (option_map (same card.name1) o) false) (last-mapped (λ (c : Reading). c.name1) None under) ∙ twice (last_or None under))
  where
    twice : (o : Option Reading) →
        unwrap_or (option_map (same card.name1) (option_map (λ (c : Reading). c.name1) o)) false ≡ unwrap_or
        (option_map (λ (before : Reading). same card.name1 before.name1) o) false
    twice None = refl
    twice (Some before) = refl

goes-row-same : (anchor : Name) (under : List Reading) (card : Reading) → goes_on_row under card ≡ goes_on_row_from (under_of anchor under) card
goes-row-same anchor under card = twice (last_or None under)
  where
    made : (kind : Option RowKind) (name : Name) →
        option_map (λ kind. is_card_of kind name card) kind ≡ option_map (λ (made : RowKind × Name). is_card_of made.0 made.1 card)
        (option_map {U = RowKind × Name} (λ kind. (kind, name)) kind)
    made None name = refl
    made (Some kind) name = refl

    twice : (o : Option Reading) →
        unwrap_or (option_and_then (λ (before : Reading). option_map (λ kind. is_card_of kind before.name1 card) (named combination_kinds before.kind)) o) false
        ≡ unwrap_or (option_map (λ (made : RowKind × Name). is_card_of made.0 made.1 card) (option_and_then combination_on o)) false
    twice None = refl
    twice (Some before) = ap (λ o. unwrap_or o false) (made (named combination_kinds before.kind) before.name1)

under-push : (anchor : Name) (under : List Reading) (card : Reading) → under_of anchor (under ++ card ∷ []) ≡ with_card_under (under_of anchor under) card
under-push anchor under card =
    λ i. record {
      anchor = anchor;
      there = there i;
      names = names i;
      last = last i;
      combination = option_and_then combination_on
          (last_or-push None under (Some card) i);
    }
  where
    there : rows_begun (under ++ card ∷ []) ≡ rows_begun under + cond (goes_on_row_from (under_of anchor under) card) 0 1
    there = rows_begun-push under card ∙ ap (λ b. rows_begun under + cond b 0 1) (goes-row-same anchor under card)

    mapped : map (λ (c : Reading). c.name1) (under ++ card ∷ []) ≡ map (λ (c : Reading). c.name1) under ++ card.name1 ∷ []
    mapped = map-append (λ (c : Reading). c.name1) under (card ∷ [])

    names : different (map (λ (c : Reading). c.name1) (under ++ card ∷ [])) ≡ insert_key same (different (map (λ (c : Reading). c.name1) under)) card.name1
    names = ap different mapped ∙ different-push (map (λ (c : Reading). c.name1) under) card.name1
        ∙ ap (λ b. cond b (different (map (λ (c : Reading). c.name1) under)) (different (map (λ (c : Reading). c.name1) under) ++ card.name1 ∷ []))
        (sym (has_name-different card.name1 (map (λ (c : Reading). c.name1) under)))

    last : last_or None (map (λ (c : Reading). c.name1) (under ++ card ∷ [])) ≡ Some card.name1
    last = ap (last_or None) mapped ∙ last_or-push None (map (λ (c : Reading). c.name1) under) (Some card.name1)

-- ---- tests and edits

-- the tests of a card of ROWS under BEFORE or AFTER, if it goes on with a combination or begins a row
abbrev rows_test : Problem Name → Action → Name → List Reading → Reading → Bool → Option DeckFaultKind
rows_test seen action anchor under card goes =
    rows_fault seen goes (cond goes (rows_before card.name1 seen.rows) (take (row_place action anchor under seen.rows) seen.rows)) card

edit-same : (seen : Problem Name) (section : Section) (action : Action) (anchor : Name) (under : List Reading) (card : Reading) →
    edit_fault seen section action anchor under card ≡ edit_test seen section action (under_of anchor under) card
edit-same seen Columns Before anchor under card = ap (λ b. insert_columns_test seen b card) (goes-same anchor under card)
edit-same seen Columns After anchor under card = ap (λ b. insert_columns_test seen b card) (goes-same anchor under card)
edit-same seen Rows Modify anchor under card = refl
edit-same seen Rows Delete anchor under card = refl
edit-same seen Rows Before anchor under card = ap (rows_test seen Before anchor under card) (goes-row-same anchor under card)
edit-same seen Rows After anchor under card = ap (rows_test seen After anchor under card) (goes-row-same anchor under card)
edit-same seen Columns Modify anchor under card = refl
edit-same seen Columns Delete anchor under card = refl
edit-same seen Rhs Modify anchor under card = refl
edit-same seen Rhs Delete anchor under card = refl
edit-same seen Rhs Before anchor under card = refl
edit-same seen Rhs After anchor under card = refl
edit-same seen Ranges Modify anchor under card = refl
edit-same seen Ranges Delete anchor under card = refl
edit-same seen Ranges Before anchor under card = refl
edit-same seen Ranges After anchor under card = refl
edit-same seen Bounds Modify anchor under card = refl
edit-same seen Bounds Delete anchor under card = refl
edit-same seen Bounds Before anchor under card = refl
edit-same seen Bounds After anchor under card = refl
edit-same seen Header action anchor under card = refl
edit-same seen Endata action anchor under card = refl

edited-same : (problem : Problem Name) (section : Section) (action : Action) (anchor : Name) (under : List Reading) (card : Reading)
    → edited problem (record { section = section; action = action; anchor = anchor; under = under; card = card }) ≡ edited_by section action
    (under_of anchor under) card problem
edited-same problem Columns Before anchor under card = rw (goes-same anchor under card) refl
edited-same problem Columns After anchor under card = rw (goes-same anchor under card) refl
edited-same problem Rows Modify anchor under card = refl
edited-same problem Rows Delete anchor under card = refl
edited-same problem Rows Before anchor under card = rw (goes-row-same anchor under card) refl
edited-same problem Rows After anchor under card = rw (goes-row-same anchor under card) refl
edited-same problem Columns Modify anchor under card = refl
edited-same problem Columns Delete anchor under card = refl
edited-same problem Rhs Modify anchor under card = refl
edited-same problem Rhs Delete anchor under card = refl
edited-same problem Rhs Before anchor under card = refl
edited-same problem Rhs After anchor under card = refl
edited-same problem Ranges Modify anchor under card = refl
edited-same problem Ranges Delete anchor under card = refl
edited-same problem Ranges Before anchor under card = refl
edited-same problem Ranges After anchor under card = refl
edited-same problem Bounds Modify anchor under card = refl
edited-same problem Bounds Delete anchor under card = refl
edited-same problem Bounds Before anchor under card = refl
edited-same problem Bounds After anchor under card = refl
edited-same problem Header action anchor under card = refl
edited-same problem Endata action anchor under card = refl

module _ (old : Problem Name) (cards : List Card) where
  -- the state after these cards, but for the section and the action
  abbrev state_in : Option Section → Option Action → State
  state_in section action =
      record {
        style = style_of cards;
        section = section;
        action = action;
        under = under_of (anchor_after cards)
            (under_after cards);
        problem = revised old cards;
      }

  data-same : (section : Section) (s : Option Section) (action : Option Action) (card : List ℕ) →
      action_data_fault (revised old cards) (style_of cards) section action (anchor_after cards) (under_after cards) card ≡ data_fault
      (state_in s action) section card
  data-same section s None card = refl
  data-same section s (Some action) card =
      ap (λ o. option_or (form_fault (style_of cards) section (deletes action) card) (option_or o None))
      (edit-same (revised old cards) section action (anchor_after cards) (under_after cards)
      (reading_of (form_on (style_of cards) section (deletes action) card) card))

  standing-same : (section : Section) (card : List ℕ)
      → cond (is_action_card (style_of cards) card)
      (action_fault (revised old cards) section (action_on (style_of cards) card) (anchor_on (style_of cards) card))
      (action_data_fault (revised old cards) (style_of cards) section (action_after cards) (anchor_after cards) (under_after cards) card)
      ≡ standing_fault (state_in (Some section) (action_after cards)) section card
  standing-same section card =
      ap (cond (is_action_card (style_of cards) card)
      (action_fault (revised old cards) section (action_on (style_of cards) card) (anchor_on (style_of cards) card)))
      (data-same section (Some section) (action_after cards) card)

  inner-same : (section : Option Section) (card : List ℕ) →
      inner_card_fault (revised old cards) cards section card ≡ inner_fault (state_in section (action_after cards)) card
  inner-same None card = refl
  inner-same (Some Header) card = refl
  inner-same (Some Rows) card = standing-same Rows card
  inner-same (Some Columns) card = standing-same Columns card
  inner-same (Some Rhs) card = standing-same Rhs card
  inner-same (Some Ranges) card = standing-same Ranges card
  inner-same (Some Bounds) card = standing-same Bounds card
  inner-same (Some Endata) card = standing-same Endata card

-- the fault of a card after others is that at the state after them
pub fault-state : (old : Problem Name) (cards : List Card) (card : List ℕ) → revise_card_fault old cards card ≡ fault_at (state_of old cards) card
unfolding revise_card_fault
fault-state old cards card =
    ap (cond (is_section_card card) (section_card_fault may_come_after (section_after cards) card)) (inner-same old cards (section_after cards) card)

-- ---- one more card

module _ (old : Problem Name) (cards : List Card) (card : Card) where
  abbrev whole : List Card
  whole = cards ++ card ∷ []

  abbrev st : State
  st = state_of old cards

  abbrev read : Reading
  read = read_at st card.bytes

  state-is : (style : Style) (section : Option Section) (holder : Option Card) (under : List Reading) (problem : Problem Name)
      → style_of whole ≡ style → section_after whole ≡ section → action_card_after whole ≡ holder → under_after whole ≡ under → revised old whole ≡ problem
      → state_of old whole ≡ record {
        style = style;
        section = section;
        action = option_and_then (λ c. action_on style c.bytes) holder;
        under = under_of (unwrap_or (option_and_then (λ c. anchor_on style c.bytes) holder) []) under;
        problem = problem;
      }
  state-is style section holder under problem f s a u p = λ i. record {
    style = f i;
    section = s i;
    action = option_and_then (λ (c : Card). action_on (f i) c.bytes) (a i);
    under = under_of (unwrap_or (option_and_then (λ (c : Card). anchor_on (f i) c.bytes) (a i)) []) (u i);
    problem = p i;
  }

  heading-edits : is_heading (style_of cards) card.bytes ≡ true → revised old whole ≡ revised old cards
  heading-edits h = revised-push old cards card ∙ rw h refl

  data-edits : is_heading (style_of cards) card.bytes ≡ false → with_edit (edit_of cards card) (revised old cards) ≡ problem_with st read
  data-edits h =
      ap (λ b. with_edit (cond b None (edit_in cards card (section_after cards) (action_after cards))) (revised old cards)) h
      ∙ by (section_after cards) (action_after cards)
    where
      by : (s : Option Section) (a : Option Action) → with_edit (edit_in cards card s a) (revised old cards) ≡ problem_in st read s a
      by None a = refl
      by (Some s) None = refl
      by (Some s) (Some a) = edited-same (revised old cards) s a (anchor_after cards) (under_after cards) read

  section-is : (b : Bool) → is_section_card card.bytes ≡ b →
      section_after whole ≡ option_or (cond b (named section_words (section_word card.bytes)) None) (section_after cards)
  section-is b e = section_after-push cards card ∙ ap (λ b. option_or (cond b (named section_words (section_word card.bytes)) None) (section_after cards)) e

  action-is : (b a : Bool) → is_section_card card.bytes ≡ b → is_action_card (style_of cards) card.bytes ≡ a →
      action_card_after whole ≡ cond b None (cond a (Some card) (action_card_after cards))
  action-is b a e f = action_card_after-push cards card ∙ ap₂ (λ b a. cond b None (cond a (Some card) (action_card_after cards))) e f

  under-is : (b a : Bool) → is_section_card card.bytes ≡ b → is_action_card (style_of cards) card.bytes ≡ a →
      under_after whole ≡ cond (b || a) [] (under_after cards ++ read ∷ [])
  under-is b a e f = under_after-push cards card ∙ ap₂ (λ b a. cond (b || a) [] (under_after cards ++ read ∷ [])) e f

  step-by : (b : Bool) → is_section_card card.bytes ≡ b → (a : Bool) → is_action_card (style_of cards) card.bytes ≡ a → state_of old whole
      ≡ cond b (record st {
        style = unwrap_or (style_begun card.bytes) st.style;
        section = option_or
            (cond b (named section_words (section_word card.bytes)) None) st.section;
        action = None;
        under = under_of [] [];
      })
      (cond a (record st { action = action_on (style_of cards) card.bytes; under = under_of (unwrap_or (anchor_on (style_of cards) card.bytes) []) [] })
      (record st { under = with_card_under st.under read; problem = problem_with st read }))
  step-by true e a f =
      state-is (unwrap_or (style_begun card.bytes) (style_of cards)) (option_or (named section_words (section_word card.bytes)) (section_after cards)) None []
      (revised old cards)
      (style_of-push cards card) (section-is true e) (action-is true a e f) (under-is true a e f) (heading-edits (rw e refl))
  step-by false e true f =
      state-is (style_of cards) (section_after cards) (Some card) [] (revised old cards)
      (style_of-data cards card e) (section-is false e) (action-is false true e f) (under-is false true e f) (heading-edits (rw (e, f) refl))
  step-by false e false f =
      state-is (style_of cards) (section_after cards) (action_card_after cards) (under_after cards ++ read ∷ []) (problem_with st read)
      (style_of-data cards card e) (section-is false e) (action-is false false e f) (under-is false false e f)
      (revised-push old cards card ∙ data-edits (rw (e, f) refl))
      ∙ ap (λ u. record { style = style_of cards; section = section_after cards; action = action_after cards; under = u; problem = problem_with st read })
      (under-push (anchor_after cards) (under_after cards) read)

  -- one more card takes the state one step on
  pub state-step : fault_at (state_of old cards) card.bytes ≡ None → state_of old (cards ++ card ∷ []) ≡ state_with (state_of old cards) card.bytes
  state-step fine = step-by (is_section_card card.bytes) refl (is_action_card (style_of cards) card.bytes) refl
