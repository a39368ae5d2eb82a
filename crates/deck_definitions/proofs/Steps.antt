-- What one more card does to the section, to the problem described and to the faults of the cards before it: the steps
-- of a reader that goes card by card.
use Rattle.std.proofs.Common.{◌≡◌, ℕ, true, false, cond, List, [], ◌∷◌, ◌++◌, Option, Some, None, unwrap_or, fold, refl, ap, ◌∙◌}
use Rattle.std.specs.List.{filter_map, last_or}
use Rattle.std.specs.Option.{option_or, option_map, option_to_list}
use Rattle.std.proofs.lemmas.List.Elements.{filter_map-append}
use Rattle.std.proofs.lemmas.List.{append-nil}
use Rattle.std.proofs.lemmas.List.Sums.{fold-append}
use Rattle.card_definitions.specs.Cards.{Card}
use Rattle.card_definitions.specs.Fields.{Reading}
use Rattle.card_definitions.proofs.FirstFaults.{first_fault_after, gathered-push, cons_option-nil}
use Rattle.problem_definitions.specs.Names.{Name}
use Rattle.problem_definitions.specs.Problem.{Problem, Group, Entry, Bound}
use Rattle.problem_definitions.specs.Groups.{grouped}
use Rattle.problem_definitions.proofs.Groups.{grouped-push}
use Rattle.deck_definitions.specs.declared.DeckFaultKind.{DeckFaultKind}
use Rattle.deck_definitions.specs.declared.Section.{Section}
use Rattle.deck_definitions.specs.declared.Section.TheVariants.{Header, Rows, Columns, Rhs, Ranges, Bounds, Endata}
use Rattle.deck_definitions.specs.Sections.{is_section, section_begun, is_section_card, section_after}
use Rattle.deck_definitions.specs.declared.Style.{Style}
use Rattle.deck_definitions.specs.declared.Style.TheVariants.{FixedFields}
use Rattle.deck_definitions.specs.DataCards.{style_begun, style_of, read_after, given_by, given, with_row, entry_group, entries_of, bound_group}
use Rattle.deck_definitions.specs.Described.{described}
use Rattle.deck_definitions.specs.Conversion.{first_faulty}
use Rattle.deck_definitions.specs.Steps.{with_group, with_card}

pub last_or-push : {A : Type 0} (o : Option A) (xs : List A) (p : Option A) → last_or o (xs ++ option_to_list p) ≡ option_or p (last_or o xs)
last_or-push o [] None = refl
last_or-push o [] (Some x) = refl
last_or-push o (x ∷ xs) p = last_or-push (Some x) xs p

-- the section after one more card is the one that it begins, or else the one before
pub section_after-push : (cards : List Card) (card : Card) → section_after (cards ++ card ∷ []) ≡ option_or (section_begun card.bytes) (section_after cards)
section_after-push cards card =
    ap (last_or None)
    (filter_map-append (λ c. section_begun c.bytes) cards (card ∷ [])
    ∙ ap (λ list. filter_map (λ c. section_begun c.bytes) cards ++ list) (cons_option-nil (section_begun card.bytes)))
    ∙ last_or-push None (filter_map (λ c. section_begun c.bytes) cards) (section_begun card.bytes)

-- the style that holds after one more card is the one that it gives, or else the one before
pub style_of-push : (cards : List Card) (card : Card) → style_of (cards ++ card ∷ []) ≡ unwrap_or (style_begun card.bytes) (style_of cards)
style_of-push cards card =
    ap (λ list. unwrap_or (last_or None list) FixedFields)
    (filter_map-append (λ c. style_begun c.bytes) cards (card ∷ [])
    ∙ ap (λ list. filter_map (λ c. style_begun c.bytes) cards ++ list) (cons_option-nil (style_begun card.bytes)))
    ∙ ap (λ o. unwrap_or o FixedFields) (last_or-push None (filter_map (λ c. style_begun c.bytes) cards) (style_begun card.bytes))
    ∙ by (style_begun card.bytes)
  where
    by : (o : Option Style) → unwrap_or (option_or o (last_or None (filter_map (λ c. style_begun c.bytes) cards))) FixedFields ≡ unwrap_or o (style_of cards)
    by None = refl
    by (Some style) = refl

-- a card of another section than NAME leaves it, and so does a data card
pub style_of-section : (cards : List Card) (card : Card) (section : Section) → section_begun card.bytes ≡ Some section → is_section Header section ≡ false →
    style_of (cards ++ card ∷ []) ≡ style_of cards
style_of-section cards card section begun other = style_of-push cards card ∙ rw (begun, other) refl

pub style_of-data : (cards : List Card) (card : Card) → is_section_card card.bytes ≡ false → style_of (cards ++ card ∷ []) ≡ style_of cards
style_of-data cards card plain = style_of-push cards card ∙ rw plain refl

-- what a section gives with one more card
pub given-push : {X : Type 0} (section : Section) (give : Reading → Option X) (cards : List Card) (card : Card)
    → given section give (cards ++ card ∷ []) ≡ given section give cards ++ option_to_list (given_by section give cards card)
given-push section give cards card = gathered-push (given_by section give) cards card

-- what a data card gives to a section, where it stands in this place
abbrev pub given_in : {X : Type 0} → Section → (Reading → Option X) → Section → Reading → Option X
given_in section give place card = cond (is_section section place) (give card) None

module _ {X : Type 0} (section : Section) (give : Reading → Option X) (cards : List Card) (card : Card) where
  -- a data card gives what it holds to its section
  pub given-data : (place : Section) → is_section_card card.bytes ≡ false → section_after cards ≡ Some place
      → given section give (cards ++ card ∷ []) ≡ given section give cards ++ option_to_list (given_in section give place (read_after cards card))
  given-data place e s = given-push section give cards card ∙ rw (e, s) refl

  -- a section card gives nothing
  pub given-section : is_section_card card.bytes ≡ true → given section give (cards ++ card ∷ []) ≡ given section give cards
  given-section e = given-push section give cards card ∙ rw e (append-nil (given section give cards))

module _ (name : Name) (card : Reading) (rows : List Reading) (columns rhs ranges : List (Group (Entry Name))) (bounds : List (Group (Bound Name))) where
  -- the problem of what the sections gave
  abbrev built : List Reading → List (Group (Entry Name)) → List (Group (Entry Name)) → List (Group (Entry Name)) → List (Group (Bound Name)) → Problem Name
  built rows columns rhs ranges bounds =
      record { name = name; rows = fold with_row [] rows; columns = grouped columns; rhs = grouped rhs; ranges = grouped ranges; bounds = grouped bounds }

  bounds-step : (o : Option (Group (Bound Name))) → grouped (bounds ++ option_to_list o) ≡ with_group o (grouped bounds)
  bounds-step None = ap grouped (append-nil bounds)
  bounds-step (Some set) = grouped-push bounds set

  built-step : (place : Section) →
      built (rows ++ option_to_list (given_in Rows (λ card. Some card) place card)) (columns ++ option_to_list (given_in Columns entry_group place card))
      (rhs ++ option_to_list (given_in Rhs entry_group place card))
      (ranges ++ option_to_list (given_in Ranges entry_group place card))
      (bounds ++ option_to_list (given_in Bounds bound_group place card)) ≡ with_card place card (built rows columns rhs ranges bounds)
  built-step Header = rw (append-nil rows, append-nil columns, append-nil rhs, append-nil ranges, append-nil bounds) refl
  built-step Rows =
      rw (append-nil columns, append-nil rhs, append-nil ranges, append-nil bounds)
      (ap (λ all. record (built rows columns rhs ranges bounds) { rows = all }) (fold-append with_row [] rows (card ∷ [])))
  built-step Columns =
      rw (
        append-nil rows,
        append-nil rhs,
        append-nil ranges,
        append-nil bounds,
        grouped-push columns
            (record { name = card.name1; items = entries_of card }),
      ) refl
  built-step Rhs =
      rw (
        append-nil rows,
        append-nil columns,
        append-nil ranges,
        append-nil bounds,
        grouped-push rhs
            (record { name = card.name1; items = entries_of card }),
      ) refl
  built-step Ranges =
      rw (
        append-nil rows,
        append-nil columns,
        append-nil rhs,
        append-nil bounds,
        grouped-push ranges
            (record { name = card.name1; items = entries_of card }),
      ) refl
  built-step Bounds = rw (append-nil rows, append-nil columns, append-nil rhs, append-nil ranges, bounds-step (bound_group card)) refl
  built-step Endata = rw (append-nil rows, append-nil columns, append-nil rhs, append-nil ranges, append-nil bounds) refl

-- One more data card changes the problem by one list edit; a section card changes nothing.
pub described-data : (name : Name) (cards : List Card) (card : Card) (place : Section) → is_section_card card.bytes ≡ false → section_after cards ≡ Some place
    → described name (cards ++ card ∷ []) ≡ with_card place (read_after cards card) (described name cards)
unfolding described
described-data name cards card place e s =
    rw (
      given-data Rows
          (λ card. Some card) cards card place e s,
      given-data Columns entry_group cards card place e s,
      given-data Rhs entry_group cards card place e s,
      given-data Ranges entry_group cards card place e s,
      given-data Bounds bound_group cards card place e s,
    )
    (built-step name (read_after cards card) (given Rows (λ card. Some card) cards) (given Columns entry_group cards) (given Rhs entry_group cards)
    (given Ranges entry_group cards) (given Bounds bound_group cards) place)

pub described-section : (name : Name) (cards : List Card) (card : Card) → is_section_card card.bytes ≡ true →
    described name (cards ++ card ∷ []) ≡ described name cards
unfolding described
described-section name cards card e =
    rw (
      given-section Rows
          (λ card. Some card) cards card e,
      given-section Columns entry_group cards card e,
      given-section Rhs entry_group cards card e,
      given-section Ranges entry_group cards card e,
      given-section Bounds bound_group cards card e,
    ) refl

-- the first faulty card of two parts is that of the first, or else that of the second after it
pub first_faulty-append : (test : List Card → List ℕ → Option DeckFaultKind) (before cards after : List Card)
    → first_faulty test before (cards ++ after) ≡ option_or (first_faulty test before cards) (first_faulty test (before ++ cards) after)
first_faulty-append test before cards after =
    first_fault_after (λ before card. option_map (λ kind. record { card = card.number; kind = kind }) (test before card.bytes)) before cards after
