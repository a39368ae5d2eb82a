-- What one more card does to the action that holds, to the cards under it and to the revised problem: the steps of a
-- reader that goes card by card.
use Rattle.std.proofs.Common.{◌≡◌, ℕ, ◌+◌, ◌-◌, ◌≤◌, Bool, true, false, cond, not, ◌||◌, List, [], ◌∷◌, ◌++◌, Option, Some, None, unwrap_or, length, drop, map}
use Rattle.std.proofs.Common.{fold, refl, ap, ◌∙◌, arith}
use Rattle.std.specs.List.{filter, last_or, after_last, prefix_len, suffix_len}
use Rattle.std.specs.Option.{option_map, option_and_then, option_to_list}
use Rattle.std.proofs.lemmas.List.{append-nil, length-append, reverse-append, map-append, drop-append-le}
use Rattle.std.proofs.lemmas.List.Elements.{filter-append}
use Rattle.std.proofs.lemmas.List.Sums.{fold-append}
use Rattle.std.proofs.Math.ListN.{drop_of_length-le}
use Rattle.card_definitions.specs.Cards.{Card}
use Rattle.card_definitions.specs.Fields.{Form, Reading, reading_of}
use Rattle.card_definitions.specs.Words.{named, gathered}
use Rattle.problem_definitions.specs.Names.{Name}
use Rattle.problem_definitions.specs.Problem.{Problem}
use Rattle.deck_definitions.specs.declared.Section.TheVariants.{Header}
use Rattle.deck_definitions.specs.declared.Style.{Style}
use Rattle.deck_definitions.specs.Sections.{is_section_card, section_after}
use Rattle.deck_definitions.specs.DataCards.{style_of, form_on, combination_kinds, is_card_of}
use Rattle.card_definitions.proofs.FirstFaults.{gathered-push}
use Rattle.deck_definitions.proofs.Steps.{last_or-push, section_after-push, style_of-data}
use Rattle.revise_definitions.specs.Actions.{Edit, is_action_card, action_on, is_heading, deletes, action_card_after, edit_form_of, under_after, edit_of}
use Rattle.revise_definitions.specs.Edits.{goes_on_row, rows_begun, edited}
use Rattle.revise_definitions.specs.Revision.{edits, revised}

module _ {X : Type 0} (p : X → Bool) (xs : List X) (x : X) where
  -- what follows the last element that passes, with one more element
  pub after_last-push : after_last p (xs ++ x ∷ []) ≡ cond (p x) [] (after_last p xs ++ x ∷ [])
  after_last-push = ap (λ n. drop (length (xs ++ x ∷ []) - n) (xs ++ x ∷ [])) (ap (prefix_len (λ y. not (p y))) (reverse-append xs (x ∷ []))) ∙ by (p x)
    where
      long : length (xs ++ x ∷ []) ≡ length xs + 1
      long = length-append xs (x ∷ [])

      by : (b : Bool) →
          drop (length (xs ++ x ∷ []) - cond (not b) (1 + suffix_len (λ y. not (p y)) xs) 0) (xs ++ x ∷ []) ≡ cond b [] (after_last p xs ++ x ∷ [])
      by true =
          let all : length (xs ++ x ∷ []) ≤ length (xs ++ x ∷ []) - 0 = omega arith in
          drop_of_length-le (xs ++ x ∷ []) all
      by false =
          let count : length (xs ++ x ∷ []) - (1 + suffix_len (λ y. not (p y)) xs) ≡ length xs - suffix_len (λ y. not (p y)) xs = omega (arith, long) in
          let within : length xs - suffix_len (λ y. not (p y)) xs ≤ length xs = omega arith in
          ap (λ n. drop n (xs ++ x ∷ [])) count ∙ drop-append-le (length xs - suffix_len (λ y. not (p y)) xs) xs (x ∷ []) within

  -- the last of the elements that pass, with one more element
  pub last_passing-push : last_or None (filter p (xs ++ x ∷ [])) ≡ cond (p x) (Some x) (last_or None (filter p xs))
  last_passing-push = ap (last_or None) (filter-append p xs (x ∷ [])) ∙ by (p x)
    where
      by : (b : Bool) → last_or None (filter p xs ++ cond b (x ∷ []) []) ≡ cond b (Some x) (last_or None (filter p xs))
      by true = last_or-push None (filter p xs) (Some x)
      by false = ap (last_or None) (append-nil (filter p xs))

module _ (cards : List Card) (card : Card) where
  -- what the last heading gives as an action card
  abbrev action_card : Option Card → Option Card
  action_card heading = option_and_then (λ c. cond (is_section_card c.bytes) None (Some c)) heading

  abbrev action_card_by : Style → List Card → Option Card
  action_card_by style cards = action_card (last_or None (filter (λ c. is_heading style c.bytes) cards))

  action_card-step : (style : Style) →
      action_card_by style (cards ++ card ∷ []) ≡ cond (is_section_card card.bytes) None
      (cond (is_action_card style card.bytes) (Some card) (action_card_by style cards))
  action_card-step style =
      ap action_card (last_passing-push (λ c. is_heading style c.bytes) cards card)
      ∙ by (is_section_card card.bytes) (is_action_card style card.bytes) (last_or None (filter (λ c. is_heading style c.bytes) cards)) refl
    where
      by : (a b : Bool) (o : Option Card) → is_section_card card.bytes ≡ a →
          action_card (cond (a || b) (Some card) o) ≡ cond a None (cond b (Some card) (action_card o))
      by true b o e = rw e refl
      by false true o e = rw e refl
      by false false o e = refl

  -- The action card that holds after one more card is that card, where it is an action card, and none after a section card.
  pub action_card_after-push : action_card_after (cards ++ card ∷ []) ≡ cond (is_section_card card.bytes) None
      (cond (is_action_card (style_of cards) card.bytes) (Some card) (action_card_after cards))
  action_card_after-push = action_card-step (style_of (cards ++ card ∷ [])) ∙ same (is_section_card card.bytes) refl
    where
      same : (a : Bool) → is_section_card card.bytes ≡ a
          → cond a None (cond (is_action_card (style_of (cards ++ card ∷ [])) card.bytes) (Some card) (action_card_by (style_of (cards ++ card ∷ [])) cards))
          ≡ cond a None (cond (is_action_card (style_of cards) card.bytes) (Some card) (action_card_by (style_of cards) cards))
      same true plain = refl
      same false plain = ap (λ style. cond (is_action_card style card.bytes) (Some card) (action_card_by style cards)) (style_of-data cards card plain)

  -- a data card changes the form of none
  same-forms : is_section_card card.bytes ≡ false → is_action_card (style_of cards) card.bytes ≡ false → (c : List ℕ) →
      edit_form_of (cards ++ card ∷ []) c ≡ edit_form_of cards c
  same-forms plain other c =
      λ i. form_on (style i) (unwrap_or (section i) Header)
      (unwrap_or (option_map deletes (option_and_then (λ d. action_on (style i) d.bytes) (held i))) false) c
    where
      style : style_of (cards ++ card ∷ []) ≡ style_of cards
      style = style_of-data cards card plain

      section : section_after (cards ++ card ∷ []) ≡ section_after cards
      section = section_after-push cards card ∙ rw plain refl

      held : action_card_after (cards ++ card ∷ []) ≡ action_card_after cards
      held = action_card_after-push ∙ rw (plain, other) refl

  abbrev read_under : (List ℕ → Form) → List Card → List Reading
  read_under form cards = map (λ c. reading_of (form c.bytes) c.bytes) cards

  abbrev under_by : Style → List Card → List Card
  under_by style cards = after_last (λ c. is_heading style c.bytes) cards

  read_under-step : (style : Style) (form : List ℕ → Form) →
      read_under form (under_by style (cards ++ card ∷ [])) ≡ cond (is_heading style card.bytes) []
      (read_under form (under_by style cards) ++ reading_of (form card.bytes) card.bytes ∷ [])
  read_under-step style form = ap (read_under form) (after_last-push (λ c. is_heading style c.bytes) cards card) ∙ by (is_heading style card.bytes)
    where
      by : (b : Bool) →
          read_under form (cond b [] (under_by style cards ++ card ∷ [])) ≡ cond b []
          (read_under form (under_by style cards) ++ reading_of (form card.bytes) card.bytes ∷ [])
      by true = refl
      by false = map-append (λ c. reading_of (form c.bytes) c.bytes) (under_by style cards) (card ∷ [])

  -- The cards under an action begin anew after a section card or an action card.
  pub under_after-push : under_after (cards ++ card ∷ []) ≡ cond (is_heading (style_of cards) card.bytes) []
      (under_after cards ++ reading_of (edit_form_of cards card.bytes) card.bytes ∷ [])
  under_after-push =
      read_under-step (style_of (cards ++ card ∷ [])) (edit_form_of (cards ++ card ∷ []))
      ∙ by (is_section_card card.bytes) (is_action_card (style_of cards) card.bytes) refl refl
    where
      with_form : Style → (List ℕ → Form) → List Reading
      with_form style form = read_under form (under_by style cards) ++ reading_of (form card.bytes) card.bytes ∷ []

      heading : (b : Bool) → is_section_card card.bytes ≡ false → is_action_card (style_of cards) card.bytes ≡ b →
          is_heading (style_of (cards ++ card ∷ [])) card.bytes ≡ b
      heading b plain action = rw (style_of-data cards card plain, plain) action

      by : (a b : Bool) → is_section_card card.bytes ≡ a → is_action_card (style_of cards) card.bytes ≡ b
          → cond (is_heading (style_of (cards ++ card ∷ [])) card.bytes) []
          (with_form (style_of (cards ++ card ∷ [])) (edit_form_of (cards ++ card ∷ []))) ≡ cond (a || b) []
          (with_form (style_of cards) (edit_form_of cards))
      by true b section action = rw section refl
      by false true plain action =
          ap (λ b. cond b [] (with_form (style_of (cards ++ card ∷ [])) (edit_form_of (cards ++ card ∷ [])))) (heading true plain action)
      by false false plain other = λ i. cond (heading false plain other i) [] (with_form (style_of-data cards card plain i) (λ c. same-forms plain other c i))

-- the problem after an edit, if there is one
abbrev pub with_edit : Option Edit → Problem Name → Problem Name
with_edit None problem = problem
with_edit (Some edit) problem = edited problem edit

-- One more card edits the problem once, if it stands for an edit.
pub revised-push : (old : Problem Name) (cards : List Card) (card : Card) →
    revised old (cards ++ card ∷ []) ≡ with_edit (edit_of cards card) (revised old cards)
unfolding revised
revised-push old cards card =
    ap (fold edited old) (gathered-push edit_of cards card) ∙ fold-append edited old (edits cards) (option_to_list (edit_of cards card))
    ∙ by (edit_of cards card)
  where
    by : (o : Option Edit) → fold edited (fold edited old (edits cards)) (option_to_list o) ≡ with_edit o (fold edited old (edits cards))
    by None = refl
    by (Some edit) = refl

-- One more card under an action begins a row, unless it goes on with the combination of the card before it.
pub rows_begun-push : (under : List Reading) (card : Reading) → rows_begun (under ++ card ∷ []) ≡ rows_begun under + cond (goes_on_row under card) 0 1
rows_begun-push under card =
    ap length (gathered-push begins under card) ∙ length-append (gathered begins under) (option_to_list (begins under card)) ∙ by (goes_on_row under card)
  where
    begins : List Reading → Reading → Option Reading
    begins before next = cond (goes_on_row before next) None (Some next)

    by : (b : Bool) → rows_begun under + length (option_to_list (cond b None (Some card))) ≡ rows_begun under + cond b 0 1
    by true = refl
    by false = refl

-- whether a card goes on with the one before it is decided by the last of those before it
pub goes_on_row-push : (under : List Reading) (before card : Reading) → goes_on_row (under ++ before ∷ []) card ≡ goes_on_row (before ∷ []) card
goes_on_row-push under before card =
    ap (λ last. unwrap_or (option_and_then (λ c. option_map (λ kind. is_card_of kind c.name1 card) (named combination_kinds c.kind)) last) false)
    (last_or-push None under (Some before))
