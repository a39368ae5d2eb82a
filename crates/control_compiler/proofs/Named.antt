-- The labels that statements name: by the table of labels, and by the cards.
use Rattle.std.proofs.Common.{◌≡◌, ℕ, ◌+◌, ◌≤◌, ◌<◌, Bool, true, false, cond, List, [], ◌∷◌, Option, Some, None, length, map, refl, ap, ◌∙◌, arith, ltb}
use Rattle.std.specs.Prelude.{max, is_none, bytes_eq, option_map, option_and_then, filter_map, find, unwrap_or, IfSome}
use Rattle.std.specs.Option.{option_map_or}
use Rattle.std.specs.List.{All, cons_option, position_or_len}
use Rattle.std.proofs.lemmas.List.Elements.{All-nil, All-cons, All-head, All-tail}
use Rattle.std.proofs.lemmas.Bool.Decides.{nat_tests}
use Rattle.card_definitions.specs.Cards.{Card}
use Rattle.control_definitions.specs.declared.TheConstants.{MAX_STEPS}
use Rattle.control_definitions.specs.Program.{Verb, Statement, MoveLimit, Mvadr, Goto, label_argument, verb_by}
use Rattle.control_definitions.specs.Statements.{label_of}
use Rattle.control_definitions.specs.Verbs.{verb_of}
use Rattle.control_definitions.specs.Compiled.{position_of, misses_label, positioned, statement_on}
use Rattle.control_verbs.specs.Views.{IsLawful}
use Rattle.control_compiler.specs.Cards.{HasPositions, statement_said}
use Rattle.control_compiler.specs.Settled.{lacks_label, place_in, settled}
use Rattle.control_compiler.specs.Valid.{moved_limit, IsPosition}
use Rattle.control_compiler.proofs.Taking.{said_on}

-- a statement by the labels' text, and by positions
abbrev pub HoldsLaw : Statement (List ℕ) → Type 0
HoldsLaw statement = IsLawful statement.verb

abbrev pub HoldsPosition : ℕ → Statement ℕ → Type 0
HoldsPosition count statement = IfSome (label_argument statement.verb) (IsPosition count)

abbrev pub HoldsLimit : Statement ℕ → Type 0
HoldsLimit statement = IfSome (moved_limit statement.verb) (λ limit. limit ≤ MAX_STEPS)

abbrev pub positioned_on : List Card → ℕ → Verb (List ℕ) → Statement ℕ
positioned_on whole number verb = record { card = number; verb = positioned whole verb }

-- whether a verb names a label that no card has
abbrev pub misses : List Card → Verb (List ℕ) → Bool
misses whole verb = option_map_or (λ label. is_none (position_of whole label)) (label_argument verb) false

abbrev pub misses_by : List Card → Option (Verb (List ℕ)) → Bool
misses_by whole verb = option_map_or (λ label. is_none (position_of whole label)) (option_and_then label_argument verb) false

-- the card of the first statement that names a label without a position, by the table and by the cards
abbrev pub lacking : List (List ℕ × ℕ) → List (Statement (List ℕ)) → Option ℕ
lacking labels statements =
    option_map (λ (statement : Statement (List ℕ)). statement.card) (find (λ (statement : Statement (List ℕ)). lacks_label labels statement.verb) statements)

abbrev pub missing_on : List Card → List Card → Option ℕ
missing_on whole cards = option_map (λ (card : Card). card.number) (find (misses_label whole) cards)

-- ---- by the table and by the cards

module _ (labels : List (List ℕ × ℕ)) (whole : List Card) (holds : HasPositions labels whole) where
  pub lacks_reported : (verb : Verb (List ℕ)) → IsLawful verb → lacks_label labels verb ≡ misses whole verb
  lacks_reported (Mvadr demand label) some = ap is_none (holds label some)
  lacks_reported (Goto label) some = ap is_none (holds label some)
  lacks_reported _ some = refl

  pub verb_reported : (verb : Verb (List ℕ)) → IsLawful verb → verb_by (place_in labels) verb ≡ positioned whole verb
  verb_reported (Mvadr demand label) some = ap (λ (place : Option ℕ). Mvadr demand (unwrap_or place 0)) (holds label some)
  verb_reported (Goto label) some = ap (λ (place : Option ℕ). Goto (unwrap_or place 0)) (holds label some)
  verb_reported _ some = refl

  -- the first statement without a position for its label
  pub missing_reported : (cards : List Card) → All HoldsLaw (filter_map statement_said cards) →
      lacking labels (filter_map statement_said cards) ≡ missing_on whole cards
  missing_reported [] lawful = refl
  missing_reported (card ∷ cards) lawful = by (verb_of card.bytes) lawful (missing_reported cards)
    where
      by : (verb : Option (Verb (List ℕ))) → All HoldsLaw (cons_option (option_map (said_on card.number) verb) (filter_map statement_said cards))
          → (All HoldsLaw (filter_map statement_said cards) → lacking labels (filter_map statement_said cards) ≡ missing_on whole cards)
          → lacking labels (cons_option (option_map (said_on card.number) verb) (filter_map statement_said cards))
          ≡ option_map (λ (card : Card). card.number) (cond (misses_by whole verb) (Some card) (find (misses_label whole) cards))
      by None lawful rest = rest lawful
      by (Some verb) lawful rest =
          ap (λ (t : Bool). option_map (λ (statement : Statement (List ℕ)). statement.card)
          (cond t (Some (said_on card.number verb))
          (find (λ (statement : Statement (List ℕ)). lacks_label labels statement.verb) (filter_map statement_said cards))))
          (lacks_reported verb (All-head HoldsLaw (said_on card.number verb) (filter_map statement_said cards) lawful))
          ∙ each (misses whole verb) (rest (All-tail HoldsLaw (said_on card.number verb) (filter_map statement_said cards) lawful))
        where
          each : (t : Bool) → lacking labels (filter_map statement_said cards) ≡ missing_on whole cards
              → option_map (λ (statement : Statement (List ℕ)). statement.card)
              (cond t (Some (said_on card.number verb))
              (find (λ (statement : Statement (List ℕ)). lacks_label labels statement.verb) (filter_map statement_said cards)))
              ≡ option_map (λ (card : Card). card.number) (cond t (Some card) (find (misses_label whole) cards))
          each true others = refl
          each false others = others

  -- the statements with positions
  pub statements_reported : (cards : List Card) → All HoldsLaw (filter_map statement_said cards) →
      map (settled labels) (filter_map statement_said cards) ≡ filter_map (statement_on whole) cards
  statements_reported [] lawful = refl
  statements_reported (card ∷ cards) lawful = by (verb_of card.bytes) lawful (statements_reported cards)
    where
      by : (verb : Option (Verb (List ℕ))) → All HoldsLaw (cons_option (option_map (said_on card.number) verb) (filter_map statement_said cards))
          → (All HoldsLaw (filter_map statement_said cards) → map (settled labels) (filter_map statement_said cards) ≡ filter_map (statement_on whole) cards)
          → map (settled labels) (cons_option (option_map (said_on card.number) verb) (filter_map statement_said cards)) ≡ cons_option
          (option_map (positioned_on whole card.number) verb) (filter_map (statement_on whole) cards)
      by None lawful rest = rest lawful
      by (Some verb) lawful rest =
          ap (λ (verb : Verb ℕ). (record { card = card.number; verb = verb }) ∷ map (settled labels) (filter_map statement_said cards))
          (verb_reported verb (All-head HoldsLaw (said_on card.number verb) (filter_map statement_said cards) lawful))
          ∙ ap (λ (statements : List (Statement ℕ)). positioned_on whole card.number verb ∷ statements)
          (rest (All-tail HoldsLaw (said_on card.number verb) (filter_map statement_said cards) lawful))

-- ---- positions and limits

-- a position is that of a statement or of the end
pub position_within : (cards : List Card) (label : List ℕ) (count : ℕ) → length cards ≡ count + 2 → is_none (position_of cards label) ≡ false →
    IsPosition count (unwrap_or (position_of cards label) 0)
position_within cards label count len there = by (position_or_len (λ (card : Card). bytes_eq (label_of card.bytes) label) cards) (length cards) len there
  where
    by : (place n : ℕ) → n ≡ count + 2 → is_none (option_map (max 1) (cond (ltb place n) (Some place) None)) ≡ false
        → IsPosition count (unwrap_or (option_map (max 1) (cond (ltb place n) (Some place) None)) 0)
    by place n len there = reported (ltb place n) refl there
      where
        reported : (t : Bool) → ltb place n ≡ t → is_none (option_map (max 1) (cond t (Some place) None)) ≡ false →
            IsPosition count (unwrap_or (option_map (max 1) (cond t (Some place) None)) 0)
        reported true e there =
            let before : place < n = grind (arith, nat_tests) in
            record { first = omega arith; last = omega arith }
        reported false e there = cc there

module _ (whole : List Card) (count : ℕ) (len : length whole ≡ count + 2) where
  position_reported : (verb : Verb (List ℕ)) → misses whole verb ≡ false → IfSome (label_argument (positioned whole verb)) (IsPosition count)
  position_reported (Mvadr demand label) there = position_within whole label count len there
  position_reported (Goto label) there = position_within whole label count len there
  position_reported _ there = tt

  -- where no statement misses a label, each names a position of the program
  pub positions_within : (cards : List Card) → find (misses_label whole) cards ≡ None → All (HoldsPosition count) (filter_map (statement_on whole) cards)
  positions_within [] none = All-nil (HoldsPosition count)
  positions_within (card ∷ cards) none = by (verb_of card.bytes) none (positions_within cards)
    where
      by : (verb : Option (Verb (List ℕ))) → cond (misses_by whole verb) (Some card) (find (misses_label whole) cards) ≡ None
          → (find (misses_label whole) cards ≡ None → All (HoldsPosition count) (filter_map (statement_on whole) cards))
          → All (HoldsPosition count) (cons_option (option_map (positioned_on whole card.number) verb) (filter_map (statement_on whole) cards))
      by None none rest = rest none
      by (Some verb) none rest =
          let both = not_missing (misses whole verb) none in
          All-cons (HoldsPosition count) (positioned_on whole card.number verb) (filter_map (statement_on whole) cards) (position_reported verb both.0)
          (rest both.1)
        where
          not_missing : (t : Bool) → cond t (Some card) (find (misses_label whole) cards) ≡ None → (t ≡ false) × (find (misses_label whole) cards ≡ None)
          not_missing true none = cc none
          not_missing false none = (refl, none)

module _ (whole : List Card) where
  limit_reported : (verb : Verb (List ℕ)) → IsLawful verb → IfSome (moved_limit (positioned whole verb)) (λ limit. limit ≤ MAX_STEPS)
  limit_reported (MoveLimit limit) few = few
  limit_reported _ lawful = tt

  -- and the limits are lawful
  pub limits_within : (cards : List Card) → All HoldsLaw (filter_map statement_said cards) → All HoldsLimit (filter_map (statement_on whole) cards)
  limits_within [] lawful = All-nil HoldsLimit
  limits_within (card ∷ cards) lawful = by (verb_of card.bytes) lawful (limits_within cards)
    where
      by : (verb : Option (Verb (List ℕ))) → All HoldsLaw (cons_option (option_map (said_on card.number) verb) (filter_map statement_said cards))
          → (All HoldsLaw (filter_map statement_said cards) → All HoldsLimit (filter_map (statement_on whole) cards))
          → All HoldsLimit (cons_option (option_map (positioned_on whole card.number) verb) (filter_map (statement_on whole) cards))
      by None lawful rest = rest lawful
      by (Some verb) lawful rest =
          All-cons HoldsLimit (positioned_on whole card.number verb) (filter_map (statement_on whole) cards)
          (limit_reported verb (All-head HoldsLaw (said_on card.number verb) (filter_map statement_said cards) lawful))
          (rest (All-tail HoldsLaw (said_on card.number verb) (filter_map statement_said cards) lawful))
