-- Cards that are accepted after others, and what they make of the problem described.
use Rattle.std.proofs.Common.{◌≡◌, ℕ, ◌+◌, true, false, cond, not, List, [], ◌∷◌, ◌++◌, Option, Some, None, unwrap_or, length, refl, ap, ap₂, sym, ◌∙◌, subst}
use Rattle.std.specs.Option.{option_or, option_map}
use Rattle.std.proofs.lemmas.List.{append_assoc, append-nil}
use Rattle.card_definitions.specs.Words.{first_fault, named, ◌⟹◌}
use Rattle.card_definitions.specs.Cards.{Card, is_skipped, live, numbered_from}
use Rattle.card_definitions.specs.Fields.{Fixed, Reading, reading_of}
use Rattle.card_definitions.proofs.Numbered.{numbered_from-append, live-append}
use Rattle.problem_definitions.specs.Names.{Name}
use Rattle.problem_definitions.specs.Problem.{Problem}
use Rattle.deck_definitions.specs.declared.DeckFaultKind.{DeckFaultKind}
use Rattle.deck_definitions.specs.declared.DeckFaultKind.TheVariants.{ExtraField}
use Rattle.deck_definitions.specs.declared.Section.{Section}
use Rattle.deck_definitions.specs.declared.Section.TheVariants.{Header, Rows, Columns, Rhs, Ranges, Bounds, Endata}
use Rattle.deck_definitions.specs.Sections.{is_section, may_follow, section_words, section_word, is_section_card, section_begun, section_after}
use Rattle.deck_definitions.specs.Described.{described}
use Rattle.deck_definitions.specs.declared.Style.TheVariants.{FixedFields}
use Rattle.deck_definitions.specs.DataCards.{header_style, style_begun, style_of, form_on}
use Rattle.deck_definitions.specs.Conversion.{section_card_fault, gaps_fault, section_fault, data_card_fault, card_fault, first_faulty}
use Rattle.deck_definitions.proofs.Steps.{section_after-push, style_of-push, style_of-data, described-data, described-section, first_faulty-append}
use Rattle.deck_definitions.specs.Steps.{with_card}
use Rattle.basis_deck_laws.proofs.Cards.{IsWritten}

-- where a reader stands after some cards of a fixed deck: the section that goes on, and the problem described
pub record Stands (before : List Card) (place : Option Section) (problem : Problem Name) : Type 0 where
  pub style_is : style_of before ≡ FixedFields
  pub place_is : section_after before ≡ place
  pub seen_is : described [] before ≡ problem

-- cards after others: none is skipped, none has a fault, and where the reader stands then
pub record AreTaken (before cards : List Card) (place : Option Section) (problem : Problem Name) : Type 0 where
  pub alive : live cards ≡ cards
  pub fine : first_faulty card_fault before cards ≡ None
  pub after : Stands (before ++ cards) place problem

-- texts of cards that lead from one place and problem to another
abbrev pub Accepts : Option Section → Problem Name → List (List ℕ) → Option Section → Problem Name → Type 0
Accepts from p texts to q = (n : ℕ) (before : List Card) → Stands before from p → AreTaken before (numbered_from n texts) to q

none_or : {F : Type 0} (a b : Option F) → a ≡ None → b ≡ None → option_or a b ≡ None
none_or None b ea eb = eb
none_or (Some x) b ea eb = ea

pub accepts-none : (from : Option Section) (p : Problem Name) → Accepts from p [] from p
accepts-none from p = λ n before s. record {
  alive = refl;
  fine = refl;
  after =
      record {
        style_is = ap style_of (append-nil before) ∙ s.style_is;
        place_is = ap section_after (append-nil before)
            ∙ s.place_is;
        seen_is = ap (described []) (append-nil before) ∙ s.seen_is;
      };
}

pub accepts-then : {a b c : Option Section} {p q r : Problem Name} (xs ys : List (List ℕ)) → Accepts a p xs b q → Accepts b q ys c r →
    Accepts a p (xs ++ ys) c r
accepts-then {c = c} {r = r} xs ys f h = λ n before s.
    let first = f n before s in
    let second = h (n + length xs) (before ++ numbered_from n xs) first.after in
    joined before (numbered_from n xs) (numbered_from (n + length xs) ys) (numbered_from n (xs ++ ys))
    (numbered_from-append n xs ys) first.alive first.fine second
  where
    joined : (before one two whole : List Card) → whole ≡ one ++ two → live one ≡ one → first_faulty card_fault before one ≡ None →
        AreTaken (before ++ one) two c r → AreTaken before whole c r
    joined before one two whole e alive fine second = subst (λ cards. AreTaken before cards c r) (sym e) (record {
      alive = live-append one two ∙ ap₂ (λ x y. x ++ y) alive second.alive;
      fine =
          first_faulty-append card_fault before one two
          ∙ none_or (first_faulty card_fault before one) (first_faulty card_fault (before ++ one) two) fine second.fine;
      after = subst (λ cards. Stands cards c r) (append_assoc before one two) second.after;
    })

-- one card that isn't skipped and has no fault
one_card : (before : List Card) (card : Card) (place : Option Section) (problem : Problem Name) → is_skipped card.bytes ≡ false →
    card_fault before card.bytes ≡ None → Stands (before ++ card ∷ []) place problem → AreTaken before (card ∷ []) place problem
one_card before card place problem there fine after = record {
  alive = ap (λ b. cond (not b) (card ∷ []) []) there;
  fine = ap (λ o. option_or (option_map (λ kind. record { card = card.number; kind = kind }) o) None) fine;
  after = after;
}

data_fine : (problem : Problem Name) (place : Section) (card : List ℕ) (read : Reading) → IsWritten card read → section_fault problem place read ≡ None →
    data_card_fault problem FixedFields (Some place) card ≡ None
data_fine problem place card read is fine = by place fine
  where
    form : gaps_fault card ≡ None
    form = ap (λ b. not b ⟹ ExtraField) is.spaced

    two : (a b : Option DeckFaultKind) → a ≡ None → b ≡ None → first_fault (a ∷ b ∷ []) ≡ None
    two a b ea eb = none_or a (first_fault (b ∷ [])) ea (none_or b None eb refl)

    by : (place : Section) → section_fault problem place read ≡ None → data_card_fault problem FixedFields (Some place) card ≡ None
    by Header h = absurd (cc h)
    by Endata h = absurd (cc h)
    by Rows h = two (gaps_fault card) (section_fault problem Rows (reading_of Fixed card)) form (ap (section_fault problem Rows) is.reads ∙ h)
    by Columns h = two (gaps_fault card) (section_fault problem Columns (reading_of Fixed card)) form (ap (section_fault problem Columns) is.reads ∙ h)
    by Rhs h = two (gaps_fault card) (section_fault problem Rhs (reading_of Fixed card)) form (ap (section_fault problem Rhs) is.reads ∙ h)
    by Ranges h = two (gaps_fault card) (section_fault problem Ranges (reading_of Fixed card)) form (ap (section_fault problem Ranges) is.reads ∙ h)
    by Bounds h = two (gaps_fault card) (section_fault problem Bounds (reading_of Fixed card)) form (ap (section_fault problem Bounds) is.reads ∙ h)

-- A data card without a fault in its section changes the problem by what it reads as.
pub accepts-data : (place : Section) (problem : Problem Name) (card : List ℕ) (read : Reading) → IsWritten card read → section_fault problem place read ≡ None →
    Accepts (Some place) problem (card ∷ []) (Some place) (with_card place read problem)
unfolding card_fault
accepts-data place problem card read is fine = λ n before s.
    one_card before (record { number = n; bytes = card }) (Some place) (with_card place read problem) is.there
    (ap (λ b. cond b (section_card_fault may_follow (section_after before) card)
    (data_card_fault (described [] before) (style_of before) (section_after before) card)) is.data_card
    ∙ (λ i. data_card_fault (s.seen_is i) (s.style_is i) (s.place_is i) card)
    ∙ data_fine problem place card read is fine)
    (record {
      style_is = style_of-data before (record { number = n; bytes = card }) is.data_card ∙ s.style_is;
      place_is = section_after-push before (record { number = n; bytes = card })
          ∙ ap (λ b. option_or (cond b (named section_words (section_word card)) None) (section_after before)) is.data_card ∙ s.place_is;
      seen_is = described-data [] before (record { number = n; bytes = card }) place is.data_card s.place_is
          ∙ (λ i. with_card place (reading_of (form_on (s.style_is i) (unwrap_or (s.place_is i) Header) false card) card) (s.seen_is i))
          ∙ ap (λ r. with_card place r problem) is.reads;
    })

-- A section card that may follow, and leaves the deck fixed, changes the section alone.
section-taken : (from : Option Section) (section : Section) (problem : Problem Name) (card : List ℕ) → is_section_card card ≡ true
    → section_begun card ≡ Some section → is_skipped card ≡ false
    → section_card_fault may_follow from card ≡ None → unwrap_or (style_begun card) FixedFields ≡ FixedFields
    → Accepts from problem (card ∷ []) (Some section) problem
unfolding card_fault
section-taken from section problem card is begun there fine fixed = λ n before s.
    one_card before (record { number = n; bytes = card }) (Some section) problem there
    (ap (λ b. cond b (section_card_fault may_follow (section_after before) card)
    (data_card_fault (described [] before) (style_of before) (section_after before) card)) is
    ∙ ap (λ at. section_card_fault may_follow at card) s.place_is ∙ fine)
    (record {
      style_is = style_of-push before (record { number = n; bytes = card }) ∙ ap (unwrap_or (style_begun card)) s.style_is ∙ fixed;
      place_is = section_after-push before (record { number = n; bytes = card }) ∙ ap (λ o. option_or o (section_after before)) begun;
      seen_is = described-section [] before (record { number = n; bytes = card }) is ∙ s.seen_is;
    })

pub accepts-section : (from : Option Section) (section : Section) (problem : Problem Name) (card : List ℕ) → is_section_card card ≡ true
    → section_begun card ≡ Some section → is_section Header section ≡ false → is_skipped card ≡ false
    → section_card_fault may_follow from card ≡ None → Accepts from problem (card ∷ []) (Some section) problem
accepts-section from section problem card is begun other there fine = section-taken from section problem card is begun there fine (rw (begun, other) refl)

-- a NAME card that gives no free fields
pub accepts-header : (problem : Problem Name) (card : List ℕ) → is_section_card card ≡ true → section_begun card ≡ Some Header → is_skipped card ≡ false
    → section_card_fault may_follow None card ≡ None → header_style card ≡ FixedFields → Accepts None problem (card ∷ []) (Some Header) problem
accepts-header problem card is begun there fine fixed = section-taken None Header problem card is begun there fine (rw begun fixed)
