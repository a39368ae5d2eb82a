-- The cards of a written deck are one deck of a job, under the problem's name.
use Rattle.std.proofs.Common.{◌≡◌, ℕ, ◌+◌, Bool, true, false, cond, not, List, [], ◌∷◌, ◌++◌, Option, Some, None, is_none, map, filter, take, drop, unwrap_or}
use Rattle.std.proofs.Common.{refl, ap, sym, ◌∙◌, subst}
use Rattle.std.specs.List.{AllByRecursion, flat_map, onto_first, prefix_len}
use Rattle.std.specs.Option.{option_map}
use Rattle.std.specs.Prelude.{codes}
use Rattle.std.proofs.lemmas.List.{append_assoc}
use Rattle.card_definitions.specs.Words.{named, without_trailing, without_leading, is_empty, padded}
use Rattle.card_definitions.specs.Cards.{Card, is_blank, is_skipped, numbered_from}
use Rattle.problem_definitions.specs.Names.{Name}
use Rattle.problem_definitions.specs.Problem.{Row, Entry, Bound, Group, Problem}
use Rattle.problem_definitions.specs.Numbering.{by_names}
use Rattle.problem_definitions.specs.Valid.{IsName, IsProblem}
use Rattle.problem_definitions.proofs.Each.{each-append}
use Rattle.deck_definitions.specs.declared.Section.{Section}
use Rattle.deck_definitions.specs.declared.Section.TheVariants.{Header, Endata}
use Rattle.deck_definitions.specs.Sections.{is_section, section_words, section_word, section_begun, begins, header_name}
use Rattle.deck_definitions.specs.Decks.{parts_ended_by, decks_of, name_of_deck}
use Rattle.deck_definitions.specs.DataCards.{combination_text}
use Rattle.deck_definitions.specs.Written.{row_kind_text, bound_kind_text, bound_text, data_card, row_cards, entry_cards, column_cards, bound_cards}
use Rattle.deck_definitions.specs.Written.{set_section, written}
use Rattle.basis_deck_laws.proofs.Cards.{no_section, reassoc}
use Rattle.basis_deck_laws.proofs.Whole.{name_card, after_word, name_card-is, begun_by, header-is}

-- whether a text begins this section
abbrev pub starts : Section → List ℕ → Bool
starts section text = unwrap_or (option_map (is_section section) (section_begun text)) false

-- a card that isn't the last of a deck
abbrev pub GoesOn : List ℕ → Type 0
GoesOn text = starts Endata text ≡ false

-- ---- cards up to the first that ends a deck

one-part : (n : ℕ) (texts : List (List ℕ)) (last : List ℕ) → AllByRecursion GoesOn texts → starts Endata last ≡ true →
    parts_ended_by (begins Endata) (numbered_from n (texts ++ last ∷ [])) ≡ numbered_from n (texts ++ last ∷ []) ∷ []
one-part n [] last each ends = ap (λ b. cond b ((record { number = n; bytes = last } ∷ []) ∷ []) (onto_first (record { number = n; bytes = last }) [])) ends
one-part n (text ∷ texts) last each ends =
    let card : Card = record { number = n; bytes = text } in
    let rest = numbered_from (n + 1) (texts ++ last ∷ []) in
    ap (λ b. cond b ((card ∷ []) ∷ parts_ended_by (begins Endata) rest) (onto_first card (parts_ended_by (begins Endata) rest))) each.0
    ∙ ap (onto_first card) (one-part (n + 1) texts last each.1 ends)

-- ---- the cards before ENDATA

pub data-goes-on : (kind name1 name2 value : List ℕ) → GoesOn (data_card kind name1 name2 value)
unfolding data_card
data-goes-on kind name1 name2 value =
    let K = padded 2 kind in
    let A = padded 8 name1 in
    let B = padded 8 name2 in
    ap (λ text. starts Endata (without_trailing is_blank text)) (reassoc (codes " ") K (codes " ") A (codes "  ") B (codes "  ") value)
    ∙ blank (K ++ (codes " " ++ (A ++ (codes "  " ++ (B ++ (codes "  " ++ value))))))
  where
    blank : (xs : List ℕ) → GoesOn (without_trailing is_blank (32 ∷ xs))
    blank xs =
        ap (λ b. unwrap_or (option_map (is_section Endata) (cond b (named section_words (section_word (without_trailing is_blank (32 ∷ xs)))) None)) false)
        (no_section xs)

pub mapped : {X : Type 0} (f : X → List ℕ) → ((x : X) → GoesOn (f x)) → (xs : List X) → AllByRecursion GoesOn (map f xs)
mapped f goes [] = tt
mapped f goes (x ∷ xs) = (goes x, mapped f goes xs)

flat : {X : Type 0} (f : X → List (List ℕ)) → ((x : X) → AllByRecursion GoesOn (f x)) → (xs : List X) → AllByRecursion GoesOn (flat_map f xs)
flat f goes [] = tt
flat f goes (x ∷ xs) = each-append GoesOn (f x) (flat_map f xs) (goes x) (flat f goes xs)

section : {X : Type 0} (word : List ℕ) (cards : Group X → List (List ℕ)) → GoesOn word → ((group : Group X) → AllByRecursion GoesOn (cards group)) →
    (sets : List (Group X)) → AllByRecursion GoesOn (set_section word cards sets)
section word cards goes each [] = tt
section word cards goes each (set ∷ sets) = (goes, flat cards each (set ∷ sets))

entries-go-on : (group : Group (Entry Name)) → AllByRecursion GoesOn (entry_cards group)
entries-go-on group =
    mapped (λ (entry : Entry Name). data_card [] group.name entry.row entry.value.text)
    (λ entry. data-goes-on [] group.name entry.row entry.value.text) group.items

row-goes-on : (row : Row Name) → AllByRecursion GoesOn (row_cards row)
row-goes-on row = by row.parts
  where
    by : (parts : Option (List (Entry Name))) → AllByRecursion GoesOn (row_cards (record { kind = row.kind; name = row.name; parts = parts }))
    by None = (data-goes-on (row_kind_text row.kind) row.name [] [], tt)
    by (Some []) = (data-goes-on (combination_text row.kind) row.name [] [], tt)
    by (Some (part ∷ parts)) =
        mapped (λ (part : Entry Name). data_card (combination_text row.kind) row.name part.row part.value.text)
        (λ part. data-goes-on (combination_text row.kind) row.name part.row part.value.text) (part ∷ parts)

column-goes-on : (rows : List (Row Name)) (column : Group (Entry Name)) → AllByRecursion GoesOn (column_cards rows column)
column-goes-on rows column = by (is_empty column.items)
  where
    by : (b : Bool) →
        AllByRecursion GoesOn
        (cond b (map (λ (row : Row Name). data_card [] column.name row.name (codes "0")) (take 1 (filter (λ row. is_none row.parts) rows)))
        (entry_cards column))
    by true =
        mapped (λ (row : Row Name). data_card [] column.name row.name (codes "0")) (λ row. data-goes-on [] column.name row.name (codes "0"))
        (take 1 (filter (λ row. is_none row.parts) rows))
    by false = entries-go-on column

bounds-go-on : (set : Group (Bound Name)) → AllByRecursion GoesOn (bound_cards set)
bounds-go-on set =
    mapped (λ (bound : Bound Name). data_card (bound_kind_text bound.kind) set.name bound.column (bound_text bound))
    (λ bound. data-goes-on (bound_kind_text bound.kind) set.name bound.column (bound_text bound)) set.items

-- ---- a deck of data cards or sections

named-goes-on : (name : Name) → GoesOn (name_card name)
named-goes-on name =
    let more = without_trailing is_blank (after_word name) in
    ap (starts Endata) (name_card-is name) ∙ ap (λ o. unwrap_or (option_map (is_section Endata) o) false) (begun_by (is_empty more) more)

-- a NAME card, cards that don't end a deck, and ENDATA are one deck
pub one-deck-of : (name : Name) (texts : List (List ℕ)) → AllByRecursion GoesOn texts → (n : ℕ)
    → decks_of (numbered_from n (name_card name ∷ (texts ++ codes "ENDATA" ∷ []))) ≡ numbered_from n (name_card name ∷ (texts ++ codes "ENDATA" ∷ [])) ∷ []
unfolding decks_of
one-deck-of name texts each n =
    ap (λ parts. filter (λ deck. not (is_empty deck)) (map (without_leading (λ (card : Card). is_skipped card.bytes)) parts))
    (one-part n (name_card name ∷ texts) (codes "ENDATA") (named-goes-on name, each) refl)
    ∙ kept (numbered_from (n + 1) (texts ++ codes "ENDATA" ∷ []))
  where
    first : Card
    first = record { number = n; bytes = name_card name }

    kept : (rest : List Card) →
        filter (λ deck. not (is_empty deck))
        (drop (cond (is_skipped (name_card name)) (1 + prefix_len (λ (card : Card). is_skipped card.bytes) rest) 0) (first ∷ rest) ∷ []) ≡
        (first ∷ rest) ∷ []
    kept rest =
        ap (λ b. filter (λ deck. not (is_empty deck)) (drop (cond b (1 + prefix_len (λ (card : Card). is_skipped card.bytes) rest) 0) (first ∷ rest) ∷ []))
        (ap is_skipped (name_card-is name))

-- it has the name on its NAME card
pub called-by : (name : Name) (texts : List (List ℕ)) (n : ℕ) → IsName name → name_of_deck (numbered_from n (name_card name ∷ texts)) ≡ Some name
called-by name texts n is =
    let more = without_trailing is_blank (after_word name) in
    ap (λ b. cond b (Some (header_name (name_card name))) None)
    (ap (starts Header) (name_card-is name) ∙ ap (λ o. unwrap_or (option_map (is_section Header) o) false) (begun_by (is_empty more) more))
    ∙ ap Some (header-is name is)

module _ (q : Problem Name) where
  abbrev between : List (List ℕ)
  between =
      codes "ROWS" ∷
      (flat_map row_cards q.rows ++ codes "COLUMNS" ∷
      (flat_map (column_cards q.rows) q.columns ++ set_section (codes "RHS") entry_cards q.rhs ++ set_section
      (codes "RANGES") entry_cards q.ranges ++ set_section (codes "BOUNDS") bound_cards q.bounds))

  written-is : written q ≡ name_card q.name ∷ (between ++ codes "ENDATA" ∷ [])
  unfolding written
  written-is =
      ap (λ texts. name_card q.name ∷ codes "ROWS" ∷ texts)
      (sym (append_assoc (flat_map row_cards q.rows)
      (codes "COLUMNS" ∷
      (flat_map (column_cards q.rows) q.columns ++ set_section (codes "RHS") entry_cards q.rhs ++ set_section
      (codes "RANGES") entry_cards q.ranges ++ set_section (codes "BOUNDS") bound_cards q.bounds)) (codes "ENDATA" ∷ [])))

  all-go-on : AllByRecursion GoesOn between
  all-go-on =
      let C = flat_map (column_cards q.rows) q.columns in
      let S1 = set_section (codes "RHS") entry_cards q.rhs in
      let S2 = set_section (codes "RANGES") entry_cards q.ranges in
      let S3 = set_section (codes "BOUNDS") bound_cards q.bounds in (
        refl,
        each-append GoesOn (flat_map row_cards q.rows) (codes "COLUMNS" ∷ (C ++ S1 ++ S2 ++ S3)) (flat row_cards row-goes-on q.rows) (
          refl,
          each-append GoesOn (C ++ S1 ++ S2) S3
              (each-append GoesOn (C ++ S1) S2
              (each-append GoesOn C S1 (flat (column_cards q.rows) (column-goes-on q.rows) q.columns)
              (section (codes "RHS") entry_cards refl entries-go-on q.rhs))
              (section (codes "RANGES") entry_cards refl entries-go-on q.ranges))
              (section (codes "BOUNDS") bound_cards refl bounds-go-on q.bounds),
        ),
      )

  -- one deck, from its first card on
  one : (n : ℕ) → decks_of (numbered_from n (written q)) ≡ numbered_from n (written q) ∷ []
  one n = subst (λ texts. decks_of (numbered_from n texts) ≡ numbered_from n texts ∷ []) (sym written-is) (one-deck-of q.name between all-go-on n)

  called : (n : ℕ) → IsName q.name → name_of_deck (numbered_from n (written q)) ≡ Some q.name
  called n is = subst (λ texts. name_of_deck (numbered_from n texts) ≡ Some q.name) (sym written-is) (called-by q.name (between ++ codes "ENDATA" ∷ []) n is)

-- The cards that are written for a problem are one deck.
pub one-deck : (problem : Problem ℕ) (first : ℕ) →
    decks_of (numbered_from first (written (by_names problem))) ≡ numbered_from first (written (by_names problem)) ∷ []
one-deck problem first = one (by_names problem) first

-- It has the problem's name.
pub deck-called : (problem : Problem ℕ) (first : ℕ) → IsProblem problem → name_of_deck (numbered_from first (written (by_names problem))) ≡ Some problem.name
unfolding by_names
deck-called problem first is = called (by_names problem) first is.name
