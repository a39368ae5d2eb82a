-- The cards of the rows are accepted, and add those rows.
use Rattle.std.proofs.Common.{◌≡◌, ℕ, ◌+◌, ◌≤◌, Bool, true, false, cond, ◌&&◌, List, [], ◌∷◌, ◌++◌, Option, Some, None, length, map, flat_map, nat_le}
use Rattle.std.proofs.Common.{if◌then◌else◌, refl, ap, ap₂, sym, ◌∙◌, subst, arith, lit≤, is_none, is_some}
use Rattle.std.specs.List.{AllByRecursion, IsDistinct}
use Rattle.std.specs.Option.{IfSome, option_to_list}
use Rattle.std.proofs.lemmas.List.{append_assoc, append-nil, map-append, length-append}
use Rattle.card_definitions.specs.Words.{named, is_empty, without_leading, ◌⟹◌}
use Rattle.card_definitions.specs.Cards.{is_blank}
use Rattle.card_definitions.specs.Fields.{Reading}
use Rattle.problem_definitions.specs.declared.TheConstants.{MAX_ROWS}
use Rattle.problem_definitions.specs.declared.RowKind.{RowKind}
use Rattle.problem_definitions.specs.declared.RowKind.TheVariants.{N, G, L, E}
use Rattle.problem_definitions.specs.Names.{Name, same}
use Rattle.problem_definitions.specs.Problem.{Row, plain_row, combination, Entry, Bound, Group, Problem, has_row}
use Rattle.problem_definitions.proofs.Names.{row_is_named, same_refl}
use Rattle.problem_definitions.proofs.Parts.{ArePartsAfter}
use Rattle.problem_definitions.proofs.Lawful.{IsLabel, AreLawfulEntries}
use Rattle.deck_definitions.specs.declared.DeckFaultKind.{DeckFaultKind}
use Rattle.deck_definitions.specs.declared.DeckFaultKind.TheVariants.{BadRowType, EmptyName, TooManyRows}
use Rattle.deck_definitions.specs.declared.Section.TheVariants.{Rows}
use Rattle.deck_definitions.specs.DataCards.{combination_kinds, combination_text, kind_on, is_card_of, row_of, parts_on, part_pairs_of}
use Rattle.deck_definitions.specs.Tests.{filled_from_3, pairs_fault, row_fault}
use Rattle.deck_definitions.specs.Written.{data_card, row_kind_text, combination_cards, row_cards}
use Rattle.deck_definitions.specs.Steps.{with_card}
use Rattle.deck_definitions.proofs.GoesOn.{with_row-new, row_fault-new, with_row-more, row_fault-more}
use Rattle.deck_definitions.proofs.WrittenCards.{FitsField}
use Rattle.basis_deck_laws.proofs.Cards.{IsWritten, fields, written-card}
use Rattle.basis_deck_laws.proofs.Accepts.{Accepts, accepts-none, accepts-then, accepts-data}
use Rattle.basis_deck_laws.proofs.Facts.{none_found, not_found, below, all-at, apart-before, absent-before, fits-name, reads-as, fits-number}
use Rattle.basis_deck_laws.proofs.AddedPairs.{MayAdd, may-add, pair_of, pair-fine}

-- ---- the words of types

fits-kind : (kind : RowKind) → FitsField 2 (row_kind_text kind)
fits-kind N = record { short = lit≤ tt; trimmed = refl }
fits-kind G = record { short = lit≤ tt; trimmed = refl }
fits-kind L = record { short = lit≤ tt; trimmed = refl }
fits-kind E = record { short = lit≤ tt; trimmed = refl }

kind-kept : (kind : RowKind) → without_leading is_blank (row_kind_text kind) ≡ row_kind_text kind
kind-kept N = refl
kind-kept G = refl
kind-kept L = refl
kind-kept E = refl

fits-combination : (kind : RowKind) → FitsField 2 (combination_text kind)
fits-combination N = record { short = lit≤ tt; trimmed = refl }
fits-combination G = record { short = lit≤ tt; trimmed = refl }
fits-combination L = record { short = lit≤ tt; trimmed = refl }
fits-combination E = record { short = lit≤ tt; trimmed = refl }

combination-kept : (kind : RowKind) → without_leading is_blank (combination_text kind) ≡ combination_text kind
combination-kept N = refl
combination-kept G = refl
combination-kept L = refl
combination-kept E = refl

-- ---- a card that begins a row

-- the tests of the fields of such a card after its name
abbrev begun_fields_fault : Problem Name → Reading → Option DeckFaultKind
begun_fields_fault seen card = if is_some (named combination_kinds card.kind) then pairs_fault seen Rows [] 0 (part_pairs_of card) else filled_from_3 card

row-begun : (seen : Problem Name) (card : Reading) (row : Row Name) → has_row seen.rows card.name1 ≡ false → row_of card ≡ Some row →
    with_card Rows card seen ≡ record seen { rows = seen.rows ++ row ∷ [] }
row-begun seen card row new is = ap (λ rows. record seen { rows = rows }) (with_row-new card seen.rows new ∙ ap (λ o. seen.rows ++ option_to_list o) is)

begins-fine : (seen : Problem Name) (card : Reading) → is_none (kind_on card) ≡ false → is_empty card.name1 ≡ false → has_row seen.rows card.name1 ≡ false →
    length seen.rows + 1 ≤ MAX_ROWS → begun_fields_fault seen card ≡ None → row_fault seen card ≡ None
begins-fine seen card typed named new few fine = row_fault-new card seen new ∙ none_found (
    (is_none (kind_on card) ⟹ BadRowType) ∷
    (is_empty card.name1 ⟹ EmptyName) ∷
    (nat_le MAX_ROWS (length seen.rows) ⟹ TooManyRows) ∷
    begun_fields_fault seen card ∷ []) (
      not_found (is_none (kind_on card)) BadRowType typed,
      (
        not_found (is_empty card.name1) EmptyName named,
        (not_found (nat_le MAX_ROWS (length seen.rows)) TooManyRows (below MAX_ROWS (length seen.rows) few), (fine, tt)),
      ),
    )

blank : {n : ℕ} → FitsField n []
blank = record { short = omega arith; trimmed = refl }

some-name : (a b : Bool) → a ≡ false → (a && b) ≡ false
some-name true b h = absurd (cc h)
some-name false b h = refl

-- ---- a plain row

plain-typed : (kind : RowKind) (name : Name) → is_none (kind_on (fields (row_kind_text kind) name [] [])) ≡ false
plain-typed N name = refl
plain-typed G name = refl
plain-typed L name = refl
plain-typed E name = refl

plain-fields : (seen : Problem Name) (kind : RowKind) (name : Name) → begun_fields_fault seen (fields (row_kind_text kind) name [] []) ≡ None
plain-fields seen N name = refl
plain-fields seen G name = refl
plain-fields seen L name = refl
plain-fields seen E name = refl

plain-row : (kind : RowKind) (name : Name) → row_of (fields (row_kind_text kind) name [] []) ≡ Some (plain_row kind name)
plain-row N name = refl
plain-row G name = refl
plain-row L name = refl
plain-row E name = refl

plain-accepted : (seen : Problem Name) (kind : RowKind) (name : Name) → IsLabel name → has_row seen.rows name ≡ false → length seen.rows + 1 ≤ MAX_ROWS
    → Accepts (Some Rows) seen (data_card (row_kind_text kind) name [] [] ∷ []) (Some Rows) (record seen { rows = seen.rows ++ plain_row kind name ∷ [] })
plain-accepted seen kind name label new few =
    let card = fields (row_kind_text kind) name [] [] in
    subst (λ p. Accepts (Some Rows) seen (data_card (row_kind_text kind) name [] [] ∷ []) (Some Rows) p)
    (row-begun seen card (plain_row kind name) new (plain-row kind name))
    (accepts-data Rows seen (data_card (row_kind_text kind) name [] []) card
    (written-card (row_kind_text kind) name [] [] (fits-kind kind) (kind-kept kind) (fits-name name label.name_of) blank blank
    (some-name (is_empty name) true label.present))
    (begins-fine seen card (plain-typed kind name) label.present new few (plain-fields seen kind name)))

-- ---- a card of a combination

combination-typed : (kind : RowKind) (name row : Name) (value : List ℕ) → is_none (kind_on (fields (combination_text kind) name row value)) ≡ false
combination-typed N name row value = refl
combination-typed G name row value = refl
combination-typed L name row value = refl
combination-typed E name row value = refl

combination-fields : (seen : Problem Name) (kind : RowKind) (name row : Name) (value : List ℕ)
    → begun_fields_fault seen (fields (combination_text kind) name row value) ≡ pairs_fault seen Rows [] 0
    (part_pairs_of (fields (combination_text kind) name row value))
combination-fields seen N name row value = refl
combination-fields seen G name row value = refl
combination-fields seen L name row value = refl
combination-fields seen E name row value = refl

combination-row : (kind : RowKind) (name row : Name) (value : List ℕ) →
    row_of (fields (combination_text kind) name row value) ≡ Some (combination kind name (parts_on (fields (combination_text kind) name row value)))
combination-row N name row value = refl
combination-row G name row value = refl
combination-row L name row value = refl
combination-row E name row value = refl

-- a combination without parts
bare-accepted : (seen : Problem Name) (kind : RowKind) (name : Name) → IsLabel name → has_row seen.rows name ≡ false → length seen.rows + 1 ≤ MAX_ROWS
    → Accepts (Some Rows) seen (data_card (combination_text kind) name [] [] ∷ []) (Some Rows)
    (record seen { rows = seen.rows ++ combination kind name [] ∷ [] })
bare-accepted seen kind name label new few =
    let card = fields (combination_text kind) name [] [] in
    subst (λ p. Accepts (Some Rows) seen (data_card (combination_text kind) name [] [] ∷ []) (Some Rows) p)
    (row-begun seen card (combination kind name []) new (combination-row kind name [] []))
    (accepts-data Rows seen (data_card (combination_text kind) name [] []) card
    (written-card (combination_text kind) name [] [] (fits-combination kind) (combination-kept kind) (fits-name name label.name_of) blank blank
    (some-name (is_empty name) true label.present))
    (begins-fine seen card (combination-typed kind name [] []) label.present new few (combination-fields seen kind name [] [])))

abbrev part_card : RowKind → Name → Entry Name → List ℕ
part_card kind name part = data_card (combination_text kind) name part.row part.value.text

abbrev part_fields : RowKind → Name → Entry Name → Reading
part_fields kind name part = fields (combination_text kind) name part.row part.value.text

written-part : (kind : RowKind) (name : Name) → IsLabel name → {rows : List (Row Name)} {taken : List (Entry Name)} (part : Entry Name) →
    MayAdd rows taken part → IsWritten (part_card kind name part) (part_fields kind name part)
written-part kind name label part may =
    written-card (combination_text kind) name part.row part.value.text (fits-combination kind) (combination-kept kind) (fits-name name label.name_of)
    (fits-name part.row may.label.name_of) (fits-number part.value may.value) (some-name (is_empty name) (is_empty part.row) label.present)

-- its one pair, and the part that this is
part-pair : (kind : RowKind) (name : Name) {rows : List (Row Name)} {taken : List (Entry Name)} (part : Entry Name) → MayAdd rows taken part →
    part_pairs_of (part_fields kind name part) ≡ pair_of part ∷ []
part-pair kind name part may = ap (λ b. cond (b && is_empty part.value.text) [] (pair_of part ∷ []) ++ []) may.label.present

part-read : (kind : RowKind) (name : Name) {rows : List (Row Name)} {taken : List (Entry Name)} (part : Entry Name) → MayAdd rows taken part →
    parts_on (part_fields kind name part) ≡ part ∷ []
part-read kind name part may = rw (part-pair kind name part may) (ap (λ v. record { row = part.row; value = v } ∷ []) ((reads-as part.value may.value).again))

module _ (columns rhs ranges : List (Group (Entry Name))) (bounds : List (Group (Bound Name))) where
  abbrev with_rows : List (Row Name) → Problem Name
  with_rows rows = record { name = []; rows = rows; columns = columns; rhs = rhs; ranges = ranges; bounds = bounds }

  -- some rows, after which a combination stands
  module _ (done : List (Row Name)) (labels : AllByRecursion IsLabel (map (λ row. row.name) done)) (kind : RowKind) (name : Name) (label : IsLabel name)
      (new : has_row done name ≡ false) where
    -- the rows with the parts that the combination has so far
    abbrev rows_at : List (Entry Name) → List (Row Name)
    rows_at parts = done ++ combination kind name parts ∷ []

    first-part : length done + 1 ≤ MAX_ROWS → (part : Entry Name) → MayAdd done [] part →
        Accepts (Some Rows) (with_rows done) (part_card kind name part ∷ []) (Some Rows) (with_rows (rows_at (part ∷ [])))
    first-part few part may =
        let card = part_fields kind name part in
        subst (λ p. Accepts (Some Rows) (with_rows done) (part_card kind name part ∷ []) (Some Rows) p)
        (row-begun (with_rows done) card (combination kind name (parts_on card)) new (combination-row kind name part.row part.value.text)
        ∙ ap (λ parts. with_rows (rows_at parts)) (part-read kind name part may))
        (accepts-data Rows (with_rows done) (part_card kind name part) card (written-part kind name label part may)
        (begins-fine (with_rows done) card (combination-typed kind name part.row part.value.text) label.present new few
        (combination-fields (with_rows done) kind name part.row part.value.text
        ∙ ap (pairs_fault (with_rows done) Rows [] 0) (part-pair kind name part may)
        ∙ pair-fine (with_rows done) Rows [] 0 part may refl refl refl)))

    next-part : (sofar : List (Entry Name)) (part : Entry Name) → MayAdd done sofar part →
        Accepts (Some Rows) (with_rows (rows_at sofar)) (part_card kind name part ∷ []) (Some Rows) (with_rows (rows_at (sofar ++ part ∷ [])))
    next-part sofar part may =
        let card = part_fields kind name part in
        let is : is_card_of kind name card ≡ true = ap₂ (λ a b. a && b) (same_refl (combination_text kind)) (same_refl name) in
        subst (λ p. Accepts (Some Rows) (with_rows (rows_at sofar)) (part_card kind name part ∷ []) (Some Rows) p)
        (ap with_rows (with_row-more card done kind name sofar is new ∙ ap (λ more. rows_at (sofar ++ more)) (part-read kind name part may)))
        (accepts-data Rows (with_rows (rows_at sofar)) (part_card kind name part) card (written-part kind name label part may)
        (row_fault-more card done kind name sofar is (with_rows done) new
        ∙ none_found ((is_empty name ⟹ EmptyName) ∷ pairs_fault (with_rows done) Rows sofar 0 (part_pairs_of card) ∷ []) (
          not_found (is_empty name) EmptyName label.present,
          (ap (pairs_fault (with_rows done) Rows sofar 0) (part-pair kind name part may) ∙ pair-fine (with_rows done) Rows sofar 0 part may refl refl refl, tt),
        )))

    -- the cards of the parts to come
    more-parts : (sofar parts : List (Entry Name)) → AreLawfulEntries done (sofar ++ parts) →
        Accepts (Some Rows) (with_rows (rows_at sofar)) (map (part_card kind name) parts) (Some Rows) (with_rows (rows_at (sofar ++ parts)))
    more-parts sofar [] are =
        subst (λ all. Accepts (Some Rows) (with_rows (rows_at sofar)) [] (Some Rows) (with_rows (rows_at all))) (sym (append-nil sofar))
        (accepts-none (Some Rows) (with_rows (rows_at sofar)))
    more-parts sofar (part ∷ parts) are =
        subst (λ all. Accepts (Some Rows) (with_rows (rows_at sofar)) (map (part_card kind name) (part ∷ parts)) (Some Rows) (with_rows (rows_at all)))
        (append_assoc sofar (part ∷ []) parts)
        (accepts-then (part_card kind name part ∷ []) (map (part_card kind name) parts) (next-part sofar part (may-add done labels sofar part parts are))
        (more-parts (sofar ++ part ∷ []) parts (subst (AreLawfulEntries done) (sym (append_assoc sofar (part ∷ []) parts)) are)))

    combination-accepted : length done + 1 ≤ MAX_ROWS → (parts : List (Entry Name)) → AreLawfulEntries done parts →
        Accepts (Some Rows) (with_rows done) (combination_cards kind name parts) (Some Rows) (with_rows (rows_at parts))
    combination-accepted few [] are = bare-accepted (with_rows done) kind name label new few
    combination-accepted few (part ∷ parts) are =
        accepts-then (part_card kind name part ∷ []) (map (part_card kind name) parts) (first-part few part (may-add done labels [] part parts are))
        (more-parts (part ∷ []) parts are)

  -- the cards of one row, whose parts stand on rows before it
  row-accepted : (done : List (Row Name)) → AllByRecursion IsLabel (map (λ row. row.name) done) → (row : Row Name) → IsLabel row.name
      → has_row done row.name ≡ false → length done + 1 ≤ MAX_ROWS → IfSome row.parts (AreLawfulEntries done)
      → Accepts (Some Rows) (with_rows done) (row_cards row) (Some Rows) (with_rows (done ++ row ∷ []))
  row-accepted done labels row label new few are = by row.parts are
    where
      by : (parts : Option (List (Entry Name))) → IfSome parts (AreLawfulEntries done)
          → Accepts (Some Rows) (with_rows done) (row_cards (record { kind = row.kind; name = row.name; parts = parts })) (Some Rows)
          (with_rows (done ++ record { kind = row.kind; name = row.name; parts = parts } ∷ []))
      by None are = plain-accepted (with_rows done) row.kind row.name label new few
      by (Some parts) are = combination-accepted done labels row.kind row.name label new few parts are

  labels-front : (xs ys : List Name) → AllByRecursion IsLabel (xs ++ ys) → AllByRecursion IsLabel xs
  labels-front [] ys each = tt
  labels-front (x ∷ xs) ys each = (each.0, labels-front xs ys each.1)

  -- The cards of rows add them to those that are there.
  pub rows-accepted : (done rows : List (Row Name)) → ArePartsAfter done rows → AllByRecursion IsLabel (map (λ row. row.name) (done ++ rows))
      → IsDistinct same (map (λ row. row.name) (done ++ rows)) → length (done ++ rows) ≤ MAX_ROWS
      → Accepts (Some Rows) (with_rows done) (flat_map row_cards rows) (Some Rows) (with_rows (done ++ rows))
  rows-accepted done [] are labels distinct few =
      subst (λ rows. Accepts (Some Rows) (with_rows done) [] (Some Rows) (with_rows rows)) (sym (append-nil done)) (accepts-none (Some Rows) (with_rows done))
  rows-accepted done (row ∷ rows) are labels distinct few =
      let whole = append_assoc done (row ∷ []) rows in
      let names = map-append (λ row. row.name) done (row ∷ rows) in
      let known = subst (AllByRecursion IsLabel) names labels in
      let apart = apart-before same (map (λ row. row.name) done) row.name (map (λ row. row.name) rows) (subst (IsDistinct same) names distinct) in
      let new = row_is_named row.name done ∙ absent-before (map (λ row. row.name) done) row.name apart in
      let room : length done + 1 ≤ MAX_ROWS = omega (arith, few, length-append done (row ∷ rows)) in
      let own =
      row-accepted done (labels-front (map (λ row. row.name) done) (map (λ row. row.name) (row ∷ rows)) known) row
      (all-at IsLabel (map (λ row. row.name) done) row.name (map (λ row. row.name) rows) known) new room are.0 in
      subst (λ all. Accepts (Some Rows) (with_rows done) (flat_map row_cards (row ∷ rows)) (Some Rows) (with_rows all)) whole
      (accepts-then (row_cards row) (flat_map row_cards rows) own
      (rows-accepted (done ++ row ∷ []) rows are.1 (subst (λ all. AllByRecursion IsLabel (map (λ row. row.name) all)) (sym whole) labels)
      (subst (λ all. IsDistinct same (map (λ row. row.name) all)) (sym whole) distinct) (subst (λ all. length all ≤ MAX_ROWS) (sym whole) few)))
