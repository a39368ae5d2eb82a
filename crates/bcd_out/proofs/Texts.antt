-- The text of a written deck, section by section.
use Rattle.std.proofs.Common.{◌≡◌, ◌+◌, ℕ, List, [], ◌∷◌, ◌++◌, Option, Some, None, is_none, codes, length, map, take, filter, refl, ap, ap₂, sym, ◌∙◌}
use Rattle.std.proofs.Common.{append_assoc, arith}
use Rattle.std.specs.List.{flat_map, sum_by}
use Rattle.std.specs.Option.{option_to_list}
use Rattle.std.proofs.lemmas.List.{append-nil, length-append, length-map}
use Rattle.std.proofs.lemmas.List.Concat.{flat_map-append}
use Rattle.std.proofs.lemmas.List.Folds.{flat_map-map}
use Rattle.std.proofs.lemmas.List.Sums.{sum_by-cons}
use Rattle.card_definitions.specs.Words.{without_trailing}
use Rattle.card_definitions.specs.Cards.{is_blank}
use Rattle.problem_definitions.specs.Names.{Name, name_at}
use Rattle.problem_definitions.specs.Problem.{Row, Entry, Bound, Group, Problem, group_names}
use Rattle.problem_definitions.specs.Numbering.{entry_by, row_by, bound_by, group_by, by_names}
use Rattle.deck_definitions.specs.DataCards.{combination_text}
use Rattle.deck_definitions.specs.Written.{data_card, row_cards, bound_kind_text, bound_text, entry_cards, bound_cards, column_cards, set_section, written}
use Rattle.deck_definitions.specs.Written.{card_text}
use Rattle.bcd_out.specs.Lines.{line, row_lines, first_plain, zero_line, entry_lines, column_lines, bound_lines, section_lines, row_count, column_count}
use Rattle.bcd_out.specs.Lines.{section_count}

-- the names of rows
abbrev labels : List (Row ℕ) → List Name
labels rows = map (λ row. row.name) rows

-- the text of the cards of groups is that of the lines of each
text_of_groups : {X Y : Type 0} (cards : Y → List (List ℕ)) (lines : X → List ℕ) (h : X → Y) → ((x : X) → card_text (cards (h x)) ≡ lines x) → (xs : List X) →
    card_text (flat_map cards (map h xs)) ≡ flat_map lines xs
text_of_groups cards lines h same [] = refl
text_of_groups cards lines h same (x ∷ xs) =
    flat_map-append (λ card. card ++ 10 ∷ []) (cards (h x)) (flat_map cards (map h xs)) ∙ ap₂ (λ a b. a ++ b) (same x) (text_of_groups cards lines h same xs)

text_of_section : {X Y : Type 0} (word : List ℕ) (cards : Group Y → List (List ℕ)) (lines : Group X → List ℕ) (h : Group X → Group Y) →
    ((x : Group X) → card_text (cards (h x)) ≡ lines x) → (xs : List (Group X)) → card_text (set_section word cards (map h xs)) ≡ section_lines word lines xs
text_of_section word cards lines h same [] = refl
text_of_section word cards lines h same (x ∷ xs) = ap (λ w. line word ++ w) (text_of_groups cards lines h same (x ∷ xs))

-- the card and the line of a column without entries
plain_lines : (name : Name) (f : ℕ → Name) → (rows : List (Row ℕ)) →
    card_text (map (λ (row : Row Name). data_card [] name row.name (codes "0")) (take 1 (filter (λ row. is_none row.parts) (map (row_by f) rows)))) ≡ flat_map
    (zero_line name) (option_to_list (first_plain rows))
plain_lines name f [] = refl
plain_lines name f (row ∷ rows) = by row.parts (plain_lines name f rows) refl
  where
    by : (parts : Option (List (Entry ℕ)))
        → card_text (map (λ (row : Row Name). data_card [] name row.name (codes "0"))
        (take 1 (filter (λ row. is_none row.parts) (map (row_by f) rows)))) ≡ flat_map (zero_line name) (option_to_list (first_plain rows))
        → row.parts ≡ parts
        → card_text (map (λ (row : Row Name). data_card [] name row.name (codes "0"))
        (take 1 (filter (λ row. is_none row.parts) (map (row_by f) (row ∷ rows))))) ≡ flat_map (zero_line name) (option_to_list (first_plain (row ∷ rows)))
    by None others e = rw e refl
    by (Some parts) others e = rw e others

module _ (rows : List (Row ℕ)) where
  -- the rows by names
  abbrev named_rows : List (Row Name)
  named_rows = map (row_by (name_at (labels rows))) rows

  text_of_row : (row : Row ℕ) → card_text (row_cards (row_by (name_at (labels rows)) row)) ≡ row_lines (labels rows) row
  text_of_row row = by row.parts refl
    where
      by : (parts : Option (List (Entry ℕ))) → row.parts ≡ parts → card_text (row_cards (row_by (name_at (labels rows)) row)) ≡ row_lines (labels rows) row
      by None e = rw e (append-nil _)
      by (Some []) e = rw e (append-nil _)
      by (Some (part ∷ parts)) e = rw e (
          flat_map-map (λ card. card ++ 10 ∷ []) (λ (part : Entry Name). data_card (combination_text row.kind) row.name part.row part.value.text)
          (map (entry_by (name_at (labels rows))) (part ∷ parts))
          ∙ flat_map-map (λ (part : Entry Name). data_card (combination_text row.kind) row.name part.row part.value.text ++ 10 ∷ [])
          (entry_by (name_at (labels rows))) (part ∷ parts))

  text_of_rows : card_text (flat_map row_cards named_rows) ≡ flat_map (row_lines (labels rows)) rows
  text_of_rows = text_of_groups row_cards (row_lines (labels rows)) (row_by (name_at (labels rows))) text_of_row rows

  -- the column or set by names
  abbrev named_group : Group (Entry ℕ) → Group (Entry Name)
  named_group = group_by (entry_by (name_at (labels rows)))

  text_of_entries : (group : Group (Entry ℕ)) → card_text (entry_cards (named_group group)) ≡ entry_lines (labels rows) group
  text_of_entries group =
      flat_map-map (λ card. card ++ 10 ∷ []) (λ (entry : Entry Name). data_card [] group.name entry.row entry.value.text)
      (map (entry_by (name_at (labels rows))) group.items)
      ∙ flat_map-map (λ (entry : Entry Name). data_card [] group.name entry.row entry.value.text ++ 10 ∷ []) (entry_by (name_at (labels rows))) group.items

  text_of_column : (column : Group (Entry ℕ)) → card_text (column_cards named_rows (named_group column)) ≡ column_lines rows column
  text_of_column column = by column.items refl
    where
      by : (items : List (Entry ℕ)) → column.items ≡ items → card_text (column_cards named_rows (named_group column)) ≡ column_lines rows column
      by [] e = rw e (zero rows)
        where
          zero : (some : List (Row ℕ)) →
              card_text (map (λ (row : Row Name). data_card [] column.name row.name (codes "0"))
              (take 1 (filter (λ row. is_none row.parts) (map (row_by (name_at (labels rows))) some)))) ≡ flat_map (zero_line column.name)
              (option_to_list (first_plain some))
          zero some = plain_lines column.name (name_at (labels rows)) some
      by (item ∷ items) e = let whole = text_of_entries column in rw e (rw e at whole)

text_of_bounds : (columns : List Name) (set : Group (Bound ℕ)) → card_text (bound_cards (group_by (bound_by (name_at columns)) set)) ≡ bound_lines columns set
text_of_bounds columns set =
    flat_map-map (λ card. card ++ 10 ∷ []) (λ (bound : Bound Name). data_card (bound_kind_text bound.kind) set.name bound.column (bound_text bound))
    (map (bound_by (name_at columns)) set.items)
    ∙ flat_map-map (λ (bound : Bound Name). data_card (bound_kind_text bound.kind) set.name bound.column (bound_text bound) ++ 10 ∷ [])
    (bound_by (name_at columns)) set.items

abbrev two : (a b : List (List ℕ)) → card_text (a ++ b) ≡ card_text a ++ card_text b
two a b = flat_map-append (λ card. card ++ 10 ∷ []) a b

text_of_five : (a b c d e : List (List ℕ)) → card_text (a ++ b ++ c ++ d ++ e) ≡ card_text a ++ (card_text b ++ (card_text c ++ (card_text d ++ card_text e)))
text_of_five a b c d e =
    let shape : a ++ b ++ c ++ d ++ e ≡ a ++ (b ++ (c ++ (d ++ e))) = simp append_assoc in
    ap card_text shape ∙ two a (b ++ (c ++ (d ++ e)))
    ∙ ap (λ w. card_text a ++ w) (two b (c ++ (d ++ e)) ∙ ap (λ w. card_text b ++ w) (two c (d ++ e) ∙ ap (λ w. card_text c ++ w) (two d e)))

-- the texts of the parts of a deck
text_of_parts : (n r c e : List ℕ) (rows columns rhs ranges bounds : List (List ℕ))
    → card_text (n ∷ r ∷ (rows ++ c ∷ (columns ++ rhs ++ ranges ++ bounds ++ e ∷ [])))
    ≡ line n ++ ((line r ++ card_text rows) ++ ((line c ++ card_text columns) ++ (card_text rhs ++ (card_text ranges ++ (card_text bounds ++ line e)))))
text_of_parts n r c e rows columns rhs ranges bounds =
    let body =
    text_of_five columns rhs ranges bounds (e ∷ [])
    ∙ ap (λ w. card_text columns ++ (card_text rhs ++ (card_text ranges ++ (card_text bounds ++ w)))) (append-nil (line e)) in
    let whole = card_text rhs ++ (card_text ranges ++ (card_text bounds ++ line e)) in
    let from_columns = ap (λ w. line c ++ w) body ∙ sym (append_assoc (line c) (card_text columns) whole) in
    let after = (line c ++ card_text columns) ++ whole in
    let from_rows =
    ap (λ w. line r ++ w) (two rows (c ∷ (columns ++ rhs ++ ranges ++ bounds ++ e ∷ [])) ∙ ap (λ w. card_text rows ++ w) from_columns)
    ∙ sym (append_assoc (line r) (card_text rows) after) in
    ap (λ w. line n ++ w) from_rows

pieces : (n r c e : List ℕ) {a b d f g a' b' d' f' g' : List ℕ} → a ≡ a' → b ≡ b' → d ≡ d' → f ≡ f' → g ≡ g'
    → line n ++ ((line r ++ a) ++ ((line c ++ b) ++ (d ++ (f ++ (g ++ line e))))) ≡ line n ++
    ((line r ++ a') ++ ((line c ++ b') ++ (d' ++ (f' ++ (g' ++ line e)))))
pieces n r c e p q s t u = λ i. line n ++ ((line r ++ p i) ++ ((line c ++ q i) ++ (s i ++ (t i ++ (u i ++ line e)))))

-- the text of a deck from each of its sections on
abbrev pub from_bounds : List (Group (Entry ℕ)) → List (Group (Bound ℕ)) → List ℕ
from_bounds columns bounds = section_lines (codes "BOUNDS") (bound_lines (group_names columns)) bounds ++ line (codes "ENDATA")

abbrev pub from_ranges : List (Row ℕ) → List (Group (Entry ℕ)) → List (Group (Entry ℕ)) → List (Group (Bound ℕ)) → List ℕ
from_ranges rows columns ranges bounds = section_lines (codes "RANGES") (entry_lines (labels rows)) ranges ++ from_bounds columns bounds

abbrev pub from_rhs : List (Row ℕ) → List (Group (Entry ℕ)) → List (Group (Entry ℕ)) → List (Group (Entry ℕ)) → List (Group (Bound ℕ)) → List ℕ
from_rhs rows columns rhs ranges bounds = section_lines (codes "RHS") (entry_lines (labels rows)) rhs ++ from_ranges rows columns ranges bounds

abbrev pub from_columns : List (Row ℕ) → List (Group (Entry ℕ)) → List (Group (Entry ℕ)) → List (Group (Entry ℕ)) → List (Group (Bound ℕ)) → List ℕ
from_columns rows columns rhs ranges bounds = (line (codes "COLUMNS") ++ flat_map (column_lines rows) columns) ++ from_rhs rows columns rhs ranges bounds

abbrev pub from_rows : List (Row ℕ) → List (Group (Entry ℕ)) → List (Group (Entry ℕ)) → List (Group (Entry ℕ)) → List (Group (Bound ℕ)) → List ℕ
from_rows rows columns rhs ranges bounds = (line (codes "ROWS") ++ flat_map (row_lines (labels rows)) rows) ++ from_columns rows columns rhs ranges bounds

-- The text of a deck.
deck_text : (problem : Problem ℕ)
    → line (without_trailing is_blank
    (codes "NAME          " ++ problem.name)) ++ from_rows problem.rows problem.columns problem.rhs problem.ranges problem.bounds ≡ card_text
    (written (by_names problem))
unfolding written by_names
deck_text problem =
    let rows = problem.rows in
    let names = group_names problem.columns in
    let n = without_trailing is_blank (codes "NAME          " ++ problem.name) in
    let columns = map (named_group rows) problem.columns in
    let rhs = map (named_group rows) problem.rhs in
    let ranges = map (named_group rows) problem.ranges in
    let bounds = map (group_by (bound_by (name_at names))) problem.bounds in
    let parts =
    text_of_parts n (codes "ROWS") (codes "COLUMNS") (codes "ENDATA") (flat_map row_cards (named_rows rows)) (flat_map (column_cards (named_rows rows)) columns)
    (set_section (codes "RHS") entry_cards rhs) (set_section (codes "RANGES") entry_cards ranges) (set_section (codes "BOUNDS") bound_cards bounds) in
    sym (parts ∙ pieces n (codes "ROWS") (codes "COLUMNS") (codes "ENDATA") (text_of_rows rows)
    (text_of_groups (column_cards (named_rows rows)) (column_lines rows) (named_group rows) (text_of_column rows) problem.columns)
    (text_of_section (codes "RHS") entry_cards (entry_lines (labels rows)) (named_group rows) (text_of_entries rows) problem.rhs)
    (text_of_section (codes "RANGES") entry_cards (entry_lines (labels rows)) (named_group rows) (text_of_entries rows) problem.ranges)
    (text_of_section (codes "BOUNDS") bound_cards (bound_lines names) (group_by (bound_by (name_at names))) (text_of_bounds names) problem.bounds))

-- The text of a deck whose parts are known.
pub deck_text_of : (problem : Problem ℕ) {name : Name} {rows : List (Row ℕ)} {columns rhs ranges : List (Group (Entry ℕ))} {bounds : List (Group (Bound ℕ))}
    → name ≡ problem.name → rows ≡ problem.rows → columns ≡ problem.columns → rhs ≡ problem.rhs → ranges ≡ problem.ranges → bounds ≡ problem.bounds
    → line (without_trailing is_blank (codes "NAME          " ++ name)) ++ from_rows rows columns rhs ranges bounds ≡ card_text (written (by_names problem))
deck_text_of problem en er ec eh eg eb =
    (λ i. line (without_trailing is_blank (codes "NAME          " ++ en i)) ++ from_rows (er i) (ec i) (eh i) (eg i) (eb i)) ∙ deck_text problem

-- ---- the number of cards

length_of_groups : {X Y A : Type 0} (cards : Y → List A) (count : X → ℕ) (h : X → Y) → ((x : X) → length (cards (h x)) ≡ count x) → (xs : List X) →
    length (flat_map cards (map h xs)) ≡ sum_by count xs
length_of_groups cards count h same [] = refl
length_of_groups cards count h same (x ∷ xs) =
    let first = same x in
    let others = length_of_groups cards count h same xs in
    let both = length-append (cards (h x)) (flat_map cards (map h xs)) in
    let sum = sum_by-cons count x xs in
    omega (arith, first, others, both, sum)

length_of_section : {X Y : Type 0} (word : List ℕ) (cards : Group Y → List (List ℕ)) (h : Group X → Group Y) →
    ((x : Group X) → length (cards (h x)) ≡ length x.items) → (xs : List (Group X)) → length (set_section word cards (map h xs)) ≡ section_count xs
length_of_section word cards h same [] = refl
length_of_section word cards h same (x ∷ xs) = let others = length_of_groups cards (λ set. length set.items) h same (x ∷ xs) in omega (arith, others)

length_of_items : {X Y A : Type 0} (f : Y → A) (h : X → Y) (items : List X) → length (map f (map h items)) ≡ length items
length_of_items f h items = length-map (map h items) f ∙ length-map items h

length_of_row : (f : ℕ → Name) (row : Row ℕ) → length (row_cards (row_by f row)) ≡ row_count row
length_of_row f row = by row.parts refl
  where
    by : (parts : Option (List (Entry ℕ))) → row.parts ≡ parts → length (row_cards (row_by f row)) ≡ row_count row
    by None e = rw e refl
    by (Some []) e = rw e refl
    by (Some (part ∷ parts)) e =
        rw e (length_of_items (λ (part : Entry Name). data_card (combination_text row.kind) row.name part.row part.value.text) (entry_by f) (part ∷ parts))

plain_length : (name : Name) (f : ℕ → Name) → (rows : List (Row ℕ)) →
    length (map (λ (row : Row Name). data_card [] name row.name (codes "0")) (take 1 (filter (λ row. is_none row.parts) (map (row_by f) rows)))) ≡ length
    (option_to_list (first_plain rows))
plain_length name f [] = refl
plain_length name f (row ∷ rows) = by row.parts (plain_length name f rows) refl
  where
    by : (parts : Option (List (Entry ℕ)))
        → length (map (λ (row : Row Name). data_card [] name row.name (codes "0")) (take 1 (filter (λ row. is_none row.parts) (map (row_by f) rows)))) ≡ length
        (option_to_list (first_plain rows))
        → row.parts ≡ parts
        → length (map (λ (row : Row Name). data_card [] name row.name (codes "0"))
        (take 1 (filter (λ row. is_none row.parts) (map (row_by f) (row ∷ rows))))) ≡ length (option_to_list (first_plain (row ∷ rows)))
    by None others e = rw e refl
    by (Some parts) others e = rw e others

length_of_column : (rows : List (Row ℕ)) (column : Group (Entry ℕ)) →
    length (column_cards (named_rows rows) (named_group rows column)) ≡ column_count rows column
length_of_column rows column = by column.items refl
  where
    by : (items : List (Entry ℕ)) → column.items ≡ items → length (column_cards (named_rows rows) (named_group rows column)) ≡ column_count rows column
    by [] e = rw e (zero rows)
      where
        zero : (some : List (Row ℕ)) →
            length (map (λ (row : Row Name). data_card [] column.name row.name (codes "0"))
            (take 1 (filter (λ row. is_none row.parts) (map (row_by (name_at (labels rows))) some)))) ≡ length (option_to_list (first_plain some))
        zero some = plain_length column.name (name_at (labels rows)) some
    by (item ∷ items) e =
        let whole = length_of_items (λ (entry : Entry Name). data_card [] column.name entry.row entry.value.text)
        (entry_by (name_at (labels rows))) column.items in rw e (rw e at whole)

length_of_parts : (n r c e : List ℕ) (rows columns rhs ranges bounds : List (List ℕ))
    → length (n ∷ r ∷
    (rows ++ c ∷ (columns ++ rhs ++ ranges ++ bounds ++ e ∷ []))) ≡ 4 + length rows + length columns + length rhs + length ranges + length bounds
length_of_parts n r c e rows columns rhs ranges bounds =
    omega (
      arith,
      length-append rows (c ∷ (columns ++ rhs ++ ranges ++ bounds ++ e ∷ [])),
      length-append (columns ++ rhs ++ ranges ++ bounds)
          (e ∷ []),
      length-append (columns ++ rhs ++ ranges) bounds,
      length-append (columns ++ rhs) ranges,
      length-append columns rhs,
    )

-- The number of cards of a deck.
pub deck_length : (problem : Problem ℕ) → length (written (by_names problem))
    ≡ 4 + sum_by row_count problem.rows + sum_by
    (column_count problem.rows) problem.columns + section_count problem.rhs + section_count problem.ranges + section_count problem.bounds
unfolding written by_names
deck_length problem =
    let rows = problem.rows in
    let names = group_names problem.columns in
    let n = without_trailing is_blank (codes "NAME          " ++ problem.name) in
    let columns = map (named_group rows) problem.columns in
    let rhs = map (named_group rows) problem.rhs in
    let ranges = map (named_group rows) problem.ranges in
    let bounds = map (group_by (bound_by (name_at names))) problem.bounds in
    let parts =
    length_of_parts n (codes "ROWS") (codes "COLUMNS") (codes "ENDATA") (flat_map row_cards (named_rows rows))
    (flat_map (column_cards (named_rows rows)) columns) (set_section (codes "RHS") entry_cards rhs) (set_section (codes "RANGES") entry_cards ranges)
    (set_section (codes "BOUNDS") bound_cards bounds) in
    let row_part = length_of_groups row_cards row_count (row_by (name_at (labels rows))) (length_of_row (name_at (labels rows))) rows in
    let column_part = length_of_groups (column_cards (named_rows rows)) (column_count rows) (named_group rows) (length_of_column rows) problem.columns in
    let rhs_part =
    length_of_section (codes "RHS") entry_cards (named_group rows)
    (λ set. length_of_items (λ (entry : Entry Name). data_card [] set.name entry.row entry.value.text)
    (entry_by (name_at (labels rows))) set.items) problem.rhs in
    let range_part =
    length_of_section (codes "RANGES") entry_cards (named_group rows)
    (λ set. length_of_items (λ (entry : Entry Name). data_card [] set.name entry.row entry.value.text)
    (entry_by (name_at (labels rows))) set.items) problem.ranges in
    let bound_part =
    length_of_section (codes "BOUNDS") bound_cards (group_by (bound_by (name_at names)))
    (λ set. length_of_items (λ (bound : Bound Name). data_card (bound_kind_text bound.kind) set.name bound.column (bound_text bound))
    (bound_by (name_at names)) set.items) problem.bounds in
    parts ∙ omega (arith, row_part, column_part, rhs_part, range_part, bound_part)
