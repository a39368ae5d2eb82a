-- The whole deck of a problem.
use Rattle.std.proofs.Common.{◌≡◌, ℕ, ◌+◌, ◌≤◌, Bool, true, false, cond, not, ◌&&◌, List, [], ◌∷◌, ◌++◌, Option, Some, None, is_none, Ok, length, map, filter}
use Rattle.std.proofs.Common.{take, unwrap_or, if◌then◌else◌, refl, ap, ap₂, sym, ◌∙◌, subst, arith}
use Rattle.std.specs.List.{All, AllByRecursion, flat_map}
use Rattle.std.specs.Option.{option_map}
use Rattle.std.specs.Prelude.{codes, bytes_eq}
use Rattle.std.proofs.lemmas.List.{take_all, length-append}
use Rattle.std.proofs.Math.ListN.{drop_of_length-le}
use Rattle.card_definitions.specs.Words.{without_trailing, is_empty, first_fault, unless, ◌⟹◌}
use Rattle.card_definitions.specs.Cards.{Card, is_blank, last_number, numbered_from}
use Rattle.card_definitions.specs.Fields.{columns}
use Rattle.card_definitions.proofs.Trailing.{without_trailing-cons, part_of_trimmed}
use Rattle.problem_definitions.specs.Names.{Name, name_at}
use Rattle.problem_definitions.specs.Problem.{Row, Entry, Bound, Group, Problem, row_names}
use Rattle.problem_definitions.specs.Numbering.{entry_by, group_by, numbered, by_names}
use Rattle.problem_definitions.specs.Valid.{IsName, IsProblem}
use Rattle.problem_definitions.proofs.Lawful.{IsLawful}
use Rattle.problem_definitions.proofs.Each.{all-each}
use Rattle.deck_definitions.specs.declared.DeckFault.{DeckFault}
use Rattle.deck_definitions.specs.declared.DeckFaultKind.TheVariants.{NoEndata}
use Rattle.deck_definitions.specs.declared.Section.{Section}
use Rattle.deck_definitions.specs.declared.Section.TheVariants.{Header, Rows, Columns, Rhs, Ranges, Bounds, Endata}
use Rattle.deck_definitions.specs.Sections.{may_follow, is_section, section_begun, is_section_after, header_name}
use Rattle.deck_definitions.specs.declared.Style.TheVariants.{FixedFields, FreeFields}
use Rattle.deck_definitions.specs.DataCards.{header_style}
use Rattle.deck_definitions.specs.Described.{described}
use Rattle.deck_definitions.specs.Conversion.{section_card_fault, card_fault, first_faulty, deck_fault, deck_name, conversion}
use Rattle.deck_definitions.specs.Written.{data_card, row_cards, entry_cards, bound_cards, column_cards, set_section, written}
use Rattle.revise_laws.proofs.ByNames.{named-lawful}
use Rattle.basis_deck_laws.proofs.Accepts.{Stands, Accepts, accepts-none, accepts-then, accepts-header, accepts-section}
use Rattle.basis_deck_laws.proofs.Rows.{rows-accepted}
use Rattle.basis_deck_laws.proofs.Entries.{columns-accepted, rhs-accepted, ranges-accepted}
use Rattle.basis_deck_laws.proofs.Bounds.{bounds-accepted}
use Rattle.basis_deck_laws.proofs.Numbers.{numbered-by_names}

-- ---- the NAME card

-- a byte that isn't a blank stays
kept : (x : ℕ) (xs : List ℕ) → is_blank x ≡ false → without_trailing is_blank (x ∷ xs) ≡ x ∷ without_trailing is_blank xs
kept x xs h = without_trailing-cons is_blank x xs ∙ by (is_empty (without_trailing is_blank xs)) (is_blank x) h
  where
    by : (e b : Bool) → b ≡ false → cond (e && b) [] (x ∷ without_trailing is_blank xs) ≡ x ∷ without_trailing is_blank xs
    by e true h = absurd (cc h)
    by true false h = refl
    by false false h = refl

abbrev pub name_card : Name → List ℕ
name_card name = without_trailing is_blank (codes "NAME          " ++ name)

-- the card's word, and after it nothing or a blank
abbrev pub name_word : Bool → List ℕ → List ℕ
name_word nothing more = 78 ∷ 65 ∷ 77 ∷ 69 ∷ cond (nothing && true) [] (32 ∷ more)

abbrev pub after_word : Name → List ℕ
after_word name = codes "         " ++ name

pub name_card-is : (name : Name) →
    name_card name ≡ name_word (is_empty (without_trailing is_blank (after_word name))) (without_trailing is_blank (after_word name))
name_card-is name =
    kept 78 (codes "AME          " ++ name) refl
    ∙ ap (λ w. 78 ∷ w) (kept 65 (codes "ME          " ++ name) refl
    ∙ ap (λ w. 65 ∷ w) (kept 77 (codes "E          " ++ name) refl
    ∙ ap (λ w. 77 ∷ w) (kept 69 (codes "          " ++ name) refl
    ∙ ap (λ w. 69 ∷ w) (without_trailing-cons is_blank 32 (after_word name)))))

pub begun_by : (nothing : Bool) (more : List ℕ) → section_begun (name_word nothing more) ≡ Some Header
begun_by true more = refl
begun_by false more = refl

fine_first : (nothing : Bool) (more : List ℕ) → section_card_fault may_follow None (name_word nothing more) ≡ None
fine_first true more = refl
fine_first false more = refl

-- nothing stands in columns 23 to 80 of it
header-fixed : (name : Name) → length name ≤ 8 → header_style (name_card name) ≡ FixedFields
header-fixed name short =
    ap (λ list. if bytes_eq list (codes "  FREE") then FreeFields else FixedFields) (
    part_of_trimmed is_blank 22 58 (codes "NAME          " ++ name)
    ∙ ap (λ list. without_trailing is_blank (take 58 list)) (drop_of_length-le (codes "NAME          " ++ name) long))
  where
    counted : length (codes "NAME          " ++ name) ≡ 14 + length name
    counted = length-append (codes "NAME          ") name

    long : length (codes "NAME          " ++ name) ≤ 22
    long = omega (arith, counted, short)

name-accepted : (name : Name) (problem : Problem Name) → length name ≤ 8 → Accepts None problem (name_card name ∷ []) (Some Header) problem
name-accepted name problem short =
    let nothing = is_empty (without_trailing is_blank (after_word name)) in
    let more = without_trailing is_blank (after_word name) in
    subst (λ card. Accepts None problem (card ∷ []) (Some Header) problem) (sym (name_card-is name))
    (accepts-header problem (name_word nothing more) refl (begun_by nothing more) refl (fine_first nothing more)
    (subst (λ card. header_style card ≡ FixedFields) (name_card-is name) (header-fixed name short)))

-- the name on it
pub header-is : (name : Name) → IsName name → header_name (name_card name) ≡ name
header-is name is = part_of_trimmed is_blank 14 8 (codes "NAME          " ++ name) ∙ ap (without_trailing is_blank) (take_all 8 name is.short) ∙ is.trimmed

-- ---- the sections

-- a section that is there only where it has a set
optional : {X : Type 0} (from : Option Section) (section : Section) (word : List ℕ) (cards : Group X → List (List ℕ)) (put : List (Group X) → Problem Name)
    (sets : List (Group X))
    → Accepts from (put []) (word ∷ []) (Some section) (put []) → Accepts (Some section) (put []) (flat_map cards sets) (Some section) (put sets)
    → Accepts from (put []) (set_section word cards sets) (cond (is_empty sets) from (Some section)) (put sets)
optional from section word cards put [] opens body = accepts-none from (put [])
optional from section word cards put (set ∷ sets) opens body = accepts-then (word ∷ []) (flat_map cards (set ∷ sets)) opens body

-- the section after the columns, the right-hand sides, the ranges and the bounds, where some may be left out
abbrev after_rhs : Bool → Option Section
after_rhs b = cond b (Some Columns) (Some Rhs)

abbrev after_ranges : Bool → Bool → Option Section
after_ranges b c = cond c (after_rhs b) (Some Ranges)

abbrev after_bounds : Bool → Bool → Bool → Option Section
after_bounds b c d = cond d (after_ranges b c) (Some Bounds)

ranges-follow : (b : Bool) → section_card_fault may_follow (after_rhs b) (codes "RANGES") ≡ None
ranges-follow true = refl
ranges-follow false = refl

bounds-follow : (b c : Bool) → section_card_fault may_follow (after_ranges b c) (codes "BOUNDS") ≡ None
bounds-follow true true = refl
bounds-follow false true = refl
bounds-follow true false = refl
bounds-follow false false = refl

endata-follows : (b c d : Bool) → section_card_fault may_follow (after_bounds b c d) (codes "ENDATA") ≡ None
endata-follows b c false = refl
endata-follows b false true = refl
endata-follows true true true = refl
endata-follows false true true = refl

-- columns that each have an entry have a card for each
column-cards : (rows : List (Row Name)) (groups : List (Group (Entry Name))) →
    AllByRecursion (λ (column : Group (Entry Name)). is_empty column.items ≡ false) groups → flat_map (column_cards rows) groups ≡ flat_map entry_cards groups
column-cards rows [] some = refl
column-cards rows (column ∷ groups) some =
    ap₂ (λ a b. a ++ b)
    (ap (λ b. cond b (map (λ (row : Row Name). data_card [] column.name row.name (codes "0")) (take 1 (filter (λ row. is_none row.parts) rows)))
    (entry_cards column)) some.0) (column-cards rows groups some.1)

module _ (q : Problem Name) (lawful : IsLawful q) (some : AllByRecursion (λ (column : Group (Entry Name)). is_empty column.items ≡ false) q.columns) where
  -- the problem with an empty name
  abbrev unnamed : Problem Name
  unnamed = record q { name = [] }

  -- the cards from the columns on
  sections-accepted : Accepts (Some Columns) (record { name = []; rows = q.rows; columns = []; rhs = []; ranges = []; bounds = [] })
      (flat_map (column_cards q.rows) q.columns ++ set_section (codes "RHS") entry_cards q.rhs ++ set_section
      (codes "RANGES") entry_cards q.ranges ++ set_section (codes "BOUNDS") bound_cards q.bounds ++ codes "ENDATA" ∷ [])
      (Some Endata) unnamed
  sections-accepted =
      accepts-then (columns_text ++ rhs_text ++ ranges_text ++ bounds_text) (codes "ENDATA" ∷ [])
      (accepts-then (columns_text ++ rhs_text ++ ranges_text) bounds_text
      (accepts-then (columns_text ++ rhs_text) ranges_text
      (accepts-then columns_text rhs_text
      (subst (λ texts. Accepts (Some Columns) (with_columns []) texts (Some Columns) (with_columns q.columns)) (sym (column-cards q.rows q.columns some))
      (columns-accepted q.rows lawful.row_labels q.columns lawful.columns some lawful.few_columns lawful.few_entries))
      (optional (Some Columns) Rhs (codes "RHS") entry_cards with_rhs q.rhs
      (accepts-section (Some Columns) Rhs (with_rhs []) (codes "RHS") refl refl refl refl refl)
      (rhs-accepted q.rows lawful.row_labels q.columns q.rhs lawful.rhs)))
      (optional (after_rhs no_rhs) Ranges (codes "RANGES") entry_cards with_ranges q.ranges
      (accepts-section (after_rhs no_rhs) Ranges (with_ranges []) (codes "RANGES") refl refl refl refl (ranges-follow no_rhs))
      (ranges-accepted q.rows lawful.row_labels q.columns q.rhs q.ranges lawful.ranges)))
      (optional (after_ranges no_rhs no_ranges) Bounds (codes "BOUNDS") bound_cards with_bounds q.bounds
      (accepts-section (after_ranges no_rhs no_ranges) Bounds (with_bounds []) (codes "BOUNDS") refl refl refl refl (bounds-follow no_rhs no_ranges))
      (bounds-accepted q.rows q.columns q.rhs q.ranges lawful.columns.names q.bounds lawful.bounds)))
      (accepts-section (after_bounds no_rhs no_ranges no_bounds) Endata unnamed (codes "ENDATA") refl refl refl refl
      (endata-follows no_rhs no_ranges no_bounds))
    where
      columns_text : List (List ℕ)
      columns_text = flat_map (column_cards q.rows) q.columns

      rhs_text : List (List ℕ)
      rhs_text = set_section (codes "RHS") entry_cards q.rhs

      ranges_text : List (List ℕ)
      ranges_text = set_section (codes "RANGES") entry_cards q.ranges

      bounds_text : List (List ℕ)
      bounds_text = set_section (codes "BOUNDS") bound_cards q.bounds

      no_rhs : Bool
      no_rhs = is_empty q.rhs

      no_ranges : Bool
      no_ranges = is_empty q.ranges

      no_bounds : Bool
      no_bounds = is_empty q.bounds

      with_columns : List (Group (Entry Name)) → Problem Name
      with_columns columns = record { name = []; rows = q.rows; columns = columns; rhs = []; ranges = []; bounds = [] }

      with_rhs : List (Group (Entry Name)) → Problem Name
      with_rhs rhs = record { name = []; rows = q.rows; columns = q.columns; rhs = rhs; ranges = []; bounds = [] }

      with_ranges : List (Group (Entry Name)) → Problem Name
      with_ranges ranges = record { name = []; rows = q.rows; columns = q.columns; rhs = q.rhs; ranges = ranges; bounds = [] }

      with_bounds : List (Group (Bound Name)) → Problem Name
      with_bounds bounds = record { name = []; rows = q.rows; columns = q.columns; rhs = q.rhs; ranges = q.ranges; bounds = bounds }

  abbrev nothing : Problem Name
  nothing = record { name = []; rows = []; columns = []; rhs = []; ranges = []; bounds = [] }

  -- The written deck is accepted, and describes the problem.
  deck-accepted : length q.name ≤ 8 → Accepts None nothing (written q) (Some Endata) unnamed
  unfolding written
  deck-accepted short =
      let with_rows : Problem Name = record { name = []; rows = q.rows; columns = []; rhs = []; ranges = []; bounds = [] } in
      let after_columns : List (List ℕ) =
      flat_map (column_cards q.rows) q.columns ++ set_section (codes "RHS") entry_cards q.rhs ++ set_section
      (codes "RANGES") entry_cards q.ranges ++ set_section (codes "BOUNDS") bound_cards q.bounds ++ codes "ENDATA" ∷ [] in
      accepts-then (name_card q.name ∷ []) (codes "ROWS" ∷ (flat_map row_cards q.rows ++ codes "COLUMNS" ∷ after_columns)) (name-accepted q.name nothing short)
      (accepts-then (codes "ROWS" ∷ []) (flat_map row_cards q.rows ++ codes "COLUMNS" ∷ after_columns)
      (accepts-section (Some Header) Rows nothing (codes "ROWS") refl refl refl refl refl)
      (accepts-then (flat_map row_cards q.rows) (codes "COLUMNS" ∷ after_columns)
      (rows-accepted [] [] [] [] [] q.rows lawful.parts lawful.row_labels lawful.rows_distinct lawful.few_rows)
      (accepts-then (codes "COLUMNS" ∷ []) after_columns
      (accepts-section (Some Rows) Columns with_rows (codes "COLUMNS") refl refl refl refl refl) sections-accepted)))

  start : Stands [] None nothing
  unfolding described
  start = record { style_is = refl; place_is = refl; seen_is = refl }

  -- the problem's name is that of the deck
  named : (n : ℕ) → IsName q.name → deck_name (numbered_from n (written q)) ≡ q.name
  unfolding written
  named n is = header-is q.name is

  renamed : (name : Name) (cards : List Card) → described [] cards ≡ unnamed → described name cards ≡ record q { name = name }
  unfolding described
  renamed name cards e = ap (λ (p : Problem Name). record p { name = name }) e

  -- What a written deck converts to, by names.
  pub converts : (n : ℕ) → IsName q.name → conversion (numbered_from n (written q)) None ≡ Ok (numbered q)
  unfolding conversion deck_fault
  converts n is =
      let deck = numbered_from n (written q) in
      let taken = deck-accepted is.short n [] start in
      ap (λ cards. unless (first_fault (first_faulty card_fault [] cards ∷ (not (is_section_after Endata cards) ⟹ unended deck) ∷ []))
      (numbered (described (deck_name cards) cards))) taken.alive
      ∙ ap₂ (λ o p. unless o (numbered p))
      (two (first_faulty card_fault [] deck) (is_section_after Endata deck) taken.fine
      (ap (λ at. unwrap_or (option_map (is_section Endata) at) false) taken.after.place_is))
      (ap (λ name. described name deck) (named n is) ∙ renamed q.name deck taken.after.seen_is)
    where
      unended : List Card → DeckFault
      unended deck = record { card = last_number deck; kind = NoEndata }

      two : (o : Option DeckFault) (b : Bool) → o ≡ None → b ≡ true → first_fault (o ∷ (not b ⟹ unended (numbered_from n (written q))) ∷ []) ≡ None
      two (Some fault) b eo eb = absurd (cc eo)
      two None true eo eb = refl
      two None false eo eb = absurd (cc eb)

-- columns that each have an entry have one by names too
entries-named : {X Y : Type 0} (h : X → Y) (groups : List (Group X)) → AllByRecursion (λ (group : Group X). is_empty group.items ≡ false) groups →
    AllByRecursion (λ (group : Group Y). is_empty group.items ≡ false) (map (group_by h) groups)
entries-named h [] each = tt
entries-named h (group ∷ groups) each = (some group.items each.0, entries-named h groups each.1)
  where
    some : (items : List _) → is_empty items ≡ false → is_empty (map h items) ≡ false
    some [] e = absurd (cc e)
    some (item ∷ items) e = refl

-- The deck that is written for a problem in which each column has an entry converts to that problem.
pub converts-back : (problem : Problem ℕ) (first : ℕ) → IsProblem problem → All (λ (column : Group (Entry ℕ)). is_empty column.items ≡ false) problem.columns
    → conversion (numbered_from first (written (by_names problem))) None ≡ Ok problem
unfolding by_names
converts-back problem first is some =
    converts (by_names problem) (named-lawful problem is)
    (entries-named (entry_by (name_at (row_names problem))) problem.columns
    (all-each (λ (column : Group (Entry ℕ)). is_empty column.items ≡ false) problem.columns some)) first is.name
    ∙ ap Ok (numbered-by_names problem is)
