-- The text of a written deck, read as cards, is those cards.
use Rattle.std.proofs.Common.{◌≡◌, ℕ, zero, suc, ◌-◌, Bool, true, false, cond, eqb, ◌&&◌, ◌||◌, List, [], ◌∷◌, ◌++◌, Option, Some, None, is_none, length, map}
use Rattle.std.proofs.Common.{filter, take, replicate, refl, ap, ap₂, sym, ◌∙◌}
use Rattle.std.specs.List.{AllByRecursion, list_all, flat_map, slice_split, suffix_len}
use Rattle.std.specs.Option.{IfSome}
use Rattle.std.specs.Prelude.{codes}
use Rattle.std.proofs.lemmas.List.{append_assoc}
use Rattle.std.proofs.lemmas.List.Folds.{list_all-append}
use Rattle.std.proofs.lemmas.List.Splits.{slice_split_at}
use Rattle.std.proofs.lemmas.Bool.{eqb-true}
use Rattle.card_definitions.specs.Words.{without_trailing, is_empty, padded}
use Rattle.card_definitions.specs.Cards.{is_blank, is_trailing, is_line_feed, is_printable, without_empty_last, cards_of}
use Rattle.card_definitions.specs.Numbers.{Decimal}
use Rattle.card_definitions.proofs.Trailing.{without_trailing-cons, part_passes, trimmed_twice}
use Rattle.problem_definitions.specs.declared.RowKind.{RowKind}
use Rattle.problem_definitions.specs.declared.RowKind.TheVariants.{N, G, L, E}
use Rattle.problem_definitions.specs.declared.BoundKind.{BoundKind}
use Rattle.problem_definitions.specs.declared.BoundKind.TheVariants.{Up, Lo, Fx, Fr, Mi, Pl}
use Rattle.problem_definitions.specs.Names.{Name}
use Rattle.problem_definitions.specs.Problem.{Row, Entry, Bound, Group, Problem, group_names, has_row, has_group}
use Rattle.problem_definitions.specs.Numbering.{by_names}
use Rattle.problem_definitions.specs.Valid.{IsName, IsDecimal, IsProblem}
use Rattle.problem_definitions.proofs.Names.{row_is_named}
use Rattle.problem_definitions.proofs.Groups.{has_group-names}
use Rattle.problem_definitions.proofs.Each.{each-all, each-append, each-change}
use Rattle.problem_definitions.proofs.Parts.{parts-there}
use Rattle.problem_definitions.proofs.Lawful.{IsLabel, AreLawfulEntries, AreLawfulBounds, IsLawful}
use Rattle.deck_definitions.specs.DataCards.{combination_text}
use Rattle.deck_definitions.specs.Written.{row_kind_text, bound_kind_text, data_card, row_cards, entry_cards, column_cards, bound_text, bound_cards}
use Rattle.deck_definitions.specs.Written.{set_section, written, card_text}
use Rattle.revise_laws.proofs.Lists.{each-filter}
use Rattle.revise_laws.proofs.ByNames.{named-lawful}
use Rattle.basis_deck_laws.proofs.Facts.{from-map, label-of}
use Rattle.basis_deck_laws.proofs.Printable.{IsPrintableText, number-printable}

-- a card of printable bytes, of which the last isn't a blank
pub record IsCard (card : List ℕ) : Type 0 where
  pub printable : IsPrintableText card
  pub trimmed : without_trailing is_blank card ≡ card

-- ---- cards come back from their text

printable-apart : (x n : ℕ) → is_printable x ≡ true → is_printable n ≡ false → eqb x n ≡ false
printable-apart x n h none = by (eqb x n) refl
  where
    by : (b : Bool) → eqb x n ≡ b → b ≡ false
    by false e = refl
    by true e = let same = ap is_printable (eqb-true x n e) in absurd (cc (same, h, none))

first-printable : (x : ℕ) (xs : List ℕ) → IsPrintableText (x ∷ xs) → is_printable x ≡ true
first-printable x xs h = by (is_printable x) (list_all is_printable xs) h
  where
    by : (a b : Bool) → (a && b) ≡ true → a ≡ true
    by true b h = refl
    by false b h = h

rest-printable : (x : ℕ) (xs : List ℕ) → IsPrintableText (x ∷ xs) → IsPrintableText xs
rest-printable x xs h = by (is_printable x) (list_all is_printable xs) h
  where
    by : (a b : Bool) → (a && b) ≡ true → b ≡ true
    by true b h = h
    by false b h = absurd (cc h)

-- no carriage return stands in printable bytes
same-trailing : (xs : List ℕ) → IsPrintableText xs → without_trailing is_trailing xs ≡ without_trailing is_blank xs
same-trailing [] h = refl
same-trailing (x ∷ xs) h =
    without_trailing-cons is_trailing x xs
    ∙ ap₂ (λ rest b. cond (is_empty rest && b) [] (x ∷ rest)) (same-trailing xs (rest-printable x xs h))
    (blank (is_blank x) (eqb x 13) (printable-apart x 13 (first-printable x xs h) refl))
    ∙ sym (without_trailing-cons is_blank x xs)
  where
    blank : (a b : Bool) → b ≡ false → (a || b) ≡ a
    blank true b h = refl
    blank false b h = h

no-line-feed : (xs : List ℕ) → IsPrintableText xs → AllByRecursion (λ x. is_line_feed x ≡ false) xs
no-line-feed [] h = tt
no-line-feed (x ∷ xs) h = (printable-apart x 10 (first-printable x xs h) refl, no-line-feed xs (rest-printable x xs h))

split-text : (cards : List (List ℕ)) → AllByRecursion IsCard cards → slice_split is_line_feed (card_text cards) ≡ cards ++ [] ∷ []
split-text [] each = refl
split-text (card ∷ cards) each =
    ap (slice_split is_line_feed) (append_assoc card (10 ∷ []) (card_text cards))
    ∙ slice_split_at is_line_feed card 10 (card_text cards) (each-all (λ x. is_line_feed x ≡ false) card (no-line-feed card each.0.printable)) refl
    ∙ ap (λ list. card ∷ list) (split-text cards each.1)

last-left-out : (cards : List (List ℕ)) → without_empty_last (cards ++ [] ∷ []) ≡ cards
last-left-out [] = refl
last-left-out ([] ∷ []) = refl
last-left-out ((x ∷ xs) ∷ []) = refl
last-left-out ([] ∷ (card ∷ cards)) = ap (λ list. [] ∷ list) (last-left-out (card ∷ cards))
last-left-out ((x ∷ xs) ∷ (card ∷ cards)) = ap (λ list. (x ∷ xs) ∷ list) (last-left-out (card ∷ cards))

all-trimmed : (cards : List (List ℕ)) → AllByRecursion IsCard cards → map (without_trailing is_trailing) cards ≡ cards
all-trimmed [] each = refl
all-trimmed (card ∷ cards) each = ap₂ (λ a b. a ∷ b) (same-trailing card each.0.printable ∙ each.0.trimmed) (all-trimmed cards each.1)

pub read-back : (cards : List (List ℕ)) → AllByRecursion IsCard cards → cards_of (card_text cards) ≡ cards
unfolding cards_of
read-back cards each =
    ap (λ parts. map (without_trailing is_trailing) (without_empty_last parts)) (split-text cards each)
    ∙ ap (map (without_trailing is_trailing)) (last-left-out cards) ∙ all-trimmed cards each

-- ---- the cards of a deck

pub append-printable : (xs ys : List ℕ) → IsPrintableText xs → IsPrintableText ys → IsPrintableText (xs ++ ys)
append-printable xs ys px py = list_all-append is_printable xs ys ∙ ap₂ (λ a b. a && b) px py

blanks-printable : (n : ℕ) → IsPrintableText (replicate n 32)
blanks-printable zero = refl
blanks-printable (suc n) = blanks-printable n

padded-printable : (width : ℕ) (text : List ℕ) → IsPrintableText text → IsPrintableText (padded width text)
padded-printable width text h = append-printable text (replicate (width - length text) 32) h (blanks-printable (width - length text))

pub trimmed-card : (xs : List ℕ) → IsPrintableText xs → IsCard (without_trailing is_blank xs)
trimmed-card xs h = record { printable = part_passes is_printable 0 (length xs - suffix_len is_blank xs) xs h; trimmed = trimmed_twice is_blank xs }

pub data-is : (kind name1 name2 value : List ℕ) → IsPrintableText kind → IsPrintableText name1 → IsPrintableText name2 → IsPrintableText value →
    IsCard (data_card kind name1 name2 value)
unfolding data_card
data-is kind name1 name2 value pk p1 p2 pv =
    let K = padded 2 kind in
    let A = padded 8 name1 in
    let B = padded 8 name2 in
    let s1 = append-printable (codes " ") K refl (padded-printable 2 kind pk) in
    let s2 = append-printable (codes " " ++ K) (codes " ") s1 refl in
    let s3 = append-printable (codes " " ++ K ++ codes " ") A s2 (padded-printable 8 name1 p1) in
    let s4 = append-printable (codes " " ++ K ++ codes " " ++ A) (codes "  ") s3 refl in
    let s5 = append-printable (codes " " ++ K ++ codes " " ++ A ++ codes "  ") B s4 (padded-printable 8 name2 p2) in
    let s6 = append-printable (codes " " ++ K ++ codes " " ++ A ++ codes "  " ++ B) (codes "  ") s5 refl in
    trimmed-card (codes " " ++ K ++ codes " " ++ A ++ codes "  " ++ B ++ codes "  " ++ value)
    (append-printable (codes " " ++ K ++ codes " " ++ A ++ codes "  " ++ B ++ codes "  ") value s6 pv)

cards-flat : {X : Type 0} (P : X → Type 0) (f : X → List (List ℕ)) → ((x : X) → P x → AllByRecursion IsCard (f x)) → (xs : List X) → AllByRecursion P xs →
    AllByRecursion IsCard (flat_map f xs)
cards-flat P f is [] each = tt
cards-flat P f is (x ∷ xs) each = each-append IsCard (f x) (flat_map f xs) (is x each.0) (cards-flat P f is xs each.1)

row-kind : (kind : RowKind) → IsPrintableText (row_kind_text kind)
row-kind N = refl
row-kind G = refl
row-kind L = refl
row-kind E = refl

combination-kind : (kind : RowKind) → IsPrintableText (combination_text kind)
combination-kind N = refl
combination-kind G = refl
combination-kind L = refl
combination-kind E = refl

bound-kind : (kind : BoundKind) → IsPrintableText (bound_kind_text kind)
bound-kind Up = refl
bound-kind Lo = refl
bound-kind Fx = refl
bound-kind Fr = refl
bound-kind Mi = refl
bound-kind Pl = refl

-- a group with a name and with lawful items
record IsGroup {X : Type 0} (Items : List X → Type 0) (group : Group X) : Type 0 where
  name : IsName group.name
  items : Items group.items

groups : {X : Type 0} (Items : List X → Type 0) (groups : List (Group X)) → AllByRecursion (λ (group : Group X). IsName group.name) groups →
    AllByRecursion (λ (group : Group X). Items group.items) groups → AllByRecursion (IsGroup Items) groups
groups Items [] names items = tt
groups Items (group ∷ rest) names items = (record { name = names.0; items = items.0 }, groups Items rest names.1 items.1)

section-is : {X : Type 0} (P : Group X → Type 0) (word : List ℕ) (cards : Group X → List (List ℕ)) → IsCard word →
    ((group : Group X) → P group → AllByRecursion IsCard (cards group)) → (sets : List (Group X)) → AllByRecursion P sets →
    AllByRecursion IsCard (set_section word cards sets)
section-is P word cards is each [] all = tt
section-is P word cards is each (set ∷ sets) all = (is, cards-flat P cards each (set ∷ sets) all)

module _ (q : Problem Name) (lawful : IsLawful q) (name : IsName q.name) where
  row_labels : AllByRecursion (λ (row : Row Name). IsLabel row.name) q.rows
  row_labels = from-map IsLabel (λ (row : Row Name). row.name) q.rows lawful.row_labels

  entries-are : (group : Group (Entry Name)) → IsGroup (AreLawfulEntries q.rows) group → AllByRecursion IsCard (entry_cards group)
  entries-are group is = by group.items is.items.on_rows is.items.values
    where
      by : (items : List (Entry Name)) → AllByRecursion (λ (entry : Entry Name). has_row q.rows entry.row ≡ true) items
          → AllByRecursion (λ (entry : Entry Name). IsDecimal entry.value) items
          → AllByRecursion IsCard (map (λ (entry : Entry Name). data_card [] group.name entry.row entry.value.text) items)
      by [] there values = tt
      by (entry ∷ items) there values =
          let label = label-of (map (λ (row : Row Name). row.name) q.rows) entry.row lawful.row_labels (sym (row_is_named entry.row q.rows) ∙ there.0) in (
            data-is [] group.name entry.row entry.value.text refl is.name.printable label.name_of.printable
                (number-printable entry.value values.0),
            by items there.1 values.1,
          )

  -- the cards of a combination, whose parts stand on rows that are there
  parts-are : (kind : RowKind) (name : Name) → IsName name → (parts : List (Entry Name))
      → AllByRecursion (λ (part : Entry Name). has_row q.rows part.row ≡ true) parts → AllByRecursion (λ (part : Entry Name). IsDecimal part.value) parts
      → AllByRecursion IsCard (map (λ (part : Entry Name). data_card (combination_text kind) name part.row part.value.text) parts)
  parts-are kind name is [] there values = tt
  parts-are kind name is (part ∷ parts) there values =
      let label = label-of (map (λ (row : Row Name). row.name) q.rows) part.row lawful.row_labels (sym (row_is_named part.row q.rows) ∙ there.0) in (
        data-is (combination_text kind) name part.row part.value.text (combination-kind kind) is.printable label.name_of.printable
            (number-printable part.value values.0),
        parts-are kind name is parts there.1 values.1,
      )

  row-is : (row : Row Name) → IsLabel row.name → IfSome row.parts (AreLawfulEntries q.rows) → AllByRecursion IsCard (row_cards row)
  row-is row label are = by row.parts are
    where
      by : (parts : Option (List (Entry Name))) → IfSome parts (AreLawfulEntries q.rows) →
          AllByRecursion IsCard (row_cards (record { kind = row.kind; name = row.name; parts = parts }))
      by None are = (data-is (row_kind_text row.kind) row.name [] [] (row-kind row.kind) label.name_of.printable refl refl, tt)
      by (Some []) are = (data-is (combination_text row.kind) row.name [] [] (combination-kind row.kind) label.name_of.printable refl refl, tt)
      by (Some (part ∷ parts)) are = parts-are row.kind row.name label.name_of (part ∷ parts) are.on_rows are.values

  rows-are : (rows : List (Row Name)) → AllByRecursion (λ (row : Row Name). IsLabel row.name) rows →
      AllByRecursion (λ (row : Row Name). IfSome row.parts (AreLawfulEntries q.rows)) rows → AllByRecursion IsCard (flat_map row_cards rows)
  rows-are [] labels are = tt
  rows-are (row ∷ rows) labels are = each-append IsCard (row_cards row) (flat_map row_cards rows) (row-is row labels.0 are.0) (rows-are rows labels.1 are.1)

  column-is : (column : Group (Entry Name)) → IsGroup (AreLawfulEntries q.rows) column → AllByRecursion IsCard (column_cards q.rows column)
  column-is column is = by (is_empty column.items)
    where
      zero-cards : (rows : List (Row Name)) → AllByRecursion (λ (row : Row Name). IsLabel row.name) rows →
          AllByRecursion IsCard (map (λ (row : Row Name). data_card [] column.name row.name (codes "0")) (take 1 rows))
      zero-cards [] labels = tt
      zero-cards (row ∷ rows) labels = (data-is [] column.name row.name (codes "0") refl is.name.printable labels.0.name_of.printable refl, tt)

      by : (b : Bool) →
          AllByRecursion IsCard
          (cond b (map (λ (row : Row Name). data_card [] column.name row.name (codes "0")) (take 1 (filter (λ row. is_none row.parts) q.rows)))
          (entry_cards column))
      by true =
          zero-cards (filter (λ row. is_none row.parts) q.rows)
          (each-filter (λ (row : Row Name). IsLabel row.name) (λ row. is_none row.parts) q.rows row_labels)
      by false = entries-are column is

  bounds-are : (set : Group (Bound Name)) → IsGroup (AreLawfulBounds q.columns) set → AllByRecursion IsCard (bound_cards set)
  bounds-are set is = by set.items is.items.on_columns is.items.values
    where
      text : (bound : Bound Name) (o : Option Decimal) → bound.value ≡ o → IfSome o IsDecimal → IsPrintableText (bound_text bound)
      text bound None e is = rw e refl
      text bound (Some number) e is = rw e (number-printable number is)

      by : (items : List (Bound Name)) → AllByRecursion (λ (bound : Bound Name). has_group q.columns bound.column ≡ true) items
          → AllByRecursion (λ (bound : Bound Name). IfSome bound.value IsDecimal) items
          → AllByRecursion IsCard (map (λ (bound : Bound Name). data_card (bound_kind_text bound.kind) set.name bound.column (bound_text bound)) items)
      by [] there values = tt
      by (bound ∷ items) there values =
          let label = label-of (group_names q.columns) bound.column lawful.columns.names (sym (has_group-names q.columns bound.column) ∙ there.0) in (
            data-is (bound_kind_text bound.kind) set.name bound.column (bound_text bound) (bound-kind bound.kind) is.name.printable label.name_of.printable
                (text bound bound.value refl values.0),
            by items there.1 values.1,
          )

  cards-are : AllByRecursion IsCard (written q)
  unfolding written
  cards-are =
      let C = flat_map (column_cards q.rows) q.columns in
      let S1 = set_section (codes "RHS") entry_cards q.rhs in
      let S2 = set_section (codes "RANGES") entry_cards q.ranges in
      let S3 = set_section (codes "BOUNDS") bound_cards q.bounds in
      let last = codes "ENDATA" ∷ [] in (
        trimmed-card (codes "NAME          " ++ q.name) (append-printable (codes "NAME          ") q.name refl name.printable),
        (
          record { printable = refl; trimmed = refl },
          each-append IsCard (flat_map row_cards q.rows) (codes "COLUMNS" ∷ (C ++ S1 ++ S2 ++ S3 ++ last))
              (rows-are q.rows row_labels (parts-there q.rows [] q.rows (λ name there. there) lawful.parts)) (
                record { printable = refl; trimmed = refl },
                each-append IsCard (C ++ S1 ++ S2 ++ S3) last
                    (each-append IsCard (C ++ S1 ++ S2) S3
                    (each-append IsCard (C ++ S1) S2
                    (each-append IsCard C S1
                    (cards-flat (IsGroup (AreLawfulEntries q.rows)) (column_cards q.rows) column-is q.columns
                    (groups (AreLawfulEntries q.rows) q.columns
                    (from-map IsName (λ (g : Group (Entry Name)). g.name) q.columns
                    (each-change IsLabel IsName (λ n label. label.name_of) (group_names q.columns) lawful.columns.names))
                    (each-change _ (λ (g : Group (Entry Name)). AreLawfulEntries q.rows g.items) (λ g is. is.entries_lawful) q.columns lawful.columns.items)))
                    (section-is (IsGroup (AreLawfulEntries q.rows)) (codes "RHS") entry_cards (record { printable = refl; trimmed = refl }) entries-are q.rhs
                    (groups (AreLawfulEntries q.rows) q.rhs (from-map IsName (λ (g : Group (Entry Name)). g.name) q.rhs lawful.rhs.names)
                    (each-change _ (λ (g : Group (Entry Name)). AreLawfulEntries q.rows g.items) (λ g is. is.entries_lawful) q.rhs lawful.rhs.items))))
                    (section-is (IsGroup (AreLawfulEntries q.rows)) (codes "RANGES") entry_cards
                    (record { printable = refl; trimmed = refl }) entries-are q.ranges
                    (groups (AreLawfulEntries q.rows) q.ranges (from-map IsName (λ (g : Group (Entry Name)). g.name) q.ranges lawful.ranges.names)
                    (each-change _ (λ (g : Group (Entry Name)). AreLawfulEntries q.rows g.items) (λ g is. is.entries_lawful) q.ranges lawful.ranges.items))))
                    (section-is (IsGroup (AreLawfulBounds q.columns)) (codes "BOUNDS") bound_cards
                    (record { printable = refl; trimmed = refl }) bounds-are q.bounds
                    (groups (AreLawfulBounds q.columns) q.bounds (from-map IsName (λ (g : Group (Bound Name)). g.name) q.bounds lawful.bounds.names)
                    (each-change _ (λ (g : Group (Bound Name)). AreLawfulBounds q.columns g.items) (λ g is. is.bounds_lawful) q.bounds lawful.bounds.items))))
                    (record { printable = refl; trimmed = refl }, tt),
              ),
        ),
      )

-- The text of the deck that is written for a problem has the deck's cards.
pub reads-back : (problem : Problem ℕ) → IsProblem problem → cards_of (card_text (written (by_names problem))) ≡ written (by_names problem)
unfolding by_names
reads-back problem is = read-back (written (by_names problem)) (cards-are (by_names problem) (named-lawful problem is) is.name)
