-- A lawful problem with other rows, on which its entries still stand.
use Rattle.std.proofs.Common.{◌≡◌, ◌≤◌, Bool, true, false, ◌&&◌, List, [], ◌∷◌, ◌++◌, length, map, refl, ◌∙◌, subst, is_some}
use Rattle.std.specs.List.{AllByRecursion, IsDistinct}
use Rattle.std.proofs.lemmas.List.Folds.{list_any-append}
use Rattle.problem_definitions.specs.declared.TheConstants.{MAX_ROWS}
use Rattle.problem_definitions.specs.Names.{Name, same}
use Rattle.problem_definitions.specs.Kinds.{is_free_kind}
use Rattle.problem_definitions.specs.Problem.{Row, Entry, Group, Problem, has_row, has_free_row, has_combination}
use Rattle.problem_definitions.specs.Parts.{in_row}
use Rattle.problem_definitions.proofs.Names.{same_eq}
use Rattle.problem_definitions.proofs.Each.{each-change}
use Rattle.problem_definitions.proofs.LawfulEntries.{AreLawfulEntries}
use Rattle.problem_definitions.proofs.Parts.{ArePartsAfter, entries-wider, in_row-row, in_row-free, in_row-combination}
use Rattle.problem_definitions.proofs.Lawful.{IsLabel, AreGroups, AreColumnEntries, AreRightHandSides, AreRanges, IsLawful}

-- each of the rows is still there, and none has become free or a combination
pub record AreStill (rows others : List (Row Name)) : Type 0 where
  pub named : (name : Name) → has_row rows name ≡ true → has_row others name ≡ true
  pub limited : (name : Name) → has_row rows name ≡ true → has_free_row rows name ≡ false → has_free_row others name ≡ false
  pub plain : (name : Name) → has_row rows name ≡ true → has_combination rows name ≡ false → has_combination others name ≡ false

-- groups by other facts of their items
pub groups-same : {X : Type 0} {N : Name → Type 0} (P Q : List X → Type 0) → ((items : List X) → P items → Q items) → (groups : List (Group X)) →
    AreGroups N P groups → AreGroups N Q groups
groups-same {X} {N} P Q change groups lawful = record {
  names = lawful.names;
  distinct = lawful.distinct;
  items = each-change (λ (group : Group X). P group.items) (λ group. Q group.items) (λ group p. change group.items p) groups lawful.items;
}

-- ---- what stands on rows that are still there

module _ (rows others : List (Row Name)) where
  -- a fact of the rows of entries that stays where the row is there
  facts-still : (F G : Name → Type 0) → ((name : Name) → has_row rows name ≡ true → F name → G name) → (entries : List (Entry Name))
      → AllByRecursion (λ (entry : Entry Name). has_row rows entry.row ≡ true) entries
      → AllByRecursion (λ (entry : Entry Name). F entry.row) entries → AllByRecursion (λ (entry : Entry Name). G entry.row) entries
  facts-still F G change [] there each = tt
  facts-still F G change (entry ∷ entries) there each = (change entry.row there.0 each.0, facts-still F G change entries there.1 each.1)

  module _ (still : AreStill rows others) where
    pub entries-still : (entries : List (Entry Name)) → AreLawfulEntries rows entries → AreLawfulEntries others entries
    entries-still = entries-wider rows others still.named

    pub columns-still : (entries : List (Entry Name)) → AreColumnEntries rows entries → AreColumnEntries others entries
    columns-still entries are = record {
      entries_lawful = entries-still entries are.entries_lawful;
      no_marker = are.no_marker;
      plain =
          facts-still (λ name. has_combination rows name ≡ false)
          (λ name. has_combination others name ≡ false) still.plain entries are.entries_lawful.on_rows are.plain;
    }

    pub right_hand_sides-still : (entries : List (Entry Name)) → AreRightHandSides rows entries → AreRightHandSides others entries
    right_hand_sides-still entries are = record { entries_lawful = entries-still entries are.entries_lawful; filled = are.filled }

    pub ranges-still : (entries : List (Entry Name)) → AreRanges rows entries → AreRanges others entries
    ranges-still entries are = record {
      entries_lawful = entries-still entries are.entries_lawful;
      filled = are.filled;
      limited =
          facts-still (λ name. has_free_row rows name ≡ false)
          (λ name. has_free_row others name ≡ false) still.limited entries are.entries_lawful.on_rows are.limited;
    }

pub rows-changed : (p : Problem Name) (others : List (Row Name)) → IsLawful p → AreStill p.rows others
    → AllByRecursion IsLabel (map (λ (row : Row Name). row.name) others)
    → IsDistinct same (map (λ (row : Row Name). row.name) others) → ArePartsAfter [] others → length others ≤ MAX_ROWS → IsLawful (record p { rows = others })
rows-changed p others lawful still labels distinct parts few = record {
  row_labels = labels;
  parts = parts;
  rows_distinct = distinct;
  columns = groups-same (AreColumnEntries p.rows) (AreColumnEntries others) (columns-still p.rows others still) p.columns lawful.columns;
  rhs = groups-same (AreRightHandSides p.rows) (AreRightHandSides others) (right_hand_sides-still p.rows others still) p.rhs lawful.rhs;
  ranges = groups-same (AreRanges p.rows) (AreRanges others) (ranges-still p.rows others still) p.ranges lawful.ranges;
  bounds = lawful.bounds;
  few_rows = few;
  few_columns = lawful.few_columns;
  few_entries = lawful.few_entries;
}

-- ---- rows that are still there

-- after the parts of one have changed
pub in_row-still : (name : Name) (change : List (Entry Name) → List (Entry Name)) (rows : List (Row Name)) → AreStill rows (in_row name change rows)
in_row-still name change rows = record {
  named = λ other there. in_row-row name change rows other ∙ there;
  limited = λ other there limited. in_row-free name change rows other ∙ limited;
  plain = λ other there plain. in_row-combination name change rows other ∙ plain;
}

-- with a row of a new name at the end
pub pushed-still : (rows : List (Row Name)) (row : Row Name) → has_row rows row.name ≡ false → AreStill rows (rows ++ row ∷ [])
pushed-still rows row new = record {
  named = λ name there. list_any-append (λ (other : Row Name). same name other.name) rows (row ∷ []) ∙ rw there refl;
  limited =
      λ name there limited. list_any-append (λ (other : Row Name). same name other.name && is_free_kind other.kind) rows (row ∷ [])
      ∙ rw (limited, unlike name there (same name row.name) refl) refl;
  plain =
      λ name there plain. list_any-append (λ (other : Row Name). same name other.name && is_some other.parts) rows (row ∷ [])
      ∙ rw (plain, unlike name there (same name row.name) refl) refl;
}
  where
    unlike : (name : Name) → has_row rows name ≡ true → (b : Bool) → same name row.name ≡ b → same name row.name ≡ false
    unlike name there true e = absurd (cc (subst (λ n. has_row rows n ≡ true) (same_eq name row.name e) there, new))
    unlike name there false e = e
