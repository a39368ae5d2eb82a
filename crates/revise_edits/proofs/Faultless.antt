-- What a card gives in whose tests no fault was found: what its edit needs.
use Rattle.std.proofs.Common.{◌≡◌, ℕ, ◌+◌, Bool, true, false, cond, not, ◌&&◌, List, [], ◌∷◌, ◌++◌, Option, Some, None, is_some, is_none, length, nat_le, refl}
use Rattle.std.proofs.Common.{sym, subst, ◌∙◌}
use Rattle.std.specs.Option.{option_or, IfSome}
use Rattle.card_definitions.specs.Words.{named, is_empty, ◌⟹◌}
use Rattle.card_definitions.specs.Fields.{Reading}
use Rattle.problem_definitions.specs.declared.TheConstants.{MAX_ROWS, MAX_COLUMNS}
use Rattle.problem_definitions.specs.declared.BoundKind.{BoundKind}
use Rattle.problem_definitions.specs.Names.{Name}
use Rattle.problem_definitions.specs.Problem.{Row, Entry, Problem, has_row, has_group, has_combination, entry_count}
use Rattle.problem_definitions.specs.Parts.{parts_of, rows_before}
use Rattle.problem_definitions.specs.Groups.{items_of}
use Rattle.deck_definitions.specs.declared.DeckFaultKind.{DeckFaultKind}
use Rattle.deck_definitions.specs.declared.DeckFaultKind.TheVariants.{BadRowType, DuplicateRow, ColumnSplit, RangeOnFree, UnknownColumn, EmptyName, TooManyRows}
use Rattle.deck_definitions.specs.declared.DeckFaultKind.TheVariants.{TooManyColumns, ModifyMissing}
use Rattle.deck_definitions.specs.declared.Section.{Section}
use Rattle.deck_definitions.specs.declared.Section.TheVariants.{Rows, Columns, Rhs, Ranges, Bounds}
use Rattle.deck_definitions.specs.DataCards.{Pair, pair_if, pairs_of, part_pairs_of, entry_of, kind_on, bound_kinds, combination_kinds}
use Rattle.deck_definitions.specs.Tests.{kind_filled, marks, pairs_fault, pair_fault, filled_from_3, row_fields_fault, rows_fault, of_bound_type}
use Rattle.deck_definitions.proofs.Pairs.{pairs_fault-cons}
use Rattle.named_problem.specs.Views.{rows_alone, bound_end_fault}
use Rattle.revise_definitions.specs.declared.Action.{Action}
use Rattle.revise_definitions.specs.declared.Action.TheVariants.{Modify, Delete, Before, After}
use Rattle.revise_definitions.specs.Edits.{put_entry}
use Rattle.revise_definitions.specs.Tests.{put_fault, puts_fault, has_range, frees, has_type_for, modified_fields_fault, modify_rows_fault}
use Rattle.revise_definitions.specs.Tests.{modify_columns_fault, modify_sets_fault, modify_bound_fault}
use Rattle.revise_definitions.proofs.Pairs.{puts_fault-cons}
use Rattle.named_problem.specs.Additions.{AreNumbers, AreNew}
use Rattle.revise_edits.specs.Summary.{Under, goes_on_from, goes_on_row_from}
use Rattle.revise_edits.specs.EditTests.{earlier_among, insert_columns_test, edit_test}
use Rattle.revise_edits.specs.Needs.{IsNewRow, IsNewColumn, HasBound, CanEditRows, CanEditColumns, CanEditSets, CanEditBounds}

-- ---- no fault in a list of tests

none-first : {F : Type 0} (a b : Option F) → option_or a b ≡ None → a ≡ None
none-first None b e = refl
none-first (Some x) b e = absurd (cc e)

none-rest : {F : Type 0} (a b : Option F) → option_or a b ≡ None → b ≡ None
none-rest None b e = e
none-rest (Some x) b e = absurd (cc e)

fails : {F : Type 0} (b : Bool) (fault : F) → (b ⟹ fault) ≡ None → b ≡ false
fails true fault e = absurd (cc e)
fails false fault e = refl

-- no fault in the first two tests, or three, and what is left
after2 : {F : Type 0} (a b rest : Option F) → option_or a (option_or b rest) ≡ None → rest ≡ None
after2 a b rest e = none-rest b rest (none-rest a (option_or b rest) e)

after4 : {F : Type 0} (a b c d rest : Option F) → option_or a (option_or b (option_or c (option_or d rest))) ≡ None → rest ≡ None
after4 a b c d rest e = after2 c d rest (after2 a b (option_or c (option_or d rest)) e)

-- ---- pairs

new_pairs : (seen : Problem Name) (section : Section) (taken : List (Entry Name)) (count : ℕ) (pairs : List Pair) →
    pairs_fault seen section taken count pairs ≡ None → AreNew taken pairs
new_pairs seen section taken count [] e = tt
new_pairs seen section taken count (pair ∷ pairs) e =
    let whole = sym (pairs_fault-cons seen section taken count pair pairs) ∙ e in
    let rest = none-rest (pair_fault seen section taken count pair) (pairs_fault seen section (taken ++ entry_of pair ∷ []) (count + 1) pairs) whole in
    let later =
    none-rest _ _ (none-first (pair_fault seen section taken count pair) (pairs_fault seen section (taken ++ entry_of pair ∷ []) (count + 1) pairs) whole) in
    (fails _ _ (none-first _ _ later), none-first _ _ (none-rest _ _ later), new_pairs seen section (taken ++ entry_of pair ∷ []) (count + 1) pairs rest)

put_pairs : (seen : Problem Name) (section : Section) (items : List (Entry Name)) (count : ℕ) (pairs : List Pair) →
    puts_fault seen section items count pairs ≡ None → AreNumbers pairs
put_pairs seen section items count [] e = tt
put_pairs seen section items count (pair ∷ pairs) e =
    let whole = sym (puts_fault-cons seen section items count pair pairs) ∙ e in (
      none-first _ _ (none-rest _ _ (none-first (put_fault seen section items count pair) _ whole)),
      put_pairs seen section
          (put_entry items (entry_of pair)) _ pairs (none-rest (put_fault seen section items count pair) _ whole),
    )

-- ---- ROWS

no_pairs : (card : Reading) → filled_from_3 card ≡ None → part_pairs_of card ≡ []
no_pairs card e = by card.name2 card.value1 card.name3 card.value2 (fails (not (is_empty (card.name2 ++ card.value1 ++ card.name3 ++ card.value2))) _ e)
  where
    by : (a b c d : List ℕ) → not (is_empty (a ++ b ++ c ++ d)) ≡ false → pair_if a b card.value1_column ++ pair_if c d card.value2_column ≡ []
    by [] [] [] [] e = refl
    by (x ∷ a) b c d e = absurd (cc e)
    by [] (x ∷ b) c d e = absurd (cc e)
    by [] [] (x ∷ c) d e = absurd (cc e)
    by [] [] [] (x ∷ d) e = absurd (cc e)

fresh_parts : (rows earlier : List (Row Name)) (card : Reading) → row_fields_fault (rows_alone rows) earlier card ≡ None →
    AreNew (parts_of card.name1 rows) (part_pairs_of card)
fresh_parts rows earlier card e = by (is_some (named combination_kinds card.kind)) e
  where
    by : (b : Bool) → cond b (pairs_fault (rows_alone earlier) Rows (parts_of card.name1 rows) 0 (part_pairs_of card)) (filled_from_3 card) ≡ None →
        AreNew (parts_of card.name1 rows) (part_pairs_of card)
    by true e = new_pairs (rows_alone earlier) Rows (parts_of card.name1 rows) 0 (part_pairs_of card) e
    by false e = subst (AreNew (parts_of card.name1 rows)) (sym (no_pairs card e)) tt

-- the card of a row that is begun or goes on
pub new_row : (rows : List (Row Name)) (under : Under) (earlier : List (Row Name)) (card : Reading) →
    rows_fault (rows_alone rows) (goes_on_row_from under card) earlier card ≡ None → IsNewRow under card rows
new_row rows under earlier card fine = (
  λ begins. by (goes_on_row_from under card) begins (fails (not goes && has_row rows card.name1) DuplicateRow
      (none-first taken (option_or many (option_or fields None)) (after2 type empty (option_or taken (option_or many (option_or fields None))) fine))),
  fresh_parts rows earlier card (none-first fields None (after4 type empty taken many (option_or fields None) fine)),
)
  where
    goes : Bool
    goes = goes_on_row_from under card

    type : Option DeckFaultKind
    type = is_none (kind_on card) ⟹ BadRowType

    empty : Option DeckFaultKind
    empty = is_empty card.name1 ⟹ EmptyName

    taken : Option DeckFaultKind
    taken = not goes && has_row rows card.name1 ⟹ DuplicateRow

    many : Option DeckFaultKind
    many = not goes && nat_le MAX_ROWS (length rows) ⟹ TooManyRows

    fields : Option DeckFaultKind
    fields = row_fields_fault (rows_alone rows) earlier card

    by : (b : Bool) → b ≡ false → (not b && has_row rows card.name1) ≡ false → has_row rows card.name1 ≡ false
    by true f e = absurd (cc f)
    by false f e = e

modified_row : (seen : Problem Name) (card : Reading) → modify_rows_fault seen card ≡ None → has_combination seen.rows card.name1 ≡ true →
    AreNumbers (part_pairs_of card)
modified_row seen card fine combines = by (has_combination seen.rows card.name1) combines (none-first (modified_fields_fault seen card) None (after4
    (is_empty card.name1 ⟹ EmptyName) (not (has_row seen.rows card.name1) ⟹ ModifyMissing)
    (not (has_type_for (has_combination seen.rows card.name1) card) ⟹ BadRowType) (frees card && has_range seen card.name1 ⟹ RangeOnFree)
    (option_or (modified_fields_fault seen card) None) fine))
  where
    by : (b : Bool) → b ≡ true →
        cond b (puts_fault (record seen { rows = rows_before card.name1 seen.rows }) Rows [] 0 (part_pairs_of card)) (filled_from_3 card) ≡ None →
        AreNumbers (part_pairs_of card)
    by true t e = put_pairs (record seen { rows = rows_before card.name1 seen.rows }) Rows [] 0 (part_pairs_of card) e
    by false t e = absurd (cc t)

pub rows_needs : (seen : Problem Name) (action : Action) (under : Under) (card : Reading) → edit_test seen Rows action under card ≡ None →
    CanEditRows action under card seen.rows
rows_needs seen Modify under card fine = modified_row seen card fine
rows_needs seen Delete under card fine = tt
rows_needs seen Before under card fine = new_row seen.rows under (earlier_among Before under card seen.rows) card fine
rows_needs seen After under card fine = new_row seen.rows under (earlier_among After under card seen.rows) card fine

-- ---- COLUMNS and sets

modified_column : (seen : Problem Name) (card : Reading) → modify_columns_fault seen card ≡ None → AreNumbers (pairs_of card)
modified_column seen card fine = put_pairs seen Columns (items_of card.name1 seen.columns) (entry_count seen) (pairs_of card) (none-first puts None (after4
    (kind_filled card) (marks card) (is_empty card.name1 ⟹ EmptyName) (not (has_group seen.columns card.name1) ⟹ ModifyMissing) (option_or puts None) fine))
  where
    puts : Option DeckFaultKind
    puts = puts_fault seen Columns (items_of card.name1 seen.columns) (entry_count seen) (pairs_of card)

new_column : (seen : Problem Name) (under : Under) (card : Reading) → insert_columns_test seen (goes_on_from under card) card ≡ None →
    IsNewColumn under card seen.columns
new_column seen under card fine = (
  λ begins. by (has_group seen.columns card.name1) goes begins (fails (has_group seen.columns card.name1 && not goes) ColumnSplit
      (none-first split (option_or many (option_or pairs None))
      (none-rest empty (option_or split (option_or many (option_or pairs None)))
      (after2 (kind_filled card) (marks card) (option_or empty (option_or split (option_or many (option_or pairs None)))) fine)))),
  new_pairs seen Columns (items_of card.name1 seen.columns) (entry_count seen) (pairs_of card)
      (none-first pairs None
      (none-rest many (option_or pairs None) (after4 (kind_filled card) (marks card) empty split (option_or many (option_or pairs None)) fine))),
)
  where
    goes : Bool
    goes = goes_on_from under card

    empty : Option DeckFaultKind
    empty = is_empty card.name1 ⟹ EmptyName

    split : Option DeckFaultKind
    split = has_group seen.columns card.name1 && not goes ⟹ ColumnSplit

    many : Option DeckFaultKind
    many = not (has_group seen.columns card.name1) && nat_le MAX_COLUMNS (length seen.columns) ⟹ TooManyColumns

    pairs : Option DeckFaultKind
    pairs = pairs_fault seen Columns (items_of card.name1 seen.columns) (entry_count seen) (pairs_of card)

    by : (h b : Bool) → b ≡ false → (h && not b) ≡ false → h ≡ false
    by h true f e = absurd (cc f)
    by true false f e = absurd (cc e)
    by false false f e = refl

pub columns_needs : (seen : Problem Name) (action : Action) (under : Under) (card : Reading) → edit_test seen Columns action under card ≡ None →
    CanEditColumns action under card seen.columns
columns_needs seen Modify under card fine = modified_column seen card fine
columns_needs seen Delete under card fine = tt
columns_needs seen Before under card fine = new_column seen under card fine
columns_needs seen After under card fine = new_column seen under card fine

put_items : (seen : Problem Name) (section : Section) (card : Reading) → modify_sets_fault seen section card ≡ None → AreNumbers (pairs_of card)
put_items seen section card fine =
    put_pairs seen section [] 0 (pairs_of card)
    (none-first (puts_fault seen section [] 0 (pairs_of card)) None
    (none-rest (kind_filled card) (option_or (puts_fault seen section [] 0 (pairs_of card)) None) fine))

pub rhs_needs : (seen : Problem Name) (action : Action) (under : Under) (card : Reading) → edit_test seen Rhs action under card ≡ None → CanEditSets action card
rhs_needs seen Modify under card fine = put_items seen Rhs card fine
rhs_needs seen Delete under card fine = tt
rhs_needs seen Before under card fine = put_items seen Rhs card fine
rhs_needs seen After under card fine = put_items seen Rhs card fine

pub ranges_needs : (seen : Problem Name) (action : Action) (under : Under) (card : Reading) → edit_test seen Ranges action under card ≡ None →
    CanEditSets action card
ranges_needs seen Modify under card fine = put_items seen Ranges card fine
ranges_needs seen Delete under card fine = tt
ranges_needs seen Before under card fine = put_items seen Ranges card fine
ranges_needs seen After under card fine = put_items seen Ranges card fine

-- ---- BOUNDS

has_bound : (seen : Problem Name) (card : Reading) → of_bound_type card (modify_bound_fault seen card) ≡ None → HasBound card
has_bound seen card fine = by (named bound_kinds card.kind) refl
  where
    by : (o : Option BoundKind) → named bound_kinds card.kind ≡ o → IfSome o (λ kind. bound_end_fault card kind ≡ None)
    by None e = tt
    by (Some kind) e =
        let tested : of_bound_type card (modify_bound_fault seen card) ≡ modify_bound_fault seen card kind = rw e refl in
        after2 (is_empty card.name2 ⟹ EmptyName) (not (has_group seen.columns card.name2) ⟹ UnknownColumn) (bound_end_fault card kind) (sym tested ∙ fine)

pub bounds_needs : (seen : Problem Name) (action : Action) (under : Under) (card : Reading) → edit_test seen Bounds action under card ≡ None →
    CanEditBounds action card
bounds_needs seen Modify under card fine = has_bound seen card fine
bounds_needs seen Delete under card fine = tt
bounds_needs seen Before under card fine = has_bound seen card fine
bounds_needs seen After under card fine = has_bound seen card fine
