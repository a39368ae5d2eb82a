-- Rows whose parts stand on rows before them.
use Rattle.std.proofs.Common.{◌≡◌, ℕ, suc, ◌+◌, ◌≤◌, Bool, true, false, not, cond, ◌||◌, List, [], ◌∷◌, ◌++◌, Option, Some, None, option_map, map, take, drop}
use Rattle.std.proofs.Common.{length, IfSome, refl, ap, ap₂, sym, ◌∙◌, subst, arith, append_assoc, append-nil, if◌then◌else◌, filter, find, insert, unwrap_or}
use Rattle.std.proofs.Common.{is_some, ◌&&◌, take-append-drop}
use Rattle.std.specs.List.{AllByRecursion, IsDistinct, prefix_len, position_or_len}
use Rattle.std.proofs.lemmas.List.{map-append, length-map}
use Rattle.std.proofs.lemmas.List.Folds.{list_any-append}
use Rattle.std.proofs.lemmas.Option.{same_Some}
use Rattle.std.proofs.lemmas.Grind.{flat_map-append}
use Rattle.problem_definitions.specs.Names.{Name, same, has_name}
use Rattle.problem_definitions.specs.Kinds.{is_free_kind}
use Rattle.problem_definitions.specs.Problem.{Row, Entry, has_row, has_free_row, has_combination}
use Rattle.problem_definitions.specs.Parts.{parts_of, with_parts, in_row, rows_before}
use Rattle.problem_definitions.proofs.LawfulEntries.{AreLawfulEntries}
use Rattle.problem_definitions.proofs.Names.{same_eq, row_is_named}

-- the parts of each row are entries on rows before it; `before` stands before them all
abbrev pub ArePartsAfter : List (Row Name) → List (Row Name) → Type 0
ArePartsAfter before [] = Unit {0}
ArePartsAfter before (row ∷ rows) = IfSome row.parts (AreLawfulEntries before) × ArePartsAfter (before ++ row ∷ []) rows

-- each row of one list has its name in another
abbrev pub AreNamed : List (Row Name) → List (Row Name) → Type 0
AreNamed before others = (name : Name) → has_row before name ≡ true → has_row others name ≡ true

pub parts-push : (before rows : List (Row Name)) (row : Row Name) → ArePartsAfter before rows → IfSome row.parts (AreLawfulEntries (before ++ rows)) →
    ArePartsAfter before (rows ++ row ∷ [])
parts-push before [] row are new = (subst (λ all. IfSome row.parts (AreLawfulEntries all)) (append-nil before) new, tt)
parts-push before (first ∷ rows) row are new = (
  are.0,
  parts-push (before ++ first ∷ []) rows row are.1
      (subst (λ all. IfSome row.parts (AreLawfulEntries all)) (sym (append_assoc before (first ∷ []) rows)) new),
)

pub parts-front : (before rows more : List (Row Name)) → ArePartsAfter before (rows ++ more) → ArePartsAfter before rows
parts-front before [] more are = tt
parts-front before (row ∷ rows) more are = (are.0, parts-front (before ++ row ∷ []) rows more are.1)

pub parts-back : (before rows more : List (Row Name)) → ArePartsAfter before (rows ++ more) → ArePartsAfter (before ++ rows) more
parts-back before [] more are = subst (λ all. ArePartsAfter all more) (sym (append-nil before)) are
parts-back before (row ∷ rows) more are =
    subst (λ all. ArePartsAfter all more) (append_assoc before (row ∷ []) rows) (parts-back (before ++ row ∷ []) rows more are.1)

pub parts-join : (before rows more : List (Row Name)) → ArePartsAfter before rows → ArePartsAfter (before ++ rows) more → ArePartsAfter before (rows ++ more)
parts-join before [] more are later = subst (λ all. ArePartsAfter all more) (append-nil before) later
parts-join before (row ∷ rows) more are later =
    (are.0, parts-join (before ++ row ∷ []) rows more are.1 (subst (λ all. ArePartsAfter all more) (sym (append_assoc before (row ∷ []) rows)) later))

pub entries-wider : (before others : List (Row Name)) → AreNamed before others → (entries : List (Entry Name)) → AreLawfulEntries before entries →
    AreLawfulEntries others entries
entries-wider before others named entries are = record { on_rows = each entries are.on_rows; distinct = are.distinct; values = are.values }
  where
    each : (entries : List (Entry Name)) → AllByRecursion (λ (entry : Entry Name). has_row before entry.row ≡ true) entries →
        AllByRecursion (λ (entry : Entry Name). has_row others entry.row ≡ true) entries
    each [] there = tt
    each (entry ∷ entries) there = (named entry.row there.0, each entries there.1)

pub named-push : (before others : List (Row Name)) (row other : Row Name) → row.name ≡ other.name → AreNamed before others →
    AreNamed (before ++ row ∷ []) (others ++ other ∷ [])
named-push before others row other alike named name there = by (has_row before name) refl
  where
    last_of : has_row before name ≡ false → same name row.name ≡ true
    last_of none = cc (there, none, list_any-append (λ (row : Row Name). same name row.name) before (row ∷ []), or_false (same name row.name))
      where
        or_false : (b : Bool) → (b || false) ≡ b
        or_false true = refl
        or_false false = refl

    by : (b : Bool) → has_row before name ≡ b → has_row (others ++ other ∷ []) name ≡ true
    by true is = list_any-append (λ (row : Row Name). same name row.name) others (other ∷ []) ∙ ap (λ b. b || (same name other.name || false)) (named name is)
    by false is =
        list_any-append (λ (row : Row Name). same name row.name) others (other ∷ [])
        ∙ ap (λ b. has_row others name || (b || false)) (ap (same name) (sym alike) ∙ last_of is) ∙ or_true (has_row others name)
      where
        or_true : (b : Bool) → (b || true) ≡ true
        or_true true = refl
        or_true false = refl

pub parts-wider : (before others rows : List (Row Name)) → AreNamed before others → ArePartsAfter before rows → ArePartsAfter others rows
parts-wider before others [] named are = tt
parts-wider before others (row ∷ rows) named are =
    (wider row.parts are.0, parts-wider (before ++ row ∷ []) (others ++ row ∷ []) rows (named-push before others row row refl named) are.1)
  where
    wider : (parts : Option (List (Entry Name))) → IfSome parts (AreLawfulEntries before) → IfSome parts (AreLawfulEntries others)
    wider None are = are
    wider (Some parts) are = entries-wider before others named parts are

-- the parts of each row stand on rows that are there
pub parts-there : (all before rows : List (Row Name)) → AreNamed (before ++ rows) all → ArePartsAfter before rows →
    AllByRecursion (λ (row : Row Name). IfSome row.parts (AreLawfulEntries all)) rows
parts-there all before [] named are = tt
parts-there all before (row ∷ rows) named are = (
  wider row.parts are.0,
  parts-there all (before ++ row ∷ []) rows
      (subst (λ whole. AreNamed whole all) (sym (append_assoc before (row ∷ []) rows)) named) are.1,
)
  where
    wider : (parts : Option (List (Entry Name))) → IfSome parts (AreLawfulEntries before) → IfSome parts (AreLawfulEntries all)
    wider None are = are
    wider (Some parts) are =
        entries-wider before all
        (λ name there. named name (list_any-append (λ (row : Row Name). same name row.name) before (row ∷ rows) ∙ rw there refl)) parts are

-- rows with the same names and parts, as where types alone change
pub parts-mapped : (f : Row Name → Row Name) → ((row : Row Name) → (f row).name ≡ row.name) → ((row : Row Name) → (f row).parts ≡ row.parts) →
    (before others rows : List (Row Name)) → AreNamed before others → ArePartsAfter before rows → ArePartsAfter others (map f rows)
parts-mapped f named kept before others [] there are = tt
parts-mapped f named kept before others (row ∷ rows) there are = (
  subst (λ parts. IfSome parts (AreLawfulEntries others)) (sym (kept row)) (wider row.parts are.0),
  parts-mapped f named kept (before ++ row ∷ []) (others ++ f row ∷ []) rows (named-push before others row (f row) (sym (named row)) there) are.1,
)
  where
    wider : (parts : Option (List (Entry Name))) → IfSome parts (AreLawfulEntries before) → IfSome parts (AreLawfulEntries others)
    wider None are = are
    wider (Some parts) are = entries-wider before others there parts are

-- ---- the parts of one row changed

pub in_row-none : (name : Name) (change : List (Entry Name) → List (Entry Name)) (rows : List (Row Name)) → has_row rows name ≡ false →
    in_row name change rows ≡ rows
in_row-none name change [] none = refl
in_row-none name change (row ∷ rows) none =
    rw (here (same name row.name) (has_row rows name) none)
    (ap (λ more. row ∷ more) (in_row-none name change rows (rest (same name row.name) (has_row rows name) none)))
  where
    here : (a b : Bool) → (a || b) ≡ false → a ≡ false
    here true b none = none
    here false b none = refl

    rest : (a b : Bool) → (a || b) ≡ false → b ≡ false
    rest true true none = none
    rest true false none = refl
    rest false b none = none

pub none-apart : (row : Row Name) (rows : List (Row Name)) (name : Name) → same name row.name ≡ true →
    AllByRecursion (λ other. same row.name other ≡ false) (map (λ (r : Row Name). r.name) rows) → has_row rows name ≡ false
none-apart row [] name is apart = refl
none-apart row (other ∷ rows) name is apart =
    let there : same name other.name ≡ false = subst (λ n. same n other.name ≡ false) (sym (same_eq name row.name is)) apart.0 in
    rw there (none-apart row rows name is apart.1)

-- the one row of this name has parts that are lawful after the change
abbrev pub AreChanged : List (Row Name) → List (Row Name) → Name → (List (Entry Name) → List (Entry Name)) → Type 0
AreChanged before rows name change =
    (row : Row Name) (parts : List (Entry Name)) → find (λ row. same name row.name) rows ≡ Some row → row.parts ≡ Some parts →
    AreLawfulEntries (before ++ rows_before name rows) (change parts)

pub parts-in_row : (before rows : List (Row Name)) (name : Name) (change : List (Entry Name) → List (Entry Name))
    → IsDistinct same (map (λ (r : Row Name). r.name) rows)
    → ArePartsAfter before rows → AreChanged before rows name change → ArePartsAfter before (in_row name change rows)
unfolding IsDistinct
parts-in_row before [] name change distinct are changed = tt
parts-in_row before (row ∷ rows) name change distinct are changed =
    by (same name row.name) refl (λ changed. parts-in_row (before ++ row ∷ []) rows name change distinct.1 are.1 changed)
  where
    renamed : AreNamed (before ++ row ∷ []) (before ++ with_parts change row ∷ [])
    renamed = named-push before before row (with_parts change row) refl (λ name there. there)

    new : (parts : Option (List (Entry Name))) → row.parts ≡ parts → same name row.name ≡ true → IfSome (option_map change parts) (AreLawfulEntries before)
    new None none is = tt
    new (Some parts) some is = subst (λ all. AreLawfulEntries all (change parts)) (none_before ∙ append-nil before) (changed row parts found some)
      where
        found : find (λ (r : Row Name). same name r.name) (row ∷ rows) ≡ Some row
        found = rw is refl

        none_before : before ++ rows_before name (row ∷ rows) ≡ before ++ []
        none_before = ap (λ more. before ++ more) (rw is refl)

    by : (b : Bool) → same name row.name ≡ b →
        (AreChanged (before ++ row ∷ []) rows name change → ArePartsAfter (before ++ row ∷ []) (in_row name change rows)) →
        ArePartsAfter before (in_row name change (row ∷ rows))
    by true is later = rw is (
      new row.parts refl is,
      subst (ArePartsAfter (before ++ with_parts change row ∷ [])) (sym (in_row-none name change rows (none-apart row rows name is distinct.0)))
          (parts-wider (before ++ row ∷ []) (before ++ with_parts change row ∷ []) rows renamed are.1),
    )
    by false is later = rw is (
      are.0,
      later (λ other parts found some.
          subst (λ all. AreLawfulEntries all (change parts)) (ap (λ more. before ++ more) passed ∙ sym (append_assoc before (row ∷ []) (rows_before name rows)))
          (changed other parts (rw is found) some)),
    )
      where
        passed : rows_before name (row ∷ rows) ≡ row ∷ rows_before name rows
        passed = rw is (ap (λ n. take n (row ∷ rows)) (one_more (prefix_len (λ (x : Row Name). not (same name x.name)) rows)))
          where
            one_more : (n : ℕ) → 1 + n ≡ suc n
            one_more n = omega arith

-- a combination that is found is one by its name, and its parts are those of the name
module _ (name : Name) where
  combination-found : (rows : List (Row Name)) (row : Row Name) (parts : List (Entry Name)) → find (λ row. same name row.name) rows ≡ Some row →
      row.parts ≡ Some parts → has_combination rows name ≡ true
  combination-found [] row parts found some = absurd (cc found)
  combination-found (first ∷ rows) row parts found some = by (same name first.name) found (combination-found rows row parts)
    where
      by : (b : Bool) → cond b (Some first) (find (λ row. same name row.name) rows) ≡ Some row
          → (find (λ row. same name row.name) rows ≡ Some row → row.parts ≡ Some parts → has_combination rows name ≡ true)
          → (b && is_some first.parts || has_combination rows name) ≡ true
      by true found rest = let parts_is : first.parts ≡ Some parts = ap (λ (row : Row Name). row.parts) (same_Some first row found) ∙ some in rw parts_is refl
      by false found rest = rest found some

  pub parts_of-new : (rows : List (Row Name)) → has_row rows name ≡ false → parts_of name rows ≡ []
  parts_of-new [] none = refl
  parts_of-new (row ∷ rows) none = by (same name row.name) none (parts_of-new rows)
    where
      by : (b : Bool) → (b || has_row rows name) ≡ false → (has_row rows name ≡ false → parts_of name rows ≡ []) →
          cond b (unwrap_or row.parts []) [] ++ parts_of name rows ≡ []
      by true none rest = absurd (cc none)
      by false none rest = rest none

  pub parts_of-there : (rows : List (Row Name)) (row : Row Name) → IsDistinct same (map (λ (r : Row Name). r.name) rows) →
      find (λ row. same name row.name) rows ≡ Some row → parts_of name rows ≡ unwrap_or row.parts []
  unfolding IsDistinct
  parts_of-there [] row distinct found = absurd (cc found)
  parts_of-there (first ∷ rows) row distinct found = by (same name first.name) refl found (parts_of-there rows row distinct.1)
    where
      by : (b : Bool) → same name first.name ≡ b → cond b (Some first) (find (λ row. same name row.name) rows) ≡ Some row
          → (find (λ row. same name row.name) rows ≡ Some row → parts_of name rows ≡ unwrap_or row.parts [])
          → cond b (unwrap_or first.parts []) [] ++ parts_of name rows ≡ unwrap_or row.parts []
      by true is found rest =
          ap (λ more. unwrap_or first.parts [] ++ more) (parts_of-new rows (none-apart first rows name is distinct.0)) ∙ append-nil (unwrap_or first.parts [])
          ∙ ap (λ (row : Row Name). unwrap_or row.parts []) (same_Some first row found)
      by false is found rest = rest found

  -- the parts of a name stand on the rows before it
  pub parts_of-lawful : (before rows : List (Row Name)) → IsDistinct same (map (λ (r : Row Name). r.name) rows) → ArePartsAfter before rows →
      AreLawfulEntries (before ++ rows_before name rows) (parts_of name rows)
  unfolding IsDistinct
  parts_of-lawful before [] distinct are = record { on_rows = tt; distinct = tt; values = tt }
  parts_of-lawful before (row ∷ rows) distinct are = by (same name row.name) refl (parts_of-lawful (before ++ row ∷ []) rows distinct.1 are.1)
    where
      own : (parts : Option (List (Entry Name))) → IfSome parts (AreLawfulEntries before) → AreLawfulEntries before (unwrap_or parts [])
      own None are = record { on_rows = tt; distinct = tt; values = tt }
      own (Some parts) are = are

      by : (b : Bool) → same name row.name ≡ b → AreLawfulEntries ((before ++ row ∷ []) ++ rows_before name rows) (parts_of name rows)
          → AreLawfulEntries (before ++ take (cond (not b) (1 + position_or_len (λ (row : Row Name). same name row.name) rows) 0) (row ∷ rows))
          (cond b (unwrap_or row.parts []) [] ++ parts_of name rows)
      by true is rest =
          subst (AreLawfulEntries (before ++ []))
          (sym (ap (λ more. unwrap_or row.parts [] ++ more) (parts_of-new rows (none-apart row rows name is distinct.0))
          ∙ append-nil (unwrap_or row.parts [])))
          (subst (λ rows. AreLawfulEntries rows (unwrap_or row.parts [])) (sym (append-nil before)) (own row.parts are.0))
      by false is rest =
          let next : 1 + position_or_len (λ (row : Row Name). same name row.name) rows ≡ suc (position_or_len (λ (row : Row Name). same name row.name) rows) =
          omega arith in
          rw next (subst (λ earlier. AreLawfulEntries earlier (parts_of name rows)) (append_assoc before (row ∷ []) (rows_before name rows)) rest)

  pub rows_before-new : (rows : List (Row Name)) → has_row rows name ≡ false → rows_before name rows ≡ rows
  rows_before-new [] none = refl
  rows_before-new (row ∷ rows) none = by (same name row.name) none (rows_before-new rows)
    where
      by : (b : Bool) → (b || has_row rows name) ≡ false → (has_row rows name ≡ false → rows_before name rows ≡ rows) →
          take (cond (not b) (1 + position_or_len (λ (row : Row Name). same name row.name) rows) 0) (row ∷ rows) ≡ row ∷ rows
      by true none rest = absurd (cc none)
      by false none rest =
          let next : 1 + position_or_len (λ (row : Row Name). same name row.name) rows ≡ suc (position_or_len (λ (row : Row Name). same name row.name) rows) =
          omega arith in
          rw next (ap (λ more. row ∷ more) (rest none))

  -- a row of a new name at the end
  module _ (row : Row Name) (is : same name row.name ≡ true) where
    pub rows_before-last : (rows : List (Row Name)) → has_row rows name ≡ false → rows_before name (rows ++ row ∷ []) ≡ rows
    rows_before-last [] none = rw is refl
    rows_before-last (first ∷ rows) none = by (same name first.name) none (rows_before-last rows)
      where
        by : (b : Bool) → (b || has_row rows name) ≡ false → (has_row rows name ≡ false → rows_before name (rows ++ row ∷ []) ≡ rows)
            → take (cond (not b) (1 + position_or_len (λ (row : Row Name). same name row.name) (rows ++ row ∷ [])) 0)
            (first ∷ (rows ++ row ∷ [])) ≡ first ∷ rows
        by true none rest = absurd (cc none)
        by false none rest =
            let next : 1 + position_or_len (λ (row : Row Name). same name row.name) (rows ++ row ∷ []) ≡ suc
            (position_or_len (λ (row : Row Name). same name row.name) (rows ++ row ∷ [])) = omega arith in
            rw next (ap (λ more. first ∷ more) (rest none))

    pub in_row-last : (change : List (Entry Name) → List (Entry Name)) (rows : List (Row Name)) → has_row rows name ≡ false →
        in_row name change (rows ++ row ∷ []) ≡ rows ++ with_parts change row ∷ []
    in_row-last change rows none = map-append (λ row. if same name row.name then with_parts change row else row) rows (row ∷ [])
        ∙ ap₂ (λ front back. front ++ back) (in_row-none name change rows none) (rw is refl)

    pub parts_of-last : (rows : List (Row Name)) → has_row rows name ≡ false → parts_of name (rows ++ row ∷ []) ≡ unwrap_or row.parts []
    parts_of-last rows none = flat_map-append (λ row. if same name row.name then unwrap_or row.parts [] else []) rows (row ∷ [])
        ∙ ap₂ (λ front back. front ++ back) (parts_of-new rows none) (rw is (append-nil (unwrap_or row.parts [])))

  -- what a change of parts leaves: names, types, and which rows are combinations
  module _ (change : List (Entry Name) → List (Entry Name)) where
    pub in_row-names : (rows : List (Row Name)) → map (λ row. row.name) (in_row name change rows) ≡ map (λ row. row.name) rows
    in_row-names [] = refl
    in_row-names (row ∷ rows) = by (same name row.name) (in_row-names rows)
      where
        by : (b : Bool) → map (λ row. row.name) (in_row name change rows) ≡ map (λ row. row.name) rows →
            map (λ row. row.name) (cond b (with_parts change row) row ∷ in_row name change rows) ≡ row.name ∷ map (λ row. row.name) rows
        by true rest = ap (λ names. row.name ∷ names) rest
        by false rest = ap (λ names. row.name ∷ names) rest

    pub in_row-length : (rows : List (Row Name)) → length (in_row name change rows) ≡ length rows
    in_row-length rows = length-map rows (λ row. if same name row.name then with_parts change row else row)

    pub in_row-row : (rows : List (Row Name)) (other : Name) → has_row (in_row name change rows) other ≡ has_row rows other
    in_row-row rows other =
        row_is_named other (in_row name change rows) ∙ ap (λ names. has_name names other) (in_row-names rows) ∙ sym (row_is_named other rows)

    pub in_row-free : (rows : List (Row Name)) (other : Name) → has_free_row (in_row name change rows) other ≡ has_free_row rows other
    in_row-free [] other = refl
    in_row-free (row ∷ rows) other = by (same name row.name) (in_row-free rows other)
      where
        by : (b : Bool) → has_free_row (in_row name change rows) other ≡ has_free_row rows other →
            has_free_row (cond b (with_parts change row) row ∷ in_row name change rows) other ≡ has_free_row (row ∷ rows) other
        by true rest = ap (λ b. same other row.name && is_free_kind row.kind || b) rest
        by false rest = ap (λ b. same other row.name && is_free_kind row.kind || b) rest

    pub in_row-combination : (rows : List (Row Name)) (other : Name) → has_combination (in_row name change rows) other ≡ has_combination rows other
    in_row-combination [] other = refl
    in_row-combination (row ∷ rows) other = by (same name row.name) (in_row-combination rows other)
      where
        kept : (parts : Option (List (Entry Name))) → is_some (option_map change parts) ≡ is_some parts
        kept None = refl
        kept (Some parts) = refl

        by : (b : Bool) → has_combination (in_row name change rows) other ≡ has_combination rows other →
            has_combination (cond b (with_parts change row) row ∷ in_row name change rows) other ≡ has_combination (row ∷ rows) other
        by true rest = ap₂ (λ b c. same other row.name && b || c) (kept row.parts) rest
        by false rest = ap (λ b. same other row.name && is_some row.parts || b) rest

  -- parts that stay lawful after a change
  pub parts-changed : (change : List (Entry Name) → List (Entry Name)) (rows : List (Row Name)) → IsDistinct same (map (λ (r : Row Name). r.name) rows)
      → ArePartsAfter [] rows
      → (has_combination rows name ≡ true → AreLawfulEntries (rows_before name rows) (change (parts_of name rows))) → ArePartsAfter [] (in_row name change rows)
  parts-changed change rows distinct are changed = parts-in_row [] rows name change distinct are (λ row parts found some.
      subst (λ old. AreLawfulEntries (rows_before name rows) (change old)) (parts_of-there rows row distinct found ∙ ap (λ o. unwrap_or o []) some)
      (changed (combination-found rows row parts found some)))

-- ---- a row more at a place

pub parts-insert : (rows : List (Row Name)) (row : Row Name) (place : ℕ) → ArePartsAfter [] rows → IfSome row.parts (AreLawfulEntries (take place rows)) →
    ArePartsAfter [] (insert rows place row)
parts-insert rows row place are new =
    parts-join [] (take place rows) (row ∷ drop place rows) (parts-front [] (take place rows) (drop place rows) split)
    (new, parts-wider (take place rows) (take place rows ++ row ∷ []) (drop place rows) more (parts-back [] (take place rows) (drop place rows) split))
  where
    split : ArePartsAfter [] (take place rows ++ drop place rows)
    split = subst (ArePartsAfter []) (sym (take-append-drop place rows)) are

    more : AreNamed (take place rows) (take place rows ++ row ∷ [])
    more name there = list_any-append (λ (row : Row Name). same name row.name) (take place rows) (row ∷ []) ∙ rw there refl

-- ---- a row taken out, with the parts on it

abbrev without_row : Name → List (Entry Name) → List (Entry Name)
without_row name entries = filter (λ entry. not (same name entry.row)) entries

-- each row but that of the name has its name in the other list
abbrev pub AreLeft : Name → List (Row Name) → List (Row Name) → Type 0
AreLeft name before others = (other : Name) → not (same name other) ≡ true → has_row before other ≡ true → has_row others other ≡ true

pub parts-left : (name : Name) (before others rows : List (Row Name)) → AreLeft name before others
    → ((before others : List (Row Name)) → AreLeft name before others → (entries : List (Entry Name)) → AreLawfulEntries before entries
    → AreLawfulEntries others (without_row name entries))
    → ArePartsAfter before rows → ArePartsAfter others (map (with_parts (without_row name)) (filter (λ row. not (same name row.name)) rows))
parts-left name before others [] left entries_left are = tt
parts-left name before others (row ∷ rows) left entries_left are =
    by (same name row.name) refl (λ more. parts-left name (before ++ row ∷ []) others rows more entries_left are.1)
    (λ more. parts-left name (before ++ row ∷ []) (others ++ with_parts (without_row name) row ∷ []) rows more entries_left are.1)
  where
    parts_of_it : (parts : Option (List (Entry Name))) → IfSome parts (AreLawfulEntries before) →
        IfSome (option_map (without_row name) parts) (AreLawfulEntries others)
    parts_of_it None are = tt
    parts_of_it (Some parts) are = entries_left before others left parts are

    or_false : (b : Bool) → (b || false) ≡ b
    or_false true = refl
    or_false false = refl

    gone : same name row.name ≡ true → AreLeft name (before ++ row ∷ []) others
    gone is other unlike there =
        left other unlike
        (sym (or_false (has_row before other)) ∙ ap (λ b. has_row before other || (b || false)) (sym (apart (same other row.name) refl))
        ∙ sym (list_any-append (λ (row : Row Name). same other row.name) before (row ∷ [])) ∙ there)
      where
        apart : (b : Bool) → same other row.name ≡ b → same other row.name ≡ false
        apart true alike = absurd (cc (subst (λ n. not (same name n) ≡ true) (same_eq other row.name alike) unlike, is))
        apart false alike = alike

    stays : AreLeft name (before ++ row ∷ []) (others ++ with_parts (without_row name) row ∷ [])
    stays other unlike there = by_before (has_row before other) refl
      where
        or_true : (b : Bool) → (b || true) ≡ true
        or_true true = refl
        or_true false = refl

        last_of : has_row before other ≡ false → same other row.name ≡ true
        last_of is = cc (there, is, list_any-append (λ (row : Row Name). same other row.name) before (row ∷ []), or_false (same other row.name))

        by_before : (b : Bool) → has_row before other ≡ b → has_row (others ++ with_parts (without_row name) row ∷ []) other ≡ true
        by_before true is =
            list_any-append (λ (row : Row Name). same other row.name) others (with_parts (without_row name) row ∷ [])
            ∙ ap (λ b. b || (same other row.name || false)) (left other unlike is)
        by_before false is =
            list_any-append (λ (row : Row Name). same other row.name) others (with_parts (without_row name) row ∷ [])
            ∙ ap (λ b. has_row others other || (b || false)) (last_of is) ∙ or_true (has_row others other)

    by : (b : Bool) → same name row.name ≡ b
        → (AreLeft name (before ++ row ∷ []) others
        → ArePartsAfter others (map (with_parts (without_row name)) (filter (λ row. not (same name row.name)) rows)))
        → (AreLeft name (before ++ row ∷ []) (others ++ with_parts (without_row name) row ∷ [])
        → ArePartsAfter (others ++ with_parts (without_row name) row ∷ [])
        (map (with_parts (without_row name)) (filter (λ row. not (same name row.name)) rows)))
        → ArePartsAfter others (map (with_parts (without_row name)) (filter (λ row. not (same name row.name)) (row ∷ rows)))
    by true is later_gone later_stays = rw is (later_gone (gone is))
    by false is later_gone later_stays = rw is (parts_of_it row.parts are.0, later_stays stays)
