-- Nothing is said twice in a lawful problem, so what a list has at a place differs from all before it.
use Rattle.std.proofs.Common.{◌≡◌, ℕ, zero, suc, ◌<◌, Bool, true, false, ◌&&◌, ◌||◌, List, [], ◌∷◌, Option, Some, None, get_or, length, map, take, refl, ap}
use Rattle.std.proofs.Common.{ap₂, sym, subst, ◌∙◌, arith}
use Rattle.std.specs.List.{list_any, AllByRecursion, IsDistinct}
use Rattle.std.specs.Option.{IfSome}
use Rattle.problem_definitions.specs.Kinds.{touches_upper, touches_lower}
use Rattle.problem_definitions.specs.Names.{Name, same, name_at}
use Rattle.problem_definitions.specs.Problem.{Row, Entry, Bound, Group, Problem, row_names, group_names}
use Rattle.problem_definitions.specs.Numbering.{entry_by, row_by, bound_by, group_by, by_names}
use Rattle.problem_definitions.specs.Valid.{IsProblem}
use Rattle.problem_definitions.proofs.Names.{same_sym}
use Rattle.problem_definitions.proofs.Groups.{map-map}
use Rattle.problem_definitions.proofs.Each.{each-change}
use Rattle.problem_definitions.proofs.LawfulEntries.{AreLawfulEntries}
use Rattle.problem_definitions.proofs.Parts.{ArePartsAfter}
use Rattle.problem_definitions.proofs.Lawful.{AreGroups, AreColumnEntries, AreRightHandSides, AreRanges, AreBoundSets, IsLawful}
use Rattle.revise_laws.proofs.ByNames.{named-lawful}
use Rattle.revise_deck.specs.Different.{AreDifferentEntries, do_meet, AreDifferentBounds, AreDifferentRows, AreDifferentGroups}

-- ---- what a list has at a place

-- what holds of all the elements that others stand for holds of one at a place
pub each_at : {X Y : Type 0} (P : Y → Type 0) (f : X → Y) (xs : List X) (i : ℕ) (d x : X) → AllByRecursion P (map f xs) → i < length xs → x ≡ get_or xs i d →
    P (f x)
each_at P f [] i d x all below is = absurd (omega (arith, below))
each_at P f (y ∷ xs) zero d x all below is = subst (λ z. P (f z)) (sym is) all.0
each_at P f (y ∷ xs) (suc i) d x all below is = let inner : i < length xs = omega (arith, below) in each_at P f xs i d x all.1 inner is

module _ {Y : Type 0} (alike : Y → Y → Bool) (turned : (a b : Y) → alike a b ≡ alike b a) where
  -- none before it is like it
  pub none_before : {X : Type 0} (f : X → Y) (xs : List X) (i : ℕ) (d x : X) → IsDistinct alike (map f xs) → i < length xs → x ≡ get_or xs i d →
      list_any (λ y. alike (f x) (f y)) (take i xs) ≡ false
  unfolding IsDistinct
  none_before f xs zero d x distinct below is = refl
  none_before f [] (suc i) d x distinct below is = absurd (omega (arith, below))
  none_before f (y ∷ xs) (suc i) d x distinct below is =
      let inner : i < length xs = omega (arith, below) in
      ap₂ (λ a b. a || b) (turned (f x) (f y) ∙ each_at (λ other. alike (f y) other ≡ false) f xs i d x distinct.0 inner is)
      (none_before f xs i d x distinct.1 inner is)

any-map : {X Y : Type 0} (p : Y → Bool) (f : X → Y) (xs : List X) → list_any p (map f xs) ≡ list_any (λ x. p (f x)) xs
any-map p f [] = refl
any-map p f (x ∷ xs) = ap (λ b. p (f x) || b) (any-map p f xs)

-- a thing at a place has a name that none before it has
pub name_is_new : {X Y : Type 0} (f : X → Y) (name_of : Y → Name) (xs : List X) (list : List Y) (i : ℕ) (d x : X) (y : Y)
    → IsDistinct same (map name_of (map f xs)) → i < length xs → x ≡ get_or xs i d → y ≡ f x → list ≡ map f (take i xs)
    → list_any (λ other. same (name_of y) (name_of other)) list ≡ false
name_is_new f name_of xs list i d x y distinct below is own before =
    ap₂ (λ z others. list_any (λ other. same (name_of z) (name_of other)) others) own before
    ∙ any-map (λ other. same (name_of (f x)) (name_of other)) f (take i xs)
    ∙ none_before same same_sym (λ x. name_of (f x)) xs i d x (subst (IsDistinct same) (map-map name_of f xs) distinct) below is

meet_turned : (a b : Bound Name) → do_meet a b ≡ do_meet b a
meet_turned a b =
    by (same a.column b.column) (same b.column a.column) (touches_upper a.kind) (touches_upper b.kind) (touches_lower a.kind) (touches_lower b.kind)
    (same_sym a.column b.column)
  where
    by : (s t au bu al bl : Bool) → s ≡ t → (s && (au && bu || al && bl)) ≡ (t && (bu && au || bl && al))
    by true true true true al bl e = refl
    by true true true false true true e = refl
    by true true true false true false e = refl
    by true true true false false true e = refl
    by true true true false false false e = refl
    by true true false true true true e = refl
    by true true false true true false e = refl
    by true true false true false true e = refl
    by true true false true false false e = refl
    by true true false false true true e = refl
    by true true false false true false e = refl
    by true true false false false true e = refl
    by true true false false false false e = refl
    by false false au bu al bl e = refl
    by true false au bu al bl e = absurd (cc e)
    by false true au bu al bl e = absurd (cc e)

-- a bound at a place touches no end that one before it touches
pub bound_is_new : {X : Type 0} (f : X → Bound Name) (xs : List X) (list : List (Bound Name)) (i : ℕ) (d x : X) (y : Bound Name) → AreDifferentBounds (map f xs)
    → i < length xs → x ≡ get_or xs i d → y ≡ f x → list ≡ map f (take i xs)
    → list_any (do_meet y) list ≡ false
bound_is_new f xs list i d x y distinct below is own before =
    ap₂ (λ z others. list_any (do_meet z) others) own before ∙ any-map (do_meet (f x)) f (take i xs)
    ∙ none_before do_meet meet_turned f xs i d x distinct below is

-- ---- a lawful problem

different_parts : (before rows : List (Row Name)) → ArePartsAfter before rows → AllByRecursion (λ row. IfSome row.parts AreDifferentEntries) rows
different_parts before [] are = tt
different_parts before (row ∷ rows) are = (of row.parts are.0, different_parts _ rows are.1)
  where
    of : (parts : Option (List (Entry Name))) → IfSome parts (AreLawfulEntries before) → IfSome parts AreDifferentEntries
    of None are = tt
    of (Some parts) are = are.distinct

different_groups : {X : Type 0} {N : Name → Type 0} (I J : List X → Type 0) → ((items : List X) → I items → J items) → (groups : List (Group X)) →
    AreGroups N I groups → AreDifferentGroups J groups
different_groups {X} I J change groups are =
    record {
      names = are.distinct;
      items = each-change (λ (group : Group X). I group.items) (λ group. J group.items)
          (λ group is. change group.items is) groups are.items;
    }

module _ (old : Problem ℕ) (lawful : IsProblem old) where
  known : IsLawful (by_names old)
  known = named-lawful old lawful

  pub different_rows : AreDifferentRows (map (row_by (name_at (row_names old))) old.rows)
  unfolding by_names
  different_rows = record { names = known.rows_distinct; parts = different_parts [] (map (row_by (name_at (row_names old))) old.rows) known.parts }

  pub different_columns : AreDifferentGroups AreDifferentEntries (map (group_by (entry_by (name_at (row_names old)))) old.columns)
  unfolding by_names
  different_columns =
      different_groups (AreColumnEntries (map (row_by (name_at (row_names old))) old.rows)) AreDifferentEntries (λ items are. are.entries_lawful.distinct)
      (map (group_by (entry_by (name_at (row_names old)))) old.columns) known.columns

  pub different_rhs : AreDifferentGroups AreDifferentEntries (map (group_by (entry_by (name_at (row_names old)))) old.rhs)
  unfolding by_names
  different_rhs =
      different_groups (AreRightHandSides (map (row_by (name_at (row_names old))) old.rows)) AreDifferentEntries (λ items are. are.entries_lawful.distinct)
      (map (group_by (entry_by (name_at (row_names old)))) old.rhs) known.rhs

  pub different_ranges : AreDifferentGroups AreDifferentEntries (map (group_by (entry_by (name_at (row_names old)))) old.ranges)
  unfolding by_names
  different_ranges =
      different_groups (AreRanges (map (row_by (name_at (row_names old))) old.rows)) AreDifferentEntries (λ items are. are.entries_lawful.distinct)
      (map (group_by (entry_by (name_at (row_names old)))) old.ranges) known.ranges

  pub different_bounds : AreDifferentGroups AreDifferentBounds (map (group_by (bound_by (name_at (group_names old.columns)))) old.bounds)
  unfolding by_names
  different_bounds =
      different_groups (AreBoundSets (map (group_by (entry_by (name_at (row_names old)))) old.columns)) AreDifferentBounds
      (λ items are. are.bounds_lawful.apart) (map (group_by (bound_by (name_at (group_names old.columns)))) old.bounds) known.bounds
