-- The cards of the bounds are accepted, and add those bounds.
use Rattle.std.proofs.Common.{◌≡◌, ℕ, Bool, true, false, cond, not, ◌&&◌, ◌||◌, List, [], ◌∷◌, ◌++◌, Option, Some, None, map, is_some, refl, ap, ap₂, sym, ◌∙◌}
use Rattle.std.proofs.Common.{subst, lit≤}
use Rattle.std.specs.List.{AllByRecursion, IsDistinct, flat_map}
use Rattle.std.specs.Option.{IfSome, option_map}
use Rattle.card_definitions.specs.Words.{is_empty, without_leading, ◌⟹◌}
use Rattle.card_definitions.specs.Cards.{is_blank}
use Rattle.card_definitions.specs.Fields.{Reading}
use Rattle.card_definitions.specs.Numbers.{Decimal, decimal_of}
use Rattle.problem_definitions.specs.declared.BoundKind.{BoundKind}
use Rattle.problem_definitions.specs.declared.BoundKind.TheVariants.{Up, Lo, Fx, Fr, Mi, Pl}
use Rattle.problem_definitions.specs.Names.{Name, same}
use Rattle.problem_definitions.specs.Kinds.{takes_value, meet, touches_upper, touches_lower}
use Rattle.problem_definitions.specs.Problem.{Row, Entry, Bound, Group, Problem, group_names, has_group}
use Rattle.problem_definitions.specs.Groups.{items_of, in_set}
use Rattle.problem_definitions.specs.Valid.{IsName, IsDecimal}
use Rattle.problem_definitions.proofs.Names.{same_sym}
use Rattle.problem_definitions.proofs.Groups.{has_group-names}
use Rattle.problem_definitions.proofs.Lawful.{IsLabel, AreGroups, AreLawfulBounds, AreBoundSets, clash_by_name}
use Rattle.deck_definitions.specs.declared.DeckFaultKind.TheVariants.{UnknownColumn, BoundTwice, EmptyName}
use Rattle.deck_definitions.specs.declared.Section.TheVariants.{Bounds}
use Rattle.deck_definitions.specs.DataCards.{bound_of}
use Rattle.deck_definitions.specs.Tests.{bounds_fault, bound_fault, is_bound_already, bound_value_fault, value_fault, number_fault_from, filled_from_5}
use Rattle.deck_definitions.specs.Written.{data_card, bound_kind_text, bound_text}
use Rattle.deck_definitions.specs.Steps.{with_card, with_group}
use Rattle.deck_definitions.proofs.WrittenCards.{FitsField}
use Rattle.deck_definitions.proofs.Examples.{bound_words}
use Rattle.basis_deck_laws.proofs.Cards.{IsWritten, fields, written-card}
use Rattle.basis_deck_laws.proofs.Accepts.{Accepts, accepts-data}
use Rattle.basis_deck_laws.proofs.Facts.{none_found, not_found, all-at, apart-before, from-map, fits-name, label-of, reads-as, fits-number}
use Rattle.basis_deck_laws.proofs.Sets.{groups_at, items-taken, new-group, EachAdds, groups-accepted}

abbrev pub bound_card : Name → Bound Name → List ℕ
bound_card name bound = data_card (bound_kind_text bound.kind) name bound.column (bound_text bound)

abbrev bound_fields : Name → Bound Name → Reading
bound_fields name bound = fields (bound_kind_text bound.kind) name bound.column (bound_text bound)

fits-kind : (kind : BoundKind) → FitsField 2 (bound_kind_text kind)
fits-kind Up = record { short = lit≤ tt; trimmed = refl }
fits-kind Lo = record { short = lit≤ tt; trimmed = refl }
fits-kind Fx = record { short = lit≤ tt; trimmed = refl }
fits-kind Fr = record { short = lit≤ tt; trimmed = refl }
fits-kind Mi = record { short = lit≤ tt; trimmed = refl }
fits-kind Pl = record { short = lit≤ tt; trimmed = refl }

kind-kept : (kind : BoundKind) → without_leading is_blank (bound_kind_text kind) ≡ bound_kind_text kind
kind-kept Up = refl
kind-kept Lo = refl
kind-kept Fx = refl
kind-kept Fr = refl
kind-kept Mi = refl
kind-kept Pl = refl

type-known : (seen : Problem Name) (kind : BoundKind) (name column value : List ℕ)
    → bounds_fault seen (fields (bound_kind_text kind) name column value) ≡ bound_fault seen (fields (bound_kind_text kind) name column value) kind
type-known seen Up name column value = refl
type-known seen Lo name column value = refl
type-known seen Fx name column value = refl
type-known seen Fr name column value = refl
type-known seen Mi name column value = refl
type-known seen Pl name column value = refl

-- ---- the number of a bound

abbrev text_of : Option Decimal → List ℕ
text_of None = []
text_of (Some number) = number.text

text-is : (bound : Bound Name) → bound_text bound ≡ text_of bound.value
text-is bound = by bound.value refl
  where
    by : (o : Option Decimal) → bound.value ≡ o → bound_text bound ≡ text_of bound.value
    by None e = rw e refl
    by (Some number) e = rw e refl

fits-value : (o : Option Decimal) → IfSome o IsDecimal → FitsField 12 (text_of o)
fits-value None is = record { short = lit≤ tt; trimmed = refl }
fits-value (Some number) is = fits-number number is

value-fine : (kind : BoundKind) (o : Option Decimal) → is_some o ≡ takes_value kind → IfSome o IsDecimal →
    cond (takes_value kind) (value_fault 25 (text_of o)) None ≡ None
value-fine kind None h is = ap (λ b. cond b (value_fault 25 []) None) (sym h)
value-fine kind (Some number) h is =
    ap (λ b. cond b (value_fault 25 number.text) None) (sym h) ∙ ap (option_map (number_fault_from 25)) ((reads-as number is).fine)

value-again : (kind : BoundKind) (o : Option Decimal) → is_some o ≡ takes_value kind → IfSome o IsDecimal →
    cond (takes_value kind) (Some (decimal_of (text_of o))) None ≡ o
value-again kind None h is = ap (λ b. cond b (Some (decimal_of [])) None) (sym h)
value-again kind (Some number) h is = ap (λ b. cond b (Some (decimal_of number.text)) None) (sym h) ∙ ap Some ((reads-as number is).again)

-- ---- bounds that touch the same end

and_comm : (a b : Bool) → (a && b) ≡ (b && a)
and_comm true true = refl
and_comm true false = refl
and_comm false true = refl
and_comm false false = refl

meet_sym : (a b : BoundKind) → meet a b ≡ meet b a
meet_sym a b = ap₂ (λ x y. x || y) (and_comm (touches_upper a) (touches_upper b)) (and_comm (touches_lower a) (touches_lower b))

not-twice : (bound : Bound Name) (taken : List (Bound Name)) → AllByRecursion (λ other. clash_by_name other bound ≡ false) taken →
    is_bound_already taken bound.column bound.kind ≡ false
not-twice bound [] each = refl
not-twice bound (other ∷ taken) each =
    ap (λ b. b || is_bound_already taken bound.column bound.kind)
    (ap₂ (λ x y. x && y) (same_sym bound.column other.column) (meet_sym bound.kind other.kind) ∙ each.0) ∙ not-twice bound taken each.1

-- a bound that may be added to these
record MayAdd (columns : List (Group (Entry Name))) (taken : List (Bound Name)) (bound : Bound Name) : Type 0 where
  label : IsLabel bound.column
  there : has_group columns bound.column ≡ true
  new : is_bound_already taken bound.column bound.kind ≡ false
  valued : is_some bound.value ≡ takes_value bound.kind
  value : IfSome bound.value IsDecimal

may-add : (columns : List (Group (Entry Name))) → AllByRecursion IsLabel (group_names columns) →
    (taken : List (Bound Name)) (bound : Bound Name) (items : List (Bound Name)) → AreLawfulBounds columns (taken ++ bound ∷ items) → MayAdd columns taken bound
may-add columns labels taken bound items lawful =
    let there : has_group columns bound.column ≡ true = all-at (λ (b : Bound Name). has_group columns b.column ≡ true) taken bound items lawful.on_columns in
    record {
      label = label-of (group_names columns) bound.column labels (sym (has_group-names columns bound.column) ∙ there);
      there = there;
      new = not-twice bound taken (apart-before clash_by_name taken bound items lawful.apart);
      valued = all-at (λ (b : Bound Name). is_some b.value ≡ takes_value b.kind) taken bound items lawful.valued;
      value = all-at (λ (b : Bound Name). IfSome b.value IsDecimal) taken bound items lawful.values;
    }

written-bound : (name : Name) (bound : Bound Name) → IsName name → IsLabel bound.column → IfSome bound.value IsDecimal →
    IsWritten (bound_card name bound) (bound_fields name bound)
written-bound name bound is label value =
    written-card (bound_kind_text bound.kind) name bound.column (bound_text bound) (fits-kind bound.kind) (kind-kept bound.kind) (fits-name name is)
    (fits-name bound.column label.name_of)
    (subst (FitsField 12) (sym (text-is bound)) (fits-value bound.value value)) (some (is_empty name) (is_empty bound.column) label.present)
  where
    some : (a b : Bool) → b ≡ false → (a && b) ≡ false
    some true b h = h
    some false b h = refl

-- the card of a bound that may be added
bound-fine : (seen : Problem Name) (taken : List (Bound Name)) (name : Name) (bound : Bound Name) → MayAdd seen.columns taken bound →
    items_of name seen.bounds ≡ taken → bounds_fault seen (bound_fields name bound) ≡ None
bound-fine seen taken name bound may items = type-known seen bound.kind name bound.column (bound_text bound) ∙ none_found (
    (is_empty bound.column ⟹ EmptyName) ∷
    (not (has_group seen.columns bound.column) ⟹ UnknownColumn) ∷
    (is_bound_already (items_of name seen.bounds) bound.column bound.kind ⟹ BoundTwice) ∷
    bound_value_fault (bound_fields name bound) bound.kind ∷
    filled_from_5 (bound_fields name bound) ∷ []) (
      not_found (is_empty bound.column) EmptyName may.label.present,
      (
        not_found (not (has_group seen.columns bound.column)) UnknownColumn (ap not may.there),
        (
          not_found (is_bound_already (items_of name seen.bounds) bound.column bound.kind) BoundTwice
              (ap (λ list. is_bound_already list bound.column bound.kind) items ∙ may.new),
          (
            ap (λ text. cond (takes_value bound.kind) (value_fault 25 text) None) (text-is bound) ∙ value-fine bound.kind bound.value may.valued may.value,
            (refl, tt),
          ),
        ),
      ),
    )

module _ (rows : List (Row Name)) (columns rhs ranges : List (Group (Entry Name))) (labels : AllByRecursion IsLabel (group_names columns))
    (whole : List (Group (Bound Name))) where
  abbrev pub with_bounds : List (Group (Bound Name)) → Problem Name
  with_bounds bounds = record { name = []; rows = rows; columns = columns; rhs = rhs; ranges = ranges; bounds = bounds }

  -- what a card of a bound adds to its set
  adds-bound : (sets : List (Group (Bound Name))) (name : Name) (bound : Bound Name) → is_some bound.value ≡ takes_value bound.kind
      → IfSome bound.value IsDecimal
      → with_card Bounds (bound_fields name bound) (with_bounds sets) ≡ with_bounds (in_set name (λ items. items ++ bound ∷ []) sets)
  adds-bound sets name bound valued value =
      ap (λ o. with_bounds
      (with_group (option_map (λ (kind : BoundKind). record { name = name; items = bound_of (bound_fields name bound) kind ∷ [] }) o) sets))
      (bound_words bound.kind)
      ∙ ap (λ v. with_bounds (in_set name (λ items. items ++ record { kind = bound.kind; column = bound.column; value = v } ∷ []) sets))
      (ap (λ text. cond (takes_value bound.kind) (Some (decimal_of text)) None) (text-is bound) ∙ value-again bound.kind bound.value valued value)

  bounds-add : AreGroups IsName (AreBoundSets columns) whole → EachAdds Bounds with_bounds bound_card whole
  bounds-add lawful done group after e taken item items h =
      let absent = new-group done group after (subst (λ all. IsDistinct same (group_names all)) (sym e) lawful.distinct) in
      let is : IsName group.name =
      all-at (λ (g : Group (Bound Name)). IsName g.name) done group after
      (subst (AllByRecursion (λ (g : Group (Bound Name)). IsName g.name)) (sym e)
      (from-map IsName (λ (g : Group (Bound Name)). g.name) whole lawful.names)) in
      let set : AreBoundSets columns group.items =
      all-at (λ (g : Group (Bound Name)). AreBoundSets columns g.items) done group after
      (subst (AllByRecursion (λ (g : Group (Bound Name)). AreBoundSets columns g.items)) (sym e) lawful.items) in
      let may = may-add columns labels taken item items (subst (AreLawfulBounds columns) (sym h) set.bounds_lawful) in
      let now = groups_at done group.name taken in
      subst (λ p. Accepts (Some Bounds) (with_bounds now) (bound_card group.name item ∷ []) (Some Bounds) p)
      (adds-bound now group.name item may.valued may.value)
      (accepts-data Bounds (with_bounds now) (bound_card group.name item) (bound_fields group.name item) (written-bound group.name item is may.label may.value)
      (bound-fine (with_bounds now) taken group.name item may (items-taken done group.name taken absent)))

  -- The cards of the sets of bounds.
  pub bounds-accepted : AreGroups IsName (AreBoundSets columns) whole →
      Accepts (Some Bounds) (with_bounds []) (flat_map (λ (set : Group (Bound Name)). map (bound_card set.name) set.items) whole) (Some Bounds)
      (with_bounds whole)
  bounds-accepted lawful = groups-accepted Bounds with_bounds bound_card whole (bounds-add lawful) lawful.distinct [] whole refl (filled whole lawful.items)
    where
      filled : (groups : List (Group (Bound Name))) → AllByRecursion (λ (group : Group (Bound Name)). AreBoundSets columns group.items) groups →
          AllByRecursion (λ (group : Group (Bound Name)). is_empty group.items ≡ false) groups
      filled [] each = tt
      filled (group ∷ groups) each = (each.0.filled, filled groups each.1)
