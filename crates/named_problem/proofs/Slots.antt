-- Bounds in slots, whose places are noted under their columns for each end.
use Rattle.std.proofs.Common.{◌≡◌, ℕ, zero, suc, ◌+◌, ◌<◌, Bool, true, false, cond, not, ◌&&◌, ◌||◌, ◌⊎◌, inl, inr, List, [], ◌∷◌, ◌++◌, Option, Some, None}
use Rattle.std.proofs.Common.{length, take, filter, get_or, is_some, slice_get, refl, ap, ap₂, sym, ◌∙◌, subst, arith}
use Rattle.std.proofs.Math.ListN.{set}
use Rattle.std.proofs.lemmas.List.{take_more, append-nil}
use Rattle.std.specs.List.{list_any}
use Rattle.std.specs.Map.{lookup}
use Rattle.std.proofs.lemmas.Bool.{and_parts}
use Rattle.indexmap.specs.IndexMap.{insert_entry}
use Rattle.card_definitions.specs.Words.{is_empty}
use Rattle.problem_definitions.specs.declared.BoundKind.{BoundKind}
use Rattle.problem_definitions.specs.declared.BoundKind.TheVariants.{Up, Lo, Fx, Fr, Mi, Pl}
use Rattle.problem_definitions.specs.Kinds.{touches_upper, touches_lower, meet}
use Rattle.problem_definitions.specs.Names.{Name, same}
use Rattle.problem_definitions.specs.Problem.{Bound, has_bound}
use Rattle.problem_definitions.proofs.Names.{same_eq, same_sym}
use Rattle.deck_definitions.specs.Tests.{is_bound_already}
use Rattle.revise_definitions.specs.Edits.{without_column}
use Rattle.named_problem.specs.declared.ends.ColumnEnd.{ColumnEnd}
use Rattle.named_problem.specs.declared.ends.ColumnEnd.TheVariants.{Upper, Lower}
use Rattle.named_problem.specs.NotedEnds.{held, touches_end, is_at_end, is_at_end_there, AreNoted, AreEmptied, noted}
use Rattle.named_problem.proofs.NamedValues.{lookup-own, lookup-other}

abbrev Slots : Type 0
Slots = List (Option (Bound Name))

-- ---- bounds that meet

-- a bound meets another at one of the two ends
pub met_at_ends : (column : Name) (kind : BoundKind) (items : List (Bound Name)) → is_bound_already items column kind
    ≡ (touches_upper kind && list_any (λ bound. same column bound.column && touches_upper bound.kind) items || touches_lower kind && list_any
    (λ bound. same column bound.column && touches_lower bound.kind) items)
met_at_ends column kind [] = none (touches_upper kind) (touches_lower kind)
  where
    none : (a b : Bool) → false ≡ (a && false || b && false)
    none true true = refl
    none true false = refl
    none false true = refl
    none false false = refl
met_at_ends column kind (bound ∷ items) =
    ap (λ rest. same column bound.column && meet kind bound.kind || rest) (met_at_ends column kind items)
    ∙ spread (touches_upper kind) (touches_lower kind) (touches_upper bound.kind) (touches_lower bound.kind) (same column bound.column)
    (list_any (λ bound. same column bound.column && touches_upper bound.kind) items)
    (list_any (λ bound. same column bound.column && touches_lower bound.kind) items)
  where
    spread : (u l bu bl s us ls : Bool) → (s && (u && bu || l && bl) || (u && us || l && ls)) ≡ (u && (s && bu || us) || l && (s && bl || ls))
    spread u l bu bl false us ls = refl
    spread false false bu bl true us ls = refl
    spread false true bu bl true us ls = refl
    spread true false true bl true us ls = refl
    spread true false false bl true true ls = refl
    spread true false false bl true false ls = refl
    spread true true true bl true us ls = refl
    spread true true false true true true ls = refl
    spread true true false true true false ls = refl
    spread true true false false true us ls = refl

-- ---- what slots hold

pub held-append : {X : Type 0} (slots more : List (Option X)) → held (slots ++ more) ≡ held slots ++ held more
held-append [] more = refl
held-append (None ∷ slots) more = held-append slots more
held-append (Some x ∷ slots) more = ap (λ xs. x ∷ xs) (held-append slots more)

pub held-none : {X : Type 0} (slots : List (Option X)) → not (list_any is_some slots) ≡ is_empty (held slots)
held-none [] = refl
held-none (None ∷ slots) = held-none slots
held-none (Some x ∷ slots) = refl

-- what is held by one more slot
pub held-more : {X : Type 0} (slots : List (Option X)) (i : ℕ) (d slot : Option X) → i < length slots → slot ≡ get_or slots i d →
    held (take (i + 1) slots) ≡ held (take i slots) ++ held (slot ∷ [])
held-more slots i d slot below e =
    ap held (take_more slots i d below) ∙ held-append (take i slots) (get_or slots i d ∷ []) ∙ ap (λ s. held (take i slots) ++ held (s ∷ [])) (sym e)

pub held_some : {X : Type 0} (slots : List (Option X)) (i : ℕ) (d slot : Option X) (x : X) → i < length slots → slot ≡ get_or slots i d → slot ≡ Some x →
    held (take (i + 1) slots) ≡ held (take i slots) ++ x ∷ []
held_some slots i d slot x below e is = held-more slots i d slot below e ∙ ap (λ s. held (take i slots) ++ held (s ∷ [])) is

pub held_gap : {X : Type 0} (slots : List (Option X)) (i : ℕ) (d slot : Option X) → i < length slots → slot ≡ get_or slots i d → slot ≡ None →
    held (take (i + 1) slots) ≡ held (take i slots)
held_gap slots i d slot below e is = held-more slots i d slot below e ∙ ap (λ s. held (take i slots) ++ held (s ∷ [])) is ∙ append-nil (held (take i slots))

found_at : {X : Type 0} (p : X → Bool) (slots : List (Option X)) (place : ℕ) (x : X) → slice_get slots place ≡ Some (Some x) → p x ≡ true →
    list_any p (held slots) ≡ true
found_at p [] place x at is = absurd (cc at)
found_at p (None ∷ slots) zero x at is = absurd (cc at)
found_at p (None ∷ slots) (suc place) x at is = found_at p slots place x at is
found_at p (Some y ∷ slots) zero x at is = let own : y ≡ x = cc at in ap (λ b. b || list_any p (held slots)) (ap p own ∙ is)
found_at p (Some y ∷ slots) (suc place) x at is = by (p y) (found_at p slots place x at is)
  where
    by : (b : Bool) → list_any p (held slots) ≡ true → (b || list_any p (held slots)) ≡ true
    by true h = refl
    by false h = h

record StandsAt {X : Type 0} (p : X → Bool) (slots : List (Option X)) : Type 0 where
  place : ℕ
  thing : X
  at : slice_get slots place ≡ Some (Some thing)
  passes : p thing ≡ true

place_of : {X : Type 0} (p : X → Bool) (slots : List (Option X)) → list_any p (held slots) ≡ true → StandsAt p slots
place_of p [] found = absurd (cc found)
place_of p (None ∷ slots) found = let rest = place_of p slots found in record { place = suc rest.place; thing = rest.thing; at = rest.at; passes = rest.passes }
place_of p (Some x ∷ slots) found = by (p x) refl (place_of p slots) found
  where
    by : (b : Bool) → p x ≡ b → (list_any p (held slots) ≡ true → StandsAt p slots) → (b || list_any p (held slots)) ≡ true → StandsAt p (Some x ∷ slots)
    by true is more h = record { place = zero; thing = x; at = refl; passes = is }
    by false is more h = let rest = more h in record { place = suc rest.place; thing = rest.thing; at = rest.at; passes = rest.passes }

-- ---- the place of a bound

hit : (end : ColumnEnd) (column : Name) (o : Option (Option (Bound Name))) → is_at_end_there end column o ≡ true →
    (bound : Bound Name) × (o ≡ Some (Some bound)) × (is_at_end end column bound ≡ true)
hit end column None is = absurd (cc is)
hit end column (Some None) is = absurd (cc is)
hit end column (Some (Some bound)) is = (bound, refl, is)

module _ (end : ColumnEnd) (column : Name) (places : List (Name × ℕ)) (slots : Slots) (notes : AreNoted end places slots) where
  noted_at : (place : ℕ) (bound : Bound Name) → slice_get slots place ≡ Some (Some bound) → is_at_end end column bound ≡ true →
      lookup (same column) places ≡ Some place
  noted_at place bound at is =
      let p = and_parts (same column bound.column) (touches_end end bound.kind) is in
      subst (λ n. lookup (same n) places ≡ Some place) (sym (same_eq column bound.column p.0)) (notes place bound at p.1)

  noted_there : (place : ℕ) → is_at_end_there end column (slice_get slots place) ≡ true → lookup (same column) places ≡ Some place
  noted_there place is = let h = hit end column (slice_get slots place) is in noted_at place h.0 h.1 h.2

  pub none_where_unnoted : lookup (same column) places ≡ None → list_any (is_at_end end column) (held slots) ≡ false
  none_where_unnoted none = by (list_any (is_at_end end column) (held slots)) refl
    where
      by : (b : Bool) → list_any (is_at_end end column) (held slots) ≡ b → b ≡ false
      by false e = refl
      by true e = let s = place_of (is_at_end end column) slots e in absurd (cc (none, noted_at s.place s.thing s.at s.passes))

  pub none_where_stale : (place : ℕ) → lookup (same column) places ≡ Some place → is_at_end_there end column (slice_get slots place) ≡ false →
      list_any (is_at_end end column) (held slots) ≡ false
  none_where_stale place found stale = by (list_any (is_at_end end column) (held slots)) refl
    where
      by : (b : Bool) → list_any (is_at_end end column) (held slots) ≡ b → b ≡ false
      by false e = refl
      by true e =
          let s = place_of (is_at_end end column) slots e in
          let here : s.place ≡ place = cc (found, noted_at s.place s.thing s.at s.passes) in
          let seen : is_at_end_there end column (slice_get slots place) ≡ true =
          subst (λ n. is_at_end_there end column (slice_get slots n) ≡ true) here (ap (is_at_end_there end column) s.at ∙ s.passes) in
          absurd (cc (seen, stale))

  pub one_where_seen : (place : ℕ) → is_at_end_there end column (slice_get slots place) ≡ true → list_any (is_at_end end column) (held slots) ≡ true
  one_where_seen place is = let h = hit end column (slice_get slots place) is in found_at (is_at_end end column) slots place h.0 h.1 h.2

  pub only_one : (place other : ℕ) → lookup (same column) places ≡ Some place → is_at_end_there end column (slice_get slots other) ≡ true → other ≡ place
  only_one place other found is = cc (found, noted_there other is)

-- ---- a slot is emptied

pub within : (end : ColumnEnd) (column : Name) (slots : Slots) (place : ℕ) → is_at_end_there end column (slice_get slots place) ≡ true → place < length slots
within end column [] place is = absurd (cc is)
within end column (slot ∷ slots) zero is = omega arith
within end column (slot ∷ slots) (suc place) is = let inner = within end column slots place is in omega (arith, inner)

pub none_left : {X : Type 0} (p : X → Bool) (xs : List X) → list_any p xs ≡ false → filter (λ x. not (p x)) xs ≡ xs
none_left p [] none = refl
none_left p (x ∷ xs) none = by (p x) (none_left p xs) none
  where
    by : (b : Bool) → (list_any p xs ≡ false → filter (λ x. not (p x)) xs ≡ xs) → (b || list_any p xs) ≡ false →
        cond (not b) (x ∷ filter (λ x. not (p x)) xs) (filter (λ x. not (p x)) xs) ≡ x ∷ xs
    by true more h = absurd (cc h)
    by false more h = ap (λ rest. x ∷ rest) (more h)

no_other : (end : ColumnEnd) (column : Name) (slots : Slots) → ((other : ℕ) → is_at_end_there end column (slice_get slots other) ≡ false) →
    list_any (is_at_end end column) (held slots) ≡ false
no_other end column [] none = refl
no_other end column (None ∷ slots) none = no_other end column slots (λ other. none (suc other))
no_other end column (Some bound ∷ slots) none = ap₂ (λ a b. a || b) (none zero) (no_other end column slots (λ other. none (suc other)))

pub emptied_left : (end : ColumnEnd) (column : Name) (slots : Slots) (place : ℕ) → is_at_end_there end column (slice_get slots place) ≡ true
    → ((other : ℕ) → is_at_end_there end column (slice_get slots other) ≡ true → other ≡ place)
    → held (set slots place None) ≡ filter (λ bound. not (is_at_end end column bound)) (held slots)
emptied_left end column [] place is only = absurd (cc is)
emptied_left end column (None ∷ slots) zero is only = absurd (cc is)
emptied_left end column (None ∷ slots) (suc place) is only =
    emptied_left end column slots place is (λ other seen. let e = only (suc other) seen in omega (arith, e))
emptied_left end column (Some bound ∷ slots) zero is only =
    sym (ap (λ b. cond (not b) (bound ∷ filter (λ bound. not (is_at_end end column bound)) (held slots))
    (filter (λ bound. not (is_at_end end column bound)) (held slots))) is
    ∙ none_left (is_at_end end column) (held slots) (no_other end column slots (λ other. by other (is_at_end_there end column (slice_get slots other)) refl)))
  where
    by : (other : ℕ) (b : Bool) → is_at_end_there end column (slice_get slots other) ≡ b → b ≡ false
    by other false e = refl
    by other true e = let n = only (suc other) e in absurd (omega (arith, n))
emptied_left end column (Some bound ∷ slots) (suc place) is only =
    by (is_at_end end column bound) refl (emptied_left end column slots place is (λ other seen. let n = only (suc other) seen in omega (arith, n)))
  where
    by : (b : Bool) → is_at_end end column bound ≡ b → held (set slots place None) ≡ filter (λ bound. not (is_at_end end column bound)) (held slots) →
        bound ∷ held (set slots place None)
        ≡ cond (not b) (bound ∷ filter (λ bound. not (is_at_end end column bound)) (held slots))
        (filter (λ bound. not (is_at_end end column bound)) (held slots))
    by true e more = let n = only zero e in absurd (omega (arith, n))
    by false e more = ap (λ rest. bound ∷ rest) more

pub emptied_at : (slots : Slots) (place : ℕ) → AreEmptied slots (set slots place None)
emptied_at [] place other bound at = at
emptied_at (slot ∷ slots) zero zero bound at = absurd (cc at)
emptied_at (slot ∷ slots) zero (suc other) bound at = at
emptied_at (slot ∷ slots) (suc place) zero bound at = at
emptied_at (slot ∷ slots) (suc place) (suc other) bound at = emptied_at slots place other bound at

pub still_noted : (end : ColumnEnd) (places : List (Name × ℕ)) (old new : Slots) → AreNoted end places old → AreEmptied old new → AreNoted end places new
still_noted end places old new notes emptied place bound at touches = notes place bound (emptied place bound at) touches

-- ---- one more bound

last_or_before : {X : Type 0} (x y : X) (xs : List X) (place : ℕ) → slice_get (xs ++ x ∷ []) place ≡ Some y →
    (slice_get xs place ≡ Some y) ⊎ ((place ≡ length xs) × (x ≡ y))
last_or_before x y [] zero at = inr (refl, cc at)
last_or_before x y [] (suc place) at = absurd (cc at)
last_or_before x y (z ∷ xs) zero at = inl at
last_or_before x y (z ∷ xs) (suc place) at = on (last_or_before x y xs place at)
  where
    on : (slice_get xs place ≡ Some y) ⊎ ((place ≡ length xs) × (x ≡ y)) → (slice_get xs place ≡ Some y) ⊎ ((suc place ≡ suc (length xs)) × (x ≡ y))
    on (inl e) = inl e
    on (inr e) = inr (ap suc e.0, e.1)

module _ (end : ColumnEnd) (places : List (Name × ℕ)) (slots : Slots) (bound : Bound Name) (notes : AreNoted end places slots)
    (free : touches_end end bound.kind ≡ true → list_any (is_at_end end bound.column) (held slots) ≡ false) where
  abbrev more : List (Name × ℕ)
  more = noted (touches_end end bound.kind) bound.column (length slots) places

  before : (touched : Bool) → touches_end end bound.kind ≡ touched → (place : ℕ) (other : Bound Name) → slice_get slots place ≡ Some (Some other)
      → touches_end end other.kind ≡ true
      → lookup (same other.column) (cond touched (insert_entry same places bound.column (length slots)) places) ≡ Some place
  before false t place other at is = notes place other at is
  before true t place other at is = by (same bound.column other.column) refl
    where
      by : (b : Bool) → same bound.column other.column ≡ b → lookup (same other.column) (insert_entry same places bound.column (length slots)) ≡ Some place
      by false unlike = lookup-other bound.column (length slots) other.column places (same_sym other.column bound.column ∙ unlike) ∙ notes place other at is
      by true alike = absurd (cc (free t, found_at (is_at_end end bound.column) slots place other at (ap₂ (λ a b. a && b) alike is)))

  own : (touched : Bool) → touches_end end bound.kind ≡ touched → touches_end end bound.kind ≡ true →
      lookup (same bound.column) (cond touched (insert_entry same places bound.column (length slots)) places) ≡ Some (length slots)
  own true t is = lookup-own bound.column (length slots) places
  own false t is = absurd (cc (t, is))

  more_noted : AreNoted end more (slots ++ Some bound ∷ [])
  more_noted place other at is = by (last_or_before (Some bound) (Some other) slots place at)
    where
      by : (slice_get slots place ≡ Some (Some other)) ⊎ ((place ≡ length slots) × (Some bound ≡ Some other)) → lookup (same other.column) more ≡ Some place
      by (inl there) = before (touches_end end bound.kind) refl place other there is
      by (inr there) =
          let one : bound ≡ other = cc there.1 in
          subst (λ b. lookup (same b.column) more ≡ Some place) one
          (own (touches_end end bound.kind) refl (subst (λ b. touches_end end b.kind ≡ true) (sym one) is) ∙ ap (λ n. Some n) (sym there.0))

  -- one more bound is noted with it
  pub added : (new_slots : Slots) (new_places : List (Name × ℕ)) → new_slots ≡ slots ++ Some bound ∷ [] → new_places ≡ more → AreNoted end new_places new_slots
  added new_slots new_places s p = subst (λ list. AreNoted end list new_slots) (sym p) (subst (λ list. AreNoted end more list) (sym s) more_noted)

-- a bound that meets none touches no end that is touched
pub free_ends : (column : Name) (kind : BoundKind) (bounds : List (Bound Name)) → is_bound_already bounds column kind ≡ false
    → (touches_upper kind ≡ true → list_any (is_at_end Upper column) bounds ≡ false) ×
    (touches_lower kind ≡ true → list_any (is_at_end Lower column) bounds ≡ false)
free_ends column kind bounds none =
    let e : (touches_upper kind && list_any (is_at_end Upper column) bounds || touches_lower kind && list_any (is_at_end Lower column) bounds) ≡ false = sym
    (met_at_ends column kind bounds) ∙ none in (
      λ t. first (touches_upper kind) (list_any (is_at_end Upper column) bounds) (touches_lower kind && list_any (is_at_end Lower column) bounds) t e,
      λ t. second (touches_lower kind) (list_any (is_at_end Lower column) bounds) (touches_upper kind && list_any (is_at_end Upper column) bounds) t e,
    )
  where
    first : (t a rest : Bool) → t ≡ true → (t && a || rest) ≡ false → a ≡ false
    first true true rest h e = absurd (cc e)
    first true false rest h e = refl
    first false a rest h e = absurd (cc h)

    second : (t a rest : Bool) → t ≡ true → (rest || t && a) ≡ false → a ≡ false
    second true false rest h e = refl
    second true true true h e = absurd (cc e)
    second true true false h e = absurd (cc e)
    second false a rest h e = absurd (cc h)

-- ---- the bounds before a place

front_place : {X : Type 0} (xs : List X) (limit place : ℕ) (y : X) → slice_get (take limit xs) place ≡ Some y → (slice_get xs place ≡ Some y) × (place < limit)
front_place xs zero place y at = absurd (cc at)
front_place [] (suc limit) place y at = absurd (cc at)
front_place (x ∷ xs) (suc limit) zero y at = (at, omega arith)
front_place (x ∷ xs) (suc limit) (suc place) y at = let inner = front_place xs limit place y at in (inner.0, omega (arith, inner.1))

there_at : {X : Type 0} (xs : List X) (place : ℕ) (d : X) → place < length xs → slice_get xs place ≡ Some (get_or xs place d)
there_at [] place d below = absurd (omega (arith, below))
there_at (x ∷ xs) zero d below = refl
there_at (x ∷ xs) (suc place) d below = let inner : place < length xs = omega (arith, below) in there_at xs place d inner

module _ (slots : Slots) (place : ℕ) (bound : Bound Name) (at : slice_get slots place ≡ Some (Some bound)) where
  end_is_free : (end : ColumnEnd) (places : List (Name × ℕ)) → AreNoted end places slots → touches_end end bound.kind ≡ true →
      list_any (is_at_end end bound.column) (held (take place slots)) ≡ false
  end_is_free end places notes touches = by (list_any (is_at_end end bound.column) (held (take place slots))) refl
    where
      by : (b : Bool) → list_any (is_at_end end bound.column) (held (take place slots)) ≡ b → b ≡ false
      by false e = refl
      by true e =
          let s = place_of (is_at_end end bound.column) (take place slots) e in
          let other = front_place slots place s.place (Some s.thing) s.at in
          let one : s.place ≡ place = cc (notes place bound at touches, noted_at end bound.column places slots notes s.place s.thing other.0 s.passes) in
          absurd (omega (arith, one, other.1))

  -- the bounds before one touch none of its ends
  apart_before : (uppers lowers : List (Name × ℕ)) → AreNoted Upper uppers slots → AreNoted Lower lowers slots →
      is_bound_already (held (take place slots)) bound.column bound.kind ≡ false
  apart_before uppers lowers up low =
      met_at_ends bound.column bound.kind (held (take place slots))
      ∙ by (touches_upper bound.kind) (touches_lower bound.kind) (list_any (is_at_end Upper bound.column) (held (take place slots)))
      (list_any (is_at_end Lower bound.column) (held (take place slots)))
      (end_is_free Upper uppers up) (end_is_free Lower lowers low)
    where
      by : (t u a b : Bool) → (t ≡ true → a ≡ false) → (u ≡ true → b ≡ false) → (t && a || u && b) ≡ false
      by true true a b f g = rw (f refl, g refl) refl
      by true false a b f g = rw (f refl) refl
      by false true a b f g = g refl
      by false false a b f g = refl

pub still_apart : (slots : Slots) (place : ℕ) (d slot : Option (Bound Name)) (bound : Bound Name) (bounds : List (Bound Name)) (uppers lowers : List (Name × ℕ))
    → place < length slots → slot ≡ get_or slots place d → slot ≡ Some bound
    → bounds ≡ held (take place slots) → AreNoted Upper uppers slots → AreNoted Lower lowers slots → is_bound_already bounds bound.column bound.kind ≡ false
still_apart slots place d slot bound bounds uppers lowers below e is held_is up low =
    ap (λ list. is_bound_already list bound.column bound.kind) held_is
    ∙ apart_before slots place bound (there_at slots place d below ∙ ap (λ s. Some s) (sym e ∙ is)) uppers lowers up low

-- those that a bound doesn't meet are met by none like it
pub none_met : (column : Name) (kind : BoundKind) (bounds : List (Bound Name)) →
    is_bound_already (filter (λ other. not (same column other.column && meet kind other.kind)) bounds) column kind ≡ false
none_met column kind [] = refl
none_met column kind (bound ∷ bounds) = by (same column bound.column && meet kind bound.kind) refl (none_met column kind bounds)
  where
    left : List (Bound Name)
    left = filter (λ other. not (same column other.column && meet kind other.kind)) bounds

    by : (b : Bool) → (same column bound.column && meet kind bound.kind) ≡ b → is_bound_already left column kind ≡ false →
        is_bound_already (cond (not b) (bound ∷ left) left) column kind ≡ false
    by true e more = more
    by false e more = ap (λ b. b || is_bound_already left column kind) e ∙ more

-- ---- both ends

abbrev free_touches : (kind : BoundKind) → meet Fr kind ≡ true
free_touches Up = refl
free_touches Lo = refl
free_touches Fx = refl
free_touches Fr = refl
free_touches Mi = refl
free_touches Pl = refl

with_true : (a b : Bool) → b ≡ true → (a && b) ≡ a
with_true true b e = e
with_true false b e = refl

on_column : (column : Name) (bound : Bound Name) → (same column bound.column && meet Fr bound.kind) ≡ same column bound.column
on_column column bound = with_true (same column bound.column) (meet Fr bound.kind) (free_touches bound.kind)

-- every bound on a column touches an end of it
pub bound_is_there : (column : Name) (bounds : List (Bound Name)) → is_bound_already bounds column Fr ≡ has_bound bounds column
bound_is_there column bounds = λ i. list_any (λ bound. on_column column bound i) bounds

pub all_taken : (column : Name) (bounds : List (Bound Name)) →
    filter (λ other. not (same column other.column && meet Fr other.kind)) bounds ≡ without_column column bounds
all_taken column bounds = λ i. filter (λ bound. not (on_column column bound i)) bounds

filter-twice : {X : Type 0} (p q : X → Bool) (xs : List X) → filter q (filter p xs) ≡ filter (λ x. p x && q x) xs
filter-twice p q [] = refl
filter-twice p q (x ∷ xs) = by (p x) (filter-twice p q xs)
  where
    by : (b : Bool) → filter q (filter p xs) ≡ filter (λ x. p x && q x) xs →
        filter q (cond b (x ∷ filter p xs) (filter p xs)) ≡ cond (b && q x) (x ∷ filter (λ x. p x && q x) xs) (filter (λ x. p x && q x) xs)
    by true more = ap (λ rest. cond (q x) (x ∷ rest) rest) more
    by false more = more

-- the bounds that meet a bound at its upper end go, and then those that meet it at its lower end
pub ends_taken : (column : Name) (kind : BoundKind) (upper lower : Bool) (old half new : List (Bound Name)) → upper ≡ touches_upper kind
    → lower ≡ touches_lower kind
    → half ≡ filter (λ bound. not (upper && is_at_end Upper column bound)) old → new ≡ filter (λ bound. not (lower && is_at_end Lower column bound)) half
    → new ≡ filter (λ other. not (same column other.column && meet kind other.kind)) old
ends_taken column kind upper lower old half new u l h n =
    n ∙ ap (filter (λ bound. not (lower && is_at_end Lower column bound))) h
    ∙ filter-twice (λ bound. not (upper && is_at_end Upper column bound)) (λ bound. not (lower && is_at_end Lower column bound)) old
    ∙ ap₂ (λ a b. filter (λ bound. not (a && is_at_end Upper column bound) && not (b && is_at_end Lower column bound)) old) u l
    ∙ (λ i. filter
    (λ bound. spread (touches_upper kind) (touches_lower kind) (touches_upper bound.kind) (touches_lower bound.kind) (same column bound.column) i) old)
  where
    spread : (u l bu bl s : Bool) → (not (u && (s && bu)) && not (l && (s && bl))) ≡ not (s && (u && bu || l && bl))
    spread false false bu bl false = refl
    spread false true bu bl false = refl
    spread true false bu bl false = refl
    spread true true bu bl false = refl
    spread false l bu bl true = refl
    spread true l true bl true = refl
    spread true l false bl true = refl

-- where the end doesn't matter, all stay
pub all_kept : {X : Type 0} (matters : Bool) (p : X → Bool) (xs : List X) → matters ≡ false → xs ≡ filter (λ x. not (matters && p x)) xs
all_kept {X = X} matters p xs e = kept xs ∙ ap (λ b. filter (λ x. not (b && p x)) xs) (sym e)
  where
    kept : (xs : List X) → xs ≡ filter (λ x. true) xs
    kept [] = refl
    kept (x ∷ xs) = ap (λ rest. x ∷ rest) (kept xs)
