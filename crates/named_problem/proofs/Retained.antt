-- What is left of the values of a map under whose names each is changed, or of which some are kept.
use Rattle.std.proofs.Common.{◌≡◌, Bool, true, false, cond, not, List, [], ◌∷◌, map, filter, refl, ap, sym, ◌∙◌, subst}
use Rattle.std.specs.Map.Calls.{RetainsPairs}
use Rattle.card_definitions.specs.Words.{is_empty}
use Rattle.problem_definitions.specs.Names.{Name}
use Rattle.problem_definitions.specs.Problem.{Entry, Group}
use Rattle.problem_definitions.specs.Parts.{with_parts}
use Rattle.problem_definitions.specs.Groups.{in_all, filled}
use Rattle.problem_definitions.proofs.Groups.{map-map}
use Rattle.named_problem.specs.Views.{group_at}
use Rattle.named_problem.specs.declared.rows.RowBody.{RowBody}
use Rattle.named_problem.specs.Bodies.{row_at, body_with}

-- a map's `retain` whose closure keeps each value and changes it
module _ {K X F : Type 0} (T : F → K → X → Bool → X → F → Type 0) (change : X → X) (f : F)
    (says : (k : K) (v : X) (b : Bool) (w : X) (g : F) → T f k v b w g → (b ≡ true) × (w ≡ change v) × (g ≡ f)) where
  changed_all : (es left : List (K × X)) → RetainsPairs T f es left → left ≡ map (λ e. (e.0, change e.1)) es
  changed_all [] left h = h
  changed_all (e ∷ es) left h =
      let s = says e.0 e.1 h.0 h.1 h.2 h.4 in
      let rest = changed_all es h.3 (subst (λ g. RetainsPairs T g es h.3) s.2 h.5) in
      h.6 ∙ (λ j. cond (s.0 j) ((e.0, s.1 j) ∷ rest j) (rest j))

module _ {X F : Type 0} (T : F → Name → List X → Bool → List X → F → Type 0) (change : List X → List X) (f : F)
    (says : (k : Name) (v : List X) (b : Bool) (w : List X) (g : F) → T f k v b w g → (b ≡ true) × (w ≡ change v) × (g ≡ f)) where
  -- the items of all groups are changed
  pub changed_groups : (es left : List (Name × List X)) → RetainsPairs T f es left → map group_at left ≡ in_all change (map group_at es)
  changed_groups es left h =
      ap (map group_at) (changed_all T change f says es left h) ∙ map-map group_at (λ e. (e.0, change e.1)) es
      ∙ sym (map-map (λ (group : Group X). record { name = group.name; items = change group.items }) group_at es)

module _ {F : Type 0} (T : F → Name → RowBody → Bool → RowBody → F → Type 0) (change : List (Entry Name) → List (Entry Name)) (f : F)
    (says : (k : Name) (v : RowBody) (b : Bool) (w : RowBody) (g : F) → T f k v b w g → (b ≡ true) × (w ≡ body_with change v) × (g ≡ f)) where
  -- the parts of all rows are changed
  pub changed_rows : (es left : List (Name × RowBody)) → RetainsPairs T f es left → map row_at left ≡ map (with_parts change) (map row_at es)
  changed_rows es left h =
      ap (map row_at) (changed_all T (body_with change) f says es left h) ∙ map-map row_at (λ e. (e.0, body_with change e.1)) es
      ∙ sym (map-map (with_parts change) row_at es)

-- the groups that have an item are kept
pub filled_groups : {X : Type 0} (es : List (Name × List X)) → map group_at (filter (λ e. not (is_empty e.1)) es) ≡ filled (map group_at es)
filled_groups [] = refl
filled_groups (e ∷ es) = by (not (is_empty e.1)) (filled_groups es)
  where
    by : (b : Bool) → map group_at (filter (λ e. not (is_empty e.1)) es) ≡ filled (map group_at es) →
        map group_at (cond b (e ∷ filter (λ e. not (is_empty e.1)) es) (filter (λ e. not (is_empty e.1)) es)) ≡ cond b (group_at e ∷ filled (map group_at es))
        (filled (map group_at es))
    by true more = ap (λ rest. group_at e ∷ rest) more
    by false more = more
