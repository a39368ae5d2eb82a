-- Walks: visits of the path one after another, each with the point, the rates and the move of its basis.
--     Visit                        a basis with its point, its rates and the move that is made there
--     In x xs                      x stands in the list
--     IsWalk s vs end              from s over the visits vs to end
--     turn_to                      a closed walk may begin at each of its visits
--     IsVisitBy rule p Good v      a rule makes this move at this basis, which is a good one
--     visits, is_walk, are_visits  the visits of a path by a rule
use Rattle.std.proofs.Common.{◌≡◌, ◌⊎◌, inl, inr, List, [], ◌∷◌, ◌++◌, refl, sym, ap, subst}
use Rattle.lp_definitions.specs.LinearProgram.{LinearProgram}
use Rattle.lp_definitions.specs.Basis.{Tableau, IsTableau}
use Rattle.lp_definitions.specs.declared.Status.{Status}
use Rattle.simplex_definitions.specs.Path.{Move, Moves, Rule, RuleStep, RulePath, after, last_of}

pub record Visit : Type 0 where
  pub basis : List Status
  pub tableau : Tableau
  pub move : Move

abbrev pub In : Visit → List Visit → Type 0
In v [] = ⊥
In v (x ∷ xs) = (v ≡ x) ⊎ In v xs

in_front : (v : Visit) (xs ys : List Visit) → In v xs → In v (xs ++ ys)
in_front v [] ys i = absurd i
in_front v (x ∷ xs) ys (inl e) = inl e
in_front v (x ∷ xs) ys (inr i) = inr (in_front v xs ys i)

in_back : (v : Visit) (xs ys : List Visit) → In v ys → In v (xs ++ ys)
in_back v [] ys i = i
in_back v (x ∷ xs) ys i = inr (in_back v xs ys i)

in_parts : (v : Visit) (xs ys : List Visit) → In v (xs ++ ys) → In v xs ⊎ In v ys
in_parts v [] ys i = inr i
in_parts v (x ∷ xs) ys (inl e) = inl (inl e)
in_parts v (x ∷ xs) ys (inr i) = first (in_parts v xs ys i)
  where
    first : (In v xs ⊎ In v ys) → (((v ≡ x) ⊎ In v xs) ⊎ In v ys)
    first (inl j) = inl (inr j)
    first (inr j) = inr j

exchanged_parts : (v : Visit) (xs ys : List Visit) → In v (xs ++ ys) → In v (ys ++ xs)
exchanged_parts v xs ys i = by_part (in_parts v xs ys i)
  where
    by_part : (In v xs ⊎ In v ys) → In v (ys ++ xs)
    by_part (inl j) = in_back v ys xs j
    by_part (inr j) = in_front v ys xs j

record Splits (v : Visit) (vs : List Visit) : Type 0 where
  front : List Visit
  back : List Visit
  splits : vs ≡ front ++ (v ∷ back)

split_at : (v : Visit) (vs : List Visit) → In v vs → Splits v vs
split_at v [] i = absurd i
split_at v (x ∷ xs) (inl e) = record { front = []; back = xs; splits = ap (λ y. y ∷ xs) (sym e) }
split_at v (x ∷ xs) (inr i) = let r = split_at v xs i in record { front = x ∷ r.front; back = r.back; splits = ap (λ ys. x ∷ ys) r.splits }

abbrev pub IsWalk : List Status → List Visit → List Status → Type 0
IsWalk s [] end = s ≡ end
IsWalk s (v ∷ vs) end = (v.basis ≡ s) × IsWalk (after v.basis v.move) vs end

cut : (s end : List Status) (us vs : List Visit) → IsWalk s (us ++ vs) end → (mid : List Status) × IsWalk s us mid × IsWalk mid vs end
cut s end [] vs walk = (s, refl, walk)
cut s end (u ∷ us) vs walk = let r = cut (after u.basis u.move) end us vs walk.1 in (r.0, (walk.0, r.1), r.2)

joined : (s mid end : List Status) (us vs : List Visit) → IsWalk s us mid → IsWalk mid vs end → IsWalk s (us ++ vs) end
joined s mid end [] vs first second = subst (λ m. IsWalk m vs end) (sym first) second
joined s mid end (u ∷ us) vs first second = (first.0, joined (after u.basis u.move) mid end us vs first.1 second)

-- the same closed walk, begun at v
pub record Turned (v : Visit) (vs : List Visit) : Type 0 where
  pub others : List Visit
  pub walk : IsWalk (after v.basis v.move) others v.basis
  pub was_in : (x : Visit) → In x (v ∷ others) → In x vs
  pub is_in : (x : Visit) → In x vs → In x (v ∷ others)

pub turn_to : (s : List Status) (v : Visit) (vs : List Visit) → IsWalk s vs s → In v vs → Turned v vs
turn_to s v vs walk i =
    let r = split_at v vs i in
    let parts = cut s s r.front (v ∷ r.back) (subst (λ xs. IsWalk s xs s) r.splits walk) in
    record {
      others = r.back ++ r.front;
      walk = joined (after v.basis v.move) s v.basis r.back r.front parts.2.1 (subst (λ m. IsWalk s r.front m) (sym parts.2.0) parts.1);
      was_in = λ x j. subst (λ xs. In x xs) (sym r.splits) (exchanged_parts x (v ∷ r.back) r.front j);
      is_in = λ x j. exchanged_parts x r.front (v ∷ r.back) (subst (λ xs. In x xs) r.splits j);
    }

-- ---- the visits of a path by a rule

pub record IsVisitBy (rule : Rule) (p : LinearProgram) (Good : List Status → Type 0) (v : Visit) : Type 0 where
  pub at : Good v.basis
  pub is_tableau : IsTableau p v.basis v.tableau
  pub turns : rule p v.basis v.tableau ≡ Moves v.move

pub visit_step : (rule : Rule) (p : LinearProgram) (Good : List Status → Type 0) (v : Visit) → IsVisitBy rule p Good v →
    RuleStep rule p v.basis (after v.basis v.move)
visit_step rule p Good v h = record { tableau = v.tableau; is_tableau = h.is_tableau; move = v.move; turns = h.turns; is_next = refl }

module _ (rule : Rule) (p : LinearProgram) where
  abbrev visit : (s next : List Status) → RuleStep rule p s next → Visit
  visit s next step = record { basis = s; tableau = step.tableau; move = step.move }

  abbrev pub visits : (s : List Status) (bases : List (List Status)) → RulePath rule p s bases → List Visit
  visits s [] path = []
  visits s (next ∷ bases) path = visit s next path.0 ∷ visits next bases path.1

  pub is_walk : (s : List Status) (bases : List (List Status)) → (path : RulePath rule p s bases) → IsWalk s (visits s bases path) (last_of s bases)
  is_walk s [] path = refl
  is_walk s (next ∷ bases) path = (refl, subst (λ b. IsWalk b (visits next bases path.1) (last_of next bases)) path.0.is_next (is_walk next bases path.1))

  module _ (Good : List Status → Type 0) (leads : (s next : List Status) → Good s → RuleStep rule p s next → Good next) where
    pub are_visits : (s : List Status) (bases : List (List Status)) → Good s → (path : RulePath rule p s bases) → (x : Visit) → In x (visits s bases path) →
        IsVisitBy rule p Good x
    are_visits s [] good path x i = absurd i
    are_visits s (next ∷ bases) good path x i = by_place (λ x j. are_visits next bases (leads s next good path.0) path.1 x j) x i
      where
        by_place : ((x : Visit) → In x (visits next bases path.1) → IsVisitBy rule p Good x) → (x : Visit) →
            ((x ≡ visit s next path.0) ⊎ In x (visits next bases path.1)) → IsVisitBy rule p Good x
        by_place rest x (inl e) = subst (IsVisitBy rule p Good) (sym e) (record { at = good; is_tableau = path.0.is_tableau; turns = path.0.turns })
        by_place rest x (inr j) = rest x j
