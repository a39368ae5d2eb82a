-- The items of a list, one by one, and what their intervals are.
use Rattle.std.proofs.Common.{◌≡◌, ℕ, ◌+◌, List, [], ◌∷◌, ◌++◌, map, refl, sym, ap, ap₂, subst, ◌∙◌, Bool, true, false, None, arith, cond, append-nil}
use Rattle.std.specs.Prelude.{◌↔◌, filter}
use Rattle.std.proofs.lemmas.List.Elements.{All-push, All-nil, All-map}
use Rattle.exact_values.specs.Rational.{ℚ, neg_ℚ, ◌+ℚ◌, ◌-ℚ◌}
use Rattle.exact_values.proofs.Ring.{by_ring1, by_ring2, opposite as opp, ◌⊕◌, ◌⊖◌, ◌≐◌}
use Rattle.affine_laws.specs.declared.tightening.Ends.{Ends}
use Rattle.sensitivity_laws.specs.Changes.{RatesStay}
use Rattle.sensitivity_laws.specs.Laws.{IsPresent}
use Rattle.sensitivity_laws.proofs.Rows.{row}
use Rattle.sensitivity_laws.proofs.Costs.{cost_changes}
use Rattle.lp_definitions.specs.LinearProgram.{LinearProgram, IsRow, IsColumn, IsLinearProgram, numbers_from, cost, for_min}
use Rattle.lp_definitions.specs.Basis.{IsOptimalBasis}
use Rattle.lp_definitions.specs.declared.Status.{Status}
use Rattle.lp_laws.proofs.Opening.{numbers_from-append}
use Rattle.lp_model.specs.declared.reports.Interval as code
use Rattle.simplex_definitions.specs.Ranges.{with_row, with_cost, AreIntervals, IsBetween}
use Rattle.ranging.specs.Intervals.{IsIn, opposite, taken_from}
use Rattle.ranging.specs.Tables.{AreEndsOfRow}
use Rattle.ranging.specs.Lists.{Item, ListsTo, interval_of}
use Rattle.ranging.proofs.Deviations.{opposite_is, taken_is}
use Rattle.basis_values.proofs.PointSums.{filter-append}

-- ---- lists of numbers

map-append : {A B : Type 0} (f : A → B) (xs : List A) (y : A) → map f (xs ++ y ∷ []) ≡ map f xs ++ f y ∷ []
map-append f [] y = refl
map-append f (x ∷ xs) y = ap (λ zs. f x ∷ zs) (map-append f xs y)

numbers-next : (first n : ℕ) → numbers_from first (n + 1) ≡ numbers_from first n ++ (first + n) ∷ []
numbers-next first n = numbers_from-append first n 1

-- ---- items

pub listed_none : (Claim : ℕ → ℚ → Type 0) → ListsTo [] Claim []
listed_none Claim = record { whole = refl; exact = All-nil (λ (e : Item). (t : ℚ) → IsIn e.1 t ↔ Claim e.0 t) }

pub listed_next : (first n k : ℕ) (Claim : ℕ → ℚ → Type 0) (items : List Item) (interval : code.Interval) → k ≡ first + n
    → ((t : ℚ) → IsIn interval t ↔ Claim k t)
    → ListsTo (numbers_from first n) Claim items → ListsTo (numbers_from first (n + 1)) Claim (items ++ (k, interval) ∷ [])
listed_next first n k Claim items interval is claim h = record {
  whole = map-append (λ (e : Item). e.0) items (k, interval) ∙ ap₂ (λ xs m. xs ++ m ∷ []) h.whole is ∙ sym (numbers-next first n);
  exact = All-push (λ (e : Item). (t : ℚ) → IsIn e.1 t ↔ Claim e.0 t) items (k, interval) h.exact claim;
}

module _ (test : ℕ → Bool) (n : ℕ) (Claim : ℕ → ℚ → Type 0) (items : List Item) where
  tested : (m : Bool) → test (n + 1) ≡ m → filter test (numbers_from 1 (n + 1)) ≡ filter test (numbers_from 1 n) ++ cond m ((n + 1) ∷ []) []
  tested m e =
      let next : 1 + n ≡ n + 1 = omega arith in
      ap (filter test) (numbers-next 1 n) ∙ filter-append test (numbers_from 1 n) ((1 + n) ∷ [])
      ∙ ap (λ k. filter test (numbers_from 1 n) ++ filter test (k ∷ [])) next
      ∙ ap (λ (b : Bool). filter test (numbers_from 1 n) ++ cond b ((n + 1) ∷ []) []) e

  pub listed_kept : (interval : code.Interval) → test (n + 1) ≡ true → ((t : ℚ) → IsIn interval t ↔ Claim (n + 1) t)
      → ListsTo (filter test (numbers_from 1 n)) Claim items
      → ListsTo (filter test (numbers_from 1 (n + 1))) Claim (items ++ (n + 1, interval) ∷ [])
  listed_kept interval e claim h = record {
    whole = map-append (λ (e : Item). e.0) items (n + 1, interval) ∙ ap (λ xs. xs ++ (n + 1) ∷ []) h.whole ∙ sym (tested true e);
    exact = All-push (λ (e : Item). (t : ℚ) → IsIn e.1 t ↔ Claim e.0 t) items (n + 1, interval) h.exact claim;
  }

  pub listed_left : test (n + 1) ≡ false → ListsTo (filter test (numbers_from 1 n)) Claim items → ListsTo (filter test (numbers_from 1 (n + 1))) Claim items
  listed_left e h = record { whole = h.whole ∙ sym (tested false e ∙ append-nil (filter test (numbers_from 1 n))); exact = h.exact }

-- as the definitions have them
pub are_intervals : (numbers : List ℕ) (Claim : ℕ → ℚ → Type 0) (items : List Item) → ListsTo numbers Claim items →
    AreIntervals numbers Claim (map interval_of items)
are_intervals numbers Claim items h = record {
  whole = map-map items ∙ h.whole;
  exact = All-map (λ e. (t : ℚ) → IsBetween e t ↔ Claim e.variable t) interval_of items h.exact;
}
  where
    map-map : (items : List Item) → map (λ e. e.variable) (map interval_of items) ≡ map (λ (e : Item). e.0) items
    map-map [] = refl
    map-map (e ∷ es) = ap (λ xs. e.0 ∷ xs) (map-map es)

-- ---- intervals of rows and costs

module _ (p : LinearProgram) (s : List Status) (lawful : IsLinearProgram p) (no_change : p.change ≡ None) (optimal : IsOptimalBasis p s) where
  own_present : IsPresent p s optimal.tableau
  own_present = record { lawful = lawful; no_change = no_change; optimal = optimal; is_tableau = optimal.is_tableau }

  pub row_exact : (i : ℕ) → IsRow p.matrix i → (ends : Ends) → AreEndsOfRow p s i ends → (t : ℚ) → IsIn (opposite ends) t ↔ IsOptimalBasis (with_row p i t) s
  row_exact i is ends h t =
      let law = row p s optimal.tableau own_present i is t in
      let between = opposite_is t ends in
      let rates = h.exact optimal.tableau.rate optimal.is_tableau.are_rates (neg_ℚ t) in (
        λ k. law.1 (subst (RatesStay p s (λ k. for_min p.sense (optimal.tableau.rate p.objective k)) (λ k. for_min p.sense (optimal.tableau.rate i k))) twice
            (rates.0 (between.0 k))),
        λ k. between.1
            (rates.1 (subst (RatesStay p s (λ k. for_min p.sense (optimal.tableau.rate p.objective k)) (λ k. for_min p.sense (optimal.tableau.rate i k)))
            (sym twice) (law.0 k))),
      )
    where
      twice : neg_ℚ (neg_ℚ t) ≡ t
      twice = by_ring1 t (λ t. opp (opp t) ≐ t) refl

  pub cost_exact : (j : ℕ) → IsColumn p.matrix j → (ends : Ends) → AreEndsOfRow p s (p.rows + j) ends → (t : ℚ) →
      IsIn (taken_from (cost p j) ends) t ↔ IsOptimalBasis (with_cost p (p.rows + j) t) s
  cost_exact j is ends h t =
      let law = cost_changes p s optimal.tableau own_present j is (t -ℚ cost p j) in
      let between = taken_is (cost p j) t ends in
      let rates = h.exact optimal.tableau.rate optimal.is_tableau.are_rates (cost p j -ℚ t) in (
        λ k. subst (λ v. IsOptimalBasis (with_cost p (p.rows + j) v) s) back
            (law.1 (subst
            (RatesStay p s (λ k. for_min p.sense (optimal.tableau.rate p.objective k)) (λ k. for_min p.sense (optimal.tableau.rate (p.rows + j) k))) turned
            (rates.0 (between.0 k)))),
        λ k. between.1
            (rates.1 (subst
            (RatesStay p s (λ k. for_min p.sense (optimal.tableau.rate p.objective k)) (λ k. for_min p.sense (optimal.tableau.rate (p.rows + j) k)))
            (sym turned)
            (law.0 (subst (λ v. IsOptimalBasis (with_cost p (p.rows + j) v) s) (sym back) k)))),
      )
    where
      back : cost p j +ℚ (t -ℚ cost p j) ≡ t
      back = by_ring2 (cost p j) t (λ c t. c ⊕ (t ⊖ c) ≐ t) refl

      turned : neg_ℚ (cost p j -ℚ t) ≡ t -ℚ cost p j
      turned = by_ring2 (cost p j) t (λ c t. opp (c ⊖ t) ≐ t ⊖ c) refl
