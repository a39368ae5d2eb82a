-- The cost of a column changes.
use Rattle.std.proofs.Common.{◌≡◌, ◌≢◌, ℕ, zero, suc, ◌+◌, ◌-◌, ◌<◌, List, [], ◌∷◌, set, refl, sym, ap, subst, ◌∙◌, Option, Some, None, Bool, true, false, ◌⊎◌}
use Rattle.std.proofs.Common.{inl, inr, arith, filter}
use Rattle.std.specs.Prelude.{◌↔◌, IfSome, nat_eq, not, cond, eqb}
use Rattle.std.proofs.lemmas.Bool.Decides.{eqb_tells}
use Rattle.std.proofs.lemmas.List.{get_or-set_same, get_or-set_other}
use Rattle.exact_values.specs.Rational.{ℚ, ◌+ℚ◌, ◌*ℚ◌, ◌≤ℚ◌}
use Rattle.lp_definitions.specs.LinearProgram.{LinearProgram, Vector, on_row, column, entry, cost, IsRow, IsColumn, lower_of, upper_of, with_change_row}
use Rattle.lp_definitions.specs.LinearProgram.{for_min}
use Rattle.lp_definitions.specs.Basis.{is_in, is_basic, basics_of, status_of, StandsAt, IsBasis, IsNonsingular, IsOptimalBasis, Tableau, IsTableau}
use Rattle.lp_definitions.specs.declared.Change.{Change}
use Rattle.lp_definitions.specs.declared.Entry.{Entry}
use Rattle.lp_definitions.specs.declared.Status.{Status}
use Rattle.lp_definitions.specs.declared.Status.TheVariants.{Bs}
use Rattle.lp_laws.proofs.Uniqueness.{is_in-basics_of}
use Rattle.simplex_definitions.specs.Moves.{may_rise, may_fall, lowers}
use Rattle.simplex_definitions.specs.Path.{worth_rate}
use Rattle.simplex_definitions.specs.Ranges.{with_cost, with_entry}
use Rattle.sensitivity_laws.specs.Changes.{ChangeIsRow, HasRows, RatesStay, SidesHold, rate_sides, worths, slopes}
use Rattle.sensitivity_laws.specs.Laws.{IsPresent}
use Rattle.sensitivity_laws.proofs.Tableaus.{by_tableau}
use Rattle.sensitivity_laws.proofs.Signs.{sides_of_rate, for_min-add}
use Rattle.sensitivity_laws.proofs.Rows.{rows_of, feasible_now}
use Rattle.sensitivity_laws.proofs.Shear.{shear, shear_own, shear_other, IsMore, shear_keeps, shear_nonsingular, shear_rates}

-- without a change row
no_more : (c : Option Change) (f : Vector) (v : ℚ) → c ≡ None → with_change_row c f v ≡ v
no_more c f v e = ap (λ c. with_change_row c f v) e

-- the numbers off row o are those of the entries off row o
off_row : (o i : ℕ) (es : List Entry) → i ≢ o → on_row (filter (λ (e : Entry). not (nat_eq e.row o)) es) i ≡ on_row es i
off_row o i [] other = refl
off_row o i (e ∷ es) other = at (nat_eq e.row o) refl (off_row o i es other)
  where
    elsewhere : nat_eq e.row o ≡ true → nat_eq e.row i ≡ false
    elsewhere h = grind (arith, h, other)

    at : (drop : Bool) → nat_eq e.row o ≡ drop → on_row (filter (λ (e : Entry). not (nat_eq e.row o)) es) i ≡ on_row es i
        → on_row (cond (not drop) (e ∷ filter (λ (e : Entry). not (nat_eq e.row o)) es) (filter (λ (e : Entry). not (nat_eq e.row o)) es)) i ≡ cond
        (nat_eq e.row i) e.value (on_row es i)
    at true h rest = rest ∙ sym (ap (λ b. cond b e.value (on_row es i)) (elsewhere h))
    at false h rest = ap (λ v. cond (nat_eq e.row i) e.value v) rest

entry_own : (o : ℕ) (v : ℚ) (es : List Entry) → on_row (with_entry o v es) o ≡ v
entry_own o v es = let e : nat_eq o o ≡ true = grind arith in ap (λ b. cond b v (on_row (filter (λ (e : Entry). not (nat_eq e.row o)) es) o)) e

entry_other : (o i : ℕ) (v : ℚ) (es : List Entry) → i ≢ o → on_row (with_entry o v es) i ≡ on_row es i
entry_other o i v es other =
    let e : nat_eq o i ≡ false = grind (arith, other) in
    ap (λ b. cond b v (on_row (filter (λ (e : Entry). not (nat_eq e.row o)) es) i)) e ∙ off_row o i es other

-- the columns of a program with another number in the column j on the objective row
abbrev pub columns_with : LinearProgram → ℕ → ℚ → List (List Entry)
columns_with p j v = set p.columns (j - 1) (with_entry p.objective v (column p.matrix j))

abbrev pub costing : LinearProgram → ℕ → ℚ → LinearProgram
costing p j v = record p { matrix = record p.matrix { columns = columns_with p j v } }

module _ (p : LinearProgram) (s : List Status) (t : Tableau) (present : IsPresent p s t) (c : ℕ) (is_c : c < p.cols) (x : ℚ) where
  abbrev o : ℕ
  o = p.objective

  abbrev v : ℚ
  v = cost p (suc c) +ℚ x

  cost_is : cost p (suc c) ≡ entry p.matrix p.objective (suc c)
  cost_is = no_more p.change (λ i. entry p.matrix i (suc c)) (entry p.matrix p.objective (suc c)) present.no_change

  is_o : IsRow p.matrix p.objective
  is_o = present.lawful.objective_row

  more : IsMore p.matrix (record p.matrix { columns = columns_with p (suc c) v }) p.objective c x
  more = record {
    own = ap (λ es. on_row es o) same ∙ entry_own o v (column p.matrix (suc c)) ∙ ap (λ v. v +ℚ x) cost_is;
    other_rows = λ i e other. at i e other (eqb_tells e c);
    other_columns = λ e other. ap (λ es. on_row es o) (apart e other);
  }
    where
      same : column (record p.matrix { columns = columns_with p (suc c) v }) (suc c) ≡ with_entry o v (column p.matrix (suc c))
      same = get_or-set_same p.columns (suc c - 1) (with_entry o v (column p.matrix (suc c))) [] (omega (arith, is_c, present.lawful.is_matrix.columns_counted))

      apart : (e : ℕ) → e ≢ c → column (record p.matrix { columns = columns_with p (suc c) v }) (suc e) ≡ column p.matrix (suc e)
      apart e other = get_or-set_other p.columns (suc c - 1) (suc e - 1) (with_entry o v (column p.matrix (suc c))) [] (λ h. other (omega (arith, h)))

      at : (i e : ℕ) → i ≢ o → (((eqb e c ≡ true) × (e ≡ c)) ⊎ ((eqb e c ≡ false) × (e ≢ c)))
          → entry (record p.matrix { columns = columns_with p (suc c) v }) i (suc e) ≡ entry p.matrix i (suc e)
      at i e other (inl is) =
          subst (λ e. entry (record p.matrix { columns = columns_with p (suc c) v }) i (suc e) ≡ entry p.matrix i (suc e)) (sym is.1)
          (ap (λ es. on_row es i) same ∙ entry_other o i v (column p.matrix (suc c)) other)
      at i e other (inr far) = ap (λ es. on_row es i) (apart e far.1)

  basic_o : status_of s p.objective ≡ Bs
  basic_o = present.optimal.is_basis.free_rows p.objective is_o present.lawful.objective_free

  among_o : is_in (basics_of s) p.objective ≡ true
  among_o = is_in-basics_of s p.objective is_o.0 (omega (arith, is_o.1, present.optimal.is_basis.counted)) ∙ ap is_basic basic_o

  abbrev k : ℕ
  k = p.rows + suc c

  abbrev sheared : Tableau
  sheared = record { point = shear p.objective (p.rows + suc c) x t.point; rate = λ i j. shear p.objective (p.rows + suc c) x (λ i. t.rate i j) i }

  one_there : IsNonsingular (costing p (suc c) v).matrix (basics_of s)
  one_there =
      shear_nonsingular p.rows p.cols p.objective c is_o is_c p.columns (columns_with p (suc c) v) x more (basics_of s) among_o present.optimal.nonsingular

  basis_there : IsBasis (costing p (suc c) v) s
  basis_there = let b = present.optimal.is_basis in record { counted = b.counted; m_basics = b.m_basics; free_rows = b.free_rows; allowed = b.allowed }

  rows_there : HasRows (costing p (suc c) v)
  rows_there = record { objective = is_o; change = at p.change (rows_of p s t present).change }
    where
      at : (d : Option Change) → ChangeIsRow p.matrix d → ChangeIsRow (costing p (suc c) v).matrix d
      at None h = tt
      at (Some d) h = h

  -- what holds of the objective row, and of the value of each other variable
  each_value : (P : ℕ → ℚ → Type 0) → P p.objective (shear p.objective (p.rows + suc c) x t.point p.objective) → (i : ℕ) → P i (t.point i) →
      P i (shear p.objective (p.rows + suc c) x t.point i)
  each_value P own i rest = at (eqb_tells i p.objective)
    where
      at : (((eqb i p.objective ≡ true) × (i ≡ p.objective)) ⊎ ((eqb i p.objective ≡ false) × (i ≢ p.objective))) →
          P i (shear p.objective (p.rows + suc c) x t.point i)
      at (inl same) = subst (λ i. P i (shear p.objective (p.rows + suc c) x t.point i)) (sym same.1) own
      at (inr apart) = subst (P i) (sym (shear_other p.objective (p.rows + suc c) x t.point i apart.1)) rest

  tableau_there : IsTableau (costing p (suc c) v) s sheared
  tableau_there = record {
    is_point = record {
      keeps = shear_keeps p.rows p.cols p.objective c is_o is_c p.columns (columns_with p (suc c) v) x more t.point present.is_tableau.is_point.keeps;
      placed = λ i is. each_value (λ i y. StandsAt (status_of s i) (lower_of p i) (upper_of p i) y)
          (subst (λ st. StandsAt st (lower_of p p.objective) (upper_of p p.objective) (shear p.objective (p.rows + suc c) x t.point p.objective))
          (sym basic_o) tt)
          i (present.is_tableau.is_point.placed i is);
    };
    are_rates =
        shear_rates p.rows p.cols p.objective c is_o is_c p.columns (columns_with p (suc c) v) x more (basics_of s) among_o t.rate present.is_tableau.are_rates;
  }

  worth_is : (i : ℕ) → worth_rate (costing p (suc c) v) s sheared i ≡ worths p t i +ℚ x *ℚ slopes p t (p.rows + suc c) i
  worth_is i =
      ap (for_min p.sense)
      (no_more p.change (λ r. sheared.rate r i) (sheared.rate p.objective i) present.no_change ∙ shear_own p.objective (p.rows + suc c) x (λ r. t.rate r i))
      ∙ for_min-add p.sense (t.rate p.objective i) x (t.rate (p.rows + suc c) i)

  sides : (i : ℕ) →
      (lowers (costing p (suc c) v) s (worth_rate (costing p (suc c) v) s sheared) i ≡ false) ↔ SidesHold
      (rate_sides p s (worths p t) (slopes p t (p.rows + suc c)) i) x
  sides i =
      sides_of_rate (worth_rate (costing p (suc c) v) s sheared i) (worths p t i) (slopes p t (p.rows + suc c) i) x (may_rise p s i) (may_fall p s i)
      (worth_is i)

  costs : IsOptimalBasis (costing p (suc c) v) s ↔ RatesStay p s (worths p t) (slopes p t (p.rows + suc c)) x
  costs = (to, back)
    where
      to : IsOptimalBasis (costing p (suc c) v) s → RatesStay p s (worths p t) (slopes p t (p.rows + suc c)) x
      to optimal i is = (sides i).0 (((by_tableau (costing p (suc c) v) s basis_there one_there rows_there sheared tableau_there).0 optimal).right i is)

      free : IfSome (lower_of p p.objective) (λ l. l ≤ℚ shear p.objective (p.rows + suc c) x t.point p.objective)
          × IfSome (upper_of p p.objective) (λ u. shear p.objective (p.rows + suc c) x t.point p.objective ≤ℚ u)
      free = (
        subst (λ o. IfSome o (λ l. l ≤ℚ shear p.objective (p.rows + suc c) x t.point p.objective)) (sym present.lawful.objective_free.0) tt,
        subst (λ o. IfSome o (λ u. shear p.objective (p.rows + suc c) x t.point p.objective ≤ℚ u)) (sym present.lawful.objective_free.1) tt,
      )

      back : RatesStay p s (worths p t) (slopes p t (p.rows + suc c)) x → IsOptimalBasis (costing p (suc c) v) s
      back hold = (by_tableau (costing p (suc c) v) s basis_there one_there rows_there sheared tableau_there).1 (record {
        feasible = record {
          keeps = tableau_there.is_point.keeps;
          within =
              λ i is. each_value (λ i y. IfSome (lower_of p i) (λ l. l ≤ℚ y) × IfSome (upper_of p i) (λ u. y ≤ℚ u)) free i
              ((feasible_now p s t present).within i is);
        };
        right = λ i is. (sides i).1 (hold i is);
      })

pub cost_changes : (p : LinearProgram) (s : List Status) (t : Tableau) → IsPresent p s t → (j : ℕ) → IsColumn p.matrix j → (x : ℚ)
    → IsOptimalBasis (with_cost p (p.rows + j) (cost p j +ℚ x)) s ↔ RatesStay p s (worths p t) (slopes p t (p.rows + j)) x
cost_changes p s t present zero is x = absurd (omega (arith, is.0))
cost_changes p s t present (suc c) is x =
    subst (λ j. IsOptimalBasis (costing p j (cost p (suc c) +ℚ x)) s ↔ RatesStay p s (worths p t) (slopes p t (p.rows + suc c)) x) here
    (costs p s t present c (omega (arith, is.1)) x)
  where
    here : suc c ≡ p.rows + suc c - p.rows
    here = omega arith
