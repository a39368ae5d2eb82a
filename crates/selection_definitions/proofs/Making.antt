-- A selection is made where no evidence shows that an operation of it is refused, and there alone.
use Rattle.std.proofs.Common.{◌≡◌, ℕ, zero, suc, ◌+◌, Bool, true, false, List, [], ◌∷◌, ◌++◌, take, length, Option, Some, None, ◌⊎◌, inl, inr, refl, sym, ap}
use Rattle.std.proofs.Common.{subst, ◌∙◌, arith, IsTrue, add-zero}
use Rattle.std.specs.Prelude.{◌↔◌, if◌then◌else◌}
use Rattle.std.specs.List.{flat_map, enumerate_from, slice_get}
use Rattle.std.proofs.lemmas.Option.{same_Some}
use Rattle.exact_values.specs.Rational.{ℚ, zero_ℚ, ◌+ℚ◌}
use Rattle.exact_values.specs.Tests.{magnitude}
use Rattle.frac128.specs.declared.Op.{Op}
use Rattle.frac128.specs.declared.Op.TheVariants.{Add, Mul}
use Rattle.frac128.specs.Operations.{refuses}
use Rattle.lp_definitions.specs.declared.Evidence.{Evidence}
use Rattle.lp_definitions.specs.RatesEvidence.{Names, Refuses}
use Rattle.check_definitions.specs.declared.Verdict.{Verdict}
use Rattle.check_definitions.specs.declared.Verdict.TheVariants.{Checked, Failed, Unchecked}
use Rattle.check_definitions.specs.Steps.{Step, operation, verdict_of, Product, product_of, sum_steps, sum_of}
use Rattle.check_definitions.proofs.Passing.{checked-append, verdict-append}
use Rattle.problem_definitions.specs.Problem.{Row, Entry, Group, Problem}
use Rattle.selection_definitions.specs.Choice.{Choice}
use Rattle.selection_definitions.specs.Combinations.{part_products, column_values}
use Rattle.selection_definitions.specs.Limits.{range_operation}
use Rattle.selection_definitions.specs.Selection.{rhs_of, range_of}
use Rattle.selection_definitions.specs.RangeSums.{IsRangeRefusal, range_formula}
use Rattle.selection_definitions.specs.CombinationSums.{IsCombinationRefusal, combination_formula}
use Rattle.selection_definitions.specs.Refusals.{IsSelectionRefusal}
use Rattle.selection_definitions.specs.Making.{sum_with, range_steps, combination_steps, is_checked, column_steps, row_steps, selection_steps, is_made}

-- ---- steps that are checked

-- both parts are checked, and so is the whole
append-checked : (xs ys : List Step) → verdict_of xs ≡ Checked → verdict_of ys ≡ Checked → verdict_of (xs ++ ys) ≡ Checked
append-checked xs ys first second = verdict-append xs ys ∙ rw (first, second) refl

module _ {X : Type 0} (f : X → List Step) where
  -- the steps of each member of a list
  each_of : (xs : List X) → verdict_of (flat_map f xs) ≡ Checked → (place : ℕ) (x : X) → slice_get xs place ≡ Some x → verdict_of (f x) ≡ Checked
  each_of [] e place x is = cc
  each_of (y ∷ xs) e zero x is = let both = checked-append (f y) (flat_map f xs) e in ap (λ y. verdict_of (f y)) (sym (same_Some y x is)) ∙ both.0
  each_of (y ∷ xs) e (suc place) x is = let both = checked-append (f y) (flat_map f xs) e in each_of xs both.1 place x is

  all_of : (xs : List X) → ((place : ℕ) (x : X) → slice_get xs place ≡ Some x → verdict_of (f x) ≡ Checked) → verdict_of (flat_map f xs) ≡ Checked
  all_of [] each = refl
  all_of (y ∷ xs) each = append-checked (f y) (flat_map f xs) (each 0 y refl) (all_of xs (λ place x is. each (suc place) x is))

module _ {X : Type 0} where
  -- what stands at a place of a numbered list
  numbered : (first : ℕ) (xs : List X) (place : ℕ) (x : X) → slice_get xs place ≡ Some x → slice_get (enumerate_from first xs) place ≡ Some (first + place, x)
  numbered first [] place x is = cc
  numbered first (y ∷ xs) zero x is = λ i. Some (sym (add-zero first) i, same_Some y x is i)
  numbered first (y ∷ xs) (suc place) x is = numbered (first + 1) xs place x is ∙ ap (λ n. Some (n, x)) (omega arith)

  of_numbered : (first : ℕ) (xs : List X) (place : ℕ) (entry : ℕ × X) → slice_get (enumerate_from first xs) place ≡ Some entry →
      (entry.0 ≡ first + place) × (slice_get xs place ≡ Some entry.1)
  of_numbered first [] place entry is = cc
  of_numbered first (y ∷ xs) zero entry is =
      let same = same_Some (first, y) entry is in (ap (λ (e : ℕ × X). e.0) (sym same) ∙ sym (add-zero first), ap (λ (e : ℕ × X). Some e.1) same)
  of_numbered first (y ∷ xs) (suc place) entry is = let later = of_numbered (first + 1) xs place entry is in (omega (arith, later.0), later.1)

-- ---- one operation

-- an operation that is followed by others
made_first : (op : Op) (x y : ℚ) (steps : List Step) → verdict_of (operation op x y ∷ steps) ≡ Checked → (refuses op x y ≡ false) × (verdict_of steps ≡ Checked)
made_first op x y steps e = by (refuses op x y) e
  where
    by : (b : Bool) → (if b then Unchecked (record { op = op; left = x; right = y }) else verdict_of steps) ≡ Checked →
        (b ≡ false) × (verdict_of steps ≡ Checked)
    by true e = cc
    by false e = (refl, e)

pub make_first : (op : Op) (x y : ℚ) (steps : List Step) → refuses op x y ≡ false → verdict_of steps ≡ Checked → verdict_of (operation op x y ∷ steps) ≡ Checked
make_first op x y steps made rest = ap (λ b. if b then Unchecked (record { op = op; left = x; right = y }) else verdict_of steps) made ∙ rest

-- an operation that evidence shows to be refused isn't made
not_both : (e : Evidence) (op : Op) (x y : ℚ) → refuses op x y ≡ false → Refuses e op x y → ⊥
not_both e op x y made viewed = let refused = viewed.refused in cc

-- what isn't refused by any evidence is made
made_if_unshown : (op : Op) (x y : ℚ) → (IsTrue (refuses op x y) → ⊥) → refuses op x y ≡ false
made_if_unshown op x y unshown = by (refuses op x y) unshown
  where
    by : (b : Bool) → (IsTrue b → ⊥) → b ≡ false
    by true off = absurd (off (cc))
    by false off = refl

-- ---- sums of products

-- each product and each sum of those before with it
sum_made : (start : ℚ) (ts : List Product) → verdict_of (sum_steps start ts) ≡ Checked → (term : ℕ) (product : Product) → slice_get ts term ≡ Some product →
    (refuses Mul product.left product.right ≡ false) × (refuses Add (sum_of start (take term ts)) (product_of product) ≡ false)
sum_made start [] e term product is = cc
sum_made start (t ∷ ts) e zero product is =
    let multiplied = made_first Mul t.left t.right (operation Add start (product_of t) ∷ sum_steps (start +ℚ product_of t) ts) e in
    let added = made_first Add start (product_of t) (sum_steps (start +ℚ product_of t) ts) multiplied.1 in
    subst (λ (t : Product). (refuses Mul t.left t.right ≡ false) × (refuses Add start (product_of t) ≡ false)) (same_Some t product is) (multiplied.0, added.0)
sum_made start (t ∷ ts) e (suc term) product is =
    let multiplied = made_first Mul t.left t.right (operation Add start (product_of t) ∷ sum_steps (start +ℚ product_of t) ts) e in
    let added = made_first Add start (product_of t) (sum_steps (start +ℚ product_of t) ts) multiplied.1 in
    sum_made (start +ℚ product_of t) ts added.1 term product is

make_sum : (start : ℚ) (ts : List Product) →
    ((term : ℕ) (product : Product) → slice_get ts term ≡ Some product →
    (refuses Mul product.left product.right ≡ false) × (refuses Add (sum_of start (take term ts)) (product_of product) ≡ false)) →
    verdict_of (sum_steps start ts) ≡ Checked
make_sum start [] each = refl
make_sum start (t ∷ ts) each =
    let here = each 0 t refl in
    make_first Mul t.left t.right (operation Add start (product_of t) ∷ sum_steps (start +ℚ product_of t) ts) here.0
    (make_first Add start (product_of t) (sum_steps (start +ℚ product_of t) ts) here.1
    (make_sum (start +ℚ product_of t) ts (λ term product is. each (suc term) product is)))

checked_if : (v : Verdict) → is_checked v ≡ true → v ≡ Checked
checked_if Checked e = refl
checked_if (Failed part number) e = cc
checked_if (Unchecked refused) e = cc

module _ (problem : Problem ℕ) (choice : Choice) where
  abbrev row_part : ℕ × Row ℕ → List Step
  row_part row = range_steps row.1.kind (rhs_of problem choice row.0) (range_of problem choice row.0)

  abbrev column_part : Group (Entry ℕ) → ℕ × Row ℕ → List Step
  column_part column row = combination_steps (take row.0 problem.rows) column.items row.1.parts

  -- it is made where what each row makes is checked, and what each row makes in each column
  pub made_by_parts :
      ((place : ℕ) (row : Row ℕ) → slice_get problem.rows place ≡ Some row →
      verdict_of (range_steps row.kind (rhs_of problem choice (place + 1)) (range_of problem choice (place + 1))) ≡ Checked) →
      ((column_place : ℕ) (column : Group (Entry ℕ)) → slice_get problem.columns column_place ≡ Some column → (place : ℕ) (row : Row ℕ) →
      slice_get problem.rows place ≡ Some row →
      verdict_of (combination_steps (take place problem.rows) column.items row.parts) ≡ Checked) →
      is_made problem choice ≡ true
  unfolding is_made
  made_by_parts each_row each_column =
      ap is_checked (append-checked (row_steps problem choice) (flat_map (column_steps problem) problem.columns) rows_made columns_made)
    where
      rows_made : verdict_of (row_steps problem choice) ≡ Checked
      rows_made = all_of row_part (enumerate_from 1 problem.rows) (λ place entry is.
          let at = of_numbered 1 problem.rows place entry is in
          let number : place + 1 ≡ entry.0 = omega (arith, at.0) in
          subst (λ n. verdict_of (range_steps entry.1.kind (rhs_of problem choice n) (range_of problem choice n)) ≡ Checked) number
          (each_row place entry.1 at.1))

      columns_made : verdict_of (flat_map (column_steps problem) problem.columns) ≡ Checked
      columns_made =
          all_of (column_steps problem) problem.columns
          (λ column_place column is_column. all_of (column_part column) (enumerate_from 0 problem.rows) (λ place entry is.
          let at = of_numbered 0 problem.rows place entry is in
          let number : place ≡ entry.0 = omega (arith, at.0) in
          subst (λ n. verdict_of (combination_steps (take n problem.rows) column.items entry.1.parts) ≡ Checked) number
          (each_column column_place column is_column place entry.1 at.1)))

  -- ---- where it is made, nothing is shown to be refused

  no_range : verdict_of (row_steps problem choice) ≡ Checked → (e : Evidence) → IsRangeRefusal problem choice e → ⊥
  no_range made e viewed =
      not_both e viewed.op (rhs_of problem choice (viewed.place + 1)) (magnitude viewed.range)
      (made_first viewed.op (rhs_of problem choice (viewed.place + 1)) (magnitude viewed.range) [] one).0 viewed.refuses
    where
      at_row : verdict_of (range_steps viewed.row.kind (rhs_of problem choice (1 + viewed.place)) (range_of problem choice (1 + viewed.place))) ≡ Checked
      at_row =
          each_of row_part (enumerate_from 1 problem.rows) made viewed.place (1 + viewed.place, viewed.row)
          (numbered 1 problem.rows viewed.place viewed.row viewed.is_row)

      swap : 1 + viewed.place ≡ viewed.place + 1
      swap = omega arith

      one : verdict_of (operation viewed.op (rhs_of problem choice (viewed.place + 1)) (magnitude viewed.range) ∷ []) ≡ Checked
      one =
          subst (λ o. verdict_of (sum_with o (rhs_of problem choice (viewed.place + 1)) viewed.range) ≡ Checked) viewed.is_op
          (subst (λ o. verdict_of (range_steps viewed.row.kind (rhs_of problem choice (viewed.place + 1)) o) ≡ Checked) viewed.has_range
          (subst (λ n. verdict_of (range_steps viewed.row.kind (rhs_of problem choice n) (range_of problem choice n)) ≡ Checked) swap at_row))

  no_combination : verdict_of (flat_map (column_steps problem) problem.columns) ≡ Checked → (e : Evidence) → IsCombinationRefusal problem e → ⊥
  no_combination made e viewed = by viewed.refuses
    where
      at_column : verdict_of (column_steps problem viewed.column) ≡ Checked
      at_column = each_of (column_steps problem) problem.columns made viewed.column_place viewed.column viewed.is_column

      at_row : verdict_of (column_part viewed.column (0 + viewed.place, viewed.row)) ≡ Checked
      at_row =
          each_of (column_part viewed.column) (enumerate_from 0 problem.rows) at_column viewed.place (0 + viewed.place, viewed.row)
          (numbered 0 problem.rows viewed.place viewed.row viewed.is_row)

      zero_first : 0 + viewed.place ≡ viewed.place
      zero_first = omega arith

      sum : verdict_of (sum_steps zero_ℚ viewed.products) ≡ Checked
      sum =
          subst (λ ts. verdict_of (sum_steps zero_ℚ ts) ≡ Checked) (sym viewed.are_products)
          (subst (λ o. verdict_of (combination_steps (take viewed.place problem.rows) viewed.column.items o) ≡ Checked) viewed.is_combination
          (subst (λ n. verdict_of (combination_steps (take n problem.rows) viewed.column.items viewed.row.parts) ≡ Checked) zero_first at_row))

      by : Refuses e Mul viewed.product.left viewed.product.right ⊎ Refuses e Add (sum_of zero_ℚ (take viewed.term viewed.products))
          (product_of viewed.product) → ⊥
      by (inl refused) =
          not_both e Mul viewed.product.left viewed.product.right (sum_made zero_ℚ viewed.products sum viewed.term viewed.product viewed.is_product).0 refused
      by (inr refused) =
          not_both e Add (sum_of zero_ℚ (take viewed.term viewed.products)) (product_of viewed.product)
          (sum_made zero_ℚ viewed.products sum viewed.term viewed.product viewed.is_product).1 refused

  to : is_made problem choice ≡ true → (e : Evidence) → IsSelectionRefusal problem choice e → ⊥
  unfolding is_made
  to made e viewed = by viewed
    where
      both : (verdict_of (row_steps problem choice) ≡ Checked) × (verdict_of (flat_map (column_steps problem) problem.columns) ≡ Checked)
      both =
          checked-append (row_steps problem choice) (flat_map (column_steps problem) problem.columns)
          (checked_if (verdict_of (selection_steps problem choice)) made)

      by : IsSelectionRefusal problem choice e → ⊥
      by (inl refused) = no_range both.0 e refused
      by (inr refused) = no_combination both.1 e refused

  -- ---- where nothing can be shown to be refused, it is made

  module _ (unshown : (e : Evidence) → IsSelectionRefusal problem choice e → ⊥) where
    abbrev evidence : ℕ → ℕ → ℕ → ℕ → Op → ℚ → ℚ → Evidence
    evidence formula i j term op x y =
        record { formula = formula; way = 0; p = 0; q = 0; i = i; j = j; term = term; theta = zero_ℚ; refused = record { op = op; left = x; right = y } }

    range_made : (place : ℕ) (row : Row ℕ) → slice_get problem.rows place ≡ Some row →
        verdict_of (range_steps row.kind (rhs_of problem choice (place + 1)) (range_of problem choice (place + 1))) ≡ Checked
    range_made place row is_row = by (range_of problem choice (place + 1)) refl
      where
        with_op : (range : ℚ) → range_of problem choice (place + 1) ≡ Some range → (o : Option Op) → range_operation row.kind range ≡ o →
            verdict_of (sum_with o (rhs_of problem choice (place + 1)) range) ≡ Checked
        with_op range has None is_op = refl
        with_op range has (Some op) is_op = make_first op (rhs_of problem choice (place + 1)) (magnitude range) []
            (made_if_unshown op (rhs_of problem choice (place + 1)) (magnitude range) (λ refused.
            unshown (evidence range_formula (place + 1) 0 0 op (rhs_of problem choice (place + 1)) (magnitude range)) (inl (record {
              place = place;
              row = row;
              is_row = is_row;
              range = range;
              has_range = has;
              op = op;
              is_op = is_op;
              names = record { is_formula = refl; is_p = refl; is_q = refl; is_i = refl; is_j = refl; is_term = refl };
              refuses = record { is_op = refl; is_left = refl; is_right = refl; refused = refused };
              no_way = refl;
              no_theta = refl;
            })))) refl

        by : (o : Option ℚ) → range_of problem choice (place + 1) ≡ o → verdict_of (range_steps row.kind (rhs_of problem choice (place + 1)) o) ≡ Checked
        by None has = refl
        by (Some range) has = with_op range has (range_operation row.kind range) refl

    module _ (column_place : ℕ) (column : Group (Entry ℕ)) (is_column : slice_get problem.columns column_place ≡ Some column) (place : ℕ) (row : Row ℕ)
        (is_row : slice_get problem.rows place ≡ Some row) where
      combination_made : (o : Option (List (Entry ℕ))) → row.parts ≡ o → verdict_of (combination_steps (take place problem.rows) column.items o) ≡ Checked
      combination_made None is = refl
      combination_made (Some parts) is = make_sum zero_ℚ products (λ term product is_product. (
        made_if_unshown Mul product.left product.right (λ refused.
            shows term product is_product
            (evidence combination_formula (place + 1) (length problem.rows + (column_place + 1)) term Mul product.left product.right)
            (record { is_formula = refl; is_p = refl; is_q = refl; is_i = refl; is_j = refl; is_term = refl }) refl refl
            (inl (record { is_op = refl; is_left = refl; is_right = refl; refused = refused }))),
        made_if_unshown Add (sum_of zero_ℚ (take term products)) (product_of product) (λ refused.
            shows term product is_product
            (evidence combination_formula (place + 1) (length problem.rows + (column_place + 1)) term Add (sum_of zero_ℚ (take term products))
            (product_of product))
            (record { is_formula = refl; is_p = refl; is_q = refl; is_i = refl; is_j = refl; is_term = refl }) refl refl
            (inr (record { is_op = refl; is_left = refl; is_right = refl; refused = refused }))),
      ))
        where
          products : List Product
          products = part_products parts (column_values (take place problem.rows) column.items)

          shows : (term : ℕ) (product : Product) → slice_get products term ≡ Some product → (e : Evidence) →
              Names e combination_formula 0 0 (place + 1) (length problem.rows + (column_place + 1)) term →
              e.way ≡ 0 → e.theta ≡ zero_ℚ →
              Refuses e Mul product.left product.right ⊎ Refuses e Add (sum_of zero_ℚ (take term products)) (product_of product) → ⊥
          shows term product is_product e names no_way no_theta refuses = unshown e (inr (record {
            place = place;
            row = row;
            is_row = is_row;
            parts = parts;
            is_combination = is;
            column_place = column_place;
            column = column;
            is_column = is_column;
            products = products;
            are_products = refl;
            term = term;
            product = product;
            is_product = is_product;
            names = names;
            refuses = refuses;
            no_way = no_way;
            no_theta = no_theta;
          }))

    pub made_if_none : is_made problem choice ≡ true
    made_if_none =
        made_by_parts range_made
        (λ column_place column is_column place row is_row. combination_made column_place column is_column place row is_row row.parts refl)

pub made_iff : (problem : Problem ℕ) (choice : Choice) → (is_made problem choice ≡ true) ↔ ((e : Evidence) → IsSelectionRefusal problem choice e → ⊥)
made_iff problem choice = (to problem choice, made_if_none problem choice)
