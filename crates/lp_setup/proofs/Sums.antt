-- The sum of a combination's parts, one part after the other.
use Rattle.std.proofs.Common.{◌≡◌, ℕ, suc, ◌+◌, ◌<◌, ◌≤◌, ◌⊎◌, inl, inr, Bool, true, false, ◌||◌, List, [], ◌∷◌, ◌++◌, Option, Some, None, length, map, take}
use Rattle.std.proofs.Common.{drop, get_or, refl, ap, sym, ◌∙◌, subst, arith, length-append, length-take, take-append-drop, unwrap_or, eqb}
use Rattle.std.specs.List.{AllByRecursion, cons_option, slice_get, list_any}
use Rattle.std.proofs.Math.Seq.{take-append_seam, drop-cons}
use Rattle.std.proofs.lemmas.List.{take_more, append-nil, length-map}
use Rattle.std.proofs.lemmas.List.Elements.{filter_map-append}
use Rattle.std.proofs.lemmas.Map.Steps.{length-le_from_distinct_below}
use Rattle.std.proofs.lemmas.Bool.{eqb-true}
use Rattle.exact_values.specs.Rational.{ℚ, zero_ℚ, ◌+ℚ◌}
use Rattle.frac128.specs.declared.Op.{Op}
use Rattle.frac128.specs.declared.Op.TheVariants.{Add, Mul}
use Rattle.frac128.specs.declared.Refused.{Refused}
use Rattle.frac128.specs.Operations.{refuses}
use Rattle.lp_definitions.specs.declared.Evidence.{Evidence}
use Rattle.lp_definitions.specs.RatesEvidence.{Names, Refuses}
use Rattle.check_definitions.specs.Steps.{Step, operation, verdict_of, followed_by, Product, product_of, sum_steps, sum_of}
use Rattle.check_definitions.proofs.Passing.{verdict-append}
use Rattle.problem_definitions.specs.Problem.{Entry}
use Rattle.problem_definitions.specs.Valid.{IsNumberOf, AreEntries}
use Rattle.problem_definitions.proofs.Each.{all-each}
use Rattle.selection_definitions.specs.Combinations.{part_product, part_products, sum_if_any}
use Rattle.selection_definitions.specs.CombinationSums.{combination_formula}
use Rattle.selection_definitions.proofs.Making.{make_first}
use Rattle.selection_laws.proofs.Columns.{sum-if-any}
use Rattle.lp_setup.specs.declared.combined.Total.{Total}
use Rattle.lp_setup.specs.declared.combined.RefusedPart.{RefusedPart}
use Rattle.lp_setup.specs.Parts.{IsSumRefusal}
use Rattle.lp_setup.specs.Combined.{IsTotal, IsAdded, IsTotalWith, IsRefusedWith, IsRefusedPart, IsTermRefusal}

-- ---- a product more

-- a sum of one product more
sum-more : (start : ℚ) (ts : List Product) (t : Product) → sum_of start (ts ++ t ∷ []) ≡ sum_of start ts +ℚ product_of t
sum-more start [] t = refl
sum-more start (u ∷ ts) t = sum-more (start +ℚ product_of u) ts t

steps-more : (start : ℚ) (ts : List Product) (t : Product) →
    sum_steps start (ts ++ t ∷ []) ≡ sum_steps start ts ++ operation Mul t.left t.right ∷ operation Add (sum_of start ts) (product_of t) ∷ []
steps-more start [] t = refl
steps-more start (u ∷ ts) t =
    ap (λ (steps : List Step). operation Mul u.left u.right ∷ operation Add start (product_of u) ∷ steps) (steps-more (start +ℚ product_of u) ts t)

some-sum : (ts : List Product) (t : Product) → sum_if_any (ts ++ t ∷ []) ≡ Some (sum_of zero_ℚ (ts ++ t ∷ []))
some-sum [] t = refl
some-sum (u ∷ ts) t = refl

-- the sum so far, begun with 0
sum-so-far : (done : List Product) (total : Total) → IsTotal done total → unwrap_or total.sum zero_ℚ ≡ sum_of zero_ℚ done
sum-so-far done total h = ap (λ s. unwrap_or s zero_ℚ) h.is_sum ∙ sum-if-any done

total-more : (done : List Product) (total next : Total) (product : Product) → IsTotal done total → IsAdded total product next →
    IsTotal (done ++ product ∷ []) next
total-more done total next product h added = record {
  is_sum =
      added.is_sum ∙ ap (λ s. Some (s +ℚ product_of product)) (sum-so-far done total h) ∙ ap Some (sym (sum-more zero_ℚ done product))
      ∙ sym (some-sum done product);
  is_count = added.is_count ∙ ap (λ n. n + 1) h.is_count ∙ sym (length-append done (product ∷ []));
  is_made =
      ap verdict_of (steps-more zero_ℚ done product)
      ∙ verdict-append (sum_steps zero_ℚ done) (operation Mul product.left product.right ∷ operation Add (sum_of zero_ℚ done) (product_of product) ∷ [])
      ∙ ap (λ v. followed_by v (verdict_of (operation Mul product.left product.right ∷ operation Add (sum_of zero_ℚ done) (product_of product) ∷ []))) h.is_made
      ∙ make_first Mul product.left product.right (operation Add (sum_of zero_ℚ done) (product_of product) ∷ []) added.product_made
      (make_first Add (sum_of zero_ℚ done) (product_of product) []
      (subst (λ s. refuses Add s (product_of product) ≡ false) (sum-so-far done total h) added.sum_made) refl);
}

-- ---- a part more

module _ (parts : List (Entry ℕ)) (values : List (Option ℚ)) (i : ℕ) (part : Entry ℕ) (below : i < length parts) (is : part ≡ get_or parts i part) where
  products-more : part_products (take (i + 1) parts) values ≡ part_products (take i parts) values ++ cons_option (part_product values part) []
  products-more =
      ap (λ ps. part_products ps values) (take_more parts i part below)
      ∙ filter_map-append (part_product values) (take i parts) (get_or parts i part ∷ [])
      ∙ ap (λ p. part_products (take i parts) values ++ cons_option (part_product values p) []) (sym is)

  pub total_step : (total next : Total) → IsTotal (part_products (take i parts) values) total → IsTotalWith total (part_product values part) next →
      IsTotal (part_products (take (i + 1) parts) values) next
  total_step total next h with_part = subst (λ done. IsTotal done next) (sym products-more) (by (part_product values part) with_part)
    where
      by : (o : Option Product) → IsTotalWith total o next → IsTotal (part_products (take i parts) values ++ cons_option o []) next
      by None same =
          subst (λ done. IsTotal done next) (sym (append-nil (part_products (take i parts) values)))
          (subst (IsTotal (part_products (take i parts) values)) (sym same) h)
      by (Some product) added = total-more (part_products (take i parts) values) total next product h added

  -- the products before a part's, and those from it on
  products-around : part_products parts values ≡ part_products (take i parts) values ++ cons_option (part_product values part)
      (part_products (drop (i + 1) parts) values)
  products-around =
      ap (λ ps. part_products ps values) (sym (take-append-drop i parts))
      ∙ filter_map-append (part_product values) (take i parts) (drop i parts)
      ∙ ap (λ ps. part_products (take i parts) values ++ part_products ps values) (drop-cons parts i part below)
      ∙ ap (λ p. part_products (take i parts) values ++ cons_option (part_product values p) (part_products (drop (suc i) parts) values)) (sym is)
      ∙ ap (λ n. part_products (take i parts) values ++ cons_option (part_product values part) (part_products (drop n parts) values)) next
    where
      next : suc i ≡ i + 1
      next = omega arith

  pub refused_at : (total : Total) (refused : RefusedPart) → IsTotal (part_products (take i parts) values) total →
      IsRefusedWith total (part_product values part) refused → IsRefusedPart (part_products parts values) refused
  refused_at total refused h at = by (part_product values part) products-around at
    where
      done : List Product
      done = part_products (take i parts) values

      by : (o : Option Product) → part_products parts values ≡ done ++ cons_option o (part_products (drop (i + 1) parts) values) →
          IsRefusedWith total o refused → IsRefusedPart (part_products parts values) refused
      by None around at = absurd at
      by (Some product) around at = record {
        product = product;
        is_product = ap (slice_get (part_products parts values)) term ∙ ap (λ ps. slice_get ps (length done)) around ∙ there done;
        refuses =
            subst (λ s. IsSumRefusal Mul product.left product.right refused.refused ⊎ IsSumRefusal Add s (product_of product) refused.refused) sum at.refuses;
      }
        where
          rest : List Product
          rest = part_products (drop (i + 1) parts) values

          term : refused.term ≡ length done
          term = at.is_term ∙ h.is_count

          there : (before : List Product) → slice_get (before ++ product ∷ rest) (length before) ≡ Some product
          there [] = refl
          there (t ∷ before) = there before

          sum : unwrap_or total.sum zero_ℚ ≡ sum_of zero_ℚ (take refused.term (part_products parts values))
          sum =
              sum-so-far done total h
              ∙ ap (sum_of zero_ℚ)
              (sym (ap (λ n. take n (part_products parts values)) term ∙ ap (take (length done)) around ∙ take-append_seam done (product ∷ rest)))

-- ---- how many there are

fewer-products : (parts : List (Entry ℕ)) (values : List (Option ℚ)) → length (part_products parts values) ≤ length parts
fewer-products [] values = omega arith
fewer-products (part ∷ parts) values = by (part_product values part) (fewer-products parts values)
  where
    by : (o : Option Product) → length (part_products parts values) ≤ length parts → length (cons_option o (part_products parts values)) ≤ suc (length parts)
    by None fewer = omega (arith, fewer)
    by (Some product) fewer = omega (arith, fewer)

rows-below : (n : ℕ) (parts : List (Entry ℕ)) → AllByRecursion (λ (part : Entry ℕ). IsNumberOf n part.row) parts → (q : ℕ) →
    list_any (eqb q) (map (λ (part : Entry ℕ). part.row) parts) ≡ true → q < n + 1
rows-below n [] on_rows q there = absurd (cc there)
rows-below n (part ∷ parts) on_rows q there = by (eqb q part.row) refl there (rows-below n parts on_rows.1 q)
  where
    by : (b : Bool) → eqb q part.row ≡ b → (b || list_any (eqb q) (map (λ (part : Entry ℕ). part.row) parts)) ≡ true →
        (list_any (eqb q) (map (λ (part : Entry ℕ). part.row) parts) ≡ true → q < n + 1) → q < n + 1
    by true same h later = let is : q ≡ part.row = eqb-true q part.row same in omega (arith, is, on_rows.0.at_most)
    by false apart h later = later h

few-parts : (n : ℕ) (parts : List (Entry ℕ)) → AreEntries n parts → length parts ≤ n + 1
few-parts n parts are =
    let counted : length (map (λ (part : Entry ℕ). part.row) parts) ≡ length parts = length-map parts (λ (part : Entry ℕ). part.row) in
    let few : length (map (λ (part : Entry ℕ). part.row) parts) ≤ n + 1 =
    length-le_from_distinct_below (map (λ (part : Entry ℕ). part.row) parts) (n + 1) are.distinct
    (rows-below n parts (all-each (λ (part : Entry ℕ). IsNumberOf n part.row) parts are.on_rows)) in
    omega (arith, counted, few)

-- there is room for one term more
pub room : (n : ℕ) (parts : List (Entry ℕ)) (values : List (Option ℚ)) (i : ℕ) (total : Total) → AreEntries n parts → n ≤ 1000 →
    IsTotal (part_products (take i parts) values) total → total.terms < 4294967295
room n parts values i total are small h =
    let taken : length (take i parts) ≤ length parts = omega (arith, length-take i parts) in
    omega (arith, small, h.is_count, fewer-products (take i parts) values, taken, few-parts n parts are)

-- ---- evidence

refuses_of : (e : Evidence) (op : Op) (left right : ℚ) (refused : Refused) → e.refused ≡ refused → IsSumRefusal op left right refused → Refuses e op left right
refuses_of e op left right refused is h = record {
  is_op = ap (λ (r : Refused). r.op) is ∙ h.is_op;
  is_left = ap (λ (r : Refused). r.left) is ∙ h.is_left;
  is_right = ap (λ (r : Refused). r.right) is ∙ h.is_right;
  refused = h.is_refused;
}

pub term_refusal : (products : List Product) (place number : ℕ) (e : Evidence) (refused : RefusedPart) → IsRefusedPart products refused
    → Names e combination_formula 0 0 (place + 1) number refused.term → e.refused ≡ refused.refused
    → e.way ≡ 0 → e.theta ≡ zero_ℚ → IsTermRefusal products place number e
term_refusal products place number e refused h names is no_way no_theta = record {
  term = refused.term;
  product = h.product;
  is_product = h.is_product;
  names = names;
  refuses = by h.refuses;
  no_way = no_way;
  no_theta = no_theta;
}
  where
    by : IsSumRefusal Mul h.product.left h.product.right refused.refused ⊎ IsSumRefusal Add (sum_of zero_ℚ (take refused.term products))
        (product_of h.product) refused.refused
        → Refuses e Mul h.product.left h.product.right ⊎ Refuses e Add (sum_of zero_ℚ (take refused.term products)) (product_of h.product)
    by (inl product) = inl (refuses_of e Mul h.product.left h.product.right refused.refused is product)
    by (inr sum) = inr (refuses_of e Add (sum_of zero_ℚ (take refused.term products)) (product_of h.product) refused.refused is sum)
