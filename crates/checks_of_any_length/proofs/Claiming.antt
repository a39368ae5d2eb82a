-- What is shown of claims, where no operation is refused.
use Rattle.std.proofs.Common.{◌≡◌, ℕ, List, [], ◌∷◌, ◌++◌, map, Bool, true, false, refl, sym, ap, subst, ◌∙◌, Option, Some, None}
use Rattle.std.specs.Prelude.{IsTrue, ◌↔◌, ◌&&◌}
use Rattle.std.specs.declared.cmp.Ordering.{Ordering}
use Rattle.std.specs.declared.cmp.Ordering.TheVariants.{Less, Equal, Greater}
use Rattle.exact_values.specs.Rational.{ℚ, zero_ℚ, ◌+ℚ◌, ◌*ℚ◌}
use Rattle.exact_values.specs.Tests.{is_less, lt_ℚ, eq_ℚ, le_ℚ}
use Rattle.lp_definitions.specs.LinearProgram.{LinearProgram, Vector, value_at, for_min, objective_value, lower_of, upper_of}
use Rattle.check_definitions.specs.declared.Verdict.{Verdict}
use Rattle.check_definitions.specs.Steps.{Step, AllHold, of_any_length, verdict_by, followed_by, in_turn, sum_steps, sum_of}
use Rattle.check_definitions.specs.Checks.{equations, feasible_point, free_direction, improving, combined_steps, ray_columns, ray_limits, ray_sum, multiplied}
use Rattle.check_definitions.specs.Checks.{limit_product, is_crossed, crossed_steps, infeasible_steps, unbounded_steps}
use Rattle.check_definitions.proofs.Holding.{hold-append, hold_checked}
use Rattle.question_definitions.specs.Answers.{Sheet, Changing}
use Rattle.answer_definitions.specs.ParametricRuns.{family_of}
use Rattle.walk_definitions.specs.Checkers.{checker_of_any_length}
use Rattle.walk_definitions.specs.Tests.{asked, making_steps, past_test, unbounded_past, infeasible_past, shift_products}
use Rattle.listing_claims.specs.declared.claims.Claim.{Claim}
use Rattle.listing_claims.specs.declared.claims.Pair.{Pair}
use Rattle.listing_claims.specs.Claims.{pair_test, claim_test, opening_test}
use Rattle.long_programs.specs.declared.programs.ChangeAt.{ChangeAt}
use Rattle.long_programs.specs.declared.programs.ChangeAt.TheVariants.{Unchanged, Row, Set}
use Rattle.long_programs.specs.Programs.{program_of}
use Rattle.long_points.specs.Tests.{not_above_by}
use Rattle.long_points.proofs.Holds.{append_hold, both_hold, change_holds, sums_hold}
use Rattle.long_points.proofs.Orders.{not_above_is}
use Rattle.long_rays.specs.Tests.{SumsTo}
use Rattle.long_solutions.specs.Answers.{Answers}
use Rattle.long_solutions.proofs.Answered.{answers_of, both_answer, last_answers, after_checked, asked_answers}
use Rattle.long_solutions.proofs.Ends.{making_hold}
use Rattle.checks_of_any_length.specs.Orders.{negative_by, at_most_by, improves_past}

-- ---- what theta doesn't move

pub columns_at : (p : LinearProgram) (change : ChangeAt) (x : ℚ) (w : Vector) → ray_columns p w ≡ ray_columns (program_of p change x) w
columns_at p Unchanged x w = refl
columns_at p (Row h) x w = refl
columns_at p (Set shift) x w = refl

pub objective_row : (p : LinearProgram) (change : ChangeAt) (x : ℚ) → p.objective ≡ (program_of p change x).objective
objective_row p Unchanged x = refl
objective_row p (Row h) x = refl
objective_row p (Set shift) x = refl

-- ---- rays

module _ (q : LinearProgram) (w : Vector) where
  abbrev limits : List Step
  limits = ray_limits q w zero_ℚ (multiplied q w)

  abbrev total : ℚ
  total = sum_of zero_ℚ (map (limit_product q w) (multiplied q w))

  negative_shown : (order : Option Ordering) → SumsTo q w order → IsTrue (negative_by order) ↔ AllHold (limits ++ ray_sum q w)
  negative_shown None s = ((λ e. cc), (λ h. absurd (s (hold-append limits (ray_sum q w) h).0)))
  negative_shown (Some Less) s = ((λ e. append_hold limits (ray_sum q w) s.0 (ap is_less (sym s.1), tt)), (λ h. refl))
  negative_shown (Some Equal) s = ((λ e. cc), (λ h. ap is_less s.1 ∙ (hold-append limits (ray_sum q w) h).1.0))
  negative_shown (Some Greater) s = ((λ e. cc), (λ h. ap is_less s.1 ∙ (hold-append limits (ray_sum q w) h).1.0))

  pub ray_shown : (order : Option Ordering) (vanishes result : Bool) → SumsTo q w order → IsTrue vanishes ↔ AllHold (ray_columns q w) →
      result ≡ (vanishes && negative_by order) → IsTrue result ↔ AllHold (infeasible_steps q w)
  ray_shown order vanishes result sums columns is =
      subst (λ (b : Bool). IsTrue b ↔ AllHold (infeasible_steps q w)) (sym is)
      (both_hold vanishes (negative_by order) (ray_columns q w) (limits ++ ray_sum q w) columns (negative_shown order sums))

  at_most_is : (o : Ordering) → at_most_by (Some o) ≡ not_above_by (Some o)
  at_most_is Less = refl
  at_most_is Equal = refl
  at_most_is Greater = refl

  -- the limits are met, their products add up to no more than 0, and so on
  pub limits_answer : (order : Option Ordering) (rest : Bool) (v : Verdict) → SumsTo q w order → Answers rest v →
      Answers (at_most_by order && rest) (followed_by (verdict_by of_any_length limits) (followed_by (asked (le_ℚ total zero_ℚ)) v))
  limits_answer None rest v s h =
      both_answer false (le_ℚ total zero_ℚ && rest) (verdict_by of_any_length limits) _ (answers_of false limits ((λ e. cc), (λ h. absurd (s h))))
      (both_answer (le_ℚ total zero_ℚ) rest (asked (le_ℚ total zero_ℚ)) v (asked_answers (le_ℚ total zero_ℚ)) h)
  limits_answer (Some o) rest v s h =
      let within : le_ℚ total zero_ℚ ≡ at_most_by (Some o) =
      sym (at_most_is o ∙ ap (λ (o : Ordering). not_above_by (Some o)) s.1 ∙ not_above_is (Some zero_ℚ) total) in
      subst (λ (b : Bool). Answers (b && rest) (followed_by (verdict_by of_any_length limits) (followed_by (asked (le_ℚ total zero_ℚ)) v))) within
      (both_answer true (le_ℚ total zero_ℚ && rest) (verdict_by of_any_length limits) _ (answers_of true limits ((λ e. s.0), (λ h. refl)))
      (both_answer (le_ℚ total zero_ℚ) rest (asked (le_ℚ total zero_ℚ)) v (asked_answers (le_ℚ total zero_ℚ)) h))

-- ---- directions

module _ (q : LinearProgram) (d : Vector) where
  improving_shown : (improves : Bool) → improves ≡ lt_ℚ (for_min q.sense (objective_value q d)) zero_ℚ → IsTrue improves ↔ AllHold (improving q d)
  improving_shown improves is = (
    (λ e. append_hold (combined_steps q d) _ (change_holds q.change d (d q.objective)) (sym is ∙ e, tt)),
    (λ h. is ∙ (hold-append (combined_steps q d) _ h).1.0),
  )

  pub direction_shown : (keeps free improves result : Bool) → IsTrue keeps ↔ AllHold (equations q 3 d) → IsTrue free ↔ AllHold (free_direction q d) →
      improves ≡ lt_ℚ (for_min q.sense (objective_value q d)) zero_ℚ →
      result ≡ (keeps && (free && improves)) → IsTrue result ↔ AllHold (equations q 3 d ++ (free_direction q d ++ improving q d))
  direction_shown keeps free improves result keep limits improve is =
      subst (λ (b : Bool). IsTrue b ↔ AllHold (equations q 3 d ++ (free_direction q d ++ improving q d))) (sym is)
      (both_hold keeps (free && improves) (equations q 3 d) (free_direction q d ++ improving q d) keep
      (both_hold free improves (free_direction q d) (improving q d) limits (improving_shown improves improve)))

pub pair_shown : (q : LinearProgram) (objective : ℚ) (pair : Pair) (begins goes_on is_value result : Bool) →
    IsTrue begins ↔ AllHold (feasible_point q (value_at pair.point.items)) →
    IsTrue goes_on ↔ AllHold
    (equations q 3 (value_at pair.direction.items) ++ (free_direction q (value_at pair.direction.items) ++ improving q (value_at pair.direction.items))) →
    is_value ≡ eq_ℚ objective (value_at pair.point.items q.objective) → result ≡ ((begins && goes_on) && is_value) →
    Answers result (pair_test checker_of_any_length q objective pair)
pair_shown q objective pair begins goes_on is_value result point direction value is =
    let z : Vector = value_at pair.point.items in
    let d : Vector = value_at pair.direction.items in
    let same : Bool = eq_ℚ objective (z q.objective) in
    subst (λ (b : Bool). Answers b (pair_test checker_of_any_length q objective pair)) (sym is)
    (both_answer (begins && goes_on) is_value (verdict_by of_any_length (unbounded_steps q z d)) _
    (answers_of (begins && goes_on) (unbounded_steps q z d)
    (both_hold begins goes_on (feasible_point q z) (equations q 3 d ++ (free_direction q d ++ improving q d)) point direction))
    (last_answers is_value (asked same) (subst (λ (b : Bool). Answers b (asked same)) (sym value) (asked_answers same))))

pub crossed_shown : (q : LinearProgram) (k : ℕ) (b : Bool) → b ≡ is_crossed (lower_of q k) (upper_of q k) →
    Answers b (verdict_by of_any_length (crossed_steps q k))
crossed_shown q k b is = answers_of b (crossed_steps q k) ((λ e. (sym is ∙ e, tt)), (λ h. is ∙ h.0))

-- the linear program at the first value is made, and the claim is tested on it
pub opening_shown : (sheet : Sheet) (changing : Changing) (from : ℚ) (q : LinearProgram) (claim : Claim) (b : Bool) → family_of sheet changing from ≡ q →
    Answers b (claim_test checker_of_any_length q claim) →
    Answers b (opening_test checker_of_any_length sheet changing from claim)
opening_shown sheet changing from q claim b family h =
    after_checked b (verdict_by of_any_length (making_steps sheet changing from)) _
    (hold_checked (making_steps sheet changing from) (making_hold sheet changing from))
    (last_answers b _ (subst (λ (q : LinearProgram). Answers b (claim_test checker_of_any_length q claim)) (sym family) h))

-- ---- closings

pub ends_shown : (t last most : ℚ) (holds : Bool) → holds ≡ (eq_ℚ t last && eq_ℚ t most) →
    Answers holds (in_turn (asked (eq_ℚ t last) ∷ asked (eq_ℚ t most) ∷ []))
ends_shown t last most holds is =
    subst (λ (b : Bool). Answers b (in_turn (asked (eq_ℚ t last) ∷ asked (eq_ℚ t most) ∷ []))) (sym is)
    (both_answer (eq_ℚ t last) (eq_ℚ t most) (asked (eq_ℚ t last)) _ (asked_answers (eq_ℚ t last))
    (last_answers (eq_ℚ t most) (asked (eq_ℚ t most)) (asked_answers (eq_ℚ t most))))

and_assoc : (a b c : Bool) → ((a && b) && c) ≡ (a && (b && c))
and_assoc true b c = refl
and_assoc false b c = refl

pub past_shown : (most last t : ℚ) (past shown result : Bool) (proof : Verdict) → past ≡ (eq_ℚ t last && lt_ℚ t most) → Answers shown proof →
    result ≡ (past && shown) → Answers result (past_test most last t proof)
past_shown most last t past shown result proof is_past h is =
    subst (λ (b : Bool). Answers b (past_test most last t proof)) (sym (is ∙ ap (λ b. b && shown) is_past ∙ and_assoc (eq_ℚ t last) (lt_ℚ t most) shown))
    (both_answer (eq_ℚ t last) (lt_ℚ t most && shown) (asked (eq_ℚ t last)) _ (asked_answers (eq_ℚ t last))
    (both_answer (lt_ℚ t most) shown (asked (lt_ℚ t most)) _ (asked_answers (lt_ℚ t most)) (last_answers shown proof h)))

pub past_pair_shown : (sheet : Sheet) (changing : Changing) (h : ℕ) (t : ℚ) (z d : Vector) (begins keeps free improves result : Bool) →
    IsTrue begins ↔ AllHold (feasible_point sheet.lp z) →
    IsTrue keeps ↔ AllHold (equations sheet.lp 3 d) → IsTrue free ↔ AllHold (free_direction sheet.lp d) → improves ≡ improves_past sheet.lp h t d →
    result ≡ (begins && (keeps && (free && improves))) →
    Answers result (unbounded_past checker_of_any_length sheet changing h t z d)
past_pair_shown sheet changing h t z d begins keeps free improves result point keep limits improve is =
    let p : LinearProgram = sheet.lp in
    let slope : Bool = le_ℚ (for_min p.sense (d p.objective +ℚ t *ℚ d h)) zero_ℚ in
    let change : Bool = lt_ℚ (for_min p.sense (d h)) zero_ℚ in
    let sum : List Step = sum_steps (d p.objective) (record { left = t; right = d h } ∷ []) in
    let last : Answers improves (followed_by (verdict_by of_any_length sum) (followed_by (asked slope) (in_turn (asked change ∷ [])))) =
    subst (λ (b : Bool). Answers b (followed_by (verdict_by of_any_length sum) (followed_by (asked slope) (in_turn (asked change ∷ []))))) (sym improve)
    (after_checked (slope && change) (verdict_by of_any_length sum) _ (hold_checked sum (sums_hold (d p.objective) (record { left = t; right = d h } ∷ [])))
    (both_answer slope change (asked slope) _ (asked_answers slope) (last_answers change (asked change) (asked_answers change)))) in
    subst (λ (b : Bool). Answers b (unbounded_past checker_of_any_length sheet changing h t z d)) (sym is)
    (both_answer begins (keeps && (free && improves)) (verdict_by of_any_length (feasible_point p z)) _ (answers_of begins (feasible_point p z) point)
    (both_answer keeps (free && improves) (verdict_by of_any_length (equations p 3 d)) _ (answers_of keeps (equations p 3 d) keep)
    (both_answer free improves (verdict_by of_any_length (free_direction p d)) _ (answers_of free (free_direction p d) limits) last)))

pub past_ray_shown : (sheet : Sheet) (changing : Changing) (shift : List ℚ) (t : ℚ) (w : Vector) (q : LinearProgram) (order : Option Ordering)
    (vanishes falls result : Bool) → q ≡ family_of sheet changing t →
    SumsTo q w order → IsTrue vanishes ↔ AllHold (ray_columns q w) → falls ≡ lt_ℚ (sum_of zero_ℚ (shift_products sheet changing shift w)) zero_ℚ →
    result ≡ (vanishes && (at_most_by order && falls)) →
    Answers result (infeasible_past checker_of_any_length sheet changing shift t w)
past_ray_shown sheet changing shift t w q order vanishes falls result family sums columns fall is =
    let at : LinearProgram = family_of sheet changing t in
    let summed : SumsTo at w order = subst (λ (q : LinearProgram). SumsTo q w order) family sums in
    let vanish : IsTrue vanishes ↔ AllHold (ray_columns at w) = subst (λ (q : LinearProgram). IsTrue vanishes ↔ AllHold (ray_columns q w)) family columns in
    let drop : Bool = lt_ℚ (sum_of zero_ℚ (shift_products sheet changing shift w)) zero_ℚ in
    let sum : List Step = sum_steps zero_ℚ (shift_products sheet changing shift w) in
    let last : Answers falls (followed_by (verdict_by of_any_length sum) (in_turn (asked drop ∷ []))) =
    subst (λ (b : Bool). Answers b (followed_by (verdict_by of_any_length sum) (in_turn (asked drop ∷ [])))) (sym fall)
    (after_checked drop (verdict_by of_any_length sum) _ (hold_checked sum (sums_hold zero_ℚ (shift_products sheet changing shift w)))
    (last_answers drop (asked drop) (asked_answers drop))) in
    subst (λ (b : Bool). Answers b (infeasible_past checker_of_any_length sheet changing shift t w)) (sym is)
    (after_checked (vanishes && (at_most_by order && falls)) (verdict_by of_any_length (making_steps sheet changing t)) _
    (hold_checked (making_steps sheet changing t) (making_hold sheet changing t))
    (both_answer vanishes (at_most_by order && falls) (verdict_by of_any_length (ray_columns at w)) _ (answers_of vanishes (ray_columns at w) vanish)
    (limits_answer at w order falls _ summed last)))
