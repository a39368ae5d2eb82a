-- What is claimed, and the test of it.
use Rattle.std.proofs.Common.{◌≡◌, Bool, List, [], ◌∷◌, map, refl, sym, ap, subst, ◌∙◌}
use Rattle.exact_values.specs.Rational.{ℚ}
use Rattle.exact_values.specs.Tests.{eq_ℚ}
use Rattle.lp_definitions.specs.LinearProgram.{value_at, variables}
use Rattle.check_definitions.specs.declared.Verdict.{Verdict}
use Rattle.check_definitions.specs.declared.Verdict.TheVariants.{Checked, Failed, Unchecked}
use Rattle.check_definitions.specs.Steps.{in_turn, followed_by}
use Rattle.check_definitions.specs.Checks.{crossed_steps, infeasible_steps, unbounded_steps}
use Rattle.listing_definitions.specs.Report.{PathVerdict, OptimalAt, CrossedAt, InfeasibleBy, UnboundedBy, Check, ParametricInterval}
use Rattle.question_definitions.specs.Answers.{Sheet, Changing, Row, Set}
use Rattle.answer_definitions.specs.ParametricRuns.{family_of}
use Rattle.run_definitions.specs.Verbs.{mark_of}
use Rattle.walk_definitions.specs.Tables.{numbered, multipliers, column_of}
use Rattle.walk_definitions.specs.Checkers.{Checker, says_checked}
use Rattle.walk_definitions.specs.Tests.{says, asked, verdict_test, part_test, interval_test}
use Rattle.listing_claims.specs.declared.claims.Claim as declared
use Rattle.listing_claims.specs.declared.claims.Claim.TheVariants as claims
use Rattle.listing_claims.specs.declared.claims.Part.{Part}
use Rattle.listing_claims.specs.declared.claims.Stop.{Stop}
use Rattle.listing_claims.specs.Claims.{claim_test}
use Rattle.listing_claims.specs.Intervals.{part_verdict}
use Rattle.listing_claims.specs.Passing.{Stops}
use Rattle.listing_claims.proofs.Passing.{stops_first, stops_next, both_pass}
use Rattle.listing_answers.specs.declared.answer.Conclusion.TheVariants.{Optimal}
use Rattle.listing_answers.specs.Taken.{conclusion_of}
use Rattle.listing_answers.specs.Claims.{Says, word_test, conclusion_by, mark_by}
use Rattle.listing_answers.specs.Intervals.{IsPart}

-- ---- the test of a claim, in a linear program of the same variables

module _ (C : Checker) (sheet other : Sheet) (m : other.lp.matrix ≡ sheet.lp.matrix) where
  pub stated_is : (claim : declared.Claim) (verdict : PathVerdict) (check : Check) → Says sheet claim verdict →
      in_turn (claim_test C other.lp claim ∷ word_test C claim check ∷ []) ≡ verdict_test C other verdict check
  stated_is (claims.Optimal objective) (OptimalAt steps printed) check says_so = refl
  stated_is (claims.Crossed k) (CrossedAt number) check says_so = ap (λ n. in_turn (says C (crossed_steps other.lp n) ∷ asked (C.takes check) ∷ [])) says_so
  stated_is (claims.Infeasible ray) (InfeasibleBy steps lines) check says_so =
      let same : ray.items ≡ multipliers other lines = says_so ∙ ap (λ a. map (λ k. numbered k lines) (variables a)) (sym m) in
      ap (λ (w : List ℚ). in_turn (says C (infeasible_steps other.lp (value_at w)) ∷ asked (C.takes check) ∷ [])) same
  stated_is (claims.Unbounded objective pair) (UnboundedBy steps printed lines) check says_so = by says_so.0 says_so.1.is_point says_so.1.is_direction
    where
      by : {o : ℚ} {z d : List ℚ} → o ≡ printed → z ≡ column_of 0 lines → d ≡ column_of 1 lines →
          in_turn (in_turn (says C (unbounded_steps other.lp (value_at z) (value_at d)) ∷ asked (eq_ℚ o (value_at z other.lp.objective)) ∷ []) ∷ asked
          (C.takes check) ∷ [])
          ≡ in_turn (in_turn
          (says C (unbounded_steps other.lp (value_at (column_of 0 lines)) (value_at (column_of 1 lines))) ∷ asked
          (eq_ℚ printed (value_at (column_of 0 lines) other.lp.objective)) ∷ []) ∷ asked (C.takes check) ∷ [])
      by eo ez ed =
          λ i. in_turn
          (in_turn (says C (unbounded_steps other.lp (value_at (ez i)) (value_at (ed i))) ∷ asked
          (eq_ℚ (eo i) (value_at (ez i) other.lp.objective)) ∷ []) ∷ asked (C.takes check) ∷ [])
  stated_is claim verdict check says_so = absurd says_so

  -- the claim is tested, and then its word
  module _ (claim : declared.Claim) (verdict : PathVerdict) (check : Check) (says_so : Says sheet claim verdict) where
    pub claim_stops : (stop : Stop) → Stops stop (claim_test C other.lp claim) → Stops stop (verdict_test C other verdict check)
    claim_stops stop h =
        subst (λ (v : Verdict). Stops stop v) (stated_is claim verdict check says_so)
        (stops_first stop (claim_test C other.lp claim) (in_turn (word_test C claim check ∷ [])) h)

    pub word_stops : (stop : Stop) → claim_test C other.lp claim ≡ Checked → Stops stop (word_test C claim check) →
        Stops stop (verdict_test C other verdict check)
    word_stops stop passed h =
        subst (λ (v : Verdict). Stops stop v) (stated_is claim verdict check says_so)
        (stops_next stop (claim_test C other.lp claim) (in_turn (word_test C claim check ∷ [])) passed (stops_first stop (word_test C claim check) Checked h))

    pub claim_passes : claim_test C other.lp claim ≡ Checked → word_test C claim check ≡ Checked → verdict_test C other verdict check ≡ Checked
    claim_passes passed also =
        sym (stated_is claim verdict check says_so)
        ∙ both_pass (claim_test C other.lp claim) (in_turn (word_test C claim check ∷ [])) passed (both_pass (word_test C claim check) Checked also refl)

-- the first two of three verdicts, given as one
joined : (u v w : Verdict) → in_turn (u ∷ in_turn (v ∷ w ∷ []) ∷ []) ≡ followed_by (in_turn (u ∷ v ∷ [])) (in_turn (w ∷ []))
joined Checked Checked Checked = refl
joined Checked Checked (Failed part number) = refl
joined Checked Checked (Unchecked refused) = refl
joined Checked (Failed part number) w = refl
joined Checked (Unchecked refused) w = refl
joined (Failed part number) v w = refl
joined (Unchecked refused) v w = refl

module _ (C : Checker) (sheet other : Sheet) (m : other.lp.matrix ≡ sheet.lp.matrix) (making : Verdict) (claim : declared.Claim) (verdict : PathVerdict)
    (check : Check) (says_so : Says sheet claim verdict) where
  abbrev opens : Verdict
  opens = in_turn (making ∷ claim_test C other.lp claim ∷ [])

  opened_is : followed_by opens (in_turn (word_test C claim check ∷ [])) ≡ in_turn (making ∷ verdict_test C other verdict check ∷ [])
  opened_is =
      sym (joined making (claim_test C other.lp claim) (word_test C claim check))
      ∙ ap (λ (v : Verdict). in_turn (making ∷ v ∷ [])) (stated_is C sheet other m claim verdict check says_so)

  pub opening_stops : (stop : Stop) → Stops stop opens → Stops stop (in_turn (making ∷ verdict_test C other verdict check ∷ []))
  opening_stops stop h = subst (λ (v : Verdict). Stops stop v) opened_is (stops_first stop opens (in_turn (word_test C claim check ∷ [])) h)

  pub opening_word_stops : (stop : Stop) → opens ≡ Checked → Stops stop (word_test C claim check) →
      Stops stop (in_turn (making ∷ verdict_test C other verdict check ∷ []))
  opening_word_stops stop passed h =
      subst (λ (v : Verdict). Stops stop v) opened_is
      (stops_next stop opens (in_turn (word_test C claim check ∷ [])) passed (stops_first stop (word_test C claim check) Checked h))

  pub opening_passes : opens ≡ Checked → word_test C claim check ≡ Checked → in_turn (making ∷ verdict_test C other verdict check ∷ []) ≡ Checked
  opening_passes passed also =
      sym opened_is ∙ both_pass opens (in_turn (word_test C claim check ∷ [])) passed (both_pass (word_test C claim check) Checked also refl)

-- ---- what it comes to

pub concluded : (sheet : Sheet) (claim : declared.Claim) (is_checked : Bool) (verdict : PathVerdict) (check : Check) → Says sheet claim verdict →
    is_checked ≡ says_checked check → conclusion_by claim is_checked ≡ conclusion_of verdict check
concluded sheet (claims.Optimal objective) b (OptimalAt steps printed) check says_so e = λ i. Optimal (says_so i) (e i)
concluded sheet (claims.Crossed k) b (CrossedAt number) check says_so e = refl
concluded sheet (claims.Infeasible ray) b (InfeasibleBy steps lines) check says_so e = refl
concluded sheet (claims.Unbounded objective pair) b (UnboundedBy steps printed lines) check says_so e = refl
concluded sheet claim b verdict check says_so e = absurd says_so

pub marked : (sheet : Sheet) (claim : declared.Claim) (verdict : PathVerdict) → Says sheet claim verdict → mark_by claim ≡ mark_of verdict
marked sheet (claims.Optimal objective) (OptimalAt steps printed) says_so = refl
marked sheet (claims.Crossed k) (CrossedAt number) says_so = refl
marked sheet (claims.Infeasible ray) (InfeasibleBy steps lines) says_so = refl
marked sheet (claims.Unbounded objective pair) (UnboundedBy steps printed lines) says_so = refl
marked sheet claim verdict says_so = absurd says_so

-- the linear programs of a family have the same matrix
pub family_matrix : (sheet : Sheet) (changing : Changing) (theta : ℚ) → (family_of sheet changing theta).matrix ≡ sheet.lp.matrix
family_matrix sheet (Row name) theta = refl
family_matrix sheet (Set name) theta = refl

-- the test of an interval that was read
pub part_tested : (C : Checker) (sheet : Sheet) (changing : Changing) (is_first : Bool) (max from : ℚ) (part : Part) (interval : ParametricInterval) →
    IsPart sheet from part interval →
    part_verdict C sheet changing from part.to part.columns is_first max ≡ interval_test C sheet changing is_first max interval
part_tested C sheet changing is_first max from part interval shows =
    let begins = sym shows.begins in
    let ends = sym shows.ends in
    λ i. part_test C sheet changing (begins i) (ends i) (shows.columns.value i) (shows.columns.value_rate i) (shows.columns.price i)
    (shows.columns.price_rate i) is_first max
