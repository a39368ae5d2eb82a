-- A chain that is begun, and the rest of it, make a whole chain.
use Rattle.std.proofs.Common.{◌≡◌, ℕ, zero, suc, false, List, [], ◌∷◌, ◌++◌, replicate, refl, sym, ap, subst, ◌∙◌}
use Rattle.std.specs.Prelude.{slice_index_or}
use Rattle.std.proofs.lemmas.List.{append_assoc}
use Rattle.exact_values.specs.Rational.{ℚ, zero_ℚ, ◌≤ℚ◌, ◌<ℚ◌}
use Rattle.exact_values.specs.Tests.{eq_ℚ}
use Rattle.exact_values.proofs.Order.{lt_from_le}
use Rattle.exact_values.proofs.TestsLaws.{apart_from_eq_fails}
use Rattle.lp_definitions.specs.LinearProgram.{LinearProgram}
use Rattle.lp_definitions.specs.declared.Status.{Status}
use Rattle.simplex_definitions.specs.Path.{last_of}
use Rattle.simplex_definitions.specs.Chain.{Part, ChainEnd, FaceTurn, IsChain, goes_on}
use Rattle.parametric_run.specs.Begun.{IsBegun, nothing, then}
use Rattle.parametric_laws.proofs.Runs.{last_of-append}

module _ (family : ℚ → LinearProgram) (Face : ℚ → List Status → FaceTurn → Type 0) (from max : ℚ) (s : List Status) where
  pub closes : (parts : List Part) (theta : ℚ) (now : List Status) (path : List (List Status)) (rest : List Part) (end : ChainEnd)
      (later : List (List Status)) →
      IsBegun family Face from max s parts theta now path → IsChain family Face max theta now rest end later →
      IsChain family Face max from s (parts ++ rest) end (path ++ later)
  closes _ _ _ _ rest end later nothing chain = chain
  closes _ _ _ _ rest end later (then {parts} {theta} {now} {path} {part} {bases} begun is faces) chain =
      subst (λ (xs : List (List Status)). IsChain family Face max from s ((parts ++ part ∷ []) ++ rest) end xs) (sym (append_assoc path bases later))
      (subst (λ (xs : List Part). IsChain family Face max from s xs end (path ++ (bases ++ later))) (sym (append_assoc parts (part ∷ []) rest))
      (closes parts theta now path (part ∷ rest) end (bases ++ later) begun (goes_on {from = theta} {s = now} {part = part} is faces chain)))

  -- its face steps have reached the basis with which the next interval begins
  pub begun_last : (parts : List Part) (theta : ℚ) (now : List Status) (path : List (List Status)) → IsBegun family Face from max s parts theta now path →
      last_of s path ≡ now
  begun_last _ _ _ _ nothing = refl
  begun_last _ _ _ _ (then {parts} {theta} {now} {path} {part} {bases} begun is faces) =
      last_of-append s path bases ∙ ap (λ x. last_of x bases) (begun_last parts theta now path begun)

-- an end other than the last value is before it
pub before_max : (to max : ℚ) → to ≤ℚ max → eq_ℚ to max ≡ false → to <ℚ max
before_max to max within other = lt_from_le within (apart_from_eq_fails to max other)

pub zero_in : (n i : ℕ) → slice_index_or (replicate n zero_ℚ) i zero_ℚ ≡ zero_ℚ
zero_in zero i = refl
zero_in (suc n) zero = refl
zero_in (suc n) (suc i) = zero_in n i
