-- One thing or another, which are looked for at the same place; and the claims that a verb may make.
use Rattle.std.proofs.Common.{◌≡◌, ℕ, List, Option, None, Result, Ok, Err, refl, sym, ap, subst}
use Rattle.std.specs.Prelude.{IfOk}
use Rattle.std.specs.Option.{option_or}
use Rattle.exact_values.specs.Rational.{ℚ}
use Rattle.listing_definitions.specs.declared.Solver.{Solver}
use Rattle.listing_definitions.specs.declared.Solver.TheVariants.{Primal, Dual, Paraobj, Pararhs}
use Rattle.std.specs.declared.alloc.AllocError.{AllocError as NoMemory}
use Rattle.question_definitions.specs.Answers.{Sheet}
use Rattle.walk_definitions.specs.Words.{Parsed}
use Rattle.walk_definitions.specs.Reading.{Claim, crossed_in, claim_in}
use Rattle.listing_answers.specs.declared.claims.Stated.{Stated}
use Rattle.listing_answers.specs.Words.{IsFound, Found}
use Rattle.listing_answers.specs.Claims.{IsStated, optimum_in, shown_in}

module _ {X A : Type 0} (Shows : X → A → Type 0) (first second : Parsed A) (new : List ℕ) where
  pub found_first : (x : X) → IsFound Shows first new x → IsFound Shows (option_or first second) new x
  found_first x h = record { answer = h.answer; is_found = ap (λ o. option_or o second) h.is_found; shows = h.shows }

  pub found_second : first ≡ None → (result : Result (Option X) NoMemory) → IfOk result (Found Shows second new) →
      IfOk result (Found Shows (option_or first second) new)
  found_second none (Ok found) h = subst (λ (parsed : Parsed A). Found Shows parsed new found) (sym (ap (λ o. option_or o second) none)) h
  found_second none (Err stop) h = h

module _ (of : List ℕ → Option ℚ) (sheet : Sheet) where
  claims_of : (solver : Solver) (old : List ℕ) →
      claim_in of sheet solver old ≡ option_or (optimum_in of sheet solver old) (option_or (crossed_in sheet old) (shown_in of sheet solver old))
  claims_of Primal old = refl
  claims_of Dual old = refl
  claims_of Paraobj old = refl
  claims_of Pararhs old = refl

  module _ (solver : Solver) (old new : List ℕ) where
    abbrev others : Parsed Claim
    others = option_or (crossed_in sheet old) (shown_in of sheet solver old)

    pub optimum_found : (stated : Stated) → IsFound (IsStated sheet) (optimum_in of sheet solver old) new stated →
        IsFound (IsStated sheet) (claim_in of sheet solver old) new stated
    optimum_found stated h =
        subst (λ (parsed : Parsed Claim). IsFound (IsStated sheet) parsed new stated) (sym (claims_of solver old))
        (found_first (IsStated sheet) (optimum_in of sheet solver old) others new stated h)

    pub other_found : optimum_in of sheet solver old ≡ None → (result : Result (Option Stated) NoMemory) → IfOk result (Found (IsStated sheet) others new) →
        IfOk result (Found (IsStated sheet) (claim_in of sheet solver old) new)
    other_found none result h =
        subst (λ (parsed : Parsed Claim). IfOk result (Found (IsStated sheet) parsed new)) (sym (claims_of solver old))
        (found_second (IsStated sheet) (optimum_in of sheet solver old) others new none result h)
