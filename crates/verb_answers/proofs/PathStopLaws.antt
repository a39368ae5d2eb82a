-- Where a call stops, PRIMAL or DUAL stops.
use Rattle.std.proofs.Common.{◌≡◌, ℕ, ◌+◌, ◌-◌, ◌≤◌, List, [], ◌∷◌, ◌++◌, Some, None, length, refl, sym, subst, arith}
use Rattle.std.specs.Prelude.{Option, IsSome, IfSome}
use Rattle.lp_definitions.specs.LinearProgram.{LinearProgram}
use Rattle.lp_definitions.specs.Basis.{Basics, basics_of}
use Rattle.lp_definitions.specs.Waypoints.{waypoint}
use Rattle.lp_definitions.specs.declared.Evidence.{Evidence}
use Rattle.simplex_definitions.specs.Path.{Rule, turn, RulePath, last_of}
use Rattle.simplex_definitions.specs.DualPath.{dual_turn}
use Rattle.simplex_definitions.specs.Statements.{SolvingStatement, Dual}
use Rattle.simplex_definitions.specs.Evidence.{EvidenceHolds}
use Rattle.question_definitions.specs.Answers.{Basis}
use Rattle.listing_tables.specs.declared.sheet.Sheet.{Sheet}
use Rattle.basis_values.specs.Calls.{job_of}
use Rattle.bounded_primal.specs.Calls.{PathGoesOn, RuleStopsOnPath}
use Rattle.bounded_primal.specs.Stops.{PrimalStopsAlong}
use Rattle.bounded_primal.specs.declared.moves.PrimalStop.{PrimalStop}
use Rattle.bounded_primal.specs.declared.moves.PrimalStop.TheVariants.{Limit, Overflow, NoMemory}
use Rattle.bounded_dual.specs.Stops.{DualStopsAlong}
use Rattle.bounded_dual.specs.declared.moves.DualStop.{DualStop}
use Rattle.bounded_dual.specs.declared.moves.DualStop.TheVariants as dual_stop
use Rattle.verb_answers.specs.Reports.{most_steps, RuleOverflowsThere, PassesLimit, PathStops, DualPathStops}
use Rattle.verb_answers.proofs.Facts.{last_is}

-- the last of a list that ends with s
last_after : (first : Basis) (earlier : List Basis) (s : Basis) → last_of first (earlier ++ s ∷ []) ≡ s
last_after first [] s = refl
last_after first (next ∷ earlier) s = last_after next earlier s

-- a list that ends with s, followed by the bases after it
then_more : (earlier : List Basis) (s : Basis) (bases : List Basis) → (earlier ++ s ∷ []) ++ bases ≡ earlier ++ s ∷ bases
then_more [] s bases = refl
then_more (first ∷ earlier) s bases = λ i. first ∷ then_more earlier s bases i

-- without a limit any number of steps is left
left_is : (p : LinearProgram) (limit : Option ℕ) (steps : ℕ) → steps ≤ most_steps p limit → IfSome limit (λ most. steps + (most_steps p limit - steps) ≡ most)
left_is p None steps within = tt
left_is p (Some most) steps within = omega (arith, within)

module _ (rule : Rule) (statement : SolvingStatement) (sheet : Sheet) (s now : Basis) (most : ℕ) (limit : Option ℕ)
    (left : (steps : ℕ) → steps ≤ most → IfSome limit (λ n. steps + (most - steps) ≡ n)) (before after : List Basics) where
  overflows : (e : Evidence) → RuleStopsOnPath rule statement sheet.lp.now s now most before after e →
      RuleOverflowsThere rule statement sheet s now limit before after e
  overflows e stop = record {
    bases = stop.bases;
    goes = (stop.is_path, stop.reaches);
    is_way = stop.is_way;
    overflows = λ earlier lie. record {
      steps = stop.bases;
      is_path = subst (λ (b : Basis). RulePath rule sheet.lp.now b stop.bases) (sym (last_is earlier s)) stop.is_path;
      left = most - length stop.bases;
      is_left = left (length stop.bases) stop.within;
      is_evidence = record {
        basis = now;
        way = waypoint (basics_of now) after e.way;
        holds =
            subst (λ (bs : List Basis). EvidenceHolds statement None (most - length stop.bases) bs [] now (waypoint (basics_of now) after e.way) e)
            (sym (then_more earlier s stop.bases))
            (stop.shows earlier lie);
        is_place = refl;
      };
    };
  }

module _ (sheet : Sheet) (no_change : sheet.lp.now.change ≡ None) (s now : Basis) (limit : Option ℕ) (before after : List Basics) where
  abbrev most : ℕ
  most = most_steps sheet.lp.now limit

  pub stops : (stop : PrimalStop) → PrimalStopsAlong sheet.lp.now s now most before after stop → (stop ≡ Limit → IsSome limit) →
      PathStops sheet s now limit before after stop
  stops Limit h some = passes limit h (some refl)
    where
      passes : (limit : Option ℕ) → PathGoesOn sheet.lp.now s now (most_steps sheet.lp.now limit) → IsSome limit → PassesLimit sheet s now limit
      passes (Some steps) h some = h
      passes None h some = absurd (cc some)
  stops (Overflow e) h some =
      overflows turn (job_of sheet.lp.now None) sheet s now most limit (left_is sheet.lp.now limit) before after e
      (subst (λ change. RuleStopsOnPath turn (job_of sheet.lp.now change) sheet.lp.now s now most before after e) no_change h)
  stops NoMemory h some = (h.0, h.1)

module _ (sheet : Sheet) (s now : Basis) (limit : ℕ) (before after : List Basics) where
  pub dual_stops : (stop : DualStop) → DualStopsAlong sheet.lp.now s now limit before after stop → DualPathStops sheet s now limit before after stop
  dual_stops (dual_stop.NotDualFeasible j) h = h
  dual_stops (dual_stop.Path Limit) h = h
  dual_stops (dual_stop.Path (Overflow e)) h =
      overflows dual_turn (Dual sheet.lp.now) sheet s now limit (Some limit) (left_is sheet.lp.now (Some limit)) before after e h
  dual_stops (dual_stop.Path NoMemory) h = (h.0, h.1)
