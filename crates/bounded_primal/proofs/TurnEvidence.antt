-- From the evidence of a call at one basis to evidence on every path that led there.
use Rattle.std.proofs.Common.{◌≡◌, ◌≢◌, ℕ, ◌<◌, ◌≤◌, ◌⊎◌, inl, inr, List, [], ◌∷◌, ◌++◌, map, Bool, true, false, refl, sym, ◌∙◌, ap, ap₂, subst, arith}
use Rattle.std.specs.Prelude.{Option, Some, None, IsSome, IsTrue, not, ◌&&◌, ◌||◌, nat_eq, nat_le, eqb}
use Rattle.std.proofs.lemmas.Bool.{leb-true, le-leb, lt-leb, and_parts, or_cases, and_right}
use Rattle.std.proofs.lemmas.Bool.Decides.{eqb_tells}
use Rattle.exact_values.specs.Rational.{ℚ, zero_ℚ, ◌-ℚ◌}
use Rattle.frac128.specs.declared.Op.TheVariants.{Div}
use Rattle.lp_definitions.specs.LinearProgram.{LinearProgram, Vector}
use Rattle.lp_definitions.specs.Basis.{Basics, basics_of, exchanged, IsBasic, IsNonbasic, IsNonsingular, IsDirectionOf, IsPointOf, AreRates, Tableau, IsTableau}
use Rattle.lp_definitions.specs.Waypoints.{KeepsWaypoints, waypoint}
use Rattle.lp_definitions.specs.RatesEvidence.{Refuses}
use Rattle.lp_definitions.specs.declared.Change.{Change}
use Rattle.lp_definitions.specs.declared.Evidence.{Evidence}
use Rattle.lp_definitions.specs.declared.Status.{Status}
use Rattle.lp_definitions.specs.declared.Status.TheVariants.{Bs, Ll, Ul, Fr}
use Rattle.lp_laws.proofs.Values.{clash}
use Rattle.lp_laws.proofs.Statuses.{basics_of-replaced}
use Rattle.lp_laws.proofs.Uniqueness.{one_direction}
use Rattle.lp_laws.proofs.WaypointLaws.{Covers, Covers-all, Covers-insert, kept_within, within_itself}
use Rattle.simplex_definitions.specs.Path.{Move, after}
use Rattle.simplex_definitions.specs.ObjectiveRun.{objective_family}
use Rattle.simplex_definitions.specs.Formulas.{PointFormula, f6, f7, MoveFormula, f8, f9, limit_numbered, number_of_limit}
use Rattle.simplex_definitions.specs.Statements.{SolvingStatement, Primal, is_between, belongs, program_at, PathMoves, PathEnters, MovesAt, EntersAt}
use Rattle.simplex_definitions.specs.Evidence.{Formula, by_exchange, by_entry, by_carried, by_point, by_slack, by_move, by_ratio, by_range, by_objective}
use Rattle.simplex_definitions.specs.Evidence.{by_slope, ShowsRefusal, IsLeaver, GoesTo, TakesStep, IsOfMove}
use Rattle.basis_values.specs.Calls.{StopsAt, job_of, is_of_point, PointRefused}
use Rattle.bounded_primal.specs.Moves.{BlockingVariableRefused, StepRefused, blocking_variable_of, move_by}
use Rattle.bounded_primal.specs.Steps.{ReturnRefused, of_distance, of_quotient}
use Rattle.bounded_primal.specs.Stops.{primal_stop_of}
use Rattle.bounded_primal.specs.Turns.{EvidenceAt, TurnStops}
use Rattle.lp_model.specs.RatesCalls.{IfOverflow}
use Rattle.lp_model.specs.declared.Stop.{Stop}
use Rattle.lp_model.specs.declared.Stop.TheVariants as stop
use Rattle.bounded_primal.specs.declared.moves.BlockingVariable.{BlockingVariable}
use Rattle.basis_values.proofs.Covered.{stops_covered}
use Rattle.basis_values.proofs.Existence.{rates_exist}
use Rattle.basis_values.proofs.Refusals.{stops_at_basis}
use Rattle.bounded_primal.proofs.Within.{within_last, covers_ahead}

-- ---- the limits to which a step may go

move_number : (p : LinearProgram) (s : List Status) (t : Tableau) (to : Status) (e : Evidence) → MoveFormula p s t to e →
    (is_between 7 9 e.formula ≡ true) × (is_between 8 9 e.formula ≡ true)
move_number p s t to e (f8 r q i step names step_to is refused) = rw names.is_formula (refl, refl)
move_number p s t to e (f9 r q i step names step_to is refused) = rw names.is_formula (refl, refl)

module _ (statement : SolvingStatement) (Goes Other : Status → Type 0) (s : List Status) (e : Evidence)
    (h : (to : Status) → Goes to → (is_between 7 9 e.formula ≡ true) × (is_between 8 9 e.formula ≡ true) → Other to) where
  pub formula_goes : (t : Tableau) (w : Basics) (rate : ℕ → ℕ → ℚ) → Formula statement Goes s t w rate e → Formula statement Other s t w rate e
  formula_goes t w rate (by_exchange f) = by_exchange f
  formula_goes t w rate (by_entry f) = by_entry f
  formula_goes t w rate (by_carried f) = by_carried f
  formula_goes t w rate (by_point f) = by_point f
  formula_goes t w rate (by_slack f) = by_slack f
  formula_goes t w rate (by_move to goes f) = by_move to (h to goes (move_number (program_at statement e.theta) s t to e f)) f
  formula_goes t w rate (by_ratio f) = by_ratio f
  formula_goes t w rate (by_range f) = by_range f
  formula_goes t w rate (by_objective f) = by_objective f
  formula_goes t w rate (by_slope u is f) = by_slope u is f

  shows_goes : (around : List Basics) (w : Basics) → ShowsRefusal statement Goes around s w e → ShowsRefusal statement Other around s w e
  shows_goes around w r = record {
    tableau = r.tableau;
    is_tableau = r.is_tableau;
    way_rate = r.way_rate;
    are_way_rates = r.are_way_rates;
    formula = formula_goes r.tableau w r.way_rate r.formula;
    is_way = r.is_way;
    reaches = r.reaches;
    no_way = r.no_way;
  }

-- ---- the job that a call counts as

module _ (p : LinearProgram) (s : List Status) where
  same_program : (c : Change) → p.change ≡ Some c → objective_family p c.row c.theta ≡ p
  same_program c e = ap (λ (o : Option Change). record p { change = o }) (sym e)

  pub moves_at : (m : Move) → PathMoves p s m → MovesAt (job_of p p.change) None s m
  moves_at m h = at p.change refl
    where
      at : (o : Option Change) → p.change ≡ o → MovesAt (job_of p o) None s m
      at None e = h
      at (Some c) e = subst (λ (x : LinearProgram). PathMoves x s m) (sym (same_program c e)) h

  pub enters_at : (q : ℕ) → PathEnters p s q → EntersAt (job_of p p.change) None s q
  enters_at q h = at p.change refl
    where
      at : (o : Option Change) → p.change ≡ o → EntersAt (job_of p o) None s q
      at None e = h
      at (Some c) e = subst (λ (x : LinearProgram). PathEnters x s q) (sym (same_program c e)) h

  takes_step : (m : Move) → PathMoves p s m → TakesStep (job_of p p.change) None s
  takes_step m h = at p.change
    where
      at : (o : Option Change) → TakesStep (job_of p o) None s
      at None = (m, h)
      at (Some c) = tt

  goes_to : (m : Move) (e : Evidence) (to : Status) → PathMoves p s m → m.enters ≡ e.q → m.leaves ≡ e.p → m.to ≡ to → GoesTo (job_of p p.change) None s e to
  goes_to m e to h enters leaves goes = at p.change (record { move = m; moves = moves_at m h; enters = enters; leaves = leaves; goes_to = goes })
    where
      at : (o : Option Change) → IsLeaver (job_of p o) None s e to → GoesTo (job_of p o) None s e to
      at None l = l
      at (Some c) l = l

-- ---- the numbers of formulas

module _ (low high n : ℕ) where
  between : is_between low high n ≡ true → (low ≤ n) × (n ≤ high)
  between h = let parts = and_parts (nat_le low n) (nat_le n high) h in (leb-true low n parts.0, leb-true n high parts.1)

  within : low ≤ n → n ≤ high → is_between low high n ≡ true
  within first second = ap₂ (λ a b. a && b) (le-leb low n first) (le-leb n high second)

  below : n < low → is_between low high n ≡ false
  below h = ap (λ a. a && nat_le n high) (lt-leb low n h)

  above : high < n → is_between low high n ≡ false
  above h = ap (λ b. nat_le low n && b) (lt-leb n high h) ∙ and_right (nat_le low n) false refl

apart : (n k : ℕ) → n ≢ k → nat_eq n k ≡ false
apart n k other = at (eqb_tells n k)
  where
    at : (((eqb n k ≡ true) × (n ≡ k)) ⊎ ((eqb n k ≡ false) × (n ≢ k))) → nat_eq n k ≡ false
    at (inl same) = absurd (other same.1)
    at (inr other_number) = other_number.0

module _ (n : ℕ) where
  primal_number : is_between 1 12 n ≡ true → (is_between 1 13 n || is_between 16 17 n) ≡ true
  primal_number h = let at = between 1 12 n h in ap (λ b. b || is_between 16 17 n) (within 1 13 n at.0 (omega (arith, at.1)))

  point_apart : (is_between 1 5 n || is_between 10 12 n) ≡ true →
      (is_between 7 9 n ≡ false) × (nat_eq n 6 ≡ false) × (nat_eq n 14 ≡ false) × (is_between 1 12 n ≡ true)
  point_apart h = at (or_cases (is_between 1 5 n) (is_between 10 12 n) h)
    where
      at : ((is_between 1 5 n ≡ true) ⊎ (is_between 10 12 n ≡ true)) →
          (is_between 7 9 n ≡ false) × (nat_eq n 6 ≡ false) × (nat_eq n 14 ≡ false) × (is_between 1 12 n ≡ true)
      at (inl low) =
          let x = between 1 5 n low in (
            below 7 9 n (omega (arith, x.1)),
            apart n 6 (λ e. omega (arith, x.1, e)),
            apart n 14 (λ e. omega (arith, x.1, e)),
            within 1 12 n x.0
                (omega (arith, x.1)),
          )
      at (inr high) =
          let x = between 10 12 n high in (
            above 7 9 n (omega (arith, x.0)),
            apart n 6 (λ e. omega (arith, x.0, e)),
            apart n 14 (λ e. omega (arith, x.1, e)),
            within 1 12 n
                (omega (arith, x.0)) x.1,
          )

  price_apart : nat_eq n 17 ≡ true →
      (is_between 7 9 n ≡ false) × (nat_eq n 6 ≡ false) × (nat_eq n 14 ≡ false) × ((is_between 1 13 n || is_between 16 17 n) ≡ true)
  price_apart h = at (eqb_tells n 17)
    where
      at : (((eqb n 17 ≡ true) × (n ≡ 17)) ⊎ ((eqb n 17 ≡ false) × (n ≢ 17))) →
          (is_between 7 9 n ≡ false) × (nat_eq n 6 ≡ false) × (nat_eq n 14 ≡ false) × ((is_between 1 13 n || is_between 16 17 n) ≡ true)
      at (inl same) =
          (ap (is_between 7 9) same.1, ap (λ m. nat_eq m 6) same.1, ap (λ m. nat_eq m 14) same.1, ap (λ m. is_between 1 13 m || is_between 16 17 m) same.1)
      at (inr other_number) = absurd (clash (sym h ∙ other_number.0))

pub belongs_job : (p : LinearProgram) (e : Evidence) → IsTrue (belongs (Primal p) e) → IsTrue (belongs (job_of p p.change) e)
belongs_job p e h = at p.change
  where
    first : (a b : Bool) → (a && b) ≡ true → (a ≡ true) × (b ≡ true)
    first true true e = (refl, refl)
    first true false e = cc
    first false b e = cc

    both : IsTrue (belongs (Primal p) e) → (is_between 1 12 e.formula ≡ true) × ((not (nat_eq e.formula 6) || not (nat_eq e.term 3)) ≡ true)
    both h = first (is_between 1 12 e.formula) (not (nat_eq e.formula 6) || not (nat_eq e.term 3)) h

    at : (o : Option Change) → IsTrue (belongs (job_of p o) e)
    at None = h
    at (Some c) = ap₂ (λ a b. a && b) (primal_number e.formula (both h).0) (both h).1

-- what is known of the number of a formula of a point or of prices
record IsPointNumber (o : Option Change) (p : LinearProgram) (e : Evidence) : Type 0 where
  no_move : is_between 7 9 e.formula ≡ false
  no_distance : nat_eq e.formula 6 ≡ false
  no_ratio : nat_eq e.formula 14 ≡ false
  belongs_to : IsTrue (belongs (job_of p o) e)

either : (a b : Bool) → (a || b) ≡ true → (a ≡ false → b ≡ true)
either true b e f = absurd (clash f)
either false b e f = e

point_number : (p : LinearProgram) (o : Option Change) (e : Evidence) → IsTrue (is_of_point o e.formula) → IsPointNumber o p e
point_number p None e h =
    let n = point_apart e.formula h in
    record { no_move = n.0; no_distance = n.1; no_ratio = n.2; belongs_to = ap₂ (λ a b. a && (not b || not (nat_eq e.term 3))) n.3 n.1 }
point_number p (Some c) e h = at (is_between 1 5 e.formula || is_between 10 12 e.formula) refl
  where
    at : (b : Bool) → (is_between 1 5 e.formula || is_between 10 12 e.formula) ≡ b → IsPointNumber (Some c) p e
    at true is =
        let n = point_apart e.formula is in record {
          no_move = n.0;
          no_distance = n.1;
          no_ratio = n.2;
          belongs_to = ap₂
              (λ a b. a && (not b || not (nat_eq e.term 3))) (primal_number e.formula n.3) n.1;
        }
    at false is =
        let n = price_apart e.formula (either (is_between 1 5 e.formula || is_between 10 12 e.formula) (nat_eq e.formula 17) h is) in
        record { no_move = n.0; no_distance = n.1; no_ratio = n.2; belongs_to = ap₂ (λ a b. a && (not b || not (nat_eq e.term 3))) n.3 n.1 }

-- a limit is one of the numbers 1 and 2
limit_number : (p : LinearProgram) (k : ℕ) (to : Status) (l : ℚ) → limit_numbered p k (number_of_limit to) ≡ Some l → not (nat_eq (number_of_limit to) 3) ≡ true
limit_number p k Bs l e = refl
limit_number p k Ll l e = refl
limit_number p k Ul l e = refl
limit_number p k Fr l e = refl

-- ---- evidence on a path

module _ (p : LinearProgram) (s : List Status) (left : ℕ) (before now : List Basics) (e : Evidence) where
  -- with no other basis ahead
  evidence_here : (Goes : Status → Type 0) → StopsAt Goes p (basics_of s ∷ before) s now e →
      ((to : Status) → Goes to → (is_between 7 9 e.formula ≡ true) × (is_between 8 9 e.formula ≡ true) → GoesTo (job_of p p.change) None s e to) →
      IsOfMove (job_of p p.change) None s e →
      IsTrue (belongs (job_of p p.change) e) → EvidenceAt p s left before now e
  evidence_here Goes stops goes of_move belongs_to = record {
    is_way = stops.is_way;
    shows = λ earlier lie.
        let cover : Covers p.matrix (basics_of s ∷ before) (map basics_of (earlier ++ s ∷ [])) =
        (within_last p.matrix earlier s, Covers-all p.matrix before (map basics_of (earlier ++ s ∷ [])) lie) in
        record {
          before = earlier;
          reached = refl;
          ahead = None;
          is_ahead = tt;
          shows =
              shows_goes (job_of p p.change) Goes (GoesTo (job_of p p.change) None s e) s e goes (map basics_of (earlier ++ s ∷ []))
              (waypoint (basics_of s) now e.way)
              (stops_covered Goes p (basics_of s ∷ before) (map basics_of (earlier ++ s ∷ [])) s now e cover stops).shows;
          is_theta = stops.is_theta;
          of_move = of_move;
          of_statement = belongs_to;
        };
  }

  -- with the basis ahead to which the move m leads
  evidence_ahead : (Goes : Status → Type 0) (m : Move) → PathMoves p s m → basics_of (after s m) ≡ exchanged (basics_of s) m.leaves m.enters → 1 ≤ left →
      StopsAt Goes p (basics_of s ∷ exchanged (basics_of s) m.leaves m.enters ∷ before) s now e →
      ((to : Status) → Goes to → (is_between 7 9 e.formula ≡ true) × (is_between 8 9 e.formula ≡ true) → GoesTo (job_of p p.change) None s e to) →
      IsOfMove (job_of p p.change) None s e →
      IsTrue (belongs (job_of p p.change) e) → EvidenceAt p s left before now e
  evidence_ahead Goes m moves leads one_left stops goes of_move belongs_to = record {
    is_way = stops.is_way;
    shows = λ earlier lie.
        let cover =
        covers_ahead p.matrix earlier s (after s m) (exchanged (basics_of s) m.leaves m.enters) before leads lie in
        record {
          before = earlier;
          reached = refl;
          ahead = Some (after s m);
          is_ahead = (one_left, (m, moves_at p s m moves, refl));
          shows =
              shows_goes (job_of p p.change) Goes (GoesTo (job_of p p.change) None s e) s e goes (map basics_of ((earlier ++ s ∷ []) ++ after s m ∷ []))
              (waypoint (basics_of s) now e.way)
              (stops_covered Goes p (basics_of s ∷ exchanged (basics_of s) m.leaves m.enters ∷ before)
              (map basics_of ((earlier ++ s ∷ []) ++ after s m ∷ [])) s now e cover stops).shows;
          is_theta = stops.is_theta;
          of_move = of_move;
          of_statement = belongs_to;
        };
  }

  -- of a point, of prices, and of the rates of a column or a row
  pub of_point : PointRefused p before s now e → EvidenceAt p s left before now e
  of_point h =
      let n = point_number p p.change e h.of_call in
      evidence_here (λ to. ⊥) h.stops (λ to none number. absurd none)
      (record {
        enters = λ is. absurd (clash (sym is ∙ n.no_move));
        brings = λ is. absurd (clash (sym is ∙ n.no_ratio));
        steps = λ is. absurd
            (clash (sym is ∙ n.no_distance));
      })
      n.belongs_to

-- ---- the numbers of the formulas of a move

blocking_variable_number : (n term : ℕ) → ((nat_eq n 6 && not (nat_eq term 3)) || nat_eq n 7) ≡ true →
    (is_between 7 9 n ≡ true → nat_eq n 7 ≡ true) × (nat_eq n 14 ≡ false) × (is_between 1 12 n ≡ true) × ((not (nat_eq n 6) || not (nat_eq term 3)) ≡ true)
blocking_variable_number n term h = at (eqb_tells n 6) (eqb_tells n 7)
  where
    goal : Type 0
    goal =
        (is_between 7 9 n ≡ true → nat_eq n 7 ≡ true) × (nat_eq n 14 ≡ false) × (is_between 1 12 n ≡ true) × ((not (nat_eq n 6) || not (nat_eq term 3)) ≡ true)

    term_of : (b : Bool) → (b || false) ≡ true → b ≡ true
    term_of true e = refl
    term_of false e = cc

    at : (((eqb n 6 ≡ true) × (n ≡ 6)) ⊎ ((eqb n 6 ≡ false) × (n ≢ 6))) → (((eqb n 7 ≡ true) × (n ≡ 7)) ⊎ ((eqb n 7 ≡ false) × (n ≢ 7))) → goal
    at (inl six) other =
        let term_is = term_of (not (nat_eq term 3)) (subst (λ (m : ℕ). ((nat_eq m 6 && not (nat_eq term 3)) || nat_eq m 7) ≡ true) six.1 h) in (
          λ e. absurd (clash (sym e ∙ ap (is_between 7 9) six.1)),
          ap (λ m. nat_eq m 14) six.1,
          ap (is_between 1 12) six.1,
          ap₂
              (λ a b. not a || b) six.0 term_is,
        )
    at (inr other) (inl seven) = (λ e. seven.0, ap (λ m. nat_eq m 14) seven.1, ap (is_between 1 12) seven.1, ap (λ a. not a || not (nat_eq term 3)) other.0)
    at (inr other) (inr far) = absurd (clash (sym h ∙ ap₂ (λ a b. (a && not (nat_eq term 3)) || b) other.0 far.0))

pub step_brings_not : (n term : ℕ) → (is_between 1 12 n && (not (nat_eq n 6) || not (nat_eq term 3))) ≡ true → nat_eq n 14 ≡ false
step_brings_not n term h = at (eqb_tells n 14)
  where
    at : (((eqb n 14 ≡ true) × (n ≡ 14)) ⊎ ((eqb n 14 ≡ false) × (n ≢ 14))) → nat_eq n 14 ≡ false
    at (inl same) = absurd (clash (sym (subst (λ (m : ℕ). (is_between 1 12 m && (not (nat_eq m 6) || not (nat_eq term 3))) ≡ true) same.1 h)))
    at (inr other) = other.0

module _ (p : LinearProgram) (s : List Status) (left : ℕ) (before now : List Basics) (e : Evidence) where
  -- of the search for what stops q
  pub of_blocking_variable : (z d : Vector) (q : ℕ) (up : Bool) → PathEnters p s q → (IsSome (blocking_variable_of p z d up) → (m : Move) × PathMoves p s m) →
      BlockingVariableRefused p s z d q up e → EvidenceAt p s left before now e
  of_blocking_variable z d q up enters moves h =
      let n = blocking_variable_number e.formula e.term h.of_call in
      let bound : e.way ≤ 0 = h.stops.is_way in
      let no_way : e.way ≡ 0 = omega (arith, bound) in
      evidence_here p s left before now e (λ to. ⊥)
      (stops_covered (λ to. ⊥) p (basics_of s ∷ []) (basics_of s ∷ before) s now e (inl (within_itself p.matrix (basics_of s)), tt)
      (record {
        is_way = omega (arith, no_way);
        is_theta = h.stops.is_theta;
        shows =
            subst (λ (w : Basics). ShowsRefusal (job_of p p.change) (λ to. ⊥) (basics_of s ∷ []) s w e)
            (ap (waypoint (basics_of s) []) no_way ∙ sym (ap (waypoint (basics_of s) now) no_way)) h.stops.shows;
      }))
      (λ to none number. absurd none)
      (record {
        enters = λ is. subst (EntersAt (job_of p p.change) None s) (sym (h.enters (n.0 is))) (enters_at p s q enters);
        brings = λ is. absurd (clash (sym is ∙ n.1));
        steps = λ is. let m = moves (h.is_stopped is) in takes_step p s m.0 m.1;
      })
      (belongs_job p e (ap₂ (λ a b. a && b) n.2 n.3))

  -- of what brings r back
  pub of_return : (z d : Vector) (q r : ℕ) (to : Status) (m : Move) → PathEnters p s q → PathMoves p s m → IsPointOf p s z →
      IsNonsingular p.matrix (basics_of s) → IsBasic p.matrix (basics_of s) r → IsNonbasic p.matrix (basics_of s) q →
      IsDirectionOf p.matrix (basics_of s) q d → d r ≢ zero_ℚ → ReturnRefused p z d q r to e → EvidenceAt p s left before now e
  of_return z d q r to m enters moves point nonsingular basic out direction pivot h = by_kind h
    where
      rates : (rate : ℕ → ℕ → ℚ) × AreRates p.matrix (basics_of s) rate
      rates = rates_exist p.matrix (basics_of s) nonsingular

      t : Tableau
      t = record { point = z; rate = rates.0 }

      at_q : t.rate r q ≡ d r
      at_q = one_direction p.matrix (basics_of s) q (λ i. rates.0 i q) d nonsingular (rates.1 q out) direction r basic.0

      is_t : IsTableau p s t
      is_t = record { is_point = point; are_rates = rates.1 }

      stops : e.way ≡ 0 → e.theta ≡ zero_ℚ → PointFormula p s t e → StopsAt (λ to. ⊥) p (basics_of s ∷ before) s now e
      stops no_way no_theta formula = stops_at_basis p s t is_t nonsingular (λ to. ⊥) before now e no_way no_theta formula

      by_kind : ReturnRefused p z d q r to e → EvidenceAt p s left before now e
      by_kind (of_distance l limit f) =
          evidence_here p s left before now e (λ to. ⊥) (stops f.no_way f.is_theta (f6 r (number_of_limit to) l f.names basic.0 limit f.refuses))
          (λ to none number. absurd none)
          (record {
            enters = λ is. absurd (clash (sym is ∙ ap (is_between 7 9) f.names.is_formula));
            brings = λ is. absurd (clash (sym is ∙ ap (λ n. nat_eq n 14) f.names.is_formula));
            steps = λ is. takes_step p s m moves;
          })
          (belongs_job p e
          (ap₂ (λ a b. is_between 1 12 a && (not (nat_eq a 6) || not (nat_eq b 3))) f.names.is_formula f.names.is_term ∙ limit_number p r to l limit))
      by_kind (of_quotient l limit other f) =
          evidence_here p s left before now e (λ to. ⊥)
          (stops f.no_way f.is_theta
          (f7 q r (number_of_limit to) l f.names basic out limit (λ vanishes. pivot (sym at_q ∙ vanishes))
          (subst (λ (x : ℚ). Refuses e Div (l -ℚ z r) x) (sym at_q) f.refuses)))
          (λ to none number. absurd none)
          (record {
            enters = λ is. subst (EntersAt (job_of p p.change) None s) (sym f.names.is_q) (enters_at p s q enters);
            brings = λ is. absurd (clash (sym is ∙ ap (λ n. nat_eq n 14) f.names.is_formula));
            steps = λ is. absurd (clash (sym is ∙ ap (λ n. nat_eq n 6) f.names.is_formula));
          })
          (belongs_job p e (ap (λ a. is_between 1 12 a && (not (nat_eq a 6) || not (nat_eq e.term 3))) f.names.is_formula))

  -- of the step of q by what stops it, with the basis that it leads to ahead
  pub of_step : (q : ℕ) (by : BlockingVariable) → PathEnters p s q → PathMoves p s (move_by q by) → by.to ≢ Bs → 1 ≤ left → StepRefused p before s q by now e →
      EvidenceAt p s left before now e
  of_step q by enters moves apart one_left h =
      evidence_ahead p s left before now e (λ to. to ≡ by.to) (move_by q by) moves (basics_of-replaced s by.p q by.to apart) one_left h.stops
      (λ to same number. goes_to p s (move_by q by) e to moves (sym (h.enters number.0)) (sym (h.leaves number.1)) (sym same))
      (record {
        enters = λ is. subst (EntersAt (job_of p p.change) None s) (sym (h.enters is)) (enters_at p s q enters);
        brings = λ is. absurd (clash (sym is ∙ step_brings_not e.formula e.term h.of_call));
        steps = λ is. takes_step p s (move_by q by) moves;
      })
      (belongs_job p e h.of_call)

-- a step after other calls at the same basis
pub step_refused_later : (p : LinearProgram) (before mid now : List Basics) (s : List Status) (q : ℕ) (by : BlockingVariable) (e : Evidence) →
    KeepsWaypoints p.matrix (basics_of s) before (basics_of s) mid → StepRefused p mid s q by now e → StepRefused p before s q by now e
step_refused_later p before mid now s q by e keeps h = record {
  of_call = h.of_call;
  enters = h.enters;
  leaves = h.leaves;
  stops =
      stops_covered (λ to. to ≡ by.to) p (basics_of s ∷ exchanged (basics_of s) by.p q ∷ mid) (basics_of s ∷ exchanged (basics_of s) by.p q ∷ before) s now e (
        inl (within_itself p.matrix (basics_of s)),
        (
          inr (inl (within_itself p.matrix (exchanged (basics_of s) by.p q))),
          Covers-insert p.matrix mid (basics_of s) (exchanged (basics_of s) by.p q) before
              (kept_within p.matrix (basics_of s) before mid keeps),
        ),
      ) h.stops;
}

-- a stop of a call as that of the turn
pub turn_stops : (p : LinearProgram) (s : List Status) (left : ℕ) (before now : List Basics) (why : Stop) (P : Evidence → Type 0) →
    ((e : Evidence) → P e → EvidenceAt p s left before now e) → IfOverflow why P → TurnStops p s left before now (primal_stop_of why)
turn_stops p s left before now (stop.Overflow e) P f h = f e h
turn_stops p s left before now stop.NoMemory P f h = tt
