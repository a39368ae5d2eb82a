-- From what shows a refusal to evidence of a run.
use Rattle.std.proofs.Common.{◌≡◌, ℕ, zero, suc, ◌<◌, ◌≤◌, inl, inr, List, [], ◌∷◌, ◌++◌, map, length, true, false, refl, sym, ◌∙◌, ap, subst, arith}
use Rattle.std.specs.Prelude.{Option, None, IsTrue, Contains, slice_index_or, not, ◌&&◌, ◌||◌, nat_eq}
use Rattle.exact_values.specs.Rational.{ℚ, zero_ℚ}
use Rattle.simplex_definitions.specs.Evidence.{ShowsRefusal, IsOfMove, GoesTo}
use Rattle.simplex_definitions.specs.Statements.{Pararhs, is_between, belongs, thetas_of, program_at}
use Rattle.lp_definitions.specs.Basis.{Basics, basics_of}
use Rattle.lp_definitions.specs.LinearProgram.{LinearProgram, IsLinearProgram}
use Rattle.lp_definitions.specs.Waypoints.{IsWithinOne, waypoint}
use Rattle.lp_definitions.specs.declared.Change.{Change}
use Rattle.lp_definitions.specs.declared.Evidence.{Evidence}
use Rattle.lp_definitions.specs.declared.Status.{Status}
use Rattle.lp_laws.proofs.Values.{clash}
use Rattle.lp_laws.proofs.WaypointLaws.{Covers, Covers-all, within_itself}
use Rattle.basis_values.specs.Calls.{StopsAt, job_of, is_of_point, PointRefused}
use Rattle.bounded_primal.specs.Calls.{EvidenceHere}
use Rattle.bounded_primal.proofs.StatementEvidence.{evidence_here}
use Rattle.para_rhs.specs.Refusals.{RunRefused}
use Rattle.para_rhs.proofs.Families.{family_at_zero}

-- a formula that names nothing of a move
abbrev pub is_quiet : ℕ → Type 0
is_quiet n = (is_between 7 9 n ≡ false) × (nat_eq n 14 ≡ false)

module _ (p : LinearProgram) (shift : List ℚ) (s : List Status) (before after : List Basics) (e : Evidence) where
  pub theta_is : (from : ℚ) (ends : List ℚ) → e.theta ≡ zero_ℚ → Contains (thetas_of (Pararhs p shift from) ends) e.theta
  theta_is from ends none = (0, omega arith, sym none)

  pub quiet_move : (from : ℚ) (breakpoint : Option ℚ) → is_quiet e.formula → IsOfMove (Pararhs p shift from) breakpoint s e
  quiet_move from breakpoint quiet =
      record { enters = λ is. absurd (clash (sym is ∙ quiet.0)); brings = λ is. absurd (clash (sym is ∙ quiet.1)); steps = λ is. tt }

  own_within : (xs : List (List Status)) → IsWithinOne p.matrix (basics_of s) (map basics_of (xs ++ s ∷ []))
  own_within [] = inl (within_itself p.matrix (basics_of s))
  own_within (x ∷ xs) = inr (own_within xs)

  -- what shows it wherever the waypoints lie
  pub run_refused : e.way ≤ length after → e.theta ≡ zero_ℚ → is_quiet e.formula → ((from : ℚ) → IsTrue (belongs (Pararhs p shift from) e)) →
      ((from : ℚ) (wider : List Basics) → Covers p.matrix (basics_of s ∷ before) wider → (Goes : Status → Type 0) →
      ShowsRefusal (Pararhs p shift from) Goes wider s (waypoint (basics_of s) after e.way) e) →
      RunRefused p shift s before after e
  run_refused is_way none quiet of_run shows from breakpoint left = record {
    is_way = is_way;
    shows = λ ends earlier lie. record {
      before = earlier;
      reached = refl;
      ahead = None;
      is_ahead = tt;
      shows =
          shows from (map basics_of (earlier ++ s ∷ [])) (own_within earlier, Covers-all p.matrix before (map basics_of (earlier ++ s ∷ [])) lie)
          (GoesTo (Pararhs p shift from) breakpoint s e);
      is_theta = theta_is from ends none;
      of_move = quiet_move from breakpoint quiet;
      of_statement = of_run from;
    };
  }

  -- a program without a change row is that at 0
  pub is_at_zero : IsLinearProgram p → p.change ≡ None → (from : ℚ) → e.theta ≡ zero_ℚ → record p { change = None } ≡ program_at (Pararhs p shift from) e.theta
  is_at_zero lawful no_change from none =
      ap (λ (o : Option Change). record p { change = o }) (sym no_change) ∙ family_at_zero p shift lawful e.theta none

  pub only_zero : Contains (zero_ℚ ∷ []) e.theta → e.theta ≡ zero_ℚ
  only_zero h = first h.0 h.1 h.2
    where
      first : (i : ℕ) → i < 1 → slice_index_or (zero_ℚ ∷ []) i e.theta ≡ e.theta → e.theta ≡ zero_ℚ
      first zero low same = sym same
      first (suc i) low same = absurd (omega (arith, low))

-- ---- calls at the basis

point_number : (n : ℕ) → (is_between 1 5 n || is_between 10 12 n) ≡ true → is_between 1 12 n ≡ true
point_number n h = grind arith

point_quiet : (n : ℕ) → (is_between 1 5 n || is_between 10 12 n) ≡ true → is_quiet n
point_quiet n h = (grind arith, grind arith)

point_belongs : (n term : ℕ) → (is_between 1 5 n || is_between 10 12 n) ≡ true →
    ((is_between 1 14 n || nat_eq n 18) && (not (nat_eq n 6) || not (nat_eq term 3))) ≡ true
point_belongs n term h = grind arith

module _ (p : LinearProgram) (shift : List ℚ) (lawful : IsLinearProgram p) (no_change : p.change ≡ None) (s : List Status) (before now : List Basics)
    (e : Evidence) where
  pub no_theta : (Goes : Status → Type 0) (around : List Basics) → StopsAt Goes p around s now e → e.theta ≡ zero_ℚ
  no_theta Goes around stops =
      only_zero p shift s before now e (subst (λ (o : Option Change). Contains (thetas_of (job_of p o) []) e.theta) no_change stops.is_theta)

  pub of_stops : (from : ℚ) (breakpoint : Option ℚ) (left : ℕ) → is_between 1 12 e.formula ≡ true → IsOfMove (Pararhs p shift from) breakpoint s e →
      IsTrue (belongs (Pararhs p shift from) e) →
      StopsAt (λ to. ⊥) p (basics_of s ∷ before) s now e → EvidenceHere (Pararhs p shift from) p.matrix breakpoint left s before now e
  of_stops from breakpoint left number of_move of_run stops =
      let none = no_theta (λ to. ⊥) (basics_of s ∷ before) stops in
      evidence_here p None (Pararhs p shift from) s e (is_at_zero p shift s before now e lawful no_change from none) number no_change breakpoint left before now
      (λ ends. theta_is p shift s before now e from ends none) of_move of_run (λ to. ⊥) (λ to goes is. absurd goes) stops

  -- a point, prices, and the rates of a row or a column
  pub of_point : PointRefused p before s now e → RunRefused p shift s before now e
  of_point r from breakpoint left =
      let number : (is_between 1 5 e.formula || is_between 10 12 e.formula) ≡ true =
      subst (λ (o : Option Change). IsTrue (is_of_point o e.formula)) no_change r.of_call in
      of_stops from breakpoint left (point_number e.formula number) (quiet_move p shift s before now e from breakpoint (point_quiet e.formula number))
      (point_belongs e.formula e.term number) r.stops
