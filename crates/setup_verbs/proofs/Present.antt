-- The setup of a state, with the problem that is on file, and what is selected of it.
use Rattle.std.proofs.Common.{◌≡◌, ℕ, List, [], ◌∷◌, ◌++◌, Option, Some, None, IfSome, IsSome, Ok, length, refl, sym, ap, subst, ◌∙◌}
use Rattle.std.proofs.lemmas.Option.{same_Some}
use Rattle.lp_definitions.specs.LinearProgram.{Matrix, LinearProgram}
use Rattle.simplex_definitions.specs.Path.{last_of}
use Rattle.basis_values.specs.Calls.{HasRates, LieIn}
use Rattle.problem_definitions.specs.Problem.{Problem}
use Rattle.problem_file.specs.Filed.{Filed, filed_under}
use Rattle.control_definitions.specs.Program.{SetupOptions}
use Rattle.control_definitions.specs.Cells.{Cells}
use Rattle.selection_definitions.specs.Choice.{Choice}
use Rattle.selection_definitions.specs.Selection.{matrix_of, selected}
use Rattle.question_definitions.specs.Answers.{Basis}
use Rattle.run_definitions.specs.State.{Present, choice_of}
use Rattle.run_machine.specs.Choosing.{IsSelected}
use Rattle.setup_verbs.specs.Kept.{Setup, chosen}
use Rattle.setup_verbs.specs.Standing.{IsReady, ShowsSetup}
use Rattle.setup_verbs.proofs.Selected.{same_matrix, no_change, rates_carry}

-- ---- lists of bases

-- all up to the last
before_last : (s : Basis) (bases : List Basis) → (initial : List Basis) × (s ∷ bases ≡ initial ++ last_of s bases ∷ [])
before_last s [] = ([], refl)
before_last s (next ∷ bases) = let rest = before_last next bases in (s ∷ rest.0, ap (λ xs. s ∷ xs) rest.1)

-- ---- the setup of the state, with the problem that is on file

abbrev pub present_with : Problem ℕ → SetupOptions → Basis → List Basis → Present
present_with problem options opening steps = record { problem = problem; options = options; opening = opening; steps = steps }

pub record IsPresentOf (problem : Problem ℕ) (setup : Setup) (viewed : Option Present) : Type 0 where
  pub opening : Basis
  pub steps : List Basis
  pub is_viewed : viewed ≡ Some (present_with problem setup.options opening steps)
  pub reached : last_of opening steps ≡ setup.basis
  pub lie : LieIn (matrix_of problem) setup.engine.waypoints (opening ∷ steps)
  pub initial : List Basis
  pub ends : opening ∷ steps ≡ initial ++ setup.basis ∷ []

pub one_problem : (file : Filed) (setup : Setup) (a b : Problem ℕ) → filed_under setup.name file ≡ Some a → filed_under setup.name file ≡ Some b → a ≡ b
one_problem file setup a b first second = same_Some a b (sym first ∙ second)

pub present_at : (file : Filed) (setup : Setup) (viewed : Option Present) (problem : Problem ℕ) → filed_under setup.name file ≡ Some problem →
    ShowsSetup file (Some setup) viewed → IsPresentOf problem setup viewed
present_at file setup viewed problem on_file there =
    let present = there.0 in
    let p = there.2 in
    let same : present.problem ≡ problem = one_problem file setup present.problem problem p.on_file on_file in
    let b = before_last present.opening present.steps in
    record {
      opening = present.opening;
      steps = present.steps;
      is_viewed = there.1 ∙ ap (λ (q : Problem ℕ). Some (present_with q present.options present.opening present.steps)) same
          ∙ ap (λ (o : SetupOptions). Some (present_with problem o present.opening present.steps)) p.has_options;
      reached = p.reached;
      lie = subst (λ (q : Problem ℕ). LieIn (matrix_of q) setup.engine.waypoints (present.opening ∷ present.steps)) same p.lie;
      initial = b.0;
      ends = b.1 ∙ ap (λ s. b.0 ++ s ∷ []) p.reached;
    }

module _ (problem : Problem ℕ) (setup : Setup) (viewed : Option Present) (p : IsPresentOf problem setup viewed) (lp : LinearProgram)
    (same : matrix_of problem ≡ lp.matrix) where
  -- the waypoints lie in a list that ends with the basis
  pub lie_up_to : LieIn lp.matrix setup.engine.waypoints (p.initial ++ setup.basis ∷ [])
  lie_up_to =
      subst (λ (a : Matrix). LieIn a setup.engine.waypoints (p.initial ++ setup.basis ∷ [])) same
      (subst (λ (bs : List Basis). LieIn (matrix_of problem) setup.engine.waypoints bs) p.ends p.lie)

-- ---- a setup

-- the linear program has the rows and the columns of the problem
pub as_many_rows : (problem : Problem ℕ) (choice : Choice) (p : LinearProgram) → selected problem choice ≡ Ok p → length problem.rows ≡ p.matrix.rows
as_many_rows problem choice p e = ap (λ (a : Matrix). a.rows) (same_matrix problem choice p e)

pub as_many_columns : (problem : Problem ℕ) (choice : Choice) (p : LinearProgram) → selected problem choice ≡ Ok p → length problem.columns ≡ p.matrix.cols
as_many_columns problem choice p e = ap (λ (a : Matrix). a.cols) (same_matrix problem choice p e)

-- the setup of a machine is ready
pub ready_of : (file : Filed) (kept : Option Setup) (setup : Setup) → kept ≡ Some setup → IfSome kept (IsReady file) → IsReady file setup
ready_of file kept setup is h = subst (λ (o : Option Setup). IfSome o (IsReady file)) is h

-- its problem is on file
pub stays_on_file : (file : Filed) (setup : Setup) → IsReady file setup → IsSome (filed_under setup.name file)
stays_on_file file setup ready = subst IsSome (sym ready.on_file) refl

module _ (file : Filed) (setup : Setup) (r : IsReady file setup) (problem : Problem ℕ) (on_file : filed_under setup.name file ≡ Some problem) where
  own_selected : selected problem (chosen setup) ≡ Ok setup.lp
  own_selected = subst (λ (q : Problem ℕ). selected q (chosen setup) ≡ Ok setup.lp) (one_problem file setup r.problem problem r.on_file on_file) r.is_selected

  -- the setup's linear program has the rows and the columns of the problem
  pub ready_rows : length problem.rows ≡ setup.lp.matrix.rows
  ready_rows = as_many_rows problem (chosen setup) setup.lp own_selected

  pub ready_columns : length problem.columns ≡ setup.lp.matrix.cols
  ready_columns = as_many_columns problem (chosen setup) setup.lp own_selected

  pub ready_unchanged : setup.lp.change ≡ None
  ready_unchanged = no_change problem (chosen setup) setup.lp own_selected

  module _ (cells : Cells) (lp : LinearProgram) (ok : selected problem (choice_of cells setup.options) ≡ Ok lp) where
    -- the setup's rates are those of what is selected now
    pub ready_rates : HasRates setup.engine.matrix setup.engine.basics lp setup.basis
    ready_rates =
        rates_carry problem (chosen setup)
        (choice_of cells setup.options) setup.lp lp refl own_selected ok setup.engine.matrix setup.engine.basics setup.basis r.rates

    -- with what is selected now, and rates of it, the setup is ready
    pub ready_solved : (new : Setup) → new.name ≡ setup.name → chosen new ≡ choice_of cells setup.options → new.lp ≡ lp →
        HasRates new.engine.matrix new.engine.basics lp new.basis → IsReady file new
    ready_solved new same_name same_choice same_lp has = record {
      problem = problem;
      on_file = ap (λ name. filed_under name file) same_name ∙ on_file;
      is_selected = ap (λ (c : Choice). selected problem c) same_choice ∙ ok ∙ ap Ok (sym same_lp);
      rates = subst (λ (p : LinearProgram). HasRates new.engine.matrix new.engine.basics p new.basis) (sym same_lp) has;
    }

    pub now_selected : (new : Setup) → new.name ≡ setup.name → new.options ≡ setup.options → new.lp ≡ lp →
        IsSelected file new.name (choice_of cells new.options) new.lp
    now_selected new same_name same_options same_lp = λ other on.
        let same : problem ≡ other = one_problem file setup problem other on_file (ap (λ name. filed_under name file) (sym same_name) ∙ on) in
        ap (λ o. selected other (choice_of cells o)) same_options ∙ subst (λ (q : Problem ℕ). selected q (choice_of cells setup.options) ≡ Ok lp) same ok
        ∙ ap Ok (sym same_lp)
