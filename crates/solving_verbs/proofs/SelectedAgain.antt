-- A setup of whose problem was selected again, beside the setup before.
use Rattle.std.proofs.Common.{◌≡◌, ℕ, Some, Ok, sym, ap, subst, ◌∙◌}
use Rattle.problem_definitions.specs.Problem.{Problem}
use Rattle.problem_file.specs.Filed.{Filed, filed_under}
use Rattle.control_definitions.specs.Cells.{Cells}
use Rattle.selection_definitions.specs.Selection.{selected}
use Rattle.basis_values.specs.Calls.{HasRates}
use Rattle.question_definitions.specs.Answers.{Basis}
use Rattle.run_definitions.specs.State.{choice_of}
use Rattle.lp_model.specs.RatesState.{RatesState}
use Rattle.setup_verbs.specs.Kept.{Setup}
use Rattle.setup_verbs.specs.Standing.{IsReady}
use Rattle.setup_verbs.proofs.Present.{ready_rates}

-- given is the setup with what was selected again, as the call leaves it, and mid is the same as its fields are read
module _ (setup : Setup) {given mid : Setup} (seen : mid ≡ given)
    (others : given ≡ record setup { objective = given.objective; rhs = given.rhs; lp = given.lp }) where
  pub name_kept : mid.name ≡ setup.name
  name_kept = ap (λ (s : Setup). s.name) seen ∙ ap (λ (s : Setup). s.name) others

  pub options_kept : mid.options ≡ setup.options
  options_kept = ap (λ (s : Setup). s.options) seen ∙ ap (λ (s : Setup). s.options) others

  pub basis_kept : mid.basis ≡ setup.basis
  basis_kept = ap (λ (s : Setup). s.basis) seen ∙ ap (λ (s : Setup). s.basis) others

  pub engine_kept : mid.engine ≡ setup.engine
  engine_kept = ap (λ (s : Setup). s.engine) seen ∙ ap (λ (s : Setup). s.engine) others

  module _ (file : Filed) (problem : Problem ℕ) (cells : Cells) (ok : selected problem (choice_of cells setup.options) ≡ Ok given.lp) where
    -- its linear program is what the cells select
    pub now_is : selected problem (choice_of cells setup.options) ≡ Ok mid.lp
    now_is = ok ∙ ap (λ (s : Setup). Ok s.lp) (sym seen)

    -- and its rates are of it
    pub rates_again : IsReady file setup → filed_under setup.name file ≡ Some problem → HasRates mid.engine.matrix mid.engine.basics mid.lp mid.basis
    rates_again ready on_file =
        subst (λ (e : RatesState). HasRates e.matrix e.basics mid.lp mid.basis) (sym engine_kept)
        (subst (λ (b : Basis). HasRates setup.engine.matrix setup.engine.basics mid.lp b) (sym basis_kept)
        (ready_rates file setup ready problem on_file cells mid.lp now_is))
