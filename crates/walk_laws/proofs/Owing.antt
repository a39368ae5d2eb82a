-- What an optimal verdict waits for that no SOLUTION has shown yet.
--     ProvesObjective ..           a point is best in what the cells select, as prices prove, and has this objective
--     Owes C Holds pending ..      what holds, or holds as soon as what is pending is proved, and the checker takes the word of its check
--     SelectsSame ..               the setup is the same, and the cells select the same of it
use Rattle.std.proofs.Common.{◌≡◌, true, List, refl, sym, ap, ap₂, subst, ◌∙◌}
use Rattle.std.specs.Prelude.{Option, Some, None}
use Rattle.std.proofs.lemmas.Option.{same_Some}
use Rattle.exact_values.specs.Rational.{ℚ}
use Rattle.problem_definitions.specs.Names.{Name}
use Rattle.problem_definitions.specs.Valid.{IsProblem}
use Rattle.control_definitions.specs.Cells.{Cells}
use Rattle.selection_definitions.specs.Selection.{selected}
use Rattle.question_definitions.specs.Answers.{Basis}
use Rattle.run_definitions.specs.State.{Present, gone_through, choice_of}
use Rattle.soundness_laws.specs.Truth.{PresentProgram, IsBestObjective}
use Rattle.walk_definitions.specs.Checkers.{Checker}
use Rattle.walk_definitions.specs.Walker.{Pending}

pub record ProvesObjective (setup : Option Present) (cells : Cells) (objective : ℚ) : Type 0 where
  pub program : PresentProgram setup cells
  pub best : IsBestObjective program.lp objective

abbrev pub Owes : Checker → Type 0 → Option Pending → Option Present → Cells → Type 0
Owes C Holds None setup cells = Holds
Owes C Holds (Some pending) setup cells = ProvesObjective setup cells pending.objective → C.takes pending.check ≡ true → Holds

-- where nothing is pending it holds
pub holds_settled : (C : Checker) (Holds : Type 0) (pending : Option Pending) (setup : Option Present) (cells : Cells) → Owes C Holds pending setup cells →
    pending ≡ None → Holds
holds_settled C Holds None setup cells owed none = owed
holds_settled C Holds (Some pending) setup cells owed none = absurd (cc none)

pub record SelectsSame (setup : Option Present) (cells : Cells) (later : Option Present) (moved : Cells) : Type 0 where
  pub setups : later ≡ setup
  pub objectives : moved.xobj ≡ cells.xobj
  pub rhs : moved.xrhs ≡ cells.xrhs

module _ (setup : Option Present) (cells : Cells) (later : Option Present) (moved : Cells) (same : SelectsSame setup cells later moved) where
  abbrev program_before : PresentProgram later moved → PresentProgram setup cells
  program_before program = record {
    present = program.present;
    is_setup = sym same.setups ∙ program.is_setup;
    lp = program.lp;
    is_selected =
        ap₂ (λ (a b : Option Name). selected program.present.problem (record { objective = a; rhs = b; options = program.present.options }))
        (sym same.objectives) (sym same.rhs) ∙ program.is_selected;
    is_problem = program.is_problem;
    is_linear_program = program.is_linear_program;
  }

  pub proves_before : (objective : ℚ) → ProvesObjective later moved objective → ProvesObjective setup cells objective
  proves_before objective proves = record { program = program_before proves.program; best = proves.best }

-- what is owed is owed still where the cells select the same, and more holds
pub owes_on : (C : Checker) (Holds More : Type 0) (pending : Option Pending) (setup : Option Present) (cells : Cells) (later : Option Present) (moved : Cells) →
    Owes C Holds pending setup cells → More →
    ((p : Pending) → pending ≡ Some p → SelectsSame setup cells later moved) → Owes C (Holds × More) pending later moved
owes_on C Holds More None setup cells later moved owed more same = (owed, more)
owes_on C Holds More (Some p) setup cells later moved owed more same =
    λ proves takes. (owed (proves_before setup cells later moved (same p refl) p.objective proves) takes, more)

-- what the cells select after a path, they selected before it
abbrev pub program_before_path : (setup : Option Present) (cells : Cells) (present : Present) (bases : List Basis) → setup ≡ Some present →
    PresentProgram (Some (gone_through bases present)) cells →
    PresentProgram setup cells
program_before_path setup cells present bases set program = record {
  present = present;
  is_setup = set;
  lp = program.lp;
  is_selected =
      ap (λ (p : Present). selected p.problem (choice_of cells p.options)) (same_Some (gone_through bases present) program.present program.is_setup)
      ∙ program.is_selected;
  is_problem = subst (λ (p : Present). IsProblem p.problem) (sym (same_Some (gone_through bases present) program.present program.is_setup)) program.is_problem;
  is_linear_program = program.is_linear_program;
}
