-- Where the cards of a basis deck put variables.
--     Code, code_words             what field 1 says
--     Placing, placings_by         a variable with the status that a card gives it
--     HasNames problem lp          the problem has as many rows and columns as the linear program
use Rattle.std.specs.Prelude.{◌≡◌, ℕ, ◌+◌, List, [], ◌∷◌, codes, length}
use Rattle.lp_definitions.specs.LinearProgram.{LinearProgram}
use Rattle.lp_definitions.specs.declared.Status.{Status}
use Rattle.lp_definitions.specs.declared.Status.TheVariants.{Bs, Ll, Ul}
use Rattle.card_definitions.specs.Fields.{Reading}
use Rattle.basis_deck_definitions.specs.declared.Code.{Code}
use Rattle.basis_deck_definitions.specs.declared.Code.TheVariants.{Exchanges, Stands}
use Rattle.problem_definitions.specs.Names.{Name, number_in}
use Rattle.problem_definitions.specs.Problem.{Problem, row_names, group_names}

abbrev pub code_words : List (List ℕ × Code)
code_words = (codes "XU", Exchanges Ul) ∷ (codes "XL", Exchanges Ll) ∷ (codes "UL", Stands Ul) ∷ (codes "LL", Stands Ll) ∷ []

pub record HasNames (problem : Problem ℕ) (lp : LinearProgram) : Type 0 where
  pub rows : length problem.rows ≡ lp.rows
  pub columns : length problem.columns ≡ lp.cols

-- a variable and its status
pub record Placing : Type 0 where
  pub variable : ℕ
  pub status : Status

module _ (problem : Problem ℕ) where
  -- rows are numbered first, and columns after them; a name that isn't there has no number of its own
  abbrev pub row_variable : Name → ℕ
  row_variable name = number_in (row_names problem) name

  abbrev pub column_variable : Name → ℕ
  column_variable name = length problem.rows + number_in (group_names problem.columns) name

  -- what a card says, the column first
  abbrev pub placings_by : Reading → Code → List Placing
  placings_by card (Exchanges to) =
      record { variable = column_variable card.name1; status = Bs } ∷ record { variable = row_variable card.name2; status = to } ∷ []
  placings_by card (Stands at) = record { variable = column_variable card.name1; status = at } ∷ []
