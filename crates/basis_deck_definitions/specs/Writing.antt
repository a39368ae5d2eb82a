-- The basis deck that is written for a basis.
--     basic_columns, nonbasic_rows     ascending; a basis has as many of the one as of the other
--     raised lp s                      the columns at their upper limit that don't open there
--     basis_deck problem lp s          the cards
use Rattle.std.specs.Prelude.{ℕ, ◌+◌, ◌-◌, Bool, true, false, not, ◌&&◌, List, [], ◌∷◌, ◌++◌, map, filter, zip, codes, if◌then◌else◌}
use Rattle.lp_definitions.specs.LinearProgram.{LinearProgram, numbers_from}
use Rattle.lp_definitions.specs.Basis.{is_basic, status_of, opening_at_of}
use Rattle.lp_definitions.specs.declared.Status.{Status}
use Rattle.lp_definitions.specs.declared.Status.TheVariants.{Bs, Ll, Ul, Fr}
use Rattle.problem_definitions.specs.Names.{Name, name_at}
use Rattle.problem_definitions.specs.Problem.{Problem, row_names, group_names}
use Rattle.deck_definitions.specs.Written.{name_card, data_card}

abbrev pub is_up : Status → Bool
is_up Bs = false
is_up Ll = false
is_up Ul = true
is_up Fr = false

module _ (lp : LinearProgram) (s : List Status) where
  abbrev pub basic_columns : List ℕ
  basic_columns = filter (λ k. is_basic (status_of s k)) (numbers_from (lp.rows + 1) lp.cols)

  abbrev pub nonbasic_rows : List ℕ
  nonbasic_rows = filter (λ k. not (is_basic (status_of s k))) (numbers_from 1 lp.rows)

  -- it stands at its upper limit, and doesn't open there
  abbrev pub is_raised : ℕ → Bool
  is_raised k = is_up (status_of s k) && not (is_up (opening_at_of lp k))

  abbrev pub raised : List ℕ
  raised = filter is_raised (numbers_from (lp.rows + 1) lp.cols)

module _ (problem : Problem ℕ) (lp : LinearProgram) where
  abbrev pub row_name : ℕ → Name
  row_name k = name_at (row_names problem) k

  abbrev pub column_name : ℕ → Name
  column_name k = name_at (group_names problem.columns) (k - lp.rows)

  abbrev pub limit_card : ℕ → List ℕ
  limit_card k = data_card (codes "UL") (column_name k) [] []

  module _ (s : List Status) where
    -- a basic column with a nonbasic row, which stands at its upper or its lower limit
    abbrev pub exchange_card : ℕ × ℕ → List ℕ
    exchange_card pair = data_card (if is_up (status_of s pair.1) then codes "XU" else codes "XL") (column_name pair.0) (row_name pair.1) []

    -- The k-th basic column stands beside the k-th nonbasic row; what is left opens as it stands.
    unfoldable pub basis_deck : List (List ℕ)
    basis_deck =
        name_card problem.name ∷
        (map exchange_card (zip (basic_columns lp s) (nonbasic_rows lp s)) ++ map limit_card (raised lp s) ++ codes "ENDATA" ∷ [])
