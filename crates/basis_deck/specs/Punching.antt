-- What is left of a basis's deck.
--     columns_from, rows_from, raised_from     the basic columns, the nonbasic rows and the raised columns after so many columns or rows
--     exchanges_from, limits_from              the cards that are still to be written
--     IsNextRow lp s i r                       r is the first nonbasic row after row i
use Rattle.std.specs.Prelude.{◌≡◌, ℕ, ◌+◌, ◌-◌, ◌<◌, ◌≤◌, not, Bool, List, ◌∷◌, map, filter, zip}
use Rattle.lp_definitions.specs.LinearProgram.{LinearProgram, numbers_from}
use Rattle.lp_definitions.specs.Basis.{is_basic, status_of}
use Rattle.lp_definitions.specs.declared.Status.{Status}
use Rattle.problem_definitions.specs.Problem.{Problem}
use Rattle.basis_deck_definitions.specs.Writing.{is_raised, exchange_card, limit_card}

-- of n numbers that begin with m, those after the first i that pass
abbrev pub passing : (ℕ → Bool) → ℕ → ℕ → ℕ → List ℕ
passing p m n i = filter p (numbers_from (m + i) (n - i))

module _ (lp : LinearProgram) (s : List Status) where
  abbrev pub columns_from : ℕ → List ℕ
  columns_from c = passing (λ k. is_basic (status_of s k)) (lp.rows + 1) lp.cols c

  abbrev pub rows_from : ℕ → List ℕ
  rows_from i = passing (λ k. not (is_basic (status_of s k))) 1 lp.rows i

  abbrev pub raised_from : ℕ → List ℕ
  raised_from c = passing (is_raised lp s) (lp.rows + 1) lp.cols c

  pub record IsNextRow (i r : ℕ) : Type 0 where
    pub after : i < r
    pub at_most : r ≤ lp.rows
    pub next : rows_from i ≡ r ∷ rows_from r

module _ (problem : Problem ℕ) (lp : LinearProgram) (s : List Status) where
  abbrev pub exchanges_from : ℕ → ℕ → List (List ℕ)
  exchanges_from c i = map (exchange_card problem lp s) (zip (columns_from lp s c) (rows_from lp s i))

  abbrev pub limits_from : ℕ → List (List ℕ)
  limits_from c = map (limit_card problem lp) (raised_from lp s c)
