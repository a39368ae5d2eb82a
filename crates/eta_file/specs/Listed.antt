-- The list of the variables of a set.
--     listed_of b                  the variables of a set, ascending
--     place_in ks k                how many of an ascending list are less than k
--     IsListed a                   the list that is kept is that of the marks
use Rattle.std.specs.Prelude.{◌≡◌, ℕ, List, length, filter, nat_lt}
use Rattle.std.specs.List.{prefix_len}
use Rattle.lp_definitions.specs.LinearProgram.{numbers_from}
use Rattle.lp_definitions.specs.Basis.{Basics, is_in}
use Rattle.eta_file.specs.declared.basic_set.BasicSet.TheInside.{Inside}

abbrev pub listed_of : Basics → List ℕ
listed_of b = filter (is_in b) (numbers_from 1 (length b))

abbrev pub place_in : List ℕ → ℕ → ℕ
place_in ks k = prefix_len (λ i. nat_lt i k) ks

abbrev pub IsListed : Inside → Type 0
IsListed a = a.listed.items ≡ listed_of a.marks.items
