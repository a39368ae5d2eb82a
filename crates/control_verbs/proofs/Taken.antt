-- The columns that are read.
use Rattle.std.proofs.Common.{◌≡◌, ℕ, ◌<◌, List, take, length, sym, arith}
use Rattle.std.proofs.lemmas.List.{take_all}

-- all columns are read where there are fewer
pub all_taken : (n : ℕ) (xs : List ℕ) → length xs < n → xs ≡ take n xs
all_taken n xs short = sym (take_all n xs (omega arith))
