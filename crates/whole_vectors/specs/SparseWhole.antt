-- Vectors of whole numbers most of which are 0.
--     fractions_of a               the numbers of a vector, as fractions
--     IsSparse a                   its numbers that aren't 0 are listed, and each number fits
use Rattle.std.specs.Prelude.{All, List}
use Rattle.exact_values.specs.Rational.{ℚ}
use Rattle.frac128.specs.Terms.{Fits}
use Rattle.whole_vectors.specs.Words.{wholes}
use Rattle.whole_vectors.specs.Ranks.{AreListed}
use Rattle.whole_vectors.specs.declared.sparse_wholes.SparseWholes.TheInside.{Inside}

abbrev pub fractions_of : Inside → List ℚ
fractions_of a = wholes a.numbers.items

pub record IsSparse (a : Inside) : Type 0 where
  pub listed : AreListed a.numbers.items a.listed.items a.ranks.items
  pub fit : All Fits a.numbers.items
