-- What an eta file stands for.
--     Inverse                      a matrix, a set of basics, and the exchanges that led to it from the rows
--     ways_of f                    the sets of basics that the file has passed through: number w is the one after the first w - 1 etas
--     file_state f                 how the rates of the file stand
--     IsDirectionAfter f n j xs    xs is the direction of j at the set after the first n etas
--     IsNextEta f p q v es         an exchange of p for q is one at the basics of f, with the pivot v and the entries es
--     IsRateAt f i k v            v is the rate of i at k, and 0 where k is basic
--     IsColumnStop f stop          the stop is an overflow that the column of a nonbasic may come to
--     IsAppended f p q g           g has one eta more, of the exchange of p for q
use Rattle.std.specs.Prelude.{◌≡◌, ◌≢◌, ℕ, true, false, List, [], ◌∷◌, ◌++◌, length, take}
use Rattle.exact_values.specs.Rational.{ℚ, zero_ℚ}
use Rattle.lp_definitions.specs.LinearProgram.{Matrix, Vector, value_at}
use Rattle.lp_definitions.specs.Basis.{Basics, is_in, IsBasic, IsNonbasic, IsDirectionOf, exchanged, row_basics}
use Rattle.lp_definitions.specs.RatesEvidence.{ExchangeRefused}
use Rattle.lp_model.specs.RatesCalls.{IfOverflow}
use Rattle.lp_model.specs.RatesState.{RatesState}
use Rattle.lp_model.specs.declared.Stop.{Stop}
use Rattle.eta_file.specs.Prefixes.{entries_to, prefixes, after}
use Rattle.eta_file.specs.declared.eta.EtaEntry.{EtaEntry}
use Rattle.eta_file.specs.declared.eta.StoredEta.{StoredEta}

pub record Inverse : Type 0 where
  pub matrix : Matrix
  pub basics : Basics
  pub etas : List StoredEta

abbrev pub ways_of : Inverse → List Basics
ways_of f = prefixes (row_basics f.matrix) f.etas

abbrev pub file_state : Inverse → RatesState
file_state f = record { matrix = f.matrix; basics = f.basics; waypoints = ways_of f }

abbrev pub IsDirectionAfter : Inverse → ℕ → ℕ → List ℚ → Type 0
IsDirectionAfter f n j xs = IsDirectionOf f.matrix (after (row_basics f.matrix) (take n f.etas)) j (value_at xs)

pub record IsAppended (f : Inverse) (p q : ℕ) (g : Inverse) : Type 0 where
  pub same_matrix : g.matrix ≡ f.matrix
  pub is_exchanged : g.basics ≡ exchanged f.basics p q
  pub eta : StoredEta
  pub is_p : eta.p ≡ p
  pub is_q : eta.q ≡ q
  pub one_more : g.etas ≡ f.etas ++ eta ∷ []

-- the entries are the numbers of the direction of q at the basics, where they are not 0
pub record IsNextEta (f : Inverse) (p q : ℕ) (pivot : ℚ) (entries : List EtaEntry) : Type 0 where
  pub leaves : IsBasic f.matrix f.basics p
  pub enters : IsNonbasic f.matrix f.basics q
  pub direction : List ℚ
  pub is_direction : IsDirectionOf f.matrix f.basics q (value_at direction)
  pub apart : value_at direction p ≢ zero_ℚ
  pub is_pivot : pivot ≡ value_at direction p
  pub are_entries : entries ≡ entries_to f.basics (value_at direction) (length f.basics)

pub record IsRateAt (f : Inverse) (i k : ℕ) (v : ℚ) : Type 0 where
  pub at_basic : is_in f.basics k ≡ true → v ≡ zero_ℚ
  pub at_nonbasic : is_in f.basics k ≡ false → (d : Vector) → IsDirectionOf f.matrix f.basics k d → v ≡ d i

abbrev pub IsColumnStop : Inverse → Stop → Type 0
IsColumnStop f stop = IfOverflow stop (ExchangeRefused f.matrix (f.basics ∷ ways_of f) f.basics (ways_of f))
