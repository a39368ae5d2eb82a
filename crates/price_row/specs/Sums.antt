-- Sums of products, term by term, and when one product more is refused.
--     IsStepRefused sum x y r      the product of x and y is refused, or the sum with it
--     weighted p xs es             the rates of the entries at other variables than p, each times the value that xs has there
--     products xs c                the numbers of a column, each times the value that xs has at its row
--     IsWeightedRefused p s xs es r    the sum of s and the weighted rates is refused at one of these entries
--     IsProductsRefused xs c r         the sum of the products is refused at one of these numbers
use Rattle.std.specs.Prelude.{◌≡◌, ◌≢◌, ◌<◌, ℕ, List, [], ◌∷◌, length, map, take, slice_index_or, nat_eq, if◌then◌else◌, IsTrue}
use Rattle.exact_values.specs.Rational.{ℚ, zero_ℚ, ◌*ℚ◌}
use Rattle.frac128.specs.declared.Op.{Op}
use Rattle.frac128.specs.declared.Op.TheVariants.{Add, Mul}
use Rattle.frac128.specs.declared.Refused.{Refused}
use Rattle.frac128.specs.Operations.{refuses}
use Rattle.lp_definitions.specs.LinearProgram.{value_at}
use Rattle.lp_definitions.specs.RatesEvidence.{sum_from}
use Rattle.lp_definitions.specs.declared.Entry.{Entry}
use Rattle.eta_file.specs.declared.eta.EtaEntry.{EtaEntry}

-- the operation is this one, on these operands, and it refuses them
pub record IsRefused (op : Op) (left right : ℚ) (r : Refused) : Type 0 where
  pub is_op : r.op ≡ op
  pub is_left : r.left ≡ left
  pub is_right : r.right ≡ right
  pub refused : IsTrue (refuses op left right)

pub data IsStepRefused (sum x y : ℚ) (r : Refused) : Type 0 where
  by_product : IsRefused Mul x y r → IsStepRefused sum x y r
  by_sum : IsRefused Add sum (x *ℚ y) r → IsStepRefused sum x y r

abbrev pub weighted : ℕ → List ℚ → List EtaEntry → List ℚ
weighted p xs [] = []
weighted p xs (e ∷ es) = if nat_eq e.i p then weighted p xs es else (value_at xs e.i *ℚ e.rate) ∷ weighted p xs es

abbrev pub products : List ℚ → List Entry → List ℚ
products xs c = map (λ (e : Entry). value_at xs e.row *ℚ e.value) c

-- after the entries before it, the product of this one, or the sum with it, is refused
pub record IsWeightedRefused (p : ℕ) (start : ℚ) (xs : List ℚ) (es : List EtaEntry) (r : Refused) : Type 0 where
  pub place : ℕ
  pub entry : EtaEntry
  pub within : place < length es
  pub is_entry : (d : EtaEntry) → slice_index_or es place d ≡ entry
  pub stays : entry.i ≢ p
  pub refused : IsStepRefused (sum_from start (weighted p xs (take place es))) (value_at xs entry.i) entry.rate r

-- after the numbers before it, the product of this one, or the sum with it, is refused
pub record IsProductsRefused (xs : List ℚ) (c : List Entry) (r : Refused) : Type 0 where
  pub place : ℕ
  pub entry : Entry
  pub within : place < length c
  pub is_entry : (d : Entry) → slice_index_or c place d ≡ entry
  pub refused : IsStepRefused (sum_from zero_ℚ (products xs (take place c))) (value_at xs entry.row) entry.value r
