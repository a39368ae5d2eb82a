use Rattle.std.proofs.Common.{◌≡◌, ◌≤◌, ◌-◌, length, set, arith, sym, subst}
use Rattle.exact_values.specs.Rational.{one_ℚ}
use Rattle.eta_file.proofs.FileLaws.{some_map}
use Rattle.price_row.specs.Known.{IsUnit}
use Rattle.price_row.proofs.NumberRows.{unit_at}
use Rattle.price_row.proofs.words.SparseWordsNumbers.begin.Goals as goal

pub returns-clause-unit : goal.returns-clause-unit
returns-clause-unit c =
    let cleared = c.clear.new.self in
    let high : c.args.i ≤ length cleared = omega (arith, c.requires.high, c.clear.ensures.places) in
    some_map c.put.result (λ _. c.put.new.self ≡ set cleared (c.args.i - 1) one_ℚ) (λ _. IsUnit c.args.i c.put.new.self)
    (λ u is. subst (λ xs. IsUnit c.args.i xs) (sym is) (unit_at c.args.i cleared c.requires.low high c.clear.ensures.zero))
    c.put.ensures.number
