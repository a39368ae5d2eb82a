use Rattle.std.proofs.Common.{rules, ◌≡◌, ◌∙◌, ◌-◌, ap, set, true}
use Rattle.std.specs.Option.{is_some}
use Rattle.exact_values.specs.Rational.{whole}
use Rattle.frac128.proofs.Parts.{read_fitting}
use Rattle.price_row.proofs.WholeRows.{where_some}
use Rattle.price_row.proofs.ColumnNumbers.{kept, cleared}
use Rattle.price_row.proofs.column_numbers.keep.Goals as goal

pub returns-then-is_some : goal.returns-then-is_some
returns-then-is_some c = λ d xs h is_n.
    let some : is_some c.put.result ≡ true = search rules in
    kept d xs c.args.numbers.now c.put.new.self c.args.row (whole c.args.number) c.requires.low c.requires.high is_n
    (where_some c.put.result _ some c.put.ensures.number
    ∙ ap (λ n. set c.args.numbers.now (c.args.row - 1) (whole n)) (read_fitting c.args.number c.requires.fits)) h

pub returns : goal.returns
returns c = λ d xs h is_n. cleared d xs c.clear.new.self h.apart (c.clear.ensures.places ∙ c.put.ensures.places ∙ h.counted) c.clear.ensures.zero
