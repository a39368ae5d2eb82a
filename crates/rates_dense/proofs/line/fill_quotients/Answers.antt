use Rattle.std.proofs.Common.{rules, arith, ◌≡◌, ◌+◌, ◌<◌, ◌∙◌, Err, refl, sym, length}
use Rattle.exact_values.specs.Rational.{zero_ℚ}
use Rattle.lp_definitions.specs.LinearProgram.{value_at}
use Rattle.rates_dense.specs.Lines.{quotient_at}
use Rattle.rates_dense.proofs.Fills.{filled_more, quotient_own, quotient_other, rate_refused, read_at}
use Rattle.rates_dense.proofs.Changes.{listed_zero, listed_more, listed_to_end}
use Rattle.rates_dense.proofs.line.fill_quotients.Goals.{then-j-p-2+in_ok-reciprocal, else-j-p-2+in_ok-quotients}
use Rattle.rates_dense.proofs.line.fill_quotients.Goals as goal
use Rattle.lp_laws.proofs.Places.{value_at_place}
use Rattle.lp_laws.proofs.Idle.{zero_over}

pub returns-in_err-quotients-clause-refused : goal.returns-in_err-quotients-clause-refused
returns-in_err-quotients-clause-refused c =
    let is_err : c.from_residual-in_err-quotients.result ≡ Err c.in_err-quotients.field-0.0 = search rules in
    rw is_err
    (rate_refused c.args.exchange.now.p c.args.exchange.now.q c.args.rates.now c.loop-k.k c.index-rates-k.result c.index-rates-q.result
    c.in_err-quotients.field-0.0
    (search rules) (read_at c.args.rates.now c.loop-k.k c.index-rates-k.result (search rules) c.index-rates-k.is)
    (value_at_place c.args.rates.now c.args.exchange.now.q c.index-rates-q.result c.requires.q_low c.requires.q_high c.index-rates-q.is)
    c.in_err-quotients.ensures.needed c.in_err-quotients.ensures.refused)

pub loop-k-preserved-then-is_zero : goal.loop-k-preserved-then-is_zero
loop-k-preserved-then-is_zero c =
    let within : c.loop-k.k < length c.args.rates.now = search rules in
    let f = quotient_at c.args.exchange.now.p c.args.exchange.now.q c.args.rates.now in
    let j = c.loop-k.k + 1 in
    let here : c.index-rates-k.result ≡ value_at c.args.rates.now j = read_at c.args.rates.now c.loop-k.k c.index-rates-k.result within c.index-rates-k.is in
    let none : c.index-rates-k.result ≡ zero_ℚ = c.is_zero.ensures.0 c.if-is_zero.true in
    let zero : zero_ℚ ≡ f j =
    quotient_other c.args.exchange.now.p c.args.exchange.now.q c.args.rates.now j zero_ℚ c.index-rates-k.result
    (value_at c.args.rates.now c.args.exchange.now.q) c.if-j-p.true here refl
    (sym (zero_over c.index-rates-k.result (value_at c.args.rates.now c.args.exchange.now.q) none)) in
    record {
      filled =
          filled_more c.loop-k.quotients c.loop-k.k c.index-rates-k.result f
          (omega (arith, within, c.requires.room, c.loop-k.auto.quotients)) c.loop-k.invariant.filled (none ∙ zero);
      within = omega (arith, c.loop-k.invariant.within);
      listed = listed_zero c.loop-k.changed f c.loop-k.k c.loop-k.count (sym zero) c.loop-k.invariant.listed;
    }

pub loop-k-preserved : goal.loop-k-preserved
loop-k-preserved c =
    let within : c.loop-k.k < length c.args.rates.now = search rules in
    let f = quotient_at c.args.exchange.now.p c.args.exchange.now.q c.args.rates.now in
    let j = c.loop-k.k + 1 in
    let here : c.index-rates-k.result ≡ value_at c.args.rates.now j = read_at c.args.rates.now c.loop-k.k c.index-rates-k.result within c.index-rates-k.is in
    let pivot : c.index-rates-q.result ≡ value_at c.args.rates.now c.args.exchange.now.q =
    value_at_place c.args.rates.now c.args.exchange.now.q c.index-rates-q.result c.requires.q_low c.requires.q_high c.index-rates-q.is in
    let is : c.if-j-p-2.quotients ≡ f j = elim c.if-j-p-2.branch [
      | then-j-p-2+in_ok-reciprocal w ↦ quotient_own c.args.exchange.now.p c.args.exchange.now.q c.args.rates.now j c.if-j-p-2.quotients
          c.index-rates-q.result w.if-j-p-2.true pivot (w.quotients-is ∙ w.in_ok-reciprocal.ensures.value)
      | else-j-p-2+in_ok-quotients w ↦ quotient_other c.args.exchange.now.p c.args.exchange.now.q c.args.rates.now j c.if-j-p-2.quotients
          c.index-rates-k.result c.index-rates-q.result w.if-j-p-2.false here pivot (w.quotients-is ∙ w.in_ok-quotients.ensures.value)
    ] in
    record {
      filled =
          filled_more c.loop-k.quotients c.loop-k.k c.if-j-p-2.quotients f
          (omega (arith, within, c.requires.room, c.loop-k.auto.quotients)) c.loop-k.invariant.filled is;
      within = omega (arith, c.loop-k.invariant.within);
      listed =
          listed_more c.loop-k.changed f c.loop-k.k c.loop-k.count
          (omega (arith, within, c.requires.list, c.loop-k.auto.changed, c.loop-k.invariant.within)) c.loop-k.invariant.listed;
    }

pub returns-clause-listed : goal.returns-clause-listed
returns-clause-listed c =
    listed_to_end c.loop-k.changed c.loop-k.quotients (quotient_at c.args.exchange.now.p c.args.exchange.now.q c.args.rates.now) c.loop-k.k c.loop-k.count
    (search rules) (search rules) (search rules) (search rules) c.loop-k.invariant.listed
