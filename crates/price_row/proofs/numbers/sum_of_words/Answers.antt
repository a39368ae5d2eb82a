use Rattle.std.proofs.Common.{rules, ap, map, get_or, pos}
use Rattle.std.specs.Int.{w64}
use Rattle.std.proofs.lemmas.Int.{to_z-of_z}
use Rattle.exact_values.specs.Rational.{whole}
use Rattle.eta_file.specs.declared.words.WordEntry.{WordEntry}
use Rattle.price_row.proofs.WordSums.{words_more}
use Rattle.price_row.proofs.numbers.sum_of_words.Goals as goal

pub loop-entry-preserved : goal.loop-entry-preserved
loop-entry-preserved g c =
    let nought : WordEntry = record { row = 0; value = pos 0 } in
    record {
      total =
          words_more (map g.N.Numbers.fraction c.args.numbers.now) c.args.words.now c.loop-entry.entry-index nought
          (g.N.Numbers.fraction c.loop-entry.sum) (g.N.Numbers.fraction c.number_at-number.result) _
          (g.N.Numbers.fraction c.in_ok-sum.sum) c.loop-entry-test.true c.loop-entry.invariant.total
          c.number_at-number.ensures.value
          (ap whole (to_z-of_z w64 (get_or c.args.words.now c.loop-entry.entry-index nought).value (search rules))) c.in_ok-sum.ensures.value;
      sound = c.in_ok-sum.ensures.sound;
    }
