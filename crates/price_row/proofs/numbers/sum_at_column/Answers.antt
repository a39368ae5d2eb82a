use Rattle.std.proofs.Common.{map, length}
use Rattle.lp_definitions.specs.LinearProgram.{column}
use Rattle.eta_file.proofs.FileLaws.{some_map}
use Rattle.price_row.proofs.WordSums.{column_within, words_within, words_sum}
use Rattle.price_row.proofs.numbers.sum_at_column.Goals as goal

pub sum_of_words-requires-clause-within : goal.sum_of_words-requires-clause-within
sum_of_words-requires-clause-within g c =
    words_within (length c.args.numbers.now) (column c.args.file.now.matrix c.args.j) c.in-Some.words.now c.in-Some.ensures
    (column_within c.args.file.now.matrix c.args.j (length c.args.numbers.now) c.size-size.ensures.lawful c.requires.column c.requires.places)

pub returns-in-Some-clause-value : goal.returns-in-Some-clause-value
returns-in-Some-clause-value g c =
    some_map c.sum_of_words.result _ _
    (λ n is_n. words_sum (map g.N.Numbers.fraction c.args.numbers.now) (column c.args.file.now.matrix c.args.j) c.in-Some.words.now
    (g.N.Numbers.fraction n) c.in-Some.ensures is_n)
    c.sum_of_words.ensures.value
