use Rattle.std.proofs.Common.{◌*◌}
use Rattle.basis_values.proofs.Lasting.{three_words}
use Rattle.basis_values.proofs.word_terms.product_of_words.Goals as goal

pub returns-clause-value : goal.returns-clause-value
returns-clause-value c = three_words 18446744073709551616 (c.args.x * c.args.y) c.args.z
