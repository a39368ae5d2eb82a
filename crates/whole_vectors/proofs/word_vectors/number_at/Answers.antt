use Rattle.std.proofs.Common.{rules, sym, ◌∙◌, ap, ◌-◌, get_or, pos}
use Rattle.std.proofs.lemmas.Int.{to_z-of_z}
use Rattle.std.specs.Int.{w64}
use Rattle.exact_values.specs.Rational.{whole}
use Rattle.whole_vectors.proofs.Ranked.{read_whole}
use Rattle.whole_vectors.proofs.word_vectors.number_at.Goals as goal

pub returns : goal.returns
returns c = ap whole (to_z-of_z w64 (get_or c.args.numbers.now (c.args.k - 1) (pos 0)) (search rules)) ∙ sym (read_whole c.args.numbers.now (c.args.k - 1))
