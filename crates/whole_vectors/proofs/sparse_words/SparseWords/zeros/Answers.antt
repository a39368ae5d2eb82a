use Rattle.std.proofs.Common.{rules, ◌∙◌, ap}
use Rattle.whole_vectors.specs.Words.{wholes}
use Rattle.whole_vectors.proofs.Ranked.{wholes_replicate}
use Rattle.whole_vectors.proofs.Listed.{zeros_listed}
use Rattle.whole_vectors.proofs.sparse_words.SparseWords.zeros.Goals as goal

pub invariant_of-result : goal.invariant_of-result
invariant_of-result c =
    zeros_listed c.args.size c.in_ok-vec.field-0.items c.in_ok-with_capacity.field-0.items c.in_ok-vec-2.field-0.items
    (search rules) c.in_ok-with_capacity.ensures.items (search rules)

pub returns : goal.returns
returns c = ap wholes (search rules) ∙ wholes_replicate c.args.size _
