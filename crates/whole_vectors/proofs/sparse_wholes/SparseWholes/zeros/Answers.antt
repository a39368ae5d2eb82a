use Rattle.std.proofs.Common.{rules, ◌≡◌, ◌∙◌, ap, sym, subst, pos, arith}
use Rattle.std.specs.Prelude.{All, replicate}
use Rattle.std.proofs.lemmas.List.Elements.{All-replicate}
use Rattle.frac128.specs.Terms.{Fits}
use Rattle.whole_vectors.specs.Words.{wholes}
use Rattle.whole_vectors.proofs.Ranked.{wholes_replicate}
use Rattle.whole_vectors.proofs.Listed.{zeros_listed}
use Rattle.whole_vectors.proofs.sparse_wholes.SparseWholes.zeros.Goals as goal

pub invariant_of-result : goal.invariant_of-result
invariant_of-result c =
    let numbers : c.in_ok-vec.field-0.items ≡ replicate c.args.size (pos 0) = search rules in
    let nought : Fits (pos 0) = omega arith in
    record {
      listed =
          zeros_listed c.args.size c.in_ok-vec.field-0.items c.in_ok-with_capacity.field-0.items c.in_ok-vec-2.field-0.items numbers
          c.in_ok-with_capacity.ensures.items (search rules);
      fit = subst (λ ns. All Fits ns) (sym numbers) (All-replicate Fits c.args.size (pos 0) nought);
    }

pub returns : goal.returns
returns c = ap wholes (search rules) ∙ wholes_replicate c.args.size _
