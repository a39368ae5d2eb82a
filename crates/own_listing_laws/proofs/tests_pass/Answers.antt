use Rattle.std.proofs.Common.{sym, subst}
use Rattle.certificate_check.specs.Results.{IsNotFailed}
use Rattle.soundness_laws.proofs.Ends.{reported_is_best}
use Rattle.walk_definitions.specs.Checkers.{checker_of_128_bits}
use Rattle.walk_definitions.specs.Tests.{solution_test}
use Rattle.std.proofs.Common.{refl, []}
use Rattle.question_definitions.specs.Answers.{Chained}
use Rattle.own_listing_laws.proofs.Chains.{answer_fine, fine_passes}
use Rattle.own_listing_laws.proofs.Suiting.{suits_128_bits}
use Rattle.own_listing_laws.proofs.Tests.{never_failed}
use Rattle.own_listing_laws.proofs.Paths.{path_never_fails}
use Rattle.own_listing_laws.proofs.Views.{solution_passes}
use Rattle.own_listing_laws.proofs.tests_pass.Goals as goal

pub returns : goal.returns
returns c = record {
  verdict = λ solver sheet s limit bases verdict check solved. path_never_fails solver sheet s limit bases verdict check solved;
  solution = λ mark sheet s lines lawful at best viewed.
      subst (λ l. IsNotFailed (solution_test checker_of_128_bits sheet mark l)) (sym viewed.are_lines)
      (never_failed checker_of_128_bits _ (solution_passes checker_of_128_bits sheet s viewed.tableau mark lawful viewed.is_tableau at
      (λ optimal. let ended = best optimal in reported_is_best sheet.lp s viewed.tableau ended.point ended.prices viewed.is_tableau ended.ends at lawful)));
  run = λ sheet s parametric_run bases intervals end after lawful free at chained fits end_fits plain.
      fine_passes checker_of_128_bits (Chained [] intervals end) after _
      (answer_fine checker_of_128_bits suits_128_bits sheet.problem sheet.lp parametric_run lawful free s at bases intervals end after _ refl chained plain
      fits end_fits);
}
