use Rattle.std.proofs.Common.{◌≡◌, sym, ◌∙◌}
use Rattle.std.specs.Prelude.{not}
use Rattle.exact_values.specs.Tests.{le_ℚ}
use Rattle.exact_values.proofs.TestsLaws.{le_from_test, test_from_le}
use Rattle.affine_laws.proofs.tightening.is_at_most.Goals as goal

pub returns : goal.returns
returns c =
    let is : not c.is_lt.result ≡ le_ℚ c.args.x c.args.y = cc in
    (λ h. le_from_test c.args.x c.args.y (sym is ∙ h), λ h. is ∙ test_from_le c.args.x c.args.y h)
