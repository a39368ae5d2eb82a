use Rattle.std.proofs.Common.{◌≡◌, length, None, ap, ◌∙◌}
use Rattle.std.specs.Prelude.{option_map}
use Rattle.lp_definitions.specs.LinearProgram.{variables}
use Rattle.listing_definitions.specs.Report.{InfeasibleBy}
use Rattle.walk_definitions.specs.Tables.{ray_in}
use Rattle.listing_words.specs.Read.{sheet_view}
use Rattle.listing_claims.specs.Numbers.{number_in}
use Rattle.listing_answers.proofs.Tables.{multipliers_counted}
use Rattle.listing_answers.proofs.reader.Reader.infeasible.Goals as goal

pub returns-in_default-2 : goal.returns-in_default-2
returns-in_default-2 g c =
    let of = number_in g.T.Checks.checker c.args.self.now.by in
    let sheet = sheet_view c.args.self.now.sheet in
    let head = c.in-Some.ensures in
    let none : ray_in of sheet (variables sheet.lp.matrix) c.ray_head.new.cursor ≡ None = rw c.in_default-2.is at c.in_ok-ray.ensures in
    head.reads (λ steps check rest. option_map (λ got. ((InfeasibleBy steps got.0, check), got.1)) (ray_in of sheet (variables sheet.lp.matrix) rest))
    ∙ ap (option_map (λ got. ((InfeasibleBy head.steps got.0, head.check), got.1))) none

pub returns : goal.returns
returns g c =
    let of = number_in g.T.Checks.checker c.args.self.now.by in
    let sheet = sheet_view c.args.self.now.sheet in
    let head = c.in-Some.ensures in
    let read = rw c.in-Some-2.is at c.in_ok-ray.ensures in
    record {
      answer = (InfeasibleBy head.steps read.0, head.check);
      is_found =
          head.reads (λ steps check rest. option_map (λ got. ((InfeasibleBy steps got.0, check), got.1)) (ray_in of sheet (variables sheet.lp.matrix) rest))
          ∙ ap (option_map (λ got. ((InfeasibleBy head.steps got.0, head.check), got.1))) read.1;
      shows = record { says = read.2; says_check = head.says; fits = ap length read.2 ∙ multipliers_counted sheet read.0 };
    }
