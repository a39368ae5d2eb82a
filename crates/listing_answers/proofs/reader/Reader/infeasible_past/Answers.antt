use Rattle.std.proofs.Common.{◌≡◌, None, refl, ap, ◌∙◌}
use Rattle.std.specs.Prelude.{option_map}
use Rattle.lp_definitions.specs.LinearProgram.{variables}
use Rattle.listing_definitions.specs.Report.{InfeasiblePast}
use Rattle.walk_definitions.specs.Tables.{ray_in}
use Rattle.listing_words.specs.Read.{sheet_view}
use Rattle.listing_claims.specs.Numbers.{number_in}
use Rattle.listing_answers.proofs.reader.Reader.infeasible_past.Goals as goal

pub returns-in_default : goal.returns-in_default
returns-in_default g c =
    let of = number_in g.T.Checks.checker c.args.self.now.by in
    let sheet = sheet_view c.args.self.now.sheet in
    (rw c.in_default.is at c.in_ok-value.ensures)
    (λ t after. option_map (λ got. (InfeasiblePast t got.0, got.1)) (ray_in of sheet (variables sheet.lp.matrix) after))

pub returns-in_default-2 : goal.returns-in_default-2
returns-in_default-2 g c =
    let of = number_in g.T.Checks.checker c.args.self.now.by in
    let sheet = sheet_view c.args.self.now.sheet in
    let t = c.in-Some.value in
    let none : ray_in of sheet (variables sheet.lp.matrix) c.value_line.new.cursor ≡ None = rw c.in_default-2.is at c.in_ok-ray.ensures in
    (rw c.in-Some.is at c.in_ok-value.ensures)
    (λ t after. option_map (λ got. (InfeasiblePast t got.0, got.1)) (ray_in of sheet (variables sheet.lp.matrix) after))
    ∙ ap (option_map (λ got. (InfeasiblePast t got.0, got.1))) none

pub returns : goal.returns
returns g c =
    let of = number_in g.T.Checks.checker c.args.self.now.by in
    let sheet = sheet_view c.args.self.now.sheet in
    let t = c.in-Some.value in
    let read = rw c.in-Some-2.is at c.in_ok-ray.ensures in
    record {
      answer = InfeasiblePast t read.0;
      is_found =
          (rw c.in-Some.is at c.in_ok-value.ensures)
          (λ t after. option_map (λ got. (InfeasiblePast t got.0, got.1)) (ray_in of sheet (variables sheet.lp.matrix) after))
          ∙ ap (option_map (λ got. (InfeasiblePast t got.0, got.1))) read.1;
      shows = (refl, read.2);
    }
