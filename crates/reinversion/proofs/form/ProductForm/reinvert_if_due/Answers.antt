use Rattle.std.proofs.Common.{refl}
use Rattle.eta_file.specs.Inverse.{ways_of}
use Rattle.reinversion.specs.Form.{not_due}
use Rattle.reinversion.proofs.Turns.{prepared, early}
use Rattle.reinversion.proofs.form.ProductForm.reinvert_if_due.Goals as goal
use Rattle.lp_laws.proofs.WaypointLaws.{keeps_same}

pub returns-in_ok-reinvert-clause-prepared : goal.returns-in_ok-reinvert-clause-prepared
returns-in_ok-reinvert-clause-prepared c =
    prepared c.args.self.now c.reinvert.new.self _ c.if-is_due.ensures.due
    c.in_ok-reinvert.ensures.since c.in_ok-reinvert.ensures.same_matrix c.in_ok-reinvert.ensures.same_basics c.in_ok-reinvert.ensures.done
    c.in_ok-reinvert.ensures.kept c.in_ok-reinvert.ensures.same

pub returns-else-is_due-clause-waypoints : goal.returns-else-is_due-clause-waypoints
returns-else-is_due-clause-waypoints c = keeps_same c.args.self.now.file.matrix c.args.self.now.file.basics (ways_of c.args.self.now.file)

pub returns-else-is_due-clause-prepared : goal.returns-else-is_due-clause-prepared
returns-else-is_due-clause-prepared c = not_due (early c.args.self.now c.is_due.ensures.few c.if-is_due.ensures.due) c.if-is_due.ensures.due refl
