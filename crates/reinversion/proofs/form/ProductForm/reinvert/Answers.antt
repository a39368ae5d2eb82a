use Rattle.std.proofs.Common.{refl, false}
use Rattle.eta_file.specs.Inverse.{ways_of}
use Rattle.reinversion.proofs.Turns.{form_remade}
use Rattle.reinversion.proofs.form.ProductForm.reinvert.Goals as goal
use Rattle.lp_laws.proofs.WaypointLaws.{keeps_same}

pub invariant_of-self : goal.invariant_of-self
invariant_of-self c =
    form_remade c.self.inside (record c.self.inside { file = c.in-Ok.file; since = 0; kept = false }) c.self.invariant
    c.size-size.ensures.nonsingular c.in-Ok.ensures.remade refl refl refl

pub returns-in-Err-Overflow-clause-waypoints : goal.returns-in-Err-Overflow-clause-waypoints
returns-in-Err-Overflow-clause-waypoints c = rw (← c.self.view_is) (keeps_same c.self.inside.file.matrix c.self.inside.file.basics (ways_of c.self.inside.file))

pub returns-in-Err-NoMemory-clause-waypoints : goal.returns-in-Err-NoMemory-clause-waypoints
returns-in-Err-NoMemory-clause-waypoints c = rw (← c.self.view_is) (keeps_same c.self.inside.file.matrix c.self.inside.file.basics (ways_of c.self.inside.file))
