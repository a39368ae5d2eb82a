use Rattle.parametric_run.proofs.faces.take.Goals as goal

pub step_along-requires-clause-point : goal.step_along-requires-clause-point
step_along-requires-clause-point g c = rw (c.program.ensures, c.deref_mut.ensures.value) c.requires.point

pub step_along-requires-clause-step : goal.step_along-requires-clause-step
step_along-requires-clause-step g c = rw (c.program.ensures, c.deref_mut.ensures.value) c.requires.ready.step
