use Rattle.named_problem.proofs.NamedRows.{place_found, place_missed}
use Rattle.named_problem.proofs.rows.Rows.place_of.Goals as goal

pub returns-in-Some : goal.returns-in-Some
returns-in-Some c = rw (← c.self.view_is) (place_found c.args.name.now c.self.inside.rows.entries c.in-Some.place c.in-Some.ensures.index)

pub returns-in-None : goal.returns-in-None
returns-in-None c = rw (← c.self.view_is) (place_missed c.args.name.now c.self.inside.rows.entries c.len.result c.in-None.ensures.index c.len.ensures.len)
