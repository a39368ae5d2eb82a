use Rattle.std.proofs.Common.{subst}
use Rattle.std.specs.Prelude.{ℕ, Option, IfSome}
use Rattle.lp_definitions.specs.LinearProgram.{IsVariable, value_at}
use Rattle.lp_model.specs.Wanted.{IsLeastWanted}
use Rattle.price_row.proofs.WantedSigns.{first_found, first_nowhere}
use Rattle.price_row.proofs.numbers.fill_to_wanted_by_numbers.Goals as goal

pub returns-in_ok-rate-in-Some : goal.returns-in_ok-rate-in-Some
returns-in_ok-rate-in-Some g c =
    let var : IsVariable c.args.file.now.matrix c.in-Some.k =
    subst (λ (o : Option ℕ). IfSome o (IsVariable c.args.file.now.matrix)) c.in-Some.is c.in_ok-found.ensures.variable in
    first_found c.args.file.now c.args.sought.now.row c.args.sought.now.wanted.now c.args.sought.now.up c.args.out.now c.size-size.ensures.basics
    c.size-size.ensures.passed c.requires.wanted_places
    c.in-Some.k c.in_ok-rate-in-Some.rate var c.requires.places c.in_ok-rate-in-Some.ensures
    (λ rates row. subst (λ (o : Option ℕ). IsLeastWanted c.args.sought.now.wanted.now c.args.sought.now.up rates o) c.in-Some.is
    (c.in_ok-found.ensures.least rates row))

pub returns-in_ok-fill_by_numbers-in-None : goal.returns-in_ok-fill_by_numbers-in-None
returns-in_ok-fill_by_numbers-in-None g c =
    first_nowhere c.args.file.now c.args.sought.now.row c.args.sought.now.wanted.now c.args.sought.now.up
    (value_at c.fill_by_numbers.new.out) c.in_ok-fill_by_numbers-in-None.ensures
    (λ rates row. subst (λ (o : Option ℕ). IsLeastWanted c.args.sought.now.wanted.now c.args.sought.now.up rates o) c.in-None.is
    (c.in_ok-found.ensures.least rates row))
