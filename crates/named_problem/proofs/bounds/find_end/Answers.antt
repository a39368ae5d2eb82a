use Rattle.std.proofs.Common.{sym, ◌∙◌}
use Rattle.named_problem.proofs.Slots.{none_where_unnoted, none_where_stale, one_where_seen, only_one}
use Rattle.named_problem.proofs.bounds.find_end.Goals as goal

pub returns-in_default-clause-found : goal.returns-in_default-clause-found
returns-in_default-clause-found c =
    sym (none_where_unnoted c.args.end c.args.column.now c.args.places.now.entries c.args.slots.now c.requires (sym c.in_default.ensures.value))

pub returns-then-not-is_there-clause-found : goal.returns-then-not-is_there-clause-found
returns-then-not-is_there-clause-found c =
    sym (none_where_stale c.args.end c.args.column.now c.args.places.now.entries c.args.slots.now c.requires c.in-Some.place.now (sym c.in-Some.ensures.value)
    (sym c.is_there.ensures ∙ c.if-not-is_there.true))

pub returns-clause-found : goal.returns-clause-found
returns-clause-found c =
    sym (one_where_seen c.args.end c.args.column.now c.args.places.now.entries c.args.slots.now c.requires c.in-Some.place.now
    (sym c.is_there.ensures ∙ c.if-not-is_there.false))

pub returns-clause-only : goal.returns-clause-only
returns-clause-only c =
    λ other. only_one c.args.end c.args.column.now c.args.places.now.entries c.args.slots.now c.requires c.in-Some.place.now other (sym c.in-Some.ensures.value)
