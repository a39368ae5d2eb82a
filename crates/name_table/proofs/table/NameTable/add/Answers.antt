use Rattle.std.proofs.Common.{◌+◌, bytes_eq, ap}
use Rattle.std.specs.Option.{option_map}
use Rattle.name_table.proofs.Positions.{added_last, new_has_no_place}
use Rattle.name_table.proofs.table.NameTable.add.Goals as goal

pub returns-clause-added : goal.returns-clause-added
returns-clause-added c =
    rw (← c.self.view_is)
    (added_last (bytes_eq c.args.name) c.self.inside.names.keys c.in_ok-index.is_new c.in_ok-index.ensures.added c.if-not-is_new.false
    c.insert_full.new.self.keys c.args.name c.in_ok-index.index c.in_ok-index.ensures.keys c.in_ok-index.ensures.index)

pub returns-clause-taken : goal.returns-clause-taken
returns-clause-taken c =
    rw (← c.self.view_is)
    (ap (option_map (λ place. place + 1))
    (new_has_no_place (bytes_eq c.args.name) c.self.inside.names.keys c.in_ok-index.is_new c.in_ok-index.ensures.added c.if-not-is_new.false))
