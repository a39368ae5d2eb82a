-- How a run ends, in the words of the listing.
use Rattle.std.specs.Prelude.{option_map}
use Rattle.listing_definitions.specs.Ending.{Ending, Ended, VerbStop, SingularStop, PriceStop, LimitStop, StatementLimit, OverflowStop}
use Rattle.listing_definitions.specs.Ending as endings
use Rattle.problem_file.specs.Filed.{filed_under}
use Rattle.run_machine.specs.Singular.{lines_view}
use Rattle.run_definitions.specs.Verbs.{deck_stop}
use Rattle.run_machine.specs.declared.end.End.{End}
use Rattle.run_machine.specs.declared.end.End.TheVariants.{Done, Infeasible, Unbounded, Verb, Singular, WrongPrices, Deck, Limit, Statements, Overflow, Memory}
use Rattle.run_machine.specs.declared.end.Place.{Place}

-- a basis, and the set that the evidence speaks of
abbrev pub place_view : Place → endings.Place
place_view place = record { basis = place.basis; way = place.way.items }

abbrev pub end_view : End → Ending
end_view Done = Ended 0
end_view Infeasible = Ended 1
end_view Unbounded = Ended 2
end_view (Verb fault card) = VerbStop (record { fault = fault; card = card })
end_view (Singular card basis) = SingularStop (record { card = card; lines = lines_view (filed_under basis.name basis.file) basis.lp basis.dependency })
end_view (WrongPrices card variable) = PriceStop (record { card = card; variable = variable })
end_view (Deck fault) = deck_stop fault
end_view (Limit limit card) = LimitStop (record { limit = limit; card = card })
end_view Statements = StatementLimit
end_view (Overflow evidence place card) =
    OverflowStop (record { evidence = evidence; place = option_map place_view place; card = card })
end_view Memory = endings.Memory
