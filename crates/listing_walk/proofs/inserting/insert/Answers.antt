-- INSERT, by what is selected, and by what the deck gives.
use Rattle.std.proofs.Common.{sym, subst}
use Rattle.card_definitions.specs.Cards.{cards_between}
use Rattle.basis_deck.specs.Reading.{Refuses}
use Rattle.run_definitions.specs.State.{choice_of}
use Rattle.listing_walk.proofs.Selected.{as_many_rows, as_many_columns}
use Rattle.listing_walk.proofs.InsertWalks.{taken_by, line_by, due_by, kept_of, kept_names, insert_no_setup, insert_refused, insert_no_deck, insert_bad_deck}
use Rattle.listing_walk.proofs.InsertWalks.{insert_due}
use Rattle.listing_walk.proofs.SolvingWalks.{stays_on_file}
use Rattle.listing_walk.proofs.inserting.insert.Goals as goal

pub problem_on_file-problem-requires : goal.problem_on_file-problem-requires
problem_on_file-problem-requires c =
    stays_on_file c.args.machine.now.file c.args.machine.now.setup c.in-Some.chosen c.in-Some.is c.requires.sound.ready

pub returns-in_default-clause-walks : goal.returns-in_default-clause-walks
returns-in_default-clause-walks c =
    λ C. insert_no_setup C c.args.card c.args.cards.now c.args.machine.now c.args.place.now c.fault.new.place c.in_default.is c.fault.result
    c.fault.ensures.passes

pub is_line_due-requires-clause-names : goal.is_line_due-requires-clause-names
is_line_due-requires-clause-names c =
    kept_names c.problem_on_file-problem.result.now c.in-Some.chosen
    (kept_of c.args.machine.now.file c.args.machine.now.setup c.in-Some.chosen c.in-Some.is c.requires.sound.ready c.problem_on_file-problem.result.now
    c.problem_on_file-problem.ensures)

pub returns-in-Err-clause-walks : goal.returns-in-Err-clause-walks
returns-in-Err-clause-walks c = λ C.
    insert_refused C c.args.card c.args.cards.now c.args.machine.now c.args.place.now c.refuse.new.place c.in-Some.chosen c.in-Some.is
    c.problem_on_file-problem.result.now c.problem_on_file-problem.ensures c.take_deck-taken.result
    (taken_by c.args.cards.now c.args.machine.now c.name-wanted.result c.name-wanted.ensures c.take_deck-taken.result c.take_deck-taken.ensures.taken)
    (kept_of c.args.machine.now.file c.args.machine.now.setup c.in-Some.chosen c.in-Some.is c.requires.sound.ready c.problem_on_file-problem.result.now
    c.problem_on_file-problem.ensures) c.in_ok-due-in-Err.due
    (due_by c.problem_on_file-problem.result.now c.in-Some.chosen.lp c.args.cards.now c.args.place.now c.take_deck-taken.result c.left-rest.result.now
    c.left-rest.ensures c.in_ok-due-in-Err.due c.in_ok-due-in-Err.ensures) c.install_refused-found.result
    c.install_refused-found.ensures c.in-Err.refusal c.in-Err.ensures.refused c.refuse.result c.refuse.ensures.refuses

pub returns-in_default-taken-clause-walks : goal.returns-in_default-taken-clause-walks
returns-in_default-taken-clause-walks c = λ C.
    insert_no_deck C c.args.card c.args.cards.now c.args.machine.now c.args.place.now c.fault-in_default-taken.new.place c.in-Some.chosen c.in-Some.is
    c.problem_on_file-problem.result.now c.problem_on_file-problem.ensures c.take_deck-taken.result
    (taken_by c.args.cards.now c.args.machine.now c.name-wanted.result c.name-wanted.ensures c.take_deck-taken.result c.take_deck-taken.ensures.taken)
    c.in-Ok.lp c.in-Ok.ensures.made c.in_default-taken.is c.fault-in_default-taken.result
    c.fault-in_default-taken.ensures.passes

pub read_basis-requires-clause-names : goal.read_basis-requires-clause-names
read_basis-requires-clause-names c = record {
  rows = as_many_rows c.problem_on_file-problem.result.now (choice_of c.args.machine.now.cells c.in-Some.chosen.options) c.in-Ok.lp
      c.in-Ok.ensures.made.is_selected;
  columns = as_many_columns c.problem_on_file-problem.result.now (choice_of c.args.machine.now.cells c.in-Some.chosen.options) c.in-Ok.lp
      c.in-Ok.ensures.made.is_selected;
}

pub returns-in-Ok-read_basis-clause-walks : goal.returns-in-Ok-read_basis-clause-walks
returns-in-Ok-read_basis-clause-walks c = λ C.
    insert_due C c.args.card c.args.cards.now c.args.machine.now c.args.place.now c.args.place.now c.in-Some.chosen c.in-Some.is
    c.problem_on_file-problem.result.now
    c.problem_on_file-problem.ensures c.take_deck-taken.result
    (taken_by c.args.cards.now c.args.machine.now c.name-wanted.result c.name-wanted.ensures c.take_deck-taken.result c.take_deck-taken.ensures.taken)
    c.in-Ok.lp c.in-Ok.ensures.made c.in-Some-taken.deck c.in-Some-taken.is c.is_line_of-stands.result
    (line_by c.args.cards.now c.args.place.now c.take_deck-taken.result c.left.result.now c.left.ensures c.is_line_of-stands.result
    c.is_line_of-stands.ensures) c.in-Ok-read_basis._basis c.in-Ok-read_basis.ensures.basis c.install_due.result
    c.install_due.ensures

pub returns-in-Err-Fault-clause-walks : goal.returns-in-Err-Fault-clause-walks
returns-in-Err-Fault-clause-walks c = λ C.
    let stop =
    subst (Refuses c.problem_on_file-problem.result.now c.in-Ok.lp
    (cards_between c.in-Some-taken.deck.first c.in-Some-taken.deck.last c.args.cards.now)) c.in-Err-Fault.field-0-is c.in-Err-Fault.ensures.stop in
    insert_bad_deck C c.args.card c.args.cards.now c.args.machine.now c.args.place.now c.follow.new.place c.in-Some.chosen c.in-Some.is
    c.problem_on_file-problem.result.now c.problem_on_file-problem.ensures c.take_deck-taken.result
    (taken_by c.args.cards.now c.args.machine.now c.name-wanted.result c.name-wanted.ensures c.take_deck-taken.result c.take_deck-taken.ensures.taken)
    c.in-Ok.lp c.in-Ok.ensures.made c.in-Some-taken.deck c.in-Some-taken.is c.in-Err-Fault.why stop
    c.follow.result (rw c.in-Err-Fault.why-is at c.follow.ensures.passes)
