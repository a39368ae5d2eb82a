-- What is found decides what the statement does.
use Rattle.std.proofs.Common.{Ok, refl, ap, subst}
use Rattle.setup_verbs.specs.Inserting.{IsFound}
use Rattle.std.proofs.lemmas.Result.{err_from_is_err_and}
use Rattle.setup_verbs.proofs.Inserted.{ends_quietly, inserted_done, inserted_cut, sound_emptied, sound_inserted}
use Rattle.setup_verbs.proofs.insert.insert_basis.Goals as goal

pub returns-in_err-found-clause-acts : goal.returns-in_err-found-clause-acts
returns-in_err-found-clause-acts g c =
    let p = err_from_is_err_and c.from_residual.result c.from_residual.ensures.1 in
    rw (p.1, p.2, c.in_err-found.ensures) refl

pub returns-in-Ends-clause-acts : goal.returns-in-Ends-clause-acts
returns-in-Ends-clause-acts g c =
    ends_quietly c.args.card c.args.cards.now c.args.machine.now (g.P.Sink.taken c.args.print.now) c.args.machine.now _ _ refl
    (subst (IsFound c.args.card c.args.cards.now c.args.machine.now) (ap Ok c.in-Ends.is) c.in_ok-found.ensures)

pub singular_end-requires-clause-on_file : goal.singular_end-requires-clause-on_file
singular_end-requires-clause-on_file g c =
    rw c.replace-file.ensures.value (subst (IsFound c.args.card c.args.cards.now c.args.machine.now) (ap Ok c.in-Singular.is) c.in_ok-found.ensures).on_file

pub returns-in-Singular-clause-acts : goal.returns-in-Singular-clause-acts
returns-in-Singular-clause-acts g c =
    ends_quietly c.args.card c.args.cards.now c.args.machine.now (g.P.Sink.taken c.args.print.now) _ _ _ c.singular_end.ensures
    (rw c.replace-file.ensures.value (subst (IsFound c.args.card c.args.cards.now c.args.machine.now) (ap Ok c.in-Singular.is) c.in_ok-found.ensures).ends)

pub returns-in-Singular-clause-sound : goal.returns-in-Singular-clause-sound
returns-in-Singular-clause-sound g c = sound_emptied c.args.cards.now c.args.machine.now _ c.requires

pub returns-in_err-text_of-in-Inserted-clause-acts : goal.returns-in_err-text_of-in-Inserted-clause-acts
returns-in_err-text_of-in-Inserted-clause-acts g c =
    let p = err_from_is_err_and c.from_residual-in_err-text_of-in-Inserted.result c.from_residual-in_err-text_of-in-Inserted.ensures.1 in
    rw (p.1, p.2)
    (inserted_cut c.args.card c.args.cards.now c.args.machine.now _ _ _ _
    (subst (IsFound c.args.card c.args.cards.now c.args.machine.now)
    (ap Ok c.in-Inserted.is) c.in_ok-found.ensures) c.args.machine.now _ c.in_err-text_of-in-Inserted.ensures)

pub returns-in_err-text_of-in-Inserted-clause-sound : goal.returns-in_err-text_of-in-Inserted-clause-sound
returns-in_err-text_of-in-Inserted-clause-sound g c =
    sound_inserted c.args.card c.args.cards.now c.args.machine.now _ _ _ _
    (subst (IsFound c.args.card c.args.cards.now c.args.machine.now) (ap Ok c.in-Inserted.is) c.in_ok-found.ensures) c.requires

pub returns-in_ok-text_of-in-Inserted-clause-acts : goal.returns-in_ok-text_of-in-Inserted-clause-acts
returns-in_ok-text_of-in-Inserted-clause-acts g c =
    inserted_done c.args.card c.args.cards.now c.args.machine.now _ _ _ _
    (subst (IsFound c.args.card c.args.cards.now c.args.machine.now) (ap Ok c.in-Inserted.is) c.in_ok-found.ensures) c.in_ok-text_of-in-Inserted.ensures

pub returns-in_ok-text_of-in-Inserted-clause-sound : goal.returns-in_ok-text_of-in-Inserted-clause-sound
returns-in_ok-text_of-in-Inserted-clause-sound g c =
    sound_inserted c.args.card c.args.cards.now c.args.machine.now _ _ _ _
    (subst (IsFound c.args.card c.args.cards.now c.args.machine.now) (ap Ok c.in-Inserted.is) c.in_ok-found.ensures) c.requires
