-- SETUP by what was chosen.
use Rattle.std.proofs.Common.{ap, subst, ◌∙◌}
use Rattle.control_definitions.specs.Program.{SetupOptions}
use Rattle.listing_definitions.specs.Report.{SetUp}
use Rattle.listing_definitions.specs.Text.{report_text}
use Rattle.listing_walk.specs.Choosing.{IsOpened, IsNotOpened}
use Rattle.listing_walk.proofs.SettingUp.{setup_done_by, setup_refused_by}
use Rattle.listing_walk.proofs.setup.set_up.Goals as goal

pub returns-in_ok-text-in-Ok-clause-walks : goal.returns-in_ok-text-in-Ok-clause-walks
returns-in_ok-text-in-Ok-clause-walks c = λ C cards.
    setup_done_by C c.args.card cards c.args.machine.now c.args.options.now c.args.place.now c.follow.new.place c.follow.result c.in-Ok.named
    (subst (λ (options : SetupOptions). IsOpened c.args.machine.now.cells c.args.machine.now.file options c.in-Ok.named) c.options.view_is
    c.in-Ok.ensures.opened)
    c.bytes.result.now (c.bytes.ensures ∙ c.in_ok-text-in-Ok.ensures
    ∙ ap (λ (options : SetupOptions). report_text (SetUp c.in-Ok.named.name options.sense)) c.options.view_is) c.follow.ensures.passes

pub returns-in-Err-clause-walks : goal.returns-in-Err-clause-walks
returns-in-Err-clause-walks c = λ C cards.
    setup_refused_by C c.args.card cards c.args.machine.now c.args.options.now c.args.place.now c.refuse.new.place c.refuse.result c.in-Err.refusal
    (subst (λ (options : SetupOptions). IsNotOpened c.args.machine.now.cells c.args.machine.now.file options c.in-Err.refusal) c.options.view_is
    c.in-Err.ensures.refused)
    c.unchecked-found.result c.unchecked-found.ensures c.refuse.ensures.refuses
