-- A job all of whose cards are skipped has no program.
use Rattle.std.proofs.Common.{ℕ, Some, ap, sym, ◌∙◌}
use Rattle.control_definitions.specs.declared.ControlFaultKind.TheVariants.{NoProgram}
use Rattle.control_definitions.specs.Compiled.{fault_at}
use Rattle.control_compiler.proofs.Live.{all_skipped}
use Rattle.control_compiler.proofs.reading.Reading.of.Goals as goal

pub returns-in_default : goal.returns-in_default
returns-in_default c =
    all_skipped c.args.cards.now c.in_default.ensures ∙ ap (λ (n : ℕ). Some (fault_at n NoProgram)) (sym c.count.ensures.count)
    ∙ ap Some (sym c.on_card.ensures)
