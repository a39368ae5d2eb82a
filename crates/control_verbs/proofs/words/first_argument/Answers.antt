-- Where no comma stands outside quotes, the first argument ends at a parenthesis.
use Rattle.std.proofs.Common.{List, ℕ, if◌then◌else◌, ap, ◌∙◌}
use Rattle.control_definitions.specs.Statements.{has_outside, before_outside, is_comma, is_close_parenthesis}
use Rattle.control_verbs.proofs.Outside.{up_to_parenthesis}
use Rattle.control_verbs.proofs.words.first_argument.Goals as goal

pub returns-else-comma-text : goal.returns-else-comma-text
returns-else-comma-text c =
    c.before_outside.ensures
    ∙ up_to_parenthesis c.place_outside-comma.result c.after_parenthesis-text.result.now c.place_outside-comma.ensures.place c.if-comma-text.false
    ∙ ap (λ (text : List ℕ). before_outside (if has_outside is_comma text then is_comma else is_close_parenthesis) text) c.after_parenthesis-text.ensures
