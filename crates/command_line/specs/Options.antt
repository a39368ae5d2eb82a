-- The command that reads the words: its single option, and nothing else.
--     make           the option `--make`
--     command        the command, without help, whose words begin with the first
use Rattle.std.specs.Prelude.{true, Some, codes}
use Rattle.clap.specs.Walk.{Rule}
use Rattle.clap.specs.Simple.{App, new_app, new_rule, with_rule, on_top}

abbrev pub make : Rule
make = record (new_rule (codes "make")) { long = Some (codes "make") }

abbrev pub command : App
command = with_rule (on_top (λ s. record s { no_binary_name = true; disable_help_flag = true }) (new_app (codes "mps360"))) make
