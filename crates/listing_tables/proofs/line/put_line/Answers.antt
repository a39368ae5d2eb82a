use Rattle.std.proofs.Common.{◌∙◌, ◌++◌, ap, map}
use Rattle.job_devices.proofs.TextLemmas.{writes_same}
use Rattle.listing_definitions.specs.Text.{line_text}
use Rattle.listing_tables.specs.Values.{value_view}
use Rattle.listing_tables.proofs.line.put_line.Goals as goal

pub returns-in-Ok : goal.returns-in-Ok
returns-in-Ok g c =
    let line = line_text (record { number = c.args.number; name = c.args.name; values = map value_view c.args.values.now }) in
    writes_same (c.bytes.ensures ∙ c.in-Ok.ensures.bytes ∙ ap (λ front. front ++ line) c.new-line.ensures) c.put_all.ensures
