use Rattle.std.proofs.Common.{◌≡◌, map, drop}
use Rattle.card_definitions.specs.Fields.{fields_for}
use Rattle.deck_fields.proofs.field_lists.fields_for.Given as goal

-- what the lists that are left give
abbrev pub invariant-loop-fields : goal.invariant-loop-fields
invariant-loop-fields l = fields_for (map (λ fields. fields.now) (drop l.fields-index l.lists)) l.count ≡ fields_for (map (λ fields. fields.now) l.lists) l.count
