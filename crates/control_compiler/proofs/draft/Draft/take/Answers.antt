-- One more card: its fault, or the labels and the statements with it.
use Rattle.std.proofs.Common.{◌≡◌, ℕ, ◌+◌, ◌++◌, List, [], ◌∷◌, Option, Some, None, false, refl, ap, sym, ◌∙◌, arith}
use Rattle.std.specs.Prelude.{bytes_eq, is_some, option_map, option_to_list, filter_map}
use Rattle.std.specs.Option.{option_map_or}
use Rattle.std.specs.List.{cons_option}
use Rattle.std.specs.Map.{lookup}
use Rattle.std.proofs.lemmas.List.Elements.{filter_map-append}
use Rattle.control_definitions.specs.Statements.{label_of}
use Rattle.control_definitions.specs.Arguments.{label_text}
use Rattle.control_definitions.specs.Compiled.{control_card_fault, fault_at}
use Rattle.control_compiler.specs.Cards.{statement_said}
use Rattle.control_compiler.proofs.Places.{twice_reported, next_positions}
use Rattle.control_compiler.proofs.Taking.{faultless}
use Rattle.control_compiler.proofs.draft.Draft.take.Goals as goal

-- what one element gives
one_given : {X Y : Type 0} (h : X → Option Y) (x : X) → filter_map h (x ∷ []) ≡ option_to_list (h x)
one_given {X} {Y} h x = by (h x)
  where
    by : (given : Option Y) → cons_option given [] ≡ option_to_list given
    by None = refl
    by (Some y) = refl

pub returns-in-Some : goal.returns-in-Some
returns-in-Some c = λ cards after count.
    ap (option_map (fault_at c.args.number)) (sym (c.in-Some.ensures cards
    (λ good. c.is_placed-is_twice.ensures
    ∙ ap (λ (label : Option (List ℕ)). option_map_or (λ (name : List ℕ). is_some (lookup (bytes_eq name) c.args.self.now.labels)) label false)
    (c.label_in-label.ensures.label ∙ ap label_text c.label.ensures.label)
    ∙ twice_reported c.args.self.now.labels cards c.args.card.now after.labels good)
    (omega (arith, count, c.len-position.ensures)))) ∙ ap Some (sym c.on_card.ensures)

pub returns : goal.returns
returns c = λ cards after count.
    let is : c.label_in-label.result ≡ label_text (label_of c.args.card.now) = c.label_in-label.ensures.label ∙ ap label_text c.label.ensures.label in
    let none : control_card_fault cards c.args.card.now ≡ None = sym (c.in_default.ensures cards
    (λ good. c.is_placed-is_twice.ensures
    ∙ ap (λ (label : Option (List ℕ)). option_map_or (λ (name : List ℕ). is_some (lookup (bytes_eq name) c.args.self.now.labels)) label false) is
    ∙ twice_reported c.args.self.now.labels cards c.args.card.now after.labels good)
    (omega (arith, count, c.len-position.ensures))) in
    let tests = faultless cards c.args.card.now none in (
      none,
      c.is_pend.ensures,
      record {
        labels =
            next_positions c.args.self.now.labels c.place_label.new.labels cards
            (record { number = c.args.number; bytes = c.args.card.now }) c.label_in-label.result (c.len-position.result + 1) is tests.label tests.once
            (omega (arith, count, c.len-position.ensures)) c.in_ok-place_label.ensures.ok after.labels;
        statements =
            c.in_ok-push_statement.ensures.ok
            ∙ ap (λ front. front ++ option_to_list (statement_said (record { number = c.args.number; bytes = c.args.card.now }))) after.statements
            ∙ sym (filter_map-append statement_said cards ((record { number = c.args.number; bytes = c.args.card.now }) ∷ [])
            ∙ ap (λ back. filter_map statement_said cards ++ back) (one_given statement_said (record { number = c.args.number; bytes = c.args.card.now })));
        lawful = c.in_ok-push_statement.ensures.lawful after.lawful;
      },
    )
