-- The first card that isn't skipped, and what comes after a skipped one.
use Rattle.std.proofs.Common.{◌≡◌, ℕ, ◌-◌, true, false, ap, ◌∙◌, arith, rules}
use Rattle.std.specs.Prelude.{slice_get}
use Rattle.control_compiler.proofs.Live.{live_next, skipped_next, same_place}
use Rattle.card_definitions.specs.Cards.{is_skipped}
use Rattle.control_compiler.proofs.reading.first_live.Goals as goal

pub returns-then-not-is_skipped : goal.returns-then-not-is_skipped
returns-then-not-is_skipped c =
    let kept : is_skipped c.card.result.bytes.now ≡ false = search rules in
    record {
      bytes = c.card.result.bytes.now;
      positive = omega arith;
      within = omega (arith, c.count.ensures.count, c.loop-number-test.true);
      there = c.card.ensures;
      live =
          c.loop-number.invariant
          ∙ live_next c.args.cards.now c.loop-number.number c.card.result.bytes.now
          (ap (λ (n : ℕ). slice_get c.args.cards.now n) (same_place c.loop-number.number) ∙ c.card.ensures) kept;
    }

pub loop-number-preserved : goal.loop-number-preserved
loop-number-preserved c =
    let skipped : is_skipped c.card.result.bytes.now ≡ true = search rules in
    c.loop-number.invariant
    ∙ skipped_next c.args.cards.now c.loop-number.number c.card.result.bytes.now
    (ap (λ (n : ℕ). slice_get c.args.cards.now n) (same_place c.loop-number.number) ∙ c.card.ensures) skipped
