use Rattle.std.proofs.Common.{refl, arith}
use Rattle.deck_fields.proofs.WordsBefore.{before-all}
use Rattle.deck_fields.proofs.card_words.free_words.Goals as goal

pub loop-start-init : goal.loop-start-init
loop-start-init c = (before-all _ c.bytes-bytes.result.now _ refl refl refl, omega arith)
