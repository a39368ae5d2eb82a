use Rattle.std.proofs.Common.{vec_len}
use Rattle.reinversion.proofs.order.Pattern.order.Given as goal

abbrev pub decreases-loop-pair : goal.decreases-loop-pair
decreases-loop-pair l = vec_len l.self.back

abbrev pub decreases-loop-spike : goal.decreases-loop-spike
decreases-loop-spike l = vec_len l.self.spikes
