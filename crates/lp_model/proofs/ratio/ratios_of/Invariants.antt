use Rattle.std.proofs.Common.{◌≡◌, take}
use Rattle.lp_model.proofs.ratio.ratios_of.Given as goal

abbrev pub invariant-loop-value : goal.invariant-loop-value
invariant-loop-value l = l.made.items ≡ take l.value-index l.values
