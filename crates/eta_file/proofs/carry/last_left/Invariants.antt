use Rattle.std.proofs.Common.{◌≡◌, ◌≢◌, ℕ, ◌-◌, ◌<◌, ◌≤◌, get_or}
use Rattle.eta_file.specs.declared.eta.StoredEta.{StoredEta}
use Rattle.eta_file.proofs.carry.last_left.Given as goal

-- of the etas so far
abbrev pub invariant-loop-k : goal.invariant-loop-k
invariant-loop-k l = record {
  within : l.last ≤ l.k;
  none_later : (k : ℕ) (d : StoredEta) → l.last ≤ k → k < l.k → (get_or l.etas k d).p ≢ l.j;
  left : (d : StoredEta) → l.last ≢ 0 → (get_or l.etas (l.last - 1) d).p ≡ l.j;
}
