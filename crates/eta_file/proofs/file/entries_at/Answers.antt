use Rattle.std.proofs.Common.{◌≡◌, ◌≤◌, sym, subst, All, length, IfOk}
use Rattle.lp_definitions.specs.LinearProgram.{value_at}
use Rattle.eta_file.specs.Listed.{listed_of}
use Rattle.eta_file.proofs.ListedLaws.{listed_within}
use Rattle.eta_file.proofs.RateEntries.{listed_entries}
use Rattle.eta_file.proofs.file.entries_at.Goals as goal

pub entries_of-requires : goal.entries_of-requires
entries_of-requires c =
    subst (λ ks. All (λ k. (1 ≤ k) × (k ≤ length c.args.direction.now)) ks) (sym c.listed.ensures)
    (subst (λ n. All (λ k. (1 ≤ k) × (k ≤ n)) (listed_of c.args.basics.now)) (sym c.requires) (listed_within c.args.basics.now))

pub returns : goal.returns
returns c =
    subst (λ es. IfOk c.entries_of.result (λ entries. entries.items ≡ es))
    (listed_entries c.args.basics.now (value_at c.args.direction.now) c.listed.result.now c.listed.ensures) c.entries_of.ensures
