use Rattle.std.proofs.Common.{◌≡◌, ◌≤◌, ◌∙◌, ℕ, All, length, arith, sym, ap, subst}
use Rattle.lp_definitions.specs.LinearProgram.{size, value_at}
use Rattle.lp_definitions.specs.Basis.{IsBasic, IsNonbasic, IsDirectionOf}
use Rattle.lp_laws.proofs.Places.{value_at_place}
use Rattle.eta_file.specs.File.{inverse_of}
use Rattle.eta_file.proofs.FileLaws.{marks_counted}
use Rattle.eta_file.proofs.ListedLaws.{nonzero_within, entries_along}
use Rattle.eta_file.proofs.file.EtaFile.append_along.Goals as goal

pub entries_but-requires : goal.entries_but-requires
entries_but-requires c =
    subst (λ xs. All (λ (k : ℕ). (1 ≤ k) × (k ≤ length xs)) c.nonzero.result.now) (sym c.values-values.ensures)
    (nonzero_within c.args.direction.now c.nonzero.result.now c.nonzero.ensures)

pub append_entries-requires : goal.append_entries-requires
append_entries-requires c =
    let f = inverse_of c.self.inside in
    let leaves : IsBasic f.matrix f.basics c.args.p = rw (← c.self.view_is) at c.requires.leaves in
    let enters : IsNonbasic f.matrix f.basics c.args.q = rw (← c.self.view_is) at c.requires.enters in
    let direction : IsDirectionOf f.matrix f.basics c.args.q (value_at c.args.direction.now) = rw (← c.self.view_is) at c.requires.direction in
    let places : length c.args.direction.now ≡ size f.matrix = rw (← c.self.view_is) at c.requires.places in
    let counted = marks_counted f.matrix f.etas f.basics c.self.invariant.0 in
    rw (← c.self.view_is) (record {
      leaves = leaves;
      enters = enters;
      direction = c.args.direction.now;
      is_direction = direction;
      apart = c.requires.pivot;
      is_pivot =
          c.reduced.ensures
          ∙ value_at_place c.values-values.result.now c.args.p c.index-values-p.result leaves.0.0
          (omega (arith, leaves.0.1, places, ap length c.values-values.ensures)) c.index-values-p.is
          ∙ ap (λ xs. value_at xs c.args.p) c.values-values.ensures;
      are_entries =
          entries_along f.matrix f.basics counted c.args.q enters c.args.direction.now places direction c.nonzero.result.now c.nonzero.ensures
          c.values-values.result.now c.values-values.ensures
          c.in_ok-entries.entries.items c.in_ok-entries.ensures;
    })
