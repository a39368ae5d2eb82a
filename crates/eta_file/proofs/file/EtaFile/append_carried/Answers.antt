use Rattle.std.proofs.Common.{◌≡◌, ◌∙◌, length, arith, sym}
use Rattle.lp_definitions.specs.LinearProgram.{size}
use Rattle.lp_definitions.specs.Basis.{IsBasic}
use Rattle.lp_laws.proofs.Places.{value_at_place}
use Rattle.eta_file.specs.File.{inverse_of}
use Rattle.eta_file.proofs.FileLaws.{marks_counted}
use Rattle.eta_file.proofs.file.EtaFile.append_carried.Goals as goal

pub entries_at-requires : goal.entries_at-requires
entries_at-requires c =
    let f = inverse_of c.self.inside in
    let places : length c.args.direction.now ≡ size f.matrix = rw (← c.self.view_is) at c.requires.places in
    places ∙ sym (marks_counted f.matrix f.etas f.basics c.self.invariant.0)

pub append_entries-requires : goal.append_entries-requires
append_entries-requires c =
    let f = inverse_of c.self.inside in
    let leaves : IsBasic f.matrix f.basics c.args.p = rw (← c.self.view_is) at c.requires.leaves in
    let places : length c.args.direction.now ≡ size f.matrix = rw (← c.self.view_is) at c.requires.places in
    rw (← c.self.view_is) (record {
      leaves = leaves;
      enters = rw (← c.self.view_is) at c.requires.enters;
      direction = c.args.direction.now;
      is_direction = rw (← c.self.view_is) at c.requires.direction;
      apart = c.requires.pivot;
      is_pivot = value_at_place c.args.direction.now c.args.p c.index-direction-p.result leaves.0.0 (omega (arith, leaves.0.1, places)) c.index-direction-p.is;
      are_entries = c.in_ok-entries.ensures;
    })
