use Rattle.std.proofs.Common.{◌≡◌, ◌+◌, ◌∙◌, arith, subst}
use Rattle.std.proofs.lemmas.List.{length-map}
use Rattle.lp_definitions.specs.LinearProgram.{size}
use Rattle.lp_definitions.specs.Basis.{Basics, basics_of, IsNonsingular}
use Rattle.lp_laws.proofs.Statuses.{marked-basics_of}
use Rattle.basis_deck.proofs.OnWay.{at_rows, same_basics}
use Rattle.basis_deck.proofs.installing.install.Goals as goal

pub fill-requires-clause-under_way : goal.fill-requires-clause-under_way
fill-requires-clause-under_way g c =
    at_rows c.args.lp.now.matrix (basics_of c.args.basis.now) (g.E.Rates.state c.in-Ok-start.engine).basics
    (g.E.Rates.state c.in-Ok-start.engine).waypoints c.in-Ok-start.ensures.basics c.in-Ok-start.ensures.waypoints

pub returns-in-Ok-fill-clause-rates : goal.returns-in-Ok-fill-clause-rates
returns-in-Ok-fill-clause-rates g c =
    let p = c.args.lp.now in
    let b = basics_of c.args.basis.now in
    let way = c.in-Ok-fill.ensures.under_way.on_way in
    let same : (g.E.Rates.state c.fill.new.engine).basics ≡ b =
    same_basics p.matrix b (g.E.Rates.state c.fill.new.engine).basics (size p.matrix + 1) (simp length-map c.requires.counted)
    (marked-basics_of c.args.basis.now ∙ c.requires.m_basics) (omega arith) way in
    record {
      is_basis = c.requires;
      nonsingular = subst (λ (w : Basics). IsNonsingular p.matrix w) same way.nonsingular;
      same_matrix = c.fill.ensures.same_matrix;
      same_basics = same;
    }
