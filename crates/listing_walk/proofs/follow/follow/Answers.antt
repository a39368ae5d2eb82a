-- What is open comes first, and then the text.
use Rattle.std.proofs.Common.{◌≡◌, ◌||◌, ◌∙◌, sym, ap, refl, Option, Some, None}
use Rattle.std.specs.Prelude.{is_none}
use Rattle.exact_values.specs.Rational.{ℚ}
use Rattle.listing_definitions.specs.declared.Mark.{Mark}
use Rattle.run_machine.specs.declared.machine.Machine.{Machine}
use Rattle.listing_walk.specs.declared.chosen.Chosen.{Chosen}
use Rattle.listing_walk.specs.Standing.{holding}
use Rattle.listing_walk.specs.Walking.{has_text, ends_run}
use Rattle.listing_walk.proofs.FollowOn.{is_none_by, passes_open_by, passes_wrong_by, passes_on_by}
use Rattle.listing_walk.proofs.follow.follow.Goals.{After-open_here, then-ends, else-ends, then-ends-2, else-ends-2}
use Rattle.listing_walk.proofs.follow.follow.Goals as goal

-- the tests of what is open here
looks_is : (c : After-open_here) → c.if-ends.looks ≡ (ends_run c.args.act.now || has_text c.args.text.now)
looks_is c = elim c.if-ends.branch [
  | then-ends w ↦ w.looks-is ∙ w.if-ends.true ∙ ap (λ b. b || has_text c.args.text.now) (sym w.if-ends.true ∙ c.ends_run-ends.ensures)
  | else-ends w ↦ w.looks-is ∙ w.has_text-looks.ensures ∙ ap (λ b. b || has_text c.args.text.now) (sym w.if-ends.false ∙ c.ends_run-ends.ensures)
]

clears_is : (c : After-open_here) → c.if-ends-2.clears ≡ (ends_run c.args.act.now || is_none c.args.machine.now.mark)
clears_is c = elim c.if-ends-2.branch [
  | then-ends-2 w ↦ w.clears-is ∙ w.if-ends-2.true ∙ ap (λ b. b || is_none c.args.machine.now.mark) (sym w.if-ends-2.true ∙ c.ends_run-ends.ensures)
  | else-ends-2 w ↦ w.clears-is ∙ is_none_by c.args.machine.now.mark w.is_none-clears.result w.is_none-clears.ensures
      ∙ ap (λ b. b || is_none c.args.machine.now.mark) (sym w.if-ends-2.false ∙ c.ends_run-ends.ensures)
]

-- the mark doesn't look at XPARAM
mark_held : (last : Option ℚ) (machine : Machine Chosen) → machine.mark ≡ (holding last machine).mark
mark_held None machine = refl
mark_held (Some value) machine = refl

clears_held : (c : After-open_here) (last : Option ℚ) → c.if-ends-2.clears ≡ (ends_run c.args.act.now || is_none (holding last c.args.machine.now).mark)
clears_held c last = clears_is c ∙ ap (λ (m : Option Mark). ends_run c.args.act.now || is_none m) (mark_held last c.args.machine.now)

pub returns-in-Some-clause-passes : goal.returns-in-Some-clause-passes
returns-in-Some-clause-passes c =
    passes_open_by c.args.machine.now c.args.place.now c.args.act.now c.args.text.now c.if-ends.looks c.if-ends-2.clears
    (looks_is (goal.at.returns-in-Some-clause-passes c).After-open_here)
    (clears_is (goal.at.returns-in-Some-clause-passes c).After-open_here) c.args.place.now c.in-Some.found c.in-Some.ensures

pub returns-then-not-pass-clause-passes : goal.returns-then-not-pass-clause-passes
returns-then-not-pass-clause-passes c =
    passes_wrong_by c.args.machine.now c.args.place.now c.args.act.now c.args.text.now c.if-ends.looks c.if-ends-2.clears
    (looks_is (goal.at.returns-then-not-pass-clause-passes c).After-open_here)
    (clears_is (goal.at.returns-then-not-pass-clause-passes c).After-open_here) c.in_default.ensures c.pass.new.self c.left-rest.result c.left-rest.ensures
    c.pass.result c.if-not-pass.true c.pass.ensures.taken c.pass.new.self

pub returns-clause-passes : goal.returns-clause-passes
returns-clause-passes c =
    passes_on_by c.args.machine.now c.args.place.now c.args.act.now c.args.text.now c.if-ends.looks c.if-ends-2.clears
    (looks_is (goal.at.returns-clause-passes c).After-open_here)
    (clears_is (goal.at.returns-clause-passes c).After-open_here) c.in_default.ensures c.pass.new.self c.finish.new.place c.pass.result c.if-not-pass.false
    c.pass.ensures.taken c.pass.ensures.pending c.pass.ensures.reports
    c.finish.result c.finish.ensures.finishes

pub returns-in-Some-clause-held : goal.returns-in-Some-clause-held
returns-in-Some-clause-held c = λ last.
    passes_open_by (holding last c.args.machine.now) c.args.place.now c.args.act.now c.args.text.now c.if-ends.looks c.if-ends-2.clears
    (looks_is (goal.at.returns-in-Some-clause-held c).After-open_here)
    (clears_held (goal.at.returns-in-Some-clause-held c).After-open_here last) c.args.place.now c.in-Some.found c.in-Some.ensures

pub returns-then-not-pass-clause-held : goal.returns-then-not-pass-clause-held
returns-then-not-pass-clause-held c = λ last.
    passes_wrong_by (holding last c.args.machine.now) c.args.place.now c.args.act.now c.args.text.now c.if-ends.looks c.if-ends-2.clears
    (looks_is (goal.at.returns-then-not-pass-clause-held c).After-open_here)
    (clears_held
    (goal.at.returns-then-not-pass-clause-held c).After-open_here last) c.in_default.ensures c.pass.new.self c.left-rest.result c.left-rest.ensures
    c.pass.result c.if-not-pass.true c.pass.ensures.taken c.pass.new.self

pub returns-clause-held : goal.returns-clause-held
returns-clause-held c = λ last.
    passes_on_by (holding last c.args.machine.now) c.args.place.now c.args.act.now c.args.text.now c.if-ends.looks c.if-ends-2.clears
    (looks_is (goal.at.returns-clause-held c).After-open_here)
    (clears_held
    (goal.at.returns-clause-held c).After-open_here last) c.in_default.ensures c.pass.new.self c.finish.new.place c.pass.result c.if-not-pass.false
    c.pass.ensures.taken c.pass.ensures.pending c.pass.ensures.reports
    c.finish.result c.finish.ensures.finishes
