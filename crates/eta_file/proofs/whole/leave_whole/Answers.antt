use Rattle.std.proofs.Common.{rules, ◌≡◌, ◌-◌, ◌∙◌, sym, ap, length, set, All, arith, subst, IfSome, to_z, of_z}
use Rattle.std.specs.Int.{w128}
use Rattle.std.proofs.lemmas.Int.{to_z-of_z}
use Rattle.eta_file.specs.Entries.{IsEntryWithin, AreApart, IsWholeOf}
use Rattle.eta_file.specs.Transformations.{IsScaled}
use Rattle.exact_values.specs.Rational.{whole, one_ℚ}
use Rattle.eta_file.proofs.WholeSteps.{whole_within, whole_apart, left_whole}
use Rattle.eta_file.proofs.whole.leave_whole.Goals as goal

pub place_entries-requires-clause-within : goal.place_entries-requires-clause-within
place_entries-requires-clause-within c =
    let eta = c.args.eta.now in
    let is_whole : IsWholeOf eta.pivot eta.entries.items c.in-Some.whole =
    subst (λ o. IfSome o (IsWholeOf eta.pivot eta.entries.items)) c.in-Some.is c.requires.whole in
    subst (λ xs. All (IsEntryWithin (length c.args.out.now)) xs) (sym c.deref.ensures.value)
    (whole_within eta.pivot eta.entries.items c.in-Some.whole is_whole (length c.args.out.now) c.requires.within.entries)

pub place_entries-requires-clause-apart : goal.place_entries-requires-clause-apart
place_entries-requires-clause-apart c =
    let eta = c.args.eta.now in
    let is_whole : IsWholeOf eta.pivot eta.entries.items c.in-Some.whole =
    subst (λ o. IfSome o (IsWholeOf eta.pivot eta.entries.items)) c.in-Some.is c.requires.whole in
    subst (λ xs. AreApart xs) (sym c.deref.ensures.value) (whole_apart eta.pivot eta.entries.items c.in-Some.whole is_whole c.requires.apart)

pub returns-clause-leaving : goal.returns-clause-leaving
returns-clause-leaving c =
    let eta = c.args.eta.now in
    let w = c.in-Some.whole in
    let placed = c.place_entries.new.out in
    let is_whole : IsWholeOf eta.pivot eta.entries.items w = subst (λ o. IfSome o (IsWholeOf eta.pivot eta.entries.items)) c.in-Some.is c.requires.whole in
    let counted : length placed ≡ length c.args.out.now = c.place_entries.ensures.places in
    let scaled : IsScaled eta.p one_ℚ w.entries.items placed =
    subst (λ xs. IsScaled eta.p one_ℚ xs placed) c.deref.ensures.value c.in_ok-place_entries.ensures.scaled in
    let at_p : whole (to_z w128 (of_z w128 c.in_ok-at_p.at_p)) ≡ w.pivot =
    ap whole (to_z-of_z w128 c.in_ok-at_p.at_p (search rules)) ∙ c.in_ok-at_p.ensures.value in
    let at_q : whole (to_z w128 (of_z w128 c.in_ok-at_q.at_q)) ≡ w.scale =
    ap whole (to_z-of_z w128 c.in_ok-at_q.at_q (search rules)) ∙ c.in_ok-at_q.ensures.value in
    left_whole eta w is_whole c.requires.within.apart placed
    c.requires.within.p_low (omega (arith, counted, c.requires.within.p_high)) c.requires.within.q_low (omega (arith, counted, c.requires.within.q_high))
    c.put.new.self (c.in_ok-put.ensures.number ∙ ap (set placed (eta.p - 1)) at_p) c.put-2.new.self
    (c.in_ok-put-2.ensures.number ∙ ap (set c.put.new.self (eta.q - 1)) at_q)
    c.put.ensures.places (c.put-2.ensures.places ∙ c.put.ensures.places) scaled
