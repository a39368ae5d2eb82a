use Rattle.std.proofs.Common.{rules, subst, filter, ℤ, ℕ, ◌≡◌, ◌≤◌, ◌∙◌, ◌++◌, ◌∷◌, length, sym}
use Rattle.std.proofs.lemmas.List.{length-map}
use Rattle.std.specs.Prelude.{unsigned_abs, OnOk}
use Rattle.std.specs.Int.{w128}
use Rattle.std.proofs.lemmas.Int.{to_z-of_z}
use Rattle.frac128.proofs.Parts.{read}
use Rattle.exact_values.specs.Rational.{fraction}
use Rattle.lp_model.specs.Sparse.{CoverNonzero, over}
use Rattle.lp_model.proofs.NonzeroLists.{all_around, all_one}
use Rattle.lp_model.proofs.PutLists.{each_within, all_before, all_three, all_put, joined_lists, is_some, on_ok}
use Rattle.lp_model.proofs.sparse.put_around.Goals as goal

pub put_listed-requires-clause-candidates : goal.put_listed-requires-clause-candidates
put_listed-requires-clause-candidates c =
    all_before (λ (i : ℕ). (1 ≤ i) × (i ≤ length c.args.numbers.now)) c.args.before.now (c.args.k ∷ c.args.after.now)
    (each_within c.args.denominator c.args.numbers.now (c.args.before.now ++ c.args.k ∷ c.args.after.now) c.requires.covered)

pub put_listed-requires-2-clause-candidates : goal.put_listed-requires-2-clause-candidates
put_listed-requires-2-clause-candidates c =
    all_one (λ (i : ℕ). (1 ≤ i) × (i ≤ length c.args.numbers.now)) c.args.k
    (all_around (λ (i : ℕ). (1 ≤ i) × (i ≤ length c.args.numbers.now)) c.args.before.now c.args.after.now c.args.k
    (each_within c.args.denominator c.args.numbers.now (c.args.before.now ++ c.args.k ∷ c.args.after.now) c.requires.covered)).0

pub put_listed-requires-3-clause-candidates : goal.put_listed-requires-3-clause-candidates
put_listed-requires-3-clause-candidates c =
    (all_around (λ (i : ℕ). (1 ≤ i) × (i ≤ length c.args.numbers.now)) c.args.before.now c.args.after.now c.args.k
    (each_within c.args.denominator c.args.numbers.now (c.args.before.now ++ c.args.k ∷ c.args.after.now) c.requires.covered)).1

pub returns-clause-values : goal.returns-clause-values
returns-clause-values c =
    let same : read c.args.denominator ≡ c.args.denominator = to_z-of_z w128 c.args.denominator (search rules) in
    let long : length (over (read c.args.denominator) c.args.numbers.now) ≡ length c.args.numbers.now =
    length-map c.args.numbers.now (λ n. fraction n (unsigned_abs (read c.args.denominator))) in
    let covered : CoverNonzero (over (read c.args.denominator) c.args.numbers.now) (c.args.before.now ++ c.args.k ∷ c.args.after.now) =
    subst (λ (d : ℤ). CoverNonzero (over d c.args.numbers.now) (c.args.before.now ++ c.args.k ∷ c.args.after.now)) (sym same) c.requires.covered in
    let first = c.in_ok-put_listed.ensures in
    let second = c.in_ok-put_listed-2.ensures in
    let third = c.put_listed-3.ensures in
    subst (λ (d : ℤ). OnOk c.put_listed-3.result (c.put_listed-3.new.values ≡ over d c.args.numbers.now)) same
    (on_ok c.put_listed-3.result
    (λ own. all_put (over (read c.args.denominator) c.args.numbers.now) c.put_listed-3.new.values (c.args.before.now ++ c.args.k ∷ c.args.after.now)
    (third.places ∙ second.places ∙ first.places ∙ c.requires.places ∙ sym long) covered
    (all_three (over (read c.args.denominator) c.args.numbers.now) c.put_listed.new.values c.put_listed-2.new.values c.put_listed-3.new.values
    c.args.before.now c.args.after.now c.args.k first.own second.own own second.others third.others) third.partly) third.own)

pub returns-clause-kept : goal.returns-clause-kept
returns-clause-kept c =
    let same : read c.args.denominator ≡ c.args.denominator = to_z-of_z w128 c.args.denominator (search rules) in
    subst (λ (d : ℤ). OnOk c.put_listed-3.result (c.put_listed-3.new.kept.items ≡ c.args.kept.now.items
    ++ filter (is_some (over d c.args.numbers.now)) (c.args.before.now ++ c.args.k ∷ c.args.after.now))) same
    (on_ok c.put_listed-3.result
    (joined_lists (is_some (over (read c.args.denominator) c.args.numbers.now)) c.args.kept.now.items c.args.before.now c.args.after.now
    c.put_listed.new.kept.items c.put_listed-2.new.kept.items c.put_listed-3.new.kept.items c.args.k c.in_ok-put_listed.ensures.kept
    c.in_ok-put_listed-2.ensures.kept) c.put_listed-3.ensures.kept)
