use Rattle.std.proofs.Common.{rules, ◌≡◌, ◌-◌, ◌∙◌, set, ap, of_z, to_z}
use Rattle.std.specs.Int.{w64}
use Rattle.std.proofs.lemmas.Int.{to_z-of_z}
use Rattle.exact_values.specs.Rational.{whole}
use Rattle.eta_file.proofs.FileLaws.{some_map}
use Rattle.price_row.proofs.words.SparseWordsNumbers.write.Goals as goal

pub returns-clause-number : goal.returns-clause-number
returns-clause-number c =
    let old = c.args.self.now in
    some_map c.put.result (λ _. c.put.new.self ≡ set old (c.args.k - 1) (whole (to_z w64 (of_z w64 c.args.n))))
    (λ _. c.put.new.self ≡ set old (c.args.k - 1) (whole c.args.n))
    (λ u is. is ∙ ap (λ x. set old (c.args.k - 1) (whole x)) (to_z-of_z w64 c.args.n (search rules)))
    c.put.ensures.number
