use Rattle.std.proofs.Common.{rules, ◌≡◌, ◌∙◌, ◌<◌, ℕ, zero, suc, ℤ, pos, List, [], ◌∷◌, ap, drop, take, length, slice_index_or, subst, sym, refl, to_z, of_z}
use Rattle.std.specs.Int.{w128}
use Rattle.std.specs.Prelude.{◌≤ℤ◌, unsigned_abs}
use Rattle.std.specs.List.Sorted.{IsNonDecreasing}
use Rattle.std.proofs.lemmas.List.{length-map}
use Rattle.exact_values.specs.Rational.{ℚ, zero_ℚ, fraction}
use Rattle.exact_values.proofs.Inverse.{same_wholes}
use Rattle.lp_definitions.specs.LinearProgram.{size, value_at}
use Rattle.lp_definitions.specs.Basis.{IsDirectionOf, IsNonbasic}
use Rattle.lp_model.specs.Sparse.{over}
use Rattle.whole_vectors.specs.Words.{wholes}
use Rattle.eta_file.specs.File.{inverse_of}
use Rattle.eta_file.specs.Listed.{listed_of, place_in}
use Rattle.eta_file.proofs.FileLaws.{marks_counted}
use Rattle.eta_file.proofs.ListedLaws.{direction_covered, listed_ascend}
use Rattle.eta_file.proofs.Denominators.{direction_over}
use Rattle.eta_file.proofs.file.EtaFile.put_direction.Goals as goal

-- a number that is 0 among fractions is 0
zero_number : (zs : List ℤ) (n : ℕ) → slice_index_or (wholes zs) n zero_ℚ ≡ zero_ℚ → slice_index_or zs n (pos 0) ≡ pos 0
zero_number [] n none = refl
zero_number (z ∷ zs) zero none = same_wholes z (pos 0) none
zero_number (z ∷ zs) (suc n) none = zero_number zs n none

pub put_few-requires-clause-covered : goal.put_few-requires-clause-covered
put_few-requires-clause-covered c =
    record {
      within = λ i d below. subst (λ n. slice_index_or c.listed-places.result.now i d < n) (sym c.numbers.ensures.places)
          (c.listed-places.ensures.within i d below);
      none_missing = λ n missing. zero_number c.numbers.result.now n
          (ap (λ (xs : List ℚ). slice_index_or xs n zero_ℚ) c.numbers.ensures.numbers ∙ c.listed-places.ensures.none_missing n missing);
    }

pub returns-then-places-lt-FEW_PLACES-clause-direction : goal.returns-then-places-lt-FEW_PLACES-clause-direction
returns-then-places-lt-FEW_PLACES-clause-direction c =
    let n : ℤ = to_z w128 (of_z w128 c.num-number.result) in
    let one : c.in-Some.least.denominator ≡ 1 = search rules in
    let is_number : c.in-Some.least.numerator ≡ n = search rules in
    let low : pos 1 ≤ℤ n = search rules in
    subst (λ xs. IsDirectionOf c.args.self.now.matrix c.args.self.now.basics c.args.j (value_at xs)) (sym c.in_ok-put_few.ensures.values)
    (direction_over c.in-Some.least n one is_number low c.args.self.now.matrix c.args.self.now.basics c.args.j c.args.denominator c.args.wholes.now
    c.reduce_from.new.self c.numbers.result.now c.requires.nonbasic c.requires.direction c.in-Some.ensures.same c.numbers.ensures.numbers)

pub place_of-requires : goal.place_of-requires
place_of-requires c = subst (λ ks. IsNonDecreasing ks) (sym c.listed-listed.ensures) (listed_ascend (inverse_of c.self.inside).basics)

pub put_over-requires-clause-covered : goal.put_over-requires-clause-covered
put_over-requires-clause-covered c =
    let f = inverse_of c.self.inside in
    let n : ℤ = to_z w128 (of_z w128 c.num-number.result) in
    let zs = c.numbers-2.result.now in
    let one : c.in-Some.least.denominator ≡ 1 = search rules in
    let is_number : c.in-Some.least.numerator ≡ n = search rules in
    let low : pos 1 ≤ℤ n = search rules in
    let nonbasic : IsNonbasic f.matrix f.basics c.args.j = rw (← c.self.view_is) at c.requires.nonbasic in
    let direction : IsDirectionOf c.args.self.now.matrix c.args.self.now.basics c.args.j (value_at (over n zs)) =
    direction_over c.in-Some.least n one is_number low c.args.self.now.matrix c.args.self.now.basics c.args.j c.args.denominator c.args.wholes.now
    c.reduce_from.new.self zs c.requires.nonbasic c.requires.direction c.in-Some.ensures.same c.numbers-2.ensures.numbers in
    let places : length (over n zs) ≡ size c.args.self.now.matrix =
    length-map zs (λ z. fraction z (unsigned_abs n)) ∙ c.numbers-2.ensures.places ∙ c.reduce_from.ensures.places ∙ c.requires.wholes in
    let place : c.place_of.result ≡ place_in (listed_of f.basics) c.args.j =
    c.place_of.ensures.place ∙ ap (λ ks. place_in ks c.args.j) c.listed-listed.ensures in
    direction_covered f.matrix f.basics (marks_counted f.matrix f.etas f.basics c.self.invariant.0) c.args.j nonbasic
    (over n zs) (rw (← c.self.view_is) at places) (rw (← c.self.view_is) at direction) c.split_at.result.0.now c.split_at.result.1.now
    (c.split_at.ensures.front ∙ ap (λ n. take n c.listed-listed.result.now) place ∙ ap (take (place_in (listed_of f.basics) c.args.j)) c.listed-listed.ensures)
    (c.split_at.ensures.back ∙ ap (λ n. drop n c.listed-listed.result.now) place ∙ ap (drop (place_in (listed_of f.basics) c.args.j)) c.listed-listed.ensures)

pub returns-clause-direction : goal.returns-clause-direction
returns-clause-direction c =
    let n : ℤ = to_z w128 (of_z w128 c.num-number.result) in
    let one : c.in-Some.least.denominator ≡ 1 = search rules in
    let is_number : c.in-Some.least.numerator ≡ n = search rules in
    let low : pos 1 ≤ℤ n = search rules in
    subst (λ xs. IsDirectionOf c.args.self.now.matrix c.args.self.now.basics c.args.j (value_at xs)) (sym c.in_ok-put_over.ensures.values)
    (direction_over c.in-Some.least n one is_number low c.args.self.now.matrix c.args.self.now.basics c.args.j c.args.denominator c.args.wholes.now
    c.reduce_from.new.self c.numbers-2.result.now c.requires.nonbasic c.requires.direction c.in-Some.ensures.same c.numbers-2.ensures.numbers)
