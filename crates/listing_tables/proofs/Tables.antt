-- Texts of numbered lines, one after the other.
use Rattle.std.proofs.Common.{◌≡◌, ◌<◌, ◌≤◌, ◌-◌, ◌+◌, ℕ, zero, suc, Bool, true, false, List, [], ◌∷◌, ◌++◌, map, filter, if◌then◌else◌, refl, sym, ◌∙◌, ap}
use Rattle.std.proofs.Common.{append_assoc, arith}
use Rattle.std.specs.List.{flat_map}
use Rattle.std.proofs.lemmas.List.{append-nil}
use Rattle.lp_definitions.specs.LinearProgram.{numbers_from}

module _ (text : ℕ → List ℕ) where
  pub lines_split : (first n m : ℕ) →
      flat_map text (numbers_from first (n + m)) ≡ flat_map text (numbers_from first n) ++ flat_map text (numbers_from (first + n) m)
  lines_split first zero m =
      let count : 0 + m ≡ m = omega arith in
      let start : first ≡ first + 0 = omega arith in
      ap (λ n. flat_map text (numbers_from first n)) count ∙ ap (λ f. flat_map text (numbers_from f m)) start
  lines_split first (suc n) m =
      let count : suc n + m ≡ suc (n + m) = omega arith in
      let start : suc first + n ≡ first + suc n = omega arith in
      let done = flat_map text (numbers_from (suc first) n) in
      ap (λ k. flat_map text (numbers_from first k)) count
      ∙ ap (λ w. text first ++ w) (lines_split (suc first) n m)
      ∙ sym (append_assoc (text first) done (flat_map text (numbers_from (suc first + n) m)))
      ∙ ap (λ f. (text first ++ done) ++ flat_map text (numbers_from f m)) start

  -- the lines after the first ones, and the next
  pub line_next : (first k : ℕ) → first ≤ k →
      flat_map text (numbers_from (first + 1) (k - first)) ++ text (k + 1) ≡ flat_map text (numbers_from (first + 1) (k + 1 - first))
  line_next first k h =
      let at : first + 1 + (k - first) ≡ k + 1 = omega arith in
      let count : k - first + 1 ≡ k + 1 - first = omega arith in
      let done = flat_map text (numbers_from (first + 1) (k - first)) in
      ap (λ w. done ++ w) (sym (append-nil (text (k + 1))))
      ∙ ap (λ n. done ++ (text n ++ [])) (sym at)
      ∙ sym (lines_split (first + 1) (k - first) 1)
      ∙ ap (λ n. flat_map text (numbers_from (first + 1) n)) count

  -- the lines before one, that line, and those after it
  pub lines_around : (first k last : ℕ) → first ≤ k → k < last →
      (flat_map text (numbers_from (first + 1) (k - first)) ++ text (k + 1)) ++ flat_map text (numbers_from (k + 2) (last - (k + 1))) ≡ flat_map text
      (numbers_from (first + 1) (last - first))
  lines_around first k last h inside =
      let at : first + 1 + (k + 1 - first) ≡ k + 2 = omega arith in
      let count : k + 1 - first + (last - (k + 1)) ≡ last - first = omega arith in
      ap (λ w. w ++ flat_map text (numbers_from (k + 2) (last - (k + 1)))) (line_next first k h)
      ∙ ap (λ n. flat_map text (numbers_from (first + 1) (k + 1 - first)) ++ flat_map text (numbers_from n (last - (k + 1)))) (sym at)
      ∙ sym (lines_split (first + 1) (k + 1 - first) (last - (k + 1)))
      ∙ ap (λ n. flat_map text (numbers_from (first + 1) n)) count

-- Lines that a test keeps.
pub lines_kept : {X : Type 0} (kept : ℕ → Bool) (line : ℕ → X) (text : X → List ℕ) (numbers : List ℕ) →
    flat_map (λ k. if kept k then text (line k) else []) numbers ≡ flat_map text (map line (filter kept numbers))
lines_kept kept line text [] = refl
lines_kept kept line text (k ∷ ks) = by (kept k) (lines_kept kept line text ks)
  where
    by : (b : Bool) → flat_map (λ k. if kept k then text (line k) else []) ks ≡ flat_map text (map line (filter kept ks)) →
        (if b then text (line k) else []) ++ flat_map (λ k. if kept k then text (line k) else []) ks ≡ flat_map text
        (map line (if b then k ∷ filter kept ks else filter kept ks))
    by true e = ap (λ w. text (line k) ++ w) e
    by false e = e
