-- Sets of basics of one size, of which one lies in the other.
use Rattle.std.proofs.Common.{◌≡◌, ℕ, zero, suc, ◌<◌, ◌≤◌, [], ◌∷◌, length, drop, set, get_or, refl, sym, ◌∙◌, ap, true, false, arith}
use Rattle.lp_definitions.specs.Basis.{Basics}
use Rattle.lp_laws.proofs.Exchange.{marked, marked-set_true}
use Rattle.lp_laws.proofs.Values.{clash}

pub fewer_marks : (b g : Basics) → length b ≡ length g → ((i : ℕ) → get_or b i false ≡ true → get_or g i false ≡ true) → marked b ≤ marked g
fewer_marks [] [] same within = omega arith
fewer_marks [] (y ∷ ys) same within = omega arith
fewer_marks (x ∷ xs) [] same within = absurd (omega (arith, same))
fewer_marks (true ∷ xs) (true ∷ ys) same within = let rest = fewer_marks xs ys (omega (arith, same)) (λ i h. within (suc i) h) in omega (arith, rest)
fewer_marks (true ∷ xs) (false ∷ ys) same within = absurd (clash (sym (within 0 refl)))
fewer_marks (false ∷ xs) (true ∷ ys) same within = let rest = fewer_marks xs ys (omega (arith, same)) (λ i h. within (suc i) h) in omega (arith, rest)
fewer_marks (false ∷ xs) (false ∷ ys) same within = fewer_marks xs ys (omega (arith, same)) (λ i h. within (suc i) h)

pub same_marks : (b g : Basics) → length b ≡ length g → ((i : ℕ) → get_or b i false ≡ true → get_or g i false ≡ true) → marked g ≡ marked b → g ≡ b
same_marks [] [] same within count = refl
same_marks [] (y ∷ ys) same within count = absurd (omega (arith, same))
same_marks (x ∷ xs) [] same within count = absurd (omega (arith, same))
same_marks (true ∷ xs) (true ∷ ys) same within count =
    ap (λ ms. true ∷ ms) (same_marks xs ys (omega (arith, same)) (λ i h. within (suc i) h) (omega (arith, count)))
same_marks (true ∷ xs) (false ∷ ys) same within count = absurd (clash (sym (within 0 refl)))
same_marks (false ∷ xs) (true ∷ ys) same within count =
    absurd (let rest = fewer_marks xs ys (omega (arith, same)) (λ i h. within (suc i) h) in omega (arith, rest, count))
same_marks (false ∷ xs) (false ∷ ys) same within count = ap (λ ms. false ∷ ms) (same_marks xs ys (omega (arith, same)) (λ i h. within (suc i) h) count)

more_past : (b : Basics) (m i : ℕ) → m ≤ i → i < length b → get_or b i false ≡ false → marked (drop m (set b i true)) ≡ suc (marked (drop m b))
more_past [] m i after below out = absurd (omega arith)
more_past (x ∷ ms) zero zero after below out = marked-set_true (x ∷ ms) zero below out
more_past (x ∷ ms) zero (suc i) after below out = marked-set_true (x ∷ ms) (suc i) below out
more_past (x ∷ ms) (suc m) zero after below out = absurd (omega arith)
more_past (x ∷ ms) (suc m) (suc i) after below out = more_past ms m i (omega arith) (omega arith) out

same_past : (b : Basics) (m i : ℕ) → i < m → marked (drop m (set b i false)) ≡ marked (drop m b)
same_past [] zero i before = absurd (omega arith)
same_past [] (suc m) i before = refl
same_past (x ∷ ms) zero i before = absurd (omega arith)
same_past (x ∷ ms) (suc m) zero before = refl
same_past (x ∷ ms) (suc m) (suc i) before = same_past ms m i (omega arith)

pub one_column_more : (b : Basics) (m p q : ℕ) → p < m → m ≤ q → q < length b → get_or b q false ≡ false →
    marked (drop m (set (set b q true) p false)) ≡ suc (marked (drop m b))
one_column_more b m p q before after below out = same_past (set b q true) m p before ∙ more_past b m q after below out
