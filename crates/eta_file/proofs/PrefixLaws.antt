-- The sets of basics that a list of exchanges passes through.
use Rattle.std.proofs.Common.{◌≡◌, ◌≢◌, ℕ, zero, suc, ◌+◌, ◌<◌, ◌≤◌, List, [], ◌∷◌, ◌++◌, inl, inr, length, take, drop, get_or, refl, sym, ◌∙◌, ap, subst}
use Rattle.std.proofs.Common.{arith}
use Rattle.exact_values.specs.Rational.{ℚ}
use Rattle.lp_laws.specs.Rates.{exchanged_rate}
use Rattle.lp_definitions.specs.LinearProgram.{Matrix, size}
use Rattle.lp_definitions.specs.Basis.{Basics, IsNonbasic, IsNonsingular, AreRates, exchanged}
use Rattle.lp_definitions.specs.Waypoints.{IsWithinOne}
use Rattle.lp_laws.proofs.Exchange.{IsNonsingular-exchanged, AreRates-exchanged, length-exchanged, was_nonbasic}
use Rattle.lp_laws.proofs.WaypointLaws.{within_itself}
use Rattle.eta_file.specs.declared.eta.StoredEta.{StoredEta}
use Rattle.eta_file.specs.Prefixes.{IsEta, Passed, after, prefixes, entry_count}

pub after-append : (b : Basics) (es : List StoredEta) (e : StoredEta) → after b (es ++ (e ∷ [])) ≡ exchanged (after b es) e.p e.q
after-append b [] e = refl
after-append b (x ∷ xs) e = after-append (exchanged b x.p x.q) xs e

pub after-take_next : (b : Basics) (es : List StoredEta) (k : ℕ) (d : StoredEta) → k < length es →
    after b (take (suc k) es) ≡ exchanged (after b (take k es)) (get_or es k d).p (get_or es k d).q
after-take_next b [] k d below = absurd (omega arith)
after-take_next b (e ∷ es) zero d below = refl
after-take_next b (e ∷ es) (suc k) d below = after-take_next (exchanged b e.p e.q) es k d (omega arith)

pub after-take_drop : (b : Basics) (es : List StoredEta) (k : ℕ) → after b es ≡ after (after b (take k es)) (drop k es)
after-take_drop b [] zero = refl
after-take_drop b [] (suc k) = refl
after-take_drop b (e ∷ es) zero = refl
after-take_drop b (e ∷ es) (suc k) = after-take_drop (exchanged b e.p e.q) es k

pub length-prefixes : (b : Basics) (es : List StoredEta) → length (prefixes b es) ≡ suc (length es)
length-prefixes b [] = refl
length-prefixes b (e ∷ es) = ap suc (length-prefixes (exchanged b e.p e.q) es)

pub prefixes-at : (b : Basics) (es : List StoredEta) (k : ℕ) (d : Basics) → k ≤ length es → get_or (prefixes b es) k d ≡ after b (take k es)
prefixes-at b [] zero d below = refl
prefixes-at b [] (suc k) d below = absurd (omega arith)
prefixes-at b (e ∷ es) zero d below = refl
prefixes-at b (e ∷ es) (suc k) d below = prefixes-at (exchanged b e.p e.q) es k d (omega arith)

pub prefixes-append : (b : Basics) (es : List StoredEta) (e : StoredEta) → prefixes b (es ++ (e ∷ [])) ≡ prefixes b es ++ (exchanged (after b es) e.p e.q ∷ [])
prefixes-append b [] e = refl
prefixes-append b (x ∷ xs) e = ap (λ ws. b ∷ ws) (prefixes-append (exchanged b x.p x.q) xs e)

pub entry_count-take : (es : List StoredEta) (k : ℕ) (d : StoredEta) → k < length es →
    entry_count (take (suc k) es) ≡ entry_count (take k es) + length (get_or es k d).entries.items
entry_count-take [] k d below = absurd (omega arith)
entry_count-take (e ∷ es) zero d below = omega arith
entry_count-take (e ∷ es) (suc k) d below = let rest = entry_count-take es k d (omega arith) in omega (arith, rest)

pub entry_count-take_le : (es : List StoredEta) (k : ℕ) → entry_count (take k es) ≤ entry_count es
entry_count-take_le [] zero = omega arith
entry_count-take_le [] (suc k) = omega arith
entry_count-take_le (e ∷ es) zero = omega arith
entry_count-take_le (e ∷ es) (suc k) = let rest = entry_count-take_le es k in omega (arith, rest)

pub get_or_past : (es : List StoredEta) (k i : ℕ) (d : StoredEta) → get_or (drop k es) i d ≡ get_or es (k + i) d
get_or_past [] zero i d = let same : i ≡ zero + i = omega arith in ap (λ n. get_or [] n d) same
get_or_past [] (suc k) i d = refl
get_or_past (e ∷ es) zero i d = let same : i ≡ zero + i = omega arith in ap (λ n. get_or (e ∷ es) n d) same
get_or_past (e ∷ es) (suc k) i d = let more : suc (k + i) ≡ suc k + i = omega arith in get_or_past es k i d ∙ ap (λ n. get_or (e ∷ es) n d) more

pub length_past : (es : List StoredEta) (k i : ℕ) → i < length (drop k es) → k + i < length es
length_past [] zero i h = absurd (omega arith)
length_past [] (suc k) i h = absurd (omega arith)
length_past (e ∷ es) zero i h = omega arith
length_past (e ∷ es) (suc k) i h = let rest = length_past es k i h in omega (arith, rest)

module _ (a : Matrix) where
  pub eta_at : (b : Basics) (es : List StoredEta) (k : ℕ) (d : StoredEta) → Passed a b es → k < length es → IsEta a (after b (take k es)) (get_or es k d)
  eta_at b [] k d h below = absurd (omega arith)
  eta_at b (e ∷ es) zero d h below = h.0
  eta_at b (e ∷ es) (suc k) d h below = eta_at (exchanged b e.p e.q) es k d h.1 (omega arith)

  pub Passed-take : (b : Basics) (es : List StoredEta) (k : ℕ) → Passed a b es → Passed a b (take k es)
  Passed-take b [] zero h = tt
  Passed-take b [] (suc k) h = tt
  Passed-take b (e ∷ es) zero h = tt
  Passed-take b (e ∷ es) (suc k) h = (h.0, Passed-take (exchanged b e.p e.q) es k h.1)

  pub Passed-drop : (b : Basics) (es : List StoredEta) (k : ℕ) → Passed a b es → Passed a (after b (take k es)) (drop k es)
  Passed-drop b [] zero h = tt
  Passed-drop b [] (suc k) h = tt
  Passed-drop b (e ∷ es) zero h = h
  Passed-drop b (e ∷ es) (suc k) h = Passed-drop (exchanged b e.p e.q) es k h.1

  pub Passed-append : (b : Basics) (es : List StoredEta) (e : StoredEta) → Passed a b es → IsEta a (after b es) e → Passed a b (es ++ (e ∷ []))
  Passed-append b [] e h is = (is, tt)
  Passed-append b (x ∷ xs) e h is = (h.0, Passed-append (exchanged b x.p x.q) xs e h.1 is)

  pub eta_nonsingular : (b : Basics) (e : StoredEta) → IsNonsingular a b → IsEta a b e → IsNonsingular a (exchanged b e.p e.q)
  eta_nonsingular b e one is = IsNonsingular-exchanged a b e.p e.q (λ i. is.rate i e.q) one is.leaves is.enters (is.are_rates e.q is.enters) is.apart

  pub nonsingular_after : (b : Basics) (es : List StoredEta) → IsNonsingular a b → Passed a b es → IsNonsingular a (after b es)
  nonsingular_after b [] one h = one
  nonsingular_after b (e ∷ es) one h = nonsingular_after (exchanged b e.p e.q) es (eta_nonsingular b e one h.0) h.1

  -- a variable that none of the etas lets go is nonbasic before them if it is after them
  pub was_out : (b : Basics) (es : List StoredEta) (j : ℕ) → length b ≡ size a → Passed a b es →
      ((k : ℕ) (d : StoredEta) → k < length es → (get_or es k d).p ≢ j) → IsNonbasic a (after b es) j → IsNonbasic a b j
  was_out b [] j counted h stays out = out
  was_out b (e ∷ es) j counted h stays out =
      let then : IsNonbasic a (exchanged b e.p e.q) j =
      was_out (exchanged b e.p e.q) es j (length-exchanged a b counted e.p e.q h.0.leaves h.0.enters) h.1 (λ k d below. stays (suc k) d (omega arith)) out in
      (was_nonbasic a b counted e.p e.q h.0.leaves h.0.enters j then (λ same. stays zero e (omega arith) (sym same))).0

  pub out_from : (b : Basics) (es : List StoredEta) (j first : ℕ) → IsNonsingular a b → Passed a b es
      → ((k : ℕ) (d : StoredEta) → first ≤ k → k < length es → (get_or es k d).p ≢ j)
      → IsNonbasic a (after b es) j → (k : ℕ) → first ≤ k → IsNonbasic a (after b (take k es)) j
  out_from b es j first one h stays out k from =
      was_out (after b (take k es)) (drop k es) j (nonsingular_after b (take k es) one (Passed-take b es k h)).counted (Passed-drop b es k h)
      (λ i d below same. stays (k + i) d (omega arith) (length_past es k i below) (ap (λ (x : StoredEta). x.p) (sym (get_or_past es k i d)) ∙ same))
      (subst (λ w. IsNonbasic a w j) (after-take_drop b es k) out)

  -- each set on the way lies in one of them
  pub prefix_within : (b : Basics) (es : List StoredEta) (k : ℕ) → k ≤ length es → IsWithinOne a (after b (take k es)) (prefixes b es)
  prefix_within b [] zero below = inl (within_itself a b)
  prefix_within b [] (suc k) below = absurd (omega arith)
  prefix_within b (e ∷ es) zero below = inl (within_itself a b)
  prefix_within b (e ∷ es) (suc k) below = inr (prefix_within (exchanged b e.p e.q) es k (omega arith))

  -- the rates at the set that the exchanges lead to
  pub rates_after : (b : Basics) (es : List StoredEta) (rate : ℕ → ℕ → ℚ) → length b ≡ size a → AreRates a b rate → Passed a b es →
      (now : ℕ → ℕ → ℚ) × AreRates a (after b es) now
  rates_after b [] rate counted are h = (rate, are)
  rates_after b (e ∷ es) rate counted are h =
      rates_after (exchanged b e.p e.q) es (exchanged_rate h.0.rate e.p e.q) (length-exchanged a b counted e.p e.q h.0.leaves h.0.enters)
      (AreRates-exchanged a b counted h.0.rate h.0.are_rates e.p e.q h.0.leaves h.0.enters h.0.apart) h.1
