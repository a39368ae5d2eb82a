-- Numbers that are changed at listed places, where all others are 0.
use Rattle.std.proofs.Common.{◌≡◌, ◌≢◌, ℕ, ◌+◌, ◌-◌, ◌<◌, List, [], length, get_or, set, refl, sym, ◌∙◌, ap, subst, arith, ℤ, pos}
use Rattle.std.specs.Prelude.{◌*ℤ◌, ◌≤ℤ◌, All, replicate}
use Rattle.std.proofs.lemmas.Int.{ints}
use Rattle.std.proofs.lemmas.List.{get_or_default, get_or-set_other, length-map, length-set, length-replicate, map-set}
use Rattle.exact_values.specs.Rational.{ℚ, whole, zero_ℚ, inverse_ℚ, ◌*ℚ◌, ◌/ℚ◌}
use Rattle.exact_values.proofs.Inverse.{div_is, whole_numerator, numerator_of_zero}
use Rattle.exact_values.proofs.RingLaws.{whole-mul, zero-mul}
use Rattle.lp_definitions.specs.LinearProgram.{value_at}
use Rattle.whole_vectors.specs.Quotients.{AreProducts, AreQuotients}
use Rattle.whole_vectors.specs.Words.{wholes}
use Rattle.whole_vectors.specs.Ranks.{IsListedAt, AreRanked, AreWritten, AreKept, AreChangedTo, AreChanged, AreListed}
use Rattle.whole_vectors.proofs.Ranked.{none_written, written_next, as_at_first, read_whole, wholes_replicate, zeros_are, all_written, put_covered, unranked}
use Rattle.whole_vectors.proofs.Ranked.{unlisted_kept}

-- nothing is changed at first
pub none_changed : (g : ℚ → ℚ) (ks : List ℕ) (xs : List ℚ) → AreChangedTo g ks 0 xs xs
none_changed g ks xs rank ranked = none_written rank ks (λ n. g (get_or xs n zero_ℚ)) xs

-- one number more is changed
pub changed_next : (g : ℚ → ℚ) (ks : List ℕ) (i p : ℕ) (old new : List ℤ) (x v : ℤ) → i < length ks → p ≡ get_or ks i 0 → p < length new → x ≡ get_or new p x
    → whole v ≡ g (whole x)
    → AreChangedTo g ks i (wholes old) (wholes new) → AreChangedTo g ks (i + 1) (wholes old) (wholes (set new p v))
changed_next g ks i p old new x v below is inside is_x is_v so_far rank ranked =
    subst (λ xs. AreChangedNow (i + 1) xs) (sym (map-set whole new p v))
    (written_next rank ks f i below ranked p is (wholes old) (wholes new) (whole v) (subst (λ m. p < m) (sym (length-map new whole)) inside) (is_v ∙ ap g first)
    (so_far rank ranked))
  where
    f : ℕ → ℚ
    f n = g (get_or (wholes old) n zero_ℚ)

    AreChangedNow : ℕ → List ℚ → Type 0
    AreChangedNow j xs = AreWritten rank ks f j (wholes old) xs

    first : whole x ≡ get_or (wholes old) p zero_ℚ
    first =
        ap whole (is_x ∙ get_or_default new p x (pos 0) inside) ∙ sym (read_whole new p)
        ∙ as_at_first rank ks f i below ranked p is (wholes old) (wholes new) (so_far rank ranked)

pub changed_at_end : (g : ℚ → ℚ) (ks : List ℕ) (i : ℕ) (xs ys : List ℚ) → i ≡ length ks → AreChangedTo g ks i xs ys → AreChanged g ks xs ys
changed_at_end g ks i xs ys all h = subst (λ n. AreChangedTo g ks n xs ys) all h

-- what that is for all numbers, where those that aren't listed are 0
pub all_changed : (g : ℚ → ℚ) (ns : List ℤ) (ks ranks : List ℕ) (ys : List ℚ) → g zero_ℚ ≡ zero_ℚ → AreListed ns ks ranks → AreChanged g ks (wholes ns) ys →
    (n : ℕ) → get_or ys n zero_ℚ ≡ g (get_or (wholes ns) n zero_ℚ)
all_changed g ns ks ranks ys none h changed =
    all_written ks ranks (λ n. g (get_or (wholes ns) n zero_ℚ)) (wholes ns) ys h.ranked changed
    (λ n out. let nought = h.covered n out in nought ∙ sym (ap g nought ∙ none))

pub changed_products : (by y : ℚ) (ns : List ℤ) (ks ranks : List ℕ) (ys : List ℚ) → y ≡ by → AreListed ns ks ranks →
    AreChanged (λ x. x *ℚ y) ks (wholes ns) ys → AreProducts by (wholes ns) ys
changed_products by y ns ks ranks ys is h changed = record {
  each = λ k. all_changed (λ x. x *ℚ y) ns ks ranks ys (zero-mul y) h changed (k - 1) ∙ ap (λ q. value_at (wholes ns) k *ℚ q) is;
}

pub changed_quotients : (by y : ℚ) (ns : List ℤ) (ks ranks : List ℕ) (ys : List ℚ) → y ≡ by → AreListed ns ks ranks →
    AreChanged (λ x. x /ℚ y) ks (wholes ns) ys → AreQuotients by (wholes ns) ys
changed_quotients by y ns ks ranks ys is h changed = record {
  each = λ k. all_changed (λ x. x /ℚ y) ns ks ranks ys (zero-mul (inverse_ℚ y)) h changed (k - 1) ∙ ap (λ q. value_at (wholes ns) k /ℚ q) is;
}

-- ---- what is listed then

pub listed_within : (ns ms : List ℤ) (ks js ranks : List ℕ) → ms ≡ ns → js ≡ ks → AreListed ns ks ranks → All (λ n. n < length ms) js
listed_within ns ms ks js ranks is_ms is_js h =
    subst (λ xs. All (λ n. n < length xs) js) (sym is_ms) (subst (λ is. All (λ n. n < length ns) is) (sym is_js) inside)
  where
    inside : All (λ n. n < length ns) ks
    inside k d below =
        let same = get_or_default ks k d 0 below in
        let within = h.ranked.within k below in
        let counted = h.counted in
        omega (arith, same, within, counted)

pub still_listed : (ns new : List ℤ) (ks ranks : List ℕ) → length new ≡ length ns → AreKept ks (wholes ns) (wholes new) → AreListed ns ks ranks →
    AreListed new ks ranks
still_listed ns new ks ranks same kept h = record {
  counted = h.counted ∙ sym same;
  ranked = h.ranked;
  covered = λ n out. unlisted_kept ks ranks (wholes ns) (wholes new) h.ranked kept n out ∙ h.covered n out;
}

pub none_listed : (ns new : List ℤ) (ks ranks none : List ℕ) → length new ≡ length ns → none ≡ [] → AreChanged (λ x. zero_ℚ) ks (wholes ns) (wholes new) →
    AreListed ns ks ranks → AreListed new none ranks
none_listed ns new ks ranks none same is changed h = record {
  counted = h.counted ∙ sym same;
  ranked = unranked none ranks is;
  covered = λ n out. all_changed (λ x. zero_ℚ) ns ks ranks (wholes new) refl h changed n;
}

pub zeros_listed : (size : ℕ) (ns : List ℤ) (ks ranks : List ℕ) → ns ≡ replicate size (pos 0) → ks ≡ [] → ranks ≡ replicate size 0 → AreListed ns ks ranks
zeros_listed size ns ks ranks numbers none ranks_are = record {
  counted = ap length ranks_are ∙ length-replicate size 0 ∙ sym (ap length numbers ∙ length-replicate size (pos 0));
  ranked = unranked ks ranks none;
  covered = λ n out. ap (λ ns. get_or (wholes ns) n zero_ℚ) numbers ∙ ap (λ xs. get_or xs n zero_ℚ) (wholes_replicate size (pos 0)) ∙ zeros_are size n;
}

-- a place more, with the ranks as they were given to the call and as they are kept after it
pub more_listed : (ns : List ℤ) (ks ranks given more next after : List ℕ) → given ≡ ranks → after ≡ next → length next ≡ length given → AreRanked more next
    → ((n : ℕ) → IsListedAt ks given n → IsListedAt more next n) → AreListed ns ks ranks → AreListed ns more after
more_listed ns ks ranks given more next after is_given is_after same ranked others h = subst (λ rs. AreListed ns more rs) (sym is_after) (record {
  counted = same ∙ ap length is_given ∙ h.counted;
  ranked = ranked;
  covered = λ n out. h.covered n (λ at. out (others n (subst (λ rs. IsListedAt ks rs n) (sym is_given) at)));
})

pub put_listed : (ns : List ℤ) (p : ℕ) (x : ℤ) (ks next ranks : List ℕ) → ranks ≡ next → IsListedAt ks next p → AreListed ns ks ranks →
    AreListed (set ns p x) ks ranks
put_listed ns p x ks next ranks is own h = record {
  counted = h.counted ∙ sym (length-set ns p x);
  ranked = h.ranked;
  covered = put_covered ns p x ks ranks ks ranks h.covered (λ n at. at) (subst (λ rs. IsListedAt ks rs p) (sym is) own);
}

-- a number is written over one that isn't 0, whose place is listed then
pub put_over : (ns : List ℤ) (p : ℕ) (x held : ℤ) (ks ranks : List ℕ) → p < length ns → held ≡ get_or ns p held → held ≢ pos 0 → AreListed ns ks ranks →
    AreListed (set ns p x) ks ranks
put_over ns p x held ks ranks inside is some h = record {
  counted = h.counted ∙ sym (length-set ns p x);
  ranked = h.ranked;
  covered = λ n out. ap (λ xs. get_or xs n zero_ℚ) (map-set whole ns p x) ∙ get_or-set_other (wholes ns) p n (whole x) zero_ℚ (apart n out) ∙ h.covered n out;
}
  where
    apart : (n : ℕ) → (IsListedAt ks ranks n → ⊥) → n ≢ p
    apart n out same =
        let there = get_or ns p (pos 0) in
        let nought : whole there ≡ zero_ℚ = sym (read_whole ns p) ∙ ap (λ k. get_or (wholes ns) k zero_ℚ) (sym same) ∙ h.covered n out in
        some (is ∙ get_or_default ns p held (pos 0) inside ∙ sym (whole_numerator there) ∙ numerator_of_zero (whole there) nought)

-- ---- whole numbers

pub whole_apart : (n : ℤ) → pos 1 ≤ℤ n → whole n ≢ zero_ℚ
whole_apart n some none = let nought = sym (whole_numerator n) ∙ numerator_of_zero (whole n) none in absurd (omega (arith, ints, nought, some))

pub whole_product_is : (x y v : ℤ) → v ≡ x *ℤ y → whole v ≡ whole x *ℚ whole y
whole_product_is x y v is = ap whole is ∙ whole-mul x y

pub whole_quotient_is : (x y v : ℤ) → pos 1 ≤ℤ y → x ≡ v *ℤ y → whole v ≡ whole x /ℚ whole y
whole_quotient_is x y v some is = sym (div_is (whole x) (whole y) (whole v) (whole_apart y some) (ap whole is ∙ whole-mul v y))
