-- What reads leave in a source, one after another.
use Rattle.std.proofs.Common.{◌≡◌, ℕ, ◌≤◌, List, [], ◌++◌, length, take, drop, Option, Some, None, IfSome, subst, sym, ◌∙◌, ap, arith, append_assoc}
use Rattle.std.specs.Io.KnownBytes.{Consumes, IsAtEnd}
use Rattle.std.proofs.lemmas.List.{append-nil, take_all, length-take, take-append-drop}
use Rattle.std.proofs.Math.Seq.{take-append_seam, drop-append_seam}
use Rattle.std.proofs.Math.ListN.{drop_of_length-le}
use Rattle.job_devices.specs.Reading.{ReadsUpTo, ReadsWhole}

-- one read after another
pub Consumes-then : (a b c : Option (List ℕ)) (x y : List ℕ) → Consumes a b x → Consumes b c y → Consumes a c (x ++ y)
Consumes-then None b c x y p q = tt
Consumes-then (Some xs) None c x y p q = absurd p
Consumes-then (Some xs) (Some ys) None x y p q = absurd q
Consumes-then (Some xs) (Some ys) (Some zs) x y p q = p ∙ ap (λ w. x ++ w) q ∙ sym (append_assoc x y zs)

-- a read that gives nothing
pub Consumes-nothing : (a b c : Option (List ℕ)) (x piece : List ℕ) (count : ℕ) → count ≡ 0 → Consumes a b x → Consumes b c (take count piece) → Consumes a c x
Consumes-nothing a b c x piece count none p q =
    let same : x ++ take count piece ≡ x = ap (λ n. x ++ take n piece) none ∙ append-nil x in
    let Goal : List ℕ → Type 0 = λ w. Consumes a c w in subst Goal same (Consumes-then a b c x (take count piece) p q)

module _ (most : ℕ) where
  -- what was read as far as it may is a prefix of it
  pub prefix_of_whole : (old new : Option (List ℕ)) → ReadsWhole most old new → ReadsUpTo most old new
  prefix_of_whole None new read = ([], omega arith, tt)
  prefix_of_whole (Some bytes) None read = absurd read
  prefix_of_whole (Some bytes) (Some rest) read =
      (take most bytes, omega (arith, length-take most bytes), sym (take-append-drop most bytes) ∙ ap (λ w. take most bytes ++ w) (sym read))

  -- the kept bytes are the prefix up to the limit
  abbrev pub IsKept : Option (List ℕ) → List ℕ → Type 0
  IsKept old bytes = IfSome old (λ left. bytes ≡ take most left)

  pub kept_at_end : (old new : Option (List ℕ)) (bytes : List ℕ) → Consumes old new bytes → IsAtEnd new → length bytes ≤ most →
      IsKept old bytes × ReadsWhole most old new
  kept_at_end None new bytes read end short = (tt, tt)
  kept_at_end (Some left) None bytes read end short = absurd read
  kept_at_end (Some left) (Some rest) bytes read end short =
      let all : left ≡ bytes = read ∙ ap (λ w. bytes ++ w) end ∙ append-nil bytes in (
        sym (take_all most bytes short) ∙ ap (take most) (sym all),
        let small : length left ≤ most = omega (arith, ap length all) in end ∙ sym (drop_of_length-le left small),
      )

  pub kept_at_limit : (old new : Option (List ℕ)) (bytes : List ℕ) → Consumes old new bytes → length bytes ≡ most → IsKept old bytes × ReadsWhole most old new
  kept_at_limit None new bytes read full = (tt, tt)
  kept_at_limit (Some left) None bytes read full = absurd read
  kept_at_limit (Some left) (Some rest) bytes read full = (
    sym (ap (λ w. take most w) read ∙ ap (λ n. take n (bytes ++ rest)) (sym full) ∙ take-append_seam bytes rest),
    sym (ap (λ w. drop most w) read ∙ ap (λ n. drop n (bytes ++ rest)) (sym full) ∙ drop-append_seam bytes rest),
  )
