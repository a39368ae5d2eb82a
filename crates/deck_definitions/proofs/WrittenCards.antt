-- The fields of a written card.
use Rattle.std.proofs.Common.{◌≡◌, ℕ, zero, suc, ◌+◌, ◌-◌, ◌≤◌, true, List, [], ◌++◌, length, take, drop, replicate, refl, ap, ◌∙◌, subst, arith, lit≤}
use Rattle.std.specs.List.{list_all}
use Rattle.std.specs.Prelude.{codes}
use Rattle.std.proofs.lemmas.List.{append_assoc, length-append, length-replicate, take_all}
use Rattle.std.proofs.Math.Seq.{drop-append_seam, take-append_seam}
use Rattle.std.proofs.Math.ListN.{drop_of_length-le}
use Rattle.card_definitions.specs.Words.{without_trailing, without_leading, padded}
use Rattle.card_definitions.specs.Cards.{is_blank}
use Rattle.card_definitions.specs.Fields.{Fixed, reading_of, columns}
use Rattle.card_definitions.proofs.Trailing.{without_trailing-append, part_of_trimmed}
use Rattle.deck_definitions.specs.Written.{data_card}

blanks : (n : ℕ) → list_all is_blank (replicate n 32) ≡ true
blanks zero = refl
blanks (suc n) = blanks n

pub length-padded : (width : ℕ) (text : List ℕ) → length text ≤ width → length (padded width text) ≡ width
length-padded width text short =
    let sum : length text + (width - length text) ≡ width = omega arith in
    length-append text (replicate (width - length text) 32) ∙ ap (λ n. length text + n) (length-replicate (width - length text) 32) ∙ sum

trimmed-padded : (width : ℕ) (text : List ℕ) → without_trailing is_blank text ≡ text → without_trailing is_blank (padded width text) ≡ text
trimmed-padded width text trimmed = without_trailing-append is_blank text (replicate (width - length text) 32) (blanks (width - length text)) ∙ trimmed

-- a part after so many elements, of so many
middle : (pre mid post : List ℕ) (k n : ℕ) → length pre ≡ k → length mid ≡ n → take n (drop k (pre ++ (mid ++ post))) ≡ mid
middle pre mid post k n before long =
    subst (λ m. take m (drop k (pre ++ (mid ++ post))) ≡ mid) long
    (subst (λ m. take (length mid) (drop m (pre ++ (mid ++ post))) ≡ mid) before
    (ap (take (length mid)) (drop-append_seam pre (mid ++ post)) ∙ take-append_seam mid post))

-- eight texts in a row
abbrev joined : List ℕ → List ℕ → List ℕ → List ℕ → List ℕ → List ℕ → List ℕ → List ℕ → List ℕ
joined a K b A c B d v = a ++ K ++ b ++ A ++ c ++ B ++ d ++ v

module _ (a K b A c B d v : List ℕ) (la : length a ≡ 1) (lK : length K ≡ 2) (lb : length b ≡ 1) (lA : length A ≡ 8) (lc : length c ≡ 2) (lB : length B ≡ 8)
    (ld : length d ≡ 2) where
  pick_kind : take 2 (drop 1 (joined a K b A c B d v)) ≡ K
  pick_kind =
      let shape : joined a K b A c B d v ≡ a ++ (K ++ (b ++ (A ++ (c ++ (B ++ (d ++ v)))))) = simp append_assoc in
      ap (λ list. take 2 (drop 1 list)) shape ∙ middle a K (b ++ (A ++ (c ++ (B ++ (d ++ v))))) 1 2 la lK

  pick_name1 : take 8 (drop 4 (joined a K b A c B d v)) ≡ A
  pick_name1 =
      let shape : joined a K b A c B d v ≡ (a ++ (K ++ b)) ++ (A ++ (c ++ (B ++ (d ++ v)))) = simp append_assoc in
      let before : length (a ++ (K ++ b)) ≡ 4 = omega (arith, length-append a (K ++ b), length-append K b, la, lK, lb) in
      ap (λ list. take 8 (drop 4 list)) shape ∙ middle (a ++ (K ++ b)) A (c ++ (B ++ (d ++ v))) 4 8 before lA

  pick_name2 : take 8 (drop 14 (joined a K b A c B d v)) ≡ B
  pick_name2 =
      let shape : joined a K b A c B d v ≡ (a ++ (K ++ (b ++ (A ++ c)))) ++ (B ++ (d ++ v)) = simp append_assoc in
      let before : length (a ++ (K ++ (b ++ (A ++ c)))) ≡ 14
      = omega (
        arith,
        length-append a (K ++ (b ++ (A ++ c))),
        length-append K (b ++ (A ++ c)),
        length-append b
            (A ++ c),
        length-append A c,
        la,
        lK,
        lb,
        lA,
        lc,
      ) in
      ap (λ list. take 8 (drop 14 list)) shape ∙ middle (a ++ (K ++ (b ++ (A ++ c)))) B (d ++ v) 14 8 before lB

  abbrev front : List ℕ
  front = a ++ (K ++ (b ++ (A ++ (c ++ (B ++ d)))))

  front_long : length front ≡ 24
  front_long =
      omega (
        arith,
        length-append a (K ++ (b ++ (A ++ (c ++ (B ++ d))))),
        length-append K (b ++ (A ++ (c ++ (B ++ d)))),
        length-append b
            (A ++ (c ++ (B ++ d))),
        length-append A (c ++ (B ++ d)),
        length-append c (B ++ d),
        length-append B d,
        la,
        lK,
        lb,
        lA,
        lc,
        lB,
        ld,
      )

  line_is : joined a K b A c B d v ≡ front ++ v
  line_is = simp append_assoc

  pick_value1 : length v ≤ 12 → take 12 (drop 24 (joined a K b A c B d v)) ≡ v
  pick_value1 short =
      let cut : drop 24 (front ++ v) ≡ v = subst (λ n. drop n (front ++ v) ≡ v) front_long (drop-append_seam front v) in
      ap (λ list. take 12 (drop 24 list)) line_is ∙ ap (take 12) cut ∙ take_all 12 v short

  nothing_past : length v ≤ 12 → (k : ℕ) → 36 ≤ k → drop k (joined a K b A c B d v) ≡ []
  nothing_past short k past =
      let long : length (front ++ v) ≤ k = omega (arith, length-append front v, front_long) in
      ap (drop k) line_is ∙ drop_of_length-le (front ++ v) long

-- a name or a number that a field can hold
pub record FitsField (width : ℕ) (text : List ℕ) : Type 0 where
  pub short : length text ≤ width
  pub trimmed : without_trailing is_blank text ≡ text

-- The fields of a written card are those that it was written with.
pub reading_of-data_card : (kind name1 name2 value : List ℕ) → FitsField 2 kind → without_leading is_blank kind ≡ kind → FitsField 8 name1 → FitsField 8 name2
    → FitsField 12 value
    → reading_of Fixed (data_card kind name1 name2 value)
    ≡ record { kind = kind; name1 = name1; name2 = name2; value1 = value; name3 = []; value2 = []; value1_column = 25; value2_column = 50 }
unfolding reading_of data_card
reading_of-data_card kind name1 name2 value fk lead f1 f2 fv =
    λ i. record {
      kind = at_kind i;
      name1 = at_name1 i;
      name2 = at_name2 i;
      value1 = at_value1 i;
      name3 = at_name3 i;
      value2 = at_value2 i;
      value1_column =
          25;
      value2_column = 50;
    }
  where
    trim : List ℕ → List ℕ
    trim text = without_trailing is_blank text

    a : List ℕ
    a = codes " "

    b : List ℕ
    b = codes " "

    c : List ℕ
    c = codes "  "

    d : List ℕ
    d = codes "  "

    K : List ℕ
    K = padded 2 kind

    A : List ℕ
    A = padded 8 name1

    B : List ℕ
    B = padded 8 name2

    la : length a ≡ 1
    la = refl

    lb : length b ≡ 1
    lb = refl

    lc : length c ≡ 2
    lc = refl

    ld : length d ≡ 2
    ld = refl

    lK : length K ≡ 2
    lK = length-padded 2 kind fk.short

    lA : length A ≡ 8
    lA = length-padded 8 name1 f1.short

    lB : length B ≡ 8
    lB = length-padded 8 name2 f2.short

    part : (from count : ℕ) →
        without_trailing is_blank (take count (drop from (without_trailing is_blank (joined a K b A c B d value)))) ≡ without_trailing is_blank
        (take count (drop from (joined a K b A c B d value)))
    part from count = part_of_trimmed is_blank from count (joined a K b A c B d value)

    card : List ℕ
    card = without_trailing is_blank (joined a K b A c B d value)

    at_kind : without_leading is_blank (columns 2 3 card) ≡ kind
    at_kind = ap (without_leading is_blank) (part 1 2 ∙ ap trim (pick_kind a K b A c B d value la lK lb lA lc lB ld) ∙ trimmed-padded 2 kind fk.trimmed) ∙ lead

    at_name1 : columns 5 12 card ≡ name1
    at_name1 = part 4 8 ∙ ap trim (pick_name1 a K b A c B d value la lK lb lA lc lB ld) ∙ trimmed-padded 8 name1 f1.trimmed

    at_name2 : columns 15 22 card ≡ name2
    at_name2 = part 14 8 ∙ ap trim (pick_name2 a K b A c B d value la lK lb lA lc lB ld) ∙ trimmed-padded 8 name2 f2.trimmed

    at_value1 : columns 25 36 card ≡ value
    at_value1 = part 24 12 ∙ ap trim (pick_value1 a K b A c B d value la lK lb lA lc lB ld fv.short) ∙ fv.trimmed

    at_name3 : columns 40 47 card ≡ []
    at_name3 = part 39 8 ∙ ap (λ list. trim (take 8 list)) (nothing_past a K b A c B d value la lK lb lA lc lB ld fv.short 39 (lit≤ tt))

    at_value2 : columns 50 61 card ≡ []
    at_value2 = part 49 12 ∙ ap (λ list. trim (take 12 list)) (nothing_past a K b A c B d value la lK lb lA lc lB ld fv.short 49 (lit≤ tt))
