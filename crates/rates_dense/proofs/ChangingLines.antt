-- The list of the lines that change, and what a pass over it makes of the lines.
use Rattle.std.specs.Prelude.{eqb}
use Rattle.std.proofs.Common.{◌≡◌, ◌≢◌, ℕ, ◌+◌, ◌<◌, ◌≤◌, ◌⊎◌, inl, inr, List, length, get_or, set, take, sym, ap, ◌∙◌, subst, true, false, arith, below_more}
use Rattle.std.proofs.lemmas.Bool.Decides.{eqb_tells}
use Rattle.std.proofs.lemmas.List.{get_or-set_same, get_or-set_other, get_or_default, length-take-le, get_or-take}
use Rattle.exact_values.specs.Rational.{ℚ}
use Rattle.lp_definitions.specs.declared.Evidence.{Evidence}
use Rattle.rates_dense.specs.declared.line.Line.{Line}
use Rattle.rates_dense.specs.Refusals.{StayingRefused, SomeLineRefused}
use Rattle.rates_dense.specs.Lines.{IsListed, LineByLine, SameRates, IsReady, IsUnchanged, AreChanging, IsCommitted}

-- ---- the list

-- the first `count` places have the slots of the first n lines that change
pub record ChangingTo (p q : ℕ) (lines : List Line) (slots : List ℕ) (n count : ℕ) : Type 0 where
  pub within : (place : ℕ) → place < count → get_or slots place 0 < n
  pub in_order : (one other : ℕ) → one < other → other < count → get_or slots one 0 < get_or slots other 0
  pub each : (slot : ℕ) (d : Line) → slot < n → ((place : ℕ) × (place < count) × (get_or slots place 0 ≡ slot)) ⊎ IsUnchanged p q (get_or lines slot d)
  pub only : (place : ℕ) (d : Line) → place < count → IsUnchanged p q (get_or lines (get_or slots place 0) d) → ⊥

module _ (p q : ℕ) (lines : List Line) (slots : List ℕ) (n count : ℕ) (so_far : ChangingTo p q lines slots n count) where
  pub changing_skipped : ((d : Line) → IsUnchanged p q (get_or lines n d)) → ChangingTo p q lines slots (n + 1) count
  changing_skipped unchanged = record {
    within = λ place below. omega (arith, so_far.within place below);
    in_order = so_far.in_order;
    each = λ slot d below. at slot d below (eqb_tells slot n);
    only = so_far.only;
  }
    where
      at : (slot : ℕ) (d : Line) → slot < n + 1 → ((eqb slot n ≡ true) × (slot ≡ n)) ⊎ ((eqb slot n ≡ false) × (slot ≢ n)) →
          ((place : ℕ) × (place < count) × (get_or slots place 0 ≡ slot)) ⊎ IsUnchanged p q (get_or lines slot d)
      at slot d below (inl same) = inr (subst (λ (k : ℕ). IsUnchanged p q (get_or lines k d)) (sym same.1) (unchanged d))
      at slot d below (inr other) = so_far.each slot d (omega (arith, other.1, below))

  pub changing_listed : count < length slots → ((d : Line) → IsUnchanged p q (get_or lines n d) → ⊥) →
      ChangingTo p q lines (set slots count n) (n + 1) (count + 1)
  changing_listed room changes = record {
    within = below_more (λ place. get_or (set slots count n) place 0 < n + 1) count
        (λ place below. subst (λ (k : ℕ). k < n + 1) (sym (kept place below)) (omega (arith, so_far.within place below)))
        (subst (λ (k : ℕ). k < n + 1) (sym own) (omega arith));
    in_order = λ one other before below. ordered one other before below (eqb_tells other count);
    each = λ slot d below. at slot d below (eqb_tells slot n);
    only = λ place d below. alone place d below (eqb_tells place count);
  }
    where
      own : get_or (set slots count n) count 0 ≡ n
      own = get_or-set_same slots count n 0 room

      kept : (place : ℕ) → place < count → get_or (set slots count n) place 0 ≡ get_or slots place 0
      kept place below = let other : place ≢ count = omega arith in get_or-set_other slots count place n 0 other

      alone : (place : ℕ) (d : Line) → place < count + 1 → ((eqb place count ≡ true) × (place ≡ count)) ⊎ ((eqb place count ≡ false) × (place ≢ count)) →
          IsUnchanged p q (get_or lines (get_or (set slots count n) place 0) d) → ⊥
      alone place d below (inl last) same =
          changes d (subst (λ (k : ℕ). IsUnchanged p q (get_or lines k d)) (ap (λ k. get_or (set slots count n) k 0) last.1 ∙ own) same)
      alone place d below (inr apart) same =
          let early : place < count = omega (arith, below, apart.1) in
          so_far.only place d early (subst (λ (k : ℕ). IsUnchanged p q (get_or lines k d)) (kept place early) same)

      ordered : (one other : ℕ) → one < other → other < count + 1 →
          ((eqb other count ≡ true) × (other ≡ count)) ⊎ ((eqb other count ≡ false) × (other ≢ count)) →
          get_or (set slots count n) one 0 < get_or (set slots count n) other 0
      ordered one other before below (inl last) =
          let early : one < count = omega (arith, before, last.1) in
          omega (arith, kept one early, so_far.within one early, own, ap (λ k. get_or (set slots count n) k 0) last.1)
      ordered one other before below (inr apart) =
          let early : other < count = omega (arith, below, apart.1) in
          omega (arith, kept one (omega (arith, before, early)), kept other early, so_far.in_order one other before early)

      before_it : (slot : ℕ) (d : Line) → ((place : ℕ) × (place < count) × (get_or slots place 0 ≡ slot)) ⊎ IsUnchanged p q (get_or lines slot d) →
          ((place : ℕ) × (place < count + 1) × (get_or (set slots count n) place 0 ≡ slot)) ⊎ IsUnchanged p q (get_or lines slot d)
      before_it slot d (inl there) = inl (there.0, omega (arith, there.1), kept there.0 there.1 ∙ there.2)
      before_it slot d (inr unchanged) = inr unchanged

      at : (slot : ℕ) (d : Line) → slot < n + 1 → ((eqb slot n ≡ true) × (slot ≡ n)) ⊎ ((eqb slot n ≡ false) × (slot ≢ n)) →
          ((place : ℕ) × (place < count + 1) × (get_or (set slots count n) place 0 ≡ slot)) ⊎ IsUnchanged p q (get_or lines slot d)
      at slot d below (inl same) = inl (count, omega arith, own ∙ sym same.1)
      at slot d below (inr other) = before_it slot d (so_far.each slot d (omega (arith, other.1, below)))

  pub changing_to_end : length lines ≤ n → n ≤ length lines → count ≤ length slots → AreChanging p q lines (take count slots)
  changing_to_end all high room = record {
    within = λ place below. let early : place < count = omega (arith, counted, below) in omega (arith, read place early, so_far.within place early, high);
    in_order = λ one other before below.
        let early : other < count = omega (arith, counted, below) in
        omega (arith, read one (omega (arith, before, early)), read other early, so_far.in_order one other before early);
    each = λ slot d below. at slot d (so_far.each slot d (omega (arith, below, all)));
    only = λ place d below same.
        let early : place < count = omega (arith, counted, below) in
        so_far.only place d early (subst (λ (k : ℕ). IsUnchanged p q (get_or lines k d)) (read place early) same);
  }
    where
      counted : length (take count slots) ≡ count
      counted = length-take-le count slots room

      read : (place : ℕ) → place < count → get_or (take count slots) place 0 ≡ get_or slots place 0
      read place below = get_or-take count slots place 0 below

      at : (slot : ℕ) (d : Line) → ((place : ℕ) × (place < count) × (get_or slots place 0 ≡ slot)) ⊎ IsUnchanged p q (get_or lines slot d) →
          IsListed (take count slots) slot ⊎ IsUnchanged p q (get_or lines slot d)
      at slot d (inl there) = inl (record { place = there.0; within = omega (arith, counted, there.1); is = read there.0 there.1 ∙ there.2 })
      at slot d (inr unchanged) = inr unchanged

-- ---- lines that are made ready

pub same_rates_then : (old before after : Line) → SameRates old before → SameRates before after → SameRates old after
same_rates_then old before after first then = record {
  same_basic = then.same_basic ∙ first.same_basic;
  same_rates = then.same_rates ∙ first.same_rates;
  same_room = then.same_room ∙ first.same_room;
}

-- the lines of the first n of the list are ready
pub record ReadyTo (p q : ℕ) (quotients : List ℚ) (js : List ℕ) (slots : List ℕ) (old new : List Line) (n : ℕ) : Type 0 where
  pub same : LineByLine SameRates old new
  pub ready : (place : ℕ) (d : Line) → place < n → IsReady p q quotients js (get_or new (get_or slots place 0) d)

-- one line more
pub same_more : (old now : List Line) (slot : ℕ) (f after : Line) → slot < length now → LineByLine SameRates old now → SameRates (get_or now slot f) after →
    LineByLine SameRates old (set now slot after)
same_more old now slot f after inside same change at d within = pick at d within (eqb_tells at slot)
  where
    pick : (at : ℕ) (d : Line) → at < length old → ((eqb at slot ≡ true) × (at ≡ slot)) ⊎ ((eqb at slot ≡ false) × (at ≢ slot)) →
        SameRates (get_or old at d) (get_or (set now slot after) at d)
    pick at d within (inl here) =
        let is : after ≡ get_or (set now slot after) at d = sym (ap (λ k. get_or (set now slot after) k d) here.1 ∙ get_or-set_same now slot after d inside) in
        let was : get_or now at d ≡ get_or now slot f = ap (λ k. get_or now k d) here.1 ∙ get_or_default now slot d f inside in
        subst (λ (line : Line). SameRates (get_or old at d) line) is
        (same_rates_then (get_or old at d) (get_or now slot f) after (subst (λ (line : Line). SameRates (get_or old at d) line) was (same at d within)) change)
    pick at d within (inr other) =
        subst (λ (line : Line). SameRates (get_or old at d) line) (sym (get_or-set_other now slot at after d other.1)) (same at d within)

pub ready_more : (p q : ℕ) (quotients : List ℚ) (js slots : List ℕ) (old now : List Line) (n : ℕ) (f after : Line) → get_or slots n 0 < length now
    → SameRates (get_or now (get_or slots n 0) f) after → IsReady p q quotients js after
    → ReadyTo p q quotients js slots old now n → ReadyTo p q quotients js slots old (set now (get_or slots n 0) after) (n + 1)
ready_more p q quotients js slots old now n f after inside change is_ready so_far = record {
  same = same_more old now (get_or slots n 0) f after inside so_far.same change;
  ready = λ place d below. pick place d below (eqb_tells (get_or slots place 0) (get_or slots n 0)) (eqb_tells place n);
}
  where
    pick : (place : ℕ) (d : Line) → place < n + 1
        → ((eqb (get_or slots place 0) (get_or slots n 0) ≡ true) × (get_or slots place 0 ≡ get_or slots n 0)) ⊎
        ((eqb (get_or slots place 0) (get_or slots n 0) ≡ false) × (get_or slots place 0 ≢ get_or slots n 0))
        → ((eqb place n ≡ true) × (place ≡ n)) ⊎ ((eqb place n ≡ false) × (place ≢ n))
        → IsReady p q quotients js (get_or (set now (get_or slots n 0) after) (get_or slots place 0) d)
    pick place d below (inl here) number =
        subst (λ (line : Line). IsReady p q quotients js line)
        (sym (ap (λ k. get_or (set now (get_or slots n 0) after) k d) here.1 ∙ get_or-set_same now (get_or slots n 0) after d inside)) is_ready
    pick place d below (inr other) (inl last) = absurd (other.1 (ap (λ k. get_or slots k 0) last.1))
    pick place d below (inr other) (inr earlier) =
        subst (λ (line : Line). IsReady p q quotients js line) (sym (get_or-set_other now (get_or slots n 0) (get_or slots place 0) after d other.1))
        (so_far.ready place d (omega (arith, below, earlier.1)))

-- a refusal at a line that has been made ready in part
pub refused_same : (p q : ℕ) (quotients : List ℚ) (old now : List Line) (slot : ℕ) (f : Line) (e : Evidence) → slot < length old → length now ≡ length old
    → LineByLine SameRates old now
    → (get_or now slot f).basic ≢ p → StayingRefused (get_or now slot f).basic p q quotients (get_or now slot f).rates.items e
    → SomeLineRefused p q quotients old e
refused_same p q quotients old now slot f e within counted same stays refused = record {
  slot = slot;
  within = within;
  stays = λ d is. stays (same_basic d ∙ is);
  refused = λ d. subst (λ (k : ℕ). StayingRefused k p q quotients (get_or old slot d).rates.items e) (same_basic d)
      (subst (λ (xs : List ℚ). StayingRefused (get_or now slot f).basic p q quotients xs e) (same_rates d) refused);
}
  where
    inside : slot < length now
    inside = omega (arith, counted, within)

    here : (d : Line) → get_or now slot f ≡ get_or now slot d
    here d = get_or_default now slot f d inside

    same_basic : (d : Line) → (get_or now slot f).basic ≡ (get_or old slot d).basic
    same_basic d = ap (λ (line : Line). line.basic) (here d) ∙ (same slot d within).same_basic

    same_rates : (d : Line) → (get_or now slot f).rates.items ≡ (get_or old slot d).rates.items
    same_rates d = ap (λ (line : Line). line.rates.items) (here d) ∙ ap (λ v. v.items) (same slot d within).same_rates

-- ---- lines that are taken

-- the line at a slot is committed, as one of the first n of the list, or it is as it was, and not among them
pub data TakenAt (p q : ℕ) (js slots : List ℕ) (old new : List Line) (n slot : ℕ) (d : Line) : Type 0 where
  taken : (place : ℕ) → place < n → get_or slots place 0 ≡ slot → IsCommitted p q js (get_or old slot d) (get_or new slot d) →
      TakenAt p q js slots old new n slot d
  as_it_was : ((place : ℕ) → place < n → get_or slots place 0 ≢ slot) → get_or new slot d ≡ get_or old slot d → TakenAt p q js slots old new n slot d

-- the next line of the list is as it was
pub not_yet : (p q : ℕ) (js slots : List ℕ) (old now : List Line) (n : ℕ) (d : Line) → AreChanging p q old slots → n < length slots →
    TakenAt p q js slots old now n (get_or slots n 0) d → get_or now (get_or slots n 0) d ≡ get_or old (get_or slots n 0) d
not_yet p q js slots old now n d are within (taken place below is committed) = absurd (omega (arith, are.in_order place n below within, is))
not_yet p q js slots old now n d are within (as_it_was none same) = same

pub taken_next : (p q : ℕ) (js slots : List ℕ) (old now : List Line) (n : ℕ) (f after : Line) → AreChanging p q old slots → n < length slots
    → length now ≡ length old → IsCommitted p q js (get_or now (get_or slots n 0) f) after
    → ((slot : ℕ) (d : Line) → slot < length old → TakenAt p q js slots old now n slot d) → (slot : ℕ) (d : Line) → slot < length old
    → TakenAt p q js slots old (set now (get_or slots n 0) after) (n + 1) slot d
taken_next p q js slots old now n f after are within counted committed so_far slot d below = pick (eqb_tells slot next) (so_far slot d below)
  where
    next : ℕ
    next = get_or slots n 0

    inside : next < length now
    inside = omega (arith, counted, are.within n within)

    here : slot ≡ next → after ≡ get_or (set now next after) slot d
    here same = sym (ap (λ k. get_or (set now next after) k d) same ∙ get_or-set_same now next after d inside)

    was : slot ≡ next → get_or now next f ≡ get_or old slot d
    was same =
        get_or_default now next f d inside ∙ not_yet p q js slots old now n d are within (so_far next d (are.within n within))
        ∙ ap (λ k. get_or old k d) (sym same)

    kept : slot ≢ next → get_or (set now next after) slot d ≡ get_or now slot d
    kept other = get_or-set_other now next slot after d other

    pick : ((eqb slot next ≡ true) × (slot ≡ next)) ⊎ ((eqb slot next ≡ false) × (slot ≢ next)) → TakenAt p q js slots old now n slot d →
        TakenAt p q js slots old (set now next after) (n + 1) slot d
    pick (inl same) before =
        taken n (omega arith) (sym same.1)
        (subst (λ (line : Line). IsCommitted p q js (get_or old slot d) line) (here same.1)
        (subst (λ (line : Line). IsCommitted p q js line after) (was same.1) committed))
    pick (inr other) (taken place earlier is done) =
        taken place (omega (arith, earlier)) is (subst (λ (line : Line). IsCommitted p q js (get_or old slot d) line) (sym (kept other.1)) done)
    pick (inr other) (as_it_was none same) =
        as_it_was (below_more (λ place. get_or slots place 0 ≢ slot) n none (λ e. other.1 (sym e))) (kept other.1 ∙ same)
