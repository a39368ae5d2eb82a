-- What a pass over the lines shows.
use Rattle.std.proofs.Common.{◌≡◌, ◌≢◌, ℕ, ◌<◌, List, [], ◌∷◌, ◌++◌, length, take, drop, get_or, sym, ap, ◌∙◌, subst, arith}
use Rattle.std.specs.List.{HoldsAt}
use Rattle.std.proofs.lemmas.List.{get_or_default, drop_all, append-nil, take_all}
use Rattle.exact_values.specs.Rational.{ℚ}
use Rattle.lp_definitions.specs.declared.Evidence.{Evidence}
use Rattle.rates_dense.specs.declared.line.Line.{Line}
use Rattle.rates_dense.specs.Refusals.{StayingRefused, SomeLineRefused}

-- a line of a list that has one
pub some_line : (lines : List Line) (at : ℕ) → at < length lines → Line
some_line [] at within = absurd (omega arith)
some_line (line ∷ lines) at within = line

pub some_refused : (p q : ℕ) (quotients : List ℚ) (lines : List Line) (slot : ℕ) (line : Line) (e : Evidence) → slot < length lines →
    ((d : Line) → get_or lines slot d ≡ line) → line.basic ≢ p → StayingRefused line.basic p q quotients line.rates.items e →
    SomeLineRefused p q quotients lines e
some_refused p q quotients lines slot line e within is_line stays refused = record {
  slot = slot;
  within = within;
  stays = λ d. subst (λ (x : Line). x.basic ≢ p) (sym (is_line d)) stays;
  refused = λ d. subst (λ (x : Line). StayingRefused x.basic p q quotients x.rates.items e) (sym (is_line d)) refused;
}

-- what holds of a line at one default holds at each
pub held_at : (P : Line → Type 0) (lines : List Line) (slot : ℕ) (e : Line) → slot < length lines → P (get_or lines slot e) → HoldsAt P lines slot
held_at P lines slot e within h d = subst P (get_or_default lines slot e d within) h

-- a list that was lent whole is the list that came back
pub came_back : {X : Type 0} (new old : List X) (n : ℕ) → length new ≡ length old → n ≡ length old → take n (new ++ drop (length new) old) ≡ new
came_back new old n same counted =
    let nothing : drop (length new) old ≡ [] = drop_all (length new) old (omega (arith, same)) in
    ap (λ xs. take n (new ++ xs)) nothing ∙ ap (take n) (append-nil new) ∙ take_all n new (omega (arith, same, counted))
