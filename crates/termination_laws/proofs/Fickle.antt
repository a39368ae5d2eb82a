-- On a closed walk of exchanges the greatest-numbered variable that leaves comes in again, with the status at which it left.
use Rattle.std.proofs.Common.{◌≡◌, ◌≢◌, ℕ, ◌<◌, ◌≤◌, ◌⊎◌, inl, inr, Bool, true, false, List, [], ◌∷◌, length, refl, sym, ap, subst, ◌∙◌, arith}
use Rattle.std.specs.Prelude.{eqb, leb}
use Rattle.std.proofs.lemmas.Bool.Decides.{eqb_tells, leb_tells}
use Rattle.std.proofs.lemmas.List.{length-set}
use Rattle.lp_definitions.specs.LinearProgram.{LinearProgram, IsVariable, size}
use Rattle.lp_definitions.specs.Basis.{status_of, with_status, is_basic, IsBasis}
use Rattle.lp_definitions.specs.declared.Status.{Status}
use Rattle.lp_definitions.specs.declared.Status.TheVariants.{Bs}
use Rattle.lp_laws.proofs.Statuses.{basic_from, changed_own, changed_other}
use Rattle.lp_laws.proofs.Values.{clash}
use Rattle.simplex_definitions.specs.Path.{after}
use Rattle.termination_laws.proofs.Walks.{Visit, In, IsWalk, Turned, turn_to}

abbrev Compared : ℕ → ℕ → Type 0
Compared k j = ((eqb k j ≡ true) × (k ≡ j)) ⊎ ((eqb k j ≡ false) × (k ≢ j))

-- a visit whose leaving variable is the greatest
record Greatest (vs : List Visit) : Type 0 where
  last : Visit
  is_there : In last vs
  most : (x : Visit) → In x vs → x.move.leaves ≤ last.move.leaves

greatest : (v : Visit) (vs : List Visit) → Greatest (v ∷ vs)
greatest v [] = record { last = v; is_there = inl refl; most = λ x i. alone x i }
  where
    alone : (x : Visit) → ((x ≡ v) ⊎ ⊥) → x.move.leaves ≤ v.move.leaves
    alone x (inl e) = rw e (omega arith)
    alone x (inr i) = absurd i
greatest v (w ∷ vs) = choose (greatest w vs)
  where
    choose : Greatest (w ∷ vs) → Greatest (v ∷ w ∷ vs)
    choose g = by_order (leb_tells v.move.leaves g.last.move.leaves)
      where
        later : v.move.leaves ≤ g.last.move.leaves → (x : Visit) → ((x ≡ v) ⊎ In x (w ∷ vs)) → x.move.leaves ≤ g.last.move.leaves
        later h x (inl e) = rw e h
        later h x (inr i) = g.most x i

        here : g.last.move.leaves < v.move.leaves → (x : Visit) → ((x ≡ v) ⊎ In x (w ∷ vs)) → x.move.leaves ≤ v.move.leaves
        here h x (inl e) = rw e (omega arith)
        here h x (inr i) = omega (arith, h, g.most x i)

        by_order : (((leb v.move.leaves g.last.move.leaves ≡ true) × (v.move.leaves ≤ g.last.move.leaves)) ⊎
            ((leb v.move.leaves g.last.move.leaves ≡ false) × (g.last.move.leaves < v.move.leaves))) → Greatest (v ∷ w ∷ vs)
        by_order (inl h) = record { last = g.last; is_there = inr g.is_there; most = later h.1 }
        by_order (inr h) = record { last = v; is_there = inl refl; most = here h.1 }

module _ (p : LinearProgram) where
  -- what enters isn't basic, what leaves is, and it comes to stand at a limit
  pub record Exchanges (v : Visit) : Type 0 where
    pub basis : IsBasis p v.basis
    pub enters_is : IsVariable p.matrix v.move.enters
    pub leaves_is : IsVariable p.matrix v.move.leaves
    pub enters : status_of v.basis v.move.enters ≢ Bs
    pub leaves : status_of v.basis v.move.leaves ≡ Bs
    pub stands : v.move.to ≢ Bs

  module _ (v : Visit) (ex : Exchanges v) where
    pub entered : status_of (after v.basis v.move) v.move.enters ≡ Bs
    entered =
        changed_other p v.basis ex.basis v.move.leaves v.move.enters v.move.to (with_status v.basis v.move.enters Bs) ex.leaves_is ex.enters_is
        (λ e. ex.enters (ap (status_of v.basis) e ∙ ex.leaves))
        ∙ changed_own p v.basis ex.basis v.move.enters Bs v.basis ex.basis.counted ex.enters_is

    pub left : status_of (after v.basis v.move) v.move.leaves ≡ v.move.to
    left =
        let counted : length (with_status v.basis v.move.enters Bs) ≡ size p.matrix = rw length-set ex.basis.counted in
        changed_own p v.basis ex.basis v.move.leaves v.move.to (with_status v.basis v.move.enters Bs) counted ex.leaves_is

    pub stayed : (k : ℕ) → IsVariable p.matrix k → k ≢ v.move.enters → k ≢ v.move.leaves → status_of (after v.basis v.move) k ≡ status_of v.basis k
    stayed k is in_other out_other =
        changed_other p v.basis ex.basis v.move.leaves k v.move.to (with_status v.basis v.move.enters Bs) ex.leaves_is is out_other
        ∙ changed_other p v.basis ex.basis v.move.enters k Bs v.basis ex.enters_is is in_other

  -- k has the status st, and doesn't enter
  record Rests (k : ℕ) (st : Status) (v : Visit) : Type 0 where
    status : status_of v.basis k ≡ st
    out : v.move.enters ≢ k

  module _ (k : ℕ) (is : IsVariable p.matrix k) where
    -- a basic that never leaves stays basic
    stays_basic : (s end : List Status) (vs : List Visit) → IsWalk s vs end → ((v : Visit) → In v vs → Exchanges v) →
        ((v : Visit) → In v vs → v.move.leaves ≢ k) → status_of s k ≡ Bs →
        ((v : Visit) → In v vs → Rests k Bs v) × (status_of end k ≡ Bs)
    stays_basic s end [] walk ex never basic = ((λ v i. absurd i), ap (λ s. status_of s k) (sym walk) ∙ basic)
    stays_basic s end (v ∷ vs) walk ex never basic =
        let rest = stays_basic (after v.basis v.move) end vs walk.1 (λ x i. ex x (inr i)) (λ x i. never x (inr i)) (next (ex v (inl refl))) in
        (first rest.0, rest.1)
      where
        here : status_of v.basis k ≡ Bs
        here = ap (λ s. status_of s k) walk.0 ∙ basic

        apart : Exchanges v → v.move.enters ≢ k
        apart h e = h.enters (ap (status_of v.basis) e ∙ here)

        next : Exchanges v → status_of (after v.basis v.move) k ≡ Bs
        next h = stayed v h k is (λ e. apart h (sym e)) (λ e. never v (inl refl) (sym e)) ∙ here

        first : ((x : Visit) → In x vs → Rests k Bs x) → (x : Visit) → ((x ≡ v) ⊎ In x vs) → Rests k Bs x
        first rest x (inl e) = subst (Rests k Bs) (sym e) (record { status = here; out = apart (ex v (inl refl)) })
        first rest x (inr i) = rest x i

    -- what never leaves, and isn't basic at the end, never enters
    stays_out : (st : Status) (s end : List Status) (vs : List Visit) → IsWalk s vs end → ((v : Visit) → In v vs → Exchanges v) →
        ((v : Visit) → In v vs → v.move.leaves ≢ k) → status_of s k ≡ st → status_of end k ≢ Bs →
        (v : Visit) → In v vs → Rests k st v
    stays_out st s end [] walk ex never stands out v i = absurd i
    stays_out st s end (v ∷ vs) walk ex never stands out x i =
        first (λ x i. stays_out st (after v.basis v.move) end vs walk.1 (λ x i. ex x (inr i)) (λ x i. never x (inr i)) next out x i) x i
      where
        here : status_of v.basis k ≡ st
        here = ap (λ s. status_of s k) walk.0 ∙ stands

        apart : v.move.enters ≢ k
        apart e =
            out (stays_basic (after v.basis v.move) end vs walk.1 (λ x i. ex x (inr i)) (λ x i. never x (inr i))
            (ap (status_of (after v.basis v.move)) (sym e) ∙ entered v (ex v (inl refl)))).1

        next : status_of (after v.basis v.move) k ≡ st
        next = stayed v (ex v (inl refl)) k is (λ e. apart (sym e)) (λ e. never v (inl refl) (sym e)) ∙ here

        first : ((x : Visit) → In x vs → Rests k st x) → (x : Visit) → ((x ≡ v) ⊎ In x vs) → Rests k st x
        first rest x (inl e) = subst (Rests k st) (sym e) (record { status = here; out = apart })
        first rest x (inr i) = rest x i

    -- on a closed walk what never leaves has one status and never enters
    steady : (s : List Status) (vs : List Visit) → IsWalk s vs s → ((v : Visit) → In v vs → Exchanges v) → ((v : Visit) → In v vs → v.move.leaves ≢ k) →
        (v : Visit) → In v vs → Rests k (status_of s k) v
    steady s vs walk ex never v i = by_mark (is_basic (status_of s k)) refl
      where
        by_mark : (b : Bool) → is_basic (status_of s k) ≡ b → Rests k (status_of s k) v
        by_mark true e =
            let basic = basic_from (status_of s k) e in
            subst (λ st. Rests k st v) (sym basic) ((stays_basic s s vs walk ex never basic).0 v i)
        by_mark false e = stays_out (status_of s k) s s vs walk ex never refl (λ basic. clash (sym (ap is_basic basic) ∙ e)) v i

    -- where it comes in again it has the status that it had
    record ComesIn (st : Status) (vs : List Visit) : Type 0 where
      visit : Visit
      is_there : In visit vs
      enters : visit.move.enters ≡ k
      status : status_of visit.basis k ≡ st

    comes_in : (st : Status) → st ≢ Bs → (s end : List Status) (vs : List Visit) → IsWalk s vs end → ((v : Visit) → In v vs → Exchanges v) →
        status_of s k ≡ st → status_of end k ≡ Bs → ComesIn st vs
    comes_in st out s end [] walk ex stands basic = absurd (out (sym stands ∙ ap (λ s. status_of s k) walk ∙ basic))
    comes_in st out s end (v ∷ vs) walk ex stands basic =
        by_number (eqb_tells k v.move.enters) (comes_in st out (after v.basis v.move) end vs walk.1 (λ x i. ex x (inr i)))
      where
        here : status_of v.basis k ≡ st
        here = ap (λ s. status_of s k) walk.0 ∙ stands

        stays : k ≢ v.move.leaves
        stays e = out (sym here ∙ ap (status_of v.basis) e ∙ (ex v (inl refl)).leaves)

        by_number : Compared k v.move.enters → (status_of (after v.basis v.move) k ≡ st → status_of end k ≡ Bs → ComesIn st vs) → ComesIn st (v ∷ vs)
        by_number (inl same) rest = record { visit = v; is_there = inl refl; enters = sym same.1; status = here }
        by_number (inr other) rest =
            let r = rest (stayed v (ex v (inl refl)) k is other.1 stays ∙ here) basic in
            record { visit = r.visit; is_there = inr r.is_there; enters = r.enters; status = r.status }

  -- two visits: t leaves at the one, and enters at the other with the status that this leaving gave it; past t nothing changes
  pub record FicklePair (vs : List Visit) : Type 0 where
    pub t : ℕ
    pub leaving : Visit
    pub entering : Visit
    pub is_leaving : In leaving vs
    pub is_entering : In entering vs
    pub leaves : leaving.move.leaves ≡ t
    pub enters : entering.move.enters ≡ t
    pub stands : status_of entering.basis t ≡ leaving.move.to
    pub past : (k : ℕ) → IsVariable p.matrix k → t < k → status_of entering.basis k ≡ status_of leaving.basis k
    pub enters_before : leaving.move.enters < t
    pub leaves_before : entering.move.leaves < t

  pub fickle_pair : (s : List Status) (v : Visit) (vs : List Visit) → IsWalk s (v ∷ vs) s → ((x : Visit) → In x (v ∷ vs) → Exchanges x) → FicklePair (v ∷ vs)
  fickle_pair s v vs walk ex = record {
    t = t;
    leaving = w;
    entering = e.visit;
    is_leaving = g.is_there;
    is_entering = e_in;
    leaves = refl;
    enters = e.enters;
    stands = e.status;
    past = λ k is high. (rests k is high e.visit (inr e.is_there)).status;
    enters_before = enters_low;
    leaves_before = leaves_low;
  }
    where
      g : Greatest (v ∷ vs)
      g = greatest v vs

      w : Visit
      w = g.last

      t : ℕ
      t = w.move.leaves

      turned : Turned w (v ∷ vs)
      turned = turn_to s w (v ∷ vs) walk g.is_there

      at : (x : Visit) → In x (w ∷ turned.others) → Exchanges x
      at x i = ex x (turned.was_in x i)

      at_w : Exchanges w
      at_w = ex w g.is_there

      e : ComesIn t at_w.leaves_is w.move.to turned.others
      e = comes_in t at_w.leaves_is w.move.to at_w.stands (after w.basis w.move) w.basis turned.others turned.walk (λ x i. at x (inr i)) (left w at_w)
          at_w.leaves

      e_in : In e.visit (v ∷ vs)
      e_in = turned.was_in e.visit (inr e.is_there)

      rests : (k : ℕ) → IsVariable p.matrix k → t < k → (x : Visit) → In x (w ∷ turned.others) → Rests k (status_of w.basis k) x
      rests k is high =
          steady k is w.basis (w ∷ turned.others) (refl, turned.walk) at
          (λ x i same. let most = g.most x (turned.was_in x i) in omega (arith, most, same, high))

      enters_low : w.move.enters < t
      enters_low = by_order (leb_tells w.move.enters t)
        where
          apart : w.move.enters ≢ t
          apart same = at_w.enters (ap (status_of w.basis) same ∙ at_w.leaves)

          by_order : (((leb w.move.enters t ≡ true) × (w.move.enters ≤ t)) ⊎ ((leb w.move.enters t ≡ false) × (t < w.move.enters))) → w.move.enters < t
          by_order (inl h) = omega (arith, h.1, apart)
          by_order (inr h) = absurd ((rests w.move.enters at_w.enters_is h.1 w (inl refl)).out refl)

      leaves_low : e.visit.move.leaves < t
      leaves_low =
          let most = g.most e.visit e_in in
          let apart : e.visit.move.leaves ≢ t = (λ same. at_w.stands (sym e.status ∙ ap (status_of e.visit.basis) (sym same) ∙ (ex e.visit e_in).leaves)) in
          omega (arith, most, apart)
