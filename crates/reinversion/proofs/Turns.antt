-- What is due before an exchange, how long the file is after it, and what the fields keep.
use Rattle.std.proofs.Common.{◌≡◌, ◌≢◌, ℕ, zero, suc, ◌+◌, ◌-◌, ◌^◌, ◌<◌, ◌≤◌, ◌⊎◌, inl, inr, Bool, List, [], ◌∷◌, length, drop, sym, ◌∙◌, ap, true, false}
use Rattle.std.proofs.Common.{subst, arith, Option, Some, None, Result, Ok, Err, OnOk}
use Rattle.std.specs.Prelude.{slice_index_or, MatchBool}
use Rattle.std.proofs.lemmas.List.{length-append}
use Rattle.exact_values.specs.Rational.{ℚ}
use Rattle.lp_definitions.specs.LinearProgram.{Matrix, size, value_at}
use Rattle.lp_definitions.specs.Basis.{Basics, IsNonbasic, IsNonsingular, IsDirectionOf}
use Rattle.lp_laws.proofs.Exchange.{marked, marked_is}
use Rattle.eta_file.specs.Prefixes.{basic_columns}
use Rattle.eta_file.specs.Inverse.{Inverse, IsAppended}
use Rattle.eta_file.specs.declared.eta.StoredEta.{StoredEta}
use Rattle.reinversion.specs.Last.{IsCarried, IsLast}
use Rattle.reinversion.specs.declared.last_column.LastColumn.{LastColumn}
use Rattle.lp_model.specs.declared.Stop.{Stop}
use Rattle.reinversion.specs.Rebuilt.{IsRemade, KeptRefused}
use Rattle.reinversion.specs.declared.form.ProductForm.TheInside.{Inside}
use Rattle.reinversion.specs.declared.form.Reinverted.{Reinverted}
use Rattle.reinversion.specs.declared.form.Reinverted.TheVariants.{Done, Kept}
use Rattle.reinversion.specs.Form.{Form, IsForm, IfDone, IfKept, IsDue, HasLongPivot, IsPrepared, not_due, is_new, is_refused, IsTurn, goes_on, made_anew}
use Rattle.reinversion.specs.Form.{stays_long}

past_at_most : (b : Basics) (m : ℕ) → marked (drop m b) ≤ marked b
past_at_most [] zero = omega arith
past_at_most [] (suc m) = omega arith
past_at_most (x ∷ xs) zero = omega arith
past_at_most (true ∷ xs) (suc m) = let rest = past_at_most xs m in omega (arith, rest)
past_at_most (false ∷ xs) (suc m) = past_at_most xs m

-- no more basic columns than rows
pub columns_few : (a : Matrix) (b : Basics) → IsNonsingular a b → basic_columns a b ≤ a.rows
columns_few a b one =
    let past = past_at_most b a.rows in
    let columns : marked (drop a.rows b) ≡ basic_columns a b = marked_is (drop a.rows b) in
    let whole : marked b ≡ a.rows = marked_is b ∙ one.m_basics in
    omega (arith, past, columns, whole)

-- one eta more
longer : (f g : Inverse) (p q : ℕ) → IsAppended f p q g → length g.etas ≡ length f.etas + 1
longer f g p q h = ap length h.one_more ∙ length-append f.etas (h.eta ∷ [])

-- an exchange after what was due
turn_after : (f g h : Form) (p q : ℕ) → IsPrepared f g → IsAppended g.file p q h.file → h.since ≡ g.since + 1 → IsTurn f h
turn_after f g h p q (not_due few early same) more counted =
    goes_on few early (counted ∙ ap (λ (x : Form). x.since + 1) same) (longer g.file h.file p q more ∙ ap (λ (x : Form). length x.file.etas + 1) same)
turn_after f g h p q (is_new due none few) more counted =
    let long = longer g.file h.file p q more in
    made_anew due (omega (arith, counted, none)) (omega (arith, long, few))
turn_after f g h p q (is_refused due none same e kept) more counted =
    stays_long due (omega (arith, counted, none)) (longer g.file h.file p q more ∙ ap (λ (x : Inverse). length x.etas + 1) same) e kept

-- a direction belongs to the basics, and not to the file
carried_same : (f g : Inverse) (o : Option ℕ) (xs : List ℚ) → g.matrix ≡ f.matrix → g.basics ≡ f.basics → IsCarried f o xs → IsCarried g o xs
carried_same f g None xs same_matrix same_basics h = h
carried_same f g (Some j) xs same_matrix same_basics h =
    subst (λ (a : Matrix). IsNonbasic a g.basics j × IsDirectionOf a g.basics j (value_at xs)) (sym same_matrix)
    (subst (λ (b : Basics). IsNonbasic f.matrix b j × IsDirectionOf f.matrix b j (value_at xs)) (sym same_basics) h)

last_same : (f g : Inverse) (last : LastColumn) → g.matrix ≡ f.matrix → g.basics ≡ f.basics → IsLast f last → IsLast g last
last_same f g last same_matrix same_basics h = record {
  places = h.places ∙ ap size (sym same_matrix);
  wholes = h.wholes ∙ ap size (sym same_matrix);
  carried = carried_same f g last.of last.direction.items same_matrix same_basics h.carried;
}

-- what the fields keep where the file is made anew
pub form_remade : (a b : Inside) → IsForm a → IsNonsingular a.file.matrix a.file.basics → IsRemade a.file b.file → b.last ≡ a.last → b.price ≡ a.price →
    b.since ≡ 0 → IsForm b
form_remade a b h one remade same_last same_price none = record {
  price = same_price ∙ h.price ∙ ap size (sym remade.same_matrix);
  last = subst (λ (x : LastColumn). IsLast b.file x) (sym same_last) (last_same a.file b.file a.last remade.same_matrix remade.same_basics h.last);
  short = record {
    few = omega (arith, none);
    bounded = λ _.
        let columns = columns_few a.file.matrix a.file.basics one in
        let rows : b.file.matrix.rows ≡ a.file.matrix.rows = ap (λ (x : Matrix). x.rows) remade.same_matrix in
        omega (arith, columns, rows, remade.counted);
  };
}

-- what was due is done
pub prepared : (f g : Form) (r : Reinverted) → IsDue f → g.since ≡ 0 → g.file.matrix ≡ f.file.matrix → g.file.basics ≡ f.file.basics
    → IfDone (length g.file.etas ≤ basic_columns g.file.matrix g.file.basics) r → IfKept (KeptRefused f.file.matrix f.file.basics) r
    → IfKept (λ _. g.file ≡ f.file) r → IsPrepared f g
prepared f g Done due none same_matrix same_basics done kept same =
    is_new due none
    (subst (λ (a : Matrix). length g.file.etas ≤ basic_columns a f.file.basics) same_matrix
    (subst (λ (b : Basics). length g.file.etas ≤ basic_columns g.file.matrix b) same_basics done))
prepared f g (Kept e) due none same_matrix same_basics done kept same = is_refused due none same e kept

pub prepared_few : (f g : Form) → IsPrepared f g → g.since + 1 < 50
prepared_few f g (not_due few early same) = subst (λ (x : Form). x.since + 1 < 50) (sym same) few
prepared_few f g (is_new due none short) = omega (arith, none)
prepared_few f g (is_refused due none same e kept) = omega (arith, none)

pub turn_is : (r : Result (Unit {0}) Stop) (f g h : Form) (p q : ℕ) → IsPrepared f g → OnOk r (IsAppended g.file p q h.file) → OnOk r (h.since ≡ g.since + 1) →
    OnOk r (IsTurn f h)
turn_is (Ok x) f g h p q ready more counted = turn_after f g h p q ready more counted
turn_is (Err e) f g h p q ready more counted = tt

-- ---- what is due

-- whether the last pivot is a long number
pub last_is_short : (etas : List StoredEta) (x : ℚ) → ((d : StoredEta) → (slice_index_or etas (length etas - 1) d).pivot ≡ x) → x.denominator < 2 ^ 32 →
    HasLongPivot etas → ⊥
last_is_short [] x is short long = absurd (omega (arith, long.0))
last_is_short (e ∷ es) x is short long =
    let big : 2 ^ 32 ≤ x.denominator = subst (λ (y : ℚ). 2 ^ 32 ≤ y.denominator) (is e) (long.1 e) in omega (arith, big, short)

pub last_is_long : (etas : List StoredEta) (x : ℚ) → ((d : StoredEta) → (slice_index_or etas (length etas - 1) d).pivot ≡ x) → 1 ≤ length etas →
    2 ^ 32 ≤ x.denominator → HasLongPivot etas
last_is_long etas x is some big = (some, λ d. subst (λ (y : ℚ). 2 ^ 32 ≤ y.denominator) (sym (is d)) big)

-- no exchange before the 20th makes the file anew first, and no other before the 50th without a long pivot
pub due_early : (f : Form) → f.since + 1 < 20 → IsDue f → ⊥
due_early f few (inl e) = omega (arith, few, e)
due_early f few (inr long) = omega (arith, few, long.0)

pub due_by_pivot : (b : Bool) (f : Form) → f.since + 1 < 50 → 20 ≤ f.since + 1 →
    MatchBool b (HasLongPivot f.file.etas) (HasLongPivot f.file.etas → ⊥) → MatchBool b (IsDue f) (IsDue f → ⊥)
due_by_pivot true f few late long = inr (late, long)
due_by_pivot false f few late short = at
  where
    at : IsDue f → ⊥
    at (inl e) = omega (arith, few, e)
    at (inr long) = short long.1

pub early : (f : Form) → f.since < 50 → (IsDue f → ⊥) → f.since + 1 < 50
early f few none =
    let apart : f.since + 1 ≢ 50 = λ e. none (inl e) in omega (arith, few, apart)
