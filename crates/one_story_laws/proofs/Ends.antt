-- Two parametric runs that are true of one family of linear programs end at the same value, and in the same way.
--     Covers family from last      up to this value there is a best point
--     BreaksPast ..                and past it, which is before the last value, every linear program is of this mark
--     IsClosed ..                  how a run closes, where it is true
--     IsLast max end               a run that isn't broken ends at the last value
--     HasRun family from max end   a true run that closes so
use Rattle.std.proofs.Common.{◌≡◌, List, [], ◌∷◌, sym, subst, ◌∙◌, inl, inr, ◌⊎◌}
use Rattle.std.specs.Prelude.{All}
use Rattle.std.proofs.lemmas.List.Elements.{All-head, All-tail, All-contains}
use Rattle.exact_values.specs.Rational.{ℚ, ◌≤ℚ◌, ◌<ℚ◌}
use Rattle.exact_values.proofs.Order.{le_refl, le_trans, le_of_eq, le_antisymm, lt_not_le, lt_or_le}
use Rattle.lp_definitions.specs.LinearProgram.{LinearProgram}
use Rattle.simplex_definitions.specs.Chain.{Part, ChainEnd as PastBreakpoint, AtMax, UnboundedPast as PastUnbounded, InfeasiblePast as PastInfeasible, along}
use Rattle.parametric_laws.specs.Truth.{IsTruePart, AreJoined, last_end, IsProvedPast, IsTrueEnd, IsTrueRun}
use Rattle.listing_definitions.specs.declared.Mark.{Mark}
use Rattle.listing_definitions.specs.declared.Mark.TheVariants.{Optimal, Infeasible, Unbounded}
use Rattle.listing_definitions.specs.Report.{ChainEnd, EndsAt, UnboundedPast, InfeasiblePast}
use Rattle.question_definitions.specs.Answers.{Sheet}
use Rattle.answer_definitions.specs.ParametricRuns.{end_of}
use Rattle.walk_laws.specs.Views.{past_of}
use Rattle.one_story_laws.specs.Story.{SameClose}
use Rattle.one_story_laws.proofs.Marks.{IsOfMark, one_mark}

module _ (family : ℚ → LinearProgram) where
  pub record Covers (from last : ℚ) : Type 0 where
    pub forward : from ≤ℚ last
    pub solved : (theta : ℚ) → from ≤ℚ theta → theta ≤ℚ last → IsOfMark (family theta) Optimal

  pub record BreaksPast (max last past : ℚ) (mark : Mark) : Type 0 where
    pub at_last : past ≡ last
    pub before_max : last <ℚ max
    pub proved : (theta : ℚ) → last <ℚ theta → IsOfMark (family theta) mark

  abbrev pub IsClosed : ℚ → ℚ → ChainEnd → Type 0
  IsClosed max last (EndsAt value) = last ≡ max
  IsClosed max last (UnboundedPast value lines) = BreaksPast max last value Unbounded
  IsClosed max last (InfeasiblePast value lines) = BreaksPast max last value Infeasible

  pub record HasRun (from max : ℚ) (end : ChainEnd) : Type 0 where
    pub last : ℚ
    pub covers : Covers from last
    pub closes : IsClosed max last end

  -- ---- a true run

  forward_all : (max from : ℚ) (parts : List Part) → All (IsTruePart family max) parts → AreJoined from parts → from ≤ℚ last_end from parts
  forward_all max from [] each joined = le_refl from
  forward_all max from (part ∷ parts) each joined =
      le_trans (le_of_eq (sym joined.0))
      (le_trans (All-head (IsTruePart family max) part parts each).forward
      (forward_all max part.to parts (All-tail (IsTruePart family max) part parts each) joined.1))

  covers_by : (from max : ℚ) (parts : List Part) (past : PastBreakpoint) → IsTrueRun family from max parts past → Covers from (last_end from parts)
  covers_by from max parts past run = record {
    forward = forward_all max from parts run.intervals run.joined;
    solved = λ theta after before.
        let covered = run.covered theta after before in
        let viewed = (All-contains (IsTruePart family max) parts covered.part run.intervals covered.among).solved theta covered.after covered.before in
        (along theta covered.part.value covered.part.value_rate, viewed.best);
  }

  breaks : {Proved : ℚ → Type 0} (max last past : ℚ) (mark : Mark) → ((theta : ℚ) → Proved theta → IsOfMark (family theta) mark) →
      IsProvedPast max last past Proved → BreaksPast max last past mark
  breaks max last past mark tells proof = record {
    at_last = proof.at_last;
    before_max = proof.before_max;
    proved = λ theta above. tells theta (proof.proved theta (subst (λ (x : ℚ). x <ℚ theta) (sym proof.at_last) above));
  }

  closed_as_viewed : (sheet : Sheet) (max last : ℚ) (end : ChainEnd) → IsTrueEnd family max last (past_of sheet end) → IsClosed max last end
  closed_as_viewed sheet max last (EndsAt value) closes = closes
  closed_as_viewed sheet max last (UnboundedPast value lines) closes = breaks max last value Unbounded (λ theta h. h.unbounded) closes
  closed_as_viewed sheet max last (InfeasiblePast value lines) closes = breaks max last value Infeasible (λ theta h. h.infeasible) closes

  closed_as_reported : (sheet : Sheet) (max last : ℚ) (past : PastBreakpoint) → IsTrueEnd family max last past → IsClosed max last (end_of sheet max past)
  closed_as_reported sheet max last AtMax closes = closes
  closed_as_reported sheet max last (PastUnbounded value z d) closes = breaks max last value Unbounded (λ theta h. h.unbounded) closes
  closed_as_reported sheet max last (PastInfeasible value w) closes = breaks max last value Infeasible (λ theta h. h.infeasible) closes

  pub run_as_viewed : (sheet : Sheet) (from max : ℚ) (parts : List Part) (end : ChainEnd) → IsTrueRun family from max parts (past_of sheet end) →
      HasRun from max end
  run_as_viewed sheet from max parts end run = record {
    last = last_end from parts;
    covers = covers_by from max parts (past_of sheet end) run;
    closes = closed_as_viewed sheet max (last_end from parts) end run.closes;
  }

  pub run_as_reported : (sheet : Sheet) (from max : ℚ) (parts : List Part) (past : PastBreakpoint) → IsTrueRun family from max parts past →
      HasRun from max (end_of sheet max past)
  run_as_reported sheet from max parts past run = record {
    last = last_end from parts;
    covers = covers_by from max parts past run;
    closes = closed_as_reported sheet max (last_end from parts) past run.closes;
  }

-- ---- two of them

abbrev pub IsLast : ℚ → ChainEnd → Type 0
IsLast max (EndsAt value) = value ≡ max
IsLast max end = Unit {0}

module _ (family : ℚ → LinearProgram) (from max : ℚ) where
  -- what has a best point doesn't go past a breakpoint
  within : (last other past : ℚ) (mark : Mark) → (Optimal ≡ mark → ⊥) → Covers family from other → BreaksPast family max last past mark → other ≤ℚ last
  within last other past mark broken covers breaks = by (lt_or_le last other)
    where
      by : (last <ℚ other) ⊎ (other ≤ℚ last) → other ≤ℚ last
      by (inl above) = absurd (broken (one_mark (family other) Optimal mark (covers.solved other covers.forward (le_refl other)) (breaks.proved other above)))
      by (inr below) = below

  -- nor does a run that ends at the last value stop at a breakpoint
  last_or_breakpoint : (last other past : ℚ) (mark : Mark) → (Optimal ≡ mark → ⊥) → other ≡ max → Covers family from other →
      BreaksPast family max last past mark → ⊥
  last_or_breakpoint last other past mark broken at covers breaks =
      lt_not_le breaks.before_max (subst (λ (x : ℚ). x ≤ℚ last) at (within last other past mark broken covers breaks))

  same_breakpoint : (last other past later : ℚ) (mark : Mark) → (Optimal ≡ mark → ⊥) → Covers family from last → Covers family from other →
      BreaksPast family max last past mark → BreaksPast family max other later mark → past ≡ later
  same_breakpoint last other past later mark broken first second breaks again =
      breaks.at_last ∙ le_antisymm (within other last later mark broken first again) (within last other past mark broken second breaks) ∙ sym again.at_last

  one_breakpoint : (last other past later : ℚ) (mark another : Mark) → BreaksPast family max last past mark → BreaksPast family max other later another →
      mark ≡ another
  one_breakpoint last other past later mark another breaks again =
      one_mark (family max) mark another (breaks.proved max breaks.before_max) (again.proved max again.before_max)

  closes_same : (last other : ℚ) (end another : ChainEnd) → Covers family from last → Covers family from other → IsClosed family max last end →
      IsClosed family max other another →
      IsLast max end → IsLast max another → SameClose end another
  closes_same last other (EndsAt value) (EndsAt later) first second closed again at also = at ∙ sym also
  closes_same last other (EndsAt value) (UnboundedPast later lines) first second closed again at also =
      absurd (last_or_breakpoint other last later Unbounded (λ e. cc e) closed first again)
  closes_same last other (EndsAt value) (InfeasiblePast later lines) first second closed again at also =
      absurd (last_or_breakpoint other last later Infeasible (λ e. cc e) closed first again)
  closes_same last other (UnboundedPast value lines) (EndsAt later) first second closed again at also =
      absurd (last_or_breakpoint last other value Unbounded (λ e. cc e) again second closed)
  closes_same last other (UnboundedPast value lines) (UnboundedPast later others) first second closed again at also =
      same_breakpoint last other value later Unbounded (λ e. cc e) first second closed again
  closes_same last other (UnboundedPast value lines) (InfeasiblePast later others) first second closed again at also =
      let e : Unbounded ≡ Infeasible = one_breakpoint last other value later Unbounded Infeasible closed again in absurd (cc e)
  closes_same last other (InfeasiblePast value lines) (EndsAt later) first second closed again at also =
      absurd (last_or_breakpoint last other value Infeasible (λ e. cc e) again second closed)
  closes_same last other (InfeasiblePast value lines) (UnboundedPast later others) first second closed again at also =
      let e : Infeasible ≡ Unbounded = one_breakpoint last other value later Infeasible Unbounded closed again in absurd (cc e)
  closes_same last other (InfeasiblePast value lines) (InfeasiblePast later others) first second closed again at also =
      same_breakpoint last other value later Infeasible (λ e. cc e) first second closed again

  -- two true runs from one value to one value
  pub same_close : (end other : ChainEnd) → HasRun family from max end → HasRun family from max other → IsLast max end → IsLast max other → SameClose end other
  same_close end other first second at also = closes_same first.last second.last end other first.covers second.covers first.closes second.closes at also
