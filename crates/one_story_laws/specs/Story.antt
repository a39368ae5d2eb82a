-- When two reports say the same.
--     SameObjective, SameVerdict   two verdicts leave one mark, and optimal ones have one objective
--     SameClose end other          two parametric runs end at the same value, and in the same way
--     ReportsSame report other     two reports say the same
--     TellSame reports others      so do those of two lists, one by one
--     IsOfNoBasis report           it isn't of RANGE, PUNCH or INSERT
--     IsCutEnding ending           a run was cut off: by the limit on steps, by a price that is wrong for DUAL, or by an overflow
use Rattle.std.specs.Prelude.{◌≡◌, List, [], ◌∷◌}
use Rattle.listing_definitions.specs.Report.{PathVerdict, OptimalAt, ChainEnd, EndsAt, UnboundedPast, InfeasiblePast, Report, BasisOut, Inserted, Solved}
use Rattle.listing_definitions.specs.Report.{Solution, Ranges, Parametric}
use Rattle.listing_definitions.specs.Ending.{Ending, PriceStop, LimitStop, OverflowStop}
use Rattle.run_definitions.specs.Verbs.{mark_of}

abbrev pub SameObjective : PathVerdict → PathVerdict → Type 0
SameObjective (OptimalAt steps objective) (OptimalAt other_steps other) = objective ≡ other
SameObjective verdict other = Unit {0}

-- The steps, and the proof that no point is feasible or best, may be others.
abbrev pub SameVerdict : PathVerdict → PathVerdict → Type 0
SameVerdict verdict other = (mark_of verdict ≡ mark_of other) × SameObjective verdict other

abbrev pub SameClose : ChainEnd → ChainEnd → Type 0
SameClose (EndsAt value) (EndsAt other) = value ≡ other
SameClose (UnboundedPast value lines) (UnboundedPast other other_lines) = value ≡ other
SameClose (InfeasiblePast value lines) (InfeasiblePast other other_lines) = value ≡ other
SameClose end other = ⊥

-- Verdicts are of one solver, and SOLUTION is shown under one mark; parametric runs are of one solver, from the same first value, with
-- the same row or set that changes, and end at the same value in the same way. Other reports are equal.
abbrev pub ReportsSame : Report → Report → Type 0
ReportsSame (Solved solver verdict check) (Solved other another other_check) = (solver ≡ other) × SameVerdict verdict another
ReportsSame (Solution mark lines) (Solution other other_lines) = mark ≡ other
ReportsSame (Parametric solver chain) (Parametric other another) =
    (solver ≡ other) × (chain.from ≡ another.from) × (chain.change ≡ another.change) × SameClose chain.end another.end
ReportsSame report other = report ≡ other

-- they are as many, and each says the same as the one in its place
abbrev pub TellSame : List Report → List Report → Type 0
TellSame [] [] = Unit {0}
TellSame (report ∷ reports) (other ∷ others) = ReportsSame report other × TellSame reports others
TellSame reports others = ⊥

-- what RANGE, PUNCH and INSERT report is known by a basis alone, which no listing shows
abbrev pub IsOfNoBasis : Report → Type 0
IsOfNoBasis (Ranges lines) = ⊥
IsOfNoBasis (BasisOut name count) = ⊥
IsOfNoBasis (Inserted name count) = ⊥
IsOfNoBasis report = Unit {0}

-- of the run's own choice, or since a basis is as it is
abbrev pub IsCutEnding : Ending → Type 0
IsCutEnding (LimitStop reached) = Unit {0}
IsCutEnding (PriceStop price) = Unit {0}
IsCutEnding (OverflowStop overflow) = Unit {0}
IsCutEnding ending = ⊥
