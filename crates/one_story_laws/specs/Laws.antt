-- What is said of two listings of one job that are both attested, and of an attested one and the run of the job itself.
--     IsOneStory ..                two runs report the same, and what they show is worth the same, and they end alike
--     IsBrokenOff ..               a run was cut off, and as far as it goes that is so of it and the other
--     IsProvedListing C ..         a listing is true, with so many reports
--     OneStoryLaws                 two such listings tell one story, and so does the run, as far as it goes
use Rattle.std.specs.Prelude.{◌≡◌, ◌⊎◌, ℕ, List, ◌++◌, All, length, map}
use Rattle.listing_definitions.specs.Report.{Report}
use Rattle.listing_definitions.specs.Ending.{Ending}
use Rattle.answer_definitions.specs.Real.{linear_programming}
use Rattle.run_definitions.specs.State.{State}
use Rattle.run_definitions.specs.Answer.{IsJobRun}
use Rattle.walk_definitions.specs.Checkers.{Checker}
use Rattle.walk_definitions.specs.Walker.{Attested}
use Rattle.walk_definitions.specs.Found.{EndsIn}
use Rattle.walk_laws.specs.Proved.{attested, IsTrueListing}
use Rattle.one_story_laws.specs.Story.{TellSame, IsOfNoBasis, IsCutEnding}
use Rattle.one_story_laws.specs.Views.{made_in_job, ShowSame}

-- The reports of the one are also given with the states in which they were made.
pub record IsOneStory (made : List (State × Report)) (reports others : List Report) (ending other : Ending) : Type 0 where
  pub tell : TellSame reports others
  pub show : ShowSame made others
  pub end : ending ≡ other

pub record IsBrokenOff (made : List (State × Report)) (reports others : List Report) (ending : Ending) : Type 0 where
  pub is_cut : IsCutEnding ending
  pub first : List Report
  pub later : List Report
  pub are : others ≡ first ++ later
  pub tell : TellSame reports first
  pub show : ShowSame made first

pub record IsProvedListing (C : Checker) (bytes lines : List ℕ) (count : ℕ) : Type 0 where
  pub proved : IsTrueListing C bytes lines
  pub has_count : length proved.reports ≡ count

-- The listings may be attested by two checkers.
pub record OneStoryLaws : Type 0 where
  -- an attested listing is one
  pub is_proved : (C : Checker) (bytes lines : List ℕ) (count : ℕ) → EndsIn C bytes lines (Attested count) → IsProvedListing C bytes lines count
  -- two of them, of one job, tell one story
  pub one_story : (C D : Checker) (bytes lines others : List ℕ) (n m : ℕ) (one : IsProvedListing C bytes lines n) (two : IsProvedListing D bytes others m) →
      IsOneStory (made_in_job (attested C) one.proved.runs) one.proved.reports two.proved.reports one.proved.ending two.proved.ending
  -- and so two attested listings of one job have as many reports
  pub as_many : (C D : Checker) (bytes lines others : List ℕ) (n m : ℕ) → EndsIn C bytes lines (Attested n) → EndsIn D bytes others (Attested m) → n ≡ m
  -- the run of the job tells this story too, or it was cut off and tells the beginning of it
  pub run : (C : Checker) (bytes lines : List ℕ) (count : ℕ) (one : IsProvedListing C bytes lines count) (reports : List Report) (cards : List (List ℕ))
      (ending : Ending) →
      (runs : IsJobRun linear_programming bytes reports cards ending) →
      IsOneStory (made_in_job linear_programming runs) reports one.proved.reports ending one.proved.ending ⊎ IsBrokenOff
      (made_in_job linear_programming runs) reports one.proved.reports ending
  -- the reports that are given with their states are those of the run
  pub made : (C : Checker) (bytes lines : List ℕ) (one : IsTrueListing C bytes lines) → map (λ made. made.1) (made_in_job (attested C) one.runs) ≡ one.reports
  pub made_by_run : (bytes : List ℕ) (reports : List Report) (cards : List (List ℕ)) (ending : Ending)
      (runs : IsJobRun linear_programming bytes reports cards ending) →
      map (λ made. made.1) (made_in_job linear_programming runs) ≡ reports
  -- A true listing has no report of RANGE, PUNCH or INSERT, and so the run of a job of which a listing is proved has none.
  pub no_basis : (C : Checker) (bytes lines : List ℕ) (one : IsTrueListing C bytes lines) → All IsOfNoBasis one.reports
  pub no_basis_in_run : (C : Checker) (bytes lines : List ℕ) (count : ℕ) → IsProvedListing C bytes lines count →
      (reports : List Report) (cards : List (List ℕ)) (ending : Ending) →
      IsJobRun linear_programming bytes reports cards ending → All IsOfNoBasis reports
