-- What a turn of the walk comes to, by what was open and what was due.
--     On Walked Ended turn         where the walk goes on this holds of the walker, and where it ends attested that of the number of
--                                  reports
use Rattle.std.proofs.Common.{◌≡◌, ℕ, Bool, true, false, List, [], ◌∷◌, refl, ◌∙◌, append-nil}
use Rattle.std.specs.Prelude.{Option, Some, None, is_none, if◌then◌else◌}
use Rattle.std.specs.Option.{option_or}
use Rattle.listing_definitions.specs.Ending.{Ending}
use Rattle.listing_definitions.specs.Listing.{ending_text}
use Rattle.run_definitions.specs.State.{State}
use Rattle.run_definitions.specs.Moves.{Gain, Nothing, Prints, Punches, StatementOutcome, Goes, Ends}
use Rattle.walk_definitions.specs.Words.{left_after}
use Rattle.walk_definitions.specs.Forms.{is_open_stop}
use Rattle.walk_definitions.specs.Walker.{Pending, Walker, Found, Attested, Wrong, Open, Unchecked, WalkTurn, Walks, Finds, open_if, open_stop, pending_found}
use Rattle.walk_definitions.specs.Walker.{open_pending, open_outcome, ended, unless_found, closes}
use Rattle.walk_definitions.proofs.Texts.{is_text}

abbrev pub On : (Walker → Type 0) → (ℕ → Type 0) → WalkTurn → Type 0
On Walked Ended (Walks v) = Walked v
On Walked Ended (Finds (Attested count)) = Ended count
On Walked Ended (Finds found) = Unit {0}

pub on_map : (Walked Walked' : Walker → Type 0) (Ended Ended' : ℕ → Type 0) → ((v : Walker) → Walked v → Walked' v) →
    ((count : ℕ) → Ended count → Ended' count) →
    (turn : WalkTurn) → On Walked Ended turn → On Walked' Ended' turn
on_map Walked Walked' Ended Ended' walks ends (Walks v) on = walks v on
on_map Walked Walked' Ended Ended' walks ends (Finds (Attested count)) on = ends count on
on_map Walked Walked' Ended Ended' walks ends (Finds (Wrong rest)) on = tt
on_map Walked Walked' Ended Ended' walks ends (Finds (Open rest)) on = tt
on_map Walked Walked' Ended Ended' walks ends (Finds (Unchecked rest)) on = tt

-- ---- what is open

abbrev pub NeverAttests : Option Found → Type 0
NeverAttests (Some (Attested count)) = ⊥
NeverAttests found = Unit {0}

pub never_either : (a b : Option Found) → NeverAttests a → NeverAttests b → NeverAttests (option_or a b)
never_either None b first second = second
never_either (Some found) b first second = first

pub never_if : (stands : Bool) (w : Walker) → NeverAttests (open_if stands w)
never_if true w = tt
never_if false w = tt

pub never_pending : (pending : Option Pending) → NeverAttests (pending_found pending)
never_pending None = tt
never_pending (Some pending) = tt

never_unmarked : (b : Bool) (pending : Option Pending) → NeverAttests (if b then pending_found pending else None)
never_unmarked true pending = never_pending pending
never_unmarked false pending = tt

pub never_stop : (w : Walker) → NeverAttests (open_stop w)
never_stop w = never_if (is_open_stop w.rest) w

pub never_outcome : (w : Walker) (outcome : StatementOutcome) → NeverAttests (open_outcome w outcome)
never_outcome w (Ends gain ending) = never_either (open_stop w) (open_pending w) (never_stop w) (never_pending w.pending)
never_outcome w (Goes Nothing after) = never_unmarked (is_none after.mark) w.pending
never_outcome w (Goes (Prints report) after) =
    never_either (open_stop w) (if is_none after.mark then open_pending w else None) (never_stop w) (never_unmarked (is_none after.mark) w.pending)
never_outcome w (Goes (Punches report cards) after) =
    never_either (open_stop w) (if is_none after.mark then open_pending w else None) (never_stop w) (never_unmarked (is_none after.mark) w.pending)

pub none_either : (a b : Option Found) → option_or a b ≡ None → (a ≡ None) × (b ≡ None)
none_either None b e = (refl, e)
none_either (Some found) b e = absurd (cc e)

pub nothing_pending : (pending : Option Pending) → pending_found pending ≡ None → pending ≡ None
nothing_pending None e = refl
nothing_pending (Some pending) e = absurd (cc e)

-- while something is pending the mark stands
marked : (b : Bool) (pending : Option Pending) (p : Pending) → pending ≡ Some p → (if b then pending_found pending else None) ≡ None → b ≡ false
marked true None p is none = absurd (cc is)
marked true (Some q) p is none = absurd (cc none)
marked false pending p is none = refl

pub stays_marked : (w : Walker) (gain : Gain) (after : State) (p : Pending) → w.pending ≡ Some p → open_outcome w (Goes gain after) ≡ None →
    is_none after.mark ≡ false
stays_marked w Nothing after p is none = marked (is_none after.mark) w.pending p is none
stays_marked w (Prints report) after p is none =
    marked (is_none after.mark) w.pending p is (none_either (open_stop w) (if is_none after.mark then open_pending w else None) none).1
stays_marked w (Punches report cards) after p is none =
    marked (is_none after.mark) w.pending p is (none_either (open_stop w) (if is_none after.mark then open_pending w else None) none).1

-- ---- what is due

module _ (Walked : Walker → Type 0) (Ended : ℕ → Type 0) where
  -- unless something is open
  pub on_unless : (o : Option Found) (turn : WalkTurn) → NeverAttests o → (o ≡ None → On Walked Ended turn) → On Walked Ended (unless_found o turn)
  on_unless None turn never on = on refl
  on_unless (Some (Attested count)) turn never on = absurd never
  on_unless (Some (Wrong rest)) turn never on = tt
  on_unless (Some (Open rest)) turn never on = tt
  on_unless (Some (Unchecked rest)) turn never on = tt

  -- the end is due
  pub on_closes : (w : Walker) (ending : Ending) → (w.pending ≡ None → w.rest ≡ ending_text ending → Ended w.reports) → On Walked Ended (closes w ending)
  on_closes w ending ends =
      on_unless (option_or (open_stop w) (open_pending w)) (Finds (ended w (left_after (ending_text ending) w.rest)))
      (never_either (open_stop w) (open_pending w) (never_stop w) (never_pending w.pending))
      (λ none. by (left_after (ending_text ending) w.rest) refl (nothing_pending w.pending (none_either (open_stop w) (open_pending w) none).1))
    where
      by : (left : Option (List ℕ)) → left_after (ending_text ending) w.rest ≡ left → w.pending ≡ None → On Walked Ended (Finds (ended w left))
      by None is settled = tt
      by (Some []) is settled = ends settled (is_text (ending_text ending) w.rest [] is ∙ append-nil (ending_text ending))
      by (Some (byte ∷ rest)) is settled = tt
