-- The product form: a file, and how long ago it was made anew.
--     Form                         a file, the number of exchanges since the last reinversion, and whether that one was refused
--     form_of, IsForm              what the fields stand for, and what they keep
--     IsShort f                    unless it was refused: at most one eta for each row, and one for each exchange since
--     HasLongPivot etas            the pivot of the last eta is a long number: its denominator has more than 32 bits
--     IsDue f                      the next exchange makes the file anew first: each 50th since the last reinversion, and each from the 20th
--                                  on after a long pivot
--     IsPrepared f g               g may take one more exchange: it is f, or where that is due f with a file made anew
--     IsTurn f g                   an exchange has led from f to g: where that was due it has made the file anew first
--     IfDone, IfKept               a fact, if the reinversion was done; a fact of the evidence, if the file was kept
use Rattle.std.specs.Prelude.{◌≡◌, ℕ, ◌+◌, ◌-◌, ◌^◌, ◌<◌, ◌≤◌, ◌⊎◌, Bool, List, false, length, slice_index_or}
use Rattle.lp_definitions.specs.LinearProgram.{size}
use Rattle.lp_definitions.specs.declared.Evidence.{Evidence}
use Rattle.eta_file.specs.Prefixes.{basic_columns}
use Rattle.eta_file.specs.Inverse.{Inverse}
use Rattle.eta_file.specs.declared.eta.StoredEta.{StoredEta}
use Rattle.reinversion.specs.Rebuilt.{KeptRefused}
use Rattle.reinversion.specs.Last.{IsLast}
use Rattle.reinversion.specs.declared.form.ProductForm.TheInside.{Inside}
use Rattle.reinversion.specs.declared.form.Reinverted.{Reinverted}
use Rattle.reinversion.specs.declared.form.Reinverted.TheVariants.{Done, Kept}

pub record Form : Type 0 where
  pub file : Inverse
  pub since : ℕ
  pub kept : Bool

abbrev pub form_of : Inside → Form
form_of a = record { file = a.file; since = a.since; kept = a.kept }

pub record IsShort (f : Form) : Type 0 where
  pub few : f.since < 50
  pub bounded : f.kept ≡ false → length f.file.etas ≤ f.file.matrix.rows + f.since

pub record IsForm (a : Inside) : Type 0 where
  pub price : a.price ≡ size a.file.matrix
  pub last : IsLast a.file a.last
  pub short : IsShort (form_of a)

abbrev pub HasLongPivot : List StoredEta → Type 0
HasLongPivot etas = (1 ≤ length etas) × ((d : StoredEta) → 2 ^ 32 ≤ (slice_index_or etas (length etas - 1) d).pivot.denominator)

abbrev pub IsDue : Form → Type 0
IsDue f = (f.since + 1 ≡ 50) ⊎ ((20 ≤ f.since + 1) × HasLongPivot f.file.etas)

pub data IsPrepared (f g : Form) : Type 0 where
  not_due : f.since + 1 < 50 → (IsDue f → ⊥) → g ≡ f → IsPrepared f g
  is_new : IsDue f → g.since ≡ 0 → length g.file.etas ≤ basic_columns f.file.matrix f.file.basics → IsPrepared f g
  is_refused : IsDue f → g.since ≡ 0 → g.file ≡ f.file → (e : Evidence) → KeptRefused f.file.matrix f.file.basics e → IsPrepared f g

pub data IsTurn (f g : Form) : Type 0 where
  goes_on : f.since + 1 < 50 → (IsDue f → ⊥) → g.since ≡ f.since + 1 → length g.file.etas ≡ length f.file.etas + 1 → IsTurn f g
  made_anew : IsDue f → g.since ≡ 1 → length g.file.etas ≤ basic_columns f.file.matrix f.file.basics + 1 → IsTurn f g
  stays_long : IsDue f → g.since ≡ 1 → length g.file.etas ≡ length f.file.etas + 1 → (e : Evidence) → KeptRefused f.file.matrix f.file.basics e →
      IsTurn f g

-- the fact, if the reinversion was done
abbrev pub IfDone : Type 0 → Reinverted → Type 0
IfDone P Done = P
IfDone P (Kept e) = Unit {0}

-- the fact of the evidence, if the file was kept
abbrev pub IfKept : (Evidence → Type 0) → Reinverted → Type 0
IfKept P Done = Unit {0}
IfKept P (Kept e) = P e
