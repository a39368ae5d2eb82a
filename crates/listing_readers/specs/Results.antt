-- What a reader comes to.
--     IfRead result Shows          what is read is shown so, or that it isn't there; nothing is said where there is no memory
use Rattle.std.specs.Prelude.{Option, Some, None, Result, Ok, Err}
use Rattle.listing_readers.specs.declared.unread.Unread.{Unread}
use Rattle.listing_readers.specs.declared.unread.Unread.TheVariants.{Absent, NoMemory}

abbrev pub IfRead : {X : Type 0} → Result X Unread → (Option X → Type 0) → Type 0
IfRead (Ok x) Shows = Shows (Some x)
IfRead (Err Absent) Shows = Shows None
IfRead (Err NoMemory) Shows = Unit {0}
