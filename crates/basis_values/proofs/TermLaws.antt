-- What holds of an error.
use Rattle.std.specs.Prelude.{Result, Ok, Err, IfErr, OnErr}

pub OnErr-map : {A E : Type 0} → (r : Result A E) {P Q : Type 0} → (P → Q) → OnErr r P → OnErr r Q
OnErr-map (Ok a) step h = tt
OnErr-map (Err e) step h = step h

pub IfErr-map : {A E : Type 0} → (r : Result A E) {P Q : E → Type 0} → ((e : E) → P e → Q e) → IfErr r P → IfErr r Q
IfErr-map (Ok a) step h = tt
IfErr-map (Err e) step h = step e h
