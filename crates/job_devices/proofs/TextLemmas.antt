-- One text after another, and where a stop comes between.
use Rattle.std.proofs.Common.{◌≡◌, ℕ, List, [], ◌++◌, take, drop, Option, Some, None, Result, Ok, Err, refl, sym, ◌∙◌, ap, append_assoc, length, get_or, suc}
use Rattle.std.proofs.Common.{◌-◌, ◌<◌, arith, subst}
use Rattle.std.proofs.Math.Seq.{drop-cons}
use Rattle.std.proofs.lemmas.List.Concat.{flat_map-append, flat_map-cons}
use Rattle.std.proofs.lemmas.List.{append-nil, take-append-drop, take_all, length-drop}
use Rattle.std.specs.Io.KnownBytes.{Appends, Keeps}
use Rattle.job_devices.specs.Causes.{Rose}
use Rattle.std.specs.List.{flat_map}
use Rattle.job_devices.specs.States.{SinkState}
use Rattle.job_devices.specs.Text.{AppendsPrefix, Puts, Writes}
use Rattle.job_devices.specs.declared.device.WriteStop.{WriteStop}

pub Appends-then : (a b c : Option (List ℕ)) (x y : List ℕ) → Appends a b x → Appends b c y → Appends a c (x ++ y)
Appends-then None b c x y p q = tt
Appends-then (Some xs) None c x y p q = absurd p
Appends-then (Some xs) (Some ys) None x y p q = absurd q
Appends-then (Some xs) (Some ys) (Some zs) x y p q = q ∙ ap (λ w. w ++ y) p ∙ append_assoc xs x y

-- what keeps appends nothing
pub Appends-keeps : (a b c : Option (List ℕ)) (x : List ℕ) → Appends a b x → Keeps b c → Appends a c x
Appends-keeps None b c x p q = tt
Appends-keeps (Some xs) None c x p q = absurd p
Appends-keeps (Some xs) (Some ys) None x p q = absurd q
Appends-keeps (Some xs) (Some ys) (Some zs) x p q = q ∙ p

pub Appends-nothing : (a b : Option (List ℕ)) → Keeps a b → Appends a b []
Appends-nothing None b p = tt
Appends-nothing (Some xs) None p = absurd p
Appends-nothing (Some xs) (Some ys) p = p ∙ sym (append-nil xs)

-- a prefix of a text that was appended, where nothing came after it
pub prefix_kept : (a b c : Option (List ℕ)) (n : ℕ) (text : List ℕ) → Appends a b (take n text) → Keeps b c → AppendsPrefix a c text
prefix_kept a b c n text p q = (take n text, (drop n text, take-append-drop n text), Appends-keeps a b c (take n text) p q)

-- a prefix of a text is one of that text with more after it
pub AppendsPrefix-more : (a b : Option (List ℕ)) (x y : List ℕ) → AppendsPrefix a b x → AppendsPrefix a b (x ++ y)
AppendsPrefix-more a b x y p = (p.0, (p.1.0 ++ y, sym (append_assoc p.0 p.1.0 y) ∙ ap (λ w. w ++ y) p.1.1), p.2)

-- a text, and then a prefix of the next
pub AppendsPrefix-then : (a b c : Option (List ℕ)) (x y : List ℕ) → Appends a b x → AppendsPrefix b c y → AppendsPrefix a c (x ++ y)
AppendsPrefix-then a b c x y p q =
    (x ++ q.0, (q.1.0, append_assoc x q.0 q.1.0 ∙ ap (λ w. x ++ w) q.1.1), Appends-then a b c x q.0 p q.2)

-- a text, and then what a call writes
pub Puts-then : {T E : Type 0} (a b c : Option (List ℕ)) (r : Result T E) (x y : List ℕ) → Appends a b x → Puts b c r y → Puts a c r (x ++ y)
Puts-then a b c (Ok v) x y p q = Appends-then a b c x y p q
Puts-then a b c (Err e) x y p q = AppendsPrefix-then a b c x y p q

-- one more piece of the rest, as `&rest[n..]` is written
pub moves_on : (prefix rest piece : List ℕ) (n : ℕ) → prefix ++ rest ≡ piece → (prefix ++ take n rest) ++ take (length rest - n) (drop n rest) ≡ piece
moves_on prefix rest piece n e =
    rw (take_all (length rest - n) (drop n rest) (omega (arith, length-drop n rest)))
    (append_assoc prefix (take n rest) (drop n rest) ∙ ap (λ w. prefix ++ w) (take-append-drop n rest) ∙ e)

-- a call that writes a text, and then one that writes the next
pub writes_then : {T U : Type 0} {a b c : SinkState} {r : Result T WriteStop} {done : U} {x y : List ℕ} → Writes a b (Ok done) x → Writes b c r y →
    Writes a c r (x ++ y)
writes_then {a = a} {b = b} {c = c} {r = Ok v} {x = x} {y = y} p q = record {
  bytes = Puts-then {E = WriteStop} a.written b.written c.written (Ok v) x y p.bytes q.bytes;
  cause = record {
    later = omega arith;
    later_refusals = omega arith;
    failed = λ h. let rose : Rose b.faults c.faults = q.cause.failed h in omega arith;
    no_memory = λ h. let rose : Rose b.refusals c.refusals = q.cause.no_memory h in omega arith;
    no_fault = q.cause.no_fault ∙ p.cause.no_fault;
    no_refusal = q.cause.no_refusal ∙ p.cause.no_refusal;
    failed_alone = λ h. q.cause.failed_alone h ∙ p.cause.no_refusal;
    wanted_alone = λ h. q.cause.wanted_alone h ∙ p.cause.no_fault;
  };
  stopped = q.stopped ∙ p.stopped;
}
writes_then {T = T} {a = a} {b = b} {c = c} {r = Err e} {x = x} {y = y} p q = record {
  bytes = Puts-then {T = T} a.written b.written c.written (Err e) x y p.bytes q.bytes;
  cause = record {
    later = omega arith;
    later_refusals = omega arith;
    failed = λ h. let rose : Rose b.faults c.faults = q.cause.failed h in omega arith;
    no_memory = λ h. let rose : Rose b.refusals c.refusals = q.cause.no_memory h in omega arith;
    no_fault = tt;
    no_refusal = tt;
    failed_alone = λ h. q.cause.failed_alone h ∙ p.cause.no_refusal;
    wanted_alone = λ h. q.cause.wanted_alone h ∙ p.cause.no_fault;
  };
  stopped = q.stopped;
}

-- a stop in a text is one in that text with more after it
pub writes_more : {T : Type 0} {a b : SinkState} {stop : WriteStop} {x : List ℕ} (y : List ℕ) → Writes {T = T} a b (Err stop) x →
    Writes {T = T} a b (Err stop) (x ++ y)
writes_more {a = a} {b = b} {x = x} y p = record {
  bytes = AppendsPrefix-more a.written b.written x y p.bytes;
  cause = p.cause;
  stopped = p.stopped;
}

-- the same text, written down in another way
pub writes_same : {T : Type 0} {a b : SinkState} {r : Result T WriteStop} {x y : List ℕ} → x ≡ y → Writes a b r x → Writes a b r y
writes_same {a = a} {b = b} {r = r} e p = let Goal : List ℕ → Type 0 = λ w. Writes a b r w in subst Goal e p

-- nothing is written
pub writes_nothing : {T : Type 0} (a : SinkState) (done : T) → Writes a a (Ok done) []
writes_nothing a done = record {
  bytes = nothing a.written;
  cause =
      record {
        later = omega arith;
        later_refusals = omega arith;
        failed = λ h. (cc);
        no_memory = λ h.
            (cc);
        no_fault = refl;
        no_refusal = refl;
        failed_alone = λ h. refl;
        wanted_alone = λ h. refl;
      };
  stopped = refl;
}
  where
    nothing : (known : Option (List ℕ)) → Appends known known []
    nothing None = tt
    nothing (Some xs) = sym (append-nil xs)

-- the texts of the items before one, its text, and the texts of those after it
pub flat_map_around : {X : Type 0} (f : X → List ℕ) (xs : List X) (i : ℕ) (d : X) → i < length xs →
    (flat_map f (take i xs) ++ f (get_or xs i d)) ++ flat_map f (drop (suc i) xs) ≡ flat_map f xs
flat_map_around f xs i d inside =
    append_assoc (flat_map f (take i xs)) (f (get_or xs i d)) (flat_map f (drop (suc i) xs))
    ∙ ap (λ w. flat_map f (take i xs) ++ w) (sym (flat_map-cons f (get_or xs i d) (drop (suc i) xs)))
    ∙ ap (λ w. flat_map f (take i xs) ++ flat_map f w) (sym (drop-cons xs i d inside))
    ∙ sym (flat_map-append f (take i xs) (drop i xs))
    ∙ ap (flat_map f) (take-append-drop i xs)

-- a stop in the text of one item, after the texts of those before it
pub writes_item : {T U X : Type 0} {a b c : SinkState} {stop : WriteStop} {done : U} (f : X → List ℕ) (xs : List X) (i : ℕ) (d : X) → i < length xs →
    Writes a b (Ok done) (flat_map f (take i xs)) → Writes {T = T} b c (Err stop) (f (get_or xs i d)) → Writes {T = T} a c (Err stop) (flat_map f xs)
writes_item f xs i d inside so_far stopped =
    writes_same (flat_map_around f xs i d inside) (writes_more (flat_map f (drop (suc i) xs)) (writes_then so_far stopped))
