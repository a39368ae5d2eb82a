-- Texts that are written one after the other.
use Rattle.std.proofs.Common.{◌≡◌, ℕ, ◌+◌, ◌<◌, ◌≤◌, List, [], ◌∷◌, ◌++◌, Ok, Result, length, take, get_or, ap, sym, ◌∙◌}
use Rattle.std.specs.List.{flat_map}
use Rattle.std.proofs.lemmas.List.{append-nil, take_all, take_more}
use Rattle.std.proofs.lemmas.List.Concat.{flat_map-append}
use Rattle.job_devices.specs.States.{SinkState}
use Rattle.job_devices.specs.Text.{Writes}
use Rattle.job_devices.specs.declared.device.WriteStop.{WriteStop}
use Rattle.job_devices.proofs.TextLemmas.{writes_then, writes_same}

module _ {X : Type 0} (f : X → List ℕ) (xs : List X) (i : ℕ) where
  one_more : (d : X) → i < length xs → flat_map f (take i xs) ++ f (get_or xs i d) ≡ flat_map f (take (i + 1) xs)
  one_more d inside = sym
      (ap (flat_map f) (take_more xs i d inside) ∙ flat_map-append f (take i xs) (get_or xs i d ∷ [])
      ∙ ap (λ w. flat_map f (take i xs) ++ w) (append-nil (f (get_or xs i d))))

  -- the text of one item, after the texts of those before it
  pub writes_next : {T U : Type 0} {a b c : SinkState} {r : Result T WriteStop} {done : U} (d : X) → i < length xs →
      Writes a b (Ok done) (flat_map f (take i xs)) → Writes b c r (f (get_or xs i d)) → Writes a c r (flat_map f (take (i + 1) xs))
  writes_next d inside so_far next = writes_same (one_more d inside) (writes_then so_far next)

  -- the texts of all items
  pub writes_whole : {T : Type 0} {a b : SinkState} {r : Result T WriteStop} → length xs ≤ i → Writes a b r (flat_map f (take i xs)) →
      Writes a b r (flat_map f xs)
  writes_whole all = writes_same (ap (flat_map f) (take_all i xs all))
