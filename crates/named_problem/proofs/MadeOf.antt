-- A list that is made of names and their values is made of what these stand for.
use Rattle.std.proofs.Common.{◌≡◌, List, map, ap, sym, ◌∙◌, Result, Ok, Err, IfOk}
use Rattle.std.specs.Prelude.{Vec}
use Rattle.std.specs.declared.alloc.Global.{Global}
use Rattle.std.proofs.lemmas.Simd.{map-map}

pub made_of_shown : {V X T E : Type 0} (entries : List V) (at : V → X) (make : X → T) (shown : List X) → map at entries ≡ shown →
    (made : Result (Vec T Global) E) → IfOk made (λ list. list.items ≡ map (λ e. make (at e)) entries) → IfOk made (λ list. list.items ≡ map make shown)
made_of_shown entries at make shown is (Ok list) h = h ∙ sym (map-map make at entries) ∙ ap (map make) is
made_of_shown entries at make shown is (Err e) h = tt
