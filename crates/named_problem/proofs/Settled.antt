-- What is known of a change is known of the answer once the change is settled.
use Rattle.std.proofs.Common.{Result, Ok, Err, OnOk, IfOk, IfErr, sym, subst}
use Rattle.named_problem.specs.Views.{IsSettled}

module _ {T U E : Type 0} where
  pub on_ok_settled : (P : Type 0) (changed : Result T E) (result : Result U E) → IsSettled changed result → OnOk changed P → OnOk result P
  on_ok_settled P (Ok x) (Ok y) same h = h
  on_ok_settled P (Err stop) (Err same_stop) same h = tt
  on_ok_settled P (Ok x) (Err stop) same h = absurd same
  on_ok_settled P (Err stop) (Ok y) same h = absurd same

  pub if_err_settled : (P : E → Type 0) (changed : Result T E) (result : Result U E) → IsSettled changed result → IfErr changed P → IfErr result P
  if_err_settled P (Ok x) (Ok y) same h = tt
  if_err_settled P (Err stop) (Err same_stop) same h = subst P (sym same) h
  if_err_settled P (Ok x) (Err stop) same h = absurd same
  if_err_settled P (Err stop) (Ok y) same h = absurd same

  -- what each value shows, together with what holds where there is one
  pub with_ok_settled : (P : T → Type 0) (Q R : Type 0) (changed : Result T E) (result : Result U E) → IsSettled changed result → ((x : T) → P x → Q → R) →
      IfOk changed P → OnOk result Q → OnOk result R
  with_ok_settled P Q R (Ok x) (Ok y) same leads p q = leads x p q
  with_ok_settled P Q R (Err stop) (Err same_stop) same leads p q = tt
  with_ok_settled P Q R (Ok x) (Err stop) same leads p q = absurd same
  with_ok_settled P Q R (Err stop) (Ok y) same leads p q = absurd same
