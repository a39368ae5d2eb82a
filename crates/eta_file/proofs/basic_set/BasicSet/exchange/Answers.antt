use Rattle.std.proofs.Common.{◌∙◌, ap, sym, subst}
use Rattle.std.specs.List.{remove}
use Rattle.std.specs.List.Sorted.{IsNonDecreasing}
use Rattle.eta_file.specs.Listed.{place_in}
use Rattle.eta_file.proofs.ListedLaws.{leaver_listed, left_ascend, listed_ascend, exchanged_listed}
use Rattle.eta_file.proofs.basic_set.BasicSet.exchange.Goals as goal

pub take_out-requires-clause-ascending : goal.take_out-requires-clause-ascending
take_out-requires-clause-ascending c = subst (λ ks. IsNonDecreasing ks) (sym c.self.invariant) (listed_ascend c.self.inside.marks.items)

pub put_in-requires-clause-ascending : goal.put_in-requires-clause-ascending
put_in-requires-clause-ascending c =
    let b = c.self.inside.marks.items in
    left_ascend b c.args.p c.args.q c.requires.p_low (rw (← c.self.view_is) at c.requires.p_high) c.requires.q_low (rw (← c.self.view_is) at c.requires.q_high)
    (rw (← c.self.view_is) at c.requires.leaves) (rw (← c.self.view_is) at c.requires.enters) c.take_out.new.listed.items
    (c.take_out.ensures.items ∙ ap (λ ks. remove ks (place_in ks c.args.p)) c.self.invariant)

pub take_out-requires-clause-within : goal.take_out-requires-clause-within
take_out-requires-clause-within c =
    let b = c.self.inside.marks.items in
    rw c.self.invariant
    (leaver_listed b c.args.p c.args.q c.requires.p_low (rw (← c.self.view_is) at c.requires.p_high) c.requires.q_low
    (rw (← c.self.view_is) at c.requires.q_high)
    (rw (← c.self.view_is) at c.requires.leaves) (rw (← c.self.view_is) at c.requires.enters))

pub invariant_of-self : goal.invariant_of-self
invariant_of-self c =
    let b = c.self.inside.marks.items in
    c.put_in.ensures
    ∙ exchanged_listed b c.args.p c.args.q c.requires.p_low (rw (← c.self.view_is) at c.requires.p_high) c.requires.q_low
    (rw (← c.self.view_is) at c.requires.q_high)
    (rw (← c.self.view_is) at c.requires.leaves) (rw (← c.self.view_is) at c.requires.enters) c.take_out.new.listed.items
    (c.take_out.ensures.items ∙ ap (λ ks. remove ks (place_in ks c.args.p)) c.self.invariant)
