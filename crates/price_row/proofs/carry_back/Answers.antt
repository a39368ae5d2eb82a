use Rattle.price_row.proofs.CarriedBack.{known_more, an_eta}
use Rattle.price_row.proofs.carry_back.Goals as goal

pub returns : goal.returns
returns c = record {
  known =
      known_more c.args.file.now c.size-size.ensures.passed c.args.place c.requires.within (an_eta c.args.file.now.etas c.args.place c.requires.within)
      c.eta-eta.result.p c.eta-eta.result.q c.eta-eta.result.entries.now c.eta-eta.ensures.lent
      c.args.row c.args.out.now c.in_ok-value.value c.requires.places c.requires.known c.in_ok-value.ensures.value;
}
