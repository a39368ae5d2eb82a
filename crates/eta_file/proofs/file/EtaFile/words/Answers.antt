use Rattle.std.proofs.Common.{rules, ◌≡◌, ◌-◌, ◌<◌, [], length, get_or, sym, subst, arith, IfSome}
use Rattle.lp_definitions.specs.LinearProgram.{IsColumn, column}
use Rattle.eta_file.specs.WordColumns.{AreWordsOf}
use Rattle.eta_file.specs.File.{inverse_of}
use Rattle.eta_file.proofs.file.EtaFile.words.Goals as goal

pub returns : goal.returns
returns c =
    let f = inverse_of c.self.inside in
    let is : IsColumn f.matrix c.args.j = rw (← c.self.view_is) at c.requires in
    let counted = c.self.invariant.0.lawful.columns_counted in
    let below : c.args.j - 1 < length f.matrix.columns = omega (arith, is.0, is.1, counted) in
    let there : c.index.result.now ≡ get_or c.self.inside.words.value.items (c.args.j - 1) c.index.result.now = search rules in
    let known =
    subst (λ o. IfSome o (λ words. AreWordsOf (column f.matrix c.args.j) words.items)) (sym there)
    (c.self.invariant.1.each (c.args.j - 1) [] c.index.result.now below) in
    let words : AreWordsOf (column f.matrix c.args.j) c.in-Some.words.items =
    subst (λ o. IfSome o (λ words. AreWordsOf (column f.matrix c.args.j) words.items)) c.in-Some.is known in
    rw (← c.self.view_is, c.deref-2.ensures.value) words
