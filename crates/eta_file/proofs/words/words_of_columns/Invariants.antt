use Rattle.std.proofs.Common.{◌≡◌, ℕ, ◌<◌, List, length, get_or, Option, IfSome, Vec}
use Rattle.std.specs.Global.{Global}
use Rattle.lp_definitions.specs.declared.Entry.{Entry}
use Rattle.lp_model.specs.Columns.{entries_of}
use Rattle.eta_file.specs.declared.words.WordEntry.{WordEntry}
use Rattle.eta_file.specs.WordColumns.{AreWordsOf}
use Rattle.eta_file.proofs.words.words_of_columns.Given as goal

-- the words of the columns so far
abbrev pub invariant-loop-column : goal.invariant-loop-column
invariant-loop-column l =
    (length l.words.items ≡ l.column-index) ×
    ((k : ℕ) (c : List Entry) (w : Option (Vec WordEntry Global)) → k < l.column-index →
    IfSome (get_or l.words.items k w) (λ known. AreWordsOf (get_or (entries_of l.columns) k c) known.items))
