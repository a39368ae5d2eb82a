use Rattle.std.proofs.Common.{◌≡◌, ◌+◌, ◌-◌, ◌∷◌, ◌++◌, [], ℕ, List, subst, subst₂, sym, arith, rules}
use Rattle.lp_definitions.specs.LinearProgram.{numbers_from}
use Rattle.listing_words.specs.Read.{sheet_view}
use Rattle.listing_claims.specs.Numbers.{number_in}
use Rattle.listing_readers.specs.declared.tables.Numbers.{Numbers}
use Rattle.listing_readers.proofs.Reading.{IsReadSoFar, table_begins, table_goes_on, table_fails, table_ends}
use Rattle.listing_readers.proofs.tables.table.Goals as goal

pub loop-i-init : goal.loop-i-init
loop-i-init g c =
    let of = number_in g.T.Checks.checker c.args.by in
    let all = numbers_from (c.args.before + 1) c.args.count in
    let first : c.args.before + 1 ≡ c.args.before + 0 + 1 = omega arith in
    let left : c.args.count ≡ c.args.count - 0 = omega arith in (
      omega arith,
      subst (λ (k : ℕ). IsReadSoFar of (sheet_view c.args.sheet) c.args.shape all c.args.cursor.now k
          (c.args.count - 0) c.args.cursor.now c.new-table.result.items) first
          (subst₂ (λ (n : ℕ) (items : List Numbers). IsReadSoFar of (sheet_view c.args.sheet) c.args.shape all c.args.cursor.now
          (c.args.before + 1) n c.args.cursor.now items) left (sym c.new-table.ensures.items)
          (table_begins of (sheet_view c.args.sheet) c.args.shape (c.args.before + 1) c.args.count c.args.cursor.now)),
    )

pub line-requires : goal.line-requires
line-requires g c = c.requires.lines (c.args.before + c.loop-i.i + 1) (omega arith) (omega (arith, c.loop-i-test.true))

pub returns-in-Err-Absent : goal.returns-in-Err-Absent
returns-in-Err-Absent g c =
    table_fails (number_in g.T.Checks.checker c.args.by) (sheet_view c.args.sheet) c.args.shape
    (numbers_from (c.args.before + 1) c.args.count) c.args.cursor.now (c.args.before + c.loop-i.i + 1)
    (c.args.count - c.loop-i.i) c.loop-i.cursor c.line.new.cursor c.loop-i.table.items
    c.loop-i.invariant.1 (omega (arith, c.loop-i-test.true)) (rw c.in-Err-Absent.field-0-is at c.in-Err-Absent.ensures)

pub loop-i-preserved : goal.loop-i-preserved
loop-i-preserved g c =
    let of = number_in g.T.Checks.checker c.args.by in
    let all = numbers_from (c.args.before + 1) c.args.count in
    let pushed : c.push.new.self.items ≡ c.loop-i.table.items ++ (c.in-Ok.numbers ∷ []) = search rules in
    let next : c.args.before + c.loop-i.i + 1 + 1 ≡ c.args.before + (c.loop-i.i + 1) + 1 = omega arith in
    let left : c.args.count - c.loop-i.i - 1 ≡ c.args.count - (c.loop-i.i + 1) = omega arith in (
      omega (arith, c.loop-i-test.true),
      subst (λ (k : ℕ). IsReadSoFar of (sheet_view c.args.sheet) c.args.shape all c.args.cursor.now k
          (c.args.count - (c.loop-i.i + 1)) c.line.new.cursor c.push.new.self.items) next
          (subst₂ (λ (n : ℕ) (items : List Numbers). IsReadSoFar of (sheet_view c.args.sheet) c.args.shape all c.args.cursor.now
          (c.args.before + c.loop-i.i + 1 + 1) n c.line.new.cursor items) left (sym pushed)
          (table_goes_on of (sheet_view c.args.sheet) c.args.shape all c.args.cursor.now (c.args.before + c.loop-i.i + 1)
          (c.args.count - c.loop-i.i) c.loop-i.cursor c.line.new.cursor c.loop-i.table.items c.in-Ok.numbers
          c.loop-i.invariant.1 (omega (arith, c.loop-i-test.true)) c.in-Ok.ensures)),
    )

pub returns : goal.returns
returns g c =
    table_ends (number_in g.T.Checks.checker c.args.by) (sheet_view c.args.sheet) c.args.shape (numbers_from (c.args.before + 1) c.args.count) c.args.cursor.now
    (c.args.before + c.loop-i.i + 1) (c.args.count - c.loop-i.i) c.loop-i.cursor c.loop-i.table.items
    c.loop-i.invariant.1 (omega (arith, c.loop-i-test.false))
