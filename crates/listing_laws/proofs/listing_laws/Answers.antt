use Rattle.listing_laws.proofs.Values.{value_tells}
use Rattle.listing_laws.proofs.Lines.{whole_line_tells, table_tells}
use Rattle.listing_laws.proofs.Reports.{report_tells}
use Rattle.listing_laws.proofs.listing_laws.Goals as goal

pub returns-clause-values : goal.returns-clause-values
returns-clause-values c = value_tells

pub returns-clause-lines : goal.returns-clause-lines
returns-clause-lines c = whole_line_tells

pub returns-clause-tables : goal.returns-clause-tables
returns-clause-tables c = table_tells

pub returns-clause-reports : goal.returns-clause-reports
returns-clause-reports c = report_tells
