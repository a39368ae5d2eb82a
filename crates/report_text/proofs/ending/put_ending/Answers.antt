use Rattle.report_text.proofs.ending.put_ending.Goals as goal

pub returns-in-Deck : goal.returns-in-Deck
returns-in-Deck g c = rw c.in-Deck.is c.put_numbered_fault.ensures

pub returns-in-Statements : goal.returns-in-Statements
returns-in-Statements g c = rw c.in-Statements.is c.put_all-in-Statements.ensures

pub returns-in-ReadFault : goal.returns-in-ReadFault
returns-in-ReadFault g c = rw c.in-ReadFault.is c.put_all-in-ReadFault.ensures
