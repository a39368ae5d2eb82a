use Rattle.revise_edits.proofs.FaultParts.{one_more}
use Rattle.revise_edits.proofs.faults.row_rest_fault.Goals as goal

pub returns : goal.returns
returns c =
    one_more c.first_of.result c.new_row_fault.result c.row_fields_fault_of.result _ _ _ c.first_of.ensures c.new_row_fault.ensures
    c.row_fields_fault_of.ensures
