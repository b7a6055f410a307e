use Rattle.transform.proofs.Alone.{defined_length}
use Rattle.large_plans.proofs.Crowded.{are_placements, lists_ascend, above_limits}
use Rattle.large_plans.proofs.crowded_functions_are_above.Goals as goal

pub returns : goal.returns
returns c m f counts q plan defined chosen many is limits =
    let adds =
    c.insertions_add_instructions.ensures f q.points q.table q.placements plan (defined_length f defined) chosen.are_points chosen.is_table (are_placements m f counts q chosen)
    (lists_ascend m f counts q chosen) is in
    above_limits f plan q.placements adds many limits
