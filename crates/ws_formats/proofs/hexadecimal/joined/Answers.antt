-- Sixteen times the value of the first digit, and the value of the second.
use Rattle.ws_formats.proofs.HexLanes.{joined_length, joined_pair}
use Rattle.ws_formats.proofs.hexadecimal.joined.Goals as goal

pub returns-clause-len : goal.returns-clause-len
returns-clause-len g c = joined_length g.row.N c.lane_values.result c.lane_values-2.result c.lane_values.ensures.len c.lane_values-2.ensures.len

pub returns-clause-pairs : goal.returns-clause-pairs
returns-clause-pairs g c k less =
    joined_pair g.row.N c.lane_values.result c.lane_values-2.result k _ _ c.lane_values.ensures.len c.lane_values-2.ensures.len less
    (c.lane_values.ensures.small k less) (c.lane_values-2.ensures.small k less) (c.lane_values.ensures.value k less) (c.lane_values-2.ensures.value k less)
