-- The smaller difference is the value of a digit.
use Rattle.ws_formats.proofs.HexLanes.{values_at, values_long}
use Rattle.ws_formats.proofs.hexadecimal.lane_values.Goals as goal

pub returns-clause-len : goal.returns-clause-len
returns-clause-len g c = values_long g.row.N c.args.digits c.fits-digits.0

pub returns-clause-small : goal.returns-clause-small
returns-clause-small g c k less = (values_at g.row.N c.args.digits c.fits-digits.0 c.requires k less).0

pub returns-clause-value : goal.returns-clause-value
returns-clause-value g c k less = (values_at g.row.N c.args.digits c.fits-digits.0 c.requires k less).1
