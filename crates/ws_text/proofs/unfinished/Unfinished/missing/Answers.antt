-- How many bytes a character lacks, by its first byte and by how many have come.
use Rattle.std.proofs.Common.{arith}
use Rattle.ws_text.proofs.UnfinishedCharacters.{lead_of, two_of, three_of}
use Rattle.ws_text.proofs.Wanted.{nothing_wanted, one_of_two, two_of_three, three_of_four, one_of_three, two_of_four}
use Rattle.ws_text.proofs.Wanted.{one_of_four}
use Rattle.ws_text.proofs.unfinished.Unfinished.missing.Goals as goal

pub returns-in-Nothing-clause-wanted : goal.returns-in-Nothing-clause-wanted
returns-in-Nothing-clause-wanted c = rw c.in-Nothing.is nothing_wanted

pub returns-then-lead-lt224-clause-wanted : goal.returns-then-lead-lt224-clause-wanted
returns-then-lead-lt224-clause-wanted c =
    let lead = lead_of c.in-One.lead (rw c.in-One.is at c.requires) in
    rw c.in-One.is (one_of_two c.in-One.lead lead.0 (omega arith))

pub returns-then-lead-lt240-clause-wanted : goal.returns-then-lead-lt240-clause-wanted
returns-then-lead-lt240-clause-wanted c = rw c.in-One.is (two_of_three c.in-One.lead (omega arith) (omega arith))

pub returns-else-lead-lt240-clause-wanted : goal.returns-else-lead-lt240-clause-wanted
returns-else-lead-lt240-clause-wanted c =
    let lead = lead_of c.in-One.lead (rw c.in-One.is at c.requires) in
    rw c.in-One.is (three_of_four c.in-One.lead (omega arith) lead.1)

pub returns-then-lead-lt240-2-clause-wanted : goal.returns-then-lead-lt240-2-clause-wanted
returns-then-lead-lt240-2-clause-wanted c =
    let two = two_of c.in-Two.lead c.in-Two.field-1 (rw c.in-Two.is at c.requires) in
    rw c.in-Two.is (one_of_three c.in-Two.lead c.in-Two.field-1 two.0 (omega arith) two.2)

pub returns-else-lead-lt240-2-clause-wanted : goal.returns-else-lead-lt240-2-clause-wanted
returns-else-lead-lt240-2-clause-wanted c =
    let two = two_of c.in-Two.lead c.in-Two.field-1 (rw c.in-Two.is at c.requires) in
    rw c.in-Two.is (two_of_four c.in-Two.lead c.in-Two.field-1 (omega arith) two.1 two.2)

pub returns-in-Three-clause-wanted : goal.returns-in-Three-clause-wanted
returns-in-Three-clause-wanted c =
    let three = three_of c.in-Three.field-0 c.in-Three.field-1 c.in-Three.field-2 (rw c.in-Three.is at c.requires) in
    rw c.in-Three.is (one_of_four c.in-Three.field-0 c.in-Three.field-1 c.in-Three.field-2 three.0 three.1 three.2
    three.3)
