-- The second, third or fourth byte of a character ends it or leaves it unfinished, or no character goes on so.
use Rattle.std.proofs.Common.{◌≡◌, Bool, true, false, refl, arith, inl, inr}
use Rattle.ws_text.proofs.Characters.{is_second, is_third, is_fourth, character_2, character_3, character_4, later_in_range, in_range_later}
use Rattle.ws_text.proofs.UnfinishedCharacters.{lead_of, two_of, three_of, two_unfinished, three_unfinished}
use Rattle.ws_text.proofs.unfinished.Unfinished.push_byte.Goals as goal

false_not_true : ◌≡◌ {A = Bool} false true → ⊥
false_not_true e = cc

-- behind one byte

pub returns-then-lead-lt224 : goal.returns-then-lead-lt224
returns-then-lead-lt224 c =
    let lead = lead_of c.in-One.lead (rw c.in-One.is at c.requires) in
    let second = is_second c.in-One.lead c.args.byte lead.0 (c.if-not-may_be_second.ensures.0 refl) in
    rw c.in-One.is (inl (refl, (_, character_2 c.in-One.lead c.args.byte lead.0 (omega arith) second.later)))

pub returns-else-lead-lt224 : goal.returns-else-lead-lt224
returns-else-lead-lt224 c =
    let lead = lead_of c.in-One.lead (rw c.in-One.is at c.requires) in
    let second = is_second c.in-One.lead c.args.byte lead.0 (c.if-not-may_be_second.ensures.0 refl) in
    rw c.in-One.is (inr (refl, two_unfinished c.in-One.lead c.args.byte c.if-lead-lt224.false lead.1 second))

-- behind two

pub returns-then-not-may_be_later : goal.returns-then-not-may_be_later
returns-then-not-may_be_later c =
    let two = two_of c.in-Two.lead c.in-Two.second (rw c.in-Two.is at c.requires) in
    rw c.in-Two.is (λ begun. false_not_true (c.if-not-may_be_later.ensures.1 (later_in_range c.args.byte (is_third c.in-Two.lead c.in-Two.second c.args.byte two.0 begun))))

pub returns-then-lead-lt240 : goal.returns-then-lead-lt240
returns-then-lead-lt240 c =
    let two = two_of c.in-Two.lead c.in-Two.second (rw c.in-Two.is at c.requires) in
    let third = in_range_later c.args.byte (c.if-not-may_be_later.ensures.0 refl) in
    rw c.in-Two.is (inl (refl, (_, character_3 c.in-Two.lead c.in-Two.second c.args.byte two.0 (omega arith) two.2 third)))

pub returns-else-lead-lt240 : goal.returns-else-lead-lt240
returns-else-lead-lt240 c =
    let two = two_of c.in-Two.lead c.in-Two.second (rw c.in-Two.is at c.requires) in
    let third = in_range_later c.args.byte (c.if-not-may_be_later.ensures.0 refl) in
    rw c.in-Two.is (inr (refl, three_unfinished c.in-Two.lead c.in-Two.second c.args.byte c.if-lead-lt240.false two.1 two.2 third))

-- behind three

pub returns-then-not-may_be_later-2 : goal.returns-then-not-may_be_later-2
returns-then-not-may_be_later-2 c =
    let three = three_of c.in-Three.field-0 c.in-Three.field-1 c.in-Three.field-2 (rw c.in-Three.is at c.requires) in
    rw c.in-Three.is (λ begun. false_not_true (c.if-not-may_be_later-2.ensures.1 (later_in_range c.args.byte (is_fourth c.in-Three.field-0 c.in-Three.field-1 c.in-Three.field-2 c.args.byte three.0 begun))))

pub returns-else-not-may_be_later-2 : goal.returns-else-not-may_be_later-2
returns-else-not-may_be_later-2 c =
    let three = three_of c.in-Three.field-0 c.in-Three.field-1 c.in-Three.field-2 (rw c.in-Three.is at c.requires) in
    let fourth = in_range_later c.args.byte (c.if-not-may_be_later-2.ensures.0 refl) in
    rw c.in-Three.is (inl (refl, (_, character_4 c.in-Three.field-0 c.in-Three.field-1 c.in-Three.field-2 c.args.byte three.0 three.1 three.2 three.3 fourth)))
