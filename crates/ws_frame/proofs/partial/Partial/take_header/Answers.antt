-- Bytes of a header: more of it is kept, or it ends in the piece and its payload begins, or its length is bad.
use Rattle.std.proofs.Common.{arith, ◌≡◌, ◌-◌, ◌++◌, List, ℕ, ap, sym, subst, length, take}
use Rattle.ws_wire.specs.Header.{header_bytes}
use Rattle.ws_wire.specs.Reading.{Begins, BeginsNoHeader}
use Rattle.ws_frame.proofs.Partials.{more_of_header, bad_length_of_all, header_ends_in_piece, header_taken, header_uses}
use Rattle.ws_frame.proofs.partial.Partial.take_header.Goals as goal

pub overflow_sub-used : goal.overflow_sub-used
overflow_sub-used c =
    let self = c.args.self.now in
    let (rest, _, kept) = c.requires.under_way in
    let begins = subst (λ (t : List ℕ). Begins c.in-Got.header c.in-Got.used t) c.as_slice.ensures.bytes c.in-Got.ensures.0 in
    let ends = header_ends_in_piece rest c.args.piece.now self.first c.push.new.self self.header self.to_come c.in-Got.header c.in-Got.used kept c.requires.header c.push.ensures begins in
    omega (arith, ends.0, ap (λ (t : List ℕ). length t) c.as_slice-before.ensures.bytes)

pub returns-in-Need-clause-taken : goal.returns-in-Need-clause-taken
returns-in-Need-clause-taken c = λ rest are kept.
    let self = c.args.self.now in
    more_of_header rest c.args.piece.now self.first c.push.new.self self.header self.to_come kept c.requires.header c.push.ensures are (λ i. omega (arith, c.type_inv.piece i))
    (subst (λ (t : List ℕ). BeginsNoHeader t) c.as_slice.ensures.bytes c.in-Need.ensures)

pub returns-in-BadLength-clause-taken : goal.returns-in-BadLength-clause-taken
returns-in-BadLength-clause-taken c = λ rest are kept.
    let self = c.args.self.now in
    bad_length_of_all rest c.args.piece.now self.first c.push.new.self self.header self.to_come kept c.requires.header c.push.ensures
    (c.in-BadLength.header, c.in-BadLength.used, subst (λ (t : List ℕ). Begins c.in-BadLength.header c.in-BadLength.used t) c.as_slice.ensures.bytes c.in-BadLength.ensures.0, c.in-BadLength.ensures.1)

pub returns-in-Got-clause-used : goal.returns-in-Got-clause-used
returns-in-Got-clause-used c =
    let self = c.args.self.now in
    let (rest, _, kept) = c.requires.under_way in
    let begins = subst (λ (t : List ℕ). Begins c.in-Got.header c.in-Got.used t) c.as_slice.ensures.bytes c.in-Got.ensures.0 in
    let ends = header_ends_in_piece rest c.args.piece.now self.first c.push.new.self self.header self.to_come c.in-Got.header c.in-Got.used kept c.requires.header c.push.ensures begins in
    let before = ap (λ (t : List ℕ). length t) c.as_slice-before.ensures.bytes in
    header_uses c.args.piece.now c.in-Got.header (c.in-Got.used - length c.as_slice-before.result.now) c.begin_payload.new.self c.begin_payload.result c.begin_payload.ensures (omega (arith, ends.0, before)) (omega (arith, ends.1, before))

pub returns-in-Got-clause-taken : goal.returns-in-Got-clause-taken
returns-in-Got-clause-taken c = λ rest are kept.
    let self = c.args.self.now in
    let begins = subst (λ (t : List ℕ). Begins c.in-Got.header c.in-Got.used t) c.as_slice.ensures.bytes c.in-Got.ensures.0 in
    let ends = header_ends_in_piece rest c.args.piece.now self.first c.push.new.self self.header self.to_come c.in-Got.header c.in-Got.used kept c.requires.header c.push.ensures begins in
    let here : rest ++ take (c.in-Got.used - length c.as_slice-before.result.now) c.args.piece.now ≡ header_bytes c.in-Got.header =
    subst (λ (n : ℕ). rest ++ take (c.in-Got.used - n) c.args.piece.now ≡ header_bytes c.in-Got.header) (sym (ap (λ (t : List ℕ). length t) c.as_slice-before.ensures.bytes)) ends.2 in
    header_taken rest c.args.piece.now c.in-Got.header (c.in-Got.used - length c.as_slice-before.result.now) c.begin_payload.new.self c.begin_payload.result c.begin_payload.ensures here (take c.in-Got.used c.push.new.self)
    begins.front c.in-Got.ensures.1
