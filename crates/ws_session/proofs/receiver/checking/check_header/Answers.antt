-- What a piece makes of a frame of which no header is whole: a part of the header is put to what came before; behind a
-- whole header a data frame goes on, or it or a fault is told, and what is for a control frame's payload is left.
use Rattle.std.proofs.Common.{◌≡◌, ◌+◌, ◌-◌, ◌≤◌, ◌++◌, length, take, drop, Option, Some, None, refl, sym, subst, arith}
use Rattle.std.proofs.lemmas.List.{length-append}
use Rattle.ws_wire.specs.Header.{AreBytes}
use Rattle.ws_session.specs.Faults.{IsControl}
use Rattle.ws_session.specs.declared.receiver.under_way.UnderWay.{UnderWay}
use Rattle.ws_session.specs.declared.receiver.under_way.UnderWay.TheVariants as under_way
use Rattle.ws_session.specs.declared.receiver.piece_check.PieceCheck.{PieceCheck}
use Rattle.ws_session.specs.declared.receiver.piece_check.PieceCheck.TheVariants as piece_check
use Rattle.ws_session.specs.InnerFrameCheck as check
use Rattle.ws_session.specs.InnerReceiving.{IsUnderWay, IsDataCheck, IsFrameCheck, IsPieceCheck, IsPayloadCheck, frame_payload, partial_of}
use Rattle.ws_session.proofs.ByteLists.{bytes_append}
use Rattle.ws_session.proofs.Exact.{data_fits}
use Rattle.ws_session.proofs.HeaderReasons.{not_both}
use Rattle.ws_session.proofs.Pieces.{none_open, read_first, opcode_of_control, header_part, header_fault, left_of, first_of_data, told_first}
use Rattle.ws_session.proofs.receiver.checking.check_header.Goals as goal

pub push-requires : goal.push-requires
push-requires c =
    let kept = c.in-Header.kept in
    let piece = c.args.piece.now in
    let u : IsUnderWay c.args.role c.args.limits.now c.args.assembly.now (under_way.Header kept) = subst (λ (f : UnderWay). IsUnderWay c.args.role c.args.limits.now c.args.assembly.now f) c.in-Header.is c.requires.under_way in
    let are : AreBytes (kept ++ piece) = bytes_append kept piece u.bytes (λ i. omega (arith, c.type_inv.piece i)) in
    omega (arith, c.fourteen_bytes_hold_a_header.ensures (kept ++ piece) are (c.in_default-header_in.ensures kept piece c.complete_header.ensures), length-append kept piece)

pub returns-in_default-header_in-clause-checked :
    goal.returns-in_default-header_in-clause-checked
returns-in_default-header_in-clause-checked c =
    let role = c.args.role in
    let limits = c.args.limits.now in
    let a = c.args.assembly.now in
    let kept = c.in-Header.kept in
    let piece = c.args.piece.now in
    let next = c.push.new.self in
    let u : IsUnderWay role limits a (under_way.Header kept) = subst (λ (f : UnderWay). IsUnderWay role limits a f) c.in-Header.is c.requires.under_way in
    let are : AreBytes (kept ++ piece) = bytes_append kept piece u.bytes (λ i. omega (arith, c.type_inv.piece i)) in
    let reads = u.kept in
    subst (λ (f : UnderWay). IsFrameCheck role limits a (length (partial_of a f)) (partial_of a f ++ piece) (check.Need (under_way.Header next) a.text)) (sym c.in-Header.is)
    (header_part role limits a (length kept) (kept ++ piece) next a.text (c.in_default-header_in.ensures kept piece c.complete_header.ensures) are (c.fourteen_bytes_hold_a_header.ensures (kept ++ piece) are (c.in_default-header_in.ensures kept piece c.complete_header.ensures)) u.joined reads.1
    c.push.ensures refl)

pub returns-in-Some-reason_at_header-clause-checked :
    goal.returns-in-Some-reason_at_header-clause-checked
returns-in-Some-reason_at_header-clause-checked c =
    let role = c.args.role in
    let limits = c.args.limits.now in
    let a = c.args.assembly.now in
    let kept = c.in-Header.kept in
    let piece = c.args.piece.now in
    let used = c.in-Some.end.used in
    let reason = c.in-Some-reason_at_header.reason in
    let u : IsUnderWay role limits a (under_way.Header kept) = subst (λ (f : UnderWay). IsUnderWay role limits a f) c.in-Header.is c.requires.under_way in
    let are : AreBytes (kept ++ piece) = bytes_append kept piece u.bytes (λ i. omega (arith, c.type_inv.piece i)) in
    subst (λ (f : UnderWay). IsPieceCheck role limits a f a (under_way.Header kept) piece c.args.control.now (Some (piece_check.Fault reason used))) (sym c.in-Header.is)
    ((refl, refl), header_fault role limits a kept piece c.in-Some.end.header.now used reason (c.in-Some.ensures kept piece c.complete_header.ensures).begins are c.in-Some-reason_at_header.ensures)

pub returns-in-Some-reason_at_header-clause-bytes :
    goal.returns-in-Some-reason_at_header-clause-bytes
returns-in-Some-reason_at_header-clause-bytes c = bytes_append (partial_of c.args.assembly.now c.args.frame.now) c.args.piece.now c.requires.under_way.bytes (λ i. omega (arith, c.type_inv.piece i))

pub returns-then-not-is_data-clause-checked : goal.returns-then-not-is_data-clause-checked
returns-then-not-is_data-clause-checked c =
    let role = c.args.role in
    let limits = c.args.limits.now in
    let a = c.args.assembly.now in
    let kept = c.in-Header.kept in
    let h = c.in-Some.end.header.now in
    let used = c.in-Some.end.used in
    let piece = c.args.piece.now in
    let control : IsControl h = opcode_of_control role limits a.opened h c.in_default-reason_at_header.ensures (not_both _ _ c.is_data.ensures c.if-not-is_data.true) in
    subst (λ (f : UnderWay). IsPieceCheck role limits a f a (under_way.Header kept) piece (Some h) (Some (piece_check.Control used))) (sym c.in-Header.is)
    (refl, refl, record { within = (c.in-Some.ensures kept piece c.complete_header.ensures).within; behind = (c.in-Some.ensures kept piece c.complete_header.ensures).begins; none = c.in_default-reason_at_header.ensures; control = control; came = omega arith })

pub check_data-requires-clause-begins : goal.check_data-requires-clause-begins
check_data-requires-clause-begins c = λ one.
    let opcode : c.in-Some.end.header.now.opcode ≤ 2 = c.if-not-is_data.ensures.0 refl in
    none_open c.args.role c.args.limits.now c.args.assembly.now.opened c.in-Some.end.header.now c.in_default-reason_at_header.ensures opcode one

pub check_data-requires-clause-read : goal.check_data-requires-clause-read
check_data-requires-clause-read c = λ of.
    let role = c.args.role in
    let limits = c.args.limits.now in
    let a = c.args.assembly.now in
    let h = c.in-Some.end.header.now in
    let opcode : h.opcode ≤ 2 = c.if-not-is_data.ensures.0 refl in
    let u : IsUnderWay role limits a (under_way.Header c.in-Header.kept) = subst (λ (f : UnderWay). IsUnderWay role limits a f) c.in-Header.is c.requires.under_way in
    let reads = u.kept in
    read_first a h u.joined (λ one. none_open role limits a.opened h c.in_default-reason_at_header.ensures opcode one) reads.1 of

pub returns-in_err-check-clause-room : goal.returns-in_err-check-clause-room
returns-in_err-check-clause-room c =
    let opcode : c.in-Some.end.header.now.opcode ≤ 2 = c.if-not-is_data.ensures.0 refl in
    omega (arith, c.check_data.ensures.size, data_fits c.args.role c.args.limits.now c.args.assembly.now.opened c.in-Some.end.header.now c.in_default-reason_at_header.ensures opcode)

pub returns-in_err-check-clause-bytes : goal.returns-in_err-check-clause-bytes
returns-in_err-check-clause-bytes c = bytes_append (partial_of c.args.assembly.now c.args.frame.now) c.args.piece.now c.requires.under_way.bytes (λ i. omega (arith, c.type_inv.piece i))

pub returns-in_default-2-clause-checked : goal.returns-in_default-2-clause-checked
returns-in_default-2-clause-checked c =
    let role = c.args.role in
    let limits = c.args.limits.now in
    let a = c.args.assembly.now in
    let b = c.check_data.new.assembly in
    let e = c.check_data.ensures in
    let kept = c.in-Header.kept in
    let piece = c.args.piece.now in
    let h = c.in-Some.end.header.now in
    let used = c.in-Some.end.used in
    let rest = take (length piece - used) (drop used piece) in
    let opcode : h.opcode ≤ 2 = c.if-not-is_data.ensures.0 refl in
    let u : IsUnderWay role limits a (under_way.Header kept) = subst (λ (f : UnderWay). IsUnderWay role limits a f) c.in-Header.is c.requires.under_way in
    let are : AreBytes (kept ++ piece) = bytes_append kept piece u.bytes (λ i. omega (arith, c.type_inv.piece i)) in
    let at_first : IsDataCheck h 0 used (length rest) a b None = subst (λ (x : Option PieceCheck). IsDataCheck h 0 used (length rest) a b x) c.in_default-2.is c.in_ok-check.ensures.checked in
    let all : 0 + length rest ≡ length rest = omega arith in
    let checked : IsPayloadCheck h 0 used b (frame_payload b) (check.Need (under_way.Data h (length rest)) b.text) = subst (λ n. IsPayloadCheck h 0 used b (frame_payload b) (check.Need (under_way.Data h n) b.text)) all at_first in
    subst (λ (n : UnderWay). IsPieceCheck role limits a c.args.frame.now b n piece c.args.control.now None) (sym c.begin_data.ensures)
    (subst (λ (f : UnderWay). IsPieceCheck role limits a f b (under_way.Data h (length rest)) piece c.args.control.now None) (sym c.in-Header.is)
    (first_of_data role limits a b h kept piece rest used (c.in-Some.ensures kept piece c.complete_header.ensures).begins are c.in_default-reason_at_header.ensures e.opened e.joined (left_of piece used)
    (check.Need (under_way.Data h (length rest)) b.text) opcode c.in_ok-check.ensures.payload checked))

pub returns-in_default-2-clause-under_way : goal.returns-in_default-2-clause-under_way
returns-in_default-2-clause-under_way c =
    let role = c.args.role in
    let limits = c.args.limits.now in
    let a = c.args.assembly.now in
    let b = c.check_data.new.assembly in
    let e = c.check_data.ensures in
    let kept = c.in-Header.kept in
    let piece = c.args.piece.now in
    let h = c.in-Some.end.header.now in
    let used = c.in-Some.end.used in
    let rest = take (length piece - used) (drop used piece) in
    let opcode : h.opcode ≤ 2 = c.if-not-is_data.ensures.0 refl in
    let u : IsUnderWay role limits a (under_way.Header kept) = subst (λ (f : UnderWay). IsUnderWay role limits a f) c.in-Header.is c.requires.under_way in
    let are : AreBytes (kept ++ piece) = bytes_append kept piece u.bytes (λ i. omega (arith, c.type_inv.piece i)) in
    let at_first : IsDataCheck h 0 used (length rest) a b None = subst (λ (x : Option PieceCheck). IsDataCheck h 0 used (length rest) a b x) c.in_default-2.is c.in_ok-check.ensures.checked in
    let all : 0 + length rest ≡ length rest = omega arith in
    let checked : IsPayloadCheck h 0 used b (frame_payload b) (check.Need (under_way.Data h (length rest)) b.text) = subst (λ n. IsPayloadCheck h 0 used b (frame_payload b) (check.Need (under_way.Data h n) b.text)) all at_first in
    let is = first_of_data role limits a b h kept piece rest used (c.in-Some.ensures kept piece c.complete_header.ensures).begins are c.in_default-reason_at_header.ensures e.opened e.joined (left_of piece used)
    (check.Need (under_way.Data h (length rest)) b.text) opcode c.in_ok-check.ensures.payload checked in
    subst (λ (n : UnderWay). IsUnderWay role limits b n) (sym c.begin_data.ensures) is.3

pub returns-in_default-2-clause-room : goal.returns-in_default-2-clause-room
returns-in_default-2-clause-room c =
    let opcode : c.in-Some.end.header.now.opcode ≤ 2 = c.if-not-is_data.ensures.0 refl in
    omega (arith, c.check_data.ensures.size, data_fits c.args.role c.args.limits.now c.args.assembly.now.opened c.in-Some.end.header.now c.in_default-reason_at_header.ensures opcode)

pub returns-in_default-2-clause-bytes : goal.returns-in_default-2-clause-bytes
returns-in_default-2-clause-bytes c = bytes_append (partial_of c.args.assembly.now c.args.frame.now) c.args.piece.now c.requires.under_way.bytes (λ i. omega (arith, c.type_inv.piece i))

pub returns-clause-checked : goal.returns-clause-checked
returns-clause-checked c =
    let role = c.args.role in
    let limits = c.args.limits.now in
    let a = c.args.assembly.now in
    let b = c.check_data.new.assembly in
    let e = c.check_data.ensures in
    let kept = c.in-Header.kept in
    let piece = c.args.piece.now in
    let h = c.in-Some.end.header.now in
    let used = c.in-Some.end.used in
    let rest = take (length piece - used) (drop used piece) in
    let y = c.in-Some-2.check in
    let opcode : h.opcode ≤ 2 = c.if-not-is_data.ensures.0 refl in
    let u : IsUnderWay role limits a (under_way.Header kept) = subst (λ (f : UnderWay). IsUnderWay role limits a f) c.in-Header.is c.requires.under_way in
    let are : AreBytes (kept ++ piece) = bytes_append kept piece u.bytes (λ i. omega (arith, c.type_inv.piece i)) in
    let checked : IsDataCheck h 0 used (length rest) a b (Some y) = subst (λ (x : Option PieceCheck). IsDataCheck h 0 used (length rest) a b x) c.in-Some-2.is c.in_ok-check.ensures.checked in
    subst (λ (f : UnderWay). IsPieceCheck role limits a f b (under_way.Header kept) piece c.args.control.now (Some y)) (sym c.in-Header.is)
    (told_first role limits a b h kept piece rest used c.args.control.now y (c.in-Some.ensures kept piece c.complete_header.ensures).begins are c.in_default-reason_at_header.ensures e.opened e.joined (left_of piece used) opcode c.in_ok-check.ensures.payload checked)

pub returns-clause-room : goal.returns-clause-room
returns-clause-room c =
    let opcode : c.in-Some.end.header.now.opcode ≤ 2 = c.if-not-is_data.ensures.0 refl in
    omega (arith, c.check_data.ensures.size, data_fits c.args.role c.args.limits.now c.args.assembly.now.opened c.in-Some.end.header.now c.in_default-reason_at_header.ensures opcode)

pub returns-clause-bytes : goal.returns-clause-bytes
returns-clause-bytes c = bytes_append (partial_of c.args.assembly.now c.args.frame.now) c.args.piece.now c.requires.under_way.bytes (λ i. omega (arith, c.type_inv.piece i))
