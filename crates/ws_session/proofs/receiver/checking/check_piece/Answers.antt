-- What a piece makes of the frame under way: a part of a header, or of the payload of a data frame, is put to what came
-- before; a whole data frame or a fault is told, and what is for a control frame's payload is left to be read.
use Rattle.std.proofs.Common.{◌+◌, ◌++◌, length, Option, Some, None, refl, sym, subst, arith}
use Rattle.ws_wire.specs.Header.{AreBytes}
use Rattle.ws_session.specs.declared.receiver.under_way.UnderWay.{UnderWay}
use Rattle.ws_session.specs.declared.receiver.under_way.UnderWay.TheVariants as under_way
use Rattle.ws_session.specs.declared.receiver.piece_check.PieceCheck.{PieceCheck}
use Rattle.ws_session.specs.InnerFrameCheck as check
use Rattle.ws_session.specs.InnerReceiving.{IsUnderWay, HasNewData, IsDataCheck, IsFrameCheck, IsPieceCheck, ShowsTheSame, partial_of}
use Rattle.ws_session.proofs.ByteLists.{bytes_append}
use Rattle.ws_session.proofs.Exact.{room_data}
use Rattle.ws_session.proofs.Pieces.{none_open, piece_of_data, same_partial, still_data, more_data, told_inside, told_text}
use Rattle.ws_session.proofs.Wants.{on_err}
use Rattle.ws_session.proofs.receiver.checking.check_piece.Goals as goal

pub check_data-requires-clause-begins : goal.check_data-requires-clause-begins
check_data-requires-clause-begins c = λ one.
    let u : IsUnderWay c.args.role c.args.limits.now c.args.assembly.now (under_way.Data c.in-Data.header c.in-Data.came) = subst (λ (f : UnderWay). IsUnderWay c.args.role c.args.limits.now c.args.assembly.now f) c.in-Data.is c.requires.under_way in
    let k = u.kept in
    none_open c.args.role c.args.limits.now c.args.assembly.now.opened c.in-Data.header k.1 k.2 one

pub returns-in_err-check-in-Data-clause-under_way :
    goal.returns-in_err-check-in-Data-clause-under_way
returns-in_err-check-in-Data-clause-under_way c =
    let role = c.args.role in
    let limits = c.args.limits.now in
    let a = c.args.assembly.now in
    let e = c.check_data.ensures in
    let u : IsUnderWay role limits a (under_way.Data c.in-Data.header c.in-Data.came) = subst (λ (f : UnderWay). IsUnderWay role limits a f) c.in-Data.is c.requires.under_way in
    still_data role limits a c.in-Data.header c.in-Data.came u c.check_data.new.assembly e.opened c.in_err-check-in-Data.ensures.text e.first e.kept e.joined

pub returns-in_err-check-in-Data-clause-room : goal.returns-in_err-check-in-Data-clause-room
returns-in_err-check-in-Data-clause-room c =
    let role = c.args.role in
    let limits = c.args.limits.now in
    let a = c.args.assembly.now in
    let u : IsUnderWay role limits a (under_way.Data c.in-Data.header c.in-Data.came) = subst (λ (f : UnderWay). IsUnderWay role limits a f) c.in-Data.is c.requires.under_way in
    room_data role limits a c.in-Data.header c.in-Data.came u c.check_data.new.assembly c.check_data.ensures.size

pub returns-in_err-check-in-Data-clause-bytes : goal.returns-in_err-check-in-Data-clause-bytes
returns-in_err-check-in-Data-clause-bytes c = bytes_append (partial_of c.args.assembly.now c.args.frame.now) c.args.piece.now c.requires.under_way.bytes (λ i. omega (arith, c.type_inv.piece i))

pub returns-in_err-check-in-Data-clause-shown : goal.returns-in_err-check-in-Data-clause-shown
returns-in_err-check-in-Data-clause-shown c =
    let role = c.args.role in
    let limits = c.args.limits.now in
    let a = c.args.assembly.now in
    let b = c.check_data.new.assembly in
    let e = c.check_data.ensures in
    let f = under_way.Data c.in-Data.header c.in-Data.came in
    let u : IsUnderWay role limits a f = subst (λ (x : UnderWay). IsUnderWay role limits a x) c.in-Data.is c.requires.under_way in
    let same : ShowsTheSame a f b f = (refl, same_partial role limits a c.in-Data.header c.in-Data.came u b e.opened e.first) in
    on_err c.from_residual.result _ (subst (λ (x : UnderWay). ShowsTheSame a x b f) (sym c.in-Data.is) same)

pub returns-in_err-check-in-Data-clause-wants : goal.returns-in_err-check-in-Data-clause-wants
returns-in_err-check-in-Data-clause-wants c =
    let role = c.args.role in
    let limits = c.args.limits.now in
    let a = c.args.assembly.now in
    let piece = c.args.piece.now in
    let u : IsUnderWay role limits a (under_way.Data c.in-Data.header c.in-Data.came) = subst (λ (f : UnderWay). IsUnderWay role limits a f) c.in-Data.is c.requires.under_way in
    let wants = c.in_err-check-in-Data.ensures.wants in
    on_err c.from_residual.result _ (subst (λ (f : UnderWay). HasNewData role limits a.opened (length (partial_of a f)) (partial_of a f ++ piece)) (sym c.in-Data.is) (more_data role limits a c.in-Data.header c.in-Data.came piece u wants.1))

pub returns-in_default-clause-checked : goal.returns-in_default-clause-checked
returns-in_default-clause-checked c =
    let role = c.args.role in
    let limits = c.args.limits.now in
    let a = c.args.assembly.now in
    let b = c.check_data.new.assembly in
    let e = c.check_data.ensures in
    let piece = c.args.piece.now in
    let h = c.in-Data.header in
    let came = c.in-Data.came in
    let u : IsUnderWay role limits a (under_way.Data h came) = subst (λ (f : UnderWay). IsUnderWay role limits a f) c.in-Data.is c.requires.under_way in
    let are : AreBytes (partial_of a (under_way.Data h came) ++ piece) = bytes_append (partial_of a (under_way.Data h came)) piece u.bytes (λ i. omega (arith, c.type_inv.piece i)) in
    let checked : IsDataCheck h came 0 (length piece) a b None = subst (λ (x : Option PieceCheck). IsDataCheck h came 0 (length piece) a b x) c.in_default.is c.in_ok-check-in-Data.ensures.checked in
    subst (λ (f : UnderWay). IsFrameCheck role limits b (length (partial_of a f)) (partial_of a f ++ piece) (check.Need (under_way.Data h (came + length piece)) b.text)) (sym c.in-Data.is)
    (piece_of_data role limits a h came u b piece (check.Need (under_way.Data h (came + length piece)) b.text) are e.opened e.joined c.in_ok-check-in-Data.ensures.payload checked)

pub returns-in_default-clause-under_way : goal.returns-in_default-clause-under_way
returns-in_default-clause-under_way c =
    let role = c.args.role in
    let limits = c.args.limits.now in
    let a = c.args.assembly.now in
    let b = c.check_data.new.assembly in
    let e = c.check_data.ensures in
    let piece = c.args.piece.now in
    let h = c.in-Data.header in
    let came = c.in-Data.came in
    let u : IsUnderWay role limits a (under_way.Data h came) = subst (λ (f : UnderWay). IsUnderWay role limits a f) c.in-Data.is c.requires.under_way in
    let are : AreBytes (partial_of a (under_way.Data h came) ++ piece) = bytes_append (partial_of a (under_way.Data h came)) piece u.bytes (λ i. omega (arith, c.type_inv.piece i)) in
    let checked : IsDataCheck h came 0 (length piece) a b None = subst (λ (x : Option PieceCheck). IsDataCheck h came 0 (length piece) a b x) c.in_default.is c.in_ok-check-in-Data.ensures.checked in
    let is = piece_of_data role limits a h came u b piece (check.Need (under_way.Data h (came + length piece)) b.text) are e.opened e.joined c.in_ok-check-in-Data.ensures.payload checked in
    is.3

pub returns-in_default-clause-room : goal.returns-in_default-clause-room
returns-in_default-clause-room c =
    let role = c.args.role in
    let limits = c.args.limits.now in
    let a = c.args.assembly.now in
    let u : IsUnderWay role limits a (under_way.Data c.in-Data.header c.in-Data.came) = subst (λ (f : UnderWay). IsUnderWay role limits a f) c.in-Data.is c.requires.under_way in
    room_data role limits a c.in-Data.header c.in-Data.came u c.check_data.new.assembly c.check_data.ensures.size

pub returns-in-Some-clause-checked : goal.returns-in-Some-clause-checked
returns-in-Some-clause-checked c =
    let role = c.args.role in
    let limits = c.args.limits.now in
    let a = c.args.assembly.now in
    let b = c.check_data.new.assembly in
    let e = c.check_data.ensures in
    let piece = c.args.piece.now in
    let h = c.in-Data.header in
    let came = c.in-Data.came in
    let y = c.in-Some.check in
    let u : IsUnderWay role limits a (under_way.Data h came) = subst (λ (f : UnderWay). IsUnderWay role limits a f) c.in-Data.is c.requires.under_way in
    let are : AreBytes (partial_of a (under_way.Data h came) ++ piece) = bytes_append (partial_of a (under_way.Data h came)) piece u.bytes (λ i. omega (arith, c.type_inv.piece i)) in
    let checked : IsDataCheck h came 0 (length piece) a b (Some y) = subst (λ (x : Option PieceCheck). IsDataCheck h came 0 (length piece) a b x) c.in-Some.is c.in_ok-check-in-Data.ensures.checked in
    subst (λ (f : UnderWay). IsPieceCheck role limits a f b (under_way.Data h came) piece c.args.control.now (Some y)) (sym c.in-Data.is)
    (told_inside role limits a b h came piece c.args.control.now y u are e.opened e.joined e.first c.in_ok-check-in-Data.ensures.payload checked)

pub returns-in-Some-clause-under_way : goal.returns-in-Some-clause-under_way
returns-in-Some-clause-under_way c =
    let role = c.args.role in
    let limits = c.args.limits.now in
    let a = c.args.assembly.now in
    let b = c.check_data.new.assembly in
    let e = c.check_data.ensures in
    let piece = c.args.piece.now in
    let h = c.in-Data.header in
    let came = c.in-Data.came in
    let u : IsUnderWay role limits a (under_way.Data h came) = subst (λ (f : UnderWay). IsUnderWay role limits a f) c.in-Data.is c.requires.under_way in
    let checked : IsDataCheck h came 0 (length piece) a b (Some c.in-Some.check) = subst (λ (x : Option PieceCheck). IsDataCheck h came 0 (length piece) a b x) c.in-Some.is c.in_ok-check-in-Data.ensures.checked in
    still_data role limits a h came u b e.opened (told_text a b h came 0 (length piece) c.in-Some.check checked) e.first e.kept e.joined

pub returns-in-Some-clause-room : goal.returns-in-Some-clause-room
returns-in-Some-clause-room c =
    let role = c.args.role in
    let limits = c.args.limits.now in
    let a = c.args.assembly.now in
    let u : IsUnderWay role limits a (under_way.Data c.in-Data.header c.in-Data.came) = subst (λ (f : UnderWay). IsUnderWay role limits a f) c.in-Data.is c.requires.under_way in
    room_data role limits a c.in-Data.header c.in-Data.came u c.check_data.new.assembly c.check_data.ensures.size
