-- What a call that takes only what gives no event makes of each thing that the check of the piece tells.
use Rattle.std.proofs.Common.{◌≡◌, ◌∙◌, ◌+◌, ◌-◌, ◌++◌, ◌≤◌, length, take, drop, List, ℕ, Option, Some, ap, refl, sym, subst, arith}
use Rattle.std.proofs.lemmas.List.{length-take-le}
use Rattle.ws_wire.specs.Header.{HeaderFields}
use Rattle.ws_session.specs.declared.receiver.under_way.UnderWay.{UnderWay}
use Rattle.ws_session.specs.declared.receiver.under_way.UnderWay.TheVariants as under_way
use Rattle.ws_session.specs.declared.receiver.piece_check.PieceCheck.{PieceCheck}
use Rattle.ws_session.specs.declared.receiver.piece_check.PieceCheck.TheVariants as piece_check
use Rattle.ws_session.specs.InnerMasked.{masked_from}
use Rattle.ws_session.specs.InnerReceiving.{AssemblyValue, IsPieceCheck, IsControlRead, control_payload_of, partial_of, came_of}
use Rattle.ws_session.specs.InnerReceiver.{ReceiverValue, receiver_of, IsReceiving}
use Rattle.ws_session.specs.InnerTaking.{WantsRoom}
use Rattle.ws_session.proofs.ControlTaken.{part_check, close_wants, other_wants, not_close}
use Rattle.ws_session.proofs.Exact.{need_receives, shown_sound}
use Rattle.ws_session.proofs.Pieces.{left_of, short_control, told_shows}
use Rattle.ws_session.proofs.ReceivedCalls.{goes_on, piece_wants}
use Rattle.ws_session.proofs.receiver.Receiver.take_quiet.Goals as goal

pub returns-in_default-check : goal.returns-in_default-check
returns-in_default-check c =
    let i = c.self.inside in
    let v = c.args.self.now in
    let b = c.check_piece.new.assembly in
    let g = c.check_piece.new.frame in
    let piece = c.args.piece.now in
    let o : ReceiverValue = receiver_of i.role i.limits i.assembly i.frame in
    let found : IsPieceCheck i.role i.limits i.assembly i.frame b g piece c.check_piece.new.control (Some c.in-Some.check) = subst (λ (x : Option PieceCheck). IsPieceCheck i.role i.limits i.assembly i.frame b g piece c.check_piece.new.control x) c.in-Some.is c.in_ok-check.ensures.checked in
    let opened = c.in_ok-check.ensures.opened in
    let is = c.self.view_is in
    let same = told_shows i.role i.limits i.assembly b i.frame g piece c.check_piece.new.control c.in-Some.check found in
    record {
      nothing = c.in_ok-check.ensures.nothing;
      goes_on = λ no. absurd cc;
      exact = λ no. absurd cc;
      kept = λ no. same.1 ∙ ap (λ (x : ReceiverValue). x.partial_frame) is;
      came = λ no. ap (λ (f : UnderWay). came_of f) same.0 ∙ ap (λ (x : ReceiverValue). x.came) is;
      tells = λ no. piece_wants i.role i.limits i.assembly b i.frame g v is piece opened c.check_piece.new.control c.in-Some.check c.check_piece.ensures.bytes found c.in_default-check.not-Control;
      refused = tt;
      opened = opened ∙ ap (λ (x : ReceiverValue). x.opened) is;
      sound = shown_sound i.role i.limits i.assembly b i.frame g c.self.invariant.sound opened same.1 c.in_ok-check.ensures.room;
      role = ap (λ (x : ReceiverValue). x.role) is;
      limits = ap (λ (x : ReceiverValue). x.limits) is;
      wants = tt;
    }

pub go_on_control-requires : goal.go_on_control-requires
go_on_control-requires c =
    let i = c.self.inside in
    let v = c.args.self.now in
    let b = c.check_piece.new.assembly in
    let g = c.check_piece.new.frame in
    let piece = c.args.piece.now in
    let o : ReceiverValue = receiver_of i.role i.limits i.assembly i.frame in
    let found : IsPieceCheck i.role i.limits i.assembly i.frame b g piece c.check_piece.new.control (Some c.in-Some.check) = subst (λ (x : Option PieceCheck). IsPieceCheck i.role i.limits i.assembly i.frame b g piece c.check_piece.new.control x) c.in-Some.is c.in_ok-check.ensures.checked in
    let opened = c.in_ok-check.ensures.opened in
    let h = c.in-Some-control.header in
    let start = c.in-Control.start in
    let told : IsPieceCheck i.role i.limits i.assembly i.frame b g piece c.check_piece.new.control (Some (piece_check.Control start)) = subst (λ (y : PieceCheck). IsPieceCheck i.role i.limits i.assembly i.frame b g piece c.check_piece.new.control (Some y)) c.in-Control.is found in
    let at = subst (λ (k : Option HeaderFields). IsControlRead i.role i.limits i.assembly i.frame piece start k) c.in-Some-control.is told.2 in
    let short : h.len ≤ 125 = short_control i.role i.limits i.assembly.opened h at.none at.control in
    let rest = take (length piece - start) (drop start piece) in
    let came = c.control_payload-before.result.now in
    let came_is : came ≡ control_payload_of i.frame = c.control_payload-before.ensures.bytes ∙ ap (λ (f : UnderWay). control_payload_of f) told.1 in
    let less : length came ≤ h.len = omega (arith, at.came, ap (λ (l : List ℕ). length l) came_is) in
    let u = c.self.invariant.under_way in
    let are = c.check_piece.ensures.bytes in
    omega (arith, c.if-rest-left.true, less, short, c.payload_len.ensures.value, ap (λ (l : List ℕ). length l) came_is, ap (λ (f : UnderWay). length (control_payload_of f)) told.1)

pub invariant_of-self-then-rest-left : goal.invariant_of-self-then-rest-left
invariant_of-self-then-rest-left c =
    let i = c.self.inside in
    let v = c.args.self.now in
    let b = c.check_piece.new.assembly in
    let g = c.check_piece.new.frame in
    let piece = c.args.piece.now in
    let o : ReceiverValue = receiver_of i.role i.limits i.assembly i.frame in
    let found : IsPieceCheck i.role i.limits i.assembly i.frame b g piece c.check_piece.new.control (Some c.in-Some.check) = subst (λ (x : Option PieceCheck). IsPieceCheck i.role i.limits i.assembly i.frame b g piece c.check_piece.new.control x) c.in-Some.is c.in_ok-check.ensures.checked in
    let opened = c.in_ok-check.ensures.opened in
    let h = c.in-Some-control.header in
    let start = c.in-Control.start in
    let told : IsPieceCheck i.role i.limits i.assembly i.frame b g piece c.check_piece.new.control (Some (piece_check.Control start)) = subst (λ (y : PieceCheck). IsPieceCheck i.role i.limits i.assembly i.frame b g piece c.check_piece.new.control (Some y)) c.in-Control.is found in
    let at = subst (λ (k : Option HeaderFields). IsControlRead i.role i.limits i.assembly i.frame piece start k) c.in-Some-control.is told.2 in
    let short : h.len ≤ 125 = short_control i.role i.limits i.assembly.opened h at.none at.control in
    let rest = take (length piece - start) (drop start piece) in
    let came = c.control_payload-before.result.now in
    let came_is : came ≡ control_payload_of i.frame = c.control_payload-before.ensures.bytes ∙ ap (λ (f : UnderWay). control_payload_of f) told.1 in
    let less : length came ≤ h.len = omega (arith, at.came, ap (λ (l : List ℕ). length l) came_is) in
    let u = c.self.invariant.under_way in
    let are = c.check_piece.ensures.bytes in
    let payload = control_payload_of i.frame ++ masked_from h.key (length (control_payload_of i.frame)) rest in
    let before : length (control_payload_of i.frame) ≡ length came = ap (λ (l : List ℕ). length l) (sym came_is) in
    let is = part_check i.role i.limits i.assembly i.frame piece rest (control_payload_of i.frame) h start u are at (left_of piece start) refl payload refl (omega (arith, before, c.if-rest-left.true, less, c.payload_len.ensures.value)) in
    let sound = c.self.invariant.sound in
    let frame_is : c.go_on_control.new.self ≡ under_way.Control h payload = c.go_on_control.ensures ∙ ap (λ (f : UnderWay). under_way.Control h (control_payload_of f ++ masked_from h.key (length (control_payload_of f)) rest)) told.1 in
    let receives : IsReceiving i.role i.limits b c.go_on_control.new.self = subst (λ (x : AssemblyValue). IsReceiving i.role i.limits x c.go_on_control.new.self) (sym told.0)
    (subst (λ (f : UnderWay). IsReceiving i.role i.limits i.assembly f) (sym frame_is) (need_receives i.role i.limits i.assembly i.assembly (length (partial_of i.assembly i.frame)) (partial_of i.assembly i.frame ++ piece) (under_way.Control h payload) i.assembly.text refl sound.limit sound.size sound.room is)) in
    receives

pub returns-then-rest-left-clause-goes_on : goal.returns-then-rest-left-clause-goes_on
returns-then-rest-left-clause-goes_on c =
    let i = c.self.inside in
    let v = c.args.self.now in
    let b = c.check_piece.new.assembly in
    let g = c.check_piece.new.frame in
    let piece = c.args.piece.now in
    let o : ReceiverValue = receiver_of i.role i.limits i.assembly i.frame in
    let found : IsPieceCheck i.role i.limits i.assembly i.frame b g piece c.check_piece.new.control (Some c.in-Some.check) = subst (λ (x : Option PieceCheck). IsPieceCheck i.role i.limits i.assembly i.frame b g piece c.check_piece.new.control x) c.in-Some.is c.in_ok-check.ensures.checked in
    let opened = c.in_ok-check.ensures.opened in
    let h = c.in-Some-control.header in
    let start = c.in-Control.start in
    let told : IsPieceCheck i.role i.limits i.assembly i.frame b g piece c.check_piece.new.control (Some (piece_check.Control start)) = subst (λ (y : PieceCheck). IsPieceCheck i.role i.limits i.assembly i.frame b g piece c.check_piece.new.control (Some y)) c.in-Control.is found in
    let at = subst (λ (k : Option HeaderFields). IsControlRead i.role i.limits i.assembly i.frame piece start k) c.in-Some-control.is told.2 in
    let short : h.len ≤ 125 = short_control i.role i.limits i.assembly.opened h at.none at.control in
    let rest = take (length piece - start) (drop start piece) in
    let came = c.control_payload-before.result.now in
    let came_is : came ≡ control_payload_of i.frame = c.control_payload-before.ensures.bytes ∙ ap (λ (f : UnderWay). control_payload_of f) told.1 in
    let less : length came ≤ h.len = omega (arith, at.came, ap (λ (l : List ℕ). length l) came_is) in
    let u = c.self.invariant.under_way in
    let are = c.check_piece.ensures.bytes in
    let payload = control_payload_of i.frame ++ masked_from h.key (length (control_payload_of i.frame)) rest in
    let before : length (control_payload_of i.frame) ≡ length came = ap (λ (l : List ℕ). length l) (sym came_is) in
    let is = part_check i.role i.limits i.assembly i.frame piece rest (control_payload_of i.frame) h start u are at (left_of piece start) refl payload refl (omega (arith, before, c.if-rest-left.true, less, c.payload_len.ensures.value)) in
    let sound = c.self.invariant.sound in
    let frame_is : c.go_on_control.new.self ≡ under_way.Control h payload = c.go_on_control.ensures ∙ ap (λ (f : UnderWay). under_way.Control h (control_payload_of f ++ masked_from h.key (length (control_payload_of f)) rest)) told.1 in
    λ yes. goes_on o v c.self.view_is piece (receiver_of i.role i.limits b c.go_on_control.new.self) is.0 opened
    (ap (λ (x : AssemblyValue). partial_of x c.go_on_control.new.self) told.0 ∙ ap (λ (f : UnderWay). partial_of i.assembly f) frame_is ∙ is.2)

pub returns-then-rest-left-clause-sound : goal.returns-then-rest-left-clause-sound
returns-then-rest-left-clause-sound c =
    let i = c.self.inside in
    let v = c.args.self.now in
    let b = c.check_piece.new.assembly in
    let g = c.check_piece.new.frame in
    let piece = c.args.piece.now in
    let o : ReceiverValue = receiver_of i.role i.limits i.assembly i.frame in
    let found : IsPieceCheck i.role i.limits i.assembly i.frame b g piece c.check_piece.new.control (Some c.in-Some.check) = subst (λ (x : Option PieceCheck). IsPieceCheck i.role i.limits i.assembly i.frame b g piece c.check_piece.new.control x) c.in-Some.is c.in_ok-check.ensures.checked in
    let opened = c.in_ok-check.ensures.opened in
    let h = c.in-Some-control.header in
    let start = c.in-Control.start in
    let told : IsPieceCheck i.role i.limits i.assembly i.frame b g piece c.check_piece.new.control (Some (piece_check.Control start)) = subst (λ (y : PieceCheck). IsPieceCheck i.role i.limits i.assembly i.frame b g piece c.check_piece.new.control (Some y)) c.in-Control.is found in
    let at = subst (λ (k : Option HeaderFields). IsControlRead i.role i.limits i.assembly i.frame piece start k) c.in-Some-control.is told.2 in
    let short : h.len ≤ 125 = short_control i.role i.limits i.assembly.opened h at.none at.control in
    let rest = take (length piece - start) (drop start piece) in
    let came = c.control_payload-before.result.now in
    let came_is : came ≡ control_payload_of i.frame = c.control_payload-before.ensures.bytes ∙ ap (λ (f : UnderWay). control_payload_of f) told.1 in
    let less : length came ≤ h.len = omega (arith, at.came, ap (λ (l : List ℕ). length l) came_is) in
    let u = c.self.invariant.under_way in
    let are = c.check_piece.ensures.bytes in
    let payload = control_payload_of i.frame ++ masked_from h.key (length (control_payload_of i.frame)) rest in
    let before : length (control_payload_of i.frame) ≡ length came = ap (λ (l : List ℕ). length l) (sym came_is) in
    let is = part_check i.role i.limits i.assembly i.frame piece rest (control_payload_of i.frame) h start u are at (left_of piece start) refl payload refl (omega (arith, before, c.if-rest-left.true, less, c.payload_len.ensures.value)) in
    let sound = c.self.invariant.sound in
    let frame_is : c.go_on_control.new.self ≡ under_way.Control h payload = c.go_on_control.ensures ∙ ap (λ (f : UnderWay). under_way.Control h (control_payload_of f ++ masked_from h.key (length (control_payload_of f)) rest)) told.1 in
    let receives : IsReceiving i.role i.limits b c.go_on_control.new.self = subst (λ (x : AssemblyValue). IsReceiving i.role i.limits x c.go_on_control.new.self) (sym told.0)
    (subst (λ (f : UnderWay). IsReceiving i.role i.limits i.assembly f) (sym frame_is) (need_receives i.role i.limits i.assembly i.assembly (length (partial_of i.assembly i.frame)) (partial_of i.assembly i.frame ++ piece) (under_way.Control h payload) i.assembly.text refl sound.limit sound.size sound.room is)) in
    receives.sound

pub read_close-requires-clause-whole : goal.read_close-requires-clause-whole
read_close-requires-clause-whole c =
    let i = c.self.inside in
    let v = c.args.self.now in
    let b = c.check_piece.new.assembly in
    let g = c.check_piece.new.frame in
    let piece = c.args.piece.now in
    let o : ReceiverValue = receiver_of i.role i.limits i.assembly i.frame in
    let found : IsPieceCheck i.role i.limits i.assembly i.frame b g piece c.check_piece.new.control (Some c.in-Some.check) = subst (λ (x : Option PieceCheck). IsPieceCheck i.role i.limits i.assembly i.frame b g piece c.check_piece.new.control x) c.in-Some.is c.in_ok-check.ensures.checked in
    let opened = c.in_ok-check.ensures.opened in
    let h = c.in-Some-control.header in
    let start = c.in-Control.start in
    let told : IsPieceCheck i.role i.limits i.assembly i.frame b g piece c.check_piece.new.control (Some (piece_check.Control start)) = subst (λ (y : PieceCheck). IsPieceCheck i.role i.limits i.assembly i.frame b g piece c.check_piece.new.control (Some y)) c.in-Control.is found in
    let at = subst (λ (k : Option HeaderFields). IsControlRead i.role i.limits i.assembly i.frame piece start k) c.in-Some-control.is told.2 in
    let short : h.len ≤ 125 = short_control i.role i.limits i.assembly.opened h at.none at.control in
    let rest = take (length piece - start) (drop start piece) in
    let came = c.control_payload-before.result.now in
    let came_is : came ≡ control_payload_of i.frame = c.control_payload-before.ensures.bytes ∙ ap (λ (f : UnderWay). control_payload_of f) told.1 in
    let less : length came ≤ h.len = omega (arith, at.came, ap (λ (l : List ℕ). length l) came_is) in
    let u = c.self.invariant.under_way in
    let are = c.check_piece.ensures.bytes in
    let left = c.payload_len.result - length came in
    let whole : length came + left ≡ h.len = omega (arith, less, c.payload_len.ensures.value) in
    let enough : left ≤ length rest = omega (arith, c.if-rest-left.false) in
    omega (arith, whole, length-take-le left rest enough)

pub read_close-requires-clause-short : goal.read_close-requires-clause-short
read_close-requires-clause-short c =
    let i = c.self.inside in
    let v = c.args.self.now in
    let b = c.check_piece.new.assembly in
    let g = c.check_piece.new.frame in
    let piece = c.args.piece.now in
    let o : ReceiverValue = receiver_of i.role i.limits i.assembly i.frame in
    let found : IsPieceCheck i.role i.limits i.assembly i.frame b g piece c.check_piece.new.control (Some c.in-Some.check) = subst (λ (x : Option PieceCheck). IsPieceCheck i.role i.limits i.assembly i.frame b g piece c.check_piece.new.control x) c.in-Some.is c.in_ok-check.ensures.checked in
    let opened = c.in_ok-check.ensures.opened in
    let h = c.in-Some-control.header in
    let start = c.in-Control.start in
    let told : IsPieceCheck i.role i.limits i.assembly i.frame b g piece c.check_piece.new.control (Some (piece_check.Control start)) = subst (λ (y : PieceCheck). IsPieceCheck i.role i.limits i.assembly i.frame b g piece c.check_piece.new.control (Some y)) c.in-Control.is found in
    let at = subst (λ (k : Option HeaderFields). IsControlRead i.role i.limits i.assembly i.frame piece start k) c.in-Some-control.is told.2 in
    let short : h.len ≤ 125 = short_control i.role i.limits i.assembly.opened h at.none at.control in
    let rest = take (length piece - start) (drop start piece) in
    let came = c.control_payload-before.result.now in
    let came_is : came ≡ control_payload_of i.frame = c.control_payload-before.ensures.bytes ∙ ap (λ (f : UnderWay). control_payload_of f) told.1 in
    let less : length came ≤ h.len = omega (arith, at.came, ap (λ (l : List ℕ). length l) came_is) in
    let u = c.self.invariant.under_way in
    let are = c.check_piece.ensures.bytes in
    short

pub returns-in-Close-clause-tells : goal.returns-in-Close-clause-tells
returns-in-Close-clause-tells c =
    let i = c.self.inside in
    let v = c.args.self.now in
    let b = c.check_piece.new.assembly in
    let g = c.check_piece.new.frame in
    let piece = c.args.piece.now in
    let o : ReceiverValue = receiver_of i.role i.limits i.assembly i.frame in
    let found : IsPieceCheck i.role i.limits i.assembly i.frame b g piece c.check_piece.new.control (Some c.in-Some.check) = subst (λ (x : Option PieceCheck). IsPieceCheck i.role i.limits i.assembly i.frame b g piece c.check_piece.new.control x) c.in-Some.is c.in_ok-check.ensures.checked in
    let opened = c.in_ok-check.ensures.opened in
    let h = c.in-Some-control.header in
    let start = c.in-Control.start in
    let told : IsPieceCheck i.role i.limits i.assembly i.frame b g piece c.check_piece.new.control (Some (piece_check.Control start)) = subst (λ (y : PieceCheck). IsPieceCheck i.role i.limits i.assembly i.frame b g piece c.check_piece.new.control (Some y)) c.in-Control.is found in
    let at = subst (λ (k : Option HeaderFields). IsControlRead i.role i.limits i.assembly i.frame piece start k) c.in-Some-control.is told.2 in
    let short : h.len ≤ 125 = short_control i.role i.limits i.assembly.opened h at.none at.control in
    let rest = take (length piece - start) (drop start piece) in
    let came = c.control_payload-before.result.now in
    let came_is : came ≡ control_payload_of i.frame = c.control_payload-before.ensures.bytes ∙ ap (λ (f : UnderWay). control_payload_of f) told.1 in
    let less : length came ≤ h.len = omega (arith, at.came, ap (λ (l : List ℕ). length l) came_is) in
    let u = c.self.invariant.under_way in
    let are = c.check_piece.ensures.bytes in
    let left = c.payload_len.result - length came in
    let whole : length came + left ≡ h.len = omega (arith, less, c.payload_len.ensures.value) in
    let enough : left ≤ length rest = omega (arith, c.if-rest-left.false) in
    let payload = came ++ masked_from h.key (length came) (take left rest) in
    let put : payload ≡ came ++ masked_from h.key (length came) (take left rest) = refl in
    λ no. subst (λ (w : ReceiverValue). WantsRoom (λ e. Unit {0}) w piece) c.self.view_is
    (close_wants i.role i.limits i.assembly i.frame o refl piece rest came h start u are at (left_of piece start) came_is left payload whole enough put c.read_close.result (λ m. c.read_close.ensures m payload refl) c.in-Close.ensures)

pub returns-in_default-kind : goal.returns-in_default-kind
returns-in_default-kind c =
    let i = c.self.inside in
    let v = c.args.self.now in
    let b = c.check_piece.new.assembly in
    let g = c.check_piece.new.frame in
    let piece = c.args.piece.now in
    let o : ReceiverValue = receiver_of i.role i.limits i.assembly i.frame in
    let found : IsPieceCheck i.role i.limits i.assembly i.frame b g piece c.check_piece.new.control (Some c.in-Some.check) = subst (λ (x : Option PieceCheck). IsPieceCheck i.role i.limits i.assembly i.frame b g piece c.check_piece.new.control x) c.in-Some.is c.in_ok-check.ensures.checked in
    let opened = c.in_ok-check.ensures.opened in
    let h = c.in-Some-control.header in
    let start = c.in-Control.start in
    let told : IsPieceCheck i.role i.limits i.assembly i.frame b g piece c.check_piece.new.control (Some (piece_check.Control start)) = subst (λ (y : PieceCheck). IsPieceCheck i.role i.limits i.assembly i.frame b g piece c.check_piece.new.control (Some y)) c.in-Control.is found in
    let at = subst (λ (k : Option HeaderFields). IsControlRead i.role i.limits i.assembly i.frame piece start k) c.in-Some-control.is told.2 in
    let short : h.len ≤ 125 = short_control i.role i.limits i.assembly.opened h at.none at.control in
    let rest = take (length piece - start) (drop start piece) in
    let came = c.control_payload-before.result.now in
    let came_is : came ≡ control_payload_of i.frame = c.control_payload-before.ensures.bytes ∙ ap (λ (f : UnderWay). control_payload_of f) told.1 in
    let less : length came ≤ h.len = omega (arith, at.came, ap (λ (l : List ℕ). length l) came_is) in
    let u = c.self.invariant.under_way in
    let are = c.check_piece.ensures.bytes in
    let left = c.payload_len.result - length came in
    let whole : length came + left ≡ h.len = omega (arith, less, c.payload_len.ensures.value) in
    let enough : left ≤ length rest = omega (arith, c.if-rest-left.false) in
    let payload = came ++ masked_from h.key (length came) (take left rest) in
    let is = c.self.view_is in
    let same = told_shows i.role i.limits i.assembly b i.frame g piece c.check_piece.new.control c.in-Some.check found in
    record {
      nothing = c.in_ok-check.ensures.nothing;
      goes_on = λ no. absurd cc;
      exact = λ no. absurd cc;
      kept = λ no. same.1 ∙ ap (λ (x : ReceiverValue). x.partial_frame) is;
      came = λ no. ap (λ (f : UnderWay). came_of f) same.0 ∙ ap (λ (x : ReceiverValue). x.came) is;
      tells = λ no. subst (λ (w : ReceiverValue). WantsRoom (λ e. Unit {0}) w piece) is
          (other_wants i.role i.limits i.assembly i.frame o refl piece rest came h start u are at (left_of piece start) came_is left payload whole enough refl (λ eight. not_close c.kind.result h.opcode c.kind.ensures c.in_default-kind.not-Close eight));
      refused = tt;
      opened = opened ∙ ap (λ (x : ReceiverValue). x.opened) is;
      sound = shown_sound i.role i.limits i.assembly b i.frame g c.self.invariant.sound opened same.1 c.in_ok-check.ensures.room;
      role = ap (λ (x : ReceiverValue). x.role) is;
      limits = ap (λ (x : ReceiverValue). x.limits) is;
      wants = tt;
    }
