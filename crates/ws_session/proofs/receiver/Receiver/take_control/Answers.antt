-- What a piece with payload of a control frame makes of the receiving side: the frame goes on, or it is whole, or at
-- fault.
use Rattle.std.proofs.Common.{◌≡◌, ◌∙◌, ◌+◌, ◌-◌, ◌++◌, ◌≤◌, length, take, drop, List, ℕ, Option, None, ap, refl, sym, subst, arith, inr}
use Rattle.std.proofs.lemmas.List.{length-append, length-take-le}
use Rattle.ws_session.specs.declared.message.Message.{Message}
use Rattle.ws_session.specs.declared.event.Event.{Event}
use Rattle.ws_session.specs.declared.event.Event.TheVariants as event
use Rattle.ws_session.specs.declared.receiver.under_way.UnderWay.{UnderWay}
use Rattle.ws_session.specs.declared.receiver.under_way.UnderWay.TheVariants as under_way
use Rattle.ws_session.specs.Limits.{LimitsValue}
use Rattle.ws_session.specs.Faults.{open_payload}
use Rattle.ws_session.specs.Lent.{payload_in}
use Rattle.ws_session.specs.InnerMasked.{masked_from}
use Rattle.ws_session.specs.InnerReceiving.{IsControlAt, control_payload_of, partial_of}
use Rattle.ws_session.specs.InnerReceiver.{ReceiverValue, IsReceiving, IsOwed, HasReceived, IsSoundReceiver, receiver_of}
use Rattle.ws_session.specs.InnerTaking.{Receives, WantsRoom}
use Rattle.ws_session.proofs.ControlTaken.{at_of, bytes_of, part_check, holds_ping, holds_pong, holds_close, holds_wrong, so_receives, none_put}
use Rattle.ws_session.proofs.MaskedParts.{length-masked_from}
use Rattle.ws_session.proofs.Exact.{need_receives}
use Rattle.ws_session.proofs.Pieces.{left_of, short_control}
use Rattle.ws_session.proofs.ReceivedCalls.{goes_on}
use Rattle.ws_session.proofs.Wants.{on_err}
use Rattle.ws_session.proofs.receiver.Receiver.take_control.Goals as goal

pub go_on_control-requires : goal.go_on_control-requires
go_on_control-requires c =
    let i = c.self.inside in
    let v = c.args.self.now in
    let piece = c.args.piece.now in
    let h = c.args.header.now in
    let start = c.args.start in
    let rest = take (length piece - start) (drop start piece) in
    let came = c.control_payload-before.result.now in
    let came_is = c.control_payload-before.ensures.bytes in
    let u = c.self.invariant.under_way in
    let at : IsControlAt i.role i.limits i.assembly i.frame piece h start = at_of i.role i.limits i.assembly i.frame v c.self.view_is piece rest came h start u c.requires.bytes c.requires.at (left_of piece start) came_is in
    let short : h.len ≤ 125 = short_control i.role i.limits i.assembly.opened h at.none at.control in
    let less : length came ≤ h.len = omega (arith, at.came, ap (λ (l : List ℕ). length l) came_is) in
    omega (arith, c.if-rest-left.true, less, short, c.payload_len.ensures.value, ap (λ (l : List ℕ). length l) came_is)

pub tell_ping-requires-clause-short : goal.tell_ping-requires-clause-short
tell_ping-requires-clause-short c =
    let i = c.self.inside in
    let v = c.args.self.now in
    let piece = c.args.piece.now in
    let h = c.args.header.now in
    let start = c.args.start in
    let rest = take (length piece - start) (drop start piece) in
    let came = c.control_payload-before.result.now in
    let came_is = c.control_payload-before.ensures.bytes in
    let u = c.self.invariant.under_way in
    let at : IsControlAt i.role i.limits i.assembly i.frame piece h start = at_of i.role i.limits i.assembly i.frame v c.self.view_is piece rest came h start u c.requires.bytes c.requires.at (left_of piece start) came_is in
    let short : h.len ≤ 125 = short_control i.role i.limits i.assembly.opened h at.none at.control in
    let less : length came ≤ h.len = omega (arith, at.came, ap (λ (l : List ℕ). length l) came_is) in
    let left = c.payload_len.result - length came in
    let whole : length came + left ≡ h.len = omega (arith, less, c.payload_len.ensures.value) in
    let enough : left ≤ length rest = omega (arith, c.if-rest-left.false) in
    omega (arith, whole, short, length-take-le left rest enough)

pub tell_pong-requires-clause-short : goal.tell_pong-requires-clause-short
tell_pong-requires-clause-short c =
    let i = c.self.inside in
    let v = c.args.self.now in
    let piece = c.args.piece.now in
    let h = c.args.header.now in
    let start = c.args.start in
    let rest = take (length piece - start) (drop start piece) in
    let came = c.control_payload-before.result.now in
    let came_is = c.control_payload-before.ensures.bytes in
    let u = c.self.invariant.under_way in
    let at : IsControlAt i.role i.limits i.assembly i.frame piece h start = at_of i.role i.limits i.assembly i.frame v c.self.view_is piece rest came h start u c.requires.bytes c.requires.at (left_of piece start) came_is in
    let short : h.len ≤ 125 = short_control i.role i.limits i.assembly.opened h at.none at.control in
    let less : length came ≤ h.len = omega (arith, at.came, ap (λ (l : List ℕ). length l) came_is) in
    let left = c.payload_len.result - length came in
    let whole : length came + left ≡ h.len = omega (arith, less, c.payload_len.ensures.value) in
    let enough : left ≤ length rest = omega (arith, c.if-rest-left.false) in
    omega (arith, whole, short, length-take-le left rest enough)

pub on_ping-requires-clause-short : goal.on_ping-requires-clause-short
on_ping-requires-clause-short c =
    let i = c.self.inside in
    let v = c.args.self.now in
    let piece = c.args.piece.now in
    let h = c.args.header.now in
    let start = c.args.start in
    let rest = take (length piece - start) (drop start piece) in
    let came = c.control_payload-before.result.now in
    let came_is = c.control_payload-before.ensures.bytes in
    let u = c.self.invariant.under_way in
    let at : IsControlAt i.role i.limits i.assembly i.frame piece h start = at_of i.role i.limits i.assembly i.frame v c.self.view_is piece rest came h start u c.requires.bytes c.requires.at (left_of piece start) came_is in
    let short : h.len ≤ 125 = short_control i.role i.limits i.assembly.opened h at.none at.control in
    let less : length came ≤ h.len = omega (arith, at.came, ap (λ (l : List ℕ). length l) came_is) in
    let left = c.payload_len.result - length came in
    let whole : length came + left ≡ h.len = omega (arith, less, c.payload_len.ensures.value) in
    let enough : left ≤ length rest = omega (arith, c.if-rest-left.false) in
    let payload = came ++ masked_from c.key.result (length came) (take left rest) in
    let put : payload ≡ came ++ masked_from h.key (length came) (take left rest) = ap (λ (k : Option (List ℕ)). came ++ masked_from k (length came) (take left rest)) c.key.ensures.value in
    let size : length payload ≡ h.len = ap (λ (l : List ℕ). length l) put ∙ length-append came (masked_from h.key (length came) (take left rest)) ∙ ap (λ n. length came + n) (length-masked_from h.key (length came) (take left rest) ∙ length-take-le left rest enough) ∙ whole in
    omega (arith, size, short, ap (λ (t : Option Event). length (payload_in t)) c.tell_ping.ensures)

pub returns-in_ok-on_ping-in-Ping-clause-takes : goal.returns-in_ok-on_ping-in-Ping-clause-takes
returns-in_ok-on_ping-in-Ping-clause-takes c =
    let i = c.self.inside in
    let v = c.args.self.now in
    let piece = c.args.piece.now in
    let h = c.args.header.now in
    let start = c.args.start in
    let rest = take (length piece - start) (drop start piece) in
    let came = c.control_payload-before.result.now in
    let came_is = c.control_payload-before.ensures.bytes in
    let u = c.self.invariant.under_way in
    let at : IsControlAt i.role i.limits i.assembly i.frame piece h start = at_of i.role i.limits i.assembly i.frame v c.self.view_is piece rest came h start u c.requires.bytes c.requires.at (left_of piece start) came_is in
    let short : h.len ≤ 125 = short_control i.role i.limits i.assembly.opened h at.none at.control in
    let less : length came ≤ h.len = omega (arith, at.came, ap (λ (l : List ℕ). length l) came_is) in
    let left = c.payload_len.result - length came in
    let whole : length came + left ≡ h.len = omega (arith, less, c.payload_len.ensures.value) in
    let enough : left ≤ length rest = omega (arith, c.if-rest-left.false) in
    let payload = came ++ masked_from c.key.result (length came) (take left rest) in
    let put : payload ≡ came ++ masked_from h.key (length came) (take left rest) = ap (λ (k : Option (List ℕ)). came ++ masked_from k (length came) (take left rest)) c.key.ensures.value in
    let new = c.on_ping.new.self in
    let after = c.on_ping.new.out.items in
    let received : HasReceived c.args.replying.now v new c.args.out.now.items after (event.Ping payload) v.opened = subst (λ (t : Option Event). HasReceived c.args.replying.now v new c.args.out.now.items after (event.Ping (payload_in t)) v.opened) c.tell_ping.ensures c.in_ok-on_ping-in-Ping.ensures.received in
    so_receives c.args.replying.now v new piece c.args.out.now.items after (start + left) (event.Ping payload) v.opened c.tell_ping.new.self c.tell_ping.ensures (holds_ping i.role i.limits i.assembly i.frame v c.self.view_is piece rest came h start u c.requires.bytes c.requires.at (left_of piece start) came_is left payload whole enough put c.in-Ping.ensures) received

pub returns-in_err-on_ping-in-Ping-clause-wants : goal.returns-in_err-on_ping-in-Ping-clause-wants
returns-in_err-on_ping-in-Ping-clause-wants c =
    let i = c.self.inside in
    let v = c.args.self.now in
    let piece = c.args.piece.now in
    let h = c.args.header.now in
    let start = c.args.start in
    let rest = take (length piece - start) (drop start piece) in
    let came = c.control_payload-before.result.now in
    let came_is = c.control_payload-before.ensures.bytes in
    let u = c.self.invariant.under_way in
    let at : IsControlAt i.role i.limits i.assembly i.frame piece h start = at_of i.role i.limits i.assembly i.frame v c.self.view_is piece rest came h start u c.requires.bytes c.requires.at (left_of piece start) came_is in
    let short : h.len ≤ 125 = short_control i.role i.limits i.assembly.opened h at.none at.control in
    let less : length came ≤ h.len = omega (arith, at.came, ap (λ (l : List ℕ). length l) came_is) in
    let left = c.payload_len.result - length came in
    let whole : length came + left ≡ h.len = omega (arith, less, c.payload_len.ensures.value) in
    let enough : left ≤ length rest = omega (arith, c.if-rest-left.false) in
    let payload = came ++ masked_from c.key.result (length came) (take left rest) in
    let put : payload ≡ came ++ masked_from h.key (length came) (take left rest) = ap (λ (k : Option (List ℕ)). came ++ masked_from k (length came) (take left rest)) c.key.ensures.value in
    let owed : IsOwed c.args.replying.now (event.Ping payload) = subst (λ (t : Option Event). IsOwed c.args.replying.now (event.Ping (payload_in t))) c.tell_ping.ensures c.in_err-on_ping-in-Ping.ensures.owed in
    on_err c.from_residual.result (WantsRoom (IsOwed c.args.replying.now) v piece) (inr (start + left, event.Ping payload, v.opened, holds_ping i.role i.limits i.assembly i.frame v c.self.view_is piece rest came h start u c.requires.bytes c.requires.at (left_of piece start) came_is left payload whole enough put c.in-Ping.ensures, owed))

pub returns-in_ok-on_ping-in-Ping-clause-held : goal.returns-in_ok-on_ping-in-Ping-clause-held
returns-in_ok-on_ping-in-Ping-clause-held c =
    let i = c.self.inside in
    let v = c.args.self.now in
    let piece = c.args.piece.now in
    let h = c.args.header.now in
    let start = c.args.start in
    let rest = take (length piece - start) (drop start piece) in
    let came = c.control_payload-before.result.now in
    let came_is = c.control_payload-before.ensures.bytes in
    let u = c.self.invariant.under_way in
    let at : IsControlAt i.role i.limits i.assembly i.frame piece h start = at_of i.role i.limits i.assembly i.frame v c.self.view_is piece rest came h start u c.requires.bytes c.requires.at (left_of piece start) came_is in
    let short : h.len ≤ 125 = short_control i.role i.limits i.assembly.opened h at.none at.control in
    let less : length came ≤ h.len = omega (arith, at.came, ap (λ (l : List ℕ). length l) came_is) in
    let left = c.payload_len.result - length came in
    let whole : length came + left ≡ h.len = omega (arith, less, c.payload_len.ensures.value) in
    let enough : left ≤ length rest = omega (arith, c.if-rest-left.false) in
    let payload = came ++ masked_from c.key.result (length came) (take left rest) in
    let put : payload ≡ came ++ masked_from h.key (length came) (take left rest) = ap (λ (k : Option (List ℕ)). came ++ masked_from k (length came) (take left rest)) c.key.ensures.value in
    let size : length payload ≡ h.len = ap (λ (l : List ℕ). length l) put ∙ length-append came (masked_from h.key (length came) (take left rest)) ∙ ap (λ n. length came + n) (length-masked_from h.key (length came) (take left rest) ∙ length-take-le left rest enough) ∙ whole in
    let received = c.in_ok-on_ping-in-Ping.ensures.received in
    let fits : length (open_payload v.opened) ≤ v.limits.max_message = subst (λ (w : ReceiverValue). length (open_payload w.opened) ≤ w.limits.max_message) c.self.view_is c.self.invariant.sound.size in
    omega (arith, size, short, fits, ap (λ (t : Option Event). length (payload_in t)) c.tell_ping.ensures, ap (λ (m : Option Message). length (open_payload m)) received.opened_is, ap (λ (l : List ℕ). length l) received.partial, ap (λ (l : LimitsValue). l.max_message) received.limits)

pub returns-in-Pong-clause-takes : goal.returns-in-Pong-clause-takes
returns-in-Pong-clause-takes c =
    let i = c.self.inside in
    let v = c.args.self.now in
    let piece = c.args.piece.now in
    let h = c.args.header.now in
    let start = c.args.start in
    let rest = take (length piece - start) (drop start piece) in
    let came = c.control_payload-before.result.now in
    let came_is = c.control_payload-before.ensures.bytes in
    let u = c.self.invariant.under_way in
    let at : IsControlAt i.role i.limits i.assembly i.frame piece h start = at_of i.role i.limits i.assembly i.frame v c.self.view_is piece rest came h start u c.requires.bytes c.requires.at (left_of piece start) came_is in
    let short : h.len ≤ 125 = short_control i.role i.limits i.assembly.opened h at.none at.control in
    let less : length came ≤ h.len = omega (arith, at.came, ap (λ (l : List ℕ). length l) came_is) in
    let left = c.payload_len.result - length came in
    let whole : length came + left ≡ h.len = omega (arith, less, c.payload_len.ensures.value) in
    let enough : left ≤ length rest = omega (arith, c.if-rest-left.false) in
    let payload = came ++ masked_from c.key-in-Pong.result (length came) (take left rest) in
    let put : payload ≡ came ++ masked_from h.key (length came) (take left rest) = ap (λ (k : Option (List ℕ)). came ++ masked_from k (length came) (take left rest)) c.key-in-Pong.ensures.value in
    let new = c.on_pong.new.self in
    let e = c.on_pong.ensures in
    let received : HasReceived c.args.replying.now v new c.args.out.now.items c.args.out.now.items (event.Pong payload) v.opened = record { role = e.role; limits = e.limits; opened_is = e.opened; partial = e.partial; put = none_put c.args.replying.now c.args.out.now.items } in
    so_receives c.args.replying.now v new piece c.args.out.now.items c.args.out.now.items (start + left) (event.Pong payload) v.opened c.tell_pong.new.self c.tell_pong.ensures (holds_pong i.role i.limits i.assembly i.frame v c.self.view_is piece rest came h start u c.requires.bytes c.requires.at (left_of piece start) came_is left payload whole enough put c.in-Pong.ensures) received

pub returns-in-Pong-clause-held : goal.returns-in-Pong-clause-held
returns-in-Pong-clause-held c =
    let i = c.self.inside in
    let v = c.args.self.now in
    let piece = c.args.piece.now in
    let h = c.args.header.now in
    let start = c.args.start in
    let rest = take (length piece - start) (drop start piece) in
    let came = c.control_payload-before.result.now in
    let came_is = c.control_payload-before.ensures.bytes in
    let u = c.self.invariant.under_way in
    let at : IsControlAt i.role i.limits i.assembly i.frame piece h start = at_of i.role i.limits i.assembly i.frame v c.self.view_is piece rest came h start u c.requires.bytes c.requires.at (left_of piece start) came_is in
    let short : h.len ≤ 125 = short_control i.role i.limits i.assembly.opened h at.none at.control in
    let less : length came ≤ h.len = omega (arith, at.came, ap (λ (l : List ℕ). length l) came_is) in
    let left = c.payload_len.result - length came in
    let whole : length came + left ≡ h.len = omega (arith, less, c.payload_len.ensures.value) in
    let enough : left ≤ length rest = omega (arith, c.if-rest-left.false) in
    let payload = came ++ masked_from c.key-in-Pong.result (length came) (take left rest) in
    let put : payload ≡ came ++ masked_from h.key (length came) (take left rest) = ap (λ (k : Option (List ℕ)). came ++ masked_from k (length came) (take left rest)) c.key-in-Pong.ensures.value in
    let size : length payload ≡ h.len = ap (λ (l : List ℕ). length l) put ∙ length-append came (masked_from h.key (length came) (take left rest)) ∙ ap (λ n. length came + n) (length-masked_from h.key (length came) (take left rest) ∙ length-take-le left rest enough) ∙ whole in
    let e = c.on_pong.ensures in
    let fits : length (open_payload v.opened) ≤ v.limits.max_message = subst (λ (w : ReceiverValue). length (open_payload w.opened) ≤ w.limits.max_message) c.self.view_is c.self.invariant.sound.size in
    omega (arith, size, short, fits, ap (λ (t : Option Event). length (payload_in t)) c.tell_pong.ensures, ap (λ (m : Option Message). length (open_payload m)) e.opened, ap (λ (l : List ℕ). length l) e.partial, ap (λ (l : LimitsValue). l.max_message) e.limits)

pub read_close-requires-clause-whole : goal.read_close-requires-clause-whole
read_close-requires-clause-whole c =
    let i = c.self.inside in
    let v = c.args.self.now in
    let piece = c.args.piece.now in
    let h = c.args.header.now in
    let start = c.args.start in
    let rest = take (length piece - start) (drop start piece) in
    let came = c.control_payload-before.result.now in
    let came_is = c.control_payload-before.ensures.bytes in
    let u = c.self.invariant.under_way in
    let at : IsControlAt i.role i.limits i.assembly i.frame piece h start = at_of i.role i.limits i.assembly i.frame v c.self.view_is piece rest came h start u c.requires.bytes c.requires.at (left_of piece start) came_is in
    let short : h.len ≤ 125 = short_control i.role i.limits i.assembly.opened h at.none at.control in
    let less : length came ≤ h.len = omega (arith, at.came, ap (λ (l : List ℕ). length l) came_is) in
    let left = c.payload_len.result - length came in
    let whole : length came + left ≡ h.len = omega (arith, less, c.payload_len.ensures.value) in
    let enough : left ≤ length rest = omega (arith, c.if-rest-left.false) in
    omega (arith, whole, length-take-le left rest enough)

pub read_close-requires-clause-short : goal.read_close-requires-clause-short
read_close-requires-clause-short c =
    let i = c.self.inside in
    let v = c.args.self.now in
    let piece = c.args.piece.now in
    let h = c.args.header.now in
    let start = c.args.start in
    let rest = take (length piece - start) (drop start piece) in
    let came = c.control_payload-before.result.now in
    let came_is = c.control_payload-before.ensures.bytes in
    let u = c.self.invariant.under_way in
    let at : IsControlAt i.role i.limits i.assembly i.frame piece h start = at_of i.role i.limits i.assembly i.frame v c.self.view_is piece rest came h start u c.requires.bytes c.requires.at (left_of piece start) came_is in
    let short : h.len ≤ 125 = short_control i.role i.limits i.assembly.opened h at.none at.control in
    let less : length came ≤ h.len = omega (arith, at.came, ap (λ (l : List ℕ). length l) came_is) in
    short

pub returns-in_ok-on_close-in-Ok-clause-takes : goal.returns-in_ok-on_close-in-Ok-clause-takes
returns-in_ok-on_close-in-Ok-clause-takes c =
    let i = c.self.inside in
    let v = c.args.self.now in
    let piece = c.args.piece.now in
    let h = c.args.header.now in
    let start = c.args.start in
    let rest = take (length piece - start) (drop start piece) in
    let came = c.control_payload-before.result.now in
    let came_is = c.control_payload-before.ensures.bytes in
    let u = c.self.invariant.under_way in
    let at : IsControlAt i.role i.limits i.assembly i.frame piece h start = at_of i.role i.limits i.assembly i.frame v c.self.view_is piece rest came h start u c.requires.bytes c.requires.at (left_of piece start) came_is in
    let short : h.len ≤ 125 = short_control i.role i.limits i.assembly.opened h at.none at.control in
    let less : length came ≤ h.len = omega (arith, at.came, ap (λ (l : List ℕ). length l) came_is) in
    let left = c.payload_len.result - length came in
    let whole : length came + left ≡ h.len = omega (arith, less, c.payload_len.ensures.value) in
    let enough : left ≤ length rest = omega (arith, c.if-rest-left.false) in
    let payload = came ++ masked_from h.key (length came) (take left rest) in
    let put : payload ≡ came ++ masked_from h.key (length came) (take left rest) = refl in
    so_receives c.args.replying.now v c.on_close.new.self piece c.args.out.now.items c.on_close.new.out.items (start + left) (event.Close c.in-Ok.close) None c.tell_close.new.self c.tell_close.ensures (holds_close i.role i.limits i.assembly i.frame v c.self.view_is piece rest came h start u c.requires.bytes c.requires.at (left_of piece start) came_is left payload whole enough put c.in-Ok.close c.in-Close.ensures (c.in-Ok.ensures i.assembly.opened payload refl)) c.in_ok-on_close-in-Ok.ensures.received

pub returns-in_err-on_close-in-Ok-clause-wants : goal.returns-in_err-on_close-in-Ok-clause-wants
returns-in_err-on_close-in-Ok-clause-wants c =
    let i = c.self.inside in
    let v = c.args.self.now in
    let piece = c.args.piece.now in
    let h = c.args.header.now in
    let start = c.args.start in
    let rest = take (length piece - start) (drop start piece) in
    let came = c.control_payload-before.result.now in
    let came_is = c.control_payload-before.ensures.bytes in
    let u = c.self.invariant.under_way in
    let at : IsControlAt i.role i.limits i.assembly i.frame piece h start = at_of i.role i.limits i.assembly i.frame v c.self.view_is piece rest came h start u c.requires.bytes c.requires.at (left_of piece start) came_is in
    let short : h.len ≤ 125 = short_control i.role i.limits i.assembly.opened h at.none at.control in
    let less : length came ≤ h.len = omega (arith, at.came, ap (λ (l : List ℕ). length l) came_is) in
    let left = c.payload_len.result - length came in
    let whole : length came + left ≡ h.len = omega (arith, less, c.payload_len.ensures.value) in
    let enough : left ≤ length rest = omega (arith, c.if-rest-left.false) in
    let payload = came ++ masked_from h.key (length came) (take left rest) in
    let put : payload ≡ came ++ masked_from h.key (length came) (take left rest) = refl in
    on_err c.from_residual-in_err-on_close-in-Ok.result (WantsRoom (IsOwed c.args.replying.now) v piece) (inr (start + left, event.Close c.in-Ok.close, None, holds_close i.role i.limits i.assembly i.frame v c.self.view_is piece rest came h start u c.requires.bytes c.requires.at (left_of piece start) came_is left payload whole enough put c.in-Ok.close c.in-Close.ensures (c.in-Ok.ensures i.assembly.opened payload refl), c.in_err-on_close-in-Ok.ensures.owed))

pub returns-in_ok-on_fault-in-Err-clause-takes : goal.returns-in_ok-on_fault-in-Err-clause-takes
returns-in_ok-on_fault-in-Err-clause-takes c =
    let i = c.self.inside in
    let v = c.args.self.now in
    let piece = c.args.piece.now in
    let h = c.args.header.now in
    let start = c.args.start in
    let rest = take (length piece - start) (drop start piece) in
    let came = c.control_payload-before.result.now in
    let came_is = c.control_payload-before.ensures.bytes in
    let u = c.self.invariant.under_way in
    let at : IsControlAt i.role i.limits i.assembly i.frame piece h start = at_of i.role i.limits i.assembly i.frame v c.self.view_is piece rest came h start u c.requires.bytes c.requires.at (left_of piece start) came_is in
    let short : h.len ≤ 125 = short_control i.role i.limits i.assembly.opened h at.none at.control in
    let less : length came ≤ h.len = omega (arith, at.came, ap (λ (l : List ℕ). length l) came_is) in
    let left = c.payload_len.result - length came in
    let whole : length came + left ≡ h.len = omega (arith, less, c.payload_len.ensures.value) in
    let enough : left ≤ length rest = omega (arith, c.if-rest-left.false) in
    let payload = came ++ masked_from h.key (length came) (take left rest) in
    let put : payload ≡ came ++ masked_from h.key (length came) (take left rest) = refl in
    so_receives c.args.replying.now v c.on_fault.new.self piece c.args.out.now.items c.on_fault.new.out.items (start + left) (event.Failed c.in-Err.reason) None c.tell_fault.new.self c.tell_fault.ensures (holds_wrong i.role i.limits i.assembly i.frame v c.self.view_is piece rest came h start u c.requires.bytes c.requires.at (left_of piece start) came_is left payload whole enough put c.in-Err.reason (c.in-Err.ensures i.assembly.opened payload refl)) c.in_ok-on_fault-in-Err.ensures.received

pub returns-in_err-on_fault-in-Err-clause-wants : goal.returns-in_err-on_fault-in-Err-clause-wants
returns-in_err-on_fault-in-Err-clause-wants c =
    let i = c.self.inside in
    let v = c.args.self.now in
    let piece = c.args.piece.now in
    let h = c.args.header.now in
    let start = c.args.start in
    let rest = take (length piece - start) (drop start piece) in
    let came = c.control_payload-before.result.now in
    let came_is = c.control_payload-before.ensures.bytes in
    let u = c.self.invariant.under_way in
    let at : IsControlAt i.role i.limits i.assembly i.frame piece h start = at_of i.role i.limits i.assembly i.frame v c.self.view_is piece rest came h start u c.requires.bytes c.requires.at (left_of piece start) came_is in
    let short : h.len ≤ 125 = short_control i.role i.limits i.assembly.opened h at.none at.control in
    let less : length came ≤ h.len = omega (arith, at.came, ap (λ (l : List ℕ). length l) came_is) in
    let left = c.payload_len.result - length came in
    let whole : length came + left ≡ h.len = omega (arith, less, c.payload_len.ensures.value) in
    let enough : left ≤ length rest = omega (arith, c.if-rest-left.false) in
    let payload = came ++ masked_from h.key (length came) (take left rest) in
    let put : payload ≡ came ++ masked_from h.key (length came) (take left rest) = refl in
    on_err c.from_residual-in_err-on_fault-in-Err.result (WantsRoom (IsOwed c.args.replying.now) v piece) (inr (start + left, event.Failed c.in-Err.reason, None, holds_wrong i.role i.limits i.assembly i.frame v c.self.view_is piece rest came h start u c.requires.bytes c.requires.at (left_of piece start) came_is left payload whole enough put c.in-Err.reason (c.in-Err.ensures i.assembly.opened payload refl), c.in_err-on_fault-in-Err.ensures.owed))

pub invariant_of-self : goal.invariant_of-self
invariant_of-self c =
    let i = c.self.inside in
    let v = c.args.self.now in
    let piece = c.args.piece.now in
    let h = c.args.header.now in
    let start = c.args.start in
    let rest = take (length piece - start) (drop start piece) in
    let came = c.control_payload-before.result.now in
    let came_is = c.control_payload-before.ensures.bytes in
    let u = c.self.invariant.under_way in
    let at : IsControlAt i.role i.limits i.assembly i.frame piece h start = at_of i.role i.limits i.assembly i.frame v c.self.view_is piece rest came h start u c.requires.bytes c.requires.at (left_of piece start) came_is in
    let short : h.len ≤ 125 = short_control i.role i.limits i.assembly.opened h at.none at.control in
    let less : length came ≤ h.len = omega (arith, at.came, ap (λ (l : List ℕ). length l) came_is) in
    let payload = control_payload_of i.frame ++ masked_from h.key (length (control_payload_of i.frame)) rest in
    let before : length (control_payload_of i.frame) ≡ length came = ap (λ (l : List ℕ). length l) (sym came_is) in
    let is = part_check i.role i.limits i.assembly i.frame piece rest (control_payload_of i.frame) h start u (bytes_of i.role i.limits i.assembly i.frame v c.self.view_is piece rest came h start u c.requires.bytes c.requires.at (left_of piece start) came_is) at (left_of piece start) refl payload refl (omega (arith, before, c.if-rest-left.true, less, c.payload_len.ensures.value)) in
    let sound = c.self.invariant.sound in
    subst (λ (f : UnderWay). IsReceiving i.role i.limits i.assembly f) (sym c.go_on_control.ensures) (need_receives i.role i.limits i.assembly i.assembly (length (partial_of i.assembly i.frame)) (partial_of i.assembly i.frame ++ piece) (under_way.Control h payload) i.assembly.text refl sound.limit sound.size sound.room is)

pub returns-then-rest-left-clause-sound : goal.returns-then-rest-left-clause-sound
returns-then-rest-left-clause-sound c =
    let i = c.self.inside in
    let v = c.args.self.now in
    let piece = c.args.piece.now in
    let h = c.args.header.now in
    let start = c.args.start in
    let rest = take (length piece - start) (drop start piece) in
    let came = c.control_payload-before.result.now in
    let came_is = c.control_payload-before.ensures.bytes in
    let u = c.self.invariant.under_way in
    let at : IsControlAt i.role i.limits i.assembly i.frame piece h start = at_of i.role i.limits i.assembly i.frame v c.self.view_is piece rest came h start u c.requires.bytes c.requires.at (left_of piece start) came_is in
    let short : h.len ≤ 125 = short_control i.role i.limits i.assembly.opened h at.none at.control in
    let less : length came ≤ h.len = omega (arith, at.came, ap (λ (l : List ℕ). length l) came_is) in
    let payload = control_payload_of i.frame ++ masked_from h.key (length (control_payload_of i.frame)) rest in
    let before : length (control_payload_of i.frame) ≡ length came = ap (λ (l : List ℕ). length l) (sym came_is) in
    let is = part_check i.role i.limits i.assembly i.frame piece rest (control_payload_of i.frame) h start u (bytes_of i.role i.limits i.assembly i.frame v c.self.view_is piece rest came h start u c.requires.bytes c.requires.at (left_of piece start) came_is) at (left_of piece start) refl payload refl (omega (arith, before, c.if-rest-left.true, less, c.payload_len.ensures.value)) in
    let sound = c.self.invariant.sound in
    subst (λ (f : UnderWay). IsSoundReceiver (receiver_of i.role i.limits i.assembly f)) (sym c.go_on_control.ensures) (let receives = need_receives i.role i.limits i.assembly i.assembly (length (partial_of i.assembly i.frame)) (partial_of i.assembly i.frame ++ piece) (under_way.Control h payload) i.assembly.text refl sound.limit sound.size sound.room is in receives.sound)

pub returns-then-rest-left-clause-takes : goal.returns-then-rest-left-clause-takes
returns-then-rest-left-clause-takes c =
    let i = c.self.inside in
    let v = c.args.self.now in
    let piece = c.args.piece.now in
    let h = c.args.header.now in
    let start = c.args.start in
    let rest = take (length piece - start) (drop start piece) in
    let came = c.control_payload-before.result.now in
    let came_is = c.control_payload-before.ensures.bytes in
    let u = c.self.invariant.under_way in
    let at : IsControlAt i.role i.limits i.assembly i.frame piece h start = at_of i.role i.limits i.assembly i.frame v c.self.view_is piece rest came h start u c.requires.bytes c.requires.at (left_of piece start) came_is in
    let short : h.len ≤ 125 = short_control i.role i.limits i.assembly.opened h at.none at.control in
    let less : length came ≤ h.len = omega (arith, at.came, ap (λ (l : List ℕ). length l) came_is) in
    let payload = control_payload_of i.frame ++ masked_from h.key (length (control_payload_of i.frame)) rest in
    let before : length (control_payload_of i.frame) ≡ length came = ap (λ (l : List ℕ). length l) (sym came_is) in
    let is = part_check i.role i.limits i.assembly i.frame piece rest (control_payload_of i.frame) h start u (bytes_of i.role i.limits i.assembly i.frame v c.self.view_is piece rest came h start u c.requires.bytes c.requires.at (left_of piece start) came_is) at (left_of piece start) refl payload refl (omega (arith, before, c.if-rest-left.true, less, c.payload_len.ensures.value)) in
    let sound = c.self.invariant.sound in
    let o : ReceiverValue = receiver_of i.role i.limits i.assembly i.frame in
    let partial : partial_of i.assembly c.go_on_control.new.self ≡ o.partial_frame ++ piece = ap (λ (f : UnderWay). partial_of i.assembly f) c.go_on_control.ensures ∙ is.2 in
    subst (λ (t : Option Event). Receives c.args.replying.now v (receiver_of i.role i.limits i.assembly c.go_on_control.new.self) piece c.args.out.now.items c.args.out.now.items (record { used = length piece; event = t })) (sym c.requires.nothing)
    (refl, goes_on o v c.self.view_is piece (receiver_of i.role i.limits i.assembly c.go_on_control.new.self) is.0 refl partial, refl)

pub returns-then-rest-left-clause-held : goal.returns-then-rest-left-clause-held
returns-then-rest-left-clause-held c =
    let i = c.self.inside in
    let v = c.args.self.now in
    let piece = c.args.piece.now in
    let h = c.args.header.now in
    let start = c.args.start in
    let rest = take (length piece - start) (drop start piece) in
    let came = c.control_payload-before.result.now in
    let came_is = c.control_payload-before.ensures.bytes in
    let u = c.self.invariant.under_way in
    let at : IsControlAt i.role i.limits i.assembly i.frame piece h start = at_of i.role i.limits i.assembly i.frame v c.self.view_is piece rest came h start u c.requires.bytes c.requires.at (left_of piece start) came_is in
    let short : h.len ≤ 125 = short_control i.role i.limits i.assembly.opened h at.none at.control in
    let less : length came ≤ h.len = omega (arith, at.came, ap (λ (l : List ℕ). length l) came_is) in
    let payload = control_payload_of i.frame ++ masked_from h.key (length (control_payload_of i.frame)) rest in
    let before : length (control_payload_of i.frame) ≡ length came = ap (λ (l : List ℕ). length l) (sym came_is) in
    let is = part_check i.role i.limits i.assembly i.frame piece rest (control_payload_of i.frame) h start u (bytes_of i.role i.limits i.assembly i.frame v c.self.view_is piece rest came h start u c.requires.bytes c.requires.at (left_of piece start) came_is) at (left_of piece start) refl payload refl (omega (arith, before, c.if-rest-left.true, less, c.payload_len.ensures.value)) in
    let sound = c.self.invariant.sound in
    let after : IsSoundReceiver (receiver_of i.role i.limits i.assembly c.go_on_control.new.self) = subst (λ (f : UnderWay). IsSoundReceiver (receiver_of i.role i.limits i.assembly f)) (sym c.go_on_control.ensures) (let receives = need_receives i.role i.limits i.assembly i.assembly (length (partial_of i.assembly i.frame)) (partial_of i.assembly i.frame ++ piece) (under_way.Control h payload) i.assembly.text refl sound.limit sound.size sound.room is in receives.sound) in
    omega (arith, after.held, ap (λ (t : Option Event). length (payload_in t)) c.requires.nothing)
