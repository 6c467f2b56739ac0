-- What a receiver holds is at most its limit, a header and a control payload.
use Rattle.std.proofs.Common.{◌≡◌, ◌∙◌, ◌+◌, ◌≤◌, length, ap, arith}
use Rattle.ws_session.specs.declared.limits.TheConstants.{MAX_MESSAGE}
use Rattle.ws_session.specs.Limits.{most_beside}
use Rattle.ws_session.specs.Faults.{open_payload}
use Rattle.ws_session.specs.InnerReceiving.{partial_of}
use Rattle.ws_session.specs.InnerReceiver.{ReceiverValue}
use Rattle.ws_session.proofs.Kept.{partial_len}
use Rattle.ws_session.proofs.receiver.Receiver.held.Goals as goal

pub len-requires : goal.len-requires
len-requires c =
    let i = c.self.inside in
    let size = partial_len i.role i.limits i.assembly i.frame c.self.invariant.under_way in
    let sound = c.self.invariant.sound in
    let held : length (open_payload i.assembly.opened) + length (partial_of i.assembly i.frame) ≤ i.limits.max_message + most_beside = sound.held in
    let limit : i.limits.max_message ≤ MAX_MESSAGE = sound.limit in
    omega (arith, size, held, limit)

pub overflow_add-result : goal.overflow_add-result
overflow_add-result c =
    let i = c.self.inside in
    let size = partial_len i.role i.limits i.assembly i.frame c.self.invariant.under_way in
    let sound = c.self.invariant.sound in
    let held : length (open_payload i.assembly.opened) + length (partial_of i.assembly i.frame) ≤ i.limits.max_message + most_beside = sound.held in
    let limit : i.limits.max_message ≤ MAX_MESSAGE = sound.limit in
    omega (arith, size, held, limit, c.open_len.ensures, c.len.ensures)

pub returns-clause-held : goal.returns-clause-held
returns-clause-held c =
    let i = c.self.inside in
    let size = partial_len i.role i.limits i.assembly i.frame c.self.invariant.under_way in
    let all : c.open_len.result + c.len.result ≡ length (open_payload i.assembly.opened) + length (partial_of i.assembly i.frame) = omega (arith, size, c.open_len.ensures, c.len.ensures) in
    all ∙ ap (λ (v : ReceiverValue). length (open_payload v.opened) + length v.partial_frame) c.self.view_is

pub returns-clause-bound : goal.returns-clause-bound
returns-clause-bound c =
    let i = c.self.inside in
    let size = partial_len i.role i.limits i.assembly i.frame c.self.invariant.under_way in
    let sound = c.self.invariant.sound in
    let held : length (open_payload i.assembly.opened) + length (partial_of i.assembly i.frame) ≤ i.limits.max_message + most_beside = sound.held in
    let max : i.limits.max_message ≡ c.args.self.now.limits.max_message = ap (λ (v : ReceiverValue). v.limits.max_message) c.self.view_is in
    omega (arith, size, held, max, c.open_len.ensures, c.len.ensures)
