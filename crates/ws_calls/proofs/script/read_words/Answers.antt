-- Words of whose call or send a part can't be read tell no call.
use Rattle.ws_sends.specs.KeyedSends.{AreSendWords}
use Rattle.ws_calls.specs.Script.{IsEchoCallOf}
use Rattle.ws_calls.proofs.CallWords.{echo_told, fields_in, name_in, send_told}
use Rattle.ws_calls.proofs.PassedUp.{passed_up}
use Rattle.ws_calls.proofs.script.read_words.Goals as goal

pub returns-in_err-call-in-Some : goal.returns-in_err-call-in-Some
returns-in_err-call-in-Some c =
    let words = c.args.words.now in
    passed_up (λ call. IsEchoCallOf c.in-Some.name call (fields_in words)) _ c.from_residual.result c.in_err-call-in-Some.field-0.0 c.from_residual.ensures.1 (c.in_err-call-in-Some.ensures)
    (echo_told c.in-Some.name words c.in-Some.ensures)

pub returns-in_err-send-in-None : goal.returns-in_err-send-in-None
returns-in_err-send-in-None c =
    let words = c.args.words.now in
    passed_up (λ what. AreSendWords what (name_in words) (fields_in words)) _ c.from_residual-in_err-send-in-None.result c.in_err-send-in-None.field-0.0 c.from_residual-in_err-send-in-None.ensures.1 (c.in_err-send-in-None.ensures)
    (send_told words c.in-None.ensures)
