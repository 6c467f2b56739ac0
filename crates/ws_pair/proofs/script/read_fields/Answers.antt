-- Words of whose send or arrival a part can't be read tell no move.
use Rattle.std.proofs.Common.{◌∙◌, ap, map}
use Rattle.ws_sends.specs.KeyedSends.{AreSendWords}
use Rattle.ws_pair.specs.Script.{move_name_word}
use Rattle.ws_pair.proofs.MoveWords.{arrive_told, send_told}
use Rattle.ws_pair.proofs.PassedUp.{passed_up}
use Rattle.ws_pair.proofs.script.read_fields.Goals as goal

pub returns-in_err-send-in-None : goal.returns-in_err-send-in-None
returns-in_err-send-in-None c =
    let fields = map (λ w. w.now) c.args.fields.now in
    passed_up (λ what. AreSendWords what c.args.name.now fields) _ c.from_residual.result c.in_err-send-in-None.field-0.0 c.from_residual.ensures.1 c.in_err-send-in-None.ensures
    (send_told c.args.side c.args.name.now fields c.in-None.ensures)

pub returns-in-None-read_arrive : goal.returns-in-None-read_arrive
returns-in-None-read_arrive c = λ e found h.
    let fields = map (λ w. w.now) c.args.fields.now in
    c.in-None-read_arrive.ensures found (arrive_told c.args.side c.args.name.now fields (c.in-Some-Arrive.ensures ∙ ap move_name_word c.in-Some-Arrive.field-0-is) found h)
