-- The next frame of an open text: what is kept once it is sent, or the first reason why it isn't.
use Rattle.std.proofs.Common.{rules, ◌≡◌, Some}
use Rattle.ws_session.specs.declared.sending.SentSoFar.TheVariants as so_far
use Rattle.ws_session.specs.InnerSending.{sending_of, HasReadSome}
use Rattle.ws_session.proofs.DataSends.{text_checked}
use Rattle.ws_session.proofs.sending.Sending.after_next.Goals as goal

pub returns-in-Some-Text-clause-checked : goal.returns-in-Some-Text-clause-checked
returns-in-Some-Text-clause-checked c = λ opened is.
    let view : sending_of (Some (so_far.Text c.in-Some-Text.size c.in-Some-Text.text)) ≡ c.args.self.now = search rules in
    let some : HasReadSome c.in-Some-Text.text = search rules in
    text_checked _ c.in-Some-Text.size c.in-Some-Text.text c.args.payload.now c.args.fin c.args.self.now opened view is some c.after_text.ensures.checked
