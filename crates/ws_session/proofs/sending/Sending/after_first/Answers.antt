-- The first frame of a text or of a binary message: what is kept once it is sent, or the first reason why it isn't.
use Rattle.std.proofs.Common.{[], refl}
use Rattle.ws_session.specs.declared.message.Kind.TheVariants.{Text, Binary}
use Rattle.ws_session.proofs.DataSends.{begun_checked}
use Rattle.ws_session.proofs.sending.Sending.after_first.Goals as goal

pub returns-in-Text-clause-checked : goal.returns-in-Text-clause-checked
returns-in-Text-clause-checked c = λ opened is.
    begun_checked _ c.args.kind Text c.args.payload.now c.args.fin c.self.inside.open c.args.self.now opened c.in-Text.is c.if-is_some.ensures c.self.view_is is (c.after_text.ensures.checked (record { kind = Text; payload = [] }) refl refl c.new.ensures)

pub returns-in-Binary-clause-checked : goal.returns-in-Binary-clause-checked
returns-in-Binary-clause-checked c = λ opened is.
    begun_checked _ c.args.kind Binary c.args.payload.now c.args.fin c.self.inside.open c.args.self.now opened c.in-Binary.is c.if-is_some.ensures c.self.view_is is (c.after_binary.ensures.checked (record { kind = Binary; payload = [] }) refl refl)
