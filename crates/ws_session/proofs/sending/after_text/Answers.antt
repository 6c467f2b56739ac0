-- One more payload of a text: it is refused where the message gets too long, else it ends the text or leaves it open.
use Rattle.ws_session.proofs.TextSends.{read_behind, too_long, ended, left_open}
use Rattle.ws_session.proofs.sending.after_text.Goals as goal

pub returns-then-payload-size-clause-checked : goal.returns-then-payload-size-clause-checked
returns-then-payload-size-clause-checked c = λ message kind size read.
    let behind = read_behind c.read.result c.args.text c.in-Some.text message c.args.payload.now c.args.fin
    c.in-Some.is c.read.ensures read in
    too_long message c.args.payload.now c.args.fin c.args.size c.in-Some.text size c.requires.size
    c.if-payload-size.true behind

pub returns-then-fin-clause-checked : goal.returns-then-fin-clause-checked
returns-then-fin-clause-checked c = λ message kind size read.
    let behind = read_behind c.read.result c.args.text c.in-Some.text message c.args.payload.now c.args.fin
    c.in-Some.is c.read.ensures read in
    ended message c.args.payload.now c.args.fin c.args.size c.in-Some.text c.new.result size c.requires.size
    c.if-payload-size.false c.if-fin.true c.new.ensures behind

pub returns-clause-checked : goal.returns-clause-checked
returns-clause-checked c = λ message kind size read.
    let behind = read_behind c.read.result c.args.text c.in-Some.text message c.args.payload.now c.args.fin
    c.in-Some.is c.read.ensures read in
    left_open message c.args.payload.now c.args.fin c.args.size c.in-Some.text kind size c.requires.size
    c.if-payload-size.false c.if-fin.false behind
