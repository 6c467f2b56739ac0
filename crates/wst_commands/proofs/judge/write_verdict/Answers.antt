-- Without an explanation only the verdict's line is written.
use Rattle.std.proofs.Common.{ap, subst, sym, Bool, Option, Some, None, if◌then◌else◌}
use Rattle.std.proofs.lemmas.Bool.{not-true}
use Rattle.ws_frame.specs.Devices.{watched}
use Rattle.ws_frame.specs.declared.source.DataStyle.{DataStyle}
use Rattle.wst_commands.specs.Judge.{TellsVerdictWith}
use Rattle.wst_commands.proofs.judge.write_verdict.Goals as goal

pub returns-then-not-options : goal.returns-then-not-options
returns-then-not-options g c =
    let options = c.args.options in
    subst (λ (explains : Option DataStyle). TellsVerdictWith explains options.role options.expect c.args.transcript.now
    c.tell_plain.result (watched g.W.Write.contents c.args.writer.now c.tell_plain.new.writer))
    (ap (λ (explain : Bool). if explain then Some options.style else None) (sym (not-true options.explain c.if-not-options.true)))
    c.tell_plain.ensures
