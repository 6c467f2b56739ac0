-- A host is ASCII, so bytes that are no UTF-8 are no host.
use Rattle.std.proofs.lemmas.Str.{IsUtf8-from_ascii}
use Rattle.ws_targets.proofs.Reading.{host_is_ascii}
use Rattle.ws_targets.proofs.target.host_text.Goals as goal

pub returns-in-Err : goal.returns-in-Err
returns-in-Err c = λ h.
    absurd (c.in-Err.ensures.cases.0 (IsUtf8-from_ascii c.args.host.now (host_is_ascii c.args.host.now h)))
