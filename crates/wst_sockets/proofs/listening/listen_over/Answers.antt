-- An address that can't be told is not listened at.
use Rattle.std.proofs.Common.{IsErrAnd, rules}
use Rattle.wst_sockets.specs.Listening.{CanNotTell}
use Rattle.wst_sockets.proofs.PortLemmas.{untold_unheard}
use Rattle.wst_sockets.proofs.listening.listen_over.Goals as goal

pub returns-in_err-told : goal.returns-in_err-told
returns-in_err-told g c =
    let is : IsErrAnd c.from_residual.result CanNotTell = search rules in untold_unheard _ c.from_residual.result is
