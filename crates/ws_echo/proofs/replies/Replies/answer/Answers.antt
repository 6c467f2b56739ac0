-- What an echo replies is put behind the replies that are left.
use Rattle.std.proofs.Common.{◌∙◌, List, ℕ, [], drop, subst}
use Rattle.ws_session.specs.Replies.{echo_reply_to}
use Rattle.ws_session.specs.Taking.{HasTakenAll}
use Rattle.ws_echo.specs.InnerEchoing.{piece_call}
use Rattle.ws_echo.proofs.ReplyLemmas.{behind_left}
use Rattle.ws_echo.proofs.replies.Replies.answer.Goals as goal

pub returns-clause-taken : goal.returns-clause-taken
returns-clause-taken c =
    let closed = c.closed_up-self-inside in
    let (told, taken) = c.in_ok-pass.ensures.taken in
    let put = behind_left c.args.echo.now c.pass.new.self c.args.piece.now c.args.key closed.new.bytes.items
    c.pass.new.out.items closed.result told closed.ensures.within taken in (
      told,
      subst (λ (l : List ℕ). HasTakenAll echo_reply_to c.args.echo.now c.pass.new.self
          (piece_call c.args.piece.now c.args.key l (drop closed.result c.pass.new.out.items)) [] told)
          (closed.ensures.left ∙ c.self.view_is) put,
    )
