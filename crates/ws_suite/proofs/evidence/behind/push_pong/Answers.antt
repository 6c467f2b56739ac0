-- What is kept of the frame is all of its payload.
use Rattle.std.proofs.Common.{◌≡◌, ◌∙◌, ◌++◌, ◌∷◌, [], List, ℕ}
use Rattle.std.proofs.Common.{subst}
use Rattle.std.specs.Prelude.{OnOk}
use Rattle.std.proofs.lemmas.List.{take_all}
use Rattle.ws_suite.specs.declared.evidence.Reply.TheVariants.{Pong}
use Rattle.ws_suite.proofs.evidence.behind.push_pong.Goals as goal

pub returns : goal.returns
returns c = λ x is found short.
    let same : c.as_slice.result.now ≡ x.payload =
    c.as_slice.ensures.bytes ∙ (c.control_payload-room.ensures.payload x is found ∙ take_all 125 x.payload short) in
    subst (λ (l : List ℕ). OnOk c.push.result
    (c.push.new.self ≡ c.args.pongs.now ++ record { turn = c.args.turn; what = Pong l } ∷ [])) same c.push.ensures.ok
