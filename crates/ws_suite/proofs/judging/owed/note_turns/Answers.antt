-- One pong more: its turn is noted.
use Rattle.std.proofs.Common.{◌≡◌, ◌∙◌, ◌++◌, ◌∷◌, [], ℕ, List, ap, refl, sym, subst, rules, append_assoc, append-nil}
use Rattle.ws_suite.specs.declared.evidence.InTurn.{InTurn}
use Rattle.ws_suite.specs.declared.evidence.Reply.{Reply}
use Rattle.ws_suite.specs.InnerMarks.{AreLastTurns}
use Rattle.ws_suite.specs.InnerNoted.{IsNotedIn}
use Rattle.ws_suite.specs.Kept.{reply_in}
use Rattle.ws_suite.specs.Matching.{payload_of}
use Rattle.ws_suite.proofs.KeptLemmas.{payload_kept}
use Rattle.ws_suite.proofs.LastTurns.{turns_more}
use Rattle.ws_suite.proofs.NotedLemmas.{still_asked}
use Rattle.ws_suite.proofs.judging.owed.note_turns.Goals as goal

pub loop-pong-init : goal.loop-pong-init
loop-pong-init c = (
  [],
  refl,
  λ gots h. subst (λ (l : List (InTurn Reply)). AreLastTurns l c.args.turns.now) (sym (append-nil gots)) h,
  λ pings h. h,
)

pub loop-pong-preserved : goal.loop-pong-preserved
loop-pong-preserved c =
    let i = c.loop-pong.invariant in
    let pong = c.in-Some.pong in
    let first = reply_in pong in
    let old = c.loop-pong.turns in
    let new = c.note.new.self in
    let left : c.loop-pong.left ≡ first ∷ c.next.new.self = search rules in
    let noted : IsNotedIn (payload_of first.what) pong.turn old new =
    subst (λ (payload : List ℕ). IsNotedIn payload pong.turn old new)
    (sym (payload_kept pong.kind pong.payload.now)) c.in_ok-note.ensures in (
      i.0 ++ first ∷ [],
      i.1 ∙ (ap (λ (l : List (InTurn Reply)). i.0 ++ l) left ∙ sym (append_assoc i.0 (first ∷ []) c.next.new.self)),
      λ gots h. subst (λ (l : List (InTurn Reply)). AreLastTurns l new) (append_assoc gots i.0 (first ∷ []))
          (turns_more (gots ++ i.0) first old new (i.2 gots h) noted),
      λ pings h. still_asked (payload_of first.what) pong.turn old new noted pings (i.3 pings h),
    )

pub returns-clause-last : goal.returns-clause-last
returns-clause-last c = λ gots h.
    let i = c.loop-pong.invariant in
    let none : c.loop-pong.left ≡ [] = search rules in
    let all : i.0 ≡ c.args.pongs =
    sym (i.1 ∙ (ap (λ (l : List (InTurn Reply)). i.0 ++ l) none ∙ append-nil i.0)) in
    subst (λ (l : List (InTurn Reply)). AreLastTurns (gots ++ l) c.loop-pong.turns) all (i.2 gots h)
