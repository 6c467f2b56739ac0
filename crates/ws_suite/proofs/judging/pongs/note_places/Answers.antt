-- One due pong more: its place is noted.
use Rattle.std.proofs.Common.{◌≡◌, ◌∙◌, ◌++◌, ◌∷◌, [], ℕ, List, ap, refl, sym, subst, rules, append_assoc, append-nil, arith}
use Rattle.std.proofs.lemmas.List.{length-append}
use Rattle.ws_suite.specs.declared.evidence.InTurn.{InTurn}
use Rattle.ws_suite.specs.declared.evidence.Reply.{Reply}
use Rattle.ws_suite.specs.InnerJudging.{AreLastPlaces}
use Rattle.ws_suite.specs.InnerNoted.{IsNotedIn}
use Rattle.ws_suite.specs.Kept.{reply_in}
use Rattle.ws_suite.specs.Matching.{payload_of}
use Rattle.ws_suite.proofs.KeptLemmas.{payload_kept}
use Rattle.ws_suite.proofs.PlaceLemmas.{no_places, places_more}
use Rattle.ws_suite.proofs.judging.pongs.note_places.Goals as goal

pub loop-pong-init : goal.loop-pong-init
loop-pong-init c = ([], refl, refl, no_places c.args.places.now)

pub loop-pong-preserved : goal.loop-pong-preserved
loop-pong-preserved c =
    let i = c.loop-pong.invariant in
    let pong = c.in-Some.pong in
    let first = reply_in pong in
    let old = c.loop-pong.places in
    let new = c.note.new.self in
    let left : c.loop-pong.left ≡ first ∷ c.next.new.self = search rules in
    let noted : IsNotedIn (payload_of first.what) c.loop-pong.place old new =
    subst (λ (payload : List ℕ). IsNotedIn payload c.loop-pong.place old new)
    (sym (payload_kept pong.kind pong.payload.now)) c.in_ok-note.ensures in (
      i.0 ++ first ∷ [],
      i.1 ∙ (ap (λ (l : List (InTurn Reply)). i.0 ++ l) left ∙ sym (append_assoc i.0 (first ∷ []) c.next.new.self)),
      omega (arith, i.2, length-append i.0 (first ∷ [])),
      places_more i.0 first old new i.3
          (subst (λ (n : ℕ). IsNotedIn (payload_of first.what) n old new) (sym i.2) noted),
    )

pub returns : goal.returns
returns c =
    let i = c.loop-pong.invariant in
    let none : c.loop-pong.left ≡ [] = search rules in
    let all : i.0 ≡ c.args.due =
    sym (i.1 ∙ (ap (λ (l : List (InTurn Reply)). i.0 ++ l) none ∙ append-nil i.0)) in
    subst (λ (l : List (InTurn Reply)). AreLastPlaces l c.loop-pong.places) all i.3
