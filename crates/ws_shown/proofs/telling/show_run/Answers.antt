-- What a run has to record is shown.
use Rattle.std.proofs.Common.{◌≡◌, ◌∙◌, ◌++◌, ◌∷◌, List, [], true, length, sym, rules, subst}
use Rattle.ws_scripts.specs.declared.transcript.Turn.{Turn}
use Rattle.ws_tester.specs.RunStates.{wanted_in}
use Rattle.ws_shown.specs.LineRooms.{LinesGoOn}
use Rattle.ws_shown.specs.ShownTesters.{ShowsPast}
use Rattle.ws_shown.specs.TurnsTold.{IsPartOf, IsToldSoFar}
use Rattle.ws_shown.proofs.ShowingLemmas.{empty_is, not_empty, of_parts, run_sent, run_unsent, so_far}
use Rattle.ws_shown.proofs.telling.show_run.Goals as goal

pub returns-in_ok-show_turn-clause-shows : goal.returns-in_ok-show_turn-clause-shows
returns-in_ok-show_turn-clause-shows c = λ turns h.
    let x = c.args.tester.now.run in
    let old = c.args.told.now in
    let mid = c.show_past.new.told in
    let begun : x.begun ≡ true = search rules in
    let past : ShowsPast mid c.past.result.now x.turn turns c.args.room.now c.show_past.new.room =
    c.in_ok-show_past.ensures.shows x.turn turns
    (subst (λ (l : List Turn). IsToldSoFar old l x.turn turns) (sym c.past.ensures) (so_far old x turns h)) in
    let behind : ShowsPast mid x.past x.turn turns c.args.room.now c.show_past.new.room =
    subst (λ (l : List Turn). ShowsPast mid l x.turn turns c.args.room.now c.show_past.new.room)
    c.past.ensures past in
    let none : (wanted_in x).write ≡ [] =
    sym c.to_write.ensures ∙ empty_is c.to_write.result.now (sym c.is_empty.ensures ∙ c.if-is_empty.true) in
    let same : record { sent = c.sent.result.now; got = c.got.result.now } ≡ x.turn =
    of_parts x.turn c.sent.result.now c.got.result.now c.sent.ensures c.got.ensures in
    run_sent x old mid c.show_turn.new.told turns c.args.room.now c.show_past.new.room c.show_turn.new.room begun none
    behind
    (subst (λ (t : Turn). (before part : List Turn) → IsPartOf mid.is_sent mid.got t part
    → LinesGoOn (before ++ part) (before ++ t ∷ []) c.show_past.new.room c.show_turn.new.room) same
    (λ before part is. c.in_ok-show_turn.ensures.shows before part is))
    (subst (λ (t : Turn). (part : List Turn) → IsPartOf mid.is_sent mid.got t part → c.show_turn.new.told
    ≡ record { whole = mid.whole; is_sent = true; got = length t.got }) same
    (λ part is. c.in_ok-show_turn.ensures.told part is))

pub returns-else-is_empty-clause-shows : goal.returns-else-is_empty-clause-shows
returns-else-is_empty-clause-shows c = λ turns h.
    let x = c.args.tester.now.run in
    let old = c.args.told.now in
    let mid = c.show_past.new.told in
    let begun : x.begun ≡ true = search rules in
    let past : ShowsPast mid c.past.result.now x.turn turns c.args.room.now c.show_past.new.room =
    c.in_ok-show_past.ensures.shows x.turn turns
    (subst (λ (l : List Turn). IsToldSoFar old l x.turn turns) (sym c.past.ensures) (so_far old x turns h)) in
    let behind : ShowsPast mid x.past x.turn turns c.args.room.now c.show_past.new.room =
    subst (λ (l : List Turn). ShowsPast mid l x.turn turns c.args.room.now c.show_past.new.room)
    c.past.ensures past in
    run_unsent x old mid turns c.args.room.now c.show_past.new.room begun
    (λ none. not_empty c.to_write.result.now (sym c.is_empty.ensures ∙ c.if-is_empty.false) (c.to_write.ensures ∙ none))
    h c.in_ok-show_past.ensures.same behind
