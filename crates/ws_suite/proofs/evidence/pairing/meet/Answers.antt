-- Nobody is met, or the same, or another.
use Rattle.std.proofs.Common.{◌≡◌, ◌∙◌, ◌++◌, ◌∷◌, [], List, ap, drop, refl, subst, sym}
use Rattle.ws_suite.specs.declared.evidence.InTurn.{InTurn}
use Rattle.ws_suite.specs.declared.evidence.Reply.{Reply}
use Rattle.ws_suite.specs.Kept.{reply_in, what_of}
use Rattle.ws_suite.specs.Matching.{bare}
use Rattle.ws_suite.specs.Pairings.{AreLeftOf}
use Rattle.ws_suite.proofs.PairingLemmas.{left_alone, left_other, left_same}
use Rattle.ws_suite.proofs.evidence.pairing.meet.Goals as goal

pub returns-in_ok-push-in-Nobody : goal.returns-in_ok-push-in-Nobody
returns-in_ok-push-in-Nobody c = λ alls all_others h.
    let r = reply_in c.args.reply in
    let mine = c.args.mine.now in
    let others = c.args.others.now in
    subst (λ (l : List (InTurn Reply)). AreLeftOf (alls ++ what_of c.args.reply ∷ []) all_others (bare l) (bare others))
    (sym c.in_ok-push-in-Nobody.ensures.ok)
    (left_alone alls all_others mine others r (what_of c.args.reply) refl h c.in-Nobody.ensures)

pub returns-in-Same : goal.returns-in-Same
returns-in-Same c = λ alls all_others h.
    let mine = c.args.mine.now in
    let others = c.args.others.now in
    let (first, later, there, same) = c.in-Same.ensures in
    let left : c.drop_first.new.self ≡ later =
    c.drop_first.ensures ∙ ap (λ (l : List (InTurn Reply)). drop 1 l) there in
    subst (λ (l : List (InTurn Reply)). AreLeftOf (alls ++ what_of c.args.reply ∷ []) all_others (bare mine) (bare l))
    (sym left)
    (left_same alls all_others mine others (reply_in c.args.reply) (what_of c.args.reply) refl h first later there same)

pub returns-in-Other : goal.returns-in-Other
returns-in-Other c = λ alls all_others h.
    let (first, later, there, other) = c.in-Other.ensures in
    left_other alls all_others c.args.mine.now c.args.others.now (reply_in c.args.reply) (what_of c.args.reply) refl h
    first later there other
