-- The fronts are taken one after the other, and each event is noted.
use Rattle.std.proofs.Common.{◌≡◌, ◌∙◌, ◌-◌, ◌||◌, ◌≤◌, ◌++◌, ◌∷◌, [], Bool, ℕ, List, ap, ap₂}
use Rattle.std.proofs.Common.{sym, subst, refl, arith, rules, length, take, drop, append_assoc, append-nil}
use Rattle.std.proofs.lemmas.List.{length-drop, take-append-drop, take-append-le, take_all}
use Rattle.std.specs.Prelude.{option_to_list}
use Rattle.ws_session.specs.declared.event.Event.{Event}
use Rattle.ws_session.specs.Lent.{event_if_any}
use Rattle.ws_suite.specs.InnerCollecting.{HasTakenWay}
use Rattle.ws_suite.specs.InnerProgress.{TellsAdded, noted_pings, notes_progress}
use Rattle.ws_suite.proofs.ProgressLemmas.{noted_more, noted_none, notes_more, notes_none, or_other, tells_more}
use Rattle.ws_suite.proofs.ProgressLemmas.{tells_none}
use Rattle.ws_suite.proofs.evidence.watching.take_watched_part.Goals as goal

pub loop-rest-init : goal.loop-rest-init
loop-rest-init g c = (
  [],
  refl,
  λ handed role turns last number h. subst (λ (l : List ℕ). HasTakenWay (g.K.KeepsReplies.keeps handed) c.args.way role
      (turns ++ l ∷ []) c.args.taken.now.session c.args.taken.now.collected) (sym (append-nil last)) h,
  (
    [],
    tells_none c.args.taken.now.session,
    sym (noted_none c.args.way c.args.pings.now),
    sym (notes_none c.args.way c.args.pings.now),
  ),
  λ over. refl,
)

pub loop-rest-preserved : goal.loop-rest-preserved
loop-rest-preserved g c =
    let rest = c.loop-rest.rest.now in
    let front = c.in_ok-front.front in
    let used = front.used in
    let part = take used rest in
    let after = take (length rest - used) (drop used rest) in
    let all : after ≡ drop used rest =
    take_all (length rest - used) (drop used rest) (omega (arith, length-drop used rest)) in
    let split : rest ≡ part ++ after = sym (take-append-drop used rest) ∙ ap (λ (l : List ℕ). part ++ l) (sym all) in
    let h = c.in_ok-front.ensures in
    let i = c.loop-rest.invariant in
    let later = i.3.0 in
    let more : List Event = option_to_list (event_if_any front.event c.payload.result.now) in
    let way = c.args.way in
    let pings = c.args.pings.now in (
      i.0 ++ part,
      i.1 ∙ (ap (λ (l : List ℕ). i.0 ++ l) split ∙ sym (append_assoc i.0 part after)),
      λ handed role turns last number taken.
          subst (λ (l : List ℕ). HasTakenWay (g.K.KeepsReplies.keeps handed) way role (turns ++ l ∷ [])
          c.take_front.new.taken.session c.take_front.new.taken.collected)
          (append_assoc last i.0 part)
          (h.taken c.session_laws.ensures handed role turns (last ++ i.0) number (i.2 handed role turns last number taken)),
      (
        later ++ more,
        tells_more c.args.taken.now.session c.loop-rest.taken.session c.take_front.new.taken.session i.0 part later more
            i.3.1 (subst (λ (l : List ℕ). TellsAdded c.loop-rest.taken.session c.take_front.new.taken.session part
            (option_to_list (event_if_any front.event l))) (sym c.payload.ensures)
            h.told),
        c.in_ok-progress.ensures.pings ∙ ap (λ (p : List (List ℕ)). noted_pings way p more) i.3.2
            ∙ sym (noted_more way pings later more),
        c.in_ok-progress.ensures.progress
            ∙ ap₂ (λ (a b : Bool). a || b) (ap (λ (p : List (List ℕ)). notes_progress way p more) i.3.2) i.3.3
            ∙ or_other (notes_progress way (noted_pings way pings later) more) (notes_progress way pings later)
            ∙ sym (notes_more way pings later more),
      ),
      λ over. search rules,
    )
