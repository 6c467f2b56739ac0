-- The parts are taken one after the other, and what each tells is noted.
use Rattle.std.proofs.Common.{◌≡◌, ◌∙◌, ◌-◌, ◌||◌, ◌≤◌, ◌++◌, ◌∷◌, [], Bool, ℕ, List, ap, ap₂}
use Rattle.std.proofs.Common.{sym, subst, refl, arith, rules, length, take, drop, append_assoc, append-nil}
use Rattle.std.proofs.lemmas.List.{length-drop, take-append-drop, take-append-le, take_all}
use Rattle.std.specs.Prelude.{option_to_list}
use Rattle.ws_session.specs.declared.event.Event.{Event}
use Rattle.ws_session.specs.Lent.{event_if_any}
use Rattle.ws_suite.specs.InnerCollecting.{HasTakenWay}
use Rattle.ws_suite.specs.InnerProgress.{TellsAdded, noted_pings, notes_progress}
use Rattle.ws_suite.proofs.ProgressLemmas.{noted_more, noted_none, notes_more, notes_none, or_other, tells_more}
use Rattle.ws_suite.proofs.ProgressLemmas.{tells_none}
use Rattle.ws_suite.proofs.evidence.watching.take_watched.Goals as goal

pub loop-rest-init : goal.loop-rest-init
loop-rest-init g c = (
  [],
  refl,
  λ handed role turns last number h. subst (λ (l : List ℕ). HasTakenWay (g.K.KeepsReplies.keeps handed) c.args.way role
      (turns ++ l ∷ []) c.args.taken.now.session c.args.taken.now.collected) (sym (append-nil last)) h,
  (
    [],
    tells_none c.args.taken.now.session,
    sym (noted_none c.args.way c.args.pings.now),
    sym (notes_none c.args.way c.args.pings.now),
  ),
  λ over. refl,
)

pub loop-rest-preserved : goal.loop-rest-preserved
loop-rest-preserved g c =
    let part = c.cut_part.result.0.now in
    let after = c.cut_part.result.1.now in
    let split : c.loop-rest.rest.now ≡ part ++ after = sym c.cut_part.ensures.whole in
    let h = c.in_ok-has_progress.ensures in
    let i = c.loop-rest.invariant in
    let later = i.3.0 in
    let (more, tells, noted, told) = h.noted in
    let way = c.args.way in
    let pings = c.args.pings.now in (
      i.0 ++ part,
      i.1 ∙ (ap (λ (l : List ℕ). i.0 ++ l) split ∙ sym (append_assoc i.0 part after)),
      λ handed role turns last number taken.
          subst (λ (l : List ℕ). HasTakenWay (g.K.KeepsReplies.keeps handed) way role (turns ++ l ∷ [])
          c.take_watched_part.new.taken.session c.take_watched_part.new.taken.collected)
          (append_assoc last i.0 part)
          (h.taken handed role turns (last ++ i.0) number (i.2 handed role turns last number taken)),
      (
        later ++ more,
        tells_more c.args.taken.now.session c.loop-rest.taken.session c.take_watched_part.new.taken.session i.0 part
            later more i.3.1 tells,
        noted ∙ ap (λ (p : List (List ℕ)). noted_pings way p more) i.3.2 ∙ sym (noted_more way pings later more),
        c.or_before-progress.ensures ∙ ap₂ (λ (a b : Bool). a || b) (told ∙ ap (λ (p : List (List ℕ)). notes_progress way p more) i.3.2) i.3.3
            ∙ or_other (notes_progress way (noted_pings way pings later) more) (notes_progress way pings later)
            ∙ sym (notes_more way pings later more),
      ),
      λ over. search rules,
    )
