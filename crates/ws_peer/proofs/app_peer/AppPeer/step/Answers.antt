-- A step takes as much as the plan says, answers it, and sends frames of its own: one call more in the peer's talk.
use Rattle.std.proofs.Common.{◌≡◌, ◌∙◌, ℕ, ◌+◌, ◌-◌, ◌<◌, ◌≤◌, min, List, [], ◌∷◌, ◌++◌, length, get_or, take, drop, ap, sym, refl, subst, rules, arith}
use Rattle.std.proofs.lemmas.List.{length-drop, take_all}
use Rattle.ws_session.specs.Replies.{reply_to}
use Rattle.ws_session.specs.Taking.{HasTakenAll}
use Rattle.ws_sends.specs.declared.keyed_send.KeyedSend.{KeyedSend}
use Rattle.ws_peer.specs.Apps.{AppPeerValue, MayHaveSaid, plan_after, planned, planned_in, sends_next, taken_next}
use Rattle.ws_peer.specs.Talks.{PlannedStep}
use Rattle.ws_peer.proofs.AppSends.{sends_none}
use Rattle.ws_peer.proofs.AppTalkLemmas.{IsStep, planned_at, planned_none, says_fed, starts_on, still_short}
use Rattle.ws_echo.specs.InnerEchoing.{piece_call}
use Rattle.ws_peer.proofs.EchoTalkLemmas.{put_after, taken_more}
use Rattle.ws_peer.proofs.app_peer.AppPeer.step.Goals as goal

-- ---- where memory ran out

pub invariant_of-self-in_err-pass : goal.invariant_of-self-in_err-pass
invariant_of-self-in_err-pass c =
    let inside = c.self.inside in
    let added : c.extend_from_slice.new.self.items ≡ inside.fed.items ++ c.args.piece.now = search rules in (
      still_short inside.fed.items c.args.piece.now c.extend_from_slice.new.self.items inside.taken c.self.invariant.0 added,
      taken_more inside.session c.pass.new.self _ _ c.args.out.now.items c.pass.new.out.items _ _ c.self.invariant.1 c.in_err-pass.ensures.taken.1,
    )

pub invariant_of-self-in_err-pass-2 : goal.invariant_of-self-in_err-pass-2
invariant_of-self-in_err-pass-2 c =
    let inside = c.self.inside in
    let added : c.extend_from_slice.new.self.items ≡ inside.fed.items ++ c.args.piece.now = search rules in (
      still_short inside.fed.items c.args.piece.now c.extend_from_slice.new.self.items inside.taken c.self.invariant.0 added,
      taken_more inside.session c.pass-2.new.self _ _ c.args.out.now.items c.pass-2.new.out.items _ _ c.self.invariant.1 c.in_err-pass-2.ensures.taken.1,
    )

pub returns-in_err-pass-2-clause-grown : goal.returns-in_err-pass-2-clause-grown
returns-in_err-pass-2-clause-grown c = put_after c.self.inside.session c.pass-2.new.self _ _ c.args.out.now.items c.pass-2.new.out.items _ _ c.self.invariant.1 c.in_err-pass-2.ensures.taken.1

pub invariant_of-self-in_err-send_each : goal.invariant_of-self-in_err-send_each
invariant_of-self-in_err-send_each c =
    let inside = c.self.inside in
    let added : c.extend_from_slice.new.self.items ≡ inside.fed.items ++ c.args.piece.now = search rules in (
      still_short inside.fed.items c.args.piece.now c.extend_from_slice.new.self.items inside.taken c.self.invariant.0 added,
      c.send_each.ensures.some (taken_more inside.session c.pass-2.new.self _ _ c.args.out.now.items c.pass-2.new.out.items _ _ c.self.invariant.1 c.in_ok-pass-2.ensures.taken.1),
    )

pub returns-in_err-send_each-clause-grown : goal.returns-in_err-send_each-clause-grown
returns-in_err-send_each-clause-grown c =
    let put = put_after c.self.inside.session c.pass-2.new.self _ _ c.args.out.now.items c.pass-2.new.out.items _ _ c.self.invariant.1 c.in_ok-pass-2.ensures.taken.1 in
    starts_on c.args.out.now.items c.pass-2.new.out.items c.send_each.new.out.items put c.send_each.ensures.grown

-- ---- behind the plan's end

pub invariant_of-self-in_default : goal.invariant_of-self-in_default
invariant_of-self-in_default c =
    let size : c.len-self-inside.result ≡ length c.extend_from_slice.new.self.items = search rules in (
      omega (arith, size),
      taken_more c.self.inside.session c.pass.new.self _ _ c.args.out.now.items c.pass.new.out.items _ _ c.self.invariant.1 c.in_ok-pass.ensures.taken.1,
    )

pub returns-in_default-clause-said : goal.returns-in_default-clause-said
returns-in_default-clause-said c =
    let inside = c.self.inside in
    let plan = planned_in inside.plan.items in
    let fed = c.extend_from_slice.new.self.items in
    let before = c.args.out.now.items in
    let after = c.pass.new.out.items in
    let old : AppPeerValue = record { session = inside.session; key = inside.key; plan = plan; done = inside.done; fed = inside.fed.items; taken = inside.taken; is_spent = inside.is_spent } in
    let new : AppPeerValue = record { session = c.pass.new.self; key = inside.key; plan = plan; done = inside.done; fed = fed; taken = c.len-self-inside.result; is_spent = inside.is_spent } in
    let count = length fed - inside.taken in
    let added : fed ≡ inside.fed.items ++ c.args.piece.now = search rules in
    let size : c.len-self-inside.result ≡ length fed = search rules in
    let long = still_short inside.fed.items c.args.piece.now fed inside.taken c.self.invariant.0 added in
    let behind : length inside.plan.items ≤ inside.done = search rules in
    let none : drop inside.done plan ≡ [] = planned_none inside.plan.items inside.done behind in
    let waiting : c.split_at.result.1.now ≡ drop inside.taken fed = search rules in
    let shown : c.split_at.result.1.now ≡ take count (drop inside.taken fed) = waiting ∙ sym (take_all count (drop inside.taken fed) (omega (arith, length-drop inside.taken fed))) in
    let (told, took) = c.in_ok-pass.ensures.taken in
    let step : IsStep [] old new c.pass.new.self count c.args.piece.now before after after = record {
      short = c.self.invariant.0;
      key = refl;
      plan = refl;
      fed = added;
      bytes = λ i. omega (arith, c.type_inv.piece i);
      counted = ap (λ (p : List PlannedStep). taken_next p count) (sym none);
      taken = omega (arith, size, long);
      rest = none ∙ ap (λ (p : List PlannedStep). plan_after p) (sym none);
      told_before = [];
      told_after = told;
      took = subst (λ (l : List ℕ). HasTakenAll reply_to inside.session c.pass.new.self (piece_call l inside.key before after) [] told) shown took;
      own = sends_none c.pass.new.self after;
      sends_so = ap (λ (p : List PlannedStep). sends_next p) none;
    } in
    let says = says_fed c.app_laws.ensures [] old new c.pass.new.self count c.args.piece.now before after after step c.self.invariant.1 in
    record { appended = says.appended; grown = says.grown; leads = λ end talk had. says.leads end talk (subst (λ (v : AppPeerValue). MayHaveSaid v end talk) (sym c.self.view_is) had) }

-- ---- a step of the plan

pub invariant_of-self-2 : goal.invariant_of-self-2
invariant_of-self-2 c =
    let inside = c.self.inside in
    let fed = c.extend_from_slice.new.self.items in
    let added : fed ≡ inside.fed.items ++ c.args.piece.now = search rules in
    let long = still_short inside.fed.items c.args.piece.now fed inside.taken c.self.invariant.0 added in
    let waiting : c.split_at.result.1.now ≡ drop inside.taken fed = search rules in
    let least : c.min-count.result ≡ min c.in-Some.step.now.takes (length c.split_at.result.1.now) = omega (arith, c.min-count.ensures) in (
      omega (arith, long, least, ap (λ (l : List ℕ). length l) waiting, length-drop inside.taken fed),
      c.send_each.ensures.some (taken_more inside.session c.pass-2.new.self _ _ c.args.out.now.items c.pass-2.new.out.items _ _ c.self.invariant.1 c.in_ok-pass-2.ensures.taken.1),
    )

pub returns-clause-said : goal.returns-clause-said
returns-clause-said c =
    let inside = c.self.inside in
    let plan = planned_in inside.plan.items in
    let next = c.in-Some.step.now in
    let count = c.min-count.result in
    let fed = c.extend_from_slice.new.self.items in
    let before = c.args.out.now.items in
    let middle = c.pass-2.new.out.items in
    let after = c.send_each.new.out.items in
    let old : AppPeerValue = record { session = inside.session; key = inside.key; plan = plan; done = inside.done; fed = inside.fed.items; taken = inside.taken; is_spent = inside.is_spent } in
    let new : AppPeerValue = record { session = c.send_each.new.session; key = inside.key; plan = plan; done = inside.done + 1; fed = fed; taken = inside.taken + count; is_spent = inside.is_spent } in
    let added : fed ≡ inside.fed.items ++ c.args.piece.now = search rules in
    let within : inside.done < length inside.plan.items = search rules in
    let found : next ≡ get_or inside.plan.items inside.done next = search rules in
    let there : drop inside.done plan ≡ planned next ∷ drop (inside.done + 1) plan = planned_at inside.plan.items inside.done next within found in
    let waiting : c.split_at.result.1.now ≡ drop inside.taken fed = search rules in
    let size : length c.split_at.result.1.now ≡ length fed - inside.taken = ap (λ (l : List ℕ). length l) waiting ∙ length-drop inside.taken fed in
    let least : count ≡ min next.takes (length c.split_at.result.1.now) = omega (arith, c.min-count.ensures) in
    let front : c.split_at-2.result.0.now ≡ take count c.split_at.result.1.now = search rules in
    let shown : c.split_at-2.result.0.now ≡ take count (drop inside.taken fed) = front ∙ ap (λ (l : List ℕ). take count l) waiting in
    let sends : c.as_slice-3.result.now ≡ next.sends.items = search rules in
    let own : List KeyedSend = c.as_slice-3.result.now in
    let (told, took) = c.in_ok-pass-2.ensures.taken in
    let step : IsStep own old new c.pass-2.new.self count c.args.piece.now before middle after = record {
      short = c.self.invariant.0;
      key = refl;
      plan = refl;
      fed = added;
      bytes = λ i. omega (arith, c.type_inv.piece i);
      counted = least ∙ (ap (λ k. min next.takes k) size ∙ ap (λ (p : List PlannedStep). taken_next p (length fed - inside.taken)) (sym there));
      taken = refl;
      rest = ap (λ (p : List PlannedStep). plan_after p) (sym there);
      told_before = [];
      told_after = told;
      took = subst (λ (l : List ℕ). HasTakenAll reply_to inside.session c.pass-2.new.self (piece_call l inside.key before middle) [] told) shown took;
      own = c.in_ok-send_each.ensures.sent;
      sends_so = ap (λ (p : List PlannedStep). sends_next p) there ∙ sym sends;
    } in
    let says = says_fed c.app_laws.ensures own old new c.pass-2.new.self count c.args.piece.now before middle after step c.self.invariant.1 in
    record { appended = says.appended; grown = says.grown; leads = λ end talk had. says.leads end talk (subst (λ (v : AppPeerValue). MayHaveSaid v end talk) (sym c.self.view_is) had) }

pub returns-clause-grown : goal.returns-clause-grown
returns-clause-grown c =
    let put = put_after c.self.inside.session c.pass-2.new.self _ _ c.args.out.now.items c.pass-2.new.out.items _ _ c.self.invariant.1 c.in_ok-pass-2.ensures.taken.1 in
    starts_on c.args.out.now.items c.pass-2.new.out.items c.send_each.new.out.items put c.send_each.ensures.grown
