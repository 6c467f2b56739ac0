-- One turn more, of which the bytes before the place are left out, and at the end these bytes.
use Rattle.std.proofs.Common.{◌≡◌, ◌-◌, ◌++◌, [], ◌∷◌, ℕ, List, ap, arith, drop, length, length-append, refl, rules, subst}
use Rattle.std.specs.List.{concat}
use Rattle.ws_suite.specs.Evidence.{got_turns}
use Rattle.ws_suite.proofs.GotLemmas.{got_all, got_more, put_more}
use Rattle.ws_suite.proofs.evidence.undefined_close.bytes_behind.Goals as goal

pub loop-turn-preserved : goal.loop-turn-preserved
loop-turn-preserved c =
    let turn = c.in-Some.turn.now in
    let later = c.in-Some.later.now in
    let old = c.loop-turn.invariant.put in
    let put = c.in_ok-left.ensures in
    let parts : c.loop-turn.rest.now ≡ turn ∷ later = search rules in
    let size = ap (λ (l : List ℕ). length l) c.as_slice.ensures in
    record {
      put = (
        old.0 ++ turn.got,
        got_more old.0 c.loop-turn.rest.now later c.args.past.now turn parts old.1,
        put_more c.args.place c.loop-turn.left old.0 c.as_slice.result.now turn.got c.loop-turn.bytes.items
            c.put_behind.new.bytes.items old.2 old.3 c.as_slice.ensures put.0,
        omega (arith, put.1, old.3, size, length-append old.0 turn.got),
      );
    }

pub returns : goal.returns
returns c =
    let old = c.loop-turn.invariant.put in
    let put = c.in_ok-put_behind.ensures in
    let all : old.0 ≡ concat (got_turns c.args.past.now) =
    got_all old.0 c.loop-turn.rest.now c.args.past.now c.in_default.ensures.cases old.1 in
    subst (λ (l : List ℕ). c.put_behind-2.new.bytes.items ≡ drop c.args.place (l ++ c.args.last.now)) all
    (put_more c.args.place c.loop-turn.left old.0 c.args.last.now c.args.last.now c.loop-turn.bytes.items
    c.put_behind-2.new.bytes.items old.2 old.3 refl put.0)
