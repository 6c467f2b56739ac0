-- The frames come one after the other.
use Rattle.std.proofs.Common.{◌≡◌, ◌∙◌, ◌++◌, ◌+◌, ◌-◌, ◌<◌, ◌≤◌, [], ℕ, List, ap, sym, subst, drop, length, rules, take, append_assoc, arith}
use Rattle.std.proofs.lemmas.List.{append-nil, length-append, length-drop, length-take, take-append-drop, take_all}
use Rattle.ws_pair.specs.Link.{LinkEnd}
use Rattle.ws_pair.specs.InnerPlaying.{IsEnd, grown}
use Rattle.ws_pair.proofs.Ends.{grown_nothing}
use Rattle.ws_pair.proofs.Parts.{grown_joined, part_is_next}
use Rattle.ws_pair.proofs.endpoint.Endpoint.deliver.Goals as goal

pub loop-rest-init : goal.loop-rest-init
loop-rest-init c = (
  [],
  search rules,
  omega arith,
  λ role limits x xs is peers next going. subst (λ (y : LinkEnd). IsEnd role limits y xs c.args.self.now) (sym (grown_nothing role limits x xs c.args.key)) is,
)

pub deliver_front-requires-clause-room : goal.deliver_front-requires-clause-room
deliver_front-requires-clause-room c =
    let rest = c.loop-rest.rest.now in
    let i = c.loop-rest.invariant in
    omega (arith, c.requires, i.2, ap (λ (l : List ℕ). length l) i.1, length-append i.0 rest)

pub loop-rest-preserved : goal.loop-rest-preserved
loop-rest-preserved c =
    let rest = c.loop-rest.rest.now in
    let used = c.in_ok-used.used in
    let i = c.loop-rest.invariant in
    let done = i.0 in
    let part = take used rest in
    let parts = i.1 ∙ (ap (λ (l : List ℕ). done ++ l) (sym (take-append-drop used rest)) ∙ sym (append_assoc done part (drop used rest))
    ∙ ap (λ (l : List ℕ). (done ++ part) ++ l) (sym (take_all (length rest - used) (drop used rest) (omega (arith, length-drop used rest))))) in
    let le : used ≤ length rest = c.in_ok-used.ensures.used.1 in
    let count : length (done ++ part) ≡ length done + used = omega (arith, length-append done part, length-take used rest, le) in
    let all : c.args.piece.now ≡ done ++ (rest ++ []) = i.1 ∙ ap (λ (l : List ℕ). done ++ l) (sym (append-nil rest)) in (
      done ++ part,
      parts,
      omega (arith, i.2, c.in_ok-used.ensures.reached, count),
      λ role limits x xs is peers next going.
          let here = part_is_next _ x.reached done rest [] c.args.piece.now all next in
          let some : 0 < length rest = search rules in
          let uncut = going (omega (arith, some, ap (λ (l : List ℕ). length l) i.1, length-append done rest)) in
          let stands = c.in_ok-used.ensures.delivered role limits (grown role limits x xs (length done) c.args.key) xs (i.3 role limits x xs is peers next going) peers here uncut in
          subst (λ (k : ℕ). IsEnd role limits (grown role limits x xs k c.args.key) xs c.deliver_front.new.self) (sym count)
          (subst (λ (y : LinkEnd). IsEnd role limits y xs c.deliver_front.new.self) (grown_joined c.session_laws.ensures role limits xs peers x c.args.key (length done) used (omega (arith, here.fits, le))) stands),
    )

pub returns : goal.returns
returns c = λ role limits x xs is peers next going.
    let rest = c.loop-rest.rest.now in
    let none : length rest ≤ 0 = search rules in
    let i = c.loop-rest.invariant in
    let all : length i.0 ≡ length c.args.piece.now = omega (arith, none, ap (λ (l : List ℕ). length l) i.1, length-append i.0 rest) in
    subst (λ (k : ℕ). IsEnd role limits (grown role limits x xs k c.args.key) xs c.loop-rest.self) all (i.3 role limits x xs is peers next going)
