-- One pong more: its payload has a place.
use Rattle.std.proofs.Common.{◌≡◌, ◌∙◌, ◌++◌, ◌∷◌, [], ℕ, List, Some, ap, refl, sym, subst, rules, append_assoc, append-nil}
use Rattle.std.proofs.lemmas.Map.Text.{btree_map_updates_str}
use Rattle.std.specs.Map.{update}
use Rattle.std.specs.Str.{bytes_eq}
use Rattle.ws_suite.specs.declared.evidence.InTurn.{InTurn}
use Rattle.ws_suite.specs.declared.evidence.Reply.{Reply}
use Rattle.ws_suite.specs.declared.judging.noted.Noted.{Noted}
use Rattle.ws_suite.specs.InnerNoted.{HavePlaces, noted_of}
use Rattle.ws_suite.specs.Kept.{reply_in}
use Rattle.ws_suite.specs.Matching.{payload_of}
use Rattle.ws_suite.proofs.KeptLemmas.{payload_kept}
use Rattle.ws_suite.proofs.NotedLemmas.{kept_one_more, nothing_more}
use Rattle.ws_suite.proofs.judging.noted.Noted.ask.Goals as goal

pub loop-pong-init : goal.loop-pong-init
loop-pong-init c = ([], refl, λ nothing. (nothing, tt))

pub loop-pong-preserved : goal.loop-pong-preserved
loop-pong-preserved c =
    let i = c.loop-pong.invariant in
    let pong = c.in-Some.pong in
    let first = reply_in pong in
    let old = c.loop-pong.self in
    let new : Noted = record { ends = c.insert.new.self; has_all = old.has_all } in
    let left : c.loop-pong.left ≡ first ∷ c.next.new.self = search rules in
    let moved : (payload : List ℕ) → noted_of new payload
    ≡ update bytes_eq (λ (key : List ℕ). noted_of old key) (payload_of first.what) (Some 0) payload = λ payload.
    btree_map_updates_str pong.payload.now old.ends c.insert.new.self (Some 0) c.in_ok-insert.ensures.updates payload
    ∙ ap (λ (key : List ℕ). update bytes_eq (λ (ds : List ℕ). noted_of old ds) key (Some 0) payload)
    (sym (payload_kept pong.kind pong.payload.now)) in (
      i.0 ++ first ∷ [],
      i.1 ∙ (ap (λ (l : List (InTurn Reply)). i.0 ++ l) left ∙ sym (append_assoc i.0 (first ∷ []) c.next.new.self)),
      λ nothing. let was = i.2 nothing in
          (nothing_more old new first moved was.0, kept_one_more old new first moved i.0 was.1),
    )

pub returns : goal.returns
returns c = λ nothing.
    let i = c.loop-pong.invariant in
    let none : c.loop-pong.left ≡ [] = search rules in
    let all : i.0 ≡ c.args.pongs =
    sym (i.1 ∙ (ap (λ (l : List (InTurn Reply)). i.0 ++ l) none ∙ append-nil i.0)) in
    let was = i.2 nothing in
    (was.0, subst (λ (l : List (InTurn Reply)). HavePlaces l c.loop-pong.self) all was.1)
