-- What is taken part by part was taken whole, and is told so.
use Rattle.std.proofs.Common.{◌∙◌, ◌++◌, [], ℕ, List, ap, sym, arith, length, map, string_bytes, append_assoc, append-nil}
use Rattle.std.proofs.lemmas.List.{length-append}
use Rattle.ws_wire.specs.Frame.{Frame}
use Rattle.ws_session.specs.Exchange.{SessionValue}
use Rattle.ws_session.specs.declared.event.Event.{Event}
use Rattle.ws_calls.specs.declared.calling.Caller.{Caller}
use Rattle.ws_calls.specs.InnerSteps.{HasToldPart, told_behind}
use Rattle.ws_calls.proofs.Parts.{OneList, RepliesGoOn, joined, nothing_taken}
use Rattle.ws_calls.proofs.Placed.{behind, told_joined}

module _ {E : Type 0} (value : E → SessionValue) (reply : Event → List Frame) where
  -- nothing was taken yet
  pub none_told : (now : Caller E) (key : List ℕ) → HasToldPart value reply now now [] key
  none_told now key = (
    [],
    nothing_taken reply (value now.called) key now.put.items,
    omega arith,
    sym (append-nil (string_bytes now.lines)),
  )

  -- one more part
  pub one_more_told : OneList → RepliesGoOn → (old mid new : Caller E) (done part key : List ℕ)
      → HasToldPart value reply old mid done key → HasToldPart value reply mid new part key
      → HasToldPart value reply old new (done ++ part) key
  one_more_told one_list replies old mid new done part key i h =
      let before = string_bytes old.lines in
      let first = told_behind old.taken i.0 in
      let second = told_behind mid.taken h.0 in (
        i.0 ++ map (behind (length done)) h.0,
        joined one_list replies reply (value old.called) (value mid.called) (value new.called) done part key old.put.items
            mid.put.items new.put.items i.0 h.0 i.1 h.1,
        omega (arith, i.2, h.2, length-append done part),
        h.3 ∙ (ap (λ (l : List ℕ). l ++ second) i.3
            ∙ (append_assoc before first second
            ∙ ap (λ (l : List ℕ). before ++ l)
            (ap (λ (n : ℕ). first ++ told_behind n h.0) i.2 ∙ sym (told_joined old.taken (length done) i.0 h.0)))),
      )
