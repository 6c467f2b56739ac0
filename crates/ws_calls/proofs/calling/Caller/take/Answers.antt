-- Whether the piece was taken or passed over.
use Rattle.std.proofs.Common.{◌≡◌, ◌∙◌, ◌++◌, [], true, false, ap, length, refl, sym, subst, rules, string_bytes}
use Rattle.ws_session.specs.Exchange.{is_over}
use Rattle.ws_calls.specs.declared.calling.Caller.{Caller}
use Rattle.ws_calls.specs.declared.calls.Call.TheVariants.{Take}
use Rattle.ws_calls.specs.declared.report.CallAnswer.TheVariants.{Taken}
use Rattle.ws_calls.specs.CallLines.{answer_lines}
use Rattle.ws_calls.specs.InnerSteps.{HasToldCall}
use Rattle.ws_calls.proofs.Answering.{told_going, told_over}
use Rattle.ws_calls.specs.InnerSteps.{endpoint_of}
use Rattle.ws_calls.proofs.calling.Caller.take.Goals.{then-not-is_over+in_ok-take_piece, else-not-is_over}
use Rattle.ws_calls.proofs.calling.Caller.take.Goals as goal

pub returns : goal.returns
returns g c =
    let old = (g.E.Scripted.value c.args.self.now.called) in
    let before = string_bytes c.args.self.now.lines in
    let lines = string_bytes c.tell_taken.new.lines in
    let put = c.as_slice.result.now in
    let count : c.len-len.result ≡ length c.args.piece.now.items = search rules in
    let answer = Taken [] c.len-len.result put in
    elim c.if-not-is_over.branch [
      | then-not-is_over+in_ok-take_piece w ↦ λ exchange is.
          let after = w.take_piece.new.self in
          let same : c.if-not-is_over.self ≡ after = search rules in
          let going : is_over old.status ≡ false = search rules in
          let h = w.in_ok-take_piece.ensures in
          let same_put : put ≡ after.put.items =
          c.as_slice.ensures.value ∙ ap (λ (s : Caller g.row.E.Denot). s.put.items) same in
          subst (λ (s : Caller g.row.E.Denot). HasToldCall (endpoint_of g.E.Scripted.reply old) exchange (Take c.args.piece.now.items c.args.key) before s.taken (g.E.Scripted.value s.called) lines) (sym same)
          (told_going g.E.Scripted.reply exchange c.args.self.now.taken old c.args.piece.now.items c.args.key is (g.E.Scripted.value after.called) c.args.piece.now.items c.clear.new.self.items after.put.items put before (string_bytes after.lines) lines
          h.0 [] after.taken c.len-len.result going refl c.clear.ensures.items h.1 h.2 h.3 count refl same_put
          (c.in_ok-tell_taken.ensures ∙ ap (λ (s : Caller g.row.E.Denot). string_bytes s.lines ++ answer_lines answer) same))
      | else-not-is_over w ↦ λ exchange is.
          let same : c.if-not-is_over.self ≡ record c.args.self.now { put = c.clear.new.self } = search rules in
          let over : is_over old.status ≡ true = search rules in
          let same_put : put ≡ [] =
          c.as_slice.ensures.value ∙ (ap (λ (s : Caller g.row.E.Denot). s.put.items) same ∙ c.clear.ensures.items) in
          subst (λ (s : Caller g.row.E.Denot). HasToldCall (endpoint_of g.E.Scripted.reply old) exchange (Take c.args.piece.now.items c.args.key) before s.taken (g.E.Scripted.value s.called) lines) (sym same)
          (told_over g.E.Scripted.reply exchange c.args.self.now.taken old c.args.piece.now.items c.args.key is c.len-len.result put before lines [] over count refl same_put
          (c.in_ok-tell_taken.ensures ∙ ap (λ (s : Caller g.row.E.Denot). string_bytes s.lines ++ answer_lines answer) same))
    ]
