-- One line more is written for each reply, and the ending behind them.
use Rattle.std.proofs.Common.{◌≡◌, ◌∙◌, ◌++◌, ◌∷◌, [], List, ap, sym, rules, append_assoc, append-nil, ℕ}
use Rattle.std.proofs.lemmas.Grind.{flat_map-append, put_two}
use Rattle.std.specs.Fmt.{HasWritten}
use Rattle.std.specs.List.{flat_map}
use Rattle.ws_suite.specs.declared.evidence.InTurn.{InTurn}
use Rattle.ws_suite.specs.declared.evidence.Reply.{Reply}
use Rattle.ws_suite.specs.Kept.{reply_in}
use Rattle.wst_commands.specs.Explaining.{ending_line, reply_line}
use Rattle.wst_commands.specs.InnerExplaining.{lent_fault}
use Rattle.wst_commands.proofs.explanation_lines.SideLinesDisplay.fmt.Goals as goal

pub loop-reply-preserved : goal.loop-reply-preserved
loop-reply-preserved g c = λ plain.
    let i = c.loop-reply.invariant plain in
    let first = reply_in c.in-Some.reply in
    let line = reply_line c.args.self.now.style c.args.self.now.side in
    let left : c.loop-reply.replies ≡ first ∷ c.next.new.self = search rules in
    let written : HasWritten g.W.Write.write_str_gives c.loop-reply.f (line first) c.write.new.self = search rules in
    let joined : flat_map line i.0 ++ line first ≡ flat_map line (i.0 ++ first ∷ []) =
    ap (λ (l : List ℕ). flat_map line i.0 ++ l) (sym (append-nil (line first))) ∙ sym (flat_map-append line i.0 (first ∷ [])) in (
      i.0 ++ first ∷ [],
      i.1 ∙ (ap (λ (l : List (InTurn Reply)). i.0 ++ l) left ∙ sym (append_assoc i.0 (first ∷ []) c.next.new.self)),
      put_two g.W.Write.write_str_gives c.args.f.now c.loop-reply.f c.write.new.self (flat_map line i.0) (line first) (flat_map line (i.0 ++ first ∷ [])) i.2 written joined,
    )

pub returns-clause-writes : goal.returns-clause-writes
returns-clause-writes g c = λ plain ok.
    let i = c.loop-reply.invariant plain in
    let side = c.args.self.now.side in
    let direction = c.args.self.now.direction.now in
    let fault = lent_fault c.args.self.now.fault in
    let line = reply_line c.args.self.now.style side in
    let none : c.loop-reply.replies ≡ [] = search rules in
    let all : direction.replies ≡ i.0 = i.1 ∙ (ap (λ (l : List (InTurn Reply)). i.0 ++ l) none ∙ append-nil i.0) in
    let written : HasWritten g.W.Write.write_str_gives c.loop-reply.f (ending_line side fault direction.ending) c.write-2.new.self = search rules in
    let joined : flat_map line i.0 ++ ending_line side fault direction.ending ≡ flat_map line direction.replies ++ ending_line side fault direction.ending =
    ap (λ (l : List (InTurn Reply)). flat_map line l ++ ending_line side fault direction.ending) (sym all) in
    put_two g.W.Write.write_str_gives c.args.f.now c.loop-reply.f c.write-2.new.self (flat_map line i.0) (ending_line side fault direction.ending)
    (flat_map line direction.replies ++ ending_line side fault direction.ending) i.2 written joined
