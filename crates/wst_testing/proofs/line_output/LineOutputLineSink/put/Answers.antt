-- Lines of this place were taken behind the others.
use Rattle.std.proofs.Common.{arith, ◌≡◌, ◌∙◌}
use Rattle.std.proofs.lemmas.Bool.Decides.{nat_tests}
use Rattle.wst_testing.proofs.OutputLemmas.{put_more}
use Rattle.wst_testing.proofs.line_output.LineOutputLineSink.put.Goals as goal

pub returns : goal.returns
returns g c =
    let here : c.args.at ≡ c.args.self.now.at = grind (arith, nat_tests) in
    let old = c.args.self.now.writer in
    λ start taken h. put_more g.W.Write.contents start.writer.now old.now c.write_lines.new.writer
    start.writer.ghost_name old.ghost_name start.at c.args.self.now.at taken c.args.at c.args.lines.now
    (here ∙ h.same) c.in_ok-write_lines.ensures h
