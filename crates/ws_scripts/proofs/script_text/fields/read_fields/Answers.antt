-- The fields are cut one after the other, each in one way.
use Rattle.std.proofs.Common.{Bool, List, ℕ, subst}
use Rattle.ws_scripts.specs.declared.script_text.fields.Layout.{Layout}
use Rattle.ws_scripts.specs.InnerScripting.{CutsFin, CutsLayout, CutsRsv}
use Rattle.ws_scripts.proofs.ScriptFields.{fin_cut, rsv_cut}
use Rattle.ws_scripts.proofs.ScriptWords.{no_cut}
use Rattle.ws_scripts.proofs.script_text.fields.read_fields.Goals as goal

pub returns-in_err-fin : goal.returns-in_err-fin
returns-in_err-fin c =
    no_cut (λ (found : Bool × List ℕ). CutsFin found.0 found.1 c.args.text.now) _ c.from_residual.result
    c.from_residual.ensures (λ found cut. c.in_err-fin.ensures found.0 found.1 cut)
    (λ fields rest cut. ((fields.fin, cut.0), cut.2))

pub returns-in_err-rsv : goal.returns-in_err-rsv
returns-in_err-rsv c =
    let text = c.args.text.now in
    let second = c.in_ok-fin.second.now in
    no_cut (λ (found : ℕ × List ℕ). CutsRsv found.0 found.1 second) _ c.from_residual-in_err-rsv.result
    c.from_residual-in_err-rsv.ensures (λ found cut. c.in_err-rsv.ensures found.0 found.1 cut)
    (λ fields rest cut.
    let one = fin_cut fields.fin c.in_ok-fin.fin cut.0 second text cut.2 c.in_ok-fin.ensures in
    ((fields.rsv, cut.1), subst (λ (l : List ℕ). CutsRsv fields.rsv cut.1 l) one.1 cut.3))

pub returns-in_err-layout : goal.returns-in_err-layout
returns-in_err-layout c =
    let text = c.args.text.now in
    let second = c.in_ok-fin.second.now in
    let third = c.in_ok-rsv.third.now in
    no_cut (λ (found : Layout × List ℕ). CutsLayout found.0 found.1 third) _ c.from_residual-in_err-layout.result
    c.from_residual-in_err-layout.ensures (λ found cut. c.in_err-layout.ensures found.0 found.1 cut)
    (λ fields rest cut.
    let one = fin_cut fields.fin c.in_ok-fin.fin cut.0 second text cut.2 c.in_ok-fin.ensures in
    let two = rsv_cut fields.rsv c.in_ok-rsv.rsv cut.1 third second
    (subst (λ (l : List ℕ). CutsRsv fields.rsv cut.1 l) one.1 cut.3) c.in_ok-rsv.ensures in
    ((fields.layout, rest), subst (λ (l : List ℕ). CutsLayout fields.layout rest l) two.1 cut.4))
