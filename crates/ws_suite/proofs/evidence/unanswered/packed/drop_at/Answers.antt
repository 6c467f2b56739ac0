-- The first payload that is this one is dropped: its length, and its bytes from the front or from among the others.
use Rattle.std.proofs.Common.{◌≡◌, ◌∙◌, ◌+◌, List, ℕ, ap, drop, length, rules, subst, sym}
use Rattle.std.specs.List.{remove}
use Rattle.ws_suite.specs.InnerUnanswered.{HasBytes, payloads_by}
use Rattle.ws_suite.proofs.DropLemmas.{front_fits, front_left, others_fit, others_left, room}
use Rattle.ws_suite.proofs.evidence.unanswered.packed.drop_at.Goals as goal

pub returns-then-place-eq0-clause-fits : goal.returns-then-place-eq0-clause-fits
returns-then-place-eq0-clause-fits c =
    let a = c.args in
    let there = c.requires.there.there in
    let lens : c.remove.new.self.items ≡ remove a.lens.now.items a.place.number = search (rules, there) in
    subst (λ (l : List ℕ). HasBytes l a.bytes.now.items (a.gone + length a.payload.now)) (sym lens)
    (front_fits a.lens.now.items a.bytes.now.items a.gone a.payload.now a.place c.requires.fits c.requires.there
    c.if-place-eq0.true)

pub returns-then-place-eq0-clause-left : goal.returns-then-place-eq0-clause-left
returns-then-place-eq0-clause-left c =
    let a = c.args in
    let there = c.requires.there.there in
    let lens : c.remove.new.self.items ≡ remove a.lens.now.items a.place.number = search (rules, there) in
    ap (λ (l : List ℕ). payloads_by l (drop (a.gone + length a.payload.now) a.bytes.now.items)) lens
    ∙ front_left a.lens.now.items a.bytes.now.items a.gone a.payload.now a.place c.requires.fits c.requires.there
    c.if-place-eq0.true

pub cut_out-requires : goal.cut_out-requires
cut_out-requires c =
    let a = c.args in
    room a.lens.now.items a.bytes.now.items a.gone a.payload.now a.place c.requires.fits c.requires.there

pub returns-clause-fits : goal.returns-clause-fits
returns-clause-fits c =
    let a = c.args in
    let there = c.requires.there.there in
    let lens : c.remove.new.self.items ≡ remove a.lens.now.items a.place.number = search (rules, there) in
    subst (λ (l : List ℕ). HasBytes l c.cut_out.new.bytes.items a.gone) (sym lens)
    (subst (λ (l : List ℕ). HasBytes (remove a.lens.now.items a.place.number) l a.gone) (sym c.cut_out.ensures)
    (others_fit a.lens.now.items a.bytes.now.items a.gone a.payload.now a.place c.requires.fits c.requires.there))

pub returns-clause-left : goal.returns-clause-left
returns-clause-left c =
    let a = c.args in
    let there = c.requires.there.there in
    let lens : c.remove.new.self.items ≡ remove a.lens.now.items a.place.number = search (rules, there) in
    ap (λ (l : List ℕ). payloads_by l (drop a.gone c.cut_out.new.bytes.items)) lens
    ∙ (ap (λ (l : List ℕ). payloads_by (remove a.lens.now.items a.place.number) (drop a.gone l)) c.cut_out.ensures
    ∙ others_left a.lens.now.items a.bytes.now.items a.gone a.payload.now a.place c.requires.fits c.requires.there)
