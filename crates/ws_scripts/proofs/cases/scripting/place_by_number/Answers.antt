-- The number decides, where there is one.
use Rattle.std.proofs.Common.{◌≡◌, ◌∙◌, ◌-◌, ◌<◌, ℕ, List, [], arith, ap, sym}
use Rattle.ws_scripts.specs.CaseNames.{numbered_name}
use Rattle.ws_scripts.proofs.CaseNaming.{has_number, not_among, numbered_at}
use Rattle.ws_scripts.proofs.cases.scripting.place_by_number.Goals as goal

pub returns-in-Some : goal.returns-in-Some
returns-in-Some c =
    let front = c.args.front.now in
    let n = c.in-Some.number in
    let named : c.args.id.now ≡ numbered_name front n =
    sym c.as_bytes-2.ensures.value ∙ (c.in-Some.ensures.1
    ∙ ap (λ (l : List ℕ). numbered_name l n) c.as_bytes.ensures.value) in
    let within : n - 1 < c.args.count = omega (arith, c.if-number-gt0.true, c.if-number-count.true) in (
      within,
      numbered_at front c.args.count (n - 1) [] within
          ∙ (ap (λ (k : ℕ). numbered_name front k) (omega (arith, c.if-number-gt0.true)) ∙ sym named),
    )

pub returns-in_default : goal.returns-in_default
returns-in_default c =
    let front = c.args.front.now in
    let n = c.in-Some.number in
    let named : c.args.id.now ≡ numbered_name front n =
    sym c.as_bytes-2.ensures.value ∙ (c.in-Some.ensures.1
    ∙ ap (λ (l : List ℕ). numbered_name l n) c.as_bytes.ensures.value) in
    not_among front c.args.id.now c.args.count n (omega (arith, c.requires)) (omega (arith, c.in-Some.ensures.0)) named
    (λ some within. omega (arith, within, c.if-number-count.false))

pub returns-in_default-2 : goal.returns-in_default-2
returns-in_default-2 c =
    let front = c.args.front.now in
    let n = c.in-Some.number in
    let named : c.args.id.now ≡ numbered_name front n =
    sym c.as_bytes-2.ensures.value ∙ (c.in-Some.ensures.1
    ∙ ap (λ (l : List ℕ). numbered_name l n) c.as_bytes.ensures.value) in
    not_among front c.args.id.now c.args.count n (omega (arith, c.requires)) (omega (arith, c.in-Some.ensures.0)) named
    (λ some within. omega (arith, some, c.if-number-gt0.false))

pub returns-in_default-3 : goal.returns-in_default-3
returns-in_default-3 c = λ there.
    let front = c.args.front.now in
    let h = has_number front c.args.id.now c.args.count there in
    c.in_default.ensures h.0 (
      omega (arith, h.2, c.requires),
      c.as_bytes-2.ensures.value ∙ (h.3 ∙ ap (λ (l : List ℕ). numbered_name l h.0) (sym c.as_bytes.ensures.value)),
    )
