-- No head stands in no bytes.
use Rattle.std.proofs.Common.{◌<◌, [], ◌∷◌, ◌++◌, length, arith}
use Rattle.std.proofs.lemmas.List.{length-append}
use Rattle.httparse.specs.Ascii.{space}
use Rattle.httparse.specs.Grammar.{RequestHead, ResponseHead, print_request, print_response, print_blank}
use Rattle.httparse.specs.Grammar.{print_version, print_end, print_section, print_reason}
use Rattle.ws_wire.specs.declared.role.Role.{Role}
use Rattle.ws_wire.specs.declared.role.Role.TheVariants.{Client, Server}
use Rattle.ws_tap.specs.Heads.{HasNoHead}
use Rattle.ws_tap.proofs.HeadLemmas.{head_within}

request_some : (h : RequestHead) → 0 < length (print_request h)
unfolding print_request
request_some h =
    let a = print_blank h.blank ++ h.method in
    let b = a ++ space ∷ h.target in
    let d = b ++ space ∷ print_version h.minor in
    let e = d ++ print_end h.line_end in
    omega (
      arith,
      length-append e (print_section h.fields h.last),
      length-append d (print_end h.line_end),
      length-append b (space ∷ print_version h.minor),
      length-append a (space ∷ h.target),
    )

response_some : (h : ResponseHead) → 0 < length (print_response h)
unfolding print_response
response_some h =
    let a = print_blank h.blank ++ print_version h.minor in
    let b = a ++ space ∷ h.digits in
    let d = b ++ print_reason h.reason in
    let e = d ++ print_end h.line_end in
    omega (
      arith,
      length-append e (print_section h.fields h.last),
      length-append d (print_end h.line_end),
      length-append b (print_reason h.reason),
      length-append a (space ∷ h.digits),
    )

pub nothing_has_no_head : (role : Role) → HasNoHead role []
nothing_has_no_head Client head (h, none) = absurd (omega (
  arith,
  head_within Client [] head (h, none),
  request_some
      h.head,
  h.whole,
))
nothing_has_no_head Server head (status, h, some) = absurd
    (omega (arith, head_within Server [] head (status, h, some), response_some h.head, h.whole))
