-- What the parser takes as a whole response is the head there; where it wants more or refuses, there is none.
use Rattle.std.proofs.Common.{rules, arith, List, ℕ, [], drop, sym, refl, subst, append-nil}
use Rattle.std.proofs.lemmas.List.{take_all}
use Rattle.httparse.specs.Grammar.{ReadsResponse, HasNoResponse}
use Rattle.httparse.specs.Spans.{IsResponseOf, ResponseOverflows}
use Rattle.ws_tap.proofs.HeadLemmas.{few_fields}
use Rattle.ws_tap.proofs.heads.find_response.Goals as goal

pub returns-in-Ok-Complete : goal.returns-in-Ok-Complete
returns-in-Ok-Complete c =
    let bytes = c.args.bytes.now in
    let head = c.in-Ok-Complete.head in
    let found : IsResponseOf bytes c.parse_response.new.headers head = search rules in
    let (grammar, at) = found in
    let all = take_all 8192 bytes c.requires in (
      c.in-Ok-Complete.head.code,
      record {
        head = grammar;
        reads = subst (λ (t : List ℕ). ReadsResponse t grammar (drop head.len t)) (sym all) at.reads;
        whole = at.len;
        headers = few_fields bytes c.parse_response.new.headers head.headers grammar.fields at.fields
            c.parse_response.auto.headers;
        status_is = at.code;
      },
      refl,
    )

pub returns-in-Ok-Partial : goal.returns-in-Ok-Partial
returns-in-Ok-Partial c = λ head (status, h, some).
    let bytes = c.args.bytes.now in
    let none_is : HasNoResponse bytes = search rules in
    let all = take_all 8192 bytes c.requires in
    none_is h.head (drop head.len bytes) (subst (λ (t : List ℕ). ReadsResponse t h.head (drop head.len t)) all h.reads)

pub returns-in-Err : goal.returns-in-Err
returns-in-Err c = λ head (status, h, some).
    let bytes = c.args.bytes.now in
    let over : ResponseOverflows 64 bytes = search rules in
    let all = take_all 8192 bytes c.requires in
    let reads = subst (λ (t : List ℕ). ReadsResponse t h.head (drop head.len t)) all h.reads in
    absurd (omega (
      arith,
      h.headers,
      over [] h.head (drop head.len bytes)
          (subst (λ (t : List ℕ). ReadsResponse t h.head (drop head.len bytes)) (sym (append-nil bytes)) reads),
    ))
