-- What the parser takes as a whole request is the head there; where it wants more or refuses, there is none.
use Rattle.std.proofs.Common.{rules, arith, List, ℕ, [], drop, sym, refl, subst, append-nil}
use Rattle.std.proofs.lemmas.List.{take_all}
use Rattle.httparse.specs.Grammar.{ReadsRequest, HasNoRequest}
use Rattle.httparse.specs.Spans.{IsRequestOf, RequestOverflows}
use Rattle.ws_tap.proofs.HeadLemmas.{few_fields}
use Rattle.ws_tap.proofs.heads.find_request.Goals as goal

pub returns-in-Ok-Complete : goal.returns-in-Ok-Complete
returns-in-Ok-Complete c =
    let bytes = c.args.bytes.now in
    let head = c.in-Ok-Complete.head in
    let found : IsRequestOf bytes c.parse_request.new.headers head = search rules in
    let (grammar, at) = found in
    let all = take_all 8192 bytes c.requires in (
      record {
        head = grammar;
        reads = subst (λ (t : List ℕ). ReadsRequest t grammar (drop head.len t)) (sym all) at.reads;
        whole = at.len;
        headers = few_fields bytes c.parse_request.new.headers head.headers grammar.fields at.fields
            c.parse_request.auto.headers;
      },
      refl,
    )

pub returns-in-Ok-Partial : goal.returns-in-Ok-Partial
returns-in-Ok-Partial c = λ head (h, none).
    let bytes = c.args.bytes.now in
    let none_is : HasNoRequest bytes = search rules in
    let all = take_all 8192 bytes c.requires in
    none_is h.head (drop head.len bytes) (subst (λ (t : List ℕ). ReadsRequest t h.head (drop head.len t)) all h.reads)

pub returns-in-Err : goal.returns-in-Err
returns-in-Err c = λ head (h, none).
    let bytes = c.args.bytes.now in
    let over : RequestOverflows 64 bytes = search rules in
    let all = take_all 8192 bytes c.requires in
    let reads = subst (λ (t : List ℕ). ReadsRequest t h.head (drop head.len t)) all h.reads in
    absurd (omega (
      arith,
      h.headers,
      over [] h.head (drop head.len bytes)
          (subst (λ (t : List ℕ). ReadsRequest t h.head (drop head.len bytes)) (sym (append-nil bytes)) reads),
    ))
