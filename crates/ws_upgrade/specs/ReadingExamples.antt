-- Worked examples of reading, each a theorem: what is answered to some bytes.
use Rattle.std.specs.Prelude.{◌≡◌, ℕ, zero, suc, ◌<◌, Bool, true, false, List, [], ◌∷◌, ◌++◌, length, All, replicate}
use Rattle.std.specs.Prelude.{Some, None, codes, refl}
use Rattle.std.specs.Char.{is_ascii_digit}
use Rattle.std.specs.List.{list_all, repeat}
use Rattle.std.proofs.Common.{arith, inl, inr, sym, ap, ◌∙◌, length-append}
use Rattle.std.proofs.lemmas.List.Elements.{All-replicate}
use Rattle.std.proofs.lemmas.List.Sums.{AllPass-from_list_all}
use Rattle.httparse.specs.Grammar.{AllPass, IsField, IsToken, is_token_byte, is_value_byte, is_uri_byte, trim_ows}
use Rattle.httparse.specs.Grammar.{LineEnd, crlf, lf, print_blank, print_version, print_end, print_section}
use Rattle.httparse.specs.Grammar.{RequestHead, print_request, ResponseHead, print_response}
use Rattle.ws_upgrade.specs.Accept.{key_of, accept_value_of}
use Rattle.ws_upgrade.specs.Texts.{response_bytes}
use Rattle.ws_upgrade.specs.Reading.{IsRequestRead, IsResponseRead}
use Rattle.ws_upgrade.specs.Examples.{sample_nonce, sample_accept, key_of_sample, accept_value_of_sample}
use Rattle.ws_upgrade.specs.declared.faults.HeadFault.TheVariants.{Head, Method, TooLarge}
use Rattle.ws_upgrade.specs.declared.requests.RequestRead.TheVariants as request_answer
use Rattle.ws_upgrade.specs.declared.responses.ResponseRead.TheVariants as response_answer

-- ---- bytes that nothing can make a head

-- a request begins with a line end or with a byte of its method
begins_so : (byte : ℕ) (more : List ℕ) (blank : List LineEnd) (method target version end section rest : List ℕ)
    → is_token_byte byte ≡ false → ¬ (byte ≡ 13) → ¬ (byte ≡ 10) → IsToken method
    → byte ∷ more ≡ print_blank blank ++ method ++ 32 ∷ target ++ 32 ∷ version ++ end ++ section ++ rest → ⊥
begins_so byte more [] [] target version end section rest no_token no_cr no_lf (some, each) same =
    absurd (omega (arith, some))
begins_so byte more [] (first ∷ method) target version end section rest no_token no_cr no_lf (some, each) same =
    let it : byte ≡ first = cc in
    let is : is_token_byte first ≡ true = each 0 0 (omega arith) in
    let no : is_token_byte first ≡ false = ap is_token_byte (sym it) ∙ no_token in
    cc
begins_so byte more (crlf ∷ blank) method target version end section rest no_token no_cr no_lf token same = no_cr cc
begins_so byte more (lf ∷ blank) method target version end section rest no_token no_cr no_lf token same = no_lf cc

pub no_request_begins_with_a_space : IsRequestRead [] (codes " GET / HTTP/1.1") (request_answer.Refused Head)
unfolding print_request is_token_byte
no_request_begins_with_a_space more head rest (valid, same) =
    begins_so 32 _ head.blank head.method head.target (print_version head.minor) (print_end head.line_end)
    (print_section head.fields head.last) rest refl (λ e. omega arith) (λ e. omega arith) valid.method same

-- ---- a head that is refused

-- each byte of these passes the test
passes : (test : ℕ → Bool) (bytes : List ℕ) → list_all test bytes ≡ true → AllPass test bytes
passes test bytes all = AllPass-from_list_all test bytes all

abbrev post : RequestHead
post = record {
  blank = [];
  method = codes "POST";
  target = codes "/";
  minor = 1;
  line_end = crlf;
  fields = [];
  last = crlf;
}

-- the method is the first rule that it breaks; it breaks others, as that of the host
pub post_is_read : IsRequestRead [] (codes "POST / HTTP/1.1\r\n\r\n") (request_answer.Refused Method)
unfolding print_request is_token_byte lib.Utf8.encode
post_is_read = (
  post,
  19,
  record {
    reads = (
      record {
        method = (omega arith, passes is_token_byte (codes "POST") refl);
        target = (omega arith, passes is_uri_byte (codes "/") refl);
        target_text = (47 ∷ [], (refl, refl));
        minor = omega arith;
        fields = λ k d below. absurd (omega (arith, below));
      },
      refl,
    );
    whole = refl;
    headers = omega arith;
  },
  inl (refl, λ same. cc),
)

-- ---- bytes that need more

-- with its method and its version a request has more than seven bytes
too_short : (blank method target version end section rest : List ℕ) → 0 < length method → length version ≡ 8
    → 7 ≡ length (blank ++ method ++ 32 ∷ target ++ 32 ∷ version ++ end ++ section ++ rest) → ⊥
too_short blank method target version end section rest some long same =
    let line : List ℕ = blank ++ method ++ 32 ∷ target ++ 32 ∷ version in
    omega (
      arith,
      some,
      long,
      same,
      length-append (line ++ end ++ section) rest,
      length-append (line ++ end) section,
      length-append line end,
      length-append (blank ++ method ++ 32 ∷ target) (32 ∷ version),
      length-append (blank ++ method) (32 ∷ target),
      length-append blank method,
    )

pub a_target_needs_more : IsRequestRead [] (codes "GET /ch") request_answer.Need
unfolding print_request is_token_byte
a_target_needs_more = (
  omega arith,
  (
    λ head rest (valid, same).
        too_short (print_blank head.blank) head.method head.target (print_version head.minor)
        (print_end head.line_end) (print_section head.fields head.last) rest valid.method.0 refl (ap length same),
    inr (
      [],
      codes "GET",
      codes "/ch",
      (omega arith, passes is_token_byte (codes "GET") refl),
      passes is_uri_byte (codes "/ch") refl,
      refl,
    ),
  ),
)

-- ---- too many headers

is_field : (name raw : List ℕ) → 0 < length name → list_all is_token_byte name ≡ true
    → list_all is_value_byte raw ≡ true → IsField (record { name = name; raw = raw; end = crlf })
is_field name raw some token value =
    record { name = (some, passes is_token_byte name token); raw = passes is_value_byte raw value }

-- a request with so many headers, each the line `a:`
abbrev with_headers : ℕ → RequestHead
with_headers count = record {
  blank = [];
  method = codes "GET";
  target = codes "/";
  minor = 1;
  line_end = crlf;
  fields = replicate count (record { name = codes "a"; raw = []; end = crlf });
  last = lf;
}

pub many_headers_are_too_large :
    IsRequestRead [] (codes "GET / HTTP/1.1\r\n" ++ repeat 65 (codes "a:\r\n")) (request_answer.Refused TooLarge)
unfolding print_request is_token_byte lib.Utf8.encode
many_headers_are_too_large = inl (
  codes "GET / HTTP/1.1\r\n" ++ repeat 65 (codes "a:\r\n"),
  [],
  refl,
  with_headers 65,
  (
    record {
      method = (omega arith, passes is_token_byte (codes "GET") refl);
      target = (omega arith, passes is_uri_byte (codes "/") refl);
      target_text = (47 ∷ [], (refl, refl));
      minor = omega arith;
      fields = All-replicate IsField 65 _ (is_field (codes "a") [] (omega arith) refl refl);
    },
    refl,
  ),
  omega arith,
)

-- ---- a head that is accepted

abbrev sample_response : ResponseHead
sample_response = record {
  blank = [];
  minor = 1;
  digits = codes "101";
  reason = Some (codes "Switching Protocols");
  line_end = crlf;
  fields =
      record { name = codes "Upgrade"; raw = codes " websocket"; end = crlf }
      ∷ record { name = codes "Connection"; raw = codes " Upgrade"; end = crlf }
      ∷ record { name = codes "Sec-WebSocket-Accept"; raw = codes " s3pPLMBiTxaQ9kYGzzhZRbK+xOo="; end = crlf }
      ∷ [];
  last = crlf;
}

are_fields : All IsField sample_response.fields
unfolding is_token_byte
are_fields zero d below = is_field (codes "Upgrade") (codes " websocket") (omega arith) refl refl
are_fields (suc zero) d below = is_field (codes "Connection") (codes " Upgrade") (omega arith) refl refl
are_fields (suc (suc zero)) d below =
    is_field (codes "Sec-WebSocket-Accept") (codes " s3pPLMBiTxaQ9kYGzzhZRbK+xOo=") (omega arith) refl refl
are_fields (suc (suc (suc k))) d below = absurd (omega (arith, below))

-- the accept value of the sample's nonce
accept_of_sample_nonce : accept_value_of (key_of sample_nonce) ≡ sample_accept
accept_of_sample_nonce = ap accept_value_of key_of_sample ∙ accept_value_of_sample

-- the response is the first 129 bytes, whatever comes after it
pub sample_response_is_read : (more : List ℕ) →
    IsResponseRead sample_nonce [] (response_bytes sample_accept ++ more) (response_answer.Got 129 None)
unfolding print_response is_token_byte trim_ows
sample_response_is_read more = (
  sample_response,
  record {
    reads = (
      record {
        minor = omega arith;
        digits = (refl, passes is_ascii_digit (codes "101") refl);
        reason = passes is_value_byte (codes "Switching Protocols") refl;
        fields = are_fields;
      },
      refl,
    );
    whole = refl;
    headers = omega arith;
  },
  record {
    accepted =
        (refl, (refl, (refl, (refl, (ap (λ value. value ∷ []) (sym accept_of_sample_nonce), (refl, (inl refl, tt)))))));
    choice = λ k d below. absurd (omega (arith, below));
  },
)
