-- A frame's line tells one step.
use Rattle.std.proofs.Common.{◌≡◌, ◌≢◌, ◌∙◌, ℕ, zero, suc, ◌<◌, ◌≤◌, ◌^◌, inl, inr, if◌then◌else◌}
use Rattle.std.proofs.Common.{◌==◌, List, [], ◌++◌, drop, ap}
use Rattle.std.proofs.Common.{ap₂, sym, refl, subst, arith, codes, slice_index}
use Rattle.std.proofs.lemmas.Bool.Decides.{nat_tests}
use Rattle.std.proofs.lemmas.Fmt.{decimal_injective, decimal_is_IsNumeral}
use Rattle.std.proofs.lemmas.List.{append_cancel_left}
use Rattle.std.proofs.lemmas.List.Elements.{All-append}
use Rattle.std.specs.Fmt.{decimal}
use Rattle.std.specs.Int.{w16, to_be_bytes}
use Rattle.std.specs.Str.Parse.{digits_value}
use Rattle.ws_formats.specs.Words.{IsNumberWord}
use Rattle.ws_formats.proofs.NumberWords.{number_one}
use Rattle.ws_formats.specs.Words.{opcode_word}
use Rattle.ws_scripts.specs.declared.script.Step.{Step}
use Rattle.ws_scripts.specs.declared.script_text.fields.FrameFields.{FrameFields}
use Rattle.ws_scripts.specs.declared.script_text.frame_line.FrameName.{FrameName}
use Rattle.ws_scripts.specs.declared.script_text.frame_line.FrameName.TheVariants.{CloseWith, Kind}
use Rattle.ws_scripts.specs.ScriptLines.{IsFrameLine, IsFrameName, IsFrameStepLine, IsPayloadField, frame_name_word}
use Rattle.ws_scripts.specs.ScriptLines.{IsDataWord, IsField, frame_step, named_opcode}
use Rattle.ws_scripts.specs.InnerScripting.{CutsFields, CutsWord, IsFrameRest, IsLaidOut, IsReserved, NoSpace}
use Rattle.ws_scripts.proofs.ScriptData.{data_one}
use Rattle.ws_scripts.proofs.ScriptFields.{after_frame_name, cut_of_line, fields_cut, line_of_cut, tail_is_rest}
use Rattle.ws_scripts.proofs.ScriptWords.{IsNot, avoids_by, number_avoids, one_word}

-- ---- the names of opcodes

module _ (P : ℕ → Type 0) (a : P 0) (b : P 1) (c : P 2) (d : P 8) (e : P 9) (f : P 10)
    (r : (opcode : ℕ) → IsReserved opcode → P opcode) where
  pub opcode_by : (opcode : ℕ) → opcode < 16 → P opcode
  opcode_by zero h = a
  opcode_by (suc zero) h = b
  opcode_by (suc (suc zero)) h = c
  opcode_by (suc (suc (suc zero))) h = r 3 (inl (omega arith, omega arith))
  opcode_by (suc (suc (suc (suc zero)))) h = r 4 (inl (omega arith, omega arith))
  opcode_by (suc (suc (suc (suc (suc zero))))) h = r 5 (inl (omega arith, omega arith))
  opcode_by (suc (suc (suc (suc (suc (suc zero)))))) h = r 6 (inl (omega arith, omega arith))
  opcode_by (suc (suc (suc (suc (suc (suc (suc zero))))))) h = r 7 (inl (omega arith, omega arith))
  opcode_by (suc (suc (suc (suc (suc (suc (suc (suc zero)))))))) h = d
  opcode_by (suc (suc (suc (suc (suc (suc (suc (suc (suc zero))))))))) h = e
  opcode_by (suc (suc (suc (suc (suc (suc (suc (suc (suc (suc zero)))))))))) h = f
  opcode_by (suc (suc (suc (suc (suc (suc (suc (suc (suc (suc (suc zero))))))))))) h =
      r 11 (inr (omega arith, omega arith))
  opcode_by (suc (suc (suc (suc (suc (suc (suc (suc (suc (suc (suc (suc zero)))))))))))) h =
      r 12 (inr (omega arith, omega arith))
  opcode_by (suc (suc (suc (suc (suc (suc (suc (suc (suc (suc (suc (suc (suc zero))))))))))))) h =
      r 13 (inr (omega arith, omega arith))
  opcode_by (suc (suc (suc (suc (suc (suc (suc (suc (suc (suc (suc (suc (suc (suc zero)))))))))))))) h =
      r 14 (inr (omega arith, omega arith))
  opcode_by (suc (suc (suc (suc (suc (suc (suc (suc (suc (suc (suc (suc (suc (suc (suc zero))))))))))))))) h =
      r 15 (inr (omega arith, omega arith))
  opcode_by (suc (suc (suc (suc (suc (suc (suc (suc (suc (suc (suc (suc (suc (suc (suc (suc n)))))))))))))))) h =
      absurd (omega arith)

pub reserved_word : (opcode : ℕ) → IsReserved opcode → opcode_word opcode ≡ codes "op" ++ decimal opcode
reserved_word opcode (inl h) = grind (arith, nat_tests)
reserved_word opcode (inr h) = grind (arith, nat_tests)

-- the opcode of a name
opcode_in : List ℕ → ℕ
opcode_in word =
    if slice_index word 0 == 111 then digits_value 10 (drop 2 word)
    else (if slice_index word 0 == 116 then 1
    else (if slice_index word 0 == 98 then 2
    else (if slice_index word 0 == 112 then (if slice_index word 1 == 105 then 9 else 10)
    else (if slice_index word 1 == 111 then 0 else 8))))

opcode_found : (opcode : ℕ) → opcode < 16 → opcode_in (opcode_word opcode) ≡ opcode
unfolding opcode_in
opcode_found = opcode_by (λ (o : ℕ). opcode_in (opcode_word o) ≡ o) refl refl refl refl refl refl
    (λ o h. ap opcode_in (reserved_word o h) ∙ (decimal_is_IsNumeral o (below o h)).1)
  where
    below : (o : ℕ) → IsReserved o → o < 2 ^ 64
    below o (inl h) = omega (arith, h.1)
    below o (inr h) = omega (arith, h.1)

same_opcode : (a b : ℕ) → a < 16 → b < 16 → opcode_word a ≡ opcode_word b → a ≡ b
same_opcode a b h i e = sym (opcode_found a h) ∙ (ap opcode_in e ∙ opcode_found b i)

no_close : (opcode : ℕ) → opcode < 16 → (word : List ℕ) → opcode_word opcode ≡ codes "close=" ++ word → ⊥
no_close opcode h word = opcode_by (λ (o : ℕ). opcode_word o ≡ codes "close=" ++ word → ⊥)
    (λ e. omega (arith, ap (λ (l : List ℕ). slice_index l 5) e))
    (λ e. omega (arith, ap (λ (l : List ℕ). slice_index l 5) e))
    (λ e. omega (arith, ap (λ (l : List ℕ). slice_index l 5) e))
    (λ e. omega (arith, ap (λ (l : List ℕ). slice_index l 5) e))
    (λ e. omega (arith, ap (λ (l : List ℕ). slice_index l 5) e))
    (λ e. omega (arith, ap (λ (l : List ℕ). slice_index l 5) e))
    (λ o r e. omega (arith, ap (λ (l : List ℕ). slice_index l 0) (sym (reserved_word o r) ∙ e)))
    opcode h

op_digits_bare : (opcode : ℕ) → IsReserved opcode → NoSpace (codes "op" ++ decimal opcode)
op_digits_bare opcode h = All-append (IsNot 32) (codes "op") (decimal opcode) (avoids_by 32 (codes "op") refl)
    (number_avoids 32 15 opcode (decimal opcode) (omega arith) (omega arith) (small h, refl))
  where
    small : IsReserved opcode → opcode ≤ 15
    small (inl h) = omega (arith, h.1)
    small (inr h) = h.1

pub name_bare : (name : FrameName) → IsFrameName name → NoSpace (frame_name_word name)
name_bare (Kind opcode) h = opcode_by (λ (o : ℕ). NoSpace (opcode_word o)) (avoids_by 32 (codes "cont") refl)
    (avoids_by 32 (codes "text") refl) (avoids_by 32 (codes "binary") refl) (avoids_by 32 (codes "close") refl)
    (avoids_by 32 (codes "ping") refl) (avoids_by 32 (codes "pong") refl)
    (λ o r. subst (λ (l : List ℕ). NoSpace l) (sym (reserved_word o r)) (op_digits_bare o r)) opcode h
name_bare (CloseWith code) h =
    All-append (IsNot 32) (codes "close=") (decimal code) (avoids_by 32 (codes "close=") refl)
    (number_avoids 32 65535 code (decimal code) (omega arith) (omega arith) (h, refl))

pub name_one : (a b : FrameName) → IsFrameName a → IsFrameName b → frame_name_word a ≡ frame_name_word b → a ≡ b
name_one (Kind a) (Kind b) h i e = ap Kind (same_opcode a b h i e)
name_one (Kind a) (CloseWith b) h i e = absurd (no_close a h (decimal b) e)
name_one (CloseWith a) (Kind b) h i e = absurd (no_close b i (decimal a) (sym e))
name_one (CloseWith a) (CloseWith b) h i e =
    ap CloseWith
    (decimal_injective a b (omega (arith, h)) (omega (arith, i))
    (append_cancel_left (codes "close=") (decimal a) (decimal b) e))

-- a name that begins as one with a code is one, and another isn't
pub code_of_name : (name : FrameName) (word : List ℕ) → IsFrameName name → frame_name_word name ≡ codes "close=" ++ word
    → (code : ℕ) × (name ≡ CloseWith code) × (code ≤ 65535) × (word ≡ decimal code)
code_of_name (Kind opcode) word h e = absurd (no_close opcode h word e)
code_of_name (CloseWith code) word h e =
    (code, refl, h, sym (append_cancel_left (codes "close=") (decimal code) word e))

pub kind_of_name : (name : FrameName) → IsFrameName name
    → ((more : List ℕ) → frame_name_word name ≡ codes "close=" ++ more → ⊥)
    → (opcode : ℕ) × (opcode < 16) × (frame_name_word name ≡ opcode_word opcode)
kind_of_name (Kind opcode) h other = (opcode, h, refl)
kind_of_name (CloseWith code) h other = absurd (other (decimal code) refl)

-- the first letters of a frame's line are none of those of other lines
abbrev pub IsFrameFront : List ℕ → Type 0
IsFrameFront words = (98 ≤ slice_index words 0) × (slice_index words 0 ≢ 119) × (slice_index words 0 ≢ 114)
    × (slice_index words 0 ≡ 99 → slice_index words 1 ≢ 104)

front_by : (words : List ℕ) (a b : ℕ) → slice_index words 0 ≡ a → slice_index words 1 ≡ b → 98 ≤ a → a ≢ 119 → a ≢ 114
    → (a ≡ 99 → b ≢ 104) → IsFrameFront words
front_by words a b e f above not_wait not_raw not_chop = (
  omega (arith, e),
  λ g. not_wait (sym e ∙ g),
  λ g. not_raw (sym e ∙ g),
  λ g h. not_chop (sym e ∙ g) (sym f ∙ h),
)

pub name_front : (name : FrameName) → IsFrameName name → (rest : List ℕ) → IsFrameFront (frame_name_word name ++ rest)
name_front (Kind opcode) h rest = opcode_by (λ (o : ℕ). IsFrameFront (opcode_word o ++ rest))
    (front_by (codes "cont" ++ rest) 99 111 refl refl (omega arith) (omega arith) (omega arith) (λ e. omega arith))
    (front_by (codes "text" ++ rest) 116 101 refl refl (omega arith) (omega arith) (omega arith) (λ e. omega arith))
    (front_by (codes "binary" ++ rest) 98 105 refl refl (omega arith) (omega arith) (omega arith) (λ e. omega arith))
    (front_by (codes "close" ++ rest) 99 108 refl refl (omega arith) (omega arith) (omega arith) (λ e. omega arith))
    (front_by (codes "ping" ++ rest) 112 105 refl refl (omega arith) (omega arith) (omega arith) (λ e. omega arith))
    (front_by (codes "pong" ++ rest) 112 111 refl refl (omega arith) (omega arith) (omega arith) (λ e. omega arith))
    (λ o r. subst (λ (l : List ℕ). IsFrameFront (l ++ rest)) (sym (reserved_word o r))
    (front_by ((codes "op" ++ decimal o) ++ rest) 111 112 refl refl (omega arith) (omega arith) (omega arith)
    (λ e. omega arith)))
    opcode h
name_front (CloseWith code) h rest =
    front_by ((codes "close=" ++ decimal code) ++ rest) 99 108 refl refl (omega arith) (omega arith) (omega arith)
    (λ e. omega arith)

-- ---- the payload

pub payload_one : (name : FrameName) (a b last : List ℕ) → IsPayloadField name a last → IsPayloadField name b last
    → a ≡ b
payload_one (Kind opcode) a b last (word, is, e) (other, too, f) =
    let same = append_cancel_left (codes " ") word other (sym e ∙ f) in
    data_one a b word is (subst (λ (l : List ℕ). IsDataWord b l) (sym same) too)
payload_one (CloseWith code) a b last (x, p, e) (y, q, f) =
    e ∙ (ap (λ (l : List ℕ). to_be_bytes w16 code ++ l) (of_fields p q) ∙ sym f)
  where
    of_fields : IsField (codes " ") [] IsDataWord x last → IsField (codes " ") [] IsDataWord y last → x ≡ y
    of_fields (inl (g, h)) (inl (i, j)) = g ∙ sym i
    of_fields (inl (g, h)) (inr (word, is, i)) = let wrong : [] ≡ codes " " ++ word = sym h ∙ i in absurd cc
    of_fields (inr (word, is, i)) (inl (g, h)) = let wrong : [] ≡ codes " " ++ word = sym h ∙ i in absurd cc
    of_fields (inr (word, is, g)) (inr (other, too, h)) =
        let same = append_cancel_left (codes " ") word other (sym g ∙ h) in
        data_one x y word is (subst (λ (l : List ℕ). IsDataWord y l) (sym same) too)

-- ---- the line

-- the name and the rest that a line is cut into are its own
cut_line : (words word rest : List ℕ) → CutsWord words word rest → (name : FrameName) (fields : FrameFields)
    → (payload : List ℕ) → (h : IsFrameLine name fields payload words)
    → (word ≡ frame_name_word name) × (rest ≡ after_frame_name h)
cut_line words word rest (e, bare, ends) name fields payload h =
    one_word word (frame_name_word name) rest (after_frame_name h) bare (name_bare name h.named) ends
    (tail_is_rest name fields payload words h) (sym e ∙ h.all)

pub name_of_line : (words word rest : List ℕ) (step : Step) → CutsWord words word rest → IsFrameStepLine step words
    → (name : FrameName) × IsFrameName name × (word ≡ frame_name_word name)
name_of_line words word rest step cut (name, fields, payload, h, e) =
    (name, h.named, (cut_line words word rest cut name fields payload h).0)

pub rest_of_line : (words word rest : List ℕ) (step : Step) (name : FrameName) → CutsWord words word rest
    → IsFrameName name → word ≡ frame_name_word name → IsFrameStepLine step words → IsFrameRest name step rest
rest_of_line words word rest step name cut named same (other, fields, payload, h, e) =
    let parts = cut_line words word rest cut other fields payload h in
    let names : other ≡ name = name_one other name h.named named (sym parts.0 ∙ same) in
    record {
      fields = fields;
      payload = payload;
      last = h.last;
      cut = subst (λ (l : List ℕ). CutsFields fields h.last l) (sym parts.1)
          (cut_of_line other fields payload words h);
      is_payload = subst (λ (n : FrameName). IsPayloadField n payload h.last) names h.is_payload;
      fits = h.fits;
      is_step = e ∙ ap (λ (n : FrameName). frame_step fields (named_opcode n) payload) names;
    }

pub line_of_rest : (words word rest : List ℕ) (step : Step) (name : FrameName) → words ≡ word ++ rest
    → IsFrameName name → word ≡ frame_name_word name → IsFrameRest name step rest → IsFrameStepLine step words
line_of_rest words word rest step name e named same h = (
  name,
  h.fields,
  h.payload,
  line_of_cut name h.fields h.payload words rest h.last named (e ∙ ap (λ (l : List ℕ). l ++ rest) same) h.cut
      h.is_payload h.fits,
  h.is_step,
)

pub rest_one : (a b : Step) (name : FrameName) (text : List ℕ) → IsFrameRest name a text → IsFrameRest name b text
    → a ≡ b
rest_one a b name text h i =
    let cuts = fields_cut h.fields i.fields h.last i.last text h.cut i.cut in
    let payloads = payload_one name h.payload i.payload h.last h.is_payload
    (subst (λ (l : List ℕ). IsPayloadField name i.payload l) (sym cuts.1) i.is_payload) in
    h.is_step
    ∙ (ap₂ (λ (fields : FrameFields) (payload : List ℕ). frame_step fields (named_opcode name) payload) cuts.0 payloads
    ∙ sym i.is_step)

pub frame_one : (a b : Step) (words : List ℕ) → IsFrameStepLine a words → IsFrameStepLine b words → a ≡ b
frame_one a b words (name, fields, payload, h, e) other =
    let cut : CutsWord words (frame_name_word name) (after_frame_name h) =
    (h.all, name_bare name h.named, tail_is_rest name fields payload words h) in
    rest_one a b name (after_frame_name h)
    (rest_of_line words (frame_name_word name) (after_frame_name h) a name cut h.named refl
    (name, fields, payload, h, e))
    (rest_of_line words (frame_name_word name) (after_frame_name h) b name cut h.named refl other)

pub frame_front : (step : Step) (words : List ℕ) → IsFrameStepLine step words → IsFrameFront words
frame_front step words (name, fields, payload, h, e) =
    subst (λ (l : List ℕ). IsFrameFront l) (sym h.all) (name_front name h.named (after_frame_name h))

-- ---- what is read of its parts

-- digits after `op` tell a reserved number where another one is told by the same word
pub reserved_number : (word digits : List ℕ) (number value : ℕ) → word ≡ codes "op" ++ digits
    → IsNumberWord 15 number digits → IsReserved value × (word ≡ codes "op" ++ decimal value)
    → (3 ≤ number) × (7 < number → 11 ≤ number)
reserved_number word digits number value e h (r, f) =
    let same : digits ≡ decimal value = append_cancel_left (codes "op") digits (decimal value) (sym e ∙ f) in
    of_sum r (number_one 15 15 number value digits (omega arith) (omega arith) h (small r, same))
  where
    small : IsReserved value → value ≤ 15
    small (inl r) = omega (arith, r.1)
    small (inr r) = r.1

    of_sum : IsReserved value → number ≡ value → (3 ≤ number) × (7 < number → 11 ≤ number)
    of_sum (inl r) e = (omega (arith, r.0, e), λ above. absurd (omega (arith, r.1, e, above)))
    of_sum (inr r) e = (omega (arith, r.0, e), λ above. omega (arith, r.0, e))

pub close_data : (code : ℕ) (payload text word : List ℕ) → text ≡ codes " " ++ word
    → IsPayloadField (CloseWith code) payload text → (bytes : List ℕ) × IsDataWord bytes word
close_data code payload text word e (bytes, inl (f, g), h) =
    let wrong : [] ≡ codes " " ++ word = sym g ∙ e in absurd cc
close_data code payload text word e (bytes, inr (other, is, g), h) =
    let same = append_cancel_left (codes " ") other word (sym g ∙ e) in
    (bytes, subst (λ (l : List ℕ). IsDataWord bytes l) same is)

pub close_read : (code : ℕ) (bytes payload text word : List ℕ) → text ≡ codes " " ++ word → IsDataWord bytes word
    → payload ≡ to_be_bytes w16 code ++ bytes → IsPayloadField (CloseWith code) payload text
close_read code bytes payload text word e is joined = (bytes, inr (word, is, e), joined)

pub kind_data : (name : FrameName) (opcode : ℕ) (payload text word : List ℕ) → name ≡ Kind opcode
    → text ≡ codes " " ++ word → IsPayloadField name payload text → IsDataWord payload word
kind_data name opcode payload text word same e h =
    let (other, is, f) = subst (λ (n : FrameName). IsPayloadField n payload text) same h in
    subst (λ (l : List ℕ). IsDataWord payload l) (append_cancel_left (codes " ") other word (sym f ∙ e)) is

pub of_name : (a b : FrameName) (payload text : List ℕ) → a ≡ b → IsPayloadField a payload text
    → IsPayloadField b payload text
of_name a b payload text same h = subst (λ (n : FrameName). IsPayloadField n payload text) same h

pub frame_payload : (step : Step) (name : FrameName) (text : List ℕ) (fields : FrameFields) (last : List ℕ)
    → CutsFields fields last text → IsFrameRest name step text → (payload : List ℕ) × IsPayloadField name payload last
frame_payload step name text fields last cut h =
    let cuts = fields_cut h.fields fields h.last last text h.cut cut in
    (h.payload, subst (λ (l : List ℕ). IsPayloadField name h.payload l) cuts.1 h.is_payload)

pub frame_laid_out : (step : Step) (name : FrameName) (text : List ℕ) (fields : FrameFields) (last : List ℕ)
    (opcode : ℕ) (payload : List ℕ) → opcode ≡ named_opcode name → CutsFields fields last text
    → IsPayloadField name payload last → IsFrameRest name step text → IsLaidOut fields opcode payload step
frame_laid_out step name text fields last opcode payload same cut is h =
    let cuts = fields_cut h.fields fields h.last last text h.cut cut in
    let payloads = payload_one name h.payload payload last
    (subst (λ (l : List ℕ). IsPayloadField name h.payload l) cuts.1 h.is_payload) is in
    subst (λ (x : FrameFields). IsLaidOut x opcode payload step) cuts.0
    (subst (λ (x : List ℕ). IsLaidOut h.fields opcode x step) payloads
    (subst (λ (x : ℕ). IsLaidOut h.fields x h.payload step) (sym same) (h.fits, h.is_step)))
