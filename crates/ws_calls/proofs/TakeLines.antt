-- A line that takes a piece, by its name, the word behind it, and the key.
use Rattle.std.proofs.Common.{◌≡◌, ◌∙◌, ℕ, zero, suc, inl, inr, List, [], ◌∷◌, ◌++◌, Result, Ok, Err, ap, refl, subst, sym, arith, codes, get_or, slice_index_or, string_bytes}
use Rattle.std.proofs.lemmas.List.{get_or_default}
use Rattle.ws_base.specs.declared.text_fault.LineFault.{LineFault}
use Rattle.ws_formats.specs.Reading.{AreDigits, IsDigit, IsWord}
use Rattle.ws_formats.specs.Words.{IsHexWord, IsKeyOrDash, space}
use Rattle.ws_formats.proofs.HexReads.{digit_range, pairs_are_digits}
use Rattle.ws_formats.proofs.LineWords.{first_word, split_joined}
use Rattle.ws_wire.specs.Frame.{Frame}
use Rattle.ws_session.specs.Exchange.{Exchange, SessionValue}
use Rattle.ws_session.specs.Replies.{echo_reply_to, reply_to}
use Rattle.ws_session.specs.declared.echo.Echo.{Echo}
use Rattle.ws_session.specs.declared.event.Event.{Event}
use Rattle.ws_session.specs.declared.session.Session.{Session}
use Rattle.ws_text_feed.specs.Taking.{TakesValue}
use Rattle.ws_calls.specs.InnerSteps.{Agrees, HasToldCall, HasToldWord, endpoint_of}
use Rattle.ws_calls.specs.Runs.{HasCalledEcho, HasCalledSession}
use Rattle.ws_calls.specs.Script.{IsCallLine, IsEchoCallLine, IsTakeLine, as_call}
use Rattle.ws_calls.specs.declared.calling.Caller.{Caller}
use Rattle.ws_calls.specs.declared.calls.Call.{Call}
use Rattle.ws_calls.specs.declared.calls.Call.TheVariants.{Send, Take, End}
use Rattle.ws_calls.specs.declared.calls.EchoCall.{EchoCall}
use Rattle.ws_calls.specs.declared.calls.EchoCall.TheVariants as echo
use Rattle.ws_calls.specs.declared.echo_script.EchoName.TheVariants as name
use Rattle.ws_calls.proofs.CallWords.{no_send}
use Rattle.ws_calls.proofs.Making.{called_more}

-- ---- words without a space

take_is_word : IsWord (codes "take")
take_is_word zero d within e = absurd (omega (arith, e))
take_is_word (suc zero) d within e = absurd (omega (arith, e))
take_is_word (suc (suc zero)) d within e = absurd (omega (arith, e))
take_is_word (suc (suc (suc zero))) d within e = absurd (omega (arith, e))
take_is_word (suc (suc (suc (suc k)))) d within e = absurd (omega (arith, within))

dash_is_word : IsWord (codes "-")
dash_is_word zero d within e = absurd (omega (arith, e))
dash_is_word (suc k) d within e = absurd (omega (arith, within))

digit_no_space : (d : ℕ) → IsDigit d → d ≡ 32 → ⊥
digit_no_space d is e = elim (digit_range d is) [
  | inl r ↦ omega (arith, r.0, e)
  | inr r ↦ omega (arith, r.0, e)
]

digits_are_word : (word : List ℕ) → AreDigits word → IsWord word
digits_are_word word all k d within e =
    digit_no_space (get_or word k 0) (all k within) (get_or_default word k 0 d within ∙ e)

key_is_word : (key word : List ℕ) → IsKeyOrDash key word → IsWord word
key_is_word key word (four, inl spelled) = digits_are_word word (pairs_are_digits key word (four.1, spelled))
key_is_word key word (four, inr dash) = subst IsWord (sym dash.0) dash_is_word

-- ---- the line

pub is_take_line : (word key key_word fields line : List ℕ) → line ≡ codes "take " ++ fields
    → (fields ≡ word ++ space ∷ key_word) × IsWord word → IsKeyOrDash key key_word → IsTakeLine word key line
is_take_line word key key_word fields line named cut spelled = record {
  key_word = key_word;
  key_spelled = spelled;
  split = named ∙ ap (λ (l : List ℕ). codes "take " ++ l) cut.0;
  words = first_word (codes "take") fields line named take_is_word
      ∙ ap (λ (l : List (List ℕ)). codes "take" ∷ l)
      (first_word word key_word fields cut.0 cut.1
      ∙ ap (λ (l : List (List ℕ)). word ∷ l) (split_joined key_word [] (key_is_word key key_word spelled, tt)));
}

abbrev head : List (List ℕ) → List ℕ
head words = slice_index_or words 0 []

abbrev second : List (List ℕ) → List ℕ
second words = slice_index_or words 1 []

abbrev first : List ℕ → ℕ
first word = slice_index_or word 0 0

module _ (word key line : List ℕ) (t : IsTakeLine word key line) where
  pub take_call : (piece : List ℕ) → IsHexWord piece word → IsCallLine (Take piece key) line
  take_call piece spelled = (word ∷ t.key_word ∷ [], (word, t.key_word, refl, spelled, t.key_spelled), t.words)

  pub take_echo_call : (piece : List ℕ) → IsHexWord piece word → IsEchoCallLine (echo.Take piece key) line
  take_echo_call piece spelled = (word ∷ t.key_word ∷ [], (word, t.key_word, refl, spelled, t.key_spelled), t.words)

  pub no_echo_call : ((piece : List ℕ) → IsHexWord piece word → ⊥) → (call : EchoCall) → IsEchoCallLine call line → ⊥
  no_echo_call none (echo.Take piece other) (fields, (a, k, are, spelled, key_spelled), parts) =
      let same : a ≡ word = sym (ap second (ap (λ (l : List (List ℕ)). codes "take" ∷ l) are)) ∙ sym (ap second parts) ∙ ap second t.words in
      none piece (subst (IsHexWord piece) same spelled)
  no_echo_call none echo.End (fields, are, parts) =
      absurd (omega (arith, ap first (ap head (sym parts ∙ t.words))))

  pub no_call : ((piece : List ℕ) → IsHexWord piece word → ⊥) → (call : Call) → IsCallLine call line → ⊥
  no_call none (Send what) (called, fields, (named, are), parts) =
      no_send what name.Take (sym named ∙ ap head (sym parts ∙ t.words))
  no_call none (Take piece other) h = no_echo_call none (echo.Take piece other) h
  no_call none End h = no_echo_call none echo.End h

-- ---- what came of it

pub word_taken : {E T U : Type 0} (value : E → SessionValue) (reply : Event → List Frame)
    (IsLineOf : T → List ℕ → Type 0) (HasTaken : Caller E → List T → Caller E → Type 0) (take_of : List ℕ → T)
    (old now : Caller E) (word key line : List ℕ)
    → ((piece : List ℕ) → IsHexWord piece word → IsLineOf (take_of piece) line)
    → (((piece : List ℕ) → IsHexWord piece word → ⊥) → (v : T) → IsLineOf v line → ⊥)
    → ((before : Caller E) (values : List T) (piece : List ℕ) → HasTaken before values old
    → ((exchange : Exchange) → Agrees exchange old.taken (value old.called)
    → HasToldCall (endpoint_of reply (value old.called)) exchange (Take piece key) (string_bytes old.lines) now.taken
    (value now.called) (string_bytes now.lines))
    → HasTaken before (values ++ take_of piece ∷ []) now)
    → (r : Result U LineFault) → HasToldWord value reply old now word key r
    → TakesValue IsLineOf HasTaken old now line r
word_taken value reply IsLineOf HasTaken take_of old now word key line is none more (Ok done) (piece, spelled, told) =
    λ before values made. (take_of piece, is piece spelled, more before values piece made told)
word_taken value reply IsLineOf HasTaken take_of old now word key line is none more (Err fault) h =
    λ e v told. none (h e) v told

pub session_word_taken : {U : Type 0} (old now : Caller Session) (word key line : List ℕ) → IsTakeLine word key line
    → (r : Result U LineFault) → HasToldWord (λ session. session) reply_to old now word key r
    → TakesValue IsCallLine HasCalledSession old now line r
session_word_taken old now word key line t r told =
    word_taken (λ session. session) reply_to IsCallLine HasCalledSession (λ piece. Take piece key) old now word key line
    (take_call word key line t) (no_call word key line t)
    (λ before values piece made h.
    called_more (λ call. call) reply_to before.taken before.called (string_bytes before.lines) values (Take piece key)
    old.taken now.taken old.called now.called (string_bytes old.lines) (string_bytes now.lines) made h)
    r told

pub echo_word_taken : {U : Type 0} (old now : Caller Echo) (word key line : List ℕ) → IsTakeLine word key line
    → (r : Result U LineFault) → HasToldWord (λ echo. echo) echo_reply_to old now word key r
    → TakesValue IsEchoCallLine HasCalledEcho old now line r
echo_word_taken old now word key line t r told =
    word_taken (λ echo. echo) echo_reply_to IsEchoCallLine HasCalledEcho (λ piece. echo.Take piece key) old now word key
    line (take_echo_call word key line t) (no_echo_call word key line t)
    (λ before values piece made h.
    called_more as_call echo_reply_to before.taken before.called (string_bytes before.lines) values
    (echo.Take piece key) old.taken now.taken old.called now.called (string_bytes old.lines) (string_bytes now.lines)
    made h)
    r told
