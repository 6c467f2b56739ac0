-- The words of a call, by its name and the others.
use Rattle.std.proofs.Common.{◌≡◌, ◌∙◌, ◌∷◌, ◌-◌, ℕ, List, [], ap, drop, length, map, refl, slice_index_or, subst, sym, take, arith}
use Rattle.std.proofs.lemmas.List.{take_all}
use Rattle.std.specs.Borrow.{Bor}
use Rattle.ws_sends.specs.declared.keyed_send.KeyedSend.{KeyedSend}
use Rattle.ws_sends.specs.declared.keyed_send.KeyedSend.TheVariants as send
use Rattle.ws_sends.specs.KeyedSends.{AreSendFields, AreSendWords, send_name_of, send_name_word}
use Rattle.ws_calls.specs.declared.calls.Call.{Call}
use Rattle.ws_calls.specs.declared.calls.Call.TheVariants.{Send, Take, End}
use Rattle.ws_calls.specs.declared.calls.EchoCall.{EchoCall}
use Rattle.ws_calls.specs.declared.calls.EchoCall.TheVariants as echo
use Rattle.ws_calls.specs.declared.echo_script.EchoName.{EchoName}
use Rattle.ws_calls.specs.declared.echo_script.EchoName.TheVariants as name
use Rattle.ws_calls.specs.Script.{AreCallWords, AreEchoCallFields, IsEchoCallOf, echo_name_word}

abbrev Words : Type 0
Words = List (Bor (List ℕ))

abbrev nothing : Bor (List ℕ)
nothing = record { ref_ptr = (0, 0); now = [] }

-- the first word, and the others
abbrev pub name_in : Words → List ℕ
name_in words = (slice_index_or words 0 nothing).now

abbrev pub fields_in : Words → List (List ℕ)
fields_in words = map (λ w. w.now) (take (length words - 1) (drop 1 words))

others_are : (w : Bor (List ℕ)) (words : Words) → fields_in (w ∷ words) ≡ map (λ w. w.now) words
others_are w words = ap (λ (l : Words). map (λ w. w.now) l) (take_all (length (w ∷ words) - 1) words (omega arith))

abbrev head : List (List ℕ) → List ℕ
head words = slice_index_or words 0 []

abbrev first : List ℕ → ℕ
first word = slice_index_or word 0 0

pub no_send : (what : KeyedSend) (n : EchoName) → send_name_word (send_name_of what) ≡ echo_name_word n → ⊥
no_send (send.Begin kind payload fin key) name.Take e = absurd (omega (arith, ap first e))
no_send (send.More payload fin key) name.Take e = absurd (omega (arith, ap first e))
no_send (send.Ping payload key) name.Take e = absurd (omega (arith, ap first e))
no_send (send.Pong payload key) name.Take e = absurd (omega (arith, ap first e))
no_send (send.Close given key) name.Take e = absurd (omega (arith, ap first e))
no_send (send.Begin kind payload fin key) name.End e = absurd (omega (arith, ap first e))
no_send (send.More payload fin key) name.End e = absurd (omega (arith, ap first e))
no_send (send.Ping payload key) name.End e = absurd (omega (arith, ap first e))
no_send (send.Pong payload key) name.End e = absurd (omega (arith, ap first e))
no_send (send.Close given key) name.End e = absurd (omega (arith, ap first e))

-- a call whose first word names an echo's call is one
pub echo_told : (n : EchoName) (words : Words) → name_in words ≡ echo_name_word n → (call : Call) → AreCallWords call (map (λ w. w.now) words)
    → (call : EchoCall) × IsEchoCallOf n call (fields_in words)
echo_told n [] e (Send what) h = absurd (let x = h.3 in cc)
echo_told n [] e (Take piece key) h = absurd (let x = h.2 in cc)
echo_told n [] e End h = absurd (let x = h.2 in cc)
echo_told n (w ∷ words) e (Send what) (first, fields, (named, are), parts) = absurd (no_send what n (sym named ∙ sym (ap head parts) ∙ e))
echo_told name.Take (w ∷ words) e (Take piece key) (fields, are, parts) = (
  echo.Take piece key,
  record {
    called_so = refl;
    spelled = subst (AreEchoCallFields (echo.Take piece key)) (sym (ap (λ (l : List (List ℕ)). drop 1 l) parts) ∙ sym (others_are w words)) are;
  },
)
echo_told name.End (w ∷ words) e (Take piece key) (fields, are, parts) = absurd (omega (arith, ap first (sym (ap head parts) ∙ e)))
echo_told name.Take (w ∷ words) e End (fields, are, parts) = absurd (omega (arith, ap first (sym (ap head parts) ∙ e)))
echo_told name.End (w ∷ words) e End (fields, are, parts) = (
  echo.End,
  record {
    called_so = refl;
    spelled = subst (AreEchoCallFields echo.End) (sym (ap (λ (l : List (List ℕ)). drop 1 l) parts) ∙ sym (others_are w words)) are;
  },
)

-- another call is a send
pub send_told : (words : Words) → ((n : EchoName) → name_in words ≡ echo_name_word n → ⊥) → (call : Call) → AreCallWords call (map (λ w. w.now) words)
    → (what : KeyedSend) × AreSendWords what (name_in words) (fields_in words)
send_told [] none (Send what) h = absurd (let x = h.3 in cc)
send_told [] none (Take piece key) h = absurd (let x = h.2 in cc)
send_told [] none End h = absurd (let x = h.2 in cc)
send_told (w ∷ words) none (Send what) (first, fields, (named, are), parts) =
    (what, (ap head parts ∙ named, subst (AreSendFields what) (sym (ap (λ (l : List (List ℕ)). drop 1 l) parts) ∙ sym (others_are w words)) are))
send_told (w ∷ words) none (Take piece key) (fields, are, parts) = absurd (none name.Take (ap head parts))
send_told (w ∷ words) none End (fields, are, parts) = absurd (none name.End (ap head parts))
