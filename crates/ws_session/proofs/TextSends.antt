-- One more payload of a text that is sent: what is kept of it, where it is too long, ends the text or leaves it open.
use Rattle.std.proofs.Common.{◌≡◌, ℕ, ◌+◌, ◌-◌, ◌≤◌, ◌<◌, Bool, true, false, List, ◌++◌, length, Option, Some, None}
use Rattle.std.proofs.Common.{sym, ap, ◌∙◌, arith, subst}
use Rattle.std.proofs.lemmas.List.{length-append}
use Rattle.std.specs.Prelude.{MatchOption}
use Rattle.ws_session.specs.declared.limits.TheConstants.{MAX_MESSAGE}
use Rattle.ws_session.specs.declared.message.Kind.{Kind}
use Rattle.ws_session.specs.declared.message.Kind.TheVariants.{Text}
use Rattle.ws_session.specs.declared.message.Message.{Message}
use Rattle.ws_session.specs.declared.send_fault.SendFault.TheVariants.{TooLong}
use Rattle.ws_session.specs.declared.sending.SentSoFar.TheVariants as so_far
use Rattle.ws_text.specs.Stream.{HasReadText}
use Rattle.ws_session.specs.Exchange.{SendingValue, IsUnfinishedOf}
use Rattle.ws_session.specs.Sends.{IsNoText}
use Rattle.ws_session.specs.InnerSending.{sending_of, IsSentBehind, IsRefusedBehind}

-- the stream has read one more payload, and it is a text so far
abbrev pub IsReadBehind : Message → List ℕ → Bool → Option (List ℕ) → Type 0
IsReadBehind message payload fin new = HasReadText new (message.payload ++ payload)
    × (¬ IsNoText fin (message.payload ++ payload))

pub read_behind : (found : Option (Option (List ℕ))) (text new : Option (List ℕ)) (message : Message)
    (payload : List ℕ) (fin : Bool) → found ≡ Some new
    → ((before : List ℕ) → HasReadText text before → MatchOption found (IsNoText fin (before ++ payload))
    (λ new. HasReadText new (before ++ payload) × (¬ IsNoText fin (before ++ payload))))
    → HasReadText text message.payload → IsReadBehind message payload fin new
read_behind found text new message payload fin is told read =
    subst (λ (o : Option (Option (List ℕ))). MatchOption o (IsNoText fin (message.payload ++ payload))
    (λ x. IsReadBehind message payload fin x)) is (told message.payload read)

pub too_long : (message : Message) (payload : List ℕ) (fin : Bool) (size : ℕ) (new : Option (List ℕ))
    → size ≡ length message.payload → size ≤ MAX_MESSAGE → MAX_MESSAGE - size < length payload
    → IsReadBehind message payload fin new → IsRefusedBehind message payload fin TooLong
too_long message payload fin size new same most long is = (λ _. is.1, omega (arith, same, most, long))

pub ended : (message : Message) (payload : List ℕ) (fin : Bool) (size : ℕ) (new : Option (List ℕ))
    (after : Option SendingValue) → size ≡ length message.payload → size ≤ MAX_MESSAGE
    → length payload ≤ MAX_MESSAGE - size → fin ≡ true → after ≡ None → IsReadBehind message payload fin new
    → IsSentBehind message payload fin after
ended message payload true size new None same most fits e none is =
    record { text = λ _. is.1; size = omega (arith, same, most, fits); sending = tt }
ended message payload true size new (Some x) same most fits e none is = absurd cc
ended message payload false size new after same most fits e none is = absurd cc

pub left_open : (message : Message) (payload : List ℕ) (fin : Bool) (size : ℕ) (new : Option (List ℕ))
    → message.kind ≡ Text → size ≡ length message.payload → size ≤ MAX_MESSAGE
    → length payload ≤ MAX_MESSAGE - size → fin ≡ false → IsReadBehind message payload fin new
    → IsSentBehind message payload fin (sending_of (Some (so_far.Text (size + length payload) new)))
left_open message payload fin size None text same most fits e is = absurd is.0
left_open message payload true size (Some tail) text same most fits e is = absurd cc
left_open message payload false size (Some tail) text same most fits e is = record {
  text = λ _. is.1;
  size = omega (arith, same, most, fits);
  sending = (
    sym text,
    ap (λ n. n + length payload) same ∙ sym (length-append message.payload payload),
    subst (λ (k : Kind). IsUnfinishedOf k (message.payload ++ payload) tail) (sym text) is.0,
  );
}
