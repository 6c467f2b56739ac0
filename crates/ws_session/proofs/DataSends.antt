-- One frame of a message that is sent, behind what is open: what is wrong with it, and what is open after it.
use Rattle.std.proofs.Common.{◌≡◌, ℕ, ◌≤◌, Bool, false, List, [], ◌++◌, length, Option, Some, None, Result, Ok, Err, refl, sym, ◌∙◌, arith, subst}
use Rattle.std.specs.Prelude.{is_some, MatchResult}
use Rattle.ws_session.specs.declared.message.Kind.{Kind}
use Rattle.ws_session.specs.declared.message.Kind.TheVariants.{Text, Binary}
use Rattle.ws_session.specs.declared.message.Message.{Message}
use Rattle.ws_session.specs.declared.send_fault.SendFault.{SendFault}
use Rattle.ws_session.specs.declared.send_fault.SendFault.TheVariants.{Over, Busy, NothingOpen, NotText, TooLong, BadCode, NoMemory}
use Rattle.ws_session.specs.declared.sending.SentSoFar.{SentSoFar}
use Rattle.ws_session.specs.declared.sending.SentSoFar.TheVariants as so_far
use Rattle.ws_text.specs.Stream.{HasReadText}
use Rattle.ws_session.specs.Exchange.{SendingValue, IsUnfinishedOf, IsSendingOf}
use Rattle.ws_session.specs.InnerNextFrame.{opened_with}
use Rattle.ws_session.specs.Sends.{Begin, More, frame_of, IsNoText, IsWrongWith, number_of_fault}
use Rattle.ws_session.specs.InnerSending.{sending_of, kept_tail, HasReadSome, IsSentBehind, IsRefusedBehind, sent_behind, IsFineWith, IsFirstWrongWith, IsSentWith}
use Rattle.ws_session.proofs.StatusReplies.{nothing_open}

begun_none : (kind : Kind) (payload : List ℕ) (fin : Bool) (after : Option SendingValue) → IsSentBehind (record { kind = kind; payload = [] }) payload fin after → IsFineWith None (Begin kind payload fin)
begun_none kind payload fin after is Over a = a
begun_none kind payload fin after is Busy a = a refl
begun_none kind payload fin after is NothingOpen a = a
begun_none kind payload fin after is NotText a = is.text a.0 a.1
begun_none kind payload fin after is TooLong a = omega (arith, is.size)
begun_none kind payload fin after is BadCode a = a
begun_none kind payload fin after is NoMemory a = a

begun_opens : (kind : Kind) (payload : List ℕ) (fin : Bool) → sent_behind (record { kind = kind; payload = [] }) payload fin ≡ opened_with None (frame_of (Begin kind payload fin))
begun_opens Text payload fin = refl
begun_opens Binary payload fin = refl

-- the first frame of a message
pub begun_sent : (kind : Kind) (payload : List ℕ) (fin : Bool) (after : Option SendingValue) → IsSentBehind (record { kind = kind; payload = [] }) payload fin after → IsSentWith None (Begin kind payload fin) after
begun_sent kind payload fin after is = record {
  fine = begun_none kind payload fin after is;
  sending = subst (λ (o : Option Message). IsSendingOf o after) (begun_opens kind payload fin) is.sending;
}

begun_text_first : (kind : Kind) (payload : List ℕ) (fin : Bool) (other : SendFault) → IsWrongWith None (Begin kind payload fin) other → 4 ≤ number_of_fault other
begun_text_first kind payload fin Over a = absurd a
begun_text_first kind payload fin Busy a = absurd (a refl)
begun_text_first kind payload fin NothingOpen a = absurd a
begun_text_first kind payload fin NotText a = omega arith
begun_text_first kind payload fin TooLong a = omega arith
begun_text_first kind payload fin BadCode a = absurd a
begun_text_first kind payload fin NoMemory a = absurd a

begun_long_first : (kind : Kind) (payload : List ℕ) (fin : Bool) → (kind ≡ Text → ¬ IsNoText fin payload) → (other : SendFault) → IsWrongWith None (Begin kind payload fin) other → 5 ≤ number_of_fault other
begun_long_first kind payload fin text Over a = absurd a
begun_long_first kind payload fin text Busy a = absurd (a refl)
begun_long_first kind payload fin text NothingOpen a = absurd a
begun_long_first kind payload fin text NotText a = absurd (text a.0 a.1)
begun_long_first kind payload fin text TooLong a = omega arith
begun_long_first kind payload fin text BadCode a = absurd a
begun_long_first kind payload fin text NoMemory a = absurd a

pub begun_refused : (kind : Kind) (payload : List ℕ) (fin : Bool) (fault : SendFault) → IsRefusedBehind (record { kind = kind; payload = [] }) payload fin fault → IsFirstWrongWith None (Begin kind payload fin) fault
begun_refused kind payload fin NotText is = record { wrong = is; first = begun_text_first kind payload fin }
begun_refused kind payload fin TooLong is = record { wrong = omega (arith, is.1); first = begun_long_first kind payload fin is.0 }
begun_refused kind payload fin Over is = absurd is
begun_refused kind payload fin Busy is = absurd is
begun_refused kind payload fin NothingOpen is = absurd is
begun_refused kind payload fin BadCode is = absurd is
begun_refused kind payload fin NoMemory is = absurd is

-- a message is open already
busy_first : (message : Message) (kind : Kind) (payload : List ℕ) (fin : Bool) (other : SendFault) → IsWrongWith (Some message) (Begin kind payload fin) other → 2 ≤ number_of_fault other
busy_first message kind payload fin Over a = absurd a
busy_first message kind payload fin Busy a = omega arith
busy_first message kind payload fin NothingOpen a = absurd a
busy_first message kind payload fin NotText a = omega arith
busy_first message kind payload fin TooLong a = omega arith
busy_first message kind payload fin BadCode a = absurd a
busy_first message kind payload fin NoMemory a = absurd a

pub begun_busy : (message : Message) (kind : Kind) (payload : List ℕ) (fin : Bool) → IsFirstWrongWith (Some message) (Begin kind payload fin) Busy
begun_busy message kind payload fin = record { wrong = λ e. absurd cc; first = busy_first message kind payload fin }

-- the next frame of a message
more_fine : (message : Message) (payload : List ℕ) (fin : Bool) (after : Option SendingValue) → IsSentBehind message payload fin after → IsFineWith (Some message) (More payload fin)
more_fine message payload fin after is Over a = a
more_fine message payload fin after is Busy a = a
more_fine message payload fin after is NothingOpen a = absurd cc
more_fine message payload fin after is NotText a = is.text a.0 a.1
more_fine message payload fin after is TooLong a = omega (arith, is.size)
more_fine message payload fin after is BadCode a = a
more_fine message payload fin after is NoMemory a = a

pub more_sent : (message : Message) (payload : List ℕ) (fin : Bool) (after : Option SendingValue) → IsSentBehind message payload fin after → IsSentWith (Some message) (More payload fin) after
more_sent message payload fin after is = record { fine = more_fine message payload fin after is; sending = is.sending }

more_text_first : (message : Message) (payload : List ℕ) (fin : Bool) (other : SendFault) → IsWrongWith (Some message) (More payload fin) other → 4 ≤ number_of_fault other
more_text_first message payload fin Over a = absurd a
more_text_first message payload fin Busy a = absurd a
more_text_first message payload fin NothingOpen a = absurd cc
more_text_first message payload fin NotText a = omega arith
more_text_first message payload fin TooLong a = omega arith
more_text_first message payload fin BadCode a = absurd a
more_text_first message payload fin NoMemory a = absurd a

more_long_first : (message : Message) (payload : List ℕ) (fin : Bool) → (message.kind ≡ Text → ¬ IsNoText fin (message.payload ++ payload)) → (other : SendFault) → IsWrongWith (Some message) (More payload fin) other → 5 ≤ number_of_fault other
more_long_first message payload fin text Over a = absurd a
more_long_first message payload fin text Busy a = absurd a
more_long_first message payload fin text NothingOpen a = absurd cc
more_long_first message payload fin text NotText a = absurd (text a.0 a.1)
more_long_first message payload fin text TooLong a = omega arith
more_long_first message payload fin text BadCode a = absurd a
more_long_first message payload fin text NoMemory a = absurd a

pub more_refused : (message : Message) (payload : List ℕ) (fin : Bool) (fault : SendFault) → IsRefusedBehind message payload fin fault → IsFirstWrongWith (Some message) (More payload fin) fault
more_refused message payload fin NotText is = record { wrong = is; first = more_text_first message payload fin }
more_refused message payload fin TooLong is = record { wrong = is.1; first = more_long_first message payload fin is.0 }
more_refused message payload fin Over is = absurd is
more_refused message payload fin Busy is = absurd is
more_refused message payload fin NothingOpen is = absurd is
more_refused message payload fin BadCode is = absurd is
more_refused message payload fin NoMemory is = absurd is

-- no message is open
none_first : (payload : List ℕ) (fin : Bool) (other : SendFault) → IsWrongWith None (More payload fin) other → 3 ≤ number_of_fault other
none_first payload fin Over a = absurd a
none_first payload fin Busy a = absurd a
none_first payload fin NothingOpen a = omega arith
none_first payload fin NotText a = absurd a.0
none_first payload fin TooLong a = omega arith
none_first payload fin BadCode a = absurd a
none_first payload fin NoMemory a = absurd a

pub more_of_none : (payload : List ℕ) (fin : Bool) → IsFirstWrongWith None (More payload fin) NothingOpen
more_of_none payload fin = record { wrong = refl; first = none_first payload fin }

-- what is kept, and a payload behind it
matched : {A B : Type 0} (r : Result A B) (P Q : A → Type 0) (R S : B → Type 0) → ((x : A) → P x → Q x) → ((y : B) → R y → S y) → MatchResult r P R → MatchResult r Q S
matched (Ok x) P Q R S p q is = p x is
matched (Err y) P Q R S p q is = q y is

nothing_kept : (held : Option SentSoFar) → false ≡ is_some held → sending_of held ≡ None
nothing_kept None e = refl
nothing_kept (Some x) e = absurd cc

pub begun_checked : (result : Result (Option SendingValue) SendFault) (given kind : Kind) (payload : List ℕ) (fin : Bool) (held : Option SentSoFar) (now : Option SendingValue) (opened : Option Message) → given ≡ kind → false ≡ is_some held → sending_of held ≡ now → IsSendingOf opened now
    → MatchResult result (IsSentBehind (record { kind = kind; payload = [] }) payload fin) (IsRefusedBehind (record { kind = kind; payload = [] }) payload fin)
    → MatchResult result (λ after. IsSentWith opened (Begin given payload fin) after) (λ fault. IsFirstWrongWith opened (Begin given payload fin) fault)
begun_checked result given kind payload fin held now opened same none view is checked =
    let closed : opened ≡ None = nothing_open opened (subst (λ (o : Option SendingValue). IsSendingOf opened o) (sym view ∙ nothing_kept held none) is) in
    subst (λ (k : Kind). MatchResult result (λ after. IsSentWith opened (Begin k payload fin) after) (λ fault. IsFirstWrongWith opened (Begin k payload fin) fault)) (sym same)
    (subst (λ (o : Option Message). MatchResult result (λ after. IsSentWith o (Begin kind payload fin) after) (λ fault. IsFirstWrongWith o (Begin kind payload fin) fault)) (sym closed)
    (matched result (IsSentBehind (record { kind = kind; payload = [] }) payload fin) (IsSentWith None (Begin kind payload fin)) (IsRefusedBehind (record { kind = kind; payload = [] }) payload fin) (IsFirstWrongWith None (Begin kind payload fin))
    (begun_sent kind payload fin) (begun_refused kind payload fin) checked))

-- the stream has read the open text
text_read : (kind : Kind) (payload : List ℕ) (text : Option (List ℕ)) → kind ≡ Text → HasReadSome text → IsUnfinishedOf kind payload (kept_tail text) → HasReadText text payload
text_read Text payload None e some is = absurd some.1
text_read Text payload (Some tail) e some is = is
text_read Binary payload text e some is = absurd cc

pub text_checked : (result : Result (Option SendingValue) SendFault) (size : ℕ) (text : Option (List ℕ)) (payload : List ℕ) (fin : Bool) (now : Option SendingValue) (opened : Option Message) → sending_of (Some (so_far.Text size text)) ≡ now → IsSendingOf opened now → HasReadSome text
    → ((message : Message) → message.kind ≡ Text → size ≡ length message.payload → HasReadText text message.payload → MatchResult result (IsSentBehind message payload fin) (IsRefusedBehind message payload fin))
    → MatchResult result (λ after. IsSentWith opened (More payload fin) after) (λ fault. IsFirstWrongWith opened (More payload fin) fault)
text_checked result size text payload fin now None view is some checked = absurd (subst (λ (o : Option SendingValue). IsSendingOf None o) (sym view) is)
text_checked result size text payload fin now (Some m) view is some checked =
    let kept = subst (λ (o : Option SendingValue). IsSendingOf (Some m) o) (sym view) is in
    matched result (IsSentBehind m payload fin) (IsSentWith (Some m) (More payload fin)) (IsRefusedBehind m payload fin) (IsFirstWrongWith (Some m) (More payload fin)) (more_sent m payload fin) (more_refused m payload fin)
    (checked m (sym kept.0) kept.1 (text_read m.kind m.payload text (sym kept.0) some kept.2))
