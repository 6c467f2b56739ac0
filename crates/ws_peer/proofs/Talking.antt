-- One call more in a talk.
use Rattle.std.proofs.Common.{◌≡◌, ℕ, List, [], ◌∷◌, ◌++◌, sym, ap, ◌∙◌, subst, append_assoc, append-nil}
use Rattle.std.specs.List.{AllByRecursion, flat_map}
use Rattle.std.proofs.lemmas.Grind.{flat_map-append}
use Rattle.ws_peer.specs.Talks.{Entry, PeerEnd, Says, fed_by, appended_by, fed_in, appended_in}
use Rattle.ws_peer.specs.Runs.{PeerGoesOn, Talked, piece_fed, pieces_in}

one_more : {A : Type 0} (f : Entry → List A) (talk : List Entry) (entry : Entry) → flat_map f (talk ++ entry ∷ []) ≡ flat_map f talk ++ f entry
one_more f talk entry = flat_map-append f talk (entry ∷ []) ∙ ap (λ l. flat_map f talk ++ l) (append-nil (f entry))

pub fed_in-more : (talk : List Entry) (entry : Entry) → fed_in (talk ++ entry ∷ []) ≡ fed_in talk ++ fed_by entry
fed_in-more talk entry = one_more fed_by talk entry

pub appended_in-more : (talk : List Entry) (entry : Entry) → appended_in (talk ++ entry ∷ []) ≡ appended_in talk ++ appended_by entry
appended_in-more talk entry = one_more appended_by talk entry

pub pieces_in-more : (talk : List Entry) (entry : Entry) → pieces_in (talk ++ entry ∷ []) ≡ pieces_in talk ++ piece_fed entry
pieces_in-more talk entry = one_more piece_fed talk entry

-- nothing said
pub talked_nothing : {P : Type 0} (agrees : P → PeerEnd → List Entry → Type 0) (p : P) → Talked agrees p p []
talked_nothing agrees p end before h = subst (λ (l : List Entry). agrees p end l) (sym (append-nil before)) h

-- one talk after the other
pub talked_more : {P : Type 0} (agrees : P → PeerEnd → List Entry → Type 0) (p q r : P) (first second : List Entry) → Talked agrees p q first → Talked agrees q r second → Talked agrees p r (first ++ second)
talked_more agrees p q r first second f s end before h = subst (λ (l : List Entry). agrees r end l) (append_assoc before first second) (s end (before ++ first) (f end before h))

-- one call
pub said : {P : Type 0} (agrees : P → PeerEnd → List Entry → Type 0) (p q : P) (entry : List ℕ → Entry) (before after : List ℕ) → (h : Says agrees p q entry before after) → Talked agrees p q (entry h.appended ∷ [])
said agrees p q entry before after h end talk a = h.leads end talk a

-- it goes on
pub goes_on_more : (talk : List Entry) (entry : Entry) → AllByRecursion PeerGoesOn talk → PeerGoesOn entry → AllByRecursion PeerGoesOn (talk ++ entry ∷ [])
goes_on_more [] entry h is = (is, tt)
goes_on_more (x ∷ talk) entry h is = (h.0, goes_on_more talk entry h.1 is)

pub goes_on_both : (a b : List Entry) → AllByRecursion PeerGoesOn a → AllByRecursion PeerGoesOn b → AllByRecursion PeerGoesOn (a ++ b)
goes_on_both [] b h is = is
goes_on_both (x ∷ a) b h is = (h.0, goes_on_both a b h.1 is)
