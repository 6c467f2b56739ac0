-- No payload is kept but that of the open message and of the frame under way, and at most that of one message.
use Rattle.std.proofs.Common.{◌≡◌, ℕ, ◌+◌, ◌≤◌, List, length, take, Option, Some, None, sym, ap, ◌∙◌, arith, inl, inr, subst, refl}
use Rattle.std.proofs.lemmas.Bool.{cases_lt}
use Rattle.std.proofs.lemmas.List.{length-take-le, length-drop, take-take}
use Rattle.ws_wire.specs.declared.role.Role.{Role}
use Rattle.ws_wire.specs.Header.{HeaderFields}
use Rattle.ws_session.specs.declared.limits.TheConstants.{MAX_MESSAGE}
use Rattle.ws_session.specs.declared.message.Message.{Message}
use Rattle.ws_session.specs.declared.reason.Reason.TheVariants.{TooBig}
use Rattle.ws_session.specs.declared.receiver.under_way.UnderWay.{UnderWay}
use Rattle.ws_session.specs.declared.receiver.under_way.UnderWay.TheVariants as under_way
use Rattle.ws_session.specs.declared.receiver.piece_check.PieceCheck.{PieceCheck}
use Rattle.ws_session.specs.declared.receiver.piece_check.PieceCheck.TheVariants as piece_check
use Rattle.ws_session.specs.InnerFrameCheck.{FrameCheck}
use Rattle.ws_session.specs.InnerFrameCheck as check
use Rattle.ws_session.specs.Limits.{LimitsValue}
use Rattle.ws_session.specs.Faults.{open_payload}
use Rattle.ws_session.specs.InnerAssembly.{HasReadOpen}
use Rattle.ws_session.specs.InnerChecking.{NoneAtHeader}
use Rattle.ws_session.specs.InnerNextFrame.{IsPartOfFrame}
use Rattle.ws_session.specs.InnerReceiving.{AssemblyValue, first_bytes, HasKept, IsJoined, partial_of, came_of, IsExactly, IsUnderWay, IsDataCheck, IsFrameCheck, with_text, IsExactPiece}
use Rattle.ws_session.specs.InnerReceiver.{ReceiverValue, receiver_of, IsReceiving, IsSoundReceiver, IsExact}
use Rattle.ws_session.proofs.Pieces.{kept_first, same_partial, still_data, still_header}

-- ---- at most the payload of one message

-- a data frame that breaks no rule takes its message no further than the limit
pub data_fits : (role : Role) (limits : LimitsValue) (opened : Option Message) (h : HeaderFields) → NoneAtHeader role limits opened h → h.opcode ≤ 2 → length (open_payload opened) + h.len ≤ limits.max_message
data_fits role limits opened h none le = elim (cases_lt limits.max_message (length (open_payload opened) + h.len)) [ inl big ↦ absurd (none TooBig (le, big)) | inr fits ↦ fits ]

pub room_data : (role : Role) (limits : LimitsValue) (a : AssemblyValue) (h : HeaderFields) (came : ℕ) → IsUnderWay role limits a (under_way.Data h came) → (b : AssemblyValue) → length b.payload ≤ length (open_payload a.opened) + h.len → length b.payload ≤ limits.max_message
room_data role limits a h came u b size = let k = u.kept in omega (arith, size, data_fits role limits a.opened h k.1 k.2)

-- ---- what the check leaves

-- of a data frame
pub exact_data : (h : HeaderFields) (came start more : ℕ) (a b : AssemblyValue) → HasKept b came
    → IsDataCheck h came start more a b None → length b.payload ≡ length (open_payload b.opened) + (came + more)
exact_data h came start more a b has c =
    let k = c.2 in omega (arith, k.1, has, length-drop (length (open_payload b.opened)) b.payload)

pub exact_told : (h : HeaderFields) (came start more : ℕ) (a b : AssemblyValue) (next : UnderWay) (y : PieceCheck)
    → IsDataCheck h came start more a b (Some y) → IsExactPiece b next (Some y)
exact_told h came start more a b next (piece_check.Whole used fin kind text) c = tt
exact_told h came start more a b next (piece_check.Control place) c = absurd c
exact_told h came start more a b next (piece_check.Fault reason used) c = tt

-- where nothing that shows has changed the receiving side is as sound as before
pub shown_sound : (role : Role) (limits : LimitsValue) (a b : AssemblyValue) (f g : UnderWay)
    → IsSoundReceiver (receiver_of role limits a f) → b.opened ≡ a.opened → partial_of b g ≡ partial_of a f
    → length b.payload ≤ limits.max_message → IsSoundReceiver (receiver_of role limits b g)
shown_sound role limits a b f g sound opened shown room =
    let size : length (open_payload b.opened) ≡ length (open_payload a.opened) = ap (λ (o : Option Message). length (open_payload o)) opened in
    let all : length (partial_of b g) ≡ length (partial_of a f) = ap (λ (l : List ℕ). length l) shown in
    record {
      part = subst (λ (l : List ℕ). IsPartOfFrame role limits b.opened l) (sym shown)
          (subst (λ (o : Option Message). IsPartOfFrame role limits o (partial_of a f)) (sym opened) sound.part);
      limit = sound.limit;
      size = omega (arith, size, sound.size);
      held = omega (arith, size, all, sound.held);
      room = room;
    }

-- ---- what is cut off

-- the bytes that are shown are there
pub has_shown : (role : Role) (limits : LimitsValue) (a : AssemblyValue) (f : UnderWay) → IsUnderWay role limits a f → HasKept a (came_of f)
has_shown role limits a (under_way.Header bytes) u = kept_first a u.joined
has_shown role limits a (under_way.Data h came) u = let k = u.kept in k.4
has_shown role limits a (under_way.Control h payload) u = kept_first a u.joined

module _ (role : Role) (limits : LimitsValue) (a b : AssemblyValue) (opened : b.opened ≡ a.opened) (text : b.text ≡ a.text) (joined : IsJoined b) where
  size : length (open_payload b.opened) ≡ length (open_payload a.opened)
  size = ap (λ (o : Option Message). length (open_payload o)) opened

  cut_len : (came : ℕ) → HasKept a came → b.payload ≡ first_bytes a came → length b.payload ≡ length (open_payload a.opened) + came
  cut_len came has payload = ap (λ (l : List ℕ). length l) payload ∙ length-take-le (length (open_payload a.opened) + came) a.payload has

  pub cut_exact : (f : UnderWay) → IsUnderWay role limits a f → b.payload ≡ first_bytes a (came_of f) → IsExactly b f
  cut_exact f u payload = omega (arith, size, cut_len (came_of f) (has_shown role limits a f u) payload)

  cut_first : (came : ℕ) → b.payload ≡ first_bytes a came → first_bytes b came ≡ first_bytes a came
  cut_first came payload =
      let n = length (open_payload a.opened) + came in
      ap (λ (l : List ℕ). take (length (open_payload b.opened) + came) l) payload ∙ ap (λ (m : ℕ). take (m + came) (take n a.payload)) size ∙ take-take n n a.payload (omega arith)

  cut_has : (came : ℕ) → HasKept a came → b.payload ≡ first_bytes a came → HasKept b came
  cut_has came has payload = omega (arith, size, cut_len came has payload)

  pub cut_partial : (f : UnderWay) → IsUnderWay role limits a f → b.payload ≡ first_bytes a (came_of f) → partial_of b f ≡ partial_of a f
  cut_partial (under_way.Header bytes) u payload = refl
  cut_partial (under_way.Data h came) u payload = same_partial role limits a h came u b opened (cut_first came payload)
  cut_partial (under_way.Control h p) u payload = refl

  pub cut_under : (f : UnderWay) → IsUnderWay role limits a f → b.payload ≡ first_bytes a (came_of f) → IsUnderWay role limits b f
  cut_under (under_way.Header bytes) u payload = still_header role limits a b bytes u opened text joined
  cut_under (under_way.Data h came) u payload = let k = u.kept in still_data role limits a h came u b opened text (cut_first came payload) (cut_has came k.4 payload) joined
  cut_under (under_way.Control h p) u payload =
      let k = u.kept in
      record {
        bytes = u.bytes;
        joined = joined;
        kept = (k.0, subst (λ (o : Option Message). NoneAtHeader role limits o h) (sym opened) k.1, k.2, k.3, subst (λ (o : Option Message). HasReadOpen o b.text) (sym opened) (subst (λ (t : Option (List ℕ)). HasReadOpen a.opened t) (sym text) k.4));
      }

  pub cut_receives : (f : UnderWay) → IsReceiving role limits a f → b.payload ≡ first_bytes a (came_of f) → IsReceiving role limits b f
  cut_receives f r payload =
      let u = r.under_way in
      let sound = r.sound in
      let all : length (partial_of b f) ≡ length (partial_of a f) = ap (λ (l : List ℕ). length l) (cut_partial f u payload) in
      let less : length b.payload ≤ length a.payload = omega (arith, cut_len (came_of f) (has_shown role limits a f u) payload, has_shown role limits a f u) in
      record {
        under_way = cut_under f u payload;
        sound = record {
          part = subst (λ (o : Option Message). IsPartOfFrame role limits o (partial_of b f)) (sym opened) (subst (λ (l : List ℕ). IsPartOfFrame role limits a.opened l) (sym (cut_partial f u payload)) sound.part);
          limit = sound.limit;
          size = omega (arith, size, sound.size);
          held = omega (arith, size, all, sound.held);
          room = omega (arith, less, sound.room);
        };
      }

-- as much is kept on two receiving sides that show the same and keep no more
pub kept_same : (v w : ReceiverValue) → IsExact v → IsExact w → v.opened ≡ w.opened → v.came ≡ w.came → length v.assembled ≡ length w.assembled
kept_same v w first second opened came = omega (arith, first, second, came, ap (λ (o : Option Message). length (open_payload o)) opened)

-- what is under way next is kept
pub need_receives : (role : Role) (limits : LimitsValue) (a b : AssemblyValue) (k : ℕ) (bytes : List ℕ) (next : UnderWay) (text : Option (List ℕ)) → b.opened ≡ a.opened → limits.max_message ≤ MAX_MESSAGE → length (open_payload a.opened) ≤ limits.max_message → length b.payload ≤ limits.max_message
    → IsFrameCheck role limits b k bytes (check.Need next text) → IsReceiving role limits (with_text b text) next
need_receives role limits a b k bytes next text opened limit fit kept is =
    let size : length (open_payload b.opened) ≡ length (open_payload a.opened) = ap (λ (o : Option Message). length (open_payload o)) opened in
    let all : length (partial_of b next) ≡ length bytes = ap (λ (l : List ℕ). length l) is.2 in
    let fits : length (open_payload b.opened) ≤ limits.max_message = omega (arith, size, fit) in
    let held = is.1 in
    let room = held.held fits in
    record {
      under_way = is.3;
      sound = record {
        part = subst (λ (l : List ℕ). IsPartOfFrame role limits b.opened l) (sym is.2) is.0;
        limit = limit;
        size = fits;
        held = omega (arith, room, all);
        room = kept;
      };
    }
