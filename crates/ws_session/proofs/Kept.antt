-- What a receiving side keeps.
use Rattle.std.proofs.Common.{◌≡◌, ℕ, ◌+◌, ◌≤◌, List, [], ◌++◌, length, take, refl, ap, ◌∙◌, arith}
use Rattle.std.proofs.lemmas.List.{length-append, length-take-le, length-drop}
use Rattle.ws_wire.specs.declared.role.Role.{Role}
use Rattle.ws_wire.specs.Header.{header_bytes}
use Rattle.ws_wire.specs.Masking.{masked_payload}
use Rattle.ws_wire.specs.Reading.{BeginsNoHeader}
use Rattle.ws_wire.proofs.Masks.{length-masked_payload}
use Rattle.ws_session.specs.declared.limits.TheConstants.{MAX_MESSAGE}
use Rattle.ws_session.specs.declared.receiver.under_way.UnderWay.{UnderWay}
use Rattle.ws_session.specs.declared.receiver.under_way.UnderWay.TheVariants as under_way
use Rattle.ws_session.specs.Limits.{LimitsValue}
use Rattle.ws_session.specs.Faults.{open_payload}
use Rattle.ws_session.specs.InnerAssembly.{HasReadOpen}
use Rattle.ws_session.specs.InnerReceiving.{AssemblyValue, IsJoined, frame_payload, partial_of, IsUnderWay}
use Rattle.ws_session.specs.InnerReceiver.{IsReceiving, NotBegun, length_so_far}
use Rattle.ws_session.proofs.Frames.{part_of_header}

-- as many bytes of the frame under way are shown as have come
pub partial_len : (role : Role) (limits : LimitsValue) (a : AssemblyValue) (f : UnderWay) → IsUnderWay role limits a f → length (partial_of a f) ≡ length_so_far f
partial_len role limits a (under_way.Header bytes) u = refl
partial_len role limits a (under_way.Data h came) u =
    let k = u.kept in
    let size : length (take came (frame_payload a)) ≡ came = length-take-le came (frame_payload a) (omega (arith, k.4, length-drop (length (open_payload a.opened)) a.payload)) in
    length-append (header_bytes h) (masked_payload h.key (take came (frame_payload a))) ∙ ap (λ n. length (header_bytes h) + n) (length-masked_payload h.key (take came (frame_payload a)) ∙ size)
partial_len role limits a (under_way.Control h payload) u = length-append (header_bytes h) (masked_payload h.key payload) ∙ ap (λ n. length (header_bytes h) + n) (length-masked_payload h.key payload)

pub no_header_in_nothing : BeginsNoHeader []
no_header_in_nothing h bytes rest is e = let no : [] ≡ header_bytes h ++ rest = e ∙ ap (λ (l : List ℕ). l ++ rest) is.layout in absurd cc

-- nothing of the next frame has come
pub not_begun : (role : Role) (limits : LimitsValue) (a : AssemblyValue) → IsJoined a → HasReadOpen a.opened a.text → limits.max_message ≤ MAX_MESSAGE → length (open_payload a.opened) ≤ limits.max_message → length a.payload ≤ limits.max_message → IsReceiving role limits a NotBegun
not_begun role limits a joined reads limit size room = record {
  under_way = record { bytes = λ i. omega arith; joined = joined; kept = (no_header_in_nothing, reads) };
  sound = record { part = part_of_header role limits a.opened [] no_header_in_nothing; limit = limit; size = size; held = omega (arith, size); room = room };
}
