-- The first payload that is this one is dropped, from the front or from among the others.
use Rattle.std.proofs.Common.{◌≡◌, ◌∙◌, ℕ, ◌+◌, ◌≤◌, ◌<◌, List, [], length, take, drop, sum}
use Rattle.std.proofs.Common.{slice_index_or, ap, ap₂, sym, arith, length-append, true}
use Rattle.std.proofs.lemmas.List.{drop-drop, length-drop, length-take-le}
use Rattle.std.proofs.lemmas.Slice.Eq.{bytes_eq-Decides}
use Rattle.std.specs.List.{remove, remove_range}
use Rattle.ws_suite.specs.InnerUnanswered.{HasBytes, IsPlaceOfPing, payloads_by}
use Rattle.ws_suite.specs.Progress.{is_pong_owed, without_ping}
use Rattle.ws_suite.specs.declared.evidence.unanswered.packed.Place.{Place}
use Rattle.ws_suite.proofs.PackedLemmas.{behind_front, cut_at, cut_count, cut_less, len_less, within_bytes}
use Rattle.ws_suite.proofs.UnansweredLemmas.{first_found}

module _ (lens bytes : List ℕ) (gone : ℕ) (payload : List ℕ) (place : Place) (h : HasBytes lens bytes gone)
    (at : IsPlaceOfPing payload lens (drop gone bytes) place) where
  abbrev there : List ℕ
  there = drop gone bytes

  abbrev n : ℕ
  n = length payload

  abbrev own : ℕ
  own = slice_index_or lens place.number 0

  ends : sum (take place.number lens) + own ≤ length there
  ends = omega (arith, within_bytes lens place.number 0 at.there, h.count)

  is_payload : payload ≡ take own (drop (sum (take place.number lens)) there)
  is_payload = (bytes_eq-Decides payload (slice_index_or (payloads_by lens there) place.number [])).0 (at.same [])
      ∙ cut_at lens there place.number 0 [] at.there

  own_len : own ≡ n
  own_len =
      let enough : own ≤ length (drop (sum (take place.number lens)) there) =
      omega (arith, ends, length-drop (sum (take place.number lens)) there) in
      sym (ap (λ (l : List ℕ). length l) is_payload
      ∙ length-take-le own (drop (sum (take place.number lens)) there) enough)

  pub room : (gone + place.start) + n ≤ length bytes
  room = omega (arith, ends, own_len, at.start, h.before, length-drop gone bytes)

  left : payloads_by (remove lens place.number) (remove_range there place.start (place.start + n))
      ≡ without_ping payload (payloads_by lens there)
  left =
      let within : place.number < length (payloads_by lens there) = omega (arith, at.there, cut_count lens there) in
      cut_less lens there place.number 0 place.start (place.start + n) at.there h.count at.start
      (omega (arith, own_len))
      ∙ (first_found payload (payloads_by lens there) place.number within at.first at.same).1

  count : sum (remove lens place.number) + n ≡ length there
  count = omega (arith, len_less lens place.number 0 at.there, own_len, h.count)

  -- ---- from the front

  front_bytes : place.start ≡ 0 → drop (gone + n) bytes ≡ remove_range there place.start (place.start + n)
  front_bytes e = sym (drop-drop n gone bytes)
      ∙ ap₂ (λ (s end : ℕ). remove_range there s end) (sym e) (omega (arith, e))

  pub front_fits : place.start ≡ 0 → HasBytes (remove lens place.number) bytes (gone + n)
  front_fits e = record {
    before = omega (arith, room, e);
    count = omega (arith, count, room, e, length-drop gone bytes, length-drop (gone + n) bytes);
  }

  pub front_left : place.start ≡ 0
      → payloads_by (remove lens place.number) (drop (gone + n) bytes) ≡ without_ping payload (payloads_by lens there)
  front_left e = ap (λ (l : List ℕ). payloads_by (remove lens place.number) l) (front_bytes e) ∙ left

  -- ---- from among the others

  abbrev others : List ℕ
  others = remove_range bytes (gone + place.start) ((gone + place.start) + n)

  others_bytes : drop gone others ≡ remove_range there place.start (place.start + n)
  others_bytes = ap (λ (end : ℕ). drop gone (remove_range bytes (gone + place.start) end)) (omega arith)
      ∙ behind_front bytes gone place.start (place.start + n) (omega (arith, room))

  others_len : length others + n ≡ length bytes
  others_len = omega (
    arith,
    room,
    length-append (take (gone + place.start) bytes) (drop ((gone + place.start) + n) bytes),
    length-take-le (gone + place.start) bytes (omega (arith, room)),
    length-drop ((gone + place.start) + n) bytes,
  )

  pub others_fit : HasBytes (remove lens place.number) others gone
  others_fit = record {
    before = omega (arith, others_len, room);
    count = omega (arith, count, others_len, room, h.before, length-drop gone bytes, length-drop gone others);
  }

  pub others_left : payloads_by (remove lens place.number) (drop gone others)
      ≡ without_ping payload (payloads_by lens there)
  others_left = ap (λ (l : List ℕ). payloads_by (remove lens place.number) l) others_bytes ∙ left

  -- ---- it is there

  pub is_owed : is_pong_owed payload (payloads_by lens there) ≡ true
  is_owed =
      let within : place.number < length (payloads_by lens there) = omega (arith, at.there, cut_count lens there) in
      (first_found payload (payloads_by lens there) place.number within at.first at.same).0
