-- Inside the crate: how the pings that aren't answered yet are kept. A reader may skip this file.
use Rattle.std.specs.Prelude.{◌≡◌, ◌≢◌, ◌≤◌, ◌<◌, ◌+◌, ◌==◌, ℕ, true, false, if◌then◌else◌}
use Rattle.std.specs.Prelude.{List, [], ◌∷◌, bytes_eq, drop, length, slice_index_or, sum, take}
use Rattle.std.specs.Hash.DefaultHasher as sip
use Rattle.std.specs.BTreeMap.{get, BTreeMap}
use Rattle.std.specs.Ordering.{nat_cmp}
use Rattle.std.specs.Option.{unwrap_or}
use Rattle.ws_suite.specs.Progress.{is_pong_owed}
use Rattle.ws_suite.specs.declared.evidence.unanswered.packed.Place.{Place}

-- ---- payloads that stand one behind the other

-- cut by their lengths
abbrev pub payloads_by : List ℕ → List ℕ → List (List ℕ)
payloads_by [] bytes = []
payloads_by (len ∷ lens) bytes = take len bytes ∷ payloads_by lens (drop len bytes)

-- so many bytes stand before those that are there, and these are as many as the lengths say
pub record HasBytes (lens bytes : List ℕ) (gone : ℕ) : Type 0 where
  pub before : gone ≤ length bytes
  pub count : sum lens ≡ length (drop gone bytes)

-- at this place stands the first of them that is this payload
pub record IsPlaceOfPing (payload lens bytes : List ℕ) (place : Place) : Type 0 where
  pub there : place.number < length lens
  pub start : place.start ≡ sum (take place.number lens)
  pub first : is_pong_owed payload (take place.number (payloads_by lens bytes)) ≡ false
  pub same : (other : List ℕ) → bytes_eq payload (slice_index_or (payloads_by lens bytes) place.number other) ≡ true

-- ---- fingerprints

-- the fingerprint of a payload: SipHash-1-3 with the key 0
abbrev pub fingerprint : List ℕ → ℕ
fingerprint payload = sip.finish (sip.write sip.initial payload)

-- how many of these payloads have this fingerprint
abbrev pub with_print : ℕ → List (List ℕ) → ℕ
with_print print [] = 0
with_print print (payload ∷ payloads) = (if fingerprint payload == print then 1 else 0) + with_print print payloads

-- how often a fingerprint is counted, and 0 where it isn't listed
abbrev pub print_count : BTreeMap ℕ ℕ → ℕ → ℕ
print_count counts print = unwrap_or (get nat_cmp counts print) 0

-- this fingerprint is counted so often now, and each other as often as before
pub record ChangesOnly (old new : BTreeMap ℕ ℕ) (print count : ℕ) : Type 0 where
  pub this_print : print_count new print ≡ count
  pub other_prints : (other : ℕ) → other ≢ print → print_count new other ≡ print_count old other
