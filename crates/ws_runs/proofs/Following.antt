-- Names of a list, of which one directly follows the other.
use Rattle.std.proofs.Common.{◌≡◌, ◌∙◌, ℕ, ◌+◌, ◌<◌, Bool, true, false, List, length, drop, get_or, map, ap, sym}
use Rattle.std.proofs.Common.{if◌then◌else◌}
use Rattle.std.specs.Prelude.{String, string_bytes}
use Rattle.std.specs.Str.{bytes_eq}
use Rattle.std.specs.declared.alloc.Global.{Global}
use Rattle.ws_runs.specs.Summary.{begins_with_name, follows}
use Rattle.ws_runs.proofs.Walks.{left_first}

pub follows_later : (listed : List (String Global)) (i : ℕ) (name : String Global) (one other : List ℕ) (whole : Bool)
    → i < length listed → name ≡ get_or listed i name → bytes_eq (string_bytes name) one ≡ false
    → follows (map string_bytes (drop i listed)) one other ≡ whole
    → follows (map string_bytes (drop (i + 1) listed)) one other ≡ whole
follows_later listed i name one other whole less is differs e =
    let rest = map string_bytes (drop (i + 1) listed) in
    sym (ap (λ (b : Bool). if b then begins_with_name rest other else follows rest one other) differs)
    ∙ sym (ap (λ (l : List (List ℕ)). follows l one other) (left_first string_bytes listed i name less is)) ∙ e

pub follows_here : (listed : List (String Global)) (i : ℕ) (name : String Global) (one other : List ℕ) (whole : Bool)
    → i < length listed → name ≡ get_or listed i name → bytes_eq (string_bytes name) one ≡ true
    → follows (map string_bytes (drop i listed)) one other ≡ whole
    → begins_with_name (map string_bytes (drop (i + 1) listed)) other ≡ whole
follows_here listed i name one other whole less is same e =
    let rest = map string_bytes (drop (i + 1) listed) in
    sym (ap (λ (b : Bool). if b then begins_with_name rest other else follows rest one other) same)
    ∙ sym (ap (λ (l : List (List ℕ)). follows l one other) (left_first string_bytes listed i name less is)) ∙ e
