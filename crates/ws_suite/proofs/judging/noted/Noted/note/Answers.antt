-- One number more: the higher one is put in where the payload has a place or gets one.
use Rattle.std.proofs.Common.{◌≡◌, ◌∙◌, ◌||◌, ◌+◌, ℕ, Bool, true, cond, List, Option, Some, None, is_some, ap, ap₂, refl, sym, rules}
use Rattle.std.proofs.lemmas.Map.Text.{btree_map_updates_str}
use Rattle.std.specs.Map.{update}
use Rattle.std.specs.Str.{bytes_eq}
use Rattle.ws_suite.specs.declared.judging.noted.Noted.{Noted}
use Rattle.ws_suite.specs.InnerNoted.{highest, noted_of, with_number}
use Rattle.ws_suite.proofs.judging.noted.Noted.note.Goals as goal
use Rattle.ws_suite.proofs.judging.noted.Noted.note.Goals.{then-self-via-then-self, then-self-via-else-self+then-is_some}

pub returns-in_ok-insert : goal.returns-in_ok-insert
returns-in_ok-insert c =
    let old = c.args.self.now in
    let payload = c.args.payload.now in
    let known = noted_of old payload in
    let found : c.copied-known.result ≡ known = c.copied-known.ensures ∙ c.get.ensures.value in
    let end : c.in-Some.end ≡ c.args.number + 1 = search rules in
    let value : c.highest.result ≡ highest (c.args.number + 1) known = c.highest.ensures
    ∙ ap₂ (λ (n : ℕ) (o : Option ℕ). highest n o) end found in
    let has : (old.has_all || is_some known) ≡ true = elim c.then-self.branch [
      | then-self-via-then-self w ↦ ap (λ (b : Bool). b || is_some known) w.if-self.true
      | then-self-via-else-self+then-is_some w ↦ search rules
    ] in
    let with : Some c.highest.result ≡ with_number old.has_all c.args.number known =
    ap (λ (n : ℕ). Some n) value
    ∙ sym (ap (λ (b : Bool). cond b (Some (highest (c.args.number + 1) known)) None) has) in
    record {
      has_all = refl;
      moved = λ other.
          btree_map_updates_str payload old.ends c.insert.new.self (Some c.highest.result) c.in_ok-insert.ensures.updates other
          ∙ ap (λ (o : Option ℕ). update bytes_eq (λ (key : List ℕ). noted_of old key) payload o other) with;
    }
