-- The pings that were got are no part of what is compared.
use Rattle.std.proofs.Common.{◌≡◌, ◌∙◌, ◌↔◌, ◌<◌, true, List, ap₂, length, subst}
use Rattle.std.specs.List.{list_any, zip}
use Rattle.ws_suite.specs.declared.evidence.InTurn.{InTurn}
use Rattle.ws_suite.specs.declared.evidence.Reply.{Reply}
use Rattle.ws_suite.specs.InnerJudging.{without_pings}
use Rattle.ws_suite.specs.Matching.{IsBeginningOf, IsLastPong, IsWithSomeLeftOut, bare, due_messages, due_pongs}
use Rattle.ws_suite.specs.Matching.{matches_of}
use Rattle.ws_suite.specs.Verdicts.{is_before, is_before_match, is_unmatched}
use Rattle.ws_suite.proofs.TellingLemmas.{same_messages, same_pongs}
use Rattle.ws_suite.proofs.judging.findings.found_by_walks.Goals as goal

pub returns : goal.returns
returns c =
    let x = without_pings c.args.x.now in
    let messages = same_messages c.args.x.now.got.replies in
    let pongs = same_pongs c.args.x.now.got.replies in
    let matched = c.in_ok-matched in
    record {
      has_early_message = c.any_before.ensures ∙ ap₂ (λ (a b : List (InTurn Reply)). list_any is_before (zip a b))
          (c.among-3.ensures ∙ messages) c.among-4.ensures;
      has_early_pong = matched.ensures.early
          ∙ ap₂ (λ (a b : List (InTurn Reply)). list_any is_before_match (matches_of a b))
          c.among.ensures (c.among-2.ensures ∙ pongs);
      has_unmatched_pong = matched.ensures.unmatched
          ∙ ap₂ (λ (a b : List (InTurn Reply)). list_any is_unmatched (matches_of a b))
          c.among.ensures (c.among-2.ensures ∙ pongs);
      begins = subst (λ (l : List (InTurn Reply)). (c.begins.result ≡ true)
          ↔ IsBeginningOf (bare l) (bare (due_messages x))) (c.among-5.ensures ∙ messages)
          (subst (λ (l : List (InTurn Reply)). (c.begins.result ≡ true)
          ↔ IsBeginningOf (bare c.among-5.result) (bare l)) c.among-6.ensures c.begins.ensures);
      is_short_of_messages = subst (λ (l : List (InTurn Reply)). (c.are_fewer.result ≡ true)
          ↔ (length l < length (due_messages x))) (c.among-7.ensures ∙ messages)
          (subst (λ (l : List (InTurn Reply)). (c.are_fewer.result ≡ true)
          ↔ (length c.among-7.result < length l)) c.among-8.ensures c.are_fewer.ensures);
      is_short_of_pongs = subst (λ (l : List (InTurn Reply)). (c.are_fewer-2.result ≡ true)
          ↔ (length l < length (due_pongs x))) (c.among-9.ensures ∙ pongs)
          (subst (λ (l : List (InTurn Reply)). (c.are_fewer-2.result ≡ true)
          ↔ (length c.among-9.result < length l)) c.among-10.ensures c.are_fewer-2.ensures);
      owes_pongs = subst (λ (l : List (InTurn Reply)). (c.is_any.result ≡ true)
          ↔ (0 < length l)) c.among-11.ensures c.is_any.ensures;
      has_last_pong = subst (λ (l : List (InTurn Reply)). (c.has_last_pong.result ≡ true)
          ↔ IsLastPong (due_pongs x) l) (c.among-13.ensures ∙ pongs)
          (subst (λ (l : List (InTurn Reply)). (c.has_last_pong.result ≡ true)
          ↔ IsLastPong l c.among-13.result) c.among-12.ensures c.has_last_pong.ensures);
      keeps_order = subst (λ (l : List (InTurn Reply)). (c.are_left.result ≡ true)
          ↔ IsWithSomeLeftOut (bare l) (bare x.due.replies)) c.among-14.ensures
          (subst (λ (l : List (InTurn Reply)). (c.are_left.result ≡ true)
          ↔ IsWithSomeLeftOut (bare c.among-14.result) (bare l)) c.among-15.ensures c.are_left.ensures);
    }
