-- A frame is under way where the stream goes on and bytes are behind its events.
use Rattle.std.proofs.Common.{◌∙◌, ℕ, List, ap, arith, length}
use Rattle.ws_session.specs.Sends.{most_limits}
use Rattle.ws_suite.proofs.ToldLemmas.{behind_told, none_at_end, none_behind}
use Rattle.ws_suite.proofs.evidence.marks.Told.frame_under_way.Goals as goal

pub returns-in-Some : goal.returns-in-Some
returns-in-Some c = λ role bytes h.
    none_at_end role bytes c.args.self.now.seen h.is_seen (c.frame_laws.ensures.one_list role most_limits bytes)
    c.in-Some.field-0 c.in-Some.is

pub returns-in-empty : goal.returns-in-empty
returns-in-empty c = λ role bytes h.
    none_behind role bytes c.args.self.now.seen h.is_seen (c.frame_laws.ensures.one_list role most_limits bytes)
    (omega (
      arith,
      c.in-empty.len_below,
      ap (λ (l : List ℕ). length l)
          (c.behind.ensures ∙ behind_told role bytes c.args.self.now h),
    ))
