-- The frame under way is a data frame.
use Rattle.std.proofs.Common.{ℕ, ◌<◌}
use Rattle.ws_session.specs.Sends.{most_limits}
use Rattle.ws_suite.proofs.ToldLemmas.{asked_of_frame}
use Rattle.ws_suite.proofs.evidence.marks.Told.ends_in_data.Goals as goal

pub returns : goal.returns
returns c = λ role bytes h.
    asked_of_frame role bytes (c.frame_laws.ensures.one_list role most_limits bytes) (λ (n : ℕ). n < 8)
    c.frame_under_way.result c.is_data.result (c.frame_under_way.ensures role bytes h) c.is_data.ensures.none
    c.is_data.ensures.some
