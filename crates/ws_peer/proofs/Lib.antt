-- The lemmas behind a run over a peer: an echo's replies, read by read, and the talk and the transcript that it has; and
-- the same of an application.
pub mod Driven
pub mod Talking
pub mod RunLemmas
pub mod EchoTalkLemmas
pub mod EchoTranscripts
pub mod AppSends
pub mod AppReplies
pub mod AppTalkLemmas
pub mod AppTurns
pub mod AppLastReply
pub mod AppTranscripts
