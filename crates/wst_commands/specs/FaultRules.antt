-- The rule that a fault breaks, as a sentence: what stands in a further line of a rule where the verdict is about a
-- fault that came, and in the last one where what was sent ends with a fault, or is doomed.
use Rattle.std.specs.Prelude.{ℕ, List, ◌++◌, Option, Some, None, codes}
use Rattle.ws_session.specs.declared.reason.Reason.{Reason}
use Rattle.ws_session.specs.declared.reason.Reason.TheVariants as reason
use Rattle.ws_suite.specs.declared.evidence.Ending.{Ending}
use Rattle.ws_suite.specs.declared.evidence.Ending.TheVariants.{Closed, Failed, Doomed}
use Rattle.ws_suite.specs.declared.evidence.InTurn.{InTurn}
use Rattle.ws_suite.specs.declared.verdict.FailWhy.TheVariants.{NotFrames}
use Rattle.ws_suite.specs.declared.verdict.Verdict.{Verdict}
use Rattle.ws_suite.specs.declared.verdict.Verdict.TheVariants.{Fail}

-- the rule that the bytes of this fault break
abbrev pub reason_rule : Reason → List ℕ
reason_rule reason.ReservedBits =
    codes "A reserved bit is 0 unless an extension defines it, and an endpoint that receives a 1 fails the "
    ++ codes "connection (RFC 6455 section 5.2)"
reason_rule reason.Opcode =
    codes "A frame has a defined opcode, and an endpoint that receives another opcode fails the connection "
    ++ codes "(RFC 6455 section 5.2)"
reason_rule reason.MaskWrong =
    codes "A client masks its frames, a server does not, and an endpoint that receives the opposite closes "
    ++ codes "the connection (RFC 6455 section 5.1)"
reason_rule reason.NotShortest =
    codes "A length is written in the shortest form that holds it (RFC 6455 section 5.2); that the receiver "
    ++ codes "fails the connection otherwise is ours"
reason_rule reason.BadLength =
    codes "The top bit of a length in eight bytes is 0 (RFC 6455 section 5.2); that the receiver fails the "
    ++ codes "connection otherwise is ours"
reason_rule reason.ControlCut =
    codes "A control frame is not fragmented (RFC 6455 sections 5.4 and 5.5); that the receiver fails the "
    ++ codes "connection otherwise is ours"
reason_rule reason.ControlLong =
    codes "A control frame has at most 125 bytes of payload (RFC 6455 section 5.5); that the receiver fails "
    ++ codes "the connection otherwise is ours"
reason_rule reason.NothingToContinue =
    codes "A continuation follows the first fragment of its message (RFC 6455 section 5.4); that the receiver"
    ++ codes " fails the connection otherwise is ours"
reason_rule reason.MessageOpen =
    codes "The fragments of a message are not interleaved with another message (RFC 6455 section 5.4); that "
    ++ codes "the receiver fails the connection otherwise is ours"
reason_rule reason.TooBig =
    codes "A message has at most 16777216 bytes (ours; RFC 6455 section 10.4 leaves the limit to each "
    ++ codes "endpoint)"
reason_rule reason.NotText =
    codes "A text message is UTF-8, and an endpoint that is to interpret other bytes as such fails the "
    ++ codes "connection (RFC 6455 section 8.1)"
reason_rule reason.TextCut =
    codes "A text message is UTF-8 as a whole, so it ends after a whole character (RFC 6455 sections 5.6 and "
    ++ codes "8.1)"
reason_rule reason.CloseOneByte =
    codes "The payload of a close frame is empty or begins with a code of two bytes (RFC 6455 section 5.5.1);"
    ++ codes " that the receiver fails the connection otherwise is ours"
reason_rule reason.CloseCode =
    codes "A close frame has a code that may be sent (RFC 6455 sections 7.4.1 and 7.4.2); that the receiver "
    ++ codes "fails the connection otherwise is ours"
reason_rule reason.CloseReason =
    codes "The reason of a close frame is UTF-8 (RFC 6455 section 5.5.1), and an endpoint that is to interpret "
    ++ codes "other bytes as such fails the connection (section 8.1)"
reason_rule reason.FrameBig =
    codes "A data frame is at most as large as its receiver accepts (ours; RFC 6455 section 10.4 leaves the "
    ++ codes "limit to each endpoint)"

-- the rule of bytes that can become no valid frame
abbrev pub doomed_rule : List ℕ
doomed_rule =
    codes "What was sent cannot become a valid frame, whatever follows, so the connection may be failed "
    ++ codes "before the rest arrives (RFC 6455 section 7.1.7; ours)"

-- a close breaks none
abbrev pub ending_rule : Ending → Option (List ℕ)
ending_rule (Closed code) = None
ending_rule (Failed reason) = Some (reason_rule reason)
ending_rule Doomed = Some doomed_rule

-- the rule that what was sent breaks, if it ends with a fault or is doomed
abbrev pub sent_rule : Option (InTurn Ending) → Option (List ℕ)
sent_rule None = None
sent_rule (Some ending) = ending_rule ending.what

-- the rule of the end that sends, which the bytes of this fault break
abbrev pub sender_rule : Reason → List ℕ
sender_rule reason.ReservedBits =
    codes "A sender sets a reserved bit only if an extension defines it (RFC 6455 section 5.2)"
sender_rule reason.Opcode =
    codes "A sender uses no opcode but those that are defined: 0, 1, 2, 8, 9 and 10 (RFC 6455 section 5.2)"
sender_rule reason.MaskWrong =
    codes "A client masks all frames that it sends, and a server masks none (RFC 6455 section 5.1)"
sender_rule reason.NotShortest =
    codes "A sender writes a length in the shortest form that holds it (RFC 6455 section 5.2)"
sender_rule reason.BadLength =
    codes "A sender leaves the top bit of a length in eight bytes at 0 (RFC 6455 section 5.2)"
sender_rule reason.ControlCut =
    codes "A sender never fragments a control frame (RFC 6455 sections 5.4 and 5.5)"
sender_rule reason.ControlLong =
    codes "A sender puts at most 125 bytes of payload into a control frame (RFC 6455 section 5.5)"
sender_rule reason.NothingToContinue =
    codes "A sender continues a message only after its first fragment (RFC 6455 section 5.4)"
sender_rule reason.MessageOpen =
    codes "A sender begins no message before the last fragment of the one before (RFC 6455 section 5.4)"
sender_rule reason.TooBig =
    codes "A message has at most 16777216 bytes (ours; RFC 6455 section 10.4 leaves the limit to each "
    ++ codes "endpoint)"
sender_rule reason.NotText =
    codes "A sender puts nothing but UTF-8 into a text message (RFC 6455 sections 5.6 and 8.1)"
sender_rule reason.TextCut =
    codes "A sender ends a text message after a whole character of UTF-8 (RFC 6455 sections 5.6 and 8.1)"
sender_rule reason.CloseOneByte =
    codes "A sender leaves a close frame empty or begins it with a code of two bytes (RFC 6455 section "
    ++ codes "5.5.1)"
sender_rule reason.CloseCode =
    codes "A sender closes only with a code that may be sent (RFC 6455 sections 7.4.1 and 7.4.2)"
sender_rule reason.CloseReason =
    codes "A sender gives the reason of a close frame in UTF-8 (RFC 6455 section 5.5.1)"
sender_rule reason.FrameBig =
    codes "A data frame is at most as large as its receiver accepts (ours; RFC 6455 section 10.4 leaves the "
    ++ codes "limit to each endpoint)"

-- that of what ends here; a close breaks none
abbrev pub sender_rule_of : Ending → Option (List ℕ)
sender_rule_of (Closed code) = None
sender_rule_of (Failed reason) = Some (sender_rule reason)
sender_rule_of Doomed = None

-- the rule that what came breaks, where the verdict is about that
abbrev pub got_rule : Verdict → Option (InTurn Ending) → Option (List ℕ)
got_rule (Fail NotFrames) (Some ending) = sender_rule_of ending.what
got_rule verdict got = None
