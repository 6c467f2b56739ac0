-- The lemmas behind captures as text: its lines tell a capture by their kinds, and joined they are written as it is.
mod OneKind
mod StageSteps
mod Lines1
mod Lines2
mod Told
mod Joined
mod LineAfterLine
