-- The lemmas behind clients in one loop: what goes on in their places is kept by a run, and by a change of one of them.
pub mod ClientLemmas
pub mod CountLemmas
pub mod KindLemmas
pub mod NumberLemmas
pub mod ServedLemmas
