-- The lemmas behind a path: it names at most one case.
mod Naming
