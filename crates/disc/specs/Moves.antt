-- Lent memory after bytes were moved into it. RULES 10.3.
use Rattle.std.specs.Prelude.{List, ◌++◌, ℕ, length, take, drop}

-- `text` over the front of `lent`: what doesn't fit is left out, and the bytes after it stay
abbrev pub over : List ℕ → List ℕ → List ℕ
over text lent = take (length lent) text ++ drop (length text) lent
