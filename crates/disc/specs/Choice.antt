-- A choice by a test.
use Rattle.std.specs.Prelude.{Bool, true, false}

-- the first where the test passes, else the second
abbrev pub pick : {A : Type 0} → Bool → A → A → A
pick true a b = a
pick false a b = b
