-- What can be said of a read: the bytes themselves are the operating system's.
use Rattle.std.specs.Prelude.{ℕ, ◌≤◌, Result, Ok, Err, Option, Some, None}
use Rattle.tilecheck.specs.declared.Unread.{Unread}

-- a read gives no more bytes than there is room for
abbrev pub Within : Result ℕ Unread → ℕ → Type 0
Within (Ok n) room = n ≤ room
Within (Err e) room = Unit {0}

abbrev pub WithinIf : Option ℕ → ℕ → Type 0
WithinIf (Some n) room = n ≤ room
WithinIf None room = Unit {0}
