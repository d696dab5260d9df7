-- What counting down an allowance of steps comes to (request 2026-06).
use Rattle.std.specs.Prelude.{◌≡◌, ℕ, ◌+◌, ◌<◌, Option, Some, None}

-- What counting comes to: so many steps are left, or they do not suffice.
abbrev pub Steps : Type 0
Steps = Option ℕ

-- Of so many steps n were counted, and the rest is left; or n are more.
pub data Takes (n steps : ℕ) : Steps → Type 0 where
  left : {rest : ℕ} → n + rest ≡ steps → Takes n steps (Some rest)
  spent : steps < n → Takes n steps None
