-- The limit with which each payload is shown whole.
use Rattle.std.specs.Prelude.{ℕ, ◌*◌, max}
use Rattle.wsn_rules.specs.Limits.{Limits}

-- Twice the greatest number of bytes that a payload may have: those of a message, or the 125 of a control. In hexadecimal
-- half as many bytes are shown as of a text.
abbrev pub whole_view : Limits → ℕ
whole_view limits = 2 * max limits.message 125
