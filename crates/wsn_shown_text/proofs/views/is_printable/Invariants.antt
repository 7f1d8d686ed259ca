use Rattle.std.proofs.Common.{◌≡◌, drop}
use Rattle.wsn_shown_text.specs.Views.{is_printable}
use Rattle.wsn_shown_text.proofs.views.is_printable.Given as goal

-- The bytes so far are printable.
abbrev pub invariant-loop-b : goal.invariant-loop-b
invariant-loop-b l = is_printable (drop l.b-index l.bytes) ≡ is_printable l.bytes
