use Rattle.std.proofs.Common.{◌≡◌, ◌++◌, length, map, string_bytes}
use Rattle.wsn_cli.specs.ErrorWords.{shown_words}
use Rattle.wsn_cli.proofs.error_words.shown_in_errors.Given as goal

-- Some words are shown, and the rest is still to come.
abbrev pub invariant-loop-rest : goal.invariant-loop-rest
invariant-loop-rest l = map string_bytes l.shown.items ++ shown_words (map string_bytes l.rest) ≡ shown_words (map string_bytes l.words)

abbrev pub decreases-loop-rest : goal.decreases-loop-rest
decreases-loop-rest l = length l.rest
