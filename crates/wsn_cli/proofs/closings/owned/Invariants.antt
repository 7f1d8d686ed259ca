use Rattle.std.proofs.Common.{◌≡◌, ◌++◌, map, drop, string_bytes}
use Rattle.wsn_cli.proofs.closings.owned.Given as goal

-- The words are those that are owned already, and then the others.
abbrev pub invariant-loop-word : goal.invariant-loop-word
invariant-loop-word l = map (λ word. word.now) l.words ≡ map string_bytes l.owned.items ++ drop l.word-index (map (λ word. word.now) l.words)
