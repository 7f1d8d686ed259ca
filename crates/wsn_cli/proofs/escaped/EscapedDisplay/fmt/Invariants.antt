use Rattle.std.proofs.Common.{◌≡◌, ◌++◌, ℕ, List, chars, IsUtf8}
use Rattle.std.specs.Fmt.{HasWritten, IsPlainFormatter}
use Rattle.std.specs.Str.Iter.{chars_rest}
use Rattle.wsn_cli.specs.ErrorWords.{escaped, escaped_characters}
use Rattle.wsn_cli.proofs.escaped.EscapedDisplay.fmt.Given as goal

-- Some characters are written, and the rest is still to come.
abbrev pub invariant-loop-c : goal.invariant-loop-c
invariant-loop-c g l =
    IsUtf8 (chars_rest l.c-iterator)
    × (IsPlainFormatter l.fn.f
    → (done : List ℕ) × HasWritten g.W.Write.write_str_gives l.fn.f done l.f
    × (done ++ escaped_characters l.left (chars (chars_rest l.c-iterator)) ≡ escaped l.fn.self.most l.fn.self.word.now))
