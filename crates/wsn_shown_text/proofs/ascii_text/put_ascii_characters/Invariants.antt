use Rattle.std.proofs.Common.{◌≡◌, ◌++◌, ℕ, List, chars, IsUtf8}
use Rattle.std.specs.Prelude.{flat_map}
use Rattle.std.specs.Str.Iter.{chars_rest}
use Rattle.wsn_io.specs.Transfer.{IsWritten}
use Rattle.wsn_shown_text.specs.AsciiText.{ascii_character}
use Rattle.wsn_shown_text.proofs.ascii_text.put_ascii_characters.Given as goal

-- Some of the text is written, and the rest is still to come.
abbrev pub invariant-loop-c : goal.invariant-loop-c
invariant-loop-c g l =
    (written : List ℕ) × IsWritten l.fn.to l.to written × IsUtf8 (chars_rest l.c-iterator)
    × (written ++ flat_map ascii_character (chars (chars_rest l.c-iterator)) ≡ flat_map ascii_character (chars l.text))
