use Rattle.std.proofs.Common.{ap, sym, ◌∙◌}
use Rattle.std.specs.Str.Lossy.{utf8_valid_len}
use Rattle.wsn_shown_text.proofs.CharacterPieces.{first_text, no_text}
use Rattle.wsn_shown_text.proofs.views.first_characters.Goals as goal

pub returns-in-Some : goal.returns-in-Some
returns-in-Some c =
    c.valid.ensures ∙ first_text c.args.bytes.now c.in-Some.chunk.valid.now _ (sym c.utf8_chunks.ensures.rest ∙ c.in-Some.ensures.steps.0) (c.in-Some.ensures.steps.3.0 ∙ ap utf8_valid_len c.utf8_chunks.ensures.rest)

pub returns-in-None : goal.returns-in-None
returns-in-None c = no_text c.args.bytes.now (sym c.utf8_chunks.ensures.len ∙ c.in-None.ensures.steps.0)
