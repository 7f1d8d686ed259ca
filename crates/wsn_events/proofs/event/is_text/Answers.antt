use Rattle.std.proofs.Common.{[], rules}
use Rattle.wsn_text.proofs.Prefixes.{text_begins}
use Rattle.wsn_events.proofs.event.is_text.Goals as goal

pub returns-then-is_ok : goal.returns-then-is_ok
returns-then-is_ok c = c.is_whole.ensures c.args.bytes.now (c.feed.ensures.taken [] c.new-utf8.ensures)

-- UTF-8 text begins as UTF-8 text does
pub returns-else-is_ok : goal.returns-else-is_ok
returns-else-is_ok c =
    (λ yes. search rules, λ text. search (rules, (c.feed.ensures.ok [] c.new-utf8.ensures).1 (text_begins c.args.bytes.now text)))
