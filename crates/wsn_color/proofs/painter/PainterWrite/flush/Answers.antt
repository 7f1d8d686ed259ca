use Rattle.std.proofs.Common.{◌≡◌, ℕ, [], ap, ◌∙◌, drop, rules}
use Rattle.std.specs.Io.KnownBytes.{Keeps, append_known}
use Rattle.std.proofs.KnownBytes.{Keeps-trans}
use Rattle.wsn_color.specs.PaintedText.{painted_from, with_word}
use Rattle.wsn_color.specs.Painting.{IsKnownPlain, all_given, given_by, in_full}
use Rattle.wsn_color.proofs.PaintingLemmas.{appends_nothing, given_bytes, given_from, plain_bytes, plain_from, seen, text_kept}
use Rattle.wsn_color.proofs.TextLemmas.{all_written, ended, full_from, full_step, nothing_left, on_ok}
use Rattle.wsn_color.proofs.painter.PainterWrite.flush.Goals as goal

pub returns-in_err-write_to-2-clause-bytes : goal.returns-in_err-write_to-2-clause-bytes
returns-in_err-write_to-2-clause-bytes g c =
    let from = c.self.inside in
    let mid = c.write_to.new in
    let start = seen (g.W.Write.contents from.writer) from.queue.bytes.items from.queue.sent from.brush.word.items from.brush.line in
    let is : start ≡ c.args.self.now = search rules in
    let after = (append_known (g.W.Write.contents c.write_to-2.new.writer) (drop c.write_to-2.new.self.sent c.write_to-2.new.self.bytes.items)) in
    appends_nothing (all_given c.args.self.now) (given_by after c.end_tones.new.self.word.items)
    (given_from c.args.self.now start (given_by after c.end_tones.new.self.word.items) [] is
    (given_bytes from.brush.line.is_toned (append_known (g.W.Write.contents from.writer) (drop from.queue.sent from.queue.bytes.items))
    (g.W.Write.contents mid.writer) after
    mid.self.sent mid.self.bytes.items from.brush.word.items []
    c.end_tones.new.self.line.is_toned c.end_tones.new.queue.items c.end_tones.new.self.word.items
    c.write_to.ensures.text c.in_ok-write_to.ensures.sent c.end_tones.ensures.paints c.write_to-2.ensures.text))

pub returns-in_err-write_to-2-clause-plain : goal.returns-in_err-write_to-2-clause-plain
returns-in_err-write_to-2-clause-plain g c =
    let from = c.self.inside in
    let mid = c.write_to.new in
    let start = seen (g.W.Write.contents from.writer) from.queue.bytes.items from.queue.sent from.brush.word.items from.brush.line in
    let is : start ≡ c.args.self.now = search rules in
    let after = (append_known (g.W.Write.contents c.write_to-2.new.writer) (drop c.write_to-2.new.self.sent c.write_to-2.new.self.bytes.items)) in
    plain_from c.args.self.now start (IsKnownPlain c.end_tones.new.self.line.is_toned after) is
    (plain_bytes from.brush.line.is_toned (append_known (g.W.Write.contents from.writer) (drop from.queue.sent from.queue.bytes.items))
    (g.W.Write.contents mid.writer) after
    mid.self.sent mid.self.bytes.items from.brush.word.items []
    c.end_tones.new.self.line.is_toned c.end_tones.new.queue.items c.end_tones.new.self.word.items
    c.write_to.ensures.text c.in_ok-write_to.ensures.sent c.end_tones.ensures.paints c.write_to-2.ensures.text)

pub returns-clause-bytes : goal.returns-clause-bytes
returns-clause-bytes g c =
    let from = c.self.inside in
    let mid = c.write_to.new in
    let start = seen (g.W.Write.contents from.writer) from.queue.bytes.items from.queue.sent from.brush.word.items from.brush.line in
    let is : start ≡ c.args.self.now = search rules in
    let end = c.write_to-2.new in
    let queued = drop end.self.sent end.self.bytes.items in
    let after = append_known (g.W.Write.contents c.flush.new.self) queued in
    let last = Keeps-trans (append_known (g.W.Write.contents mid.writer) (drop mid.self.sent c.end_tones.new.queue.items))
    (append_known (g.W.Write.contents end.writer) queued) after c.write_to-2.ensures.text
    (text_kept (g.W.Write.contents end.writer) (g.W.Write.contents c.flush.new.self) queued c.flush.ensures.bytes) in
    appends_nothing (all_given c.args.self.now) (given_by after c.end_tones.new.self.word.items)
    (given_from c.args.self.now start (given_by after c.end_tones.new.self.word.items) [] is
    (given_bytes from.brush.line.is_toned (append_known (g.W.Write.contents from.writer) (drop from.queue.sent from.queue.bytes.items))
    (g.W.Write.contents mid.writer) after
    mid.self.sent mid.self.bytes.items from.brush.word.items []
    c.end_tones.new.self.line.is_toned c.end_tones.new.queue.items c.end_tones.new.self.word.items
    c.write_to.ensures.text c.in_ok-write_to.ensures.sent c.end_tones.ensures.paints last))

pub returns-clause-plain : goal.returns-clause-plain
returns-clause-plain g c =
    let from = c.self.inside in
    let mid = c.write_to.new in
    let start = seen (g.W.Write.contents from.writer) from.queue.bytes.items from.queue.sent from.brush.word.items from.brush.line in
    let is : start ≡ c.args.self.now = search rules in
    let end = c.write_to-2.new in
    let queued = drop end.self.sent end.self.bytes.items in
    let after = append_known (g.W.Write.contents c.flush.new.self) queued in
    let last = Keeps-trans (append_known (g.W.Write.contents mid.writer) (drop mid.self.sent c.end_tones.new.queue.items))
    (append_known (g.W.Write.contents end.writer) queued) after c.write_to-2.ensures.text
    (text_kept (g.W.Write.contents end.writer) (g.W.Write.contents c.flush.new.self) queued c.flush.ensures.bytes) in
    plain_from c.args.self.now start (IsKnownPlain c.end_tones.new.self.line.is_toned after) is
    (plain_bytes from.brush.line.is_toned (append_known (g.W.Write.contents from.writer) (drop from.queue.sent from.queue.bytes.items))
    (g.W.Write.contents mid.writer) after
    mid.self.sent mid.self.bytes.items from.brush.word.items []
    c.end_tones.new.self.line.is_toned c.end_tones.new.queue.items c.end_tones.new.self.word.items
    c.write_to.ensures.text c.in_ok-write_to.ensures.sent c.end_tones.ensures.paints last)

pub returns-clause-all : goal.returns-clause-all
returns-clause-all g c =
    let from = c.self.inside in
    let mid = c.write_to.new in
    let start = seen (g.W.Write.contents from.writer) from.queue.bytes.items from.queue.sent from.brush.word.items from.brush.line in
    let is : start ≡ c.args.self.now = search rules in
    let end = c.write_to-2.new in
    let queued = drop end.self.sent end.self.bytes.items in
    let after = append_known (g.W.Write.contents c.flush.new.self) queued in
    let line = c.end_tones.new.self.line in
    let word = c.end_tones.new.self.word.items in
    let left = painted_from line word [] in
    let last = Keeps-trans (append_known (g.W.Write.contents mid.writer) (drop mid.self.sent c.end_tones.new.queue.items))
    (append_known (g.W.Write.contents end.writer) queued) after c.write_to-2.ensures.text
    (text_kept (g.W.Write.contents end.writer) (g.W.Write.contents c.flush.new.self) queued c.flush.ensures.bytes) in
    let none : queued ≡ [] = ap (λ (n : ℕ). drop n end.self.bytes.items) c.in_ok-write_to-2.ensures.sent ∙ c.in_ok-write_to-2.ensures.bytes in
    let nothing = nothing_left (with_word from.brush.line from.brush.word.items) line word c.end_tones.ensures.line c.end_tones.ensures.empty in
    on_ok c.flush.result (Keeps (in_full c.args.self.now []) (g.W.Write.contents c.flush.new.self))
    (all_written (in_full c.args.self.now []) (g.W.Write.contents c.flush.new.self) queued left none nothing
    (full_from c.args.self.now start [] (append_known after left) is
    (full_step (append_known (g.W.Write.contents from.writer) (drop from.queue.sent from.queue.bytes.items))
    (g.W.Write.contents mid.writer) after mid.self.sent mid.self.bytes.items (painted_from from.brush.line from.brush.word.items [])
    c.end_tones.new.queue.items left c.write_to.ensures.text c.in_ok-write_to.ensures.sent
    (ended mid.self.bytes.items c.end_tones.new.queue.items from.brush.word.items word from.brush.line
    (with_word from.brush.line from.brush.word.items) line c.end_tones.ensures.text c.end_tones.ensures.line c.end_tones.ensures.empty)
    last)))
