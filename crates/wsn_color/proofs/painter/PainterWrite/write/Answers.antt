use Rattle.std.proofs.Common.{◌≡◌, ℕ, ◌++◌, sym, ap, ◌∙◌, drop, take, subst, rules}
use Rattle.std.specs.Io.KnownBytes.{Appends, append_known}
use Rattle.std.proofs.KnownBytes.{Keeps-refl}
use Rattle.wsn_color.specs.PaintedText.{painted_from}
use Rattle.wsn_color.specs.Painting.{IsKnownPlain, all_given, given_by}
use Rattle.wsn_color.proofs.PaintingLemmas.{appends_nothing, given_bytes, given_from, plain_bytes, plain_from, seen}
use Rattle.wsn_color.proofs.TextLemmas.{full_from, full_step}
use Rattle.wsn_color.proofs.painter.PainterWrite.write.Goals as goal

pub returns-clause-bytes : goal.returns-clause-bytes
returns-clause-bytes g c =
    let from = c.self.inside in
    let mid = c.write_to.new in
    let start = seen (g.W.Write.contents from.writer) from.queue.bytes.items from.queue.sent from.brush.word.items from.brush.line in
    let is : start ≡ c.args.self.now = search rules in
    let after = (append_known (g.W.Write.contents c.write_to-later.new.writer) (drop c.write_to-later.new.self.sent c.write_to-later.new.self.bytes.items)) in
    given_from c.args.self.now start (given_by after c.take-count.new.self.word.items) (take c.take-count.result c.args.bytes.now) is
    (given_bytes from.brush.line.is_toned (append_known (g.W.Write.contents from.writer) (drop from.queue.sent from.queue.bytes.items))
    (g.W.Write.contents mid.writer) after
    mid.self.sent mid.self.bytes.items from.brush.word.items (take c.take-count.result c.args.bytes.now)
    c.take-count.new.self.line.is_toned c.take-count.new.queue.items c.take-count.new.self.word.items
    c.write_to.ensures.text c.in_ok-write_to.ensures.sent c.take-count.ensures.paints c.write_to-later.ensures.text)

pub returns-clause-plain : goal.returns-clause-plain
returns-clause-plain g c =
    let from = c.self.inside in
    let mid = c.write_to.new in
    let start = seen (g.W.Write.contents from.writer) from.queue.bytes.items from.queue.sent from.brush.word.items from.brush.line in
    let is : start ≡ c.args.self.now = search rules in
    let after = (append_known (g.W.Write.contents c.write_to-later.new.writer) (drop c.write_to-later.new.self.sent c.write_to-later.new.self.bytes.items)) in
    plain_from c.args.self.now start (IsKnownPlain c.take-count.new.self.line.is_toned after) is
    (plain_bytes from.brush.line.is_toned (append_known (g.W.Write.contents from.writer) (drop from.queue.sent from.queue.bytes.items))
    (g.W.Write.contents mid.writer) after
    mid.self.sent mid.self.bytes.items from.brush.word.items (take c.take-count.result c.args.bytes.now)
    c.take-count.new.self.line.is_toned c.take-count.new.queue.items c.take-count.new.self.word.items
    c.write_to.ensures.text c.in_ok-write_to.ensures.sent c.take-count.ensures.paints c.write_to-later.ensures.text)

-- Nothing was taken.
pub returns-then-not-is_empty-clause-bytes : goal.returns-then-not-is_empty-clause-bytes
returns-then-not-is_empty-clause-bytes g c =
    let from = c.self.inside in
    let mid = c.write_to.new in
    let start = seen (g.W.Write.contents from.writer) from.queue.bytes.items from.queue.sent from.brush.word.items from.brush.line in
    let is : start ≡ c.args.self.now = search rules in
    let after = (append_known (g.W.Write.contents mid.writer) (drop mid.self.sent c.take-count.new.queue.items)) in
    let more = given_from c.args.self.now start (given_by after c.take-count.new.self.word.items) (take c.take-count.result c.args.bytes.now) is
    (given_bytes from.brush.line.is_toned (append_known (g.W.Write.contents from.writer) (drop from.queue.sent from.queue.bytes.items))
    (g.W.Write.contents mid.writer) after
    mid.self.sent mid.self.bytes.items from.brush.word.items (take c.take-count.result c.args.bytes.now)
    c.take-count.new.self.line.is_toned c.take-count.new.queue.items c.take-count.new.self.word.items
    c.write_to.ensures.text c.in_ok-write_to.ensures.sent c.take-count.ensures.paints (Keeps-refl after)) in
    appends_nothing (all_given c.args.self.now) (given_by after c.take-count.new.self.word.items)
    (subst (λ (n : ℕ). Appends (all_given c.args.self.now) (given_by after c.take-count.new.self.word.items) (take n c.args.bytes.now)) c.if-count-eq0.true more)

pub returns-then-not-is_empty-clause-plain : goal.returns-then-not-is_empty-clause-plain
returns-then-not-is_empty-clause-plain g c =
    let from = c.self.inside in
    let mid = c.write_to.new in
    let start = seen (g.W.Write.contents from.writer) from.queue.bytes.items from.queue.sent from.brush.word.items from.brush.line in
    let is : start ≡ c.args.self.now = search rules in
    let after = (append_known (g.W.Write.contents mid.writer) (drop mid.self.sent c.take-count.new.queue.items)) in
    plain_from c.args.self.now start (IsKnownPlain c.take-count.new.self.line.is_toned after) is
    (plain_bytes from.brush.line.is_toned (append_known (g.W.Write.contents from.writer) (drop from.queue.sent from.queue.bytes.items))
    (g.W.Write.contents mid.writer) after
    mid.self.sent mid.self.bytes.items from.brush.word.items (take c.take-count.result c.args.bytes.now)
    c.take-count.new.self.line.is_toned c.take-count.new.queue.items c.take-count.new.self.word.items
    c.write_to.ensures.text c.in_ok-write_to.ensures.sent c.take-count.ensures.paints (Keeps-refl after))

pub returns-clause-text : goal.returns-clause-text
returns-clause-text g c = λ rest.
    let from = c.self.inside in
    let mid = c.write_to.new in
    let start = seen (g.W.Write.contents from.writer) from.queue.bytes.items from.queue.sent from.brush.word.items from.brush.line in
    let is : start ≡ c.args.self.now = search rules in
    let after = (append_known (g.W.Write.contents c.write_to-later.new.writer) (drop c.write_to-later.new.self.sent c.write_to-later.new.self.bytes.items)) in
    let left = painted_from c.take-count.new.self.line c.take-count.new.self.word.items rest in
    let text = take c.take-count.result c.args.bytes.now ++ rest in
    full_from c.args.self.now start text (append_known after left) is
    (full_step (append_known (g.W.Write.contents from.writer) (drop from.queue.sent from.queue.bytes.items))
    (g.W.Write.contents mid.writer) after mid.self.sent mid.self.bytes.items (painted_from from.brush.line from.brush.word.items text)
    c.take-count.new.queue.items left c.write_to.ensures.text c.in_ok-write_to.ensures.sent (c.take-count.ensures.text rest) c.write_to-later.ensures.text)

pub returns-then-not-is_empty-clause-text : goal.returns-then-not-is_empty-clause-text
returns-then-not-is_empty-clause-text g c = λ rest.
    let from = c.self.inside in
    let mid = c.write_to.new in
    let start = seen (g.W.Write.contents from.writer) from.queue.bytes.items from.queue.sent from.brush.word.items from.brush.line in
    let is : start ≡ c.args.self.now = search rules in
    let after = (append_known (g.W.Write.contents mid.writer) (drop mid.self.sent c.take-count.new.queue.items)) in
    let left = painted_from c.take-count.new.self.line c.take-count.new.self.word.items rest in
    let none = ap (λ (n : ℕ). mid.self.bytes.items ++ painted_from from.brush.line from.brush.word.items (take n c.args.bytes.now ++ rest)) (sym c.if-count-eq0.true) in
    full_from c.args.self.now start rest (append_known after left) is
    (full_step (append_known (g.W.Write.contents from.writer) (drop from.queue.sent from.queue.bytes.items))
    (g.W.Write.contents mid.writer) after mid.self.sent mid.self.bytes.items (painted_from from.brush.line from.brush.word.items rest)
    c.take-count.new.queue.items left c.write_to.ensures.text c.in_ok-write_to.ensures.sent (none ∙ c.take-count.ensures.text rest) (Keeps-refl after))
