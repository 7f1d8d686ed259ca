use Rattle.std.proofs.Common.{◌≡◌, ◌-◌, ◌++◌, ℕ, List, Result, Err, length, take, drop, sym, ap, ◌∙◌, subst, arith, length-append}
use Rattle.std.specs.Prelude.{IfErr}
use Rattle.std.proofs.lemmas.List.{take_all, length-take-le, length-drop}
use Rattle.std.proofs.lemmas.Result.{err_from_is_err_and}
use Rattle.wsn_io.specs.Transfer.{Outgoing}
use Rattle.wsn_rules.specs.Limits.{Limits}
use Rattle.wsn_capture.proofs.ChunkPrefixes.{taken_more, room_for_line}
use Rattle.wsn_capture.specs.LineSplitters.{EndsLine}
use Rattle.wsn_redact.specs.declared.capture_redacting.RedactStop.{RedactStop}
use Rattle.wsn_redact.specs.PassedRedactions.{HasWritten, StopsWithin}
use Rattle.wsn_redact.proofs.PassedRedactions.{rest_is, written_on, stops_in, written_in, stops_in_rest}
use Rattle.wsn_redact.proofs.capture_redacting.redact_lines.Goals as goal

pub returns-in_err-put_redacted-clause-stop : goal.returns-in_err-put_redacted-clause-stop
returns-in_err-put_redacted-clause-stop g c =
    let out = err_from_is_err_and c.from_residual.result c.from_residual.ensures.1 in
    let is : c.from_residual.result ≡ Err c.in_err-put_redacted.field-0.0 = out.1 ∙ ap Err out.2 in
    let chunk = c.args.chunk.now in
    let at = c.loop-taken.taken in
    let now = c.put_redacted.new.output in
    subst (λ (r : Result (Unit {0}) RedactStop). IfErr r (λ stop. (limits : Limits) (first : Outgoing) (came : List ℕ) →
    HasWritten limits first c.args.redactor.now c.args.lines.now c.args.output.now came → StopsWithin limits first now came chunk stop)) (sym is)
    (λ limits first came start.
    let has = c.loop-taken.invariant.written limits first came start in
    let ends = subst (λ (bs : List ℕ). EndsLine c.loop-taken.lines bs (take (length chunk - at) (drop at chunk)) c.take-count.result.0) (sym c.line.ensures)
    (c.take-count.ensures.ends c.if-ended.true) in
    stops_in_rest limits first now came chunk at c.in_err-put_redacted.field-0.0
    (stops_in limits first c.loop-taken.redactor c.loop-taken.lines c.loop-taken.output (came ++ take at chunk) has c.put_redacted.new.redactor c.line.result.now now
    (take (length chunk - at) (drop at chunk)) c.take-count.result.0 ends c.in_err-put_redacted.field-0.0
    (c.in_err-put_redacted.ensures.stop limits has.lines has.entries has.others has.redacted has.has_redacted)))

pub loop-taken-preserved-then-ended : goal.loop-taken-preserved-then-ended
loop-taken-preserved-then-ended g c =
    let chunk = c.args.chunk.now in
    let at = c.loop-taken.taken in
    let rest = take (length chunk - at) (drop at chunk) in
    let inv = c.loop-taken.invariant in
    let ends = subst (λ (bs : List ℕ). EndsLine c.loop-taken.lines bs rest c.take-count.result.0) (sym c.line.ensures)
    (c.take-count.ensures.ends c.if-ended.true) in
    let further : (limits : Limits) (first : Outgoing) (came : List ℕ) (has : HasWritten limits first c.loop-taken.redactor c.loop-taken.lines c.loop-taken.output came) →
    HasWritten limits first c.put_redacted.new.redactor c.clear.new.self c.put_redacted.new.output (came ++ take c.take-count.result.0 rest) =
    λ limits first came has.
    subst (λ (bs : List ℕ). HasWritten limits first c.put_redacted.new.redactor bs c.put_redacted.new.output (came ++ take c.take-count.result.0 rest)) (sym c.clear.ensures)
    (written_in limits first c.loop-taken.redactor c.loop-taken.lines c.loop-taken.output came has c.put_redacted.new.redactor c.line.result.now c.put_redacted.new.output
    rest c.take-count.result.0 ends (c.in_ok-put_redacted.ensures.put limits has.lines has.entries has.others has.redacted has.has_redacted) c.in_ok-put_redacted.ensures.writable) in
    let some = inv.writing in
    let size : length rest ≡ length chunk - at = ap (λ (bs : List ℕ). length bs) (rest_is at chunk) ∙ length-drop at chunk in
    let room = room_for_line c.loop-taken.lines c.line.result.now rest c.take-count.result.0 c.take-count.ensures.within.1 ends in
    let empty : length c.clear.new.self ≡ 0 = ap (λ (bs : List ℕ). length bs) c.clear.ensures in
    record {
      within = omega (arith, c.take-count.ensures.within.1, size, inv.within);
      writing = record {
        limits = some.limits;
        first = some.first;
        came = some.came ++ take c.take-count.result.0 rest;
        has_written = further some.limits some.first some.came some.has_written;
      };
      few = c.in_ok-put_redacted.ensures.count.1;
      short = omega (arith, empty);
      writable = c.in_ok-put_redacted.ensures.writable;
      written = λ limits first came start.
          subst (λ (bs : List ℕ). HasWritten limits first c.put_redacted.new.redactor c.clear.new.self c.put_redacted.new.output bs) (taken_more came chunk at c.take-count.result.0)
          (further limits first (came ++ take at chunk) (inv.written limits first came start));
      left = omega (arith, inv.left, room, empty, inv.short, c.in_ok-put_redacted.ensures.count.0, c.in_ok-put_redacted.ensures.count.1);
    }

pub loop-taken-preserved : goal.loop-taken-preserved
loop-taken-preserved g c =
    let chunk = c.args.chunk.now in
    let at = c.loop-taken.taken in
    let rest = take (length chunk - at) (drop at chunk) in
    let inv = c.loop-taken.invariant in
    let some = inv.writing in
    let goes = c.take-count.ensures.goes_on c.if-ended.false in
    let size : length rest ≡ length chunk - at = ap (λ (bs : List ℕ). length bs) (rest_is at chunk) ∙ length-drop at chunk in
    let taken = length-take-le c.take-count.result.0 rest c.take-count.ensures.within.1 in
    let whole = ap (λ (bs : List ℕ). length bs) goes.is ∙ length-append c.loop-taken.lines (take c.take-count.result.0 rest) in
    record {
      within = omega (arith, c.take-count.ensures.within.1, size, inv.within);
      writing = record {
        limits = some.limits;
        first = some.first;
        came = some.came ++ take c.take-count.result.0 rest;
        has_written = written_on some.limits some.first c.loop-taken.redactor c.loop-taken.lines c.loop-taken.output some.came some.has_written c.take-count.new.self rest c.take-count.result.0 goes;
      };
      few = inv.few;
      short = goes.short;
      writable = inv.writable;
      written = λ limits first came start.
          subst (λ (bs : List ℕ). HasWritten limits first c.loop-taken.redactor c.take-count.new.self c.loop-taken.output bs) (taken_more came chunk at c.take-count.result.0)
          (written_on limits first c.loop-taken.redactor c.loop-taken.lines c.loop-taken.output (came ++ take at chunk) (inv.written limits first came start) c.take-count.new.self rest c.take-count.result.0 goes);
      left = omega (arith, inv.left, goes.short, whole, taken, inv.few);
    }

pub returns-clause-written : goal.returns-clause-written
returns-clause-written g c limits first came has =
    let all : c.loop-taken.taken ≡ length c.args.chunk.now = omega (arith, c.loop-taken.invariant.within, c.loop-taken-test.false) in
    subst (λ (bs : List ℕ). HasWritten limits first c.loop-taken.redactor c.loop-taken.lines c.loop-taken.output (came ++ bs))
    (ap (λ (k : ℕ). take k c.args.chunk.now) all ∙ take_all (length c.args.chunk.now) c.args.chunk.now (omega arith)) (c.loop-taken.invariant.written limits first came has)
