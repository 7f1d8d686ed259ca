use Rattle.std.proofs.Common.{◌≡◌, ◌-◌, ◌++◌, ℕ, List, Result, Err, length, take, drop, sym, ap, ◌∙◌, subst, arith, length-append}
use Rattle.std.specs.Prelude.{IfErr}
use Rattle.std.proofs.lemmas.List.{take_all, length-take-le, length-drop}
use Rattle.std.proofs.lemmas.Result.{err_from_is_err_and}
use Rattle.wsn_io.specs.Transfer.{Outgoing}
use Rattle.wsn_rules.specs.Limits.{Limits}
use Rattle.wsn_print.proofs.HeldParts.{rest_is}
use Rattle.wsn_capture.proofs.ChunkPrefixes.{taken_more, room_for_line}
use Rattle.wsn_print.specs.declared.style.Style.{Style}
use Rattle.wsn_show.specs.declared.showing.ShowStop.{ShowStop}
use Rattle.wsn_show.specs.PassedLines.{HasPrinted, StopsWithin}
use Rattle.wsn_capture.specs.LineSplitters.{EndsLine}
use Rattle.wsn_show.proofs.PassedChunks.{printed_on, stops_in, printed_in, stops_in_rest}
use Rattle.wsn_show.proofs.showing.show_lines.Goals as goal

pub returns-in_err-show_line-clause-stop : goal.returns-in_err-show_line-clause-stop
returns-in_err-show_line-clause-stop g c =
    let out = err_from_is_err_and c.from_residual.result c.from_residual.ensures.1 in
    let is : c.from_residual.result ≡ Err c.in_err-show_line.field-0.0 = out.1 ∙ ap Err out.2 in
    let chunk = c.args.chunk.now in
    let at = c.loop-taken.taken in
    let now = c.show_line.new.output in
    subst (λ (r : Result (Unit {0}) ShowStop). IfErr r (λ stop. (limits : Limits) (style : Style) (first : Outgoing) (came : List ℕ) →
    HasPrinted limits style first c.args.view.now c.args.lines.now c.args.output.now came → StopsWithin limits style first now came chunk stop)) (sym is)
    (λ limits style first came start.
    let has = c.loop-taken.invariant.printed limits style first came start in
    let ends = subst (λ (bs : List ℕ). EndsLine c.loop-taken.lines bs (take (length chunk - at) (drop at chunk)) c.take-count.result.0) (sym c.line.ensures)
    (c.take-count.ensures.ends c.if-ended.true) in
    stops_in_rest limits style first now came chunk at c.in_err-show_line.field-0.0
    (stops_in limits style first c.loop-taken.view c.loop-taken.lines c.loop-taken.output (came ++ take at chunk) has c.show_line.new.view c.line.result.now now
    (take (length chunk - at) (drop at chunk)) c.take-count.result.0 ends c.in_err-show_line.field-0.0
    (c.in_err-show_line.ensures.stop limits style has.lines has.entries has.has_shown)))

pub loop-taken-preserved-then-ended : goal.loop-taken-preserved-then-ended
loop-taken-preserved-then-ended g c =
    let chunk = c.args.chunk.now in
    let at = c.loop-taken.taken in
    let rest = take (length chunk - at) (drop at chunk) in
    let inv = c.loop-taken.invariant in
    let ends = subst (λ (bs : List ℕ). EndsLine c.loop-taken.lines bs rest c.take-count.result.0) (sym c.line.ensures)
    (c.take-count.ensures.ends c.if-ended.true) in
    let further : (limits : Limits) (style : Style) (first : Outgoing) (came : List ℕ) (has : HasPrinted limits style first c.loop-taken.view c.loop-taken.lines c.loop-taken.output came) →
    HasPrinted limits style first c.show_line.new.view c.clear.new.self c.show_line.new.output (came ++ take c.take-count.result.0 rest) =
    λ limits style first came has.
    subst (λ (bs : List ℕ). HasPrinted limits style first c.show_line.new.view bs c.show_line.new.output (came ++ take c.take-count.result.0 rest)) (sym c.clear.ensures)
    (printed_in limits style first c.loop-taken.view c.loop-taken.lines c.loop-taken.output came has c.show_line.new.view c.line.result.now c.show_line.new.output
    rest c.take-count.result.0 ends (c.in_ok-show_line.ensures.shown limits style has.lines has.entries has.has_shown) c.in_ok-show_line.ensures.writable) in
    let some = inv.printing in
    let size : length rest ≡ length chunk - at = ap (λ (bs : List ℕ). length bs) (rest_is at chunk) ∙ length-drop at chunk in
    let room = room_for_line c.loop-taken.lines c.line.result.now rest c.take-count.result.0 c.take-count.ensures.within.1 ends in
    let empty : length c.clear.new.self ≡ 0 = ap (λ (bs : List ℕ). length bs) c.clear.ensures in
    record {
      within = omega (arith, c.take-count.ensures.within.1, size, inv.within);
      printing = record {
        limits = some.limits;
        style = some.style;
        first = some.first;
        came = some.came ++ take c.take-count.result.0 rest;
        has_printed = further some.limits some.style some.first some.came some.has_printed;
      };
      few = c.in_ok-show_line.ensures.count.1;
      short = omega (arith, empty);
      writable = c.in_ok-show_line.ensures.writable;
      printed = λ limits style first came start.
          subst (λ (bs : List ℕ). HasPrinted limits style first c.show_line.new.view c.clear.new.self c.show_line.new.output bs) (taken_more came chunk at c.take-count.result.0)
          (further limits style first (came ++ take at chunk) (inv.printed limits style first came start));
      left = omega (arith, inv.left, room, empty, inv.short, c.in_ok-show_line.ensures.count.0, c.in_ok-show_line.ensures.count.1);
    }

pub loop-taken-preserved : goal.loop-taken-preserved
loop-taken-preserved g c =
    let chunk = c.args.chunk.now in
    let at = c.loop-taken.taken in
    let rest = take (length chunk - at) (drop at chunk) in
    let inv = c.loop-taken.invariant in
    let some = inv.printing in
    let goes = c.take-count.ensures.goes_on c.if-ended.false in
    let size : length rest ≡ length chunk - at = ap (λ (bs : List ℕ). length bs) (rest_is at chunk) ∙ length-drop at chunk in
    let taken = length-take-le c.take-count.result.0 rest c.take-count.ensures.within.1 in
    let whole = ap (λ (bs : List ℕ). length bs) goes.is ∙ length-append c.loop-taken.lines (take c.take-count.result.0 rest) in
    record {
      within = omega (arith, c.take-count.ensures.within.1, size, inv.within);
      printing = record {
        limits = some.limits;
        style = some.style;
        first = some.first;
        came = some.came ++ take c.take-count.result.0 rest;
        has_printed = printed_on some.limits some.style some.first c.loop-taken.view c.loop-taken.lines c.loop-taken.output some.came some.has_printed c.take-count.new.self rest c.take-count.result.0 goes;
      };
      few = inv.few;
      short = goes.short;
      writable = inv.writable;
      printed = λ limits style first came start.
          subst (λ (bs : List ℕ). HasPrinted limits style first c.loop-taken.view c.take-count.new.self c.loop-taken.output bs) (taken_more came chunk at c.take-count.result.0)
          (printed_on limits style first c.loop-taken.view c.loop-taken.lines c.loop-taken.output (came ++ take at chunk) (inv.printed limits style first came start) c.take-count.new.self rest c.take-count.result.0 goes);
      left = omega (arith, inv.left, goes.short, whole, taken, inv.few);
    }

pub returns-clause-printed : goal.returns-clause-printed
returns-clause-printed g c limits style first came has =
    let all : c.loop-taken.taken ≡ length c.args.chunk.now = omega (arith, c.loop-taken.invariant.within, c.loop-taken-test.false) in
    subst (λ (bs : List ℕ). HasPrinted limits style first c.loop-taken.view c.loop-taken.lines c.loop-taken.output (came ++ bs))
    (ap (λ (k : ℕ). take k c.args.chunk.now) all ∙ take_all (length c.args.chunk.now) c.args.chunk.now (omega arith)) (c.loop-taken.invariant.printed limits style first came has)

pub returns-clause-few : goal.returns-clause-few
returns-clause-few g c = c.loop-taken.invariant.few

pub returns-clause-short : goal.returns-clause-short
returns-clause-short g c = c.loop-taken.invariant.short

pub returns-clause-writable : goal.returns-clause-writable
returns-clause-writable g c = c.loop-taken.invariant.writable

pub show_line-requires-clause-few : goal.show_line-requires-clause-few
show_line-requires-clause-few g c = c.loop-taken.invariant.few

pub show_line-requires-clause-writable : goal.show_line-requires-clause-writable
show_line-requires-clause-writable g c = c.loop-taken.invariant.writable
