-- An input whose capture is shown: the answer fits the bytes that came.
use Rattle.std.proofs.Common.{◌≡◌, ℕ, ◌+◌, ◌*◌, ◌≤◌, false, true, Result, Ok, Err, List, [], ◌∷◌, ◌++◌, flat_map, length, inl, inr, refl, sym, ap, ◌∙◌, subst, append_assoc, append-nil, length-append, arith}
use Rattle.std.specs.Io.KnownBytes.{IsAtEnd}
use Rattle.wsn_io.specs.Transfer.{Incoming, Outgoing, IsConsumed, IsKept, IsWrittenBut}
use Rattle.wsn_io.proofs.Received.{consumed_none, consumed_on, consumed_end, consumed_kept, received_of}
use Rattle.wsn_io.proofs.PutTexts.{prints_nothing}
use Rattle.wsn_rules.specs.Limits.{Limits}
use Rattle.wsn_scan.specs.Judging.{chunk_size}
use Rattle.wsn_print.specs.declared.style.Style.{Style}
use Rattle.wsn_show.specs.Styles.{styled_line}
use Rattle.wsn_capture.specs.declared.capture_report.CaptureReport.{CaptureReport}
use Rattle.wsn_capture.specs.declared.line_fault.LineFault.{LineFault}
use Rattle.wsn_capture.specs.declared.capture_stop.CaptureStop.TheVariants as capture
use Rattle.wsn_capture.specs.CaptureLines.{count_of}
use Rattle.wsn_capture.proofs.AcceptedLines.{accepted_count}
use Rattle.wsn_capture.specs.CaptureAnswers.{IsFaulty, IsPrompt}
use Rattle.wsn_capture.specs.LineSplitters.{IsStopWithin}
use Rattle.wsn_capture.proofs.SplitLines.{unfaulted}
use Rattle.wsn_show.specs.declared.capture_view.CaptureView.{CaptureView}
use Rattle.wsn_show.specs.declared.showing.ShowStop.{ShowStop}
use Rattle.wsn_show.specs.declared.showing.ShowStop.TheVariants as stop
use Rattle.wsn_show.specs.CaptureViews.{HasShownLines}
use Rattle.wsn_show.specs.Showing.{IsShowAnswer, IsShown, IsTextSoFar}
use Rattle.wsn_show.specs.PassedLines.{HasPrinted, StopsWithin, EndsShowing}
use Rattle.wsn_capture.proofs.WrittenTexts.{whole_part}
use Rattle.wsn_show.proofs.PassedChunks.{text_so_far}

-- All bytes that came were passed on, and what their lines show was printed.
pub record HasReadOn (limits : Limits) (style : Style) (old new : Incoming) (first : Outgoing) (view : CaptureView) (begun : List ℕ) (now : Outgoing)
    : Type 0 where
  pub came : List ℕ
  pub consumed : IsConsumed old new came
  pub printed : HasPrinted limits style first view begun now came

-- no byte came
pub begins : (limits : Limits) (style : Style) (input : Incoming) (output : Outgoing) (view : CaptureView) (begun : List ℕ) → begun ≡ []
    → HasShownLines limits style view [] [] → output.failed ≡ false → HasReadOn limits style input input output view begun output
begins limits style input output view begun none shown works = record {
  came = [];
  consumed = consumed_none input;
  printed = subst (λ (bs : List ℕ). HasPrinted limits style output view bs output []) (sym none) (record {
    lines = [];
    passed = record {
      whole = refl;
      each = tt;
      in_line = tt;
      short = omega arith;
      given = [];
      taken = tt;
      few = omega arith;
    };
    entries = [];
    has_shown = shown;
    shown = [];
    are = tt;
    printed = whole_part output output [] works (prints_nothing output works);
  });
}

module _ (limits : Limits) (style : Style) (old mid new : Incoming) (first : Outgoing) (view : CaptureView) (begun : List ℕ) (now : Outgoing)
    (read : HasReadOn limits style old mid first view begun now) (few : count_of view.lines ≤ 1000000) where
  bounded : length read.came ≤ 1000000 * 8196 + 8195
  bounded =
      let lines = accepted_count limits view.lines read.printed.lines read.printed.entries read.printed.has_shown.accepted in let all = read.printed.passed.few in let short = read.printed.passed.short in
      omega (arith, lines, all, short, few)

  -- a read failed
  pub stopped : IsKept mid new → new.failed ≡ true → IsShown limits style old new first now (Err (stop.Capture capture.Read))
  stopped keeps failed = record {
    came = read.came;
    received = received_of (1000001 * 8196 + 4095) old new read.came (consumed_kept old mid new read.came read.consumed keeps) (omega (arith, bounded));
    answer = (
      failed,
      unfaulted limits read.printed.lines begun read.came read.printed.passed,
      (
        read.printed.lines,
        begun,
        flat_map (styled_line style) read.printed.shown,
        read.printed.passed.each,
        read.printed.passed.in_line,
        read.printed.passed.whole,
        text_so_far limits style first view begun now read.came read.printed,
        read.printed.printed,
      ),
    );
    at_once = λ is. cc;
  }

  at_end : (result : Result CaptureReport ShowStop) (after : Outgoing) → IsAtEnd new.remaining → new.failed ≡ false
      → EndsShowing limits style first after read.came result → IsShowAnswer limits style new read.came first after result
  at_end (Ok read) after ends unfailed (text, whole, tails, refused, written) = (text, whole, tails, refused, written, ends, unfailed)
  at_end (Err (stop.Capture (capture.Line number fault))) after ends unfailed (faulty, unfaulted_there, printed) =
      (inr (faulty, unfaulted_there, ends), unfailed, printed)
  at_end (Err (stop.Capture capture.Read)) after ends unfailed is = absurd is
  at_end (Err stop.Write) after ends unfailed is = (unfailed, is.0)

  all_at_end : (result : Result CaptureReport ShowStop) (after : Outgoing) → EndsShowing limits style first after read.came result → result ≡ Err stop.Write
      → IsWrittenBut chunk_size (IsTextSoFar limits style) read.came first after
  all_at_end result after ends is =
      let at_end = subst (λ (r : Result CaptureReport ShowStop). EndsShowing limits style first after read.came r) is ends in
      record { done = read.came; last = []; whole = sym (append-nil read.came); short = omega arith; written = at_end.1 }

  -- the input ended
  pub ended : (result : Result CaptureReport ShowStop) (after : Outgoing) → IsConsumed mid new [] → IsAtEnd new.remaining → new.failed ≡ false
      → EndsShowing limits style first after read.came result → IsShown limits style old new first after result
  ended result after nothing ends unfailed is = record {
    came = read.came;
    received = received_of (1000001 * 8196 + 4095) old new read.came (consumed_end old mid new read.came read.consumed nothing) (omega (arith, bounded));
    answer = at_end result after ends unfailed is;
    at_once = all_at_end result after is;
  }

  -- a chunk was shown
  pub goes_on : (chunk : List ℕ) (further : CaptureView) (left : List ℕ) (after : Outgoing) → IsConsumed mid new chunk
      → HasPrinted limits style first further left after (read.came ++ chunk) → HasReadOn limits style old new first further left after
  goes_on chunk further left after consumes printed = record {
    came = read.came ++ chunk;
    consumed = consumed_on old mid new read.came chunk read.consumed consumes;
    printed = printed;
  }

  prompt : (chunk : List ℕ) (number : ℕ) (fault : LineFault) → length chunk ≤ 4096 → IsStopWithin limits read.came chunk (capture.Line number fault)
      → IsPrompt limits (read.came ++ chunk) number fault
  prompt chunk number fault size within =
      let whole : read.came ++ chunk ≡ (read.came ++ within.earlier) ++ within.last ∷ within.ahead = ap (λ (bs : List ℕ). read.came ++ bs) within.whole ∙ sym (append_assoc read.came within.earlier (within.last ∷ within.ahead)) in
      let sizes = ap (λ (bs : List ℕ). length bs) within.whole ∙ length-append within.earlier (within.last ∷ within.ahead) in
      record {
        earlier = read.came ++ within.earlier;
        last = within.last;
        ahead = within.ahead;
        whole = whole;
        unfaulted = within.unfaulted;
        is_evident = within.is_evident;
        is_faulty = λ later. subst (λ (bs : List ℕ). IsFaulty limits bs number fault) (append_assoc (read.came ++ within.earlier) (within.last ∷ []) later) (within.stops later);
        few = omega (arith, sizes, size);
      }

  within_chunk : (chunk : List ℕ) (s : ShowStop) (after : Outgoing) → length chunk ≤ 4096 → new.failed ≡ false
      → StopsWithin limits style first after read.came chunk s → IsShowAnswer limits style new (read.came ++ chunk) first after (Err s)
  within_chunk chunk (stop.Capture (capture.Line number fault)) after size unfailed stops =
      (inl (prompt chunk number fault size stops.0), unfailed, stops.1)
  within_chunk chunk (stop.Capture capture.Read) after size unfailed stops = absurd stops
  within_chunk chunk stop.Write after size unfailed stops = (unfailed, stops.0)

  all_but_chunk : (chunk : List ℕ) (s : ShowStop) (after : Outgoing) → length chunk ≤ 4096 → StopsWithin limits style first after read.came chunk s
      → (let answer : Result CaptureReport ShowStop = Err s in answer) ≡ Err stop.Write → IsWrittenBut chunk_size (IsTextSoFar limits style) (read.came ++ chunk) first after
  all_but_chunk chunk (stop.Capture capture) after size stops is = cc
  all_but_chunk chunk stop.Write after size stops is =
      let but = stops.1 in
      record { done = but.done; last = but.last; whole = but.whole; short = let most = but.short in omega (arith, most, size); written = but.written }

  -- the stop is within a chunk
  pub stops_here : (chunk : List ℕ) (s : ShowStop) (after : Outgoing) → IsConsumed mid new chunk → length chunk ≤ 4096 → new.failed ≡ false
      → StopsWithin limits style first after read.came chunk s → IsShown limits style old new first after (Err s)
  stops_here chunk s after consumes size unfailed stops = record {
    came = read.came ++ chunk;
    received = received_of (1000001 * 8196 + 4095) old new (read.came ++ chunk) (consumed_on old mid new read.came chunk read.consumed consumes) (omega (arith, bounded, size, length-append read.came chunk));
    answer = within_chunk chunk s after size unfailed stops;
    at_once = all_but_chunk chunk s after size stops;
  }
