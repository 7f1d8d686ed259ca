-- An input whose capture is redacted: the answer fits the bytes that came.
use Rattle.std.proofs.Common.{◌≡◌, ℕ, ◌+◌, ◌*◌, ◌≤◌, false, true, Result, Ok, Err, List, [], ◌∷◌, ◌++◌, length, inl, inr, refl, sym, ap, ◌∙◌, subst, append_assoc, append-nil, length-append, arith}
use Rattle.std.specs.Io.KnownBytes.{IsAtEnd}
use Rattle.wsn_io.specs.Transfer.{Incoming, Outgoing, IsConsumed, IsKept, IsWrittenBut}
use Rattle.wsn_io.proofs.Received.{consumed_none, consumed_on, consumed_end, consumed_kept, received_of}
use Rattle.wsn_io.proofs.PutTexts.{prints_nothing}
use Rattle.wsn_rules.specs.Limits.{Limits}
use Rattle.wsn_rules.specs.TextLines.{ended}
use Rattle.wsn_scan.specs.Judging.{chunk_size}
use Rattle.wsn_capture.specs.declared.line_fault.LineFault.{LineFault}
use Rattle.wsn_capture.specs.declared.capture_stop.CaptureStop.TheVariants as capture
use Rattle.wsn_capture.specs.CaptureLines.{count_of}
use Rattle.wsn_capture.proofs.AcceptedLines.{accepted_count}
use Rattle.wsn_capture.specs.CaptureAnswers.{IsFaulty, IsPrompt}
use Rattle.wsn_capture.specs.LineSplitters.{IsStopWithin}
use Rattle.wsn_capture.proofs.SplitLines.{unfaulted}
use Rattle.wsn_redact.specs.declared.capture_redactor.CaptureRedactor.{CaptureRedactor}
use Rattle.wsn_redact.specs.declared.capture_redacting.RedactStop.{RedactStop}
use Rattle.wsn_redact.specs.declared.capture_redacting.RedactStop.TheVariants as stop
use Rattle.wsn_redact.specs.PassedRedactions.{HasRedactedLines, HasWritten, StopsWithin, EndsRedacting}
use Rattle.wsn_redact.specs.RedactingCaptures.{IsCaptureRedactAnswer, IsRedactedCaptureInput, IsTextOfWhole}
use Rattle.wsn_capture.proofs.WrittenTexts.{whole_part}
use Rattle.wsn_redact.proofs.PassedRedactions.{text_so_far}

-- All bytes that came were passed on, and what their lines became was written.
pub record HasRedactedOn (limits : Limits) (old new : Incoming) (first : Outgoing) (redactor : CaptureRedactor) (begun : List ℕ) (now : Outgoing)
    : Type 0 where
  pub came : List ℕ
  pub consumed : IsConsumed old new came
  pub has_written : HasWritten limits first redactor begun now came

-- no byte came
pub begins : (limits : Limits) (input : Incoming) (output : Outgoing) (redactor : CaptureRedactor) (begun : List ℕ) → begun ≡ []
    → HasRedactedLines limits redactor [] [] [] [] → output.failed ≡ false → HasRedactedOn limits input input output redactor begun output
begins limits input output redactor begun none has works = record {
  came = [];
  consumed = consumed_none input;
  has_written = subst (λ (bs : List ℕ). HasWritten limits output redactor bs output []) (sym none) (record {
    lines = [];
    passed = record {
      whole = refl;
      each = tt;
      in_line = tt;
      short = omega arith;
      given = [];
      taken = tt;
      few = omega arith;
    };
    entries = [];
    others = [];
    redacted = [];
    has_redacted = has;
    written = whole_part output output [] works (prints_nothing output works);
  });
}

module _ (limits : Limits) (old mid new : Incoming) (first : Outgoing) (redactor : CaptureRedactor) (begun : List ℕ) (now : Outgoing)
    (read : HasRedactedOn limits old mid first redactor begun now) (few : count_of redactor.lines ≤ 1000000) where
  bounded : length read.came ≤ 1000000 * 8196 + 8195
  bounded =
      let lines = accepted_count limits redactor.lines read.has_written.lines read.has_written.entries read.has_written.has_redacted.accepted in let all = read.has_written.passed.few in let short = read.has_written.passed.short in
      omega (arith, lines, all, short, few)

  -- a read failed
  pub stopped : IsKept mid new → new.failed ≡ true → IsRedactedCaptureInput limits old new first now (Err (stop.Capture capture.Read))
  stopped keeps failed = record {
    came = read.came;
    received = received_of (1000001 * 8196 + 4095) old new read.came (consumed_kept old mid new read.came read.consumed keeps) (omega (arith, bounded));
    answer = (
      failed,
      unfaulted limits read.has_written.lines begun read.came read.has_written.passed,
      (
        ended read.has_written.redacted,
        (
          read.has_written.lines,
          begun,
          (read.has_written.passed.each, read.has_written.passed.whole),
          read.has_written.passed.in_line,
          text_so_far limits first redactor begun now read.came read.has_written,
        ),
        read.has_written.written,
      ),
    );
    at_once = λ is. cc;
  }

  at_end : (result : Result (Unit {0}) RedactStop) (after : Outgoing) → IsAtEnd new.remaining → new.failed ≡ false
      → EndsRedacting limits first after read.came result → IsCaptureRedactAnswer limits new read.came first after result
  at_end (Ok done) after ends unfailed (text, whole, written) = (text, whole, written, ends, unfailed)
  at_end (Err (stop.Capture (capture.Line number fault))) after ends unfailed (faulty, unfaulted_there, before) =
      (inr (faulty, unfaulted_there, ends), unfailed, before)
  at_end (Err (stop.Capture capture.Read)) after ends unfailed is = absurd is
  at_end (Err stop.Write) after ends unfailed is = (unfailed, is.0)

  all_at_end : (result : Result (Unit {0}) RedactStop) (after : Outgoing) → EndsRedacting limits first after read.came result → result ≡ Err stop.Write
      → IsWrittenBut chunk_size (IsTextOfWhole limits) read.came first after
  all_at_end result after ends is =
      let at_end = subst (λ (r : Result (Unit {0}) RedactStop). EndsRedacting limits first after read.came r) is ends in
      record { done = read.came; last = []; whole = sym (append-nil read.came); short = omega arith; written = at_end.1 }

  -- the input ended
  pub finished : (result : Result (Unit {0}) RedactStop) (after : Outgoing) → IsConsumed mid new [] → IsAtEnd new.remaining → new.failed ≡ false
      → EndsRedacting limits first after read.came result → IsRedactedCaptureInput limits old new first after result
  finished result after nothing ends unfailed is = record {
    came = read.came;
    received = received_of (1000001 * 8196 + 4095) old new read.came (consumed_end old mid new read.came read.consumed nothing) (omega (arith, bounded));
    answer = at_end result after ends unfailed is;
    at_once = all_at_end result after is;
  }

  -- a chunk was redacted
  pub goes_on : (chunk : List ℕ) (further : CaptureRedactor) (left : List ℕ) (after : Outgoing) → IsConsumed mid new chunk
      → HasWritten limits first further left after (read.came ++ chunk) → HasRedactedOn limits old new first further left after
  goes_on chunk further left after consumes has_written = record {
    came = read.came ++ chunk;
    consumed = consumed_on old mid new read.came chunk read.consumed consumes;
    has_written = has_written;
  }

  prompt : (chunk : List ℕ) (number : ℕ) (fault : LineFault) → length chunk ≤ 4096 → IsStopWithin limits read.came chunk (capture.Line number fault)
      → IsPrompt limits (read.came ++ chunk) number fault
  prompt chunk number fault size within =
      let whole : read.came ++ chunk ≡ (read.came ++ within.earlier) ++ within.last ∷ within.ahead = ap (λ (bs : List ℕ). read.came ++ bs) within.whole ∙ sym (append_assoc read.came within.earlier (within.last ∷ within.ahead)) in
      let sizes = ap (λ (bs : List ℕ). length bs) within.whole ∙ length-append within.earlier (within.last ∷ within.ahead) in
      record {
        earlier = read.came ++ within.earlier;
        last = within.last;
        ahead = within.ahead;
        whole = whole;
        unfaulted = within.unfaulted;
        is_evident = within.is_evident;
        is_faulty = λ later. subst (λ (bs : List ℕ). IsFaulty limits bs number fault) (append_assoc (read.came ++ within.earlier) (within.last ∷ []) later) (within.stops later);
        few = omega (arith, sizes, size);
      }

  within_chunk : (chunk : List ℕ) (s : RedactStop) (after : Outgoing) → length chunk ≤ 4096 → new.failed ≡ false
      → StopsWithin limits first after read.came chunk s → IsCaptureRedactAnswer limits new (read.came ++ chunk) first after (Err s)
  within_chunk chunk (stop.Capture (capture.Line number fault)) after size unfailed stops =
      (inl (prompt chunk number fault size stops.0), unfailed, stops.1)
  within_chunk chunk (stop.Capture capture.Read) after size unfailed stops = absurd stops
  within_chunk chunk stop.Write after size unfailed stops = (unfailed, stops.0)

  all_but_chunk : (chunk : List ℕ) (s : RedactStop) (after : Outgoing) → length chunk ≤ 4096 → StopsWithin limits first after read.came chunk s
      → (let answer : Result (Unit {0}) RedactStop = Err s in answer) ≡ Err stop.Write → IsWrittenBut chunk_size (IsTextOfWhole limits) (read.came ++ chunk) first after
  all_but_chunk chunk (stop.Capture capture) after size stops is = cc
  all_but_chunk chunk stop.Write after size stops is =
      let but = stops.1 in
      record { done = but.done; last = but.last; whole = but.whole; short = let most = but.short in omega (arith, most, size); written = but.written }

  -- the stop is within a chunk
  pub stops_here : (chunk : List ℕ) (s : RedactStop) (after : Outgoing) → IsConsumed mid new chunk → length chunk ≤ 4096 → new.failed ≡ false
      → StopsWithin limits first after read.came chunk s → IsRedactedCaptureInput limits old new first after (Err s)
  stops_here chunk s after consumes size unfailed stops = record {
    came = read.came ++ chunk;
    received = received_of (1000001 * 8196 + 4095) old new (read.came ++ chunk) (consumed_on old mid new read.came chunk read.consumed consumes) (omega (arith, bounded, size, length-append read.came chunk));
    answer = within_chunk chunk s after size unfailed stops;
    at_once = all_but_chunk chunk s after size stops;
  }
