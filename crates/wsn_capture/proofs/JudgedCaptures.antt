-- The answer to a capture's text fits the bytes that came.
use Rattle.std.proofs.Common.{◌≡◌, ℕ, ◌+◌, ◌*◌, ◌≤◌, Option, Some, false, true, Result, Ok, Err, List, [], ◌∷◌, ◌++◌, length, inl, inr, sym, ap, ◌∙◌, subst, append_assoc, append-nil, length-append, arith}
use Rattle.std.specs.Prelude.{◌↔◌}
use Rattle.std.specs.Io.KnownBytes.{Consumes, IsAtEnd}
use Rattle.wsn_io.specs.Transfer.{Incoming, IsConsumed, IsKept}
use Rattle.wsn_io.proofs.Received.{consumed_none, consumed_on, consumed_end, consumed_kept, received_of}
use Rattle.wsn_rules.specs.Limits.{Limits}
use Rattle.wsn_rules.specs.declared.closing_handshake.Report.{Report}
use Rattle.wsn_capture.specs.declared.capture_report.CaptureReport.{CaptureReport}
use Rattle.wsn_capture.specs.declared.capture_stop.CaptureStop.{CaptureStop}
use Rattle.wsn_capture.specs.declared.capture_stop.CaptureStop.TheVariants.{Read, Line}
use Rattle.wsn_capture.specs.declared.line_splitter.LineSplitter.{LineSplitter}
use Rattle.wsn_capture.specs.CaptureLines.{count_of}
use Rattle.wsn_capture.proofs.AcceptedLines.{accepted_count}
use Rattle.wsn_capture.specs.CaptureAnswers.{IsFaulty, IsCaptureAnswerOf, IsCaptureAnswer, IsCaptureJudged, without_tails}
use Rattle.wsn_capture.specs.LineSplitters.{HasSplit, IsStopWithin}
use Rattle.wsn_capture.proofs.SplitLines.{unfaulted}

-- All bytes that came were split.
pub record HasRead (limits : Limits) (old new : Incoming) (splitter : LineSplitter) : Type 0 where
  pub came : List ℕ
  pub consumed : IsConsumed old new came
  pub split : HasSplit limits splitter came

pub begins : (limits : Limits) (input : Incoming) (splitter : LineSplitter) → HasSplit limits splitter [] → HasRead limits input input splitter
begins limits input splitter split = record { came = []; consumed = consumed_none input; split = split }

module _ (limits : Limits) (old mid new : Incoming) (splitter : LineSplitter) (read : HasRead limits old mid splitter) (few : count_of splitter.capture.lines ≤ 1000000) where
  bounded : length read.came ≤ 1000000 * 8196 + 8195
  bounded = let lines = accepted_count limits splitter.capture.lines read.split.lines read.split.accepted.entries read.split.accepted.accepted in let all = read.split.passed.few in let short = read.split.passed.short in omega arith

  -- a read failed
  pub stopped : IsKept mid new → new.failed ≡ true → IsCaptureJudged limits old new (Err Read)
  stopped keeps failed = grind (arith, received_of, consumed_kept, bounded, unfaulted)

  at_end : (result : Result CaptureReport CaptureStop) → IsAtEnd new.remaining → new.failed ≡ false → IsCaptureAnswerOf limits read.came result → IsCaptureAnswer limits new read.came result
  at_end (Ok report) ends unfailed is = (is, ends, unfailed)
  at_end (Err (Line number fault)) ends unfailed is = (inr (is, unfaulted limits read.split.lines splitter.begun read.came read.split.passed, ends), unfailed)
  at_end (Err Read) ends unfailed is = absurd is

  -- the input ended
  pub ended : (result : Result CaptureReport CaptureStop) → IsConsumed mid new [] → IsAtEnd new.remaining → new.failed ≡ false → IsCaptureAnswerOf limits read.came result → IsCaptureJudged limits old new result
  ended result nothing ends unfailed is = grind (arith, received_of, consumed_end, bounded, at_end)

  -- a chunk was consumed
  pub goes_on : (chunk : List ℕ) (further : LineSplitter) → IsConsumed mid new chunk → HasSplit limits further (read.came ++ chunk) → HasRead limits old new further
  goes_on chunk further consumes split = record {
    came = read.came ++ chunk;
    consumed = consumed_on old mid new read.came chunk read.consumed consumes;
    split = split;
  }

  earlier : (chunk : List ℕ) (stop : CaptureStop) → length chunk ≤ 4096 → new.failed ≡ false → IsStopWithin limits read.came chunk stop → IsCaptureAnswer limits new (read.came ++ chunk) (Err stop)
  earlier chunk Read size unfailed within = absurd within.stops
  earlier chunk (Line number fault) size unfailed within =
      let whole : read.came ++ chunk ≡ (read.came ++ within.earlier) ++ within.last ∷ within.ahead = ap (λ (bs : List ℕ). read.came ++ bs) within.whole ∙ sym (append_assoc read.came within.earlier (within.last ∷ within.ahead)) in
      let sizes = ap (λ (bs : List ℕ). length bs) within.whole ∙ length-append within.earlier (within.last ∷ within.ahead) in (
        inl (record {
          earlier = read.came ++ within.earlier;
          last = within.last;
          ahead = within.ahead;
          whole = whole;
          unfaulted = within.unfaulted;
          is_evident = within.is_evident;
          is_faulty = λ later. subst (λ (bs : List ℕ). IsFaulty limits bs number fault) (append_assoc (read.came ++ within.earlier) (within.last ∷ []) later) (within.stops later);
          few = omega (arith, sizes, size);
        }),
        unfailed,
      )

  -- a fault was reported
  pub faulty : (chunk : List ℕ) (stop : CaptureStop) → IsConsumed mid new chunk → length chunk ≤ 4096 → new.failed ≡ false → IsStopWithin limits read.came chunk stop → IsCaptureJudged limits old new (Err stop)
  faulty chunk stop consumes size unfailed within = record {
    came = read.came ++ chunk;
    received = received_of (1000001 * 8196 + 4095) old new (read.came ++ chunk) (consumed_on old mid new read.came chunk read.consumed consumes) (omega (arith, bounded, size, length-append read.came chunk));
    answer = earlier chunk stop size unfailed within;
  }

-- ---- what follows from an answer

pub failed_by : (limits : Limits) (old new : Incoming) (result : Result CaptureReport CaptureStop) → IsCaptureJudged limits old new result → (result ≡ Err Read) ↔ (new.failed ≡ true)
failed_by limits old new result judged = grind arith

left_all : (came all : List ℕ) (left : Option (List ℕ)) → Consumes (Some all) left came → (rest : List ℕ) × (left ≡ Some rest) × (all ≡ came ++ rest)
left_all came all left gone = grind arith

pub whole_answer : (limits : Limits) (old new : Incoming) (result : Result CaptureReport CaptureStop) (all : List ℕ) → old.remaining ≡ Some all → new.failed ≡ false → IsCaptureJudged limits old new result → IsCaptureAnswerOf limits all result
whole_answer limits old new result all known unfailed judged = grind (arith, left_all, append-nil, append_assoc)

-- ---- the report alone

pub failed_alone : (limits : Limits) (old new : Incoming) (result : Result Report CaptureStop) (read : Result CaptureReport CaptureStop) → result ≡ without_tails read → (read ≡ Err Read) ↔ (new.failed ≡ true) → (result ≡ Err Read) ↔ (new.failed ≡ true)
failed_alone limits old new result read is failed = grind arith
