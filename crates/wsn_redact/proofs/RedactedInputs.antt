-- An input that is redacted: the answer is right for the bytes that came, and their redaction was written.
use Rattle.std.proofs.Common.{◌≡◌, ℕ, ◌+◌, ◌≤◌, false, Option, None, Some, Result, Ok, Err, List, [], ◌++◌, length, take, inl, inr, refl, sym, ap, ◌∙◌, subst, append_assoc, append-nil, length-append, arith}
use Rattle.std.proofs.KnownBytes.{Appends-nil, Appends-trans}
use Rattle.std.proofs.lemmas.List.{take_all, take-append-le}
use Rattle.std.specs.Io.KnownBytes.{Consumes, IsAtEnd}
use Rattle.wsn_io.specs.Transfer.{Incoming, Outgoing, IsWritten, IsPartlyWritten}
use Rattle.wsn_io.specs.declared.stop.Stop.{Stop}
use Rattle.wsn_io.specs.declared.stop.Stop.TheVariants as stop
use Rattle.wsn_io.proofs.PutTexts.{put_both, put_front}
use Rattle.wsn_wire.specs.declared.endpoint.Role.{Role}
use Rattle.wsn_wire.specs.Frame.{Frame}
use Rattle.wsn_rules.specs.declared.verdict.Verdict.{Verdict}
use Rattle.wsn_rules.specs.declared.verdict.Verdict.TheVariants.{Refused}
use Rattle.wsn_rules.specs.Limits.{Limits}
use Rattle.wsn_rules.specs.Verdict.{IsVerdict}
use Rattle.wsn_rules.proofs.LawfulLists.{no_close_nil}
use Rattle.wsn_scan.specs.declared.chunk_reader.ChunkReader.{ChunkReader}
use Rattle.wsn_scan.specs.declared.scan.Scan.{Scan}
use Rattle.wsn_scan.specs.Positions.{Position, BetweenFrames}
use Rattle.wsn_scan.specs.ChunkReaders.{HasCome, IsEndOf, IsHaltOf}
use Rattle.wsn_scan.specs.Judging.{chunk_size}
use Rattle.wsn_scan.specs.Scans.{HasScanned, refusal_in, refusal_judged}
use Rattle.wsn_scan.proofs.ChunksSoFar.{received, within_limit}
use Rattle.wsn_scan.proofs.FollowedScans.{judged_so_far}
use Rattle.wsn_scan.proofs.ReaderCalls.{refused_as}
use Rattle.wsn_scan.proofs.Unrefused.{unrefused_first}
use Rattle.wsn_redact.specs.declared.redacted_payload.Redactor.{Redactor}
use Rattle.wsn_redact.specs.Redaction.{IsRedactionAt, IsRedaction}
use Rattle.wsn_redact.specs.Redacting.{IsRedactionWith, IsRedactAnswer, IsRedactedInput, IsRedactedWhole}
use Rattle.wsn_redact.specs.RedactedParts.{KeepsAt, HasRedacted, RedactsOn}
use Rattle.wsn_redact.proofs.RedactedEnds.{redacting_ends}

module _ (role : Role) (limits : Limits) where
  -- What was written is a redaction.
  pub some_redaction : (scan : Scan) (kept : Redactor) (came written : List ℕ) → HasRedacted role limits scan kept came written → IsRedaction role limits came written
  some_redaction scan kept came written (inl h) =
      let v = judged_so_far role limits scan came h.frames h.position h.rest h.followed in
      record { frames = h.frames; verdict = v.0; is_verdict = v.1; is = redacting_ends role limits scan kept came written h v.0 v.1 }
  some_redaction scan kept came written (inr h) =
      subst (λ (bs : List ℕ). IsRedaction role limits bs written) (sym h.came_is)
      (record { frames = h.frames; verdict = Refused h.refusal; is_verdict = h.refused h.later; is = subst (IsRedactionAt role limits (h.seen ++ h.later) h.frames (Refused h.refusal)) (sym h.written_is) (h.is_redaction h.later) })

  -- It is one at the scan's verdict.
  pub with_verdict : (scan : Scan) (kept : Redactor) (came written : List ℕ) (v : Verdict) → ((bytes rest : List ℕ) (fs : List Frame) (at : Position) → HasScanned role limits scan bytes fs rest at → IsVerdict role limits bytes fs v) → refusal_judged v ≡ refusal_in scan
      → HasRedacted role limits scan kept came written → IsRedactionWith role limits came v written
  with_verdict scan kept came written v verdict reported (inl h) =
      let is = verdict came h.rest h.frames h.position h.followed.has_scanned in
      (h.frames, is, redacting_ends role limits scan kept came written h v is)
  with_verdict scan kept came written v verdict reported (inr h) =
      let v_is : v ≡ Refused h.refusal = refused_as v h.refusal (reported ∙ h.reported) in
      subst (λ (w : Verdict). IsRedactionWith role limits came w written) (sym v_is)
      (subst (λ (bs : List ℕ). IsRedactionWith role limits bs (Refused h.refusal) written) (sym h.came_is)
      (h.frames, h.refused h.later, subst (IsRedactionAt role limits (h.seen ++ h.later) h.frames (Refused h.refusal)) (sym h.written_is) (h.is_redaction h.later)))

  -- All bytes that came are redacted.
  pub record HasRedactedInput (old mid : Incoming) (chunks : ChunkReader) (first now : Outgoing) (scan : Scan) (kept : Redactor) (came : List ℕ) : Type 0 where
    pub come : HasCome limits old mid chunks came
    pub text : List ℕ
    pub has_redacted : HasRedacted role limits scan kept came text
    pub written : IsWritten first now text

  pub begins : (input : Incoming) (chunks : ChunkReader) (output : Outgoing) (scan : Scan) (kept : Redactor) → HasCome limits input input chunks [] → HasScanned role limits scan [] [] [] BetweenFrames → KeepsAt kept [] BetweenFrames → kept.done ≡ 0 → output.failed ≡ false
      → HasRedactedInput input input chunks output output scan kept []
  begins input chunks output scan kept come has_scanned keeps none works = record {
    come = come;
    text = [];
    has_redacted = inl (record {
      frames = [];
      position = BetweenFrames;
      rest = [];
      followed = record { has_scanned = has_scanned; unrefused = unrefused_first role limits scan [] (record { frames = []; since = []; position = BetweenFrames; has_scanned = has_scanned; heads_are = refl }) };
      rest_written = [];
      is_rest = inr (no_close_nil, refl);
      whole = refl;
      keeps = keeps;
      few = omega (arith, none);
    });
    written = (works, Appends-nil output.written);
  }

  module _ (old mid : Incoming) (chunks : ChunkReader) (first now : Outgoing) (scan : Scan) (kept : Redactor) (came : List ℕ) (read : HasRedactedInput old mid chunks first now scan kept came) where
    -- no more is read
    pub stopped : (new : Incoming) (halted : Stop) → IsHaltOf limits old new came halted → IsRedactedInput role limits old new first now (Err halted)
    stopped new halted halt = by halted halt
      where
        redaction : IsRedaction role limits came read.text
        redaction = some_redaction scan kept came read.text read.has_redacted

        by : (s : Stop) → IsHaltOf limits old new came s → IsRedactedInput role limits old new first now (Err s)
        by stop.InputLimit it = record {
          came = it.all;
          received = it.received;
          answer = ((read.text, subst (λ (bs : List ℕ). IsRedaction role limits bs read.text) (sym it.within) redaction, read.written), it.stops.0, it.stops.1);
          at_once = λ is. cc;
        }
        by stop.Read it =
            let all : it.all ≡ came = sym (take_all limits.input it.all it.stops.0) ∙ it.within in
            record {
              came = it.all;
              received = it.received;
              answer = ((read.text, subst (λ (bs : List ℕ). IsRedaction role limits bs read.text) (sym all) redaction, read.written), it.stops.0, it.stops.1);
              at_once = λ is. cc;
            }
        by stop.Memory it = absurd it.stops
        by stop.Write it = absurd it.stops

    -- the input ended
    pub ended : (new : Incoming) → IsEndOf limits old new came → (v : Verdict) → IsRedactionWith role limits came v read.text → IsRedactedInput role limits old new first now (Ok v)
    ended new end v is = record { came = came; received = end.received; answer = ((read.text, is, read.written), end.at_end, end.within, end.unfailed); at_once = λ is. cc }

    -- ---- the next chunk came

    module _ (new : Incoming) (later : ChunkReader) (chunk : List ℕ) (come : HasCome limits old new later (came ++ chunk)) (next : Scan) (next_kept : Redactor) (out : List ℕ) (step : RedactsOn scan kept next next_kept chunk out (length chunk)) (sized : length out ≡ length chunk) where
      redacted : HasRedacted role limits next next_kept (came ++ chunk) (read.text ++ out)
      redacted =
          subst (λ (bs : List ℕ). HasRedacted role limits next next_kept (came ++ chunk) (read.text ++ bs)) (take_all (length chunk) out (omega (arith, sized)))
          (subst (λ (bs : List ℕ). HasRedacted role limits next next_kept (came ++ bs) (read.text ++ take (length chunk) out)) (take_all (length chunk) chunk (omega arith)) (step role limits came read.text read.has_redacted))

      pub goes_on : (after : Outgoing) → IsWritten now after out → HasRedactedInput old new later first after next next_kept (came ++ chunk)
      goes_on after put = record { come = come; text = read.text ++ out; has_redacted = redacted; written = put_both first now after read.text out read.written put }

      pub write_failed : length chunk + length come.past ≤ chunk_size → (after : Outgoing) → IsPartlyWritten now after out → IsRedactedInput role limits old new first after (Err stop.Write)
      write_failed short after partly = record {
        came = (came ++ chunk) ++ come.past;
        received = received limits old new later (came ++ chunk) come;
        answer = (
          (
            read.text ++ out,
            subst (λ (bs : List ℕ). IsRedaction role limits bs (read.text ++ out)) (sym (within_limit limits old new later (came ++ chunk) come)) (some_redaction next next_kept (came ++ chunk) (read.text ++ out) redacted),
            put_front first now after read.text out read.written partly,
          ),
          come.unfailed,
        );
        at_once = λ is. record {
          done = came;
          last = chunk ++ come.past;
          whole = append_assoc came chunk come.past;
          short = omega (arith, short, length-append chunk come.past);
          written = (
            read.text,
            take partly.1.0 out,
            some_redaction scan kept came read.text read.has_redacted,
            Appends-trans first.written now.written after.written read.text (take partly.1.0 out) read.written.1 partly.1.1,
          );
        };
      }

  -- ---- an input whose bytes are known

  pub of_all : (old new : Incoming) (before after : Outgoing) (all : List ℕ) (result : Result Verdict Stop) → IsRedactedInput role limits old new before after result → old.remaining ≡ Some all → IsRedactedWhole role limits all before after result
  of_all old new before after all result r known = by_rest new.remaining refl (subst (λ (o : Option (List ℕ)). Consumes o new.remaining r.came) known r.received.consumed.consumed)
    where
      by_answer : (rest : List ℕ) → new.remaining ≡ Some rest → all ≡ r.came ++ rest → (given : Result Verdict Stop) → IsRedactAnswer role limits new r.came before after given → IsRedactedWhole role limits all before after given
      by_answer rest left is (Ok verdict) a =
          let nothing : rest ≡ [] = subst IsAtEnd left a.1 in
          let same : all ≡ r.came = is ∙ ap (λ (bs : List ℕ). r.came ++ bs) nothing ∙ append-nil r.came in
          ((a.0.0, subst (λ (bs : List ℕ). IsRedactionWith role limits bs verdict a.0.0) (sym same) a.0.1, a.0.2), subst (λ (bs : List ℕ). length bs ≤ limits.input) (sym same) a.2)
      by_answer rest left is (Err stop.InputLimit) a =
          let more = a.1 in
          let size : length all ≡ length r.came + length rest = ap (λ (bs : List ℕ). length bs) is ∙ length-append r.came rest in
          let front : take limits.input all ≡ take limits.input r.came = ap (λ (bs : List ℕ). take limits.input bs) is ∙ take-append-le limits.input r.came rest (omega (arith, more)) in
          ((a.0.0, subst (λ (bs : List ℕ). IsRedaction role limits bs a.0.0) (sym front) a.0.1, a.0.2), omega (arith, size, more))
      by_answer rest left is (Err stop.Read) a = tt
      by_answer rest left is (Err stop.Memory) a = tt
      by_answer rest left is (Err stop.Write) a = tt

      by_rest : (rest : Option (List ℕ)) → new.remaining ≡ rest → Consumes (Some all) rest r.came → IsRedactedWhole role limits all before after result
      by_rest None left consumed = absurd consumed
      by_rest (Some rest) left consumed = by_answer rest left consumed result r.answer
