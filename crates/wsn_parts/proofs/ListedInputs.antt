-- What was printed of the bytes that came, by what the scan has consumed and taken of them.
use Rattle.std.proofs.Common.{◌≡◌, ℕ, ◌+◌, ◌≤◌, Bool, Option, false, true, None, Some, Result, Ok, Err, List, [], ◌++◌, length, take, drop, inl, inr, refl, sym, ap, ◌∙◌, subst, append_assoc, take-append-drop, length-append, append-nil, arith}
use Rattle.std.proofs.lemmas.Bool.{false≢true}
use Rattle.std.proofs.lemmas.List.{take_all}
use Rattle.std.proofs.Math.Seq.{take-append-add}
use Rattle.std.proofs.KnownBytes.{Appends-trans}
use Rattle.std.specs.Io.KnownBytes.{Appends}
use Rattle.wsn_wire.specs.declared.endpoint.Role.{Role}
use Rattle.wsn_io.specs.Transfer.{Incoming, Outgoing, IsWrittenUpToFailure, IsWrittenBut}
use Rattle.wsn_rules.specs.declared.head_info.HeadInfo.{HeadInfo}
use Rattle.wsn_rules.specs.declared.verdict.Refusal.{Refusal}
use Rattle.wsn_rules.specs.declared.verdict.Verdict.{Verdict}
use Rattle.wsn_rules.specs.declared.verdict.Verdict.TheVariants.{Accepted, Cut, Refused}
use Rattle.wsn_scan.specs.declared.scan.Scan.{Scan}
use Rattle.wsn_io.specs.declared.stop.Stop.{Stop}
use Rattle.wsn_io.specs.declared.stop.Stop.TheVariants as stop
use Rattle.wsn_rules.specs.Limits.{Limits}
use Rattle.wsn_rules.specs.Verdict.{IsRefused, IsVerdict}
use Rattle.wsn_rules.specs.Heads.{AreHeads}
use Rattle.wsn_scan.specs.Scans.{refusal_in, refusal_judged}
use Rattle.wsn_scan.specs.Feeding.{HasFed}
use Rattle.wsn_scan.specs.declared.chunk_reader.ChunkReader.{ChunkReader}
use Rattle.wsn_scan.specs.ChunkReaders.{HasCome, IsEndOf, IsHaltOf}
use Rattle.wsn_scan.specs.Judging.{HasVerdictAndHeads, IsJudgedOf, IsReached, chunk_size}
use Rattle.wsn_print.specs.declared.format.Format.{Format}
use Rattle.wsn_print.specs.Formats.{heads_text, verdict_text}
use Rattle.wsn_parts.specs.Listing.{listing, IsReadUpToRefusal, IsEnded, IsListedChunk, IsListedAs, IsHeadsText}
use Rattle.wsn_rules.proofs.OneVerdict.{one_verdict}
use Rattle.wsn_scan.proofs.ChunksSoFar.{received, within_limit}
use Rattle.wsn_scan.proofs.Unrefused.{place_after, reported_so_far, reported_refused}
use Rattle.wsn_parts.proofs.Printing.{lines_on}
use Rattle.wsn_io.proofs.PutTexts.{front_of_more, prints_on}
use Rattle.wsn_scan.proofs.JudgedInputs.{HasRead, none_refused, stopped, ended, taken_whole, goes_on, refuses_input}

abbrev is_refused : Verdict → Bool
is_refused (Refused r) = true
is_refused verdict = false

abbrev refused_at : Verdict → ℕ
refused_at (Refused r) = r.offset
refused_at verdict = 0

abbrev is_write_stop : Stop → Bool
is_write_stop stop.Write = true
is_write_stop halted = false

abbrev is_write : Result Verdict Stop → Bool
is_write (Ok verdict) = false
is_write (Err halted) = is_write_stop halted

module _ (format : Format) (role : Role) (limits : Limits) where
  -- the heads of the bytes within the limit
  within : (came : List ℕ) (heads : List HeadInfo) (verdict : Verdict) → length came ≤ limits.input → HasVerdictAndHeads role limits came heads verdict → HasVerdictAndHeads role limits (take limits.input came) heads verdict
  within came heads verdict fits reported = subst (λ (bs : List ℕ). HasVerdictAndHeads role limits bs heads verdict) (sym (take_all limits.input came fits)) reported

  -- a prefix of the heads' lines is a prefix of the listing
  front_of_listing : (before after : Outgoing) (heads : List HeadInfo) (verdict : Verdict) (k : ℕ) → Appends before.written after.written (take k (heads_text format heads))
      → (j : ℕ) × Appends before.written after.written (take j (listing format heads verdict))
  front_of_listing before after heads verdict k went =
      let longer = front_of_more k (heads_text format heads) (verdict_text format verdict) in
      (longer.0, subst (λ (bs : List ℕ). Appends before.written after.written bs) (sym longer.1) went)

  -- the verdict's line after those of the heads, or a prefix of it
  module _ (before mid after : Outgoing) (heads : List HeadInfo) (verdict : Verdict) (lines : Appends before.written mid.written (heads_text format heads)) where
    whole_listing : Appends mid.written after.written (verdict_text format verdict) → Appends before.written after.written (listing format heads verdict)
    whole_listing went = Appends-trans before.written mid.written after.written (heads_text format heads) (verdict_text format verdict) lines went

    front_listing : (k : ℕ) → Appends mid.written after.written (take k (verdict_text format verdict)) → (j : ℕ) × Appends before.written after.written (take j (listing format heads verdict))
    front_listing k went = (
      length (heads_text format heads) + k,
      subst (λ (bs : List ℕ). Appends before.written after.written bs) (sym (take-append-add (heads_text format heads) (verdict_text format verdict) k))
          (Appends-trans before.written mid.written after.written (heads_text format heads) (take k (verdict_text format verdict)) lines went),
    )

  -- ---- after a failed write

  -- the verdict was reached
  reached_soon : (new : Incoming) (came : List ℕ) (verdict : Verdict) → IsReached role limits new came verdict → (new.failed ≡ false) × IsReadUpToRefusal role limits came
  reached_soon new came (Accepted s) reached = (reached.4, λ fs offset reason refused. absurd (false≢true (ap is_refused (one_verdict role limits came reached.0 fs (Accepted s) (Refused (record { offset = offset; reason = reason })) reached.1 refused).1)))
  reached_soon new came (Cut s) reached = (reached.4, λ fs offset reason refused. absurd (false≢true (ap is_refused (one_verdict role limits came reached.0 fs (Cut s) (Refused (record { offset = offset; reason = reason })) reached.1 refused).1)))
  reached_soon new came (Refused r) reached = (reached.4, soon)
    where
      soon : IsReadUpToRefusal role limits came
      soon fs offset reason refused =
          let here : IsRefused role limits came reached.0 r.offset r.reason = subst (λ (bs : List ℕ). IsRefused role limits bs reached.0 r.offset r.reason) (append-nil came) (reached.1 []) in
          let one : Refused r ≡ Refused (record { offset = offset; reason = reason }) = (one_verdict role limits came reached.0 fs (Refused r) (Refused (record { offset = offset; reason = reason })) here refused).1 in
          let at : r.offset ≡ offset = ap refused_at one in
          omega (arith, reached.2, at)

  -- ---- the answers

  -- no more is read
  pub list_stopped : (old mid new : Incoming) (before after : Outgoing) (chunks : ChunkReader) (scan : Scan) (came : List ℕ) (heads : List HeadInfo) (read : HasRead role limits old mid chunks scan came heads)
      → Appends before.written after.written (heads_text format heads) → after.failed ≡ false → (halted : Stop) → IsHaltOf limits old new came halted → IsListedAs format role limits old new before after (Err halted)
  list_stopped old mid new before after chunks scan came heads read lines unfailed halted halt = by halted halt
    where
      reported : (verdict : Verdict) × HasVerdictAndHeads role limits came heads verdict
      reported = reported_so_far role limits scan came heads read.taken read.none

      by : (h : Stop) → IsHaltOf limits old new came h → IsListedAs format role limits old new before after (Err h)
      by stop.InputLimit h = record {
        came = h.all;
        received = h.received;
        answer = (stopped role limits old mid chunks scan came heads read new stop.InputLimit h).answer;
        printed = (heads, reported.0, subst (λ (bs : List ℕ). HasVerdictAndHeads role limits bs heads reported.0) (sym h.within) reported.1, (unfailed, lines));
        at_once = λ is. absurd (false≢true (ap is_write is));
      }
      by stop.Read h = record {
        came = h.all;
        received = h.received;
        answer = (stopped role limits old mid chunks scan came heads read new stop.Read h).answer;
        printed = (heads, reported.0, subst (λ (bs : List ℕ). HasVerdictAndHeads role limits bs heads reported.0) (sym h.within) reported.1, (unfailed, lines));
        at_once = λ is. absurd (false≢true (ap is_write is));
      }
      by stop.Memory h = absurd h.stops
      by stop.Write h = absurd h.stops

  -- a verdict is printed
  prints_verdict : (old new : Incoming) (before mid after : Outgoing) (came : List ℕ) (heads : List HeadInfo) (verdict : Verdict) (result : Result Verdict Stop) → IsJudgedOf role limits old new came (Ok verdict)
      → HasVerdictAndHeads role limits came heads verdict → HasVerdictAndHeads role limits (take limits.input came) heads verdict → Appends before.written mid.written (heads_text format heads) → IsEnded format mid after verdict result
      → IsListedAs format role limits old new before after result
  prints_verdict old new before mid after came heads verdict (Ok answer) judged reported cut lines is_end =
      subst (λ (v : Verdict). IsListedAs format role limits old new before after (Ok v)) (sym is_end.0)
      (record {
        came = came;
        received = judged.received;
        answer = judged.answer;
        printed = (heads, reported, (is_end.1.0, whole_listing before mid after heads verdict lines is_end.1.1));
        at_once = λ is. absurd (false≢true (ap is_write is));
      })
  prints_verdict old new before mid after came heads verdict (Err stopped_by) judged reported cut lines is_end =
      subst (λ (s : Stop). IsListedAs format role limits old new before after (Err s)) (sym is_end.0)
      (record {
        came = came;
        received = judged.received;
        answer = reached_soon new came verdict judged.answer;
        printed = (heads, verdict, cut, (is_end.1.0, front_listing before mid after heads verdict lines is_end.1.1.0 is_end.1.1.1));
        at_once = λ _. record {
          done = came;
          last = [];
          whole = sym (append-nil came);
          short = omega arith;
          written = (
            heads_text format heads,
            take is_end.1.1.0 (verdict_text format verdict),
            (heads, (verdict, reported), refl),
            Appends-trans before.written mid.written after.written (heads_text format heads) (take is_end.1.1.0 (verdict_text format verdict)) lines is_end.1.1.1,
          );
        };
      })

  -- the input ended
  pub list_ended : (old mid new : Incoming) (before mid_out after : Outgoing) (chunks : ChunkReader) (scan : Scan) (came : List ℕ) (heads : List HeadInfo) (verdict : Verdict) (result : Result Verdict Stop)
      (read : HasRead role limits old mid chunks scan came heads) → Appends before.written mid_out.written (heads_text format heads) → IsEndOf limits old new came
      → IsVerdict role limits came read.taken.frames verdict → AreHeads role limits came read.taken.frames heads → refusal_judged verdict ≡ refusal_in scan → IsEnded format mid_out after verdict result
      → IsListedAs format role limits old new before after result
  list_ended old mid new before mid_out after chunks scan came heads verdict result read lines end is_verdict are_heads reported is_end =
      let all : HasVerdictAndHeads role limits came heads verdict = record { frames = read.taken.frames; is_verdict = is_verdict; are_heads = are_heads } in
      prints_verdict old new before mid_out after came heads verdict result (ended role limits old mid chunks scan came heads read new verdict end is_verdict reported)
      all (within came heads verdict end.within all) lines is_end

  -- The scan got the next chunk.
  module _ (old mid new : Incoming) (before mid_out after : Outgoing) (chunks later_chunks : ChunkReader) (scan next : Scan) (came : List ℕ) (heads : List HeadInfo) (read : HasRead role limits old mid chunks scan came heads)
      (lines : Appends before.written mid_out.written (heads_text format heads)) (unfailed : mid_out.failed ≡ false)
      (chunk : List ℕ) (come : HasCome limits old new later_chunks (came ++ chunk)) (short : length chunk + length come.past ≤ chunk_size) where
    abbrev all_came : List ℕ
    all_came = (came ++ chunk) ++ come.past

    after_came : all_came ≡ came ++ (chunk ++ come.past)
    after_came = append_assoc came chunk come.past

    short_last : length (chunk ++ come.past) ≤ chunk_size
    short_last = omega (arith, short, length-append chunk come.past)

    -- a refusal stays, whatever follows what the scan has consumed
    reported_after : (refusal : Refusal) (fed : HasFed scan next chunk (Some refusal)) (later : List ℕ) → HasVerdictAndHeads role limits ((came ++ take fed.count chunk) ++ later) (heads ++ fed.heads) (Refused refusal)
    reported_after refusal fed later = reported_refused role limits next (came ++ take fed.count chunk) later (heads ++ fed.heads) refusal (fed.consumes role limits came heads read.taken) (sym fed.answered)

    -- the scan refused the chunk
    reported_refusal : (refusal : Refusal) (fed : HasFed scan next chunk (Some refusal)) → HasVerdictAndHeads role limits (came ++ chunk) (heads ++ fed.heads) (Refused refusal)
    reported_refusal refusal fed =
        subst (λ (bs : List ℕ). HasVerdictAndHeads role limits bs (heads ++ fed.heads) (Refused refusal))
        (append_assoc came (take fed.count chunk) (drop fed.count chunk) ∙ ap (λ (bs : List ℕ). came ++ bs) (take-append-drop fed.count chunk)) (reported_after refusal fed (drop fed.count chunk))

    reported_within : (refusal : Option Refusal) (fed : HasFed scan next chunk refusal) → (verdict : Verdict) × HasVerdictAndHeads role limits (came ++ chunk) (heads ++ fed.heads) verdict
    reported_within None fed = reported_so_far role limits next (came ++ chunk) (heads ++ fed.heads) (taken_whole role limits old mid chunks scan came heads read new later_chunks next chunk come fed) (sym fed.answered)
    reported_within (Some refusal) fed = (Refused refusal, reported_refusal refusal fed)

    all_lines : (refusal : Option Refusal) (listed : IsListedChunk format scan next mid_out after chunk refusal) → IsWrittenUpToFailure before after (heads_text format (heads ++ listed.fed.heads))
    all_lines refusal listed =
        lines_on format before after heads listed.fed.heads (prints_on before mid_out after (heads_text format heads) (heads_text format listed.fed.heads) unfailed (inl (unfailed, lines)) listed.printed)

    -- all of them, if no write has failed
    sent : (refusal : Option Refusal) (listed : IsListedChunk format scan next mid_out after chunk refusal) → after.failed ≡ false → Appends before.written after.written (heads_text format (heads ++ listed.fed.heads))
    sent refusal listed went = of (all_lines refusal listed)
      where
        of : IsWrittenUpToFailure before after (heads_text format (heads ++ listed.fed.heads)) → Appends before.written after.written (heads_text format (heads ++ listed.fed.heads))
        of (inl all) = all.1
        of (inr front) = absurd (false≢true (sym went ∙ front.0))

    -- the heads of the bytes within the limit
    reported_limit : (more : List HeadInfo) (verdict : Verdict) → HasVerdictAndHeads role limits (came ++ chunk) more verdict → HasVerdictAndHeads role limits (take limits.input all_came) more verdict
    reported_limit more verdict reported = subst (λ (bs : List ℕ). HasVerdictAndHeads role limits bs more verdict) (sym (within_limit limits old new later_chunks (came ++ chunk) come)) reported

    -- the bytes before the chunk are not refused
    read_up : IsReadUpToRefusal role limits all_came
    read_up fs offset reason refused =
        omega (
          arith,
          place_after role limits came (chunk ++ come.past) fs offset reason (none_refused role limits old mid chunks scan came heads read) (subst (λ (bs : List ℕ). IsRefused role limits bs fs offset reason) after_came refused),
          length-append (came ++ chunk) come.past,
          length-append came chunk,
          short,
        )

    -- a write failed
    pub list_failed : (refusal : Option Refusal) → IsListedChunk format scan next mid_out after chunk refusal → after.failed ≡ true → IsListedAs format role limits old new before after (Err stop.Write)
    list_failed refusal listed broke =
        let reported = reported_within refusal listed.fed in
        record {
          came = all_came;
          received = received limits old new later_chunks (came ++ chunk) come;
          answer = (come.unfailed, read_up);
          printed = (heads ++ listed.fed.heads, reported.0, reported_limit (heads ++ listed.fed.heads) reported.0 reported.1, (broke, of (all_lines refusal listed)));
          at_once = λ _. but_chunk listed.printed;
        }
      where
        but_chunk : IsWrittenUpToFailure mid_out after (heads_text format listed.fed.heads) → IsWrittenBut chunk_size (IsHeadsText format role limits) all_came before after
        but_chunk (inl all) = absurd (false≢true (sym all.0 ∙ broke))
        but_chunk (inr front) = record {
          done = came;
          last = chunk ++ come.past;
          whole = after_came;
          short = short_last;
          written = (
            heads_text format heads,
            take front.1.0 (heads_text format listed.fed.heads),
            (heads, reported_so_far role limits scan came heads read.taken read.none, refl),
            Appends-trans before.written mid_out.written after.written (heads_text format heads) (take front.1.0 (heads_text format listed.fed.heads)) lines front.1.1,
          );
        }

        of : IsWrittenUpToFailure before after (heads_text format (heads ++ listed.fed.heads)) → (k : ℕ) × Appends before.written after.written (take k (listing format (heads ++ listed.fed.heads) (reported_within refusal listed.fed).0))
        of (inl all) = absurd (false≢true (sym all.0 ∙ broke))
        of (inr front) = front_of_listing before after (heads ++ listed.fed.heads) (reported_within refusal listed.fed).0 front.1.0 front.1.1

    -- a refusal
    pub list_refused : (last : Outgoing) (refusal : Refusal) (result : Result Verdict Stop) → IsListedChunk format scan next mid_out after chunk (Some refusal) → after.failed ≡ false
        → IsEnded format after last (Refused refusal) result → IsListedAs format role limits old new before last result
    list_refused last refusal result listed went is_end =
        let fed = listed.fed in
        let cut = reported_refusal refusal fed in
        let parts : (came ++ take fed.count chunk) ++ (drop fed.count chunk ++ come.past) ≡ all_came =
        sym (append_assoc (came ++ take fed.count chunk) (drop fed.count chunk) come.past)
        ∙ ap (λ (bs : List ℕ). bs ++ come.past) (append_assoc came (take fed.count chunk) (drop fed.count chunk) ∙ ap (λ (bs : List ℕ). came ++ bs) (take-append-drop fed.count chunk)) in
        prints_verdict old new before after last all_came (heads ++ fed.heads) (Refused refusal) result
        (refuses_input role limits old mid chunks scan came heads read new later_chunks next chunk come short refusal fed)
        (subst (λ (bs : List ℕ). HasVerdictAndHeads role limits bs (heads ++ fed.heads) (Refused refusal)) parts (reported_after refusal fed (drop fed.count chunk ++ come.past)))
        (reported_limit (heads ++ fed.heads) (Refused refusal) cut) (sent (Some refusal) listed went) is_end

    -- all was consumed
    pub list_goes_on : IsListedChunk format scan next mid_out after chunk None → after.failed ≡ false
        → (all : List ℕ) × (more : List HeadInfo) × HasRead role limits old new later_chunks next all more × Appends before.written after.written (heads_text format more)
    list_goes_on listed went = (came ++ chunk, heads ++ listed.fed.heads, goes_on role limits old mid chunks scan came heads read new later_chunks next chunk come listed.fed, sent None listed went)
