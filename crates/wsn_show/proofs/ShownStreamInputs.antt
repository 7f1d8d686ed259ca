-- An input whose stream is shown: the answer fits the bytes that came.
use Rattle.std.proofs.Common.{◌≡◌, ◌≢◌, ℕ, ◌+◌, ◌<◌, ◌≤◌, false, true, Result, Ok, Err, List, [], ◌++◌, length, take, inl, inr, refl, sym, ap, ◌∙◌, subst, append_assoc, append-nil, length-append, arith}
use Rattle.std.proofs.KnownBytes.{Appends-nil, Appends-trans}
use Rattle.std.proofs.lemmas.List.{take_all, map-append}
use Rattle.std.proofs.lemmas.List.Concat.{flat_map-append}
use Rattle.std.specs.Io.KnownBytes.{Appends}
use Rattle.wsn_io.specs.Transfer.{Incoming, Outgoing, IsReceived, IsWritten, IsPartlyWritten, IsWrittenUpToFailure, IsWrittenAtLeast}
use Rattle.wsn_io.specs.declared.stop.Stop.{Stop}
use Rattle.wsn_io.specs.declared.stop.Stop.TheVariants as stop
use Rattle.wsn_io.proofs.PutTexts.{put_both, put_front, prints_on, prints_no_more}
use Rattle.wsn_wire.specs.Frame.{Frame}
use Rattle.wsn_wire.specs.declared.endpoint.Role.{Role}
use Rattle.wsn_rules.specs.declared.verdict.Refusal.{Refusal}
use Rattle.wsn_rules.specs.declared.verdict.Verdict.{Verdict}
use Rattle.wsn_rules.specs.declared.verdict.Verdict.TheVariants.{Accepted, Cut, Refused}
use Rattle.wsn_rules.specs.Limits.{Limits}
use Rattle.wsn_rules.specs.Verdict.{IsRefused, IsVerdict, IsUnrefused}
use Rattle.wsn_rules.specs.ShownStream.{Item, Shown, IsShownStream, IsLeftOver}
use Rattle.wsn_rules.specs.ShownCapture.{beyond}
use Rattle.wsn_rules.proofs.OneVerdict.{one_verdict}
use Rattle.wsn_rules.proofs.StaysRefused.{place_within, stays_refused}
use Rattle.wsn_rules.proofs.ShownStreams.{shown_goes_on}
use Rattle.wsn_rules.proofs.ShownLines.{nothing_shown}
use Rattle.wsn_print.specs.ShownParts.EntryPosition.{InStream}
use Rattle.wsn_scan.specs.declared.chunk_reader.ChunkReader.{ChunkReader}
use Rattle.wsn_scan.specs.ChunkReaders.{HasCome, IsEndOf, IsHaltOf}
use Rattle.wsn_scan.specs.Judging.{chunk_size, IsReached}
use Rattle.wsn_parts.specs.Listing.{IsEnded, IsListAnswer, IsReadUpToRefusal}
use Rattle.wsn_scan.proofs.ChunksSoFar.{received, within_limit}
use Rattle.wsn_scan.proofs.JudgedInputs.{stopped_unrefused}
use Rattle.wsn_scan.proofs.Unrefused.{place_after}
use Rattle.wsn_print.specs.declared.style.Style.{Style}
use Rattle.wsn_show.specs.Styles.{styled_item, styled_items, styled_verdict}
use Rattle.wsn_show.specs.ShownSoFar.{items_in, Viewed, HasViewed}
use Rattle.wsn_show.specs.StreamShows.{IsItemText, IsLeftWith, IsStreamText, IsPrintedText, EndsStream, IsStreamShown}

module _ (role : Role) (limits : Limits) (style : Style) where
  -- All bytes that came aren't refused, and what is shown of them was printed.
  pub record HasShownInput (old mid : Incoming) (chunks : ChunkReader) (first now : Outgoing) (view : Viewed) (came : List ℕ) : Type 0 where
    pub come : HasCome limits old mid chunks came
    pub viewed : HasViewed role limits style view came
    pub unrefused : IsUnrefused role limits came
    pub text : List ℕ
    pub is_text : IsItemText role limits style came text
    pub written : IsWritten first now text

  none_refused : IsUnrefused role limits []
  none_refused fs offset reason refused =
      let within = place_within role limits fs [] offset reason refused.is_evident in absurd (omega (arith, within))

  pub begins : (input : Incoming) (chunks : ChunkReader) (output : Outgoing) (view : Viewed) → HasCome limits input input chunks [] → HasViewed role limits style view [] → output.failed ≡ false →
      HasShownInput input input chunks output output view []
  begins input chunks output view come viewed works = record {
    come = come;
    viewed = viewed;
    unrefused = none_refused;
    text = [];
    is_text = record { shown = []; is_shown = nothing_shown style.detail limits role; is = refl };
    written = (works, Appends-nil output.written);
  }

  -- what follows a text that was written, up to a failed write
  at_least : (first now after : Outgoing) (bytes text more : List ℕ) → IsItemText role limits style bytes text → IsWritten first now text → IsWrittenUpToFailure now after more → IsWrittenAtLeast (IsItemText role limits style bytes) first after
  at_least first now after bytes text more is_text wrote (inl went) = (text, more, is_text, Appends-trans first.written now.written after.written text more wrote.1 went.1)
  at_least first now after bytes text more is_text wrote (inr part) = (text, take part.1.0 more, is_text, Appends-trans first.written now.written after.written text (take part.1.0 more) wrote.1 part.1.1)

  -- ---- the end of the stream

  left_with : (came : List ℕ) (fs : List Frame) (verdict : Verdict) (left : List Item) → IsUnrefused role limits came → IsVerdict role limits came fs verdict → IsLeftOver role limits came left → IsLeftWith role limits came verdict left
  left_with came fs (Accepted s) left none is over = over
  left_with came fs (Cut s) left none is over = over
  left_with came fs (Refused r) left none is over = absurd (none fs r.offset r.reason is)

  module _ (came : List ℕ) (first now mid after : Outgoing) (text : List ℕ) (none : IsUnrefused role limits came) (is_text : IsItemText role limits style came text)
      (written : IsWritten first now text) (left : List Item) (is_left : IsLeftOver role limits came left)
      (printed : IsWrittenUpToFailure first mid (text ++ styled_items style role InStream left)) where
    all_lines : (fs : List Frame) (verdict : Verdict) → IsVerdict role limits came fs verdict → IsStreamText role limits style came verdict ((text ++ styled_items style role InStream left) ++ styled_verdict style verdict)
    all_lines fs verdict is = record {
      frames = fs;
      is_verdict = is;
      items = text;
      are_items = is_text;
      left = left;
      is_left = left_with came fs verdict left none is is_left;
      is = refl;
    }

    -- what is left over couldn't be written
    pub left_unwritten : mid.failed ≡ true → IsWrittenUpToFailure now mid (styled_items style role InStream left) → EndsStream role limits style came first mid (Err stop.Write)
    left_unwritten failed after_text =
        let verdict = is_text.is_shown.verdict in
        let lines = text ++ styled_items style role InStream left in
        let whole = prints_no_more first mid lines (styled_verdict style verdict) failed printed in
        let partly : IsPartlyWritten first mid (lines ++ styled_verdict style verdict) =
        elim whole [ inl went ↦ (let both : false ≡ true = sym went.0 ∙ failed in absurd cc) | inr part ↦ part ] in
        (refl, (lines ++ styled_verdict style verdict, inr (verdict, all_lines is_text.is_shown.frames verdict is_text.is_shown.is_verdict), partly), at_least first now mid came text (styled_items style role InStream left) is_text written after_text)

    pub ends : mid.failed ≡ false → (fs : List Frame) (verdict : Verdict) → IsVerdict role limits came fs verdict → (result : Result Verdict Stop) → IsEnded style.format mid after verdict result →
        EndsStream role limits style came first after result
    ends works fs verdict is (Ok answer) ended =
        let lines = text ++ styled_items style role InStream left in
        let all : IsWritten first mid lines =
        elim printed [ inl went ↦ went | inr part ↦ (let both : true ≡ false = sym part.0 ∙ works in absurd cc) ] in (
          lines ++ styled_verdict style verdict,
          subst (λ (v : Verdict). IsStreamText role limits style came v (lines ++ styled_verdict style verdict)) (sym ended.0) (all_lines fs verdict is),
          put_both first mid after lines (styled_verdict style verdict) all ended.1,
        )
    ends works fs verdict is (Err stopped) ended =
        let lines = text ++ styled_items style role InStream left in
        let all : IsWritten first mid lines =
        elim printed [ inl went ↦ went | inr part ↦ (let both : true ≡ false = sym part.0 ∙ works in absurd cc) ] in (
          ended.0,
          (lines ++ styled_verdict style verdict, inr (verdict, all_lines fs verdict is), put_front first mid after lines (styled_verdict style verdict) all ended.1),
          (
            text,
            styled_items style role InStream left ++ take ended.1.1.0 (styled_verdict style verdict),
            is_text,
            subst (λ (bs : List ℕ). Appends first.written after.written bs) (append_assoc text (styled_items style role InStream left) (take ended.1.1.0 (styled_verdict style verdict)))
                (Appends-trans first.written mid.written after.written lines (take ended.1.1.0 (styled_verdict style verdict)) all.1 ended.1.1.1),
          ),
        )

  module _ (old mid : Incoming) (chunks : ChunkReader) (first now : Outgoing) (view : Viewed) (came : List ℕ) (read : HasShownInput old mid chunks first now view came) where
    -- no more is read
    pub stopped : (new : Incoming) (halted : Stop) → IsHaltOf limits old new came halted → IsStreamShown role limits style old new first now (Err halted)
    stopped new halted halt = by halted halt
      where
        by : (s : Stop) → IsHaltOf limits old new came s → IsStreamShown role limits style old new first now (Err s)
        by stop.InputLimit it = record {
          came = it.all;
          received = it.received;
          answer = stopped_unrefused role limits new came it.all stop.InputLimit it.stops it.within read.unrefused;
          printed = (read.text, subst (λ (bs : List ℕ). IsItemText role limits style bs read.text) (sym it.within) read.is_text, read.written);
          at_once = λ is. cc;
        }
        by stop.Read it = record {
          came = it.all;
          received = it.received;
          answer = stopped_unrefused role limits new came it.all stop.Read it.stops it.within read.unrefused;
          printed = (read.text, subst (λ (bs : List ℕ). IsItemText role limits style bs read.text) (sym it.within) read.is_text, read.written);
          at_once = λ is. cc;
        }
        by stop.Memory it = absurd it.stops
        by stop.Write it = absurd it.stops

    -- the input ended
    module _ (new : Incoming) (after : Outgoing) (end : IsEndOf limits old new came) where
      within_all : take limits.input came ≡ came
      within_all = take_all limits.input came end.within

      reached : (fs : List Frame) (verdict : Verdict) → IsVerdict role limits came fs verdict → IsReached role limits new came verdict
      reached fs (Accepted s) is = (fs, is, end.at_end, end.within, end.unfailed)
      reached fs (Cut s) is = (fs, is, end.at_end, end.within, end.unfailed)
      reached fs (Refused r) is = absurd (read.unrefused fs r.offset r.reason is)

      pub ended : (result : Result Verdict Stop) → EndsStream role limits style came first after result → IsStreamShown role limits style old new first after result
      ended (Ok verdict) e = record {
        came = came;
        received = end.received;
        answer = reached e.1.frames verdict e.1.is_verdict;
        printed = (e.0, subst (λ (bs : List ℕ). IsStreamText role limits style bs verdict e.0) (sym within_all) e.1, e.2);
        at_once = λ is. cc;
      }
      ended (Err stop.Write) e = record {
        came = came;
        received = end.received;
        answer = (end.unfailed, λ fs offset reason refused. absurd (read.unrefused fs offset reason refused));
        printed = (e.1.0, subst (λ (bs : List ℕ). IsPrintedText role limits style bs e.1.0) (sym within_all) e.1.1, e.1.2);
        at_once = λ is. record { done = came; last = []; whole = sym (append-nil came); short = omega arith; written = e.2 };
      }
      ended (Err stop.Read) e = let h : stop.Read ≡ stop.Write = e.0 in absurd cc
      ended (Err stop.InputLimit) e = let h : stop.InputLimit ≡ stop.Write = e.0 in absurd cc
      ended (Err stop.Memory) e = let h : stop.Memory ≡ stop.Write = e.0 in absurd cc

    -- ---- the next chunk came, and the view got it
    module _ (new : Incoming) (later : ChunkReader) (chunk : List ℕ) (come : HasCome limits old new later (came ++ chunk)) (short : length chunk + length come.past ≤ chunk_size)
        (next : Viewed) (after : Outgoing) (viewed : HasViewed role limits style next (came ++ chunk))
        (shows : (shown : List Shown) × IsShownStream style.detail role limits (came ++ chunk) shown × IsWrittenUpToFailure now after (styled_items style role InStream (beyond (length came) shown))) where
      abbrev all_came : List ℕ
      all_came = (came ++ chunk) ++ come.past

      abbrev last_bytes : List ℕ
      last_bytes = chunk ++ come.past

      after_came : all_came ≡ came ++ last_bytes
      after_came = append_assoc came chunk come.past

      received_all : IsReceived (limits.input + 1) old new all_came
      received_all = received limits old new later (came ++ chunk) come

      within_is : take limits.input all_came ≡ came ++ chunk
      within_is = within_limit limits old new later (came ++ chunk) come

      abbrev items : List ℕ
      items = styled_items style role InStream (beyond (length came) shows.0)

      abbrev lines : List ℕ
      lines = read.text ++ items

      text_now : IsItemText role limits style (came ++ chunk) lines
      text_now =
          let on = shown_goes_on role limits style.detail came chunk read.is_text.shown shows.0 read.is_text.is_shown shows.1 in
          let texts = λ (all : List Item). styled_items style role InStream all in
          record {
            shown = shows.0;
            is_shown = shows.1;
            is =
                ap (λ (bs : List ℕ). bs ++ texts (beyond (length came) shows.0)) read.is_text.is ∙ ap (λ (more : List Item). texts (items_in read.is_text.shown) ++ texts more) on.4
                ∙ sym (flat_map-append (styled_item style role InStream) (items_in read.is_text.shown) (items_in on.0))
                ∙ ap texts (sym (map-append (λ (s : Shown). s.item) read.is_text.shown on.0) ∙ ap items_in (sym on.1));
          }

      written_now : IsWrittenUpToFailure first after lines
      written_now = prints_on first now after read.text items read.written.0 (inl read.written) shows.2

      short_last : length last_bytes ≤ chunk_size
      short_last = omega (arith, short, length-append chunk come.past)

      up_to_refusal : IsReadUpToRefusal role limits all_came
      up_to_refusal fs offset reason refused =
          let offset_is = place_after role limits came last_bytes fs offset reason read.unrefused (subst (λ (bs : List ℕ). IsRefused role limits bs fs offset reason) after_came refused) in
          omega (arith, offset_is, length-append (came ++ chunk) come.past, length-append came chunk, short)

      pub write_failed : after.failed ≡ true → IsStreamShown role limits style old new first after (Err stop.Write)
      write_failed failed = record {
        came = all_came;
        received = received_all;
        answer = (come.unfailed, up_to_refusal);
        printed = (
          lines,
          inl (subst (λ (bs : List ℕ). IsItemText role limits style bs lines) (sym within_is) text_now),
          elim written_now [ inl went ↦ (let both : false ≡ true = sym went.0 ∙ failed in absurd cc) | inr part ↦ part ],
        );
        at_once = λ is. record { done = came; last = last_bytes; whole = after_came; short = short_last; written = at_least first now after came read.text items read.is_text read.written shows.2 };
      }

      module _ (works : after.failed ≡ false) where
        wrote : IsWritten first after lines
        wrote = elim written_now [ inl went ↦ went | inr part ↦ (let both : true ≡ false = sym part.0 ∙ works in absurd cc) ]

        -- the bytes are refused
        module _ (fs : List Frame) (refusal : Refusal) (refused : IsRefused role limits (came ++ chunk) fs refusal.offset refusal.reason) (last : Outgoing) where
          abbrev verdict_text : List ℕ
          verdict_text = styled_verdict style (Refused refusal)

          whole_text : IsStreamText role limits style (came ++ chunk) (Refused refusal) (lines ++ verdict_text)
          whole_text = record {
            frames = fs;
            is_verdict = refused;
            items = lines;
            are_items = text_now;
            left = [];
            is_left = refl;
            is = ap (λ (bs : List ℕ). bs ++ verdict_text) (sym (append-nil lines));
          }

          refused_all : (more : List ℕ) → IsRefused role limits (all_came ++ more) fs refusal.offset refusal.reason
          refused_all more =
              subst (λ (bs : List ℕ). IsRefused role limits bs fs refusal.offset refusal.reason) (sym (append_assoc (came ++ chunk) come.past more))
              (stays_refused role limits fs (came ++ chunk) (come.past ++ more) refusal.offset refusal.reason refused)

          within : refusal.offset < limits.input
          within =
              let inside = place_within role limits fs (came ++ chunk) refusal.offset refusal.reason refused.is_evident in
              let room = come.counted.room in
              omega (arith, inside, room)

          soon : length all_came ≤ refusal.offset + chunk_size
          soon = up_to_refusal fs refusal.offset refusal.reason (subst (λ (bs : List ℕ). IsRefused role limits bs fs refusal.offset refusal.reason) (append-nil all_came) (refused_all []))

          shown_before : (verdict : List ℕ) → Appends after.written last.written verdict → IsWrittenAtLeast (IsItemText role limits style came) first last
          shown_before verdict put = (
            read.text,
            items ++ verdict,
            read.is_text,
            subst (λ (bs : List ℕ). Appends first.written last.written bs) (append_assoc read.text items verdict) (Appends-trans first.written after.written last.written lines verdict wrote.1 put),
          )

          pub refuses : (result : Result Verdict Stop) → IsEnded style.format after last (Refused refusal) result → IsStreamShown role limits style old new first last result
          refuses (Ok verdict) e = record {
            came = all_came;
            received = received_all;
            answer = subst (λ (v : Verdict). IsListAnswer role limits new all_came (Ok v)) (sym e.0) (fs, refused_all, soon, within, come.unfailed);
            printed = (
              lines ++ verdict_text,
              subst (λ (v : Verdict). IsStreamText role limits style (take limits.input all_came) v (lines ++ verdict_text)) (sym e.0)
                  (subst (λ (bs : List ℕ). IsStreamText role limits style bs (Refused refusal) (lines ++ verdict_text)) (sym within_is) whole_text),
              put_both first after last lines verdict_text wrote e.1,
            );
            at_once = λ is. cc;
          }
          refuses (Err stop.Write) e = record {
            came = all_came;
            received = received_all;
            answer = (come.unfailed, up_to_refusal);
            printed = (
              lines ++ verdict_text,
              inr (Refused refusal, subst (λ (bs : List ℕ). IsStreamText role limits style bs (Refused refusal) (lines ++ verdict_text)) (sym within_is) whole_text),
              put_front first after last lines verdict_text wrote e.1,
            );
            at_once = λ is. record { done = came; last = last_bytes; whole = after_came; short = short_last; written = shown_before (take e.1.1.0 verdict_text) e.1.1.1 };
          }
          refuses (Err stop.Read) e = let h : stop.Read ≡ stop.Write = e.0 in absurd cc
          refuses (Err stop.InputLimit) e = let h : stop.InputLimit ≡ stop.Write = e.0 in absurd cc
          refuses (Err stop.Memory) e = let h : stop.Memory ≡ stop.Write = e.0 in absurd cc

        -- the bytes aren't refused
        pub goes_on : (fs : List Frame) (verdict : Verdict) → IsVerdict role limits (came ++ chunk) fs verdict → ((r : Refusal) → verdict ≢ Refused r) → HasShownInput old new later first after next (came ++ chunk)
        goes_on fs verdict is other = record { come = come; viewed = viewed; unrefused = none_now; text = lines; is_text = text_now; written = wrote }
          where
            none_now : IsUnrefused role limits (came ++ chunk)
            none_now gs offset reason refused =
                other (record { offset = offset; reason = reason }) (one_verdict role limits (came ++ chunk) fs gs verdict (Refused (record { offset = offset; reason = reason })) is refused).1
