-- An input of which a payload is taken: the answer is right for the bytes that came.
use Rattle.std.proofs.Common.{◌≡◌, ℕ, ◌+◌, ◌<◌, ◌≤◌, ◌⊎◌, Bool, true, false, Option, None, Some, Result, Ok, Err, List, [], ◌∷◌, ◌++◌, length, take, drop, refl, sym, ap, ◌∙◌, subst, append_assoc, append-nil, length-append, take-append-drop, arith}
use Rattle.std.proofs.KnownBytes.{Appends-nil}
use Rattle.std.proofs.lemmas.Bool.{cond-true}
use Rattle.std.proofs.lemmas.List.{take-append-le}
use Rattle.std.specs.Io.KnownBytes.{Consumes, IsAtEnd}
use Rattle.wsn_io.specs.Transfer.{Incoming, Outgoing, IsWritten, IsWrittenBut}
use Rattle.wsn_io.specs.declared.stop.Stop.{Stop}
use Rattle.wsn_io.specs.declared.stop.Stop.TheVariants as stop
use Rattle.wsn_wire.specs.declared.endpoint.Role.{Role}
use Rattle.wsn_wire.specs.Frame.{Frame, stream}
use Rattle.wsn_rules.specs.declared.verdict.Verdict.{Verdict}
use Rattle.wsn_rules.specs.declared.verdict.Verdict.TheVariants.{Accepted, Cut, Refused}
use Rattle.wsn_rules.specs.AfterClose.{EndsWithClose}
use Rattle.wsn_rules.specs.Limits.{Limits}
use Rattle.wsn_rules.specs.Verdict.{IsRefused, IsVerdict, judged_bytes, IsUnrefused}
use Rattle.wsn_rules.proofs.StaysRefused.{place_within}
use Rattle.wsn_scan.specs.declared.chunk_reader.ChunkReader.{ChunkReader}
use Rattle.wsn_scan.specs.declared.scan.Scan.{Scan}
use Rattle.wsn_scan.specs.ChunkReaders.{HasCome, IsEndOf, IsHaltOf}
use Rattle.wsn_scan.specs.Judging.{IsReached, IsWithinLimit, chunk_size}
use Rattle.wsn_scan.specs.Positions.{Position, BetweenFrames}
use Rattle.wsn_scan.specs.Scans.{HasScanned}
use Rattle.wsn_scan.proofs.ChunksSoFar.{received}
use Rattle.wsn_scan.proofs.JudgedInputs.{stopped_unrefused}
use Rattle.wsn_scan.proofs.Unrefused.{unrefused_first, place_after}
use Rattle.wsn_scan.proofs.WholeInputs.{of_all as verdict_of_all}
use Rattle.wsn_parts.specs.declared.answer.EventStart.{EventStart}
use Rattle.wsn_parts.specs.declared.answer.Payload.{Payload}
use Rattle.wsn_parts.specs.declared.answer.Payload.TheVariants.{Whole, Unfinished, Inside, Head, Nothing}
use Rattle.wsn_parts.specs.declared.event_at.EventAt.{EventAt}
use Rattle.wsn_parts.specs.EventsAt.{IsWholeAt, IsRestAt, AreApart, IsUnfinishedAt, EndsBefore, IsInHeadAt, IsAfterAll, IsInsideAt}
use Rattle.wsn_parts.specs.Following.{HasBegunAt, KeepsEventAt, is_judged, answer_without_event, ended_answer, HasSought, IsRefusedHere, IsAnsweredAt, SeeksThrough}
use Rattle.wsn_parts.specs.Payloads.{IsPartAt, IsPayloadInFront, IsPayloadAnswer, IsPayloadTaken, IsPayloadOfAll, IsPartOf}
use Rattle.wsn_scan.proofs.FollowedScans.{unrefused_so_far, judged_so_far}
use Rattle.wsn_parts.proofs.EndedAnswers.{IsAnswered, answered_without, in_head, after_all}
use Rattle.wsn_parts.proofs.EndedAnswers.IsAnswered.{InHead, AfterAll}
use Rattle.wsn_parts.proofs.SoughtSteps.{apart, part_of}

-- ---- more bytes

pub whole_longer : (role : Role) (limits : Limits) (bytes more : List ℕ) (at : ℕ) (payload : List ℕ) → IsWholeAt role limits bytes at payload → IsWholeAt role limits (bytes ++ more) at payload
whole_longer role limits bytes more at payload w = record {
  before = w.before;
  last = w.last;
  later = w.later ++ more;
  whole = ap (λ (bs : List ℕ). bs ++ more) w.whole ∙ append_assoc (stream (w.before ++ w.last ∷ [])) w.later more;
  within = w.within;
  lawful = w.lawful;
  ends = w.ends;
}

pub inside_longer : (role : Role) (limits : Limits) (bytes more : List ℕ) (at : ℕ) (start : EventStart) → IsInsideAt role limits bytes at start → IsInsideAt role limits (bytes ++ more) at start
inside_longer role limits bytes more at start w = record {
  front = w.front;
  later = w.later ++ more;
  whole = ap (λ (bs : List ℕ). bs ++ more) w.whole ∙ append_assoc w.front w.later more;
  within = w.within;
  before = w.before;
  last = w.last;
  info = w.info;
  are_heads = w.are_heads;
  elsewhere = w.elsewhere;
}

pub front_longer : (role : Role) (limits : Limits) (bytes more : List ℕ) (at : ℕ) (payload : List ℕ) → IsPayloadInFront role limits bytes at payload → IsPayloadInFront role limits (bytes ++ more) at payload
front_longer role limits bytes more at payload w = record {
  front = w.front;
  later = w.later ++ more;
  whole = ap (λ (bs : List ℕ). bs ++ more) w.whole ∙ append_assoc w.front w.later more;
  within = w.within;
  is = w.is;
}

module _ (role : Role) (limits : Limits) (at : ℕ) where
  -- All bytes that came aren't refused, and what has come of the payload was written.
  pub record HasSoughtInput (old mid : Incoming) (chunks : ChunkReader) (first now : Outgoing) (scan : Scan) (kept : EventAt) (came : List ℕ) : Type 0 where
    pub come : HasCome limits old mid chunks came
    pub sought : HasSought role limits at scan kept came first now

  pub begins : (input : Incoming) (chunks : ChunkReader) (output : Outgoing) (scan : Scan) (kept : EventAt) → HasCome limits input input chunks [] → HasScanned role limits scan [] [] [] BetweenFrames → KeepsEventAt kept at [] BetweenFrames [] → output.failed ≡ false
      → HasSoughtInput input input chunks output output scan kept []
  begins input chunks output scan kept come has_scanned keeps works = record {
    come = come;
    sought = record {
      frames = [];
      position = BetweenFrames;
      rest = [];
      followed = record { has_scanned = has_scanned; unrefused = unrefused_first role limits scan [] (record { frames = []; since = []; position = BetweenFrames; has_scanned = has_scanned; heads_are = refl }) };
      payload = [];
      keeps = keeps;
      written = (works, Appends-nil output.written);
    };
  }

  module _ (old mid : Incoming) (chunks : ChunkReader) (first now : Outgoing) (scan : Scan) (kept : EventAt) (came : List ℕ) (read : HasSoughtInput old mid chunks first now scan kept came) where
    abbrev h : HasSought role limits at scan kept came first now
    h = read.sought

    none_refused : IsUnrefused role limits came
    none_refused = unrefused_so_far role limits scan came h.frames h.position h.rest h.followed

    some_part : (verdict : Verdict) × IsPartAt role limits came verdict at h.payload
    some_part = let v = judged_so_far role limits scan came h.frames h.position h.rest h.followed in (v.0, part_of role limits at scan kept came first now h v.0 v.1)

    -- no more is read
    pub stopped : (new : Incoming) (halted : Stop) → IsHaltOf limits old new came halted → IsPayloadTaken role limits at old new first now (Err halted)
    stopped new halted halt = by halted halt
      where
        by : (s : Stop) → IsHaltOf limits old new came s → IsPayloadTaken role limits at old new first now (Err s)
        by stop.InputLimit it = record {
          came = it.all;
          received = it.received;
          answer = (h.payload, (some_part.0, subst (λ (bs : List ℕ). IsPartAt role limits bs some_part.0 at h.payload) (sym it.within) some_part.1), h.written, stopped_unrefused role limits new came it.all stop.InputLimit it.stops it.within none_refused);
          at_once = λ is. cc;
        }
        by stop.Read it = record {
          came = it.all;
          received = it.received;
          answer = (h.payload, (some_part.0, subst (λ (bs : List ℕ). IsPartAt role limits bs some_part.0 at h.payload) (sym it.within) some_part.1), h.written, stopped_unrefused role limits new came it.all stop.Read it.stops it.within none_refused);
          at_once = λ is. cc;
        }
        by stop.Memory it = absurd it.stops
        by stop.Write it = absurd it.stops

    -- the input ended
    module _ (new : Incoming) (end : IsEndOf limits old new came) (v : Verdict) (is : IsVerdict role limits came h.frames v) where
      reached : (w : Verdict) → IsVerdict role limits came h.frames w → IsReached role limits new came w
      reached (Accepted s) is_w = (h.frames, is_w, end.at_end, end.within, end.unfailed)
      reached (Cut s) is_w = (h.frames, is_w, end.at_end, end.within, end.unfailed)
      reached (Refused r) is_w = absurd (none_refused h.frames r.offset r.reason is_w)

      pub ended : (answer : Payload) → answer ≡ ended_answer kept v → IsPayloadTaken role limits at old new first now (Ok answer)
      ended answer answer_is = record {
        came = came;
        received = end.received;
        answer = by kept.begun refl h.keeps.begun;
        at_once = λ is. cc;
      }
        where
          by : (b : Bool) → kept.begun ≡ b → HasBegunAt b h.frames h.position at h.payload → IsPayloadAnswer role limits at new came first now (Ok answer)
          by true begun has =
              subst (λ (a : Payload). IsPayloadAnswer role limits at new came first now (Ok a)) (sym (answer_is ∙ cond-true kept.begun (Unfinished v) (answer_without_event kept.next (is_judged v kept.at) v) begun))
              (h.payload, record { frames = h.frames; position = h.position; are_apart = apart role limits scan came h.frames h.position h.rest h.followed v is; is_begun = has }, h.written, reached v is)
          by false begun has = by_answer (answered_without kept v answer answer_is begun)
            where
              none : IsWritten first now []
              none = subst (IsWritten first now) has.1 h.written

              are_apart : AreApart role limits came v h.frames h.position
              are_apart = apart role limits scan came h.frames h.position h.rest h.followed v is

              by_answer : IsAnswered kept v answer → IsPayloadAnswer role limits at new came first now (Ok answer)
              by_answer (InHead start next judged it) =
                  subst (λ (a : Payload). IsPayloadAnswer role limits at new came first now (Ok a)) (sym it)
                  (in_head role limits came h.frames at kept h.position h.payload h.keeps v are_apart has.0 start next judged, none, reached v is)
              by_answer (AfterAll why it) =
                  subst (λ (a : Payload). IsPayloadAnswer role limits at new came first now (Ok a)) (sym it)
                  (after_all role limits came h.frames at kept h.position h.payload h.keeps v are_apart has.0 why, none, reached v is)

    -- ---- the next chunk came

    module _ (new : Incoming) (later : ChunkReader) (chunk : List ℕ) (come : HasCome limits old new later (came ++ chunk)) (short : length chunk + length come.past ≤ chunk_size) (next : Scan) (next_kept : EventAt) (after : Outgoing) where
      abbrev all_came : List ℕ
      all_came = (came ++ chunk) ++ come.past

      after_first : (n : ℕ) → all_came ≡ (came ++ take n chunk) ++ (drop n chunk ++ come.past)
      after_first n =
          ap (λ (bs : List ℕ). (came ++ bs) ++ come.past) (sym (take-append-drop n chunk))
          ∙ ap (λ (bs : List ℕ). bs ++ come.past) (sym (append_assoc came (take n chunk) (drop n chunk)))
          ∙ append_assoc (came ++ take n chunk) (drop n chunk) come.past

      pub goes_on : SeeksThrough role limits at next next_kept came chunk first after (Ok None) → HasSoughtInput old new later first after next next_kept (came ++ chunk)
      goes_on sought = record { come = come; sought = sought }

      pub write_failed : (stopped : Stop) → SeeksThrough role limits at next next_kept came chunk first after (Err stopped) → IsPayloadTaken role limits at old new first after (Err stopped)
      write_failed stopped given =
          subst (λ (s : Stop). IsPayloadTaken role limits at old new first after (Err s)) (sym given.0)
          (record {
            came = all_came;
            received = received limits old new later (came ++ chunk) come;
            answer = (given.1.0, front_longer role limits (came ++ chunk) come.past at given.1.0 given.1.1, given.1.2, come.unfailed);
            at_once = λ is. at_once;
          })
        where
          but : IsWrittenBut (length chunk) (IsPartOf role limits at) (came ++ chunk) first after
          but = given.2

          at_once : IsWrittenBut chunk_size (IsPartOf role limits at) all_came first after
          at_once = record {
            done = but.done;
            last = but.last ++ come.past;
            whole = ap (λ (bs : List ℕ). bs ++ come.past) but.whole ∙ append_assoc but.done but.last come.past;
            short = let most = but.short in omega (arith, most, length-append but.last come.past, short);
            written = but.written;
          }

      -- the verdict is a refusal in the chunk
      refused_reached : (n : ℕ) (v : Verdict) → length (came ++ take n chunk) ≤ limits.input → IsRefusedHere role limits (came ++ take n chunk) v → IsReached role limits new all_came v
      refused_reached n v most r =
          let rest = drop n chunk ++ come.past in
          let offset = r.offset in
          let after_came : length came ≤ r.refusal.offset =
          place_after role limits came (take n chunk) r.frames r.refusal.offset r.refusal.reason none_refused (subst (λ (bs : List ℕ). IsRefused role limits bs r.frames r.refusal.offset r.refusal.reason) (append-nil (came ++ take n chunk)) (r.refused [])) in
          subst (λ (w : Verdict). IsReached role limits new all_came w) (sym r.is) (
            r.frames,
            λ more. subst (λ (bs : List ℕ). IsRefused role limits bs r.frames r.refusal.offset r.refusal.reason)
                (sym (append_assoc (came ++ take n chunk) rest more) ∙ ap (λ (bs : List ℕ). bs ++ more) (sym (after_first n))) (r.refused (rest ++ more)),
            omega (arith, length-append (came ++ chunk) come.past, length-append came chunk, short, after_came),
            omega (arith, most, offset),
            come.unfailed,
          )

      pub answered : (answer : Payload) → SeeksThrough role limits at next next_kept came chunk first after (Ok (Some answer)) → IsPayloadTaken role limits at old new first after (Ok answer)
      answered answer given = record { came = all_came; received = received limits old new later (came ++ chunk) come; answer = by answer given.2.1; at_once = λ is. cc }
        where
          n : ℕ
          n = given.0

          rest : List ℕ
          rest = drop n chunk ++ come.past

          by : (a : Payload) → IsAnsweredAt role limits at (came ++ take n chunk) first after a → IsPayloadAnswer role limits at new all_came first after (Ok a)
          by Whole w = (w.0, subst (λ (bs : List ℕ). IsWholeAt role limits bs at w.0) (sym (after_first n)) (whole_longer role limits (came ++ take n chunk) rest at w.0 w.1), w.2, come.unfailed)
          by (Unfinished v) w = (w.1.0, subst (λ (bs : List ℕ). IsUnfinishedAt role limits bs v at w.1.0) (sym (after_first n)) (w.1.1 rest), w.1.2, refused_reached n v given.2.0 w.0)
          by (Inside start) w = (subst (λ (bs : List ℕ). IsInsideAt role limits bs at start) (sym (after_first n)) (inside_longer role limits (came ++ take n chunk) rest at start w.0), w.1, come.unfailed)
          by (Head start v) w = (subst (λ (bs : List ℕ). IsInHeadAt role limits bs v at start) (sym (after_first n)) (w.1 rest), w.2, refused_reached n v given.2.0 w.0)
          by (Nothing v) w = (subst (λ (bs : List ℕ). IsAfterAll role limits bs v at) (sym (after_first n)) (w.1 rest), w.2, refused_reached n v given.2.0 w.0)

-- ---- an input whose bytes are known

module _ (role : Role) (limits : Limits) (at : ℕ) (old new : Incoming) (before after : Outgoing) (all : List ℕ) where
  -- the answer for what came is that for all
  pub of_all : (result : Result Payload Stop) → IsPayloadTaken role limits at old new before after result → old.remaining ≡ Some all → IsPayloadOfAll role limits at all before after result
  of_all result taken known = by_rest new.remaining refl (subst (λ (a : Option (List ℕ)). Consumes a new.remaining taken.came) known taken.received.consumed.consumed)
    where
      came : List ℕ
      came = taken.came

      -- with a verdict, what came is all, or the verdict is a refusal
      judged_all : (rest : List ℕ) (v : Verdict) (fs : List Frame) → new.remaining ≡ Some rest → all ≡ came ++ rest → IsVerdict role limits came fs v → IsReached role limits new came v
          → IsVerdict role limits all fs v × IsWithinLimit limits all v
      judged_all rest v fs left is is_verdict reached =
          let both = verdict_of_all role limits new came rest fs v reached left is_verdict in
          (subst (λ (bs : List ℕ). IsVerdict role limits bs fs v) (sym is) both.0, subst (λ (bs : List ℕ). IsWithinLimit limits bs v) (sym is) both.1)

      -- and the bytes of which it takes account are the same
      same_judged : (rest : List ℕ) (v : Verdict) (fs : List Frame) → new.remaining ≡ Some rest → all ≡ came ++ rest → IsVerdict role limits came fs v → IsReached role limits new came v → judged_bytes v all ≡ judged_bytes v came
      same_judged rest (Refused r) fs left is is_verdict reached =
          ap (λ (bs : List ℕ). take (r.offset + 1) bs) is ∙ take-append-le (r.offset + 1) came rest (place_within role limits fs came r.offset r.reason is_verdict.is_evident)
      same_judged rest (Accepted s) fs left is is_verdict reached =
          let nothing : rest ≡ [] = subst IsAtEnd left reached.2 in
          is ∙ ap (λ (bs : List ℕ). came ++ bs) nothing ∙ append-nil came
      same_judged rest (Cut s) fs left is is_verdict reached =
          let nothing : rest ≡ [] = subst IsAtEnd left reached.2 in
          is ∙ ap (λ (bs : List ℕ). came ++ bs) nothing ∙ append-nil came

      apart_all : (rest : List ℕ) (v : Verdict) (fs : List Frame) (position : Position) → new.remaining ≡ Some rest → all ≡ came ++ rest → AreApart role limits came v fs position → IsReached role limits new came v
          → AreApart role limits all v fs position
      apart_all rest v fs position left is a reached = record {
        is_verdict = (judged_all rest v fs left is a.is_verdict reached).0;
        is_rest = subst (λ (bs : List ℕ). IsRestAt role limits fs (drop (length (stream fs)) bs) position) (sym (same_judged rest v fs left is a.is_verdict reached)) a.is_rest;
      }

      ends_all : (rest : List ℕ) (v : Verdict) → new.remaining ≡ Some rest → all ≡ came ++ rest → EndsBefore role limits came v at → IsReached role limits new came v → EndsBefore role limits all v at
      ends_all rest v left is u reached = record { frames = u.frames; position = u.position; are_apart = apart_all rest v u.frames u.position left is u.are_apart reached; end = u.end }

      by_answer : (rest : List ℕ) → new.remaining ≡ Some rest → all ≡ came ++ rest → (r : Result Payload Stop) → IsPayloadAnswer role limits at new came before after r → IsPayloadOfAll role limits at all before after r
      by_answer rest left is (Ok Whole) w = (w.0, subst (λ (bs : List ℕ). IsWholeAt role limits bs at w.0) (sym is) (whole_longer role limits came rest at w.0 w.1), w.2)
      by_answer rest left is (Ok (Unfinished v)) w =
          let u = w.1 in (
            w.0,
            record { frames = u.frames; position = u.position; are_apart = apart_all rest v u.frames u.position left is u.are_apart w.3; is_begun = u.is_begun },
            w.2,
            (judged_all rest v u.frames left is u.are_apart.is_verdict w.3).1,
          )
      by_answer rest left is (Ok (Inside start)) w = (subst (λ (bs : List ℕ). IsInsideAt role limits bs at start) (sym is) (inside_longer role limits came rest at start w.0), w.1)
      by_answer rest left is (Ok (Head start v)) w =
          let u = w.0.ends in
          let same = same_judged rest v u.frames left is u.are_apart.is_verdict w.2 in (
            record {
              ends = ends_all rest v left is u w.2;
              between = w.0.between;
              no_close = w.0.no_close;
              begins = w.0.begins;
              reached = subst (λ (bs : List ℕ). at < length bs) (sym same) w.0.reached;
            },
            w.1,
            (judged_all rest v u.frames left is u.are_apart.is_verdict w.2).1,
          )
      by_answer rest left is (Ok (Nothing v)) w =
          let u = w.0.ends in
          let same = same_judged rest v u.frames left is u.are_apart.is_verdict w.2 in (
            record {
              ends = ends_all rest v left is u w.2;
              no_head = λ between. subst (λ (bs : List ℕ). EndsWithClose u.frames ⊎ (length bs ≤ at)) (sym same) (w.0.no_head between);
            },
            w.1,
            (judged_all rest v u.frames left is u.are_apart.is_verdict w.2).1,
          )
      by_answer rest left is (Err stop.InputLimit) w =
          let stopped = w.3 in
          let more : length came ≡ limits.input + 1 = stopped.0 in
          let size : length all ≡ length came + length rest = ap (λ (bs : List ℕ). length bs) is ∙ length-append came rest in
          let front : take limits.input all ≡ take limits.input came = ap (λ (bs : List ℕ). take limits.input bs) is ∙ take-append-le limits.input came rest (omega (arith, more)) in (
            w.0,
            (w.1.0, subst (λ (bs : List ℕ). IsPartAt role limits bs w.1.0 at w.0) (sym front) w.1.1),
            w.2,
            omega (arith, size, more),
            subst (λ (bs : List ℕ). IsUnrefused role limits bs) (sym front) stopped.1,
          )
      by_answer rest left is (Err stop.Read) w = tt
      by_answer rest left is (Err stop.Memory) w = tt
      by_answer rest left is (Err stop.Write) w = tt

      by_rest : (rest : Option (List ℕ)) → new.remaining ≡ rest → Consumes (Some all) rest came → IsPayloadOfAll role limits at all before after result
      by_rest None left consumed = absurd consumed
      by_rest (Some rest) left consumed = by_answer rest left consumed result taken.answer
