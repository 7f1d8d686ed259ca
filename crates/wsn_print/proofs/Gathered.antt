-- The parts of a text as they are gathered and written, up to a failed write.
use Rattle.std.proofs.Common.{◌≡◌, ℕ, ◌+◌, Result, Ok, Err, List, ◌++◌, drop, sym, ap, subst, ◌∙◌, append_assoc}
use Rattle.std.specs.Prelude.{IsErrAnd}
use Rattle.std.proofs.lemmas.List.{drop-drop}
use Rattle.wsn_io.specs.Transfer.{Outgoing, IsWritten, IsPartlyWritten}
use Rattle.wsn_io.specs.declared.stop.Stop.{Stop}
use Rattle.wsn_io.specs.declared.stop.Stop.TheVariants as stop
use Rattle.wsn_io.specs.Stops.{IsWrittenOrStops}
use Rattle.wsn_print.specs.HeldTexts.{IsHeldOrStops}
use Rattle.wsn_io.proofs.PutTexts.{put_both, put_front, put_more, put_no_more}

-- The front of a text is written, and its rest is held.
abbrev pub IsGathered : Outgoing → Outgoing → List ℕ → List ℕ → Type 0
IsGathered before after text held = (front : List ℕ) × (front ++ held ≡ text) × IsWritten before after front

-- More of what is held is written, and then more is added.
pub gathers_on : (before mid after : Outgoing) (text held rest new more : List ℕ) → IsGathered before mid text held
    → IsGathered mid after held rest → new ≡ rest ++ more → IsGathered before after (text ++ more) new
gathers_on before mid after text held rest new more one two is =
    (one.0 ++ two.0, whole, put_both before mid after one.0 two.0 one.2 two.2)
  where
    whole : (one.0 ++ two.0) ++ new ≡ text ++ more
    whole =
        ap (λ (bs : List ℕ). (one.0 ++ two.0) ++ bs) is
        ∙ append_assoc one.0 two.0 (rest ++ more)
        ∙ ap (λ (bs : List ℕ). one.0 ++ bs) (sym (append_assoc two.0 rest more) ∙ ap (λ (bs : List ℕ). bs ++ more) two.1)
        ∙ sym (append_assoc one.0 held more)
        ∙ ap (λ (bs : List ℕ). bs ++ more) one.1

-- What is written of a text, after one more part of it.
pub part_added : (f : List ℕ → List ℕ) (all text done more : List ℕ) (n m : ℕ) → all ≡ done ++ f (drop n text)
    → f (drop n text) ≡ more ++ f (drop m (drop n text)) → all ≡ (done ++ more) ++ f (drop (n + m) text)
part_added f all text done more n m is next =
    is ∙ ap (λ (bs : List ℕ). done ++ bs) (next ∙ ap (λ (bs : List ℕ). more ++ f bs) (drop-drop m n text))
    ∙ sym (append_assoc done more (f (drop (n + m) text)))

put_result : (before after : Outgoing) (text : List ℕ) (stopped : Stop) (result : Result (Unit {0}) Stop) → IsErrAnd result (λ other. other ≡ stopped)
    → stopped ≡ stop.Write → IsPartlyWritten before after text → IsWrittenOrStops before after text result
put_result before after text stopped (Ok done) is e front = absurd is
put_result before after text stopped (Err other) is e front = (is ∙ e, front)

-- A write of the front of what is held fails.
pub gathering_stopped : (before mid after : Outgoing) (text held front rest later all : List ℕ) (stopped : Stop) (result : Result (Unit {0}) Stop)
    → IsGathered before mid text held → all ≡ text ++ later → front ++ rest ≡ held
    → IsWrittenOrStops {A = Unit {0}} mid after front (Err stopped) → IsErrAnd result (λ other. other ≡ stopped)
    → IsWrittenOrStops before after all result
gathering_stopped before mid after text held front rest later all stopped result one is_all held_is put is =
    let whole : ((one.0 ++ front) ++ rest) ++ later ≡ all =
    ap (λ (bs : List ℕ). bs ++ later) (append_assoc one.0 front rest ∙ ap (λ (bs : List ℕ). one.0 ++ bs) held_is ∙ one.1)
    ∙ sym is_all in
    let written = put_no_more before after (one.0 ++ front) rest (put_front before mid after one.0 front one.2 put.1) in
    put_result before after all stopped result is put.0
    (subst (IsPartlyWritten before after) whole (put_no_more before after ((one.0 ++ front) ++ rest) later written))

-- All that is held is written at the end, or a write fails.
pub gathering_ended : (before mid after : Outgoing) (text held : List ℕ) (result : Result (Unit {0}) Stop) → IsGathered before mid text held
    → IsWrittenOrStops mid after held result → IsWrittenOrStops before after text result
gathering_ended before mid after text held result one put =
    subst (λ (bs : List ℕ). IsWrittenOrStops before after bs result) one.1 (put_more before mid after one.0 held result one.2 put)

-- A write that fails while a text is added.
pub held_stopped : (before after : Outgoing) (held left text : List ℕ) (stopped : Stop) (result : Result (Unit {0}) Stop)
    → IsErrAnd result (λ other. other ≡ stopped) → IsWrittenOrStops before after (held ++ text) result
    → IsHeldOrStops before after held left text result
held_stopped before after held left text stopped (Ok done) is put = absurd is
held_stopped before after held left text stopped (Err other) is put = put

-- A write that failed while a text was added is that of all, too.
pub adding_stopped : (before after : Outgoing) (text later : List ℕ) (stopped : Stop) (result : Result (Unit {0}) Stop)
    → (stopped ≡ stop.Write) × IsPartlyWritten before after text → IsErrAnd result (λ other. other ≡ stopped)
    → IsWrittenOrStops before after (text ++ later) result
adding_stopped before after text later stopped result put is =
    put_result before after (text ++ later) stopped result is put.0 (put_no_more before after text later put.1)
