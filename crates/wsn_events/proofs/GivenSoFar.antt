-- The events given so far are a prefix of the meaning of the bytes that came.
use Rattle.std.proofs.Common.{◌≡◌, ◌≢◌, ℕ, ◌<◌, Bool, true, false, cond, List, [], ◌∷◌, ◌++◌, length, take, drop, refl, sym, ap, ◌∙◌, subst, arith, append_assoc, length-append, take-append-drop}
use Rattle.wsn_wire.specs.declared.endpoint.Role.{Role}
use Rattle.wsn_wire.specs.Frame.{Frame, IsBytes, is_control, stream}
use Rattle.wsn_wire.proofs.FrameLemmas.{IsBytes-left}
use Rattle.wsn_rules.specs.declared.head_info.HeadInfo.{HeadInfo}
use Rattle.wsn_rules.specs.Limits.{Limits}
use Rattle.wsn_rules.specs.Meaning.{MeantEvent, event_at, events_after, meaning}
use Rattle.wsn_rules.proofs.EveryInput.{has_verdict}
use Rattle.wsn_rules.proofs.Groups.{meaning-append, meaning_push}
use Rattle.wsn_rules.proofs.OneVerdict.{all_of_verdict, all_go_on}
use Rattle.wsn_rules.proofs.Prefixes.{same_front}
use Rattle.wsn_scan.specs.Positions.{Position, InFrame, IsBegunBy, IsTakenOf}
use Rattle.wsn_scan.proofs.ReaderReports.{payload_within}
use Rattle.wsn_events.specs.SourceStates.{SourceState, HasGiven, IsAtWork}
use Rattle.wsn_events.specs.Sources.{AreFirstOf, HasDataPayload}

pub positive : (xs : List ℕ) → xs ≢ [] → 0 < length xs
positive [] some = absurd (some refl)
positive (x ∷ xs) some = omega arith

module _ (role : Role) (limits : Limits) (came : List ℕ) (fs : List Frame) (at : Position) (is_taken : IsTakenOf role limits came fs at) where
  pub all_came : came ≡ stream fs ++ (is_taken.rest ++ drop limits.input came)
  all_came = sym (take-append-drop limits.input came) ∙ ap (λ (bs : List ℕ). bs ++ drop limits.input came) is_taken.whole ∙ append_assoc (stream fs) is_taken.rest (drop limits.input came)

  -- whatever follows, the events of these frames are a prefix of the meaning
  pub given_first : (given : List MeantEvent) → given ≡ meaning fs → AreFirstOf role limits (take limits.input came) given
  given_first given events =
      let bytes = take limits.input came in
      let in_bytes : IsBytes bytes = IsBytes-left bytes (drop limits.input came) (subst IsBytes (sym (take-append-drop limits.input came)) is_taken.in_bytes) in
      let found = has_verdict role limits is_taken.in_range bytes in_bytes in
      let on = all_go_on role limits bytes fs found.frames is_taken.rest is_taken.lawful is_taken.whole (all_of_verdict role limits bytes found.frames found.verdict found.is) in
      let means : meaning found.frames ≡ given ++ events_after fs on.0 =
      ap (λ (gs : List Frame). meaning gs) on.1 ∙ meaning-append fs on.0 ∙ ap (λ (es : List MeantEvent). es ++ events_after fs on.0) (sym events) in
      (found.verdict, events_after fs on.0, (found.frames, found.is, sym means))

  -- a payload byte of a data frame came within the limit
  pub data_came : (info : HeadInfo) (payload : List ℕ) → at ≡ InFrame info payload → payload ≢ [] → is_control info.op ≡ false → HasDataPayload role limits (take limits.input came)
  data_came info payload is some other =
      let begun : IsBegunBy role limits fs is_taken.rest (InFrame info payload) = subst (IsBegunBy role limits fs is_taken.rest) is is_taken.begun in
      let begins = begun.2.0 in
      record {
        frames = fs;
        lawful = is_taken.lawful;
        no_close = begun.0;
        rest = is_taken.rest;
        whole = is_taken.whole;
        info = info;
        begins = begins;
        of_data = other;
        some = omega (arith, positive payload some, begun.1);
        payload = λ none.
            omega (arith, ap (λ (bs : List ℕ). length bs) none, positive payload some, payload_within info payload begins.following begun.2.1);
      }

pub begun_sound : {A : Type 0} (role : Role) (limits : Limits) (reading : SourceState A) (came : List ℕ) (given : List MeantEvent) → HasGiven role limits reading came given → IsAtWork reading
begun_sound role limits reading came given h = record { role = role; limits = limits; came = came; given = given; has = h }

-- the events before the one that a source gives
pub before_given : (events : List MeantEvent) (event : MeantEvent) (before : List Frame) (frame : Frame) → frame.fin ≡ true → events ++ event ∷ [] ≡ meaning (before ++ frame ∷ []) → events ≡ meaning before
before_given events event before frame final is =
    let both : events ++ event ∷ [] ≡ meaning before ++ event_at before frame ∷ [] =
    is ∙ meaning_push before frame ∙ ap (λ (b : Bool). meaning before ++ cond b (event_at before frame ∷ []) []) final in
    let sizes = ap (λ (es : List MeantEvent). length es) both in
    let one = length-append events (event ∷ []) in
    let other = length-append (meaning before) (event_at before frame ∷ []) in
    (same_front events (meaning before) (event ∷ []) (event_at before frame ∷ []) (omega (arith, sizes, one, other)) both).0
