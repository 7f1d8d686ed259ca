-- If a message is unfinished, and the frames after it leave none unfinished, they finish it: the next message is its
-- frames so far and some more.
use Rattle.std.proofs.Common.{◌≡◌, ◌≢◌, ℕ, ◌≤◌, true, false, not, Some, List, [], ◌∷◌, ◌++◌, length, refl, sym, ap, ◌∙◌, subst, inl, inr, append-nil, arith}
use Rattle.std.proofs.lemmas.Bool.{cases_Bool, cond-true, cond-false}
use Rattle.std.specs.Option.{ForSome}
use Rattle.wsn_wire.specs.declared.endpoint.Role.{Role}
use Rattle.wsn_wire.specs.Frame.{Frame, is_control}
use Rattle.wsn_rules.specs.Limits.{Limits}
use Rattle.wsn_rules.specs.Group.{unfinished, kind_of, payload_of}
use Rattle.wsn_rules.specs.Lawful.{AreLawfulAfter}
use Rattle.wsn_rules.specs.Meaning.{MeantEvent, event_at, events_after}
use Rattle.wsn_rules.specs.Meaning as meant
use Rattle.wsn_rules.specs.Plan.{next_text}
use Rattle.wsn_rules.specs.Recut.{next_message}
use Rattle.wsn_rules.proofs.Prefixes.{nil-push, push-append}
use Rattle.wsn_rules.proofs.Groups.{unfinished_control, unfinished_more}
use Rattle.wsn_rules.proofs.LawfulMeaning.{event_of_control, event_of_data}

-- ---- the events after frames, by the next frame

module _ (before : List Frame) (f : Frame) (fs : List Frame) where
  pub events_of_control : is_control f.op ≡ true → f.fin ≡ true → events_after before (f ∷ fs) ≡ meant.Control f.op f.payload ∷ events_after (before ++ f ∷ []) fs
  events_of_control control final =
      ap (λ (events : List MeantEvent). events ++ events_after (before ++ f ∷ []) fs) (cond-true f.fin (event_at before f ∷ []) [] final)
      ∙ ap (λ (e : MeantEvent). e ∷ events_after (before ++ f ∷ []) fs) (event_of_control before f control)

  pub events_of_last : is_control f.op ≡ false → f.fin ≡ true
      → events_after before (f ∷ fs) ≡ meant.Message (kind_of (unfinished before ++ f ∷ [])) (payload_of (unfinished before ++ f ∷ [])) ∷ events_after (before ++ f ∷ []) fs
  events_of_last data_frame final =
      ap (λ (events : List MeantEvent). events ++ events_after (before ++ f ∷ []) fs) (cond-true f.fin (event_at before f ∷ []) [] final)
      ∙ ap (λ (e : MeantEvent). e ∷ events_after (before ++ f ∷ []) fs) (event_of_data before f data_frame)

  pub events_of_piece : f.fin ≡ false → events_after before (f ∷ fs) ≡ events_after (before ++ f ∷ []) fs
  events_of_piece more = ap (λ (events : List MeantEvent). events ++ events_after (before ++ f ∷ []) fs) (cond-false f.fin (event_at before f ∷ []) [] more)

-- ---- the message that a group begins

-- The group and some more frames are the next message of these events, within the limit on frames.
pub record IsFinishedIn (limits : Limits) (group : List Frame) (left : List MeantEvent) : Type 0 where
  pub more : List Frame
  pub some : 1 ≤ length more
  pub count : ForSome limits.frames (λ most. length (group ++ more) ≤ most)
  pub text : next_text left ≡ Some (payload_of (group ++ more))
  pub message : next_message left ≡ (kind_of (group ++ more), payload_of (group ++ more))

one_more : (limits : Limits) (group : List Frame) (f : Frame) (left : List MeantEvent) → IsFinishedIn limits (group ++ f ∷ []) left → IsFinishedIn limits group left
one_more limits group f left finished =
    let whole = push-append group f finished.more in
    record {
      more = f ∷ finished.more;
      some = omega arith;
      count = subst (λ (frames : List Frame). ForSome limits.frames (λ most. length frames ≤ most)) whole finished.count;
      text = finished.text ∙ ap (λ (frames : List Frame). Some (payload_of frames)) whole;
      message = finished.message ∙ ap (λ (frames : List Frame). (kind_of frames, payload_of frames)) whole;
    }

after_control : (limits : Limits) (group : List Frame) (o : _) (body : List ℕ) (left : List MeantEvent) → IsFinishedIn limits group left → IsFinishedIn limits group (meant.Control o body ∷ left)
after_control limits group o body left finished = record { more = finished.more; some = finished.some; count = finished.count; text = finished.text; message = finished.message }

pub finished_in : (role : Role) (limits : Limits) (before fs : List Frame) → AreLawfulAfter role limits before fs → unfinished (before ++ fs) ≡ [] → unfinished before ≢ []
    → IsFinishedIn limits (unfinished before) (events_after before fs)
finished_in role limits before [] lawful finished open_group = absurd (open_group (ap unfinished (sym (append-nil before)) ∙ finished))
finished_in role limits before (f ∷ fs) lawful finished open_group =
    let law = lawful.0 in
    let later = events_after (before ++ f ∷ []) fs in
    let rest = finished_in role limits (before ++ f ∷ []) fs lawful.2 (ap unfinished (push-append before f fs) ∙ finished) in
    elim (cases_Bool (is_control f.op)) [
      | inl control ↦
          let same = unfinished_control before f (ap not control) in
          let goes_on = rest (λ none. open_group (sym same ∙ none)) in
          subst (IsFinishedIn limits (unfinished before)) (sym (events_of_control before f fs control (law.frame.encoded.control control).final))
          (after_control limits (unfinished before) f.op f.payload later (subst (λ (group : List Frame). IsFinishedIn limits group later) same goes_on))
      | inr data_frame ↦ elim (cases_Bool f.fin) [
        | inl final ↦ subst (IsFinishedIn limits (unfinished before)) (sym (events_of_last before f fs data_frame final)) (record {
          more = f ∷ [];
          some = omega arith;
          count = (law.group (ap not data_frame)).count;
          text = refl;
          message = refl;
        })
        | inr more ↦
            let grown = unfinished_more before f (ap not data_frame) more in
            let goes_on = rest (λ none. nil-push (unfinished before) f [] (sym none ∙ grown)) in
            subst (IsFinishedIn limits (unfinished before)) (sym (events_of_piece before f fs more))
            (one_more limits (unfinished before) f later (subst (λ (group : List Frame). IsFinishedIn limits group later) grown goes_on))
      ]
    ]
