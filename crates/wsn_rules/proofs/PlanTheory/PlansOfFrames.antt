-- The plan of lawful frames that leave no message unfinished: it fits their meaning, and the recut is just these
-- frames.
use Rattle.std.proofs.Common.{◌≡◌, ◌≢◌, ℕ, ◌-◌, ◌≤◌, ◌⊎◌, ◌↔◌, true, false, cond, not, Some, IfSome, List, [], ◌∷◌, ◌++◌, length, take, drop, refl, sym, ap, ◌∙◌, subst, inl, inr, append-nil, arith}
use Rattle.std.proofs.Math.Seq.{drop-append_seam, take-append_seam}
use Rattle.std.proofs.lemmas.Bool.{cases_Bool, cond-true, cond-false}
use Rattle.std.proofs.lemmas.List.{length-append}
use Rattle.std.proofs.lemmas.List.Concat.{flat_map-append}
use Rattle.std.specs.Option.{ForSome}
use Rattle.wsn_wire.specs.declared.endpoint.Role.{Role}
use Rattle.wsn_wire.specs.declared.opcode.Op.{Op}
use Rattle.wsn_wire.specs.declared.opcode.Op.TheVariants.{Text, Binary, Continue}
use Rattle.wsn_wire.specs.declared.length_encoding.Form.{Form}
use Rattle.wsn_wire.specs.Frame.{Frame, IsKey, is_control}
use Rattle.wsn_wire.proofs.FrameLemmas.{frames_equal}
use Rattle.wsn_rules.specs.declared.step.Step.{Step}
use Rattle.wsn_rules.specs.declared.step.Step.TheVariants.{Piece, Last, Control}
use Rattle.wsn_rules.specs.Limits.{Limits}
use Rattle.wsn_rules.specs.Group.{is_data, unfinished, kind_at, kind_of, payload_of}
use Rattle.wsn_rules.specs.MessageLaw.{GroupLaw}
use Rattle.wsn_rules.specs.Lawful.{LawAt, IsLawful, AreLawfulAfter}
use Rattle.wsn_rules.specs.Meaning.{MeantEvent, events_after, meaning}
use Rattle.wsn_rules.specs.Meaning as meant
use Rattle.wsn_rules.specs.NormalForm.{op_of}
use Rattle.wsn_rules.specs.Plan.{IsPlan, key_of, total}
use Rattle.wsn_rules.specs.Fitting.{PiecesFit, IsAllowedForm, Fits}
use Rattle.wsn_rules.specs.Recut.{op_after, recut, step_of, plan_of}
use Rattle.wsn_rules.proofs.Prefixes.{push-append, nil-push}
use Rattle.wsn_rules.proofs.Groups.{unfinished_control, unfinished_final, unfinished_more, data_kind}
use Rattle.wsn_rules.proofs.LawfulLists.{lawful_after}
use Rattle.wsn_rules.proofs.MessageText.{text_of_push}
use Rattle.wsn_rules.proofs.PlanTheory.FromTheFront.{pieces_after, left_after, left_following, StepLaw, BeginsToFitFrom, frame_from, recut_from}
use Rattle.wsn_rules.proofs.PlanTheory.Context.{recut_is}
use Rattle.wsn_rules.proofs.PlanTheory.FitsFromTheFront.{fits_iff}
use Rattle.wsn_rules.proofs.PlanTheory.PiecesInARow.{total_push}
use Rattle.wsn_rules.proofs.PlanTheory.MessageFrames.{piece_frame}
use Rattle.wsn_rules.proofs.PlanTheory.FinishedMessages.{events_of_control, events_of_last, events_of_piece, IsFinishedIn, finished_in}

-- ---- the step of a frame

pub step_of_control : (f : Frame) → is_control f.op ≡ true → step_of f ≡ Control f.key
step_of_control f control = cond-true (is_control f.op) (Control f.key) (cond f.fin (Last f.key f.form) (Piece (length f.payload) f.key f.form)) control

pub step_of_last : (f : Frame) → is_control f.op ≡ false → f.fin ≡ true → step_of f ≡ Last f.key f.form
step_of_last f data_frame final =
    cond-false (is_control f.op) (Control f.key) (cond f.fin (Last f.key f.form) (Piece (length f.payload) f.key f.form)) data_frame
    ∙ cond-true f.fin (Last f.key f.form) (Piece (length f.payload) f.key f.form) final

pub step_of_piece : (f : Frame) → is_control f.op ≡ false → f.fin ≡ false → step_of f ≡ Piece (length f.payload) f.key f.form
step_of_piece f data_frame more =
    cond-false (is_control f.op) (Control f.key) (cond f.fin (Last f.key f.form) (Piece (length f.payload) f.key f.form)) data_frame
    ∙ cond-false f.fin (Last f.key f.form) (Piece (length f.payload) f.key f.form) more

key_of_step : (f : Frame) → key_of (step_of f) ≡ f.key
key_of_step f =
    elim (cases_Bool (is_control f.op)) [
      | inl control ↦ ap key_of (step_of_control f control)
      | inr data_frame ↦ elim (cases_Bool f.fin) [
        | inl final ↦ ap key_of (step_of_last f data_frame final)
        | inr more ↦ ap key_of (step_of_piece f data_frame more)
      ]
    ]

plan_is_plan : (role : Role) (limits : Limits) (before fs : List Frame) → AreLawfulAfter role limits before fs → IsPlan (plan_of fs)
plan_is_plan role limits before [] lawful = tt
plan_is_plan role limits before (f ∷ fs) lawful =
    (subst (λ (key : _). IfSome key IsKey) (sym (key_of_step f)) lawful.0.frame.encoded.encodable.key, plan_is_plan role limits (before ++ f ∷ []) fs lawful.2)

-- ---- the frame of a step of a message

-- The Pieces contain as many bytes as the group.
pub record HoldAsMuch (pieces : List Step) (group : List Frame) : Type 0 where
  pub count : length pieces ≡ length group
  pub size : total pieces ≡ length (payload_of group)

holds_one_more : (pieces : List Step) (group : List Frame) (f : Frame) → HoldAsMuch pieces group → HoldAsMuch (pieces ++ Piece (length f.payload) f.key f.form ∷ []) (group ++ f ∷ [])
holds_one_more pieces group f hold =
    let held : total pieces ≡ length (payload_of group) = hold.size in
    let counted : length pieces ≡ length group = hold.count in
    let steps = length-append pieces (Piece (length f.payload) f.key f.form ∷ []) in
    let frames = length-append group (f ∷ []) in
    let grown = total_push pieces (Piece (length f.payload) f.key f.form) in
    let bytes = ap length (text_of_push group f) ∙ length-append (payload_of group) f.payload in
    record { count = omega arith; size = omega arith }

module _ (pieces : List Step) (group : List Frame) (f : Frame) (more : List Frame) (hold : HoldAsMuch pieces group) where
  rest_is : drop (total pieces) (payload_of (group ++ f ∷ more)) ≡ f.payload ++ payload_of more
  rest_is =
      ap (λ (bytes : List ℕ). drop (total pieces) bytes) (flat_map-append (λ (g : Frame). g.payload) group (f ∷ more))
      ∙ ap (λ (n : ℕ). drop n (payload_of group ++ (f.payload ++ payload_of more))) hold.size
      ∙ drop-append_seam (payload_of group) (f.payload ++ payload_of more)

  op_is : (limits : Limits) → is_data f ≡ true → GroupLaw limits group f → op_after (length pieces) (kind_of (group ++ f ∷ more)) ≡ f.op
  op_is limits data_frame law = by_parts pieces group hold.count law.continues
    where
      begins : (o : Op) → (o ≡ Text) ⊎ (o ≡ Binary) → op_of (kind_at o) ≡ o
      begins o (inl is) = ap (λ (p : Op). op_of (kind_at p)) is ∙ sym is
      begins o (inr is) = ap (λ (p : Op). op_of (kind_at p)) is ∙ sym is

      by_parts : (pieces : List Step) (group : List Frame) → length pieces ≡ length group → (f.op ≡ Continue) ↔ (group ≢ []) → op_after (length pieces) (kind_of (group ++ f ∷ more)) ≡ f.op
      by_parts [] [] count continues = begins f.op (data_kind f.op data_frame (λ is. continues.0 is refl))
      by_parts (piece ∷ pieces) (g ∷ group) count continues = sym (continues.1 (λ none. cc))
      by_parts [] (g ∷ group) count continues = absurd (omega arith)
      by_parts (piece ∷ pieces) [] count continues = absurd (omega arith)

  piece_fits : (limits : Limits) (key : _) (form : Form) → 1 ≤ length more → ForSome limits.frames (λ most. length (group ++ f ∷ more) ≤ most)
      → PiecesFit limits (pieces ++ Piece (length f.payload) key form ∷ []) (payload_of (group ++ f ∷ more))
  piece_fits limits key form some within =
      let grown = total_push pieces (Piece (length f.payload) key form) in
      let held : total pieces ≡ length (payload_of group) = hold.size in
      let whole = ap length (flat_map-append (λ (g : Frame). g.payload) group (f ∷ more)) ∙ length-append (payload_of group) (f.payload ++ payload_of more) in
      let rest = length-append f.payload (payload_of more) in
      let steps = length-append pieces (Piece (length f.payload) key form ∷ []) in
      let frames = length-append group (f ∷ more) in
      let counted : length pieces ≡ length group = hold.count in
      record {
        size = omega arith;
        count = λ most is. let bound : length (group ++ f ∷ more) ≤ most = within most is in omega arith;
      }

-- ---- each frame is restored

-- The plan fits these events after the pending Pieces, and the recut by it is just the frames fs.
pub record Restores (role : Role) (limits : Limits) (pieces : List Step) (left : List MeantEvent) (plan : List Step) (fs : List Frame) : Type 0 where
  pub begins : BeginsToFitFrom role limits pieces left plan
  pub none_left : left_following left plan ≡ []
  pub frames : recut_from pieces left plan ≡ fs

restores_one_more : (role : Role) (limits : Limits) (pieces : List Step) (left : List MeantEvent) (step : Step) (plan : List Step) (f : Frame) (fs : List Frame) → StepLaw role limits pieces left step
    → frame_from pieces left step ≡ f → Restores role limits (pieces_after pieces step) (left_after left step) plan fs → Restores role limits pieces left (step ∷ plan) (f ∷ fs)
restores_one_more role limits pieces left step plan f fs law frame rest = record {
  begins = (law, rest.begins);
  none_left = rest.none_left;
  frames = ap (λ (g : Frame). g ∷ recut_from (pieces_after pieces step) (left_after left step) plan) frame ∙ ap (λ (gs : List Frame). f ∷ gs) rest.frames;
}

module _ (role : Role) (limits : Limits) (before : List Frame) (f : Frame) (fs : List Frame) (law : LawAt role limits before f) (pieces : List Step) where
  -- The property of the frame's step with these events left.
  abbrev Goes : Step → List MeantEvent → Type 0
  Goes step left = Restores role limits pieces left (step ∷ plan_of fs) (f ∷ fs)

  control_restored : is_control f.op ≡ true → Restores role limits pieces (events_after (before ++ f ∷ []) fs) (plan_of fs) fs → Goes (step_of f) (events_after before (f ∷ fs))
  control_restored control rest =
      let final = (law.frame.encoded.control control).final in
      let later = events_after (before ++ f ∷ []) fs in
      subst (λ (step : Step). Goes step (events_after before (f ∷ fs))) (sym (step_of_control f control))
      (subst (Goes (Control f.key)) (sym (events_of_control before f fs control final))
      (restores_one_more role limits pieces (meant.Control f.op f.payload ∷ later) (Control f.key) (plan_of fs) f fs (law.frame.encoded.masked, (f.op, f.payload, later, refl))
      (frames_equal (frame_from pieces (meant.Control f.op f.payload ∷ later) (Control f.key)) f (sym final) refl refl (sym (law.frame.encoded.control control).shortest) refl) rest))

  allowed : IsAllowedForm limits.lengths f.form (length f.payload)
  allowed = (law.frame.encoded.shortest, law.frame.encoded.encodable.form)

  module _ (data_frame : is_control f.op ≡ false) (hold : HoldAsMuch pieces (unfinished before)) where
    group_law : GroupLaw limits (unfinished before) f
    group_law = law.group (ap not data_frame)

    last_restored : f.fin ≡ true → Restores role limits [] (events_after (before ++ f ∷ []) fs) (plan_of fs) fs → Goes (step_of f) (events_after before (f ∷ fs))
    last_restored final rest =
        let group = unfinished before ++ f ∷ [] in
        let later = events_after (before ++ f ∷ []) fs in
        let left : List MeantEvent = meant.Message (kind_of group) (payload_of group) ∷ later in
        let bytes = text_of_push (unfinished before) f in
        let sizes = ap length bytes ∙ length-append (payload_of (unfinished before)) f.payload in
        let held : total pieces ≡ length (payload_of (unfinished before)) = hold.size in
        let counted : length pieces ≡ length (unfinished before) = hold.count in
        let frames = length-append (unfinished before) (f ∷ []) in
        let rest_size : length f.payload ≡ length (payload_of group) - total pieces = omega arith in
        let fit : PiecesFit limits pieces (payload_of group) = record {
          size = omega arith;
          count = λ most is. let within : length group ≤ most = group_law.count most is in omega arith;
        } in
        subst (λ (step : Step). Goes step (events_after before (f ∷ fs))) (sym (step_of_last f data_frame final))
        (subst (Goes (Last f.key f.form)) (sym (events_of_last before f fs data_frame final))
        (restores_one_more role limits pieces left (Last f.key f.form) (plan_of fs) f fs
        (law.frame.encoded.masked, (kind_of group, payload_of group, later, refl, fit, subst (IsAllowedForm limits.lengths f.form) rest_size allowed))
        (frames_equal (frame_from pieces left (Last f.key f.form)) f (sym final) (op_is pieces (unfinished before) f [] hold limits (ap not data_frame) group_law) refl refl
        (rest_is pieces (unfinished before) f [] hold ∙ append-nil f.payload)) rest))

    piece_restored : f.fin ≡ false → IsFinishedIn limits (unfinished before ++ f ∷ []) (events_after (before ++ f ∷ []) fs)
        → Restores role limits (pieces ++ Piece (length f.payload) f.key f.form ∷ []) (events_after (before ++ f ∷ []) fs) (plan_of fs) fs → Goes (step_of f) (events_after before (f ∷ fs))
    piece_restored not_final finished rest =
        let step = Piece (length f.payload) f.key f.form in
        let left = events_after (before ++ f ∷ []) fs in
        let more = finished.more in
        let group = unfinished before ++ f ∷ more in
        let whole = push-append (unfinished before) f more in
        let text_is = finished.text ∙ ap (λ (frames : List Frame). Some (payload_of frames)) whole in
        let message_is = finished.message ∙ ap (λ (frames : List Frame). (kind_of frames, payload_of frames)) whole in
        let frame_is = ap (piece_frame pieces (length f.payload) f.key f.form) message_is in
        let front = ap (λ (bytes : List ℕ). take (length f.payload) bytes) (rest_is pieces (unfinished before) f more hold) ∙ take-append_seam f.payload (payload_of more) in
        let fit : PiecesFit limits (pieces ++ step ∷ []) (payload_of group) = piece_fits pieces (unfinished before) f more hold limits f.key f.form finished.some (λ most is. subst (λ (frames : List Frame). length frames ≤ most) whole (finished.count most is)) in
        subst (λ (s : Step). Goes s (events_after before (f ∷ fs))) (sym (step_of_piece f data_frame not_final))
        (subst (Goes step) (sym (events_of_piece before f fs not_final))
        (restores_one_more role limits pieces left step (plan_of fs) f fs
        (law.frame.encoded.masked, ((payload_of group, text_is, fit), allowed))
        (frame_is ∙ frames_equal (piece_frame pieces (length f.payload) f.key f.form (kind_of group, payload_of group)) f (sym not_final) (op_is pieces (unfinished before) f more hold limits (ap not data_frame) group_law) refl refl front) rest))

-- ---- all frames

restores : (role : Role) (limits : Limits) (before fs : List Frame) (pieces : List Step) → AreLawfulAfter role limits before fs → unfinished (before ++ fs) ≡ [] → HoldAsMuch pieces (unfinished before)
    → Restores role limits pieces (events_after before fs) (plan_of fs) fs
restores role limits before [] pieces lawful finished hold = record { begins = tt; none_left = refl; frames = refl }
restores role limits before (f ∷ fs) pieces lawful finished hold =
    let law = lawful.0 in
    let later_finished = ap unfinished (push-append before f fs) ∙ finished in
    elim (cases_Bool (is_control f.op)) [
      | inl control ↦
          let same = unfinished_control before f (ap not control) in
          control_restored role limits before f fs law pieces control (restores role limits (before ++ f ∷ []) fs pieces lawful.2 later_finished (subst (HoldAsMuch pieces) (sym same) hold))
      | inr data_frame ↦ elim (cases_Bool f.fin) [
        | inl final ↦
            let none = unfinished_final before f (ap not data_frame) final in
            last_restored role limits before f fs law pieces data_frame hold final
            (restores role limits (before ++ f ∷ []) fs [] lawful.2 later_finished (subst (HoldAsMuch []) (sym none) (record { count = refl; size = refl })))
        | inr not_final ↦
            let grown = unfinished_more before f (ap not data_frame) not_final in
            let step = Piece (length f.payload) f.key f.form in
            let goes_on = finished_in role limits (before ++ f ∷ []) fs lawful.2 later_finished (λ none. nil-push (unfinished before) f [] (sym none ∙ grown)) in
            piece_restored role limits before f fs law pieces data_frame hold not_final
            (subst (λ (group : List Frame). IsFinishedIn limits group (events_after (before ++ f ∷ []) fs)) grown goes_on)
            (restores role limits (before ++ f ∷ []) fs (pieces ++ step ∷ []) lawful.2 later_finished (subst (HoldAsMuch (pieces ++ step ∷ [])) (sym grown) (holds_one_more pieces (unfinished before) f hold)))
      ]
    ]

module _ (role : Role) (limits : Limits) (fs : List Frame) (lawful : IsLawful role limits fs) where
  pub plan_of_is_plan : IsPlan (plan_of fs)
  plan_of_is_plan = plan_is_plan role limits [] fs (lawful_after role limits [] fs lawful)

  restored : unfinished fs ≡ [] → Restores role limits [] (meaning fs) (plan_of fs) fs
  restored finished = restores role limits [] fs [] (lawful_after role limits [] fs lawful) finished (record { count = refl; size = refl })

  pub plan_of_fits : unfinished fs ≡ [] → Fits role limits (plan_of fs) (meaning fs)
  plan_of_fits finished = let all = restored finished in (fits_iff role limits (meaning fs) (plan_of fs)).1 (all.begins, all.none_left)

  pub plan_of_restores : unfinished fs ≡ [] → recut (plan_of fs) (meaning fs) ≡ fs
  plan_of_restores finished = recut_is (plan_of fs) (meaning fs) ∙ (restored finished).frames
