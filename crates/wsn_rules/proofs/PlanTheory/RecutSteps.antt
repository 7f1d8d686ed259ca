-- One step of a recut, after the frames so far: its frame is lawful there, and completes the event that the step is
-- for.
use Rattle.std.proofs.Common.{◌≡◌, ℕ, ◌+◌, ◌-◌, ◌^◌, ◌<◌, ◌≤◌, true, false, cond, not, Some, List, [], ◌∷◌, ◌++◌, length, take, drop, IfSome, refl, sym, ap, ◌∙◌, subst, take-add, arith}
use Rattle.std.proofs.lemmas.List.{length-append, length-drop, take-append-drop}
use Rattle.std.proofs.Math.Seq.{take-length}
use Rattle.wsn_wire.specs.declared.endpoint.Role.{Role}
use Rattle.wsn_wire.specs.declared.opcode.Op.{Op}
use Rattle.wsn_wire.specs.declared.opcode.Op.TheVariants as op
use Rattle.wsn_wire.specs.declared.opcode.Kind.{Kind}
use Rattle.wsn_wire.specs.declared.opcode.Kind.TheVariants as kinds
use Rattle.wsn_wire.specs.declared.length_encoding.Form.{Form}
use Rattle.wsn_wire.specs.Frame.{Frame, IsKey, is_control}
use Rattle.wsn_rules.specs.declared.step.Step.{Step}
use Rattle.wsn_rules.specs.declared.step.Step.TheVariants.{Piece, Last, Control}
use Rattle.wsn_rules.specs.Limits.{Limits}
use Rattle.wsn_rules.specs.Group.{unfinished, kind_at, kind_of, payload_of}
use Rattle.wsn_rules.specs.MessageLaw.{GroupLaw}
use Rattle.wsn_rules.specs.Lawful.{FrameLaw, LawAt}
use Rattle.wsn_rules.specs.Meaning.{MeantEvent, event_at}
use Rattle.wsn_rules.specs.Meaning as meant
use Rattle.wsn_rules.specs.LawfulEvents.{IsLawfulMessage, IsLawfulControl, AreLawful}
use Rattle.wsn_rules.specs.NormalForm.{op_of}
use Rattle.wsn_rules.specs.Plan.{key_of, total, next_text}
use Rattle.wsn_rules.specs.Fitting.{HasKeyOf, PiecesFit, IsAllowedForm}
use Rattle.wsn_rules.specs.Recut.{next_message}
use Rattle.wsn_rules.proofs.Groups.{unfinished_control, unfinished_final, unfinished_more}
use Rattle.wsn_rules.proofs.MessageText.{text_of_push}
use Rattle.wsn_rules.proofs.LawfulMeaning.{event_of_control, event_of_data}
use Rattle.wsn_rules.proofs.PlanTheory.FromTheFront.{pieces_after, left_after, StepLaw, frame_from}
use Rattle.wsn_rules.proofs.PlanTheory.PiecesInARow.{total_push}
use Rattle.wsn_rules.proofs.PlanTheory.MessageFrames.{op_after_is_data, piece_frame, last_frame, control_frame, bytes_take, bytes_drop, length_of_piece, data_frame_law, IsOfPieces, of_no_pieces, first_op_is, group_law}

-- ---- the next message

pub next_is : (left : List MeantEvent) (text : List ℕ) → next_text left ≡ Some text → (next_message left).1 ≡ text
next_is [] text is = cc
next_is (meant.Message kind bytes ∷ left) text is = cc
next_is (meant.Control o body ∷ left) text is = next_is left text is

pub next_is_lawful : (most : ℕ) (left : List MeantEvent) (text : List ℕ) → AreLawful most left → next_text left ≡ Some text
    → IsLawfulMessage (next_message left).0 (next_message left).1 × (length (next_message left).1 ≤ most)
next_is_lawful most [] text lawful is = cc
next_is_lawful most (meant.Message kind bytes ∷ left) text lawful is = (lawful.0, lawful.1)
next_is_lawful most (meant.Control o body ∷ left) text lawful is = next_is_lawful most left text lawful.2 is

kind_of_op : (kind : Kind) → kind_at (op_of kind) ≡ kind
kind_of_op kinds.Text = refl
kind_of_op kinds.Binary = refl

-- The frame f continues the frames before, with the events `left`; after it `pieces` are pending, and the events
-- `later` are left.
pub record GoesOn (role : Role) (limits : Limits) (before : List Frame) (f : Frame) (left : List MeantEvent) (pieces : List Step) (later : List MeantEvent) : Type 0 where
  pub law : LawAt role limits before f
  pub close_last : f.op ≡ op.Close → later ≡ []
  pub following : IsOfPieces pieces (next_message later) (unfinished (before ++ f ∷ []))
  pub event : cond f.fin (event_at before f ∷ []) [] ++ later ≡ left

module _ (role : Role) (limits : Limits) (before : List Frame) where
  -- ---- the frames of a message

  -- The rules for a frame of a message.
  law_of_part : (f : Frame) → is_control f.op ≡ false → FrameLaw role limits.lengths f → GroupLaw limits (unfinished before) f → LawAt role limits before f
  law_of_part f data_frame law group = record { frame = law; group = λ _. group }

  no_close : (f : Frame) → is_control f.op ≡ false → f.op ≡ op.Close → ⊥
  no_close f data_frame is = let both : true ≡ false = sym (ap is_control is) ∙ data_frame in cc

  module _ (pieces : List Step) (message : Kind × List ℕ) (following : IsOfPieces pieces message (unfinished before)) where
    -- The payload of the group with the frame.
    text_with_piece : (len : ℕ) (key : _) (form : Form) → payload_of (unfinished before ++ piece_frame pieces len key form message ∷ []) ≡ take (total (pieces ++ Piece len key form ∷ [])) message.1
    text_with_piece len key form =
        text_of_push (unfinished before) (piece_frame pieces len key form message)
        ∙ ap (λ (bytes : List ℕ). bytes ++ take len (drop (total pieces) message.1)) following.text
        ∙ sym (take-add (total pieces) len message.1)
        ∙ ap (λ (n : ℕ). take n message.1) (sym (total_push pieces (Piece len key form)))

    text_with_last : (key : _) (form : Form) → payload_of (unfinished before ++ last_frame pieces key form message ∷ []) ≡ message.1
    text_with_last key form =
        text_of_push (unfinished before) (last_frame pieces key form message)
        ∙ ap (λ (bytes : List ℕ). bytes ++ drop (total pieces) message.1) following.text
        ∙ take-append-drop (total pieces) message.1

    module _ (lawful : IsLawfulMessage message.0 message.1) (within : length message.1 ≤ limits.message) where
      piece_law : (len : ℕ) (key : _) (form : Form) → IfSome key IsKey → HasKeyOf role (Piece len key form) → PiecesFit limits (pieces ++ Piece len key form ∷ []) message.1 → IsAllowedForm limits.lengths form len
          → LawAt role limits before (piece_frame pieces len key form message)
      piece_law len key form is_key masked fit allowed =
          let f = piece_frame pieces len key form message in
          let data_frame = op_after_is_data (length pieces) message.0 in
          let size_is : length f.payload ≡ len = length_of_piece pieces message.1 len key form fit.size in
          let small : length message.1 < 2 ^ 63 = lawful.size in
          let one_more = length-append pieces (Piece len key form ∷ []) in
          let more = total_push pieces (Piece len key form) in
          let fits : total (pieces ++ Piece len key form ∷ []) ≤ length message.1 = fit.size in
          law_of_part f data_frame
          (data_frame_law role limits f data_frame is_key masked (bytes_take len (drop (total pieces) message.1) (bytes_drop (total pieces) message.1 lawful.in_bytes)) (omega arith)
          (subst (IsAllowedForm limits.lengths form) (sym size_is) allowed))
          (group_law pieces message (unfinished before) f following refl limits (total (pieces ++ Piece len key form ∷ [])) lawful within
          (λ most is. let count : length (pieces ++ Piece len key form ∷ []) + 1 ≤ most = fit.count most is in omega arith) (text_with_piece len key form) (λ final. cc))

      last_law : (key : _) (form : Form) → IfSome key IsKey → HasKeyOf role (Last key form) → PiecesFit limits pieces message.1 → IsAllowedForm limits.lengths form (length message.1 - total pieces)
          → LawAt role limits before (last_frame pieces key form message)
      last_law key form is_key masked fit allowed =
          let f = last_frame pieces key form message in
          let data_frame = op_after_is_data (length pieces) message.0 in
          let size_is : length f.payload ≡ length message.1 - total pieces = length-drop (total pieces) message.1 in
          let small : length message.1 < 2 ^ 63 = lawful.size in
          law_of_part f data_frame
          (data_frame_law role limits f data_frame is_key masked (bytes_drop (total pieces) message.1 lawful.in_bytes) (omega arith) (subst (IsAllowedForm limits.lengths form) (sym size_is) allowed))
          (group_law pieces message (unfinished before) f following refl limits (length message.1) lawful within fit.count
          (text_with_last key form ∙ sym (take-length message.1)) (λ final. text_with_last key form))

  -- ---- each step

  piece_goes_on : (pieces : List Step) (left : List MeantEvent) (len : ℕ) (key : _) (form : Form) → IfSome key IsKey → AreLawful limits.message left → IsOfPieces pieces (next_message left) (unfinished before)
      → StepLaw role limits pieces left (Piece len key form)
      → GoesOn role limits before (piece_frame pieces len key form (next_message left)) left (pieces ++ Piece len key form ∷ []) left
  piece_goes_on pieces left len key form is_key lawful following law =
      let message = next_message left in
      let f = piece_frame pieces len key form message in
      let fit = law.1.0 in
      let next = next_is_lawful limits.message left fit.0 lawful fit.1 in
      let data_frame = op_after_is_data (length pieces) message.0 in
      let grown = unfinished_more before f (ap not data_frame) refl in
      let frames = length-append (unfinished before) (f ∷ []) in
      let steps = length-append pieces (Piece len key form ∷ []) in
      let same : length (unfinished before) ≡ length pieces = following.count in
      record {
        law = piece_law pieces message following next.0 next.1 len key form is_key law.0 (subst (PiecesFit limits (pieces ++ Piece len key form ∷ [])) (sym (next_is left fit.0 fit.1)) fit.2) law.1.1;
        close_last = λ is. absurd (no_close f data_frame is);
        following = subst (IsOfPieces (pieces ++ Piece len key form ∷ []) message) (sym grown) (record {
          count = omega arith;
          text = text_with_piece pieces message following len key form;
          kind = λ some. first_op_is pieces message (unfinished before) f following refl;
        });
        event = refl;
      }

  last_goes_on : (pieces : List Step) (kind : Kind) (text : List ℕ) (later : List MeantEvent) (key : _) (form : Form) → IfSome key IsKey → AreLawful limits.message (meant.Message kind text ∷ later)
      → IsOfPieces pieces (kind, text) (unfinished before) → HasKeyOf role (Last key form) → PiecesFit limits pieces text → IsAllowedForm limits.lengths form (length text - total pieces)
      → GoesOn role limits before (last_frame pieces key form (kind, text)) (meant.Message kind text ∷ later) [] later
  last_goes_on pieces kind text later key form is_key lawful following masked fit allowed =
      let message : Kind × List ℕ = (kind, text) in
      let f = last_frame pieces key form message in
      let data_frame = op_after_is_data (length pieces) kind in
      let group = unfinished before ++ f ∷ [] in
      let kind_is : kind_of group ≡ kind = ap kind_at (first_op_is pieces message (unfinished before) f following refl) ∙ kind_of_op kind in
      let text_is : payload_of group ≡ text = text_with_last pieces message following key form in
      record {
        law = last_law pieces message following lawful.0 lawful.1 key form is_key masked fit allowed;
        close_last = λ is. absurd (no_close f data_frame is);
        following = subst (IsOfPieces [] (next_message later)) (sym (unfinished_final before f (ap not data_frame) refl)) (of_no_pieces (next_message later));
        event = ap (λ (e : MeantEvent). e ∷ later) (event_of_data before f data_frame ∙ ap (λ (k : Kind). meant.Message k (payload_of group)) kind_is ∙ ap (meant.Message kind) text_is);
      }

  control_law : (key : _) (o : Op) (body : List ℕ) → IfSome key IsKey → HasKeyOf role (Control key) → IsLawfulControl o body → FrameLaw role limits.lengths (control_frame key (o, body))
  control_law key o body is_key masked lawful = record {
    encoded = record {
      encodable = record { key = is_key; payload = lawful.in_bytes; size = let short : length body ≤ 125 = lawful.size in omega arith; form = tt };
      masked = masked;
      shortest = λ _. refl;
      control = λ _. record { final = refl; short = lawful.size; shortest = refl };
    };
    close = lawful.close;
  }

  control_goes_on : (pieces : List Step) (o : Op) (body : List ℕ) (later : List MeantEvent) (key : _) → IfSome key IsKey → AreLawful limits.message (meant.Control o body ∷ later)
      → IsOfPieces pieces (next_message later) (unfinished before) → HasKeyOf role (Control key) → GoesOn role limits before (control_frame key (o, body)) (meant.Control o body ∷ later) pieces later
  control_goes_on pieces o body later key is_key lawful following masked =
      let f = control_frame key (o, body) in
      let is : is_control o ≡ true = lawful.0.control in
      record {
        law = record { frame = control_law key o body is_key masked lawful.0; group = λ data_frame. absurd (let both : not true ≡ true = ap not (sym is) ∙ data_frame in cc) };
        close_last = lawful.1;
        following = subst (IsOfPieces pieces (next_message later)) (sym (unfinished_control before f (ap not is))) following;
        event = ap (λ (e : MeantEvent). e ∷ later) (event_of_control before f is);
      }

  -- The property of a step with these events left.
  abbrev Told : List Step → Step → List MeantEvent → Type 0
  Told pieces step left =
      AreLawful limits.message left → IsOfPieces pieces (next_message left) (unfinished before) → GoesOn role limits before (frame_from pieces left step) left (pieces_after pieces step) (left_after left step)

  pub step_goes_on : (pieces : List Step) (left : List MeantEvent) (step : Step) → IfSome (key_of step) IsKey → StepLaw role limits pieces left step → Told pieces step left
  step_goes_on pieces left (Piece len key form) is_key law = λ lawful following. piece_goes_on pieces left len key form is_key lawful following law
  step_goes_on pieces left (Last key form) is_key law =
      let next = law.1 in
      subst (Told pieces (Last key form)) (sym next.3) (λ lawful following. last_goes_on pieces next.0 next.1 next.2 key form is_key lawful following law.0 next.4 next.5)
  step_goes_on pieces left (Control key) is_key law =
      let next = law.1 in
      subst (Told pieces (Control key)) (sym next.3) (λ lawful following. control_goes_on pieces next.0 next.1 next.2 key is_key lawful following law.0)
