-- The frames into which a message is split: each is lawful after those before it.
use Rattle.std.proofs.Common.{◌≡◌, ◌≢◌, ℕ, zero, suc, Option, ◌+◌, ◌^◌, ◌<◌, ◌≤◌, ◌↔◌, true, false, List, [], ◌∷◌, ◌++◌, length, take, drop, IsSome, IfSome, refl, sym, ap, ◌∙◌, subst, arith}
use Rattle.std.proofs.lemmas.List.{length-append, length-take, length-drop, take-append-drop}
use Rattle.std.specs.Option.{ForSome}
use Rattle.wsn_wire.specs.declared.endpoint.Role.{Role}
use Rattle.wsn_wire.specs.declared.endpoint.Role.TheVariants.{Client}
use Rattle.wsn_wire.specs.declared.opcode.Op.{Op}
use Rattle.wsn_wire.specs.declared.opcode.Op.TheVariants as op
use Rattle.wsn_wire.specs.declared.opcode.Kind.{Kind}
use Rattle.wsn_wire.specs.declared.opcode.Kind.TheVariants.{Text, Binary}
use Rattle.wsn_wire.specs.declared.length_encoding.Form.{Form}
use Rattle.wsn_wire.specs.declared.length_encoding.Form.TheVariants as form
use Rattle.wsn_wire.specs.Frame.{Frame, IsBytes, IsKey, is_control}
use Rattle.wsn_wire.proofs.FrameLemmas.{IsBytes-left, IsBytes-right}
use Rattle.wsn_text.specs.Utf8.{IsText, BeginsText}
use Rattle.wsn_rules.specs.declared.step.Step.{Step}
use Rattle.wsn_rules.specs.declared.step.Step.TheVariants.{Piece}
use Rattle.wsn_rules.specs.Limits.{Limits}
use Rattle.wsn_rules.specs.Group.{first_op, payload_of}
use Rattle.wsn_rules.specs.MessageLaw.{GroupLaw}
use Rattle.wsn_rules.specs.Lawful.{FrameLaw}
use Rattle.wsn_rules.specs.LawfulEvents.{IsLawfulMessage}
use Rattle.wsn_rules.specs.NormalForm.{op_of}
use Rattle.wsn_rules.specs.Plan.{total}
use Rattle.wsn_rules.specs.Fitting.{IsAllowedForm}
use Rattle.wsn_rules.specs.Recut.{op_after}
use Rattle.wsn_rules.proofs.PlanTheory.PiecesInARow.{total_push}

-- ---- the opcodes of a message

pub op_of_is_data : (kind : Kind) → is_control (op_of kind) ≡ false
op_of_is_data Text = refl
op_of_is_data Binary = refl

op_of_begins : (kind : Kind) → op_of kind ≡ op.Continue → ⊥
op_of_begins Text is = cc
op_of_begins Binary is = cc

op_of_text : (kind : Kind) → op_of kind ≡ op.Text → kind ≡ Text
op_of_text Text is = refl
op_of_text Binary is = cc

pub op_after_is_data : (count : ℕ) (kind : Kind) → is_control (op_after count kind) ≡ false
op_after_is_data zero kind = op_of_is_data kind
op_after_is_data (suc count) kind = refl

-- ---- the frames of steps, for this message or control

abbrev pub piece_frame : List Step → ℕ → Option (List ℕ) → Form → Kind × List ℕ → Frame
piece_frame pieces len key form message =
    record { fin = false; op = op_after (length pieces) message.0; key = key; form = form; payload = take len (drop (total pieces) message.1) }

abbrev pub last_frame : List Step → Option (List ℕ) → Form → Kind × List ℕ → Frame
last_frame pieces key form message = record { fin = true; op = op_after (length pieces) message.0; key = key; form = form; payload = drop (total pieces) message.1 }

abbrev pub control_frame : Option (List ℕ) → Op × List ℕ → Frame
control_frame key control = record { fin = true; op = control.0; key = key; form = form.Shortest; payload = control.1 }

-- ---- parts of bytes

pub bytes_take : (n : ℕ) (bytes : List ℕ) → IsBytes bytes → IsBytes (take n bytes)
bytes_take n bytes each = IsBytes-left (take n bytes) (drop n bytes) (subst IsBytes (sym (take-append-drop n bytes)) each)

pub bytes_drop : (n : ℕ) (bytes : List ℕ) → IsBytes bytes → IsBytes (drop n bytes)
bytes_drop n bytes each = IsBytes-right (take n bytes) (drop n bytes) (subst IsBytes (sym (take-append-drop n bytes)) each)

-- A Piece that fits contains as many bytes as it says.
pub length_of_piece : (pieces : List Step) (bytes : List ℕ) (len : ℕ) (key : _) (form : Form) → total (pieces ++ Piece len key form ∷ []) ≤ length bytes → length (take len (drop (total pieces) bytes)) ≡ len
length_of_piece pieces bytes len key form fits =
    let grown = total_push pieces (Piece len key form) in
    let taken = length-take len (drop (total pieces) bytes) in
    let dropped = length-drop (total pieces) bytes in
    omega arith

-- A prefix of text begins text.
begins_text : (n : ℕ) (bytes : List ℕ) → IsText bytes → BeginsText (take n bytes)
begins_text n bytes text = record { more = drop n bytes; text = subst IsText (sym (take-append-drop n bytes)) text }

-- ---- the rule for a data frame by itself

pub data_frame_law : (role : Role) (limits : Limits) (f : Frame) → is_control f.op ≡ false → IfSome f.key IsKey → IsSome f.key ↔ (role ≡ Client) → IsBytes f.payload → length f.payload < 2 ^ 63
    → IsAllowedForm limits.lengths f.form (length f.payload) → FrameLaw role limits.lengths f
data_frame_law role limits f data_frame key masked payload size form = record {
  encoded = record {
    encodable = record { key = key; payload = payload; size = size; form = form.1 };
    masked = masked;
    shortest = form.0;
    control = λ is. absurd (let both : true ≡ false = sym is ∙ data_frame in cc);
  };
  close = λ is. no_close is;
}
  where
    no_close : {A : Type 0} → f.op ≡ op.Close → A
    no_close is = absurd (let both : true ≡ false = sym (ap is_control is) ∙ data_frame in cc)

-- ---- the rule for its group

-- The group is the frames of these Pieces of the message.
pub record IsOfPieces (pieces : List Step) (message : Kind × List ℕ) (group : List Frame) : Type 0 where
  pub count : length group ≡ length pieces
  pub text : payload_of group ≡ take (total pieces) message.1
  pub kind : group ≢ [] → first_op group ≡ op_of message.0

pub of_no_pieces : (message : Kind × List ℕ) → IsOfPieces [] message []
of_no_pieces message = record { count = refl; text = refl; kind = λ some. absurd (some refl) }

module _ (pieces : List Step) (message : Kind × List ℕ) (group : List Frame) (f : Frame) (following : IsOfPieces pieces message group) (op_is : f.op ≡ op_after (length pieces) message.0) where
  pub first_op_is : first_op (group ++ f ∷ []) ≡ op_of message.0
  first_op_is = by_parts pieces group following op_is
    where
      by_parts : (pieces : List Step) (group : List Frame) → IsOfPieces pieces message group → f.op ≡ op_after (length pieces) message.0 → first_op (group ++ f ∷ []) ≡ op_of message.0
      by_parts [] [] following op_is = op_is
      by_parts (piece ∷ pieces) [] following op_is = let count : 0 ≡ length (piece ∷ pieces) = following.count in absurd (omega arith)
      by_parts pieces (g ∷ group) following op_is = following.kind (λ none. cc)

  continues : (f.op ≡ op.Continue) ↔ (group ≢ [])
  continues = by_parts pieces group following op_is
    where
      by_parts : (pieces : List Step) (group : List Frame) → IsOfPieces pieces message group → f.op ≡ op_after (length pieces) message.0 → (f.op ≡ op.Continue) ↔ (group ≢ [])
      by_parts [] [] following op_is = (λ is. absurd (op_of_begins message.0 (sym op_is ∙ is)), λ some. absurd (some refl))
      by_parts (piece ∷ pieces) (g ∷ group) following op_is = (λ is none. (cc), λ some. op_is)
      by_parts [] (g ∷ group) following op_is = let count : length (g ∷ group) ≡ 0 = following.count in absurd (omega arith)
      by_parts (piece ∷ pieces) [] following op_is = let count : 0 ≡ length (piece ∷ pieces) = following.count in absurd (omega arith)

  -- n: the number of bytes of the message in the group with this frame.
  pub group_law : (limits : Limits) (n : ℕ) → IsLawfulMessage message.0 message.1 → length message.1 ≤ limits.message → ForSome limits.frames (λ most. length pieces + 1 ≤ most)
      → payload_of (group ++ f ∷ []) ≡ take n message.1 → (f.fin ≡ true → payload_of (group ++ f ∷ []) ≡ message.1) → GroupLaw limits group f
  group_law limits n lawful within count text whole =
      let is_text : (first_op (group ++ f ∷ []) ≡ op.Text → IsText message.1) = λ is. lawful.utf8 (op_of_text message.0 (sym first_op_is ∙ is)) in
      record {
        continues = continues;
        size = let front = length-take n message.1 in subst (λ (bytes : List ℕ). length bytes ≤ limits.message) (sym text) (omega arith);
        count = λ most is. let one_more = length-append group (f ∷ []) in let same : length group ≡ length pieces = following.count in let within : length pieces + 1 ≤ most = count most is in omega arith;
        begins = λ is. subst BeginsText (sym text) (begins_text n message.1 (is_text is));
        text = λ is final. subst IsText (sym (whole final)) (is_text is);
      }
