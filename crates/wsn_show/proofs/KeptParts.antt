-- What is kept of a stream as its frames go on.
use Rattle.std.proofs.Common.{◌≡◌, ℕ, true, false, List, [], ◌++◌, inl, inr, refl, sym, ◌∙◌, subst}
use Rattle.std.proofs.lemmas.Bool.{cases_Bool, cond-true, cond-false}
use Rattle.wsn_wire.specs.Frame.{Frame, is_control}
use Rattle.wsn_rules.specs.declared.head_info.HeadInfo.{HeadInfo}
use Rattle.wsn_rules.specs.Group.{unfinished}
use Rattle.wsn_rules.specs.ShownStream.{frame_so_far}
use Rattle.wsn_scan.specs.Positions.{Position, InFrame}
use Rattle.wsn_scan.proofs.FrameEnds.{first_alike}
use Rattle.wsn_show.specs.declared.message_so_far.MessageSoFar.{MessageSoFar}
use Rattle.wsn_show.specs.declared.stream_parts.StreamParts.{StreamParts}
use Rattle.wsn_show.specs.StreamParts.{KeepsMessage, HasJoined, KeepsFrame, data_part, KeepsStream}

-- ---- the payload of a data frame, and of a control

pub part_of_data : (head : HeadInfo) (part : List ℕ) → is_control head.op ≡ false → data_part (InFrame head part) ≡ part
part_of_data head part other = cond-false (is_control head.op) [] part other

pub part_of_control : (head : HeadInfo) (part : List ℕ) → is_control head.op ≡ true → data_part (InFrame head part) ≡ []
part_of_control head part control = cond-true (is_control head.op) [] part control

no_part : (head : HeadInfo) → data_part (InFrame head []) ≡ []
no_part head =
    elim (cases_Bool (is_control head.op)) [
      | inl control ↦ part_of_control head [] control
      | inr other ↦ part_of_data head [] other
    ]

-- The message of a frame is another one's.
pub with_message : (parts : StreamParts) (message : MessageSoFar) (fs : List Frame) (at : Position) (rest : List ℕ) → KeepsFrame parts fs at rest → KeepsFrame (record parts { message = message }) fs at rest
with_message parts message fs at rest kept = record { offset = kept.offset; size = kept.size; head = kept.head; begun = kept.begun; last = kept.last }

module _ (n : ℕ) (parts : StreamParts) (fs : List Frame) (head : HeadInfo) where
  -- A head.
  pub begins : (rest : List ℕ) → KeepsMessage n parts.message fs [] → (is_control head.op ≡ false → HasJoined parts.message fs (frame_so_far head [])) → KeepsFrame parts fs (InFrame head []) rest → KeepsStream n parts fs (InFrame head []) rest
  begins rest kept joined frame = record { message = subst (KeepsMessage n parts.message fs) (sym (no_part head)) kept; joined = joined; frame = frame }

  -- More payload of a data frame.
  pub adds_data : (message : MessageSoFar) (part more rest now : List ℕ) → is_control head.op ≡ false → KeepsMessage n parts.message fs (part ++ more) → HasJoined message fs (frame_so_far head part) → parts.message.op ≡ message.op
      → parts.message.offset ≡ message.offset → KeepsFrame parts fs (InFrame head (part ++ more)) now → KeepsStream n parts fs (InFrame head (part ++ more)) now
  adds_data message part more rest now other kept joined op offset frame = record {
    message = subst (KeepsMessage n parts.message fs) (sym (part_of_data head (part ++ more) other)) kept;
    joined = λ again. record {
      op = op ∙ joined.op ∙ first_alike (unfinished fs) (frame_so_far head part) (frame_so_far head (part ++ more)) refl;
      offset = offset ∙ joined.offset;
    };
    frame = frame;
  }

  -- More payload of a control.
  pub adds_to_control : (part more now : List ℕ) → is_control head.op ≡ true → KeepsMessage n parts.message fs (data_part (InFrame head part)) → KeepsFrame parts fs (InFrame head (part ++ more)) now → KeepsStream n parts fs (InFrame head (part ++ more)) now
  adds_to_control part more now control kept frame = record {
    message = subst (KeepsMessage n parts.message fs) (part_of_control head part control ∙ sym (part_of_control head (part ++ more) control)) kept;
    joined = λ other. let both : true ≡ false = sym control ∙ other in absurd cc;
    frame = frame;
  }
