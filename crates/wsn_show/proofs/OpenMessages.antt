-- What is kept of the open message after one more frame.
use Rattle.std.proofs.Common.{◌≡◌, ◌≢◌, ℕ, ◌+◌, true, false, List, [], ◌∷◌, ◌++◌, length, sym, ap, ◌∙◌, subst, append-nil, length-append, arith}
use Rattle.wsn_wire.specs.Frame.{Frame, stream, frame_bytes, head_bytes, wire_payload}
use Rattle.wsn_wire.proofs.FrameLemmas.{length-wire_payload}
use Rattle.wsn_rules.specs.BadCharacter.{payload_offset, last_of, message_payload, PlacedByte}
use Rattle.wsn_rules.specs.Group.{is_data, unfinished, first_op, payload_of}
use Rattle.wsn_rules.specs.Heads.{info_of}
use Rattle.wsn_rules.proofs.Groups.{unfinished_control, unfinished_final, unfinished_more}
use Rattle.wsn_rules.proofs.MessageText.{text_of_push}
use Rattle.wsn_rules.proofs.OpenOffsets.{offset_of_none, offset_after_control, offset_after_fragment}
use Rattle.wsn_rules.proofs.OpenPayloads.{open_after_control, open_after_fragment}
use Rattle.wsn_rules.proofs.Walk.{stream_push}
use Rattle.wsn_show.specs.declared.message_so_far.MessageSoFar.{MessageSoFar}
use Rattle.wsn_show.specs.PayloadsSoFar.{HasPayload}
use Rattle.wsn_show.specs.HeldParts.{HasEarlier}
use Rattle.wsn_show.specs.LastPayloads.{HasLastPayload}
use Rattle.wsn_show.specs.StreamParts.{KeepsMessage, HasJoined}
use Rattle.wsn_show.proofs.LastPayloads.{nothing_open}

-- ---- what is kept

-- A control leaves the open message as it is.
pub kept_after_control : (n : ℕ) (message : MessageSoFar) (fs : List Frame) (f : Frame) → is_data f ≡ false → KeepsMessage n message fs [] → KeepsMessage n message (fs ++ f ∷ []) []
kept_after_control n message fs f control kept =
    let same = unfinished_control fs f control in
    record {
      frames = kept.frames ∙ ap (λ (gs : List Frame). length gs) (sym same);
      bytes = kept.bytes ∙ ap (λ (gs : List Frame). length (payload_of gs)) (sym same);
      payload = subst (λ (gs : List Frame). HasPayload n message.payload (payload_of gs ++ [])) (sym same) kept.payload;
      earlier = kept.earlier ∙ ap (λ (gs : List Frame). last_of 48 (payload_of gs)) (sym same);
      last = kept.last ∙ ap (λ (ps : List PlacedByte). last_of 4 ps) (sym (open_after_control fs f control));
      op = λ some. kept.op (λ none. some (same ∙ none)) ∙ ap first_op (sym same);
      offset = λ some. let before : unfinished fs ≢ [] = λ none. some (same ∙ none) in kept.offset before ∙ sym (offset_after_control fs f control before);
    }

-- After a fragment.
pub kept_after_fragment : (n : ℕ) (message new : MessageSoFar) (fs : List Frame) (f : Frame) → is_data f ≡ true → f.fin ≡ false → KeepsMessage n message fs f.payload → HasJoined message fs f
    → new.frames ≡ message.frames + 1 → new.bytes ≡ message.payload.count → new.payload ≡ message.payload → HasEarlier new.earlier (payload_of (unfinished fs) ++ f.payload)
    → HasLastPayload new.last (message_payload fs (info_of (length (stream fs)) f) f.payload) → new.op ≡ message.op → new.offset ≡ message.offset → KeepsMessage n new (fs ++ f ∷ []) []
kept_after_fragment n message new fs f data_frame more kept joined frames bytes payload earlier last op offset =
    let on = unfinished_more fs f data_frame more in
    let text : payload_of (unfinished (fs ++ f ∷ [])) ≡ payload_of (unfinished fs) ++ f.payload = ap payload_of on ∙ text_of_push (unfinished fs) f in
    let size : length (unfinished (fs ++ f ∷ [])) ≡ length (unfinished fs) + 1 = ap (λ (gs : List Frame). length gs) on ∙ length-append (unfinished fs) (f ∷ []) in
    record {
      frames = frames ∙ ap (λ (k : ℕ). k + 1) kept.frames ∙ sym size;
      bytes = bytes ∙ kept.payload.count ∙ ap (λ (bs : List ℕ). length bs) (sym text);
      earlier = earlier ∙ ap (λ (bs : List ℕ). last_of 48 bs) (sym text);
      last = last ∙ ap (λ (ps : List PlacedByte). last_of 4 ps) (sym (open_after_fragment fs f data_frame more));
      payload = subst (HasPayload n new.payload) (sym (append-nil (payload_of (unfinished (fs ++ f ∷ []))) ∙ text))
          (subst (λ (payload : _). HasPayload n payload (payload_of (unfinished fs) ++ f.payload)) (sym payload) kept.payload);
      op = λ some. op ∙ joined.op ∙ ap first_op (sym on);
      offset = λ some. offset ∙ joined.offset ∙ sym (offset_after_fragment fs f data_frame more);
    }

-- No message is open.
pub kept_none : (n : ℕ) (message : MessageSoFar) (fs : List Frame) → unfinished fs ≡ [] → message.frames ≡ 0 → message.bytes ≡ 0 → HasPayload n message.payload [] → HasEarlier message.earlier [] → HasLastPayload message.last [] → KeepsMessage n message fs []
kept_none n message fs nothing frames bytes payload earlier last = record {
  frames = frames ∙ ap (λ (gs : List Frame). length gs) (sym nothing);
  bytes = bytes ∙ ap (λ (gs : List Frame). length (payload_of gs)) (sym nothing);
  payload = subst (λ (gs : List Frame). HasPayload n message.payload (payload_of gs ++ [])) (sym nothing) payload;
  earlier = subst (λ (gs : List Frame). HasEarlier message.earlier (payload_of gs)) (sym nothing) earlier;
  last = subst (HasLastPayload message.last) (sym (nothing_open fs nothing)) last;
  op = λ some. absurd (some nothing);
  offset = λ some. absurd (some nothing);
}

-- After a final data frame, before which none was open, none is open.
pub kept_after_whole : (n : ℕ) (message : MessageSoFar) (fs : List Frame) (f : Frame) → is_data f ≡ true → f.fin ≡ true → unfinished fs ≡ [] → KeepsMessage n message fs [] → KeepsMessage n message (fs ++ f ∷ []) []
kept_after_whole n message fs f data_frame final none kept =
    kept_none n message (fs ++ f ∷ []) (unfinished_final fs f data_frame final) (kept.frames ∙ ap (λ (gs : List Frame). length gs) none) (kept.bytes ∙ ap (λ (gs : List Frame). length (payload_of gs)) none)
    (subst (λ (gs : List Frame). HasPayload n message.payload (payload_of gs ++ [])) none kept.payload) (subst (λ (gs : List Frame). HasEarlier message.earlier (payload_of gs)) none kept.earlier)
    (subst (HasLastPayload message.last) (nothing_open fs none) kept.last)

-- ---- a data frame that begins

-- It begins a message.
pub joined_first : (message : MessageSoFar) (fs : List Frame) (f : Frame) → unfinished fs ≡ [] → message.op ≡ f.op → message.offset ≡ length (stream fs) → HasJoined message fs f
joined_first message fs f none op offset = record {
  op = op ∙ ap (λ (gs : List Frame). first_op (gs ++ f ∷ [])) (sym none);
  offset = offset ∙ sym (offset_of_none fs none);
}

-- A frame's payload ends where the frame does.
pub end_of_frame : (fs : List Frame) (f : Frame) (end : ℕ) → end ≡ length (stream (fs ++ f ∷ [])) → payload_offset (info_of (length (stream fs)) f) + length f.payload ≡ end
end_of_frame fs f end is =
    let own = length-append (head_bytes f.fin f.op f.key f.form (length f.payload)) (wire_payload f.key f.payload) in
    let wire = length-wire_payload f.key f.payload in
    let all : length (stream (fs ++ f ∷ [])) ≡ length (stream fs) + length (frame_bytes f) = ap (λ (bs : List ℕ). length bs) (stream_push fs f) ∙ length-append (stream fs) (frame_bytes f) in
    omega (arith, own, wire, all, is)
