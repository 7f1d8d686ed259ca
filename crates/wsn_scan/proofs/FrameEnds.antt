-- The last byte of a frame: the bytes that came are a lawful frame, and the scan has one whole frame more.
use Rattle.std.proofs.Common.{◌≡◌, ◌≢◌, ℕ, ◌+◌, ◌<◌, ◌≤◌, ◌^◌, Bool, true, false, cond, not, Option, None, Some, is_some, List, [], ◌∷◌, ◌++◌, length, refl, sym, ap, ◌∙◌, subst, arith, append_assoc, append-nil, length-append, if◌then◌else◌}
use Rattle.std.specs.List.{fold}
use Rattle.wsn_wire.specs.declared.endpoint.Role.{Role}
use Rattle.wsn_wire.specs.declared.opcode.Op.{Op}
use Rattle.wsn_wire.specs.declared.opcode.Op.TheVariants.{Close}
use Rattle.wsn_wire.specs.declared.refusal.Reason.{Reason}
use Rattle.wsn_wire.specs.declared.length_encoding.LenForm.{LenForm}
use Rattle.wsn_wire.specs.Frame.{Frame, IsBytes, is_control, first_byte, key_bytes, masked, frame_bytes, stream}
use Rattle.wsn_wire.specs.ReceivedHead.{HasLayout, mask_bit, opcode_field, length_count, encoded_length}
use Rattle.wsn_wire.proofs.FrameLemmas.{first_byte_fields, op_at, op_at-opcode, key_at, key_at-key_bytes, form_at, key_bytes_count, IsBytes-right, frame_at, frame_bytes_determine}
use Rattle.wsn_wire.proofs.HeadLemmas.{frame_of_layout, close_from_opcode}
use Rattle.wsn_frame.specs.declared.heads.Head.{Head}
use Rattle.wsn_frame.specs.declared.payload_check.PayloadCheck.{PayloadCheck}
use Rattle.wsn_scan.specs.declared.scan.Scan.{Scan}
use Rattle.wsn_rules.specs.Limits.{Limits, InRange}
use Rattle.wsn_rules.specs.Group.{is_data, with_frame, unfinished, payload_of, first_op}
use Rattle.wsn_rules.specs.Lawful.{LawAt, IsLawful}
use Rattle.wsn_rules.specs.AfterClose.{HasNoClose, EndsWithClose}
use Rattle.wsn_rules.specs.Summary.{is_close, close_code, close_of}
use Rattle.wsn_frame.specs.KeptMessages.{IsOpenMessage, group_after}
use Rattle.wsn_frame.specs.PayloadChecks.{HasChecked}
use Rattle.wsn_frame.specs.Counts.{AreCounts}
use Rattle.wsn_frame.specs.Payloads.{unmasked_by, HoldsPayload}
use Rattle.wsn_frame.specs.PartialHeads.{encoded_form, info_at}
use Rattle.wsn_rules.specs.Heads.{info_of}
use Rattle.wsn_scan.specs.Scans.{HasConsumed, HasEnded, IsStageAfter, taken_of}
use Rattle.wsn_scan.proofs.HeadsReported.{form_is_encoded}
use Rattle.wsn_rules.proofs.LawfulLists.{law_at_split, lawful_push}
use Rattle.wsn_rules.proofs.Groups.{group_of_lawful, unfinished_control, unfinished_final, unfinished_more}
use Rattle.wsn_scan.proofs.ScanVerdicts.{other_op}
use Rattle.wsn_rules.proofs.LayoutPrefixes.{layout_of}
use Rattle.wsn_rules.proofs.MessageText.{text_of_push, not_one_byte}
use Rattle.wsn_rules.proofs.Walk.{stream_push}
use Rattle.wsn_rules.proofs.RowsOfLayout.{RowAt, row_has_evidence}
use Rattle.wsn_rules.proofs.LayoutsWithoutEvidence.{without_evidence_is_lawful, head_shows_nothing}

-- ---- a Close at the end

-- the Close at the end is the first
pub close_of-push : (fs : List Frame) (f : Frame) → HasNoClose fs → f.op ≡ Close → close_of (fs ++ f ∷ []) ≡ Some (close_code f.payload)
close_of-push [] f none is = ap (λ (o : Op). cond (is_close o) (Some (close_code f.payload)) None) is
close_of-push (g ∷ fs) f none is =
    ap (λ (b : Bool). cond b (Some (close_code g.payload)) (close_of (fs ++ f ∷ []))) (other_op g.op (none [] fs g refl))
    ∙ close_of-push fs f (λ before after h split. none (g ∷ before) after h (ap (λ (gs : List Frame). g ∷ gs) split)) is

-- a lawful Close's body isn't one byte long
pub close_not_one : (role : Role) (limits : Limits) (fs : List Frame) (f : Frame) → IsLawful role limits (fs ++ f ∷ []) → f.op ≡ Close → length f.payload ≢ 1
close_not_one role limits fs f lawful is = not_one_byte f.payload ((law_at_split role limits fs f [] lawful).frame.close is)

-- a frame whose first byte has opcode 8 is a Close
pub is_a_close : (f : Frame) → opcode_field (first_byte f.fin f.op) ≡ 8 → f.op ≡ Close
is_a_close f is = close_from_opcode f.op (sym (first_byte_fields f.fin f.op).opcode_is ∙ is)

pub ends_with_close : (fs : List Frame) (f : Frame) → f.op ≡ Close → EndsWithClose (fs ++ f ∷ [])
ends_with_close fs f is = (fs, f, is, refl)

-- what is unfinished after one frame more
pub unfinished_after : (fs : List Frame) (f : Frame) → unfinished (fs ++ f ∷ []) ≡ group_after (unfinished fs) f
unfinished_after fs f = by_op (is_control f.op) refl
  where
    by_fin : (final : Bool) → f.fin ≡ final → is_control f.op ≡ false → unfinished (fs ++ f ∷ []) ≡ cond final [] (unfinished fs ++ f ∷ [])
    by_fin true final data_frame = unfinished_final fs f (ap not data_frame) final
    by_fin false final data_frame = unfinished_more fs f (ap not data_frame) final

    by_op : (control : Bool) → is_control f.op ≡ control → unfinished (fs ++ f ∷ []) ≡ group_after (unfinished fs) f
    by_op true is = unfinished_control fs f (ap not is) ∙ ap (λ (b : Bool). cond b (unfinished fs) (cond f.fin [] (unfinished fs ++ f ∷ []))) (sym is)
    by_op false is = by_fin f.fin refl is ∙ ap (λ (b : Bool). cond b (unfinished fs) (cond f.fin [] (unfinished fs ++ f ∷ []))) (sym is)

-- ---- the frame that came

-- All of a frame's payload came: the bytes are those of a frame that is lawful there, with the head's fields.
pub record IsWhole (role : Role) (limits : Limits) (fs : List Frame) (head : Head) (wire rest : List ℕ) : Type 0 where
  pub frame : Frame
  pub bytes_are : frame_bytes frame ≡ rest
  pub law : LawAt role limits fs frame
  pub fin_is : frame.fin ≡ head.first.fin
  pub op_is : frame.op ≡ head.first.op
  pub key_is : frame.key ≡ head.key
  pub form_is : frame.form ≡ encoded_form head.encoded head.len
  pub payload_is : frame.payload ≡ unmasked_by head.key 0 wire
  pub length_is : head.len ≡ length frame.payload

-- what is reported of the frame is what its head says
info_whole : (offset : ℕ) (role : Role) (limits : Limits) (fs : List Frame) (head : Head) (wire rest : List ℕ) (w : IsWhole role limits fs head wire rest) → info_of offset w.frame ≡ info_at offset head
info_whole offset role limits fs head wire rest w = λ i. record { offset = offset; fin = w.fin_is i; op = w.op_is i; key = w.key_is i; form = w.form_is i; len = sym w.length_is i }

module _ (role : Role) (limits : Limits) (rest wire : List ℕ) (fs : List Frame) (head : Head) (check : PayloadCheck)
    (in_range : InRange limits) (lawful_so_far : IsLawful role limits fs) (in_bytes : IsBytes rest) (holds : HoldsPayload role limits (unfinished fs) head check wire rest) (all : length wire ≡ head.len) where
  abbrev first : ℕ
  first = first_byte head.first.fin head.first.op

  parts : rest ≡ first ∷ holds.is_head.second ∷ (holds.is_head.lengths ++ (key_bytes head.key ++ wire))
  parts =
      holds.whole ∙ ap (λ (bs : List ℕ). bs ++ wire) holds.is_head.whole
      ∙ ap (λ (bs : List ℕ). first ∷ holds.is_head.second ∷ bs) (append_assoc holds.is_head.lengths (key_bytes head.key) wire)

  layout : HasLayout rest
  layout =
      let h = holds.is_head in
      layout_of first h.second h.lengths (key_bytes head.key) wire rest parts in_bytes
      (h.counted ∙ ap length_count h.encoded) (key_bytes_count head.key h.of_four ∙ ap (λ (b : Bool). cond b 4 0) (sym h.masked))
      (all ∙ h.reported ∙ ap (λ (f : LenForm). encoded_length f h.lengths) h.encoded)

  no_row : (reason : Reason) → RowAt role limits (unfinished fs) reason layout → ⊥
  no_row reason row =
      let front = row_has_evidence role limits (unfinished fs) reason rest layout row in
      holds.has_no_evidence.none front.seen front.later reason front.whole front.evidence

  payload_by_key : (key : Option (List ℕ)) (second : ℕ) → mask_bit second ≡ is_some key → cond (mask_bit second) (masked (key_bytes key) 0 wire) wire ≡ unmasked_by key 0 wire
  payload_by_key None second is = ap (λ (b : Bool). cond b (masked [] 0 wire) wire) is
  payload_by_key (Some key) second is = ap (λ (b : Bool). cond b (masked key 0 wire) wire) is

  pub whole_frame : IsWhole role limits fs head wire rest
  unfolding layout layout_of frame_at
  whole_frame =
      let h = holds.is_head in
      let group = group_of_lawful role limits fs lawful_so_far in
      let lawful = without_evidence_is_lawful role limits in_range fs group layout no_row in
      let shows = head_shows_nothing role limits in_range fs group layout no_row in
      let encoded = frame_of_layout role limits.lengths rest layout shows in
      let there = frame_at first h.second (key_bytes head.key) wire in
      let same : lawful.frame ≡ there =
      (frame_bytes_determine lawful.frame there [] [] lawful.law.frame.encoded.encodable encoded.owed.encodable
      (append-nil (frame_bytes lawful.frame) ∙ lawful.bytes_are ∙ sym encoded.bytes_are ∙ sym (append-nil (frame_bytes there)))).0 in
      let fields = first_byte_fields head.first.fin head.first.op in
      record {
        frame = there;
        bytes_are = encoded.bytes_are;
        law = subst (λ (f : Frame). LawAt role limits fs f) same lawful.law;
        fin_is = encoded.fin_is ∙ fields.fin_is;
        op_is = sym (op_at-opcode there.op) ∙ ap op_at (encoded.opcode_is ∙ fields.opcode_is) ∙ op_at-opcode head.first.op;
        key_is = ap (λ (mask : Bool). key_at mask (key_bytes head.key)) h.masked ∙ key_at-key_bytes head.key;
        form_is = ap (λ (f : LenForm). form_at f (length wire)) (sym h.encoded) ∙ ap (λ (n : ℕ). form_at head.encoded n) all ∙ form_is_encoded head.encoded head.len;
        payload_is = encoded.payload_is ∙ payload_by_key head.key h.second h.masked;
        length_is = h.reported ∙ ap (λ (f : LenForm). encoded_length f h.lengths) h.encoded ∙ sym encoded.length_is;
      }

  pub same_check : (f : Frame) → f.fin ≡ head.first.fin → f.op ≡ head.first.op → f.payload ≡ unmasked_by head.key 0 wire → HasChecked (unfinished fs) (first_byte f.fin f.op) check f.payload
  same_check f fin_is op_is payload_is =
      subst (λ (payload : List ℕ). HasChecked (unfinished fs) (first_byte f.fin f.op) check payload) (sym payload_is)
      (subst (λ (op : Op). HasChecked (unfinished fs) (first_byte f.fin op) check (unmasked_by head.key 0 wire)) (sym op_is)
      (subst (λ (fin : Bool). HasChecked (unfinished fs) (first_byte fin head.first.op) check (unmasked_by head.key 0 wire)) (sym fin_is) holds.checked))

-- ---- upper bounds

pub frames_few : (fs : List Frame) → length fs ≤ length (stream fs)
frames_few [] = omega arith
frames_few (f ∷ fs) =
    let rest = frames_few fs in
    let bytes : length (stream (f ∷ fs)) ≡ length (frame_bytes f) + length (stream fs) = length-append (frame_bytes f) (stream fs) in
    let some : 0 < length (frame_bytes f) = omega arith in
    omega arith

group_few : (fs group : List Frame) → length (fold with_frame group fs) ≤ length group + length fs
group_few [] group = omega arith
group_few (f ∷ fs) group = omega (arith, group_few fs (with_frame group f), by (is_data f) f.fin)
  where
    by : (data_frame final : Bool) → length (if data_frame then (if final then [] else group ++ f ∷ []) else group) ≤ length group + 1
    by true true = omega arith
    by true false = omega (arith, length-append group (f ∷ []))
    by false final = omega arith

pub unfinished_few : (fs : List Frame) → length (unfinished fs) ≤ length (stream fs)
unfinished_few fs = omega (arith, group_few fs [], frames_few fs)

pub text_small : (role : Role) (limits : Limits) (fs : List Frame) (f : Frame) → InRange limits → IsLawful role limits fs → LawAt role limits fs f → length (payload_of (unfinished fs ++ f ∷ [])) < 2 ^ 32
text_small role limits fs f range lawful law = by_op (is_control f.op) refl
  where
    by_op : (control : Bool) → is_control f.op ≡ control → length (payload_of (unfinished fs ++ f ∷ [])) < 2 ^ 32
    by_op false is = let fits = (law.group (ap not is)).size in let most = range.message in omega arith
    by_op true is =
        let group = (group_of_lawful role limits fs lawful).size in
        let short = (law.frame.encoded.control is).short in
        let most = range.message in
        let joined : length (payload_of (unfinished fs ++ f ∷ [])) ≡ length (payload_of (unfinished fs)) + length f.payload =
        ap (λ (bs : List ℕ). length bs) (text_of_push (unfinished fs) f) ∙ length-append (payload_of (unfinished fs)) f.payload in
        omega arith

-- ---- the scan after the frame

-- How the scan's fields have changed.
pub record IsBehind (old new : Scan) (head : Head) (check : PayloadCheck) : Type 0 where
  pub sender : new.context.role ≡ old.context.role
  pub under : new.context.limits ≡ old.context.limits
  pub room : new.room ≡ old.room
  pub used : new.used ≡ taken_of old
  pub counts : (fs : List Frame) (f : Frame) → AreCounts old.counts fs → length fs < 2 ^ 63 → f.fin ≡ head.first.fin → f.op ≡ head.first.op → AreCounts new.counts (fs ++ f ∷ [])
  pub message : (group : List Frame) (f : Frame) → IsOpenMessage old.context.message group → f.fin ≡ head.first.fin → f.op ≡ head.first.op → head.len ≡ length f.payload
      → HasChecked group (first_byte f.fin f.op) check f.payload → length (payload_of (group ++ f ∷ [])) < 2 ^ 32 → length group < 2 ^ 63 → IsOpenMessage new.context.message (group_after group f)
  pub stage : IsStageAfter check new.stage

pub frame_ends : (role : Role) (limits : Limits) (old new : Scan) (bytes rest wire : List ℕ) (fs : List Frame) (head : Head) (check : PayloadCheck) → IsBehind old new head check
    → HasConsumed role limits old bytes fs rest → HasNoClose fs → HoldsPayload role limits (unfinished fs) head check wire rest → length wire ≡ head.len
    → HasEnded role limits new bytes fs head (unmasked_by head.key 0 wire)
frame_ends role limits old new bytes rest wire fs head check following has_consumed none holds all =
    let in_rest = IsBytes-right (stream fs) rest (subst IsBytes has_consumed.whole has_consumed.in_bytes) in
    let w = whole_frame role limits rest wire fs head check has_consumed.in_range has_consumed.lawful in_rest holds all in
    let f = w.frame in
    let lawful = lawful_push role limits fs f has_consumed.lawful none w.law in
    let checked = same_check role limits rest wire fs head check has_consumed.in_range has_consumed.lawful in_rest holds all f w.fin_is w.op_is w.payload_is in
    let joined : stream (fs ++ f ∷ []) ≡ stream fs ++ rest = stream_push fs f ∙ ap (λ (bs : List ℕ). stream fs ++ bs) w.bytes_are in
    let whole : bytes ≡ stream (fs ++ f ∷ []) = has_consumed.whole ∙ sym joined in
    let counts : length bytes ≡ length (stream fs) + length rest = ap (λ (bs : List ℕ). length bs) has_consumed.whole ∙ length-append (stream fs) rest in
    let input = has_consumed.in_range.input in
    let room = has_consumed.room in
    let few : length fs < 2 ^ 63 = omega (arith, frames_few fs) in
    let few_open : length (unfinished fs) < 2 ^ 63 = omega (arith, unfinished_few fs) in
    let same_input : old.context.limits.input ≡ limits.input = ap (λ (b : Limits). b.input) has_consumed.under in
    let taken : taken_of old ≡ length bytes = omega arith in
    record {
      frame = f;
      head_is = sym (info_whole (length (stream fs)) role limits fs head wire rest w);
      payload_is = w.payload_is;
      has_scanned = record {
        has_consumed = record {
          sender = following.sender ∙ has_consumed.sender;
          under = following.under ∙ has_consumed.under;
          in_range = has_consumed.in_range;
          lawful = lawful;
          whole = whole ∙ sym (append-nil (stream (fs ++ f ∷ [])));
          in_bytes = has_consumed.in_bytes;
          room = omega (arith, following.room);
          used = following.used ∙ taken ∙ ap (λ (bs : List ℕ). length bs) whole;
          counts = following.counts fs f has_consumed.counts few w.fin_is w.op_is;
          message = subst (IsOpenMessage new.context.message) (sym (unfinished_after fs f))
              (following.message (unfinished fs) f has_consumed.message w.fin_is w.op_is w.length_is checked (text_small role limits fs f has_consumed.in_range has_consumed.lawful w.law) few_open);
        };
        is_at = following.stage role limits bytes fs f lawful none checked;
      };
    }

-- The first opcode depends on the opcode of one more frame alone.
pub first_alike : (group : List Frame) (f g : Frame) → f.op ≡ g.op → first_op (group ++ f ∷ []) ≡ first_op (group ++ g ∷ [])
first_alike [] f g same = same
first_alike (h ∷ group) f g same = refl
