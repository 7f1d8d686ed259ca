-- A frame that ends an event, and the event's normal frame in its place.
use Rattle.std.proofs.Common.{◌≡◌, ◌↔◌, ℕ, suc, ◌+◌, ◌-◌, ◌<◌, ◌≤◌, Bool, true, false, not, Option, None, Some, List, [], ◌∷◌, ◌++◌, length, take, drop, refl, sym, ap, ◌∙◌, subst, arith, append-nil, length-append, take-append-drop}
use Rattle.std.specs.Prelude.{IsSome, IfSome}
use Rattle.std.proofs.lemmas.List.{take_all, take-take, take-append-le, length-take-le}
use Rattle.std.proofs.Math.Seq.{take-append-add, drop-append-add}
use borrow.Rule.Slice.PartMut.{mid_of, put_mid, take_put}
use Rattle.wsn_wire.specs.declared.endpoint.Role.{Role}
use Rattle.wsn_wire.specs.declared.endpoint.Role.TheVariants.{Client, Server}
use Rattle.wsn_wire.specs.declared.opcode.Op.{Op}
use Rattle.wsn_wire.specs.declared.opcode.Op.TheVariants.{Continue, Text, Binary, Close, Ping, Pong}
use Rattle.wsn_wire.specs.declared.length_encoding.Form.{Form}
use Rattle.wsn_wire.specs.declared.length_encoding.Form.TheVariants.{Shortest}
use Rattle.wsn_wire.specs.Frame.{Frame, IsBytes, IsKey, is_control, first_byte, second_byte, len_form_of, length_bytes, head_bytes, key_bytes, wire_payload, frame_bytes}
use Rattle.wsn_wire.proofs.MaskLemmas.{masked-zero}
use Rattle.wsn_frame.specs.declared.heads.Head.{Head}
use Rattle.wsn_frame.specs.declared.payload_check.PayloadCheck.{PayloadCheck}
use Rattle.wsn_frame.specs.PartialHeads.{IsHead, encoded_form}
use Rattle.wsn_frame.specs.Payloads.{unmasked_by, HoldsPayload}
use Rattle.wsn_frame.proofs.FramesAtOnce.{kept_after_frame, payload_after}
use Rattle.wsn_rules.specs.Limits.{Limits, InRange}
use Rattle.wsn_rules.specs.Group.{unfinished, kind_at, kind_of, payload_of}
use Rattle.wsn_rules.specs.Lawful.{LawAt, IsLawful}
use Rattle.wsn_rules.specs.Meaning.{Message, event_at}
use Rattle.wsn_rules.specs.NormalForm.{normal_frame, normal_key, op_of}
use Rattle.wsn_rules.proofs.LawfulMeaning.{event_of_control, event_of_data}
use Rattle.wsn_scan.specs.EventFrames.{with_key_cleared, EndsEventAt}
use Rattle.wsn_scan.proofs.FrameEnds.{whole_frame}
use Rattle.wsn_scan.proofs.HeadsReported.{head_encoded, front_without_evidence}

-- ---- the head

front_of : (xs ys : List ℕ) (n : ℕ) → length ys ≡ n → take (length (xs ++ ys) - n) (xs ++ ys) ≡ xs
front_of xs ys n size =
    let front : length (xs ++ ys) - n ≡ length xs = omega (arith, length-append xs ys, size) in
    ap (λ (k : ℕ). take k (xs ++ ys)) front ∙ take-append-le (length xs) xs ys (omega arith) ∙ take_all (length xs) xs (omega arith)

-- a head with its key cleared is a normal one
cleared : (role : Role) (key : Option (List ℕ)) (fin : Bool) (op : Op) (len : ℕ) (bytes : List ℕ) → (IsSome key ↔ (role ≡ Client)) → IfSome key IsKey → bytes ≡ head_bytes fin op key Shortest len
    → with_key_cleared key bytes ≡ head_bytes fin op (normal_key role) Shortest len
cleared Server None fin op len bytes keyed four is = is
cleared Client None fin op len bytes keyed four is = let both : false ≡ true = keyed.1 refl in absurd cc
cleared Server (Some key) fin op len bytes keyed four is = let both : Server ≡ Client = keyed.0 refl in absurd cc
cleared Client (Some key) fin op len bytes keyed four is =
    let form = len_form_of Shortest len in
    ap (λ (bs : List ℕ). take (length bs - 4) bs ++ (0 ∷ 0 ∷ 0 ∷ 0 ∷ [])) is
    ∙ ap (λ (bs : List ℕ). bs ++ (0 ∷ 0 ∷ 0 ∷ 0 ∷ [])) (front_of (first_byte fin op ∷ second_byte (Some key) form ∷ length_bytes form len) key 4 four.0)

-- a head with a key has its four bytes
pub key_fits : (role : Role) (limits : Limits) (group : List Frame) (head : Head) (bytes : List ℕ) → IsHead role limits group head bytes → IfSome head.key (λ key. 4 ≤ length bytes)
key_fits role limits group head bytes h = of head.key h.of_four h.whole
  where
    of : (key : Option (List ℕ)) → IfSome key IsKey → bytes ≡ first_byte head.first.fin head.first.op ∷ h.second ∷ (h.lengths ++ key_bytes key) → IfSome key (λ k. 4 ≤ length bytes)
    of None four whole = tt
    of (Some key) four whole = let size : length bytes ≡ suc (suc (length (h.lengths ++ key))) = ap (λ (bs : List ℕ). length bs) whole in omega (arith, size, length-append h.lengths key, four.0)

-- the first byte of a final frame, by its head
pub first_of : (role : Role) (limits : Limits) (head : Head) (chunk : List ℕ) (start : ℕ) → 0 < start → IsHead role limits [] head (take start chunk) → head.first.fin ≡ true → take 1 chunk ≡ first_byte true head.first.op ∷ []
first_of role limits head chunk start some h final =
    sym (take-take 1 start chunk (omega (arith, some))) ∙ ap (λ (bs : List ℕ). take 1 bs) h.whole ∙ ap (λ (fin : Bool). first_byte fin head.first.op ∷ []) final

-- ---- the event

-- a key of zeros changes no byte
pub normal_wire : (role : Role) (payload : List ℕ) → payload ≡ wire_payload (normal_key role) payload
normal_wire Server payload = refl
normal_wire Client payload = sym (masked-zero 0 payload)

kind_back : (op : Op) → is_control op ≡ false → (op ≡ Continue → ⊥) → op_of (kind_at op) ≡ op
kind_back Continue plain begins = absurd (begins refl)
kind_back Text plain begins = refl
kind_back Binary plain begins = refl
kind_back Close plain begins = absurd cc
kind_back Ping plain begins = absurd cc
kind_back Pong plain begins = absurd cc

-- a final frame that begins while no message is open ends an event whose normal frame has its opcode and payload
abbrev normal_as : Role → Op → List ℕ → Frame
normal_as role op payload = record { fin = true; op = op; key = normal_key role; form = Shortest; payload = payload }

pub normal_of : (role : Role) (limits : Limits) (fs : List Frame) (f : Frame) → LawAt role limits fs f → unfinished fs ≡ [] → normal_frame role (event_at fs f) ≡ normal_as role f.op f.payload
normal_of role limits fs f law none = by (is_control f.op) refl
  where
    by : (control : Bool) → is_control f.op ≡ control → normal_frame role (event_at fs f) ≡ normal_as role f.op f.payload
    by true is = ap (normal_frame role) (event_of_control fs f is)
    by false is =
        let begins : f.op ≡ Continue → ⊥ = λ more. (law.group (ap not is)).continues.0 more none in
        ap (normal_frame role) (event_of_data fs f is)
        ∙ ap (λ (gs : List Frame). normal_frame role (Message (kind_of (gs ++ f ∷ [])) (payload_of (gs ++ f ∷ [])))) none
        ∙ (λ i. normal_as role (kind_back f.op is begins i) (append-nil f.payload i))

-- ---- the frame

module _ (role : Role) (limits : Limits) (fs : List Frame) (head : Head) (check : PayloadCheck) (front wire : List ℕ) (range : InRange limits) (lawful : IsLawful role limits fs) (none : unfinished fs ≡ [])
    (is_head : IsHead role limits (unfinished fs) head front) (holds : HoldsPayload role limits (unfinished fs) head check wire (front ++ wire)) (all : length wire ≡ head.len)
    (in_bytes : IsBytes (front ++ wire)) (final : head.first.fin ≡ true) (shortest : encoded_form head.encoded head.len ≡ Shortest) where
  pub ends_event : (chunk after : List ℕ) (n : ℕ) → take n chunk ≡ front ++ wire → take n after ≡ with_key_cleared head.key front ++ unmasked_by head.key 0 wire
      → EndsEventAt role limits fs chunk after (record { op = head.first.op; key = head.key; size = n; len = head.len })
  ends_event chunk after n was is =
      let w = whole_frame role limits (front ++ wire) wire fs head check range lawful in_bytes holds all in
      let encoded : front ≡ head_bytes head.first.fin head.first.op head.key Shortest head.len =
      head_encoded role limits fs head front is_head (front_without_evidence role limits (unfinished fs) front wire holds.has_no_evidence)
      ∙ ap (λ (form : Form). head_bytes head.first.fin head.first.op head.key form head.len) shortest in
      let head_is = cleared role head.key head.first.fin head.first.op head.len front is_head.keyed is_head.of_four encoded in
      let payload_is : unmasked_by head.key 0 wire ≡ wire_payload (normal_key role) w.frame.payload = sym w.payload_is ∙ normal_wire role w.frame.payload in
      record {
        frame = w.frame;
        bytes_are = w.bytes_are ∙ sym was;
        law = w.law;
        final = w.fin_is ∙ final;
        op_is = w.op_is;
        key_is = w.key_is;
        form_is = w.form_is ∙ shortest;
        size = sym w.length_is;
        normal = is
            ∙ ap (λ (bs : List ℕ). bs ++ unmasked_by head.key 0 wire) head_is
            ∙ (λ i. head_bytes (final i) (sym w.op_is i) (normal_key role) Shortest (w.length_is i) ++ payload_is i)
            ∙ ap (λ (f : Frame). frame_bytes f) (sym (normal_of role limits fs w.frame w.law none));
      }

-- ---- the chunk after both writes: the payload from `start` to `end`, and then the head

module _ (key : Option (List ℕ)) (start end : ℕ) (chunk new : List ℕ) (ordered : start ≤ end) (within : end ≤ length chunk) (unmasked : new ≡ unmasked_by key 0 (mid_of start (end - start) chunk)) where
  abbrev unmasked_chunk : List ℕ
  unmasked_chunk = put_mid start (end - start) chunk new

  same_front : take start unmasked_chunk ≡ take start chunk
  same_front = take_put start (end - start) chunk new (omega arith)

  size_front : length (take start unmasked_chunk) ≡ start
  size_front = ap (λ (bs : List ℕ). length bs) same_front ∙ length-take-le start chunk (omega arith)

  -- the head keeps room for its key
  pub key_room : IfSome key (λ k. 4 ≤ length (take start chunk)) → IfSome key (λ k. 4 ≤ length (take start unmasked_chunk))
  key_room fits = subst (λ (bs : List ℕ). IfSome key (λ k. 4 ≤ length bs)) (sym same_front) fits

  -- the bytes after the frame are unchanged
  pub kept_before : (head : List ℕ) → length head ≡ length (take start unmasked_chunk) → drop end (head ++ drop start unmasked_chunk) ≡ drop end chunk
  kept_before head size =
      let sum : end ≡ length head + (end - start) = omega (arith, size, size_front) in
      let own : end ≡ length (take start unmasked_chunk) + (end - start) = omega (arith, size_front) in
      ap (λ (n : ℕ). drop n (head ++ drop start unmasked_chunk)) sum
      ∙ drop-append-add head (drop start unmasked_chunk) (end - start)
      ∙ sym (drop-append-add (take start unmasked_chunk) (drop start unmasked_chunk) (end - start))
      ∙ ap (λ (n : ℕ). drop n (take start unmasked_chunk ++ drop start unmasked_chunk)) (sym own)
      ∙ ap (drop end) (take-append-drop start unmasked_chunk)
      ∙ kept_after_frame key start end chunk new ordered within unmasked

  -- the frame's bytes are the head without its key, and the payload
  pub written_after : (head : List ℕ) → head ≡ with_key_cleared key (take start unmasked_chunk) → length head ≡ length (take start unmasked_chunk)
      → take end (head ++ drop start unmasked_chunk) ≡ with_key_cleared key (take start chunk) ++ unmasked_by key 0 (mid_of start (end - start) chunk)
  written_after head is size =
      let sum : end ≡ length head + (end - start) = omega (arith, size, size_front) in
      ap (λ (n : ℕ). take n (head ++ drop start unmasked_chunk)) sum
      ∙ take-append-add head (drop start unmasked_chunk) (end - start)
      ∙ ap (λ (bs : List ℕ). bs ++ mid_of start (end - start) unmasked_chunk) (is ∙ ap (with_key_cleared key) same_front)
      ∙ ap (λ (bs : List ℕ). with_key_cleared key (take start chunk) ++ bs) (payload_after key start end chunk new ordered within unmasked)
