-- A payload's redaction as a function, in parts, and of frames.
use Rattle.std.proofs.Common.{◌≡◌, ℕ, suc, ◌+◌, Bool, true, false, not, List, [], ◌∷◌, ◌++◌, length, take, drop, if◌then◌else◌, inl, refl, sym, ap, ◌∙◌, subst, append-nil, append_assoc, length-append, arith}
use Rattle.std.proofs.lemmas.List.{take-append-drop}
use Rattle.wsn_wire.specs.declared.endpoint.Role.{Role}
use Rattle.wsn_wire.specs.declared.opcode.Op.{Op}
use Rattle.wsn_wire.specs.declared.opcode.Op.TheVariants.{Continue, Text, Binary, Close, Ping, Pong}
use Rattle.wsn_wire.specs.Frame.{Frame, is_control}
use Rattle.wsn_text.specs.Utf8.{BeginsText}
use Rattle.wsn_text.proofs.Prefixes.{text_begins}
use Rattle.wsn_rules.specs.Limits.{Limits}
use Rattle.wsn_rules.specs.Group.{is_data, unfinished, first_op, payload_of}
use Rattle.wsn_rules.specs.Lawful.{LawAt, IsLawful}
use Rattle.wsn_rules.proofs.MessageText.{text_of_push, reason_is_text}
use Rattle.wsn_wire.proofs.FrameLemmas.{fronts_agree}
use Rattle.wsn_redact.specs.StandIns.{IsRedactedText, stood, due_after}
use Rattle.wsn_redact.specs.Redaction.{zeros_for, is_text, is_of_text, IsRedactedPart, IsRedactedData, IsRedactedPayload, with_payload, AreRedacted, redacted_payload, redacted_frames}
use Rattle.wsn_redact.proofs.StoodTexts.{stood-append, length-stood, stood_is, one_redacted, redacted_length}

-- ---- zeros

pub length-zeros : (bytes : List ℕ) → length (zeros_for bytes) ≡ length bytes
length-zeros [] = refl
length-zeros (b ∷ bytes) = ap suc (length-zeros bytes)

pub zeros-append : (xs ys : List ℕ) → zeros_for (xs ++ ys) ≡ zeros_for xs ++ zeros_for ys
zeros-append [] ys = refl
zeros-append (x ∷ xs) ys = ap (λ (bs : List ℕ). 0 ∷ bs) (zeros-append xs ys)

-- ---- a payload

-- Its text, if it has one, begins text.
abbrev pub HasText : List Frame → Op → List ℕ → Type 0
HasText group Close payload = BeginsText (drop 2 payload)
HasText group op payload = is_of_text group op ≡ true → BeginsText (payload_of group ++ payload)

of_part : (group : List Frame) (payload : List ℕ) (c : Bool) → (c ≡ true → BeginsText (payload_of group ++ payload))
    → IsRedactedData c (payload_of group) payload (if c then stood (due_after [] (payload_of group)) payload else zeros_for payload)
of_part group payload true has = record {
  before = stood [] (payload_of group);
  same_place = length-stood [] (payload_of group);
  is = inl (subst (λ (bs : List ℕ). IsRedactedText (payload_of group ++ payload) bs) (stood-append [] (payload_of group) payload) (stood_is (payload_of group ++ payload) (has refl)));
}
of_part group payload false has = refl

pub payload_is : (group : List Frame) (op : Op) (payload : List ℕ) → HasText group op payload → IsRedactedPayload group op payload (redacted_payload group op payload)
payload_is group Continue payload has = of_part group payload (is_of_text group Continue) has
payload_is group Text payload has = of_part group payload (is_of_text group Text) has
payload_is group Binary payload has = of_part group payload (is_of_text group Binary) has
payload_is group Close payload has = (stood [] (drop 2 payload), inl (stood_is (drop 2 payload) has), refl)
payload_is group Ping payload has = of_part group payload (is_of_text group Ping) has
payload_is group Pong payload has = of_part group payload (is_of_text group Pong) has

pub length_of : (c : Bool) (xs ys : List ℕ) (n : ℕ) → length xs ≡ n → length ys ≡ n → length (if c then xs else ys) ≡ n
length_of true xs ys n one other = one
length_of false xs ys n one other = other

pub length-redacted_payload : (group : List Frame) (op : Op) (payload : List ℕ) → length (redacted_payload group op payload) ≡ length payload
length-redacted_payload group Close payload =
    length-append (take 2 payload) (stood [] (drop 2 payload)) ∙ ap (λ (n : ℕ). length (take 2 payload) + n) (length-stood [] (drop 2 payload))
    ∙ sym (length-append (take 2 payload) (drop 2 payload)) ∙ ap (λ (bs : List ℕ). length bs) (take-append-drop 2 payload)
length-redacted_payload group Continue payload = length_of (is_of_text group Continue) (stood (due_after [] (payload_of group)) payload) (zeros_for payload) (length payload) (length-stood (due_after [] (payload_of group)) payload) (length-zeros payload)
length-redacted_payload group Text payload = length_of (is_of_text group Text) (stood (due_after [] (payload_of group)) payload) (zeros_for payload) (length payload) (length-stood (due_after [] (payload_of group)) payload) (length-zeros payload)
length-redacted_payload group Binary payload = length_of (is_of_text group Binary) (stood (due_after [] (payload_of group)) payload) (zeros_for payload) (length payload) (length-stood (due_after [] (payload_of group)) payload) (length-zeros payload)
length-redacted_payload group Ping payload = length_of (is_of_text group Ping) (stood (due_after [] (payload_of group)) payload) (zeros_for payload) (length payload) (length-stood (due_after [] (payload_of group)) payload) (length-zeros payload)
length-redacted_payload group Pong payload = length_of (is_of_text group Pong) (stood (due_after [] (payload_of group)) payload) (zeros_for payload) (length payload) (length-stood (due_after [] (payload_of group)) payload) (length-zeros payload)

-- ---- one redaction of a payload

one_part : (earlier part redacted other : List ℕ) → IsRedactedPart earlier part redacted → IsRedactedPart earlier part other → redacted ≡ other
one_part earlier part redacted other is also =
    let same = one_redacted (earlier ++ part) (is.before ++ redacted) (also.before ++ other) is.is also.is in
    (fronts_agree is.before also.before redacted other (is.same_place ∙ sym also.same_place) same).1

by_case : (earlier payload redacted other : List ℕ) (c : Bool) → IsRedactedData c earlier payload redacted → IsRedactedData c earlier payload other → redacted ≡ other
by_case earlier payload redacted other true is also = one_part earlier payload redacted other is also
by_case earlier payload redacted other false is also = is ∙ sym also

pub one_payload : (group : List Frame) (op : Op) (payload redacted other : List ℕ) → IsRedactedPayload group op payload redacted → IsRedactedPayload group op payload other → redacted ≡ other
one_payload group Close payload redacted other is also = is.2 ∙ ap (λ (bs : List ℕ). take 2 payload ++ bs) (one_redacted (drop 2 payload) is.0 also.0 is.1 also.1) ∙ sym also.2
one_payload group Continue payload redacted other is also = by_case (payload_of group) payload redacted other (is_of_text group Continue) is also
one_payload group Text payload redacted other is also = by_case (payload_of group) payload redacted other (is_of_text group Text) is also
one_payload group Binary payload redacted other is also = by_case (payload_of group) payload redacted other (is_of_text group Binary) is also
one_payload group Ping payload redacted other is also = by_case (payload_of group) payload redacted other (is_of_text group Ping) is also
one_payload group Pong payload redacted other is also = by_case (payload_of group) payload redacted other (is_of_text group Pong) is also

-- It is as long as the payload.
part_length : (earlier part redacted : List ℕ) → IsRedactedPart earlier part redacted → length redacted ≡ length part
part_length earlier part redacted is =
    let all = redacted_length (earlier ++ part) (is.before ++ redacted) is.is in
    let same = is.same_place in
    omega (arith, all, same, length-append is.before redacted, length-append earlier part)

case_length : (earlier payload redacted : List ℕ) (c : Bool) → IsRedactedData c earlier payload redacted → length redacted ≡ length payload
case_length earlier payload redacted true is = part_length earlier payload redacted is
case_length earlier payload redacted false is = ap (λ (bs : List ℕ). length bs) is ∙ length-zeros payload

pub payload_length : (group : List Frame) (op : Op) (payload redacted : List ℕ) → IsRedactedPayload group op payload redacted → length redacted ≡ length payload
payload_length group Close payload redacted is =
    let reason = redacted_length (drop 2 payload) is.0 is.1 in
    ap (λ (bs : List ℕ). length bs) is.2 ∙ length-append (take 2 payload) is.0 ∙ ap (λ (n : ℕ). length (take 2 payload) + n) reason ∙ sym (length-append (take 2 payload) (drop 2 payload)) ∙ ap (λ (bs : List ℕ). length bs) (take-append-drop 2 payload)
payload_length group Continue payload redacted is = case_length (payload_of group) payload redacted (is_of_text group Continue) is
payload_length group Text payload redacted is = case_length (payload_of group) payload redacted (is_of_text group Text) is
payload_length group Binary payload redacted is = case_length (payload_of group) payload redacted (is_of_text group Binary) is
payload_length group Ping payload redacted is = case_length (payload_of group) payload redacted (is_of_text group Ping) is
payload_length group Pong payload redacted is = case_length (payload_of group) payload redacted (is_of_text group Pong) is

-- ---- frames

pub redacted_push : (before fs : List Frame) (f : Frame) → redacted_frames before (fs ++ f ∷ []) ≡ redacted_frames before fs ++ with_payload f (redacted_payload (unfinished (before ++ fs)) f.op f.payload) ∷ []
redacted_push before [] f = ap (λ (gs : List Frame). with_payload f (redacted_payload (unfinished gs) f.op f.payload) ∷ []) (sym (append-nil before))
redacted_push before (g ∷ fs) f =
    let own = with_payload g (redacted_payload (unfinished before) g.op g.payload) in
    let same = append_assoc before (g ∷ []) fs in
    ap (λ (gs : List Frame). own ∷ gs) (redacted_push (before ++ g ∷ []) fs f)
    ∙ ap (λ (gs : List Frame). own ∷ (redacted_frames (before ++ g ∷ []) fs ++ with_payload f (redacted_payload (unfinished gs) f.op f.payload) ∷ [])) same

-- A data frame of a text message.
pub text_group : (limits : Limits) (role : Role) (before : List Frame) (f : Frame) → LawAt role limits before f → is_of_text (unfinished before) f.op ≡ true → (is_data f ≡ true) × (first_op (unfinished before ++ f ∷ []) ≡ Text)
text_group limits role before f law of_text = by f.op (unfinished before) refl refl of_text
  where
    is_text_op : (op : Op) → is_text op ≡ true → op ≡ Text
    is_text_op Text h = refl
    is_text_op _ h = absurd cc

    by : (op : Op) (group : List Frame) → f.op ≡ op → unfinished before ≡ group → is_of_text group op ≡ true → (is_data f ≡ true) × (first_op (unfinished before ++ f ∷ []) ≡ Text)
    by Continue [] op_is group_is h = absurd cc
    by Continue (g ∷ group) op_is group_is h =
        (ap (λ (op : Op). not (is_control op)) op_is, ap (λ (gs : List Frame). first_op (gs ++ f ∷ [])) group_is ∙ is_text_op g.op h)
    by Text [] op_is group_is h = (ap (λ (op : Op). not (is_control op)) op_is, ap (λ (gs : List Frame). first_op (gs ++ f ∷ [])) group_is ∙ op_is)
    by Text (g ∷ group) op_is group_is h =
        let data_frame : is_data f ≡ true = ap (λ (op : Op). not (is_control op)) op_is in
        let continues : f.op ≡ Continue = (law.group data_frame).continues.1 (λ none. let both : g ∷ group ≡ [] = sym group_is ∙ none in cc) in
        let both : Text ≡ Continue = sym op_is ∙ continues in
        absurd cc
    by Binary group op_is group_is h = absurd cc
    by _ group op_is group_is h = absurd cc

pub lawful_text : (role : Role) (limits : Limits) (before : List Frame) (f : Frame) → LawAt role limits before f → HasText (unfinished before) f.op f.payload
lawful_text role limits before f law = by f.op refl
  where
    text : is_of_text (unfinished before) f.op ≡ true → BeginsText (payload_of (unfinished before) ++ f.payload)
    text of_text =
        let t = text_group limits role before f law of_text in
        subst BeginsText (text_of_push (unfinished before) f) ((law.group t.0).begins t.1)

    own : (op : Op) → f.op ≡ op → is_of_text (unfinished before) op ≡ true → BeginsText (payload_of (unfinished before) ++ f.payload)
    own op is of_text = text (ap (λ (o : Op). is_of_text (unfinished before) o) is ∙ of_text)

    by : (op : Op) → f.op ≡ op → HasText (unfinished before) op f.payload
    by Continue is = own Continue is
    by Text is = own Text is
    by Binary is = own Binary is
    by Close is = text_begins (drop 2 f.payload) (reason_is_text f.payload (law.frame.close is))
    by Ping is = own Ping is
    by Pong is = own Pong is

pub are_redacted : (role : Role) (limits : Limits) (before fs : List Frame) → IsLawful role limits (before ++ fs) → AreRedacted before fs (redacted_frames before fs)
are_redacted role limits before [] lawful = tt
are_redacted role limits before (f ∷ fs) lawful =
    (refl, payload_is (unfinished before) f.op f.payload (lawful_text role limits before f (lawful.each before fs f refl)), are_redacted role limits (before ++ f ∷ []) fs (subst (IsLawful role limits) (sym (append_assoc before (f ∷ []) fs)) lawful))

pub one_frames : (before fs gs others : List Frame) → AreRedacted before fs gs → AreRedacted before fs others → gs ≡ others
one_frames before [] [] [] are also = refl
one_frames before [] [] (h ∷ others) are also = absurd also
one_frames before (f ∷ fs) (g ∷ gs) [] are also = absurd also
one_frames before (f ∷ fs) (g ∷ gs) (h ∷ others) are also =
    let payload : g.payload ≡ h.payload = one_payload (unfinished before) f.op f.payload g.payload h.payload are.1 also.1 in
    let first : g ≡ h = are.0 ∙ ap (λ (bs : List ℕ). with_payload f bs) payload ∙ sym also.0 in
    let rest = one_frames (before ++ f ∷ []) fs gs others are.2 also.2 in
    λ i. first i ∷ rest i
one_frames before _ _ others are also = absurd are
