-- The evidence in a payload, chunk by chunk: in the text of a message and in the body of a Close.
use Rattle.std.proofs.Common.{◌≡◌, ◌≢◌, ℕ, suc, ◌+◌, ◌-◌, ◌<◌, ◌≤◌, ◌⊎◌, ◌↔◌, Bool, true, Option, Result, Ok, Err, List, [], ◌∷◌, ◌++◌, length, get_or, take, drop, refl, sym, ap, ◌∙◌, subst, inl, inr, append_assoc, arith}
use Rattle.std.proofs.Math.Seq.{take-append-add}
use Rattle.std.proofs.lemmas.List.{take-append-drop, take-append-le, length-append, length-take-le, take_all}
use Rattle.std.proofs.lemmas.Nat.{be_bytes_2, from_be_bytes-to_be_bytes_2}
use Rattle.std.specs.Int.{from_be_bytes, to_be_bytes, w16}
use Rattle.wsn_wire.specs.declared.refusal.Reason.{Reason}
use Rattle.wsn_wire.specs.declared.refusal.Reason.TheVariants.{CloseCode, CloseReason, TextBad, TextCut}
use Rattle.wsn_wire.specs.Refusal.{number_of}
use Rattle.wsn_wire.specs.Frame.{Frame}
use Rattle.wsn_wire.specs.ReceivedHead.{fin_bit, opcode_field}
use Rattle.wsn_text.specs.Validated.{HasValidated}
use Rattle.wsn_text.specs.Utf8.{Range, IsText, BeginsText, IsFirstBad}
use Rattle.wsn_text.specs.CloseBody.{IsAcceptedCode}
use Rattle.wsn_text.proofs.Numbers.{less_or_not}
use Rattle.wsn_text.proofs.Rests.{text-nil}
use Rattle.wsn_text.proofs.Prefixes.{bad_ends, first_bad_front}
use Rattle.wsn_rules.specs.Evidence.{IsOfText, EndsBad, EndsInside, EvidentByPayload}
use Rattle.wsn_rules.specs.Group.{payload_of}
use Rattle.wsn_frame.specs.declared.payload_check.BadByte.{BadByte}
use Rattle.wsn_frame.specs.declared.payload_check.PayloadCheck.{PayloadCheck}
use Rattle.wsn_frame.specs.declared.payload_check.PayloadCheck.TheVariants.{Text, Close}
use Rattle.wsn_frame.specs.declared.payload_check.CloseBody.{CloseBody}
use Rattle.wsn_frame.specs.declared.payload_check.CloseBody.TheVariants.{Empty, HalfCode, Code}
use Rattle.wsn_frame.specs.PayloadChecks.{HasChecked, IsQuiet, IsChecked, IsBody, IsBodyChecked, IsTextConsumed}
use Rattle.wsn_rules.proofs.MessageText.{begins_not_bad}

-- ---- prefixes of a text

-- Bytes that end with a bad byte don't begin text.
pub bad_not_begins : (text : List ℕ) → EndsBad text → BeginsText text → ⊥
bad_not_begins text bad begins = bad_ends text bad.0 bad.2 begins

-- After text, the bytes of the chunk before its first bad byte begin text.
pub begins_before_bad : (taken chunk : List ℕ) (at k : ℕ) → IsFirstBad (taken ++ chunk) (length taken + at) → 0 < k → k ≤ at → BeginsText (taken ++ take k chunk)
begins_before_bad taken chunk at k first some le =
    let below : length taken + (k - 1) < length taken + at = omega arith in
    let count : length taken + (k - 1) + 1 ≡ length taken + k = omega arith in
    let front : take (length taken + (k - 1) + 1) (taken ++ chunk) ≡ taken ++ take k chunk = ap (λ (n : ℕ). take n (taken ++ chunk)) count ∙ take-append-add taken chunk k in
    subst BeginsText front (first.least (length taken + (k - 1)) below)

-- The bytes up to the first bad byte end with it.
pub ends_at_bad : (taken chunk : List ℕ) (at : ℕ) → at < length chunk → IsFirstBad (taken ++ chunk) (length taken + at) → EndsBad (taken ++ take (at + 1) chunk)
ends_at_bad taken chunk at within first =
    let took : length (take (at + 1) chunk) ≡ at + 1 = length-take-le (at + 1) chunk (omega arith) in
    let count : length taken + at + 1 ≡ length (taken ++ take (at + 1) chunk) = omega (arith, length-append taken (take (at + 1) chunk)) in
    let parted : taken ++ chunk ≡ (taken ++ take (at + 1) chunk) ++ drop (at + 1) chunk =
    ap (λ (bs : List ℕ). taken ++ bs) (sym (take-append-drop (at + 1) chunk)) ∙ sym (append_assoc taken (take (at + 1) chunk) (drop (at + 1) chunk)) in
    (length taken + at, count, first_bad_front (taken ++ take (at + 1) chunk) (drop (at + 1) chunk) (length taken + at) (omega arith) (subst (λ (bs : List ℕ). IsFirstBad bs (length taken + at)) parted first))

-- ---- a chunk of a text with no other evidence than for invalid UTF-8

-- `Shows reason k`: the first k bytes of the chunk are evidence for the reason. They are for `bad` if they end with a
-- bad byte, for `cut` if the text ends inside a character, and for no other reason.
pub record OnlyTextShows (Shows : Reason → ℕ → Type 0) (taken chunk : List ℕ) (ends : Bool) (bad cut : Reason) : Type 0 where
  pub only : (reason : Reason) (k : ℕ) → 0 < k → k ≤ length chunk → Shows reason k → ((reason ≡ bad) × EndsBad (taken ++ take k chunk)) ⊎ ((reason ≡ cut) × (k ≡ length chunk) × (ends ≡ true) × EndsInside (taken ++ take k chunk))
  pub by_bad : (k : ℕ) → EndsBad (taken ++ take k chunk) → Shows bad k
  pub by_cut : (k : ℕ) → k ≡ length chunk → ends ≡ true → EndsInside (taken ++ take k chunk) → Shows cut k

-- The byte at this offset is the first evidence: for this reason, and for none with a lower number.
abbrev pub IsFirstFault : (Reason → ℕ → Type 0) → List ℕ → ℕ → Reason → Type 0
IsFirstFault Shows chunk at reason =
    (at < length chunk) × ((k : ℕ) (r : Reason) → 0 < k → k ≤ at → Shows r k → ⊥) × Shows reason (at + 1) × ((r : Reason) → Shows r (at + 1) → number_of reason ≤ number_of r)

pub good_text_shows_nothing : (Shows : Reason → ℕ → Type 0) (taken chunk : List ℕ) (ends : Bool) (bad cut : Reason) → OnlyTextShows Shows taken chunk ends bad cut → BeginsText (taken ++ chunk) → (ends ≡ true → IsText (taken ++ chunk)) → (k : ℕ) (r : Reason) → 0 < k → k ≤ length chunk → Shows r k → ⊥
good_text_shows_nothing Shows taken chunk ends bad cut rows begins whole k r some le shows =
    elim (rows.only r k some le shows) [
      | inl b ↦ begins_not_bad taken chunk k begins b.1
      | inr c ↦
          let all : take k chunk ≡ chunk = take_all k chunk (omega (arith, c.1)) in
          c.3.1 (subst (λ (bs : List ℕ). IsText (taken ++ bs)) (sym all) (whole c.2))
    ]

pub bad_byte_shows_first : (Shows : Reason → ℕ → Type 0) (taken chunk : List ℕ) (ends : Bool) (bad cut : Reason) (at : ℕ) → OnlyTextShows Shows taken chunk ends bad cut → at < length chunk → IsFirstBad (taken ++ chunk) (length taken + at) → IsFirstFault Shows chunk at bad
bad_byte_shows_first Shows taken chunk ends bad cut at rows within first =
    let is_evident : EndsBad (taken ++ take (at + 1) chunk) = ends_at_bad taken chunk at within first in
    (within, quiet, rows.by_bad (at + 1) is_evident, least is_evident)
  where
    quiet : (k : ℕ) (r : Reason) → 0 < k → k ≤ at → Shows r k → ⊥
    quiet k r some le shows =
        elim (rows.only r k some (omega arith) shows) [
          | inl b ↦ bad_not_begins (taken ++ take k chunk) b.1 (begins_before_bad taken chunk at k first some le)
          | inr c ↦ absurd (omega (arith, c.1))
        ]

    least : EndsBad (taken ++ take (at + 1) chunk) → (r : Reason) → Shows r (at + 1) → number_of bad ≤ number_of r
    least is_evident r shows =
        elim (rows.only r (at + 1) (omega arith) (omega arith) shows) [
          | inl b ↦ omega (arith, ap number_of b.0)
          | inr c ↦ absurd (bad_not_begins (taken ++ take (at + 1) chunk) is_evident c.3.0)
        ]

pub cut_text_shows_first : (Shows : Reason → ℕ → Type 0) (taken chunk : List ℕ) (ends : Bool) (bad cut : Reason) (at : ℕ) → OnlyTextShows Shows taken chunk ends bad cut → at + 1 ≡ length chunk → ends ≡ true → EndsInside (taken ++ chunk) → IsFirstFault Shows chunk at cut
cut_text_shows_first Shows taken chunk ends bad cut at rows count end inside =
    let all : take (at + 1) chunk ≡ chunk = take_all (at + 1) chunk (omega arith) in
    (omega arith, quiet, rows.by_cut (at + 1) count end (subst (λ (bs : List ℕ). EndsInside (taken ++ bs)) (sym all) inside), least)
  where
    quiet : (k : ℕ) (r : Reason) → 0 < k → k ≤ at → Shows r k → ⊥
    quiet k r some le shows =
        elim (rows.only r k some (omega arith) shows) [
          | inl b ↦ begins_not_bad taken chunk k inside.0 b.1
          | inr c ↦ absurd (omega (arith, c.1))
        ]

    least : (r : Reason) → Shows r (at + 1) → number_of cut ≤ number_of r
    least r shows =
        elim (rows.only r (at + 1) (omega arith) (omega arith) shows) [
          | inl b ↦ absurd (begins_not_bad taken chunk (at + 1) inside.0 b.1)
          | inr c ↦ omega (arith, ap number_of c.0)
        ]

pub text_fault_shows_first : (Shows : Reason → ℕ → Type 0) (taken chunk : List ℕ) (ends : Bool) (bad cut : Reason) (fault : BadByte) → OnlyTextShows Shows taken chunk ends bad cut → IsTextConsumed taken chunk ends bad cut (Err fault) → IsFirstFault Shows chunk fault.at fault.reason
text_fault_shows_first Shows taken chunk ends bad cut fault rows found =
    elim found [
      | inl b ↦ subst (IsFirstFault Shows chunk fault.at) (sym b.0) (bad_byte_shows_first Shows taken chunk ends bad cut fault.at rows b.1 b.2)
      | inr c ↦ subst (IsFirstFault Shows chunk fault.at) (sym c.0) (cut_text_shows_first Shows taken chunk ends bad cut fault.at rows c.1 c.2 c.3)
    ]

-- ---- the text of a message

pub text_not_close : (group : List Frame) (opcode : ℕ) → IsOfText group opcode → opcode ≡ 8 → ⊥
text_not_close [] opcode text close = omega (arith, text, close)
text_not_close (f ∷ group) opcode text close = omega (arith, text.0, close)

-- The first k bytes of a chunk end the payload only if they are the whole chunk.
ends_with_chunk : (before chunk : List ℕ) (total k : ℕ) → k ≤ length chunk → length before + length chunk ≤ total → length (before ++ take k chunk) ≡ total → (k ≡ length chunk) × (length before + length chunk ≡ total)
ends_with_chunk before chunk total k le within count =
    let took : length (take k chunk) ≡ k = length-take-le k chunk le in
    let all : length (before ++ take k chunk) ≡ length before + length (take k chunk) = length-append before (take k chunk) in
    (omega arith, omega arith)

count_at_end : (before chunk : List ℕ) (total k : ℕ) → k ≡ length chunk → length before + length chunk ≡ total → length (before ++ take k chunk) ≡ total
count_at_end before chunk total k whole count =
    let took : length (take k chunk) ≡ k = length-take-le k chunk (omega arith) in
    let all : length (before ++ take k chunk) ≡ length before + length (take k chunk) = length-append before (take k chunk) in
    omega arith

pub text_rows : (group : List Frame) (first total : ℕ) (before chunk : List ℕ) (ends : Bool) → IsOfText group (opcode_field first) → length before + length chunk ≤ total → ends ≡ true ↔ ((fin_bit first ≡ true) × (length before + length chunk ≡ total)) → OnlyTextShows (λ (reason : Reason) (k : ℕ). EvidentByPayload group reason first total (before ++ take k chunk)) (payload_of group ++ before) chunk ends TextBad TextCut
text_rows group first total before chunk ends of_text within at_end =
    record { only = only; by_bad = by_bad; by_cut = by_cut }
  where
    parted : (k : ℕ) → payload_of group ++ (before ++ take k chunk) ≡ (payload_of group ++ before) ++ take k chunk
    parted k = sym (append_assoc (payload_of group) before (take k chunk))

    only : (reason : Reason) (k : ℕ) → 0 < k → k ≤ length chunk → EvidentByPayload group reason first total (before ++ take k chunk) → ((reason ≡ TextBad) × EndsBad ((payload_of group ++ before) ++ take k chunk)) ⊎ ((reason ≡ TextCut) × (k ≡ length chunk) × (ends ≡ true) × EndsInside ((payload_of group ++ before) ++ take k chunk))
    only TextBad k some le is_evident = inl (refl, subst EndsBad (parted k) is_evident.1)
    only TextCut k some le is_evident =
        let whole : (k ≡ length chunk) × (length before + length chunk ≡ total) = ends_with_chunk before chunk total k le within is_evident.2 in
        inr (refl, whole.0, at_end.1 (is_evident.1, whole.1), subst EndsInside (parted k) is_evident.3)
    only CloseCode k some le is_evident = absurd (text_not_close group (opcode_field first) of_text is_evident.0)
    only CloseReason k some le is_evident = absurd (text_not_close group (opcode_field first) of_text is_evident.0)
    only _ k some le is_evident = absurd is_evident

    by_bad : (k : ℕ) → EndsBad ((payload_of group ++ before) ++ take k chunk) → EvidentByPayload group TextBad first total (before ++ take k chunk)
    by_bad k bad = (of_text, subst EndsBad (sym (parted k)) bad)

    by_cut : (k : ℕ) → k ≡ length chunk → ends ≡ true → EndsInside ((payload_of group ++ before) ++ take k chunk) → EvidentByPayload group TextCut first total (before ++ take k chunk)
    by_cut k whole end inside = (of_text, (at_end.0 end).0, count_at_end before chunk total k whole (at_end.0 end).1, subst EndsInside (sym (parted k)) inside)

-- ---- the body of a Close

-- The reason of a body whose code came before the chunk.
reason_after : (code : ℕ) (before text : List ℕ) (front : List ℕ) → before ≡ to_be_bytes w16 code ++ text → drop 2 (before ++ front) ≡ text ++ front
reason_after code before text front coded = ap (λ (bs : List ℕ). drop 2 (bs ++ front)) coded

pub reason_rows : (group : List Frame) (first total code : ℕ) (before text chunk : List ℕ) (last : Bool) → opcode_field first ≡ 8 → before ≡ to_be_bytes w16 code ++ text → length before + length chunk ≤ total → last ≡ true ↔ (length before + length chunk ≡ total) → OnlyTextShows (λ (reason : Reason) (k : ℕ). EvidentByPayload group reason first total (before ++ take k chunk)) text chunk last CloseReason CloseReason
reason_rows group first total code before text chunk last close coded within at_end =
    record { only = only; by_bad = by_bad; by_cut = by_cut }
  where
    parted : (k : ℕ) → drop 2 (before ++ take k chunk) ≡ text ++ take k chunk
    parted k = reason_after code before text (take k chunk) coded

    only : (reason : Reason) (k : ℕ) → 0 < k → k ≤ length chunk → EvidentByPayload group reason first total (before ++ take k chunk) → ((reason ≡ CloseReason) × EndsBad (text ++ take k chunk)) ⊎ ((reason ≡ CloseReason) × (k ≡ length chunk) × (last ≡ true) × EndsInside (text ++ take k chunk))
    only CloseReason k some le is_evident =
        elim is_evident.1 [
          | inl bad ↦ inl (refl, subst EndsBad (parted k) bad)
          | inr cut ↦
              let whole : (k ≡ length chunk) × (length before + length chunk ≡ total) = ends_with_chunk before chunk total k le within cut.0 in
              inr (refl, whole.0, at_end.1 whole.1, subst EndsInside (parted k) cut.1)
        ]
    only CloseCode k some le is_evident =
        let took : length (take k chunk) ≡ k = length-take-le k chunk le in
        let all : length (before ++ take k chunk) ≡ length before + length (take k chunk) = length-append before (take k chunk) in
        let two : length before ≡ suc (suc (length text)) = ap length coded in
        let count : length (before ++ take k chunk) ≡ 2 = is_evident.1 in
        absurd (omega arith)
    only TextBad k some le is_evident = absurd (text_not_close group (opcode_field first) is_evident.0 close)
    only TextCut k some le is_evident = absurd (text_not_close group (opcode_field first) is_evident.0 close)
    only _ k some le is_evident = absurd is_evident

    by_bad : (k : ℕ) → EndsBad (text ++ take k chunk) → EvidentByPayload group CloseReason first total (before ++ take k chunk)
    by_bad k bad = (close, inl (subst EndsBad (sym (parted k)) bad))

    by_cut : (k : ℕ) → k ≡ length chunk → last ≡ true → EndsInside (text ++ take k chunk) → EvidentByPayload group CloseReason first total (before ++ take k chunk)
    by_cut k whole end inside = (close, inr (count_at_end before chunk total k whole (at_end.0 end), subst EndsInside (sym (parted k)) inside))

-- ---- the code of a Close's body, and the reason after it

pub short_body_ends_no_reason : (payload : List ℕ) → length payload ≤ 2 → (EndsBad (drop 2 payload) → ⊥) × (EndsInside (drop 2 payload) → ⊥)
short_body_ends_no_reason [] short = (λ bad. absurd (omega (arith, bad.1)), λ inside. inside.1 text-nil)
short_body_ends_no_reason (b ∷ []) short = (λ bad. absurd (omega (arith, bad.1)), λ inside. inside.1 text-nil)
short_body_ends_no_reason (b ∷ c ∷ []) short = (λ bad. absurd (omega (arith, bad.1)), λ inside. inside.1 text-nil)
short_body_ends_no_reason (b ∷ c ∷ d ∷ payload) short = absurd (omega arith)

-- The first bytes of a Close's body, up to an accepted code.
pub accepted_code_is_quiet : (group : List Frame) (first total : ℕ) (before begun : List ℕ) (code : ℕ) → opcode_field first ≡ 8 → before ++ begun ≡ to_be_bytes w16 code → code < 65536 → IsAcceptedCode code → IsQuiet group first total before begun (length begun)
accepted_code_is_quiet group first total before begun code close coded fits accepted = quiet
  where
    short : (k : ℕ) → k ≤ length begun → length (before ++ take k begun) ≤ 2
    short k le =
        let took : length (take k begun) ≡ k = length-take-le k begun le in
        let front : length (before ++ take k begun) ≡ length before + length (take k begun) = length-append before (take k begun) in
        let all : length (before ++ begun) ≡ length before + length begun = length-append before begun in
        let two : length (before ++ begun) ≡ 2 = ap length coded in
        omega arith

    quiet : (k : ℕ) (reason : Reason) → 0 < k → k ≤ length begun → EvidentByPayload group reason first total (before ++ take k begun) → ⊥
    quiet k CloseCode some le is_evident =
        let took : length (take k begun) ≡ k = length-take-le k begun le in
        let front : length (before ++ take k begun) ≡ length before + length (take k begun) = length-append before (take k begun) in
        let all : length (before ++ begun) ≡ length before + length begun = length-append before begun in
        let two : length (before ++ begun) ≡ 2 = ap length coded in
        let count : length (before ++ take k begun) ≡ 2 = is_evident.1 in
        let whole : take k begun ≡ begun = take_all k begun (omega arith) in
        let value : from_be_bytes w16 (before ++ take k begun) ≡ code = ap (λ (bs : List ℕ). from_be_bytes w16 (before ++ bs)) whole ∙ ap (λ (bs : List ℕ). from_be_bytes w16 bs) coded ∙ from_be_bytes-to_be_bytes_2 code fits in
        is_evident.2 (subst IsAcceptedCode (sym value) accepted)
    quiet k CloseReason some le is_evident =
        let none : (EndsBad (drop 2 (before ++ take k begun)) → ⊥) × (EndsInside (drop 2 (before ++ take k begun)) → ⊥) = short_body_ends_no_reason (before ++ take k begun) (short k le) in
        elim is_evident.1 [ inl bad ↦ none.0 bad | inr cut ↦ none.1 cut.1 ]
    quiet k TextBad some le is_evident = text_not_close group (opcode_field first) is_evident.0 close
    quiet k TextCut some le is_evident = text_not_close group (opcode_field first) is_evident.0 close
    quiet k _ some le is_evident = is_evident

front_after : (before begun rest : List ℕ) (k n : ℕ) → k ≡ length begun + n → before ++ take k (begun ++ rest) ≡ (before ++ begun) ++ take n rest
front_after before begun rest k n count =
    ap (λ (m : ℕ). before ++ take m (begun ++ rest)) count ∙ ap (λ (bs : List ℕ). before ++ bs) (take-append-add begun rest n) ∙ sym (append_assoc before begun (take n rest))

pub quiet-append : (group : List Frame) (first total : ℕ) (before begun rest : List ℕ) (n : ℕ) → IsQuiet group first total before begun (length begun) → IsQuiet group first total (before ++ begun) rest n → IsQuiet group first total before (begun ++ rest) (length begun + n)
quiet-append group first total before begun rest n quiet quiet_after k reason some le is_evident =
    elim (less_or_not (length begun) k) [
      | inl following ↦
          let moved : before ++ take k (begun ++ rest) ≡ (before ++ begun) ++ take (k - length begun) rest = front_after before begun rest k (k - length begun) (omega arith) in
          quiet_after (k - length begun) reason (omega arith) (omega arith) (subst (EvidentByPayload group reason first total) moved is_evident)
      | inr within ↦
          let same : take k (begun ++ rest) ≡ take k begun = take-append-le k begun rest within in
          quiet k reason some within (subst (λ (bs : List ℕ). EvidentByPayload group reason first total (before ++ bs)) same is_evident)
    ]

-- A fault in the bytes after the code.
pub fault_after : (group : List Frame) (first total : ℕ) (before begun rest : List ℕ) (at : ℕ) (fault is_evident : BadByte) → IsQuiet group first total before begun (length begun) → length begun ≡ at + 1 → is_evident.at ≡ at + 1 + fault.at → is_evident.reason ≡ fault.reason → IsFirstFault (λ (reason : Reason) (k : ℕ). EvidentByPayload group reason first total ((before ++ begun) ++ take k rest)) rest fault.at fault.reason → IsChecked group first total before (begun ++ rest) (Err is_evident)
fault_after group first total before begun rest at fault is_evident quiet count offset same found =
    let all : length (begun ++ rest) ≡ length begun + length rest = length-append begun rest in
    let within : fault.at < length rest = found.0 in
    let place_after : is_evident.at ≡ length begun + fault.at = omega arith in
    let moved : before ++ take (is_evident.at + 1) (begun ++ rest) ≡ (before ++ begun) ++ take (fault.at + 1) rest = front_after before begun rest (is_evident.at + 1) (fault.at + 1) (omega arith) in
    let quiet_both : IsQuiet group first total before (begun ++ rest) (length begun + fault.at) = quiet-append group first total before begun rest fault.at quiet found.1 in (
      omega arith,
      subst (IsQuiet group first total before (begun ++ rest)) (sym place_after) quiet_both,
      subst (λ (bs : List ℕ). EvidentByPayload group is_evident.reason first total bs) (sym moved) (subst (λ (r : Reason). EvidentByPayload group r first total ((before ++ begun) ++ take (fault.at + 1) rest)) (sym same) found.2),
      λ r other. subst (λ (reason : Reason). number_of reason ≤ number_of r) (sym same) (found.3 r (subst (λ (bs : List ℕ). EvidentByPayload group r first total bs) moved other)),
    )

pub coded_by_two_bytes : (code : List ℕ) (n : ℕ) → length code ≡ 2 → ((i : ℕ) → get_or code i 0 < 256) → n ≡ from_be_bytes w16 code → (code ≡ to_be_bytes w16 n) × (n < 65536)
coded_by_two_bytes code n two bytes value =
    let high : get_or code 0 0 < 256 = bytes 0 in
    let low : get_or code 1 0 < 256 = bytes 1 in
    (sym (be_bytes_2 code n two bytes value), omega arith)

-- ---- the result of each kind of check

-- The text ends with the chunk if the frame is final and the chunk is its last.
abbrev pub EndsWith : Bool → Bool → Bool → Type 0
EndsWith ends fin last = ends ≡ true ↔ ((fin ≡ true) × (last ≡ true))

text_at_end : (first total count : ℕ) (ends fin last : Bool) → EndsWith ends fin last → fin_bit first ≡ fin → (last ≡ true) ↔ (count ≡ total) → ends ≡ true ↔ ((fin_bit first ≡ true) × (count ≡ total))
text_at_end first total count ends fin last both final at_end =
    ((λ end. let parts : (fin ≡ true) × (last ≡ true) = both.0 end in (final ∙ parts.0, at_end.0 parts.1)), λ parts. both.1 (sym final ∙ parts.0, at_end.1 parts.1))

pub text_checked : (utf8 new : Option (List Range)) (chunk : List ℕ) (ends fin last : Bool) → EndsWith ends fin last → ((taken : List ℕ) → HasValidated utf8 taken → BeginsText taken → IsTextConsumed taken chunk ends TextBad TextCut (Ok new)) → (group : List Frame) (first total : ℕ) (before : List ℕ) → HasChecked group first (Text utf8) before → fin_bit first ≡ fin → last ≡ true ↔ (length before + length chunk ≡ total) → length before + length chunk ≤ total → IsChecked group first total before chunk (Ok (Text new))
text_checked utf8 new chunk ends fin last both consumes group first total before checked final at_end within =
    let found : IsTextConsumed (payload_of group ++ before) chunk ends TextBad TextCut (Ok new) = consumes (payload_of group ++ before) checked.1 checked.2 in
    let joined : (payload_of group ++ before) ++ chunk ≡ payload_of group ++ (before ++ chunk) = append_assoc (payload_of group) before chunk in
    let quiet : IsQuiet group first total before chunk (length chunk) =
    good_text_shows_nothing (λ (reason : Reason) (k : ℕ). EvidentByPayload group reason first total (before ++ take k chunk)) (payload_of group ++ before) chunk ends TextBad TextCut (text_rows group first total before chunk ends checked.0 within (text_at_end first total (length before + length chunk) ends fin last both final at_end)) found.1 found.2 in
    ((checked.0, subst (HasValidated new) joined found.0, subst BeginsText joined found.1), quiet)

pub text_refused : (utf8 : Option (List Range)) (fault : BadByte) (chunk : List ℕ) (ends fin last : Bool) → EndsWith ends fin last → ((taken : List ℕ) → HasValidated utf8 taken → BeginsText taken → IsTextConsumed taken chunk ends TextBad TextCut (Err fault)) → (group : List Frame) (first total : ℕ) (before : List ℕ) → HasChecked group first (Text utf8) before → fin_bit first ≡ fin → last ≡ true ↔ (length before + length chunk ≡ total) → length before + length chunk ≤ total → IsChecked group first total before chunk (Err fault)
text_refused utf8 fault chunk ends fin last both consumes group first total before checked final at_end within =
    text_fault_shows_first (λ (reason : Reason) (k : ℕ). EvidentByPayload group reason first total (before ++ take k chunk)) (payload_of group ++ before) chunk ends TextBad TextCut fault (text_rows group first total before chunk ends checked.0 within (text_at_end first total (length before + length chunk) ends fin last both final at_end)) (consumes (payload_of group ++ before) checked.1 checked.2)

pub reason_checked : (utf8 new : Option (List Range)) (code : ℕ) (chunk : List ℕ) (last : Bool) → ((taken : List ℕ) → HasValidated utf8 taken → BeginsText taken → IsTextConsumed taken chunk last CloseReason CloseReason (Ok new)) → (before : List ℕ) → IsBody (Code code utf8) before → IsBodyChecked before chunk last (Ok (Close (Code code new)))
reason_checked utf8 new code chunk last consumes before body group first total close at_end within =
    let text = body.0 in
    let found : IsTextConsumed body.0 chunk last CloseReason CloseReason (Ok new) = consumes body.0 body.4 body.5 in
    let joined : before ++ chunk ≡ to_be_bytes w16 code ++ (body.0 ++ chunk) = ap (λ (bs : List ℕ). bs ++ chunk) body.1 ∙ append_assoc (to_be_bytes w16 code) body.0 chunk in
    let quiet : IsQuiet group first total before chunk (length chunk) =
    good_text_shows_nothing (λ (reason : Reason) (k : ℕ). EvidentByPayload group reason first total (before ++ take k chunk)) body.0 chunk last CloseReason CloseReason (reason_rows group first total code before body.0 chunk last close body.1 within at_end) found.1 found.2 in
    ((close, (body.0 ++ chunk, joined, body.2, body.3, found.0, found.1)), quiet)

pub reason_refused : (utf8 : Option (List Range)) (fault : BadByte) (code : ℕ) (chunk : List ℕ) (last : Bool) → ((taken : List ℕ) → HasValidated utf8 taken → BeginsText taken → IsTextConsumed taken chunk last CloseReason CloseReason (Err fault)) → (before : List ℕ) → IsBody (Code code utf8) before → IsBodyChecked before chunk last (Err fault)
reason_refused utf8 fault code chunk last consumes before body group first total close at_end within =
    text_fault_shows_first (λ (reason : Reason) (k : ℕ). EvidentByPayload group reason first total (before ++ take k chunk)) body.0 chunk last CloseReason CloseReason fault (reason_rows group first total code before body.0 chunk last close body.1 within at_end) (consumes body.0 body.4 body.5)

-- The length of a body, split after its code.
split_count : (before begun rest : List ℕ) → length before + length (begun ++ rest) ≡ length (before ++ begun) + length rest
split_count before begun rest =
    let front : length (before ++ begun) ≡ length before + length begun = length-append before begun in
    let all : length (begun ++ rest) ≡ length begun + length rest = length-append begun rest in
    omega arith

pub code_checked : (code rest : List ℕ) (n : ℕ) (last : Bool) (new : Option (List Range)) → (code ≡ to_be_bytes w16 n) × (n < 65536) → IsAcceptedCode n → IsTextConsumed [] rest last CloseReason CloseReason (Ok new) → (before begun : List ℕ) → before ++ begun ≡ code → IsBodyChecked before (begun ++ rest) last (Ok (Close (Code n new)))
code_checked code rest n last new coded accepted found before begun whole group first total close at_end within =
    let encoded : before ++ begun ≡ to_be_bytes w16 n = whole ∙ coded.0 in
    let count : length before + length (begun ++ rest) ≡ length (before ++ begun) + length rest = split_count before begun rest in
    let joined : before ++ (begun ++ rest) ≡ to_be_bytes w16 n ++ rest = sym (append_assoc before begun rest) ∙ ap (λ (bs : List ℕ). bs ++ rest) encoded in
    let of_code : IsQuiet group first total before begun (length begun) = accepted_code_is_quiet group first total before begun n close encoded coded.1 accepted in
    let of_rest : IsQuiet group first total (before ++ begun) rest (length rest) =
    good_text_shows_nothing (λ (reason : Reason) (k : ℕ). EvidentByPayload group reason first total ((before ++ begun) ++ take k rest)) [] rest last CloseReason CloseReason (reason_rows group first total n (before ++ begun) [] rest last close encoded (omega arith) ((λ end. sym count ∙ at_end.0 end), λ same. at_end.1 (count ∙ same))) found.1 found.2 in
    let both : IsQuiet group first total before (begun ++ rest) (length begun + length rest) = quiet-append group first total before begun rest (length rest) of_code of_rest in
    ((close, (rest, joined, coded.1, accepted, found.0, found.1)), subst (IsQuiet group first total before (begun ++ rest)) (sym (length-append begun rest)) both)

pub code_refused : (code rest : List ℕ) (n at : ℕ) (last : Bool) (fault : BadByte) → (code ≡ to_be_bytes w16 n) × (n < 65536) → IsAcceptedCode n → IsTextConsumed [] rest last CloseReason CloseReason (Err fault) → (before begun : List ℕ) → before ++ begun ≡ code → length begun ≡ at + 1 → IsBodyChecked before (begun ++ rest) last (Err (record { at = at + 1 + fault.at; reason = fault.reason }))
code_refused code rest n at last fault coded accepted found before begun whole begun_count group first total close at_end within =
    let encoded : before ++ begun ≡ to_be_bytes w16 n = whole ∙ coded.0 in
    let count : length before + length (begun ++ rest) ≡ length (before ++ begun) + length rest = split_count before begun rest in
    fault_after group first total before begun rest at fault (record { at = at + 1 + fault.at; reason = fault.reason }) (accepted_code_is_quiet group first total before begun n close encoded coded.1 accepted) begun_count refl refl (text_fault_shows_first (λ (reason : Reason) (k : ℕ). EvidentByPayload group reason first total ((before ++ begun) ++ take k rest)) [] rest last CloseReason CloseReason fault (reason_rows group first total n (before ++ begun) [] rest last close encoded (omega arith) ((λ end. sym count ∙ at_end.0 end), λ same. at_end.1 (count ∙ same))) found)

-- ---- the first byte of a chunk, or two, and the rest

split_first : (bytes : List ℕ) → 0 < length bytes → get_or bytes 0 0 ∷ take (length bytes - 1) (drop 1 bytes) ≡ bytes
split_first [] some = absurd (omega arith)
split_first (b ∷ bytes) some = ap (λ (bs : List ℕ). b ∷ bs) (take_all (length (b ∷ bytes) - 1) bytes (omega arith))

split_two : (bytes : List ℕ) → 0 < length bytes → length bytes ≢ 1 → get_or bytes 0 0 ∷ get_or bytes 1 0 ∷ take (length bytes - 2) (drop 2 bytes) ≡ bytes
split_two [] some not_one = absurd (omega arith)
split_two (b ∷ []) some not_one = absurd (not_one refl)
split_two (b ∷ c ∷ bytes) some not_one = ap (λ (bs : List ℕ). b ∷ c ∷ bs) (take_all (length (b ∷ c ∷ bytes) - 2) bytes (omega arith))

-- The chunk contains the second byte of the code.
pub half_code_goes_on : (high : ℕ) (chunk : List ℕ) (last : Bool) (result : Result PayloadCheck BadByte) → 0 < length chunk → ((before begun : List ℕ) → before ++ begun ≡ high ∷ get_or chunk 0 0 ∷ [] → length begun ≡ 1 → IsBodyChecked before (begun ++ take (length chunk - 1) (drop 1 chunk)) last result) → (before : List ℕ) → IsBody (HalfCode high) before → IsBodyChecked before chunk last result
half_code_goes_on high chunk last result some checked before body =
    subst (λ (bs : List ℕ). IsBodyChecked before bs last result) (split_first chunk some) (checked before (get_or chunk 0 0 ∷ []) (ap (λ (bs : List ℕ). bs ++ (get_or chunk 0 0 ∷ [])) body) refl)

-- The chunk contains both bytes of the code.
pub empty_goes_on : (chunk : List ℕ) (last : Bool) (result : Result PayloadCheck BadByte) → 0 < length chunk → length chunk ≢ 1 → ((before begun : List ℕ) → before ++ begun ≡ get_or chunk 0 0 ∷ get_or chunk 1 0 ∷ [] → length begun ≡ 2 → IsBodyChecked before (begun ++ take (length chunk - 2) (drop 2 chunk)) last result) → (before : List ℕ) → IsBody Empty before → IsBodyChecked before chunk last result
empty_goes_on chunk last result some not_one checked before body =
    subst (λ (bs : List ℕ). IsBodyChecked before bs last result) (split_two chunk some not_one) (checked before (get_or chunk 0 0 ∷ get_or chunk 1 0 ∷ []) (ap (λ (bs : List ℕ). bs ++ (get_or chunk 0 0 ∷ get_or chunk 1 0 ∷ [])) body) refl)

pub body_goes_on : (body : CloseBody) (chunk : List ℕ) (fin last : Bool) (result : Result PayloadCheck BadByte) → ((before : List ℕ) → IsBody body before → IsBodyChecked before chunk last result) → (group : List Frame) (first total : ℕ) (before : List ℕ) → HasChecked group first (Close body) before → fin_bit first ≡ fin → last ≡ true ↔ (length before + length chunk ≡ total) → length before + length chunk ≤ total → IsChecked group first total before chunk result
body_goes_on body chunk fin last result checked group first total before of_close final at_end within =
    checked before of_close.1 group first total of_close.0 at_end within
