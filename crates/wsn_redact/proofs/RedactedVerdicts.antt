-- The redaction of an accepted stream is accepted.
use Rattle.std.proofs.Common.{◌≡◌, ◌≢◌, ℕ, ◌+◌, ◌-◌, ◌≤◌, Bool, true, false, not, List, [], ◌∷◌, ◌++◌, length, take, drop, if◌then◌else◌, inl, inr, refl, sym, ap, ◌∙◌, subst, append-nil, append_assoc, length-append, length-drop, take-append-drop, arith}
use Rattle.std.specs.Int.{to_be_bytes, w16}
use Rattle.std.specs.Option.{ForSome}
use Rattle.std.proofs.lemmas.Bool.{cases_Bool, cond-true}
use Rattle.std.proofs.lemmas.List.{take_at, drop_at, nil_from_length}
use Rattle.wsn_wire.specs.declared.endpoint.Role.{Role}
use Rattle.wsn_wire.specs.declared.opcode.Op.{Op}
use Rattle.wsn_wire.specs.declared.opcode.Op.TheVariants.{Continue, Text, Close}
use Rattle.wsn_wire.specs.Frame.{Frame, IsBytes, FormFits, is_control, frame_bytes, stream}
use Rattle.wsn_wire.proofs.FrameLemmas.{IsBytes-append, IsBytes-left, IsBytes-right}
use Rattle.wsn_text.specs.Utf8.{IsText, BeginsText}
use Rattle.wsn_text.specs.CloseBody.{IsCloseBody}
use Rattle.wsn_frame.proofs.HeadsAtOnce.{no_items}
use Rattle.wsn_rules.specs.declared.verdict.Verdict.{Verdict}
use Rattle.wsn_rules.specs.declared.verdict.Verdict.TheVariants.{Accepted}
use Rattle.wsn_rules.specs.Summary.{counted}
use Rattle.wsn_rules.proofs.OneVerdict.{one_verdict}
use Rattle.wsn_rules.specs.Limits.{Limits}
use Rattle.wsn_rules.specs.AfterClose.{HasNoClose, EndsWithClose}
use Rattle.wsn_rules.specs.Accepted.{IsAccepted}
use Rattle.wsn_rules.specs.MessageLaw.{GroupLaw}
use Rattle.wsn_rules.specs.Lawful.{FrameLaw, LawAt, IsLawful}
use Rattle.wsn_rules.specs.Group.{is_data, unfinished, first_op, payload_of}
use Rattle.wsn_rules.specs.Heads.{info_of, heads_from}
use Rattle.wsn_rules.proofs.Groups.{unfinished_control, unfinished_final, unfinished_more}
use Rattle.wsn_rules.proofs.LawfulLists.{no_close_push, lawful_push, no_close_nil, lawful_nil}
use Rattle.wsn_rules.proofs.MessageText.{text_of_push}
use Rattle.wsn_redact.specs.StandIns.{stood, due_after}
use Rattle.wsn_redact.specs.Redaction.{zeros_for, is_text, is_of_text, with_payload, redacted_payload, redacted_frames, IsRedactionAt, IsRedaction}
use Rattle.wsn_redact.proofs.StoodTexts.{stood-append}
use Rattle.wsn_redact.proofs.RedactedPayloads.{length-redacted_payload, redacted_push, are_redacted, one_frames}
use Rattle.wsn_redact.proofs.OneRedaction.{frame_length, rest_length}
use Rattle.wsn_redact.proofs.KeptParts.{MayBegin, text_of_group}
use Rattle.wsn_redact.proofs.RedactedSteps.{may_lawful}
use Rattle.wsn_redact.proofs.RedactedLawful.{text_stays, beginning_stays, stood_bytes, due_bytes, zeros_bytes}

-- ---- the open message

-- The frames of the open message, redacted: as many, with as many bytes, of the same kind; a text is redacted.
pub record SameGroup (group redacted : List Frame) : Type 0 where
  pub count : length redacted ≡ length group
  pub size : length (payload_of redacted) ≡ length (payload_of group)
  pub first : first_op redacted ≡ first_op group
  pub text : is_text (first_op group) ≡ true → payload_of redacted ≡ stood [] (payload_of group)
  pub in_bytes : IsBytes (payload_of group)

pub none_same : SameGroup [] []
none_same = record { count = refl; size = refl; first = refl; text = λ is. refl; in_bytes = tt }

-- What a frame becomes after the frames of the open message.
abbrev pub redacted_frame : List Frame → Frame → Frame
redacted_frame group f = with_payload f (redacted_payload group f.op f.payload)

either_bytes : (c : Bool) (xs ys : List ℕ) → IsBytes xs → IsBytes ys → IsBytes (if c then xs else ys)
either_bytes true xs ys one other = one
either_bytes false xs ys one other = other

pub payload_bytes : (group : List Frame) (op : Op) (payload : List ℕ) → IsBytes (payload_of group) → IsBytes payload → IsBytes (redacted_payload group op payload)
payload_bytes group Close payload before all = IsBytes-append (take 2 payload) (stood [] (drop 2 payload)) (IsBytes-left (take 2 payload) (drop 2 payload) whole) (stood_bytes [] (drop 2 payload) tt (IsBytes-right (take 2 payload) (drop 2 payload) whole))
  where
    whole : IsBytes (take 2 payload ++ drop 2 payload)
    whole = subst IsBytes (sym (take-append-drop 2 payload)) all
payload_bytes group Continue payload before all = either_bytes (is_of_text group Continue) (stood (due_after [] (payload_of group)) payload) (zeros_for payload) (stood_bytes (due_after [] (payload_of group)) payload (due_bytes [] (payload_of group) tt before) all) (zeros_bytes payload)
payload_bytes group Text payload before all = stood_bytes (due_after [] (payload_of group)) payload (due_bytes [] (payload_of group) tt before) all
payload_bytes group _ payload before all = zeros_bytes payload

-- A data frame of a text.
text_payload : (group : List Frame) (op : Op) (payload : List ℕ) → is_of_text group op ≡ true → redacted_payload group op payload ≡ stood (due_after [] (payload_of group)) payload
text_payload group Continue payload is = cond-true (is_of_text group Continue) (stood (due_after [] (payload_of group)) payload) (zeros_for payload) is
text_payload group Text payload is = refl
text_payload group _ payload is = absurd cc

module _ (group redacted : List Frame) (same : SameGroup group redacted) (f : Frame) (may : MayBegin group f.op) (data_frame : is_data f ≡ true) (all : IsBytes f.payload) where
  abbrev g : Frame
  g = redacted_frame group f

  other : is_control f.op ≡ false
  other = by (is_control f.op) refl data_frame
    where
      by : (c : Bool) → is_control f.op ≡ c → not c ≡ true → is_control f.op ≡ false
      by true is never = absurd cc
      by false is never = is

  first_pushed : first_op (redacted ++ g ∷ []) ≡ first_op (group ++ f ∷ [])
  first_pushed = by group redacted same.count same.first
    where
      by : (xs ys : List Frame) → length ys ≡ length xs → first_op ys ≡ first_op xs → first_op (ys ++ g ∷ []) ≡ first_op (xs ++ f ∷ [])
      by [] [] count first = refl
      by [] (y ∷ ys) count first = absurd (omega (arith, count))
      by (x ∷ xs) [] count first = absurd (omega (arith, count))
      by (x ∷ xs) (y ∷ ys) count first = first

  -- The text before it is redacted.
  earlier_text : is_of_text group f.op ≡ true → payload_of redacted ≡ stood [] (payload_of group)
  earlier_text is = by group redacted same.count same.text may is
    where
      by : (xs ys : List Frame) → length ys ≡ length xs → (is_text (first_op xs) ≡ true → payload_of ys ≡ stood [] (payload_of xs)) → MayBegin xs f.op → is_of_text xs f.op ≡ true → payload_of ys ≡ stood [] (payload_of xs)
      by [] [] count text m t = refl
      by [] (y ∷ ys) count text m t = absurd (omega (arith, count))
      by (x ∷ xs) ys count text m t = text (text_of_group (x ∷ xs) f m other ∙ t)

  pub pushed : SameGroup (group ++ f ∷ []) (redacted ++ redacted_frame group f ∷ [])
  pushed = record {
    count = let count = same.count in omega (arith, count, length-append redacted (g ∷ []), length-append group (f ∷ []));
    size =
        let size = same.size in
        let one = length-redacted_payload group f.op f.payload in
        let mine = ap (λ (bs : List ℕ). length bs) (text_of_push redacted g) in
        let its = ap (λ (bs : List ℕ). length bs) (text_of_push group f) in
        omega (arith, size, one, mine, its, length-append (payload_of redacted) g.payload, length-append (payload_of group) f.payload);
    first = first_pushed;
    text = λ is.
        let of_text : is_of_text group f.op ≡ true = sym (text_of_group group f may other) ∙ is in
        text_of_push redacted g ∙ (λ i. earlier_text of_text i ++ text_payload group f.op f.payload of_text i) ∙ sym (stood-append [] (payload_of group) f.payload) ∙ ap (λ (bs : List ℕ). stood [] bs) (sym (text_of_push group f));
    in_bytes = subst IsBytes (sym (text_of_push group f)) (IsBytes-append (payload_of group) f.payload same.in_bytes all);
  }

-- ---- one frame

body_stays : (body : List ℕ) → IsCloseBody body → IsCloseBody (take 2 body ++ stood [] (drop 2 body))
body_stays body (inl none) = inl (ap (λ (bs : List ℕ). take 2 bs ++ stood [] (drop 2 bs)) none)
body_stays body (inr (code, reason, accepted, text, is)) =
    let front : take 2 body ≡ to_be_bytes w16 code = ap (λ (bs : List ℕ). take 2 bs) is ∙ take_at (to_be_bytes w16 code) reason 2 refl in
    let rest : drop 2 body ≡ reason = ap (λ (bs : List ℕ). drop 2 bs) is ∙ drop_at (to_be_bytes w16 code) reason 2 refl in
    inr (code, stood [] reason, accepted, text_stays reason text, λ i. front i ++ stood [] (rest i))

module _ (role : Role) (limits : Limits) (before after : List Frame) (f : Frame) (law : LawAt role limits before f) (same : SameGroup (unfinished before) (unfinished after)) where
  abbrev group : List Frame
  group = unfinished before

  abbrev h : Frame
  h = redacted_frame (unfinished before) f

  size_is : length (redacted_payload (unfinished before) f.op f.payload) ≡ length f.payload
  size_is = length-redacted_payload (unfinished before) f.op f.payload

  frame_law : FrameLaw role limits.lengths (redacted_frame (unfinished before) f)
  frame_law =
      let e = law.frame.encoded in
      record {
        encoded = record {
          encodable = record {
            key = e.encodable.key;
            payload = payload_bytes (unfinished before) f.op f.payload same.in_bytes e.encodable.payload;
            size = let most = e.encodable.size in omega (arith, most, size_is);
            form = subst (FormFits f.form) (sym size_is) e.encodable.form;
          };
          masked = e.masked;
          shortest = e.shortest;
          control = λ is. let c = e.control is in record { final = c.final; short = (let most = c.short in omega (arith, most, size_is)); shortest = c.shortest };
        };
        close = λ is. by f.op refl (law.frame.close is) is;
      }
    where
      by : (op : Op) → f.op ≡ op → IsCloseBody f.payload → op ≡ Close → IsCloseBody (redacted_payload (unfinished before) op f.payload)
      by Close op_is body is = body_stays f.payload body
      by _ op_is body is = absurd cc

  may_be : MayBegin (unfinished before) f.op
  may_be = may_lawful role limits before f law

  none_alike : (xs ys : List Frame) → length ys ≡ length xs → xs ≢ [] → ys ≢ []
  none_alike [] ys count some = absurd (some refl)
  none_alike (x ∷ xs) [] count some = absurd (omega (arith, count))
  none_alike (x ∷ xs) (y ∷ ys) count some = λ none. cc

  group_law : is_data f ≡ true → GroupLaw limits (unfinished after) (redacted_frame (unfinished before) f)
  group_law data_frame =
      let l = law.group data_frame in
      let p = pushed (unfinished before) (unfinished after) same f may_be data_frame law.frame.encoded.encodable.payload in
      record {
        continues = (λ op. none_alike (unfinished before) (unfinished after) same.count (l.continues.0 op), λ some. l.continues.1 (none_alike (unfinished after) (unfinished before) (sym same.count) some));
        size = (let most = l.size in let count = p.size in omega (arith, most, count));
        count = subst (λ (n : ℕ). ForSome limits.frames (λ most. n ≤ most)) (sym p.count) l.count;
        begins = λ is. let t = sym p.first ∙ is in subst BeginsText (sym (p.text (ap is_text t))) (beginning_stays (payload_of (unfinished before ++ f ∷ [])) (l.begins t));
        text = λ is final. let t = sym p.first ∙ is in subst IsText (sym (p.text (ap is_text t))) (text_stays (payload_of (unfinished before ++ f ∷ [])) (l.text t final));
      }

  law_stays : LawAt role limits after (redacted_frame (unfinished before) f)
  law_stays = record { frame = frame_law; group = group_law }

  -- The open message after it.
  pub same_after : SameGroup (unfinished (before ++ f ∷ [])) (unfinished (after ++ redacted_frame (unfinished before) f ∷ []))
  same_after = elim (cases_Bool (is_data f)) [
    | inl data_frame ↦ elim (cases_Bool f.fin) [
      | inl final ↦ both (unfinished_final before f data_frame final) (unfinished_final after h data_frame final) none_same
      | inr more ↦ both (unfinished_more before f data_frame more) (unfinished_more after h data_frame more) (pushed (unfinished before) (unfinished after) same f may_be data_frame law.frame.encoded.encodable.payload)
    ]
    | inr control ↦ both (unfinished_control before f control) (unfinished_control after h control) same
  ]
    where
      both : {xs ys : List Frame} → unfinished (before ++ f ∷ []) ≡ xs → unfinished (after ++ redacted_frame (unfinished before) f ∷ []) ≡ ys → SameGroup xs ys → SameGroup (unfinished (before ++ f ∷ [])) (unfinished (after ++ redacted_frame (unfinished before) f ∷ []))
      both {xs = xs} {ys = ys} one two s = subst (λ (zs : List Frame). SameGroup zs (unfinished (after ++ redacted_frame (unfinished before) f ∷ []))) (sym one) (subst (SameGroup xs) (sym two) s)

-- ---- all frames

module _ (role : Role) (limits : Limits) where
  pub record StaysLawful (before fs after : List Frame) : Type 0 where
    pub lawful : IsLawful role limits (after ++ redacted_frames before fs)
    pub same : SameGroup (unfinished (before ++ fs)) (unfinished (after ++ redacted_frames before fs))

  stay_lawful : (before after fs : List Frame) → IsLawful role limits (before ++ fs) → IsLawful role limits after → HasNoClose after → SameGroup (unfinished before) (unfinished after) → StaysLawful before fs after
  stay_lawful before after [] lawful now none same = record {
    lawful = subst (IsLawful role limits) (sym (append-nil after)) now;
    same = subst (λ (xs : List Frame). SameGroup (unfinished xs) (unfinished (after ++ []))) (sym (append-nil before)) (subst (λ (ys : List Frame). SameGroup (unfinished before) (unfinished ys)) (sym (append-nil after)) same);
  }
  stay_lawful before after (f ∷ fs) lawful now none same =
      let law = lawful.each before fs f refl in
      let h = redacted_frame (unfinished before) f in
      let pushed_lawful = lawful_push role limits after h now none (law_stays role limits before after f law same) in
      let next_same = same_after role limits before after f law same in
      let joined : (before ++ f ∷ []) ++ fs ≡ before ++ f ∷ fs = append_assoc before (f ∷ []) fs in
      let joined_after : (after ++ h ∷ []) ++ redacted_frames (before ++ f ∷ []) fs ≡ after ++ h ∷ redacted_frames (before ++ f ∷ []) fs = append_assoc after (h ∷ []) (redacted_frames (before ++ f ∷ []) fs) in
      let s = by fs refl pushed_lawful next_same (subst (IsLawful role limits) (sym joined) lawful) (λ none_after. stay_lawful (before ++ f ∷ []) (after ++ h ∷ []) fs (subst (IsLawful role limits) (sym joined) lawful) pushed_lawful none_after next_same) in
      record {
        lawful = subst (IsLawful role limits) joined_after s.lawful;
        same = subst (λ (xs : List Frame). SameGroup (unfinished xs) (unfinished (after ++ h ∷ redacted_frames (before ++ f ∷ []) fs))) joined (subst (λ (ys : List Frame). SameGroup (unfinished ((before ++ f ∷ []) ++ fs)) (unfinished ys)) joined_after s.same);
      }
    where
      by : (rest : List Frame) → fs ≡ rest → IsLawful role limits (after ++ redacted_frame (unfinished before) f ∷ []) → SameGroup (unfinished (before ++ f ∷ [])) (unfinished (after ++ redacted_frame (unfinished before) f ∷ [])) → IsLawful role limits ((before ++ f ∷ []) ++ fs)
          → (HasNoClose (after ++ redacted_frame (unfinished before) f ∷ []) → StaysLawful (before ++ f ∷ []) fs (after ++ redacted_frame (unfinished before) f ∷ [])) → StaysLawful (before ++ f ∷ []) fs (after ++ redacted_frame (unfinished before) f ∷ [])
      by [] is pushed_lawful next_same all on =
          subst (λ (gs : List Frame). StaysLawful (before ++ f ∷ []) gs (after ++ redacted_frame (unfinished before) f ∷ [])) (sym is)
          (record {
            lawful = subst (IsLawful role limits) (sym (append-nil (after ++ redacted_frame (unfinished before) f ∷ []))) pushed_lawful;
            same = subst (λ (xs : List Frame). SameGroup (unfinished xs) (unfinished ((after ++ redacted_frame (unfinished before) f ∷ []) ++ []))) (sym (append-nil (before ++ f ∷ [])))
                (subst (λ (ys : List Frame). SameGroup (unfinished (before ++ f ∷ [])) (unfinished ys)) (sym (append-nil (after ++ redacted_frame (unfinished before) f ∷ []))) next_same);
          })
      by (k ∷ rest) is pushed_lawful next_same all on =
          on (no_close_push after (redacted_frame (unfinished before) f) none (λ close. let last : fs ≡ [] = lawful.close_last before fs f refl close in let both : k ∷ rest ≡ [] = sym is ∙ last in cc))

  -- Lawful frames stay lawful.
  pub frames_stay_lawful : (fs : List Frame) → IsLawful role limits fs → StaysLawful [] fs []
  frames_stay_lawful fs lawful = stay_lawful [] [] fs lawful (lawful_nil role limits) no_close_nil none_same

-- ---- heads, and the end

-- The same heads.
pub heads_stay : (offset : ℕ) (before fs : List Frame) → heads_from offset (redacted_frames before fs) ≡ heads_from offset fs
heads_stay offset before [] = refl
heads_stay offset before (f ∷ fs) =
    let payload = redacted_payload (unfinished before) f.op f.payload in
    let size : length payload ≡ length f.payload = length-redacted_payload (unfinished before) f.op f.payload in
    let bytes = frame_length f payload size in
    let head : info_of offset (with_payload f payload) ≡ info_of offset f = ap (λ (n : ℕ). record { offset = offset; fin = f.fin; op = f.op; key = f.key; form = f.form; len = n }) size in
    let next : offset + length (frame_bytes (with_payload f payload)) ≡ offset + length (frame_bytes f) = ap (λ (n : ℕ). offset + n) bytes in
    let rest = heads_stay (offset + length (frame_bytes f)) (before ++ f ∷ []) fs in
    λ i. head i ∷ (ap (λ (n : ℕ). heads_from n (redacted_frames (before ++ f ∷ []) fs)) next ∙ rest) i

-- A Close among them is one among the frames.
pub record IsCloseAmong (fs : List Frame) : Type 0 where
  pub front : List Frame
  pub back : List Frame
  pub frame : Frame
  pub is : fs ≡ front ++ frame ∷ back
  pub closes : frame.op ≡ Close

pub close_among : (before fs xs ys : List Frame) (k : Frame) → redacted_frames before fs ≡ xs ++ k ∷ ys → k.op ≡ Close → IsCloseAmong fs
close_among before [] [] ys k is closes = absurd cc
close_among before [] (x ∷ xs) ys k is closes = absurd cc
close_among before (f ∷ fs) [] ys k is closes =
    let first : with_payload f (redacted_payload (unfinished before) f.op f.payload) ≡ k = cc in
    record { front = []; back = fs; frame = f; is = refl; closes = ap (λ (g : Frame). g.op) first ∙ closes }
close_among before (f ∷ fs) (x ∷ xs) ys k is closes =
    let rest : redacted_frames (before ++ f ∷ []) fs ≡ xs ++ k ∷ ys = cc in
    let c = close_among (before ++ f ∷ []) fs xs ys k rest closes in
    record { front = f ∷ c.front; back = c.back; frame = c.frame; is = ap (λ (gs : List Frame). f ∷ gs) c.is; closes = c.closes }

pub no_close_stays : (fs : List Frame) → HasNoClose fs → HasNoClose (redacted_frames [] fs)
no_close_stays fs none xs ys k is closes = let c = close_among [] fs xs ys k is closes in none c.front c.back c.frame c.is c.closes

pub close_stays : (fs : List Frame) → EndsWithClose fs → EndsWithClose (redacted_frames [] fs)
close_stays fs (before, close, closes, is) =
    (redacted_frames [] before, with_payload close (redacted_payload (unfinished before) close.op close.payload), closes, ap (λ (gs : List Frame). redacted_frames [] gs) is ∙ redacted_push [] before close)

module _ (role : Role) (limits : Limits) where
  -- The redaction of an accepted stream is accepted, with the same heads.
  pub stays_accepted : (bytes redacted : List ℕ) (fs : List Frame) → IsAccepted role limits bytes fs → IsRedaction role limits bytes redacted → IsAccepted role limits redacted (redacted_frames [] fs)
  stays_accepted bytes redacted fs is r =
      let v = Accepted (counted fs (length (stream fs)) (length bytes - length (stream fs))) in
      let same = one_verdict role limits bytes r.frames fs r.verdict v r.is_verdict (is, refl) in
      let at : IsRedactionAt role limits bytes fs v redacted =
      subst (λ (w : Verdict). IsRedactionAt role limits bytes fs w redacted) same.1 (subst (λ (gs : List Frame). IsRedactionAt role limits bytes gs r.verdict redacted) same.0 r.is) in
      let frames : at.frames ≡ redacted_frames [] fs = one_frames [] fs at.frames (redacted_frames [] fs) at.are_frames (are_redacted role limits [] fs is.lawful) in
      let stays = frames_stay_lawful role limits fs is.lawful in
      let whole : redacted ≡ stream (redacted_frames [] fs) ++ at.rest = at.whole ∙ (λ i. stream (frames i) ++ append-nil at.rest i) in
      record {
        lawful = stays.lawful;
        ends = elim is.ends [
          | inl ends ↦
              let size = ap (λ (bs : List ℕ). length bs) ends.2 in
              let count = rest_length role limits fs (drop (length (stream fs)) bytes) at.rest at.is_rest in
              let none : at.rest ≡ [] = no_items at.rest (omega (arith, count, size, length-drop (length (stream fs)) bytes)) in
              let open_count = stays.same.count in
              let open_none = ap (λ (gs : List Frame). length gs) ends.1 in
              inl (no_close_stays fs ends.0, nil_from_length (unfinished (redacted_frames [] fs)) (omega (arith, open_count, open_none)), whole ∙ ap (λ (bs : List ℕ). stream (redacted_frames [] fs) ++ bs) none ∙ append-nil (stream (redacted_frames [] fs)))
          | inr ends ↦ inr (close_stays fs ends.0, (at.rest, whole))
        ];
      }
