-- What is kept between the parts of frames stays right as parts come, and frames begin and end.
use Rattle.std.proofs.Common.{◌≡◌, ◌≢◌, ℕ, ◌+◌, ◌-◌, ◌⊎◌, Bool, true, false, not, List, [], ◌∷◌, ◌++◌, length, take, drop, if◌then◌else◌, inl, inr, refl, sym, ap, ◌∙◌, subst, append-nil, append_assoc, arith}
use Rattle.std.proofs.lemmas.Bool.{cases_lt, cases_Bool}
use Rattle.std.proofs.lemmas.List.{take_all, drop_all, take-append-le, drop-append-le}
use Rattle.std.proofs.Math.Seq.{take-append-add, drop-append-add}
use Rattle.wsn_wire.specs.declared.opcode.Op.{Op}
use Rattle.wsn_wire.specs.declared.opcode.Op.TheVariants.{Continue, Text, Binary, Close, Ping, Pong}
use Rattle.wsn_wire.specs.Frame.{Frame, is_control}
use Rattle.wsn_text.specs.Validated.{HasValidated}
use Rattle.wsn_rules.specs.AfterClose.{HasNoClose}
use Rattle.wsn_rules.specs.Group.{is_data, unfinished, first_op, payload_of}
use Rattle.wsn_rules.proofs.Groups.{unfinished_control, unfinished_final, unfinished_more}
use Rattle.wsn_rules.proofs.MessageText.{text_of_push}
use Rattle.wsn_redact.specs.declared.redacted_payload.Redactor.{Redactor}
use Rattle.wsn_redact.specs.Dues.{due_of}
use Rattle.wsn_redact.specs.StandIns.{stood, due_after}
use Rattle.wsn_redact.specs.Redaction.{zeros_for, is_text, is_of_text, redacted_payload}
use Rattle.wsn_redact.specs.RedactedParts.{replaced, IsBegunWith, Replaces, KeepsOpen, KeepsIn}
use Rattle.wsn_redact.proofs.StoodTexts.{stood-append, due_after-append}
use Rattle.wsn_redact.proofs.RedactedPayloads.{zeros-append}

-- ---- two parts

-- The first k bytes of both, and the others.
pub joined_split : (k : ℕ) (xs ys : List ℕ) → (take k (xs ++ ys) ≡ take k xs ++ take (k - length xs) ys) × (drop k (xs ++ ys) ≡ drop k xs ++ drop (k - length xs) ys)
joined_split k xs ys =
    elim (cases_lt k (length xs)) [
      | inl within ↦
          let none : k - length xs ≡ 0 = omega (arith, within) in (
            take-append-le k xs ys (omega (arith, within)) ∙ sym (ap (λ (n : ℕ). take k xs ++ take n ys) none ∙ append-nil (take k xs)),
            drop-append-le k xs ys (omega (arith, within)) ∙ sym (ap (λ (n : ℕ). drop k xs ++ drop n ys) none),
          )
      | inr past ↦
          let m = k - length xs in
          let sum : k ≡ length xs + m = omega (arith, past) in
          let all : take k xs ≡ xs = take_all k xs past in
          let none : drop k xs ≡ [] = drop_all k xs past in (
            ap (λ (n : ℕ). take n (xs ++ ys)) sum ∙ take-append-add xs ys m ∙ ap (λ (bs : List ℕ). bs ++ take m ys) (sym all),
            ap (λ (n : ℕ). drop n (xs ++ ys)) sum ∙ drop-append-add xs ys m ∙ ap (λ (bs : List ℕ). bs ++ drop m ys) (sym none),
          )
    ]

-- One of the two in the middle is empty.
swap_empty : (a s t b : List ℕ) → (s ≡ []) ⊎ (t ≡ []) → (a ++ t) ++ (s ++ b) ≡ (a ++ s) ++ (t ++ b)
swap_empty a s t b (inl none) =
    (λ i. (a ++ t) ++ (none i ++ b)) ∙ append_assoc a t b ∙ sym ((λ i. (a ++ none i) ++ (t ++ b)) ∙ ap (λ (bs : List ℕ). bs ++ (t ++ b)) (append-nil a))
swap_empty a s t b (inr none) =
    (λ i. (a ++ none i) ++ (s ++ b)) ∙ ap (λ (bs : List ℕ). bs ++ (s ++ b)) (append-nil a) ∙ sym ((λ i. (a ++ s) ++ (none i ++ b)) ∙ append_assoc a s b)

body_more : (before payload due : List ℕ) → due ≡ due_after [] (drop 2 before)
    → take 2 (before ++ payload) ++ stood [] (drop 2 (before ++ payload))
    ≡ (take 2 before ++ stood [] (drop 2 before)) ++ (take (2 - length before) payload ++ stood due (drop (2 - length before) payload))
body_more before payload due due_is =
    let k = 2 - length before in
    let s = stood [] (drop 2 before) in
    let t = take k payload in
    let b = stood due (drop k payload) in
    let parts = joined_split 2 before payload in
    let text : stood [] (drop 2 (before ++ payload)) ≡ s ++ b =
    ap (λ (bs : List ℕ). stood [] bs) parts.1 ∙ stood-append [] (drop 2 before) (drop k payload) ∙ ap (λ (d : List ℕ). s ++ stood d (drop k payload)) (sym due_is) in
    let empty : (s ≡ []) ⊎ (t ≡ []) = elim (cases_lt 2 (length before)) [
      | inl more ↦ let none : k ≡ 0 = omega (arith, more) in inr (ap (λ (n : ℕ). take n payload) none)
      | inr few ↦ inl (ap (λ (bs : List ℕ). stood [] bs) (drop_all 2 before few))
    ] in
    (λ i. parts.0 i ++ text i) ∙ swap_empty (take 2 before) s t b empty

-- ---- more of a payload

data_more : (c text : Bool) (earlier before payload due : List ℕ) → text ≡ c → (c ≡ true → due ≡ due_after [] (earlier ++ before))
    → (if c then stood (due_after [] earlier) (before ++ payload) else zeros_for (before ++ payload))
    ≡ (if c then stood (due_after [] earlier) before else zeros_for before) ++ (if text then stood due payload else zeros_for payload)
data_more true true earlier before payload due same keeps =
    stood-append (due_after [] earlier) before payload
    ∙ ap (λ (d : List ℕ). stood (due_after [] earlier) before ++ stood d payload) (sym (keeps refl ∙ due_after-append [] earlier before))
data_more false false earlier before payload due same keeps = zeros-append before payload
data_more true false earlier before payload due same keeps = absurd cc
data_more false true earlier before payload due same keeps = absurd cc

module _ (kept : Redactor) (group : List Frame) (before payload : List ℕ) (done : kept.done ≡ length before) where
  of_data : (c : Bool) → (kept.text ≡ c) × (c ≡ true → due_of kept.due ≡ due_after [] (payload_of group ++ before))
      → (if c then stood (due_after [] (payload_of group)) (before ++ payload) else zeros_for (before ++ payload))
      ≡ (if c then stood (due_after [] (payload_of group)) before else zeros_for before) ++ (if kept.text then stood (due_of kept.due) payload else zeros_for payload)
  of_data c keeps = data_more c kept.text (payload_of group) before payload (due_of kept.due) keeps.0 keeps.1

  -- What is written for it.
  pub payload_more : (op : Op) → KeepsIn kept group op before → redacted_payload group op (before ++ payload) ≡ redacted_payload group op before ++ replaced op kept.text (due_of kept.due) kept.done payload
  payload_more Close keeps =
      body_more before payload (due_of kept.due) keeps.0
      ∙ ap (λ (n : ℕ). (take 2 before ++ stood [] (drop 2 before)) ++ (take (2 - n) payload ++ stood (due_of kept.due) (drop (2 - n) payload))) (sym done)
  payload_more Ping keeps = zeros-append before payload
  payload_more Pong keeps = zeros-append before payload
  payload_more Continue keeps = of_data (is_of_text group Continue) keeps
  payload_more Text keeps = of_data (is_of_text group Text) keeps
  payload_more Binary keeps = of_data (is_of_text group Binary) keeps

  module _ (next : Redactor) (after : List ℕ) where
    then_data : (c text : Bool) (due : List ℕ) → text ≡ c → (c ≡ true → due ≡ due_after [] (payload_of group ++ before))
        → c ≡ true → (if text then due_after due payload else due) ≡ due_after [] (payload_of group ++ (before ++ payload))
    then_data true true due same keeps is =
        ap (λ (d : List ℕ). due_after d payload) (keeps refl) ∙ sym (due_after-append [] (payload_of group ++ before) payload) ∙ ap (λ (bs : List ℕ). due_after [] bs) (append_assoc (payload_of group) before payload)
    then_data true false due same keeps is = absurd cc
    then_data false text due same keeps is = absurd cc

    of_data_then : (op : Op) (c : Bool) → (kept.text ≡ c) × (c ≡ true → due_of kept.due ≡ due_after [] (payload_of group ++ before)) → next.text ≡ kept.text
        → due_of next.due ≡ (if kept.text then due_after (due_of kept.due) payload else due_of kept.due)
        → (next.text ≡ c) × (c ≡ true → due_of next.due ≡ due_after [] (payload_of group ++ (before ++ payload)))
    of_data_then op c keeps text due = (text ∙ keeps.0, λ is. due ∙ then_data c kept.text (due_of kept.due) keeps.0 keeps.1 is)

    of_open : KeepsOpen kept group → next.text ≡ kept.text → due_of next.due ≡ due_of kept.due → KeepsOpen next group
    of_open keeps text due some = let k = keeps some in (text ∙ k.0, λ is. due ∙ k.1 is)

    -- What is kept after it.
    pub keeps_more : (op : Op) → KeepsIn kept group op before → Replaces kept next op payload after → KeepsIn next group op (before ++ payload)
    keeps_more Close keeps r =
        let k = 2 - length before in
        let same : drop (2 - kept.done) payload ≡ drop k payload = ap (λ (n : ℕ). drop (2 - n) payload) done in
        let parts = (joined_split 2 before payload).1 in (
          r.due ∙ (λ i. due_after (keeps.0 i) (same i)) ∙ sym (due_after-append [] (drop 2 before) (drop k payload)) ∙ ap (λ (bs : List ℕ). due_after [] bs) (sym parts),
          subst (HasValidated next.reason) (ap (λ (bs : List ℕ). drop 2 before ++ bs) same ∙ sym parts) (r.reason (drop 2 before) keeps.1),
        )
    keeps_more Ping keeps r = of_open keeps r.text r.due
    keeps_more Pong keeps r = of_open keeps r.text r.due
    keeps_more Continue keeps r = of_data_then Continue (is_of_text group Continue) keeps r.text r.due
    keeps_more Text keeps r = of_data_then Text (is_of_text group Text) keeps r.text r.due
    keeps_more Binary keeps r = of_data_then Binary (is_of_text group Binary) keeps r.text r.due

-- ---- a frame begins

-- A frame with this opcode may begin after the frames of the open message.
pub record MayBegin (group : List Frame) (op : Op) : Type 0 where
  pub continues : op ≡ Continue → group ≢ []
  pub begins : (op ≡ Text) ⊎ (op ≡ Binary) → group ≡ []

pub keeps_begun : (old new : Redactor) (group : List Frame) (op : Op) → MayBegin group op → KeepsOpen old group → IsBegunWith old new op → KeepsIn new group op []
keeps_begun old new group Continue may keeps b =
    let k = keeps (may.continues refl) in
    (b.text ∙ k.0, λ is. b.due ∙ k.1 is ∙ ap (λ (bs : List ℕ). due_after [] bs) (sym (append-nil (payload_of group))))
keeps_begun old new group Text may keeps b =
    let none = may.begins (inl refl) in
    (b.text, λ is. b.due ∙ sym (ap (λ (gs : List Frame). due_after [] (payload_of gs ++ [])) none))
keeps_begun old new group Binary may keeps b = (b.text, λ is. absurd cc)
keeps_begun old new group Close may keeps b = (b.due, b.reason refl)
keeps_begun old new group Ping may keeps b = λ some. let k = keeps some in (b.text ∙ k.0, λ is. b.due ∙ k.1 is)
keeps_begun old new group Pong may keeps b = λ some. let k = keeps some in (b.text ∙ k.0, λ is. b.due ∙ k.1 is)

either : (c : Bool) → ◌≡◌ {A = List ℕ} (if c then [] else []) []
either true = refl
either false = refl

-- Nothing is written for an empty payload.
pub payload_none : (group : List Frame) (op : Op) → redacted_payload group op [] ≡ []
payload_none group Continue = either (is_of_text group Continue)
payload_none group _ = refl

-- ---- a frame ends

pub text_of_group : (group : List Frame) (f : Frame) → MayBegin group f.op → is_control f.op ≡ false → is_text (first_op (group ++ f ∷ [])) ≡ is_of_text group f.op
text_of_group [] f may other = by f.op refl
  where
    by : (op : Op) → f.op ≡ op → is_text op ≡ is_of_text [] op
    by Continue is = refl
    by _ is = refl
text_of_group (g ∷ group) f may other = by f.op refl other
  where
    by : (op : Op) → f.op ≡ op → is_control op ≡ false → is_text g.op ≡ is_of_text (g ∷ group) op
    by Continue is data_frame = refl
    by Text is data_frame = let none : g ∷ group ≡ [] = may.begins (inl is) in absurd cc
    by Binary is data_frame = let none : g ∷ group ≡ [] = may.begins (inr is) in absurd cc
    by Close is control = absurd cc
    by Ping is control = absurd cc
    by Pong is control = absurd cc

module _ (kept : Redactor) (fs : List Frame) (f : Frame) (may : MayBegin (unfinished fs) f.op) where
  of_control : is_data f ≡ false → KeepsOpen kept (unfinished fs) → KeepsOpen kept (unfinished (fs ++ f ∷ []))
  of_control control keeps = subst (KeepsOpen kept) (sym (unfinished_control fs f control)) keeps

  of_more : is_data f ≡ true → is_control f.op ≡ false → (kept.text ≡ is_of_text (unfinished fs) f.op) × (is_of_text (unfinished fs) f.op ≡ true → due_of kept.due ≡ due_after [] (payload_of (unfinished fs) ++ f.payload)) → KeepsOpen kept (unfinished (fs ++ f ∷ []))
  of_more data_frame other keeps =
      elim (cases_Bool f.fin) [
        | inl final ↦ subst (KeepsOpen kept) (sym (unfinished_final fs f data_frame final)) (λ some. absurd (some refl))
        | inr more ↦
            let same = text_of_group (unfinished fs) f may other in
            subst (KeepsOpen kept) (sym (unfinished_more fs f data_frame more))
            (λ some. (keeps.0 ∙ sym same, λ is. keeps.1 (sym same ∙ is) ∙ ap (λ (bs : List ℕ). due_after [] bs) (sym (text_of_push (unfinished fs) f))))
      ]

  -- What is kept of the open message after it.
  pub keeps_ended : KeepsIn kept (unfinished fs) f.op f.payload → HasNoClose (fs ++ f ∷ []) → KeepsOpen kept (unfinished (fs ++ f ∷ []))
  keeps_ended keeps none = by f.op refl keeps
    where
      same : (op : Op) → f.op ≡ op → (kept.text ≡ is_of_text (unfinished fs) op) × (is_of_text (unfinished fs) op ≡ true → due_of kept.due ≡ due_after [] (payload_of (unfinished fs) ++ f.payload))
          → (kept.text ≡ is_of_text (unfinished fs) f.op) × (is_of_text (unfinished fs) f.op ≡ true → due_of kept.due ≡ due_after [] (payload_of (unfinished fs) ++ f.payload))
      same op is k = subst (λ (o : Op). (kept.text ≡ is_of_text (unfinished fs) o) × (is_of_text (unfinished fs) o ≡ true → due_of kept.due ≡ due_after [] (payload_of (unfinished fs) ++ f.payload))) (sym is) k

      by : (op : Op) → f.op ≡ op → KeepsIn kept (unfinished fs) op f.payload → KeepsOpen kept (unfinished (fs ++ f ∷ []))
      by Close is k = absurd (none fs [] f refl is)
      by Ping is k = of_control (ap (λ (o : Op). not (is_control o)) is) k
      by Pong is k = of_control (ap (λ (o : Op). not (is_control o)) is) k
      by Continue is k = of_more (ap (λ (o : Op). not (is_control o)) is) (ap is_control is) (same Continue is k)
      by Text is k = of_more (ap (λ (o : Op). not (is_control o)) is) (ap is_control is) (same Text is k)
      by Binary is k = of_more (ap (λ (o : Op). not (is_control o)) is) (ap is_control is) (same Binary is k)
