-- Streams that are alike have one redaction.
use Rattle.std.proofs.Common.{◌≡◌, ℕ, suc, ◌+◌, ◌≤◌, Bool, true, false, List, [], ◌∷◌, ◌++◌, length, take, drop, if◌then◌else◌, inl, inr, refl, sym, ap, ◌∙◌, subst, append_assoc, length-append, length-drop, append-nil, arith}
use Rattle.std.specs.List.{AllByRecursion, flat_map, fold}
use Rattle.std.proofs.lemmas.Grind.{common_steps}
use Rattle.wsn_wire.specs.declared.endpoint.Role.{Role}
use Rattle.wsn_wire.specs.declared.opcode.Op.{Op}
use Rattle.wsn_wire.specs.declared.opcode.Op.TheVariants.{Continue, Text, Close}
use Rattle.wsn_wire.specs.Frame.{Frame, stream, wire_payload}
use Rattle.wsn_wire.proofs.FrameLemmas.{fronts_agree}
use Rattle.wsn_text.specs.Utf8.{Range, ◌–◌, IsCharacter}
use Rattle.wsn_rules.specs.declared.head_info.HeadInfo.{HeadInfo}
use Rattle.wsn_rules.specs.declared.verdict.Verdict.{Verdict}
use Rattle.wsn_rules.specs.declared.verdict.Verdict.TheVariants.{Accepted, Cut, Refused}
use Rattle.wsn_rules.specs.Limits.{Limits}
use Rattle.wsn_rules.specs.AfterClose.{HasNoClose, EndsWithClose}
use Rattle.wsn_rules.specs.Group.{is_data, with_frame, unfinished, first_op, payload_of}
use Rattle.wsn_rules.specs.Heads.{BeginsWithHead}
use Rattle.wsn_rules.specs.Verdict.{judged_bytes}
use Rattle.wsn_redact.specs.StandIns.{single_stand_in, stand_in, stand_in_of, IsRedactedText, IsRedacted}
use Rattle.wsn_redact.specs.Redaction.{zeros_for, is_text, is_of_text, IsRedactedData, IsRedactedPayload, with_payload, AreRedacted, IsRedactedBegun, IsRedactedRest, unjudged, IsRedaction}
use Rattle.wsn_laws.specs.AlikeStreams.{IsIn, AreOfOneKind, single_kinds, first_kinds, AreAlikeCharacters, AreAlikeInPairs, AreAlikeBeginnings, AreAlikeTexts, AreAlikeData, AreAlikePayloads, AreAlikeFrames, AreAlikeBegun, AreAlikeRests, AreAlikeStreams}
use Rattle.wsn_redact.proofs.StoodTexts.{one_redacted}
use Rattle.wsn_redact.proofs.RedactedLawful.{two_low, row_e1, row_ee, row_f1}
use Rattle.wsn_redact.proofs.KnownParts.{begun_by, redaction_at}

-- ---- characters

in_one : (r : Range) (b : ℕ) → IsIn (r ∷ []) b → (r.low ≤ b) × (b ≤ r.high)
in_one r b (inl is) = is
in_one r b (inr none) = absurd none

pub single_small : (b : ℕ) → 0x61 ≤ b → b ≤ 0x7A → single_stand_in b ≡ 0x78
single_small b from to = grind (arith, common_steps)

pub single_capital : (b : ℕ) → 0x41 ≤ b → b ≤ 0x5A → single_stand_in b ≡ 0x58
single_capital b from to = grind (arith, common_steps)

pub single_digit : (b : ℕ) → 0x30 ≤ b → b ≤ 0x39 → single_stand_in b ≡ 0x30
single_digit b from to = grind (arith, common_steps)

pub single_alike : (b c : ℕ) → AreOfOneKind single_kinds b c → single_stand_in b ≡ single_stand_in c
single_alike b c (inl (is, also)) =
    let x = in_one (0x61 – 0x7A) b is in let y = in_one (0x61 – 0x7A) c also in single_small b x.0 x.1 ∙ sym (single_small c y.0 y.1)
single_alike b c (inr (inl (is, also))) =
    let x = in_one (0x41 – 0x5A) b is in let y = in_one (0x41 – 0x5A) c also in single_capital b x.0 x.1 ∙ sym (single_capital c y.0 y.1)
single_alike b c (inr (inr (inl (is, also)))) =
    let x = in_one (0x30 – 0x39) b is in let y = in_one (0x30 – 0x39) c also in single_digit b x.0 x.1 ∙ sym (single_digit c y.0 y.1)
single_alike b c (inr (inr (inr same))) = ap single_stand_in same

pub first_low : (b : ℕ) → b ≤ 0x7F → stand_in b ≡ single_stand_in b ∷ []
first_low b to = grind (arith, common_steps)

-- The kinds of letters and digits, by their last value.
low_alike : (b c : ℕ) → b ≤ 0x7F → c ≤ 0x7F → single_stand_in b ≡ single_stand_in c → stand_in b ≡ stand_in c
low_alike b c b_low c_low same = first_low b b_low ∙ ap (λ (x : ℕ). x ∷ []) same ∙ sym (first_low c c_low)

-- The stand-in of a small letter.
pub letter_alone : (b : ℕ) → IsIn ((0x61 – 0x7A) ∷ []) b → stand_in b ≡ 0x78 ∷ []
letter_alone b is = let x = in_one (0x61 – 0x7A) b is in let to = x.1 in first_low b (omega (arith, to)) ∙ ap (λ (y : ℕ). y ∷ []) (single_small b x.0 x.1)

three : (b : ℕ) → IsIn ((0xE1 – 0xEC) ∷ (0xEE – 0xEF) ∷ []) b → stand_in b ≡ 0xE2 ∷ 0x82 ∷ 0xAC ∷ []
three b (inl is) = row_e1 b is.0 is.1
three b (inr (inl is)) = row_ee b is.0 is.1
three b (inr (inr none)) = absurd none

pub first_alike : (b c : ℕ) → AreOfOneKind first_kinds b c → stand_in b ≡ stand_in c
first_alike b c (inl (is, also)) =
    let x = in_one (0x61 – 0x7A) b is in
    let y = in_one (0x61 – 0x7A) c also in
    let b_to = x.1 in let c_to = y.1 in
    low_alike b c (omega (arith, b_to)) (omega (arith, c_to)) (single_small b x.0 x.1 ∙ sym (single_small c y.0 y.1))
first_alike b c (inr (inl (is, also))) =
    let x = in_one (0x41 – 0x5A) b is in
    let y = in_one (0x41 – 0x5A) c also in
    let b_to = x.1 in let c_to = y.1 in
    low_alike b c (omega (arith, b_to)) (omega (arith, c_to)) (single_capital b x.0 x.1 ∙ sym (single_capital c y.0 y.1))
first_alike b c (inr (inr (inl (is, also)))) =
    let x = in_one (0x30 – 0x39) b is in
    let y = in_one (0x30 – 0x39) c also in
    let b_to = x.1 in let c_to = y.1 in
    low_alike b c (omega (arith, b_to)) (omega (arith, c_to)) (single_digit b x.0 x.1 ∙ sym (single_digit c y.0 y.1))
first_alike b c (inr (inr (inr (inl (is, also))))) =
    let x = in_one (0xC2 – 0xDF) b is in let y = in_one (0xC2 – 0xDF) c also in two_low b x.0 x.1 ∙ sym (two_low c y.0 y.1)
first_alike b c (inr (inr (inr (inr (inl (is, also)))))) = three b is ∙ sym (three c also)
first_alike b c (inr (inr (inr (inr (inr (inl (is, also))))))) =
    let x = in_one (0xF1 – 0xF3) b is in let y = in_one (0xF1 – 0xF3) c also in row_f1 b x.0 x.1 ∙ sym (row_f1 c y.0 y.1)
first_alike b c (inr (inr (inr (inr (inr (inr same)))))) = ap stand_in same

record HaveOneStandIn (c d : List ℕ) : Type 0 where
  same : stand_in_of c ≡ stand_in_of d
  size : length c ≡ length d

one_stand_in : (c d : List ℕ) → AreAlikeCharacters c d → HaveOneStandIn c d
one_stand_in [] [] alike = record { same = refl; size = refl }
one_stand_in (c ∷ bytes) (d ∷ others) alike = record { same = first_alike c d alike.0; size = ap suc alike.1 }
one_stand_in _ _ alike = absurd alike

record HaveOneForm (cs ds : List (List ℕ)) : Type 0 where
  each : AllByRecursion IsCharacter cs
  other_each : AllByRecursion IsCharacter ds
  same : flat_map stand_in_of cs ≡ flat_map stand_in_of ds

one_form : (cs ds : List (List ℕ)) → AreAlikeInPairs cs ds → HaveOneForm cs ds
one_form [] [] pairs = record { each = tt; other_each = tt; same = refl }
one_form (c ∷ cs) (d ∷ ds) pairs =
    let first = one_stand_in c d pairs.2 in
    let rest = one_form cs ds pairs.3 in
    record { each = (pairs.0, rest.each); other_each = (pairs.1, rest.other_each); same = λ i. first.same i ++ rest.same i }
one_form _ _ pairs = absurd pairs

-- ---- texts

record HaveOneText (text other : List ℕ) : Type 0 where
  redacted : List ℕ
  is : IsRedactedText text redacted
  also : IsRedactedText other redacted

one_text : (text other : List ℕ) → AreAlikeBeginnings text other → HaveOneText text other
one_text text other a =
    let f = one_form a.characters a.other_characters a.pairs in
    let b = one_stand_in a.begun a.other_begun a.begun_alike in
    record {
      redacted = flat_map stand_in_of a.characters ++ take (length a.begun) (stand_in_of a.begun);
      is = record { characters = a.characters; begun = a.begun; each = f.each; begins = a.begins; text_is = a.text_is; redacted_is = refl };
      also = record { characters = a.other_characters; begun = a.other_begun; each = f.other_each; begins = a.other_begins; text_is = a.other_is; redacted_is = λ i. f.same i ++ take (b.size i) (b.same i) };
    }

pub texts_alike : (text other redacted other_redacted : List ℕ) → AreAlikeTexts text other → IsRedacted text redacted → IsRedacted other other_redacted → redacted ≡ other_redacted
texts_alike text other redacted other_redacted (inl a) r s =
    let one = one_text text other a in
    one_redacted text redacted one.redacted r (inl one.is) ∙ one_redacted other one.redacted other_redacted (inl one.also) s
texts_alike text other redacted other_redacted (inr a) r s =
    let one = one_text a.front a.other_front a.fronts in
    let x : IsRedacted text (one.redacted ++ single_stand_in a.bad ∷ []) = inr (record { front = a.front; bad = a.bad; front_redacted = one.redacted; text_is = a.text_is; goes_wrong = a.goes_wrong; is_front = one.is; redacted_is = refl }) in
    let y : IsRedacted other (one.redacted ++ single_stand_in a.other_bad ∷ []) = inr (record { front = a.other_front; bad = a.other_bad; front_redacted = one.redacted; text_is = a.other_is; goes_wrong = a.other_goes_wrong; is_front = one.also; redacted_is = refl }) in
    one_redacted text redacted (one.redacted ++ single_stand_in a.bad ∷ []) r x ∙ ap (λ (b : ℕ). one.redacted ++ b ∷ []) (single_alike a.bad a.other_bad a.bad_alike) ∙ one_redacted other (one.redacted ++ single_stand_in a.other_bad ∷ []) other_redacted y s

-- The redaction of both.
pub one_redaction_of_texts : (text other : List ℕ) → AreAlikeTexts text other → (redacted : List ℕ) × IsRedacted text redacted × IsRedacted other redacted
one_redaction_of_texts text other (inl a) = let one = one_text text other a in (one.redacted, inl one.is, inl one.also)
one_redaction_of_texts text other (inr a) =
    let one = one_text a.front a.other_front a.fronts in
    let x : IsRedacted text (one.redacted ++ single_stand_in a.bad ∷ []) = inr (record { front = a.front; bad = a.bad; front_redacted = one.redacted; text_is = a.text_is; goes_wrong = a.goes_wrong; is_front = one.is; redacted_is = refl }) in
    let y : IsRedacted other (one.redacted ++ single_stand_in a.bad ∷ []) = inr (record { front = a.other_front; bad = a.other_bad; front_redacted = one.redacted; text_is = a.other_is; goes_wrong = a.other_goes_wrong; is_front = one.also; redacted_is = ap (λ (b : ℕ). one.redacted ++ b ∷ []) (single_alike a.bad a.other_bad a.bad_alike) }) in
    (one.redacted ++ single_stand_in a.bad ∷ [], x, y)

-- ---- frames that differ in nothing but their payloads

pub zeros_alike : (xs ys : List ℕ) → length xs ≡ length ys → zeros_for xs ≡ zeros_for ys
zeros_alike [] [] same = refl
zeros_alike [] (y ∷ ys) same = absurd (omega (arith, same))
zeros_alike (x ∷ xs) [] same = absurd (omega (arith, same))
zeros_alike (x ∷ xs) (y ∷ ys) same = ap (λ (bs : List ℕ). 0 ∷ bs) (zeros_alike xs ys (omega (arith, same)))

-- In pairs, the same frames with other payloads, as long.
abbrev pub AreLikewise : List Frame → List Frame → Type 0
AreLikewise [] [] = Unit {0}
AreLikewise (f ∷ fs) (g ∷ gs) = (g ≡ with_payload f g.payload) × (length f.payload ≡ length g.payload) × AreLikewise fs gs
AreLikewise fs gs = ⊥

pub likewise_push : (fs gs : List Frame) (f g : Frame) → AreLikewise fs gs → g ≡ with_payload f g.payload → length f.payload ≡ length g.payload → AreLikewise (fs ++ f ∷ []) (gs ++ g ∷ [])
likewise_push [] [] f g are is size = (is, size, tt)
likewise_push (x ∷ fs) (y ∷ gs) f g are is size = (are.0, are.1, likewise_push fs gs f g are.2 is size)
likewise_push _ _ f g are is size = absurd are

with_likewise : (group others : List Frame) (f g : Frame) → AreLikewise group others → g ≡ with_payload f g.payload → length f.payload ≡ length g.payload → AreLikewise (with_frame group f) (with_frame others g)
with_likewise group others f g are is size =
    subst (λ (h : Frame). AreLikewise (with_frame group f) (if is_data h then (if h.fin then [] else others ++ g ∷ []) else others)) (sym is) (by (is_data f) f.fin)
  where
    by : (data_frame final : Bool) → AreLikewise (if data_frame then (if final then [] else group ++ f ∷ []) else group) (if data_frame then (if final then [] else others ++ g ∷ []) else others)
    by true true = tt
    by true false = likewise_push group others f g are is size
    by false final = are

open_from : (fs gs group others : List Frame) → AreLikewise fs gs → AreLikewise group others → AreLikewise (fold with_frame group fs) (fold with_frame others gs)
open_from [] [] group others are so_far = so_far
open_from (f ∷ fs) (g ∷ gs) group others are so_far = open_from fs gs (with_frame group f) (with_frame others g) are.2 (with_likewise group others f g so_far are.0 are.1)
open_from _ _ group others are so_far = absurd are

pub open_likewise : (fs gs : List Frame) → AreLikewise fs gs → AreLikewise (unfinished fs) (unfinished gs)
open_likewise fs gs are = open_from fs gs [] [] are tt

pub same_first : (group others : List Frame) → AreLikewise group others → first_op others ≡ first_op group
same_first [] [] are = refl
same_first (f ∷ fs) (g ∷ gs) are = ap (λ (h : Frame). h.op) are.0
same_first _ _ are = absurd are

pub same_earlier : (group others : List Frame) → AreLikewise group others → length (payload_of group) ≡ length (payload_of others)
same_earlier [] [] are = refl
same_earlier (f ∷ fs) (g ∷ gs) are =
    let first = are.1 in
    let rest = same_earlier fs gs are.2 in
    omega (arith, first, rest, length-append f.payload (payload_of fs), length-append g.payload (payload_of gs))
same_earlier _ _ are = absurd are

-- ---- payloads

data_size : (c : Bool) (earlier other_earlier payload other : List ℕ) → AreAlikeData c earlier other_earlier payload other → length payload ≡ length other
data_size true earlier other_earlier payload other alike = alike.0
data_size false earlier other_earlier payload other alike = alike

pub payload_size : (group others : List Frame) (op : Op) (payload other : List ℕ) → AreAlikePayloads group others op payload other → length payload ≡ length other
payload_size group others Close payload other alike = alike.0
payload_size group others Continue payload other alike = data_size (is_of_text group Continue) (payload_of group) (payload_of others) payload other alike
payload_size group others Text payload other alike = alike.0
payload_size group others _ payload other alike = alike

data_alike : (c : Bool) (earlier other_earlier payload other part other_part : List ℕ) → length earlier ≡ length other_earlier → AreAlikeData c earlier other_earlier payload other → IsRedactedData c earlier payload part → IsRedactedData c other_earlier other other_part → part ≡ other_part
data_alike true earlier other_earlier payload other part other_part same alike r s =
    let all = texts_alike (earlier ++ payload) (other_earlier ++ other) (r.before ++ part) (s.before ++ other_part) alike.1 r.is s.is in
    (fronts_agree r.before s.before part other_part (r.same_place ∙ same ∙ sym s.same_place) all).1
data_alike false earlier other_earlier payload other part other_part same alike r s = r ∙ zeros_alike payload other alike ∙ sym s

pub payloads_alike : (group others : List Frame) (op : Op) (payload other part other_part : List ℕ) → AreLikewise group others → AreAlikePayloads group others op payload other → IsRedactedPayload group op payload part → IsRedactedPayload others op other other_part → part ≡ other_part
payloads_alike group others Close payload other part other_part are alike r s =
    r.2 ∙ (λ i. alike.1 i ++ texts_alike (drop 2 payload) (drop 2 other) r.0 s.0 alike.2 r.1 s.1 i) ∙ sym s.2
payloads_alike group others Continue payload other part other_part are alike r s =
    data_alike (is_of_text group Continue) (payload_of group) (payload_of others) payload other part other_part (same_earlier group others are) alike r
    (subst (λ (c : Bool). IsRedactedData c (payload_of others) other other_part) (ap is_text (same_first group others are)) s)
payloads_alike group others Text payload other part other_part are alike r s = data_alike true (payload_of group) (payload_of others) payload other part other_part (same_earlier group others are) alike r s
payloads_alike group others _ payload other part other_part are alike r s = r ∙ zeros_alike payload other alike ∙ sym s

-- ---- frames

pub frames_likewise : (before others fs gs : List Frame) → AreLikewise before others → AreAlikeFrames before others fs gs → AreLikewise (before ++ fs) (others ++ gs)
frames_likewise before others [] [] are alike = subst (λ (xs : List Frame). AreLikewise xs (others ++ [])) (sym (append-nil before)) (subst (AreLikewise before) (sym (append-nil others)) are)
frames_likewise before others (f ∷ fs) (g ∷ gs) are alike =
    let pushed = likewise_push before others f g are alike.0 (payload_size (unfinished before) (unfinished others) f.op f.payload g.payload alike.1) in
    let rest = frames_likewise (before ++ f ∷ []) (others ++ g ∷ []) fs gs pushed alike.2 in
    subst (λ (xs : List Frame). AreLikewise xs (others ++ g ∷ gs)) (append_assoc before (f ∷ []) fs) (subst (AreLikewise ((before ++ f ∷ []) ++ fs)) (append_assoc others (g ∷ []) gs) rest)
frames_likewise before others _ _ are alike = absurd alike

pub frames_alike : (before others fs gs hs ks : List Frame) → AreLikewise before others → AreAlikeFrames before others fs gs → AreRedacted before fs hs → AreRedacted others gs ks → hs ≡ ks
frames_alike before others [] [] [] [] are alike r s = refl
frames_alike before others [] [] [] (k ∷ ks) are alike r s = absurd s
frames_alike before others [] [] (h ∷ hs) ks are alike r s = absurd r
frames_alike before others (f ∷ fs) (g ∷ gs) [] ks are alike r s = absurd r
frames_alike before others (f ∷ fs) (g ∷ gs) (h ∷ hs) [] are alike r s = absurd s
frames_alike before others (f ∷ fs) (g ∷ gs) (h ∷ hs) (k ∷ ks) are alike r s =
    let other : IsRedactedPayload (unfinished others) f.op g.payload k.payload = subst (λ (o : Op). IsRedactedPayload (unfinished others) o g.payload k.payload) (ap (λ (x : Frame). x.op) alike.0) s.1 in
    let payload : h.payload ≡ k.payload = payloads_alike (unfinished before) (unfinished others) f.op f.payload g.payload h.payload k.payload (open_likewise before others are) alike.1 r.1 other in
    let first : h ≡ k = r.0 ∙ ap (λ (bs : List ℕ). with_payload f bs) payload ∙ sym (s.0 ∙ ap (λ (x : Frame). with_payload x k.payload) alike.0) in
    let pushed = likewise_push before others f g are alike.0 (payload_size (unfinished before) (unfinished others) f.op f.payload g.payload alike.1) in
    let rest = frames_alike (before ++ f ∷ []) (others ++ g ∷ []) fs gs hs ks pushed alike.2 r.2 s.2 in
    λ i. first i ∷ rest i
frames_alike before others _ _ hs ks are alike r s = absurd alike

-- ---- what follows them

module _ (role : Role) (limits : Limits) where
  closed_or_not : (fs : List Frame) → EndsWithClose fs → HasNoClose fs → ⊥
  closed_or_not fs closed none = none closed.0 [] closed.1 closed.3 closed.2

  begun_alike : (fs gs : List Frame) (rest other redacted other_redacted : List ℕ) → AreLikewise fs gs → AreAlikeBegun role limits fs gs rest other → IsRedactedBegun role limits fs rest redacted → IsRedactedBegun role limits gs other other_redacted → redacted ≡ other_redacted
  begun_alike fs gs rest other redacted other_redacted are a r s =
      let x = begun_by role limits fs rest redacted a.info a.begins r in
      let y = begun_by role limits gs other other_redacted a.info a.other_begins s in
      let head : a.begins.head ≡ a.other_begins.head = a.begins.encoded ∙ sym a.other_begins.encoded in
      let part = payloads_alike (unfinished fs) (unfinished gs) a.info.op (wire_payload a.info.key a.begins.following) (wire_payload a.info.key a.other_begins.following) x.part y.part (open_likewise fs gs are) a.payloads x.is_part y.is_part in
      x.redacted_is ∙ (λ i. head i ++ wire_payload a.info.key (part i)) ∙ sym y.redacted_is

  -- What a rest becomes, by what it is.
  after_close : (fs : List Frame) (rest redacted : List ℕ) → EndsWithClose fs → IsRedactedRest role limits fs rest redacted → redacted ≡ zeros_for rest
  after_close fs rest redacted ends (inl closed) = closed.1
  after_close fs rest redacted ends (inr (inl none)) = absurd (closed_or_not fs ends none.0)
  after_close fs rest redacted ends (inr (inr some)) = absurd (closed_or_not fs ends some.0)

  without_head : (fs : List Frame) (rest redacted : List ℕ) → HasNoClose fs → ((info : HeadInfo) → BeginsWithHead role limits fs rest info → ⊥) → IsRedactedRest role limits fs rest redacted → redacted ≡ rest
  without_head fs rest redacted no_close no_head (inl closed) = absurd (closed_or_not fs closed.0 no_close)
  without_head fs rest redacted no_close no_head (inr (inl none)) = none.2
  without_head fs rest redacted no_close no_head (inr (inr some)) = absurd (no_head some.1.info some.1.begins)

  with_head : (fs : List Frame) (rest redacted : List ℕ) (info : HeadInfo) → HasNoClose fs → BeginsWithHead role limits fs rest info → IsRedactedRest role limits fs rest redacted → IsRedactedBegun role limits fs rest redacted
  with_head fs rest redacted info no_close begins (inl closed) = absurd (closed_or_not fs closed.0 no_close)
  with_head fs rest redacted info no_close begins (inr (inl none)) = absurd (none.1 info begins)
  with_head fs rest redacted info no_close begins (inr (inr some)) = some.1

  rests_alike : (fs gs : List Frame) (rest other redacted other_redacted : List ℕ) → AreLikewise fs gs → AreAlikeRests role limits fs gs rest other → IsRedactedRest role limits fs rest redacted → IsRedactedRest role limits gs other other_redacted → redacted ≡ other_redacted
  rests_alike fs gs rest other redacted other_redacted are (inl (closed, other_closed, size)) r s =
      after_close fs rest redacted closed r ∙ zeros_alike rest other size ∙ sym (after_close gs other other_redacted other_closed s)
  rests_alike fs gs rest other redacted other_redacted are (inr (inl (no_close, other_no_close, no_head, same))) r s =
      without_head fs rest redacted no_close no_head.0 r ∙ same ∙ sym (without_head gs other other_redacted other_no_close no_head.1 s)
  rests_alike fs gs rest other redacted other_redacted are (inr (inr (no_close, other_no_close, a))) r s =
      begun_alike fs gs rest other redacted other_redacted are a (with_head fs rest redacted a.info no_close a.begins r) (with_head gs other other_redacted a.info other_no_close a.other_begins s)

  -- ---- a stream

  later_size : (v : Verdict) (bytes other : List ℕ) → length bytes ≡ length other → length (unjudged v bytes) ≡ length (unjudged v other)
  later_size (Accepted s) bytes other same = refl
  later_size (Cut s) bytes other same = refl
  later_size (Refused q) bytes other same = omega (arith, same, length-drop (q.offset + 1) bytes, length-drop (q.offset + 1) other)

  pub alike_is_one : (bytes other redacted other_redacted : List ℕ) → AreAlikeStreams role limits bytes other → IsRedaction role limits bytes redacted → IsRedaction role limits other other_redacted → redacted ≡ other_redacted
  alike_is_one bytes other redacted other_redacted a r s =
      let fs = a.frames in
      let gs = a.other_frames in
      let v = a.verdict in
      let x = redaction_at role limits bytes redacted fs v a.is_verdict r in
      let y = redaction_at role limits other other_redacted gs v a.other_verdict s in
      let frames = frames_alike [] [] fs gs x.frames y.frames tt a.frames_alike x.are_frames y.are_frames in
      let are = frames_likewise [] [] fs gs tt a.frames_alike in
      let rest = rests_alike fs gs (drop (length (stream fs)) (judged_bytes v bytes)) (drop (length (stream gs)) (judged_bytes v other)) x.rest y.rest are a.rests_alike x.is_rest y.is_rest in
      let later = zeros_alike (unjudged v bytes) (unjudged v other) (later_size v bytes other a.same_size) in
      x.whole ∙ (λ i. stream (frames i) ++ (rest i ++ later i)) ∙ sym y.whole
