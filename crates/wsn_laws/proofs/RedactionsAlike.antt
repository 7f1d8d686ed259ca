-- Streams with one redaction are alike.
use Rattle.std.proofs.Common.{◌≡◌, ℕ, zero, suc, ◌<◌, ◌≤◌, Bool, true, false, List, [], ◌∷◌, ◌++◌, length, take, drop, inl, inr, refl, sym, ap, ◌∙◌, subst, append-nil, append_assoc, length-append, arith}
use Rattle.std.specs.Prelude.{◌⊎◌}
use Rattle.std.specs.List.{AllByRecursion, concat, flat_map, slice_index}
use Rattle.wsn_wire.specs.declared.endpoint.Role.{Role}
use Rattle.wsn_wire.specs.declared.opcode.Op.{Op}
use Rattle.wsn_wire.specs.declared.opcode.Op.TheVariants.{Continue, Text, Close}
use Rattle.wsn_wire.specs.Frame.{Frame, IsBytes, stream, wire_payload}
use Rattle.wsn_text.specs.Utf8.{IsCharacter, BeginsText}
use Rattle.wsn_text.proofs.Prefixes.{begins-nil}
use Rattle.wsn_rules.specs.declared.head_info.HeadInfo.{HeadInfo}
use Rattle.wsn_rules.specs.declared.verdict.Verdict.{Verdict}
use Rattle.wsn_rules.specs.Limits.{Limits}
use Rattle.wsn_rules.specs.AfterClose.{HasNoClose, EndsWithClose}
use Rattle.wsn_rules.specs.Group.{unfinished, payload_of}
use Rattle.wsn_rules.specs.Heads.{BeginsWithHead}
use Rattle.wsn_rules.specs.Lawful.{IsLawful}
use Rattle.wsn_rules.specs.Verdict.{IsVerdict, judged_bytes}
use Rattle.wsn_rules.proofs.Groups.{group_of_lawful}
use Rattle.wsn_rules.proofs.LawfulLists.{lawful_front}
use Rattle.wsn_rules.proofs.OneHead.{one_begun}
use Rattle.wsn_rules.proofs.OneVerdict.{all_of_verdict, one_verdict}
use Rattle.wsn_rules.proofs.Prefixes.{append_cancel}
use Rattle.wsn_redact.specs.StandIns.{single_stand_in, stand_in, stand_in_of, IsRedactedText, IsRedacted, stood, BeginsCharacter}
use Rattle.wsn_redact.specs.Redaction.{zeros_for, is_text, is_of_text, IsRedactedPayload, IsRedactedBegun, IsRedactedRest, with_payload, redacted_frames, unjudged, IsRedaction}
use Rattle.wsn_laws.specs.AlikeStreams.{AreOfOneKind, first_kinds, AreAlikeBeginnings, AreAlikeTexts, AreAlikeData, AreAlikePayloads, AreAlikeFrames, AreAlikeBegun, AreAlikeRests, AreAlikeStreams}
use Rattle.wsn_redact.proofs.StoodTexts.{length-stood, stand_in_some, stand_in_length, is_stood, stood_is, redacted_begins, none_begun, character_stood, text_stood, one_end}
use Rattle.wsn_redact.proofs.RedactedPayloads.{payload_is, payload_length, lawful_text, are_redacted, one_frames}
use Rattle.wsn_redact.proofs.OneRedaction.{rest_length, frames_length, redaction_length}
use Rattle.wsn_redact.proofs.KeptParts.{MayBegin}
use Rattle.wsn_redact.proofs.RedactedSteps.{may_begun, may_lawful}
use Rattle.wsn_redact.proofs.QuietPayloads.{group_begins}
use Rattle.wsn_redact.proofs.RedactedVerdicts.{SameGroup, none_same, redacted_frame, same_after, frames_stay_lawful, no_close_stays, close_stays}
use Rattle.wsn_redact.proofs.AcceptedTwice.{frames_twice}
use Rattle.wsn_redact.proofs.TextsStay.{begins_alike}
use Rattle.wsn_redact.proofs.PayloadsAlike.{body_of}
use Rattle.wsn_redact.proofs.PayloadsStay.{head_before, head_after}
use Rattle.wsn_redact.proofs.SameVerdicts.{verdict_stays}
use Rattle.wsn_redact.proofs.TwiceIsOnce.{whole_text, divided, redaction_twice}
use Rattle.wsn_laws.proofs.AlikeRedactions.{first_alike}
use Rattle.wsn_redact.proofs.KnownParts.{begun_by}
use Rattle.wsn_laws.proofs.KindsOfBytes.{single_back, first_back}
use Rattle.wsn_wire.proofs.FrameLemmas.{wire_payload_twice}

-- ---- the character with which a text begins

no_character : IsCharacter [] → ⊥
no_character (inl none) = none
no_character (inr (inl none)) = none
no_character (inr (inr (inl none))) = none
no_character (inr (inr (inr (inl none)))) = none
no_character (inr (inr (inr (inr (inl none))))) = none
no_character (inr (inr (inr (inr (inr (inl none)))))) = none
no_character (inr (inr (inr (inr (inr (inr (inl none))))))) = none
no_character (inr (inr (inr (inr (inr (inr (inr (inl none)))))))) = none
no_character (inr (inr (inr (inr (inr (inr (inr (inr (inl none))))))))) = none
no_character (inr (inr (inr (inr (inr (inr (inr (inr (inr none))))))))) = none

-- It begins with a whole character.
record HasWhole (text : List ℕ) : Type 0 where
  b : ℕ
  bytes : List ℕ
  rest : List ℕ
  fits : IsCharacter (b ∷ bytes)
  begins : BeginsText rest
  is : text ≡ (b ∷ bytes) ++ rest

-- It is the first bytes of a character, and not all.
record HasPart (text : List ℕ) : Type 0 where
  b : ℕ
  bytes : List ℕ
  m : ℕ
  missing : List ℕ
  fits : IsCharacter (b ∷ (bytes ++ m ∷ missing))
  is : text ≡ b ∷ bytes

first_of : (text : List ℕ) → BeginsText text → (text ≡ []) ⊎ HasWhole text ⊎ HasPart text
first_of text begins = by s.characters s.each s.text_is
  where
    s : IsRedactedText text (stood [] text)
    s = stood_is text begins

    part : (b : ℕ) (bytes missing : List ℕ) → IsCharacter (b ∷ (bytes ++ missing)) → text ≡ b ∷ bytes → (text ≡ []) ⊎ HasWhole text ⊎ HasPart text
    part b bytes [] fits is = inr (inl (record { b = b; bytes = bytes; rest = []; fits = subst (λ (bs : List ℕ). IsCharacter (b ∷ bs)) (append-nil bytes) fits; begins = begins-nil; is = is ∙ sym (append-nil (b ∷ bytes)) }))
    part b bytes (m ∷ missing) fits is = inr (inr (record { b = b; bytes = bytes; m = m; missing = missing; fits = fits; is = is }))

    last : (begun : List ℕ) → BeginsCharacter begun → text ≡ begun → (text ≡ []) ⊎ HasWhole text ⊎ HasPart text
    last [] c is = inl is
    last (b ∷ bytes) c is = part b bytes c.0 c.1 is

    by : (characters : List (List ℕ)) → AllByRecursion IsCharacter characters → text ≡ concat characters ++ s.begun → (text ≡ []) ⊎ HasWhole text ⊎ HasPart text
    by [] each is = last s.begun s.begins is
    by ([] ∷ cs) each is = absurd (no_character each.0)
    by ((b ∷ bytes) ∷ cs) each is =
        let rest = concat cs ++ s.begun in
        let it : IsRedactedText rest (flat_map stand_in_of cs ++ take (length s.begun) (stand_in_of s.begun)) = record { characters = cs; begun = s.begun; each = each.1; begins = s.begins; text_is = refl; redacted_is = refl } in
        inr (inl (record { b = b; bytes = bytes; rest = rest; fits = each.0; begins = redacted_begins rest _ it; is = is ∙ append_assoc (b ∷ bytes) (concat cs) s.begun }))

-- ---- texts with one redaction

front_byte : (xs ys : List ℕ) → 0 < length xs → slice_index (xs ++ ys) 0 ≡ slice_index xs 0
front_byte [] ys some = absurd (omega (arith, some))
front_byte (x ∷ xs) ys some = refl

taken_byte : (n : ℕ) (xs : List ℕ) → slice_index (take (suc n) xs) 0 ≡ slice_index xs 0
taken_byte n [] = refl
taken_byte n (x ∷ xs) = refl

same_length : (text other : List ℕ) → stood [] text ≡ stood [] other → length text ≡ length other
same_length text other same = sym (length-stood [] text) ∙ ap (λ (bs : List ℕ). length bs) same ∙ length-stood [] other

whole_stood : (text : List ℕ) (w : HasWhole text) → stood [] text ≡ stand_in w.b ++ stood [] w.rest
whole_stood text w = ap (λ (bs : List ℕ). stood [] bs) w.is ∙ character_stood (w.b ∷ w.bytes) w.rest w.fits

part_stood : (text : List ℕ) (p : HasPart text) → stood [] text ≡ take (suc (length p.bytes)) (stand_in p.b)
part_stood text p = ap (λ (bs : List ℕ). stood [] bs) p.is ∙ text_stood [] (p.b ∷ p.bytes) tt (p.m ∷ p.missing, p.fits)

whole_byte : (text : List ℕ) (w : HasWhole text) → slice_index (stood [] text) 0 ≡ slice_index (stand_in w.b) 0
whole_byte text w = ap (λ (bs : List ℕ). slice_index bs 0) (whole_stood text w) ∙ front_byte (stand_in w.b) (stood [] w.rest) (stand_in_some w.b)

part_byte : (text : List ℕ) (p : HasPart text) → slice_index (stood [] text) 0 ≡ slice_index (stand_in p.b) 0
part_byte text p = ap (λ (bs : List ℕ). slice_index bs 0) (part_stood text p) ∙ taken_byte (length p.bytes) (stand_in p.b)

-- One can't begin with a whole character and the other be a part of one.
not_both : (text other : List ℕ) → HasWhole text → HasPart other → stood [] text ≡ stood [] other → ⊥
not_both text other w p same =
    let first = sym (whole_byte text w) ∙ ap (λ (bs : List ℕ). slice_index bs 0) same ∙ part_byte other p in
    let kind = first_back w.b p.b w.bytes (p.bytes ++ p.m ∷ p.missing) w.fits p.fits first in
    let stands = ap (λ (bs : List ℕ). length bs) (first_alike w.b p.b kind) in
    let mine = stand_in_length (w.b ∷ w.bytes) w.fits in
    let its = stand_in_length (p.b ∷ (p.bytes ++ p.m ∷ p.missing)) p.fits in
    let size = same_length text other same in
    let text_size = ap (λ (bs : List ℕ). length bs) w.is in
    let other_size = ap (λ (bs : List ℕ). length bs) p.is in
    omega (arith, stands, mine, its, size, text_size, other_size, length-append (w.b ∷ w.bytes) w.rest, length-append p.bytes (p.m ∷ p.missing))

none_alike : AreAlikeBeginnings [] []
none_alike = record { characters = []; other_characters = []; pairs = tt; begun = []; other_begun = []; begins = none_begun; other_begins = none_begun; begun_alike = tt; text_is = refl; other_is = refl }

parts_alike : (text other : List ℕ) → HasPart text → HasPart other → stood [] text ≡ stood [] other → AreAlikeBeginnings text other
parts_alike text other p q same =
    let first = sym (part_byte text p) ∙ ap (λ (bs : List ℕ). slice_index bs 0) same ∙ part_byte other q in
    let kind = first_back p.b q.b (p.bytes ++ p.m ∷ p.missing) (q.bytes ++ q.m ∷ q.missing) p.fits q.fits first in
    let size = same_length text other same in
    let text_size = ap (λ (bs : List ℕ). length bs) p.is in
    let other_size = ap (λ (bs : List ℕ). length bs) q.is in
    record {
      characters = [];
      other_characters = [];
      pairs = tt;
      begun = p.b ∷ p.bytes;
      other_begun = q.b ∷ q.bytes;
      begins = (p.m ∷ p.missing, p.fits);
      other_begins = (q.m ∷ q.missing, q.fits);
      begun_alike = (kind, omega (arith, size, text_size, other_size));
      text_is = p.is;
      other_is = q.is;
    }

record HaveOneFirst (text other : List ℕ) (w : HasWhole text) (x : HasWhole other) : Type 0 where
  kind : AreOfOneKind first_kinds w.b x.b
  size : length w.bytes ≡ length x.bytes
  rests : stood [] w.rest ≡ stood [] x.rest

one_first : (text other : List ℕ) (w : HasWhole text) (x : HasWhole other) → stood [] text ≡ stood [] other → HaveOneFirst text other w x
one_first text other w x same =
    let first = sym (whole_byte text w) ∙ ap (λ (bs : List ℕ). slice_index bs 0) same ∙ whole_byte other x in
    let kind = first_back w.b x.b w.bytes x.bytes w.fits x.fits first in
    let stand = first_alike w.b x.b kind in
    let stands = ap (λ (bs : List ℕ). length bs) stand in
    let mine = stand_in_length (w.b ∷ w.bytes) w.fits in
    let its = stand_in_length (x.b ∷ x.bytes) x.fits in
    record {
      kind = kind;
      size = omega (arith, stands, mine, its);
      rests = append_cancel (stand_in x.b) (stood [] w.rest) (stood [] x.rest) (ap (λ (bs : List ℕ). bs ++ stood [] w.rest) (sym stand) ∙ sym (whole_stood text w) ∙ same ∙ whole_stood other x);
    }

whole_alike : (text other : List ℕ) (w : HasWhole text) (x : HasWhole other) → HaveOneFirst text other w x → AreAlikeBeginnings w.rest x.rest → AreAlikeBeginnings text other
whole_alike text other w x f a = record {
  characters = (w.b ∷ w.bytes) ∷ a.characters;
  other_characters = (x.b ∷ x.bytes) ∷ a.other_characters;
  pairs = (w.fits, x.fits, (f.kind, f.size), a.pairs);
  begun = a.begun;
  other_begun = a.other_begun;
  begins = a.begins;
  other_begins = a.other_begins;
  begun_alike = a.begun_alike;
  text_is = w.is ∙ ap (λ (bs : List ℕ). (w.b ∷ w.bytes) ++ bs) a.text_is ∙ sym (append_assoc (w.b ∷ w.bytes) (concat a.characters) a.begun);
  other_is = x.is ∙ ap (λ (bs : List ℕ). (x.b ∷ x.bytes) ++ bs) a.other_is ∙ sym (append_assoc (x.b ∷ x.bytes) (concat a.other_characters) a.other_begun);
}

both_empty : (text other : List ℕ) → length text ≡ 0 → length other ≡ 0 → AreAlikeBeginnings text other
both_empty [] [] one two = none_alike
both_empty [] (y ∷ ys) one two = absurd (omega (arith, two))
both_empty (x ∷ xs) other one two = absurd (omega (arith, one))

-- The texts have at most n bytes.
alike_within : (n : ℕ) (text other : List ℕ) → length text ≤ n → BeginsText text → BeginsText other → stood [] text ≡ stood [] other → AreAlikeBeginnings text other
alike_within zero text other few begins also same =
    let size = same_length text other same in
    both_empty text other (omega (arith, few)) (omega (arith, few, size))
alike_within (suc n) text other few begins also same = elim (first_of text begins) [
  | inl none ↦
      let size = same_length text other same in
      let nothing = ap (λ (bs : List ℕ). length bs) none in
      both_empty text other nothing (omega (arith, nothing, size))
  | inr (inl w) ↦ elim (first_of other also) [
    | inl none ↦
        let size = same_length text other same in
        let nothing = ap (λ (bs : List ℕ). length bs) none in
        both_empty text other (omega (arith, nothing, size)) nothing
    | inr (inl x) ↦
        let f = one_first text other w x same in
        let size = ap (λ (bs : List ℕ). length bs) w.is in
        whole_alike text other w x f (alike_within n w.rest x.rest (omega (arith, few, size, length-append (w.b ∷ w.bytes) w.rest)) w.begins x.begins f.rests)
    | inr (inr p) ↦ absurd (not_both text other w p same)
  ]
  | inr (inr p) ↦ elim (first_of other also) [
    | inl none ↦
        let size = same_length text other same in
        let nothing = ap (λ (bs : List ℕ). length bs) none in
        both_empty text other (omega (arith, nothing, size)) nothing
    | inr (inl x) ↦ absurd (not_both other text x p (sym same))
    | inr (inr q) ↦ parts_alike text other p q same
  ]
]

pub texts_back : (text other redacted : List ℕ) → IsRedacted text redacted → IsRedacted other redacted → AreAlikeTexts text other
texts_back text other redacted (inl r) (inl s) =
    inl (alike_within (length text) text other (omega arith) (redacted_begins text redacted r) (redacted_begins other redacted s) (sym (is_stood text redacted r) ∙ is_stood other redacted s))
texts_back text other redacted (inl r) (inr s) = absurd (s.goes_wrong ((begins_alike other redacted (inr s)).1 ((begins_alike text redacted (inl r)).0 (redacted_begins text redacted r))))
texts_back text other redacted (inr r) (inl s) = absurd (r.goes_wrong ((begins_alike text redacted (inr r)).1 ((begins_alike other redacted (inl s)).0 (redacted_begins other redacted s))))
texts_back text other redacted (inr r) (inr s) =
    let same = one_end r.front_redacted s.front_redacted (single_stand_in r.bad) (single_stand_in s.bad) (sym r.redacted_is ∙ s.redacted_is) in
    let fronts : stood [] r.front ≡ stood [] s.front = sym (is_stood r.front r.front_redacted r.is_front) ∙ same.0 ∙ is_stood s.front s.front_redacted s.is_front in
    inr (record {
      front = r.front;
      other_front = s.front;
      fronts = alike_within (length r.front) r.front s.front (omega arith) (redacted_begins r.front r.front_redacted r.is_front) (redacted_begins s.front s.front_redacted s.is_front) fronts;
      bad = r.bad;
      other_bad = s.bad;
      bad_alike = single_back r.bad s.bad same.1;
      text_is = r.text_is;
      other_is = s.text_is;
      goes_wrong = r.goes_wrong;
      other_goes_wrong = s.goes_wrong;
    })

-- ---- payloads

data_back : (c : Bool) (earlier other_earlier payload other : List ℕ) → length payload ≡ length other → (c ≡ true → AreAlikeTexts (earlier ++ payload) (other_earlier ++ other)) → AreAlikeData c earlier other_earlier payload other
data_back true earlier other_earlier payload other size texts = (size, texts refl)
data_back false earlier other_earlier payload other size texts = size

-- What a frame may be after the frames of an open message.
record MayHave (group : List Frame) (op : Op) : Type 0 where
  may : MayBegin group op
  begins : is_of_text group op ≡ true → BeginsText (payload_of group)

module _ (group others redacted : List Frame) (same : SameGroup group redacted) (other_same : SameGroup others redacted) (payload other part : List ℕ) where
  either_text : (op : Op) → MayHave group op → MayHave others op → IsRedactedPayload group op payload part → IsRedactedPayload others op other part → is_of_text group op ≡ true → is_of_text others op ≡ true → AreAlikeTexts (payload_of group ++ payload) (payload_of others ++ other)
  either_text op may other_may r s is also =
      texts_back (payload_of group ++ payload) (payload_of others ++ other) (payload_of redacted ++ part) (whole_text group redacted same payload part op may.may may.begins r is) (whole_text others redacted other_same other part op other_may.may other_may.begins s also)

  payloads_back : (op : Op) → MayHave group op → MayHave others op → IsRedactedPayload group op payload part → IsRedactedPayload others op other part → AreAlikePayloads group others op payload other
  payloads_back op may other_may r s = by op may other_may r s (sym (payload_length group op payload part r) ∙ payload_length others op other part s)
    where
      by : (o : Op) → MayHave group o → MayHave others o → IsRedactedPayload group o payload part → IsRedactedPayload others o other part → length payload ≡ length other → AreAlikePayloads group others o payload other
      by Close m n x y size =
          let b = body_of payload part x in
          let c = body_of other part y in
          (size, sym b.code ∙ c.code, texts_back (drop 2 payload) (drop 2 other) (drop 2 part) b.reason c.reason)
      by Continue m n x y size = data_back (is_of_text group Continue) (payload_of group) (payload_of others) payload other size (λ is. either_text Continue m n x y is (ap is_text (sym other_same.first ∙ same.first) ∙ is))
      by Text m n x y size = (size, either_text Text m n x y refl refl)
      by _ m n x y size = size

-- ---- frames

module _ (role : Role) (limits : Limits) where
  may_have : (fs : List Frame) (op : Op) → IsLawful role limits fs → MayBegin (unfinished fs) op → MayHave (unfinished fs) op
  may_have fs op lawful may = record { may = may; begins = λ is. group_begins limits (unfinished fs) op may (group_of_lawful role limits fs lawful) is }

  -- The frames before a lawful one are lawful.
  frames_back : (before others after fs gs : List Frame) → IsLawful role limits (before ++ fs) → IsLawful role limits (others ++ gs) → SameGroup (unfinished before) (unfinished after) → SameGroup (unfinished others) (unfinished after) → redacted_frames before fs ≡ redacted_frames others gs → AreAlikeFrames before others fs gs
  frames_back before others after [] [] lawful other_lawful same other_same is = tt
  frames_back before others after (f ∷ fs) (g ∷ gs) lawful other_lawful same other_same is =
      let law = lawful.each before fs f refl in
      let other_law = other_lawful.each others gs g refl in
      let h = redacted_frame (unfinished before) f in
      let k = redacted_frame (unfinished others) g in
      let first : redacted_frame (unfinished before) f ≡ redacted_frame (unfinished others) g = cc in
      let rest : redacted_frames (before ++ f ∷ []) fs ≡ redacted_frames (others ++ g ∷ []) gs = cc in
      let op : g.op ≡ f.op = ap (λ (x : Frame). x.op) (sym first) in
      let part : k.payload ≡ h.payload = ap (λ (x : Frame). x.payload) (sym first) in
      let mine = payload_is (unfinished before) f.op f.payload (lawful_text role limits before f law) in
      let its = payload_is (unfinished others) g.op g.payload (lawful_text role limits others g other_law) in
      let own : IsRedactedPayload (unfinished others) f.op g.payload h.payload = subst (λ (o : Op). IsRedactedPayload (unfinished others) o g.payload h.payload) op (subst (λ (bs : List ℕ). IsRedactedPayload (unfinished others) g.op g.payload bs) part its) in
      let may = may_have before f.op (lawful_front role limits before (f ∷ fs) lawful) (may_lawful role limits before f law) in
      let other_may_own : MayBegin (unfinished others) f.op = subst (λ (o : Op). MayBegin (unfinished others) o) op (may_lawful role limits others g other_law) in
      let other_may = may_have others f.op (lawful_front role limits others (g ∷ gs) other_lawful) other_may_own in
      let next = same_after role limits before after f law same in
      let other_next : SameGroup (unfinished (others ++ g ∷ [])) (unfinished (after ++ h ∷ [])) = subst (λ (x : Frame). SameGroup (unfinished (others ++ g ∷ [])) (unfinished (after ++ x ∷ []))) (sym first) (same_after role limits others after g other_law other_same) in (
        sym (ap (λ (x : Frame). with_payload x g.payload) first),
        payloads_back (unfinished before) (unfinished others) (unfinished after) same other_same f.payload g.payload h.payload f.op may other_may mine own,
        frames_back (before ++ f ∷ []) (others ++ g ∷ []) (after ++ h ∷ []) fs gs (subst (IsLawful role limits) (sym (append_assoc before (f ∷ []) fs)) lawful) (subst (IsLawful role limits) (sym (append_assoc others (g ∷ []) gs)) other_lawful) next other_next rest,
      )
  frames_back before others after _ _ lawful other_lawful same other_same is = absurd cc

-- ---- what follows them

module _ (role : Role) (limits : Limits) (fs gs hs : List Frame) (lawful : IsLawful role limits fs) (other_lawful : IsLawful role limits gs) (same : SameGroup (unfinished fs) (unfinished hs)) (other_same : SameGroup (unfinished gs) (unfinished hs))
    (streams : length (stream hs) ≡ length (stream fs)) (other_streams : length (stream hs) ≡ length (stream gs)) where
  begun_back : (seen other_seen rest : List ℕ) → IsRedactedBegun role limits fs seen rest → IsRedactedBegun role limits gs other_seen rest → AreAlikeBegun role limits fs gs seen other_seen
  begun_back seen other_seen rest r s =
      let info = r.info in
      let b = r.begins in
      let mine : BeginsWithHead role limits hs rest info = subst (λ (bs : List ℕ). BeginsWithHead role limits hs bs info) (sym r.redacted_is) (head_after role limits fs hs lawful same streams seen info b (wire_payload info.key r.part)) in
      let its : BeginsWithHead role limits hs rest s.info = subst (λ (bs : List ℕ). BeginsWithHead role limits hs bs s.info) (sym s.redacted_is) (head_after role limits gs hs other_lawful other_same other_streams other_seen s.info s.begins (wire_payload s.info.key s.part)) in
      let info_is : s.info ≡ info = one_begun role limits hs rest s.info info its mine in
      let c : BeginsWithHead role limits gs other_seen info = subst (λ (i : HeadInfo). BeginsWithHead role limits gs other_seen i) info_is s.begins in
      let x = begun_by role limits gs other_seen rest info c s in
      let head : b.head ≡ c.head = b.encoded ∙ sym c.encoded in
      let wires : wire_payload info.key r.part ≡ wire_payload info.key x.part = append_cancel c.head (wire_payload info.key r.part) (wire_payload info.key x.part) (ap (λ (bs : List ℕ). bs ++ wire_payload info.key r.part) (sym head) ∙ sym r.redacted_is ∙ x.redacted_is) in
      let part : x.part ≡ r.part = sym (wire_payload_twice info.key x.part) ∙ ap (λ (bs : List ℕ). wire_payload info.key bs) (sym wires) ∙ wire_payload_twice info.key r.part in
      let own = subst (λ (bs : List ℕ). IsRedactedPayload (unfinished gs) info.op (wire_payload info.key c.following) bs) part x.is_part in
      record {
        info = info;
        begins = b;
        other_begins = c;
        payloads = payloads_back (unfinished fs) (unfinished gs) (unfinished hs) same other_same (wire_payload info.key b.following) (wire_payload info.key c.following) r.part info.op
            (may_have role limits fs info.op lawful (may_begun role limits fs seen info b)) (may_have role limits gs info.op other_lawful (may_begun role limits gs other_seen info c)) r.is_part own;
      }

  -- A head that begins the redaction begins the bytes, of either stream.
  other_head_there : (seen rest : List ℕ) → IsRedactedBegun role limits fs seen rest → (info : HeadInfo) × BeginsWithHead role limits gs rest info
  other_head_there seen rest s = (
    s.info,
    head_before role limits gs hs other_lawful other_same other_streams rest s.info (subst (λ (bs : List ℕ). BeginsWithHead role limits hs bs s.info) (sym s.redacted_is) (head_after role limits fs hs lawful same streams seen s.info s.begins (wire_payload s.info.key s.part))),
  )

  head_there : (seen rest : List ℕ) → IsRedactedBegun role limits gs seen rest → (info : HeadInfo) × BeginsWithHead role limits fs rest info
  head_there seen rest s = (
    s.info,
    head_before role limits fs hs lawful same streams rest s.info (subst (λ (bs : List ℕ). BeginsWithHead role limits hs bs s.info) (sym s.redacted_is) (head_after role limits gs hs other_lawful other_same other_streams seen s.info s.begins (wire_payload s.info.key s.part))),
  )

  rests_back : (seen other_seen rest : List ℕ) → (EndsWithClose fs → EndsWithClose hs) → (EndsWithClose gs → EndsWithClose hs) → (HasNoClose fs → HasNoClose hs) → (HasNoClose gs → HasNoClose hs) → IsRedactedRest role limits fs seen rest → IsRedactedRest role limits gs other_seen rest → AreAlikeRests role limits fs gs seen other_seen
  rests_back seen other_seen rest closes other_closes opens other_opens r s = by r s
    where
      closed_or_not : EndsWithClose hs → HasNoClose hs → ⊥
      closed_or_not closed none = none closed.0 [] closed.1 closed.3 closed.2

      by : IsRedactedRest role limits fs seen rest → IsRedactedRest role limits gs other_seen rest → AreAlikeRests role limits fs gs seen other_seen
      by (inl x) (inl y) = inl (x.0, y.0, sym (rest_length role limits fs seen rest r) ∙ rest_length role limits gs other_seen rest s)
      by (inl x) (inr (inl y)) = absurd (closed_or_not (closes x.0) (other_opens y.0))
      by (inl x) (inr (inr y)) = absurd (closed_or_not (closes x.0) (other_opens y.0))
      by (inr (inl x)) (inl y) = absurd (closed_or_not (other_closes y.0) (opens x.0))
      by (inr (inr x)) (inl y) = absurd (closed_or_not (other_closes y.0) (opens x.0))
      by (inr (inl x)) (inr (inl y)) = inr (inl (x.0, y.0, (x.1, y.1), sym x.2 ∙ y.2))
      by (inr (inl x)) (inr (inr y)) = let h = head_there other_seen rest y.1 in absurd (x.1 h.0 (subst (λ (bs : List ℕ). BeginsWithHead role limits fs bs h.0) x.2 h.1))
      by (inr (inr x)) (inr (inl y)) = let h = other_head_there seen rest x.1 in absurd (y.1 h.0 (subst (λ (bs : List ℕ). BeginsWithHead role limits gs bs h.0) y.2 h.1))
      by (inr (inr x)) (inr (inr y)) = inr (inr (x.0, y.0, begun_back seen other_seen rest x.1 y.1))

-- ---- streams

module _ (role : Role) (limits : Limits) where
  -- The parts of a redaction, with the frames as computed.
  record HasParts (bytes redacted : List ℕ) (fs hs : List Frame) (v : Verdict) : Type 0 where
    lawful : IsLawful role limits fs
    same : SameGroup (unfinished fs) (unfinished hs)
    streams : length (stream hs) ≡ length (stream fs)
    is_rest : IsRedactedRest role limits fs (drop (length (stream fs)) (judged_bytes v bytes)) (drop (length (stream hs)) (judged_bytes v redacted))
    closes : EndsWithClose fs → EndsWithClose hs
    opens : HasNoClose fs → HasNoClose hs

  parts_of : (bytes redacted : List ℕ) (r : IsRedaction role limits bytes redacted) → HasParts bytes redacted r.frames (redacted_frames [] r.frames) r.verdict
  parts_of bytes redacted r =
      let fs = r.frames in
      let v = r.verdict in
      let at = r.is in
      let hs = redacted_frames [] fs in
      let seen = drop (length (stream fs)) (judged_bytes v bytes) in
      let lawful = (all_of_verdict role limits bytes fs v r.is_verdict).lawful in
      let are = are_redacted role limits [] fs lawful in
      let streams : length (stream hs) ≡ length (stream fs) = frames_length [] fs hs are in
      let whole : redacted ≡ stream hs ++ (at.rest ++ zeros_for (unjudged v bytes)) = at.whole ∙ ap (λ (ks : List Frame). stream ks ++ (at.rest ++ zeros_for (unjudged v bytes))) (one_frames [] fs at.frames hs at.are_frames are) in
      let d = divided role limits bytes fs hs at.rest redacted v r.is_verdict streams (rest_length role limits fs seen at.rest at.is_rest) whole in
      record {
        lawful = lawful;
        same = (frames_stay_lawful role limits fs lawful).same;
        streams = streams;
        is_rest = subst (λ (bs : List ℕ). IsRedactedRest role limits fs seen bs) (sym d.rest_is) at.is_rest;
        closes = close_stays fs;
        opens = no_close_stays fs;
      }

  -- The redaction has the same verdict as each.
  alike_by : (bytes other redacted : List ℕ) (r : IsRedaction role limits bytes redacted) (s : IsRedaction role limits other redacted) → IsVerdict role limits redacted (redacted_frames [] r.frames) r.verdict → IsVerdict role limits redacted (redacted_frames [] s.frames) s.verdict → AreAlikeStreams role limits bytes other
  alike_by bytes other redacted r s mine its =
      let fs = r.frames in
      let gs = s.frames in
      let same = one_verdict role limits redacted (redacted_frames [] fs) (redacted_frames [] gs) r.verdict s.verdict mine its in
      let x = parts_of bytes redacted r in
      let y = subst (λ (v : Verdict). HasParts other redacted gs (redacted_frames [] fs) v) (sym same.1) (subst (λ (hs : List Frame). HasParts other redacted gs hs s.verdict) (sym same.0) (parts_of other redacted s)) in
      let hs = redacted_frames [] fs in
      record {
        verdict = r.verdict;
        frames = fs;
        other_frames = gs;
        is_verdict = r.is_verdict;
        other_verdict = subst (λ (v : Verdict). IsVerdict role limits other gs v) (sym same.1) s.is_verdict;
        same_size = sym (redaction_length role limits bytes redacted r) ∙ redaction_length role limits other redacted s;
        frames_alike = frames_back role limits [] [] [] fs gs x.lawful y.lawful none_same none_same same.0;
        rests_alike =
            rests_back role limits fs gs hs x.lawful y.lawful x.same y.same x.streams y.streams (drop (length (stream fs)) (judged_bytes r.verdict bytes)) (drop (length (stream gs)) (judged_bytes r.verdict other)) (drop (length (stream hs)) (judged_bytes r.verdict redacted))
            x.closes y.closes x.opens y.opens x.is_rest y.is_rest;
      }

  pub one_redaction_alike : (bytes other redacted : List ℕ) → IsBytes bytes → IsBytes other → IsRedaction role limits bytes redacted → IsRedaction role limits other redacted → AreAlikeStreams role limits bytes other
  one_redaction_alike bytes other redacted in_bytes other_bytes r s =
      alike_by bytes other redacted r s (verdict_stays role limits bytes redacted r.frames r.verdict in_bytes r.is_verdict r) (verdict_stays role limits other redacted s.frames s.verdict other_bytes s.is_verdict s)

  -- A stream and its redaction are alike.
  pub redaction_is_alike : (bytes redacted : List ℕ) → IsBytes bytes → IsRedaction role limits bytes redacted → AreAlikeStreams role limits bytes redacted
  redaction_is_alike bytes redacted in_bytes r =
      let s = redaction_twice role limits bytes redacted in_bytes r in
      let mine = verdict_stays role limits bytes redacted r.frames r.verdict in_bytes r.is_verdict r in
      let lawful = (all_of_verdict role limits bytes r.frames r.verdict r.is_verdict).lawful in
      let same : s.frames ≡ redacted_frames [] r.frames = (one_verdict role limits redacted s.frames (redacted_frames [] r.frames) s.verdict r.verdict s.is_verdict mine).0 in
      let again : redacted_frames [] s.frames ≡ s.frames = ap (λ (hs : List Frame). redacted_frames [] hs) same ∙ frames_twice role limits [] [] r.frames lawful none_same ∙ sym same in
      alike_by bytes redacted redacted r s mine (subst (λ (hs : List Frame). IsVerdict role limits redacted hs s.verdict) (sym again) s.is_verdict)
