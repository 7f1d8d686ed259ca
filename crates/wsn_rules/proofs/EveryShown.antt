-- Every stream has a list of items, and what is left over of it.
use Rattle.std.proofs.Common.{◌≡◌, ◌≢◌, ℕ, ◌+◌, ◌<◌, ◌≤◌, Option, None, List, [], ◌∷◌, ◌++◌, ◌⊎◌, length, take, drop, map, refl, sym, ap, ◌∙◌, subst, inl, inr, append_assoc, length-append, take-append-drop, arith}
use Rattle.std.proofs.lemmas.List.{take_at}
use Rattle.wsn_wire.specs.declared.endpoint.Role.{Role}
use Rattle.wsn_wire.specs.declared.refusal.Reason.{Reason}
use Rattle.wsn_wire.specs.Frame.{Frame, IsBytes, head_bytes, stream, wire_payload}
use Rattle.wsn_wire.specs.ReceivedHead.{HasLayout, len_form_at, length_count, encoded_length, key_count}
use Rattle.wsn_wire.specs.EvidenceInHeads.{HeadHasNoEvidence}
use Rattle.wsn_wire.proofs.FrameLemmas.{IsBytes-append, IsBytes-left, IsBytes-right, fronts_agree, frame_at}
use Rattle.wsn_wire.proofs.HeadLemmas.{frame_of_layout}
use Rattle.wsn_rules.specs.declared.detail.Detail.{Detail}
use Rattle.wsn_rules.specs.declared.detail.Detail.TheVariants.{Events, Frames}
use Rattle.wsn_rules.specs.declared.head_info.HeadInfo.{HeadInfo}
use Rattle.wsn_rules.specs.declared.verdict.Verdict.{Verdict}
use Rattle.wsn_rules.specs.declared.verdict.Verdict.TheVariants.{Accepted, Cut, Refused}
use Rattle.wsn_rules.specs.Limits.{Limits, InRange}
use Rattle.wsn_rules.specs.AfterClose.{HasNoClose, EndsWithClose}
use Rattle.wsn_rules.specs.Evidence.{Evidence}
use Rattle.wsn_rules.specs.Evidence.Evidence.{ByFirst, BySecond, ByLength}
use Rattle.wsn_rules.specs.Group.{unfinished}
use Rattle.wsn_rules.specs.Heads.{BeginsWithHead, IsBegun, info_of, heads_of}
use Rattle.wsn_rules.specs.Verdict.{IsVerdict}
use Rattle.wsn_rules.specs.BadCharacter.{BadCharacter, character_of}
use Rattle.wsn_rules.specs.ShownOffsets.{IsEncodableHead}
use Rattle.wsn_rules.specs.ShownStream.{Item, Shown, shown_after, shown_of, shown_head, AreShownFrames, interrupted, IsShownEvidence, IsShownVerdict, IsShownStream, items_of_bytes, items_of_part, items_of_head, IsLeftOf, IsLeftOver}
use Rattle.wsn_rules.specs.ShownStream.Item.{RefusedFrame, Unread, Tail}
use Rattle.wsn_rules.proofs.LawfulLists.{close_is_last}
use Rattle.wsn_rules.proofs.LayoutPrefixes.{zeros, length-zeros, zeros_bytes, Missing, front_or_missing}
use Rattle.wsn_rules.proofs.LeastEvident.{LeastFront, least_front}
use Rattle.wsn_rules.proofs.EveryInput.{has_verdict}
use Rattle.wsn_rules.proofs.OneVerdict.{all_of_verdict}
use Rattle.wsn_rules.proofs.OneHead.{one_following}
use Rattle.wsn_rules.proofs.HeadEvidence.{first_row, encoding_row}
use Rattle.wsn_rules.proofs.HeadsGoOn.{begins_two}
use Rattle.wsn_rules.proofs.BegunHeads.{same_parts, head_came, encodable_begun, begun_is}
use Rattle.wsn_rules.proofs.PlanTheory.MessageFrames.{bytes_drop, bytes_take}

-- ---- whether bytes begin with a head

module _ (role : Role) (limits : Limits) (fs : List Frame) where
  abbrev IsHeadDecided : List ℕ → Type 0
  IsHeadDecided rest = ((info : HeadInfo) × BeginsWithHead role limits fs rest info) ⊎ ((info : HeadInfo) → BeginsWithHead role limits fs rest info → ⊥)

  too_short : (first second : ℕ) (came : List ℕ) → length came < length_count (len_form_at second) + key_count second → IsHeadDecided (first ∷ second ∷ came)
  too_short first second came short = inr none
    where
      none : (info : HeadInfo) → BeginsWithHead role limits fs (first ∷ second ∷ came) info → ⊥
      none info b =
          let long = head_came info b.following first second came (encodable_begun role limits fs (first ∷ second ∷ came) info b) (sym (begun_is role limits fs (first ∷ second ∷ came) info b)) in
          omega (arith, long, short)

  missing_some : (n : ℕ) (bytes : List ℕ) → Missing n bytes → length bytes < n
  missing_some n bytes m =
      let some = some_of m.missing m.some in
      let count = m.count in
      let both = length-append bytes m.missing in
      omega (arith, some, count, both)
    where
      some_of : (xs : List ℕ) → xs ≢ [] → 1 ≤ length xs
      some_of [] not_none = absurd (not_none refl)
      some_of (x ∷ xs) not_none = omega arith

  -- The length and the key have come.
  module _ (first second : ℕ) (len key following : List ℕ) (in_bytes : IsBytes (first ∷ second ∷ (len ++ (key ++ following)))) (len_count : length len ≡ length_count (len_form_at second)) (key_counted : length key ≡ key_count second) where
    abbrev head : List ℕ
    head = first ∷ second ∷ (len ++ key)

    abbrev payload : List ℕ
    payload = zeros (encoded_length (len_form_at second) len)

    abbrev whole : List ℕ
    whole = first ∷ second ∷ (len ++ (key ++ following))

    -- The same head, and a payload of zeros.
    unfoldable layout : HasLayout (first ∷ second ∷ (len ++ (key ++ zeros (encoded_length (len_form_at second) len))))
    layout = record {
      first = first;
      second = second;
      len = len;
      key = key;
      payload = zeros (encoded_length (len_form_at second) len);
      whole = refl;
      in_bytes = (in_bytes.0, (in_bytes.1.0, IsBytes-append len (key ++ payload) (IsBytes-left len (key ++ following) in_bytes.1.1) (IsBytes-append key payload (IsBytes-left key following (IsBytes-right len (key ++ following) in_bytes.1.1)) (zeros_bytes (encoded_length (len_form_at second) len)))));
      len_count = len_count;
      key_counted = key_counted;
      payload_count = length-zeros (encoded_length (len_form_at second) len);
    }

    -- Each head at the front is this one.
    same_head : (info : HeadInfo) (b : BeginsWithHead role limits fs (first ∷ second ∷ (len ++ (key ++ following))) info) → b.head ≡ first ∷ second ∷ (len ++ key)
    same_head info b =
        let is = begun_is role limits fs whole info b in
        let parts = same_parts info b.following first second len key following (encodable_begun role limits fs whole info b) (sym is) len_count key_counted in
        let joined : whole ≡ head ++ following = ap (λ (bs : List ℕ). first ∷ second ∷ bs) (sym (append_assoc len key following)) in
        let both : b.head ++ b.following ≡ head ++ following = sym b.whole ∙ joined in
        let sizes : length b.head + length b.following ≡ length head + length following = sym (length-append b.head b.following) ∙ ap (λ (bs : List ℕ). length bs) both ∙ length-append head following in
        let tails : length b.following ≡ length following = ap (λ (bs : List ℕ). length bs) parts.following_is in
        (fronts_agree b.head head b.following following (omega (arith, sizes, tails)) both).0

    no_head : LeastFront role limits (unfinished fs) (first ∷ second ∷ (len ++ key)) → (info : HeadInfo) → BeginsWithHead role limits fs (first ∷ second ∷ (len ++ (key ++ following))) info → ⊥
    no_head some info b = b.has_no_evidence.none (take some.count head) (drop some.count head) some.reason (same_head info b ∙ sym (take-append-drop some.count head)) some.evidence

    module _ (none : (m : ℕ) (s : Reason) → m ≤ length (first ∷ second ∷ (len ++ key)) → Evidence role limits (unfinished fs) s (take m (first ∷ second ∷ (len ++ key))) → ⊥) where
      no_prefix : (seen later : List ℕ) (reason : Reason) → first ∷ second ∷ (len ++ key) ≡ seen ++ later → Evidence role limits (unfinished fs) reason seen → ⊥
      no_prefix seen later reason is evidence =
          let size : length head ≡ length seen + length later = ap (λ (bs : List ℕ). length bs) is ∙ length-append seen later in
          let front : take (length seen) head ≡ seen = ap (λ (bs : List ℕ). take (length seen) bs) is ∙ take_at seen later (length seen) refl in
          none (length seen) reason (omega (arith, size)) (subst (λ (bs : List ℕ). Evidence role limits (unfinished fs) reason bs) (sym front) evidence)

      shows : HeadHasNoEvidence role limits.lengths first second len
      shows = record {
        by_first = λ reason row. no_prefix (first ∷ []) (second ∷ (len ++ key)) reason refl (ByFirst first refl (first_row limits (unfinished fs) reason first row));
        by_second = λ reason row. no_prefix (first ∷ second ∷ []) (len ++ key) reason refl (BySecond first second refl row);
        by_length = λ reason row. no_prefix (first ∷ second ∷ len) key reason refl (ByLength first second len refl len_count (encoding_row limits (unfinished fs) reason first second len row));
      }

      pub whole_head : (info : HeadInfo) × BeginsWithHead role limits fs (first ∷ second ∷ (len ++ (key ++ following))) info
      unfolding layout
      whole_head =
          let f = frame_at first second key payload in
          let encoded = frame_of_layout role limits.lengths (first ∷ second ∷ (len ++ (key ++ payload))) layout shows in
          let info = info_of (length (stream fs)) f in
          let wire = wire_payload f.key f.payload in
          let of : IsEncodableHead info = record { key = encoded.owed.encodable.key; form = encoded.owed.encodable.form; size = encoded.owed.encodable.size } in
          let front = head_bytes f.fin f.op f.key f.form (length f.payload) in
          let parts = same_parts info wire first second len key payload of encoded.bytes_are len_count key_counted in
          let both : front ++ wire ≡ head ++ payload = encoded.bytes_are ∙ ap (λ (bs : List ℕ). first ∷ second ∷ bs) (sym (append_assoc len key payload)) in
          let sizes : length front + length wire ≡ length head + length payload = sym (length-append front wire) ∙ ap (λ (bs : List ℕ). length bs) both ∙ length-append head payload in
          let tails : length wire ≡ length payload = ap (λ (bs : List ℕ). length bs) parts.following_is in
          let same : front ≡ head = (fronts_agree front head wire payload (omega (arith, sizes, tails)) both).0 in (
            info,
            record {
              head = head;
              following = following;
              whole = ap (λ (bs : List ℕ). first ∷ second ∷ bs) (sym (append_assoc len key following));
              offset = refl;
              encoded = sym same;
              key = of.key;
              form = of.form;
              size = of.size;
              has_no_evidence = record { none = no_prefix };
            },
          )

    decide_whole : IsHeadDecided (first ∷ second ∷ (len ++ (key ++ following)))
    decide_whole =
        elim (least_front role limits (unfinished fs) head) [
          | inl some ↦ inr (no_head some)
          | inr none ↦ inl (whole_head none)
        ]

  decide_head : (rest : List ℕ) → IsBytes rest → IsHeadDecided rest
  decide_head [] all = inr (λ info b. let two = begins_two role limits fs [] info b in omega (arith, two))
  decide_head (first ∷ []) all = inr (λ info b. let two = begins_two role limits fs (first ∷ []) info b in omega (arith, two))
  decide_head (first ∷ second ∷ came) all =
      elim (front_or_missing (length_count (len_form_at second)) came) [
        | inr m ↦ let less = missing_some (length_count (len_form_at second)) came m in too_short first second came (omega (arith, less))
        | inl p ↦ elim (front_or_missing (key_count second) p.following) [
          | inr m ↦
              let less = missing_some (key_count second) p.following m in
              let size : length came ≡ length p.front + length p.following = ap (λ (bs : List ℕ). length bs) p.whole ∙ length-append p.front p.following in
              let count = p.count in
              too_short first second came (omega (arith, less, size, count))
          | inl q ↦
              let whole : first ∷ second ∷ (p.front ++ (q.front ++ q.following)) ≡ first ∷ second ∷ came = ap (λ (bs : List ℕ). first ∷ second ∷ (p.front ++ bs)) (sym q.whole) ∙ ap (λ (bs : List ℕ). first ∷ second ∷ bs) (sym p.whole) in
              subst IsHeadDecided whole (decide_whole first second p.front q.front q.following (subst IsBytes (sym whole) all) p.count q.count)
        ]
      ]

-- ---- what is left over

module _ (role : Role) (limits : Limits) (range : InRange limits) where
  some_left_of : (bytes : List ℕ) (fs : List Frame) (v : Verdict) → IsBytes bytes → (items : List Item) × IsLeftOf role limits bytes fs v items
  some_left_of bytes fs (Accepted summary) all = (items_of_bytes Tail (length (stream fs)) (drop (length (stream fs)) bytes), refl)
  some_left_of bytes fs (Cut summary) all =
      let rest = drop (length (stream fs)) bytes in
      elim (decide_head role limits fs rest (bytes_drop (length (stream fs)) bytes all)) [
        | inl p ↦ (items_of_part fs p.0 (wire_payload p.0.key p.1.following), inl (p.0, p.1, refl))
        | inr none ↦ (items_of_head fs rest, inr (none, refl))
      ]
  some_left_of bytes fs (Refused refusal) all = (items_of_bytes Unread (refusal.offset + 1) (drop (refusal.offset + 1) bytes), refl)

  pub some_left : (bytes : List ℕ) → IsBytes bytes → (items : List Item) × IsLeftOver role limits bytes items
  some_left bytes all =
      let found = has_verdict role limits range bytes all in
      let left = some_left_of bytes found.frames found.verdict all in
      (left.0, record { frames = found.frames; verdict = found.verdict; is_verdict = found.is; is = left.1 })

  -- ---- what is shown

  some_begun : (fs : List Frame) (rest : List ℕ) → IsBytes rest → HasNoClose fs ⊎ EndsWithClose fs → (begun : List HeadInfo) × IsBegun role limits fs rest begun
  some_begun fs rest all (inr close) = ([], inl (refl, close))
  some_begun fs rest all (inl none) =
      elim (decide_head role limits fs rest all) [
        | inl p ↦ (p.0 ∷ [], inr (inr (none, (p.0, refl, p.1))))
        | inr no_head ↦ ([], inr (inl (refl, none, no_head)))
      ]

  some_of_frames : (detail : Detail) (bytes : List ℕ) (fs : List Frame) (v : Verdict) → IsBytes bytes → IsVerdict role limits bytes fs v → (shown : List Shown) × AreShownFrames detail role limits bytes fs shown
  some_of_frames Events bytes fs v all is = (shown_of [] fs, refl)
  some_of_frames Frames bytes fs v all is =
      let parts = all_of_verdict role limits bytes fs v is in
      let begun = some_begun fs parts.rest (IsBytes-right (stream fs) parts.rest (subst IsBytes parts.whole all)) (close_is_last role limits fs parts.lawful) in (
        map shown_head (heads_of fs ++ begun.0),
        (heads_of fs ++ begun.0, record { rest = parts.rest; begun = begun.0; lawful = parts.lawful; whole = parts.whole; is_begun = begun.1; all = refl }, refl),
      )

  some_evidence : (fs : List Frame) (reason : Reason) (seen : List ℕ) → IsBytes seen → (evidence : List ℕ) × (character : Option BadCharacter) × IsShownEvidence role limits fs reason seen evidence character
  some_evidence fs reason seen all =
      elim (decide_head role limits fs seen all) [
        | inr none ↦ (seen, None, inr ((λ info b. absurd (none info b)), refl, refl))
        | inl p ↦ by p.0 p.1 p.1.following refl
      ]
    where
      by : (info : HeadInfo) (b : BeginsWithHead role limits fs seen info) (following : List ℕ) → b.following ≡ following → (evidence : List ℕ) × (character : Option BadCharacter) × IsShownEvidence role limits fs reason seen evidence character
      by info b [] is = (seen, None, inr ((λ other c. one_following role limits fs seen other info c b ∙ is), refl, refl))
      by info b (x ∷ following) is =
          let part = wire_payload info.key b.following in
          (part, character_of reason fs info part, inl (info, b, (λ none. let both : x ∷ following ≡ [] = sym is ∙ none in cc), refl, refl))

  some_of_verdict : (detail : Detail) (bytes : List ℕ) (fs : List Frame) (v : Verdict) → IsBytes bytes → (shown : List Shown) × IsShownVerdict detail role limits bytes fs v shown
  some_of_verdict detail bytes fs (Accepted summary) all = ([], refl)
  some_of_verdict detail bytes fs (Cut summary) all = ([], refl)
  some_of_verdict detail bytes fs (Refused refusal) all =
      let seen = drop (length (stream fs)) (take (refusal.offset + 1) bytes) in
      let evidence = some_evidence fs refusal.reason seen (bytes_drop (length (stream fs)) (take (refusal.offset + 1) bytes) (bytes_take (refusal.offset + 1) bytes all)) in (
        shown_after (refusal.offset + 1) (interrupted detail fs ++ RefusedFrame (length (stream fs)) refusal evidence.0 evidence.1 ∷ []),
        record { evidence = evidence.0; character = evidence.1; is_evidence = evidence.2; is = refl },
      )

  pub some_shown : (detail : Detail) (bytes : List ℕ) → IsBytes bytes → (shown : List Shown) × IsShownStream detail role limits bytes shown
  some_shown detail bytes all =
      let found = has_verdict role limits range bytes all in
      let of_frames = some_of_frames detail bytes found.frames found.verdict all found.is in
      let of_verdict = some_of_verdict detail bytes found.frames found.verdict all in (
        of_frames.0 ++ of_verdict.0,
        record {
          frames = found.frames;
          verdict = found.verdict;
          is_verdict = found.is;
          of_frames = of_frames.0;
          are_of_frames = of_frames.1;
          of_verdict = of_verdict.0;
          is_of_verdict = of_verdict.1;
          all = refl;
        },
      )
