-- The heads of a stream are one list, and a longer stream's heads continue it.
use Rattle.std.proofs.Common.{◌≡◌, ℕ, ◌+◌, ◌<◌, ◌≤◌, List, [], ◌∷◌, ◌++◌, ◌⊎◌, length, refl, sym, ap, ◌∙◌, subst, inl, inr, append-nil, append_assoc, length-append, arith}
use Rattle.std.specs.List.{AllByRecursion}
use Rattle.std.proofs.lemmas.Bool.{cases_lt}
use Rattle.wsn_wire.specs.declared.endpoint.Role.{Role}
use Rattle.wsn_wire.specs.declared.refusal.Reason.{Reason}
use Rattle.wsn_wire.specs.Frame.{Frame, first_byte, second_byte, len_form_of, length_bytes, key_bytes, head_bytes, wire_payload, frame_bytes, stream}
use Rattle.wsn_rules.specs.declared.head_info.HeadInfo.{HeadInfo}
use Rattle.wsn_rules.specs.Limits.{Limits}
use Rattle.wsn_rules.specs.AfterClose.{HasNoClose, EndsWithClose}
use Rattle.wsn_rules.specs.Heads.{info_of, heads_from, heads_of, BeginsWithHead, IsBegun, AreHeads}
use Rattle.wsn_rules.specs.Lawful.{IsLawful}
use Rattle.wsn_rules.specs.ShownStream.{shown_head}
use Rattle.wsn_rules.specs.Verdict.{IsRefused, IsEvidentAt}
use Rattle.wsn_rules.proofs.Prefixes.{append_cancel, two_fronts}
use Rattle.wsn_rules.proofs.LawfulLists.{no_close_nil, lawful_nil, law_at_split, no_close_before}
use Rattle.wsn_rules.proofs.Walk.{stream-append}
use Rattle.wsn_rules.proofs.OneVerdict.{lawful_frame_shows_nothing}
use Rattle.wsn_rules.proofs.OneHead.{one_begun}

-- ---- the bytes of a head

-- The number of bytes with which a head is whole.
abbrev pub end_of : HeadInfo → ℕ
end_of info = (shown_head info).after

two_more : (a b : ℕ) (xs : List ℕ) → length (a ∷ b ∷ xs) ≡ 2 + length xs
two_more a b xs = omega arith

head_some : (info : HeadInfo) → info.offset < end_of info
head_some info =
    let field = len_form_of info.form info.len in
    let size = two_more (first_byte info.fin info.op) (second_byte info.key field) (length_bytes field info.len ++ key_bytes info.key) in
    omega (arith, size)

-- a whole head has two bytes at least
pub begins_two : (role : Role) (limits : Limits) (fs : List Frame) (rest : List ℕ) (info : HeadInfo) → BeginsWithHead role limits fs rest info → 2 ≤ length rest
begins_two role limits fs rest info b =
    let size : length b.head ≡ 2 + length (length_bytes (len_form_of info.form info.len) info.len ++ key_bytes info.key) = ap (λ (bs : List ℕ). length bs) b.encoded ∙ two_more (first_byte info.fin info.op) (second_byte info.key (len_form_of info.form info.len)) (length_bytes (len_form_of info.form info.len) info.len ++ key_bytes info.key) in
    let all : length rest ≡ length b.head + length b.following = ap (λ (bs : List ℕ). length bs) b.whole ∙ length-append b.head b.following in
    omega (arith, size, all)

-- a head with more bytes after it
unfoldable pub begins_longer : (role : Role) (limits : Limits) (fs : List Frame) (rest later : List ℕ) (info : HeadInfo) → BeginsWithHead role limits fs rest info → BeginsWithHead role limits fs (rest ++ later) info
begins_longer role limits fs rest later info b = record {
  head = b.head;
  following = b.following ++ later;
  whole = ap (λ (bs : List ℕ). bs ++ later) b.whole ∙ append_assoc b.head b.following later;
  offset = b.offset;
  encoded = b.encoded;
  key = b.key;
  form = b.form;
  size = b.size;
  has_no_evidence = b.has_no_evidence;
}

-- ---- the heads of frames

heads_from-append : (offset : ℕ) (fs gs : List Frame) (next : ℕ) → offset + length (stream fs) ≡ next → heads_from offset (fs ++ gs) ≡ heads_from offset fs ++ heads_from next gs
heads_from-append offset [] gs next is = let same : offset ≡ next = omega (arith, is) in ap (λ (n : ℕ). heads_from n gs) same
heads_from-append offset (f ∷ fs) gs next is =
    let size : length (stream (f ∷ fs)) ≡ length (frame_bytes f) + length (stream fs) = length-append (frame_bytes f) (stream fs) in
    ap (λ (heads : List HeadInfo). info_of offset f ∷ heads) (heads_from-append (offset + length (frame_bytes f)) fs gs next (omega (arith, is, size)))

-- They are whole with the frames' bytes.
heads_within : (offset : ℕ) (fs : List Frame) (n : ℕ) → offset + length (stream fs) ≤ n → AllByRecursion (λ (info : HeadInfo). end_of info ≤ n) (heads_from offset fs)
heads_within offset [] n within = tt
heads_within offset (f ∷ fs) n within =
    let size : length (stream (f ∷ fs)) ≡ length (frame_bytes f) + length (stream fs) = length-append (frame_bytes f) (stream fs) in
    let head = head_bytes f.fin f.op f.key f.form (length f.payload) in
    let own : length (frame_bytes f) ≡ length head + length (wire_payload f.key f.payload) = length-append head (wire_payload f.key f.payload) in
    (omega (arith, within, size, own), heads_within (offset + length (frame_bytes f)) fs n (omega (arith, within, size)))

-- They are whole with more bytes than the frames before them have.
heads_past : (offset : ℕ) (fs : List Frame) (n : ℕ) → n ≤ offset → AllByRecursion (λ (info : HeadInfo). n < end_of info) (heads_from offset fs)
heads_past offset [] n past = tt
heads_past offset (f ∷ fs) n past =
    let some = head_some (info_of offset f) in
    (omega (arith, some, past), heads_past (offset + length (frame_bytes f)) fs n (omega (arith, past)))

all_heads-append : (P : HeadInfo → Type 0) (heads others : List HeadInfo) → AllByRecursion P heads → AllByRecursion P others → AllByRecursion P (heads ++ others)
all_heads-append P [] others p q = q
all_heads-append P (info ∷ heads) others p q = (p.0, all_heads-append P heads others p.1 q)

module _ (role : Role) (limits : Limits) where
  -- A lawful frame's bytes begin with its head.
  frame_begins : (fs : List Frame) (f : Frame) (gs : List Frame) (following : List ℕ) → IsLawful role limits (fs ++ f ∷ gs) → BeginsWithHead role limits fs (frame_bytes f ++ following) (info_of (length (stream fs)) f)
  frame_begins fs f gs following lawful =
      let encodable = (law_at_split role limits fs f gs lawful).frame.encoded.encodable in
      let head = head_bytes f.fin f.op f.key f.form (length f.payload) in
      let wire = wire_payload f.key f.payload in
      record {
        head = head;
        following = wire ++ following;
        whole = append_assoc head wire following;
        offset = refl;
        encoded = refl;
        key = encodable.key;
        form = encodable.form;
        size = encodable.size;
        has_no_evidence = record {
          none = λ seen later reason whole evidence.
              lawful_frame_shows_nothing role limits fs f gs lawful seen (later ++ (wire ++ following)) following reason
              (sym (append_assoc seen later (wire ++ following)) ∙ ap (λ (bs : List ℕ). bs ++ (wire ++ following)) (sym whole) ∙ sym (append_assoc head wire following)) evidence;
        };
      }

  end_is : (fs : List Frame) (rest : List ℕ) (info : HeadInfo) (b : BeginsWithHead role limits fs rest info) → end_of info ≡ length (stream fs) + length b.head
  end_is fs rest info b =
      let offset = b.offset in
      let size : length b.head ≡ length (head_bytes info.fin info.op info.key info.form info.len) = ap (λ (bs : List ℕ). length bs) b.encoded in
      omega (arith, offset, size)

  -- Without bytes there is no head.
  pub no_heads : AreHeads role limits [] [] []
  no_heads = record {
    rest = [];
    begun = [];
    lawful = lawful_nil role limits;
    whole = refl;
    is_begun = inr (inl (refl, no_close_nil, λ info b. let two = begins_two role limits [] [] info b in absurd (omega (arith, two))));
    all = refl;
  }

  -- ---- one list of heads

  not_closed : (fs : List Frame) → EndsWithClose fs → HasNoClose fs → ⊥
  not_closed fs (before, close, is_close, last) none = none before [] close last is_close

  same_begun : (fs : List Frame) (rest : List ℕ) (begun other : List HeadInfo) → IsBegun role limits fs rest begun → IsBegun role limits fs rest other → begun ≡ other
  same_begun fs rest begun other (inl closed) (inl also) = closed.0 ∙ sym also.0
  same_begun fs rest begun other (inl closed) (inr (inl none)) = closed.0 ∙ sym none.0
  same_begun fs rest begun other (inl closed) (inr (inr some)) = absurd (not_closed fs closed.1 some.0)
  same_begun fs rest begun other (inr (inl none)) (inl closed) = none.0 ∙ sym closed.0
  same_begun fs rest begun other (inr (inl none)) (inr (inl also)) = none.0 ∙ sym also.0
  same_begun fs rest begun other (inr (inl none)) (inr (inr some)) = absurd (none.2 some.1.0 some.1.2)
  same_begun fs rest begun other (inr (inr some)) (inl closed) = absurd (not_closed fs closed.1 some.0)
  same_begun fs rest begun other (inr (inr some)) (inr (inl none)) = absurd (none.2 some.1.0 some.1.2)
  same_begun fs rest begun other (inr (inr some)) (inr (inr also)) = some.1.1 ∙ ap (λ (h : HeadInfo). h ∷ []) (one_begun role limits fs rest some.1.0 also.1.0 some.1.2 also.1.2) ∙ sym also.1.1

  pub one_heads : (bytes : List ℕ) (fs : List Frame) (heads others : List HeadInfo) → AreHeads role limits bytes fs heads → AreHeads role limits bytes fs others → heads ≡ others
  one_heads bytes fs heads others are also =
      let same : are.rest ≡ also.rest = append_cancel (stream fs) are.rest also.rest (sym are.whole ∙ also.whole) in
      let begun : are.begun ≡ also.begun = same_begun fs also.rest are.begun also.begun (subst (λ (bs : List ℕ). IsBegun role limits fs bs are.begun) same are.is_begun) also.is_begun in
      are.all ∙ ap (λ (hs : List HeadInfo). heads_of fs ++ hs) begun ∙ sym also.all

  -- ---- more bytes after a refusal have no more heads

  begun_stays : (fs : List Frame) (offset : ℕ) (rest later : List ℕ) (bytes : List ℕ) → bytes ≡ stream fs ++ rest → (refused : (reason : Reason) × IsEvidentAt role limits bytes fs offset reason) → (begun : List HeadInfo)
      → IsBegun role limits fs rest begun → IsBegun role limits fs (rest ++ later) begun
  begun_stays fs offset rest later bytes whole refused begun (inl closed) = inl closed
  begun_stays fs offset rest later bytes whole refused begun (inr (inr some)) =
      inr (inr (some.0, (some.1.0, some.1.1, begins_longer role limits fs rest later some.1.0 some.1.2)))
  begun_stays fs offset rest later bytes whole refused begun (inr (inl none)) = inr (inl (none.0, none.1, no_head))
    where
      is_evident : IsEvidentAt role limits bytes fs offset refused.0
      is_evident = refused.1

      rest_is : rest ≡ is_evident.seen ++ is_evident.later
      rest_is = append_cancel (stream fs) rest (is_evident.seen ++ is_evident.later) (sym whole ∙ is_evident.whole)

      no_head : (info : HeadInfo) → BeginsWithHead role limits fs (rest ++ later) info → ⊥
      no_head info b =
          elim (two_fronts rest b.head later b.following b.whole) [
            | inl p ↦ b.has_no_evidence.none is_evident.seen (is_evident.later ++ p.0) refused.0
                (p.1 ∙ ap (λ (bs : List ℕ). bs ++ p.0) rest_is ∙ append_assoc is_evident.seen is_evident.later p.0) is_evident.evidence
            | inr p ↦ none.2 info (record { head = b.head; following = p.0; whole = p.1; offset = b.offset; encoded = b.encoded; key = b.key; form = b.form; size = b.size; has_no_evidence = b.has_no_evidence })
          ]

  pub heads_stay : (bytes later : List ℕ) (fs : List Frame) (offset : ℕ) (reason : Reason) (heads : List HeadInfo) → IsRefused role limits bytes fs offset reason → AreHeads role limits bytes fs heads
      → AreHeads role limits (bytes ++ later) fs heads
  heads_stay bytes later fs offset reason heads refused are = record {
    rest = are.rest ++ later;
    begun = are.begun;
    lawful = are.lawful;
    whole = ap (λ (bs : List ℕ). bs ++ later) are.whole ∙ append_assoc (stream fs) are.rest later;
    is_begun = begun_stays fs offset are.rest later bytes are.whole (reason, refused.is_evident) are.begun are.is_begun;
    all = are.all;
  }

  -- ---- more bytes have more heads, which are whole with the new bytes

  -- The heads are whole with the bytes.
  pub heads_in_bytes : (bytes : List ℕ) (fs : List Frame) (heads : List HeadInfo) → AreHeads role limits bytes fs heads → AllByRecursion (λ (info : HeadInfo). end_of info ≤ length bytes) heads
  heads_in_bytes bytes fs heads are =
      subst (λ (hs : List HeadInfo). AllByRecursion (λ (info : HeadInfo). end_of info ≤ length bytes) hs) (sym are.all)
      (all_heads-append (λ (info : HeadInfo). end_of info ≤ length bytes) (heads_of fs) are.begun (heads_within 0 fs (length bytes) (omega (arith, size))) (of are.begun are.is_begun))
    where
      size : length bytes ≡ length (stream fs) + length are.rest
      size = ap (λ (bs : List ℕ). length bs) are.whole ∙ length-append (stream fs) are.rest

      of_head : (info : HeadInfo) → BeginsWithHead role limits fs are.rest info → end_of info ≤ length bytes
      of_head info b =
          let all : length are.rest ≡ length b.head + length b.following = ap (λ (bs : List ℕ). length bs) b.whole ∙ length-append b.head b.following in
          let is = end_is fs are.rest info b in
          omega (arith, all, is, size)

      of : (begun : List HeadInfo) → IsBegun role limits fs are.rest begun → AllByRecursion (λ (info : HeadInfo). end_of info ≤ length bytes) begun
      of begun (inl closed) = subst (λ (hs : List HeadInfo). AllByRecursion (λ (info : HeadInfo). end_of info ≤ length bytes) hs) (sym closed.0) tt
      of begun (inr (inl none)) = subst (λ (hs : List HeadInfo). AllByRecursion (λ (info : HeadInfo). end_of info ≤ length bytes) hs) (sym none.0) tt
      of begun (inr (inr some)) = subst (λ (hs : List HeadInfo). AllByRecursion (λ (info : HeadInfo). end_of info ≤ length bytes) hs) (sym some.1.1) (of_head some.1.0 some.1.2, tt)

  -- A head that the bytes don't have is whole with more bytes.
  not_within : (fs : List Frame) (rest more : List ℕ) → ((info : HeadInfo) → BeginsWithHead role limits fs rest info → ⊥) → (info : HeadInfo) → BeginsWithHead role limits fs (rest ++ more) info
      → length (stream fs) + length rest < end_of info
  not_within fs rest more none info b =
      elim (cases_lt (length rest) (length b.head)) [
        | inl longer ↦ let is = end_is fs (rest ++ more) info b in omega (arith, is, longer)
        | inr within ↦ absurd (by (two_fronts rest b.head more b.following b.whole) within)
      ]
    where
      in_rest : (following : List ℕ) → rest ≡ b.head ++ following → ⊥
      in_rest following whole = none info (record { head = b.head; following = following; whole = whole; offset = b.offset; encoded = b.encoded; key = b.key; form = b.form; size = b.size; has_no_evidence = b.has_no_evidence })

      of_longer : (left : List ℕ) → b.head ≡ rest ++ left → length b.head ≤ length rest → ⊥
      of_longer [] is within = in_rest [] (sym (append-nil rest) ∙ sym is ∙ sym (append-nil b.head))
      of_longer (x ∷ xs) is within =
          let size : length b.head ≡ length rest + length (x ∷ xs) = ap (λ (bs : List ℕ). length bs) is ∙ length-append rest (x ∷ xs) in
          omega (arith, size, within)

      by : ((left : List ℕ) × (b.head ≡ rest ++ left) × (more ≡ left ++ b.following)) ⊎ ((left : List ℕ) × (rest ≡ b.head ++ left) × (b.following ≡ left ++ more)) → length b.head ≤ length rest → ⊥
      by (inl p) within = of_longer p.0 p.1 within
      by (inr p) within = in_rest p.0 p.1

  -- What is reported of a frame that begins after n bytes is whole with more than n bytes.
  begun_past : (fs : List Frame) (rest : List ℕ) (begun : List HeadInfo) (n : ℕ) → n ≤ length (stream fs) → IsBegun role limits fs rest begun → AllByRecursion (λ (info : HeadInfo). n < end_of info) begun
  begun_past fs rest begun n past (inl closed) = subst (λ (hs : List HeadInfo). AllByRecursion (λ (info : HeadInfo). n < end_of info) hs) (sym closed.0) tt
  begun_past fs rest begun n past (inr (inl none)) = subst (λ (hs : List HeadInfo). AllByRecursion (λ (info : HeadInfo). n < end_of info) hs) (sym none.0) tt
  begun_past fs rest begun n past (inr (inr some)) =
      let after = head_some some.1.0 in
      let offset = some.1.2.offset in
      subst (λ (hs : List HeadInfo). AllByRecursion (λ (info : HeadInfo). n < end_of info) hs) (sym some.1.1) (omega (arith, after, offset, past), tt)

  -- The heads of longer bytes: those of the bytes, and extra ones that are whole with more than these bytes.
  pub record MoreHeads (bytes : List ℕ) (heads longer : List HeadInfo) : Type 0 where
    pub extra : List HeadInfo
    pub all : longer ≡ heads ++ extra
    pub past : AllByRecursion (λ (info : HeadInfo). length bytes < end_of info) extra

  module _ (bytes more : List ℕ) (fs : List Frame) (heads : List HeadInfo) (a : AreHeads role limits bytes fs heads) where
    size_of : length bytes ≡ length (stream fs) + length a.rest
    size_of = ap (λ (bs : List ℕ). length bs) a.whole ∙ length-append (stream fs) a.rest

    -- The heads after those of the frames.
    record MoreBegun (begun longer : List HeadInfo) : Type 0 where
      extra : List HeadInfo
      all : longer ≡ begun ++ extra
      past : AllByRecursion (λ (info : HeadInfo). length bytes < end_of info) extra

    nothing_new : (begun longer : List HeadInfo) → longer ≡ begun → MoreBegun begun longer
    nothing_new begun longer same = record { extra = []; all = same ∙ sym (append-nil begun); past = tt }

    -- No more frames are whole.
    begun_goes_on : (begun longer : List HeadInfo) → IsBegun role limits fs a.rest begun → IsBegun role limits fs (a.rest ++ more) longer → MoreBegun begun longer
    begun_goes_on begun longer (inl closed) (inl also) = nothing_new begun longer (also.0 ∙ sym closed.0)
    begun_goes_on begun longer (inl closed) (inr (inl none)) = nothing_new begun longer (none.0 ∙ sym closed.0)
    begun_goes_on begun longer (inl closed) (inr (inr some)) = absurd (not_closed fs closed.1 some.0)
    begun_goes_on begun longer (inr (inl none)) (inl closed) = nothing_new begun longer (closed.0 ∙ sym none.0)
    begun_goes_on begun longer (inr (inl none)) (inr (inl also)) = nothing_new begun longer (also.0 ∙ sym none.0)
    begun_goes_on begun longer (inr (inl none)) (inr (inr some)) =
        let past = not_within fs a.rest more none.2 some.1.0 some.1.2 in
        record { extra = some.1.0 ∷ []; all = some.1.1 ∙ ap (λ (hs : List HeadInfo). hs ++ some.1.0 ∷ []) (sym none.0); past = (omega (arith, past, size_of), tt) }
    begun_goes_on begun longer (inr (inr some)) (inl closed) = absurd (not_closed fs closed.1 some.0)
    begun_goes_on begun longer (inr (inr some)) (inr (inl none)) = absurd (none.2 some.1.0 (begins_longer role limits fs a.rest more some.1.0 some.1.2))
    begun_goes_on begun longer (inr (inr some)) (inr (inr also)) =
        let same = one_begun role limits fs (a.rest ++ more) also.1.0 some.1.0 also.1.2 (begins_longer role limits fs a.rest more some.1.0 some.1.2) in
        nothing_new begun longer (also.1.1 ∙ ap (λ (h : HeadInfo). h ∷ []) same ∙ sym some.1.1)

    -- The frame f is whole, whose head is the next one.
    frame_goes_on : (begun : List HeadInfo) (f : Frame) (gs : List Frame) (following : List ℕ) (others : List HeadInfo) → IsLawful role limits (fs ++ f ∷ gs) → a.rest ++ more ≡ frame_bytes f ++ following
        → AllByRecursion (λ (info : HeadInfo). length bytes < end_of info) others → IsBegun role limits fs a.rest begun → MoreBegun begun (info_of (length (stream fs)) f ∷ others)
    frame_goes_on begun f gs following others lawful whole past (inl closed) = absurd (not_closed fs closed.1 (no_close_before role limits fs f gs lawful))
    frame_goes_on begun f gs following others lawful whole past (inr (inl none)) =
        let info = info_of (length (stream fs)) f in
        let begins = subst (λ (bs : List ℕ). BeginsWithHead role limits fs bs info) (sym whole) (frame_begins fs f gs following lawful) in
        let after = not_within fs a.rest more none.2 info begins in
        record { extra = info ∷ others; all = ap (λ (hs : List HeadInfo). hs ++ info ∷ others) (sym none.0); past = (omega (arith, after, size_of), past) }
    frame_goes_on begun f gs following others lawful whole past (inr (inr some)) =
        let info = info_of (length (stream fs)) f in
        let begins = subst (λ (bs : List ℕ). BeginsWithHead role limits fs bs info) (sym whole) (frame_begins fs f gs following lawful) in
        let same = one_begun role limits fs (a.rest ++ more) info some.1.0 begins (begins_longer role limits fs a.rest more some.1.0 some.1.2) in
        record { extra = others; all = ap (λ (h : HeadInfo). h ∷ others) same ∙ ap (λ (hs : List HeadInfo). hs ++ others) (sym some.1.1); past = past }

    with_more : (begun longer : List HeadInfo) → heads ≡ heads_of fs ++ begun → MoreBegun begun longer → MoreHeads bytes heads (heads_of fs ++ longer)
    with_more begun longer is m = record {
      extra = m.extra;
      all = ap (λ (hs : List HeadInfo). heads_of fs ++ hs) m.all ∙ sym (append_assoc (heads_of fs) begun m.extra) ∙ ap (λ (hs : List HeadInfo). hs ++ m.extra) (sym is);
      past = m.past;
    }

    -- The frames gs are whole with more bytes.
    pub heads_go_on : (gs : List Frame) (longer : List HeadInfo) → AreHeads role limits (bytes ++ more) (fs ++ gs) longer → ((f : Frame) (others : List Frame) → gs ≡ f ∷ others → length bytes < length (stream (fs ++ f ∷ [])))
        → MoreHeads bytes heads longer
    heads_go_on [] longer b next =
        let none = append-nil fs in
        let rest : b.rest ≡ a.rest ++ more =
        append_cancel (stream (fs ++ [])) b.rest (a.rest ++ more)
        (sym b.whole ∙ ap (λ (bs : List ℕ). bs ++ more) a.whole ∙ append_assoc (stream fs) a.rest more ∙ ap (λ (hs : List Frame). stream hs ++ (a.rest ++ more)) (sym none)) in
        let begun : IsBegun role limits fs (a.rest ++ more) b.begun =
        subst (λ (hs : List Frame). IsBegun role limits hs (a.rest ++ more) b.begun) none (subst (λ (bs : List ℕ). IsBegun role limits (fs ++ []) bs b.begun) rest b.is_begun) in
        subst (MoreHeads bytes heads) (ap (λ (hs : List Frame). heads_of hs ++ b.begun) (sym none) ∙ sym b.all) (with_more a.begun b.begun a.all (begun_goes_on a.begun b.begun a.is_begun begun))
    heads_go_on (f ∷ gs) longer b next =
        let after = length (stream fs) + length (frame_bytes f) in
        let others = heads_from after gs ++ b.begun in
        let joined : stream (fs ++ f ∷ gs) ≡ stream fs ++ (frame_bytes f ++ stream gs) = stream-append fs (f ∷ gs) in
        let whole : a.rest ++ more ≡ frame_bytes f ++ (stream gs ++ b.rest) =
        append_cancel (stream fs) (a.rest ++ more) (frame_bytes f ++ (stream gs ++ b.rest))
        (sym (append_assoc (stream fs) a.rest more) ∙ ap (λ (bs : List ℕ). bs ++ more) (sym a.whole) ∙ b.whole ∙ ap (λ (bs : List ℕ). bs ++ b.rest) joined
        ∙ append_assoc (stream fs) (frame_bytes f ++ stream gs) b.rest ∙ ap (λ (bs : List ℕ). stream fs ++ bs) (append_assoc (frame_bytes f) (stream gs) b.rest)) in
        let ends = next f gs refl in
        let one : length (stream (fs ++ f ∷ [])) ≡ after =
        ap (λ (bs : List ℕ). length bs) (stream-append fs (f ∷ [])) ∙ length-append (stream fs) (frame_bytes f ++ []) ∙ ap (λ (bs : List ℕ). length (stream fs) + length bs) (append-nil (frame_bytes f)) in
        let count : length (stream (fs ++ f ∷ gs)) ≡ after + length (stream gs) =
        ap (λ (bs : List ℕ). length bs) joined ∙ length-append (stream fs) (frame_bytes f ++ stream gs) ∙ ap (λ (n : ℕ). length (stream fs) + n) (length-append (frame_bytes f) (stream gs)) ∙ sum (length (stream fs)) (length (frame_bytes f)) (length (stream gs)) in
        let past = all_heads-append (λ (info : HeadInfo). length bytes < end_of info) (heads_from after gs) b.begun (heads_past after gs (length bytes) (omega (arith, ends, one))) (begun_past (fs ++ f ∷ gs) b.rest b.begun (length bytes) (omega (arith, ends, one, count)) b.is_begun) in
        let here : 0 + length (stream fs) ≡ length (stream fs) = omega arith in
        let all : heads_of fs ++ (info_of (length (stream fs)) f ∷ others) ≡ longer =
        sym (append_assoc (heads_of fs) (heads_from (length (stream fs)) (f ∷ gs)) b.begun) ∙ ap (λ (hs : List HeadInfo). hs ++ b.begun) (sym (heads_from-append 0 fs (f ∷ gs) (length (stream fs)) here)) ∙ sym b.all in
        subst (MoreHeads bytes heads) all (with_more a.begun (info_of (length (stream fs)) f ∷ others) a.all (frame_goes_on a.begun f gs (stream gs ++ b.rest) others b.lawful whole past a.is_begun))
      where
        sum : (x y z : ℕ) → x + (y + z) ≡ (x + y) + z
        sum x y z = omega arith
