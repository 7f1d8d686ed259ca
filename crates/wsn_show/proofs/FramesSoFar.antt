-- What was shown of frames so far, in each detail.
use Rattle.std.proofs.Common.{◌≡◌, ℕ, true, false, List, [], ◌∷◌, ◌++◌, length, map, refl, sym, ap, ◌∙◌, append-nil}
use Rattle.std.proofs.lemmas.Bool.{cond-true, cond-false}
use Rattle.std.proofs.lemmas.List.{map-append}
use Rattle.wsn_wire.specs.declared.endpoint.Role.{Role}
use Rattle.wsn_wire.specs.Frame.{Frame, stream}
use Rattle.wsn_rules.specs.declared.detail.Detail.{Detail}
use Rattle.wsn_rules.specs.declared.detail.Detail.TheVariants.{Events, Frames}
use Rattle.wsn_rules.specs.declared.head_info.HeadInfo.{HeadInfo}
use Rattle.wsn_rules.specs.Limits.{Limits}
use Rattle.wsn_rules.specs.Heads.{info_of, heads_of, IsBegun}
use Rattle.wsn_rules.specs.Lawful.{IsLawful}
use Rattle.wsn_rules.specs.ShownStream.{Item, Shown, shown_after, items_of_final, shown_at, shown_of, shown_head, AreShownFrames}
use Rattle.wsn_rules.proofs.ShownStreams.{shown_of-append}
use Rattle.wsn_scan.specs.Positions.{Position, BetweenFrames, InFrame, begun_at}
use Rattle.wsn_scan.proofs.HeadsReported.{heads_push}
use Rattle.wsn_show.specs.ShownItems.{items_of_begun, items_of_ended}
use Rattle.wsn_show.specs.ShownSoFar.{items_in, shown_so_far}

pub items_in-append : (xs ys : List Shown) → items_in (xs ++ ys) ≡ items_in xs ++ items_in ys
items_in-append [] ys = refl
items_in-append (x ∷ xs) ys = ap (λ (is : List Item). x.item ∷ is) (items_in-append xs ys)

pub items_after : (n : ℕ) (items : List Item) → items_in (shown_after n items) ≡ items
items_after n [] = refl
items_after n (item ∷ items) = ap (λ (is : List Item). item ∷ is) (items_after n items)

-- What a complete head adds.
abbrev pub shown_begun : Detail → HeadInfo → List Shown
shown_begun Events info = []
shown_begun Frames info = shown_head info ∷ []

-- What a frame's end adds.
abbrev pub shown_ended : Detail → List Frame → Frame → List Shown
shown_ended Events fs f = shown_at fs f
shown_ended Frames fs f = []

pub begun_items : (detail : Detail) (info : HeadInfo) → items_in (shown_begun detail info) ≡ items_of_begun detail info
begun_items Events info = refl
begun_items Frames info = refl

pub ended_items : (detail : Detail) (fs : List Frame) (f : Frame) → f.fin ≡ true → items_in (shown_ended detail fs f) ≡ items_of_ended detail fs f
ended_items Events fs f final =
    let n = length (stream (fs ++ f ∷ [])) in
    ap items_in (cond-true f.fin (shown_after n (items_of_final fs f)) [] final) ∙ items_after n (items_of_final fs f)
ended_items Frames fs f final = refl

pub unended_items : (detail : Detail) (fs : List Frame) (f : Frame) → f.fin ≡ false → items_in (shown_ended detail fs f) ≡ []
unended_items Events fs f more = ap items_in (cond-false f.fin (shown_after (length (stream (fs ++ f ∷ []))) (items_of_final fs f)) [] more)
unended_items Frames fs f more = refl

-- ---- what was shown so far

pub nothing_so_far : (detail : Detail) → [] ≡ shown_so_far detail [] BetweenFrames
nothing_so_far Events = refl
nothing_so_far Frames = refl

pub same_so_far : (detail : Detail) (fs : List Frame) (at to : Position) → begun_at at ≡ begun_at to → shown_so_far detail fs at ≡ shown_so_far detail fs to
same_so_far Events fs at to same = refl
same_so_far Frames fs at to same = ap (λ (heads : List HeadInfo). map shown_head (heads_of fs ++ heads)) same

pub begun_so_far : (detail : Detail) (fs : List Frame) (info : HeadInfo) → shown_so_far detail fs BetweenFrames ++ shown_begun detail info ≡ shown_so_far detail fs (InFrame info [])
begun_so_far Events fs info = append-nil (shown_of [] fs)
begun_so_far Frames fs info =
    ap (λ (heads : List HeadInfo). map shown_head heads ++ shown_head info ∷ []) (append-nil (heads_of fs)) ∙ sym (map-append shown_head (heads_of fs) (info ∷ []))

pub ended_so_far : (detail : Detail) (fs : List Frame) (f : Frame)
    → shown_so_far detail fs (InFrame (info_of (length (stream fs)) f) f.payload) ++ shown_ended detail fs f ≡ shown_so_far detail (fs ++ f ∷ []) BetweenFrames
ended_so_far Events fs f = sym (shown_of-append [] fs (f ∷ []) ∙ ap (λ (ss : List Shown). shown_of [] fs ++ ss) (append-nil (shown_at fs f)))
ended_so_far Frames fs f =
    append-nil (map shown_head (heads_of fs ++ info_of (length (stream fs)) f ∷ [])) ∙ ap (map shown_head) (sym (heads_push fs f) ∙ sym (append-nil (heads_of (fs ++ f ∷ []))))

-- It is what is shown of the frames.
pub are_so_far : (detail : Detail) (role : Role) (limits : Limits) (bytes rest : List ℕ) (fs : List Frame) (at : Position) (shown : List Shown) → IsLawful role limits fs → bytes ≡ stream fs ++ rest
    → IsBegun role limits fs rest (begun_at at) → shown ≡ shown_so_far detail fs at → AreShownFrames detail role limits bytes fs shown
are_so_far Events role limits bytes rest fs at shown lawful whole begun is = is
are_so_far Frames role limits bytes rest fs at shown lawful whole begun is =
    (heads_of fs ++ begun_at at, record { rest = rest; begun = begun_at at; lawful = lawful; whole = whole; is_begun = begun; all = refl }, is)
